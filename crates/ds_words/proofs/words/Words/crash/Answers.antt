use Rattle.std.proofs.Common.{ap, map, ◌∙◌}
use Rattle.ds_words.specs.Words.{WordsValue, crashed}
use Rattle.ds_words.proofs.Laws.{crashes-with}
use Rattle.ds_words.proofs.words.Words.crash.Goals as goal

pub returns-clause-crashes : goal.returns-clause-crashes
returns-clause-crashes c =
    crashes-with c.args.self.now _ c.self.inside.buffers.items
    (c.lose_cached.ensures ∙ ap (map crashed) (ap (λ (v : WordsValue). v.words) c.self.view_is))
    c.lose_buffers.ensures
