use Rattle.std.proofs.Common.{length, ap, ◌∙◌}
use Rattle.ds_words.specs.Words.{buffer_of}
use Rattle.ds_words.proofs.Laws.{nested_read}
use Rattle.ds_words.proofs.words.Words.buffered.Goals as goal

pub returns : goal.returns
unfolding buffer_of
returns c =
    c.len.ensures.value
    ∙ ap length (nested_read (λ b. b.items) c.self.inside.buffers.items c.args.process c.index.result.now c.args.self.now.buffers (ap (λ v. v.buffers) c.self.view_is) c.requires c.index.ensures)
