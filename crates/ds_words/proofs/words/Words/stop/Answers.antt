use Rattle.std.proofs.Common.{[], ap, sym, refl, subst}
use Rattle.ds_words.specs.Memory.{StopsAt}
use Rattle.ds_words.specs.Words.{WordsValue, memory_of}
use Rattle.ds_words.proofs.Laws.{nested_write, stops-with}
use Rattle.ds_words.proofs.words.Words.stop.Goals as goal

pub returns-clause-stops : goal.returns-clause-stops
returns-clause-stops c =
    let v : WordsValue = c.args.self.now in
    let e = nested_write (λ b. b.items) v _ c.self.inside.buffers.items c.args.process c.clear.new.self []
    (ap (λ x. x.classes) c.self.view_is) (ap (λ x. x.words) c.self.view_is) refl (ap (λ x. x.buffers) c.self.view_is) c.clear.ensures in
    subst (λ (x : WordsValue). StopsAt c.args.process (memory_of v) (memory_of x)) (sym e) (stops-with v c.args.process c.requires)
