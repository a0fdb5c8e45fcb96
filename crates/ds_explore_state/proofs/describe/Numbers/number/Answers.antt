use Rattle.std.proofs.Common.{◌≡◌, List, Some, sym, subst}
use Rattle.std.specs.Prelude.{slice_get}
use Rattle.ds_explore_state.specs.States.{PlainPart}
use Rattle.ds_explore_state.proofs.Parts.{keeps_push}
use Rattle.ds_explore_state.proofs.describe.Numbers.number.Goals as goal

pub returns-clause-keeps : goal.returns-clause-keeps
returns-clause-keeps c = λ k part h.
    keeps_push c.self.inside.parts.items c.push.new.self.items c.in_ok-copy.field-0 c.in_ok-push.ensures.items k part
    (subst (λ (ps : List PlainPart). slice_get ps k ≡ Some part) (sym c.self.view_is) h)
