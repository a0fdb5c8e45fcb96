-- The steps of the mark.
use Rattle.std.proofs.Common.{ℕ, List, sym, ◌∙◌, subst}
use Rattle.std.specs.Prelude.{Option, Some, None, MatchOption}
use Rattle.ds_words.specs.declared.access.Access.{Access}
use Rattle.pm_explore.specs.Explored.{Rests, AsksFor}
use Rattle.pm_mark.specs.Marks.{mark}
use Rattle.pm_mark.specs.declared.mark.Doing.{Doing}
use Rattle.pm_mark.proofs.Rising.{raising}
use Rattle.test_pm_explore.specs.Marks.{RaiseIs, NoRaise, RaiseAsks}

pub raises_are : (n p : ℕ) (now : Doing) (access : Access ℕ) (answer : ℕ) (after : Doing) (says : List ℕ) → mark.steps n p now access answer after says → RaiseIs now access answer after says
raises_are n p now access answer after says m =
    subst (λ (z : Doing). RaiseIs z access answer after says) (sym (m.at ∙ raising m.call m.call.stage m.goes)) (m.goes, m.asks, m.lands, m.tells)

pub wants_are : (n p : ℕ) (now : Doing) (o : Option (Access ℕ)) → MatchOption o (NoRaise now) (RaiseAsks now) → MatchOption o (Rests mark n p now) (AsksFor mark n p now)
wants_are n p now None none = λ access answer after says s. none access answer after says (raises_are n p now access answer after says s)
wants_are n p now (Some a) asks = λ access answer after says s. asks access answer after says (raises_are n p now access answer after says s)
