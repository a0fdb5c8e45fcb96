-- A fuse of so many steps, in a call.
use Rattle.std.proofs.Common.{ℕ, ◌≡◌, ◌<◌, ◌+◌, arith}
use Rattle.pm_base.specs.Structures.{In}
use Rattle.ds_structure_shared.specs.Boards.{SheetDeed}
use Rattle.ds_shared.specs.Answers.{IfStopped, IsAskedEachStep, noes}
use Rattle.ds_shared.specs.Known.{outcomes}
use Rattle.ds_shared.specs.declared.ended.Ended.{Ended}
use Rattle.ds_shared.specs.declared.ended.Ended.TheVariants as ends
use Rattle.ds_shared.specs.declared.pass.Pass.{Pass}
use Rattle.ds_shared_seats.specs.Calls.{Goes}
use Rattle.ds_shared_seats.specs.declared.steps.Steps.{Steps}

-- what a fuse of so many steps has said
abbrev pub said : Steps → Steps → ℕ → ℕ → Type 0
said first now yeses refusals = (first.left ≡ now.left + yeses) × (0 < refusals → now.left ≡ 0)

at_stop : {E : Type 0} (how : Ended E) (taken left fuse : ℕ) → fuse ≡ left + taken → (0 < noes how → left ≡ 0) → IfStopped how (taken ≡ fuse)
at_stop (ends.Answered a) taken left fuse is none = tt
at_stop (ends.Refused r) taken left fuse is none = tt
at_stop ends.Stopped taken left fuse is none = let empty : left ≡ 0 = none (omega arith) in omega (arith, is, empty)

-- a call whose fuse was asked before each step took no more steps than that has
pub goes_of : {E : Type 0} (fuse : ℕ) (f g : Steps) (old new : Pass) (how : Ended E) → f.left ≡ fuse → IsAskedEachStep said f g old new how → new.process ≡ old.process
    → ((t : SheetDeed) → In (outcomes old.place) t → In (outcomes new.place) t) → Goes fuse old new how
goes_of fuse f g old new how is h process kept =
    let returned = h.asked f 0 0 ((omega arith), (λ no. absurd (omega (arith, no)))) in
    let sum : fuse ≡ g.left + h.taken = omega (arith, returned.0, is) in
    record {
      taken = h.taken;
      steps = h.steps;
      few = omega (arith, sum);
      all = at_stop how h.taken g.left fuse sum (λ some. returned.1 (omega (arith, some)));
      process = process;
      kept = kept;
    }
