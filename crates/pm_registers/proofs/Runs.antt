-- What is answered on any run is true.
use Rattle.std.proofs.Common.{ℕ, List, true, false, refl}
use Rattle.std.proofs.lemmas.Bool.{false≢true}
use Rattle.pm_base.specs.Structures.{World}
use Rattle.pm_base.proofs.Running.{runs}
use Rattle.pm_registers.specs.Registers.{registers}
use Rattle.pm_registers.specs.Runs.{IsTrueOf, RunsTellTheTruth}
use Rattle.pm_registers.specs.declared.calls.Doing.{Doing}
use Rattle.pm_registers.specs.declared.calls.Response.{Response}
use Rattle.pm_registers.specs.declared.calls.Response.TheVariants.{Wrote, Recalled}
use Rattle.pm_registers.proofs.Sound.{registers_hold}

pub is_true : (n : ℕ) (w : World Doing (ℕ → List ℕ)) (p : ℕ) (t : Response) → registers.is_right n w p t → IsTrueOf w p t
is_true n w p (Wrote v) h = h.1.0
is_true n w p (Recalled v true) h = ((λ yes_said. h.1.0), (λ has. refl))
is_true n w p (Recalled v false) h = ((λ said. absurd (false≢true said)), (λ has. absurd (h.1.0 has)))

pub runs_hold : (n : ℕ) → RunsTellTheTruth n
runs_hold n first last hs p t new run inside = is_true n last p t ((runs registers n (registers_hold n) first last hs new run).responses p t inside)
