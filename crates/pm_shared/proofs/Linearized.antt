-- Each write that a thread was answered is linearized in the run of its board.
use Rattle.std.proofs.Common.{ℕ, List, subst, ◌∷◌}
use Rattle.pm_base.specs.Runs.{Happened, Run}
use Rattle.pm_base.proofs.Running.{answered_at, run_until}
use Rattle.pm_board.specs.Rule.{world_on}
use Rattle.pm_board.proofs.Having.{answered_in_all}
use Rattle.pm_registers.specs.Registers.{registers}
use Rattle.pm_registers.specs.declared.calls.Response.TheVariants.{Wrote}
use Rattle.pm_registers.proofs.Linearizing.{linearize}
use Rattle.pm_registers.proofs.Sound.{registers_hold}
use Rattle.pm_shared.specs.Truths.{SharedWritesLinearize}

pub linearized : (n : ℕ) → SharedWritesLinearize n
linearized n words known h e v inside here =
    let k = answered_at registers n e.process h.happened (Wrote v) (answered_in_all registers n (registers_hold n) h.happened e (Wrote v) (h.did e inside) here) in
    let run = run_until registers n h.first (world_on registers n words h.witness) k.later (k.answer ∷ k.before) (subst (λ (l : List (Happened registers n)). Run registers n h.first l (world_on registers n words h.witness)) k.parts h.run) in
    record { later = k.later; answer = k.answer; before = k.before; parts = k.parts; steps = k.steps; tells = k.tells; effect = linearize n h.first run.0 k.answer k.before e.process v h.new run.1 k.steps k.tells }
