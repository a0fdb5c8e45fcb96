-- A process that stays the session's.
use Rattle.std.proofs.Common.{ℕ, ◌<◌, sym, subst}
use Rattle.ds_layout.specs.declared.layout.Layout.{Layout}
use Rattle.ds_state.specs.Value.{WorldValue}
use Rattle.ds_calls.specs.Whole.{IsRun, KeepsFree}
use Rattle.ds_calls.proofs.Runs.{run_keeps_layout}
use Rattle.ds_server.specs.WorldDesks.{IsSeated}

-- a session has its process still, after a run that leaves it in no call
pub stays_seated : (p : ℕ) (old new : WorldValue) → IsRun old new → KeepsFree p old new → IsSeated old p → IsSeated new p
stays_seated p old new run keeps h = record { there = subst (λ (l : Layout). p < l.processes) (sym (run_keeps_layout old new run)) h.there; free = keeps h.free }
