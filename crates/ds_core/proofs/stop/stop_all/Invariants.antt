use Rattle.std.proofs.Common.{ℕ, ◌≡◌, ◌<◌, get_or}
use Rattle.std.specs.Prelude.{vec_len}
use Rattle.ds_state.specs.Value.{first_rest}
use Rattle.ds_state.specs.declared.situation.Situation.TheVariants.{Idle, Stopped}
use Rattle.ds_core.proofs.stop.stop_all.Given as goal

abbrev pub invariant-loop-p : goal.invariant-loop-p
invariant-loop-p l = (vec_len l.situations ≡ vec_len l.fn.situations) × ((q : ℕ) → q < l.p → get_or l.situations.items q (Idle first_rest) ≡ Stopped)
