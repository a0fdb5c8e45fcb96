use Rattle.std.proofs.Common.{ℕ, ◌≡◌, ◌<◌}
use Rattle.std.specs.Prelude.{slice_index_or}
use Rattle.ds_eval.specs.declared.inputs.Input.{Input}
use Rattle.ds_work.specs.Reading.{unseen}
use Rattle.ds_explore_state.proofs.position.are_unseen.Given as goal

abbrev pub invariant-loop-number : goal.invariant-loop-number
invariant-loop-number l = (k : ℕ) (d : Input) → k < l.number → slice_index_or l.inputs k d ≡ unseen (slice_index_or l.inputs k d).cell
