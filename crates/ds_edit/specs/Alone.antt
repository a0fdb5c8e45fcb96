-- An edit that nobody overtakes.
use Rattle.std.specs.Prelude.{ℕ, ◌≡◌}
use Rattle.ds_layout.specs.declared.place.Place.TheVariants as place
use Rattle.ds_layout.specs.Head.{head_word}
use Rattle.ds_state.specs.World.{PlainWorld}
use Rattle.ds_state.specs.declared.stage.Outcome.TheVariants as outcome
use Rattle.ds_state.specs.declared.stage.Stage.{Stage}
use Rattle.ds_state.specs.declared.stage.Stage.TheVariants.{FlushNoted, BackNoted, OrDone, FlushDone, BackDone, Swap, StoreOutcome, FlushOutcome, BackOutcome, Answer}

-- before an edit's swap the head that it noted is still its cell's, and after it the edit is linearized
abbrev pub IsAloneAt : PlainWorld → ℕ → Stage → Type 0
IsAloneAt w cell (FlushNoted head) = head_word head ≡ w.memory.cached (place.Head cell)
IsAloneAt w cell (BackNoted head) = head_word head ≡ w.memory.cached (place.Head cell)
IsAloneAt w cell (OrDone head) = head_word head ≡ w.memory.cached (place.Head cell)
IsAloneAt w cell (FlushDone head) = head_word head ≡ w.memory.cached (place.Head cell)
IsAloneAt w cell (BackDone head) = head_word head ≡ w.memory.cached (place.Head cell)
IsAloneAt w cell (Swap noted) = noted ≡ w.memory.cached (place.Head cell)
IsAloneAt w cell (StoreOutcome how) = how ≡ outcome.Done
IsAloneAt w cell (FlushOutcome how) = how ≡ outcome.Done
IsAloneAt w cell (BackOutcome how) = how ≡ outcome.Done
IsAloneAt w cell (Answer how) = how ≡ outcome.Done
IsAloneAt w cell _ = Unit {0}
