-- Numbers of edits that are not linearized.
use Rattle.std.specs.Prelude.{ℕ, ◌≡◌, Contains}
use Rattle.ds_state.specs.World.{PlainEdit, PlainWorld}
use Rattle.ds_state.specs.declared.situation.Situation.{Situation}
use Rattle.ds_state.specs.declared.situation.Situation.TheVariants.{Idle, Stopped, Editing, Working, Recovering, Showing, Migrating}

-- the number of the process's edit, or of its next one; 0 where it has stopped, recovers or migrates
abbrev pub number_in : Situation → ℕ
number_in (Idle next) = next.number
number_in Stopped = 0
number_in (Editing e) = e.number
number_in (Working e) = e.next
number_in (Recovering e) = 0
number_in (Showing e) = e.next
number_in (Migrating e) = 0

-- no edit of the process with this number is linearized
abbrev pub IsOut : PlainWorld → ℕ → ℕ → Type 0
IsOut w p number = (e : PlainEdit) → Contains w.counted e → e.process ≡ p → e.number ≡ number → ⊥
