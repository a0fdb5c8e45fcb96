-- What a call does to the world that a handle holds, and what its caller gets.
use Rattle.std.specs.Prelude.{ℕ, ◌≡◌, ◌<◌, ◌≤◌, ◌++◌, List, length, drop, Result, Ok, Err}
use Rattle.c_handles.specs.Calls as calls
pub use Rattle.c_handles.specs.Calls.{Does}
use Rattle.c_handles.specs.Handles as handles
use Rattle.ds_state.specs.Value.{WorldValue}
use Rattle.ds_c.specs.declared.handle.Handle.{Handle}
use Rattle.ds_c.specs.declared.failure.Failure.{Failure}
use Rattle.ds_c.specs.declared.failure.Failure.TheVariants.{TooSmall}
use Rattle.ds_c.specs.Failures.{failure_number}
use Rattle.ds_c.specs.Handles.{worlds}

-- the call was made on the world of the handle; or the handle is empty and stays, which is the failure that its number names
abbrev pub OnHandle : {R : Type 0} → (WorldValue → Result R Failure → WorldValue → Type 0) → (Result R Failure → ℕ → Type 0) → Handle → Handle → ℕ → Type 0
OnHandle Call Tells old new number = handles.OnHandle worlds Call Tells old new number

-- a result as a number alone
abbrev pub Numbers : {R : Type 0} → Result R Failure → ℕ → Type 0
Numbers told number = calls.Numbers failure_number told number

-- a result as a number, and as a row of the caller's
abbrev pub Tells : {R : Type 0} → R → R → Result R Failure → ℕ → Type 0
Tells before after told number = calls.Tells failure_number before after told number

-- the items stand in the caller's buffer from its start, and what comes after them stays; or it is too small for them,
-- and stays
pub data Fills {T : Type 0} (items before after : List T) (number : ℕ) : Type 0 where
  fits : length items ≤ length before → after ≡ items ++ drop (length items) before → number ≡ 0 → Fills items before after number
  small : length before < length items → after ≡ before → number ≡ failure_number TooSmall → Fills items before after number

-- a result as a number, and as items in a buffer of the caller's, with their count
abbrev pub Hands : {T : Type 0} → List T → List T → ℕ → ℕ → Result (List T) Failure → ℕ → Type 0
Hands before after count counted (Ok items) number = Fills items before after number × (counted ≡ length items)
Hands before after count counted (Err why) number = (after ≡ before) × (counted ≡ count) × (number ≡ failure_number why)
