-- What a holder holds.
use Rattle.c_handles.specs.Handles.{Handles, Holds, IsEmpty, IsFull, Sight}
use Rattle.ds_c.specs.declared.failure.Failure.{Failure}
use Rattle.ds_c.specs.declared.failure.Failure.TheVariants.{Empty, Full, WrongHolder}
use Rattle.ds_c.specs.declared.held.Held.{Held}
use Rattle.ds_c.specs.declared.holder.Holder.{Holder}
use Rattle.ds_c.specs.declared.holder.TheConstants.{FULL}
use Rattle.ds_c.specs.Failures.{failure_number}

-- how a holder says what it holds
abbrev pub sight : Sight Holder Held
sight = record { full = FULL; word = λ h. h.held; value = λ h. h.state.value }

-- the holder holds this
abbrev pub HasHeld : Holder → Held → Type 0
HasHeld h v = Holds sight h v

-- the holder holds nothing
abbrev pub HasNone : Holder → Type 0
HasNone h = IsEmpty sight h

-- the holder holds something
abbrev pub HasSome : Holder → Type 0
HasSome h = IsFull sight h

-- holders, with the numbers of failures
abbrev pub holders : Handles Holder Held Failure
holders = record { sight = sight; number_of = failure_number; empty = Empty; full = Full; wrong = WrongHolder }
