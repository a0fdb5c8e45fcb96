-- What a handle holds.
use Rattle.c_handles.specs.Handles as handles
use Rattle.c_handles.specs.Handles.{Handles, Sight}
use Rattle.ds_state.specs.Value.{WorldValue}
use Rattle.ds_c.specs.declared.failure.Failure.{Failure}
use Rattle.ds_c.specs.declared.failure.Failure.TheVariants.{Empty, Full, WrongHolder}
use Rattle.ds_c.specs.declared.handle.Handle.{Handle}
use Rattle.ds_c.specs.declared.handle.TheConstants.{HELD}
use Rattle.ds_c.specs.Failures.{failure_number}

-- how a handle says what it holds
abbrev pub sight : Sight Handle WorldValue
sight = record { full = HELD; word = λ h. h.held; value = λ h. h.state.value }

-- the handle holds this world
abbrev pub Holds : Handle → WorldValue → Type 0
Holds h v = handles.Holds sight h v

-- the handle holds no world
abbrev pub IsEmpty : Handle → Type 0
IsEmpty h = handles.IsEmpty sight h

-- the handle holds a world
abbrev pub IsFull : Handle → Type 0
IsFull h = handles.IsFull sight h

-- handles, with the numbers of failures
abbrev pub worlds : Handles Handle WorldValue Failure
worlds = record { sight = sight; number_of = failure_number; empty = Empty; full = Full; wrong = WrongHolder }
