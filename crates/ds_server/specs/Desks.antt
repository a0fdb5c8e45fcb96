-- What a desk says of itself.
use Rattle.std.specs.Prelude.{ℕ, ◌≡◌, ◌<◌, List, Option, Some, None, Result, Ok, Err}
use Rattle.ds_formula.specs.declared.cells.Shape.{Shape}
use Rattle.ds_state.specs.declared.recovery.LastEdit.{LastEdit}
use Rattle.ds_server.specs.declared.desk.CallRefusal.{CallRefusal}
use Rattle.ds_server.specs.DeskCalls.{Call, Leave}
use Rattle.ds_server.specs.Replies.{Said, Joined, JoinedLost, Left}

-- what a desk says of itself: the shape of its sheet; how many processes it has; the token that a join has to have, if any; that
-- the session has this process; that a call may be answered so and leave the desk so
pub record Rules (B : Type 0) : Type 1 where
  pub shape : B → Shape
  pub processes : B → ℕ
  pub token : B → Option (List ℕ)
  pub sits : B → ℕ → Type 0
  pub does : B → Call → Said → B → Type 0

-- after a join that is not refused the session has the process
abbrev pub SitsAfter : {B : Type 0} → Rules B → ℕ → Result (Option LastEdit) CallRefusal → B → Type 0
SitsAfter rules process (Ok last) desk = rules.sits desk process
SitsAfter rules process (Err why) desk = Unit {0}

-- after a join of any process that is not refused the session has that process, one of the desk's
abbrev pub SitsAfterAny : {B : Type 0} → Rules B → Result (ℕ × Option LastEdit) CallRefusal → B → Type 0
SitsAfterAny rules (Ok found) desk = (found.0 < rules.processes desk) × rules.sits desk found.0
SitsAfterAny rules (Err why) desk = Unit {0}

-- whichever process the session has, it has it still
abbrev pub KeepsSeats : {B : Type 0} → Rules B → B → B → Type 0
KeepsSeats rules old new = (process : ℕ) → rules.sits old process → rules.sits new process

-- the session has the process that it has joined, if any
abbrev pub Seated : {B : Type 0} → Rules B → Option ℕ → B → Type 0
Seated rules None desk = Unit {0}
Seated rules (Some process) desk = rules.sits desk process

-- the process that the session has joined, if any, once this is said
abbrev pub joined_after : Option ℕ → Said → Option ℕ
joined_after joined (Joined process last) = Some process
joined_after joined (JoinedLost process last) = Some process
joined_after joined said = joined

-- the session gives back the process that it has joined, if any
abbrev pub Leaves : {B : Type 0} → Rules B → Option ℕ → B → B → Type 0
Leaves rules None old new = new ≡ old
Leaves rules (Some process) old new = rules.does old (Leave process) Left new
