-- The status of an answer of the sheet (RFC 9110, section 15): 200 only where the call was made and did what it was to do.
use Rattle.std.specs.Prelude.{ℕ}
use Rattle.ds_server.specs.declared.desk.CallRefusal.{CallRefusal}
use Rattle.ds_server.specs.declared.desk.CallRefusal.TheVariants as refusal
use Rattle.ds_server.specs.declared.request.LineFault.{LineFault}
use Rattle.ds_server.specs.declared.request.LineFault.TheVariants as fault
use Rattle.ds_server.specs.declared.session.SessionEnd.{SessionEnd}
use Rattle.ds_server.specs.declared.session.SessionEnd.TheVariants as ends
use Rattle.ds_server.specs.Replies.{Said, Joined, JoinedLost, Done, Overtaken, Settled, Unsettled, Tells, GotCell, Listed, Resolved, Left, Refused, Faulted}

-- where the desk refuses the call
abbrev pub status_of_refusal : CallRefusal → ℕ
status_of_refusal refusal.ProcessTaken = 503
status_of_refusal (refusal.Text at) = 422
status_of_refusal refusal.Stopped = 503
status_of_refusal refusal.RecordsFull = 507
status_of_refusal refusal.NoMemory = 500
status_of_refusal refusal.KeyReused = 422
status_of_refusal refusal.NoEdit = 409
status_of_refusal refusal.NoHistory = 501

-- where the body asks for no call
abbrev pub status_of_fault : LineFault → ℕ
status_of_fault fault.NotJson = 400
status_of_fault fault.UnknownOp = 400
status_of_fault fault.BadField = 400
status_of_fault fault.LineTooLong = 413
status_of_fault fault.NotJoined = 400
status_of_fault fault.AlreadyJoined = 400
status_of_fault fault.NoMemory = 500
status_of_fault fault.Denied = 401

-- of an answer: an edit that was overtaken is a conflict, and a sheet that is not at rest is not there now
abbrev pub status_of : Said → ℕ
status_of (Joined process last) = 200
status_of (JoinedLost process last) = 200
status_of (Done number) = 200
status_of (Overtaken number by) = 409
status_of (Settled values) = 200
status_of (Unsettled place word) = 503
status_of (Tells last) = 200
status_of (GotCell cell value edit) = 200
status_of (Listed from edits of) = 200
status_of (Resolved edit) = 200
status_of Left = 200
status_of (Refused why) = status_of_refusal why
status_of (Faulted fault) = status_of_fault fault

-- of a session that has ended so
abbrev pub status_at : SessionEnd → ℕ
status_at ends.Ended = 200
status_at ends.TooLong = 413
status_at ends.ReadFailed = 500
status_at ends.WriteFailed = 500
status_at ends.NoMemory = 500
