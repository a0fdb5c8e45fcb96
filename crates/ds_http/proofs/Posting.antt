-- What is said to a body that is no JSON, or could not be read.
use Rattle.std.proofs.Common.{ℕ, List, Option, Err}
use Rattle.http_header.specs.FieldValue.{FieldValue}
use Rattle.ds_server.specs.declared.request.LineFault.{LineFault}
use Rattle.ds_server.specs.declared.request.LineFault.TheVariants as faults
use Rattle.ds_server.specs.Asked.{ReadsJson}
use Rattle.ds_server.specs.Desks.{Rules}
use Rattle.ds_server.specs.Replies.{Faulted}
use Rattle.ds_http.specs.Edits.{Posts, no_json, no_memory}

-- it is answered so, and the desk stays
pub no_value : {B : Type 0} (rules : Rules B) (old : B) (head : Option FieldValue) (body : List ℕ) (fault : LineFault) → ReadsJson body (Err fault) → Posts rules old head body (Faulted fault) old
no_value rules old head body faults.NotJson h = no_json h
no_value rules old head body faults.NoMemory h = no_memory
no_value rules old head body faults.UnknownOp h = absurd h
no_value rules old head body faults.BadField h = absurd h
no_value rules old head body faults.LineTooLong h = absurd h
no_value rules old head body faults.NotJoined h = absurd h
no_value rules old head body faults.AlreadyJoined h = absurd h
no_value rules old head body faults.Denied h = absurd h
