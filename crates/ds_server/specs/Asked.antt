-- What the code reads of a line, as what the definitions speak of.
use Rattle.std.specs.Prelude.{ℕ, List, Option, option_map, Result, Ok, Err}
use Rattle.serde_json.specs.View.{view}
use Rattle.serde_json.specs.declared.value.Value.{Value}
use Rattle.ds_server.specs.declared.request.Request.{Request}
use Rattle.ds_server.specs.declared.request.Request.TheVariants as request
use Rattle.ds_server.specs.declared.request.LineFault.{LineFault}
use Rattle.ds_server.specs.declared.request.LineFault.TheVariants.{NotJson, NoMemory}
use Rattle.ds_server.specs.SessionLimits.{HISTORY_MOST}
use Rattle.ds_server.specs.DeskCalls.{Call, Join, JoinAny, Set, SetOnce, Undo, Report, View, Get, Listing, Resolve, Last}
use Rattle.ds_server.specs.LineRequests.{IsJson, IsNoJson}

-- the call of a request
abbrev pub request_view : Request → Call
request_view (request.Join process) = Join process
request_view request.JoinAny = JoinAny
request_view (request.Set process cell text) = Set process cell text.now
request_view (request.SetOnce process cell text key) = SetOnce process cell text.now key.now
request_view (request.Undo process cell) = Undo process cell
request_view (request.View joined) = View joined
request_view (request.Get joined cell) = Get joined cell
request_view (request.History from) = Listing from HISTORY_MOST
request_view (request.Resolve key) = Resolve key.now
request_view (request.Report process) = Report process
request_view (request.Last process) = Last process

-- the call of a request, if there is one
abbrev pub option_view : Option Request → Option Call
option_view found = option_map request_view found

-- the call of a request, or the fault
abbrev pub result_view : Result Request LineFault → Result Call LineFault
result_view (Ok found) = Ok (request_view found)
result_view (Err fault) = Err fault

-- what reading a line as JSON gives: its value; a fault where it is none; or the one of a failed allocation
abbrev pub ReadsJson : List ℕ → Result Value LineFault → Type 0
ReadsJson line (Ok value) = IsJson line (view value)
ReadsJson line (Err NotJson) = IsNoJson line
ReadsJson line (Err NoMemory) = Unit {0}
ReadsJson line (Err fault) = ⊥
