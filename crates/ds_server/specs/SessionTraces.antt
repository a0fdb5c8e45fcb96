-- The events of a session on a world, in order, each with its reply: those of the calls that its lines ask for, and of the
-- call by which it gives its process back.
use Rattle.std.specs.Prelude.{ℕ, List, Option, Some, None, Result}
use Rattle.std.proofs.Common.{inl, inr}
use Rattle.serde_json.specs.Data.{Data}
use Rattle.ds_state.specs.Value.{WorldValue}
use Rattle.ds_state.specs.declared.answer.Answer.TheVariants.{Edit, Show, Recovery}
use Rattle.ds_core.specs.declared.event.Event.TheVariants.{BeginEdit, BeginShow, BeginRecover}
use Rattle.ds_calls.specs.Whole.{request}
use Rattle.ds_calls.specs.Traces.{Trace, no_trace, both, call_trace, settle_trace}
use Rattle.ds_server.specs.declared.session.SessionEnd.{SessionEnd}
use Rattle.ds_server.specs.declared.session.SessionEnd.TheVariants as ends
use Rattle.ds_server.specs.declared.desk.CallRefusal.{CallRefusal}
use Rattle.ds_server.specs.declared.desk.Reported.{Reported}
use Rattle.ds_server.specs.DeskCalls.{Call, Join, JoinAny, Set, View, Leave}
use Rattle.ds_server.specs.Replies.{Said, Joined, Refused, Left, report_view}
use Rattle.ds_server.specs.Desks.{Leaves}
use Rattle.ds_server.specs.WorldDesks.{TakesSnapshot, reports, is_refused, lacks, Does, joins, sets, snapshots, tells, leaves, joins_any, has_none, undoes, has_no_edit, views, views_by_any, has_no_view, gets, sets_no_key, has_no_keys, lists, world_rules}
use Rattle.ds_server.specs.Session.{Obeys, refuses, calls, Answers, no_json, no_memory, reads, Turns, short, long, Session, begins, turns, Served, Broken, Ran, Outcome}

-- of a settle and a report
abbrev pub snapshot_trace : (p : ℕ) (old new : WorldValue) (end : Result Reported CallRefusal) → TakesSnapshot p old end new → Trace
snapshot_trace p old new end (reports left mid n answer e settles whole is) = both (settle_trace p old _ mid settles) (call_trace Show p (BeginShow p) mid answer new whole)
snapshot_trace p old new end (is_refused why n settles) = settle_trace p old _ new settles
snapshot_trace p old new end (lacks n settles) = settle_trace p old _ new settles

-- of a call
abbrev pub does_trace : (old new : WorldValue) (call : Call) (said : Said) → Does old call said new → Trace
does_trace old new call said (joins p answer told n whole is) = call_trace Recovery p (BeginRecover p) old answer new whole
does_trace old new call said (sets p cell text answer end n whole is) = call_trace Edit p (BeginEdit (request p cell text)) old answer new whole
does_trace old new call said (snapshots p end n takes) = snapshot_trace p old new end takes
does_trace old new call said (tells p answer told n whole is) = call_trace Recovery p (BeginRecover p) old answer new whole
does_trace old new call said (leaves p free) = no_trace
does_trace old new call said (joins_any p s n is does) = does_trace old new (Join p) said does
does_trace old new call said (has_none none) = no_trace
does_trace old new call said (undoes p cell text s n is does) = does_trace old new (Set p cell text) said does
does_trace old new call said (has_no_edit p cell none) = no_trace
does_trace old new call said (views p end n takes) = snapshot_trace p old new end takes
does_trace old new call said (views_by_any p last end mid n taken takes) = both (does_trace old mid JoinAny (Joined p last) taken) (snapshot_trace p mid new end takes)
does_trace old new call said (has_no_view why n does) = does_trace old new JoinAny (Refused why) does
does_trace old new call said (gets joined cell seen found n does is) = does_trace old new (View joined) (report_view seen) does
does_trace old new call said (sets_no_key p cell text key) = no_trace
does_trace old new call said (has_no_keys key) = no_trace
does_trace old new call said (lists from most found is) = no_trace

-- of the value of a line
abbrev pub obeys_trace : (old new : WorldValue) (joined : Option ℕ) (value : Data) (said : Said) → Obeys world_rules old joined value said new → Trace
obeys_trace old new joined value said (refuses fault is) = no_trace
obeys_trace old new joined value said (calls call s n is does) = does_trace old new call s does

-- of a line
abbrev pub answers_trace : (old new : WorldValue) (joined : Option ℕ) (line : List ℕ) (said : Said) → Answers world_rules old joined line said new → Trace
answers_trace old new joined line said (no_json is) = no_trace
answers_trace old new joined line said no_memory = no_trace
answers_trace old new joined line said (reads value s n is obeys) = obeys_trace old new joined value said obeys

-- of the bytes of a line
abbrev pub turns_trace : (most : ℕ) (old new : WorldValue) (joined : Option ℕ) (bytes : List ℕ) (said : Said) → Turns world_rules most old joined bytes said new → Trace
turns_trace most old new joined bytes said (short line s n is few answers) = answers_trace old new joined line said answers
turns_trace most old new joined bytes said (long line is many) = no_trace

-- of the lines that were answered
abbrev pub session_trace : (most : ℕ) (first last : WorldValue) (bytes out : List ℕ) (joined : Option ℕ) → Session world_rules most first bytes last joined out → Trace
session_trace most first last bytes out joined begins = no_trace
session_trace most first last bytes out joined (turns b more o old n j said session turn) = both (session_trace most first old b o j session) (turns_trace most old last j more said turn)

-- of the lines that were answered, and of the last one, whose answer is lost
abbrev pub broken_trace : (most : ℕ) (first last : WorldValue) (bytes out : List ℕ) (joined : Option ℕ) → Broken world_rules most first bytes out last joined → Trace
broken_trace most first last bytes out joined h = both (session_trace most first h.desk h.lines out h.before h.session) (turns_trace most h.desk last h.before h.more h.said h.turn)

-- of what a session has carried out, by how it ended
abbrev pub ran_trace : (most limit : ℕ) (first last : WorldValue) (bytes out : List ℕ) (joined : Option ℕ) (end : SessionEnd) → Ran world_rules most limit first bytes out last joined end → Trace
ran_trace most limit first last bytes out joined ends.Ended h = session_trace most first last h.1.lines out joined h.1.session
ran_trace most limit first last bytes out joined ends.ReadFailed h = session_trace most first last h.1.lines out joined h.1.session
ran_trace most limit first last bytes out joined ends.TooLong h = session_trace most first last h.1.lines out joined h.1.session
ran_trace most limit first last bytes out joined ends.NoMemory (inl h) = session_trace most first last h.lines out joined h.session
ran_trace most limit first last bytes out joined ends.NoMemory (inr h) = broken_trace most first last bytes out joined h
ran_trace most limit first last bytes out joined ends.WriteFailed h = broken_trace most first last bytes out joined h

-- of giving the process back, if one was joined
abbrev pub leaves_trace : (joined : Option ℕ) (old new : WorldValue) → Leaves world_rules joined old new → Trace
leaves_trace None old new h = no_trace
leaves_trace (Some p) old new h = does_trace old new (Leave p) Left h

-- of a session
abbrev pub outcome_trace : (most limit : ℕ) (first last : WorldValue) (bytes out : List ℕ) (end : SessionEnd) → Outcome world_rules most limit first bytes out last end → Trace
outcome_trace most limit first last bytes out end h = both (ran_trace most limit first h.desk bytes out h.joined end h.ran) (leaves_trace h.joined h.desk last h.leaves)
