-- Sessions over a world as runs.
use Rattle.std.proofs.Common.{ℕ, List, Option, Some, None, inl, inr, refl}
use Rattle.std.specs.Prelude.{Result}
use Rattle.serde_json.specs.Data.{Data}
use Rattle.ds_state.specs.Value.{WorldValue, world_of, IsGood}
use Rattle.ds_state.specs.Fresh.{IsNew}
use Rattle.ds_state.specs.declared.answer.Answer.TheVariants.{Edit, Show, Recovery}
use Rattle.ds_core.specs.declared.event.Event.TheVariants.{BeginEdit, BeginShow, BeginRecover}
use Rattle.ds_core.specs.Headline.{HasHeadline}
use Rattle.ds_core.proofs.EachRun.{runs_have_headline}
use Rattle.ds_calls.specs.Whole.{IsRun, request}
use Rattle.ds_calls.specs.Traces.{Trace, no_trace, both, Leads, call_trace, settle_trace}
use Rattle.ds_calls.proofs.Runs.{both_lead, call_leads, settle_leads}
use Rattle.ds_server.specs.declared.session.SessionEnd.{SessionEnd}
use Rattle.ds_server.specs.declared.session.SessionEnd.TheVariants as ends
use Rattle.ds_server.specs.declared.desk.CallRefusal.{CallRefusal}
use Rattle.ds_server.specs.declared.desk.Reported.{Reported}
use Rattle.ds_server.specs.DeskCalls.{Call, Join, JoinAny, Set, View, Leave}
use Rattle.ds_server.specs.Replies.{Said, Joined, Refused, Left, report_view}
use Rattle.ds_server.specs.Desks.{Leaves}
use Rattle.ds_server.specs.WorldDesks.{TakesSnapshot, reports, is_refused, lacks, Does, joins, sets, snapshots, tells, leaves, joins_any, has_none, undoes, has_no_edit, views, views_by_any, has_no_view, gets, sets_no_key, has_no_keys, lists, world_rules}
use Rattle.ds_server.specs.Session.{Obeys, refuses, calls, Answers, no_json, no_memory, reads, Turns, short, long, Session, begins, turns, Broken, Ran, Outcome}
use Rattle.ds_server.specs.SessionTraces.{snapshot_trace, does_trace, obeys_trace, answers_trace, turns_trace, session_trace, broken_trace, ran_trace, leaves_trace, outcome_trace}

-- what a settle and a report do to a world is a run of their trace
pub snapshot_leads : (p : ℕ) (old new : WorldValue) (end : Result Reported CallRefusal) (h : TakesSnapshot p old end new) → Leads old (snapshot_trace p old new end h) new
snapshot_leads p old new end (reports left mid n answer e settles whole is) =
    both_lead (settle_trace p old _ mid settles) (call_trace Show p (BeginShow p) mid answer new whole) old mid new (settle_leads p old _ mid settles) (call_leads Show p (BeginShow p) mid answer new whole)
snapshot_leads p old new end (is_refused why n settles) = settle_leads p old _ new settles
snapshot_leads p old new end (lacks n settles) = settle_leads p old _ new settles

-- what a call of a session does to a world is a run of its trace
pub does_leads : (old new : WorldValue) (call : Call) (said : Said) (h : Does old call said new) → Leads old (does_trace old new call said h) new
does_leads old new call said (joins p answer told n whole is) = call_leads Recovery p (BeginRecover p) old answer new whole
does_leads old new call said (sets p cell text answer end n whole is) = call_leads Edit p (BeginEdit (request p cell text)) old answer new whole
does_leads old new call said (snapshots p end n takes) = snapshot_leads p old new end takes
does_leads old new call said (tells p answer told n whole is) = call_leads Recovery p (BeginRecover p) old answer new whole
does_leads old new call said (leaves p free) = refl
does_leads old new call said (joins_any p s n is does) = does_leads old new (Join p) said does
does_leads old new call said (has_none none) = refl
does_leads old new call said (undoes p cell text s n is does) = does_leads old new (Set p cell text) said does
does_leads old new call said (has_no_edit p cell none) = refl
does_leads old new call said (views p end n takes) = snapshot_leads p old new end takes
does_leads old new call said (views_by_any p last end mid n taken takes) =
    both_lead (does_trace old mid JoinAny (Joined p last) taken) (snapshot_trace p mid new end takes) old mid new (does_leads old mid JoinAny (Joined p last) taken) (snapshot_leads p mid new end takes)
does_leads old new call said (has_no_view why n does) = does_leads old new JoinAny (Refused why) does
does_leads old new call said (gets joined cell seen found n does is) = does_leads old new (View joined) (report_view seen) does
does_leads old new call said (sets_no_key p cell text key) = refl
does_leads old new call said (has_no_keys key) = refl
does_leads old new call said (lists from most found is) = refl

-- what a settle and a report do to a world is a run
pub snapshot_runs : (p : ℕ) (old new : WorldValue) (end : Result Reported CallRefusal) → TakesSnapshot p old end new → IsRun old new
snapshot_runs p old new end h = record { events = (snapshot_trace p old new end h).events; replies = (snapshot_trace p old new end h).replies; run = snapshot_leads p old new end h }

-- what a call of a session does to a world is a run
pub does_runs : (old new : WorldValue) (call : Call) (said : Said) → Does old call said new → IsRun old new
does_runs old new call said h = record { events = (does_trace old new call said h).events; replies = (does_trace old new call said h).replies; run = does_leads old new call said h }

obeys_leads : (old new : WorldValue) (joined : Option ℕ) (value : Data) (said : Said) (h : Obeys world_rules old joined value said new) → Leads old (obeys_trace old new joined value said h) new
obeys_leads old new joined value said (refuses fault is) = refl
obeys_leads old new joined value said (calls call s n is does) = does_leads old new call s does

answers_leads : (old new : WorldValue) (joined : Option ℕ) (line : List ℕ) (said : Said) (h : Answers world_rules old joined line said new) → Leads old (answers_trace old new joined line said h) new
answers_leads old new joined line said (no_json is) = refl
answers_leads old new joined line said no_memory = refl
answers_leads old new joined line said (reads value s n is obeys) = obeys_leads old new joined value said obeys

turns_leads : (most : ℕ) (old new : WorldValue) (joined : Option ℕ) (bytes : List ℕ) (said : Said) (h : Turns world_rules most old joined bytes said new) → Leads old (turns_trace most old new joined bytes said h) new
turns_leads most old new joined bytes said (short line s n is few answers) = answers_leads old new joined line said answers
turns_leads most old new joined bytes said (long line is many) = refl

session_leads : (most : ℕ) (first last : WorldValue) (bytes out : List ℕ) (joined : Option ℕ) (h : Session world_rules most first bytes last joined out) → Leads first (session_trace most first last bytes out joined h) last
session_leads most first last bytes out joined begins = refl
session_leads most first last bytes out joined (turns b more o old n j said session turn) =
    both_lead (session_trace most first old b o j session) (turns_trace most old last j more said turn) first old last (session_leads most first old b o j session) (turns_leads most old last j more said turn)

broken_leads : (most : ℕ) (first last : WorldValue) (bytes out : List ℕ) (joined : Option ℕ) (h : Broken world_rules most first bytes out last joined) → Leads first (broken_trace most first last bytes out joined h) last
broken_leads most first last bytes out joined h =
    both_lead (session_trace most first h.desk h.lines out h.before h.session) (turns_trace most h.desk last h.before h.more h.said h.turn) first h.desk last
    (session_leads most first h.desk h.lines out h.before h.session) (turns_leads most h.desk last h.before h.more h.said h.turn)

ran_leads : (most limit : ℕ) (first last : WorldValue) (bytes out : List ℕ) (joined : Option ℕ) (end : SessionEnd) (h : Ran world_rules most limit first bytes out last joined end) → Leads first (ran_trace most limit first last bytes out joined end h) last
ran_leads most limit first last bytes out joined ends.Ended h = session_leads most first last h.1.lines out joined h.1.session
ran_leads most limit first last bytes out joined ends.ReadFailed h = session_leads most first last h.1.lines out joined h.1.session
ran_leads most limit first last bytes out joined ends.TooLong h = session_leads most first last h.1.lines out joined h.1.session
ran_leads most limit first last bytes out joined ends.NoMemory (inl h) = session_leads most first last h.lines out joined h.session
ran_leads most limit first last bytes out joined ends.NoMemory (inr h) = broken_leads most first last bytes out joined h
ran_leads most limit first last bytes out joined ends.WriteFailed h = broken_leads most first last bytes out joined h

leaves_leads : (joined : Option ℕ) (old new : WorldValue) (h : Leaves world_rules joined old new) → Leads old (leaves_trace joined old new h) new
leaves_leads None old new h = h
leaves_leads (Some p) old new h = does_leads old new (Leave p) Left h

-- what a session does to a world is the run of its trace
pub outcome_leads : (most limit : ℕ) (first last : WorldValue) (bytes out : List ℕ) (end : SessionEnd) (h : Outcome world_rules most limit first bytes out last end) → Leads first (outcome_trace most limit first last bytes out end h) last
outcome_leads most limit first last bytes out end h =
    both_lead (ran_trace most limit first h.desk bytes out h.joined end h.ran) (leaves_trace h.joined h.desk last h.leaves) first h.desk last
    (ran_leads most limit first h.desk bytes out h.joined end h.ran) (leaves_leads h.joined h.desk last h.leaves)

-- a run from a new world, with the trace of a session after it, is a run, and has the headline
pub outcome_headline : (most limit : ℕ) (start first last : WorldValue) (before : Trace) (bytes out : List ℕ) (end : SessionEnd) → IsNew (world_of start) → IsGood start → Leads start before first → (h : Outcome world_rules most limit first bytes out last end)
    → (run : Leads start (both before (outcome_trace most limit first last bytes out end h)) last) × HasHeadline start (both before (outcome_trace most limit first last bytes out end h)).events (both before (outcome_trace most limit first last bytes out end h)).replies last run
outcome_headline most limit start first last before bytes out end new good leads h =
    let t = both before (outcome_trace most limit first last bytes out end h) in
    let run = both_lead before (outcome_trace most limit first last bytes out end h) start first last leads (outcome_leads most limit first last bytes out end h) in
    (run, runs_have_headline start t.events t.replies last new good run)
