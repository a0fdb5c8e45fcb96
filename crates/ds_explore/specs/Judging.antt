-- What is wrong with what an order came to, by what was answered and reported.
use Rattle.std.specs.Prelude.{ℕ, zero, suc, ◌≡◌, ◌≢◌, ◌⊎◌, ◌==◌, ◌&&◌, ◌||◌, Bool, true, false, List, [], ◌∷◌, ◌++◌, Option, Some, None, Result, Ok, Err, All, drop, length, map, option_map, slice_get, slice_index_or, nat_lt, if◌then◌else◌, not, nat_eq}
use Rattle.std.specs.List.{starts_with, ends_with}
use Rattle.std.specs.Str.{bytes_eq}
use Rattle.std.specs.Global.{Vec}
use Rattle.ds_eval.specs.declared.value.Value.{Value}
use Rattle.ds_text_values.specs.TextValues.{IsEvaluated}
use Rattle.ds_layout.specs.Places.{cells_of}
use Rattle.ds_layout.specs.SheetMemory.{memory}
use Rattle.ds_state.specs.Edits.{PlainEditCall}
use Rattle.ds_state.specs.Shown.{text_at}
use Rattle.ds_state.specs.Value.{WorldValue}
use Rattle.ds_state.specs.declared.answer.Answer.{Answer}
use Rattle.ds_state.specs.declared.answer.Answer.TheVariants as answers
use Rattle.ds_state.specs.declared.answer.Answer.TheVariants.{Recovery, Show}
use Rattle.ds_state.specs.declared.answer.EditEnd.TheVariants as edit_ends
use Rattle.ds_state.specs.declared.recovery.LastEdit.{LastEdit}
use Rattle.ds_state.specs.declared.recovery.RecoveryEnd.{RecoveryEnd}
use Rattle.ds_state.specs.declared.recovery.RecoveryEnd.TheVariants.{Last, Nothing}
use Rattle.ds_state.specs.declared.refusal.Refusal.{Refusal}
use Rattle.ds_state.specs.declared.show.ShowEnd.{ShowEnd}
use Rattle.ds_state.specs.declared.show.ShowEnd.TheVariants.{Settled}
use Rattle.ds_state.specs.declared.situation.Situation.{Situation}
use Rattle.ds_state.specs.declared.situation.Situation.TheVariants.{Editing}
use Rattle.ds_core.specs.Ends.{Kind, recoveries, reports}
use Rattle.ds_core.specs.Takes.{Fits}
use Rattle.ds_core.specs.declared.event.Event.TheVariants as events
use Rattle.ds_core.specs.declared.reply.Reply.{Reply}
use Rattle.ds_core.specs.declared.reply.Reply.TheVariants as replies
use Rattle.ds_calls.specs.declared.settle.SettleEnd.{SettleEnd}
use Rattle.ds_calls.specs.declared.settle.SettleEnd.TheVariants.{Left}
use Rattle.ds_calls.specs.declared.settle.SettleStage.TheVariants.{Ends}
use Rattle.ds_calls.specs.Settling.{Settling}
use Rattle.ds_calls.specs.Whole.{IsWhole}
use Rattle.ds_script.specs.Doing.{end_text}
use Rattle.ds_script.specs.ScriptTexts.{reply_text}
use Rattle.ds_explore_state.specs.declared.position.Position.{Position}
use Rattle.ds_explore_state.specs.Orders.{seats_of}
use Rattle.ds_explore_state.specs.States.{PlainSeat}
use Rattle.ds_explore.specs.declared.ends.OutcomeEnding.{OutcomeEnding}
use Rattle.ds_explore.specs.declared.flaw.Flaw.{Flaw}
use Rattle.ds_explore.specs.declared.flaw.Flaw.TheVariants as flaw
use Rattle.ds_explore.specs.declared.judge.Asked.{Asked}
use Rattle.ds_explore.specs.declared.judge.Judge.{Judge}
use Rattle.ds_explore.specs.declared.outcomes.Finding.{Finding}

-- ---- what was reported

-- the reply to a call of this kind that came to this
abbrev pub replied : {E : Type 0} → Kind E → Result E Refusal → Reply
replied kind (Ok end) = replies.Answered (kind.answer end)
replied kind (Err why) = replies.Refused why

-- the processes recover one after the other, process 0 first; this is what they reported, and its text
pub data AreRecoveries (first : WorldValue) : List (Result RecoveryEnd Refusal) → List ℕ → WorldValue → Type 0 where
  no_recovery : AreRecoveries first [] [] first
  one_recovery_more : (resolved : List (Result RecoveryEnd Refusal)) (text : List ℕ) (old new : WorldValue) (came : Result RecoveryEnd Refusal)
      → AreRecoveries first resolved text old → IsWhole Recovery (length resolved) (events.BeginRecover (length resolved)) old came new
      → AreRecoveries first (resolved ++ came ∷ []) (text ++ reply_text new (length resolved) (replied recoveries came)) new

-- from this world on all processes recover, then process 0 settles, and reports; the text is what was reported
pub record ReportsEnding (begun : WorldValue) (ending : OutcomeEnding) (text : List ℕ) (reported : WorldValue) : Type 0 where
  pub resolved : List ℕ
  pub all : length ending.resolved.items ≡ begun.sheet.layout.processes
  pub recovered : WorldValue
  pub recovers : AreRecoveries begun ending.resolved.items resolved recovered
  pub settled : WorldValue
  pub settles : Settling 0 recovered (Ends ending.left) settled
  pub reports_whole : IsWhole Show 0 (events.BeginShow 0) settled ending.reported reported
  pub is : text ≡ resolved ++ (end_text settled 0 ending.left ++ reply_text reported 0 (replied reports ending.reported))

-- the text of what the process's call was answered, in this world; else this other one
abbrev pub answer_text : WorldValue → ℕ → Option Answer → List ℕ → List ℕ
answer_text w p (Some answer) other = reply_text w p (replies.Answered answer)
answer_text w p None other = other

-- what the processes were answered, that of process 0 first, and its texts: where a call was not answered, that of its stop
pub data AreAnswers (w : WorldValue) : List PlainSeat → List (Option Answer) → List (List ℕ) → Type 0 where
  no_answer : AreAnswers w [] [] []
  one_answer_more : (seats : List PlainSeat) (given : List (Option Answer)) (texts : List (List ℕ)) (seat : PlainSeat)
      → AreAnswers w seats given texts → AreAnswers w (seats ++ seat ∷ []) (given ++ seat.answer ∷ []) (texts ++ answer_text w (length given) seat.answer seat.text ∷ [])

-- the part stands in the text
abbrev pub IsPart : List ℕ → List ℕ → Type 0
IsPart text part = (n : ℕ) × (starts_with nat_eq (drop n text) part ≡ true)

-- what a script is answered has each of these answers, and ends so
abbrev pub Answers : List ℕ → List (List ℕ) → List ℕ → Type 0
Answers answered texts tail = All (IsPart answered) texts × (ends_with nat_eq answered tail ≡ true)

-- ---- an edit that was asked for

-- an edit that a process is asked for: its number, cell and text
pub record PlainAsked : Type 0 where
  pub number : ℕ
  pub cell : ℕ
  pub text : List ℕ

-- the same, without where it lies in memory
abbrev pub plain_asked : Asked → PlainAsked
plain_asked asked = record { number = asked.number; cell = asked.cell; text = asked.text.items }

-- the edit that a call carries out
abbrev pub asked_of : PlainEditCall → PlainAsked
asked_of call = record { number = call.number; cell = call.cell; text = call.text }

-- the edit that a process in this situation carries out, if it is in one
abbrev pub asked_in : Situation → Option PlainAsked
asked_in (Editing call) = Some (asked_of call)
asked_in _ = None

-- the edit that was asked of the process, if one was
abbrev pub edit_by : Option (Option Asked) → Option Asked
edit_by (Some (Some asked)) = Some asked
edit_by _ = None

-- the edit that the judge knows to be asked of the process, if one was
abbrev pub edit_at : Judge → ℕ → Option Asked
edit_at judge p = edit_by (slice_get judge.asked.items p)

-- what the recovery of the process came to
abbrev pub recovery_at : OutcomeEnding → ℕ → Option (Result RecoveryEnd Refusal)
recovery_at ending p = slice_get ending.resolved.items p

-- what the process's call was answered
abbrev pub answer_by : Option (Option Answer) → Option Answer
answer_by (Some answer) = answer
answer_by None = None

-- the same, of the process with this number, after an order
abbrev pub answer_at : OutcomeEnding → ℕ → Option Answer
answer_at ending p = answer_by (slice_get ending.answers.items p)

-- a recovery reports this edit as done: this number of its process, in this cell
abbrev pub is_reported_done : Asked → LastEdit → Bool
is_reported_done asked resolved = ((resolved.number == asked.number) && (resolved.cell == asked.cell)) && resolved.counts

-- the edit is done, by what the recovery of its process came to
abbrev pub is_done : Asked → Option (Result RecoveryEnd Refusal) → Bool
is_done asked (Some (Ok (Last resolved))) = is_reported_done asked resolved
is_done asked _ = false

-- ---- what is wrong with the answer to a process

-- the process has no recovery, or it is refused
abbrev pub is_refused : Option (Result RecoveryEnd Refusal) → Bool
is_refused (Some (Ok end)) = false
is_refused _ = true

-- both are true, or neither is
abbrev pub same_bool : Bool → Bool → Bool
same_bool true b = b
same_bool false b = not b

-- two recoveries reported the same
abbrev pub same_end : RecoveryEnd → RecoveryEnd → Bool
same_end Nothing Nothing = true
same_end (Last a) (Last b) = ((a.number == b.number) && (a.cell == b.cell)) && same_bool a.counts b.counts
same_end _ _ = false

-- the call was a recovery, and the next one reports otherwise
abbrev pub is_reported_twice : Option Answer → Option (Result RecoveryEnd Refusal) → Bool
is_reported_twice (Some (answers.Recovery end)) (Some (Ok again)) = not (same_end end again)
is_reported_twice (Some (answers.Recovery end)) _ = true
is_reported_twice _ _ = false

-- this is the edit that was asked of its process, and it is not done
abbrev pub is_undone : Option Asked → ℕ → Option (Result RecoveryEnd Refusal) → Bool
is_undone (Some asked) number resolved = (asked.number == number) && not (is_done asked resolved)
is_undone None number resolved = false

-- the call was overtaken by an edit that is not done; a crash may have taken that one back
abbrev pub is_overtaken_by_none : Judge → OutcomeEnding → Option Answer → Bool
is_overtaken_by_none judge ending (Some (answers.Edit (edit_ends.Overtaken number by))) =
    not ending.crashed && is_undone (edit_at judge by.process) by.number (recovery_at ending by.process)
is_overtaken_by_none judge ending _ = false

-- the edit was answered otherwise than this, whether it is done
abbrev pub is_contradicted : Bool → Option Answer → Bool
is_contradicted done (Some (answers.Edit (edit_ends.Done number))) = not done
is_contradicted done (Some (answers.Edit (edit_ends.Overtaken number by))) = done
is_contradicted done _ = false

-- the edit that was asked for is reported otherwise than it was answered
abbrev pub is_reported_otherwise : Option Asked → Option (Result RecoveryEnd Refusal) → Option Answer → Bool
is_reported_otherwise (Some asked) resolved answer = is_contradicted (is_done asked resolved) answer
is_reported_otherwise None resolved answer = false

-- what is wrong with what a process was answered, and with its report, if something is
abbrev pub process_flaw : Judge → OutcomeEnding → ℕ → Option Flaw
process_flaw judge ending p =
    if is_refused (recovery_at ending p) then Some (flaw.Refused p)
    else (if is_reported_twice (answer_at ending p) (recovery_at ending p) then Some (flaw.ToldTwice p)
    else (if is_overtaken_by_none judge ending (answer_at ending p) then Some (flaw.OvertakenByNone p)
    else (if is_reported_otherwise (edit_at judge p) (recovery_at ending p) (answer_at ending p) then Some (flaw.ToldOtherwise p)
    else None)))

-- ---- flaws

-- one flaw, or none
abbrev pub listed : Option Flaw → List Flaw
listed None = []
listed (Some f) = f ∷ []

-- the flaws of the numbers below n, in their order
abbrev pub flaws_below : (ℕ → Option Flaw) → ℕ → List Flaw
flaws_below f zero = []
flaws_below f (suc n) = flaws_below f n ++ listed (f n)

-- the settle leaves a cell that is not clean
abbrev pub settle_flaw : SettleEnd → Option Flaw
settle_flaw (Left zero) = None
settle_flaw _ = Some flaw.NotClean

-- the edit that was asked for, if one was, is of this cell, and done
abbrev pub is_done_in : Option Asked → ℕ → Option (Result RecoveryEnd Refusal) → Bool
is_done_in (Some asked) cell resolved = (asked.cell == cell) && is_done asked resolved
is_done_in None cell resolved = false

-- the edit that was asked for, if one was, has this text
abbrev pub has_text : Option Asked → List ℕ → Bool
has_text (Some asked) text = bytes_eq asked.text.items text
has_text None text = false

-- it is so of a number below n
abbrev pub any_below : (ℕ → Bool) → ℕ → Bool
any_below f zero = false
any_below f (suc n) = any_below f n || f n

-- the edit of the process is one of this cell, and done
abbrev pub is_done_at : Judge → OutcomeEnding → ℕ → ℕ → Bool
is_done_at judge ending cell p = is_done_in (edit_at judge p) cell (recovery_at ending p)

-- the same, and it has this text
abbrev pub is_done_with : Judge → OutcomeEnding → ℕ → List ℕ → ℕ → Bool
is_done_with judge ending cell text p = is_done_at judge ending cell p && has_text (edit_at judge p) text

-- there is a text, and it is this one
abbrev pub is_text : Option (Vec ℕ) → List ℕ → Bool
is_text (Some found) text = bytes_eq found.items text
is_text None text = false

-- the cell may hold this text: of an edit of the cell that is done, where one is; else that which it had where the script
-- ends, or had left after a crash there
abbrev pub may_hold : Judge → OutcomeEnding → ℕ → List ℕ → Bool
may_hold judge ending cell text =
    if any_below (is_done_at judge ending cell) (length judge.asked.items) then any_below (is_done_with judge ending cell text) (length judge.asked.items)
    else (is_text (slice_get judge.texts.items cell) text || is_text (slice_get judge.crashed.items cell) text)

-- what is wrong with the text of the cell, if there is one, and something is
abbrev pub flaw_of_text : Judge → OutcomeEnding → ℕ → Option (Vec ℕ) → Option Flaw
flaw_of_text judge ending cell (Some text) = if may_hold judge ending cell text.items then None else Some (flaw.TextOfNone cell)
flaw_of_text judge ending cell None = None

-- the same, of the cell with this number
abbrev pub text_flaw : Judge → OutcomeEnding → List (Vec ℕ) → ℕ → Option Flaw
text_flaw judge ending texts cell = flaw_of_text judge ending cell (slice_get texts cell)

-- these of the numbers below n, in their order
abbrev pub texts_below : (ℕ → List ℕ) → ℕ → List (List ℕ)
texts_below f zero = []
texts_below f (suc n) = texts_below f n ++ f n ∷ []

-- the text of each cell of the world, as processes see it
abbrev pub texts_in : WorldValue → List (List ℕ)
texts_in w = texts_below (text_at w.sheet.layout (memory w.sheet)) (cells_of w.sheet.layout)

-- ---- values

-- the values that process 0 has reported last
abbrev pub reported_in : WorldValue → List Value
reported_in w = if nat_lt 0 (length w.situations) then slice_index_or w.reports.values 0 [] else []

-- what is wrong with the value of the cell that is reported: nothing, just where it is the expected one
abbrev pub FitsValue : List Value → List Value → ℕ → Option Flaw → Type 0
FitsValue expected reported cell None = slice_get reported cell ≡ slice_get expected cell
FitsValue expected reported cell (Some f) = (f ≡ flaw.ValueOfNone cell) × (slice_get reported cell ≢ slice_get expected cell)

-- the flaws of the values of the first n cells
pub data AreValueFlaws (expected reported : List Value) : ℕ → List Flaw → Type 0 where
  no_value : AreValueFlaws expected reported 0 []
  one_value_more : (n : ℕ) (flaws : List Flaw) (more : Option Flaw) → AreValueFlaws expected reported n flaws → FitsValue expected reported n more → AreValueFlaws expected reported (suc n) (flaws ++ listed more)

-- these flaws of the first n cells' values stand after the others
pub record AddsValueFlaws (expected reported : List Value) (n : ℕ) (before after : List Flaw) : Type 0 where
  pub more : List Flaw
  pub are : AreValueFlaws expected reported n more
  pub is : after ≡ before ++ more

-- the flaws of the values that are reported, where those of these texts are expected
pub record JudgesValues (w : WorldValue) (texts : List (List ℕ)) (flaws : List Flaw) : Type 0 where
  pub expected : List Value
  pub evaluated : IsEvaluated w.sheet.layout.shape texts expected
  pub are : AreValueFlaws expected (reported_in w) (length expected) flaws

-- the flaws of a report: those of its values; or that it is not settled
abbrev pub JudgesReport : WorldValue → List (List ℕ) → Result ShowEnd Refusal → List Flaw → Type 0
JudgesReport w texts (Ok Settled) flaws = JudgesValues w texts flaws
JudgesReport w texts _ flaws = flaws ≡ flaw.NotSettled ∷ []

-- texts
abbrev pub texts_of : List (Vec ℕ) → List (List ℕ)
texts_of texts = map (λ text. text.items) texts

-- ---- all that is wrong

-- what the judge finds, where the report was made in this world: the flaws of each process, those of the text of each
-- cell, those of the settle, and those of the report
pub record IsJudged (judge : Judge) (w : WorldValue) (ending : OutcomeEnding) (flaws : List Flaw) : Type 0 where
  pub texts : List (Vec ℕ)
  pub shown : texts_of texts ≡ texts_in w
  pub values : List Flaw
  pub of_report : JudgesReport w (texts_of texts) ending.reported values
  pub is : flaws ≡ ((flaws_below (process_flaw judge ending) (length ending.answers.items) ++ flaws_below (text_flaw judge ending texts) (length texts)) ++ listed (settle_flaw ending.left)) ++ values

-- an order ends in the first of these worlds with a crash, which leads to the second one; or without, in that
abbrev pub EndsIn : Bool → WorldValue → WorldValue → Type 0
EndsIn true w begun = (reply : Reply) × Fits w events.Crash reply begun
EndsIn false w begun = begun ≡ w

-- the judge knows of this world the edit that each process carries out, the texts of the cells, and those that a crash leaves
pub record IsJudgeOf (w : WorldValue) (judge : Judge) : Type 0 where
  pub asked : map (option_map plain_asked) judge.asked.items ≡ map asked_in w.situations
  pub texts : texts_of judge.texts.items ≡ texts_in w
  pub lost : WorldValue
  pub crashes : EndsIn true w lost
  pub crashed : texts_of judge.crashed.items ≡ texts_in lost

-- what is found after an order that leaves this world and has left its processes so: what they were answered, what is
-- reported, and what the judge finds
pub record IsFound (judge : Judge) (begun : WorldValue) (seats : List PlainSeat) (crashed : Bool) (found : Finding) : Type 0 where
  pub ending : OutcomeEnding
  pub reported : WorldValue
  pub judged : IsJudged judge reported ending found.flaws.items
  pub answered : AreAnswers begun seats ending.answers.items (texts_of found.answers.items)
  pub resolved : ReportsEnding begun ending found.tail.items reported
  pub crashed_is : ending.crashed ≡ crashed
  pub crashed_found : found.crashed ≡ crashed

-- what an order comes to that ends at this position, with a crash there or without one
pub record ComesTo (judge : Judge) (x : Position) (crashed : Bool) (found : Finding) : Type 0 where
  pub begun : WorldValue
  pub ends : EndsIn crashed x.world begun
  pub found_so : IsFound judge begun (seats_of x) crashed found
