-- The line of JSON that each answer of a script is: its keys are in byte order, and the parts are those of sessions.
use Rattle.std.specs.Prelude.{ℕ, zero, suc, Bool, List, [], ◌∷◌, ◌++◌, Some, None, codes}
use Rattle.serde_json.specs.Data.{Data, boolean, null, object, no_members, member}
use Rattle.serde_json.specs.Written.{compact_text}
use Rattle.ds_formula.specs.declared.cells.Cell.{Cell}
use Rattle.ds_formula.specs.declared.cells.Shape.{Shape}
use Rattle.ds_formula.specs.declared.fault.TextFault.{TextFault}
use Rattle.ds_formula.specs.Names.{cell_text, name_of_kind}
use Rattle.ds_eval.specs.declared.value.Value.{Value}
use Rattle.ds_words.specs.Memory.{Memory}
use Rattle.ds_layout.specs.declared.place.Place.{Place}
use Rattle.ds_layout.specs.Mark.{state_of}
use Rattle.ds_layout.specs.SheetMemory.{memory}
use Rattle.ds_state.specs.Value.{WorldValue, world_of}
use Rattle.ds_state.specs.World.{PlainWorld}
use Rattle.ds_state.specs.Shown.{mark_in, value_in, text_in}
use Rattle.ds_state.specs.declared.answer.Answer.{Answer}
use Rattle.ds_state.specs.declared.answer.Answer.TheVariants as answers
use Rattle.ds_state.specs.declared.answer.Other.{Other}
use Rattle.ds_state.specs.declared.answer.EditEnd.{EditEnd}
use Rattle.ds_state.specs.declared.answer.EditEnd.TheVariants as edit_ends
use Rattle.ds_state.specs.declared.work.WorkEnd.{WorkEnd}
use Rattle.ds_state.specs.declared.work.WorkEnd.TheVariants as work_ends
use Rattle.ds_state.specs.declared.recovery.RecoveryEnd.{RecoveryEnd}
use Rattle.ds_state.specs.declared.recovery.RecoveryEnd.TheVariants as recovery_ends
use Rattle.ds_state.specs.declared.migration.MigrateEnd.{MigrateEnd}
use Rattle.ds_state.specs.declared.migration.MigrateEnd.TheVariants as migrate_ends
use Rattle.ds_state.specs.declared.show.ShowEnd.{ShowEnd}
use Rattle.ds_state.specs.declared.show.ShowEnd.TheVariants as show_ends
use Rattle.ds_state.specs.declared.refusal.Refusal.{Refusal}
use Rattle.ds_state.specs.declared.refusal.Refusal.TheVariants as refusals
use Rattle.ds_core.specs.declared.reply.Reply.{Reply}
use Rattle.ds_core.specs.declared.reply.Reply.TheVariants.{Begun, Entered, Refused, Stepped, Answered, WrongTask, Evicted, Stopped, Crashed, NotEnabled}
use Rattle.ds_calls.specs.declared.settle.SettleEnd.{SettleEnd}
use Rattle.ds_calls.specs.declared.settle.SettleEnd.TheVariants as settle_ends
use Rattle.ds_script.specs.declared.point.PointName.{PointName}
use Rattle.ds_script.specs.Points.{name_of_point}
use Rattle.ds_script.specs.ScriptTexts.{state_text, values_of}
use Rattle.ds_server.specs.SessionTexts.{last_data, number_data, other_data, settled_data, text_data, unsettled_data, value_data}
use Rattle.ds_script_json.specs.declared.carry.CommandEnd.{CommandEnd}
use Rattle.ds_script_json.specs.declared.carry.CommandEnd.TheVariants as ends

-- ---- of a process

-- an answer by its word alone: {"ok":"crashed"}
abbrev pub word_data : List ℕ → Data
word_data word = object (member (codes "ok") (text_data word) no_members)

-- an answer to a process by its word: {"ok":"stepped","process":0}
abbrev pub process_data : ℕ → List ℕ → Data
process_data p word = object (member (codes "ok") (text_data word) (member (codes "process") (number_data p) no_members))

-- the same with the number of an edit: {"number":0,"ok":"done","process":0}
abbrev pub numbered_data : ℕ → ℕ → List ℕ → Data
numbered_data p n word = object (member (codes "number") (number_data n) (member (codes "ok") (text_data word) (member (codes "process") (number_data p) no_members)))

-- an edit that another one has overtaken: {"by":{"number":0,"process":1},"number":0,"ok":"overtaken","process":0}
abbrev pub overtaken_data : ℕ → ℕ → Other → Data
overtaken_data p n by = object (member (codes "by") (other_data by) (member (codes "number") (number_data n) (member (codes "ok") (text_data (codes "overtaken")) (member (codes "process") (number_data p) no_members))))

-- a work that has published: {"changed":true,"ok":"published","process":0}
abbrev pub published_data : ℕ → Bool → Data
published_data p changed = object (member (codes "changed") (boolean changed) (member (codes "ok") (text_data (codes "published")) (member (codes "process") (number_data p) no_members)))

-- a recovery, with the last edit: {"last":null,"ok":"last","process":0}
abbrev pub recovered_data : ℕ → Data → Data
recovered_data p last = object (member (codes "last") last (member (codes "ok") (text_data (codes "last")) (member (codes "process") (number_data p) no_members)))

-- a process that is driven up to a point: {"ok":"at","point":"swung","process":0}
abbrev pub at_data : ℕ → PointName → Data
at_data p name = object (member (codes "ok") (text_data (codes "at")) (member (codes "point") (text_data (name_of_point name)) (member (codes "process") (number_data p) no_members)))

-- ---- refusals

-- a refusal by its code and name: {"code":2,"error":"Busy","process":0}
abbrev pub error_data : ℕ → ℕ → List ℕ → Data
error_data p code name = object (member (codes "code") (number_data code) (member (codes "error") (text_data name) (member (codes "process") (number_data p) no_members)))

-- that of a text with a fault, and the byte where it is:
-- {"code":1,"error":"Text","fault":"NotWhole","offset":2,"process":0}
abbrev pub text_fault_data : ℕ → TextFault → Data
text_fault_data p at =
    object (member (codes "code") (number_data 1) (member (codes "error") (text_data (codes "Text")) (member (codes "fault") (text_data (name_of_kind at.kind))
    (member (codes "offset") (number_data at.offset) (member (codes "process") (number_data p) no_members)))))

-- a refusal to a process, by the code and the name that scripts give it
abbrev pub refused_data : ℕ → Refusal → Data
refused_data p (refusals.Text fault) = text_fault_data p fault
refused_data p refusals.Busy = error_data p 2 (codes "Busy")
refused_data p refusals.Stopped = error_data p 3 (codes "Stopped")
refused_data p refusals.RecordsFull = error_data p 4 (codes "RecordsFull")
refused_data p refusals.NoMemory = error_data p 5 (codes "NoMemory")
refused_data p (refusals.Migrating other) = error_data p 6 (codes "Migrating")
refused_data p (refusals.NotStopped other) = error_data p 7 (codes "NotStopped")

-- ---- calls

-- an edit that ended so
abbrev pub edit_data : ℕ → EditEnd → Data
edit_data p (edit_ends.Done number) = numbered_data p number (codes "done")
edit_data p (edit_ends.Overtaken number by) = overtaken_data p number by

-- a work that ended so
abbrev pub work_data : ℕ → WorkEnd → Data
work_data p work_ends.NotDirty = process_data p (codes "notdirty")
work_data p work_ends.Missed = process_data p (codes "missed")
work_data p work_ends.Worn = process_data p (codes "worn")
work_data p (work_ends.Published changed) = published_data p changed
work_data p work_ends.Again = process_data p (codes "again")
work_data p work_ends.NoMemory = process_data p (codes "nomemory")

-- a report that ended so, as a session has it, where these are its values once it is settled
abbrev pub report_data : Shape → List Value → ShowEnd → Data
report_data shape values show_ends.Settled = settled_data shape values
report_data shape values (show_ends.Unsettled place word) = unsettled_data shape place word

-- a recovery that ended so
abbrev pub recovery_data : Shape → ℕ → RecoveryEnd → Data
recovery_data shape p (recovery_ends.Last told) = recovered_data p (last_data shape (Some told))
recovery_data shape p recovery_ends.Nothing = recovered_data p (last_data shape None)

-- a migration that ended so
abbrev pub migration_data : ℕ → MigrateEnd → Data
migration_data p migrate_ends.Migrated = process_data p (codes "migrated")
migration_data p migrate_ends.Already = process_data p (codes "already")

-- an answer, in the world that it leaves
abbrev pub answer_data : WorldValue → ℕ → Answer → Data
answer_data w p (answers.Edit end) = edit_data p end
answer_data w p (answers.Work end) = work_data p end
answer_data w p (answers.Show end) = report_data w.sheet.layout.shape (values_of w p) end
answer_data w p (answers.Recovery end) = recovery_data w.sheet.layout.shape p end
answer_data w p (answers.Migration end) = migration_data p end

-- a reply to the process, in the world after it
abbrev pub reply_data : WorldValue → ℕ → Reply → Data
reply_data w p (Begun number) = numbered_data p number (codes "begun")
reply_data w p Entered = process_data p (codes "begun")
reply_data w p (Refused why) = refused_data p why
reply_data w p Stepped = process_data p (codes "stepped")
reply_data w p (Answered answer) = answer_data w p answer
reply_data w p WrongTask = process_data p (codes "wrong-task")
reply_data w p Stopped = process_data p (codes "stopped")
reply_data w p Crashed = word_data (codes "crashed")
reply_data w p Evicted = word_data (codes "evicted")
reply_data w p NotEnabled = process_data p (codes "not-enabled")

-- ---- settles, and what a world shows

-- how many cells a settle has left: {"ok":"clean"}, {"left":1,"ok":"left"}
abbrev pub left_data : ℕ → Data
left_data zero = word_data (codes "clean")
left_data (suc k) = object (member (codes "left") (number_data (suc k)) (member (codes "ok") (text_data (codes "left")) no_members))

-- a settle by the process that ended so
abbrev pub settle_data : ℕ → SettleEnd → Data
settle_data p (settle_ends.Left count) = left_data count
settle_data p (settle_ends.Refused why) = refused_data p why
settle_data p settle_ends.NoMemory = process_data p (codes "nomemory")

-- what a cell shows: {"cell":"A1","ok":"peek","state":"clean","text":"=1+2","value":"3"}
abbrev pub peek_data : PlainWorld → Cell → Data
peek_data w cell =
    object (member (codes "cell") (text_data (cell_text cell)) (member (codes "ok") (text_data (codes "peek")) (member (codes "state") (text_data (state_text (state_of (mark_in w cell))))
    (member (codes "text") (text_data (text_in w cell)) (member (codes "value") (value_data (value_in w cell)) no_members)))))

-- both sides of a word: {"cached":1,"ok":"word","persisted":0}
abbrev pub sides_data : Memory Place → Place → Data
sides_data m place = object (member (codes "cached") (number_data (m.cached place)) (member (codes "ok") (text_data (codes "word")) (member (codes "persisted") (number_data (m.persisted place)) no_members)))

-- ---- lines

-- a command that ended so, in the world after it; a new sheet is answered by nothing
abbrev pub data_of : WorldValue → CommandEnd → Data
data_of w ends.Made = null
data_of w (ends.Replied p reply) = reply_data w p reply
data_of w (ends.At p name) = at_data p name
data_of w (ends.Settled p end) = settle_data p end
data_of w (ends.Peeked cell) = peek_data (world_of w) cell
data_of w (ends.Read place) = sides_data (memory w.sheet) place

-- the line of JSON that a command is answered that ended so: without spaces, and with a line feed
abbrev pub line_of : WorldValue → CommandEnd → List ℕ
line_of w ends.Made = []
line_of w end = compact_text (data_of w end) ++ 10 ∷ []
