-- No answer has a float.
use Rattle.std.proofs.Common.{◌≡◌, ℕ, zero, suc, List, [], ◌∷◌, map, false, refl}
use Rattle.serde_json.specs.View.{items_of}
use Rattle.serde_json.specs.Written.{has_float, items_have_float}
use Rattle.ds_formula.specs.declared.cells.Shape.{Shape}
use Rattle.ds_eval.specs.declared.value.Value.{Value}
use Rattle.ds_state.specs.Value.{WorldValue}
use Rattle.ds_state.specs.declared.answer.Answer.{Answer}
use Rattle.ds_state.specs.declared.answer.Answer.TheVariants as answers
use Rattle.ds_state.specs.declared.answer.EditEnd.{EditEnd}
use Rattle.ds_state.specs.declared.answer.EditEnd.TheVariants as edit_ends
use Rattle.ds_state.specs.declared.work.WorkEnd.{WorkEnd}
use Rattle.ds_state.specs.declared.work.WorkEnd.TheVariants as work_ends
use Rattle.ds_state.specs.declared.recovery.RecoveryEnd.{RecoveryEnd}
use Rattle.ds_state.specs.declared.recovery.RecoveryEnd.TheVariants as recovery_ends
use Rattle.ds_state.specs.declared.migration.MigrateEnd.{MigrateEnd}
use Rattle.ds_state.specs.declared.migration.MigrateEnd.TheVariants as migrate_ends
use Rattle.ds_state.specs.declared.show.ShowEnd.{ShowEnd}
use Rattle.ds_state.specs.declared.show.ShowEnd.TheVariants as show_ends
use Rattle.ds_state.specs.declared.refusal.Refusal.{Refusal}
use Rattle.ds_state.specs.declared.refusal.Refusal.TheVariants as refusals
use Rattle.ds_core.specs.declared.reply.Reply.{Reply}
use Rattle.ds_core.specs.declared.reply.Reply.TheVariants.{Begun, Entered, Refused, Stepped, Answered, WrongTask, Evicted, Stopped, Crashed, NotEnabled}
use Rattle.ds_calls.specs.declared.settle.SettleEnd.{SettleEnd}
use Rattle.ds_calls.specs.declared.settle.SettleEnd.TheVariants as settle_ends
use Rattle.ds_script.specs.ScriptTexts.{values_of}
use Rattle.ds_server.specs.SessionTexts.{value_data, row_data, rows_of}
use Rattle.ds_script_json.specs.declared.carry.CommandEnd.{CommandEnd}
use Rattle.ds_script_json.specs.declared.carry.CommandEnd.TheVariants as ends
use Rattle.ds_script_json.specs.JsonAnswers.{answer_data, data_of, edit_data, left_data, migration_data, recovery_data, refused_data, reply_data, report_data, settle_data, work_data}

row : (values : List Value) → items_have_float (items_of (map value_data values)) ≡ false
row [] = refl
row (v ∷ vs) = row vs

rows : (rows' : List (List Value)) → items_have_float (items_of (map row_data rows')) ≡ false
rows [] = refl
rows (r ∷ rs) = rw (row r) (rows rs)

refused : (p : ℕ) (why : Refusal) → has_float (refused_data p why) ≡ false
refused p (refusals.Text at) = refl
refused p refusals.Busy = refl
refused p refusals.Stopped = refl
refused p refusals.RecordsFull = refl
refused p refusals.NoMemory = refl
refused p (refusals.Migrating other) = refl
refused p (refusals.NotStopped other) = refl

edit : (p : ℕ) (end : EditEnd) → has_float (edit_data p end) ≡ false
edit p (edit_ends.Done number) = refl
edit p (edit_ends.Overtaken number by) = refl

work : (p : ℕ) (end : WorkEnd) → has_float (work_data p end) ≡ false
work p work_ends.NotDirty = refl
work p work_ends.Missed = refl
work p work_ends.Worn = refl
work p (work_ends.Published changed) = refl
work p work_ends.Again = refl
work p work_ends.NoMemory = refl

report : (shape : Shape) (values : List Value) (end : ShowEnd) → has_float (report_data shape values end) ≡ false
report shape values show_ends.Settled = rw (rows (rows_of shape.columns shape.rows values)) refl
report shape values (show_ends.Unsettled place word) = refl

recovery : (shape : Shape) (p : ℕ) (end : RecoveryEnd) → has_float (recovery_data shape p end) ≡ false
recovery shape p (recovery_ends.Last last) = refl
recovery shape p recovery_ends.Nothing = refl

migration : (p : ℕ) (end : MigrateEnd) → has_float (migration_data p end) ≡ false
migration p migrate_ends.Migrated = refl
migration p migrate_ends.Already = refl

answer : (w : WorldValue) (p : ℕ) (a : Answer) → has_float (answer_data w p a) ≡ false
answer w p (answers.Edit end) = edit p end
answer w p (answers.Work end) = work p end
answer w p (answers.Show end) = report w.sheet.layout.shape (values_of w p) end
answer w p (answers.Recovery end) = recovery w.sheet.layout.shape p end
answer w p (answers.Migration end) = migration p end

reply : (w : WorldValue) (p : ℕ) (r : Reply) → has_float (reply_data w p r) ≡ false
reply w p (Begun number) = refl
reply w p Entered = refl
reply w p (Refused why) = refused p why
reply w p Stepped = refl
reply w p (Answered a) = answer w p a
reply w p WrongTask = refl
reply w p Stopped = refl
reply w p Crashed = refl
reply w p Evicted = refl
reply w p NotEnabled = refl

left : (count : ℕ) → has_float (left_data count) ≡ false
left zero = refl
left (suc k) = refl

settle : (p : ℕ) (end : SettleEnd) → has_float (settle_data p end) ≡ false
settle p (settle_ends.Left count) = left count
settle p (settle_ends.Refused why) = refused p why
settle p settle_ends.NoMemory = refl

-- no answer has a float
pub no_float : (w : WorldValue) (end : CommandEnd) → has_float (data_of w end) ≡ false
no_float w ends.Made = refl
no_float w (ends.Replied p r) = reply w p r
no_float w (ends.At p name) = refl
no_float w (ends.Settled p end) = settle p end
no_float w (ends.Peeked cell) = refl
no_float w (ends.Read place) = refl
