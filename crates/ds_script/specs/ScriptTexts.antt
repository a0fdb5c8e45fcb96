-- The text of each answer.
use Rattle.std.specs.Prelude.{ℕ, zero, suc, Bool, true, false, List, [], ◌∷◌, ◌++◌, codes, slice_index_or}
use Rattle.std.specs.Fmt.{decimal}
use Rattle.ds_formula.specs.declared.cells.Cell.{Cell}
use Rattle.ds_formula.specs.declared.cells.Shape.{Shape}
use Rattle.ds_formula.specs.Cells.{cell_at}
use Rattle.ds_formula.specs.Names.{cell_text}
use Rattle.ds_eval.specs.declared.value.Value.{Value}
use Rattle.ds_eval.specs.declared.value.Value.TheVariants as value
use Rattle.ds_eval.specs.Numbers.{value_text}
use Rattle.ds_words.specs.Memory.{Memory}
use Rattle.ds_layout.specs.declared.place.Place.{Place}
use Rattle.ds_layout.specs.declared.place.Place.TheVariants as place
use Rattle.ds_layout.specs.declared.mark.State.{State}
use Rattle.ds_layout.specs.declared.mark.State.TheVariants.{Clean, Marked, Held}
use Rattle.ds_layout.specs.Mark.{state_of}
use Rattle.ds_state.specs.Value.{WorldValue}
use Rattle.ds_state.specs.World.{PlainWorld}
use Rattle.ds_state.specs.Shown.{mark_in, value_in, text_in}
use Rattle.ds_state.specs.declared.answer.Answer.{Answer}
use Rattle.ds_state.specs.declared.answer.Answer.TheVariants as answers
use Rattle.ds_state.specs.declared.answer.EditEnd.{EditEnd}
use Rattle.ds_state.specs.declared.answer.EditEnd.TheVariants as edit_ends
use Rattle.ds_state.specs.declared.work.WorkEnd.{WorkEnd}
use Rattle.ds_state.specs.declared.work.WorkEnd.TheVariants as work_ends
use Rattle.ds_state.specs.declared.recovery.RecoveryEnd.{RecoveryEnd}
use Rattle.ds_state.specs.declared.recovery.RecoveryEnd.TheVariants as recovery_ends
use Rattle.ds_state.specs.declared.migration.MigrateEnd.{MigrateEnd}
use Rattle.ds_state.specs.declared.migration.MigrateEnd.TheVariants as migrate_ends
use Rattle.ds_state.specs.declared.show.ShowEnd.{ShowEnd}
use Rattle.ds_state.specs.declared.show.ShowEnd.TheVariants as show_ends
use Rattle.ds_state.specs.declared.answer.Other.{Other}
use Rattle.ds_state.specs.declared.recovery.LastEdit.{LastEdit}
use Rattle.ds_core.specs.declared.reply.Reply.{Reply}
use Rattle.ds_core.specs.declared.reply.Reply.TheVariants.{Begun, Entered, Refused, Stepped, Answered, WrongTask, Evicted, Stopped, Crashed, NotEnabled}
use Rattle.ds_script_io.specs.AnswerTexts.{done_text, refused_text, settled_text}
use Rattle.ds_script.specs.declared.point.PointName.{PointName}
use Rattle.ds_script.specs.Points.{name_of_point}

-- ---- answers

-- the line of the answer Overtaken: P NUMBER overtaken by PROCESS NUMBER
abbrev pub overtaken_text : ℕ → ℕ → Other → List ℕ
overtaken_text p number by =
    decimal p ++ (codes " " ++ (decimal number ++ (codes " overtaken by " ++ (decimal by.process ++ (codes " " ++ (decimal by.number ++ codes "\n"))))))

-- a line of a process and a word: P WORD
abbrev pub word_line : ℕ → List ℕ → List ℕ
word_line p word = decimal p ++ (codes " " ++ (word ++ codes "\n"))

-- the word for how an edit ended, by whether it is linearized
abbrev pub counts_text : Bool → List ℕ
counts_text true = codes "done"
counts_text false = codes "not-done"

-- the words of the answer Published, by whether the value changed
abbrev pub changed_text : Bool → List ℕ
changed_text true = codes "published changed"
changed_text false = codes "published same"

-- the line of the answer Last: P last NUMBER C done; P last NUMBER C not-done
abbrev pub last_text : Shape → ℕ → LastEdit → List ℕ
last_text shape p told =
    decimal p ++ (codes " last " ++ (decimal told.number ++ (codes " " ++ (cell_text (cell_at shape told.cell) ++ (codes " " ++ (counts_text told.counts ++ codes "\n"))))))

-- the line of the answer Unsettled: unsettled mark C WORD; unsettled announce P WORD; a report watches no other words
abbrev pub unsettled_text : Shape → Place → ℕ → List ℕ
unsettled_text shape (place.Mark cell) word = codes "unsettled mark " ++ (cell_text (cell_at shape cell) ++ (codes " " ++ (decimal word ++ codes "\n")))
unsettled_text shape (place.Announce p) word = codes "unsettled announce " ++ (decimal p ++ (codes " " ++ (decimal word ++ codes "\n")))
unsettled_text shape other word = codes "unsettled " ++ (decimal word ++ codes "\n")

-- the values of the process's last settled report
abbrev pub values_of : WorldValue → ℕ → List Value
values_of w p = slice_index_or w.reports.values p []

-- the line of an edit that ended so
abbrev pub edit_text : ℕ → EditEnd → List ℕ
edit_text p (edit_ends.Done number) = done_text p number
edit_text p (edit_ends.Overtaken number by) = overtaken_text p number by

-- the line of a work that ended so
abbrev pub work_text : ℕ → WorkEnd → List ℕ
work_text p work_ends.NotDirty = word_line p (codes "notdirty")
work_text p work_ends.Missed = word_line p (codes "missed")
work_text p work_ends.Worn = word_line p (codes "worn")
work_text p (work_ends.Published changed) = word_line p (changed_text changed)
work_text p work_ends.Again = word_line p (codes "again")
work_text p work_ends.NoMemory = word_line p (codes "nomemory")

-- the text of a report that ended so, where these are its values once it is settled
abbrev pub report_text : Shape → List Value → ShowEnd → List ℕ
report_text shape values show_ends.Settled = settled_text shape values
report_text shape values (show_ends.Unsettled place word) = unsettled_text shape place word

-- the line of a recovery that ended so
abbrev pub recovery_text : Shape → ℕ → RecoveryEnd → List ℕ
recovery_text shape p (recovery_ends.Last told) = last_text shape p told
recovery_text shape p recovery_ends.Nothing = word_line p (codes "nothing")

-- the line of a migration that ended so
abbrev pub migration_text : ℕ → MigrateEnd → List ℕ
migration_text p migrate_ends.Migrated = word_line p (codes "migrated")
migration_text p migrate_ends.Already = word_line p (codes "already")

-- the text of an answer, in the world that it leaves
abbrev pub answer_text : WorldValue → ℕ → Answer → List ℕ
answer_text w p (answers.Edit end) = edit_text p end
answer_text w p (answers.Work end) = work_text p end
answer_text w p (answers.Show end) = report_text w.sheet.layout.shape (values_of w p) end
answer_text w p (answers.Recovery end) = recovery_text w.sheet.layout.shape p end
answer_text w p (answers.Migration end) = migration_text p end

-- the line of a reply to the process, in the world after it
abbrev pub reply_text : WorldValue → ℕ → Reply → List ℕ
reply_text w p (Begun number) = decimal p ++ (codes " begun " ++ (decimal number ++ codes "\n"))
reply_text w p Entered = word_line p (codes "begun")
reply_text w p (Refused why) = refused_text p why
reply_text w p Stepped = word_line p (codes "stepped")
reply_text w p (Answered answer) = answer_text w p answer
reply_text w p WrongTask = word_line p (codes "wrong-task")
reply_text w p Stopped = word_line p (codes "stopped")
reply_text w p Crashed = codes "crashed\n"
reply_text w p Evicted = codes "evicted\n"
reply_text w p NotEnabled = word_line p (codes "not-enabled")

-- the line of a process that is driven up to a point: P at POINT
abbrev pub at_text : ℕ → PointName → List ℕ
at_text p name = decimal p ++ (codes " at " ++ (name_of_point name ++ codes "\n"))

-- the line that a settle ends with: clean; left K, with the number of cells that are marked or held
abbrev pub left_text : ℕ → List ℕ
left_text zero = codes "clean\n"
left_text (suc k) = codes "left " ++ (decimal (suc k) ++ codes "\n")

-- ---- what a world shows

-- the word for what a mark says, with the holder of a held cell
abbrev pub state_text : State → List ℕ
state_text Clean = codes "clean"
state_text Marked = codes "dirty"
state_text (Held process) = codes "held " ++ decimal process

-- the text of a value that `peek` shows: a blank one has a word, too
abbrev pub shown_text : Value → List ℕ
shown_text value.Blank = codes "blank"
shown_text v = value_text v

-- the line of `peek` up to the value: C STATE VALUE
abbrev pub peek_head : Cell → State → Value → List ℕ
peek_head cell mark v = cell_text cell ++ (codes " " ++ (state_text mark ++ (codes " " ++ shown_text v)))

-- the line of `peek` after the value: the cell's text; without a text the line ends
abbrev pub behind_value : List ℕ → List ℕ
behind_value [] = codes "\n"
behind_value (b ∷ text) = codes " " ++ ((b ∷ text) ++ codes "\n")

-- the line of `peek`: C STATE VALUE TEXT
abbrev pub peek_text : PlainWorld → Cell → List ℕ
peek_text w cell = peek_head cell (state_of (mark_in w cell)) (value_in w cell) ++ behind_value (text_in w cell)

-- the line of `word`: the cached and the persisted number of a place
abbrev pub word_text : Memory Place → Place → List ℕ
word_text m r = decimal (m.cached r) ++ (codes " " ++ (decimal (m.persisted r) ++ codes "\n"))
