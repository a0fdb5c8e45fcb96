-- The numbers of kinds of answers, as C has them.
use Rattle.std.specs.Prelude.{ℕ}
use Rattle.ds_c.specs.declared.answer_kind.AnswerKind.{AnswerKind}
use Rattle.ds_c.specs.declared.answer_kind.AnswerKind.TheVariants.{Begun, Entered, Refused, Stepped, WrongTask, Evicted, Stopped, Crashed, NotEnabled, Done, Overtaken, NotDirty, Missed, Worn, Published, Again, NoMemory, Last, Nothing, Settled, UnsettledMark, UnsettledAnnouncement, UnsettledWord, Left, Migrated, Already}

-- the number of a kind of answer, from 1
abbrev pub kind_number : AnswerKind → ℕ
kind_number Begun = 1
kind_number Entered = 2
kind_number Refused = 3
kind_number Stepped = 4
kind_number WrongTask = 5
kind_number Evicted = 6
kind_number Stopped = 7
kind_number Crashed = 8
kind_number NotEnabled = 9
kind_number Done = 10
kind_number Overtaken = 11
kind_number NotDirty = 12
kind_number Missed = 13
kind_number Worn = 14
kind_number Published = 15
kind_number Again = 16
kind_number NoMemory = 17
kind_number Last = 18
kind_number Nothing = 19
kind_number Settled = 20
kind_number UnsettledMark = 21
kind_number UnsettledAnnouncement = 22
kind_number UnsettledWord = 23
kind_number Left = 24
kind_number Migrated = 25
kind_number Already = 26
