-- What the ends of locked calls say, and what they do to a pass.
use Rattle.std.specs.Prelude.{ℕ, ◌≡◌, ◌+◌, List, length}
use Rattle.ds_formula.specs.declared.cells.Cell.{Cell}
use Rattle.ds_state.specs.declared.answer.Answer.TheVariants.{Edit, Show, Recovery}
use Rattle.ds_state.specs.declared.answer.EditEnd.TheVariants as edits
use Rattle.ds_state.specs.declared.show.ShowEnd.TheVariants as reports
use Rattle.ds_state.specs.declared.recovery.RecoveryEnd.TheVariants as recoveries
use Rattle.ds_core.specs.declared.event.Event.{Event}
use Rattle.ds_core.specs.declared.event.Event.TheVariants.{BeginEdit, BeginWork, BeginShow, BeginRecover}
use Rattle.ds_core.specs.declared.reply.Reply.{Reply}
use Rattle.ds_core.specs.declared.reply.Reply.TheVariants.{Answered}
use Rattle.ds_core.specs.declared.reply.Reply.TheVariants as replies
use Rattle.ds_crew.specs.Receipts.{PlainReceipt}
use Rattle.ds_crew.specs.Kept.{HasSettled, settled_reply}
use Rattle.ds_crew.specs.Passes.{PlainPass, asked, with_trail}
use Rattle.ds_crew.specs.declared.ended.Edited.{Edited}
use Rattle.ds_crew.specs.declared.ended.Edited.TheVariants as edited
use Rattle.ds_crew.specs.declared.ended.Recovered.{Recovered}
use Rattle.ds_crew.specs.declared.ended.Recovered.TheVariants as recovered
use Rattle.ds_crew.specs.declared.ended.Reported.{Reported}
use Rattle.ds_crew.specs.declared.ended.Reported.TheVariants as reported

-- how many edits an end answers Done: 1 or 0
abbrev pub done_by : Edited → ℕ
done_by (edited.Done receipt) = 1
done_by end = 0

-- the pass has counted one report more as settled, and keeps its values, of which there is this number; but for its trail
-- all else stays
pub record IsSettled (cells : ℕ) (old new : PlainPass) : Type 0 where
  pub is : new ≡ record old { last = new.last; settleds = old.settleds + 1; trail = new.trail }
  pub full : length new.last ≡ cells
  pub settled : HasSettled old.process new.last

-- the pass after a step of its process's report: a Settled is counted in its share, and the pass then keeps this number of
-- values; else all stays; of its trail this says nothing
abbrev pub AfterStep : ℕ → PlainPass → Reply → PlainPass → Type 0
AfterStep cells old (Answered (Show reports.Settled)) new = IsSettled cells old new
AfterStep cells old reply new = new ≡ with_trail old new.trail

-- the last reply of an edit that ended so
abbrev pub edit_reply : Edited → Reply
edit_reply (edited.Done receipt) = Answered (Edit (edits.Done receipt.number))
edit_reply (edited.Overtaken number by) = Answered (Edit (edits.Overtaken number by))
edit_reply (edited.Refused why) = replies.Refused why
edit_reply edited.NotEnabled = replies.NotEnabled

-- the last reply of a show that ended so
abbrev pub show_reply : Reported → Reply
show_reply reported.Settled = settled_reply
show_reply (reported.Unsettled place word) = Answered (Show (reports.Unsettled place word))
show_reply (reported.Refused why) = replies.Refused why
show_reply reported.NotEnabled = replies.NotEnabled

-- the last reply of a recovery that ended so
abbrev pub recovery_reply : Recovered → Reply
recovery_reply (recovered.Last told) = Answered (Recovery (recoveries.Last told))
recovery_reply recovered.Nothing = Answered (Recovery recoveries.Nothing)
recovery_reply (recovered.Refused why) = replies.Refused why
recovery_reply recovered.NotEnabled = replies.NotEnabled

-- the beginning of the pass's edit of this cell to this text
abbrev pub edit_begin : PlainPass → Cell → List ℕ → Event
edit_begin pass cell text = BeginEdit (record { process = pass.process; cell = cell; text = text })

-- the pass after an edit of this cell to this text: it has the edit as its last call, a Done is counted in its share,
-- and all else stays, but for its trail
abbrev pub after_edit : Cell → List ℕ → PlainPass → Edited → PlainPass
after_edit cell text pass end = record (asked pass (edit_begin pass cell text) (edit_reply end)) { dones = pass.dones + done_by end }

-- the pass after a recovery: it has the recovery as its last call, and all else stays, but for its trail
abbrev pub after_recovery : PlainPass → Recovered → PlainPass
after_recovery pass end = asked pass (BeginRecover pass.process) (recovery_reply end)

-- the beginning of a call of the lock's: an edit, work, a show or a recovery
abbrev pub BeginsCall : Event → Type 0
BeginsCall (BeginEdit request) = Unit {0}
BeginsCall (BeginWork process cell) = Unit {0}
BeginsCall (BeginShow process) = Unit {0}
BeginsCall (BeginRecover process) = Unit {0}
BeginsCall event = ⊥

-- the beginning of an edit
abbrev pub IsBegin : Event → Type 0
IsBegin (BeginEdit request) = Unit {0}
IsBegin event = ⊥

-- the beginning of a show
abbrev pub IsShowBegin : Event → Type 0
IsShowBegin (BeginShow process) = Unit {0}
IsShowBegin event = ⊥

-- the receipt names this process, this cell and this text
pub record Names (process : ℕ) (cell : Cell) (text : List ℕ) (receipt : PlainReceipt) : Type 0 where
  pub process_is : receipt.process ≡ process
  pub cell_is : receipt.cell ≡ cell
  pub text_is : receipt.text ≡ text

-- an edit that is answered Done has a receipt of its process, its cell and its text
abbrev pub HasReceipt : ℕ → Cell → List ℕ → Edited → Type 0
HasReceipt process cell text (edited.Done receipt) = Names process cell text receipt
HasReceipt process cell text end = Unit {0}

-- an edit that is answered Done has a receipt of what was asked for by the event that began it
abbrev pub HasReceiptOf : Event → Edited → Type 0
HasReceiptOf (BeginEdit request) end = HasReceipt request.process request.cell request.text end
HasReceiptOf begin end = ⊥

-- the pass after a show of a sheet with this number of cells: it has the show as its last call; a Settled is counted, and
-- the pass then keeps a value for each cell; else all else stays; of its trail this says nothing
abbrev pub AfterShow : ℕ → PlainPass → Reported → PlainPass → Type 0
AfterShow cells old reported.Settled new = IsSettled cells (asked old (BeginShow old.process) settled_reply) new
AfterShow cells old end new = new ≡ with_trail (asked old (BeginShow old.process) (show_reply end)) new.trail
