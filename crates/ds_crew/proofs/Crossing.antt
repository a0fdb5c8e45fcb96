-- That what lies under the lock may cross threads: type by type, so that no search is long.
use Rattle.std.proofs.Crossing.{crosses}
use denote.Param.Send.{IsSend, IsSync, sendable, view_send}
use denote.Param.SendFields.{declared_send, as_row_send}
use denote.RattleType.{RattleType}
use Rattle.std.specs.declared.sync.ledger.Ledger.{Ghosts}
use Rattle.std.proofs.sync.ledger.Book.TheSendSync.{the_send as book_send}
use Rattle.ds_crew.specs.contracts.kept.Kept as Kept
use Rattle.ds_crew.specs.contracts.locked.LockedSheet as LockedSheet
use Rattle.ds_crew.specs.contracts.pass.Pass as Pass
use Rattle.std.proofs.sync.ledger.Share.TheSendSync.{the_send as share_send}
use denote.Struct.Declared.{row}
use denote.Struct.Record.{declared}
use Rattle.ds_crew.specs.contracts.pass.Trail as Trail
use Rattle.http_server.proofs.log.Log.TheSendSync.{the_send as log_send}
use Rattle.ds_core.specs.contracts.event.Event as Event
use Rattle.ds_core.specs.contracts.event.EditRequest as EditRequest
use Rattle.ds_core.specs.contracts.reply.Reply as Reply
use Rattle.ds_eval.specs.contracts.task.Task as Task
use Rattle.ds_eval.specs.contracts.task.Evaluated as Evaluated
use Rattle.ds_eval.specs.contracts.task.Task.TheInside as task
use Rattle.ds_formula.specs.contracts.cells.Cell as Cell
use Rattle.ds_formula.specs.contracts.cells.Shape as Shape
use Rattle.ds_eval.specs.contracts.inputs.Inputs as Inputs
use Rattle.ds_core.proofs.Crossing.{Content-send, Inputs-send, usize-send, u64-send, Entry-send, world_send}

Cell-send : IsSend Cell.the_row
Cell-send = search (sendable, crosses) depth 20

Shape-send : IsSend Shape.the_row
Shape-send = search (sendable, crosses) depth 20

Task-inside : IsSend (row (declared task.struct task.the_propositions))
Task-inside = declared_send (declared task.struct task.the_propositions) (
  usize-send,
  (
    Cell-send,
    (
      u64-send,
      (
        Shape-send,
        (
          Content-send,
          (as_row_send Inputs.the_field Inputs-send, tt),
        ),
      ),
    ),
  ),
)

Task-send : IsSend Task.the_row
Task-send = view_send (row (declared task.struct task.the_propositions)) _ _ _ _ Task-inside

Evaluated-send : IsSend Evaluated.the_row
Evaluated-send = search (sendable, crosses, Task-send, Entry-send) depth 60 fits 100000

EditRequest-send : IsSend EditRequest.the_row
EditRequest-send = search (sendable, crosses) depth 40

Event-send : IsSend Event.the_row
Event-send = search (sendable, crosses, EditRequest-send, Evaluated-send) depth 60 fits 100000

Reply-send : IsSend Reply.the_row
Reply-send = search (sendable, crosses) depth 60 fits 100000

Trail-send : IsSend Trail.the_row
Trail-send = search (sendable, crosses, log_send, Event-send, Reply-send) depth 40

module _ (L M : RattleType) (l : Ghosts L.Denot) (m : Ghosts M.Denot) where
  pub kept_send : IsSend (Kept.the_row L M l m)
  kept_send = search (sendable, crosses, world_send, book_send) depth 40

  pub sheet_sync : IsSync (LockedSheet.the_row L M l m)
  sheet_sync = search (sendable, crosses, kept_send) depth 40

  pub pass_send : IsSend (Pass.the_row L M l m)
  pass_send = search (sendable, crosses, share_send, log_send, Event-send, Reply-send, Trail-send) depth 40
