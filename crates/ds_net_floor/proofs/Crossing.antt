-- That a locked word, a door and what a keeper hears may be shared by threads.
use Rattle.std.proofs.Crossing.{crosses}
use Rattle.std.proofs.MapsCrossing.{crosses as maps_cross}
use denote.Param.Send.{IsSend, IsSync, sendable}
use denote.Param.SendFields.{declared_send}
use denote.Struct.Record.{declared}
use denote.Builtin.{bool}
use Rattle.std.specs.contracts.sync.Mutex as Mutex
use Rattle.ds_net_floor.specs.contracts.door.Door as Door
use Rattle.ds_net_floor.specs.contracts.keeping.Keeping as Keeping
use Rattle.ds_net_floor.specs.contracts.keeping.Backlog as Backlog
use Rattle.ds_net_floor.specs.contracts.edit_list.EditList as EditList
use Rattle.ds_server.specs.contracts.desk.ListedEdit as ListedEdit
use Rattle.ds_store_journal.specs.contracts.edit.AnsweredEdit as AnsweredEdit
use Rattle.ds_store_keys.specs.contracts.note.KeyNote as KeyNote
use Rattle.ds_store_keys.specs.contracts.note.KeyUse as KeyUse
use Rattle.ds_store_keys.specs.contracts.table.KeyTable as KeyTable
use Rattle.http_server.proofs.log.Log.TheSendSync.{the_send as log_send}

-- a locked truth value may be shared by threads
pub flag_sync : IsSync (Mutex.the_row bool)
flag_sync = search (sendable, crosses) depth 40

edit_send : IsSend AnsweredEdit.the_row
edit_send = search (sendable, crosses) depth 40

use_send : IsSend KeyUse.the_row
use_send = search (sendable, crosses, edit_send) depth 40

key_send : IsSend KeyNote.the_row
key_send = search (sendable, crosses, edit_send) depth 40

table_send : IsSend KeyTable.the_row
table_send = search (sendable, crosses, maps_cross, use_send) depth 60 fits 100000

listed_send : IsSend ListedEdit.the_row
listed_send = search (sendable, crosses) depth 40

list_send : IsSend EditList.the_row
list_send = declared_send (declared EditList.struct _) (
  search (sendable, crosses, listed_send) depth 40,
  (
    search (sendable, crosses) depth 20,
    (
      search (sendable, crosses) depth 20,
      (table_send, (search (sendable, crosses, edit_send, log_send) depth 60 fits 100000, tt)),
    ),
  ),
)

backlog_send : IsSend Backlog.the_row
backlog_send = declared_send (declared Backlog.struct _) (
  list_send,
  (
    search (sendable, crosses, edit_send) depth 40,
    (
      search (sendable, crosses, key_send) depth 40,
      (
        search (sendable, crosses) depth 20,
        (
          search (sendable, crosses) depth 20,
          (
            search (sendable, crosses) depth 20,
            (search (sendable, crosses) depth 20, tt),
          ),
        ),
      ),
    ),
  ),
)

backlog_lock : IsSync (Mutex.the_row Backlog.the_row)
backlog_lock = search (sendable, crosses, backlog_send) depth 40

-- what sessions share with a keeper may be shared by threads
pub keeping_sync : IsSync Keeping.the_row
keeping_sync = search (sendable, crosses, backlog_lock) depth 40

-- the door of a server may be shared by threads
pub door_sync : IsSync Door.the_row
door_sync = search (sendable, crosses) depth 60 fits 100000
