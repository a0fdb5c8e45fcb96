-- That a world may cross threads: type by type, so that no search is long.
use Rattle.std.proofs.Crossing.{crosses}
use denote.Param.Send.{IsSend, sendable, view_send}
use denote.Param.SendFields.{declared_send, as_row_send}
use denote.Builtin.{usize}
use denote.Hole.{as_row}
use denote.Struct.Field.{usize-field, u64-field}
use denote.Struct.Declared.{row}
use denote.Struct.Record.{declared}
use Rattle.ds_layout.specs.contracts.place.Edition as Edition
use Rattle.ds_state.specs.contracts.edit.EditCall.TheInside as edit
use Rattle.ds_state.specs.contracts.work.WorkCall.TheInside as work
use Rattle.ds_formula.proofs.content.Tree.TheLaws.TheKnot.{crosses as trees}
use Rattle.ds_formula.specs.contracts.content.Content as Content
use Rattle.ds_eval.specs.contracts.inputs.Inputs as Inputs
use Rattle.ds_eval.specs.contracts.inputs.Entry as Entry
use Rattle.std.specs.contracts.alloc.Global as Global
use Rattle.std.specs.contracts.impls.GlobalAllocator.TheImpl.{ghosts}
use Rattle.std.specs.contracts.vec.Vec as Vec
use Rattle.ds_layout.specs.contracts.layout.Layout as Layout
use Rattle.ds_layout.specs.contracts.sheet_words.SheetWords as SheetWords
use Rattle.ds_words.specs.contracts.words.Words as Words
use Rattle.ds_state.specs.contracts.edit.EditCall as EditCall
use Rattle.ds_state.specs.contracts.ledger.Edit as Edit
use Rattle.ds_state.specs.contracts.ledger.Issue as Issue
use Rattle.ds_state.specs.contracts.reports.Reports as Reports
use Rattle.ds_state.specs.contracts.row.IndexRow as IndexRow
use Rattle.ds_state.specs.contracts.situation.Situation as Situation
use Rattle.ds_state.specs.contracts.stage.Stage as Stage
use Rattle.ds_state.specs.contracts.text.Text as Text
use Rattle.ds_state.specs.contracts.recovery.RecoverCall as RecoverCall
use Rattle.ds_state.specs.contracts.migration.MigrateCall as MigrateCall
use Rattle.ds_state.specs.contracts.recovery.RecoverStage as RecoverStage
use Rattle.ds_state.specs.contracts.show.ShowCall as ShowCall
use Rattle.ds_state.specs.contracts.show.ShowStage as ShowStage
use Rattle.ds_state.specs.contracts.work.WorkCall as WorkCall
use Rattle.ds_state.specs.contracts.work.WorkStage as WorkStage
use Rattle.ds_state.specs.contracts.world.World as World

pub Content-send : IsSend Content.the_row
Content-send = search (sendable, crosses, trees) depth 20

pub Inputs-send : IsSend Inputs.the_row
Inputs-send = search (sendable, crosses) depth 20

Text-send : IsSend Text.the_row
Text-send = search (sendable, crosses) depth 20

Edition-send : IsSend Edition.the_row
Edition-send = search (sendable, crosses) depth 20

IndexRow-send : IsSend IndexRow.the_row
IndexRow-send = search (sendable, crosses) depth 20

Stage-send : IsSend Stage.the_row
Stage-send = search (sendable, crosses) depth 60 fits 100000

WorkStage-send : IsSend WorkStage.the_row
WorkStage-send = search (sendable, crosses) depth 60 fits 100000

RecoverStage-send : IsSend RecoverStage.the_row
RecoverStage-send = search (sendable, crosses) depth 60 fits 100000

ShowStage-send : IsSend ShowStage.the_row
ShowStage-send = search (sendable, crosses) depth 60 fits 100000

pub usize-send : IsSend (as_row usize-field)
usize-send = search (sendable, crosses) depth 20

pub u64-send : IsSend (as_row u64-field)
u64-send = search (sendable, crosses) depth 20

pub Entry-send : IsSend Entry.the_row
Entry-send = search (sendable, crosses) depth 40 fits 100000

usizes-send : IsSend (Vec.the_row usize Global.the_row ghosts)
usizes-send = search (sendable, crosses) depth 20

EditCall-inside : IsSend (row (declared edit.struct edit.the_propositions))
EditCall-inside = declared_send (declared edit.struct edit.the_propositions) (
  usize-send,
  (
    usize-send,
    (
      Edition-send,
      (
        usize-send,
        (
          as_row_send Text.the_field Text-send,
          (
            as_row_send (Vec.the_field usize Global.the_row ghosts) usizes-send,
            (
              usize-send,
              (
                usize-send,
                (Stage-send, tt),
              ),
            ),
          ),
        ),
      ),
    ),
  ),
)

EditCall-send : IsSend EditCall.the_row
EditCall-send = view_send (row (declared edit.struct edit.the_propositions)) _ _ _ _ EditCall-inside

WorkCall-inside : IsSend (row (declared work.struct work.the_propositions))
WorkCall-inside = declared_send (declared work.struct work.the_propositions) (
  usize-send,
  (
    Edition-send,
    (
      usize-send,
      (
        usize-send,
        (
          usize-send,
          (
            usize-send,
            (
              u64-send,
              (
                u64-send,
                (
                  usize-send,
                  (
                    as_row_send Text.the_field Text-send,
                    (
                      Content-send,
                      (
                        as_row_send Inputs.the_field Inputs-send,
                        (
                          u64-send,
                          (
                            u64-send,
                            (
                              Entry-send,
                              (
                                as_row_send IndexRow.the_field IndexRow-send,
                                (WorkStage-send, tt),
                              ),
                            ),
                          ),
                        ),
                      ),
                    ),
                  ),
                ),
              ),
            ),
          ),
        ),
      ),
    ),
  ),
)

WorkCall-send : IsSend WorkCall.the_row
WorkCall-send = view_send (row (declared work.struct work.the_propositions)) _ _ _ _ WorkCall-inside

RecoverCall-send : IsSend RecoverCall.the_row
RecoverCall-send = search (sendable, crosses, IndexRow-send) depth 60 fits 100000

ShowCall-send : IsSend ShowCall.the_row
ShowCall-send = search (sendable, crosses) depth 60 fits 100000

MigrateCall-send : IsSend MigrateCall.the_row
MigrateCall-send = search (sendable, crosses) depth 60 fits 100000

Situation-send : IsSend Situation.the_row
Situation-send = search (sendable, crosses, EditCall-send, WorkCall-send, RecoverCall-send, ShowCall-send, MigrateCall-send) depth 60 fits 100000

Words-send : IsSend Words.the_row
Words-send = search (sendable, crosses) depth 40

Layout-send : IsSend Layout.the_row
Layout-send = search (sendable, crosses) depth 20

SheetWords-send : IsSend SheetWords.the_row
SheetWords-send = search (sendable, crosses, Words-send) depth 60 fits 100000

Edit-send : IsSend Edit.the_row
Edit-send = search (sendable, crosses, Text-send) depth 40

Issue-send : IsSend Issue.the_row
Issue-send = search (sendable, crosses, Edit-send) depth 40

Reports-send : IsSend Reports.the_row
Reports-send = search (sendable, crosses) depth 20

-- a world may go to another thread
pub world_send : IsSend World.the_row
world_send = search (sendable, crosses, SheetWords-send, Situation-send, Edit-send, Issue-send, Reports-send, Inputs-send) depth 60 fits 100000
