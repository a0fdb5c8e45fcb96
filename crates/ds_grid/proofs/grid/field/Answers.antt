use Rattle.ds_grid.proofs.Fields.{field_some, field_none}
use Rattle.ds_grid.proofs.grid.field.Goals as goal

pub returns-in-Some : goal.returns-in-Some
returns-in-Some c = field_some c.args.records.now c.args.cell c.index-records-cell.result c.in-Some.field.now c.requires c.index-records-cell.is c.in-Some.ensures.value

pub returns-in-None : goal.returns-in-None
returns-in-None c = field_none c.args.records.now c.args.cell c.index-records-cell.result c.requires c.index-records-cell.is c.in-None.ensures.value
