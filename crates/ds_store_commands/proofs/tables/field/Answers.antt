use Rattle.ds_grid.proofs.Fields.{field_some, field_none}
use Rattle.ds_store_commands.proofs.tables.field.Goals as goal

pub returns-in-Some : goal.returns-in-Some
returns-in-Some c = field_some c.args.rows.now c.args.cell c.index-rows-cell.result c.in-Some.field.now c.requires c.index-rows-cell.is c.in-Some.ensures.value

pub returns-in-None : goal.returns-in-None
returns-in-None c = field_none c.args.rows.now c.args.cell c.index-rows-cell.result c.requires c.index-rows-cell.is c.in-None.ensures.value
