use Rattle.std.proofs.Common.{refl, subst, sym}
use Rattle.ds_store_keys.specs.Tables.{AreKeys}
use Rattle.ds_store_keys.proofs.Listing.{no_line}
use Rattle.ds_store_keys.proofs.table.KeyTable.of_lines.Goals as goal

pub loop-line-init : goal.loop-line-init
loop-line-init c = (subst (AreKeys c.new-table.result) (sym (no_line c.args.layout.now)) c.new-table.ensures.keys, refl)
