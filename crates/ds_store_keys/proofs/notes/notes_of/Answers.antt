use Rattle.std.proofs.Common.{◌∙◌, sym}
use Rattle.ds_store_keys.proofs.Listing.{no_line}
use Rattle.ds_store_keys.proofs.notes.notes_of.Goals as goal

pub loop-line-init : goal.loop-line-init
loop-line-init c = c.new-notes.ensures.items ∙ sym (no_line c.args.layout.now)
