use Rattle.std.proofs.Common.{refl, ap, ◌∙◌}
use Rattle.c_handles.specs.Handles.{content}
use Rattle.ds_c.specs.Rows.{size_row}
use Rattle.ds_c.proofs.closed_calls.size.Goals as goal

pub returns : goal.returns
returns c = content c.in-Closed.closed c.in-Closed.closed c.in-Closed.is c.in-Closed.is (c.of.ensures ∙ ap size_row c.layout.ensures, refl)
