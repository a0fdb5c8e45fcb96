use Rattle.std.proofs.Common.{map}
use Rattle.std.specs.String.{string_bytes}
use Rattle.ds_store_journal.proofs.Noting.{if_err}
use Rattle.ds_store.proofs.Unkept.{only_memory}
use Rattle.ds_store.proofs.summing.sum_up.Goals as goal

pub returns-in_err-add_all-clause-plain : goal.returns-in_err-add_all-clause-plain
returns-in_err-add_all-clause-plain c before at none =
    if_err c.from_residual.result _ _ c.from_residual.ensures (λ told is.
    rw is (only_memory before (map string_bytes c.args.lines.items) c.in_err-add_all.field-0.0 none (rw c.deref.ensures.value at (c.in_err-add_all.ensures.wrong before at))))
