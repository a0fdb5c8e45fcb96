use Rattle.std.proofs.Common.{arith, ◌-◌, length}
use Rattle.std.proofs.lemmas.List.Elements.{Contains-get_or}
use Rattle.ds_formula.proofs.Lists.{behind_last}
use Rattle.ds_formula.proofs.references.is_behind.Goals as goal

pub returns-in-len1-up : goal.returns-in-len1-up
returns-in-len1-up c =
    let cells = c.args.cells.now in
    let some = c.in-len1-up.len_at_least in
    (λ yes. behind_last cells _ c.args.cell c.requires some (c.is_before.ensures.0 yes), λ behind. c.is_before.ensures.1 (behind _ (Contains-get_or cells (length cells - 1) _ (omega (arith, some)))))
