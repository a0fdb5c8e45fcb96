use Rattle.std.proofs.Common.{◌≡◌, ◌∷◌, map}
use Rattle.std.specs.String.{string_bytes}
use Rattle.ds_store_commands.specs.Asked.{IsPartOf, IsShownAt}
use Rattle.ds_store_commands.proofs.Asked.{if_ok, shown_at}
use Rattle.ds_store_commands.proofs.log.table_at.Goals as goal

pub returns : goal.returns
returns c =
    let are : c.args.lines.now ≡ c.in-Some.field-0-0.now ∷ c.in-Some.rest.now = c.in-Some.ensures.cases.0 in
    if_ok (λ v. IsPartOf c.args.only c.in_ok-table.table.items v.items) (λ v. IsShownAt c.args.cells (map string_bytes c.args.lines.now) c.args.edits c.args.only v.items) c.part_of.result
    (λ v part. shown_at c.args.cells c.args.lines.now c.first_lines.result.now c.in-Some.rest.now c.in-Some.field-0-0.now c.args.edits c.first_edits.result c.saturating_add-count.result c.args.only c.in_ok-table.table.items v.items
    are c.well_formed.1.1.0.0 c.first_edits.ensures c.saturating_add-count.ensures c.first_lines.ensures c.in_ok-table.ensures part)
    c.part_of.ensures
