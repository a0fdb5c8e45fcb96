use Rattle.std.proofs.Common.{ℕ, ◌≡◌, List, subst}
use Rattle.std.specs.Prelude.{Option, IfSome}
use Rattle.ds_formula.specs.Cells.{index_of}
use Rattle.ds_edit.specs.Begun.{IsAskedFor}
use Rattle.ds_edit.proofs.Beginning.{prepared, prepared_asked}
use Rattle.ds_edit.proofs.begin.prepared.Goals as goal

asked : (c : goal.After-cells) → IsAskedFor c.args.layout.now c.args.process (index_of c.args.layout.now.shape c.args.cell) c.args.text.now c.args.next.number
    (prepared c.args.layout.now c.args.process c.args.next c.index.result c.unwrap-text.result c.in_ok-content.refs.items c.cells.result)
asked c =
    let same : c.unwrap-text.result ≡ c.args.text.now = subst (λ (o : Option (List ℕ)). IfSome o (λ t. t ≡ c.args.text.now)) c.unwrap-text.ensures c.new.ensures.same in
    prepared_asked c.args.layout.now c.args.process (index_of c.args.layout.now.shape c.args.cell) c.index.result c.cells.result c.args.next c.args.text.now c.unwrap-text.result c.in_ok-content.refs.items
    same c.is_always_a_text.ensures c.in_ok-content.ensures.fits c.in_ok-content.ensures.text c.requires.process c.requires.number c.in_ok-content.ensures.number c.index.ensures.value c.index.ensures.below c.cells.ensures.value

pub invariant_of-call : goal.invariant_of-call
invariant_of-call c = (asked c).is

pub returns-clause-asked : goal.returns-clause-asked
returns-clause-asked c = asked c
