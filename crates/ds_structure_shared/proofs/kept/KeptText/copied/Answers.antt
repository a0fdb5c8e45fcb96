use Rattle.std.proofs.Common.{sym, subst}
use Rattle.ds_formula.specs.Grammar.{Reads}
use Rattle.ds_formula.specs.Plain.{PlainContent}
use Rattle.ds_structure_shared.proofs.Contents.{reads_had}
use Rattle.ds_structure_shared.proofs.kept.KeptText.copied.Goals as goal

pub returns-clause-reads : goal.returns-clause-reads
returns-clause-reads c =
    let kept = c.args.self.now in
    subst (λ (z : PlainContent). Reads kept.shape kept.text z) (sym c.in_ok-content.ensures) (reads_had _ _ _ kept.reads)
