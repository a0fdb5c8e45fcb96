use Rattle.std.proofs.Common.{◌≡◌, ◌∙◌, ℕ, List, subst, sym}
use Rattle.ds_paths.specs.Sums.{AreSums}
use Rattle.ds_paths.proofs.Counting.{counted, same_numbers}
use Rattle.ds_paths.proofs.count.are_counts.Goals as goal

pub returns : goal.returns
returns g c = λ yes.
    let same : c.in_ok-sums.sums.items ≡ c.args.counts.now = sym c.as_slice.ensures.value ∙ same_numbers c.as_slice.result.now c.args.counts.now (sym c.eq.ensures ∙ yes) in
    counted c.args.edges.now c.args.ranks.now c.args.counts.now c.requires (c.leads_up.ensures c.if-not-leads_up.false) c.if-ranks-counts.false
    (subst (λ (sums : List ℕ). AreSums c.args.edges.now c.args.counts.now sums) same c.in_ok-sums.ensures)
