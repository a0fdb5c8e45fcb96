use Rattle.std.proofs.Common.{rules, ◌≡◌, ◌++◌, ◌∷◌, [], ap, ◌∙◌, length, length-append, get_or, arith}
use Rattle.ds_store_journal.specs.Journals.{edits_by}
use Rattle.ds_store_journal.proofs.Counting.{zeros_more}
use Rattle.ds_store_journal.proofs.counts.EditCounts.new.Goals as goal

pub loop-process-preserved : goal.loop-process-preserved
loop-process-preserved c =
    let items : c.push_reserved.new.self.items ≡ c.loop-process.counts.items ++ 0 ∷ [] = c.push_reserved.ensures.items in
    let long = length-append c.loop-process.counts.items (0 ∷ []) in
    let more = ap length items in
    let so = c.loop-process.invariant.0 in
    (omega (arith, long, more, so), search rules, λ k. ap (λ xs. get_or xs k 0) items ∙ zeros_more c.loop-process.counts.items c.loop-process.invariant.2 k)

pub returns-clause-none : goal.returns-clause-none
unfolding edits_by
returns-clause-none c p = c.loop-process.invariant.2 p
