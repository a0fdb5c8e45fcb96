use Rattle.std.proofs.Common.{rules, ◌≡◌, ◌<◌, ◌+◌, ◌∙◌, length, get_or}
use Rattle.ds_store_journal.proofs.Counting.{counted}
use Rattle.ds_store_journal.proofs.counts.EditCounts.count.Goals as goal

pub returns-clause-counted : goal.returns-clause-counted
returns-clause-counted c edits edit are same =
    let xs = c.args.self.now.counts.items in
    let p = c.args.process in
    let low : p < length xs = search rules in
    let is : c.in_ok-number.field-0.now ≡ get_or xs p 0 = search rules in
    let next : c.in_ok-more.more ≡ c.in_ok-number.field-0.now + 1 = search rules in
    (is ∙ are p, counted xs p c.in_ok-number.field-0.now c.in_ok-more.more edits edit low is next are same)
