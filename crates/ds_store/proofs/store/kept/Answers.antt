use Rattle.std.proofs.Common.{rules, ◌≡◌, ◌++◌, ◌∷◌, [], List, ap, sym, subst, ◌∙◌, Some, IfSome}
use Rattle.std.specs.String.{string_bytes}
use Rattle.ds_store_journal.specs.Journals.{AreCounts, KeptEdit, edits_by}
use Rattle.ds_store_keys.proofs.Plain.{not_skipped}
use Rattle.ds_store.proofs.Growing.{if_ok, keeps_one}
use Rattle.ds_store.proofs.store.kept.Goals as goal

pub returns-then-eq-clause-keyless : goal.returns-then-eq-clause-keyless
returns-then-eq-clause-keyless c = if_ok c.edit_line.result c.edit_line.ensures.asks (λ line reads. not_skipped c.args.layout.now (string_bytes line) reads.0)

pub returns-then-eq-clause-journal : goal.returns-then-eq-clause-journal
returns-then-eq-clause-journal c =
    let edit = c.args.edit.now in
    let inside = c.edit.inside in
    let old = c.args.counts.now.counts.items in
    let new = c.count.new.self.counts.items in
    let process : edit.process ≡ inside.process = sym (ap (λ (e : KeptEdit). e.process) c.edit.view_is) in
    let number : edit.number ≡ inside.number = sym (ap (λ (e : KeptEdit). e.number) c.edit.view_is) in
    let is : c.count.result ≡ Some inside.number = search rules in
    let counted = subst (λ r. IfSome r (λ n. (edits : List KeptEdit) (e : KeptEdit) → AreCounts old edits → e.process ≡ inside.process → (n ≡ edits_by inside.process edits) × AreCounts new (edits ++ e ∷ []))) is c.count.ensures.counted in
    if_ok c.edit_line.result c.edit_line.ensures.asks (λ line reads lines edits g.
    let k = counted edits edit g.counts_are process in
    keeps_one c.args.layout.now old new lines (string_bytes line) edits edit g reads.0 reads.1 (number ∙ (k.0 ∙ ap (λ p. edits_by p edits) (sym process))) k.1)
