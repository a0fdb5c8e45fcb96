use Rattle.std.proofs.Common.{◌≡◌, ◌∙◌, ◌+◌, ◌∷◌, [], ℕ, Some, ap, sym, get_or, ⊎_elim, arith}
use Rattle.std.proofs.lemmas.List.{get_or_read}
use Rattle.ds_store_journal.specs.Journals.{asked_view}
use Rattle.ds_store_journal.specs.Standings.{none_made, one_more}
use Rattle.ds_store_journal.specs.declared.standing.Standing.{Standing}
use Rattle.ds_store_edits.proofs.Makers.{by_cases, stand_counted, tellings_edit, uncounted_edit, uncounted_on}
use Rattle.ds_store_edits.proofs.edits.Passed.count.Goals as goal

pub returns-clause-passed : goal.returns-clause-passed
returns-clause-passed c layout before after line below skipped asks has =
    let xs = c.args.self.now.standings.items in
    let process = c.args.asked.process in
    let was = c.index.result.now in
    let counted : ℕ → Standing = λ n. record { edits = n; last = Some c.args.asked.cell } in
    let edits = c.saturating_add-edits.result in
    record {
      standings = λ none.
          let room = c.is_full-self.ensures.room none in
          let more : edits ≡ was.edits + 1 = omega (arith, room.1, c.saturating_add-edits.ensures) in
          let same : (e : Standing) → counted edits ≡ one_more c.args.asked.cell (get_or xs process e) =
          λ e. ap counted (more ∙ ap (λ (s : Standing). s.edits + 1) (get_or_read xs process was c.requires c.index.ensures e)) in
          stand_counted layout xs before line (asked_view c.args.asked) (counted edits) c.requires skipped asks same (has.standings room.0);
      left = has.left ∙ tellings_edit layout line after skipped;
      full = λ is. by_cases c.args.self.now.full (λ was. uncounted_on layout before (line ∷ []) (has.full was)) (λ room.
          let stood = ap (λ (s : Standing). s.edits) (get_or_read xs process was c.requires c.index.ensures none_made) in
          let many = ⊎_elim (λ full. absurd (let e = room in cc)) (λ most. omega (arith, most, stood, c.saturating_add-edits.ensures)) (c.is_full-self.ensures.full is) in
          uncounted_edit layout xs before line (asked_view c.args.asked) below skipped (sym asks) many (has.standings room));
    }
