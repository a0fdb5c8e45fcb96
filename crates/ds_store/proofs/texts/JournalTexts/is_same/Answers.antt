use Rattle.std.proofs.Common.{rules, ◌≡◌, ◌<◌, ◌*◌, ap, sym, ◌∙◌, length, get_or, subst}
use Rattle.ds_formula.specs.Cells.{count_of}
use Rattle.ds_store.proofs.Taking.{element}
use Rattle.ds_store.proofs.texts.JournalTexts.is_same.Goals as goal

pub returns-then-shape-again-2 : goal.returns-then-shape-again-2
returns-then-shape-again-2 c same lines more h g =
    let one = c.args.self.now in
    let two = c.args.other.now in
    let columns : two.layout.shape.columns ≡ one.layout.shape.columns = search rules in
    let rows : two.layout.shape.rows ≡ one.layout.shape.rows = search rules in
    let cells : count_of two.layout.shape ≡ count_of one.layout.shape = ap (λ n. n * two.layout.shape.rows) columns ∙ ap (λ n. one.layout.shape.columns * n) rows in
    record {
      edits = h.edits;
      again = g.edits;
      journal = h.goes_on.journal;
      other_journal = g.goes_on.journal;
      columns_are = columns;
      rows_are = rows;
      texts = λ k low.
          let here : k < length one.texts.items = subst (λ n. k < n) (sym one.all) low in
          let there : k < count_of two.layout.shape = subst (λ n. k < n) (sym cells) low in
          let d = element one.texts.items k here in
          let a : c.deref.result.now ≡ one.texts.items = c.deref.ensures.value in
          let b : c.deref-then-shape-again-2.result.now ≡ two.texts.items = c.deref-then-shape-again-2.ensures.value in
          let alike = c.are_same.ensures same k d (subst (λ xs. k < length xs) (sym a) here) in
          let step : (get_or two.texts.items k d).items ≡ (get_or one.texts.items k d).items =
          subst (λ xs. (get_or two.texts.items k d).items ≡ (get_or xs k d).items) a (subst (λ ys. (get_or ys k d).items ≡ (get_or c.deref.result.now k d).items) b alike) in
          sym (g.texts_are k d there) ∙ (step ∙ h.texts_are k d low);
    }
