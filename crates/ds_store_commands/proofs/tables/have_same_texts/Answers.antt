use Rattle.std.proofs.Common.{◌≡◌, ◌<◌, ◌∙◌, rules, subst, sym}
use Rattle.ds_store_commands.proofs.Firsts.{element}
use Rattle.ds_store_commands.proofs.tables.have_same_texts.Goals as goal

pub returns : goal.returns
returns c same lines has =
    let texts = c.args.texts.now in
    let grid = c.in-Ok.ensures.shape in
    let columns : texts.layout.shape.columns ≡ c.in-Ok.grid.columns = search rules in
    let rows : texts.layout.shape.rows ≡ c.in-Ok.grid.rows = search rules in
    record {
      layout = texts.layout;
      edits = has.edits;
      journal = has.goes_on.journal;
      grid = record { even = grid.even; columns = columns ∙ grid.columns; rows_are = rows ∙ grid.rows_are };
      each = λ k low.
          let d = element texts.texts.items k (subst (λ n. k < n) (sym texts.all) low) in
          c.are_texts.ensures same k d low ∙ has.texts_are k d low;
    }
