use Rattle.std.proofs.Common.{ap, sym, ◌∙◌}
use Rattle.ds_structure_shared.specs.Boards.{new_words}
use Rattle.ds_c.proofs.sheet_calls.made.Goals as goal

pub returns-in-Ok-new-clause-ok : goal.returns-in-Ok-new-clause-ok
returns-in-Ok-new-clause-ok c =
    let layout = c.in-Ok.ensures.layout in
    let shape = ap (λ l. l.shape) layout ∙ c.in-Some-new.ensures.value.0 in
    record {
      sheet = c.in-Ok.sheet;
      is = c.in-Ok-new.ensures.ok;
      columns_are = ap (λ s. s.columns) shape ∙ c.in-Some.ensures.value.0;
      rows_are = ap (λ s. s.rows) shape ∙ c.in-Some.ensures.value.1;
      processes_are = ap (λ l. l.processes) layout ∙ c.in-Some-new.ensures.value.1;
      words = c.in-Ok.ensures.words ∙ ap new_words (sym layout);
      fresh = c.in-Ok.ensures.fresh.0;
      past = c.in-Ok.ensures.fresh.1;
    }
