-- What follows a change to a new sheet follows what was before it.
use Rattle.std.proofs.Common.{ℕ, ◌≡◌, ◌<◌, ◌++◌, ◌∷◌, ◌==◌, [], List, refl, ap, ◌∙◌, if◌then◌else◌}
use Rattle.ds_formula.specs.declared.cells.Shape.{Shape}
use Rattle.ds_formula.specs.Cells.{count_of, index_of}
use Rattle.ds_layout.specs.declared.layout.Layout.{Layout}
use Rattle.ds_store_journal.specs.declared.standing.Standing.{Standing}
use Rattle.ds_store_journal.specs.Joining.{joins_of}
use Rattle.ds_store_journal.specs.Journals.{KeptEdit}
use Rattle.ds_store_journal.specs.Standings.{none_made, standing_after, standing_from, standing_of}
use Rattle.ds_store.specs.GoingOver.{GoesOver}
use Rattle.ds_store.specs.Texts.{text_after, text_at}

more_lines : (layout : Layout) (process : ℕ) (s : Standing) (lines more : List (List ℕ)) → standing_from layout process s (lines ++ more) ≡ standing_from layout process (standing_from layout process s lines) more
unfolding standing_from
more_lines layout process s [] more = refl
more_lines layout process s (line ∷ lines) more = more_lines layout process (standing_after layout process s line) lines more

more_edits : (shape : Shape) (k : ℕ) (text : List ℕ) (edits more : List KeptEdit) → text_after shape k text (edits ++ more) ≡ text_after shape k (text_after shape k text edits) more
unfolding text_after
more_edits shape k text [] more = refl
more_edits shape k text (edit ∷ edits) more = more_edits shape k (if index_of shape edit.cell == k then edit.text else text) edits more

pub numbers_go_on : (old new more : List (List ℕ)) (over : GoesOver old new) (process : ℕ) → process < joins_of over.layout old
    → standing_of over.again process (new ++ more) ≡ standing_from over.again process (standing_of over.layout process old) more
numbers_go_on old new more over process low =
    more_lines over.again process none_made new more ∙ ap (λ s. standing_from over.again process s more) (over.standings process low)

pub texts_go_on : (old new : List (List ℕ)) (over : GoesOver old new) (more : List KeptEdit) (cell : ℕ) → cell < count_of over.layout.shape
    → text_at over.again.shape cell (over.texts.again ++ more) ≡ text_after over.again.shape cell (text_at over.layout.shape cell over.texts.edits) more
texts_go_on old new over more cell low =
    more_edits over.again.shape cell [] over.texts.again more ∙ ap (λ t. text_after over.again.shape cell t more) (over.texts.texts cell low)
