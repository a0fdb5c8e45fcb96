-- Rows as they are read, one by one.
use Rattle.std.proofs.Common.{ℕ, ◌≡◌, ◌<◌, ◌+◌, ◌∙◌, List, [], ◌∷◌, ◌++◌, length, map, drop, get_or, refl, sym, ap, append_assoc}
use Rattle.std.specs.Prelude.{Option, Some, None, option_map}
use Rattle.std.proofs.lemmas.List.{drop_more}
use Rattle.csv.specs.Writing.{default_writer, row_text}
use Rattle.serde_json.specs.Find.{as_str}
use Rattle.serde_json.specs.View.{items_of, items_view, view}
use Rattle.serde_json.specs.declared.value.Value.{Value}
use Rattle.ds_script_io.specs.Fields.{◌>>=◌}
use Rattle.ds_client.specs.AnswerLines.{entries_in, entry_shown, row_in, rows_in, texts_in}

-- what is left of the row, from a field on
field_here : (row : List Value) (i : ℕ) (field : Value) → i < length row → field ≡ get_or row i field → items_view (drop i row) ≡ items_of (view field ∷ map view (drop (i + 1) row))
field_here row i field low at = ap (λ (l : List Value). items_view l) (drop_more row i field low ∙ ap (λ (f : Value). f ∷ drop (i + 1) row) (sym at))

onto : List (List ℕ) → Option (List (List ℕ)) → Option (List (List ℕ))
onto done more = option_map (λ texts. done ++ texts) more

-- one field more is read
pub text_more : (row : List Value) (i : ℕ) (field : Value) (text : List ℕ) (done new : List (List ℕ)) (whole : Option (List (List ℕ))) → i < length row → field ≡ get_or row i field → as_str (view field) ≡ Some text → new ≡ done ++ text ∷ []
    → option_map (λ texts. done ++ texts) (texts_in (items_view (drop i row))) ≡ whole → option_map (λ texts. new ++ texts) (texts_in (items_view (drop (i + 1) row))) ≡ whole
text_more row i field text done new whole low at reads is so_far =
    go (texts_in (items_view (drop (i + 1) row))) refl
  where
    step : texts_in (items_view (drop i row)) ≡ texts_in (items_view (drop (i + 1) row)) >>= λ texts. Some (text ∷ texts)
    step = ap texts_in (field_here row i field low at) ∙ ap (λ (o : Option (List ℕ)). o >>= λ t. texts_in (items_view (drop (i + 1) row)) >>= λ texts. Some (t ∷ texts)) reads

    go : (rest : Option (List (List ℕ))) → texts_in (items_view (drop (i + 1) row)) ≡ rest → option_map (λ texts. new ++ texts) (texts_in (items_view (drop (i + 1) row))) ≡ whole
    go None e =
        ap (option_map (λ (texts : List (List ℕ)). new ++ texts)) e ∙ sym (ap (option_map (λ (texts : List (List ℕ)). done ++ texts)) (step ∙ ap (λ (o : Option (List (List ℕ))). o >>= λ texts. Some (text ∷ texts)) e)) ∙ so_far
    go (Some rest) e =
        ap (option_map (λ (texts : List (List ℕ)). new ++ texts)) e ∙ ap (λ (l : List (List ℕ)). Some (l ++ rest)) is ∙ ap Some (append_assoc done (text ∷ []) rest)
        ∙ sym (ap (option_map (λ (texts : List (List ℕ)). done ++ texts)) (step ∙ ap (λ (o : Option (List (List ℕ))). o >>= λ texts. Some (text ∷ texts)) e)) ∙ so_far

-- a field that is no text
pub text_none : (row : List Value) (i : ℕ) (field : Value) (done : List (List ℕ)) (whole : Option (List (List ℕ))) → i < length row → field ≡ get_or row i field → as_str (view field) ≡ None
    → option_map (λ texts. done ++ texts) (texts_in (items_view (drop i row))) ≡ whole → None ≡ whole
text_none row i field done whole low at none so_far =
    sym (ap (λ (o : Option (List (List ℕ))). option_map (λ (texts : List (List ℕ)). done ++ texts) o) (ap texts_in (field_here row i field low at) ∙ ap (λ (o : Option (List ℕ)). o >>= λ t. texts_in (items_view (drop (i + 1) row)) >>= λ texts. Some (t ∷ texts)) none)) ∙ so_far

-- one row more is written
pub row_more : (rows : List Value) (i : ℕ) (row : Value) (lines new : List ℕ) (texts : List (List ℕ)) (whole : Option (List ℕ)) → i < length rows → row ≡ get_or rows i row → row_in (view row) ≡ Some texts → new ≡ lines ++ row_text default_writer texts
    → option_map (λ text. lines ++ text) (rows_in (items_view (drop i rows))) ≡ whole → option_map (λ text. new ++ text) (rows_in (items_view (drop (i + 1) rows))) ≡ whole
row_more rows i row lines new texts whole low at reads is so_far = go (rows_in (items_view (drop (i + 1) rows))) refl
  where
    step : rows_in (items_view (drop i rows)) ≡ rows_in (items_view (drop (i + 1) rows)) >>= λ more. Some (row_text default_writer texts ++ more)
    step = ap rows_in (field_here rows i row low at) ∙ ap (λ (o : Option (List (List ℕ))). o >>= λ t. rows_in (items_view (drop (i + 1) rows)) >>= λ more. Some (row_text default_writer t ++ more)) reads

    go : (rest : Option (List ℕ)) → rows_in (items_view (drop (i + 1) rows)) ≡ rest → option_map (λ text. new ++ text) (rows_in (items_view (drop (i + 1) rows))) ≡ whole
    go None e =
        ap (option_map (λ (text : List ℕ). new ++ text)) e ∙ sym (ap (option_map (λ (text : List ℕ). lines ++ text)) (step ∙ ap (λ (o : Option (List ℕ)). o >>= λ more. Some (row_text default_writer texts ++ more)) e)) ∙ so_far
    go (Some rest) e =
        ap (option_map (λ (text : List ℕ). new ++ text)) e ∙ ap (λ (l : List ℕ). Some (l ++ rest)) is ∙ ap Some (append_assoc lines (row_text default_writer texts) rest)
        ∙ sym (ap (option_map (λ (text : List ℕ). lines ++ text)) (step ∙ ap (λ (o : Option (List ℕ)). o >>= λ more. Some (row_text default_writer texts ++ more)) e)) ∙ so_far

-- a row that is none
pub row_none : (rows : List Value) (i : ℕ) (row : Value) (lines : List ℕ) (whole : Option (List ℕ)) → i < length rows → row ≡ get_or rows i row → row_in (view row) ≡ None
    → option_map (λ text. lines ++ text) (rows_in (items_view (drop i rows))) ≡ whole → None ≡ whole
row_none rows i row lines whole low at none so_far =
    sym (ap (λ (o : Option (List ℕ)). option_map (λ (text : List ℕ). lines ++ text) o) (ap rows_in (field_here rows i row low at) ∙ ap (λ (o : Option (List (List ℕ))). o >>= λ t. rows_in (items_view (drop (i + 1) rows)) >>= λ more. Some (row_text default_writer t ++ more)) none)) ∙ so_far

-- one edit more is written
pub entry_more : (edits : List Value) (i : ℕ) (edit : Value) (lines new line : List ℕ) (whole : Option (List ℕ)) → i < length edits → edit ≡ get_or edits i edit → entry_shown (view edit) ≡ Some line → new ≡ lines ++ line
    → option_map (λ text. lines ++ text) (entries_in (items_view (drop i edits))) ≡ whole → option_map (λ text. new ++ text) (entries_in (items_view (drop (i + 1) edits))) ≡ whole
entry_more edits i edit lines new line whole low at reads is so_far = go (entries_in (items_view (drop (i + 1) edits))) refl
  where
    step : entries_in (items_view (drop i edits)) ≡ entries_in (items_view (drop (i + 1) edits)) >>= λ more. Some (line ++ more)
    step = ap entries_in (field_here edits i edit low at) ∙ ap (λ (o : Option (List ℕ)). o >>= λ l. entries_in (items_view (drop (i + 1) edits)) >>= λ more. Some (l ++ more)) reads

    go : (rest : Option (List ℕ)) → entries_in (items_view (drop (i + 1) edits)) ≡ rest → option_map (λ text. new ++ text) (entries_in (items_view (drop (i + 1) edits))) ≡ whole
    go None e =
        ap (option_map (λ (text : List ℕ). new ++ text)) e ∙ sym (ap (option_map (λ (text : List ℕ). lines ++ text)) (step ∙ ap (λ (o : Option (List ℕ)). o >>= λ more. Some (line ++ more)) e)) ∙ so_far
    go (Some rest) e =
        ap (option_map (λ (text : List ℕ). new ++ text)) e ∙ ap (λ (l : List ℕ). Some (l ++ rest)) is ∙ ap Some (append_assoc lines line rest)
        ∙ sym (ap (option_map (λ (text : List ℕ). lines ++ text)) (step ∙ ap (λ (o : Option (List ℕ)). o >>= λ more. Some (line ++ more)) e)) ∙ so_far

-- an item that is no edit
pub entry_none : (edits : List Value) (i : ℕ) (edit : Value) (lines : List ℕ) (whole : Option (List ℕ)) → i < length edits → edit ≡ get_or edits i edit → entry_shown (view edit) ≡ None
    → option_map (λ text. lines ++ text) (entries_in (items_view (drop i edits))) ≡ whole → None ≡ whole
entry_none edits i edit lines whole low at none so_far =
    sym (ap (λ (o : Option (List ℕ)). option_map (λ (text : List ℕ). lines ++ text) o) (ap entries_in (field_here edits i edit low at) ∙ ap (λ (o : Option (List ℕ)). o >>= λ l. entries_in (items_view (drop (i + 1) edits)) >>= λ more. Some (l ++ more)) none)) ∙ so_far
