-- A journal that grows by a line.
use Rattle.std.proofs.Common.{◌≡◌, ◌∙◌, ap, sym, subst, ◌++◌, ◌∷◌, [], ℕ, List, Bool, true, false, cond, map, refl, Some, Result, Ok, Err, IfOk, OnOk}
use Rattle.std.specs.Prelude.{IfErr, filter}
use Rattle.std.proofs.lemmas.List.{append_assoc}
use Rattle.ds_layout.specs.declared.layout.Layout.{Layout}
use Rattle.ds_script_io.specs.Fields.{is_skipped}
use Rattle.ds_store_journal.specs.Journals.{AreCounts, IsJournal, KeptEdit, asked_by, edit_in, edits_by}
use Rattle.ds_store.specs.Stores.{GoesOn}

-- by a line that is passed over
pub passes_over : (layout : Layout) (counts : List ℕ) (lines : List (List ℕ)) (line : List ℕ) (edits : List KeptEdit) → GoesOn layout counts lines edits → is_skipped line ≡ true
    → GoesOn layout counts (lines ++ line ∷ []) edits
passes_over layout counts lines line edits g is = record { journal = IsJournal.skips lines line edits g.journal is; counts_are = g.counts_are }

-- by lines of which the last one is passed over
pub sum_after : (layout : Layout) (counts : List ℕ) (held plain all : List (List ℕ)) (sum : List ℕ) (edits : List KeptEdit) → GoesOn layout counts (held ++ plain) edits → all ≡ plain ++ sum ∷ []
    → is_skipped sum ≡ true → GoesOn layout counts (held ++ all) edits
sum_after layout counts held plain all sum edits g is skipped =
    subst (λ ls. GoesOn layout counts ls edits) (append_assoc held plain (sum ∷ []) ∙ ap (λ t. held ++ t) (sym is)) (passes_over layout counts (held ++ plain) sum edits g skipped)

-- by the line of an edit
pub keeps_one : (layout : Layout) (old new : List ℕ) (lines : List (List ℕ)) (line : List ℕ) (edits : List KeptEdit) (edit : KeptEdit) → GoesOn layout old lines edits → is_skipped line ≡ false
    → edit_in layout line ≡ Some (asked_by edit) → edit.number ≡ edits_by edit.process edits → AreCounts new (edits ++ edit ∷ []) → GoesOn layout new (lines ++ line ∷ []) (edits ++ edit ∷ [])
keeps_one layout old new lines line edits edit g is asks number are = record { journal = IsJournal.keeps lines line edits edit g.journal is asks number; counts_are = are }

-- where it is so of what came well, so is what follows of it
pub if_ok : {T E : Type 0} {P Q : T → Type 0} (r : Result T E) → IfOk r P → ((x : T) → P x → Q x) → IfOk r Q
if_ok (Ok x) h f = f x h
if_ok (Err e) h f = h

pub on_ok : {T E : Type 0} {P Q : Type 0} (r : Result T E) → OnOk r P → (P → Q) → OnOk r Q
on_ok (Ok x) h f = f h
on_ok (Err e) h f = h

pub if_err : {T E : Type 0} {P Q : E → Type 0} (r : Result T E) → IfErr r P → ((e : E) → P e → Q e) → IfErr r Q
if_err (Ok x) h f = h
if_err (Err e) h f = f e h

-- ---- some of the lines

either : {A B : Type 0} (f : A → B) (x : A) (xs : List A) (ys : List B) (b : Bool) → map f xs ≡ ys → map f (cond b (x ∷ xs) xs) ≡ cond b (f x ∷ ys) ys
either f x xs ys true h = ap (λ ts. f x ∷ ts) h
either f x xs ys false h = h

-- those of which it is so are seen by view as those that are seen so
pub map_filter : {A B : Type 0} (f : A → B) (p : B → Bool) (xs : List A) → map f (filter (λ x. p (f x)) xs) ≡ filter p (map f xs)
map_filter f p [] = refl
map_filter f p (x ∷ xs) = either f x (filter (λ a. p (f a)) xs) (filter p (map f xs)) (p (f x)) (map_filter f p xs)
