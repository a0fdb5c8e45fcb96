-- The record that a cell's head names is that of its last edit.
use Rattle.std.proofs.Common.{ℕ, ◌≡◌, ◌<◌, ◌≤◌, ◌+◌, ◌⊎◌, List, [], ◌∷◌, ◌++◌, length, length-append, refl, ap, sym, ◌∙◌, subst, arith, inl, inr, zero, suc, get_or}
use Rattle.std.specs.Prelude.{All, Contains, Option, Some, None, ◌==◌}
use Rattle.std.proofs.Math.Seq.{get_or-append_seam}
use Rattle.std.proofs.lemmas.List.{get_or_default}
use Rattle.std.proofs.lemmas.List.Elements.{All-filter}
use Rattle.ds_layout.specs.declared.head.Head as declared
use Rattle.ds_layout.specs.declared.place.Place.TheVariants as place
use Rattle.ds_layout.specs.Places.{cells_of}
use Rattle.ds_layout.specs.Head.{head_of}
use Rattle.ds_layout.proofs.Packed.{head_of-head_word}
use Rattle.ds_state.specs.World.{PlainEdit, PlainWorld, record_place, record_word, record_size, of_cell, head_after_all}
use Rattle.ds_state.specs.Sound.{IsSound, IsOfSheet}
use Rattle.ds_state.specs.Shown.{last_text, named_at, text_at, HasRecord}
use Rattle.ds_state.proofs.Heads.{head_push}
use Rattle.ds_state.proofs.ReadBack.{record_read}
use Rattle.ds_state.proofs.Few.{of_cell_few}
use Rattle.ds_layout.specs.declared.place.Edition.{Edition}
use Rattle.ds_layout.specs.declared.place.Edition.TheVariants.{First, Second}
use Rattle.ds_state.specs.Editions.{seen_edition, most_in}

last_push : (before : List PlainEdit) (e : PlainEdit) → last_text (before ++ e ∷ []) ≡ e.text
last_push [] e = refl
last_push (x ∷ []) e = refl
last_push (x ∷ y ∷ xs) e = last_push (y ∷ xs) e

last_cases : (es : List PlainEdit) → (es ≡ []) ⊎ ((before : List PlainEdit) × (e : PlainEdit) × (es ≡ before ++ e ∷ []))
last_cases [] = inl refl
last_cases (x ∷ es) = elim (last_cases es) [
  | inl none ↦ inr ([], x, ap (λ xs. x ∷ xs) none)
  | inr b ↦ inr (x ∷ b.0, b.1, ap (λ xs. x ∷ xs) b.2)
]

-- what is known of each linearized edit
record Stands (w : PlainWorld) (e : PlainEdit) : Type 0 where
  of_sheet : IsOfSheet w e
  fits : length e.text ≤ most_in (seen_edition w.memory)
  words : (k : ℕ) → k < record_size e → w.memory.cached (record_place (seen_edition w.memory) e.process e.number k) ≡ record_word e k

words_stand : (w : PlainWorld) (e : PlainEdit) → IsSound w → Contains w.counted e → (k : ℕ) → k < record_size e → w.memory.cached (record_place (seen_edition w.memory) e.process e.number k) ≡ record_word e k
words_stand w e s there zero lt = (s.words (place.Header e.process e.number) e there refl refl lt).0
words_stand w e s there (suc part) lt = (s.words (place.Text (seen_edition w.memory) e.process e.number part) (inl refl) e there refl refl lt).0

fits_seen : (w : PlainWorld) (e : PlainEdit) → IsOfSheet w e → (edition : Edition) → seen_edition w.memory ≡ edition → length e.text ≤ most_in edition
fits_seen w e h First is = h.short (inl is)
fits_seen w e h Second is = h.text.short

all_stand : (w : PlainWorld) → IsSound w → All (λ e. Stands w e) w.counted
all_stand w s = λ k d lt.
    let e : PlainEdit = get_or w.counted k d in
    record { of_sheet = s.of_sheet k d lt; fits = fits_seen w e (s.of_sheet k d lt) (seen_edition w.memory) refl; words = words_stand w e s (k, lt, get_or_default w.counted k e d lt) }

last_stands : (w : PlainWorld) (cell : ℕ) (before : List PlainEdit) (e : PlainEdit) → IsSound w → of_cell cell w.counted ≡ before ++ e ∷ [] → Stands w e
unfolding of_cell
last_stands w cell before e s parts =
    let all : All (λ f. Stands w f) (before ++ e ∷ []) = subst (λ (es : List PlainEdit). All (λ f. Stands w f) es) parts (All-filter (λ f. f.cell == cell) (λ f. Stands w f) w.counted (all_stand w s)) in
    subst (λ (f : PlainEdit). Stands w f) (get_or-append_seam before e [] e) (all (length before) e (omega (arith, length-append before (e ∷ []))))

record_stands : (w : PlainWorld) (e : PlainEdit) → Stands w e → HasRecord w.memory (seen_edition w.memory) e.process e.number e.cell e.text
record_stands w e h = record {
  header = h.words 0 (omega arith);
  parts = record { is = h.of_sheet.text; fits = h.fits; each = λ part lt. h.words (suc part) (omega arith) };
}

no_head : (processes : ℕ) → head_of processes (head_after_all []) ≡ None
unfolding head_after_all
no_head processes = refl

head_back : (w : PlainWorld) (cell : ℕ) (before : List PlainEdit) (e : PlainEdit) → IsSound w → Stands w e → of_cell cell w.counted ≡ before ++ e ∷ []
    → head_of w.layout.processes (w.memory.cached (place.Head cell)) ≡ Some (record { stamp = length before + 1; process = e.process; number = e.number })
head_back w cell before e s h parts =
    let head : declared.Head = record { stamp = length before + 1; process = e.process; number = e.number } in
    let few = of_cell_few w s cell in
    let count = ap length parts in
    let p = h.of_sheet.process in
    let n = h.of_sheet.number in
    let l = w.layout.limited in
    let stamp : head.stamp ≤ 2048 = omega (arith, length-append before (e ∷ [])) in
    ap (λ word. head_of w.layout.processes word) ((s.words (place.Head cell)).last ∙ ap head_after_all parts ∙ head_push before e)
    ∙ head_of-head_word w.layout.processes head (record {
      counted = omega arith;
      packs = record { stamp = omega arith; process = omega arith; number = omega arith };
      process = p;
    })

-- without a head the cell has no edit
pub text_without_head : (w : PlainWorld) (cell : ℕ) → IsSound w → head_of w.layout.processes (w.memory.cached (place.Head cell)) ≡ None
    → last_text (of_cell cell w.counted) ≡ []
text_without_head w cell s none = elim (last_cases (of_cell cell w.counted)) [
  | inl empty ↦ ap last_text empty
  | inr b ↦ (let some = head_back w cell b.0 b.1 s (last_stands w cell b.0 b.1 s b.2) b.2 in absurd (cc))
]

-- an edit whose text the record has
pub record HasText (w : PlainWorld) (process number : ℕ) (text : List ℕ) : Type 0 where
  pub cell : ℕ
  pub within : cell < cells_of w.layout
  pub stands : HasRecord w.memory (seen_edition w.memory) process number cell text

-- with one, the record that it names has the text of its last edit
pub text_at_head : (w : PlainWorld) (cell : ℕ) (head : declared.Head) → IsSound w → head_of w.layout.processes (w.memory.cached (place.Head cell)) ≡ Some head
    → HasText w head.process head.number (last_text (of_cell cell w.counted))
text_at_head w cell head s some = elim (last_cases (of_cell cell w.counted)) [
  | inl empty ↦ (let none : head_of w.layout.processes (w.memory.cached (place.Head cell)) ≡ None = ap (λ word. head_of w.layout.processes word) ((s.words (place.Head cell)).last ∙ ap head_after_all empty) ∙ no_head w.layout.processes in absurd (cc))
  | inr b ↦ (
      let e : PlainEdit = b.1 in
      let h : Stands w e = last_stands w cell b.0 e s b.2 in
      let found = head_back w cell b.0 e s h b.2 in
      let process : head.process ≡ e.process = cc in
      let number : head.number ≡ e.number = cc in
      let text : last_text (of_cell cell w.counted) ≡ e.text = ap last_text b.2 ∙ last_push b.0 e in
      record {
        cell = e.cell;
        within = h.of_sheet.cell;
        stands = rw (process, number, text) (record_stands w e h);
      })
]

-- what processes see of a cell's text is that of its last edit
by_head : (w : PlainWorld) (cell : ℕ) → IsSound w → (found : Option declared.Head) → head_of w.layout.processes (w.memory.cached (place.Head cell)) ≡ found → named_at w.layout w.memory found ≡ last_text (of_cell cell w.counted)
by_head w cell s None is = sym (text_without_head w cell s is)
by_head w cell s (Some head) is = let h = text_at_head w cell head s is in record_read w.layout w.memory (seen_edition w.memory) head.process head.number h.cell (last_text (of_cell cell w.counted)) h.within h.stands

-- in a sound world a cell has the text of its last linearized edit
pub text_right : (w : PlainWorld) (cell : ℕ) → IsSound w → text_at w.layout w.memory cell ≡ last_text (of_cell cell w.counted)
text_right w cell s = by_head w cell s (head_of w.layout.processes (w.memory.cached (place.Head cell))) refl
