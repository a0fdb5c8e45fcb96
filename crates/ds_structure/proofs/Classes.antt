-- The class of a word by its number is that of its place.
use Rattle.std.proofs.Common.{ℕ, ◌≡◌, ◌<◌, ◌≤◌, ◌∙◌, nat_lt, Bool, true, false, refl, sym, ap, inl, inr, arith}
use Rattle.std.proofs.lemmas.Bool.{lt-ltb, le-ltb}
use Rattle.std.proofs.lemmas.Bool.Decides.{leb_tells}
use Rattle.std.specs.Prelude.{if◌then◌else◌}
use Rattle.ds_words.specs.declared.access.Class.TheVariants.{Owned}
use Rattle.ds_layout.specs.declared.layout.Layout.{Layout}
use Rattle.ds_layout.specs.declared.layout.Starts.{Starts}
use Rattle.ds_layout.specs.Places.{IsAscending, class_of, number_of, parts_of, place_by, place_of, starts_of, words_of}
use Rattle.ds_structure.specs.Classes.{AreBounds, class_by}
use Rattle.ds_structure.specs.declared.sheet.Bounds.{Bounds}

module _ (s : Starts) (up : IsAscending s) (parts n : ℕ) where
  abbrev Same : Type 0
  Same = class_of (place_by s parts n) ≡ class_by s.values s.index s.announcements s.done s.second_texts n

  over : (b : ℕ) → b ≤ n → nat_lt n b ≡ false
  over b h = le-ltb n b h

  below : (b : ℕ) → n < b → nat_lt n b ≡ true
  below b h = lt-ltb n b h

  from_second : s.second_texts ≤ n → Same
  from_second h = rw (over s.heads (omega arith), over s.marks (omega arith), over s.values (omega arith), over s.kinds (omega arith), over s.index (omega arith), over s.announcements (omega arith), over s.headers (omega arith), over s.texts (omega arith), over s.done (omega arith), over s.second_texts h) refl

  from_done : s.done ≤ n → Same
  from_done h = elim (leb_tells s.second_texts n) [
    | inl g ↦ from_second g.1
    | inr l ↦ rw (over s.heads (omega arith), over s.marks (omega arith), over s.values (omega arith), over s.kinds (omega arith), over s.index (omega arith), over s.announcements (omega arith), over s.headers (omega arith), over s.texts (omega arith), over s.done h, below s.second_texts l.1) refl
  ]

  from_texts : s.texts ≤ n → Same
  from_texts h = elim (leb_tells s.done n) [
    | inl g ↦ from_done g.1
    | inr l ↦ rw (over s.heads (omega arith), over s.marks (omega arith), over s.values (omega arith), over s.kinds (omega arith), over s.index (omega arith), over s.announcements (omega arith), over s.headers (omega arith), over s.texts h, below s.done l.1) refl
  ]

  from_headers : s.headers ≤ n → Same
  from_headers h = elim (leb_tells s.texts n) [
    | inl g ↦ from_texts g.1
    | inr l ↦ (let k = l.1 in rw (over s.heads (omega arith), over s.marks (omega arith), over s.values (omega arith), over s.kinds (omega arith), over s.index (omega arith), over s.announcements (omega arith), over s.headers h, below s.texts k, below s.done (omega (arith, k))) refl)
  ]

  from_announcements : s.announcements ≤ n → Same
  from_announcements h = elim (leb_tells s.headers n) [
    | inl g ↦ from_headers g.1
    | inr l ↦ (let k = l.1 in rw (over s.heads (omega arith), over s.marks (omega arith), over s.values (omega arith), over s.kinds (omega arith), over s.index (omega arith), over s.announcements h, below s.headers k, below s.done (omega (arith, k))) refl)
  ]

  from_index : s.index ≤ n → Same
  from_index h = elim (leb_tells s.announcements n) [
    | inl g ↦ from_announcements g.1
    | inr l ↦ rw (over s.heads (omega arith), over s.marks (omega arith), over s.values (omega arith), over s.kinds (omega arith), over s.index h, below s.announcements l.1) refl
  ]

  from_kinds : s.kinds ≤ n → Same
  from_kinds h = elim (leb_tells s.index n) [
    | inl g ↦ from_index g.1
    | inr l ↦ rw (over s.heads (omega arith), over s.marks (omega arith), over s.values (omega arith), over s.kinds h, below s.index l.1) refl
  ]

  from_values : s.values ≤ n → Same
  from_values h = elim (leb_tells s.kinds n) [
    | inl g ↦ from_kinds g.1
    | inr l ↦ (let k = l.1 in rw (over s.heads (omega arith), over s.marks (omega arith), over s.values h, below s.kinds k, below s.index (omega (arith, k))) refl)
  ]

  from_marks : s.marks ≤ n → Same
  from_marks h = elim (leb_tells s.values n) [
    | inl g ↦ from_values g.1
    | inr l ↦ rw (over s.heads (omega arith), over s.marks h, below s.values l.1) refl
  ]

  from_heads : s.heads ≤ n → Same
  from_heads h = elim (leb_tells s.marks n) [
    | inl g ↦ from_marks g.1
    | inr l ↦ (let k = l.1 in rw (over s.heads h, below s.marks k, below s.values (omega (arith, k))) refl)
  ]

  same_class : Same
  same_class = elim (leb_tells s.heads n) [
    | inl g ↦ from_heads g.1
    | inr l ↦ (let k = l.1 in rw (below s.heads k, below s.values (omega (arith, k))) refl)
  ]

  -- past the last word
  last_class : s.words ≤ n → class_by s.values s.index s.announcements s.done s.second_texts n ≡ Owned
  last_class h = rw (over s.values (omega (arith, h)), over s.index (omega (arith, h)), over s.announcements (omega (arith, h)), over s.done (omega (arith, h)), over s.second_texts (omega (arith, h))) refl

module _ (layout : Layout) (b : Bounds) (are : AreBounds layout b) where
  values_is : b.values ≡ (starts_of layout).values
  unfolding number_of
  values_is = let h = are.values in omega (arith, h)

  rows_is : b.rows ≡ (starts_of layout).index
  unfolding number_of starts_of
  rows_is = let h = are.rows in omega (arith, h)

  announcements_is : b.announcements ≡ (starts_of layout).announcements
  unfolding number_of
  announcements_is = let h = are.announcements in omega (arith, h)

  done_is : b.done ≡ (starts_of layout).done
  unfolding number_of
  done_is = let h = are.done in omega (arith, h)

  texts_is : b.texts ≡ (starts_of layout).second_texts
  unfolding number_of
  texts_is = let h = are.texts in omega (arith, h)

  by_starts : (n : ℕ) → class_by b.values b.rows b.announcements b.done b.texts n ≡ class_by (starts_of layout).values (starts_of layout).index (starts_of layout).announcements (starts_of layout).done (starts_of layout).second_texts n
  by_starts n = λ i. class_by (values_is i) (rows_is i) (announcements_is i) (done_is i) (texts_is i) n

  here : IsAscending (starts_of layout) → (n : ℕ) → class_by b.values b.rows b.announcements b.done b.texts n ≡ class_of (place_of layout n)
  unfolding place_of
  here up n = by_starts n ∙ sym (same_class (starts_of layout) up (parts_of layout) n)

  pub class_is : IsAscending (starts_of layout) → (n : ℕ) → class_by b.values b.rows b.announcements b.done b.texts n ≡ (if nat_lt n (words_of layout) then class_of (place_of layout n) else Owned)
  class_is up n = elim (leb_tells (words_of layout) n) [
    | inl g ↦ by_starts n ∙ (last_class (starts_of layout) up (parts_of layout) n g.1 ∙ sym (ap (λ (t : Bool). if t then class_of (place_of layout n) else Owned) (le-ltb n (words_of layout) g.1)))
    | inr l ↦ here up n ∙ sym (ap (λ (t : Bool). if t then class_of (place_of layout n) else Owned) (lt-ltb n (words_of layout) l.1))
  ]
