-- The accesses of words by their numbers are those of the places of a sheet.
use Rattle.std.proofs.Common.{ℕ, ◌≡◌, ◌<◌, List, [], ◌∷◌, map, refl, sym, ap, subst, ◌∙◌, Bool, true, false}
use Rattle.std.proofs.lemmas.Bool.{lt-ltb}
use Rattle.std.proofs.lemmas.List.{length-map}
use Rattle.std.specs.Prelude.{◌↔◌, if◌then◌else◌}
use Rattle.ds_words.specs.declared.access.Class.{Class}
use Rattle.ds_words.specs.declared.access.Class.TheVariants.{Owned}
use Rattle.ds_words.specs.declared.access.BufferEntry.{BufferEntry}
use Rattle.ds_words.specs.declared.access.Access.{Access}
use Rattle.ds_words.specs.declared.access.Access.TheVariants.{Nothing, Load, Store, Or, SwapIf, Flush, Back}
use Rattle.ds_words.specs.declared.words.TheConstants.{BUFFER_ENTRIES}
use Rattle.ds_words.specs.Memory.{Memory, Performs}
use Rattle.ds_layout.specs.declared.layout.Layout.{Layout}
use Rattle.ds_layout.specs.declared.place.Place.{Place}
use Rattle.ds_layout.specs.Places.{words_of, class_of, number_of, place_of, IsPlace}
use Rattle.ds_layout.specs.SheetMemory.{is_place, memory_at, access_at, entry_at, NamesPlace, CanPerform, PerformsAt}
use Rattle.ds_layout.proofs.Places.{place_of-number_of, number_of-place_of, number_of_below}
use Rattle.ds_layout.proofs.Sheet.{is_place-true, IsPlace-is_place, performs_at}
use Rattle.pm_base.specs.Structures.{Serves}
use Rattle.ds_structure.specs.Calls.{names_place, access_in}
use Rattle.ds_structure.specs.Sheet.{found, sheet}
use Rattle.ds_structure.specs.declared.sheet.SheetKey.{SheetKey}

-- an access answers what it found
pub answer_found : (classes : ℕ → Class) (a : Access ℕ) (p answer : ℕ) (m m2 : Memory ℕ) → Performs classes a p m m2 answer → answer ≡ found m a
answer_found classes Nothing p answer m m2 h = h.0
answer_found classes (Load n) p answer m m2 h = h.0
answer_found classes (Store n value) p answer m m2 h = h.0
answer_found classes (Or n bits) p answer m m2 h = h.0
answer_found classes (SwapIf n expected value) p answer m m2 h = h.0
answer_found classes (Flush n) p answer m m2 h = h.0
answer_found classes Back p answer m m2 h = h.0

names : (layout : Layout) (a : Access Place) → NamesPlace layout a → names_place layout a ≡ true
names layout Nothing h = refl
names layout (Load r) h = is_place-true layout r h
names layout (Store r v) h = is_place-true layout r h
names layout (Or r k) h = is_place-true layout r h
names layout (SwapIf r o v) h = is_place-true layout r h
names layout (Flush r) h = is_place-true layout r h
names layout Back h = refl

-- where the sheet has the place, its access is that
pub named_in : (layout : Layout) (a : Access Place) → NamesPlace layout a → access_in layout a ≡ access_at layout a
named_in layout a h = ap (λ (b : Bool). if b then access_at layout a else Nothing) (names layout a h)

-- a test of a place says whether it is one
pub says_place : (layout : Layout) (r : Place) (b : Bool) → (b ≡ true ↔ IsPlace layout r) → b ≡ is_place layout r
says_place layout r true h = sym (is_place-true layout r (h.0 refl))
says_place layout r false h = by (is_place layout r) refl
  where
    by : (c : Bool) → is_place layout r ≡ c → false ≡ c
    by true is = h.1 (IsPlace-is_place layout r is)
    by false is = refl

-- an access that the test finds names a place of the sheet
pub names_so : (layout : Layout) (a : Access Place) → names_place layout a ≡ true → NamesPlace layout a
names_so layout Nothing h = tt
names_so layout (Load r) h = IsPlace-is_place layout r h
names_so layout (Store r v) h = IsPlace-is_place layout r h
names_so layout (Or r k) h = IsPlace-is_place layout r h
names_so layout (SwapIf r o v) h = IsPlace-is_place layout r h
names_so layout (Flush r) h = IsPlace-is_place layout r h
names_so layout Back h = tt

-- an empty buffer
pub nothing_kept : (layout : Layout) (x : List (BufferEntry ℕ)) → map (entry_at layout) x ≡ [] → x ≡ []
nothing_kept layout [] e = refl
nothing_kept layout (y ∷ x) e = cc

-- an entry for a place of the sheet is one for a word of it
word_there : (layout : Layout) (y : BufferEntry ℕ) → IsPlace layout (entry_at layout y).place → y.place < words_of layout
unfolding entry_at
word_there layout y k = subst (λ (n : ℕ). n < words_of layout) (number_of-place_of layout y.place) (number_of_below layout (place_of layout y.place) k)

module _ (key : SheetKey) where
  -- the class of the word at a place
  class_there : (place : Place) → IsPlace key.layout place → sheet.class_in key (number_of key.layout place) ≡ class_of place
  class_there place k =
      ap (λ (b : Bool). if b then class_of (place_of key.layout (number_of key.layout place)) else Owned) (lt-ltb (number_of key.layout place) (words_of key.layout) (number_of_below key.layout place k))
      ∙ ap class_of (place_of-number_of key.layout place k)

  pub performed : (a : Access Place) (p answer : ℕ) (m m2 : Memory ℕ) → CanPerform key.layout (memory_at key.layout m) p a → Performs (sheet.class_in key) (access_at key.layout a) p m m2 answer
      → PerformsAt a p (memory_at key.layout m) (memory_at key.layout m2) answer
  performed a p answer m m2 can h = performs_at key.layout m m2 (sheet.class_in key) class_there a p answer can h

  -- what the places let the process do, the words serve
  pub serves : (a : Access Place) (p : ℕ) (m : Memory ℕ) → CanPerform key.layout (memory_at key.layout m) p a → Serves (words_of key.layout) (access_at key.layout a) (m.buffer p)
  serves Nothing p m can = tt
  serves (Load r) p m can = number_of_below key.layout r can.0
  serves (Store r v) p m can = number_of_below key.layout r can.0
  serves (Or r k) p m can = number_of_below key.layout r can.0
  serves (SwapIf r o v) p m can = number_of_below key.layout r can.0
  serves (Flush r) p m can = (number_of_below key.layout r can.0, subst (λ (n : ℕ). n < BUFFER_ENTRIES) (length-map (m.buffer p) (entry_at key.layout)) can.1.1)
  serves Back p m can = first (m.buffer p) refl
    where
      first : (x : List (BufferEntry ℕ)) → m.buffer p ≡ x → Serves (words_of key.layout) Back x
      first [] same =
          let bad : [] ≡ can.1.1.entry ∷ can.1.1.rest = sym (ap (map (entry_at key.layout)) same) ∙ can.1.1.oldest in
          cc
      first (y ∷ x) same =
          let both : entry_at key.layout y ∷ map (entry_at key.layout) x ≡ can.1.1.entry ∷ can.1.1.rest = sym (ap (map (entry_at key.layout)) same) ∙ can.1.1.oldest in
          let one : can.1.1.entry ≡ entry_at key.layout y = cc in
          word_there key.layout y (subst (λ (z : BufferEntry Place). IsPlace key.layout z.place) one can.1.1.there)
