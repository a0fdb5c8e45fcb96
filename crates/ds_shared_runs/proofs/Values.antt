-- A tidy plain world is that of a value.
use Rattle.std.proofs.Common.{ℕ, ◌≡◌, ◌<◌, ◌≤◌, Bool, true, false, List, [], ◌∷◌, length, get_or, map, refl, sym, ap, ◌∙◌, zero, suc, arith, inl, inr}
use Rattle.std.specs.Prelude.{if◌then◌else◌, None}
use Rattle.std.proofs.lemmas.Bool.Decides.{leb_tells}
use Rattle.ds_words.specs.Words.{WordsValue, word_at, buffer_of, memory_of, zero_word}
use Rattle.ds_words.specs.declared.words.Word.{Word}
use Rattle.ds_words.specs.declared.access.BufferEntry.{BufferEntry}
use Rattle.ds_layout.specs.declared.layout.Layout.{Layout}
use Rattle.ds_layout.specs.declared.place.Place.{Place}
use Rattle.ds_layout.specs.Places.{words_of, number_of}
use Rattle.ds_layout.specs.SheetMemory.{is_place, side_at, entry_at, memory_at}
use Rattle.ds_layout.proofs.Places.{number_of_below}
use Rattle.ds_layout.proofs.Sheet.{IsPlace-is_place}
use Rattle.ds_state.specs.Reports.{PlainReports}
use Rattle.ds_state.specs.World.{PlainWorld}
use Rattle.ds_state.specs.Value.{WorldValue, world_of, first_rest}
use Rattle.ds_state.specs.declared.situation.Situation.TheVariants.{Idle}
use Rattle.pm_board.specs.Table.{two_sided, cached_at, persisted_at}
use Rattle.ds_shared_runs.specs.History.{IsTidy}

-- the first n values of a function
abbrev pub tab : {A : Type 0} → (ℕ → A) → ℕ → List A
tab f zero = []
tab f (suc n) = f 0 ∷ tab (λ k. f (suc k)) n

pub tab_length : {A : Type 0} (f : ℕ → A) (n : ℕ) → length (tab f n) ≡ n
tab_length f zero = refl
tab_length f (suc n) = ap suc (tab_length (λ k. f (suc k)) n)

pub tab_low : {A : Type 0} (f : ℕ → A) (n : ℕ) (d : A) (q : ℕ) → q < n → get_or (tab f n) q d ≡ f q
tab_low f zero d q low = absurd (omega arith)
tab_low f (suc n) d zero low = refl
tab_low f (suc n) d (suc q) low = tab_low (λ k. f (suc k)) n d q (omega arith)

pub tab_far : {A : Type 0} (f : ℕ → A) (n : ℕ) (d : A) (q : ℕ) → n ≤ q → get_or (tab f n) q d ≡ d
tab_far f zero d q far = refl
tab_far f (suc n) d zero far = absurd (omega arith)
tab_far f (suc n) d (suc q) far = tab_far (λ k. f (suc k)) n d q (omega arith)

-- a function that has one value from a number on is that of its first values
pub tab_all : {A : Type 0} (f : ℕ → A) (n : ℕ) (d : A) → ((q : ℕ) → n ≤ q → f q ≡ d) → (q : ℕ) → get_or (tab f n) q d ≡ f q
tab_all f n d far q = elim (leb_tells n q) [
  | inl high ↦ tab_far f n d q high.1 ∙ sym (far q high.1)
  | inr low ↦ tab_low f n d q low.1
]

same_if : (b : Bool) (x y : ℕ) → (b ≡ true → x ≡ y) → (if b then x else 0) ≡ (if b then y else 0)
same_if true x y h = h refl
same_if false x y h = refl

-- sides that are the same at each word of the sheet are the same at each place
side_within : (layout : Layout) (f g : ℕ → ℕ) → ((n : ℕ) → n < words_of layout → f n ≡ g n) → (r : Place) → side_at layout f r ≡ side_at layout g r
unfolding side_at
side_within layout f g h r = same_if (is_place layout r) (f (number_of layout r)) (g (number_of layout r)) (λ e. h (number_of layout r) (number_of_below layout r (IsPlace-is_place layout r e)))

-- both sides of the word with this number
abbrev pub both_sides : List ℕ → ℕ → Word
both_sides words n = record { cached = get_or words (cached_at 0 n) 0; persisted = get_or words (persisted_at 0 n) 0 }

abbrev pub words_on : Layout → List ℕ → (ℕ → List (BufferEntry ℕ)) → WordsValue
words_on layout words buffer = record { classes = []; words = tab (both_sides words) (words_of layout); buffers = tab buffer layout.processes }

-- the value of a tidy world, with these counts and snapshots
abbrev pub value_on : (w : PlainWorld) → IsTidy w → ℕ → ℕ → PlainReports → WorldValue
value_on w t done settled reports = record {
  sheet = record { layout = w.layout; words = words_on w.layout t.words t.buffer };
  situations = tab w.situation w.layout.processes;
  counted = w.counted;
  open_edits = tab w.open_edits w.layout.processes;
  done = done;
  settled = settled;
  reports = reports;
}

module _ (layout : Layout) (words : List ℕ) (buffer : ℕ → List (BufferEntry ℕ)) (far : (q : ℕ) → layout.processes ≤ q → buffer q ≡ []) where
  cached : (r : Place) → side_at layout (memory_of (words_on layout words buffer)).cached r ≡ side_at layout (two_sided 0 words buffer).cached r
  unfolding word_at
  cached = side_within layout _ _ (λ n low. ap (λ (z : Word). z.cached) (tab_low (both_sides words) (words_of layout) zero_word n low))

  persisted : (r : Place) → side_at layout (memory_of (words_on layout words buffer)).persisted r ≡ side_at layout (two_sided 0 words buffer).persisted r
  unfolding word_at
  persisted = side_within layout _ _ (λ n low. ap (λ (z : Word). z.persisted) (tab_low (both_sides words) (words_of layout) zero_word n low))

  buffers : (q : ℕ) → map (entry_at layout) ((memory_of (words_on layout words buffer)).buffer q) ≡ map (entry_at layout) (buffer q)
  unfolding buffer_of
  buffers q = ap (map (entry_at layout)) (tab_all buffer layout.processes [] far q)

  pub memory_is : memory_at layout (memory_of (words_on layout words buffer)) ≡ memory_at layout (two_sided 0 words buffer)
  memory_is = λ i. record { cached = λ r. cached r i; persisted = λ r. persisted r i; buffer = λ q. buffers q i }

pub value_is : (w : PlainWorld) (t : IsTidy w) (done settled : ℕ) (reports : PlainReports) → world_of (value_on w t done settled reports) ≡ w
value_is w t done settled reports =
    let m : memory_at w.layout (memory_of (words_on w.layout t.words t.buffer)) ≡ w.memory = memory_is w.layout t.words t.buffer t.buffers ∙ sym t.memory in
    let s : (q : ℕ) → get_or (tab w.situation w.layout.processes) q (Idle first_rest) ≡ w.situation q = tab_all w.situation w.layout.processes (Idle first_rest) t.situations in
    let o : (q : ℕ) → get_or (tab w.open_edits w.layout.processes) q None ≡ w.open_edits q = tab_all w.open_edits w.layout.processes None t.open_edits in
    λ i. record { layout = w.layout; memory = m i; situation = λ q. s q i; counted = w.counted; open_edits = λ q. o q i }
