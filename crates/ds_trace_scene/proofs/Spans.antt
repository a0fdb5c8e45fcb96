-- The numbers of a side, line by line.
use Rattle.std.proofs.Common.{ℕ, zero, suc, ◌≡◌, ◌≢◌, ◌<◌, ◌≤◌, ◌+◌, ◌∙◌, inl, inr, Bool, true, false, List, [], ◌∷◌, ◌++◌, Some, None, length, get_or, refl, sym, ap, subst, arith}
use Rattle.std.specs.Prelude.{Option, IsSomeAnd, All, ◌↔◌, slice_get}
use Rattle.std.proofs.lemmas.Bool.{cases_lt}
use Rattle.std.proofs.lemmas.List.{get_or-map}
use Rattle.ds_core.specs.declared.reply.Reply.TheVariants.{Crashed}
use Rattle.ds_words.specs.declared.words.Word.{Word}
use Rattle.ds_trace.specs.declared.row.TraceRow.{TraceRow}
use Rattle.ds_trace_scene.specs.declared.columns.Side.{Side}
use Rattle.ds_trace_scene.specs.declared.columns.Span.{Span}
use Rattle.ds_trace_scene.specs.Columns.{no_word, word_in, side_of, side_at, AreSpans, CrashesAt, Follow, IsTrueSpan}

-- from this line on up to that one the side is this number
abbrev pub Stays : Word → List TraceRow → ℕ → Side → ℕ → ℕ → ℕ → Type 0
Stays first rows number side from word last = (line : ℕ) → from ≤ line → line ≤ last → side_at first rows number side line ≡ word

-- at the first line a side is what it was before all events
pub stays_first : (first : Word) (rows : List TraceRow) (number : ℕ) (side : Side) → Stays first rows number side 0 (side_of side first) 0
stays_first first rows number side zero a b = refl
stays_first first rows number side (suc line) a b = absurd (let e : ⊥ = omega (arith, b) in e)

-- after an event a side is what the event's row says of its word
pub side_behind : (first : Word) (rows : List TraceRow) (number : ℕ) (side : Side) (event : ℕ) (row : TraceRow) → event < length rows → side_at first rows number side (suc event) ≡ side_of side (word_in number (get_or rows event row))
side_behind first rows number side event row lt = ap (λ (w : Word). side_of side w) (get_or-map (word_in number) rows event row no_word lt)

-- the next line has another number
pub stays_anew : (first : Word) (rows : List TraceRow) (number : ℕ) (side : Side) (event word : ℕ) → side_at first rows number side (suc event) ≡ word → Stays first rows number side (event + 1) word (event + 1)
stays_anew first rows number side event word is line a b =
    let same : suc event ≡ line = omega (arith, a, b) in
    subst (λ (n : ℕ). side_at first rows number side n ≡ word) same is

-- the next line has the same number
pub stays_on : (first : Word) (rows : List TraceRow) (number : ℕ) (side : Side) (from event word : ℕ) → Stays first rows number side from word event → side_at first rows number side (suc event) ≡ word → Stays first rows number side from word (event + 1)
stays_on first rows number side from event word stays is line a b = elim (cases_lt line (event + 1)) [
  | inl lt ↦ stays line a (omega (arith, lt))
  | inr ge ↦ (let same : suc event ≡ line = omega (arith, ge, b) in subst (λ (n : ℕ). side_at first rows number side n ≡ word) same is)
]

-- a span is true where the side stays its number up to its last line, is another one then, and a crash alone takes it
pub true_span : (first : Word) (rows : List TraceRow) (number : ℕ) (side : Side) (span : Span) (last : ℕ) → Stays first rows number side span.from span.word last → span.to ≤ last + 1 → last ≤ length rows
    → (span.to ≤ length rows → side_at first rows number side span.to ≢ span.word) → (span.is_lost ≡ true) ↔ CrashesAt rows span.to → IsTrueSpan first rows number side span
true_span first rows number side span last stays to most ends lost = record {
  each = λ line a b. stays line a (omega (arith, b, to));
  within = omega (arith, to, most);
  ends = ends;
  lost = lost;
}

-- a number that the side has not at the next line, it has not at the line of the next event
pub ends_at : (first : Word) (rows : List TraceRow) (number : ℕ) (side : Side) (event word next : ℕ) → side_at first rows number side (suc event) ≡ next → (next ≡ word → ⊥) → side_at first rows number side (event + 1) ≢ word
ends_at first rows number side event word next is differs same =
    let line : suc event ≡ event + 1 = omega arith in
    differs (sym is ∙ ap (λ (n : ℕ). side_at first rows number side n) line ∙ same)

-- the row of an event
pub row_there : (rows : List TraceRow) (event : ℕ) (row : TraceRow) → event < length rows → row ≡ get_or rows event row → slice_get rows event ≡ Some row
row_there [] event row lt is = absurd (let e : ⊥ = omega (arith, lt) in e)
row_there (x ∷ rows) zero row lt is = ap (λ (r : TraceRow). Some r) (sym is)
row_there (x ∷ rows) (suc event) row lt is = row_there rows event row (omega (arith, lt)) is

no_row : (rows : List TraceRow) (event : ℕ) → length rows ≤ event → slice_get rows event ≡ None
no_row [] event le = refl
no_row (x ∷ rows) zero le = absurd (let e : ⊥ = omega (arith, le) in e)
no_row (x ∷ rows) (suc event) le = no_row rows event (omega (arith, le))

-- a span that ends at a line is lost where the event of the line is a crash
pub lost_at : (rows : List TraceRow) (event : ℕ) (row : TraceRow) (lost : Bool) → event < length rows → row ≡ get_or rows event row → (lost ≡ true) ↔ (row.reply ≡ Crashed) → (lost ≡ true) ↔ CrashesAt rows (event + 1)
lost_at rows event row lost lt is crash =
    let line : event + 1 ≡ suc event = omega arith in
    let there : slice_get rows event ≡ Some row = row_there rows event row lt is in (
      (λ yes. subst (λ (n : ℕ). CrashesAt rows n) (sym line) (subst (λ (o : Option TraceRow). IsSomeAnd o (λ (r : TraceRow). r.reply ≡ Crashed)) (sym there) (crash.0 yes))),
      (λ at. crash.1 (subst (λ (o : Option TraceRow). IsSomeAnd o (λ (r : TraceRow). r.reply ≡ Crashed)) there (subst (λ (n : ℕ). CrashesAt rows n) line at))),
    )

-- nothing is lost behind all events
pub lost_never : (rows : List TraceRow) (line : ℕ) (lost : Bool) → lost ≡ false → length rows < line → (lost ≡ true) ↔ CrashesAt rows line
lost_never rows zero lost never lt = absurd (let e : ⊥ = omega (arith, lt) in e)
lost_never rows (suc event) lost never lt =
    let none : slice_get rows event ≡ None = no_row rows event (omega (arith, lt)) in (
      (λ yes. absurd (let bad : true ≡ false = sym yes ∙ never in cc)),
      (λ at. absurd (subst (λ (o : Option TraceRow). IsSomeAnd o (λ (r : TraceRow). r.reply ≡ Crashed)) none at)),
    )

-- one span more follows the others
pub follow_more : (from : ℕ) (spans : List Span) (span : Span) (to : ℕ) → Follow from spans to → span.from ≡ to → span.from < span.to → Follow from (spans ++ span ∷ []) span.to
follow_more from [] span to h is long = (is ∙ sym h, long, refl)
follow_more from (x ∷ spans) span to h is long = (h.0, h.1, follow_more x.to spans span to h.2 is long)

-- spans of a word that was the same first
pub firsts : (rows other_rows : List TraceRow) (number : ℕ) (side : Side) (one other : Word) (spans : List Span) → rows ≡ other_rows → one ≡ other → AreSpans one rows number side spans → AreSpans other other_rows number side spans
firsts rows other_rows number side one other spans same_rows same h =
    subst (λ (l : List TraceRow). AreSpans other l number side spans) same_rows (subst (λ (w : Word). AreSpans w rows number side spans) same h)

-- of no span all is so
pub none_is : (P : Span → Type 0) (spans : List Span) → spans ≡ [] → All P spans
none_is P [] none = λ k d lt. absurd (let e : ⊥ = omega (arith, lt) in e)
none_is P (span ∷ spans) none = absurd (let bad : span ∷ spans ≡ [] = none in cc)
