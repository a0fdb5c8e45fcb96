-- One event more, one word more.
use Rattle.std.proofs.Common.{ℕ, suc, ◌≡◌, ◌+◌, ◌∙◌, Bool, true, false, List, [], ◌∷◌, ◌++◌, length, append_assoc, refl, ap, subst, arith}
use Rattle.std.specs.Prelude.{◌||◌, ◌&&◌, if◌then◌else◌}
use Rattle.ds_trace.specs.declared.row.Trace.{Trace}
use Rattle.ds_trace_brief.specs.declared.keep.Decider.{Decider}
use Rattle.ds_trace_scene.specs.Columns.{word_after, word_before}
use Rattle.ds_trace_brief.specs.Keeping.{has_turned, is_of, keeps, kept_below, place_at, sorted_below, turns_at, turns_below}
use Rattle.ds_trace_brief.specs.Crashing.{joined, taken_below, taken_text}

-- a number and one more
more : (n : ℕ) → suc n ≡ n + 1
more n = omega arith

-- whether one of the first words turns, with one word more
pub turns_more : (trace : Trace) (event number : ℕ) (one other both : Bool) → one ≡ turns_below trace event number → other ≡ turns_at trace number event → both ≡ (one || other) → both ≡ turns_below trace event (number + 1)
turns_more trace event number one other both a b h =
    subst (λ (n : ℕ). both ≡ turns_below trace event n) (more number)
    (h ∙ ap (λ (x : Bool). x || other) a ∙ ap (λ (x : Bool). turns_below trace event number || x) b)

-- whether a word turns by one of the first events, with one event more
pub turned_more : (trace : Trace) (number event : ℕ) (one other both : Bool) → one ≡ has_turned trace number event → other ≡ turns_at trace number event → both ≡ (one || other) → both ≡ has_turned trace number (event + 1)
turned_more trace number event one other both a b h =
    subst (λ (n : ℕ). both ≡ has_turned trace number n) (more event)
    (h ∙ ap (λ (x : Bool). x || other) a ∙ ap (λ (x : Bool). has_turned trace number event || x) b)

-- the events that are kept, with one event more
pub kept_more : (trace : Trace) (event : ℕ) (is : Bool) (events new : List ℕ) → events ≡ kept_below trace event → is ≡ keeps trace event → new ≡ (if is then events ++ event ∷ [] else events) → new ≡ kept_below trace (event + 1)
kept_more trace event is events new a b h =
    subst (λ (n : ℕ). new ≡ kept_below trace n) (more event)
    (h ∙ ap (λ (l : List ℕ). if is then l ++ event ∷ [] else l) a
    ∙ ap (λ (x : Bool). if x then kept_below trace event ++ event ∷ [] else kept_below trace event) b)

-- one word more, if it is one of the sort
sorted_next : (sort : Decider) (trace : Trace) (number : ℕ) (front : List ℕ) (is : Bool)
    → (if is then (front ++ sorted_below sort trace number) ++ number ∷ [] else (front ++ sorted_below sort trace number)) ≡ front ++ (if is then sorted_below sort trace number ++ number ∷ [] else sorted_below sort trace number)
sorted_next sort trace number front true = append_assoc front (sorted_below sort trace number) (number ∷ [])
sorted_next sort trace number front false = refl

-- the words of a sort after others, with one word more
pub sorted_more : (sort : Decider) (trace : Trace) (number : ℕ) (is : Bool) (front numbers new : List ℕ) → numbers ≡ front ++ sorted_below sort trace number
    → is ≡ (is_of sort (place_at trace number) && has_turned trace number (length trace.rows.items))
    → new ≡ (if is then numbers ++ number ∷ [] else numbers) → new ≡ front ++ sorted_below sort trace (number + 1)
sorted_more sort trace number is front numbers new a b h =
    subst (λ (n : ℕ). new ≡ front ++ sorted_below sort trace n) (more number)
    (h ∙ ap (λ (l : List ℕ). if is then l ++ number ∷ [] else l) a
    ∙ sorted_next sort trace number front is
    ∙ ap (λ (x : Bool). front ++ (if x then sorted_below sort trace number ++ number ∷ [] else sorted_below sort trace number)) b)

-- the sentence of a crash, with one word more
pub taken_more : (trace : Trace) (event number : ℕ) (sentence edit new : List ℕ) → sentence ≡ taken_below trace event number
    → edit ≡ taken_text trace.layout (place_at trace number) (word_before trace number event) (word_after trace number event)
    → new ≡ joined sentence edit → new ≡ taken_below trace event (number + 1)
taken_more trace event number sentence edit new a b h =
    subst (λ (n : ℕ). new ≡ taken_below trace event n) (more number)
    (h ∙ ap (λ (l : List ℕ). joined l edit) a ∙ ap (λ (l : List ℕ). joined (taken_below trace event number) l) b)
