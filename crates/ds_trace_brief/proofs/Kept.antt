-- No event is left out by which a word turns that decides.
use Rattle.std.proofs.Common.{ℕ, zero, suc, ◌≡◌, ◌<◌, ◌∙◌, Bool, true, false, List, [], ◌∷◌, ◌++◌, inl, inr, get_or, length, sym, ap, subst, arith}
use Rattle.std.specs.Prelude.{◌||◌, All, Contains, if◌then◌else◌}
use Rattle.std.proofs.Math.Bool.{or-true}
use Rattle.std.proofs.lemmas.Bool.{cases_lt}
use Rattle.std.proofs.lemmas.List.Elements.{All-nil, All-push, Contains-append_left, Contains-push}
use Rattle.ds_trace.specs.declared.row.Trace.{Trace}
use Rattle.ds_trace_brief.specs.Keeping.{ends_at, keeps, kept, kept_below, turns_at, turns_below}

-- a word that turns is one of the first words that do
pub turns_in : (trace : Trace) (event n number : ℕ) → number < n → turns_at trace number event ≡ true → turns_below trace event n ≡ true
turns_in trace event zero number lt h = absurd (let e : ⊥ = omega (arith, lt) in e)
turns_in trace event (suc n) number lt h = elim (cases_lt number n) [
  | inl below ↦ ap (λ (b : Bool). b || turns_at trace n event) (turns_in trace event n number below h)
  | inr past ↦
      (let same : number ≡ n = omega (arith, past, lt) in
      let turned : turns_at trace n event ≡ true = subst (λ (k : ℕ). turns_at trace k event ≡ true) same h in
      ap (λ (b : Bool). turns_below trace event n || b) turned ∙ or-true (turns_below trace event n))
]

-- what was kept of fewer events is kept of one more
further : (events : List ℕ) (n event : ℕ) (is : Bool) → Contains events event → Contains (if is then events ++ n ∷ [] else events) event
further events n event true h = Contains-append_left events (n ∷ []) event h
further events n event false h = h

-- an event that is kept is one of the first events that are
pub kept_in : (trace : Trace) (n event : ℕ) → event < n → keeps trace event ≡ true → Contains (kept_below trace n) event
kept_in trace zero event lt h = absurd (let e : ⊥ = omega (arith, lt) in e)
kept_in trace (suc n) event lt h = elim (cases_lt event n) [
  | inl below ↦ further (kept_below trace n) n event (keeps trace n) (kept_in trace n event below h)
  | inr past ↦
      (let same : event ≡ n = omega (arith, past, lt) in
      let is : keeps trace n ≡ true = subst (λ (k : ℕ). keeps trace k ≡ true) same h in
      subst (λ (b : Bool). Contains (if b then kept_below trace n ++ n ∷ [] else kept_below trace n) event) (sym is)
      (subst (λ (k : ℕ). Contains (kept_below trace n ++ n ∷ []) k) (sym same) (Contains-push (kept_below trace n) n)))
]

-- an event by which a word turns is kept
pub turning_in : (trace : Trace) (events : List ℕ) (number event : ℕ) → events ≡ kept trace → event < length trace.rows.items → number < length trace.places.items
    → turns_at trace number event ≡ true → Contains events event
turning_in trace events number event is lt there h =
    let turned : turns_below trace event (length trace.places.items) ≡ true = turns_in trace event (length trace.places.items) number there h in
    let keep : keeps trace event ≡ true = ap (λ (b : Bool). ends_at trace event || b) turned ∙ or-true (ends_at trace event) in
    subst (λ (l : List ℕ). Contains l event) (sym is) (kept_in trace (length trace.rows.items) event lt keep)

-- one more, if it is kept, of numbers below one
less_more : (events : List ℕ) (n : ℕ) (is : Bool) → All (λ event. event < n) events → All (λ event. event < suc n) (if is then events ++ n ∷ [] else events)
less_more events n true h = All-push (λ event. event < suc n) events n (λ k d below. (let lt : get_or events k d < n = h k d below in omega (arith, lt))) (omega arith)
less_more events n false h = λ k d below. (let lt : get_or events k d < n = h k d below in omega (arith, lt))

-- those that are kept of the first events are below
kept_less : (trace : Trace) (n : ℕ) → All (λ event. event < n) (kept_below trace n)
kept_less trace zero = All-nil (λ event. event < 0)
kept_less trace (suc n) = less_more (kept_below trace n) n (keeps trace n) (kept_less trace n)

-- each event that is kept is one of the recording
pub kept_within : (trace : Trace) (events : List ℕ) → events ≡ kept trace → All (λ event. event < length trace.rows.items) events
kept_within trace events is = subst (λ (l : List ℕ). All (λ event. event < length trace.rows.items) l) (sym is) (kept_less trace (length trace.rows.items))
