-- The states that orders come to once more.
use Rattle.std.proofs.Common.{ℕ, zero, suc, ◌≤◌, arith, Some, replicate, ◌≡◌, ◌<◌, ◌∙◌, ◌++◌, ◌∷◌, [], inl, inr, Bool, true, false, List, length, get_or, set, refl, sym, ap, subst, get_or-set_same, get_or-set_other}
use Rattle.std.specs.Prelude.{Option, IfSome}
use Rattle.std.proofs.lemmas.Bool.{cases_eq, cases_lt}
use Rattle.std.proofs.lemmas.List.{get_or-replicate, length-replicate}
use Rattle.ds_explore_state.specs.Closed.{HasNumber}
use Rattle.ds_explore_state.specs.States.{groups_of}
use Rattle.ds_explore.specs.declared.met.Stop.{Stop}
use Rattle.ds_explore_state.specs.Orders.{IsBusy, seats_of}
use Rattle.ds_explore_state.specs.declared.position.Move.{Move}
use Rattle.ds_explore_state.specs.declared.position.Position.{Position}
use Rattle.ds_explore_state.specs.declared.states.States.{States}
use Rattle.ds_explore.specs.declared.search.Start.{Start}
use Rattle.ds_explore.specs.Met.{AreLedTo, AreMet}
use Rattle.ds_explore.specs.Starts.{IsLedTo, IsOrderTo}
use Rattle.ds_explore.specs.Whole.{IsAmong, IsMet}
use Rattle.ds_explore.proofs.Leading.{order_leads}

-- an order leads to an equal position too, and on from there
pub led_on : (start : Start) (x copy y : Position) → copy.world ≡ x.world → seats_of copy ≡ seats_of x
    → ((moves : List Move) → IsOrderTo start moves copy → (move : Move) × IsOrderTo start (moves ++ move ∷ []) y) → IsLedTo start x → IsLedTo start y
led_on start x copy y world seats step led =
    let s = step led.moves (record { position = led.position; order = led.order; world = world ∙ led.world; seats = seats ∙ led.seats }) in
    order_leads start (led.moves ++ s.0 ∷ []) y s.1

-- none is marked
pub met_none : (start : Start) (keys : List (List ℕ)) (states : States) (marks : List Bool) → ((n : ℕ) → get_or marks n false ≡ false) → AreMet start keys states marks
met_none start keys states marks none n is = absurd (let bad : true ≡ false = sym is ∙ none n in cc)

-- one more is marked
pub met_more : (start : Start) (keys : List (List ℕ)) (states : States) (marks : List Bool) (number : ℕ) → number < length marks → IsMet start keys states number → AreMet start keys states marks → AreMet start keys states (set marks number true)
met_more start keys states marks number below met before n is = elim (cases_eq n number) [
  | inl same ↦ subst (λ (k : ℕ). IsMet start keys states k) (sym same) met
  | inr other ↦ before n (sym (get_or-set_other marks number n true false other) ∙ is)
]

-- a position to which an order leads, of a state that has this number
pub met_by : (start : Start) (keys : List (List ℕ)) (states : States) (x : Position) (found number : ℕ) (o : Option ℕ) → IfSome o (HasNumber states (groups_of start.touched) x) → o ≡ Some found → found ≡ number → IsLedTo start x
    → (((p : ℕ) → IsBusy x p → ⊥) → (outcome : ℕ) × IsAmong start.judge keys x false outcome) → IsMet start keys states number
met_by start keys states x found number o has is same led rests = record {
  position = x;
  led = led;
  has = subst (λ (n : ℕ). HasNumber states (groups_of start.touched) x n) same (subst (λ (o : Option ℕ). IfSome o (HasNumber states (groups_of start.touched) x)) is has);
  rests = rests;
}

-- of marks that are all false none is true
pub none_marked : (marks : List Bool) (count : ℕ) → marks ≡ replicate count false → (n : ℕ) → get_or marks n false ≡ false
none_marked marks count is n = elim (cases_lt n count) [
  | inl low ↦ ap (λ (l : List Bool). get_or l n false) is ∙ get_or-replicate count n false false low
  | inr high ↦ past marks n (let long : length marks ≡ count = ap (λ (l : List Bool). length l) is ∙ length-replicate count false in omega (arith, long, high))
]
  where
    past : (l : List Bool) (n : ℕ) → length l ≤ n → get_or l n false ≡ false
    past [] n high = refl
    past (x ∷ l) zero high = absurd (let e : ⊥ = omega (arith, high) in e)
    past (x ∷ l) (suc n) high = past l n (omega (arith, high))

-- no stop is on the way
pub no_stop : (start : Start) (way : List Stop) → way ≡ [] → AreLedTo start way
no_stop start [] none = λ k d below. absurd (let e : ⊥ = omega (arith, below) in e)
no_stop start (stop ∷ way) none = absurd (let bad : stop ∷ way ≡ [] = none in cc)
