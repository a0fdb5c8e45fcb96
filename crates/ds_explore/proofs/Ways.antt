-- The states on the way on which a search was cut.
use Rattle.std.proofs.Common.{ℕ, Some, ◌≡◌, ◌<◌, ◌∙◌, ◌++◌, ◌∷◌, [], inl, inr, Bool, true, false, List, length, get_or, set, replicate, sym, ap, append_assoc, subst}
use Rattle.std.specs.Prelude.{Option, ◌⊎◌, IfSome}
use Rattle.std.proofs.lemmas.Bool.{cases_eq}
use Rattle.std.proofs.lemmas.List.{append-nil, get_or-set_other}
use Rattle.ds_paths.specs.declared.graph.Edge.{Edge}
use Rattle.ds_explore_state.specs.declared.choices.Choice.{Choice}
use Rattle.ds_explore_state.specs.Closed.{HasNumber, keys_of}
use Rattle.ds_explore_state.specs.Drawn.{AreDrawn}
use Rattle.ds_explore_state.specs.States.{groups_of}
use Rattle.ds_explore_state.specs.Orders.{seats_of}
use Rattle.ds_explore_state.specs.declared.position.Move.{Move}
use Rattle.ds_explore_state.specs.declared.position.Position.{Position}
use Rattle.ds_explore_state.specs.declared.states.States.{States}
use Rattle.ds_explore.specs.declared.search.Start.{Start}
use Rattle.ds_explore.specs.Met.{AreOnWay}
use Rattle.ds_explore.specs.Starts.{IsOrderTo, allowed_by}
use Rattle.ds_explore.specs.Whole.{AreGoneThrough, IsAmong, IsOnWay}
use Rattle.ds_explore.proofs.Leading.{order_first}
use Rattle.ds_explore.proofs.Meeting.{none_marked}

-- nothing has happened, and no state is marked
pub way_none : (start : Start) (states : States) (marks : List Bool) (count : ℕ) (x : Position) → marks ≡ replicate count false → x.world ≡ start.first.world → seats_of x ≡ seats_of start.first → AreOnWay start states marks x
way_none start states marks count x none world seats = record {
  way = [];
  leads = order_first start x world seats;
  each = λ n is. absurd (let bad : true ≡ false = sym is ∙ none_marked marks count none n in cc);
}

-- the state to which the way leads is marked
pub way_marked : (start : Start) (states : States) (marks : List Bool) (x : Position) (number : ℕ) (o : Option ℕ) → IfSome o (HasNumber states (groups_of start.touched) x) → o ≡ Some number
    → AreOnWay start states marks x → AreOnWay start states (set marks number true) x
way_marked start states marks x number o has is h = record {
  way = h.way;
  leads = h.leads;
  each = λ n marked. elim (cases_eq n number) [
    | inl same ↦ subst (λ (k : ℕ). IsOnWay start states h.way k) (sym same) (record {
      before = h.way;
      after = [];
      parts = sym (append-nil h.way);
      position = x;
      leads = h.leads;
      has = subst (λ (o : Option ℕ). IfSome o (HasNumber states (groups_of start.touched) x)) is has;
    })
    | inr other ↦ h.each n (sym (get_or-set_other marks number n true false other) ∙ marked)
  ];
}

-- a state on the way is on one that goes on
on_longer : (start : Start) (states : States) (way more : List Move) (n : ℕ) → IsOnWay start states way n → IsOnWay start states (way ++ more) n
on_longer start states way more n h = record {
  before = h.before;
  after = h.after ++ more;
  parts = ap (λ (l : List Move). l ++ more) h.parts ∙ append_assoc h.before h.after more;
  position = h.position;
  leads = h.leads;
  has = h.has;
}

-- the way goes on
pub way_more : (start : Start) (states : States) (marks : List Bool) (x y : Position) → ((moves : List Move) → IsOrderTo start moves x → (move : Move) × IsOrderTo start (moves ++ move ∷ []) y)
    → AreOnWay start states marks x → AreOnWay start states marks y
way_more start states marks x y step h =
    let s = step h.way h.leads in
    record {
      way = h.way ++ s.0 ∷ [];
      leads = s.1;
      each = λ n marked. on_longer start states h.way (s.0 ∷ []) n (h.each n marked);
    }

-- each state is one that was gone through, or one on the way
pub gone_or_on_way : (start : Start) (keys : List (List ℕ)) (states : States) (edges : List (Edge Choice)) (marks passed these those : List Bool) (count : ℕ) (x : Position)
    → AreDrawn states (groups_of start.touched) (IsAmong start.judge keys) (allowed_by start.options) start.touched.places.items start.first edges marks → AreOnWay start states passed x
    → these ≡ marks → those ≡ passed → count ≡ length (keys_of states) → ((n : ℕ) → n < count → (get_or these n false ≡ true) ⊎ (get_or those n false ≡ true)) → AreGoneThrough start keys states
gone_or_on_way start keys states edges marks passed these those count x drawn on is_marks is_passed counted either = record {
  edges = edges;
  way = on.way;
  each = λ n low. elim (either n (subst (λ (c : ℕ). n < c) (sym counted) low)) [
    | inl is ↦ inl (drawn.each n (subst (λ (l : List Bool). get_or l n false ≡ true) is_marks is))
    | inr is ↦ inr (on.each n (subst (λ (l : List Bool). get_or l n false ≡ true) is_passed is))
  ];
}
