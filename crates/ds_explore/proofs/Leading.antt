-- Where orders lead that are carried out again.
use Rattle.std.proofs.Common.{ℕ, ◌≡◌, ◌+◌, ◌∙◌, List, ◌++◌, ◌∷◌, [], Ok, Err, Some, ap, append_assoc, arith, length, map, refl, subst, sym}
use Rattle.std.specs.Prelude.{IfOk, Result, slice_get}
use Rattle.std.proofs.lemmas.List.{append-nil, length-append}
use Rattle.ds_layout.specs.declared.place.Place.{Place}
use Rattle.ds_state.specs.Value.{WorldValue}
use Rattle.ds_explore_state.specs.Alike.{AreAlike, ArePositionsAlike}
use Rattle.ds_explore_state.specs.Closed.{HasNumber, no_move, one_move_more}
use Rattle.ds_explore_state.specs.States.{groups_of, state_of}
use Rattle.ds_explore_state.specs.declared.states.States.{States}
use Rattle.ds_explore_state.specs.Following.{KnowsBuffers}
use Rattle.ds_explore_state.specs.Orders.{Happens, MayHappen, seats_of}
use Rattle.ds_explore_state.specs.declared.position.Move.{Move}
use Rattle.ds_explore_state.specs.declared.position.Position.{Position}
use Rattle.ds_explore_state.proofs.Alike.{may_alike}
use Rattle.ds_explore_state.proofs.Closing.{happens_from}
use Rattle.ds_explore.specs.declared.search.Start.{Start}
use Rattle.ds_explore.specs.Starts.{ComesAgain, IsLedTo, IsOrderTo, allowed_by}

-- positions of one world, whose processes have the same, are alike
same_alike : (x y : Position) → x.world ≡ y.world → seats_of x ≡ seats_of y → ArePositionsAlike x y
same_alike x y e f = record {
  worlds = subst (λ (w : WorldValue). AreAlike x.world w) e (record { layout = refl; memory = record { cached = λ r. refl; persisted = λ r. refl; buffer = λ q. refl }; situation = λ q. refl });
  seats = sym f;
}

-- no move leads to the first position
pub order_first : (start : Start) (x : Position) → x.world ≡ start.first.world → seats_of x ≡ seats_of start.first → IsOrderTo start [] x
order_first start x e f = record { position = start.first; order = no_move; world = e; seats = f }

-- one move more
pub order_more : (start : Start) (moves : List Move) (x y : Position) (move : Move) → IsOrderTo start moves x → MayHappen (allowed_by start.options) start.touched.places.items x move → Happens x move y → IsOrderTo start (moves ++ move ∷ []) y
order_more start moves x y move led may happens = record {
  position = y;
  order = one_move_more moves move led.position y led.order (may_alike (allowed_by start.options) start.touched.places.items x led.position move (same_alike x led.position led.world led.seats) may)
      (happens_from led.position x y move led.world led.seats happens);
  world = refl;
  seats = refl;
}

-- an order leads to where it leads
pub order_leads : (start : Start) (moves : List Move) (x : Position) → IsOrderTo start moves x → IsLedTo start x
order_leads start moves x h = record { moves = moves; position = h.position; order = h.order; world = h.world; seats = h.seats }

-- this order goes on by as many moves
abbrev pub GoesOnBy : Start → List Move → ℕ → Position → Type 0
GoesOnBy start moves count x = (more : List Move) × (length more ≡ count) × IsOrderTo start (moves ++ more) x

pub goes_on_none : (start : Start) (moves : List Move) (x : Position) → IsOrderTo start moves x → GoesOnBy start moves 0 x
goes_on_none start moves x h = ([], refl, subst (λ (l : List Move). IsOrderTo start l x) (sym (append-nil moves)) h)

pub goes_on_more : (start : Start) (moves : List Move) (count : ℕ) (x y : Position) → GoesOnBy start moves count x
    → ((before : List Move) → IsOrderTo start before x → (move : Move) × IsOrderTo start (before ++ move ∷ []) y) → GoesOnBy start moves (count + 1) y
goes_on_more start moves count x y (more, long, h) step =
    let s = step (moves ++ more) h in
    let size = length-append more (s.0 ∷ []) in
    (more ++ s.0 ∷ [], omega (arith, size, long), subst (λ (l : List Move). IsOrderTo start l y) (append_assoc moves more (s.0 ∷ [])) s.1)

-- two keys of one number are those of one state
same_some : {A : Type 0} (xs ys : List A) → map (λ (x : A). Some x) xs ≡ map (λ (x : A). Some x) ys → xs ≡ ys
same_some [] [] is = refl
same_some [] (y ∷ ys) is = absurd (cc)
same_some (x ∷ xs) [] is = absurd (cc)
same_some {A} (x ∷ xs) (y ∷ ys) is =
    let head : Some x ≡ Some y = cc in
    let tail : map (λ (x : A). Some x) xs ≡ map (λ (x : A). Some x) ys = cc in
    let one : x ≡ y = cc in
    let rest : xs ≡ ys = same_some xs ys tail in
    cc

pub same_state : (states : States) (groups : List (List Place)) (x y : Position) (n : ℕ) → HasNumber states groups x n → HasNumber states groups y n → state_of groups x ≡ state_of groups y
same_state states groups x y n h k =
    let some : Some h.key ≡ Some k.key = sym h.there ∙ k.there in
    let key : h.key ≡ k.key = cc in
    same_some (state_of groups x) (state_of groups y) (sym h.is ∙ ap (λ (l : List ℕ). map (slice_get states.numbers) l) key ∙ k.is)

-- an order that goes on by some moves to the same state comes to it again
pub comes_again : (start : Start) (states : States) (moves : List Move) (count n m : ℕ) (x y : Position) → IsOrderTo start moves x → GoesOnBy start moves count y → (count ≡ 0 → ⊥)
    → HasNumber states (groups_of start.touched) x n → HasNumber states (groups_of start.touched) y m → n ≡ m → ComesAgain start
comes_again start states moves count n m x y h (more, long, k) some a b same = record {
  moves = moves;
  more = more;
  x = x;
  y = y;
  order = h;
  goes_on = k;
  some = λ none. some (sym long ∙ ap (λ (l : List Move). length l) none);
  same = same_state states (groups_of start.touched) x y n a (subst (λ (i : ℕ). HasNumber states (groups_of start.touched) y i) (sym same) b);
}

-- what the first position's buffers hold is known of the start
pub known_ok : {E : Type 0} (r : Result Start E) (first : Position) (H : Type 0) → IfOk r (λ start. start.first ≡ first) → (H → KnowsBuffers first) → IfOk r (λ start. H → KnowsBuffers start.first)
known_ok (Ok start) first H e known = subst (λ (x : Position). H → KnowsBuffers x) (sym e) known
known_ok (Err why) first H e known = tt
