-- Where what may happen leads, and the marks of a walk.
use Rattle.std.proofs.Common.{ℕ, zero, suc, ◌≡◌, ◌<◌, ◌∙◌, arith, List, [], ◌∷◌, map, Bool, true, false, Option, Some, None, Ok, Err, length, get_or, set, replicate, sym, subst}
use Rattle.std.specs.Global.{Vec}
use Rattle.std.specs.List.{AllByRecursion}
use Rattle.std.specs.Prelude.{◌≢◌, Result, IfOk, IfSome, IsTrue, slice_get}
use Rattle.std.proofs.lemmas.List.{get_or-set_other, get_or_default}
use Rattle.std.proofs.lemmas.Option.{get_or_from_slice_get, slice_get_within}
use mathlib.Core.Logic.{dite}
use native.Mathlib.Decide.{ℕ_discrete}
use Rattle.ds_layout.specs.declared.place.Place.{Place}
use Rattle.ds_state.specs.Value.{WorldValue}
use Rattle.ds_explore_state.specs.declared.orders.Allowed.{Allowed}
use Rattle.ds_explore_state.specs.declared.position.Move.{Move}
use Rattle.ds_explore_state.specs.declared.position.Move.TheVariants.{Evict, Step, Stop}
use Rattle.ds_explore_state.specs.declared.position.Position.{Position}
use Rattle.ds_explore_state.specs.declared.states.States.{States}
use Rattle.ds_explore_state.specs.States.{PlainSeat}
use Rattle.ds_explore_state.specs.Orders.{Happens, HappensTo, IsBusy, MayHappen, seats_of}
use Rattle.ds_explore_state.specs.Following.{Follows, IsFollowed, IsKept, IsOff}
use Rattle.ds_explore_state.specs.declared.closure.Visit.{Visit}
use Rattle.ds_explore_state.specs.Closed.{AreKept, HasNumber, LeadsTo}

-- what happens in a copy happens in the position
pub happens_from : (x copy y : Position) (move : Move) → copy.world ≡ x.world → seats_of copy ≡ seats_of x → Happens copy move y → Happens x move y
happens_from x copy y move e f h =
    (h.0, subst (λ (w : WorldValue). HappensTo move h.0 w (seats_of x) y.world (seats_of y)) e (subst (λ (s : List PlainSeat). HappensTo move h.0 copy.world s y.world (seats_of y)) f h.1))

-- a copy follows what the position follows
pub follows_too : (groups : List (List Place)) (first x copy : Position) → copy.world ≡ x.world → seats_of copy ≡ seats_of x → IsFollowed groups first x → IsFollowed groups first copy
follows_too groups first x copy e f h =
    subst (λ (w : WorldValue). Follows groups first.world w (seats_of copy)) (sym e) (subst (λ (s : List PlainSeat). Follows groups first.world x.world s) (sym f) h)

-- a copy is kept as the position is
pub kept_copy : (groups : List (List Place)) (first x copy : Position) → copy.world ≡ x.world → seats_of copy ≡ seats_of x → IsKept groups first x → IsKept groups first copy
kept_copy groups first x copy e f kept = λ known. follows_too groups first x copy e f (kept known)

-- what is off the groups is off each of them
pub off_at : (groups : List (Vec Place)) (number : ℕ) (d : Vec Place) (place : Place) → number < length groups → IsOff (map (λ group. group.items) groups) place → AllByRecursion (λ other. place ≢ other) (get_or groups number d).items
off_at [] number d place low off = absurd (let bad : ⊥ = omega (arith, low) in bad)
off_at (group ∷ groups) zero d place low off = off.0
off_at (group ∷ groups) (suc number) d place low off = off_at groups number d place (omega (arith, low)) off.1

-- of no visit all is so
pub no_visits : (groups : List (List Place)) (first : Position) (visits : List Visit) → visits ≡ [] → AreKept groups first visits
no_visits groups first [] none = λ k d low. absurd (let bad : ⊥ = omega (arith, low) in bad)
no_visits groups first (visit ∷ visits) none = absurd (let bad : ⊥ = cc in bad)

-- it leads to the state that was looked up
pub led : {E : Type 0} (r : Result (Option ℕ) E) (states : States) (groups : List (List Place)) (x y : Position) (move : Move) → Happens x move y → ((first : Position) → IsFollowed groups first x → IsFollowed groups first y)
    → IfOk r (λ some. IfSome some (HasNumber states groups y)) → IfOk r (λ some. IfSome some (LeadsTo states groups x move))
led (Ok (Some n)) states groups x y move h f i = record { position = y; happens = h; has = i; follows = f }
led (Ok None) states groups x y move h f i = tt
led (Err e) states groups x y move h f i = tt
