-- The seats of the first processes are numbered, one by one.
use Rattle.std.proofs.Common.{◌≡◌, ◌∙◌, ◌<◌, ◌≤◌, ◌++◌, ◌∷◌, [], ℕ, Bool, true, false, List, ap, append-nil, cond, nat_lt, sym}
use Rattle.std.proofs.lemmas.List.{map-append}
use Rattle.std.proofs.lemmas.List.Elements.{filter-append}
use Rattle.std.proofs.lemmas.Bool.{lt-ltb, le-ltb}
use Rattle.ds_shared_seats.specs.declared.seat.Seat.{Seat}
use Rattle.ds_net_desks.specs.SeatsOfStores.{seats_below, seats_in}
use Rattle.ds_net_desks.specs.declared.numbered_seat.NumberedSeat.{NumberedSeat}

-- one seat more, by whether it is of one of the first processes
below_more : (joins : ℕ) (seats : List Seat) (seat : Seat) (b : Bool) → nat_lt seat.pass.process joins ≡ b → seats_below joins (seats ++ seat ∷ []) ≡ seats_below joins seats ++ cond b (seat ∷ []) []
below_more joins seats seat b is =
    filter-append (λ (s : Seat). nat_lt s.pass.process joins) seats (seat ∷ []) ∙ ap (λ (t : Bool). seats_below joins seats ++ cond t (seat ∷ []) []) is

-- a seat of one of the first processes is numbered
pub one_below : (joins : ℕ) (all : List NumberedSeat) (seats : List Seat) (seat : Seat) (n : NumberedSeat) → n.seat ≡ seat → seat.pass.process < joins → seats_in all ≡ seats_below joins seats
    → seats_in (all ++ n ∷ []) ≡ seats_below joins (seats ++ seat ∷ [])
one_below joins all seats seat n is below so_far =
    map-append (λ (k : NumberedSeat). k.seat) all (n ∷ [])
    ∙ (ap (λ (l : List Seat). l ++ n.seat ∷ []) so_far
    ∙ (ap (λ (s : Seat). seats_below joins seats ++ s ∷ []) is ∙ sym (below_more joins seats seat true (lt-ltb seat.pass.process joins below))))

-- a seat of another process is not
pub one_behind : (joins : ℕ) (all : List NumberedSeat) (seats : List Seat) (seat : Seat) → joins ≤ seat.pass.process → seats_in all ≡ seats_below joins seats
    → seats_in all ≡ seats_below joins (seats ++ seat ∷ [])
one_behind joins all seats seat behind so_far =
    so_far ∙ (sym (append-nil (seats_below joins seats)) ∙ sym (below_more joins seats seat false (le-ltb seat.pass.process joins behind)))
