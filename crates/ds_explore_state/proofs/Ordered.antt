-- Every order is a path in the graph of the states that were found.
use Rattle.std.proofs.Common.{ℕ, zero, suc, ◌≡◌, ◌<◌, ◌≤◌, ◌∙◌, refl, sym, ap, subst, inl, inr, List, [], ◌∷◌, ◌++◌, length, map, arith, Bool, true, false}
use Rattle.std.specs.Prelude.{◌≢◌, IsTrue, Option, Some, None, option_map, slice_get, slice_index_or}
use Rattle.std.specs.List.{AllByRecursion}
use Rattle.std.proofs.lemmas.Bool.{cases_lt}
use Rattle.std.proofs.lemmas.List.{length-map, map_push}
use Rattle.std.proofs.lemmas.List.Elements.{All-contains}
use Rattle.ds_words.specs.declared.words.Word.{Word}
use Rattle.ds_words.specs.declared.access.BufferEntry.{BufferEntry}
use Rattle.ds_words.specs.Memory.{SameMemory}
use Rattle.ds_paths.specs.declared.graph.Edge.{Edge}
use Rattle.ds_paths.specs.Paths.{Path, no_edge, one_edge_more}
use Rattle.ds_layout.specs.declared.place.Place.{Place}
use Rattle.ds_layout.specs.declared.layout.Layout.{Layout}
use Rattle.ds_layout.specs.SheetMemory.{memory}
use Rattle.ds_state.specs.Value.{WorldValue, world_of, first_rest}
use Rattle.ds_state.specs.declared.situation.Situation.{Situation}
use Rattle.ds_state.specs.declared.situation.Situation.TheVariants.{Idle}
use Rattle.ds_explore_state.specs.declared.choices.Choice.{Choice}
use Rattle.ds_explore_state.specs.declared.choices.Choice.TheVariants.{Happens, Rests, Crashes}
use Rattle.ds_explore_state.specs.declared.orders.Allowed.{Allowed}
use Rattle.ds_explore_state.specs.declared.position.Move.{Move}
use Rattle.ds_explore_state.specs.declared.position.Move.TheVariants.{Step}
use Rattle.ds_explore_state.specs.declared.position.Position.{Position}
use Rattle.ds_explore_state.specs.declared.position.ProcessState.{ProcessState}
use Rattle.ds_explore_state.specs.declared.states.States.{States}
use Rattle.ds_explore_state.specs.States.{IsKey, PlainPart, PlainSeat, SameState, crashed_state_of, lost_in, lost_process_in, lost_seat, parts_below, seat_of, state_of, word_in}
use Rattle.ds_explore_state.specs.Alike.{AreAlike, ArePositionsAlike, LeaveAlike}
use Rattle.ds_explore_state.specs.Orders.{IsBusy, MayHappen, no_seat, seats_of}
use Rattle.ds_explore_state.specs.Following.{IsFollowed, IsKept, IsOff, KnowsBuffers}
use Rattle.ds_explore_state.specs.Closed.{HasNumber, IsLossWritten, IsRestWritten, Order, keys_of, no_move, one_move_more}
use Rattle.ds_explore_state.specs.Drawn.{EndsAt, HasLabel, IsChoice, IsChoiceEdge, IsDrawn, IsGraph, IsPath}
use Rattle.ds_explore_state.proofs.Parts.{apart, parts_count, parts_same, same_by_key}
use Rattle.ds_explore_state.proofs.Memories.{by_numbers}
use Rattle.ds_explore_state.proofs.Alike.{get_there, happens_alike, may_alike, place_there}

-- ---- what is alike

pub alike_back : (x y : Position) → ArePositionsAlike x y → ArePositionsAlike y x
alike_back x y a = record {
  worlds = record {
    layout = sym a.worlds.layout;
    memory = record {
      cached = λ r. sym (a.worlds.memory.cached r);
      persisted = λ r. sym (a.worlds.memory.persisted r);
      buffer = λ q. sym (a.worlds.memory.buffer q);
    };
    situation = λ q. sym (a.worlds.situation q);
  };
  seats = sym a.seats;
}

pub alike_on : (x y z : Position) → ArePositionsAlike x y → ArePositionsAlike y z → ArePositionsAlike x z
alike_on x y z a b = record {
  worlds = record {
    layout = b.worlds.layout ∙ a.worlds.layout;
    memory = record {
      cached = λ r. b.worlds.memory.cached r ∙ a.worlds.memory.cached r;
      persisted = λ r. b.worlds.memory.persisted r ∙ a.worlds.memory.persisted r;
      buffer = λ q. b.worlds.memory.buffer q ∙ a.worlds.memory.buffer q;
    };
    situation = λ q. b.worlds.situation q ∙ a.worlds.situation q;
  };
  seats = b.seats ∙ a.seats;
}

-- ---- positions of one state

-- lists that are the same place by place
same_lists : (f : ProcessState → PlainSeat) (xs ys : List ProcessState) → length xs ≡ length ys → ((p : ℕ) → p < length xs → option_map f (slice_get xs p) ≡ option_map f (slice_get ys p)) → map f ys ≡ map f xs
same_lists f [] [] count same = refl
same_lists f [] (y ∷ ys) count same = absurd (let bad : ⊥ = omega (arith, count) in bad)
same_lists f (x ∷ xs) [] count same = absurd (let bad : ⊥ = omega (arith, count) in bad)
same_lists f (x ∷ xs) (y ∷ ys) count same =
    let first : Some (f x) ≡ Some (f y) = same zero (omega arith) in
    let one : f y ≡ f x = (let e : f x ≡ f y = cc in sym e) in
    let rest : map f ys ≡ map f xs = same_lists f xs ys (omega (arith, count)) (λ p low. same (suc p) (omega (arith, low))) in
    cc

-- where words differ at a place, and are the same at the places of a group, the place is none of them
off_group : (f g : Place → Word) (r : Place) (group : List Place) → ((e : f r ≡ g r) → ⊥) → AllByRecursion (λ place. f place ≡ g place) group → AllByRecursion (λ place. r ≢ place) group
off_group f g r [] differ same = tt
off_group f g r (place ∷ group) differ same = ((λ e. differ (subst (λ (q : Place). f q ≡ g q) (sym e) same.0)), off_group f g r group differ same.1)

off_groups : (f g : Place → Word) (r : Place) (groups : List (List Place)) → ((e : f r ≡ g r) → ⊥) → AllByRecursion (AllByRecursion (λ place. f place ≡ g place)) groups → IsOff groups r
off_groups f g r [] differ same = tt
off_groups f g r (group ∷ groups) differ same = (off_group f g r group differ same.0, off_groups f g r groups differ same.1)

-- what stands at a place of two lists that are the same there
same_there : (xs ys : List Situation) (q : ℕ) (d : Situation) → slice_get xs q ≡ slice_get ys q → slice_index_or xs q d ≡ slice_index_or ys q d
same_there [] [] q d e = refl
same_there [] (y ∷ ys) zero d e = cc
same_there [] (y ∷ ys) (suc q) d e = same_there [] ys q d e
same_there (x ∷ xs) [] zero d e = cc
same_there (x ∷ xs) [] (suc q) d e = same_there xs [] q d e
same_there (x ∷ xs) (y ∷ ys) zero d e = cc
same_there (x ∷ xs) (y ∷ ys) (suc q) d e = same_there xs ys q d e

-- nothing stands beyond the end
none_there : (xs : List Situation) (q : ℕ) → length xs ≤ q → slice_get xs q ≡ None
none_there [] q far = refl
none_there (x ∷ xs) zero far = absurd (let bad : ⊥ = omega (arith, far) in bad)
none_there (x ∷ xs) (suc q) far = none_there xs q (omega (arith, far))

pub alike_by_state : (groups : List (List Place)) (first x y : Position) → IsFollowed groups first x → IsFollowed groups first y → SameState groups x y → ArePositionsAlike x y
alike_by_state groups first x y f g same = record {
  worlds = record {
    layout = g.layout ∙ sym f.layout;
    memory = record {
      cached = λ r. by_numbers ((memory y.world.sheet).cached r) ((memory x.world.sheet).cached r) (λ differ. (
          let off = off_groups (word_in x.world) (word_in y.world) r groups (λ e. differ (sym (ap (λ (w : Word). w.cached) e))) same.words in
          g.cached r off ∙ sym (f.cached r off)));
      persisted = λ r. by_numbers ((memory y.world.sheet).persisted r) ((memory x.world.sheet).persisted r) (λ differ. (
          let off = off_groups (word_in x.world) (word_in y.world) r groups (λ e. differ (sym (ap (λ (w : Word). w.persisted) e))) same.words in
          g.persisted r off ∙ sym (f.persisted r off)));
      buffer = λ q. g.buffers q ∙ ap (λ (l : List PlainSeat). (slice_index_or l q no_seat).buffer) seats ∙ sym (f.buffers q);
    };
    situation = λ q. same_there y.world.situations x.world.situations q (Idle first_rest) (sym (situation q));
  };
  seats = seats;
}
  where
    seats : seats_of y ≡ seats_of x
    seats = same_lists seat_of x.seats.items y.seats.items same.count same.seats

    situation : (q : ℕ) → slice_get x.world.situations q ≡ slice_get y.world.situations q
    situation q = elim (cases_lt q (length x.seats.items)) [
      | inl low ↦ same.situations q low
      | inr far ↦ (
          let a = f.count in
          let b = g.count in
          let c = f.good.situations in
          let d = g.good.situations in
          let e = length-map x.seats.items seat_of in
          let h = length-map y.seats.items seat_of in
          let k = same.count in
          none_there x.world.situations q (omega (arith, a, c, e, far)) ∙ sym (none_there y.world.situations q (omega (arith, b, d, h, k, far))))
    ]

-- positions that are alike are alike after a crash
leave_alike : (x y : Position) → ArePositionsAlike x y → LeaveAlike x y
leave_alike x y a = record { layout = a.worlds.layout; persisted = a.worlds.memory.persisted; answered = lost_same x.seats.items y.seats.items a.seats }
  where
    lost_same : (xs ys : List ProcessState) → map seat_of ys ≡ map seat_of xs → map lost_seat ys ≡ map lost_seat xs
    lost_same [] [] e = refl
    lost_same [] (y ∷ ys) e = cc
    lost_same (x ∷ xs) [] e = cc
    lost_same (x ∷ xs) (y ∷ ys) e =
        let one : seat_of y ≡ seat_of x = cc in
        let rest : map seat_of ys ≡ map seat_of xs = cc in
        let first : lost_seat y ≡ lost_seat x = ap (λ (s : PlainSeat). let l : PlainSeat = record { buffer = []; answer = s.answer; text = s.text } in l) one in
        let others = lost_same xs ys rest in
        cc

leave_alike_on : (x y z : Position) → LeaveAlike x y → LeaveAlike y z → LeaveAlike x z
leave_alike_on x y z a b = record { layout = b.layout ∙ a.layout; persisted = λ r. b.persisted r ∙ a.persisted r; answered = b.answered ∙ a.answered }

-- positions of which a crash leaves one state
leave_alike_by_state : (groups : List (List Place)) (first x y : Position) → IsFollowed groups first x → IsFollowed groups first y → crashed_state_of groups x ≡ crashed_state_of groups y → LeaveAlike x y
leave_alike_by_state groups first x y f g e =
    let k = apart (lost_in x.world) (lost_in y.world) groups (parts_below (lost_process_in x) (length x.seats.items)) (parts_below (lost_process_in y) (length y.seats.items)) e in
    let count : length x.seats.items ≡ length y.seats.items = sym (parts_count (lost_process_in x) (length x.seats.items)) ∙ ap (λ (l : List PlainPart). length l) k.1 ∙ parts_count (lost_process_in y) (length y.seats.items) in
    let all : parts_below (lost_process_in x) (length x.seats.items) ≡ parts_below (lost_process_in y) (length x.seats.items) = k.1 ∙ ap (λ (n : ℕ). parts_below (lost_process_in y) n) (sym count) in
    record {
      layout = g.layout ∙ sym f.layout;
      persisted = λ r. by_numbers ((memory y.world.sheet).persisted r) ((memory x.world.sheet).persisted r) (λ differ. (
          let off = off_groups (lost_in x.world) (lost_in y.world) r groups (λ e. differ (sym (ap (λ (w : Word). w.persisted) e))) k.0 in
          g.persisted r off ∙ sym (f.persisted r off)));
      answered = same_lists lost_seat x.seats.items y.seats.items count (λ p low. (let one = parts_same (lost_process_in x) (lost_process_in y) (length x.seats.items) p all low in cc));
    }

-- ---- orders

module _ (states : States) (groups : List (List Place)) (numbered : Position → Bool → ℕ → Type 0) (allowed : Allowed) (places : List Place) (first : Position) (edges : List (Edge Choice)) (graph : IsGraph states groups numbered allowed places first edges) (begins : IsKept groups first first) (known : KnowsBuffers first) where
  one_number : (x y : Position) (number : ℕ) → HasNumber states groups x number → HasNumber states groups y number → IsFollowed groups first x → IsFollowed groups first y → ArePositionsAlike x y
  one_number x y number h k f g =
      let same : Some k.key ≡ Some h.key = sym k.there ∙ h.there in
      let key : k.key ≡ h.key = cc in
      alike_by_state groups first x y f g (same_by_key states.numbers h.key groups x y h.is (subst (λ (l : List ℕ). IsKey states.numbers l (state_of groups y)) key k.is))

  -- an order comes to the position by a path to a vertex whose state's position is alike
  record Comes (moves : List Move) (y : Position) : Type 0 where
    vertex : ℕ
    low : vertex < length (keys_of states)
    path : Path edges (map Happens moves) vertex
    drawn : IsDrawn states groups numbered allowed places first edges vertex
    alike : ArePositionsAlike drawn.position y

  -- an edge that leaves the vertex is what may come next at its position
  edge_is : (vertex : ℕ) (d : IsDrawn states groups numbered allowed places first edges vertex) (choice : Choice) (h : HasLabel d.leaving choice) → IsChoice states groups numbered allowed places first d.position choice h.0.to
  edge_is vertex d choice h = subst (λ (c : Choice). IsChoice states groups numbered allowed places first d.position c h.0.to) h.2 (All-contains (IsChoiceEdge states groups numbered allowed places first d.position vertex) d.leaving h.0 d.choices.each h.1).1

  -- a path goes on by it
  goes_on : (labels : List Choice) (vertex : ℕ) (d : IsDrawn states groups numbered allowed places first edges vertex) (choice : Choice) (h : HasLabel d.leaving choice) → Path edges labels vertex → Path edges (labels ++ choice ∷ []) h.0.to
  goes_on labels vertex d choice h path =
      let from : h.0.from ≡ vertex = (All-contains (IsChoiceEdge states groups numbered allowed places first d.position vertex) d.leaving h.0 d.choices.each h.1).0 in
      subst (λ (c : Choice). Path edges (labels ++ c ∷ []) h.0.to) h.2 (one_edge_more labels h.0 (subst (λ (v : ℕ). Path edges labels v) (sym from) path) ((d.those h.0 from).1 h.1))

  -- the position was found, and is alike to that of its vertex
  comes_to : (moves : List Move) (y : Position) (vertex : ℕ) → HasNumber states groups y vertex → IsFollowed groups first y → Path edges (map Happens moves) vertex → Comes moves y
  comes_to moves y vertex has f path =
      let low : vertex < length (keys_of states) = place_there (keys_of states) vertex has.key has.there in
      let d : IsDrawn states groups numbered allowed places first edges vertex = graph.drawn vertex low in
      record { vertex = vertex; low = low; path = path; drawn = d; alike = one_number d.position y vertex d.has has (d.kept known) f }

  order_comes : (moves : List Move) (y : Position) → Order allowed places first moves y → Comes moves y
  order_comes _ _ no_move = comes_to [] first 0 graph.begins (begins known) no_edge
  order_comes _ _ (one_move_more moves move x y order may happens) =
      let s = order_comes moves x order in
      let z : Position = s.drawn.position in
      let can : MayHappen allowed places z move = may_alike allowed places x z move (alike_back z x s.alike) may in
      let h = s.drawn.choices.moves move can in
      let led = (edge_is s.vertex s.drawn (Happens move) h).1 in
      let after : Position = led.position in
      let alike : ArePositionsAlike after y = happens_alike allowed places move z x after y s.alike can led.happens happens in
      let path : Path edges (map Happens (moves ++ move ∷ [])) h.0.to = subst (λ (l : List Choice). Path edges l h.0.to) (sym (map_push Happens moves move)) (goes_on (map Happens moves) s.vertex s.drawn (Happens move) h s.path) in
      let t = comes_to (moves ++ move ∷ []) after h.0.to led.has (led.follows first (s.drawn.kept known)) path in
      record { vertex = t.vertex; low = t.low; path = t.path; drawn = t.drawn; alike = alike_on t.drawn.position after y t.alike alike }

  -- where an order ends without a crash
  rests_at : (moves : List Move) (y : Position) (s : Comes moves y) → ((p : ℕ) → IsBusy y p → ⊥) → EndsAt states groups numbered allowed places first edges moves Rests (λ outcome. IsRestWritten (λ x crashed. numbered x crashed outcome) y)
  rests_at moves y s none =
      let z : Position = s.drawn.position in
      let h = s.drawn.choices.rests (λ p busy. none p (may_alike allowed places z y (Step p) s.alike busy)) in
      let e = (edge_is s.vertex s.drawn Rests h).1 in
      record {
        outcome = e.0;
        path = subst (λ (v : ℕ). Path edges (map Happens moves ++ Rests ∷ []) v) e.1 (goes_on (map Happens moves) s.vertex s.drawn Rests h s.path);
        comes = record { position = z; alike = s.alike; is = e.2 };
      }

  -- where it ends with a crash
  crashes_at : (moves : List Move) (y : Position) (s : Comes moves y) → IsTrue allowed.crashes → EndsAt states groups numbered allowed places first edges moves Crashes (λ outcome. IsLossWritten (λ x crashed. numbered x crashed outcome) y)
  crashes_at moves y s may =
      let z : Position = s.drawn.position in
      let h = s.drawn.choices.crashes may in
      let e = (edge_is s.vertex s.drawn Crashes h).1 in
      let c = e.2 in
      record {
        outcome = e.0;
        path = subst (λ (v : ℕ). Path edges (map Happens moves ++ Crashes ∷ []) v) e.1 (goes_on (map Happens moves) s.vertex s.drawn Crashes h s.path);
        comes = record {
          position = c.position;
          alike = leave_alike_on c.position z y (leave_alike_by_state groups first c.position z (c.kept known) (s.drawn.kept known) c.same) (leave_alike z y s.alike);
          is = c.is;
        };
      }

  pub order_is_path : (moves : List Move) (y : Position) → Order allowed places first moves y → IsPath states groups numbered allowed places first edges moves y
  order_is_path moves y order =
      let s = order_comes moves y order in record {
        vertex = s.vertex;
        low = s.low;
        path = s.path;
        drawn = s.drawn;
        alike = s.alike;
        rests = rests_at moves y s;
        crashes = crashes_at moves y s;
      }
