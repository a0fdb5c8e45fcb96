-- What the edges of a graph say of the states that were found.
use Rattle.std.proofs.Common.{ℕ, zero, suc, ◌≡◌, ◌<◌, ◌+◌, ◌∙◌, arith, refl, sym, ap, subst, inl, inr, List, [], ◌∷◌, ◌++◌, Bool, true, false, true≢false, length, get_or, set, replicate}
use Rattle.std.specs.Prelude.{◌≢◌, ◌↔◌, All, AllPairs, Contains, IsTrue, Option, Some, None, slice_get, slice_index_or}
use Rattle.std.proofs.lemmas.Bool.{cases_eq}
use Rattle.std.proofs.lemmas.Grind.{get_or-set_at}
use Rattle.std.proofs.lemmas.List.{append-nil, get_or-set_other, get_or_default}
use Rattle.std.proofs.lemmas.List.Elements.{All-append, All-cons, All-contains, All-nil, All-push, All-weaker, Contains-append_cases, Contains-append_left, Contains-append_right, Contains-push}
use Rattle.std.proofs.lemmas.Option.{get_or_from_slice_get, slice_get_within}
use Rattle.ds_paths.specs.declared.graph.Edge.{Edge}
use Rattle.ds_paths.specs.Paths.{AreApart}
use Rattle.ds_paths.proofs.Lists.{contains_head, pairs_append}
use Rattle.ds_layout.specs.declared.layout.Layout.{Layout}
use Rattle.ds_layout.specs.declared.place.Place.{Place}
use Rattle.ds_layout.specs.Places.{IsPlace, number_of, place_of, words_of}
use Rattle.ds_layout.proofs.Places.{number_of_below, place_of-number_of}
use Rattle.ds_state.specs.Value.{WorldValue}
use Rattle.ds_explore_state.specs.declared.choices.Choice.{Choice}
use Rattle.ds_explore_state.specs.declared.choices.Choice.TheVariants.{Happens, Rests, Crashes}
use Rattle.ds_explore_state.specs.declared.orders.Allowed.{Allowed}
use Rattle.ds_explore_state.specs.declared.position.Move.{Move}
use Rattle.ds_explore_state.specs.declared.position.Move.TheVariants.{Step, Stop, Evict}
use Rattle.ds_explore_state.specs.declared.position.Position.{Position}
use Rattle.ds_explore_state.specs.declared.states.States.{States}
use Rattle.ds_explore_state.specs.Closed.{HasNumber, LeadsTo}
use Rattle.ds_explore_state.specs.Drawn.{Adds, AreChoices, AreDrawn, AreMoves, AreNext, AreThose, CanCome, HasLabel, IsChoice, IsChoiceEdge, IsDrawn, IsGraph, IsNext, IsNextEdge, IsOf}
use Rattle.ds_explore_state.specs.Following.{HasAllDirt, IsKept}
use Rattle.ds_explore_state.specs.Orders.{HasDirt, IsBusy, MayHappen}

-- ---- labels

-- a label is among more edges
pub label_left : (edges more : List (Edge Choice)) (choice : Choice) → HasLabel edges choice → HasLabel (edges ++ more) choice
label_left edges more choice h = (h.0, Contains-append_left edges more h.0 h.1, h.2)

pub label_right : (edges more : List (Edge Choice)) (choice : Choice) → HasLabel more choice → HasLabel (edges ++ more) choice
label_right edges more choice h = (h.0, Contains-append_right edges more h.0 h.1, h.2)

-- no edge is added where none may come next
pub none_added : (P : Edge Choice → Type 0) (may : Type 0) (choice : Choice) (edges : List (Edge Choice)) → (may → ⊥) → Adds P may choice edges edges
none_added P may choice edges none = record { added = []; is = sym (append-nil edges); each = All-nil P; has = λ yes. absurd (none yes) }

-- an edge with the label is added
pub one_added : (P : Edge Choice → Type 0) (may : Type 0) (choice : Choice) (old new : List (Edge Choice)) (edge : Edge Choice) → new ≡ old ++ edge ∷ [] → P edge → edge.by ≡ choice → Adds P may choice old new
one_added P may choice old new edge e h by = record { added = edge ∷ []; is = e; each = All-cons P edge [] h (All-nil P); has = λ yes. (edge, contains_head edge [], by) }

-- a move may happen that may come, and is of the words that may be evicted
pub may_by : (allowed : Allowed) (places : List Place) (x : Position) (move : Move) → IsOf places move → CanCome allowed x move → MayHappen allowed places x move
may_by allowed places x (Step p) of can = can
may_by allowed places x (Stop p) of can = can
may_by allowed places x (Evict place) of can = (can.0, can.1, of, can.2)

-- a move that may happen is one of those, and may come
pub come_by : (allowed : Allowed) (processes : ℕ) (places : List Place) (moves : List Move) (x : Position) (move : Move) → AreMoves processes places moves → length x.seats.items < processes + 1 → MayHappen allowed places x move → Contains moves move × CanCome allowed x move
come_by allowed processes places moves x (Step p) are few may = (are.steps p (let there = may.there in omega (arith, there, few)), may)
come_by allowed processes places moves x (Stop p) are few may = (are.stops p (let there = may.1.there in omega (arith, there, few)), may)
come_by allowed processes places moves x (Evict place) are few may = (are.evictions may.2.0 place may.2.1, (may.0, may.1, may.3))

module _ (states : States) (groups : List (List Place)) (allowed : Allowed) (places : List Place) where
  -- the edges of all moves that may come are those of all that may happen
  pub all_next : (processes : ℕ) (moves : List Move) (x : Position) (number : ℕ) (edges : List (Edge Choice)) → AreMoves processes places moves → length x.seats.items < processes + 1 → All (IsNextEdge states groups allowed places x number) edges
      → ((i : ℕ) (d : Move) → i < length moves → CanCome allowed x (get_or moves i d) → HasLabel edges (Happens (get_or moves i d))) → AreNext states groups allowed places x number edges
  all_next processes moves x number edges are few each has = record {
    each = each;
    moves = λ move may. (
        let c = come_by allowed processes places moves x move are few may in
        subst (λ (m : Move). HasLabel edges (Happens m)) c.0.2 (has c.0.0 move c.0.1 (subst (λ (m : Move). CanCome allowed x m) (sym c.0.2) c.1)));
  }

  -- a next edge that may come is added
  pub adds_next : (x : Position) (number : ℕ) (by : Move) (to : ℕ) (old new : List (Edge Choice)) → IsOf places by → CanCome allowed x by → LeadsTo states groups x by to → new ≡ old ++ record { from = number; by = Happens by; to = to } ∷ []
      → Adds (IsNextEdge states groups allowed places x number) (CanCome allowed x by) (Happens by) old new
  adds_next x number by to old new of can leads e = one_added (IsNextEdge states groups allowed places x number) (CanCome allowed x by) (Happens by) old new (record { from = number; by = Happens by; to = to }) e
      (refl, (may_by allowed places x by of can, leads)) refl

module _ (states : States) (groups : List (List Place)) (numbered : Position → Bool → ℕ → Type 0) (allowed : Allowed) (places : List Place) (first : Position) where
  -- what may happen next may come next
  choice_by : (x : Position) (by : Choice) (to : ℕ) → IsNext states groups allowed places x by to → IsChoice states groups numbered allowed places first x by to
  choice_by x (Happens move) to next = next
  choice_by x Rests to next = absurd next
  choice_by x Crashes to next = absurd next

  choice_edges : (x : Position) (number : ℕ) (edges : List (Edge Choice)) → All (IsNextEdge states groups allowed places x number) edges → All (IsChoiceEdge states groups numbered allowed places first x number) edges
  choice_edges x number edges all = All-weaker (IsNextEdge states groups allowed places x number) (IsChoiceEdge states groups numbered allowed places first x number) (λ edge h. (h.0, choice_by x edge.by edge.to h.1)) edges all

  -- the edges of all that may happen, with those of the ends of orders, are all that may come next
  pub choices_of : (x : Position) (number : ℕ) (next rested all : List (Edge Choice)) → AreNext states groups allowed places x number next
      → Adds (IsChoiceEdge states groups numbered allowed places first x number) ((p : ℕ) → IsBusy x p → ⊥) Rests next rested → Adds (IsChoiceEdge states groups numbered allowed places first x number) (IsTrue allowed.crashes) Crashes rested all
      → AllPairs (λ a b. a.by ≢ b.by) all → AreChoices states groups numbered allowed places first x number all
  choices_of x number next rested all are rests crashes apart =
      let e : all ≡ (next ++ rests.added) ++ crashes.added = crashes.is ∙ ap (λ (l : List (Edge Choice)). l ++ crashes.added) rests.is in
      record {
        each = subst (λ (l : List (Edge Choice)). All (IsChoiceEdge states groups numbered allowed places first x number) l) (sym e)
            (All-append (IsChoiceEdge states groups numbered allowed places first x number) (next ++ rests.added) crashes.added
            (All-append (IsChoiceEdge states groups numbered allowed places first x number) next rests.added (choice_edges x number next are.each) rests.each) crashes.each);
        moves = λ move may. subst (λ (l : List (Edge Choice)). HasLabel l (Happens move)) (sym e) (label_left (next ++ rests.added) crashes.added (Happens move) (label_left next rests.added (Happens move) (are.moves move may)));
        rests = λ none. subst (λ (l : List (Edge Choice)). HasLabel l Rests) (sym e) (label_left (next ++ rests.added) crashes.added Rests (label_right next rests.added Rests (rests.has none)));
        crashes = λ yes. subst (λ (l : List (Edge Choice)). HasLabel l Crashes) (sym e) (label_right (next ++ rests.added) crashes.added Crashes (crashes.has yes));
        apart = apart;
      }

  -- ---- what is drawn

  -- the edges that leave one state more
  pub drawn_more : (edges more all : List (Edge Choice)) (old new : List Bool) (at : ℕ) (x : Position) → AreDrawn states groups numbered allowed places first edges old → get_or old at false ≡ false → at < length old → new ≡ set old at true → all ≡ edges ++ more
      → AreChoices states groups numbered allowed places first x at more → HasNumber states groups x at → IsKept groups first x → AreDrawn states groups numbered allowed places first all new
  drawn_more edges more all old new at x drawn unmarked there marks e choices has kept = subst (λ (l : List (Edge Choice)). AreDrawn states groups numbered allowed places first l new) (sym e)
      (subst (λ (l : List Bool). AreDrawn states groups numbered allowed places first (edges ++ more) l) (sym marks) (record { each = each; from = from; apart = apart }))
    where
      from_more : (edge : Edge Choice) → Contains more edge → edge.from ≡ at
      from_more edge h = (All-contains (IsChoiceEdge states groups numbered allowed places first x at) more edge choices.each h).0

      not_before : (edge : Edge Choice) → Contains edges edge → edge.from ≡ at → ⊥
      not_before edge h is = true≢false (sym (drawn.from edge h) ∙ ap (λ (n : ℕ). get_or old n false) is ∙ unmarked)

      here : get_or (set old at true) at false ≡ true
      here = get_or-set_at old at at true false refl there

      kept_mark : (n : ℕ) → (n ≡ at → ⊥) → get_or (set old at true) n false ≡ get_or old n false
      kept_mark n differs = get_or-set_other old at n true false differs

      those_here : AreThose (edges ++ more) at more
      those_here edge is = (
        (λ h. elim (Contains-append_cases edges more edge h) [
          | inl before ↦ absurd (not_before edge before is)
          | inr added ↦ added
        ]),
        (λ h. Contains-append_right edges more edge h),
      )

      those_there : (n : ℕ) (leaving : List (Edge Choice)) → (n ≡ at → ⊥) → AreThose edges n leaving → AreThose (edges ++ more) n leaving
      those_there n leaving differs those edge is = (
        (λ h. elim (Contains-append_cases edges more edge h) [
          | inl before ↦ (those edge is).0 before
          | inr added ↦ absurd (differs (sym is ∙ from_more edge added))
        ]),
        (λ h. Contains-append_left edges more edge ((those edge is).1 h)),
      )

      each : (n : ℕ) → get_or (set old at true) n false ≡ true → IsDrawn states groups numbered allowed places first (edges ++ more) n
      each n marked = elim (cases_eq n at) [
        | inl is ↦ subst (λ (k : ℕ). IsDrawn states groups numbered allowed places first (edges ++ more) k) (sym is) (record { position = x; has = has; kept = kept; leaving = more; choices = choices; those = those_here })
        | inr differs ↦ (let d = drawn.each n (sym (kept_mark n differs) ∙ marked) in
            record { position = d.position; has = d.has; kept = d.kept; leaving = d.leaving; choices = d.choices; those = those_there n d.leaving differs d.those })
      ]

      marked_from : (edge : Edge Choice) → Contains edges edge → get_or (set old at true) edge.from false ≡ true
      marked_from edge h = kept_mark edge.from (not_before edge h) ∙ drawn.from edge h

      from : (edge : Edge Choice) → Contains (edges ++ more) edge → get_or (set old at true) edge.from false ≡ true
      from edge h = elim (Contains-append_cases edges more edge h) [
        | inl before ↦ marked_from edge before
        | inr added ↦ ap (λ (n : ℕ). get_or (set old at true) n false) (from_more edge added) ∙ here
      ]

      apart : AreApart (edges ++ more)
      apart = pairs_append (λ a b. a.from ≡ b.from → a.by ≡ b.by → ⊥) edges more drawn.apart (λ i j d less low from by. choices.apart i j d less low by)
          (λ a b before added from by. not_before a before (from ∙ from_more b added))

  -- nothing is drawn
  pub none_drawn : (edges : List (Edge Choice)) (marks : List Bool) (n : ℕ) → edges ≡ [] → marks ≡ replicate n false → AreDrawn states groups numbered allowed places first edges marks
  none_drawn edges marks n none e = subst (λ (l : List (Edge Choice)). AreDrawn states groups numbered allowed places first l marks) (sym none) (record {
    each = λ k marked. absurd (unmarked n k (subst (λ (l : List Bool). get_or l k false ≡ true) e marked));
    from = λ edge h. absurd (let low = h.1 in let bad : ⊥ = omega (arith, low) in bad);
    apart = λ i j d less low. absurd (let bad : ⊥ = omega (arith, low) in bad);
  })
    where
      unmarked : (n k : ℕ) → get_or (replicate n false) k false ≡ true → ⊥
      unmarked zero k h = cc
      unmarked (suc n) zero h = cc
      unmarked (suc n) (suc k) h = unmarked n k h

-- ---- moves

-- what stands at a place of a list
pub stands_at : {X : Type 0} (xs : List X) (n : ℕ) (d : X) → n < length xs → slice_get xs n ≡ Some (get_or xs n d)
stands_at [] n d low = absurd (let bad : ⊥ = omega (arith, low) in bad)
stands_at (x ∷ xs) zero d low = refl
stands_at (x ∷ xs) (suc n) d low = stands_at xs n d (omega (arith, low))

-- the edges of the moves below a number, and that of it
pub next_more : (P : Edge Choice → Type 0) (allowed : Allowed) (x : Position) (moves : List Move) (at : ℕ) (m : Move) (old new : List (Edge Choice)) → m ≡ get_or moves at m → at < length moves → Adds P (CanCome allowed x m) (Happens m) old new → All P old
    → ((i : ℕ) (d : Move) → i < at → CanCome allowed x (get_or moves i d) → HasLabel old (Happens (get_or moves i d))) → All P new × ((i : ℕ) (d : Move) → i < at + 1 → CanCome allowed x (get_or moves i d) → HasLabel new (Happens (get_or moves i d)))
next_more P allowed x moves at m old new is low adds all before = (
  subst (λ (l : List (Edge Choice)). All P l) (sym adds.is) (All-append P old adds.added all adds.each),
  λ i d less can. subst (λ (l : List (Edge Choice)). HasLabel l (Happens (get_or moves i d))) (sym adds.is) (elim (cases_eq i at) [
    | inl same ↦ (
        let here : get_or moves i d ≡ m = ap (λ (k : ℕ). get_or moves k d) same ∙ get_or_default moves at d m low ∙ sym is in
        label_right old adds.added (Happens (get_or moves i d)) (subst (λ (n : Move). HasLabel adds.added (Happens n)) (sym here) (adds.has (subst (λ (n : Move). CanCome allowed x n) here can))))
    | inr differs ↦ label_left old adds.added (Happens (get_or moves i d)) (before i d (omega (arith, less, differs)) can)
  ]),
)

-- one move more is of these words
pub moves_of_push : (places : List Place) (old new : List Move) (move : Move) → new ≡ old ++ move ∷ [] → IsOf places move → All (IsOf places) old → All (IsOf places) new
moves_of_push places old new move e is all = subst (λ (l : List Move). All (IsOf places) l) (sym e) (All-push (IsOf places) old move all is)

-- a move that is there is there with one more, and so is that one
pub moves_push_left : (old new : List Move) (move other : Move) → new ≡ old ++ move ∷ [] → Contains old other → Contains new other
moves_push_left old new move other e h = subst (λ (l : List Move). Contains l other) (sym e) (Contains-append_left old (move ∷ []) other h)

pub moves_push_here : (old new : List Move) (move : Move) → new ≡ old ++ move ∷ [] → Contains new move
moves_push_here old new move e = subst (λ (l : List Move). Contains l move) (sym e) (Contains-push old move)

-- what is so below a number, and of it, is so below the next one
pub evictions_more : (places : List Place) (n : ℕ) (at : Place) (old new : List Move) → n < length places → at ≡ get_or places n at → new ≡ old ++ Evict at ∷ [] → ((i : ℕ) (place : Place) → i < n → slice_get places i ≡ Some place → Contains old (Evict place))
    → (i : ℕ) (place : Place) → i < n + 1 → slice_get places i ≡ Some place → Contains new (Evict place)
evictions_more places n at old new low is e before i place less there = elim (cases_eq i n) [
  | inl same ↦ (
      let here : at ≡ place = is ∙ ap (λ (k : ℕ). get_or places k at) (sym same) ∙ get_or_from_slice_get places i place at there in
      subst (λ (p : Place). Contains new (Evict p)) here (moves_push_here old new (Evict at) e))
  | inr differs ↦ moves_push_left old new (Evict at) (Evict place) e (before i place (omega (arith, less, differs)) there)
]

-- the steps below a number, and that of it
pub steps_more : (n : ℕ) (old new : List Move) → new ≡ old ++ Step n ∷ [] → ((p : ℕ) → p < n → Contains old (Step p)) → (p : ℕ) → p < n + 1 → Contains new (Step p)
steps_more n old new e before p less = elim (cases_eq p n) [
  | inl same ↦ subst (λ (q : ℕ). Contains new (Step q)) (sym same) (moves_push_here old new (Step n) e)
  | inr differs ↦ moves_push_left old new (Step n) (Step p) e (before p (omega (arith, less, differs)))
]

-- the stops below a number, and that of it
pub stops_more : (n : ℕ) (old new : List Move) → new ≡ old ++ Stop n ∷ [] → ((p : ℕ) → p < n → Contains old (Stop p)) → (p : ℕ) → p < n + 1 → Contains new (Stop p)
stops_more n old new e before p less = elim (cases_eq p n) [
  | inl same ↦ subst (λ (q : ℕ). Contains new (Stop q)) (sym same) (moves_push_here old new (Stop n) e)
  | inr differs ↦ moves_push_left old new (Stop n) (Stop p) e (before p (omega (arith, less, differs)))
]

-- ---- words whose sides differ

-- what is so of all numbers of words is so of all words
pub dirt_by : (w : WorldValue) (layout : Layout) (places : List Place) → layout ≡ w.sheet.layout → ((n : ℕ) → n < words_of layout → HasDirt w (place_of layout n) → (i : ℕ) × (slice_get places i ≡ Some (place_of layout n))) → HasAllDirt w places
dirt_by w layout places e all place dirt =
    let there : IsPlace layout place = subst (λ (l : Layout). IsPlace l place) (sym e) dirt.there in
    let is : place_of layout (number_of layout place) ≡ place = place_of-number_of layout place there in
    let h = all (number_of layout place) (number_of_below layout place there) (subst (HasDirt w) (sym is) dirt) in
    (h.0, h.1 ∙ ap (λ (p : Place). Some p) is)

-- what is so below a number, and of it, is so below the next one
pub dirt_more : (w : WorldValue) (layout : Layout) (places : List Place) (number : ℕ) → ((n : ℕ) → n < number → HasDirt w (place_of layout n) → (i : ℕ) × (slice_get places i ≡ Some (place_of layout n)))
    → (HasDirt w (place_of layout number) → (i : ℕ) × (slice_get places i ≡ Some (place_of layout number))) → (n : ℕ) → n < number + 1 → HasDirt w (place_of layout n) → (i : ℕ) × (slice_get places i ≡ Some (place_of layout n))
dirt_more w layout places number before here n less dirt = elim (cases_eq n number) [
  | inl same ↦ subst (λ (k : ℕ). (i : ℕ) × (slice_get places i ≡ Some (place_of layout k))) (sym same) (here (subst (λ (k : ℕ). HasDirt w (place_of layout k)) same dirt))
  | inr differs ↦ before n (omega (arith, less, differs)) dirt
]
