-- Words at places, and keys of parts.
use Rattle.std.proofs.Common.{◌&&◌, arith, ℕ, suc, zero, ◌+◌, ◌≡◌, ◌<◌, ◌∙◌, add-one, List, [], ◌∷◌, ◌++◌, length, map, take, get_or, Bool, true, false, Some, refl, sym, ap, subst, append_assoc, if◌then◌else◌}
use Rattle.std.proofs.lemmas.List.{append-nil, length_push, map_more, map_push, same_from_push}
use Rattle.std.specs.Global.{Vec}
use Rattle.std.specs.Prelude.{slice_get}
use Rattle.std.specs.List.{AllByRecursion}
use mathlib.Core.Logic.{dite}
use native.Mathlib.Decide.{ℕ_discrete}
use lib.Pointwise.{pointwise}
use Rattle.ds_words.specs.declared.words.Word.{Word}
use Rattle.ds_layout.specs.declared.layout.Layout.{Layout}
use Rattle.ds_layout.specs.declared.place.Place.{Place}
use Rattle.ds_layout.specs.Places.{IsPlace, number_of}
use Rattle.ds_layout.specs.SheetMemory.{is_place, side_at}
use Rattle.ds_layout.proofs.Sheet.{IsPlace-is_place}
use Rattle.ds_explore_state.specs.declared.part.Part.{Part}
use Rattle.ds_explore_state.specs.declared.position.Position.{Position}
use Rattle.ds_explore_state.specs.States.{PlainPart, Words, IsKey, KeepsNumbers, SameState, all_places, parts_below, plain_part, plain_parts, process_in, state_of, word_in, words_by}

zero_where : (b : Bool) (n : ℕ) → (b ≡ true → ⊥) → (if b then n else 0) ≡ 0
zero_where true n h = absurd (h refl)
zero_where false n h = refl

-- a place that is none of the sheet reads as 0
pub no_place : (layout : Layout) (side : ℕ → ℕ) (place : Place) → (IsPlace layout place → ⊥) → side_at layout side place ≡ 0
unfolding side_at
no_place layout side place none = zero_where (is_place layout place) (side (number_of layout place)) (λ e. none (IsPlace-is_place layout place e))

-- two sides are a word
pub same_word : (c p d q : ℕ) → c ≡ d → p ≡ q → ◌≡◌ {A = Word} (record { cached = c; persisted = p }) (record { cached = d; persisted = q })
same_word c p d q e f = ap (λ (n : ℕ). let w : Word = record { cached = n; persisted = p } in w) e ∙ ap (λ (n : ℕ). let w : Word = record { cached = d; persisted = n } in w) f

-- one more of a list that is made of another one
pub mapped_more : {X Y : Type 0} (f : X → Y) (xs : List X) (i : ℕ) (x : X) (ys new : List Y) (y : Y) → i < length xs → x ≡ get_or xs i x → ys ≡ map f (take i xs) → y ≡ f x → new ≡ ys ++ y ∷ [] → new ≡ map f (take (i + 1) xs)
mapped_more f xs i x ys new y low at is made e =
    e ∙ ap (λ (l : List _). l ++ y ∷ []) is ∙ ap (λ (v : _). map f (take i xs) ++ v ∷ []) (made ∙ ap f at) ∙ sym (map_more f xs i x low)

-- one process more
pub below_more : (before : List PlainPart) (part : ℕ → PlainPart) (n : ℕ) (old new : List PlainPart) (p : PlainPart) → old ≡ before ++ parts_below part n → p ≡ part n → new ≡ old ++ p ∷ [] → new ≡ before ++ parts_below part (n + 1)
below_more before part n old new p is made e =
    e ∙ ap (λ (l : List PlainPart). l ++ p ∷ []) is ∙ ap (λ (q : PlainPart). (before ++ parts_below part n) ++ q ∷ []) made
    ∙ append_assoc before (parts_below part n) (part n ∷ []) ∙ ap (λ (k : ℕ). before ++ parts_below part k) (sym (add-one n))

-- ---- keys

-- a key stays one where numbers are kept
pub keeps_key : (old new : List PlainPart) (key : List ℕ) (s : List PlainPart) → KeepsNumbers old new → IsKey old key s → IsKey new key s
keeps_key old new [] [] k e = refl
keeps_key old new [] (x ∷ s) k e = cc
keeps_key old new (n ∷ key) [] k e = cc
keeps_key old new (n ∷ key) (x ∷ s) k e =
    let h : slice_get old n ≡ Some x = cc in
    let t : map (slice_get old) key ≡ map Some s = cc in
    let a = k n x h in
    let b = keeps_key old new key s k t in cc

-- one part more
pub key_more : (old new : List PlainPart) (key : List ℕ) (s : List PlainPart) (n : ℕ) (x : PlainPart) → KeepsNumbers old new → IsKey old key s → slice_get new n ≡ Some x → IsKey new (key ++ n ∷ []) (s ++ x ∷ [])
key_more old new key s n x k e is =
    map_push (slice_get new) key n ∙ ap (λ (l : List _). l ++ slice_get new n ∷ []) (keeps_key old new key s k e) ∙ ap (λ (o : _). map Some s ++ o ∷ []) is ∙ sym (map_push Some s x)

-- states with one key are the same
pub one_state : (numbered : List PlainPart) (key : List ℕ) (s t : List PlainPart) → IsKey numbered key s → IsKey numbered key t → s ≡ t
one_state numbered key s t a b = same_somes s t (sym a ∙ b)
  where
    same_somes : (s t : List PlainPart) → map Some s ≡ map Some t → s ≡ t
    same_somes [] [] e = refl
    same_somes [] (y ∷ t) e = cc
    same_somes (x ∷ s) [] e = cc
    same_somes (x ∷ s) (y ∷ t) e = let h : x ≡ y = cc in let r : map Some s ≡ map Some t = cc in let q = same_somes s t r in cc

-- ---- lists

both : (a b : Bool) → (a && b) ≡ true → (a ≡ true) × (b ≡ true)
both true true e = (refl, refl)
both true false e = cc
both false b e = cc

-- lists that are the same element by element are the same
pub pointwise_same : {X : Type 0} (E : X → X → Bool) → ((x y : X) → E x y ≡ true → x ≡ y) → (xs ys : List X) → pointwise E xs ys ≡ true → xs ≡ ys
pointwise_same E f [] [] e = refl
pointwise_same E f [] (y ∷ ys) e = cc
pointwise_same E f (x ∷ xs) [] e = cc
pointwise_same E f (x ∷ xs) (y ∷ ys) e = let k = both (E x y) (pointwise E xs ys) e in let a = f x y k.0 in let b = pointwise_same E f xs ys k.1 in cc

-- what stands in a list stands there in a longer one
front_at : {X : Type 0} (xs ys : List X) (k : ℕ) (x : X) → slice_get xs k ≡ Some x → slice_get (xs ++ ys) k ≡ Some x
front_at [] ys k x e = cc
front_at (z ∷ xs) ys zero x e = e
front_at (z ∷ xs) ys (suc k) x e = front_at xs ys k x e

-- one part more keeps the numbers
pub keeps_push : (old more : List Part) (part : Part) → more ≡ old ++ part ∷ [] → KeepsNumbers (plain_parts old) (plain_parts more)
keeps_push old more part e k x h =
    ap (λ (ps : List Part). slice_get (plain_parts ps) k) e ∙ ap (λ (ps : List PlainPart). slice_get ps k) (map_push plain_part old part) ∙ front_at (plain_parts old) (plain_part part ∷ []) k x h

-- ---- states

-- words of one group that are the same are the same place by place
group_same : (f g : Place → Word) (group : List Place) → map f group ≡ map g group → AllByRecursion (λ place. f place ≡ g place) group
group_same f g [] e = tt
group_same f g (place ∷ group) e = let h : f place ≡ g place = cc in let r : map f group ≡ map g group = cc in (h, group_same f g group r)

-- the words and the rest of two states that are the same
pub apart : (f g : Place → Word) (groups : List (List Place)) (xs ys : List PlainPart) → words_by f groups ++ xs ≡ words_by g groups ++ ys
    → AllByRecursion (AllByRecursion (λ place. f place ≡ g place)) groups × (xs ≡ ys)
apart f g [] xs ys e = (tt, e)
apart f g (group ∷ groups) xs ys e =
    let h : Words (map f group) ≡ Words (map g group) = cc in
    let w : map f group ≡ map g group = cc in
    let r : words_by f groups ++ xs ≡ words_by g groups ++ ys = cc in
    let q = apart f g groups xs ys r in
    ((group_same f g group w, q.0), q.1)

-- as many parts as numbers
pub parts_count : (part : ℕ → PlainPart) (n : ℕ) → length (parts_below part n) ≡ n
parts_count part zero = refl
parts_count part (suc n) = length_push (parts_below part n) (part n) ∙ ap (λ (k : ℕ). k + 1) (parts_count part n) ∙ add-one n

-- the parts of numbers that are the same
pub parts_same : (f g : ℕ → PlainPart) (n p : ℕ) → parts_below f n ≡ parts_below g n → p < n → f p ≡ g p
parts_same f g zero p e low = absurd (omega (arith, low))
parts_same f g (suc n) p e low =
    let k = same_from_push (parts_below f n) (parts_below g n) (f n) (g n) e in
    dite (ℕ_discrete p n) (λ is. ap f is ∙ k.1 ∙ ap g (sym is)) (λ ne. parts_same f g n p k.0 (omega (arith, low, ne)))

-- positions of one state are the same in all of it
pub same_by_state : (groups : List (List Place)) (x y : Position) → state_of groups x ≡ state_of groups y → SameState groups x y
same_by_state groups x y e =
    let k = apart (word_in x.world) (word_in y.world) groups (parts_below (process_in x) (length x.seats.items)) (parts_below (process_in y) (length y.seats.items)) e in
    let count : length x.seats.items ≡ length y.seats.items = sym (parts_count (process_in x) (length x.seats.items)) ∙ ap (λ (l : List PlainPart). length l) k.1 ∙ parts_count (process_in y) (length y.seats.items) in
    let all : parts_below (process_in x) (length x.seats.items) ≡ parts_below (process_in y) (length x.seats.items) = k.1 ∙ ap (λ (n : ℕ). parts_below (process_in y) n) (sym count) in
    record {
      words = k.0;
      count = count;
      situations = λ p low. (let one = parts_same (process_in x) (process_in y) (length x.seats.items) p all low in cc);
      seats = λ p low. (let one = parts_same (process_in x) (process_in y) (length x.seats.items) p all low in cc);
    }

pub same_by_key : (numbered : List PlainPart) (key : List ℕ) (groups : List (List Place)) (x y : Position) → IsKey numbered key (state_of groups x) → IsKey numbered key (state_of groups y) → SameState groups x y
same_by_key numbered key groups x y a b = same_by_state groups x y (one_state numbered key (state_of groups x) (state_of groups y) a b)

-- the key of one part more of a list
pub key_at : (old new : List PlainPart) (key more : List ℕ) (n : ℕ) (parts : List Part) (i : ℕ) (part : Part) → i < length parts → part ≡ get_or parts i part → KeepsNumbers old new → IsKey old key (plain_parts (take i parts)) → slice_get new n ≡ Some (plain_part part) → more ≡ key ++ n ∷ []
    → IsKey new more (plain_parts (take (i + 1) parts))
key_at old new key more n parts i part low at keeps is there e =
    subst (λ (k : List ℕ). IsKey new k (plain_parts (take (i + 1) parts))) (sym e)
    (subst (λ (s : List PlainPart). IsKey new (key ++ n ∷ []) s) (ap (λ (p : Part). plain_parts (take i parts) ++ plain_part p ∷ []) at ∙ sym (map_more plain_part parts i part low))
    (key_more old new key (plain_parts (take i parts)) n (plain_part part) keeps is there))

-- ---- the places of groups

-- groups before another one
pub places_push : (groups : List (List Place)) (group : List Place) → all_places (groups ++ group ∷ []) ≡ all_places groups ++ group
places_push [] group = append-nil group
places_push (first ∷ groups) group = ap (λ (l : List Place). first ++ l) (places_push groups group) ∙ sym (append_assoc first (all_places groups) group)

-- the places of one group more
pub places_more : (groups : List (Vec Place)) (n : ℕ) (group : Vec Place) (more old new : List Place) → n < length groups → group ≡ get_or groups n group → more ≡ group.items → old ≡ all_places (map (λ g. g.items) (take n groups)) → new ≡ old ++ more
    → new ≡ all_places (map (λ g. g.items) (take (n + 1) groups))
places_more groups n group more old new low at is before e =
    e ∙ ap (λ (l : List Place). old ++ l) is ∙ ap (λ (l : List Place). l ++ group.items) before ∙ sym (places_push (map (λ g. g.items) (take n groups)) group.items)
    ∙ ap (λ (g : Vec Place). all_places (map (λ g. g.items) (take n groups) ++ g.items ∷ [])) at ∙ ap (λ (l : List (List Place)). all_places l) (sym (map_more (λ (g : Vec Place). g.items) groups n group low))
