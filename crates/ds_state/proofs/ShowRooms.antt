-- Each show has room for all cells: one more of them, and one that is written anew.
use Rattle.std.proofs.Common.{ℕ, ◌≡◌, ◌<◌, ◌≤◌, ◌+◌, List, [], ◌∷◌, ◌++◌, length, map, get_or, set, replicate, ap, sym, ◌∙◌, subst, arith}
use Rattle.std.proofs.lemmas.List.{map-append, map-set, get_or-map, length-map, replicate_more}
use Rattle.std.proofs.lemmas.List.Elements.{All-push, All-set, All-get_or}
use Rattle.ds_eval.specs.declared.value.Value.{Value}
use Rattle.ds_state.specs.Reports.{HaveRoom}

-- one more snapshot, with no values and with room for all cells, after those that are so
pub one_more : {X : Type 0} (f : X → List Value) (g : X → ℕ) (xs ys : List X) (x : X) (n cells : ℕ) → ys ≡ xs ++ x ∷ [] → map f xs ≡ replicate n [] → HaveRoom cells (map g xs) → f x ≡ [] → cells ≤ g x
    → (map f ys ≡ replicate (n + 1) []) × HaveRoom cells (map g ys)
one_more f g xs ys x n cells is none rooms empty room =
    let none_now : map f ys ≡ replicate (n + 1) [] = ap (λ zs. map f zs) is ∙ map-append f xs (x ∷ []) ∙ ap (λ zs. zs ++ f x ∷ []) none ∙ ap (λ (z : List Value). replicate n [] ++ z ∷ []) empty ∙ replicate_more n [] in
    let rooms_now : map g ys ≡ map g xs ++ g x ∷ [] = ap (λ zs. map g zs) is ∙ map-append g xs (x ∷ []) in
    (none_now, subst (λ (zs : List ℕ). HaveRoom cells zs) (sym rooms_now) (All-push (λ (k : ℕ). cells ≤ k) (map g xs) (g x) rooms room))

-- the room of one snapshot
pub room_of : {X : Type 0} (g : X → ℕ) (xs : List X) (i cells : ℕ) (x : X) → i < length xs → HaveRoom cells (map g xs) → x ≡ get_or xs i x → cells ≤ g x
room_of g xs i cells x l rooms is =
    let long = length-map xs g in
    let r : cells ≤ get_or (map g xs) i (g x) = All-get_or (λ (k : ℕ). cells ≤ k) (map g xs) i (g x) (omega arith) rooms in
    let at : get_or (map g xs) i (g x) ≡ g x = get_or-map g xs i x (g x) l ∙ ap g (sym is) in
    omega arith

-- another snapshot in its place, with as much room
pub kept_room : {X : Type 0} (g : X → ℕ) (xs : List X) (i cells : ℕ) (x : X) → HaveRoom cells (map g xs) → cells ≤ g x → HaveRoom cells (map g (set xs i x))
kept_room g xs i cells x rooms room = subst (λ (zs : List ℕ). HaveRoom cells zs) (sym (map-set g xs i x)) (All-set (λ (k : ℕ). cells ≤ k) (map g xs) i (g x) room rooms)
