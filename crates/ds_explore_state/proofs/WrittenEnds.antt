-- Keys of the states that crashes leave, and what is written of the ends of orders.
use Rattle.std.proofs.Common.{ℕ, zero, suc, ◌≡◌, ◌<◌, ◌+◌, ◌∙◌, arith, Bool, true, false, List, [], ◌∷◌, ◌++◌, map, Option, Some, None, ap, refl, subst, sym, get_or, length, inl, inr}
use Rattle.std.specs.Global.{Vec}
use Rattle.std.specs.Prelude.{◌⊎◌, IfOk, IfSome, Result, Ok, Err, slice_get}
use Rattle.std.proofs.lemmas.List.{get_or_append_left, get_or_push, length_push, map_push}
use Rattle.std.proofs.lemmas.Option.{slice_get_within}
use Rattle.ds_layout.specs.declared.place.Place.{Place}
use Rattle.ds_explore_state.specs.declared.position.Position.{Position}
use Rattle.ds_explore_state.specs.declared.states.States.{States}
use Rattle.ds_explore_state.specs.States.{IsKey, crashed_state_of}
use Rattle.ds_explore_state.specs.Following.{IsKept}
use Rattle.ds_explore_state.specs.declared.endings.CrashOutcomes.{CrashOutcomes}
use Rattle.ds_explore_state.specs.declared.orders.Allowed.{Allowed}
use Rattle.ds_explore_state.specs.Closed.{IsCrashWritten, IsKeyWritten, keys_in}
use Rattle.ds_explore_state.specs.Drawn.{IsCrashOf, KnowsCrashes}
use Rattle.ds_explore_state.proofs.Parts.{one_state}

-- one key more
pub keys_push : (old new : List (Vec ℕ)) (added : Vec ℕ) (key : List ℕ) → new ≡ old ++ added ∷ [] → added.items ≡ key → map (λ k. k.items) new ≡ map (λ k. k.items) old ++ key ∷ []
keys_push old new added key e is =
    ap (λ (l : List (Vec ℕ)). map (λ (k : Vec ℕ). k.items) l) e ∙ map_push (λ (k : Vec ℕ). k.items) old added ∙ ap (λ (t : List ℕ). map (λ (k : Vec ℕ). k.items) old ++ t ∷ []) is

-- nothing stands in no list
none_in : {X : Type 0} (n : ℕ) (y : X) → slice_get [] n ≡ Some y → ⊥
none_in zero y e = cc
none_in (suc n) y e = cc

-- what stands in a list with one more stands in the list, or is that one
slice_push : {X : Type 0} (xs : List X) (x y : X) (n : ℕ) → slice_get (xs ++ x ∷ []) n ≡ Some y → (slice_get xs n ≡ Some y) ⊎ ((n ≡ length xs) × (x ≡ y))
slice_push [] x y zero e = inr (refl, cc)
slice_push [] x y (suc n) e = absurd (none_in n y e)
slice_push (z ∷ xs) x y zero e = inl e
slice_push (z ∷ xs) x y (suc n) e = elim (slice_push xs x y n e) [
  | inl h ↦ inl h
  | inr h ↦ inr ((let at = h.0 in omega (arith, at)), h.1)
]

module _ (states : States) (groups : List (List Place)) (numbered : Position → Bool → ℕ → Type 0) (allowed : Allowed) (places : List Place) (first : Position) where
  -- no key
  pub crashes_none : (crashes : CrashOutcomes) → keys_in crashes.keys ≡ [] → crashes.outcomes.items ≡ [] → KnowsCrashes states groups numbered allowed places first crashes
  crashes_none crashes keys outcomes = record {
    long = ap (λ (l : List ℕ). length l) outcomes ∙ sym (ap (λ (l : List (List ℕ)). length l) keys);
    each = λ n key there. absurd (none_in n key (sym (ap (λ (l : List (List ℕ)). slice_get l n) keys) ∙ there));
  }

  -- the key of a position, and the outcome to which a crash at it comes
  pub crashes_more : (old new : CrashOutcomes) (key : List ℕ) (outcome : ℕ) (x : Position) → KnowsCrashes states groups numbered allowed places first old → keys_in new.keys ≡ keys_in old.keys ++ key ∷ [] → new.outcomes.items ≡ old.outcomes.items ++ outcome ∷ []
      → IsKept groups first x → IsKey states.numbers key (crashed_state_of groups x) → numbered x true outcome → KnowsCrashes states groups numbered allowed places first new
  crashes_more old new key outcome x h keys outcomes kept is_key is = record {
    long = ap (λ (l : List ℕ). length l) outcomes ∙ length_push old.outcomes.items outcome ∙ ap (λ (n : ℕ). n + 1) h.long ∙ sym (ap (λ (l : List (List ℕ)). length l) keys ∙ length_push (keys_in old.keys) key);
    each = λ n other there. elim (slice_push (keys_in old.keys) key other n (sym (ap (λ (l : List (List ℕ)). slice_get l n) keys) ∙ there)) [
      | inl before ↦ (
          let low : n < length old.outcomes.items = (let l = slice_get_within (keys_in old.keys) n other before in let long = h.long in omega (arith, l, long)) in
          let same : get_or new.outcomes.items n 0 ≡ get_or old.outcomes.items n 0 = ap (λ (l : List ℕ). get_or l n 0) outcomes ∙ get_or_append_left old.outcomes.items (outcome ∷ []) 0 n low in
          subst (λ (k : ℕ). IsKeyWritten states groups (λ y crashed. numbered y crashed k) first other) (sym same) (h.each n other before))
      | inr last ↦ (
          let at : n ≡ length old.outcomes.items = last.0 ∙ sym h.long in
          let same : get_or new.outcomes.items n 0 ≡ outcome = ap (λ (l : List ℕ). get_or l n 0) outcomes ∙ get_or_push old.outcomes.items outcome 0 n (sym at) in
          subst (λ (k : ℕ). IsKeyWritten states groups (λ y crashed. numbered y crashed k) first other) (sym same)
          (subst (λ (l : List ℕ). IsKeyWritten states groups (λ y crashed. numbered y crashed outcome) first l) last.1 (record { position = x; kept = kept; is_key = is_key; is = is })))
    ];
  }

  -- a crash at a position whose key is one of them
  pub crash_found : (crashes : CrashOutcomes) (n : ℕ) (key : List ℕ) (x : Position) → KnowsCrashes states groups numbered allowed places first crashes → slice_get (keys_in crashes.keys) n ≡ Some key → IsKey states.numbers key (crashed_state_of groups x)
      → IsCrashOf states groups numbered allowed places first x (get_or crashes.outcomes.items n 0)
  crash_found crashes n key x h there is_key =
      let k = h.each n key there in
      record { position = k.position; kept = k.kept; same = one_state states.numbers key (crashed_state_of groups k.position) (crashed_state_of groups x) k.is_key is_key; is = k.is }

  -- a crash at the position itself
  pub crash_here : {E : Type 0} (r : Result (Option ℕ) E) (x : Position) → IsKept groups first x → IfOk r (λ some. IfSome some (numbered x true)) → IfOk r (λ some. IfSome some (IsCrashOf states groups numbered allowed places first x))
  crash_here (Ok (Some outcome)) x kept is = record { position = x; kept = kept; same = refl; is = is }
  crash_here (Ok None) x kept is = tt
  crash_here (Err e) x kept is = tt

  -- what is so of a number is so of one that is found to be it
  pub outcome_found : (r : Option ℕ) (n : ℕ) (x : Position) → IfSome r (λ outcome. outcome ≡ n) → IsCrashOf states groups numbered allowed places first x n → IfSome r (IsCrashOf states groups numbered allowed places first x)
  outcome_found (Some outcome) n x e h = subst (λ (k : ℕ). IsCrashOf states groups numbered allowed places first x k) (sym e) h
  outcome_found None n x e h = tt
