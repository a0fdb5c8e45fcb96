-- What an edit's steps leave of what it owes: each passes on what matters.
use Rattle.std.proofs.Common.{ℕ, ◌≡◌, ◌≤◌, ◌%◌, ◌⊎◌, [], ◌∷◌, ap, sym, ◌∙◌, subst, arith, inl, inr}
use Rattle.ds_words.specs.Memory.{StoresAt}
use Rattle.ds_words.specs.declared.access.BufferEntry.{BufferEntry}
use Rattle.ds_layout.specs.declared.place.Place.{Place}
use Rattle.ds_layout.specs.declared.place.Place.TheVariants.{Head, Mark}
use Rattle.ds_state.specs.Edits.{PlainEditCall}
use Rattle.ds_state.specs.World.{PlainWorld}
use Rattle.ds_state.specs.Owing.{entry, HoldsNone, Owes, EditOwes, Excuses, IsExcused}
use Rattle.ds_state.specs.Standing.{Matters}
use Rattle.ds_state.specs.Sound.{IsSound}
use Rattle.ds_state.specs.declared.stage.Stage.{Stage}
use Rattle.ds_state.specs.declared.stage.Stage.TheVariants as edits
use Rattle.ds_state.specs.declared.situation.Situation.{Situation}
use Rattle.ds_state.specs.declared.situation.Situation.TheVariants.{Editing}
use Rattle.ds_state.proofs.Frames.{Moves, CatchesUp}
use Rattle.ds_state.proofs.Bearing.{Buffered, Mine, durable_least, on_its_way_excuses}
use Rattle.ds_state.proofs.Telling.{matters_most, odd_above}

-- the same edit, at this stage
abbrev pub edit_on : PlainEditCall → Stage → PlainEditCall
edit_on e s = record e { stage = s }

-- an edit touches no value; what it owed that matters it owes still; and so for the head that it writes back
module _ (p : ℕ) (e : PlainEditCall) (s s' : Stage) (place : Place) (old new : PlainWorld) (moves : Moves p place old new)
    (was : old.situation p ≡ Editing (edit_on e s)) (is : new.situation p ≡ Editing (edit_on e s'))
    (holds_none : HoldsNone old p)
    (passes : (x : ℕ) → Matters new e.cell x → EditOwes old.memory p e.cell s x → EditOwes new.memory p e.cell s' x)
    (cached : (c : ℕ) → new.memory.cached (Head c) ≡ old.memory.cached (Head c))
    (heads : (c : ℕ) → place ≡ Head c → (new.memory.persisted (Head c) ≡ old.memory.persisted (Head c)) ⊎ ((x : ℕ) → IsExcused new c x)) where
  pub edit_mine : Mine p place old new moves
  edit_mine = record {
    owes = λ r c x bit matters h o. absurd (subst (λ (t : Situation). Owes old.memory p t r c x) was o);
    excuses = λ l c x matters o. (
        let k : Excuses old p (Editing (edit_on e s)) c x = subst (λ (t : Situation). Excuses old p t c x) was o in
        let at : e.cell ≡ c = k.0 in
        let mine : EditOwes old.memory p e.cell s x = subst (λ (y : ℕ). EditOwes old.memory p y s x) (sym at) k.1 in
        let now : EditOwes new.memory p e.cell s' x = passes x (subst (λ (y : ℕ). Matters new y x) (sym at) matters) mine in
        record {
          process = p;
          inside = rw moves.layout l;
          still = subst (λ (t : Situation). Excuses new p t c x) (sym is) (at, subst (λ (y : ℕ). EditOwes new.memory p y s' x) at now);
        });
    stored = λ r at by. absurd (holds_none r by);
    holds = λ r at by. absurd (holds_none r by);
    cached_heads = λ c at. inl (cached c);
    persisted_heads = heads;
  }

-- the `or` into its cell's mark: every mark that matters is below the cached one
pub or_mark_passes : (p : ℕ) (e : PlainEditCall) (own n : ℕ) (old new : PlainWorld) → IsSound old → Buffered old → n % 2 ≡ 1
    → (store : StoresAt (Mark e.cell) n old.memory new.memory) → (moves : Moves p (Mark e.cell) old new)
    → (x : ℕ) → Matters new e.cell x → EditOwes old.memory p e.cell (edits.OrMark own) x → EditOwes new.memory p e.cell (edits.FlushMark own) x
or_mark_passes p e own n old new sound buffered odd store moves x matters o =
    let most = matters_most p e.cell n old new store moves sound buffered e.cell x matters in
    let there = store.there in
    odd_above x (new.memory.cached (Mark e.cell)) matters.0 (omega arith) most

-- its flush
pub flush_mark_passes : (p : ℕ) (e : PlainEditCall) (own : ℕ) (old new : PlainWorld) → new.memory.buffer p ≡ entry (Mark e.cell) (old.memory.cached (Mark e.cell)) ∷ []
    → (x : ℕ) → Matters new e.cell x → EditOwes old.memory p e.cell (edits.FlushMark own) x → EditOwes new.memory p e.cell (edits.BackMark own) x
flush_mark_passes p e own old new alone x matters o = record { value = old.memory.cached (Mark e.cell); alone = alone; below = o }

-- its write-back: nothing below matters any more
pub back_mark_passes : (p : ℕ) (e : PlainEditCall) (own v : ℕ) (how : _) (old new : PlainWorld) → old.memory.buffer p ≡ entry (Mark e.cell) v ∷ [] → v ≤ new.memory.persisted (Mark e.cell) → new.memory.persisted (Mark e.cell) ≤ new.memory.cached (Mark e.cell)
    → (x : ℕ) → Matters new e.cell x → EditOwes old.memory p e.cell (edits.BackMark own) x → EditOwes new.memory p e.cell (edits.StoreOutcome how) x
back_mark_passes p e own v how old new alone enough behind x matters k =
    let both : entry (Mark e.cell) v ∷ [] ≡ entry (Mark e.cell) k.value ∷ [] = sym alone ∙ k.alone in
    let value : v ≡ k.value = ap (λ (y : BufferEntry Place). y.value) (let one : entry (Mark e.cell) v ≡ entry (Mark e.cell) k.value = cc in one) in
    let l = k.below in
    elim matters.1 [
      | inl is ↦ omega arith
      | inr durable ↦ (let least = durable_least new e.cell x durable in omega arith)
    ]

-- a head that is written back: the persisted one stays, or somebody owes the cell, and still does
pub head_back : (old new : PlainWorld) (c : ℕ) → IsSound old → CatchesUp (old.memory.cached (Head c)) (old.memory.persisted (Head c)) (new.memory.cached (Head c)) (new.memory.persisted (Head c))
    → ((x : ℕ) → IsExcused old c x → IsExcused new c x) → (new.memory.persisted (Head c) ≡ old.memory.persisted (Head c)) ⊎ ((x : ℕ) → IsExcused new c x)
head_back old new c sound up keeps = elim up.1 [
  | inl same ↦ inl same
  | inr now ↦ elim (sound.words (Head c)).sides [
    | inl agree ↦ inl (now ∙ sym agree)
    | inr b ↦ inr (λ x. keeps x (on_its_way_excuses old c (old.memory.persisted (Head c)) x sound b))
  ]
]
