-- What a step makes of the seats.
use Rattle.std.proofs.Common.{ℕ, zero, suc, arith, [], ◌∷◌, ◌≡◌, ◌<◌, ◌≤◌, ◌∙◌, List, Bool, true, false, length, map, set, get_or, refl, sym, ap, subst, inl, inr}
use Rattle.std.specs.Prelude.{IsTrue, IsFalse, Option, Some, None, slice_get, slice_index_or}
use Rattle.std.proofs.lemmas.List.{get_or-map, length-map, map-set, set_past}
use Rattle.ds_eval.specs.declared.inputs.Entry.{Entry}
use Rattle.ds_state.specs.Value.{WorldValue, world_of}
use Rattle.ds_state.specs.Works.{PlainWorkCall}
use Rattle.ds_state.specs.declared.situation.Situation.{Situation}
use Rattle.ds_state.specs.declared.situation.Situation.TheVariants.{Idle, Stopped, Editing, Working, Showing, Recovering, Migrating}
use Rattle.ds_state.specs.declared.work.WorkStage.TheVariants as stages
use Rattle.ds_work.specs.WorkTakes.{IsOffered}
use Rattle.ds_explore_state.specs.declared.position.ProcessState.{ProcessState}
use Rattle.ds_explore_state.specs.States.{PlainSeat, seat_of}
use Rattle.ds_explore_state.specs.Orders.{IsReadAnew, IsReady, ReadsWhereItShould, WaitsForNone, no_seat, with_seat}

-- one seat is changed
pub seat_put : (xs new : List ProcessState) (p : ℕ) (seat old : ProcessState) (change : PlainSeat → PlainSeat) → p < length xs → old ≡ get_or xs p old → seat_of seat ≡ change (seat_of old) → new ≡ set xs p seat → map seat_of new ≡ with_seat change p (map seat_of xs)
seat_put xs new p seat old change low at made e =
    ap (λ (l : List ProcessState). map seat_of l) e ∙ map-set seat_of xs p seat
    ∙ ap (λ (s : PlainSeat). set (map seat_of xs) p s) (made ∙ ap change (ap seat_of at ∙ sym (get_or-map seat_of xs p old no_seat low)))

-- where there is no such seat, none is changed
pub seat_past : (xs : List ProcessState) (p : ℕ) (change : PlainSeat → PlainSeat) → length xs ≤ p → map seat_of xs ≡ with_seat change p (map seat_of xs)
seat_past xs p change far = sym (set_past (map seat_of xs) p _ (subst (λ (n : ℕ). n ≤ p) (sym (length-map xs seat_of)) far))

-- an entry is given, or the world is the same
pub ready_by : (b : Bool) (old mid : WorldValue) (p : ℕ) → (IsTrue b → (entry : Entry) × IsOffered (world_of old) p entry (world_of mid)) → (IsFalse b → mid ≡ old) → (IsFalse b → WaitsForNone old p) → IsReady old p mid
ready_by true old mid p f g none = inr (f refl)
ready_by false old mid p f g none = inl (g refl, none refl)

-- what a process is known to have in its buffer
pub seat_buffer : (xs : List ProcessState) (p : ℕ) (old : ProcessState) → p < length xs → old ≡ get_or xs p old → (slice_index_or (map seat_of xs) p no_seat).buffer ≡ old.buffer.items
seat_buffer xs p old low at = ap (λ (s : PlainSeat). s.buffer) (get_or-map seat_of xs p old no_seat low ∙ ap seat_of (sym at))

-- where there is no such process, nothing
pub past_buffer : (xs : List ProcessState) (p : ℕ) → length xs ≤ p → (slice_index_or (map seat_of xs) p no_seat).buffer ≡ []
past_buffer [] p far = refl
past_buffer (x ∷ xs) zero far = absurd (let bad : ⊥ = omega (arith, far) in bad)
past_buffer (x ∷ xs) (suc p) far = past_buffer xs p (omega (arith, far))

-- ---- a work reads its text

-- where no work is to read its text, there is nothing to be read
pub reads_none : (before : Situation) → ((e : PlainWorkCall) → before ≡ Working e → e.stage ≡ stages.Read → ⊥) → (after : Situation) → ReadsWhereItShould before after
reads_none (Working e) none after = λ stage. absurd (none e refl stage)
reads_none (Idle rest) none after = tt
reads_none Stopped none after = tt
reads_none (Editing e) none after = tt
reads_none (Recovering e) none after = tt
reads_none (Showing e) none after = tt
reads_none (Migrating e) none after = tt

-- what was read anew was read where it should
pub reads_anew : (before after : Situation) → IsReadAnew after → ReadsWhereItShould before after
reads_anew (Working e) after read = λ stage. read
reads_anew (Idle rest) after read = tt
reads_anew Stopped after read = tt
reads_anew (Editing e) after read = tt
reads_anew (Recovering e) after read = tt
reads_anew (Showing e) after read = tt
reads_anew (Migrating e) after read = tt

-- what stands at a place where nothing does
pub get_none : {X : Type 0} (xs : List X) (p : ℕ) (d : X) → slice_get xs p ≡ None → slice_index_or xs p d ≡ d
get_none [] p d e = refl
get_none (x ∷ xs) zero d e = cc
get_none (x ∷ xs) (suc p) d e = get_none xs p d e

pub reads_by : (before after : Situation) (reads has : Bool) → (IsFalse reads → (s : Situation) → ReadsWhereItShould before s) → (IsTrue has → IsReadAnew after) → (IsTrue reads → IsTrue has) → ReadsWhereItShould before after
reads_by before after true has f g both = reads_anew before after (g (both refl))
reads_by before after false has f g both = f refl after
