-- A quiescent world shows the values of the linearized edits, from scratch.
use Rattle.std.proofs.Common.{ℕ, ◌≡◌, ◌<◌, ◌≤◌, ◌+◌, ◌⊎◌, List, [], ◌∷◌, refl, ap, sym, ◌∙◌, subst, arith, inl, inr, zero, suc, true, false, map, Some, None}
use Rattle.std.specs.Prelude.{Bool, Option, if◌then◌else◌}
use Rattle.std.specs.List.{range_with_len}
use Rattle.std.proofs.lemmas.Bool.{false≢true}
use Rattle.ds_eval.specs.declared.value.Value as values
use Rattle.ds_layout.specs.declared.place.Place.TheVariants.{Mark, Announce}
use Rattle.ds_layout.specs.declared.announcement.Phase.TheVariants as phase
use Rattle.ds_layout.specs.declared.announcement.Phase.{Phase}
use Rattle.ds_layout.specs.declared.place.TheConstants.{RECORDS}
use Rattle.ds_layout.specs.Announcement.{announcement_of}
use Rattle.ds_layout.proofs.Packed.{announcement_of-announcement_word}
use Rattle.ds_state.specs.World.{PlainEdit, PlainIssue, edit_of, PlainWorld, phase_among, is_edit_of, last_announcement, announcement}
use Rattle.ds_state.specs.Shown.{IsQuiet, values_shown}
use Rattle.ds_state.specs.CallsFit.{CallFits, DoubtFits}
use Rattle.ds_state.specs.KnownShow.{pends, is_clean, IsPendingWord, moment_of, AreScratch, IsRight, IsStill}
use Rattle.ds_state.specs.declared.situation.Situation.{Situation}
use Rattle.ds_state.specs.declared.situation.Situation.TheVariants.{Idle, Stopped, Editing, Working, Recovering, Showing, Migrating}
use Rattle.ds_state.specs.Sound.{IsSound}
use Rattle.ds_state.proofs.CleanRead.{clean_read}
use Rattle.ds_state.proofs.StillRight.{still_right}

by_test : (b : Bool) (f : Phase) → (f ≡ phase.Done) ⊎ (f ≡ phase.NotDone) → ((if b then phase.Done else f) ≡ phase.Done) ⊎ ((if b then phase.Done else f) ≡ phase.NotDone)
by_test true f h = inl refl
by_test false f h = h

ended : (es : List PlainEdit) (p n : ℕ) → (phase_among es p n ≡ phase.Done) ⊎ (phase_among es p n ≡ phase.NotDone)
ended [] p n = inr refl
ended (e ∷ es) p n = by_test (is_edit_of p n e) (phase_among es p n) (ended es p n)

not_pending : (es : List PlainEdit) (p n : ℕ) → n ≤ RECORDS → IsPendingWord (last_announcement es p n) → ⊥
not_pending es p zero l is = false≢true is
not_pending es p (suc n) l is = elim (ended es p n) [
  | inl d ↦ false≢true (sym (reads phase.Done refl d) ∙ is)
  | inr d ↦ false≢true (sym (reads phase.NotDone refl d) ∙ is)
]
  where
    reads : (f : Phase) → pends (Some (record { number = n; phase = f })) ≡ false → phase_among es p n ≡ f → pends (announcement_of (announcement n (phase_among es p n))) ≡ false
    reads f over same = ap (λ (x : Phase). pends (announcement_of (announcement n x))) same ∙ ap pends (announcement_of-announcement_word (record { number = n; phase = f }) (omega arith)) ∙ over

says : (w : PlainWorld) (p : ℕ) (s : Situation) → w.open_edits p ≡ None → CallFits w p s → (next : ℕ) × (next ≤ RECORDS) × (w.memory.cached (Announce p) ≡ last_announcement w.counted p next)
says w p (Idle next) none h = (next.number, h.number, h.cached)
says w p Stopped none h = let t = subst (λ (o : Option PlainIssue). DoubtFits w p o) none h.doubt in (t.next, t.rest.number, t.rest.cached)
says w p (Editing e) none h = absurd (let e : None ≡ Some (record { edit = edit_of e; since = h.since }) = sym none ∙ h.open_edits in cc)
says w p (Working e) none h = (e.next, h.rest.number, subst (λ (q : ℕ). w.memory.cached (Announce q) ≡ last_announcement w.counted q e.next) h.mine h.rest.cached)
says w p (Recovering e) none h = let t = subst (λ (o : Option PlainIssue). DoubtFits w p o) none h.doubt in (t.next, t.rest.number, t.rest.cached)
says w p (Showing e) none h = (e.next, h.1.rest.number, subst (λ (q : ℕ). w.memory.cached (Announce q) ≡ last_announcement w.counted q e.next) h.1.mine h.1.rest.cached)
says w p (Migrating e) none h = let t = subst (λ (o : Option PlainIssue). DoubtFits w p o) none h.doubt in (t.next, t.rest.number, t.rest.cached)

-- the moment that a sound, quiescent world is, is still
pub quiet_still : (w : PlainWorld) → IsSound w → IsQuiet w → IsStill w.layout (moment_of w)
quiet_still w sound quiet = record {
  clean = λ c l. clean_read w c (w.memory.cached (Mark c)) (sound.words (Mark c)).holder (ap is_clean (quiet.clean c l));
  settled = λ q l is. (let k = says w q (w.situation q) (quiet.answered q l) (sound.calls q l) in not_pending w.counted q k.0 k.1 (subst (λ (x : ℕ). IsPendingWord x) k.2 is));
}

-- lists of equal values
pub same_map : (f g : ℕ → values.Value) (a n : ℕ) → ((i : ℕ) → a ≤ i → i < a + n → f i ≡ g i) → map f (range_with_len a n) ≡ map g (range_with_len a n)
same_map f g a zero h = refl
same_map f g a (suc n) h = ap (λ (x : values.Value). x ∷ map f (range_with_len (a + 1) n)) (h a (omega arith) (omega arith)) ∙ ap (λ (xs : List values.Value). g a ∷ xs) (same_map f g (a + 1) n (λ i l k. h i (omega arith) (omega arith)))

-- a sound, quiescent world shows the values of the linearized edits, from scratch
pub quiet_shows : (w : PlainWorld) → IsSound w → IsQuiet w → AreScratch w.layout.shape w.counted (values_shown w)
quiet_shows w sound quiet =
    let right : IsRight w.layout.shape (moment_of w) = still_right w sound (quiet_still w sound quiet) in
    record {
      sheet = right.sheet;
      is = right.is;
      scratch = right.scratch;
    }
