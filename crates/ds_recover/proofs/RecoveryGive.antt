-- A recovery gives a held cell back.
use Rattle.std.proofs.Common.{ℕ, ◌≡◌, ◌≢◌, ◌≤◌, ◌+◌, ◌/◌, ◌⊎◌, [], ap, sym, ◌∙◌, subst, arith, inl, inr}
use Rattle.std.proofs.lemmas.Bool.{cases_eq}
use Rattle.ds_words.specs.Memory.{StoresAt}
use Rattle.ds_layout.specs.declared.place.Place.TheVariants.{Head, Mark, Value, Kind, Announce}
use Rattle.ds_state.specs.Works.{PlainRecoverCall, HELD_MOST}
use Rattle.ds_state.specs.RecoverStages.{IsFreeing}
use Rattle.ds_state.specs.World.{PlainWorld}
use Rattle.ds_state.specs.Owing.{IsMark, IsHeld, RecoveryOwes, RecoveryParts, IsPending}
use Rattle.ds_layout.specs.Mark.{IsClean, IsHeldBy, freed_after}
use Rattle.ds_state.specs.KnownRecovery.{Holding, HoldsFrom}
use Rattle.ds_state.specs.CallsFit.{CallFits, RecoveryFits}
use Rattle.ds_state.specs.WordsFit.{WordFits}
use Rattle.ds_state.specs.Rely.{Grows, Keeps}
use Rattle.ds_state.specs.Sound.{IsSound}
use Rattle.ds_state.specs.declared.recovery.RecoverStage.{RecoverStage}
use Rattle.ds_state.specs.declared.recovery.RecoverStage.TheVariants.{FlushGiven}
use Rattle.ds_state.specs.declared.situation.Situation.{Situation}
use Rattle.ds_state.specs.declared.situation.Situation.TheVariants.{Recovering}
use Rattle.ds_state.proofs.Stable.{doubt_grows}
use Rattle.ds_state.proofs.Frames.{MovesWord, Moves, grows_own, moves_sound}
use Rattle.ds_state.proofs.Bearing.{Mine, MyMarks, bears, all_stand, text_same, stored_marks}
use Rattle.ds_state.proofs.Buffers.{buffered}
use Rattle.ds_state.proofs.Accesses.{Turn, store_moves}
use Rattle.ds_recover.proofs.RecoveryFrame.{Passes, recovery_mine, recovery_apart, recovery_keeps, recovery_fits}

-- the mark that gives a cell back
abbrev pub given : ℕ → ℕ
given mark = freed_after mark + 1

pub given_free : (mark q : ℕ) → IsHeldBy q (given mark) → ⊥
given_free mark q by = omega arith

-- from either stage that gives the cell c back
module _ (e : PlainRecoverCall) (c : ℕ) (s : RecoverStage) (old new : PlainWorld) (sound : IsSound old)
    (owed : (r d x : ℕ) → RecoveryOwes old.memory e.process e.row s r d x → c ≢ r) (parted : (r : ℕ) → RecoveryParts s r → c ≢ r)
    (was : old.situation e.process ≡ Recovering (record e { stage = s })) (fits : RecoveryFits old e.process (record e { stage = s })) (h : Holding old e.process e.mark c)
    (empty : old.memory.buffer e.process ≡ []) (free : IsFreeing e.cells e.mark c)
    (tn : Turn e.process old new) (is : new.situation e.process ≡ Recovering (record e { stage = FlushGiven c })) (pending : new.open_edits e.process ≡ old.open_edits e.process)
    (store : StoresAt (Mark c) (given e.mark) old.memory new.memory) where
  abbrev p : ℕ
  p = e.process

  mine_now : IsHeldBy p (old.memory.cached (Mark c))
  mine_now = let a = h.stands in let b = h.by in omega arith

  same_turn : old.memory.cached (Mark c) / 32 ≡ e.mark / 32
  same_turn = let a = h.stands in omega arith

  moved : MovesWord old p (Mark c) (old.memory.cached (Mark c)) (old.memory.persisted (Mark c)) (given e.mark) (old.memory.persisted (Mark c))
  moved = record {
    cached = (let a = same_turn in omega arith);
    persisted = omega arith;
    holds = λ q ne. record {
      cached = λ k. absurd (ne (other q k));
      persisted = λ k l. absurd (ne (other q k));
      came = λ k. absurd (given_free e.mark q k);
    };
  }
    where
      other : (q : ℕ) → IsHeldBy q (old.memory.cached (Mark c)) → q ≡ p
      other q k = let m = mine_now in omega arith

  moves : Moves p (Mark c) old new
  moves = store_moves p old new tn (Mark c) (given e.mark) (λ x. cc) moved store

  held : (r : ℕ) → c ≢ r → IsHeld old.memory p r → IsHeld new.memory p r
  held r ne k =
      let a = store.elsewhere (Mark r) (λ x. ne (let same : Mark r ≡ Mark c = x in cc)) in
      let b = store.persisted (Mark r) in
      let by = k.by in
      let same = k.same in
      record { by = omega arith; same = omega arith }

  pends : (d : ℕ) → IsPending old p d → IsPending new p d
  pends d k = record {
    issue = k.issue;
    issued = pending ∙ k.issued;
    cell = k.cell;
    cached = store.elsewhere (Announce p) (λ x. cc) ∙ k.cached;
    persisted = store.persisted (Announce p) ∙ k.persisted;
  }

  passes : Passes p e.row s e.row (FlushGiven c) old new
  passes = record {
    owes = λ r d x bit matters k o. (held r (owed r d x o) k, owed r d x o);
    excuses = λ d x matters k o. (pends d k, tt);
    parts = λ r k o. inl (held r (parted r o) k, parted r o);
    splits = λ f before last_of issue issued same k o. (pends f.cell k, tt);
  }

  my : Mine p (Mark c) old new moves
  my = recovery_mine e e.mark e.row e.announcement e.cell s (FlushGiven c) old new was is (Mark c) moves passes (λ r at. absurd (no_value r at)) (λ r at. absurd (no_value r at))
      (λ d. store.elsewhere (Head d) (λ x. cc)) (λ d at. cc)
    where
      no_value : (r : ℕ) → (Mark c ≡ Value r) ⊎ (Mark c ≡ Kind r) → ⊥
      no_value r at = elim at [ inl x ↦ cc | inr x ↦ cc ]

  marks : MyMarks p (Mark c) old new moves
  marks = stored_marks p (Mark c) old new moves (λ d at clean. absurd (
      let same : c ≡ d = cc in
      let k : IsClean (given e.mark) = subst (λ (x : ℕ). IsClean x) (ap (λ (y : ℕ). new.memory.cached (Mark y)) (sym same) ∙ store.there) clean in
      omega arith)) store.persisted store.buffer

  mark_fits : WordFits new (Mark c) (new.memory.cached (Mark c)) (new.memory.persisted (Mark c))
  mark_fits =
      let w = sound.words (Mark c) in
      let there = store.there in
      let v = store.persisted (Mark c) in
      let behind = w.behind in
      let top : old.memory.cached (Mark c) / 32 ≤ HELD_MOST = (w.holder p mine_now).2 in
      let t = same_turn in
      record {
        behind = omega arith;
        few = omega arith;
        holder = λ q by. absurd (given_free e.mark q (subst (λ (x : ℕ). IsHeldBy q x) store.there by));
        persisted_holder = subst (λ (x : ℕ). IsMark new.layout c x) (sym (store.persisted (Mark c))) (λ q by. rw moves.layout (w.persisted_holder q by));
      }

  freed : HoldsFrom new p (c + 1)
  freed r l by = elim (cases_eq r c) [
    | inl eq ↦ given_free e.mark p (subst (λ (x : ℕ). IsHeldBy p x) (ap (λ (y : ℕ). new.memory.cached (Mark y)) eq ∙ store.there) by)
    | inr ne ↦ h.below r (omega arith) (subst (λ (x : ℕ). IsHeldBy p x) (store.elsewhere (Mark r) (λ x. ne cc)) by)
  ]

  pub give_keeps : Keeps p old new
  give_keeps =
      let g : Grows p (Mark c) old new = grows_own p (Mark c) old new moves tn.counted in
      moves_sound p (Mark c) old new moves tn.counted sound (bears p (Mark c) old new moves sound my)
      (all_stand p (Mark c) old new moves sound (buffered old sound) my (text_same old new moves.layout tn.counted) marks)
      (recovery_apart e e.mark e.row e.announcement e.cell s (FlushGiven c) old new was is (Mark c) moves passes)
      (λ d ne. recovery_keeps e e.mark e.row e.announcement e.cell s (FlushGiven c) old new was is (Mark c) moves passes pending d) mark_fits
      (λ l. subst (λ (t : Situation). CallFits new p t) (sym is)
      (recovery_fits e e.mark e.row e.announcement e.cell s (FlushGiven c) old new was is fits tn.layout pending
      (doubt_grows (Mark c) old new p g pending (λ x. cc) (λ n x. cc) (old.open_edits p) fits.doubt)
      freed tt (store.buffer p ∙ empty) free))
