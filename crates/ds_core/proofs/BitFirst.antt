-- Between a load of the done bit and a later load of the head an edit can take over: then neither says that the edit is
-- linearized.
use Rattle.std.proofs.Common.{ℕ, ◌≡◌, ◌≢◌, ◌<◌, ◌+◌, ◌*◌, ◌/◌, ◌%◌, ◌==◌, [], refl, ap, sym, ◌∙◌, subst, arith, inl, inr, Bool, true, false, if◌then◌else◌, nat_lt, Some, None}
use Rattle.std.specs.Prelude.{◌&&◌, Contains}
use Rattle.std.proofs.lemmas.Bool.{ne_eqb}
use Rattle.std.proofs.lemmas.List.Elements.{Contains-append_left}
use Rattle.ds_layout.specs.Bits.{HasBit, bit_in}
use Rattle.ds_layout.specs.Head.{head_word, head_of, parts_of, next_head}
use Rattle.ds_layout.specs.declared.head.Head.{Head}
use Rattle.ds_layout.specs.declared.place.Place.TheVariants as place
use Rattle.ds_state.specs.CallsFit.{CallFits, EditFits}
use Rattle.ds_state.specs.Edits.{PlainEditCall}
use Rattle.ds_state.specs.Sound.{IsSound}
use Rattle.ds_state.specs.Works.{PlainRecoverCall}
use Rattle.ds_state.specs.World.{PlainEdit, PlainWorld, edit_of, done_place}
use Rattle.ds_state.specs.declared.recovery.RecoverStage.TheVariants as recovers
use Rattle.ds_state.specs.declared.situation.Situation.{Situation}
use Rattle.ds_state.specs.declared.stage.Stage.TheVariants.{OrDone, FlushDone, BackDone, Swap}
use Rattle.ds_edit.specs.EditSteps.{head_after}
use Rattle.ds_edit.specs.EditTakes.{counted_at}
use Rattle.ds_edit.proofs.Sound.{step_sound}
use Rattle.ds_recover.specs.RecoverySteps.{at, number_of, is_shown}
use Rattle.ds_core.specs.BitFirst.{HasNoBit, at_stage, TakesOver, IsRecoveryOf, FindsNeither}

-- a head of another process shows no edit of this one
module _ (p n processes word : ℕ) (other : word / 256 % 256 ≢ p) where
  unshown : (b : Bool) → is_shown p n (if b then Some (parts_of word) else None) ≡ false
  unshown false = refl
  unshown true = subst (λ b. (if b then word % 256 == n else false) ≡ false) (sym (ne_eqb (word / 256 % 256) p other)) refl

  pub other_head : is_shown p n (head_of processes word) ≡ false
  other_head = unshown (nat_lt 0 (word / 65536) && nat_lt (word / 256 % 256) processes)

-- whose head the word is
head_process : (stamp process number : ℕ) → process < 256 → number < 256 → (stamp * 65536 + process * 256 + number) / 256 % 256 ≡ process
head_process stamp process number a b = omega (arith, a, b)

module _ (e : PlainEditCall) (head : Head) (f : PlainEdit) (r : PlainRecoverCall) (first last : PlainWorld) (sound : IsSound first) (t : TakesOver e head first last) (mine : IsRecoveryOf r f) (ne : e.process ≢ f.process) where
  second_sound : IsSound t.second
  second_sound = (step_sound (at_stage e (OrDone head)) 0 first t.second sound t.inside t.ready t.ors).sound

  in_second : e.process < t.second.layout.processes
  in_second = rw t.ors.layout t.inside

  third_sound : IsSound t.third
  third_sound = (step_sound (at_stage e (FlushDone head)) 0 t.second t.third second_sound in_second t.ors.situation t.flushes).sound

  in_third : e.process < t.third.layout.processes
  in_third = rw t.flushes.layout in_second

  fourth_sound : IsSound t.fourth
  fourth_sound = (step_sound (at_stage e (BackDone head)) 0 t.third t.fourth third_sound in_third t.flushes.situation t.backs).sound

  in_fourth : e.process < t.fourth.layout.processes
  in_fourth = rw t.backs.layout in_third

  last_sound : IsSound last
  last_sound = (step_sound (at_stage e (Swap (head_word head))) (head_word head) t.fourth last fourth_sound in_fourth t.backs.situation t.swings).sound

  fits : EditFits first e.process (at_stage e (OrDone head))
  fits = subst (λ (s : Situation). CallFits first e.process s) t.ready (sound.calls e.process t.inside)

  -- the head that it leaves is its own
  swung : last.memory.cached (place.Head e.cell) ≡ head_after e (head_word head)
  swung = elim t.swings.memory.1 [ inl won ↦ won.1.there | inr lost ↦ absurd (lost.0 refl) ]

  another : (head_after e (head_word head)) / 256 % 256 ≢ r.process
  another same =
      let low : e.process < 256 = (let l = fits.is.process in let m = fits.is.processes in omega (arith, l, m)) in
      let number : e.number < 256 = (let n = fits.is.number in omega (arith, n)) in
      ne (sym (head_process (next_head (head_word head) e.process e.number).stamp e.process e.number low number) ∙ same ∙ mine.process)

  still_counts : Contains first.counted f → Contains last.counted f
  still_counts there =
      let in_two = subst (λ es. Contains es f) (sym t.ors.counted) (Contains-append_left first.counted [] f there) in
      let in_three = subst (λ es. Contains es f) (sym t.flushes.counted) (Contains-append_left t.second.counted [] f in_two) in
      let in_four = subst (λ es. Contains es f) (sym t.backs.counted) (Contains-append_left t.third.counted [] f in_three) in
      subst (λ es. Contains es f) (sym t.swings.counted) (Contains-append_left t.fourth.counted (counted_at (edit_of e) (Swap (head_word head)) (head_word head)) f in_four)

  finds : e.cell ≡ f.cell → Contains first.counted f → HasNoBit first f → FindsNeither r f first last
  finds cell there none =
      let unset : HasBit (first.memory.cached (done_place r.process (number_of r))) (number_of r) → ⊥ = λ has. none
      (subst (λ n. HasBit (first.memory.cached (done_place f.process n)) n) mine.number (subst (λ q. HasBit (first.memory.cached (done_place q (number_of r))) (number_of r)) mine.process has)) in
      let word : last.memory.cached (place.Head r.cell) ≡ head_after e (head_word head) = ap (λ c. last.memory.cached (place.Head c)) (mine.cell ∙ sym cell) ∙ swung in
      let shown : is_shown r.process (number_of r) (head_of r.processes (last.memory.cached (place.Head r.cell))) ≡ false =
      subst (λ w. is_shown r.process (number_of r) (head_of r.processes w) ≡ false) (sym word) (other_head r.process (number_of r) r.processes (head_after e (head_word head)) another) in
      record {
        bit = subst (λ b. (if b then at r (recovers.OrMark true) else at r (recovers.OrMark false)) ≡ at r (recovers.OrMark false)) (sym (ne_eqb (bit_in (first.memory.cached (done_place r.process (number_of r))) (number_of r)) 1 unset)) refl;
        head = subst (λ b. (if b then at r recovers.FlushHead else at r recovers.LoadDone) ≡ at r recovers.LoadDone) (sym shown) refl;
        sound = last_sound;
        counts = (there, still_counts there);
      }

-- a recovery that looks at the done bit first and at the head last can find neither, of a linearized edit
pub finds_neither : (e : PlainEditCall) (head : Head) (f : PlainEdit) (r : PlainRecoverCall) (first last : PlainWorld) → IsSound first → IsRecoveryOf r f → e.process ≢ f.process → e.cell ≡ f.cell
    → Contains first.counted f → HasNoBit first f → TakesOver e head first last → FindsNeither r f first last
finds_neither e head f r first last sound mine ne cell there none t = finds e head f r first last sound t mine ne cell there none
