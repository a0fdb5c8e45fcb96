-- The answer of a recovery repeats how the last spent number ended, and only cells whose bits it found are marked.
use Rattle.std.proofs.Common.{ℕ, ◌≡◌, ◌+◌, ◌-◌, ◌/◌, ◌%◌, ◌==◌, ◌⊎◌, List, [], ◌∷◌, ◌++◌, refl, ap, sym, ◌∙◌, subst, arith, inl, inr, zero, suc, true, false, Some, None}
use Rattle.std.specs.Prelude.{Bool, Option, nat_lt, if◌then◌else◌, slice_index_or}
use Rattle.std.specs.Int.{bit_at}
use Rattle.std.proofs.lemmas.Bool.{eqb-true}
use Rattle.ds_layout.specs.declared.announcement.Announcement.{Announcement}
use Rattle.ds_layout.specs.declared.announcement.Phase.{Phase}
use Rattle.ds_layout.specs.declared.announcement.Phase.TheVariants as phase
use Rattle.ds_layout.specs.Announcement.{announcement_of}
use Rattle.ds_layout.specs.Head.{head_of}
use Rattle.ds_state.specs.Works.{PlainRecoverCall}
use Rattle.ds_layout.specs.Bits.{parts_for}
use Rattle.ds_state.specs.World.{PlainWorld, announcement, last_announcement, phase_among}
use Rattle.ds_state.specs.Known.{AreBelow}
use Rattle.ds_state.specs.Owing.{StandsIn}
use Rattle.ds_state.specs.KnownRecovery.{phase_for, Tells}
use Rattle.ds_state.specs.CallsFit.{RecoveryFits}
use Rattle.ds_state.specs.Telling.{told_from}
use Rattle.ds_state.specs.declared.spread.Spread.TheVariants.{LoadRow, OrTold, FlushTold, BackTold}
use Rattle.ds_state.specs.declared.recovery.RecoverStage.{RecoverStage}
use Rattle.ds_state.specs.declared.recovery.RecoverStage.TheVariants.{LoadVersion, FlushVersion, BackVersion, LoadMark, FlushValue, FlushKind, BackValue, BackKind, Telling, Give, GiveDirty, FlushGiven, BackGiven, LoadAnnounce, LoadHeader, LoadHead, FlushHead, BackHead, LoadDone, OrMark, FlushMark, BackMark, StoreOutcome, FlushOutcome, BackOutcome, Answer}
use Rattle.ds_recover.specs.RecoverySteps.{at, number_of, end_of, RepeatsAs, TellsFound, reads_held, announced_from, resolves_from, phase_from, is_shown, told, tell_from, next_at}
use Rattle.ds_recover.proofs.RecoveryDoubt.{phases}
use Rattle.ds_recover.proofs.RecoveryEnds.{Rests, rests}

-- one word says one phase
same_phase : (n m : ℕ) (f : Phase) (how : Bool) → (f ≡ phase.Done) ⊎ (f ≡ phase.NotDone) → announcement n f ≡ announcement m (phase_for how) → f ≡ phase_for how
same_phase n m f true (inl done) is = done
same_phase n m f true (inr lost) is = absurd (let x : announcement n phase.NotDone ≡ announcement m phase.Done = ap (λ (y : Phase). announcement n y) (sym lost) ∙ is in omega arith)
same_phase n m f false (inl done) is = absurd (let x : announcement n phase.Done ≡ announcement m phase.NotDone = ap (λ (y : Phase). announcement n y) (sym done) ∙ is in omega arith)
same_phase n m f false (inr lost) is = lost

some_told : (word : ℕ) (how : Bool) → Tells word how → word / 4 ≡ word / 4 - 1 + 1
some_told word true k = let i = k.is in omega arith
some_told word false k = let i = k.is in omega arith

-- a recovery that fits repeats, by its answer, how its process's last edit with a spent number ended
pub repeats : (e : PlainRecoverCall) (how : Option Bool) (w : PlainWorld) → RecoveryFits w e.process (at e (Answer how)) → RepeatsAs w e.process (end_of e how)
repeats e None w fits = (rests w e.process e.announcement e.cell None fits.doubt fits.resolved).below
repeats e (Some how) w fits =
    let r : Rests w e.process (e.announcement / 4) = rests w e.process e.announcement e.cell (Some how) fits.doubt fits.resolved in
    let n : e.announcement / 4 ≡ number_of e + 1 = some_told e.announcement how fits.resolved.2 in
    let n' : e.announcement / 4 ≡ suc (number_of e) = omega arith in
    let word : announcement (number_of e) (phase_among w.counted e.process (number_of e)) ≡ announcement fits.resolved.2.number (phase_for how) =
    ap (λ (k : ℕ). last_announcement w.counted e.process k) (sym n') ∙ sym r.cached ∙ fits.resolved.0 ∙ fits.resolved.2.is in (
      subst (λ (k : ℕ). AreBelow w e.process k) n r.below,
      same_phase (number_of e) fits.resolved.2.number (phase_among w.counted e.process (number_of e)) how (phases w.counted e.process (number_of e)) word,
    )

-- ---- telling

told_by : (row : List ℕ) (d k : ℕ) (later : Option ℕ) → (later ≡ Some k → StandsIn row k) → (b : Bool) → (bit_at (slice_index_or row (d / 64) 0) (d % 64) == 1) ≡ b → (if b then Some d else later) ≡ Some k → StandsIn row k
told_by row d k later h true hit is = let same : d ≡ k = cc in subst (λ (x : ℕ). StandsIn row x) same (eqb-true (bit_at (slice_index_or row (d / 64) 0) (d % 64)) 1 hit)
told_by row d k later h false miss is = h is

told_stands : (row : List ℕ) (n d k : ℕ) → told_from row n d ≡ Some k → StandsIn row k
told_stands row zero d k is = absurd (cc)
told_stands row (suc n) d k is = told_by row d k (told_from row n (d + 1)) (told_stands row n (d + 1) k) (bit_at (slice_index_or row (d / 64) 0) (d % 64) == 1) refl is

-- the next cell that is marked
tells_found : (row : List ℕ) (n d c : ℕ) (o : Option ℕ) → told_from row n d ≡ o → (cell k : ℕ) → told c o ≡ Telling cell (OrTold k) → StandsIn row k
tells_found row n d c None is cell k at = absurd (cc)
tells_found row n d c (Some j) is cell k at = let same : j ≡ k = cc in subst (λ (x : ℕ). StandsIn row x) same (told_stands row n d j is)

rows_found : (row : List ℕ) (cells c part : ℕ) (b : Bool) (cell k : ℕ) → (if b then Telling c (LoadRow part) else tell_from row cells c 0) ≡ Telling cell (OrTold k) → StandsIn row k
rows_found row cells c part true cell k at = absurd (cc)
rows_found row cells c part false cell k at = tells_found row (cells - 0) 0 c (told_from row (cells - 0) 0) refl cell k at

looks_none : (b : Bool) (c cell k : ℕ) (X : Type 0) → (if b then LoadMark c else LoadAnnounce) ≡ Telling cell (OrTold k) → X
looks_none true c cell k X at = absurd (cc)
looks_none false c cell k X at = absurd (cc)

either : (b : Bool) (e f : PlainRecoverCall) → TellsFound e → TellsFound f → TellsFound (if b then e else f)
either true e f h k = h
either false e f h k = k

announced_none : (e : PlainRecoverCall) (word : ℕ) (o : Option Announcement) → TellsFound (announced_from e word o)
announced_none e word None cell k is = absurd (cc)
announced_none e word (Some a) cell k is = absurd (cc)

phases_none : (f : Phase) (cell k : ℕ) (X : Type 0) → phase_from f ≡ Telling cell (OrTold k) → X
phases_none phase.Pending cell k X is = absurd (cc)
phases_none phase.Done cell k X is = absurd (cc)
phases_none phase.NotDone cell k X is = absurd (cc)

resolves_none : (o : Option Announcement) (cell k : ℕ) (X : Type 0) → resolves_from o ≡ Telling cell (OrTold k) → X
resolves_none None cell k X is = absurd (cc)
resolves_none (Some a) cell k X is = phases_none a.phase cell k X is

found : (e : PlainRecoverCall) (s : RecoverStage) (word : ℕ) → TellsFound e → TellsFound (next_at e s word)
found e LoadVersion word h = λ cell k is. absurd (cc)
found e FlushVersion word h = λ cell k is. absurd (cc)
found e BackVersion word h = λ cell k is. absurd (cc)
found e (LoadMark c) word h = either (reads_held e.process word) _ _ (λ cell k is. absurd (cc)) (λ cell k is. looks_none (nat_lt (c + 1) e.cells) (c + 1) cell k _ is)
found e (FlushValue c) word h = λ cell k is. absurd (cc)
found e (FlushKind c) word h = λ cell k is. absurd (cc)
found e (BackValue c) word h = λ cell k is. absurd (cc)
found e (BackKind c) word h = λ cell k is. absurd (cc)
found e (Telling c (LoadRow part)) word h = λ cell k is. rows_found (e.row ++ word ∷ []) e.cells c (part + 1) (nat_lt (part + 1) (parts_for e.cells)) cell k is
found e (Telling c (OrTold d)) word h = λ cell k is. absurd (cc)
found e (Telling c (FlushTold d)) word h = λ cell k is. absurd (cc)
found e (Telling c (BackTold d)) word h = λ cell k is. tells_found e.row (e.cells - (d + 1)) (d + 1) c (told_from e.row (e.cells - (d + 1)) (d + 1)) refl cell k is
found e (Give c) word h = either (word == e.mark) _ _ (λ cell k is. absurd (cc)) (λ cell k is. absurd (cc))
found e (GiveDirty c) word h = λ cell k is. absurd (cc)
found e (FlushGiven c) word h = λ cell k is. absurd (cc)
found e (BackGiven c) word h = λ cell k is. looks_none (nat_lt (c + 1) e.cells) (c + 1) cell k _ is
found e LoadAnnounce word h = announced_none e word (announcement_of word)
found e LoadHeader word h = λ cell k is. resolves_none (announcement_of e.announcement) cell k _ is
found e LoadHead word h = either (is_shown e.process (number_of e) (head_of e.processes word)) _ _ (λ cell k is. absurd (cc)) (λ cell k is. absurd (cc))
found e FlushHead word h = λ cell k is. absurd (cc)
found e BackHead word h = λ cell k is. absurd (cc)
found e LoadDone word h = either (bit_at word (number_of e % 64) == 1) _ _ (λ cell k is. absurd (cc)) (λ cell k is. absurd (cc))
found e (OrMark how) word h = λ cell k is. absurd (cc)
found e (FlushMark how) word h = λ cell k is. absurd (cc)
found e (BackMark how) word h = λ cell k is. absurd (cc)
found e (StoreOutcome how) word h = λ cell k is. absurd (cc)
found e (FlushOutcome how) word h = λ cell k is. absurd (cc)
found e (BackOutcome how) word h = λ cell k is. absurd (cc)
found e (Answer how) word h = h

-- at its own stage
pub each_found : (e : PlainRecoverCall) (word : ℕ) → TellsFound e → TellsFound (next_at e e.stage word)
each_found e word h = found e e.stage word h
