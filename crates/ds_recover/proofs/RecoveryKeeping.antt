-- After its first three steps, a recovery keeps the layout that it noted.
use Rattle.std.proofs.Common.{ℕ, List, ◌≡◌, ◌<◌, ◌+◌, ◌++◌, ◌-◌, ◌∷◌, [], ◌==◌, ◌%◌, refl, ap, ◌∙◌, Some, None, true, false}
use Rattle.std.specs.Prelude.{Option, Bool, nat_lt, if◌then◌else◌}
use Rattle.std.specs.Int.{bit_at}
use Rattle.ds_layout.specs.declared.announcement.Announcement.{Announcement}
use Rattle.ds_layout.specs.declared.announcement.Phase.{Phase}
use Rattle.ds_layout.specs.declared.announcement.Phase.TheVariants as phase
use Rattle.ds_layout.specs.declared.place.Edition.{Edition}
use Rattle.ds_layout.specs.Announcement.{announcement_of}
use Rattle.ds_layout.specs.Bits.{parts_for}
use Rattle.ds_layout.specs.Head.{head_of}
use Rattle.ds_state.specs.Telling.{told_from}
use Rattle.ds_state.specs.Works.{PlainRecoverCall}
use Rattle.ds_state.specs.World.{PlainWorld}
use Rattle.ds_state.specs.declared.spread.Spread.TheVariants.{LoadRow, OrTold, FlushTold, BackTold}
use Rattle.ds_state.specs.declared.recovery.RecoverStage.{RecoverStage}
use Rattle.ds_state.specs.declared.recovery.RecoverStage.TheVariants.{LoadVersion, FlushVersion, BackVersion, LoadMark, FlushValue, FlushKind, BackValue, BackKind, Telling, Give, GiveDirty, FlushGiven, BackGiven, LoadAnnounce, LoadHeader, LoadHead, FlushHead, BackHead, LoadDone, OrMark, FlushMark, BackMark, StoreOutcome, FlushOutcome, BackOutcome, Answer}
use Rattle.ds_state.specs.declared.situation.Situation.TheVariants.{Recovering}
use Rattle.ds_state.proofs.Frames.{Goes, notes, noted_in, noted_stage}
use Rattle.ds_recover.specs.RecoverySteps.{after, StepsAt, number_of, reads_held, told, tell_from, announced_from, resolves_from, phase_from, is_shown}

-- a stage after the first three
abbrev pub IsAwake : RecoverStage → Type 0
IsAwake LoadVersion = ⊥
IsAwake FlushVersion = ⊥
IsAwake BackVersion = ⊥
IsAwake _ = Unit {0}

-- the recovery has noted this layout
abbrev HasNoted : Edition → PlainRecoverCall → Type 0
HasNoted d e = noted_stage e.edition e.stage ≡ Some d

either : (d : Edition) (b : Bool) (e f : PlainRecoverCall) → HasNoted d e → HasNoted d f → HasNoted d (if b then e else f)
either d true e f h k = h
either d false e f h k = k

looks : (d : Edition) (c : ℕ) (b : Bool) → noted_stage d (if b then LoadMark c else LoadAnnounce) ≡ Some d
looks d c true = refl
looks d c false = refl

tells : (d : Edition) (cell : ℕ) (o : Option ℕ) → noted_stage d (told cell o) ≡ Some d
tells d cell None = refl
tells d cell (Some k) = refl

rows : (d : Edition) (e : PlainRecoverCall) (row : List ℕ) (cell part : ℕ) (b : Bool) → noted_stage d (if b then Telling cell (LoadRow part) else tell_from row e.cells cell 0) ≡ Some d
rows d e row cell part true = refl
rows d e row cell part false = tells d cell (told_from row (e.cells - 0) 0)

phases : (d : Edition) (f : Phase) → noted_stage d (phase_from f) ≡ Some d
phases d phase.Pending = refl
phases d phase.Done = refl
phases d phase.NotDone = refl

resolves : (d : Edition) (o : Option Announcement) → noted_stage d (resolves_from o) ≡ Some d
resolves d None = refl
resolves d (Some a) = phases d a.phase

announces : (e : PlainRecoverCall) (word : ℕ) (o : Option Announcement) → HasNoted e.edition (announced_from e word o)
announces e word None = refl
announces e word (Some a) = refl

noted_after : (e : PlainRecoverCall) (s : RecoverStage) (word : ℕ) → IsAwake s → noted_in (after e s word) ≡ Some e.edition
noted_after e (LoadMark c) word h = either e.edition (reads_held e.process word) _ _ refl (looks e.edition (c + 1) (nat_lt (c + 1) e.cells))
noted_after e (FlushValue c) word h = refl
noted_after e (FlushKind c) word h = refl
noted_after e (BackValue c) word h = refl
noted_after e (BackKind c) word h = refl
noted_after e (Telling c (LoadRow part)) word h = rows e.edition e (e.row ++ word ∷ []) c (part + 1) (nat_lt (part + 1) (parts_for e.cells))
noted_after e (Telling c (OrTold d)) word h = refl
noted_after e (Telling c (FlushTold d)) word h = refl
noted_after e (Telling c (BackTold d)) word h = tells e.edition c (told_from e.row (e.cells - (d + 1)) (d + 1))
noted_after e (Give c) word h = either e.edition (word == e.mark) _ _ refl refl
noted_after e (GiveDirty c) word h = refl
noted_after e (FlushGiven c) word h = refl
noted_after e (BackGiven c) word h = looks e.edition (c + 1) (nat_lt (c + 1) e.cells)
noted_after e LoadAnnounce word h = announces e word (announcement_of word)
noted_after e LoadHeader word h = resolves e.edition (announcement_of e.announcement)
noted_after e LoadHead word h = either e.edition (is_shown e.process (number_of e) (head_of e.processes word)) _ _ refl refl
noted_after e FlushHead word h = refl
noted_after e BackHead word h = refl
noted_after e LoadDone word h = either e.edition (bit_at word (number_of e % 64) == 1) _ _ refl refl
noted_after e (OrMark how) word h = refl
noted_after e (FlushMark how) word h = refl
noted_after e (BackMark how) word h = refl
noted_after e (StoreOutcome how) word h = refl
noted_after e (FlushOutcome how) word h = refl
noted_after e (BackOutcome how) word h = refl
noted_after e (Answer how) word h = refl
noted_after e _ word h = absurd h

noted_before : (d : Edition) (s : RecoverStage) → IsAwake s → noted_stage d s ≡ Some d
noted_before d LoadVersion h = absurd h
noted_before d FlushVersion h = absurd h
noted_before d BackVersion h = absurd h
noted_before d _ h = refl

-- after its first three steps, a step of a recovery goes on with the layout that it noted
pub recovery_goes : (e : PlainRecoverCall) (s : RecoverStage) (word : ℕ) (old new : PlainWorld) → e.process < old.layout.processes → old.situation e.process ≡ Recovering (record e { stage = s }) → IsAwake s → StepsAt e s word old new → Goes e.process old new
recovery_goes e s word old new real was awake t = notes e.edition real (ap noted_in was ∙ noted_before e.edition s awake) (ap noted_in t.situation ∙ noted_after e s word awake)
