-- The sorts of a recovery's steps: what each leaves of clauses 1 and 2, and of what it knows.
use Rattle.std.proofs.Common.{ℕ, ◌≡◌, ◌<◌, ◌⊎◌, List, [], ◌∷◌, ◌++◌, refl, ap, sym, ◌∙◌, subst, arith, inl, inr, Some}
use Rattle.std.specs.Prelude.{Contains, Option}
use Rattle.std.proofs.lemmas.Bool.{cases_eq}
use Rattle.ds_words.specs.declared.access.BufferEntry.{BufferEntry}
use Rattle.ds_words.specs.Memory.{SameMemory, FlushesAt}
use Rattle.ds_layout.specs.Places.{class_of}
use Rattle.ds_layout.specs.declared.place.Place.{Place}
use Rattle.ds_layout.specs.declared.place.Place.TheVariants.{Version, Head, Mark, Value, Kind, Announce}
use Rattle.ds_state.specs.Works.{PlainRecoverCall}
use Rattle.ds_state.specs.RecoverStages.{IsStage}
use Rattle.ds_state.specs.World.{PlainEdit, PlainIssue, PlainWorld, of_cell, head_after_all}
use Rattle.ds_state.specs.Owing.{entry, IsHeld, Owes, RecoveryOwes, Parts, RecoveryParts, CellOwes, IsPending, Excuses, RecoveryExcuses, IsExcused, Splits, RecoverySplits, IsIndexed}
use Rattle.ds_layout.specs.Mark.{IsHeldBy}
use Rattle.ds_state.specs.Standing.{Matters}
use Rattle.ds_state.specs.KnownRecovery.{ValueAgrees, KindAgrees, FreedFits, freed_at, ResolvedFits, resolved_at, RecoveryHolds, recovery_held}
use Rattle.ds_state.specs.CallsFit.{CallFits, DoubtFits, RecoveryFits}
use Rattle.ds_state.specs.Rely.{Grows, Keeps}
use Rattle.ds_state.specs.Sound.{IsSound}
use Rattle.ds_recover.specs.RecoverySteps.{StepsAt}
use Rattle.ds_state.specs.declared.recovery.RecoverStage.{RecoverStage}
use Rattle.ds_state.specs.declared.situation.Situation.{Situation}
use Rattle.ds_state.specs.declared.situation.Situation.TheVariants.{Recovering}
use Rattle.ds_recover.proofs.RecoveryKeeping.{IsAwake, recovery_goes}
use Rattle.ds_state.proofs.Stable.{doubt_grows}
use Rattle.ds_state.proofs.StableRecovery.{freed_stable, resolved_stable}
use Rattle.ds_state.proofs.Frames.{Moves, KeepsOwing, KeepsApart, grows_own}
use Rattle.ds_state.proofs.Bearing.{Mine, MyMarks, bears, all_stand, text_same, no_new_marks, apart_lasts, splits_last, pends_last, marks_grow}
use Rattle.ds_state.proofs.Buffers.{buffered}
use Rattle.ds_state.proofs.EditFrame.{flush_any}
use Rattle.ds_state.proofs.Accesses.{Turn, same_moves, flush_moves, quiet_sound}

-- the same recovery, with what it noted, at a stage
abbrev pub on : PlainRecoverCall → ℕ → List ℕ → ℕ → ℕ → RecoverStage → PlainRecoverCall
on e mark row word cell s = record e { mark = mark; row = row; announcement = word; cell = cell; stage = s }

abbrev pub AgreesOn : PlainWorld → ℕ → Type 0
AgreesOn w r = ValueAgrees w r × KindAgrees w r

-- what the process owed that matters, it owes still
pub record Passes (p : ℕ) (row : List ℕ) (s : RecoverStage) (row' : List ℕ) (s' : RecoverStage) (old new : PlainWorld) : Type 0 where
  pub owes : (r c x : ℕ) → IsIndexed old r c → Matters new c x → IsHeld old.memory p r → RecoveryOwes old.memory p row s r c x → IsHeld new.memory p r × RecoveryOwes new.memory p row' s' r c x
  pub excuses : (c x : ℕ) → Matters new c x → IsPending old p c → RecoveryExcuses old.memory p c s x → IsPending new p c × RecoveryExcuses new.memory p c s' x
  pub parts : (r : ℕ) → IsHeld old.memory p r → RecoveryParts s r → (IsHeld new.memory p r × RecoveryParts s' r) ⊎ AgreesOn new r
  pub splits : (f : PlainEdit) (before : List PlainEdit) → of_cell f.cell old.counted ≡ before ++ f ∷ [] → (issue : PlainIssue) → old.open_edits p ≡ Some issue → issue.edit ≡ f → IsPending old p f.cell → RecoverySplits s → IsPending new p f.cell × RecoverySplits s'

-- a step after the first three
pub turn_of : (e : PlainRecoverCall) (s : RecoverStage) (word : ℕ) (old new : PlainWorld) → e.process < old.layout.processes → old.situation e.process ≡ Recovering (record e { stage = s }) → IsAwake s → StepsAt e s word old new → Turn e.process old new
turn_of e s word old new real was awake t = record { layout = t.layout; counted = t.counted; situations = t.others; pendings = t.others_open_edits; goes = recovery_goes e s word old new real was awake t }

-- where the marks and the announcement of the process stay
pub held_on : (p : ℕ) (old new : PlainWorld) → Moves p Version old new → (r : ℕ) → IsHeld old.memory p r → IsHeld new.memory p r
held_on p old new m r k =
    let a = m.cached (Mark r) (λ x. cc) in
    let b = m.persisted (Mark r) (λ x. cc) in
    let by = k.by in
    let same = k.same in
    record { by = omega arith; same = omega arith }

-- an edit that both sides announce as pending is pending still, where at most the version's word moves
pub pends_on : (p : ℕ) (old new : PlainWorld) → Moves p Version old new → new.open_edits p ≡ old.open_edits p → (c : ℕ) → IsPending old p c → IsPending new p c
pends_on p old new m pending c k = record {
  issue = k.issue;
  issued = pending ∙ k.issued;
  cell = k.cell;
  cached = m.cached (Announce p) (λ x. cc) ∙ k.cached;
  persisted = m.persisted (Announce p) (λ x. cc) ∙ k.persisted;
}

-- a step passes on what its process owes where each of its holds, and what it owes by its stage, goes on
pub simple_passes : (p : ℕ) (row : List ℕ) (s : RecoverStage) (row' : List ℕ) (s' : RecoverStage) (old new : PlainWorld)
    → ((r : ℕ) → IsHeld old.memory p r → IsHeld new.memory p r) → ((c : ℕ) → IsPending old p c → IsPending new p c)
    → ((r c x : ℕ) → IsIndexed old r c → Matters new c x → IsHeld old.memory p r → RecoveryOwes old.memory p row s r c x → RecoveryOwes new.memory p row' s' r c x)
    → ((c x : ℕ) → Matters new c x → IsPending old p c → RecoveryExcuses old.memory p c s x → RecoveryExcuses new.memory p c s' x)
    → ((r : ℕ) → IsHeld old.memory p r → RecoveryParts s r → RecoveryParts s' r)
    → ((f : PlainEdit) (before : List PlainEdit) → of_cell f.cell old.counted ≡ before ++ f ∷ [] → (issue : PlainIssue) → old.open_edits p ≡ Some issue → issue.edit ≡ f → IsPending old p f.cell → RecoverySplits s → RecoverySplits s')
    → Passes p row s row' s' old new
simple_passes p row s row' s' old new held pends owes excuses parts splits = record {
  owes = λ r c x bit matters k o. (held r k, owes r c x bit matters k o);
  excuses = λ c x matters k o. (pends c k, excuses c x matters k o);
  parts = λ r k o. inl (held r k, parts r k o);
  splits = λ f before last_of issue issued same k o. (pends f.cell k, splits f before last_of issue issued same k o);
}

module _ (e : PlainRecoverCall) (mark : ℕ) (row : List ℕ) (word : ℕ) (cell : ℕ) (s s' : RecoverStage) (old new : PlainWorld)
    (was : old.situation e.process ≡ Recovering (record e { stage = s })) (is : new.situation e.process ≡ Recovering (on e mark row word cell s')) where
  module _ (place : Place) (moves : Moves e.process place old new) (passes : Passes e.process e.row s row s' old new) where
    pub recovery_mine : ((r : ℕ) → (place ≡ Value r) ⊎ (place ≡ Kind r) → IsHeldBy e.process (old.memory.cached (Mark r)) → (c x : ℕ) → CellOwes new r c x)
        → ((r : ℕ) → (place ≡ Value r) ⊎ (place ≡ Kind r) → IsHeldBy e.process (old.memory.cached (Mark r)) → IsHeld old.memory e.process r)
        → ((c : ℕ) → new.memory.cached (Head c) ≡ old.memory.cached (Head c))
        → ((c : ℕ) → place ≡ Head c → (new.memory.persisted (Head c) ≡ old.memory.persisted (Head c)) ⊎ ((x : ℕ) → IsExcused new c x))
        → Mine e.process place old new moves
    recovery_mine stored holds cached heads = record {
      owes = λ r c x bit matters held o. (
          let k = passes.owes r c x bit matters held (subst (λ (t : Situation). Owes old.memory e.process t r c x) was o) in
          record { holder = e.process; held = k.0; still = subst (λ (t : Situation). Owes new.memory e.process t r c x) (sym is) k.1 });
      excuses = λ l c x matters o. (
          let k : Excuses old e.process (Recovering (record e { stage = s })) c x = subst (λ (t : Situation). Excuses old e.process t c x) was o in
          let n = passes.excuses c x matters k.0 k.1 in
          record { process = e.process; inside = rw moves.layout l; still = subst (λ (t : Situation). Excuses new e.process t c x) (sym is) (n.0, n.1) });
      stored = stored;
      holds = holds;
      cached_heads = λ c at. inl (cached c);
      persisted_heads = heads;
    }

    pub recovery_apart : KeepsApart old new
    recovery_apart cell' a = elim (cases_eq a.holder e.process) [
      | inr ne ↦ inl (apart_lasts e.process place old new moves cell' a ne)
      | inl eq ↦ elim (passes.parts cell' (subst (λ (q : ℕ). IsHeld old.memory q cell') eq a.held) (subst (λ (t : Situation). Parts t cell') was (subst (λ (q : ℕ). Parts (old.situation q) cell') eq a.still))) [
        | inl k ↦ inl (record { holder = e.process; held = k.0; still = subst (λ (t : Situation). Parts t cell') (sym is) k.1 })
        | inr agree ↦ inr agree
      ]
    ]

    pub recovery_keeps : new.open_edits e.process ≡ old.open_edits e.process → (c : ℕ) → KeepsOwing old new c
    recovery_keeps pending c f issue its pends was_same before last_of owes = elim (cases_eq f.process e.process) [
      | inl eq ↦ (
          let k : Splits old e.process (Recovering (record e { stage = s })) f.cell (head_after_all (of_cell c old.counted)) =
          subst (λ (x : Situation). Splits old e.process x f.cell (head_after_all (of_cell c old.counted))) was (subst (λ (q : ℕ). Splits old q (old.situation q) f.cell (head_after_all (of_cell c old.counted))) eq owes) in
          let n = passes.splits f before (ap (λ (y : ℕ). of_cell y old.counted) its ∙ last_of) issue (ap old.open_edits (sym eq) ∙ pends) was_same k.0 k.1 in
          let now : Splits new e.process (new.situation e.process) f.cell (head_after_all (of_cell c old.counted)) =
          subst (λ (x : Situation). Splits new e.process x f.cell (head_after_all (of_cell c old.counted))) (sym is) (n.0, n.1) in
          (ap new.open_edits eq ∙ pending ∙ ap old.open_edits (sym eq) ∙ pends, subst (λ (q : ℕ). Splits new q (new.situation q) f.cell (head_after_all (of_cell c old.counted))) (sym eq) now))
      | inr ne ↦ (
        moves.pendings f.process ne ∙ pends,
        subst (λ (x : Situation). Splits new f.process x f.cell (head_after_all (of_cell c old.counted))) (sym (moves.situations f.process ne))
            (splits_last old new f.process (λ y. marks_grow e.process place old new moves y) (moves.buffers f.process ne) (λ y k. pends_last e.process place old new moves f.process y ne k) (old.situation f.process) f.cell _ owes),
      )
    ]

  -- what it knows after the step, where its own words stay
  pub recovery_fits : RecoveryFits old e.process (record e { stage = s }) → new.layout ≡ old.layout → new.open_edits e.process ≡ old.open_edits e.process
      → DoubtFits new e.process (old.open_edits e.process)
      → FreedFits new e.process mark (freed_at s') → ResolvedFits new e.process word cell (resolved_at s')
      → RecoveryHolds new e.process word cell (recovery_held cell s') → IsStage (on e mark row word cell s') s' → RecoveryFits new e.process (on e mark row word cell s')
  recovery_fits fits layout pending doubt freed resolved buffer rows = record {
    mine = refl;
    cells = rw layout fits.cells;
    processes = rw layout fits.processes;
    doubt = subst (λ (o : Option PlainIssue). DoubtFits new e.process o) (sym pending) doubt;
    freed = freed;
    resolved = resolved;
    buffer = buffer;
    is = record { process = fits.is.process; processes = fits.is.processes; some = fits.is.some; cells = fits.is.cells; stage = rows };
  }

-- steps that give no cell back and announce nothing
module _ (e : PlainRecoverCall) (mark : ℕ) (row : List ℕ) (word : ℕ) (cell : ℕ) (s s' : RecoverStage) (old new : PlainWorld) (sound : IsSound old)
    (was : old.situation e.process ≡ Recovering (record e { stage = s })) (fits : RecoveryFits old e.process (record e { stage = s })) (real : e.process < old.layout.processes)
    (tn : Turn e.process old new) (is : new.situation e.process ≡ Recovering (on e mark row word cell s')) (pending : new.open_edits e.process ≡ old.open_edits e.process)
    (passes : Passes e.process e.row s row s' old new) where
  pub stays : Grows e.process Version old new → (FreedFits new e.process e.mark (freed_at s) → FreedFits new e.process mark (freed_at s'))
      → (ResolvedFits new e.process e.announcement e.cell (resolved_at s) → ResolvedFits new e.process word cell (resolved_at s'))
      → RecoveryHolds new e.process word cell (recovery_held cell s') → IsStage (on e mark row word cell s') s' → RecoveryFits new e.process (on e mark row word cell s')
  stays g freed resolved buffer rows = recovery_fits e mark row word cell s s' old new was is fits tn.layout pending
      (doubt_grows Version old new e.process g pending (λ x. cc) (λ n x. cc) (old.open_edits e.process) fits.doubt)
      (freed (freed_stable old new e.process g e.mark (freed_at s) fits.freed))
      (resolved (resolved_stable old new e.process g pending e.announcement e.cell (resolved_at s) fits.resolved))
      buffer rows

  no_value : (r : ℕ) → (Version ≡ Value r) ⊎ (Version ≡ Kind r) → ⊥
  no_value r at = elim at [ inl x ↦ cc | inr x ↦ cc ]

  -- nothing moves, and a mark may be flushed
  pub silent_step : (moves : Moves e.process Version old new) → ((c : ℕ) → new.memory.cached (Head c) ≡ old.memory.cached (Head c))
      → ((mine : Mine e.process Version old new moves) → MyMarks e.process Version old new moves) → RecoveryFits new e.process (on e mark row word cell s') → Keeps e.process old new
  silent_step moves cached marks call =
      let my : Mine e.process Version old new moves = recovery_mine e mark row word cell s s' old new was is Version moves passes (λ r at. absurd (no_value r at)) (λ r at. absurd (no_value r at)) cached (λ c at. cc) in
      quiet_sound e.process old new tn sound moves (bears e.process Version old new moves sound my)
      (all_stand e.process Version old new moves sound (buffered old sound) my (text_same old new moves.layout tn.counted) (marks my))
      (recovery_apart e mark row word cell s s' old new was is Version moves passes) (recovery_keeps e mark row word cell s s' old new was is Version moves passes pending)
      (λ l. subst (λ (t : Situation). CallFits new e.process t) (sym is) call)

  pub loads : SameMemory old.memory new.memory → (FreedFits new e.process e.mark (freed_at s) → FreedFits new e.process mark (freed_at s'))
      → (ResolvedFits new e.process e.announcement e.cell (resolved_at s) → ResolvedFits new e.process word cell (resolved_at s'))
      → RecoveryHolds new e.process word cell (recovery_held cell s') → IsStage (on e mark row word cell s') s' → Keeps e.process old new
  loads m freed resolved buffer rows =
      let moves : Moves e.process Version old new = same_moves e.process old new tn m in
      silent_step moves (λ c. m.cached (Head c)) (λ my. no_new_marks e.process Version old new moves (λ c at. cc) (λ c x q h. subst (λ (xs : List (BufferEntry Place)). Contains xs (entry (Mark c) x)) (m.buffer q) h))
      (stays (grows_own e.process Version old new moves tn.counted) freed resolved buffer rows)

  pub flushes : (place : Place) → FlushesAt e.process place (class_of place) old.memory new.memory → (FreedFits new e.process e.mark (freed_at s) → FreedFits new e.process mark (freed_at s'))
      → (ResolvedFits new e.process e.announcement e.cell (resolved_at s) → ResolvedFits new e.process word cell (resolved_at s'))
      → RecoveryHolds new e.process word cell (recovery_held cell s') → IsStage (on e mark row word cell s') s' → Keeps e.process old new
  flushes place m freed resolved buffer rows =
      let moves : Moves e.process Version old new = flush_moves e.process old new tn place (class_of place) m in
      silent_step moves (λ c. m.cached (Head c)) (λ my. flush_any e.process old new moves sound (buffered old sound) my (text_same old new moves.layout tn.counted) place m)
      (stays (grows_own e.process Version old new moves tn.counted) freed resolved buffer rows)
