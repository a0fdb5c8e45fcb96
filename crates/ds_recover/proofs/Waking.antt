-- A recovery begins, and takes its first three steps: it notes the layout, and persists the version's word.
use Rattle.std.proofs.Common.{ℕ, ◌≡◌, ◌≢◌, ◌<◌, ◌≤◌, List, [], ◌∷◌, ◌++◌, refl, ap, sym, ◌∙◌, subst, arith, inl, inr, max}
use Rattle.std.specs.Prelude.{Contains}
use Rattle.ds_words.specs.declared.access.BufferEntry.{BufferEntry}
use Rattle.ds_words.specs.Memory.{SameMemory, FlushesAt, WritesBack}
use Rattle.ds_layout.specs.declared.place.Place.{Place}
use Rattle.ds_layout.specs.declared.place.Place.TheVariants.{Version, Mark}
use Rattle.ds_layout.specs.declared.layout.Layout.{Layout}
use Rattle.ds_layout.specs.Places.{class_of, cells_of, edition_of}
use Rattle.ds_state.specs.World.{PlainWorld}
use Rattle.ds_state.specs.Works.{PlainRecoverCall}
use Rattle.ds_state.specs.RecoverStages.{IsRecovery}
use Rattle.ds_state.specs.KnownRecovery.{FreedFits, freed_at, ResolvedFits, resolved_at, RecoveryHolds, recovery_held}
use Rattle.ds_state.specs.Owing.{entry}
use Rattle.ds_state.specs.CallsFit.{CallFits, DoubtFits, RecoveryFits}
use Rattle.ds_state.specs.WordsFit.{VersionFits}
use Rattle.ds_state.specs.LayoutsFit.{WakesAt, LayoutFits, IsMoving, NoneMoves}
use Rattle.ds_state.specs.Rely.{Keeps}
use Rattle.ds_state.specs.Sound.{IsSound}
use Rattle.ds_state.specs.declared.recovery.RecoverStage.{RecoverStage}
use Rattle.ds_state.specs.declared.recovery.RecoverStage.TheVariants.{LoadVersion, FlushVersion, BackVersion, LoadMark}
use Rattle.ds_state.specs.declared.situation.Situation.{Situation}
use Rattle.ds_state.specs.declared.situation.Situation.TheVariants.{Idle, Stopped, Editing, Working, Recovering, Showing, Migrating}
use Rattle.ds_state.proofs.Frames.{Moves, turns, MovesVersion, version_word}
use Rattle.ds_state.proofs.Buffers.{none, not_mark}
use Rattle.ds_recover.proofs.Migrating.{IsHalted, IsWaking, halted_keeps, doubt_on, Backed, backed}

-- while a process is not stopped, no other migrates
pub none_moves : (p : ℕ) (w : PlainWorld) → IsSound w → p < w.layout.processes → w.situation p ≢ Stopped → NoneMoves w p
none_moves p w sound real runs q l ne moving = by (w.situation q) (sound.layouts q l) moving
  where
    by : (s : Situation) → LayoutFits w q s → IsMoving s → ⊥
    by (Migrating e) h k = runs (h.alone p real (λ same. ne (sym same)))
    by (Idle next) h k = k
    by Stopped h k = k
    by (Editing e) h k = k
    by (Working e) h k = k
    by (Recovering e) h k = k
    by (Showing e) h k = k

at : PlainRecoverCall → RecoverStage → PlainRecoverCall
at e s = record e { stage = s }

-- what a step of a process alone leaves
pub record Steps (p : ℕ) (old new : PlainWorld) : Type 0 where
  pub layout : new.layout ≡ old.layout
  pub others : (q : ℕ) → q ≢ p → new.situation q ≡ old.situation q
  pub counted : new.counted ≡ old.counted
  pub open_edits : (q : ℕ) → new.open_edits q ≡ old.open_edits q

-- a halted process comes to a next of the first stages of a recovery
module _ (p : ℕ) (e : PlainRecoverCall) (old new : PlainWorld) (sound : IsSound old) (real : p < old.layout.processes) (t : Steps p old new) (quiet : NoneMoves old p)
    (was : IsHalted (old.situation p)) (is : new.situation p ≡ Recovering e) (waking : IsWaking e.stage) (mine' : e.process ≡ p) (numbers : IsRecovery e)
    (cells : cells_of old.layout ≡ e.cells) (processes : old.layout.processes ≡ e.processes) (doubt : DoubtFits old p (old.open_edits p))
    (place : Place) (same_place : place ≡ Version) (cached : (r : Place) → new.memory.cached r ≡ old.memory.cached r) (persisted : (r : Place) → r ≢ Version → new.memory.persisted r ≡ old.memory.persisted r)
    (buffers : (q : ℕ) → q ≢ p → new.memory.buffer q ≡ old.memory.buffer q) (version : MovesVersion p old new)
    (holds : RecoveryHolds new p e.announcement e.cell (recovery_held e.cell e.stage)) (freed : FreedFits new p e.mark (freed_at e.stage)) (resolved : ResolvedFits new p e.announcement e.cell (resolved_at e.stage))
    (clear : (c x : ℕ) → Contains (new.memory.buffer p) (entry (Mark c) x) → ⊥) (lay : WakesAt new p e e.stage) where
  m : Moves p Version old new
  m = record {
    layout = t.layout;
    cached = λ r ne. cached r;
    persisted = persisted;
    here = tt;
    buffers = buffers;
    situations = t.others;
    pendings = λ q ne. t.open_edits q;
    goes = turns quiet (λ l. subst (λ (x : Situation). LayoutFits new p x) (sym is) lay);
    version = version;
  }

  now : IsHalted (new.situation p)
  now = subst (λ (x : Situation). IsHalted x) (sym is) waking

  pub wakes : Keeps p old new
  wakes = halted_keeps p Version old new m t.counted sound real tt was now (t.open_edits p) clear (version_word p old new m sound)
      (subst (λ (x : Situation). CallFits new p x) (sym is) (record {
        mine = mine';
        is = numbers;
        cells = ap cells_of t.layout ∙ cells;
        processes = ap (λ (x : Layout). x.processes) t.layout ∙ processes;
        doubt = doubt_on p Version old new m t.counted sound real tt was now (t.open_edits p) clear doubt;
        freed = subst (λ (q : ℕ). FreedFits new q e.mark (freed_at e.stage)) (sym mine') freed;
        resolved = subst (λ (q : ℕ). ResolvedFits new q e.announcement e.cell (resolved_at e.stage)) (sym mine') resolved;
        buffer = subst (λ (q : ℕ). RecoveryHolds new q e.announcement e.cell (recovery_held e.cell e.stage)) (sym mine') holds;
      }))

-- a recovery of a stopped process begins, while none migrates
pub recovery_begins : (e : PlainRecoverCall) (old new : PlainWorld) → IsSound old → e.process < old.layout.processes → old.situation e.process ≡ Stopped → NoneMoves old e.process
    → Steps e.process old new → SameMemory old.memory new.memory → new.situation e.process ≡ Recovering (record e { stage = LoadVersion }) → IsRecovery (record e { stage = LoadVersion })
    → cells_of old.layout ≡ e.cells → old.layout.processes ≡ e.processes → Keeps e.process old new
recovery_begins e old new sound real stopped quiet t m is numbers cells processes =
    let fit = subst (λ (x : Situation). CallFits old e.process x) stopped (sound.calls e.process real) in
    let empty : new.memory.buffer e.process ≡ [] = m.buffer e.process ∙ fit.buffer in
    wakes e.process (record e { stage = LoadVersion }) old new sound real t quiet (subst (λ (x : Situation). IsHalted x) (sym stopped) tt) is tt refl numbers cells processes fit.doubt
    Version refl m.cached (λ r ne. m.persisted r) (λ q ne. m.buffer q) (inl (m.cached Version, inl (m.persisted Version))) empty (λ r l by. absurd (omega arith)) tt (λ c x h. none (entry (Mark c) x) empty h) tt

module _ (e : PlainRecoverCall) (s : RecoverStage) (old new : PlainWorld) (sound : IsSound old) (real : e.process < old.layout.processes)
    (at_stage : old.situation e.process ≡ Recovering (record e { stage = s })) where
  runs : old.situation e.process ≢ Stopped
  runs stopped = let bad : Stopped ≡ Recovering (record e { stage = s }) = sym stopped ∙ at_stage in cc

  fits : RecoveryFits old e.process (record e { stage = s })
  fits = subst (λ (x : Situation). CallFits old e.process x) at_stage (sound.calls e.process real)

  lay_old : LayoutFits old e.process (Recovering (record e { stage = s }))
  lay_old = subst (λ (x : Situation). LayoutFits old e.process x) at_stage (sound.layouts e.process real)

-- the version's word is loaded: the recovery notes what layout it says
pub load_version : (e : PlainRecoverCall) (word : ℕ) (old new : PlainWorld) → IsSound old → e.process < old.layout.processes → old.situation e.process ≡ Recovering (record e { stage = LoadVersion })
    → Steps e.process old new → word ≡ old.memory.cached Version → SameMemory old.memory new.memory → new.situation e.process ≡ Recovering (record e { edition = edition_of word; stage = FlushVersion }) → Keeps e.process old new
load_version e word old new sound real was t seen m is =
    let f = fits e LoadVersion old new sound real was in
    let empty : new.memory.buffer e.process ≡ [] = m.buffer e.process ∙ f.buffer in
    wakes e.process (record e { edition = edition_of word; stage = FlushVersion }) old new sound real t (none_moves e.process old sound real (runs e LoadVersion old new sound real was)) (subst (λ (x : Situation). IsHalted x) (sym was) tt)
    is tt refl (record { process = f.is.process; processes = f.is.processes; some = f.is.some; cells = f.is.cells; stage = tt }) f.cells f.processes f.doubt
    Version refl m.cached (λ r ne. m.persisted r) (λ q ne. m.buffer q) (inl (m.cached Version, inl (m.persisted Version))) empty (λ r l by. absurd (omega arith)) tt (λ c x h. none (entry (Mark c) x) empty h)
    (ap edition_of (m.cached Version ∙ sym seen))

-- it is flushed
pub flush_version : (e : PlainRecoverCall) (old new : PlainWorld) → IsSound old → e.process < old.layout.processes → old.situation e.process ≡ Recovering (record e { stage = FlushVersion })
    → Steps e.process old new → FlushesAt e.process Version (class_of Version) old.memory new.memory → new.situation e.process ≡ Recovering (record e { stage = BackVersion }) → Keeps e.process old new
flush_version e old new sound real was t m is =
    let f = fits e FlushVersion old new sound real was in
    let one : new.memory.buffer e.process ≡ entry Version (old.memory.cached Version) ∷ [] = m.mine ∙ ap (λ (xs : List (BufferEntry Place)). xs ++ entry Version (old.memory.cached Version) ∷ []) f.buffer in
    wakes e.process (record e { stage = BackVersion }) old new sound real t (none_moves e.process old sound real (runs e FlushVersion old new sound real was)) (subst (λ (x : Situation). IsHalted x) (sym was) tt)
    is tt refl (record { process = f.is.process; processes = f.is.processes; some = f.is.some; cells = f.is.cells; stage = tt }) f.cells f.processes f.doubt
    Version refl m.cached (λ r ne. m.persisted r) m.others (inl (m.cached Version, inl (m.persisted Version))) (record { value = old.memory.cached Version; alone = one }) (λ r l by. absurd (omega arith)) tt
    (λ c x h. not_mark Version _ c x (λ y. cc) one h)
    (ap edition_of (m.cached Version) ∙ lay_old e FlushVersion old new sound real was, one ∙ ap (λ (v : ℕ). entry Version v ∷ []) (sym (m.cached Version)))

-- it is written back: both sides say the layout that the recovery noted
pub back_version : (e : PlainRecoverCall) (first : BufferEntry Place) (rest : List (BufferEntry Place)) (old new : PlainWorld) → IsSound old → e.process < old.layout.processes → old.situation e.process ≡ Recovering (record e { stage = BackVersion })
    → Steps e.process old new → WritesBack e.process first rest old.memory new.memory → new.situation e.process ≡ Recovering (record e { stage = LoadMark 0 }) → Keeps e.process old new
back_version e first rest old new sound real was t w is =
    let f = fits e BackVersion old new sound real was in
    let lay' = lay_old e BackVersion old new sound real was in
    let b : Backed e.process Version (old.memory.cached Version) old new = backed e.process Version (old.memory.cached Version) old new first rest lay'.1 w in
    let fit : VersionFits (old.memory.cached Version) (old.memory.persisted Version) = sound.words Version in
    let now : new.memory.persisted Version ≡ old.memory.cached Version = b.there ∙ newest (old.memory.persisted Version) (old.memory.cached Version) fit.behind in
    wakes e.process (record e { stage = LoadMark 0 }) old new sound real t (none_moves e.process old sound real (runs e BackVersion old new sound real was)) (subst (λ (x : Situation). IsHalted x) (sym was) tt)
    is tt refl (record { process = f.is.process; processes = f.is.processes; some = f.is.some; cells = f.is.cells; stage = f.is.some }) f.cells f.processes f.doubt
    Version refl b.cached b.elsewhere b.others (inl (b.cached Version, inr now)) b.mine (λ r l by. absurd (omega arith)) tt (λ c x h. none (entry (Mark c) x) b.mine h)
    (record { cached = ap edition_of (b.cached Version) ∙ lay'.0; persisted = ap edition_of now ∙ lay'.0 })
  where
    newest : (v c : ℕ) → v ≤ c → max v c ≡ c
    newest v c l = grind arith
