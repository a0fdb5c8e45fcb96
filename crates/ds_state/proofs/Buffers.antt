-- Each mark in a buffer is one that its cell has had.
use Rattle.std.proofs.Common.{ℕ, ◌≡◌, ◌≢◌, ◌≤◌, List, [], ◌∷◌, refl, ap, sym, subst, arith, zero, suc}
use Rattle.std.specs.Prelude.{Contains, map}
use Rattle.std.specs.List.{range_with_len}
use Rattle.std.proofs.lemmas.List.Elements.{All-contains, All-map}
use Rattle.ds_words.specs.declared.access.BufferEntry.{BufferEntry}
use Rattle.ds_layout.specs.declared.place.Place.{Place}
use Rattle.ds_layout.specs.declared.place.Place.TheVariants.{Version, Mark, Value, Kind, Announce, Head}
use Rattle.ds_state.specs.Edits.{text_parts}
use Rattle.ds_state.specs.Works.{PlainWorkCall}
use Rattle.ds_state.specs.World.{PlainEdit, edit_of, PlainWorld, record_place, index_place, done_place}
use Rattle.ds_state.specs.Known.{word_of}
use Rattle.ds_state.specs.Owing.{entry}
use Rattle.ds_state.specs.KnownWork.{WorkHeld, claim, a_mark, the_value, both_words, the_kind, work_held, WorkHolds}
use Rattle.ds_state.specs.KnownWork as works
use Rattle.ds_state.specs.KnownRecovery as recoveries
use Rattle.ds_state.specs.KnownRecovery.{RecoveryHeld, RecoveryHolds, recovery_held}
use Rattle.ds_state.specs.CallsFit.{Held, empty, record_words, announcing_word, row_bits, done_bits, head_from, mark, held_at, record_entry, Holds, CallFits, MigrationHolds}
use Rattle.ds_state.specs.Works.{PlainMigrateCall, new_text}
use Rattle.ds_state.specs.declared.migration.MigrateStage.{MigrateStage}
use Rattle.ds_state.specs.declared.migration.MigrateStage.TheVariants.{LoadVersion, LoadOld, StoreNew, FlushNew, BackNew, Swap, FlushVersion, BackVersion, Answer}
use Rattle.ds_state.specs.Sound.{IsSound}
use Rattle.ds_state.specs.declared.situation.Situation.{Situation}
use Rattle.ds_state.specs.declared.situation.Situation.TheVariants.{Idle, Stopped, Editing, Working, Recovering, Showing, Migrating}
use Rattle.ds_state.proofs.Bearing.{Buffered}
use Rattle.ds_layout.specs.declared.place.Edition.{Edition}

-- nothing is in an empty buffer
pub none : {b : List (BufferEntry Place)} (e : BufferEntry Place) → b ≡ [] → Contains b e → ⊥
none e is h = nothing (subst (λ (xs : List (BufferEntry Place)). Contains xs e) is h)
  where
    nothing : Contains [] e → ⊥
    nothing (k, l, same) = omega arith

one : {b : List (BufferEntry Place)} (x e : BufferEntry Place) → b ≡ x ∷ [] → Contains b e → x ≡ e
one x e is h = only (subst (λ (xs : List (BufferEntry Place)). Contains xs e) is h)
  where
    only : Contains (x ∷ []) e → x ≡ e
    only (zero, l, same) = same
    only (suc k, l, same) = absurd (omega arith)

-- a buffer with one entry, of another word, has no mark of the cell
pub not_mark : {b : List (BufferEntry Place)} (r : Place) (v c x : ℕ) → r ≢ Mark c → b ≡ entry r v ∷ [] → Contains b (entry (Mark c) x) → ⊥
not_mark r v c x apart is h = apart (ap (λ (y : BufferEntry Place). y.place) (one (entry r v) (entry (Mark c) x) is h))

a_mark_is : {b : List (BufferEntry Place)} (w : PlainWorld) (d v c x : ℕ) → v ≤ w.memory.cached (Mark d) → b ≡ entry (Mark d) v ∷ [] → Contains b (entry (Mark c) x) → x ≤ w.memory.cached (Mark c)
a_mark_is w d v c x had is h =
    let same : entry (Mark d) v ≡ entry (Mark c) x = one (entry (Mark d) v) (entry (Mark c) x) is h in
    let at : Mark d ≡ Mark c = ap (λ (y : BufferEntry Place). y.place) same in
    let value : v ≡ x = ap (λ (y : BufferEntry Place). y.value) same in
    let eq = ap (λ (y : Place). w.memory.cached y) at in
    omega arith

-- no word of a record is a mark
pub record_no_mark : (edition : Edition) (p n k c : ℕ) → record_place edition p n k ≢ Mark c
record_no_mark edition p n zero c = λ same. cc
record_no_mark edition p n (suc k) c = λ same. cc

holds_had : (w : PlainWorld) (edition : Edition) (e : PlainEdit) (held : Held) (c x : ℕ) → Holds w edition e held → Contains (w.memory.buffer e.process) (entry (Mark c) x) → x ≤ w.memory.cached (Mark c)
holds_had w edition e empty c x h k = absurd (none (entry (Mark c) x) h k)
holds_had w edition e (record_words first count) c x h k = absurd (
    All-contains (λ (y : BufferEntry Place). y.place ≢ Mark c) (map (record_entry edition e) (range_with_len first count)) (entry (Mark c) x)
    (All-map (λ (y : BufferEntry Place). y.place ≢ Mark c) (record_entry edition e) (range_with_len first count) (λ i d l. record_no_mark edition e.process e.number _ c))
    (subst (λ (xs : List (BufferEntry Place)). Contains xs (entry (Mark c) x)) h k) refl)
holds_had w edition e (announcing_word a) c x h k = absurd (not_mark (Announce e.process) (word_of w e a) c x (λ same. cc) h k)
holds_had w edition e (row_bits row) c x h k = absurd (not_mark (index_place row e.cell) h.value c x (λ same. cc) h.alone k)
holds_had w edition e (done_bits p n) c x h k = absurd (not_mark (done_place p n) h.value c x (λ same. cc) h.alone k)
holds_had w edition e (head_from least) c x h k = absurd (not_mark (Head e.cell) h.value c x (λ same. cc) h.alone k)
holds_had w edition e mark c x h k = a_mark_is w e.cell h.value c x h.is.0 h.alone k

work_had : (w : PlainWorld) (e : PlainWorkCall) (held : WorkHeld) (c x : ℕ) → WorkHolds w e held → Contains (w.memory.buffer e.process) (entry (Mark c) x) → x ≤ w.memory.cached (Mark c)
work_had w e works.empty c x h k = absurd (none (entry (Mark c) x) h k)
work_had w e claim c x h k = a_mark_is w e.cell h.value c x h.had h.alone k
work_had w e (a_mark d) c x h k = a_mark_is w d h.value c x h.had h.alone k
work_had w e the_value c x h k = absurd (not_mark (Value e.cell) _ c x (λ same. cc) h k)
work_had w e both_words c x h k = absurd (two (subst (λ (xs : List (BufferEntry Place)). Contains xs (entry (Mark c) x)) h k))
  where
    two : Contains (works.value_entry e ∷ works.kind_entry e ∷ []) (entry (Mark c) x) → ⊥
    two (zero, l, same) = let p : Value e.cell ≡ Mark c = ap (λ (y : BufferEntry Place). y.place) same in cc
    two (suc zero, l, same) = let p : Kind e.cell ≡ Mark c = ap (λ (y : BufferEntry Place). y.place) same in cc
    two (suc (suc i), l, same) = omega arith
work_had w e the_kind c x h k = absurd (not_mark (Kind e.cell) _ c x (λ same. cc) h k)

recovery_had : (w : PlainWorld) (p word own : ℕ) (held : RecoveryHeld) (c x : ℕ) → RecoveryHolds w p word own held → Contains (w.memory.buffer p) (entry (Mark c) x) → x ≤ w.memory.cached (Mark c)
recovery_had w p word own recoveries.empty c x h k = absurd (none (entry (Mark c) x) h k)
recovery_had w p word own (recoveries.the_value cell) c x h k = absurd (not_mark (Value cell) _ c x (λ same. cc) h k)
recovery_had w p word own (recoveries.both_words cell) c x h k = absurd (two (subst (λ (xs : List (BufferEntry Place)). Contains xs (entry (Mark c) x)) h k))
  where
    two : Contains (recoveries.value_now w cell ∷ recoveries.kind_now w cell ∷ []) (entry (Mark c) x) → ⊥
    two (zero, l, same) = let p : Value cell ≡ Mark c = ap (λ (y : BufferEntry Place). y.place) same in cc
    two (suc zero, l, same) = let p : Kind cell ≡ Mark c = ap (λ (y : BufferEntry Place). y.place) same in cc
    two (suc (suc i), l, same) = omega arith
recovery_had w p word own (recoveries.the_kind cell) c x h k = absurd (not_mark (Kind cell) _ c x (λ same. cc) h k)
recovery_had w p word own (recoveries.a_mark d) c x h k = a_mark_is w d h.value c x h.had h.alone k
recovery_had w p word own recoveries.a_head c x h k = absurd (not_mark (Head own) h.value c x (λ same. cc) h.alone k)
recovery_had w p word own recoveries.the_version c x h k = absurd (not_mark Version h.value c x (λ same. cc) h.alone k)
recovery_had w p word own recoveries.the_outcome c x h k = absurd (not_mark (Announce p) _ c x (λ same. cc) h k)

migration_had : (w : PlainWorld) (p : ℕ) (e : PlainMigrateCall) (s : MigrateStage) (c x : ℕ) → MigrationHolds w p e s → Contains (w.memory.buffer p) (entry (Mark c) x) → x ≤ w.memory.cached (Mark c)
migration_had w p e (BackNew at) c x h k = absurd (not_mark (new_text at) _ c x (λ same. cc) h k)
migration_had w p e (BackVersion how) c x h k = absurd (not_mark Version _ c x (λ same. cc) h k)
migration_had w p e LoadVersion c x h k = absurd (none (entry (Mark c) x) h k)
migration_had w p e (LoadOld at) c x h k = absurd (none (entry (Mark c) x) h k)
migration_had w p e (StoreNew at) c x h k = absurd (none (entry (Mark c) x) h k)
migration_had w p e (FlushNew at) c x h k = absurd (none (entry (Mark c) x) h k)
migration_had w p e Swap c x h k = absurd (none (entry (Mark c) x) h k)
migration_had w p e (FlushVersion how) c x h k = absurd (none (entry (Mark c) x) h k)
migration_had w p e (Answer how) c x h k = absurd (none (entry (Mark c) x) h k)

call_had : (w : PlainWorld) (p : ℕ) (s : Situation) (c x : ℕ) → CallFits w p s → Contains (w.memory.buffer p) (entry (Mark c) x) → x ≤ w.memory.cached (Mark c)
call_had w p (Idle next) c x h k = absurd (none (entry (Mark c) x) h.buffer k)
call_had w p Stopped c x h k = absurd (none (entry (Mark c) x) h.buffer k)
call_had w p (Editing e) c x h k = holds_had w e.edition (edit_of e) (held_at (text_parts e.text) e.refs e.stage) c x h.buffer (subst (λ (q : ℕ). Contains (w.memory.buffer q) (entry (Mark c) x)) (sym h.mine) k)
call_had w p (Working e) c x h k = work_had w e (work_held e e.stage) c x h.buffer (subst (λ (q : ℕ). Contains (w.memory.buffer q) (entry (Mark c) x)) (sym h.mine) k)
call_had w p (Recovering e) c x h k = recovery_had w e.process e.announcement e.cell (recovery_held e.cell e.stage) c x h.buffer (subst (λ (q : ℕ). Contains (w.memory.buffer q) (entry (Mark c) x)) (sym h.mine) k)
call_had w p (Showing e) c x h k = absurd (none (entry (Mark c) x) h.1.buffer (subst (λ (q : ℕ). Contains (w.memory.buffer q) (entry (Mark c) x)) (sym h.1.mine) k))
call_had w p (Migrating e) c x h k = migration_had w p e e.stage c x h.buffer k

-- in a sound world each mark in a buffer is one that its cell has had
pub buffered : (w : PlainWorld) → IsSound w → Buffered w
buffered w sound = record { had = λ q c x l k. call_had w q (w.situation q) c x (sound.calls q l) k }
