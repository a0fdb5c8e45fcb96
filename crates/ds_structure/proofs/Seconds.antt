-- The second layout stays: no step of a call lessens the persisted side of the version's word.
use Rattle.std.proofs.Common.{ℕ, ◌≡◌, ◌<◌, ◌≤◌, ◌+◌, List, [], ◌∷◌, refl, sym, ap, subst, ◌∙◌, inl, inr, arith, zero, suc, max}
use Rattle.std.specs.Prelude.{map}
use Rattle.std.specs.List.{range_with_len}
use Rattle.ds_words.specs.declared.access.Class.{Class}
use Rattle.ds_words.specs.declared.access.Class.TheVariants.{Stamped}
use Rattle.ds_words.specs.declared.access.BufferEntry.{BufferEntry}
use Rattle.ds_words.specs.declared.access.Access.{Access}
use Rattle.ds_words.specs.declared.access.Access.TheVariants.{Nothing, Load, Store, Or, SwapIf, Flush, Back}
use Rattle.ds_words.specs.Memory.{Memory, newer, WritesBack}
use Rattle.ds_layout.specs.declared.place.Edition.{Edition}
use Rattle.ds_layout.specs.declared.place.Edition.TheVariants.{Second}
use Rattle.ds_layout.specs.declared.place.Place.{Place}
use Rattle.ds_layout.specs.declared.place.Place.TheVariants.{Version, Announce, Head, Mark, Value, Kind}
use Rattle.ds_layout.specs.Places.{class_of, edition_of}
use Rattle.ds_layout.specs.SheetMemory.{PerformsAt}
use Rattle.ds_layout.proofs.PlaceCases.{place_cases}
use Rattle.ds_state.specs.Editions.{Agrees}
use Rattle.ds_state.specs.Edits.{text_parts}
use Rattle.ds_state.specs.Works.{PlainWorkCall, PlainMigrateCall, new_text}
use Rattle.ds_state.specs.World.{PlainEdit, PlainWorld, edit_of, record_place, record_word, index_place, done_place}
use Rattle.ds_state.specs.Known.{word_of}
use Rattle.ds_state.specs.Owing.{entry}
use Rattle.ds_state.specs.KnownWork as works
use Rattle.ds_state.specs.KnownWork.{WorkHeld, WorkHolds, work_held}
use Rattle.ds_state.specs.KnownRecovery as recoveries
use Rattle.ds_state.specs.KnownRecovery.{RecoveryHeld, RecoveryHolds, recovery_held}
use Rattle.ds_state.specs.CallsFit.{Held, empty, record_words, announcing_word, row_bits, done_bits, head_from, mark, held_at, record_entry, Holds, CallFits, MigrationHolds}
use Rattle.ds_state.specs.Sound.{IsSound}
use Rattle.ds_state.specs.declared.migration.MigrateStage.{MigrateStage}
use Rattle.ds_state.specs.declared.migration.MigrateStage.TheVariants.{LoadVersion, LoadOld, StoreNew, FlushNew, BackNew, Swap, FlushVersion, BackVersion, Answer}
use Rattle.ds_state.specs.declared.situation.Situation.{Situation}
use Rattle.ds_state.specs.declared.situation.Situation.TheVariants.{Idle, Stopped, Editing, Working, Recovering, Showing, Migrating}
use Rattle.ds_structure.specs.Sheet.{IsSecond}

-- ---- the oldest entry of a buffer has the class of its word

abbrev HasClass : BufferEntry Place → Type 0
HasClass x = x.class ≡ class_of x.place

none : {b : List (BufferEntry Place)} (x : BufferEntry Place) (rest : List (BufferEntry Place)) → b ≡ x ∷ rest → b ≡ [] → HasClass x
none x rest at is = absurd (let bad : x ∷ rest ≡ [] = sym at ∙ is in cc)

one : {b : List (BufferEntry Place)} (x : BufferEntry Place) (rest : List (BufferEntry Place)) (r : Place) (v : ℕ) (more : List (BufferEntry Place)) → b ≡ x ∷ rest → b ≡ entry r v ∷ more → HasClass x
one x rest r v more at is =
    let both : x ∷ rest ≡ entry r v ∷ more = sym at ∙ is in
    let same : x ≡ entry r v = cc in
    subst HasClass (sym same) refl

records : (edition : Edition) (e : PlainEdit) (first count : ℕ) {b : List (BufferEntry Place)} (x : BufferEntry Place) (rest : List (BufferEntry Place)) → b ≡ x ∷ rest → b ≡ map (record_entry edition e) (range_with_len first count) → HasClass x
records edition e first zero x rest at is = none x rest at is
records edition e first (suc n) x rest at is = one x rest (record_place edition e.process e.number first) (record_word e first) (map (record_entry edition e) (range_with_len (first + 1) n)) at is

in_edit : (w : PlainWorld) (edition : Edition) (e : PlainEdit) (held : Held) (x : BufferEntry Place) (rest : List (BufferEntry Place)) → Holds w edition e held → w.memory.buffer e.process ≡ x ∷ rest → HasClass x
in_edit w edition e empty x rest h at = none x rest at h
in_edit w edition e (record_words first count) x rest h at = records edition e first count x rest at h
in_edit w edition e (announcing_word a) x rest h at = one x rest (Announce e.process) (word_of w e a) [] at h
in_edit w edition e (row_bits row) x rest h at = one x rest (index_place row e.cell) h.value [] at h.alone
in_edit w edition e (done_bits p n) x rest h at = one x rest (done_place p n) h.value [] at h.alone
in_edit w edition e (head_from least) x rest h at = one x rest (Head e.cell) h.value [] at h.alone
in_edit w edition e mark x rest h at = one x rest (Mark e.cell) h.value [] at h.alone

in_work : (w : PlainWorld) (e : PlainWorkCall) (held : WorkHeld) (x : BufferEntry Place) (rest : List (BufferEntry Place)) → WorkHolds w e held → w.memory.buffer e.process ≡ x ∷ rest → HasClass x
in_work w e works.empty x rest h at = none x rest at h
in_work w e works.claim x rest h at = one x rest (Mark e.cell) h.value [] at h.alone
in_work w e (works.a_mark d) x rest h at = one x rest (Mark d) h.value [] at h.alone
in_work w e works.the_value x rest h at = one x rest (Value e.cell) _ [] at h
in_work w e works.both_words x rest h at = one x rest (Value e.cell) _ (works.kind_entry e ∷ []) at h
in_work w e works.the_kind x rest h at = one x rest (Kind e.cell) _ [] at h

in_recovery : (w : PlainWorld) (p word own : ℕ) (held : RecoveryHeld) (x : BufferEntry Place) (rest : List (BufferEntry Place)) → RecoveryHolds w p word own held → w.memory.buffer p ≡ x ∷ rest → HasClass x
in_recovery w p word own recoveries.empty x rest h at = none x rest at h
in_recovery w p word own (recoveries.the_value cell) x rest h at = one x rest (Value cell) _ [] at h
in_recovery w p word own (recoveries.both_words cell) x rest h at = one x rest (Value cell) _ (recoveries.kind_now w cell ∷ []) at h
in_recovery w p word own (recoveries.the_kind cell) x rest h at = one x rest (Kind cell) _ [] at h
in_recovery w p word own (recoveries.a_mark d) x rest h at = one x rest (Mark d) h.value [] at h.alone
in_recovery w p word own recoveries.a_head x rest h at = one x rest (Head own) h.value [] at h.alone
in_recovery w p word own recoveries.the_version x rest h at = one x rest Version h.value [] at h.alone
in_recovery w p word own recoveries.the_outcome x rest h at = one x rest (Announce p) _ [] at h

in_migration : (w : PlainWorld) (p : ℕ) (e : PlainMigrateCall) (s : MigrateStage) (x : BufferEntry Place) (rest : List (BufferEntry Place)) → MigrationHolds w p e s → w.memory.buffer p ≡ x ∷ rest → HasClass x
in_migration w p e (BackNew k) x rest h at = one x rest (new_text k) _ [] at h
in_migration w p e (BackVersion how) x rest h at = one x rest Version 1 [] at h
in_migration w p e LoadVersion x rest h at = none x rest at h
in_migration w p e (LoadOld k) x rest h at = none x rest at h
in_migration w p e (StoreNew k) x rest h at = none x rest at h
in_migration w p e (FlushNew k) x rest h at = none x rest at h
in_migration w p e Swap x rest h at = none x rest at h
in_migration w p e (FlushVersion how) x rest h at = none x rest at h
in_migration w p e (Answer how) x rest h at = none x rest at h

in_call : (w : PlainWorld) (p : ℕ) (s : Situation) (x : BufferEntry Place) (rest : List (BufferEntry Place)) → CallFits w p s → w.memory.buffer p ≡ x ∷ rest → HasClass x
in_call w p (Idle next) x rest h at = none x rest at h.buffer
in_call w p Stopped x rest h at = none x rest at h.buffer
in_call w p (Editing e) x rest h at = in_edit w e.edition (edit_of e) (held_at (text_parts e.text) e.refs e.stage) x rest h.buffer (ap w.memory.buffer h.mine ∙ at)
in_call w p (Working e) x rest h at = in_work w e (work_held e e.stage) x rest h.buffer (ap w.memory.buffer h.mine ∙ at)
in_call w p (Recovering e) x rest h at = in_recovery w e.process e.announcement e.cell (recovery_held e.cell e.stage) x rest h.buffer (ap w.memory.buffer h.mine ∙ at)
in_call w p (Showing e) x rest h at = none x rest (ap w.memory.buffer h.1.mine ∙ at) h.1.buffer
in_call w p (Migrating e) x rest h at = in_migration w p e e.stage x rest h.buffer at

-- ---- the persisted side of the version's word grows

alike : (a b : ℕ) → b ≡ a → a ≤ b
alike a b is = omega arith

upper : (a b : ℕ) → a ≤ max a b
upper a b = grind arith

-- a stamped word that is written back
stamped : (c : Class) (old value new : ℕ) → c ≡ Stamped → new ≡ newer c old value → old ≤ new
stamped c old value new is there =
    let most : new ≡ max old value = there ∙ ap (λ (k : Class). newer k old value) is in
    let l = upper old value in
    omega (arith, most, l)

written_back : (p : ℕ) (x : BufferEntry Place) (rest : List (BufferEntry Place)) (old new : Memory Place) → HasClass x → WritesBack p x rest old new → old.persisted Version ≤ new.persisted Version
written_back p x rest old new class b = elim (place_cases Version x.place) [
  | inr ne ↦ alike (old.persisted Version) (new.persisted Version) (b.elsewhere Version ne)
  | inl at ↦ subst (λ (r : Place). old.persisted r ≤ new.persisted r) (sym at) (stamped x.class (old.persisted x.place) x.value (new.persisted x.place) (class ∙ ap class_of (sym at)) b.there)
]

-- in a sound world no access lessens the persisted side of the version's word
pub version_grows : (w : PlainWorld) (m : Memory Place) (p : ℕ) (a : Access Place) (word : ℕ) → IsSound w → p < w.layout.processes → PerformsAt a p w.memory m word → w.memory.persisted Version ≤ m.persisted Version
version_grows w m p Nothing word sound low t = alike (w.memory.persisted Version) (m.persisted Version) (t.1.persisted Version)
version_grows w m p (Load r) word sound low t = alike (w.memory.persisted Version) (m.persisted Version) (t.1.persisted Version)
version_grows w m p (Store r v) word sound low t = alike (w.memory.persisted Version) (m.persisted Version) (t.1.persisted Version)
version_grows w m p (Or r k) word sound low t = alike (w.memory.persisted Version) (m.persisted Version) (t.1.persisted Version)
version_grows w m p (SwapIf r o v) word sound low t = elim t.1 [
  | inl won ↦ alike (w.memory.persisted Version) (m.persisted Version) (won.1.persisted Version)
  | inr lost ↦ alike (w.memory.persisted Version) (m.persisted Version) (lost.1.persisted Version)
]
version_grows w m p (Flush r) word sound low t = alike (w.memory.persisted Version) (m.persisted Version) (t.1.persisted Version)
version_grows w m p Back word sound low t = written_back p t.1.0 t.1.1 w.memory m (in_call w p (w.situation p) t.1.0 t.1.1 (sound.calls p low) t.1.2.oldest) t.1.2

-- ---- what both sides of the version's word say

-- in a sound world the persisted side of the version's word says all
pub both_one : (w : PlainWorld) (before : ℕ) → IsSound w → before ≡ 1 → before ≤ w.memory.persisted Version → (w.memory.cached Version ≡ 1) × (w.memory.persisted Version ≡ 1)
both_one w before sound is grows =
    let fit = sound.words Version in
    let behind = fit.behind in
    let most = fit.most in
    (omega (arith, is, grows, behind, most), omega (arith, is, grows, behind, most))

-- a process that has noted what both sides say has noted the second layout
pub noted_second : (w : PlainWorld) (edition : Edition) → IsSecond w → Agrees w.memory edition → edition ≡ Second
noted_second w edition second agrees = sym agrees.cached ∙ ap edition_of second.cached
