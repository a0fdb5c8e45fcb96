-- Each step of a migration keeps a world sound, and what the others rely on.
use Rattle.std.proofs.Common.{ℕ, ◌≡◌, ◌≢◌, ◌<◌, ◌≤◌, ◌+◌, ◌-◌, ◌*◌, ◌==◌, nat_lt, Bool, true, false, List, [], ◌∷◌, ◌++◌, refl, ap, sym, ◌∙◌, subst, arith, inl, inr, suc, max}
use Rattle.std.specs.Prelude.{Contains, Option, if◌then◌else◌}
use Rattle.std.proofs.lemmas.Bool.{cases_eq, ltb-true, ltb-false}
use Rattle.std.proofs.lemmas.Bool.Decides.{eqb_tells}
use Rattle.std.proofs.lemmas.List.Elements.{All-contains}
use Rattle.ds_words.specs.declared.access.BufferEntry.{BufferEntry}
use Rattle.ds_words.specs.Memory.{Memory, SameMemory, StoresAt, FlushesAt, WritesBack}
use Rattle.ds_layout.specs.declared.place.TheConstants.{RECORDS, FIRST_PARTS}
use Rattle.ds_layout.specs.declared.place.Edition.TheVariants.{First, Second}
use Rattle.ds_layout.specs.declared.place.Place.{Place}
use Rattle.ds_layout.specs.declared.place.Place.TheVariants.{Version, Head, Mark, Value, Kind, Announce, Header, Text}
use Rattle.ds_layout.specs.declared.layout.Layout.{Layout}
use Rattle.ds_layout.specs.Places.{class_of, edition_of, first_text}
use Rattle.ds_layout.proofs.Places.{first_text_at}
use Rattle.ds_state.specs.Editions.{Shows, Agrees}
use Rattle.ds_state.specs.World.{PlainEdit, PlainIssue, PlainWorld, of_cell, head_after_all, record_word}
use Rattle.ds_state.specs.Works.{PlainMigrateCall, IsCopied, old_words, new_text}
use Rattle.ds_state.specs.Owing.{entry, IsHeld, Owes, Parts, IsPending, Excuses, Splits, RecoveryOwes, RecoveryParts, RecoveryExcuses, RecoverySplits}
use Rattle.ds_state.specs.declared.recovery.RecoverStage.{RecoverStage}
use Rattle.ds_state.specs.declared.recovery.RecoverStage.TheVariants as recoveries
use Rattle.ds_state.specs.CallsFit.{CallFits, DoubtFits, MigrationHolds, MigrationFits}
use Rattle.ds_state.specs.WordsFit.{VersionFits, WordFits, RecordFits}
use Rattle.ds_state.specs.LayoutsFit.{Copies, Copying, MovesAt, OthersStopped, MovesFit, LayoutFits, IsMoving, NoneMoves}
use Rattle.ds_recover.specs.MigrationSteps.{at, rank, copy_from, next_at, StepsAt, BeginsMigration, fresh}
use Rattle.ds_state.specs.Rely.{Keeps}
use Rattle.ds_state.specs.Sound.{IsSound, IsOfSheet}
use Rattle.ds_state.specs.declared.migration.MigrateEnd.TheVariants.{Migrated, Already}
use Rattle.ds_state.specs.declared.migration.MigrateStage.{MigrateStage}
use Rattle.ds_state.specs.declared.migration.MigrateStage.TheVariants.{LoadVersion, LoadOld, StoreNew, FlushNew, BackNew, Swap, FlushVersion, BackVersion, Answer}
use Rattle.ds_state.specs.declared.situation.Situation.{Situation}
use Rattle.ds_state.specs.declared.situation.Situation.TheVariants.{Idle, Stopped, Editing, Working, Recovering, Showing, Migrating}
use Rattle.ds_state.proofs.Stable.{doubt_grows}
use Rattle.ds_state.proofs.Frames.{CatchesUp, Moves, Goes, turns, NewTexts, Switches, MovesVersion, KeepsOwing, KeepsApart, grows_own, shown_back, agrees_on, version_word, moves_sound}
use Rattle.ds_state.proofs.Bearing.{Mine, MyMarks, bears, all_stand, no_new_marks, text_same, splits_last, pends_last, marks_grow, apart_lasts}
use Rattle.ds_state.proofs.Buffers.{buffered, none, not_mark}

-- the first stages of a recovery, up to its look at a mark
abbrev pub IsWaking : RecoverStage → Type 0
IsWaking recoveries.LoadVersion = Unit {0}
IsWaking recoveries.FlushVersion = Unit {0}
IsWaking recoveries.BackVersion = Unit {0}
IsWaking (recoveries.LoadMark cell) = Unit {0}
IsWaking _ = ⊥

-- a process that is stopped, migrates, or has only begun to recover
abbrev pub IsHalted : Situation → Type 0
IsHalted (Idle next) = ⊥
IsHalted Stopped = Unit {0}
IsHalted (Editing e) = ⊥
IsHalted (Working e) = ⊥
IsHalted (Recovering e) = IsWaking e.stage
IsHalted (Showing e) = ⊥
IsHalted (Migrating e) = Unit {0}

-- the words that a migration moves
abbrev pub IsAway : Place → Type 0
IsAway Version = Unit {0}
IsAway (Text edition q n part) = Unit {0}
IsAway _ = ⊥

waking_owes : (m : Memory Place) (p : ℕ) (row : List ℕ) (s : RecoverStage) (r c x : ℕ) → IsWaking s → RecoveryOwes m p row s r c x
waking_owes m p row recoveries.LoadVersion r c x h = tt
waking_owes m p row recoveries.FlushVersion r c x h = tt
waking_owes m p row recoveries.BackVersion r c x h = tt
waking_owes m p row (recoveries.LoadMark cell) r c x h = tt
waking_owes m p row _ r c x h = absurd h

waking_parts : (s : RecoverStage) (r : ℕ) → IsWaking s → RecoveryParts s r
waking_parts recoveries.LoadVersion r h = tt
waking_parts recoveries.FlushVersion r h = tt
waking_parts recoveries.BackVersion r h = tt
waking_parts (recoveries.LoadMark cell) r h = tt
waking_parts _ r h = absurd h

waking_excuses : (m : Memory Place) (p c : ℕ) (s : RecoverStage) (x : ℕ) → IsWaking s → RecoveryExcuses m p c s x
waking_excuses m p c recoveries.LoadVersion x h = tt
waking_excuses m p c recoveries.FlushVersion x h = tt
waking_excuses m p c recoveries.BackVersion x h = tt
waking_excuses m p c (recoveries.LoadMark cell) x h = tt
waking_excuses m p c _ x h = absurd h

waking_splits : (s : RecoverStage) → IsWaking s → RecoverySplits s
waking_splits recoveries.LoadVersion h = tt
waking_splits recoveries.FlushVersion h = tt
waking_splits recoveries.BackVersion h = tt
waking_splits (recoveries.LoadMark cell) h = tt
waking_splits _ h = absurd h

owes_halted : (m : Memory Place) (p : ℕ) (s : Situation) (r c x : ℕ) → IsHalted s → Owes m p s r c x
owes_halted m p Stopped r c x h = tt
owes_halted m p (Migrating e) r c x h = tt
owes_halted m p (Idle next) r c x h = absurd h
owes_halted m p (Editing e) r c x h = absurd h
owes_halted m p (Working e) r c x h = absurd h
owes_halted m p (Recovering e) r c x h = waking_owes m p e.row e.stage r c x h
owes_halted m p (Showing e) r c x h = absurd h

parts_halted : (s : Situation) (r : ℕ) → IsHalted s → Parts s r
parts_halted Stopped r h = tt
parts_halted (Migrating e) r h = tt
parts_halted (Idle next) r h = absurd h
parts_halted (Editing e) r h = absurd h
parts_halted (Working e) r h = absurd h
parts_halted (Recovering e) r h = waking_parts e.stage r h
parts_halted (Showing e) r h = absurd h

pends_halted : (w : PlainWorld) (p : ℕ) (s : Situation) (c x : ℕ) → IsHalted s → Excuses w p s c x → IsPending w p c
pends_halted w p Stopped c x h o = o
pends_halted w p (Migrating e) c x h o = o
pends_halted w p (Idle next) c x h o = absurd h
pends_halted w p (Editing e) c x h o = absurd h
pends_halted w p (Working e) c x h o = absurd h
pends_halted w p (Recovering e) c x h o = o.0
pends_halted w p (Showing e) c x h o = absurd h

excuses_halted : (w : PlainWorld) (p : ℕ) (s : Situation) (c x : ℕ) → IsHalted s → IsPending w p c → Excuses w p s c x
excuses_halted w p Stopped c x h o = o
excuses_halted w p (Migrating e) c x h o = o
excuses_halted w p (Idle next) c x h o = absurd h
excuses_halted w p (Editing e) c x h o = absurd h
excuses_halted w p (Working e) c x h o = absurd h
excuses_halted w p (Recovering e) c x h o = (o, waking_excuses w.memory p c e.stage x h)
excuses_halted w p (Showing e) c x h o = absurd h

split_pends : (w : PlainWorld) (p : ℕ) (s : Situation) (c head : ℕ) → IsHalted s → Splits w p s c head → IsPending w p c
split_pends w p Stopped c head h o = o
split_pends w p (Migrating e) c head h o = o
split_pends w p (Idle next) c head h o = absurd h
split_pends w p (Editing e) c head h o = absurd h
split_pends w p (Working e) c head h o = absurd h
split_pends w p (Recovering e) c head h o = o.0
split_pends w p (Showing e) c head h o = absurd h

splits_halted : (w : PlainWorld) (p : ℕ) (s : Situation) (c head : ℕ) → IsHalted s → IsPending w p c → Splits w p s c head
splits_halted w p Stopped c head h o = o
splits_halted w p (Migrating e) c head h o = o
splits_halted w p (Idle next) c head h o = absurd h
splits_halted w p (Editing e) c head h o = absurd h
splits_halted w p (Working e) c head h o = absurd h
splits_halted w p (Recovering e) c head h o = (o, waking_splits e.stage h)
splits_halted w p (Showing e) c head h o = absurd h

away_from : (place r : Place) → IsAway place → (IsAway r → ⊥) → r ≢ place
away_from place r away not same = not (subst (λ (x : Place). IsAway x) (sym same) away)

-- a halted process whose word is the version's or a text's
module _ (p : ℕ) (place : Place) (old new : PlainWorld) (m : Moves p place old new) (same : new.counted ≡ old.counted) (sound : IsSound old) (real : p < old.layout.processes) (away : IsAway place)
    (was : IsHalted (old.situation p)) (now : IsHalted (new.situation p)) (pend : new.open_edits p ≡ old.open_edits p)
    (clear : (c x : ℕ) → Contains (new.memory.buffer p) (entry (Mark c) x) → ⊥) where
  pends : (c : ℕ) → IsPending old p c → IsPending new p c
  pends c k = record {
    issue = k.issue;
    issued = pend ∙ k.issued;
    cell = k.cell;
    cached = m.cached (Announce p) (away_from place (Announce p) away (λ x. x)) ∙ k.cached;
    persisted = m.persisted (Announce p) (away_from place (Announce p) away (λ x. x)) ∙ k.persisted;
  }

  held : (r : ℕ) → IsHeld old.memory p r → IsHeld new.memory p r
  held r h =
      let a = m.cached (Mark r) (away_from place (Mark r) away (λ x. x)) in
      let b = m.persisted (Mark r) (away_from place (Mark r) away (λ x. x)) in
      let by = h.by in
      let s = h.same in
      record { by = omega arith; same = omega arith }

  mine : Mine p place old new m
  mine = record {
    owes = λ r c x bit matters h o. record { holder = p; held = held r h; still = owes_halted new.memory p (new.situation p) r c x now };
    excuses = λ l c x matters o. record { process = p; inside = subst (λ (lay : Layout). p < lay.processes) (sym m.layout) real; still = excuses_halted new p (new.situation p) c x now (pends c (pends_halted old p (old.situation p) c x was o)) };
    stored = λ r its. absurd (elim its [ inl is ↦ away_from place (Value r) away (λ x. x) (sym is) | inr is ↦ away_from place (Kind r) away (λ x. x) (sym is) ]);
    holds = λ r its. absurd (elim its [ inl is ↦ away_from place (Value r) away (λ x. x) (sym is) | inr is ↦ away_from place (Kind r) away (λ x. x) (sym is) ]);
    cached_heads = λ c is. absurd (away_from place (Head c) away (λ x. x) (sym is));
    persisted_heads = λ c is. absurd (away_from place (Head c) away (λ x. x) (sym is));
  }

  marks : MyMarks p place old new m
  marks = no_new_marks p place old new m (λ c is. away_from place (Mark c) away (λ x. x) (sym is)) (λ c x q h. elim (cases_eq q p) [
    | inr ne ↦ subst (λ (xs : List (BufferEntry Place)). Contains xs (entry (Mark c) x)) (m.buffers q ne) h
    | inl eq ↦ absurd (clear c x (subst (λ (y : ℕ). Contains (new.memory.buffer y) (entry (Mark c) x)) eq h))
  ])

  apart : KeepsApart old new
  apart cell a = inl (elim (cases_eq a.holder p) [
    | inr ne ↦ apart_lasts p place old new m cell a ne
    | inl eq ↦ record { holder = p; held = held cell (subst (λ (q : ℕ). IsHeld old.memory q cell) eq a.held); still = parts_halted (new.situation p) cell now }
  ])

  keeps : (cell : ℕ) → KeepsOwing old new cell
  keeps cell f issue its is sameness before last_of owes = elim (cases_eq f.process p) [
    | inl eq ↦ (
        let was' : Splits old p (old.situation p) f.cell (head_after_all (of_cell cell old.counted)) = subst (λ (q : ℕ). Splits old q (old.situation q) f.cell (head_after_all (of_cell cell old.counted))) eq owes in
        let now' : Splits new p (new.situation p) f.cell (head_after_all (of_cell cell old.counted)) = splits_halted new p (new.situation p) f.cell _ now (pends f.cell (split_pends old p (old.situation p) f.cell _ was was')) in (
          subst (λ (q : ℕ). new.open_edits q ≡ old.open_edits q) (sym eq) pend ∙ is,
          subst (λ (q : ℕ). Splits new q (new.situation q) f.cell (head_after_all (of_cell cell old.counted))) (sym eq) now',
        ))
    | inr ne ↦ (
      m.pendings f.process ne ∙ is,
      subst (λ (s : Situation). Splits new f.process s f.cell (head_after_all (of_cell cell old.counted))) (sym (m.situations f.process ne))
          (splits_last old new f.process (λ c. marks_grow p place old new m c) (m.buffers f.process ne) (λ c k. pends_last p place old new m f.process c ne k) (old.situation f.process) f.cell _ owes),
    )
  ]

  -- how its edit is in doubt stays
  pub doubt_on : DoubtFits old p (old.open_edits p) → DoubtFits new p (new.open_edits p)
  doubt_on h = subst (λ (o : Option PlainIssue). DoubtFits new p o) (sym pend)
      (doubt_grows place old new p (grows_own p place old new m same) pend (away_from place (Announce p) away (λ x. x)) (λ n. away_from place (Header p n) away (λ x. x)) (old.open_edits p) h)

  pub halted_keeps : WordFits new place (new.memory.cached place) (new.memory.persisted place) → CallFits new p (new.situation p) → Keeps p old new
  halted_keeps here fits = moves_sound p place old new m same sound (bears p place old new m sound mine)
      (all_stand p place old new m sound (buffered old sound) mine (text_same old new m.layout same) marks) apart (λ cell ne. keeps cell) here (λ l. fits)

-- the numbers of layouts
first_zero : (n : ℕ) → edition_of n ≡ First → n ≡ 0
first_zero n is = elim (eqb_tells n 0) [
  | inl same ↦ same.1
  | inr other ↦ absurd (let second : edition_of n ≡ Second = ap (λ (b : Bool). if b then First else Second) other.0 in let bad : First ≡ Second = sym is ∙ second in cc)
]

zero_first : (n : ℕ) → n ≡ 0 → edition_of n ≡ First
zero_first n is = ap edition_of is

one_second : (n : ℕ) → n ≡ 1 → edition_of n ≡ Second
one_second n is = ap edition_of is

no_second : (w : PlainWorld) → Agrees w.memory First → Shows w.memory Second → ⊥
no_second w a (inl seen) = let bad : First ≡ Second = sym a.cached ∙ seen in cc
no_second w a (inr kept) = let bad : First ≡ Second = sym a.persisted ∙ kept in cc

-- two words of the new texts are different
index_of_text : Place → ℕ
index_of_text (Text edition q n part) = (q * RECORDS + n) * FIRST_PARTS + part
index_of_text _ = 0

index_back : (k : ℕ) → index_of_text (new_text k) ≡ k
unfolding index_of_text
index_back k = omega arith

new_apart : (j k : ℕ) → j ≢ k → new_text j ≢ new_text k
new_apart j k ne same = ne (sym (index_back j) ∙ ap index_of_text same ∙ index_back k)

-- the place of the new word beside an old one
seconded : Place → Place
seconded (Text edition q n part) = Text Second q n part
seconded r = r

new_text_at : (q n part : ℕ) → n < RECORDS → part < FIRST_PARTS → new_text ((q * RECORDS + n) * FIRST_PARTS + part) ≡ Text Second q n part
unfolding seconded
new_text_at q n part few small = ap seconded (first_text_at q n part few small)

by_test : (P : MigrateStage → Type 0) (b : Bool) (x y : MigrateStage) → (b ≡ true → P x) → (b ≡ false → P y) → P (if b then x else y)
by_test P true x y f g = f refl
by_test P false x y f g = g refl

-- n words are copied, and the next one is looked at, or all are copied
from_fits : (w : PlainWorld) (e : PlainMigrateCall) (n : ℕ) → n ≤ old_words e.processes → Copying w.memory n → MovesAt w e (copy_from (old_words e.processes) n)
from_fits w e n most h = by_test (λ s. MovesAt w e s) (nat_lt n (old_words e.processes)) (LoadOld n) Swap (λ b. h)
    (λ b. let l = ltb-false n (old_words e.processes) b in subst (λ (k : ℕ). Copying w.memory k) (omega arith) h)

from_copied : (words n : ℕ) → IsCopied words (copy_from words n)
from_copied words n = by_test (λ s. IsCopied words s) (nat_lt n words) (LoadOld n) Swap (λ b. ltb-true n words b) (λ b. tt)

from_holds : (w : PlainWorld) (p : ℕ) (e : PlainMigrateCall) (words n : ℕ) → w.memory.buffer p ≡ [] → MigrationHolds w p e (copy_from words n)
from_holds w p e words n h = by_test (λ s. MigrationHolds w p e s) (nat_lt n words) (LoadOld n) Swap (λ b. h) (λ b. h)

-- a migration at its stage
module _ (e : PlainMigrateCall) (s : MigrateStage) (word : ℕ) (old new : PlainWorld) (sound : IsSound old) (real : e.process < old.layout.processes)
    (is : old.situation e.process ≡ Migrating (at e s)) (t : StepsAt e s word old new) where
  abbrev p : ℕ
  p = e.process

  fits : MigrationFits old p (at e s)
  fits = subst (λ (x : Situation). CallFits old p x) is (sound.calls p real)

  lay : MovesFit old p (at e s)
  lay = subst (λ (x : Situation). LayoutFits old p x) is (sound.layouts p real)

  none_moves : NoneMoves old p
  none_moves q l ne moving = subst (λ (x : Situation). IsMoving x) (lay.alone q l ne) moving

  alone_on : OthersStopped new p
  alone_on q l ne = t.others q ne ∙ lay.alone q (subst (λ (x : Layout). q < x.processes) t.layout l) ne

  was : IsHalted (old.situation p)
  was = subst (λ (x : Situation). IsHalted x) (sym is) tt

  -- it goes on to a next stage
  module _ (e' : PlainMigrateCall) (goes_on : new.situation p ≡ Migrating e') (mine' : e'.process ≡ e.process) (count : e'.processes ≡ e.processes) (numbers : IsCopied (old_words e.processes) e'.stage)
      (moved : MovesAt new e' e'.stage) (place : Place) (away : IsAway place)
      (cached : (r : Place) → r ≢ place → new.memory.cached r ≡ old.memory.cached r) (persisted : (r : Place) → r ≢ place → new.memory.persisted r ≡ old.memory.persisted r)
      (buffers : (q : ℕ) → q ≢ p → new.memory.buffer q ≡ old.memory.buffer q)
      (moves_here : Moves p place old new → WordFits new place (new.memory.cached place) (new.memory.persisted place))
      (word_moves : Rattle.ds_state.proofs.Frames.MovesWord old p place (old.memory.cached place) (old.memory.persisted place) (new.memory.cached place) (new.memory.persisted place))
      (holds : MigrationHolds new p e' e'.stage) (clear : (c x : ℕ) → Contains (new.memory.buffer p) (entry (Mark c) x) → ⊥) where
    lay_on : LayoutFits new p (new.situation p)
    lay_on = subst (λ (x : Situation). LayoutFits new p x) (sym goes_on) (record { alone = alone_on; at = moved })

    now : IsHalted (new.situation p)
    now = subst (λ (x : Situation). IsHalted x) (sym goes_on) tt

    pub step_on : MovesVersion p old new → Keeps p old new
    step_on version =
        let m : Moves p place old new = record {
          layout = t.layout;
          cached = cached;
          persisted = persisted;
          here = word_moves;
          buffers = buffers;
          situations = t.others;
          pendings = λ q ne. t.open_edits q;
          goes = turns none_moves (λ l. lay_on);
          version = version;
        } in
        halted_keeps p place old new m t.counted sound real away was now (t.open_edits p) clear (moves_here m)
        (subst (λ (x : Situation). CallFits new p x) (sym goes_on) (record {
          mine = mine';
          is = record { process = rw (mine', count) fits.is.process; processes = rw count fits.is.processes; stage = rw count numbers };
          processes = ap (λ (x : Layout). x.processes) t.layout ∙ fits.processes ∙ sym count;
          doubt = doubt_on p place old new m t.counted sound real away was now (t.open_edits p) clear fits.doubt;
          buffer = holds;
        }))

  no_mark : (c x : ℕ) → new.memory.buffer p ≡ [] → Contains (new.memory.buffer p) (entry (Mark c) x) → ⊥
  no_mark c x h k = none (entry (Mark c) x) h k

  same_version : SameMemory old.memory new.memory → MovesVersion p old new
  same_version m = inl (m.cached Version, inl (m.persisted Version))

  copying_same : (n : ℕ) → ((r : Place) → new.memory.cached r ≡ old.memory.cached r) → ((r : Place) → new.memory.persisted r ≡ old.memory.persisted r) → Copying old.memory n → Copying new.memory n
  copying_same n c v h = record {
    agrees = record { cached = ap edition_of (c Version) ∙ h.agrees.cached; persisted = ap edition_of (v Version) ∙ h.agrees.persisted };
    copied = λ j l. record { cached = c (new_text j) ∙ (h.copied j l).cached ∙ sym (c (first_text j)); persisted = v (new_text j) ∙ (h.copied j l).persisted ∙ sym (c (first_text j)) };
  }

-- the version's word is loaded
load_version : (e : PlainMigrateCall) (word : ℕ) (old new : PlainWorld) → IsSound old → e.process < old.layout.processes → old.situation e.process ≡ Migrating (at e LoadVersion) → StepsAt e LoadVersion word old new → Keeps e.process old new
load_version e word old new sound real is t = elim (eqb_tells word 0) [
  | inl z ↦ (
      let stage : MigrateStage = copy_from (old_words e.processes) 0 in
      let none_yet : Copying new.memory 0 = record {
        agrees = record { cached = zero_first _ (m.cached Version ∙ sym t.memory.0 ∙ z.1); persisted = zero_first _ (m.persisted Version ∙ (let b = fit.behind in let a = t.memory.0 in let c = z.1 in omega arith)) };
        copied = λ j l. absurd (omega arith);
      } in
      step_on e LoadVersion word old new sound real is t (at e stage) (t.situation ∙ ap (λ (b : Bool). Migrating (at e (if b then stage else FlushVersion Already))) z.0) refl refl (from_copied (old_words e.processes) 0)
      (from_fits new (at e stage) 0 (omega arith) none_yet) Version tt (λ r ne. m.cached r) (λ r ne. m.persisted r) (λ q ne. m.buffer q) (λ k. version_word e.process old new k sound) tt
      (from_holds new e.process (at e stage) (old_words e.processes) 0 empty) (λ c x. no_mark e LoadVersion word old new sound real is t c x empty) (same_version e LoadVersion word old new sound real is t m))
  | inr other ↦ step_on e LoadVersion word old new sound real is t (at e (FlushVersion Already))
      (t.situation ∙ ap (λ (b : Bool). Migrating (at e (if b then copy_from (old_words e.processes) 0 else FlushVersion Already))) other.0) refl refl tt
      (m.cached Version ∙ (let b = fit.most in let a = t.memory.0 in let c = other.1 in omega arith)) Version tt (λ r ne. m.cached r) (λ r ne. m.persisted r) (λ q ne. m.buffer q) (λ k. version_word e.process old new k sound) tt
      empty (λ c x. no_mark e LoadVersion word old new sound real is t c x empty) (same_version e LoadVersion word old new sound real is t m)
]
  where
    m : SameMemory old.memory new.memory
    m = t.memory.1

    fit : VersionFits (old.memory.cached Version) (old.memory.persisted Version)
    fit = sound.words Version

    empty : new.memory.buffer e.process ≡ []
    empty = m.buffer e.process ∙ (fits e LoadVersion word old new sound real is t).buffer

-- a word is loaded
load_old : (e : PlainMigrateCall) (n word : ℕ) (old new : PlainWorld) → IsSound old → e.process < old.layout.processes → old.situation e.process ≡ Migrating (at e (LoadOld n)) → StepsAt e (LoadOld n) word old new → Keeps e.process old new
load_old e n word old new sound real is t =
    let m : SameMemory old.memory new.memory = t.memory.1 in
    let empty : new.memory.buffer e.process ≡ [] = m.buffer e.process ∙ (fits e (LoadOld n) word old new sound real is t).buffer in
    let h : Copying old.memory n = (lay e (LoadOld n) word old new sound real is t).at in
    step_on e (LoadOld n) word old new sound real is t (record e { word = word; stage = StoreNew n }) t.situation refl refl (fits e (LoadOld n) word old new sound real is t).is.stage
    (copying_same e (LoadOld n) word old new sound real is t n m.cached m.persisted h, t.memory.0 ∙ sym (m.cached (first_text n))) Version tt (λ r ne. m.cached r) (λ r ne. m.persisted r) (λ q ne. m.buffer q) (λ k. version_word e.process old new k sound) tt
    empty (λ c x. no_mark e (LoadOld n) word old new sound real is t c x empty) (same_version e (LoadOld n) word old new sound real is t m)

-- it is stored where the second layout has it
store_new : (e : PlainMigrateCall) (n word : ℕ) (old new : PlainWorld) → IsSound old → e.process < old.layout.processes → old.situation e.process ≡ Migrating (at e (StoreNew n)) → StepsAt e (StoreNew n) word old new → Keeps e.process old new
store_new e n word old new sound real is t =
    let m : StoresAt (new_text n) e.word old.memory new.memory = t.memory.1 in
    let empty : new.memory.buffer e.process ≡ [] = m.buffer e.process ∙ (fits e (StoreNew n) word old new sound real is t).buffer in
    let h = (lay e (StoreNew n) word old new sound real is t).at in
    let away : (j : ℕ) → first_text j ≢ new_text n = λ j x. cc in
    let version : MovesVersion e.process old new = inl (m.elsewhere Version (λ x. cc), inl (m.persisted Version)) in
    let copying : Copying new.memory n = record {
      agrees = record { cached = ap edition_of (m.elsewhere Version (λ x. cc)) ∙ h.0.agrees.cached; persisted = ap edition_of (m.persisted Version) ∙ h.0.agrees.persisted };
      copied = λ j l. record {
        cached = m.elsewhere (new_text j) (new_apart j n (λ x. omega arith)) ∙ (h.0.copied j l).cached ∙ sym (m.elsewhere (first_text j) (away j));
        persisted = m.persisted (new_text j) ∙ (h.0.copied j l).persisted ∙ sym (m.elsewhere (first_text j) (away j));
      };
    } in
    step_on e (StoreNew n) word old new sound real is t (at e (FlushNew n)) t.situation refl refl (fits e (StoreNew n) word old new sound real is t).is.stage
    (copying, h.1 ∙ sym (m.elsewhere (first_text n) (away n)), m.there) (new_text n) tt m.elsewhere (λ r ne. m.persisted r) (λ q ne. m.buffer q)
    (λ k now. absurd (no_second new copying.agrees now)) (inr (inr (λ seen. no_second old h.0.agrees (inl seen))))
    empty (λ c x. no_mark e (StoreNew n) word old new sound real is t c x empty) version

-- it is flushed
flush_new : (e : PlainMigrateCall) (n word : ℕ) (old new : PlainWorld) → IsSound old → e.process < old.layout.processes → old.situation e.process ≡ Migrating (at e (FlushNew n)) → StepsAt e (FlushNew n) word old new → Keeps e.process old new
flush_new e n word old new sound real is t =
    let m : FlushesAt e.process (new_text n) (class_of (new_text n)) old.memory new.memory = t.memory.1 in
    let h = (lay e (FlushNew n) word old new sound real is t).at in
    let one : new.memory.buffer e.process ≡ entry (new_text n) e.word ∷ [] =
    m.mine ∙ ap (λ (xs : List (BufferEntry Place)). xs ++ entry (new_text n) (old.memory.cached (new_text n)) ∷ []) (fits e (FlushNew n) word old new sound real is t).buffer ∙ ap (λ (v : ℕ). entry (new_text n) v ∷ []) h.2 in
    step_on e (FlushNew n) word old new sound real is t (at e (BackNew n)) t.situation refl refl (fits e (FlushNew n) word old new sound real is t).is.stage
    (copying_same e (FlushNew n) word old new sound real is t n m.cached m.persisted h.0, h.1 ∙ sym (m.cached (first_text n)), m.cached (new_text n) ∙ h.2) Version tt (λ r ne. m.cached r) (λ r ne. m.persisted r) m.others
    (λ k. version_word e.process old new k sound) tt one (λ c x k. not_mark (new_text n) e.word c x (λ y. cc) one k) (inl (m.cached Version, inl (m.persisted Version)))

-- one entry is written back
pub record Backed (p : ℕ) (r : Place) (v : ℕ) (old new : PlainWorld) : Type 0 where
  pub cached : (x : Place) → new.memory.cached x ≡ old.memory.cached x
  pub there : new.memory.persisted r ≡ Rattle.ds_words.specs.Memory.newer (class_of r) (old.memory.persisted r) v
  pub elsewhere : (x : Place) → x ≢ r → new.memory.persisted x ≡ old.memory.persisted x
  pub mine : new.memory.buffer p ≡ []
  pub others : (q : ℕ) → q ≢ p → new.memory.buffer q ≡ old.memory.buffer q

-- a write-back of a buffer's only entry is that entry's
pub backed : (p : ℕ) (r : Place) (v : ℕ) (old new : PlainWorld) (first : BufferEntry Place) (rest : List (BufferEntry Place)) → old.memory.buffer p ≡ entry r v ∷ [] → WritesBack p first rest old.memory new.memory → Backed p r v old new
backed p r v old new first rest one w =
    let both : first ∷ rest ≡ entry r v ∷ [] = sym w.oldest ∙ one in
    let its : first ≡ entry r v = cc in
    let last : rest ≡ [] = cc in
    let b : WritesBack p (entry r v) rest old.memory new.memory = subst (λ (x : BufferEntry Place). WritesBack p x rest old.memory new.memory) its w in
    record { cached = b.cached; there = b.there; elsewhere = b.elsewhere; mine = b.mine ∙ last; others = b.others }

-- the copy is written back
back_new : (e : PlainMigrateCall) (n word : ℕ) (old new : PlainWorld) → IsSound old → e.process < old.layout.processes → old.situation e.process ≡ Migrating (at e (BackNew n)) → StepsAt e (BackNew n) word old new → Keeps e.process old new
back_new e n word old new sound real is t =
    let f = fits e (BackNew n) word old new sound real is t in
    let b : Backed e.process (new_text n) e.word old new = backed e.process (new_text n) e.word old new t.memory.1.0 t.memory.1.1 f.buffer t.memory.1.2 in
    let h = (lay e (BackNew n) word old new sound real is t).at in
    let version : MovesVersion e.process old new = inl (b.cached Version, inl (b.elsewhere Version (λ x. cc))) in
    let copying : Copying new.memory (n + 1) = record {
      agrees = record { cached = ap edition_of (b.cached Version) ∙ h.0.agrees.cached; persisted = ap edition_of (b.elsewhere Version (λ x. cc)) ∙ h.0.agrees.persisted };
      copied = λ j l. elim (cases_eq j n) [
        | inl same ↦ subst (λ (k : ℕ). Copies new.memory k) (sym same) (record { cached = b.cached (new_text n) ∙ h.2 ∙ h.1 ∙ sym (b.cached (first_text n)); persisted = b.there ∙ h.1 ∙ sym (b.cached (first_text n)) })
        | inr ne ↦ (let c = h.0.copied j (omega arith) in record { cached = b.cached (new_text j) ∙ c.cached ∙ sym (b.cached (first_text j)); persisted = b.elsewhere (new_text j) (new_apart j n ne) ∙ c.persisted ∙ sym (b.cached (first_text j)) })
      ];
    } in
    let stage : MigrateStage = copy_from (old_words e.processes) (n + 1) in
    let most : n < old_words e.processes = f.is.stage in
    step_on e (BackNew n) word old new sound real is t (at e stage) t.situation refl refl (from_copied (old_words e.processes) (n + 1))
    (from_fits new (at e stage) (n + 1) (omega arith) copying) (new_text n) tt (λ r ne. b.cached r) b.elsewhere b.others
    (λ k now. absurd (no_second new copying.agrees now)) (inr (inr (λ seen. no_second old h.0.agrees (inl seen))))
    (from_holds new e.process (at e stage) (old_words e.processes) (n + 1) b.mine) (λ c x. no_mark e (BackNew n) word old new sound real is t c x b.mine) version

-- all is copied: the second layout has the records of all linearized edits
texts_copied : (w : PlainWorld) (processes : ℕ) → IsSound w → w.layout.processes ≡ processes → Copying w.memory (old_words processes) → (q n part : ℕ) → RecordFits w q n (suc part) (w.memory.cached (Text Second q n part)) (w.memory.persisted (Text Second q n part))
texts_copied w processes sound count h q n part e there i j k =
    let of : IsOfSheet w e = All-contains (λ (f : PlainEdit). IsOfSheet w f) w.counted e sound.of_sheet there in
    let short = of.short (inl h.agrees.cached) in
    let few = of.number in
    let inside = of.process in
    let small : part < FIRST_PARTS = omega arith in
    let which : ℕ = (q * RECORDS + n) * FIRST_PARTS + part in
    let num : n < RECORDS = subst (λ (x : ℕ). x < RECORDS) j few in
    let low : q < processes = subst (λ (x : ℕ). q < x) count (subst (λ (x : ℕ). x < w.layout.processes) i inside) in
    let below : which < old_words processes = omega arith in
    let old_is : first_text which ≡ Text First q n part = first_text_at q n part num small in
    let new_is : new_text which ≡ Text Second q n part = new_text_at q n part num small in
    let c : Copies w.memory which = h.copied which below in
    let was = sound.words (Text First q n part) (inl h.agrees.cached) e there i j k in
    let old_word : w.memory.cached (first_text which) ≡ record_word e (suc part) = ap w.memory.cached old_is ∙ was.0 in
    (ap w.memory.cached (sym new_is) ∙ c.cached ∙ old_word, ap w.memory.persisted (sym new_is) ∙ c.persisted ∙ old_word)

-- the second layout becomes the sheet's
swap_version : (e : PlainMigrateCall) (word : ℕ) (old new : PlainWorld) → IsSound old → e.process < old.layout.processes → old.situation e.process ≡ Migrating (at e Swap) → StepsAt e Swap word old new → Keeps e.process old new
swap_version e word old new sound real is t = elim t.memory.1 [
  | inr failed ↦ absurd (failed.0 zero_word)
  | inl done ↦ (
      let m : StoresAt Version 1 old.memory new.memory = done.1 in
      let empty : new.memory.buffer e.process ≡ [] = m.buffer e.process ∙ f.buffer in
      step_on e Swap word old new sound real is t (at e (FlushVersion Migrated)) t.situation refl refl tt m.there Version tt m.elsewhere (λ r ne. m.persisted r) (λ q ne. m.buffer q) (λ k. version_word e.process old new k sound) tt
      empty (λ c x. no_mark e Swap word old new sound real is t c x empty)
      (inr (record {
        alone = (lay e Swap word old new sound real is t).alone;
        from = h.agrees;
        to = m.there;
        persisted = m.persisted Version;
        texts = λ q n part f' there i j k. let both = texts_copied old e.processes sound f.processes h q n part f' (subst (λ (es : List PlainEdit). Contains es f') t.counted there) i j k in
            (m.elsewhere (Text Second q n part) (λ x. cc) ∙ both.0, m.persisted (Text Second q n part) ∙ both.1);
        mine = λ l. subst (λ (x : Situation). LayoutFits new e.process x) (sym t.situation) (record { alone = alone_on e Swap word old new sound real is t; at = m.there });
      })))
]
  where
    f : MigrationFits old e.process (at e Swap)
    f = fits e Swap word old new sound real is t

    h : Copying old.memory (old_words e.processes)
    h = (lay e Swap word old new sound real is t).at

    zero_word : word ≡ 0
    zero_word = t.memory.0 ∙ first_zero _ h.agrees.cached

-- the version's word is flushed
flush_version : (e : PlainMigrateCall) (how : _) (word : ℕ) (old new : PlainWorld) → IsSound old → e.process < old.layout.processes → old.situation e.process ≡ Migrating (at e (FlushVersion how)) → StepsAt e (FlushVersion how) word old new → Keeps e.process old new
flush_version e how word old new sound real is t =
    let m : FlushesAt e.process Version (class_of Version) old.memory new.memory = t.memory.1 in
    let h : old.memory.cached Version ≡ 1 = (lay e (FlushVersion how) word old new sound real is t).at in
    let one : new.memory.buffer e.process ≡ entry Version 1 ∷ [] =
    m.mine ∙ ap (λ (xs : List (BufferEntry Place)). xs ++ entry Version (old.memory.cached Version) ∷ []) (fits e (FlushVersion how) word old new sound real is t).buffer ∙ ap (λ (v : ℕ). entry Version v ∷ []) h in
    step_on e (FlushVersion how) word old new sound real is t (at e (BackVersion how)) t.situation refl refl tt (m.cached Version ∙ h) Version tt (λ r ne. m.cached r) (λ r ne. m.persisted r) m.others
    (λ k. version_word e.process old new k sound) tt one (λ c x k. not_mark Version 1 c x (λ y. cc) one k) (inl (m.cached Version, inl (m.persisted Version)))

-- it is written back
back_version : (e : PlainMigrateCall) (how : _) (word : ℕ) (old new : PlainWorld) → IsSound old → e.process < old.layout.processes → old.situation e.process ≡ Migrating (at e (BackVersion how)) → StepsAt e (BackVersion how) word old new → Keeps e.process old new
back_version e how word old new sound real is t =
    let f = fits e (BackVersion how) word old new sound real is t in
    let b : Backed e.process Version 1 old new = backed e.process Version 1 old new t.memory.1.0 t.memory.1.1 f.buffer t.memory.1.2 in
    let h : old.memory.cached Version ≡ 1 = (lay e (BackVersion how) word old new sound real is t).at in
    let fit = sound.words Version in
    let behind = fit.behind in
    let there = b.there in
    let now : new.memory.persisted Version ≡ 1 = b.there ∙ most_one (old.memory.persisted Version) (omega arith) in
    step_on e (BackVersion how) word old new sound real is t (at e (Answer how)) t.situation refl refl tt
    (record { cached = one_second _ (b.cached Version ∙ h); persisted = one_second _ now }) Version tt (λ r ne. b.cached r) b.elsewhere b.others
    (λ k. version_word e.process old new k sound) tt b.mine (λ c x. no_mark e (BackVersion how) word old new sound real is t c x b.mine) (inl (b.cached Version, inr (now ∙ sym h)))
  where
    most_one : (v : ℕ) → v ≤ 1 → max v 1 ≡ 1
    most_one v l = grind arith

-- it answers, and its process is stopped
answers : (e : PlainMigrateCall) (how : _) (word : ℕ) (old new : PlainWorld) → IsSound old → e.process < old.layout.processes → old.situation e.process ≡ Migrating (at e (Answer how)) → StepsAt e (Answer how) word old new → Keeps e.process old new
answers e how word old new sound real is t =
    let m : SameMemory old.memory new.memory = t.memory.1 in
    let f = fits e (Answer how) word old new sound real is t in
    let empty : new.memory.buffer e.process ≡ [] = m.buffer e.process ∙ f.buffer in
    let k : Moves e.process Version old new = record {
      layout = t.layout;
      cached = λ r ne. m.cached r;
      persisted = λ r ne. m.persisted r;
      here = tt;
      buffers = λ q ne. m.buffer q;
      situations = t.others;
      pendings = λ q ne. t.open_edits q;
      goes = turns (none_moves e (Answer how) word old new sound real is t) (λ l. subst (λ (x : Situation). LayoutFits new e.process x) (sym t.situation) tt);
      version = same_version e (Answer how) word old new sound real is t m;
    } in
    let was' = was e (Answer how) word old new sound real is t in
    let now : IsHalted (new.situation e.process) = subst (λ (x : Situation). IsHalted x) (sym t.situation) tt in
    let clear : (c x : ℕ) → Contains (new.memory.buffer e.process) (entry (Mark c) x) → ⊥ = (λ c x. no_mark e (Answer how) word old new sound real is t c x empty) in
    halted_keeps e.process Version old new k t.counted sound real tt was' now (t.open_edits e.process) clear (version_word e.process old new k sound)
    (subst (λ (x : Situation). CallFits new e.process x) (sym t.situation) (record { buffer = empty; doubt = doubt_on e.process Version old new k t.counted sound real tt was' now (t.open_edits e.process) clear f.doubt }))

-- each step of a migration keeps a sound world sound, and what others rely on
pub migration_keeps : (e : PlainMigrateCall) (s : MigrateStage) (word : ℕ) (old new : PlainWorld) → IsSound old → e.process < old.layout.processes → old.situation e.process ≡ Migrating (at e s) → StepsAt e s word old new → Keeps e.process old new
migration_keeps e LoadVersion word old new sound real is t = load_version e word old new sound real is t
migration_keeps e (LoadOld n) word old new sound real is t = load_old e n word old new sound real is t
migration_keeps e (StoreNew n) word old new sound real is t = store_new e n word old new sound real is t
migration_keeps e (FlushNew n) word old new sound real is t = flush_new e n word old new sound real is t
migration_keeps e (BackNew n) word old new sound real is t = back_new e n word old new sound real is t
migration_keeps e Swap word old new sound real is t = swap_version e word old new sound real is t
migration_keeps e (FlushVersion how) word old new sound real is t = flush_version e how word old new sound real is t
migration_keeps e (BackVersion how) word old new sound real is t = back_version e how word old new sound real is t
migration_keeps e (Answer how) word old new sound real is t = answers e how word old new sound real is t

-- a migration begins
pub migration_begins : (p : ℕ) (old new : PlainWorld) → IsSound old → p < old.layout.processes → BeginsMigration p old new → Keeps p old new
migration_begins p old new sound real b =
    let m : SameMemory old.memory new.memory = b.memory in
    let fit = subst (λ (x : Situation). CallFits old p x) b.stopped (sound.calls p real) in
    let empty : new.memory.buffer p ≡ [] = m.buffer p ∙ fit.buffer in
    let alone : OthersStopped new p = λ q l ne. b.others q ne ∙ b.alone q (subst (λ (x : Layout). q < x.processes) b.layout l) ne in
    let none' : NoneMoves old p = λ q l ne moving. subst (λ (x : Situation). IsMoving x) (b.alone q l ne) moving in
    let k : Moves p Version old new = record {
      layout = b.layout;
      cached = λ r ne. m.cached r;
      persisted = λ r ne. m.persisted r;
      here = tt;
      buffers = λ q ne. m.buffer q;
      situations = b.others;
      pendings = λ q ne. b.open_edits q;
      goes = turns none' (λ l. subst (λ (x : Situation). LayoutFits new p x) (sym b.situation) (record { alone = alone; at = tt }));
      version = inl (m.cached Version, inl (m.persisted Version));
    } in
    let was' : IsHalted (old.situation p) = subst (λ (x : Situation). IsHalted x) (sym b.stopped) tt in
    let now : IsHalted (new.situation p) = subst (λ (x : Situation). IsHalted x) (sym b.situation) tt in
    let clear : (c x : ℕ) → Contains (new.memory.buffer p) (entry (Mark c) x) → ⊥ = (λ c x. none (entry (Mark c) x) empty) in
    let limited = old.layout.limited in
    halted_keeps p Version old new k b.counted sound real tt was' now (b.open_edits p) clear (version_word p old new k sound)
    (subst (λ (x : Situation). CallFits new p x) (sym b.situation) (record {
      mine = refl;
      is = record { process = real; processes = limited; stage = tt };
      processes = ap (λ (x : Layout). x.processes) b.layout;
      doubt = doubt_on p Version old new k b.counted sound real tt was' now (b.open_edits p) clear fit.doubt;
      buffer = empty;
    }))

-- each step leaves fewer
from_falls : (words n most : ℕ) → 4 < most → 4 + 4 * (words - n) < most → rank words (copy_from words n) < most
from_falls words n most small h = by_test (λ s. rank words s < most) (nat_lt n words) (LoadOld n) Swap (λ b. h) (λ b. small)

-- each step of a migration but the answer's leaves fewer
pub migration_falls : (e : PlainMigrateCall) (s : MigrateStage) (word : ℕ) → IsCopied (old_words e.processes) s → ((how : _) → s ≡ Answer how → ⊥)
    → rank (old_words e.processes) (next_at e s word).stage < rank (old_words e.processes) s
migration_falls e LoadVersion word is more = version (word == 0)
  where
    version : (b : Bool) → rank (old_words e.processes) (at e (if b then copy_from (old_words e.processes) 0 else FlushVersion Already)).stage < 5 + 4 * old_words e.processes
    version true = from_falls (old_words e.processes) 0 (5 + 4 * old_words e.processes) (omega arith) (omega arith)
    version false = omega arith
migration_falls e (LoadOld n) word is more = omega arith
migration_falls e (StoreNew n) word is more = omega arith
migration_falls e (FlushNew n) word is more = omega arith
migration_falls e (BackNew n) word is more = from_falls (old_words e.processes) (n + 1) (1 + 4 * (old_words e.processes - n)) (omega arith) (omega arith)
migration_falls e Swap word is more = omega arith
migration_falls e (FlushVersion how) word is more = omega arith
migration_falls e (BackVersion how) word is more = omega arith
migration_falls e (Answer how) word is more = absurd (more how refl)

-- a migration of a sheet of P processes has at most 15,360 P + 5 steps
pub migration_rank : (p processes : ℕ) → rank (old_words processes) (fresh p processes).stage ≡ 15360 * processes + 5
migration_rank p processes = omega arith
