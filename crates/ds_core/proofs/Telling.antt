-- What each event leaves of what the words say of closed edits.
use Rattle.std.proofs.Common.{ℕ, ◌≡◌, ◌≢◌, ◌<◌, ◌≤◌, ◌/◌, ◌⊎◌, List, refl, ap, sym, ◌∙◌, subst, arith, inl, inr, zero, suc, length, Bool, true, false, Some, None}
use Rattle.std.specs.Prelude.{Option, Contains, filter}
use Rattle.std.proofs.lemmas.Bool.{cases_eq}
use Rattle.std.proofs.lemmas.List.Elements.{All-contains}
use Rattle.ds_layout.specs.declared.place.Edition.{Edition}
use Rattle.ds_layout.specs.declared.place.Place.{Place}
use Rattle.ds_layout.specs.declared.place.Place.TheVariants.{Header, Announce}
use Rattle.ds_layout.specs.declared.layout.Layout.{Layout}
use Rattle.ds_layout.specs.Places.{cells_of}
use Rattle.ds_state.specs.World.{PlainEdit, PlainIssue, PlainWorld, edit_of}
use Rattle.ds_state.specs.Value.{WorldValue, world_of, IsGood}
use Rattle.ds_state.specs.Sound.{IsSound}
use Rattle.ds_state.specs.CallsFit.{CallFits, DoubtFits}
use Rattle.ds_state.specs.KnownWork.{IsAtRest}
use Rattle.ds_state.specs.Crashes.{CrashesTo}
use Rattle.ds_state.specs.Events.{Evicts}
use Rattle.ds_state.specs.declared.situation.Situation.{Situation}
use Rattle.ds_state.specs.declared.situation.Situation.TheVariants.{Idle, Stopped, Editing, Working, Recovering, Showing, Migrating}
use Rattle.ds_state.specs.World.{announcement, phase_among}
use Rattle.ds_layout.specs.declared.announcement.Phase.{Phase}
use Rattle.ds_layout.specs.declared.announcement.Phase.TheVariants as phase
use Rattle.ds_recover.specs.RecoverySteps.{cell_from}
use Rattle.ds_layout.proofs.Packed.{header_of-header_word}
use Rattle.ds_formula.specs.Limits.{TEXT_MOST}
use Rattle.ds_state.specs.Known.{AreBelow, IsRecorded}
use Rattle.ds_core.specs.StopEvents.{StopsProcess}
use Rattle.ds_core.specs.Moments.{Placed, Open, Closed, Ledger, edits_in}
use Rattle.ds_core.specs.LedgerSteps.{next_number, Loses}
use Rattle.ds_core.proofs.Closing.{of_filter, to_filter}
use Rattle.ds_core.proofs.Headers.{SidesStay, sides_evicted, sides_crashed, sides_stopped}
use Rattle.ds_core.proofs.Ledgers.{IsOf, doubts, numbered, no_some, one_some, contains_edit}
use Rattle.ds_core.proofs.Turns.{IsTurn, stop_turn}
use Rattle.ds_core.proofs.Told.{cell_told, IsCounted, IsTold, Announces, Tells, LeavesOthers, told_on, turn_leaves, tells_left, tells_turn}

-- the number after the one that a word announces, in any phase, is read off it
pub announced_number : (n : ℕ) (f : Phase) → announcement n f / 4 ≡ suc n
announced_number n phase.Pending = omega arith
announced_number n phase.Done = omega arith
announced_number n phase.NotDone = omega arith

-- a process that is in no edit and in no doubt has announced how its last edit ended
pub rest_word : (w : PlainWorld) (p next : ℕ) → IsAtRest w p next → w.memory.cached (Announce p) / 4 ≡ next
rest_word w p zero h = let c = h.cached in omega arith
rest_word w p (suc n) h = ap (λ x. x / 4) h.cached ∙ announced_number n (phase_among w.counted p n)

-- where no edit is open, both sides announce the same, and the number after the last closed edit's
module _ (w : PlainWorld) (sound : IsSound w) (p : ℕ) (low : p < w.layout.processes) (none : w.open_edits p ≡ None) where
  sides_of : (s : Situation) → w.situation p ≡ s → w.memory.persisted (Announce p) ≡ w.memory.cached (Announce p)
  sides_of (Idle next) is = let f = subst (λ (x : Situation). CallFits w p x) is (sound.calls p low) in f.persisted ∙ sym f.cached
  sides_of Stopped is = let f = subst (λ (x : Situation). CallFits w p x) is (sound.calls p low) in let d = subst (λ (o : Option PlainIssue). DoubtFits w p o) none f.doubt in d.rest.persisted ∙ sym d.rest.cached
  sides_of (Editing e) is = absurd (let f = subst (λ (x : Situation). CallFits w p x) is (sound.calls p low) in let bad : None ≡ Some (record { edit = edit_of e; since = f.since }) = sym none ∙ f.open_edits in cc)
  sides_of (Working e) is = let f = subst (λ (x : Situation). CallFits w p x) is (sound.calls p low) in subst (λ q. w.memory.persisted (Announce q) ≡ w.memory.cached (Announce q)) f.mine (f.rest.persisted ∙ sym f.rest.cached)
  sides_of (Recovering e) is = let f = subst (λ (x : Situation). CallFits w p x) is (sound.calls p low) in let d = subst (λ (o : Option PlainIssue). DoubtFits w p o) none f.doubt in d.rest.persisted ∙ sym d.rest.cached
  sides_of (Migrating e) is = let f = subst (λ (x : Situation). CallFits w p x) is (sound.calls p low) in let d = subst (λ (o : Option PlainIssue). DoubtFits w p o) none f.doubt in d.rest.persisted ∙ sym d.rest.cached
  sides_of (Showing e) is = let f = subst (λ (x : Situation). CallFits w p x) is (sound.calls p low) in subst (λ q. w.memory.persisted (Announce q) ≡ w.memory.cached (Announce q)) f.1.mine (f.1.rest.persisted ∙ sym f.1.rest.cached)

  pub sides_agree : w.memory.persisted (Announce p) ≡ w.memory.cached (Announce p)
  sides_agree = sides_of (w.situation p) refl

  module _ (told : Option Closed) (numbers : (n : ℕ) → numbered (w.situation p) ≡ Some n → n ≡ next_number told) (carried : doubts (w.situation p) ≡ true → Announces w p told) where
    by_situation : (s : Situation) → w.situation p ≡ s → Announces w p told
    by_situation (Idle next) is = let f = subst (λ (x : Situation). CallFits w p x) is (sound.calls p low) in rest_word w p next.number (record { number = f.number; open_edits = f.open_edits; below = f.below; cached = f.cached; persisted = f.persisted }) ∙ numbers next.number (ap numbered is)
    by_situation Stopped is = carried (ap doubts is)
    by_situation (Editing e) is = absurd (let f = subst (λ (x : Situation). CallFits w p x) is (sound.calls p low) in let bad : None ≡ Some (record { edit = edit_of e; since = f.since }) = sym none ∙ f.open_edits in cc)
    by_situation (Working e) is = let f = subst (λ (x : Situation). CallFits w p x) is (sound.calls p low) in ap (λ q. w.memory.cached (Announce q) / 4) (sym f.mine) ∙ rest_word w e.process e.next f.rest ∙ numbers e.next (ap numbered is)
    by_situation (Recovering e) is = carried (ap doubts is)
    by_situation (Migrating e) is = carried (ap doubts is)
    by_situation (Showing e) is = let f = subst (λ (x : Situation). CallFits w p x) is (sound.calls p low) in ap (λ q. w.memory.cached (Announce q) / 4) (sym f.1.mine) ∙ rest_word w e.process e.next f.1.rest ∙ numbers e.next (ap numbered is)

    pub announces_now : Announces w p told
    announces_now = by_situation (w.situation p) refl

-- ---- nothing happens, an eviction

pub tells_same : (l : Ledger) (v v' : WorldValue) → Tells l v → v' ≡ v → Tells l v'
tells_same l v v' t is = subst (λ (x : WorldValue). Tells l x) (sym is) t

header_is : (p n : ℕ) (r : Place) → (Header p n ≡ r) ⊎ (Header p n ≢ r)
header_is p n (Header q m) = elim (cases_eq p q) [
  | inl a ↦ elim (cases_eq n m) [
    | inl b ↦ inl (ap (λ x. Header x n) a ∙ ap (λ x. Header q x) b)
    | inr b ↦ inr (λ is. b (let same : n ≡ m = cc in same))
  ]
  | inr a ↦ inr (λ is. a (let same : p ≡ q = cc in same))
]
header_is p n _ = inr (λ is. cc)

-- an eviction leaves what the words say of closed edits
pub tells_evicted : (l : Ledger) (v v' : WorldValue) (r : Place) → Tells l v → Evicts r (world_of v) (world_of v') → Tells l v'
tells_evicted l v v' r t e = record {
  told = λ p c is. (let k = t.told p c is in told_on l.counted l.counted (world_of v) (world_of v') p c k e.layout (sides_evicted r (world_of v).memory (world_of v').memory (Header p c.it.edit.number) e.memory (header_is p c.it.edit.number r)) k.counted);
  opens = λ p issue is. t.opens p issue (sym (e.open_edits p) ∙ is);
  announced = λ p lt doubt none. ap (λ x. x / 4) (e.memory.cached (Announce p)) ∙ t.announced p (rw (sym e.layout) lt) (ap doubts (sym (e.situation p)) ∙ doubt) (sym (e.open_edits p) ∙ none);
}

-- ---- a stop

not_doubted : (s : Situation) (P : Type 0) → doubts s ≡ false → doubts s ≡ true → P
not_doubted s P a b = let bad : false ≡ true = sym a ∙ b in absurd (cc)

-- a stop leaves what the words say of closed edits
pub tells_stopped : (layout : Layout) (l : Ledger) (v v' : WorldValue) → IsOf layout l v → (t : Tells l v) (p : ℕ) → (h : StopsProcess v p v') → (l' : Ledger) → l'.counted ≡ l.counted → l'.told ≡ l.told → Tells l' v'
tells_stopped layout l v v' h t p s l' counted told =
    let same : (q : ℕ) → l'.told q ≡ l.told q = λ q. ap (λ f. f q) told in
    tells_turn p l l' v v' t (stop_turn v v' p h.good.sound s) (record {
      layout = s.stops.layout;
      told = λ c is. (let k = t.told p c (sym (same p) ∙ is) in
          told_on l.counted l'.counted (world_of v) (world_of v') p c k s.stops.layout (sides_stopped p (world_of v).memory (world_of v').memory (Header p c.it.edit.number) s.stops.memory) (subst (λ (es : List Placed). IsCounted es c.it c.counts) (sym counted) k.counted));
      opens = λ issue is. t.opens p issue (sym (s.stops.open_edits p) ∙ is) ∙ ap next_number (sym (same p));
      announced = λ doubt none. ap (λ x. x / 4) (s.stops.memory.cached (Announce p))
          ∙ announces_now (world_of v) h.good.sound p s.there (sym (s.stops.open_edits p) ∙ none) (l.told p) (λ n is. h.numbers p n is) (λ d. t.announced p s.there d (sym (s.stops.open_edits p) ∙ none)) ∙ ap next_number (sym (same p));
    }) (λ q ne. same q) (λ q c ne is. subst (λ (es : List Placed). IsCounted es c.it c.counts) (sym counted) (t.told q c is).counted)

-- ---- a crash

module _ (layout : Layout) (l : Ledger) (v v' : WorldValue) (h : IsOf layout l v) (t : Tells l v) (good : IsGood v') (c : CrashesTo (world_of v) (world_of v')) (l' : Ledger) (loses : Loses l l') where
  told_same : (p : ℕ) → l'.told p ≡ l.told p
  told_same p = ap (λ (x : Ledger). x.told p) loses.is

  -- a closed edit is not open
  not_open : (p : ℕ) (k : Closed) (o : Open) → l.told p ≡ Some k → l.opens p ≡ Some o → o.it ≡ k.it → ⊥
  not_open p k o told is same = by ((world_of v).open_edits p) refl
    where
      by : (x : Option PlainIssue) → (world_of v).open_edits p ≡ x → ⊥
      by None none = (let bad : None ≡ Some o = sym (h.none p none) ∙ is in cc)
      by (Some issue) some =
          let a = h.some p issue some in
          let one : a.o ≡ o = one_some (l.opens p) a.o o a.is is in
          let number : issue.edit.number ≡ k.it.edit.number = ap (λ (e : PlainEdit). e.number) (sym a.edit) ∙ ap (λ (x : Open). x.it.edit.number) one ∙ ap (λ (x : Placed). x.edit.number) same in
          let next = t.opens p issue some ∙ ap next_number told in
          omega arith

  left_counted : (p : ℕ) (k : Closed) → l.told p ≡ Some k → IsCounted l'.counted k.it k.counts
  left_counted p k is = subst (λ (x : Ledger). IsCounted x.counted k.it k.counts) (sym loses.is) (by k.counts (t.told p k is).counted)
    where
      by : (b : Bool) → IsCounted l.counted k.it b → IsCounted (filter loses.stays l.counted) k.it b
      by true there = to_filter loses.stays l.counted k.it there (kept (loses.stays k.it) refl)
        where
          kept : (b : Bool) → loses.stays k.it ≡ b → loses.stays k.it ≡ true
          kept true same = same
          kept false lost = (let o = loses.lost_open k.it there lost in
              absurd (not_open p k o.0 is (ap l.opens (sym (t.told p k is).process) ∙ o.1) o.2))
      by false none = λ f there. none f (of_filter loses.stays l.counted f there)

  pub tells_crashed : Tells l' v'
  tells_crashed = record {
    told = λ p k is. (let was = sym (told_same p) ∙ is in
        told_on l.counted l'.counted (world_of v) (world_of v') p k (t.told p k was) c.layout (sides_crashed (world_of v).memory (world_of v').memory (Header p k.it.edit.number) c.memory) (left_counted p k was));
    opens = λ p issue is. t.opens p issue (sym (c.open_edits p) ∙ is) ∙ ap next_number (sym (told_same p));
    announced = λ p lt doubt none. (
        let low : p < v.sheet.layout.processes = rw (sym c.layout) lt in
        let none_before = sym (c.open_edits p) ∙ none in
        ap (λ x. x / 4) (c.memory.cached (Announce p) ∙ sides_agree (world_of v) h.good.sound p low none_before)
        ∙ announces_now (world_of v) h.good.sound p low none_before (l.told p) (λ n is. h.numbers p n is) (λ d. t.announced p low d none_before) ∙ ap next_number (sym (told_same p)));
  }

-- ---- a process's doing after which it is in no doubt

-- which closes no edit
module _ (q : ℕ) (l l' : Ledger) (v v' : WorldValue) (t : Tells l v) (leaves : LeavesOthers q v v') (layout : v'.sheet.layout ≡ v.sheet.layout) (told : (p : ℕ) → l'.told p ≡ l.told p)
    (counted : (p : ℕ) (c : Closed) → l.told p ≡ Some c → IsCounted l'.counted c.it c.counts)
    (sides : (c : Closed) → l.told q ≡ Some c → SidesStay (world_of v).memory (world_of v').memory (Header q c.it.edit.number))
    (opens : (issue : PlainIssue) → (world_of v').open_edits q ≡ Some issue → issue.edit.number ≡ next_number (l.told q)) (sure : doubts ((world_of v').situation q) ≡ false) where
  pub tells_on : Tells l' v'
  tells_on = tells_left q l l' v v' t leaves (record {
    layout = layout;
    told = λ c is. (let was = sym (told q) ∙ is in told_on l.counted l'.counted (world_of v) (world_of v') q c (t.told q c was) layout (sides c was) (counted q c was));
    opens = λ issue is. opens issue is ∙ ap next_number (sym (told q));
    announced = λ doubt none. not_doubted ((world_of v').situation q) _ sure doubt;
  }) (λ p ne. told p) (λ p c ne is. counted p c is)

-- which leaves the ledger
pub tells_quiet : (l : Ledger) (v v' : WorldValue) (q : ℕ) → Tells l v → IsTurn q v v' → v'.sheet.layout ≡ v.sheet.layout → ((c : Closed) → l.told q ≡ Some c → SidesStay (world_of v).memory (world_of v').memory (Header q c.it.edit.number))
    → (world_of v').open_edits q ≡ (world_of v).open_edits q → doubts ((world_of v').situation q) ≡ false → Tells l v'
tells_quiet l v v' q t turn layout sides pending sure =
    tells_on q l l v v' t (turn_leaves q v v' turn) layout (λ p. refl) (λ p c is. (t.told p c is).counted) sides (λ issue is. t.opens q issue (sym pending ∙ is)) sure

-- which closes this edit, and leaves the list
module _ (q : ℕ) (l l' : Ledger) (v v' : WorldValue) (t : Tells l v) (turn : IsTurn q v v') (layout : v'.sheet.layout ≡ v.sheet.layout) (c : Closed) (here : l'.told q ≡ Some c) (others : (p : ℕ) → p ≢ q → l'.told p ≡ l.told p)
    (counted : l'.counted ≡ l.counted) (is_told : IsTold l.counted (world_of v) q c) (sides : SidesStay (world_of v).memory (world_of v').memory (Header q c.it.edit.number))
    (none : (world_of v').open_edits q ≡ None) (sure : doubts ((world_of v').situation q) ≡ false) where
  on_list : (d : Closed) → IsCounted l.counted d.it d.counts → IsCounted l'.counted d.it d.counts
  on_list d h = subst (λ (es : List Placed). IsCounted es d.it d.counts) (sym counted) h

  pub tells_closed : Tells l' v'
  tells_closed = tells_turn q l l' v v' t turn (record {
    layout = layout;
    told = λ d is. (
        let same : c ≡ d = one_some (l'.told q) c d here is in
        subst (λ (x : Closed). IsTold l'.counted (world_of v') q x) same (told_on l.counted l'.counted (world_of v) (world_of v') q c is_told layout sides (on_list c is_told.counted)));
    opens = λ issue is. absurd (no_some ((world_of v').open_edits q) issue none is);
    announced = λ doubt open_none. not_doubted ((world_of v').situation q) _ sure doubt;
  }) others (λ p d ne is. on_list d (t.told p d is).counted)

-- ---- what a record that stands says

-- a record whose header stands on both sides says its cell
pub recorded_tells : (w : PlainWorld) (edition : Edition) (e : PlainEdit) (size : ℕ) → 0 < size → IsRecorded w edition e size size → e.cell < cells_of w.layout → length e.text ≤ TEXT_MOST
    → (cell_told w.layout (w.memory.cached (Header e.process e.number)) ≡ e.cell) × (cell_told w.layout (w.memory.persisted (Header e.process e.number)) ≡ e.cell)
recorded_tells w edition e size some r low few =
    let m = w.layout.limited in
    let back = header_of-header_word (cells_of w.layout) (record { cell = e.cell; length = length e.text }) (record { cell = omega arith; length = omega arith }) (record { cell = low; length = few }) in (
      ap (λ x. cell_told w.layout x) (r.cached 0 some) ∙ ap cell_from back,
      ap (λ x. cell_told w.layout x) (r.persisted 0 some) ∙ ap cell_from back,
    )

-- the closed edit is reported, where it is one whose record stands
pub told_by : (es : List Placed) (w : PlainWorld) (p : ℕ) (c : Closed) (edition : Edition) (e : PlainEdit) (size : ℕ) → c.it.edit ≡ e → e.process ≡ p → IsCounted es c.it c.counts → 0 < size → IsRecorded w edition e size size → e.cell < cells_of w.layout → length e.text ≤ TEXT_MOST → IsTold es w p c
told_by es w p c edition e size same mine counted some r low few =
    let tells = recorded_tells w edition e size some r low few in
    let place : (m : Place → ℕ) → cell_told w.layout (m (Header e.process e.number)) ≡ e.cell → cell_told w.layout (m (Header p c.it.edit.number)) ≡ c.it.edit.cell =
    λ m is. ap (λ n. cell_told w.layout (m (Header p n))) (ap (λ (x : PlainEdit). x.number) same) ∙ ap (λ q. cell_told w.layout (m (Header q e.number))) (sym mine) ∙ is ∙ ap (λ (x : PlainEdit). x.cell) (sym same) in
    record {
      process = ap (λ (x : PlainEdit). x.process) same ∙ mine;
      counted = counted;
      cached = place w.memory.cached tells.0;
      persisted = place w.memory.persisted tells.1;
    }

-- an edit with a number above the linearized ones of its process is not linearized
pub below_out : (l : Ledger) (v : WorldValue) (it : Placed) → edits_in l ≡ v.counted → AreBelow (world_of v) it.edit.process it.edit.number → IsCounted l.counted it false
below_out l v it same below = λ f there process number. (
    let less = All-contains (λ (g : PlainEdit). g.process ≡ it.edit.process → g.number < it.edit.number) v.counted f.edit below (subst (λ (es : List PlainEdit). Contains es f.edit) same (contains_edit l.counted f there)) process in
    omega arith)
