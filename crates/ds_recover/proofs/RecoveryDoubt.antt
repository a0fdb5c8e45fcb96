-- What a recovery finds of an edit in doubt.
use Rattle.std.proofs.Common.{ℕ, ◌≡◌, ◌<◌, ◌≤◌, ◌+◌, ◌==◌, ◌⊎◌, List, [], ◌∷◌, ◌++◌, refl, ap, sym, ◌∙◌, subst, arith, inl, inr, Some, None, true, false, zero, suc, length, ◌/◌, ◌-◌}
use Rattle.std.specs.Prelude.{Option, Bool, Contains, if◌then◌else◌}
use Rattle.std.proofs.lemmas.Bool.Decides.{eqb_tells}
use Rattle.std.proofs.lemmas.List.Elements.{All-contains}
use Rattle.ds_layout.specs.declared.place.TheConstants.{RECORDS}
use Rattle.ds_layout.specs.declared.place.Place.TheVariants.{Head, Announce, Header}
use Rattle.ds_layout.specs.declared.announcement.Phase.{Phase}
use Rattle.ds_layout.specs.declared.announcement.Phase.TheVariants as phase
use Rattle.ds_layout.specs.declared.announcement.Announcement.{Announcement}
use Rattle.ds_layout.specs.Announcement.{announcement_of}
use Rattle.ds_layout.specs.Head.{head_of}
use Rattle.ds_layout.specs.Header.{header_of}
use Rattle.ds_layout.specs.Places.{cells_of}
use Rattle.ds_layout.specs.Bits.{HasBit}
use Rattle.ds_layout.proofs.OrBits.{HasBit-subset}
use Rattle.ds_layout.proofs.Packed.{announcement_of-announcement_word, header_of-header_word}
use Rattle.ds_layout.specs.declared.place.Edition.TheVariants.{First}
use Rattle.ds_state.specs.World.{PlainEdit, PlainIssue, PlainWorld, of_cell, head_after_all, announcement, last_announcement, phase_among, is_edit_of, done_place}
use Rattle.ds_state.specs.Known.{IsRecorded, Standing, outside, inside, safe, Announced, last, pending, ended, word_of, phase_of, AreBelow, IsIn, IsSafe, IsSafelyIn, StandsAs}
use Rattle.ds_state.specs.declared.stage.Outcome.TheVariants as outcome
use Rattle.ds_state.specs.KnownRecovery.{Tells, IsPassed}
use Rattle.ds_state.specs.CallsFit.{MaySay, rank, IsInDoubt, IsThrough, DoubtFits}
use Rattle.ds_state.specs.WordsFit.{IsKept}
use Rattle.ds_state.specs.Sound.{IsSound}
use Rattle.ds_recover.specs.RecoverySteps.{is_shown, cell_from}
use Rattle.ds_state.proofs.Noted.{last_cases, head_reads}
use Rattle.ds_state.proofs.CrashSound.{same_edit}
use Rattle.ds_state.proofs.Found.{gave_counts}

read : (n : ℕ) (f : Phase) → n < RECORDS → announcement_of (announcement n f) ≡ Some (record { number = n; phase = f })
read n f few = announcement_of-announcement_word (record { number = n; phase = f }) few

none_some : {a : Announcement} {o : Option Announcement} → o ≡ None → o ≡ Some a → ⊥
none_some x y = let z : None ≡ Some _ = sym x ∙ y in cc

-- nothing announced on the cached side: nothing on either side
last_none : (w : PlainWorld) (p n : ℕ) → n ≤ RECORDS → announcement_of (last_announcement w.counted p n) ≡ None → last_announcement w.counted p n ≡ 0
last_none w p zero few is = refl
last_none w p (suc n) few is = absurd (none_some is (read n (phase_among w.counted p n) (omega arith)))

-- a stopped process that announces nothing has 0 on both sides of its announcement
pub unannounced : (w : PlainWorld) (p : ℕ) (o : Option PlainIssue) → DoubtFits w p o → announcement_of (w.memory.cached (Announce p)) ≡ None
    → (w.memory.cached (Announce p) ≡ 0) × (w.memory.persisted (Announce p) ≡ 0)
unannounced w p None h is =
    let zero' = last_none w p h.next h.rest.number (ap announcement_of (sym h.rest.cached) ∙ is) in
    (h.rest.cached ∙ zero', h.rest.persisted ∙ zero')
unannounced w p (Some issue) h is = at h.now h.before h.order h.cached h.persisted
  where
    e : PlainEdit
    e = issue.edit

    few : e.number < RECORDS
    few = h.number

    at : (now before : Announced) → rank before ≤ rank now → w.memory.cached (Announce p) ≡ word_of w e now → w.memory.persisted (Announce p) ≡ word_of w e before → (w.memory.cached (Announce p) ≡ 0) × (w.memory.persisted (Announce p) ≡ 0)
    at last last order c v =
        let zero' = last_none w e.process e.number (omega arith) (ap announcement_of (sym c) ∙ is) in
        (c ∙ zero', v ∙ zero')
    at last pending order c v = absurd (omega arith)
    at last (ended how) order c v = absurd (omega arith)
    at pending before order c v = absurd (none_some (ap announcement_of (sym c) ∙ is) (read e.number phase.Pending few))
    at (ended how) before order c v = absurd (none_some (ap announcement_of (sym c) ∙ is) (read e.number (phase_of how) few))

-- an edit ended as done or as not done, by the list
pub phases : (es : List PlainEdit) (p n : ℕ) → (phase_among es p n ≡ phase.Done) ⊎ (phase_among es p n ≡ phase.NotDone)
phases [] p n = inr refl
phases (x ∷ es) p n = choose (is_edit_of p n x) (phase_among es p n) (phases es p n)
  where
    choose : (b : Bool) (f : Phase) → (f ≡ phase.Done) ⊎ (f ≡ phase.NotDone) → ((if b then phase.Done else f) ≡ phase.Done) ⊎ ((if b then phase.Done else f) ≡ phase.NotDone)
    choose true f h = inl refl
    choose false f h = h

not_pending : (es : List PlainEdit) (p n m : ℕ) → announcement n (phase_among es p n) ≡ announcement m phase.Pending → ⊥
not_pending es p n m is = elim (phases es p n) [
  | inl done ↦ (let k : announcement n phase.Done ≡ announcement m phase.Pending = ap (λ (f : Phase). announcement n f) (sym done) ∙ is in omega arith)
  | inr lost ↦ (let k : announcement n phase.NotDone ≡ announcement m phase.Pending = ap (λ (f : Phase). announcement n f) (sym lost) ∙ is in omega arith)
]

last_not_pending : (es : List PlainEdit) (p n m : ℕ) → last_announcement es p n ≡ announcement m phase.Pending → ⊥
last_not_pending es p zero m is = omega arith
last_not_pending es p (suc n) m is = not_pending es p n m is

-- the edit that is announced as pending is in doubt
pub record IsDoubted (w : PlainWorld) (p n : ℕ) (o : Option PlainIssue) : Type 0 where
  pub issue : PlainIssue
  pub issued : o ≡ Some issue
  pub number : issue.edit.number ≡ n
  pub doubt : IsInDoubt w p issue
  pub now : doubt.now ≡ pending

-- what a stopped process announces as pending is its edit in doubt
pub pending_open : (w : PlainWorld) (p n : ℕ) (o : Option PlainIssue) → DoubtFits w p o → w.memory.cached (Announce p) ≡ announcement n phase.Pending → IsDoubted w p n o
pending_open w p n None h is = absurd (last_not_pending w.counted p h.next n (sym h.rest.cached ∙ is))
pending_open w p n (Some issue) h is = at h.now refl h.cached
  where
    e : PlainEdit
    e = issue.edit

    at : (a : Announced) → h.now ≡ a → w.memory.cached (Announce p) ≡ word_of w e a → IsDoubted w p n (Some issue)
    at last same c = absurd (last_not_pending w.counted e.process e.number n (sym c ∙ is))
    at pending same c = record { issue = issue; issued = refl; number = (let k = sym c ∙ is in omega arith); doubt = h; now = same }
    at (ended outcome.Done) same c = absurd (let k = sym c ∙ is in omega arith)
    at (ended (outcome.Overtaken a b)) same c = absurd (let k = sym c ∙ is in omega arith)

-- the header of its record reads back
-- an announcement of how the edit ended before this one
pub last_number : (w : PlainWorld) (p n word : ℕ) (how : Bool) → last_announcement w.counted p n ≡ word → Tells word how → n ≡ word / 4
last_number w p zero word true is k = absurd (let i = k.is in omega arith)
last_number w p zero word false is k = absurd (let i = k.is in omega arith)
last_number w p (suc n) word how is k = elim (phases w.counted p n) [
  | inl done ↦ (let same : announcement n phase.Done ≡ word = ap (λ (f : Phase). announcement n f) (sym done) ∙ is in omega arith)
  | inr lost ↦ (let same : announcement n phase.NotDone ≡ word = ap (λ (f : Phase). announcement n f) (sym lost) ∙ is in omega arith)
]

pub recorded_reads : (w : PlainWorld) (p : ℕ) (issue : PlainIssue) → (h : IsInDoubt w p issue) → IsRecorded w First issue.edit 1 1 → (word : ℕ) → word ≡ w.memory.cached (Header p issue.edit.number) → cell_from (header_of (cells_of w.layout) word) ≡ issue.edit.cell
recorded_reads w p issue h written word is =
    let e : PlainEdit = issue.edit in
    let few = h.text in
    let there = is ∙ ap (λ (q : ℕ). w.memory.cached (Header q e.number)) (sym h.mine) ∙ written.cached 0 (omega arith) in
    let room = h.cell in
    let m = w.layout.limited in
    let back = header_of-header_word (cells_of w.layout) (record { cell = e.cell; length = length e.text }) (record { cell = omega arith; length = omega arith }) (record { cell = h.cell; length = h.text }) in
    ap (λ (x : ℕ). cell_from (header_of (cells_of w.layout) x)) there ∙ ap cell_from back

-- a header read under a pending announcement names the cell of the edit in doubt
pub header_reads : (w : PlainWorld) (p : ℕ) (issue : PlainIssue) → (h : IsInDoubt w p issue) → h.now ≡ pending → (word : ℕ) → word ≡ w.memory.cached (Header p issue.edit.number) → cell_from (header_of (cells_of w.layout) word) ≡ issue.edit.cell
header_reads w p issue h now word is = recorded_reads w p issue h (subst (λ (a : Announced). Rattle.ds_state.specs.CallsFit.IsWritten w issue.edit a) now h.written) word is

-- where the announcement is the edit's own, and says how it ended, its record stands
ended_written : (w : PlainWorld) (p word : ℕ) (how : Bool) (issue : PlainIssue) (h : IsInDoubt w p issue) → w.memory.cached (Announce p) ≡ word → Tells word how → issue.edit.number + 1 ≡ word / 4
    → IsRecorded w First issue.edit 1 1
ended_written w p word how issue h there tells own = by h.now h.cached h.written
  where
    by : (a : Announced) → w.memory.cached (Announce p) ≡ word_of w issue.edit a → Rattle.ds_state.specs.CallsFit.IsWritten w issue.edit a → IsRecorded w First issue.edit 1 1
    by last c written = absurd (let n : issue.edit.number ≡ word / 4 = last_number w issue.edit.process issue.edit.number word how (sym c ∙ there) tells in omega arith)
    by pending c written = written
    by (ended end) c written = written

-- a header read under an announced outcome names the cell of the edit in doubt, where that has the number
pub ended_reads : (w : PlainWorld) (p word : ℕ) (how : Bool) (issue : PlainIssue) → IsInDoubt w p issue → w.memory.cached (Announce p) ≡ word → Tells word how → issue.edit.number + 1 ≡ word / 4
    → (seen : ℕ) → seen ≡ w.memory.cached (Header p (word / 4 - 1)) → cell_from (header_of (cells_of w.layout) seen) ≡ issue.edit.cell
ended_reads w p word how issue h there tells own seen is =
    let n : word / 4 - 1 ≡ issue.edit.number = omega arith in
    recorded_reads w p issue h (ended_written w p word how issue h there tells own) seen (is ∙ ap (λ (k : ℕ). w.memory.cached (Header p k)) n)

-- a cell's head shows its last edit
pub shows_last : (w : PlainWorld) → IsSound w → (cell p n : ℕ) (before : List PlainEdit) (by : PlainEdit) → of_cell cell w.counted ≡ before ++ by ∷ [] → (word : ℕ) → word ≡ w.memory.cached (Head cell)
    → is_shown p n (head_of w.layout.processes word) ≡ (if by.process == p then by.number == n else false)
shows_last w sound cell p n before by parts word is =
    ap (λ (x : ℕ). is_shown p n (head_of w.layout.processes x)) (is ∙ (sound.words (Head cell)).last) ∙ ap (λ h. is_shown p n h) (head_reads w sound cell before by parts)

both_eq : (a p b n : ℕ) → (if a == p then b == n else false) ≡ true → (a ≡ p) × (b ≡ n)
both_eq a p b n h = elim (eqb_tells a p) [
  | inr other ↦ absurd (let k : false ≡ true = sym (ap (λ (x : Bool). if x then b == n else false) other.0) ∙ h in cc)
  | inl same ↦ elim (eqb_tells b n) [
    | inr apart ↦ absurd (let k : false ≡ true = sym (ap (λ (x : Bool). if x then b == n else false) same.0 ∙ apart.0) ∙ h in cc)
    | inl is ↦ (same.1, is.1)
  ]
]

-- the test of a head's process and number holds where both are equal
pub shown_own : (a p b n : ℕ) → a ≡ p → b ≡ n → (if a == p then b == n else false) ≡ true
shown_own a p b n x y = elim (eqb_tells a p) [
  | inr other ↦ absurd (other.1 x)
  | inl same ↦ elim (eqb_tells b n) [
    | inr apart ↦ absurd (apart.1 y)
    | inl is ↦ ap (λ (z : Bool). if z then b == n else false) same.0 ∙ is.0
  ]
]

-- a linearized edit has no number above all linearized ones of its process
pub not_below : (w : PlainWorld) (f e : PlainEdit) → Contains w.counted f → f.process ≡ e.process → f.number ≡ e.number → AreBelow w e.process e.number → ⊥
not_below w f e there p n below =
    let less : f.number < e.number = All-contains (λ (g : PlainEdit). g.process ≡ e.process → g.number < e.number) w.counted f below there p in
    omega arith

no_head : head_after_all [] ≡ 0
unfolding head_after_all
no_head = refl

-- the head shows the edit in doubt: it is linearized
pub shown_in : (w : PlainWorld) → IsSound w → (p : ℕ) (issue : PlainIssue) → IsInDoubt w p issue → (word : ℕ) → word ≡ w.memory.cached (Head issue.edit.cell)
    → is_shown p issue.edit.number (head_of w.layout.processes word) ≡ true → (own : ℕ) × IsIn w issue.edit own
shown_in w sound p issue h word is shown = at h.standing h.stands
  where
    e : PlainEdit
    e = issue.edit

    at : (s : Standing) → StandsAs w e s → (own : ℕ) × IsIn w e own
    at (inside own) k = (own, k)
    at safe k = (k.safe.own, record { below = k.below; head = k.safe.head })
    at outside k = elim (last_cases (of_cell e.cell w.counted)) [
      | inl none ↦ absurd (
          let zero' : word ≡ 0 = is ∙ (sound.words (Head e.cell)).last ∙ ap head_after_all none ∙ no_head in
          let no : is_shown p e.number (head_of w.layout.processes word) ≡ false = ap (λ (x : ℕ). is_shown p e.number (head_of w.layout.processes x)) zero' in
          let bad : false ≡ true = sym no ∙ shown in
          cc)
      | inr found ↦ absurd (
          let same = both_eq found.1.process p found.1.number e.number (sym (shows_last w sound e.cell p e.number found.0 found.1 found.2 word is) ∙ shown) in
          not_below w found.1 e (gave_counts w e.cell _ found.1 (record { before = found.0; after = []; parts = found.2; is = refl })) (same.0 ∙ sym h.mine) same.1 k)
    ]

-- it does not: it is not linearized, or is passed
pub not_shown : (w : PlainWorld) → IsSound w → (p : ℕ) (issue : PlainIssue) → IsInDoubt w p issue → (word : ℕ) → word ≡ w.memory.cached (Head issue.edit.cell)
    → is_shown p issue.edit.number (head_of w.layout.processes word) ≡ false → AreBelow w issue.edit.process issue.edit.number ⊎ (IsPassed w issue.edit × AreBelow w issue.edit.process (issue.edit.number + 1))
not_shown w sound p issue h word is shown = at h.standing h.stands
  where
    e : PlainEdit
    e = issue.edit

    passed : (own : ℕ) → IsIn w e own → (after : List PlainEdit) → (before : List PlainEdit) → of_cell e.cell w.counted ≡ before ++ e ∷ after → IsPassed w e
    passed own k [] before parts = absurd (
        let bad : true ≡ false = sym (shown_own e.process p e.number e.number h.mine refl) ∙ sym (shows_last w sound e.cell p e.number before e parts word is) ∙ shown in
        cc)
    passed own k (next ∷ after) before parts = record { before = before; next = next; after = after; parts = parts }

    at : (s : Standing) → StandsAs w e s → AreBelow w e.process e.number ⊎ (IsPassed w e × AreBelow w e.process (e.number + 1))
    at outside k = inl k
    at (inside own) k = inr (passed own k k.head.after k.head.before k.head.parts, k.below)
    at safe k = inr (passed k.safe.own (record { below = k.below; head = k.safe.head }) k.safe.head.after k.safe.head.before k.safe.head.parts, k.below)

-- its done bit is set: it is safe
pub bit_tells : (w : PlainWorld) → IsSound w → (e : PlainEdit) → e.number < RECORDS → AreBelow w e.process e.number ⊎ (IsPassed w e × AreBelow w e.process (e.number + 1))
    → HasBit (w.memory.cached (done_place e.process e.number)) e.number → IsSafelyIn w e
bit_tells w sound e few stands bit =
    let kept : IsKept w e.process e.number = (sound.words (done_place e.process e.number)).told e.number few refl bit in
    let there : Contains w.counted kept.edit = gave_counts w kept.edit.cell kept.safe.own kept.edit kept.safe.head in
    elim stands [
      | inl out ↦ absurd (not_below w kept.edit e there kept.process_is kept.number_is out)
      | inr o ↦ (
          let mine : Contains w.counted e = gave_counts w e.cell _ e (record { before = o.0.before; after = o.0.next ∷ o.0.after; parts = o.0.parts; is = refl }) in
          let same : kept.edit ≡ e = same_edit w.counted kept.edit e sound.increasing there mine kept.process_is kept.number_is in
          record { below = o.1; safe = subst (λ (f : PlainEdit). IsSafe w f) same kept.safe })
    ]

-- it is not: it is not linearized
pub no_bit_tells : (w : PlainWorld) → IsSound w → (e : PlainEdit) → AreBelow w e.process e.number ⊎ (IsPassed w e × AreBelow w e.process (e.number + 1))
    → (HasBit (w.memory.cached (done_place e.process e.number)) e.number → ⊥) → AreBelow w e.process e.number
no_bit_tells w sound e stands bit = elim stands [
  | inl out ↦ out
  | inr o ↦ absurd (
      let fits = sound.words (done_place e.process e.number) in
      bit (HasBit-subset (w.memory.persisted (done_place e.process e.number)) (w.memory.cached (done_place e.process e.number)) e.number fits.sides
      (fits.superseded e.number refl (record { edit = e; process_is = refl; number_is = refl; before = o.0.before; next = o.0.next; after = o.0.after; parts = o.0.parts }))))
]
