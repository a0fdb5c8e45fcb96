-- A recovery finds out about the edit in doubt.
use Rattle.std.proofs.Common.{ℕ, ◌≡◌, ◌<◌, ◌+◌, ◌%◌, ◌==◌, ◌⊎◌, [], ◌∷◌, ◌++◌, refl, ap, sym, ◌∙◌, subst, arith, inl, inr, Some, None, true, false}
use Rattle.std.specs.Prelude.{Option, Bool, if◌then◌else◌}
use Rattle.std.specs.Int.{bit_at}
use Rattle.std.proofs.lemmas.Bool.{eqb-true, eq-eqb}
use Rattle.ds_words.specs.Memory.{SameMemory}
use Rattle.ds_layout.specs.declared.header.Header as headers
use Rattle.ds_layout.specs.declared.place.TheConstants.{RECORDS}
use Rattle.ds_layout.specs.declared.place.Place.TheVariants.{Version, Head, Announce, Header}
use Rattle.ds_layout.specs.declared.announcement.Phase.{Phase}
use Rattle.ds_layout.specs.declared.announcement.Phase.TheVariants as phase
use Rattle.ds_layout.specs.declared.announcement.Announcement.{Announcement}
use Rattle.ds_layout.specs.Announcement.{announcement_of}
use Rattle.ds_layout.specs.Head.{head_of}
use Rattle.ds_layout.specs.Header.{header_of}
use Rattle.ds_layout.proofs.Packed.{IsAnnouncement-announcement_of, IsHeader-header_of}
use Rattle.ds_state.specs.Works.{PlainRecoverCall}
use Rattle.ds_state.specs.RecoverStages.{IsAnnounced}
use Rattle.ds_state.specs.World.{PlainEdit, PlainIssue, PlainWorld, of_cell, announcement, done_place}
use Rattle.ds_state.specs.Known.{AreBelow, IsIn}
use Rattle.ds_state.specs.Owing.{IsPending}
use Rattle.ds_state.specs.CallsFit.{RecoveryFits, IsInDoubt, DoubtFits}
use Rattle.ds_state.specs.KnownRecovery.{IsHeadersCell, Tells, phase_for, IsOpenAnd, IsPassed, SettledAs}
use Rattle.ds_layout.specs.Places.{cells_of}
use Rattle.ds_layout.specs.declared.layout.Layout.{Layout}
use Rattle.ds_state.specs.Headers.{HasCell}
use Rattle.ds_state.proofs.Saying.{announced_number}
use Rattle.ds_state.specs.Rely.{Keeps}
use Rattle.ds_state.specs.Sound.{IsSound}
use Rattle.ds_recover.specs.RecoverySteps.{StepsAt, at, number_of, announced_from, resolves_from, phase_from, cell_from, is_shown}
use Rattle.ds_state.specs.declared.recovery.RecoverStage.{RecoverStage}
use Rattle.ds_state.specs.declared.recovery.RecoverStage.TheVariants.{LoadAnnounce, LoadHeader, LoadHead, FlushHead, LoadDone, OrMark, FlushOutcome, Answer}
use Rattle.ds_state.specs.declared.situation.Situation.TheVariants.{Recovering}
use Rattle.ds_state.proofs.Frames.{Moves}
use Rattle.ds_state.proofs.Accesses.{Turn, same_moves}
use Rattle.ds_recover.proofs.RecoveryFrame.{on, turn_of, held_on, pends_on, simple_passes, loads}
use Rattle.ds_recover.proofs.RecoveryDoubt.{IsDoubted, unannounced, pending_open, header_reads, shown_in, not_shown, shows_last, shown_own, bit_tells, no_bit_tells}

same_issue : {o : Option PlainIssue} {a b : PlainIssue} → o ≡ Some a → o ≡ Some b → a ≡ b
same_issue x y = let both : Some _ ≡ Some _ = sym x ∙ y in cc

in_same : (old new : PlainWorld) → new.counted ≡ old.counted → (f : PlainEdit) (own : ℕ) → IsIn old f own → IsIn new f own
in_same old new same f own h = record { below = rw same h.below; head = rw same h.head }

-- an announcement that reads is one of a record
pub announced_of : (word : ℕ) (a : Announcement) → announcement_of word ≡ Some a → IsAnnounced word
announced_of word a is = let k = IsAnnouncement-announcement_of word a is in by a.number a.phase k.0 k.1
  where
    by : (n : ℕ) (f : Phase) → n < RECORDS → announcement n f ≡ word → IsAnnounced word
    by n phase.Pending few w = record { it = a; reads = is; some = omega arith; few = omega arith }
    by n phase.Done few w = record { it = a; reads = is; some = omega arith; few = omega arith }
    by n phase.NotDone few w = record { it = a; reads = is; some = omega arith; few = omega arith }

-- a header's cell is one of the sheet
below_by : (cells word : ℕ) (o : Option headers.Header) → header_of cells word ≡ o → 0 < cells → cell_from o < cells
below_by cells word None is some = some
below_by cells word (Some h) is some = (IsHeader-header_of cells word h is).0.cell

pub cell_below : (cells word : ℕ) → 0 < cells → cell_from (header_of cells word) < cells
cell_below cells word some = below_by cells word (header_of cells word) refl some

module _ (e : PlainRecoverCall) (word : ℕ) (old new : PlainWorld) (sound : IsSound old) (real : e.process < old.layout.processes) where
  abbrev p : ℕ
  p = e.process

  -- the announcement
  module _ (was : old.situation e.process ≡ Recovering (at e LoadAnnounce)) (fits : RecoveryFits old e.process (at e LoadAnnounce)) (t : StepsAt e LoadAnnounce word old new) where
    m : SameMemory old.memory new.memory
    m = t.memory.1

    tn : Turn p old new
    tn = turn_of e LoadAnnounce word old new real was tt t

    moves : Moves p Version old new
    moves = same_moves p old new tn m

    no_pending : announcement_of word ≡ None → (c : ℕ) → IsPending old p c → ⊥
    no_pending is c k =
        let none = unannounced old p (old.open_edits p) fits.doubt (ap announcement_of (sym t.memory.0) ∙ is) in
        let there = k.cached in
        let zero' = none.0 in
        omega arith

    go : (a : Option Announcement) → announcement_of word ≡ a → Keeps p old new
    go None is = loads e e.mark e.row word e.cell LoadAnnounce (Answer None) old new sound was fits real tn (t.situation ∙ ap (λ o. Recovering (announced_from e word o)) is) t.open_edits
        (simple_passes p e.row LoadAnnounce e.row (Answer None) old new (held_on p old new moves) (pends_on p old new moves t.open_edits)
        (λ r c x bit matters held o. o) (λ c x matters k o. no_pending is c k) (λ r held o. o) (λ f before last_of issue issued same k o. no_pending is f.cell k))
        m (λ h. h) (λ h. (
        let none = unannounced old p (old.open_edits p) fits.doubt (ap announcement_of (sym t.memory.0) ∙ is) in
        let seen = t.memory.0 in
        let a = none.0 in
        let b = none.1 in
        let c = m.cached (Announce p) in
        let v = m.persisted (Announce p) in
        (omega arith, omega arith, omega arith)))
        (m.buffer p ∙ fits.buffer) tt
    go (Some a) is = loads e e.mark e.row word e.cell LoadAnnounce LoadHeader old new sound was fits real tn (t.situation ∙ ap (λ o. Recovering (announced_from e word o)) is) t.open_edits
        (simple_passes p e.row LoadAnnounce e.row LoadHeader old new (held_on p old new moves) (pends_on p old new moves t.open_edits)
        (λ r c x bit matters held o. o) (λ c x matters k o. tt) (λ r held o. o) (λ f before last_of issue issued same k o. tt))
        m (λ h. h) (λ h. m.cached (Announce p) ∙ sym t.memory.0)
        (m.buffer p ∙ fits.buffer) (announced_of word a is)

    pub step_load_announce : Keeps p old new
    step_load_announce = go (announcement_of word) refl

  -- the header of its record
  module _ (was : old.situation e.process ≡ Recovering (at e LoadHeader)) (fits : RecoveryFits old e.process (at e LoadHeader)) (t : StepsAt e LoadHeader word old new) where
    m' : SameMemory old.memory new.memory
    m' = t.memory.1

    tn' : Turn p old new
    tn' = turn_of e LoadHeader word old new real was tt t

    moves' : Moves p Version old new
    moves' = same_moves p old new tn' m'

    abbrev c' : ℕ
    c' = cell_from (header_of e.cells word)

    seen : old.memory.cached (Announce p) ≡ e.announcement
    seen = fits.resolved

    tells : (how : Bool) (a : Announcement) → announcement_of e.announcement ≡ Some a → a.phase ≡ phase_for how → Tells e.announcement how
    tells how a is phase' =
        let k = IsAnnouncement-announcement_of e.announcement a is in
        record { number = a.number; few = k.0; is = sym k.1 ∙ ap (λ (f : Phase). announcement a.number f) phase' }

    -- the number is announced, so that its header says a cell of the sheet
    its_cell : (how : Bool) (a : Announcement) → announcement_of e.announcement ≡ Some a → a.phase ≡ phase_for how → IsHeadersCell new p e.announcement c'
    its_cell how a is phase' =
        let said = (tells how a is phase').is in
        let told = announced_number (tells how a is phase').number (phase_for how) in
        let there = seen in
        let both : HasCell old p (number_of e) = sound.headers p (number_of e) (inl (omega (arith, said, told, there))) in
        let reads : header_of (cells_of old.layout) word ≡ Some both.cached.header = ap (λ x. header_of (cells_of old.layout) x) t.memory.0 ∙ both.cached.is in
        record {
          header = both.cached.header;
          is = ap (λ (l : Layout). header_of (cells_of l) (new.memory.cached (Header p (number_of e)))) t.layout ∙ ap (λ x. header_of (cells_of old.layout) x) (m'.cached (Header p (number_of e))) ∙ both.cached.is;
          of_cell = ap cell_from (sym reads) ∙ ap (λ (n : ℕ). cell_from (header_of n word)) fits.cells;
        }

    done_ends : (a : Announcement) → announcement_of e.announcement ≡ Some a → a.phase ≡ phase.Done → Keeps p old new
    done_ends a is phase' = loads e e.mark e.row e.announcement c' LoadHeader (FlushOutcome true) old new sound was fits real tn'
        (t.situation ∙ ap (λ (s : RecoverStage). Recovering (on e e.mark e.row e.announcement c' s)) (ap resolves_from is ∙ ap phase_from phase')) t.open_edits
        (simple_passes p e.row LoadHeader e.row (FlushOutcome true) old new (held_on p old new moves') (pends_on p old new moves' t.open_edits)
        (λ r c x bit matters held o. o) (λ c x matters k o. none c k) (λ r held o. o) (λ f before last_of issue issued same k o. none f.cell k))
        m' (λ h. h) (λ h. (h, tells true a is phase', its_cell true a is phase')) (m'.buffer p ∙ fits.buffer) (fits.is.stage, cell_below e.cells word fits.is.some)
      where
        none : (c : ℕ) → IsPending old p c → ⊥
        none c k = let d = (tells true a is phase').is in let x = k.cached in let s = seen in omega arith

    lost_ends : (a : Announcement) → announcement_of e.announcement ≡ Some a → a.phase ≡ phase.NotDone → Keeps p old new
    lost_ends a is phase' = loads e e.mark e.row e.announcement c' LoadHeader (FlushOutcome false) old new sound was fits real tn'
        (t.situation ∙ ap (λ (s : RecoverStage). Recovering (on e e.mark e.row e.announcement c' s)) (ap resolves_from is ∙ ap phase_from phase')) t.open_edits
        (simple_passes p e.row LoadHeader e.row (FlushOutcome false) old new (held_on p old new moves') (pends_on p old new moves' t.open_edits)
        (λ r c x bit matters held o. o) (λ c x matters k o. none c k) (λ r held o. o) (λ f before last_of issue issued same k o. none f.cell k))
        m' (λ h. h) (λ h. (h, tells false a is phase', its_cell false a is phase')) (m'.buffer p ∙ fits.buffer) (fits.is.stage, cell_below e.cells word fits.is.some)
      where
        none : (c : ℕ) → IsPending old p c → ⊥
        none c k = let d = (tells false a is phase').is in let x = k.cached in let s = seen in omega arith

    none_ends : announcement_of e.announcement ≡ None → Keeps p old new
    none_ends is = loads e e.mark e.row e.announcement c' LoadHeader (Answer None) old new sound was fits real tn'
        (t.situation ∙ ap (λ (s : RecoverStage). Recovering (on e e.mark e.row e.announcement c' s)) (ap resolves_from is)) t.open_edits
        (simple_passes p e.row LoadHeader e.row (Answer None) old new (held_on p old new moves') (pends_on p old new moves' t.open_edits)
        (λ r c x bit matters held o. o) (λ c x matters k o. none c k) (λ r held o. o) (λ f before last_of issue issued same k o. none f.cell k))
        m' (λ h. h) (λ h. (
        let z = zero' in
        let a = z.0 in
        let b = z.1 in
        let s = seen in
        let c = m'.cached (Announce p) in
        let v = m'.persisted (Announce p) in
        (omega arith, omega arith, omega arith))) (m'.buffer p ∙ fits.buffer) tt
      where
        zero' : (old.memory.cached (Announce p) ≡ 0) × (old.memory.persisted (Announce p) ≡ 0)
        zero' = unannounced old p (old.open_edits p) fits.doubt (ap announcement_of seen ∙ is)

        none : (c : ℕ) → IsPending old p c → ⊥
        none c k = let d = zero'.0 in let x = k.cached in omega arith

    goes_on : (a : Announcement) → announcement_of e.announcement ≡ Some a → a.phase ≡ phase.Pending → Keeps p old new
    goes_on a is phase' = loads e e.mark e.row e.announcement c' LoadHeader LoadHead old new sound was fits real tn'
        (t.situation ∙ ap (λ (s : RecoverStage). Recovering (on e e.mark e.row e.announcement c' s)) (ap resolves_from is ∙ ap phase_from phase')) t.open_edits
        (simple_passes p e.row LoadHeader e.row LoadHead old new (held_on p old new moves') (pends_on p old new moves' t.open_edits)
        (λ r c x bit matters held o. o) (λ c x matters k o. tt) (λ r held o. o) (λ f before last_of issue issued same k o. tt))
        m' (λ h. h) (λ h. record {
          issue = found.issue;
          it = record {
            issued = t.open_edits ∙ found.issued;
            process = found.doubt.mine;
            number = found.doubt.number;
            is = word_is ∙ ap (λ (n : ℕ). announcement n phase.Pending) (sym found.number);
            cached = h;
          };
          own_is = sym (ap (λ (n : ℕ). cell_from (header_of n word)) (sym fits.cells) ∙ header_reads old p found.issue found.doubt found.now word there);
          and = tt;
        }) (m'.buffer p ∙ fits.buffer) (fits.is.stage, cell_below e.cells word fits.is.some)
      where
        word_is : e.announcement ≡ announcement a.number phase.Pending
        word_is = sym (IsAnnouncement-announcement_of e.announcement a is).1 ∙ ap (λ (f : Phase). announcement a.number f) phase'

        found : IsDoubted old p a.number (old.open_edits p)
        found = pending_open old p a.number (old.open_edits p) fits.doubt (seen ∙ word_is)

        there : word ≡ old.memory.cached (Header p found.issue.edit.number)
        there = t.memory.0 ∙ ap (λ (n : ℕ). old.memory.cached (Header p n)) (let k : number_of e ≡ a.number = (let w = word_is in omega arith) in k ∙ sym found.number)

    by_phase : (a : Announcement) → announcement_of e.announcement ≡ Some a → (f : Phase) → a.phase ≡ f → Keeps p old new
    by_phase a is phase.Pending same = goes_on a is same
    by_phase a is phase.Done same = done_ends a is same
    by_phase a is phase.NotDone same = lost_ends a is same

    by : (o : Option Announcement) → announcement_of e.announcement ≡ o → Keeps p old new
    by None is = none_ends is
    by (Some a) is = by_phase a is a.phase refl

    pub step_load_header : Keeps p old new
    step_load_header = by (announcement_of e.announcement) refl

  -- the head of its cell
  module _ (was : old.situation e.process ≡ Recovering (at e LoadHead)) (fits : RecoveryFits old e.process (at e LoadHead)) (t : StepsAt e LoadHead word old new) where
    mh : SameMemory old.memory new.memory
    mh = t.memory.1

    th : Turn p old new
    th = turn_of e LoadHead word old new real was tt t

    movesh : Moves p Version old new
    movesh = same_moves p old new th mh

    abbrev h : IsOpenAnd old p e.announcement e.cell (λ f. Unit {0})
    h = fits.resolved

    abbrev f : PlainEdit
    f = h.issue.edit

    number_is : number_of e ≡ f.number
    number_is = let w = h.it.is in omega arith

    doubt : IsInDoubt old p h.issue
    doubt = subst (λ (o : Option PlainIssue). DoubtFits old p o) h.it.issued fits.doubt

    at_head : word ≡ old.memory.cached (Head f.cell)
    at_head = t.memory.0 ∙ ap (λ (c : ℕ). old.memory.cached (Head c)) (sym h.own_is)

    abbrev shown : Bool
    shown = is_shown p (number_of e) (head_of e.processes word)

    shown_is : shown ≡ is_shown p f.number (head_of old.layout.processes word)
    shown_is = ap (λ (n : ℕ). is_shown p n (head_of e.processes word)) number_is ∙ ap (λ (n : ℕ). is_shown p f.number (head_of n word)) (sym fits.processes)

    open_on : (P : PlainEdit → Type 0) → P f → IsOpenAnd new p e.announcement e.cell P
    open_on P and = record {
      issue = h.issue;
      it = record { issued = t.open_edits ∙ h.it.issued; process = h.it.process; number = h.it.number; is = h.it.is; cached = mh.cached (Announce p) ∙ h.it.cached };
      own_is = h.own_is;
      and = and;
    }

    head_goes : (b : Bool) → shown ≡ b → Keeps p old new
    head_goes true is = loads e e.mark e.row e.announcement e.cell LoadHead FlushHead old new sound was fits real th
        (t.situation ∙ ap (λ (b : Bool). Recovering (if b then at e FlushHead else at e LoadDone)) is) t.open_edits
        (simple_passes p e.row LoadHead e.row FlushHead old new (held_on p old new movesh) (pends_on p old new movesh t.open_edits)
        (λ r c x bit matters held o. o) (λ c x matters k o. tt) (λ r held o. o) (λ g before last_of issue issued same k o. tt))
        mh (λ k. k) (λ k. open_on (λ g. (own : ℕ) × IsIn new g own) (
        let found = shown_in old sound p h.issue doubt word at_head (sym shown_is ∙ is) in
        (found.0, in_same old new t.counted f found.0 found.1))) (mh.buffer p ∙ fits.buffer) fits.is.stage
    head_goes false is = loads e e.mark e.row e.announcement e.cell LoadHead LoadDone old new sound was fits real th
        (t.situation ∙ ap (λ (b : Bool). Recovering (if b then at e FlushHead else at e LoadDone)) is) t.open_edits
        (simple_passes p e.row LoadHead e.row LoadDone old new (held_on p old new movesh) (pends_on p old new movesh t.open_edits)
        (λ r c x bit matters held o. o) (λ c x matters k o. tt) (λ r held o. o)
        (λ g before last_of issue issued same k o. absurd (
        let is_f : g ≡ f = sym same ∙ ap (λ (i : PlainIssue). i.edit) (same_issue issued h.it.issued) in
        let mine : of_cell f.cell old.counted ≡ before ++ f ∷ [] = subst (λ (x : PlainEdit). of_cell x.cell old.counted ≡ before ++ x ∷ []) is_f last_of in
        let bad : true ≡ false = sym (shown_own f.process p f.number f.number h.it.process refl) ∙ sym (shows_last old sound f.cell p f.number before f mine word at_head) ∙ sym shown_is ∙ is in
        cc)))
        mh (λ k. k) (λ k. open_on (λ g. AreBelow new g.process g.number ⊎ (IsPassed new g × AreBelow new g.process (g.number + 1))) (
        elim (not_shown old sound p h.issue doubt word at_head (sym shown_is ∙ is)) [
          | inl out ↦ inl (rw t.counted out)
          | inr o ↦ inr (record { before = o.0.before; next = o.0.next; after = o.0.after; parts = rw t.counted o.0.parts }, rw t.counted o.1)
        ])) (mh.buffer p ∙ fits.buffer) fits.is.stage

    pub step_load_head : Keeps p old new
    step_load_head = head_goes shown refl

  -- its done bit
  module _ (was : old.situation e.process ≡ Recovering (at e LoadDone)) (fits : RecoveryFits old e.process (at e LoadDone)) (t : StepsAt e LoadDone word old new) where
    md : SameMemory old.memory new.memory
    md = t.memory.1

    td : Turn p old new
    td = turn_of e LoadDone word old new real was tt t

    movesd : Moves p Version old new
    movesd = same_moves p old new td md

    abbrev d : IsOpenAnd old p e.announcement e.cell (λ f. AreBelow old f.process f.number ⊎ (IsPassed old f × AreBelow old f.process (f.number + 1)))
    d = fits.resolved

    abbrev g : PlainEdit
    g = d.issue.edit

    number_of_g : number_of e ≡ g.number
    number_of_g = let w = d.it.is in omega arith

    at_bits : word ≡ old.memory.cached (done_place g.process g.number)
    at_bits = t.memory.0 ∙ ap (λ (n : ℕ). old.memory.cached (done_place p n)) number_of_g ∙ ap (λ (q : ℕ). old.memory.cached (done_place q g.number)) (sym d.it.process)

    bits_is : bit_at word (number_of e % 64) ≡ bit_at (old.memory.cached (done_place g.process g.number)) (g.number % 64)
    bits_is = ap (λ (n : ℕ). bit_at word (n % 64)) number_of_g ∙ ap (λ (x : ℕ). bit_at x (g.number % 64)) at_bits

    abbrev set : Bool
    set = bit_at word (number_of e % 64) == 1

    settled_on : (how : Bool) → SettledAs old g how → IsOpenAnd new p e.announcement e.cell (λ f. SettledAs new f how)
    settled_on how and = record {
      issue = d.issue;
      it = record { issued = t.open_edits ∙ d.it.issued; process = d.it.process; number = d.it.number; is = d.it.is; cached = md.cached (Announce p) ∙ d.it.cached };
      own_is = d.own_is;
      and = at_now how and;
    }
      where
        at_now : (how : Bool) → SettledAs old g how → SettledAs new g how
        at_now true k = record { below = rw t.counted k.below; safe = record { own = k.safe.own; head = rw t.counted k.safe.head; persisted = (let v = md.persisted (Head g.cell) in let l = k.safe.persisted in omega arith) } }
        at_now false k = rw t.counted k

    bit_goes : (b : Bool) → set ≡ b → Keeps p old new
    bit_goes true is = loads e e.mark e.row e.announcement e.cell LoadDone (OrMark true) old new sound was fits real td
        (t.situation ∙ ap (λ (b : Bool). Recovering (if b then at e (OrMark true) else at e (OrMark false))) is) t.open_edits
        (simple_passes p e.row LoadDone e.row (OrMark true) old new (held_on p old new movesd) (pends_on p old new movesd t.open_edits)
        (λ r c x bit matters held o. o) (λ c x matters k o. tt) (λ r held o. o) (λ g before last_of issue issued same k o. o))
        md (λ k. k) (λ k. settled_on true (bit_tells old sound g d.it.number d.and (sym bits_is ∙ eqb-true (bit_at word (number_of e % 64)) 1 is))) (md.buffer p ∙ fits.buffer) fits.is.stage
    bit_goes false is = loads e e.mark e.row e.announcement e.cell LoadDone (OrMark false) old new sound was fits real td
        (t.situation ∙ ap (λ (b : Bool). Recovering (if b then at e (OrMark true) else at e (OrMark false))) is) t.open_edits
        (simple_passes p e.row LoadDone e.row (OrMark false) old new (held_on p old new movesd) (pends_on p old new movesd t.open_edits)
        (λ r c x bit matters held o. o) (λ c x matters k o. tt) (λ r held o. o) (λ g before last_of issue issued same k o. o))
        md (λ k. k) (λ k. settled_on false (no_bit_tells old sound g d.and (λ has. (
        let bad : true ≡ false = sym (eq-eqb (bit_at word (number_of e % 64)) 1 (bits_is ∙ has)) ∙ is in
        cc)))) (md.buffer p ∙ fits.buffer) fits.is.stage

    pub step_load_done : Keeps p old new
    step_load_done = bit_goes set refl
