-- The seats of a new sheet are taken, and make edits.
use Rattle.std.proofs.Common.{ℕ, ◌≡◌, ◌<◌, ◌+◌, ◌++◌, ◌∷◌, [], List, false, length, get_or, sym, ap, subst, ◌∙◌, ⊎_elim, arith}
use Rattle.std.specs.Prelude.{slice_set}
use Rattle.std.proofs.lemmas.List.{get_or-set_same, get_or-set_other, get_or_default, length-set}
use Rattle.std.proofs.lemmas.List.{get_or_push, get_or_append_left}
use Rattle.std.proofs.lemmas.Bool.Decides.{eqb_tells}
use Rattle.std.proofs.lemmas.Bool.{cases_lt}
use Rattle.std.specs.Arc.{arc_value}
use mathlib.Core.List.{IsPrefix}
use Rattle.rtrb.specs.Ring.{known_items}
use Rattle.ds_shared.specs.declared.pass.Pass.{Pass}
use Rattle.ds_shared.specs.declared.sheet.SharedSheet.{SharedSheet}
use Rattle.ds_shared.specs.Answers.{IsFresh}
use Rattle.ds_shared_seats.specs.declared.ring.Home.{Home}
use Rattle.ds_shared_seats.specs.declared.seat.Seat.{Seat}
use Rattle.ds_shared_seats.specs.declared.sheet.OpenSheet.{OpenSheet}
use Rattle.ds_shared_seats.specs.Sheets.{AllFresh, IsSeatOf, Takes}
use Rattle.ds_layout.specs.declared.layout.Layout.{Layout}
use Rattle.ds_state.specs.declared.answer.EditEnd.TheVariants.{Done}
use Rattle.ds_shared.specs.declared.ended.Ended.TheVariants.{Answered}
use Rattle.ds_shared_seats.specs.Calls.{Edits}
use Rattle.ds_store_journal.specs.Journals.{KeptEdit}
use Rattle.ds_store.specs.Stores.{AreFresh, AreSeated, HaveMade, IsMadeBy, MakesEdit, STEPS_MOST}

-- a seat of this process, whose pass has begun no call
pub record IsNewSeat (s : SharedSheet) (process : ℕ) (seat : Seat) : Type 0 where
  pub of : IsSeatOf s seat
  pub process_is : seat.pass.process ≡ process
  pub fresh : IsFresh false seat.pass

-- all seats up to this process
abbrev pub AreNew : SharedSheet → ℕ → List Seat → Type 0
AreNew s count seats = (k : ℕ) (d : Seat) → k < count → IsNewSeat s k (get_or seats k d)

-- what comes out of a home in which one pass lay is that pass
only_one : (known : List Pass) (p q : Pass) (rest : List Pass) → known ≡ p ∷ [] → IsPrefix known (q ∷ rest) → p ≡ q
only_one known p q rest is prefix = head_is (subst (λ k. IsPrefix k (q ∷ rest)) is prefix) where
  head_is : IsPrefix (p ∷ []) (q ∷ rest) → p ≡ q
  head_is pre = ap (λ l. get_or l 0 p) pre.1

-- a seat that is taken from homes of which this one is as it was at first
pub taken : (first old new : OpenSheet) (seat : Seat) (process : ℕ) (d : Home) → AllFresh false first → get_or old.homes.items process d ≡ get_or first.homes.items process d
    → process < length first.homes.items → arc_value old.sheet ≡ arc_value first.sheet → Takes process old new seat → IsNewSeat (arc_value first.sheet) process seat
taken first old new seat process d fresh same low sheet takes =
    let home = fresh process d low in
    let came = takes.came d in
    let known = ap (λ (h : Home). known_items h.end) same ∙ home.1 in
    record {
      of = subst (λ s. IsSeatOf s seat) sheet takes.seat_of;
      process_is = takes.process_is;
      fresh = subst (IsFresh false) (only_one (known_items (get_or old.homes.items process d).end) home.0 seat.pass came.0 known came.1) home.2;
    }

-- an element of a list that has one at this place
pub element : {X : Type 0} (xs : List X) (n : ℕ) → n < length xs → X
element [] n low = absurd (omega (arith, low))
element (x ∷ xs) n low = x

-- one seat more
pub one_more : (s : SharedSheet) (seats : List Seat) (seat : Seat) (n : ℕ) → length seats ≡ n → AreNew s n seats → IsNewSeat s n seat → AreNew s (n + 1) (seats ++ seat ∷ [])
one_more s seats seat n long are is k d low = ⊎_elim
    (λ below.
    let under : k < length seats = omega (arith, below, long) in
    subst (IsNewSeat s k) (sym (get_or_append_left seats (seat ∷ []) d k under)) (are k d below))
    (λ above.
    let at : length seats ≡ k = omega (arith, above, low, long) in
    let same : n ≡ k = omega (arith, at, long) in
    subst (IsNewSeat s k) (sym (get_or_push seats seat d k at)) (subst (λ j. IsNewSeat s j seat) same is))
    (cases_lt k n)

-- the seats of all processes
pub all_seated : (s : SharedSheet) (seats : List Seat) → length seats ≡ s.board.layout.processes → AreNew s (length seats) seats → AreSeated s seats
all_seated s seats count are = record {
  count = count;
  of = λ k d low. (are k d low).of;
  process_is = λ k d low. (are k d low).process_is;
}

pub all_fresh : (s : SharedSheet) (seats : List Seat) → AreNew s (length seats) seats → AreFresh seats
all_fresh s seats are k d low = (are k d low).fresh

-- a seat in the place of one of its process and sheet
pub still_seated : (s : SharedSheet) (seats : List Seat) (n : ℕ) (seat : Seat) → n < length seats → IsSeatOf s seat → seat.pass.process ≡ n → AreSeated s seats → AreSeated s (slice_set seats n seat)
still_seated s seats n seat low of is are = record {
  count = length-set seats n seat ∙ are.count;
  of = λ k d below. let under : k < length seats = let long = length-set seats n seat in omega (arith, below, long) in ⊎_elim
      (λ here. subst (IsSeatOf s) (sym (ap (λ j. get_or (slice_set seats n seat) j d) here.1 ∙ get_or-set_same seats n seat d low)) of)
      (λ apart. subst (IsSeatOf s) (sym (get_or-set_other seats n k seat d apart.1)) (are.of k d under))
      (eqb_tells k n);
  process_is = λ k d below. let under : k < length seats = let long = length-set seats n seat in omega (arith, below, long) in ⊎_elim
      (λ here. ap (λ (t : Seat). t.pass.process) (ap (λ j. get_or (slice_set seats n seat) j d) here.1 ∙ get_or-set_same seats n seat d low) ∙ (is ∙ sym here.1))
      (λ apart. ap (λ (t : Seat). t.pass.process) (get_or-set_other seats n k seat d apart.1) ∙ are.process_is k d under)
      (eqb_tells k n);
}

-- one edit more is made
pub made_more : (layout : Layout) (edits : List KeptEdit) (s : SharedSheet) (seats : List Seat) (edit : KeptEdit) (before after : Seat) → edit.process < length seats → get_or seats edit.process after ≡ before
    → Edits s edit.cell edit.text STEPS_MOST before.pass after.pass (Answered (Done edit.number)) → IsMadeBy layout edits s seats → IsMadeBy layout (edits ++ edit ∷ []) s (slice_set seats edit.process after)
made_more layout edits s seats edit before after low was does made = record {
  layout_is = made.layout_is;
  words = made.words;
  first = made.first;
  fresh = made.fresh;
  seated = made.seated;
  made = HaveMade.one edits edit seats (slice_set seats edit.process after) made.made makes;
} where
  makes : MakesEdit s seats edit (slice_set seats edit.process after)
  makes = record {
    there = low;
    edits = λ d.
        let is : before ≡ get_or seats edit.process d = sym was ∙ get_or_default seats edit.process after d low in
        let now : after ≡ get_or (slice_set seats edit.process after) edit.process d = sym (get_or-set_same seats edit.process after d low) in
        subst (λ (b : Seat). Edits s edit.cell edit.text STEPS_MOST b.pass (get_or (slice_set seats edit.process after) edit.process d).pass (Answered (Done edit.number))) is
        (subst (λ (a : Seat). Edits s edit.cell edit.text STEPS_MOST before.pass a.pass (Answered (Done edit.number))) now does);
    others = λ k d apart. get_or-set_other seats edit.process k after d apart;
  }
