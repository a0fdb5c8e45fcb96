-- Each step of work leaves fewer.
use Rattle.std.proofs.Common.{ℕ, ◌≡◌, ◌<◌, ◌≤◌, ◌+◌, ◌-◌, ◌*◌, ◌/◌, ◌^◌, ◌==◌, ◌&&◌, Bool, true, false, if◌then◌else◌, nat_lt, List, [], ◌∷◌, ◌++◌, take, Option, Some, None, refl, arith, length}
use Rattle.std.proofs.lemmas.List.{length-set}
use Rattle.ds_formula.specs.Plain.{PlainContent}
use Rattle.ds_eval.specs.declared.inputs.Entry.{Entry}
use Rattle.ds_eval.specs.declared.inputs.Input.{Input}
use Rattle.ds_eval.specs.Inputs.{cell_in, with_entry}
use Rattle.ds_layout.specs.declared.head.Head.{Head}
use Rattle.ds_layout.specs.declared.header.Header.{Header}
use Rattle.ds_layout.specs.declared.mark.State.{State}
use Rattle.ds_layout.specs.declared.mark.State.TheVariants.{Clean, Marked, Held}
use Rattle.ds_layout.specs.Head.{head_of}
use Rattle.ds_layout.specs.Header.{header_of}
use Rattle.ds_layout.specs.Mark.{mark_of, state_of, held_after}
use Rattle.ds_layout.specs.TextWords.{bytes_of}
use Rattle.ds_state.specs.Works.{PlainWorkCall, IsWork}
use Rattle.ds_state.specs.Standing.{shown_entry, value_for, word_for}
use Rattle.ds_state.specs.Telling.{told_from}
use Rattle.ds_state.proofs.Telling.{ToldFits, first_told}
use Rattle.ds_state.specs.declared.work.WorkStage.{WorkStage}
use Rattle.ds_state.specs.declared.work.WorkEnd.TheVariants.{Missed, Worn, Published, NoMemory}
use Rattle.ds_state.specs.declared.work.WorkStage.TheVariants.{LoadMark, Claim, FlushClaim, BackClaim, LoadHead, LoadHeader, LoadText, Read, LoadValue, LoadKind, LoadOwnValue, LoadOwnKind, Wait, StoreValue, StoreKind, FlushValue, FlushKind, BackValue, BackKind, Telling, Clear, ClearDirty, Give, GiveDirty, FlushCleared, BackCleared, Answer}
use Rattle.ds_state.specs.declared.spread.Spread.TheVariants.{LoadRow, OrTold, FlushTold, BackTold}
use Rattle.ds_work.specs.WorkSteps.{at, next_at, claims_from, head_from, header_from, text_from, told, tell_from, read_from, offered}
use Rattle.ds_work.specs.WorkRank.{left, steps_left, Falls}
use Rattle.ds_state.specs.Shown.{header_in}
use Rattle.ds_state.proofs.ReadBack.{header_in_fits, most_small}

-- what holds of both branches holds of a test
below : (r n : ℕ) (b : Bool) (x y : PlainWorkCall) → (b ≡ true → steps_left r x < n) → (b ≡ false → steps_left r y < n) → steps_left r (if b then x else y) < n
below r n true x y h k = h refl
below r n false x y h k = k refl

module _ (r : ℕ) (e : PlainWorkCall) (word : ℕ) where
  by_state : (st : State) → steps_left r (claims_from e word st) < left r e LoadMark
  by_state Clean = omega arith
  by_state (Held p) = omega arith
  by_state Marked = below r (left r e LoadMark) (nat_lt (2 ^ 58) (word / 32)) (at e (Answer Worn)) (record e { mark = word; stage = Claim }) (λ b. omega arith) (λ b. omega arith)

  by_head : (o : Option Head) → steps_left r (head_from e word o) < left r e LoadHead
  by_head None = omega arith
  by_head (Some head) = omega arith

  text_falls : (f : PlainWorkCall) (part n : ℕ) → left r f Read < n → ((f.length + 7) / 8 - part + left r f Read < n) → steps_left r (text_from f part) < n
  text_falls f part n none some = below r n (nat_lt part ((f.length + 7) / 8)) (at f (LoadText part)) (at f Read) (λ b. omega (arith, some)) (λ b. none)

  by_header : (o : Option Header) → header_in e.edition (header_of e.cells word) ≡ o → steps_left r (header_from e o) < left r e LoadHeader
  by_header None is = omega arith
  by_header (Some header) is = text_falls (record e { length = header.length; text = [] }) 0 (left r e LoadHeader) (omega arith) (let small = most_small e.edition in let short = header_in_fits e.edition (header_of e.cells word) header is in omega (arith, short, small))

  told_falls : (row : List ℕ) (n from k : ℕ) (o : Option ℕ) → ToldFits row n from o → 5 + 3 * (e.cells - from) < k → (f : PlainWorkCall) → f.cells ≡ e.cells → steps_left r (told f o) < k
  told_falls row n from k None first lt f same = omega (arith, lt)
  told_falls row n from k (Some d) first lt f same = let l = first.0 in omega (arith, lt, l, same)

  tells : (from k : ℕ) → 5 + 3 * (e.cells - from) < k → (row : List ℕ) → steps_left r (tell_from (record e { row = row }) from) < k
  tells from k lt row = told_falls row (e.cells - from) from k (told_from row (e.cells - from) from) (first_told row (e.cells - from) from) lt (record e { row = row }) refl

  pub falls : (s : WorkStage) → IsWork (at e s) → Falls r e (next_at e s word) s
  falls LoadMark h = by_state (state_of (mark_of e.processes word))
  falls Claim h = below r (left r e Claim) (word == e.mark) (record e { mark = held_after e.process e.mark; stage = FlushClaim }) (at e (Answer Missed)) (λ b. omega arith) (λ b. omega arith)
  falls FlushClaim h = omega arith
  falls BackClaim h = omega arith
  falls LoadHead h = by_head (head_of e.processes word)
  falls LoadHeader h = by_header (header_in e.edition (header_of e.cells word)) refl
  falls (LoadText part) h = text_falls (record e { text = take e.length (e.text ++ bytes_of word) }) (part + 1) (left r e (LoadText part)) (let l = h.stage in omega (arith, l)) (let l = h.stage in omega (arith, l))
  falls Read h = tt
  falls (LoadValue i) h = omega arith
  falls (LoadKind i value) h =
      let l = h.stage in
      let same = length-set e.inputs i (record { cell = cell_in e.inputs i; entry = shown_entry e.cells value word }) in
      below r (left r e (LoadKind i value)) (nat_lt (i + 1) (length (with_entry e.inputs i (shown_entry e.cells value word))))
      (record e { inputs = with_entry e.inputs i (shown_entry e.cells value word); stage = LoadValue (i + 1) }) (record e { inputs = with_entry e.inputs i (shown_entry e.cells value word); stage = LoadOwnValue })
      (λ b. omega (arith, l, same)) (λ b. omega (arith, l))
  falls LoadOwnValue h = omega arith
  falls LoadOwnKind h = omega arith
  falls Wait h = tt
  falls StoreValue h = omega arith
  falls StoreKind h = omega arith
  falls FlushValue h = omega arith
  falls FlushKind h = omega arith
  falls BackValue h = omega arith
  falls BackKind h = omega arith
  falls (Telling (LoadRow part)) h =
      let l = h.stage.1 in
      below r (left r e (Telling (LoadRow part))) (nat_lt (part + 1) ((e.cells + 63) / 64)) (record e { row = e.row ++ word ∷ []; stage = Telling (LoadRow (part + 1)) }) (tell_from (record e { row = e.row ++ word ∷ [] }) 0)
      (λ b. omega (arith, l)) (λ b. tells 0 (left r e (Telling (LoadRow part))) (omega (arith, l)) (e.row ++ word ∷ []))
  falls (Telling (OrTold d)) h = omega arith
  falls (Telling (FlushTold d)) h = omega arith
  falls (Telling (BackTold d)) h = let l = h.stage in tells (d + 1) (left r e (Telling (BackTold d))) (omega (arith, l)) e.row
  falls (Clear changed) h = below r (left r e (Clear changed)) (word == e.mark) (at e (FlushCleared (Published changed))) (at e ClearDirty) (λ b. omega arith) (λ b. omega arith)
  falls ClearDirty h = omega arith
  falls Give h = below r (left r e Give) (word == e.mark) (at e (FlushCleared NoMemory)) (at e GiveDirty) (λ b. omega arith) (λ b. omega arith)
  falls GiveDirty h = omega arith
  falls (FlushCleared end) h = omega arith
  falls (BackCleared end) h = omega arith
  falls (Answer end) h = tt

-- each step of work but the answer's leaves fewer
pub each_falls : (r word : ℕ) (e : PlainWorkCall) → IsWork e → Falls r e (next_at e e.stage word) e.stage
each_falls r word e h = falls r e word e.stage h

-- reading, giving up and an offer leave fewer too
pub reading_falls : (e : PlainWorkCall) (content : PlainContent) (inputs : List Input) → steps_left (length inputs) (read_from e content inputs) < left (length inputs) e Read
reading_falls e content inputs = below (length inputs) (left (length inputs) e Read) (nat_lt 0 (length inputs)) (record e { content = content; inputs = inputs; stage = LoadValue 0 }) (record e { content = content; inputs = inputs; stage = LoadOwnValue })
    (λ b. omega arith) (λ b. omega arith)

-- a reading that is out of memory leaves fewer steps
pub lacking_falls : (r : ℕ) (e : PlainWorkCall) → left r e Give < left r e Read
lacking_falls r e = omega arith

-- an offer leaves fewer steps
pub offer_falls : (r : ℕ) (e : PlainWorkCall) (entry : Entry) → steps_left r (offered e entry) < left r e Wait
offer_falls r e entry = go ((e.value == value_for entry) && (e.kind == word_for entry))
  where
    go : (b : Bool) → steps_left r (record e { entry = entry; stage = if b then Clear false else StoreValue }) < left r e Wait
    go true = omega arith
    go false = omega arith

-- work on a sheet of at most 1,024 cells has at most 2r + 3 cells + 67 steps, with r references at most
pub few : (r : ℕ) (e : PlainWorkCall) → e.cells ≤ 1024 → left r e LoadMark ≤ 2 * r + 3 * e.cells + 67
few r e most = omega (arith, most)
