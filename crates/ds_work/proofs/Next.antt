-- The work after a step, field by field; it stays a work of its sheet.
use Rattle.std.proofs.Common.{ℕ, ◌≡◌, ◌≤◌, ◌+◌, ◌-◌, ◌/◌, ◌^◌, ◌==◌, Bool, true, false, if◌then◌else◌, nat_lt, List, [], ◌∷◌, ◌++◌, take, Option, Some, None, refl, ap, sym, ◌∙◌, subst, arith, length, length-append}
use Rattle.std.proofs.lemmas.Bool.{ltb-true, ltb-false}
use Rattle.std.proofs.lemmas.List.{length-take, length-set}
use Rattle.ds_formula.specs.declared.cells.Cell.{Cell}
use Rattle.ds_formula.specs.Refs.{IsPossible}
use Rattle.ds_eval.specs.declared.inputs.Entry.{Entry}
use Rattle.ds_eval.specs.declared.inputs.Input.{Input}
use Rattle.ds_eval.specs.Inputs.{cell_in, with_entry}
use Rattle.ds_eval.proofs.Cells.{cell_with}
use Rattle.ds_layout.specs.declared.head.Head.{Head}
use Rattle.ds_layout.specs.declared.header.Header.{Header}
use Rattle.ds_layout.specs.declared.mark.State.{State}
use Rattle.ds_layout.specs.declared.mark.State.TheVariants.{Clean, Marked, Held}
use Rattle.ds_layout.specs.Head.{head_of}
use Rattle.ds_layout.specs.Header.{header_of}
use Rattle.ds_layout.specs.Mark.{mark_of, state_of, held_after}
use Rattle.ds_layout.specs.TextWords.{bytes_of}
use Rattle.ds_state.specs.Works.{PlainWorkCall, IsWork, IsWorkIn, StageFits, ClaimFits, TellsFits, Differs, SEEN_MOST}
use Rattle.ds_state.specs.Standing.{shown_entry}
use Rattle.ds_state.specs.Telling.{told_from}
use Rattle.ds_state.proofs.Telling.{ToldFits, first_told, told_stands}
use Rattle.ds_state.specs.declared.work.WorkStage.{WorkStage}
use Rattle.ds_state.specs.declared.work.WorkEnd.TheVariants.{NotDirty, Missed, Worn, Published, Again, NoMemory}
use Rattle.ds_state.specs.declared.work.WorkStage.TheVariants.{LoadMark, Claim, FlushClaim, BackClaim, LoadHead, LoadHeader, LoadText, Read, LoadValue, LoadKind, LoadOwnValue, LoadOwnKind, Wait, StoreValue, StoreKind, FlushValue, FlushKind, BackValue, BackKind, Telling, Clear, ClearDirty, Give, GiveDirty, FlushCleared, BackCleared, Answer}
use Rattle.ds_state.specs.declared.spread.Spread.TheVariants.{LoadRow, OrTold, FlushTold, BackTold}
use Rattle.ds_work.specs.WorkSteps.{at, next_at, claims_from, head_from, header_from, text_from, told, tell_from}
use Rattle.ds_work.specs.declared.machine.Noting.{Noting}
use Rattle.ds_work.specs.declared.machine.Noting.TheVariants as notes
use Rattle.ds_work.specs.Noted.{mark_at, head_at, length_at, length_in, text_after, text_at, inputs_after, inputs_at, value_after, value_at, kind_after, kind_at, row_after, row_at, stage_at, seen_mark, notes_at}
use Rattle.ds_state.specs.Editions.{most_in}
use Rattle.ds_state.specs.Shown.{header_in}
use Rattle.ds_state.proofs.ReadBack.{header_in_fits, most_small}

-- the work with these changes
abbrev pub noted : PlainWorkCall → WorkStage → ℕ → PlainWorkCall
noted e s word = record {
  process = e.process;
  edition = e.edition;
  next = e.next;
  cell = e.cell;
  cells = e.cells;
  processes = e.processes;
  mark = mark_at e s word;
  head = head_at e s word;
  length = length_at e s word;
  text = text_at e s word;
  content = e.content;
  inputs = inputs_at e s word;
  value = value_at e s word;
  kind = kind_at e s word;
  entry = e.entry;
  row = row_at e s word;
  stage = stage_at e s word;
}

chosen : (b : Bool) (f : PlainWorkCall) (s t : WorkStage) → (if b then at f s else at f t) ≡ at f (if b then at f s else at f t).stage
chosen true f s t = refl
chosen false f s t = refl

told_next : (o : Option ℕ) (f : PlainWorkCall) → told f o ≡ at f (told f o).stage
told_next None f = refl
told_next (Some d) f = refl

row_next : (b : Bool) (o : Option ℕ) (f : PlainWorkCall) (s : WorkStage) → (if b then at f s else told f o) ≡ at f (if b then at f s else told f o).stage
row_next true o f s = refl
row_next false o f s = told_next o f

module _ (e : PlainWorkCall) (word : ℕ) where
  marked : (b : Bool) → (if b then at e (Answer Worn) else record e { mark = word; stage = Claim })
      ≡ record e { mark = if b then e.mark else word; stage = (if b then at e (Answer Worn) else record e { mark = word; stage = Claim }).stage }
  marked true = refl
  marked false = refl

  by_mark : (st : State) → claims_from e word st ≡ record e { mark = seen_mark e word st; stage = (claims_from e word st).stage }
  by_mark Clean = refl
  by_mark (Held p) = refl
  by_mark Marked = marked (nat_lt (2 ^ 58) (word / 32))

  claimed : (b : Bool) → (if b then record e { mark = held_after e.process e.mark; stage = FlushClaim } else at e (Answer Missed))
      ≡ record e { mark = if b then held_after e.process e.mark else e.mark; stage = (if b then record e { mark = held_after e.process e.mark; stage = FlushClaim } else at e (Answer Missed)).stage }
  claimed true = refl
  claimed false = refl

  by_head : (o : Option Head) → head_from e word o ≡ record e { head = word; length = 0; text = []; stage = (head_from e word o).stage }
  by_head None = refl
  by_head (Some head) = refl

  by_header : (o : Option Header) → header_from e o ≡ record e { length = length_in o; text = []; stage = (header_from e o).stage }
  by_header None = refl
  by_header (Some header) = chosen (nat_lt 0 ((header.length + 7) / 8)) (record e { length = header.length; text = [] }) (LoadText 0) Read

  pub next_noted : (s : WorkStage) → next_at e s word ≡ noted e s word
  next_noted LoadMark = by_mark (state_of (mark_of e.processes word))
  next_noted Claim = claimed (word == e.mark)
  next_noted FlushClaim = refl
  next_noted BackClaim = refl
  next_noted LoadHead = by_head (head_of e.processes word)
  next_noted LoadHeader = by_header (header_in e.edition (header_of e.cells word))
  next_noted (LoadText part) = chosen (nat_lt (part + 1) ((e.length + 7) / 8)) (record e { text = take e.length (e.text ++ bytes_of word) }) (LoadText (part + 1)) Read
  next_noted Read = refl
  next_noted (LoadValue i) = refl
  next_noted (LoadKind i value) = chosen (nat_lt (i + 1) (length (with_entry e.inputs i (shown_entry e.cells value word)))) (record e { inputs = with_entry e.inputs i (shown_entry e.cells value word) }) (LoadValue (i + 1)) LoadOwnValue
  next_noted LoadOwnValue = refl
  next_noted LoadOwnKind = refl
  next_noted Wait = refl
  next_noted StoreValue = refl
  next_noted StoreKind = refl
  next_noted FlushValue = refl
  next_noted FlushKind = refl
  next_noted BackValue = refl
  next_noted BackKind = refl
  next_noted (Telling (LoadRow part)) = row_next (nat_lt (part + 1) ((e.cells + 63) / 64)) (told_from (e.row ++ word ∷ []) (e.cells - 0) 0) (record e { row = e.row ++ word ∷ [] }) (Telling (LoadRow (part + 1)))
  next_noted (Telling (OrTold d)) = refl
  next_noted (Telling (FlushTold d)) = refl
  next_noted (Telling (BackTold d)) = told_next (told_from e.row (e.cells - (d + 1)) (d + 1)) e
  next_noted (Clear changed) = chosen (word == e.mark) e (FlushCleared (Published changed)) ClearDirty
  next_noted ClearDirty = refl
  next_noted Give = chosen (word == e.mark) e (FlushCleared NoMemory) GiveDirty
  next_noted GiveDirty = refl
  next_noted (FlushCleared end) = refl
  next_noted (BackCleared end) = refl
  next_noted (Answer end) = refl

-- ---- it stays a work of its sheet

staged : (e : PlainWorkCall) (s s' : WorkStage) → IsWork (at e s) → ClaimFits e s' → StageFits e s' → TellsFits e s' → IsWork (at e s')
staged e s s' h claim stage told = record {
  process = h.process;
  processes = h.processes;
  cell = h.cell;
  cells = h.cells;
  young = h.young;
  short = h.short;
  fits = h.fits;
  text = h.text;
  possible = h.possible;
  height = h.height;
  claim = claim;
  stage = stage;
  told = told;
}

-- what holds of both branches holds of a test
branches : (b : Bool) (x y : PlainWorkCall) → (b ≡ true → IsWork x) → (b ≡ false → IsWork y) → IsWork (if b then x else y)
branches true x y h k = h refl
branches false x y h k = k refl

pushed : (xs : List ℕ) (v : ℕ) → length (xs ++ v ∷ []) ≡ length xs + 1
pushed xs v = length-append xs (v ∷ [])

-- another mark, text, inputs or row
marked_as : (e : PlainWorkCall) (s : WorkStage) (mark : ℕ) (s' : WorkStage) → IsWork (at e s) → mark / 32 ≤ SEEN_MOST + 1 → ClaimFits (record e { mark = mark }) s' → StageFits e s' → TellsFits (record e { mark = mark; stage = s' }) s' → IsWork (record e { mark = mark; stage = s' })
marked_as e s mark s' h young claim stage told = record {
  process = h.process;
  processes = h.processes;
  cell = h.cell;
  cells = h.cells;
  young = young;
  short = h.short;
  fits = h.fits;
  text = h.text;
  possible = h.possible;
  height = h.height;
  claim = claim;
  stage = fits s' stage;
  told = told;
}
  where
    fits : (s' : WorkStage) → StageFits e s' → StageFits (record e { mark = mark; stage = s' }) s'
    fits (LoadText part) k = k
    fits (LoadValue i) k = k
    fits (LoadKind i value) k = k
    fits (Telling (LoadRow part)) k = k
    fits (Telling (OrTold d)) k = k
    fits (Telling (FlushTold d)) k = k
    fits (Telling (BackTold d)) k = k
    fits _ k = tt

module _ (e : PlainWorkCall) (word : ℕ) where
  texted : (s : WorkStage) (head count : ℕ) (text : List ℕ) (s' : WorkStage) → IsWork (at e s) → count ≤ most_in e.edition → length text ≤ count
      → ClaimFits e s' → StageFits (record e { head = head; length = count; text = text }) s' → TellsFits e s' → IsWork (record e { head = head; length = count; text = text; stage = s' })
  texted s head count text s' h short within claim stage told = record {
    process = h.process;
    processes = h.processes;
    cell = h.cell;
    cells = h.cells;
    young = h.young;
    short = (let m = most_small e.edition in omega arith);
    fits = short;
    text = within;
    possible = h.possible;
    height = h.height;
    claim = claim;
    stage = stage;
    told = told;
  }

  parted : (s : WorkStage) (head count part : ℕ) (text : List ℕ) → IsWork (at e s) → count ≤ most_in e.edition → length text ≤ count → IsWork (text_from (record e { head = head; length = count; text = text }) part)
  parted s head count part text h short within = branches (nat_lt part ((count + 7) / 8)) (record e { head = head; length = count; text = text; stage = LoadText part }) (record e { head = head; length = count; text = text; stage = Read })
      (λ b. texted s head count text (LoadText part) h short within tt (let l = ltb-true part ((count + 7) / 8) b in omega arith) tt)
      (λ b. texted s head count text Read h short within tt tt tt)

  by_state : (st : State) → IsWork (at e LoadMark) → IsWork (claims_from e word st)
  by_state Clean h = staged e LoadMark (Answer NotDirty) h tt tt tt
  by_state (Held p) h = staged e LoadMark (Answer Missed) h tt tt tt
  by_state Marked h = branches (nat_lt (2 ^ 58) (word / 32)) (at e (Answer Worn)) (record e { mark = word; stage = Claim }) (λ b. staged e LoadMark (Answer Worn) h tt tt tt)
      (λ b. (let young : word / 32 ≤ SEEN_MOST = (let l = ltb-false (2 ^ 58) (word / 32) b in l) in marked_as e LoadMark word Claim h (omega (arith, young)) young tt tt))

  by_top : (o : Option Head) → IsWork (at e LoadHead) → IsWork (head_from e word o)
  by_top None h = texted LoadHead word 0 [] Read h (omega arith) (omega arith) tt tt tt
  by_top (Some head) h = texted LoadHead word 0 [] LoadHeader h (omega arith) (omega arith) tt tt tt

  by_record : (o : Option Header) → header_in e.edition (header_of e.cells word) ≡ o → IsWork (at e LoadHeader) → IsWork (header_from e o)
  by_record None is h = texted LoadHeader e.head 0 [] Read h (omega arith) (omega arith) tt tt tt
  by_record (Some header) is h = parted LoadHeader e.head header.length 0 [] h (header_in_fits e.edition (header_of e.cells word) header is) (omega arith)

  with_row : (s : WorkStage) (row : List ℕ) (s' : WorkStage) → IsWork (at e s) → ClaimFits e s' → StageFits (record e { row = row }) s' → TellsFits (record e { row = row }) s' → IsWork (record e { row = row; stage = s' })
  with_row s row s' h claim stage told = record {
    process = h.process;
    processes = h.processes;
    cell = h.cell;
    cells = h.cells;
    young = h.young;
    short = h.short;
    fits = h.fits;
    text = h.text;
    possible = h.possible;
    height = h.height;
    claim = claim;
    stage = stage;
    told = told;
  }

  told_fits : (s : WorkStage) (row : List ℕ) (n from : ℕ) (o : Option ℕ) → told_from row n from ≡ o → ToldFits row n from o → from + n ≤ e.cells → IsWork (at e s) → Differs e → IsWork (told (record e { row = row }) o)
  told_fits s row n from None is first within h differs = with_row s row (Clear true) h tt tt differs
  told_fits s row n from (Some d) is first within h differs = with_row s row (Telling (OrTold d)) h tt (let l = first.1 in omega arith) (differs, told_stands row n from d is)

  tells : (s : WorkStage) (row : List ℕ) (from : ℕ) → from ≤ e.cells → IsWork (at e s) → Differs e → IsWork (tell_from (record e { row = row }) from)
  tells s row from within h differs = told_fits s row (e.cells - from) from (told_from row (e.cells - from) from) refl (first_told row (e.cells - from) from) (omega arith) h differs

  looked : (i value : ℕ) → IsWork (at e (LoadKind i value)) → (x : Entry) → (s' : WorkStage) → ClaimFits e s' → StageFits (record e { inputs = with_entry e.inputs i x }) s' → TellsFits e s' → IsWork (record e { inputs = with_entry e.inputs i x; stage = s' })
  looked i value h x s' claim stage told = record {
    process = h.process;
    processes = h.processes;
    cell = h.cell;
    cells = h.cells;
    young = h.young;
    short = h.short;
    fits = h.fits;
    text = h.text;
    possible = λ j l. subst (λ (c : Cell). IsPossible c) (sym (cell_with e.inputs i x j h.stage)) (h.possible j (let same = length-set e.inputs i (record { cell = cell_in e.inputs i; entry = x }) in omega (arith, same, l)));
    height = h.height;
    claim = claim;
    stage = stage;
    told = told;
  }

  owned : (s : WorkStage) (value kind : ℕ) (s' : WorkStage) → IsWork (at e s) → ClaimFits e s' → StageFits e s' → TellsFits (record e { value = value; kind = kind }) s' → IsWork (record e { value = value; kind = kind; stage = s' })
  owned s value kind s' h claim stage told = record {
    process = h.process;
    processes = h.processes;
    cell = h.cell;
    cells = h.cells;
    young = h.young;
    short = h.short;
    fits = h.fits;
    text = h.text;
    possible = h.possible;
    height = h.height;
    claim = claim;
    stage = fits s' stage;
    told = told;
  }
    where
      fits : (s' : WorkStage) → StageFits e s' → StageFits (record e { value = value; kind = kind; stage = s' }) s'
      fits (LoadText part) k = k
      fits (LoadValue i) k = k
      fits (LoadKind i v) k = k
      fits (Telling (LoadRow part)) k = k
      fits (Telling (OrTold d)) k = k
      fits (Telling (FlushTold d)) k = k
      fits (Telling (BackTold d)) k = k
      fits _ k = tt

  pub next_is : (s : WorkStage) → IsWork (at e s) → IsWork (next_at e s word)
  next_is LoadMark h = by_state (state_of (mark_of e.processes word)) h
  next_is Claim h = branches (word == e.mark) (record e { mark = held_after e.process e.mark; stage = FlushClaim }) (at e (Answer Missed))
      (λ b. marked_as e Claim (held_after e.process e.mark) FlushClaim h (let young = h.claim in let p = h.process in let few = h.processes in omega arith) tt tt tt)
      (λ b. staged e Claim (Answer Missed) h tt tt tt)
  next_is FlushClaim h = staged e FlushClaim BackClaim h tt tt tt
  next_is BackClaim h = staged e BackClaim LoadHead h tt tt tt
  next_is LoadHead h = by_top (head_of e.processes word) h
  next_is LoadHeader h = by_record (header_in e.edition (header_of e.cells word)) refl h
  next_is (LoadText part) h = parted (LoadText part) e.head e.length (part + 1) (take e.length (e.text ++ bytes_of word)) h h.fits (let k = length-take e.length (e.text ++ bytes_of word) in omega (arith, k))
  next_is Read h = h
  next_is (LoadValue i) h = staged e (LoadValue i) (LoadKind i word) h tt h.stage tt
  next_is (LoadKind i value) h = branches (nat_lt (i + 1) (length (with_entry e.inputs i (shown_entry e.cells value word))))
      (record e { inputs = with_entry e.inputs i (shown_entry e.cells value word); stage = LoadValue (i + 1) }) (record e { inputs = with_entry e.inputs i (shown_entry e.cells value word); stage = LoadOwnValue })
      (λ b. looked i value h (shown_entry e.cells value word) (LoadValue (i + 1)) tt (ltb-true (i + 1) (length (with_entry e.inputs i (shown_entry e.cells value word))) b) tt)
      (λ b. looked i value h (shown_entry e.cells value word) LoadOwnValue tt tt tt)
  next_is LoadOwnValue h = owned LoadOwnValue word e.kind LoadOwnKind h tt tt tt
  next_is LoadOwnKind h = owned LoadOwnKind e.value word Wait h tt tt tt
  next_is Wait h = h
  next_is StoreValue h = staged e StoreValue StoreKind h tt tt h.told
  next_is StoreKind h = staged e StoreKind FlushValue h tt tt h.told
  next_is FlushValue h = staged e FlushValue FlushKind h tt tt h.told
  next_is FlushKind h = staged e FlushKind BackValue h tt tt h.told
  next_is BackValue h = staged e BackValue BackKind h tt tt h.told
  next_is BackKind h = with_row BackKind [] (Telling (LoadRow 0)) h tt (refl, (let some = h.cell in omega arith)) h.told
  next_is (Telling (LoadRow part)) h = branches (nat_lt (part + 1) ((e.cells + 63) / 64)) (record e { row = e.row ++ word ∷ []; stage = Telling (LoadRow (part + 1)) }) (tell_from (record e { row = e.row ++ word ∷ [] }) 0)
      (λ b. with_row (Telling (LoadRow part)) (e.row ++ word ∷ []) (Telling (LoadRow (part + 1))) h tt (let size = h.stage.0 in let k = pushed e.row word in omega (arith, size, k), ltb-true (part + 1) ((e.cells + 63) / 64) b) h.told)
      (λ b. tells (Telling (LoadRow part)) (e.row ++ word ∷ []) 0 (omega arith) h h.told)
  next_is (Telling (OrTold d)) h = staged e (Telling (OrTold d)) (Telling (FlushTold d)) h tt h.stage h.told.0
  next_is (Telling (FlushTold d)) h = staged e (Telling (FlushTold d)) (Telling (BackTold d)) h tt h.stage h.told
  next_is (Telling (BackTold d)) h = tells (Telling (BackTold d)) e.row (d + 1) (let l = h.stage in omega arith) h h.told
  next_is (Clear changed) h = branches (word == e.mark) (at e (FlushCleared (Published changed))) (at e ClearDirty) (λ b. staged e (Clear changed) (FlushCleared (Published changed)) h tt tt tt) (λ b. staged e (Clear changed) ClearDirty h tt tt tt)
  next_is ClearDirty h = staged e ClearDirty (FlushCleared Again) h tt tt tt
  next_is Give h = branches (word == e.mark) (at e (FlushCleared NoMemory)) (at e GiveDirty) (λ b. staged e Give (FlushCleared NoMemory) h tt tt tt) (λ b. staged e Give GiveDirty h tt tt tt)
  next_is GiveDirty h = staged e GiveDirty (FlushCleared NoMemory) h tt tt tt
  next_is (FlushCleared end) h = staged e (FlushCleared end) (BackCleared end) h tt tt tt
  next_is (BackCleared end) h = staged e (BackCleared end) (Answer end) h tt tt tt
  next_is (Answer end) h = h

-- the work with these fields is the next one
-- the next work, with what is noted at its stage alone
abbrev by_noting : PlainWorkCall → ℕ → WorkStage → Noting → PlainWorkCall
by_noting e word s notes.Nothing = at e (stage_at e s word)
by_noting e word s notes.Mark = record e { mark = mark_at e s word; stage = stage_at e s word }
by_noting e word s notes.Text = record e { head = head_at e s word; length = length_at e s word; text = text_at e s word; stage = stage_at e s word }
by_noting e word s notes.Input = record e { inputs = inputs_at e s word; stage = stage_at e s word }
by_noting e word s notes.Own = record e { value = value_at e s word; kind = kind_at e s word; stage = stage_at e s word }
by_noting e word s notes.Row = record e { row = row_at e s word; stage = stage_at e s word }

noted_alone : (e : PlainWorkCall) (word : ℕ) (s : WorkStage) → next_at e s word ≡ by_noting e word s (notes_at s)
noted_alone e word LoadMark = next_noted e word LoadMark
noted_alone e word Claim = next_noted e word Claim
noted_alone e word FlushClaim = next_noted e word FlushClaim
noted_alone e word BackClaim = next_noted e word BackClaim
noted_alone e word LoadHead = next_noted e word LoadHead
noted_alone e word LoadHeader = next_noted e word LoadHeader
noted_alone e word (LoadText part) = next_noted e word (LoadText part)
noted_alone e word Read = next_noted e word Read
noted_alone e word (LoadValue i) = next_noted e word (LoadValue i)
noted_alone e word (LoadKind i value) = next_noted e word (LoadKind i value)
noted_alone e word LoadOwnValue = next_noted e word LoadOwnValue
noted_alone e word LoadOwnKind = next_noted e word LoadOwnKind
noted_alone e word Wait = next_noted e word Wait
noted_alone e word StoreValue = next_noted e word StoreValue
noted_alone e word StoreKind = next_noted e word StoreKind
noted_alone e word FlushValue = next_noted e word FlushValue
noted_alone e word FlushKind = next_noted e word FlushKind
noted_alone e word BackValue = next_noted e word BackValue
noted_alone e word BackKind = next_noted e word BackKind
noted_alone e word (Telling (LoadRow part)) = next_noted e word (Telling (LoadRow part))
noted_alone e word (Telling (OrTold d)) = next_noted e word (Telling (OrTold d))
noted_alone e word (Telling (FlushTold d)) = next_noted e word (Telling (FlushTold d))
noted_alone e word (Telling (BackTold d)) = next_noted e word (Telling (BackTold d))
noted_alone e word (Clear changed) = next_noted e word (Clear changed)
noted_alone e word ClearDirty = next_noted e word ClearDirty
noted_alone e word Give = next_noted e word Give
noted_alone e word GiveDirty = next_noted e word GiveDirty
noted_alone e word (FlushCleared end) = next_noted e word (FlushCleared end)
noted_alone e word (BackCleared end) = next_noted e word (BackCleared end)
noted_alone e word (Answer end) = next_noted e word (Answer end)

taken_as : (e : PlainWorkCall) (word : ℕ) (n : Noting) → notes_at e.stage ≡ n → by_noting e word e.stage n ≡ next_at e e.stage word
taken_as e word n is = ap (by_noting e word e.stage) (sym is) ∙ sym (noted_alone e word e.stage)

-- after a stage that notes nothing, the next work differs in its stage alone
pub goes_on : (e v : PlainWorkCall) (word : ℕ) (stage : WorkStage) → v ≡ e → notes_at e.stage ≡ notes.Nothing → stage ≡ stage_at e e.stage word → at v stage ≡ next_at e e.stage word
goes_on e v word stage same is a = rw (same, a) (taken_as e word notes.Nothing is)

-- after a stage that notes a mark, the next work differs in mark and stage alone
pub takes_mark : (e v : PlainWorkCall) (word mark : ℕ) (stage : WorkStage) → v ≡ e → notes_at e.stage ≡ notes.Mark → stage ≡ stage_at e e.stage word → mark ≡ mark_at e e.stage word
    → record v { mark = mark; stage = stage } ≡ next_at e e.stage word
takes_mark e v word mark stage same is a b = rw (same, a, b) (taken_as e word notes.Mark is)

-- the same, of the head, the length and the text
pub takes_text : (e v : PlainWorkCall) (word head count : ℕ) (text : List ℕ) (stage : WorkStage) → v ≡ e → notes_at e.stage ≡ notes.Text → stage ≡ stage_at e e.stage word → head ≡ head_at e e.stage word
    → count ≡ length_at e e.stage word → text ≡ text_after v.text v.length v.stage word → record v { head = head; length = count; text = text; stage = stage } ≡ next_at e e.stage word
takes_text e v word head count text stage same is a b c d = rw (d, same, a, b, c) (taken_as e word notes.Text is)

-- the same, of an input
pub takes_input : (e v : PlainWorkCall) (word : ℕ) (inputs : List Input) (stage : WorkStage) → v ≡ e → notes_at e.stage ≡ notes.Input → stage ≡ stage_at e e.stage word
    → inputs ≡ inputs_after v.inputs v.cells v.stage word → record v { inputs = inputs; stage = stage } ≡ next_at e e.stage word
takes_input e v word inputs stage same is a b = rw (b, same, a) (taken_as e word notes.Input is)

-- the same, of the words of the work's own cell
pub takes_own : (e v : PlainWorkCall) (word value kind : ℕ) (stage : WorkStage) → v ≡ e → notes_at e.stage ≡ notes.Own → stage ≡ stage_at e e.stage word
    → value ≡ value_after v.value v.stage word → kind ≡ kind_after v.kind v.stage word → record v { value = value; kind = kind; stage = stage } ≡ next_at e e.stage word
takes_own e v word value kind stage same is a b c = rw (b, c, same, a) (taken_as e word notes.Own is)

-- the same, of a part of the index row
pub takes_row : (e v : PlainWorkCall) (word : ℕ) (row : List ℕ) (stage : WorkStage) → v ≡ e → notes_at e.stage ≡ notes.Row → stage ≡ stage_at v v.stage word
    → row ≡ row_after v.row v.stage word → record v { row = row; stage = stage } ≡ next_at e e.stage word
takes_row e v word row stage same is a b = rw (b, a, same) (taken_as e word notes.Row is)

-- a work of a sheet is one of the sheet after its step, too, with room for its inputs
pub next_within : (e : PlainWorkCall) (word room : ℕ) → IsWork e → e.cells ≤ room → IsWorkIn (next_at e e.stage word) room
next_within e word room h fits = record { is = next_is e word e.stage h; room = subst (λ (n : ℕ). n ≤ room) (sym (ap (λ (x : PlainWorkCall). x.cells) (next_noted e word e.stage))) fits }
