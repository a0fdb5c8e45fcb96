-- What an edit that begins makes of a world, and the references that it has.
use Rattle.std.proofs.Common.{ℕ, ◌≡◌, ◌≢◌, ◌<◌, ◌≤◌, List, length, get_or, set, map, refl, ap, sym, ◌∙◌, subst, arith, inl, inr, Some, None, Ok, Err}
use Rattle.std.specs.Prelude.{All, Contains, Result, IfErr, IsErrAnd}
use Rattle.std.proofs.lemmas.List.{get_or-set_same, get_or-set_other, get_or-map, get_or_default, length-map, length-set}
use Rattle.std.proofs.lemmas.Nat.{mul-add-lt}
use Rattle.std.proofs.lemmas.List.Elements.{All-map, All-contains, Contains-get_or}
use Rattle.ds_formula.specs.declared.cells.Shape.{Shape}
use Rattle.ds_formula.specs.declared.cells.Cell.{Cell}
use Rattle.ds_formula.specs.Cells.{IsInside, index_of, count_of}
use Rattle.ds_formula.specs.declared.fault.TextFault.{TextFault}
use Rattle.ds_formula.specs.declared.fault.FaultKind.{FaultKind}
use Rattle.ds_formula.specs.declared.fault.FaultKind.TheVariants as kinds
use Rattle.ds_formula.specs.Functions.{scope_of}
use Rattle.ds_formula.specs.Grammar.{Answers}
use Rattle.ds_formula.proofs.Formed.{is_possible, read_inside}
use Rattle.ds_formula.proofs.Memory.{of_formulas}
use Rattle.ds_state.specs.Refusals.{refusal_by, refusal_of}
use Rattle.ds_layout.specs.declared.layout.Layout.{Layout}
use Rattle.ds_layout.specs.Places.{cells_of}
use Rattle.ds_layout.specs.declared.place.TheConstants.{RECORDS}
use Rattle.ds_state.specs.Edits.{PlainEditCall, IsEdit}
use Rattle.ds_state.specs.Text.{IsText}
use Rattle.ds_state.specs.World.{PlainEdit, PlainIssue, edit_of, PlainWorld}
use Rattle.ds_state.specs.Dones.{HasAnswered}
use Rattle.ds_state.proofs.Dones.{still_answered}
use Rattle.ds_state.proofs.Underway.{no_more}
use Rattle.std.proofs.lemmas.Bool.{cases_eq}
use Rattle.ds_state.specs.CallsFit.{CallFits, IdleFits, IsSheetOf, HasRefs}
use Rattle.ds_state.specs.Value.{first_rest, WorldValue, world_of, IsGood, IsReserved}
use Rattle.ds_state.specs.declared.refusal.Refusal.{Refusal}
use Rattle.ds_state.specs.declared.refusal.Refusal.TheVariants as refusal
use Rattle.ds_state.specs.declared.stage.Stage.TheVariants.{StoreHeader}
use Rattle.ds_state.specs.declared.situation.Situation.{Situation}
use Rattle.ds_state.specs.declared.situation.Situation.TheVariants.{Idle, Stopped, Editing, Working, Recovering, Showing, Migrating}
use Rattle.ds_edit.specs.EditTakes.{Begins}
use Rattle.ds_state.specs.Refusals.{next_edit}
use Rattle.ds_edit.specs.Begun.{within, RefusesIdle, RefersTo, IsAskedFor, IsIdle, Refuses}
use Rattle.ds_edit.proofs.Answering.{begin_sound}
use Rattle.ds_edit.specs.EditTakes.{rest_before}
use Rattle.ds_state.specs.Editions.{most_in}
use Rattle.ds_state.specs.declared.situation.Rest.{Rest}

-- the world in which the edit is issued
abbrev pub issued : WorldValue → PlainEditCall → WorldValue
issued v e = record v {
  situations = set v.situations e.process (Editing e);
  open_edits = set v.open_edits e.process (Some (record { edit = edit_of e; since = length v.counted }));
}

module _ (v : WorldValue) (e : PlainEditCall) (room : ℕ) (kept : IsReserved v room) (is : IsEdit e) (sheet : IsSheetOf v.sheet.layout e) (idle : IsIdle (world_of v) e.process (rest_before e)) (first : e.stage ≡ StoreHeader) where
  has_situation : e.process < length v.situations
  has_situation = let s = kept.good.situations in let p = sheet.processes in let l = is.process in omega arith

  has_pending : e.process < length v.open_edits
  has_pending = let s = kept.good.open_edits in let p = sheet.processes in let l = is.process in omega arith

  pub issued_begins : Begins e (world_of v) (world_of (issued v e))
  issued_begins = record {
    layout = refl;
    memory = record { cached = λ r. refl; persisted = λ r. refl; buffer = λ q. refl };
    idle = idle;
    first = first;
    situation = get_or-set_same v.situations e.process (Editing e) (Idle first_rest) has_situation;
    others = λ q ne. get_or-set_other v.situations e.process q (Editing e) (Idle first_rest) ne;
    counted = refl;
    open_edits = get_or-set_same v.open_edits e.process (Some (record { edit = edit_of e; since = length v.counted })) None has_pending;
    others_open_edits = λ q ne. get_or-set_other v.open_edits e.process q (Some (record { edit = edit_of e; since = length v.counted })) None ne;
  }

  low : e.process < v.sheet.layout.processes
  low = rw sheet.processes is.process

  was_idle : IdleFits (world_of v) e.process (rest_before e)
  was_idle = subst (λ (x : Situation). CallFits (world_of v) e.process x) idle (kept.good.sound.calls e.process low)

  -- the edit is not linearized, so it is none that was answered
  issued_open : (f : PlainEdit) (issue : PlainIssue) → Contains v.counted f → (world_of (issued v e)).open_edits f.process ≡ Some issue → issue.edit ≡ f → (world_of v).open_edits f.process ≡ Some issue
  issued_open f issue there at is = elim (cases_eq f.process e.process) [
    | inl mine ↦ (
        let now : Some issue ≡ Some (record { edit = edit_of e; since = length v.counted }) = sym at ∙ ap (λ q. (world_of (issued v e)).open_edits q) mine ∙ issued_begins.open_edits in
        let one : issue ≡ record { edit = edit_of e; since = length v.counted } = cc in
        let same : f ≡ edit_of e = sym is ∙ ap (λ (i : PlainIssue). i.edit) one in
        let l = All-contains (λ (x : PlainEdit). x.process ≡ e.process → x.number < e.number) v.counted f was_idle.below there mine in
        let k = ap (λ (x : PlainEdit). x.number) same in
        absurd (omega (arith, l, k)))
    | inr other ↦ sym (issued_begins.others_open_edits f.process other) ∙ at
  ]

  issued_answered : HasAnswered v.counted (world_of (issued v e)).open_edits v.done
  issued_answered = still_answered v.counted v.counted (world_of v).open_edits (world_of (issued v e)).open_edits v.done (λ f there. there) issued_open kept.good.answered

  pub issued_kept : HasRefs v.sheet.layout.shape e.text e.refs → IsReserved (issued v e) room
  issued_kept refs = record {
    good = record {
      sound = (begin_sound e (world_of v) (world_of (issued v e)) kept.good.sound is sheet refs issued_begins).sound;
      situations = length-set v.situations e.process (Editing e) ∙ kept.good.situations;
      open_edits = length-set v.open_edits e.process (Some (record { edit = edit_of e; since = length v.counted })) ∙ kept.good.open_edits;
      reports = kept.good.reports;
      answered = issued_answered;
      counts = no_more v.situations e.process (Editing e) v.settled _ has_situation refl kept.good.counts;
    };
    reserved = kept.reserved;
  }

-- the values of a list are those of its elements
Contains-map : {X Y : Type 0} (f : X → Y) (xs : List X) (x : X) → Contains xs x → Contains (map f xs) (f x)
Contains-map f xs x has =
    let long = length-map xs f in
    let lt = has.1 in
    (has.0, omega arith, get_or-map f xs has.0 x (f x) lt ∙ ap f has.2)

index_below : (shape : Shape) (cell : Cell) → IsInside shape cell → index_of shape cell < count_of shape
index_below shape cell inside = mul-add-lt cell.row shape.columns cell.column shape.rows inside.row inside.column

-- the numbers of the cells of a text are those of all its cells, and numbers of the sheet
pub refers_all : (shape : Shape) (text refs : List ℕ) → RefersTo shape text refs → HasRefs shape text refs
refers_all shape text refs to = record {
  content = to.content;
  reads = to.reads;
  all = λ c refers. subst (λ (xs : List ℕ). Contains xs (index_of shape c)) (sym to.numbers.numbers)
      (Contains-map (index_of shape) to.numbers.cells c (to.numbers.written.all c refers (is_possible shape c (read_inside shape text to.content c to.reads.reads refers))));
}

pub refers_below : (shape : Shape) (text refs : List ℕ) → RefersTo shape text refs → All (λ r. r < count_of shape) refs
refers_below shape text refs to = subst (λ (xs : List ℕ). All (λ r. r < count_of shape) xs) (sym to.numbers.numbers)
    (All-map (λ r. r < count_of shape) (index_of shape) to.numbers.cells (λ k d lt. index_below shape (get_or to.numbers.cells k d)
    (read_inside shape text to.content (get_or to.numbers.cells k d) to.reads.reads (to.numbers.written.only (get_or to.numbers.cells k d) (Contains-get_or to.numbers.cells k d lt)))))

-- the situation that was read is the process's
pub situation_at : (v : WorldValue) (process : ℕ) (read : Situation) → IsGood v → process < v.sheet.layout.processes → read ≡ get_or v.situations process read → (world_of v).situation process ≡ read
situation_at v process read good low is = get_or_default v.situations process (Idle first_rest) read (let s = good.situations in omega arith) ∙ sym is

-- why a process in another situation may not begin an edit
pub refuses_of : (w : PlainWorld) (process : ℕ) (text : List ℕ) (s : Situation) (r : Refusal) → w.situation process ≡ s → Err r ≡ next_edit s → Refuses w process text r
refuses_of w process text (Idle m) r at is = absurd (cc)
refuses_of w process text Stopped r at is = rw at (let same : r ≡ refusal.Stopped = cc in same)
refuses_of w process text (Editing e) r at is = rw at (let same : r ≡ refusal.Busy = cc in same)
refuses_of w process text (Working e) r at is = rw at (let same : r ≡ refusal.Busy = cc in same)
refuses_of w process text (Recovering e) r at is = rw at (let same : r ≡ refusal.Busy = cc in same)
refuses_of w process text (Showing e) r at is = rw at (let same : r ≡ refusal.Busy = cc in same)
refuses_of w process text (Migrating e) r at is = rw at (let same : r ≡ refusal.Busy = cc in same)

-- the refusal that the answer to a text without a content is
pub text_refused : (shape : Shape) (next : Rest) (text : List ℕ) (fault : TextFault) → length text ≤ most_in next.edition → Answers shape text (Err fault) → RefusesIdle shape next text (refusal_of fault)
text_refused shape next text fault short (inl (is, takes)) = subst (λ (f : TextFault). RefusesIdle shape next text (refusal_of f)) (sym is) (short, inl takes)
text_refused shape next text fault short (inr faults) = by fault.kind refl
  where
    by : (kind : FaultKind) → fault.kind ≡ kind → RefusesIdle shape next text (refusal_by kind fault)
    by kinds.NoMemory is = (short, inl (of_formulas (scope_of shape) text fault faults is))
    by _ is = within short faults

-- the error that is handed on
pub handed_on : {X : Type 0} (r : Result X Refusal) (given : Refusal) (P : Refusal → Type 0) → IsErrAnd r (λ x. x ≡ given) → P given → IfErr r P
handed_on (Ok x) given P is h = tt
handed_on (Err x) given P is h = subst P (sym is) h

-- the edit of these parts
abbrev pub prepared : Layout → ℕ → Rest → ℕ → List ℕ → List ℕ → ℕ → PlainEditCall
prepared layout process next cell text refs cells = record {
  process = process;
  number = next.number;
  edition = next.edition;
  cell = cell;
  text = text;
  refs = refs;
  cells = cells;
  processes = layout.processes;
  stage = StoreHeader;
}

-- the edit that is made of an idle process's number and layout, a cell and a text is the one asked for
pub prepared_asked : (layout : Layout) (process cell place cells : ℕ) (next : Rest) (text own refs : List ℕ) → own ≡ text → IsText own → length text ≤ most_in next.edition → RefersTo layout.shape text refs → process < layout.processes → next.number ≤ RECORDS → next.number ≢ RECORDS
    → place ≡ cell → place < cells_of layout → cells ≡ cells_of layout → IsAskedFor layout process cell text next.number (prepared layout process next place own refs cells)
prepared_asked layout process cell place cells next text own refs same texts short to low few room at below is = record {
  asked = rw (same, at) refl;
  is = record {
    process = low;
    processes = layout.limited;
    number = omega arith;
    cell = omega arith;
    cells = (let most = layout.shape.within.cells_to_1024 in omega arith);
    text = texts;
    fits = rw same short;
    refs = rw is (refers_below layout.shape text refs to);
    stage = tt;
  };
  sheet = record { cells = sym is; processes = refl };
  refs = rw same (refers_all layout.shape text refs to);
  only = to;
}
