-- A turn of work that is alone, and an offer to it: what it leaves.
use Rattle.std.proofs.Common.{ℕ, ◌≡◌, ◌<◌, ◌==◌, ◌&&◌, if◌then◌else◌, ap, sym, ◌∙◌, subst, arith, inl, inr, length, Bool, true, false, List}
use Rattle.std.proofs.lemmas.Bool.{cases_eq}
use Rattle.ds_state.specs.declared.situation.Rest.{Rest}
use Rattle.ds_words.specs.Memory.{SameMemory}
use Rattle.ds_formula.specs.Cells.{IsInside, index_of}
use Rattle.ds_formula.specs.declared.cells.Cell.{Cell}
use Rattle.ds_formula.specs.Plain.{PlainContent}
use Rattle.ds_formula.specs.Refs.{Refers}
use Rattle.ds_formula.specs.Grammar.{Reads}
use Rattle.ds_eval.specs.declared.inputs.Entry as entries
use Rattle.ds_eval.specs.Inputs.{entry_in, entry_at, cell_in}
use Rattle.ds_eval.specs.Local.{local}
use Rattle.ds_eval.proofs.Cells.{entry_found}
use Rattle.ds_eval.proofs.Neighbours as neighbours
use Rattle.ds_layout.specs.declared.layout.Layout.{Layout}
use Rattle.ds_layout.specs.Places.{cells_of}
use Rattle.ds_layout.specs.declared.place.Place.TheVariants.{Mark, Head}
use Rattle.ds_layout.specs.Mark.{generation_of}
use Rattle.ds_state.specs.Works.{PlainWorkCall, IsWork}
use Rattle.ds_state.specs.Owing.{CellOwes, IsExcused, Excuses, Owes, WorkOwes}
use Rattle.ds_state.specs.Standing.{cached_side, entry_on, shown_entry, HasContent, value_for, word_for}
use Rattle.ds_state.specs.World.{PlainWorld, PlainEdit, of_cell, IsHeadBy}
use Rattle.ds_state.specs.KnownWork.{WorkFits, WorkKnows, work_known, Gathers}
use Rattle.ds_state.specs.Sound.{IsSound}
use Rattle.ds_state.specs.declared.situation.Situation.{Situation}
use Rattle.ds_state.specs.declared.situation.Situation.TheVariants.{Idle, Working}
use Rattle.ds_state.specs.declared.work.WorkStage.{WorkStage}
use Rattle.ds_state.specs.declared.work.WorkStage.TheVariants as works
use Rattle.ds_state.specs.declared.turn.Turn.{Turn}
use Rattle.ds_state.specs.declared.work.WorkEnd.{WorkEnd}
use Rattle.ds_state.specs.declared.turn.Turn.TheVariants as turns
use Rattle.ds_work.specs.WorkTakes as events
use Rattle.ds_work.specs.WorkSteps.{StepsAt, OffersAt, next_at, read_from, lacks, offered}
use Rattle.ds_work.specs.WorkAnswers.{mark_now}
use Rattle.ds_work.specs.WorkShows.{shown_in, CellWords}
use Rattle.ds_work.proofs.WorkShows.{shown_kept}
use Rattle.ds_work.proofs.WorkAlone.{after_on}
use Rattle.ds_calls.proofs.Leaving.{entries_in, IsGiven, Untold, EndLeaves, LeavesAt, Since, input_leaves, help_at, step_leaves, same_heads, same_shown, same_age}

-- ---- nobody owes

-- each other process is idle
abbrev pub OthersIdle : PlainWorld → ℕ → Type 0
OthersIdle w p = (q : ℕ) → q < w.layout.processes → (q ≡ p → ⊥) → (n : Rest) × (w.situation q ≡ Idle n)

module _ (w : PlainWorld) (p : ℕ) (e : PlainWorkCall) (here : w.situation p ≡ Working e) (others : OthersIdle w p) where
  no_excuse : (c x : ℕ) → IsExcused w c x → ⊥
  no_excuse c x o = elim (cases_eq o.process p) [
    | inl same ↦ subst (λ (s : Situation). Excuses w o.process s c x) (ap w.situation same ∙ here) o.still
    | inr other ↦ subst (λ (s : Situation). Excuses w o.process s c x) (others o.process o.inside other).1 o.still
  ]

  no_debt : IsSound w → e.stage ≡ works.Wait → (r c x : ℕ) → CellOwes w r c x → ⊥
  no_debt sound waits r c x o = elim (cases_eq o.holder p) [
    | inl same ↦ subst (λ (s : WorkStage). WorkOwes w.memory o.holder e.row s c x) waits (subst (λ (s : Situation). Owes w.memory o.holder s r c x) (ap w.situation same ∙ here) o.still).1
    | inr other ↦ subst (λ (s : Situation). Owes w.memory o.holder s r c x) (others o.holder ((sound.words (Mark r)).holder o.holder o.held.by).0 other).1 o.still
  ]

-- ---- contents and entries of worlds alike

-- the content of a head is the same where the sheet and the linearized edits are
pub same_content : (old new : PlainWorld) (c head : ℕ) (content : PlainContent) → new.layout ≡ old.layout → new.counted ≡ old.counted → HasContent new c head content → HasContent old c head content
same_content old new c head content layout counted (inl none) = inl none
same_content old new c head content layout counted (inr h) = inr (record {
  by = h.by;
  gave = subst (λ (es : List PlainEdit). IsHeadBy (of_cell c es) head h.by) counted h.gave;
  reads = subst (λ (l : Layout). Reads l.shape h.by.text content) layout h.reads;
})

-- the entry that two words show
abbrev entry_of : Layout → CellWords → entries.Entry
entry_of layout words = shown_entry (cells_of layout) words.value words.kind

pub same_entry_on : (old new : PlainWorld) (r : ℕ) → new.layout ≡ old.layout → shown_in new r ≡ shown_in old r → entry_on new.layout (cached_side new.memory) r ≡ entry_on old.layout (cached_side old.memory) r
same_entry_on old new r layout shown = ap (λ (l : Layout). entry_of l (shown_in new r)) layout ∙ ap (λ (x : CellWords). entry_of old.layout x) shown

-- ---- an offer gives what the cells show

module _ (first old : PlainWorld) (e : PlainWorkCall) (sound : IsSound old) (fits : WorkFits old e.process e) (here : old.situation e.process ≡ Working e) (others : OthersIdle old e.process)
    (waits : e.stage ≡ works.Wait) (mark : mark_now old e ≡ e.mark) (since : Since first old e.process e.cell) (own : shown_in old e.cell ≡ shown_in first e.cell) where
  loaded : Gathers old e.cell e.mark e.head e.content e.inputs (length e.inputs)
  loaded = (subst (λ (s : WorkStage). WorkKnows old e (work_known (length e.inputs) s)) waits fits.knows).loaded

  shown_each : (d : ℕ) → shown_in old d ≡ shown_in first d
  shown_each d = elim (cases_eq d e.cell) [ inl same ↦ ap (λ x. shown_in old x) same ∙ own ∙ ap (λ x. shown_in first x) (sym same) | inr other ↦ since.shown d other ]

  head_is : old.memory.cached (Head e.cell) ≡ e.head
  head_is = elim (loaded.head mark) [ inl is ↦ is | inr o ↦ absurd (no_excuse old e.process e here others e.cell e.mark o) ]

  input_is : (d : Cell) → Refers e.content d → IsInside old.layout.shape d → entry_in e.inputs d ≡ entries_in first d
  input_is d refers inside =
      let found = loaded.found d refers inside in
      let r : ℕ = index_of old.layout.shape (cell_in e.inputs found.0) in
      let there : entry_at e.inputs found.0 ≡ entry_on old.layout (cached_side old.memory) r =
      elim ((loaded.each found.0 found.1).stands mark) [ inl is ↦ is | inr o ↦ absurd (no_debt old e.process e here others sound waits r e.cell e.mark o) ] in
      entry_found e.inputs found.0 d loaded.ascending found.1 found.2
      ∙ there
      ∙ ap (λ (x : Cell). entry_on old.layout (cached_side old.memory) (index_of old.layout.shape x)) found.2
      ∙ same_entry_on first old (index_of old.layout.shape d) since.layout (shown_each (index_of old.layout.shape d))
      ∙ ap (λ (l : Layout). entry_on first.layout (cached_side first.memory) (index_of l.shape d)) since.layout

  pub given_now : (entry : entries.Entry) → entry ≡ local old.layout.shape e.content (entry_in e.inputs) → IsGiven first e.cell entry
  given_now entry is = record {
    content = e.content;
    has = same_content first old e.cell (first.memory.cached (Head e.cell)) e.content since.layout since.counted
        (subst (λ (h : ℕ). HasContent old e.cell h e.content) (sym head_is ∙ since.head e.cell) loaded.content);
    is = is ∙ neighbours.local_on old.layout.shape e.content (entry_in e.inputs) (entries_in first) input_is ∙ ap (λ (l : Layout). local l.shape e.content (entries_in first)) since.layout;
  }

-- ---- a turn

-- what a turn of the work leaves: it goes on, or it has ended so
abbrev pub LeavesAfter : PlainWorld → PlainWorkCall → PlainWorld → Turn WorkEnd → Type 0
LeavesAfter first e w turns.GoesOn = (f : PlainWorkCall) × (w.situation e.process ≡ Working f) × LeavesAt first w f f.stage
LeavesAfter first e w (turns.Answers end) = EndLeaves first w e.cell end

module _ (first : PlainWorld) (e : PlainWorkCall) (old new : PlainWorld) where
  turn_since : SameMemory old.memory new.memory → new.layout ≡ old.layout → new.counted ≡ old.counted → ((q : ℕ) → (q ≡ e.process → ⊥) → new.situation q ≡ old.situation q)
      → Since first old e.process e.cell → Since first new e.process e.cell
  turn_since m layout counted others s = record {
    layout = layout ∙ s.layout;
    counted = counted ∙ s.counted;
    others = λ q other. others q other ∙ s.others q other;
    head = λ d. m.cached (Head d) ∙ s.head d;
    shown = λ d other. shown_kept old new d m ∙ s.shown d other;
    ages = λ d other. ap generation_of (m.cached (Mark d)) ∙ s.ages d other;
  }

  step_since : (s : WorkStage) (word : ℕ) → StepsAt e s word old new → Since first old e.process e.cell → Since first new e.process e.cell
  step_since s word t h = record {
    layout = t.layout ∙ h.layout;
    counted = t.counted ∙ h.counted;
    others = λ q other. t.others q other ∙ h.others q other;
    head = λ d. same_heads first old.layout.shape e word old new s t.memory d ∙ h.head d;
    shown = λ d other. same_shown first old.layout.shape e word old new s t.memory d other ∙ h.shown d other;
    ages = λ d other. same_age first old.layout.shape e word old new s t.memory d other ∙ h.ages d other;
  }

  pub since_turn : (what : Turn WorkEnd) → events.TakesTurn e old new what → Since first old e.process e.cell → Since first new e.process e.cell
  since_turn what (events.steps word t on) h = step_since e.stage word t h
  since_turn what (events.reads content inputs at t) h = turn_since t.turn.memory t.turn.layout t.turn.counted t.turn.others h
  since_turn what (events.lacked at t) h = turn_since t.memory t.layout t.counted t.others h
  since_turn what (events.answers end at t) h = step_since (works.Answer end) 0 t h

  pub since_offer : (entry : entries.Entry) → OffersAt e entry old new → Since first old e.process e.cell → Since first new e.process e.cell
  since_offer entry t h = turn_since t.turn.memory t.turn.layout t.turn.counted t.turn.others h

  leaves_at : (s : WorkStage) → e.stage ≡ s → LeavesAt first old e e.stage → LeavesAt first old e s
  leaves_at s is h = subst (λ (x : WorkStage). LeavesAt first old e x) is h

  pub turn_leaves : WorkFits old e.process e → IsWork e → (what : Turn WorkEnd) → events.TakesTurn e old new what → LeavesAt first old e e.stage → LeavesAfter first e new what
  turn_leaves fits is what (events.steps word t on) h = (
    next_at e e.stage word,
    t.situation ∙ after_on e e.stage word on,
    step_leaves first old.layout.shape e word old new e.stage (let a = is.process in let b = is.processes in omega arith) (help_at old e.process e fits) t.memory h,
  )
  turn_leaves fits is what (events.reads content inputs at t) h =
      let k = leaves_at works.Read at h in (
        read_from e content inputs,
        t.turn.situation,
        input_leaves first new (record e { content = content; inputs = inputs }) 0 (λ d other. t.turn.memory.cached (Mark d) ∙ k.0 d other, k.1),
      )
  turn_leaves fits is what (events.lacked at t) h = (lacks e, t.situation, tt)
  turn_leaves fits is what (events.answers end at t) h =
      step_leaves first old.layout.shape e 0 old new (works.Answer end) (let a = is.process in let b = is.processes in omega arith) tt t.memory (leaves_at (works.Answer end) at h)

  pub offer_leaves : (entry : entries.Entry) → e.stage ≡ works.Wait → OffersAt e entry old new → IsGiven first e.cell entry → LeavesAt first old e e.stage → LeavesAt first new (offered e entry) (offered e entry).stage
  offer_leaves entry waits t given h = stored ((e.value == value_for entry) && (e.kind == word_for entry))
    where
      k : LeavesAt first old e works.Wait
      k = leaves_at works.Wait waits h

      untold : Untold first new e.cell
      untold d other = t.turn.memory.cached (Mark d) ∙ k.0 d other

      stored : (b : Bool) → LeavesAt first new (offered e entry) (if b then works.Clear false else works.StoreValue)
      stored true = (untold, (k.1, given))
      stored false = (untold, (k.1, given))
