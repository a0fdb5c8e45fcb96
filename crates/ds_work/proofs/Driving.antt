-- What an event of a work makes of a world, and that it stays one.
use Rattle.std.proofs.Common.{ℕ, ◌≡◌, ◌≢◌, ◌<◌, ◌≤◌, ◌*◌, length, get_or, set, refl, ap, sym, ◌∙◌, subst, arith, inl, inr, Err}
use Rattle.std.proofs.lemmas.List.{get_or-set_same, get_or-set_other, get_or_default, length-set}
use Rattle.ds_formula.specs.Cells.{count_of}
use Rattle.ds_layout.specs.declared.layout.Layout.{Layout}
use Rattle.ds_layout.specs.Places.{cells_of}
use Rattle.ds_layout.specs.SheetMemory.{SheetValue, memory, CanPerform, PerformsAt}
use Rattle.ds_state.specs.Works.{PlainWorkCall, IsWork}
use Rattle.ds_state.specs.World.{PlainWorld}
use Rattle.ds_state.specs.Value.{WorldValue, world_of, IsGood, IsReserved}
use Rattle.ds_state.specs.CallsFit.{CallFits}
use Rattle.ds_state.specs.KnownWork.{WorkFits}
use Rattle.ds_state.specs.Rely.{Keeps}
use Rattle.ds_state.specs.Underway.{reports_in}
use Rattle.ds_state.specs.declared.reports.TheConstants.{SETTLED_MOST}
use Rattle.ds_state.proofs.Underway.{no_more}
use Rattle.ds_state.specs.declared.refusal.Refusal.{Refusal}
use Rattle.ds_state.specs.declared.refusal.Refusal.TheVariants as refusal
use Rattle.ds_state.specs.declared.situation.Situation.{Situation}
use Rattle.ds_state.specs.declared.situation.Situation.TheVariants.{Idle, Stopped, Editing, Working, Recovering, Showing, Migrating}
use Rattle.ds_state.specs.declared.work.WorkStage.TheVariants.{LoadMark, Read, Wait, Answer}
use Rattle.ds_eval.specs.declared.inputs.Entry as entries
use Rattle.ds_eval.specs.Inputs.{entry_in}
use Rattle.ds_eval.specs.Local.{local}
use Rattle.ds_state.specs.declared.work.WorkEnd.{WorkEnd}
use Rattle.ds_state.specs.declared.work.WorkStage.{WorkStage}
use Rattle.ds_work.specs.declared.machine.Doing.TheVariants as doings
use Rattle.ds_state.specs.declared.turn.Turn.TheVariants as does
use Rattle.ds_work.specs.WorkSteps.{at, access_at, next_at, after, offered, IsPlainStep, StepsAt, Turns, BeginsWork, OffersAt}
use Rattle.ds_work.specs.Noted.{turn_at}
use Rattle.ds_work.specs.Reading.{IsReading}
use Rattle.ds_state.specs.Refusals.{next_edit}
use Rattle.ds_work.specs.WorkTakes.{IsAskedFor, IsOffered, Refuses, StepsBy, lacked, reads}
use Rattle.ds_work.proofs.EachWork.{begins_keep, offer_keep, work_steps_keep, reads_keep, lacks_keep}
use Rattle.ds_work.proofs.WorkNamed.{can_perform}
use Rattle.ds_state.specs.Value.{first_rest}
use Rattle.ds_state.specs.declared.situation.Rest.{Rest}

-- a process that works shows nothing
after_quiet : (e : PlainWorkCall) (s : WorkStage) (word : ℕ) → reports_in (after e s word) ≡ 0
after_quiet e (Answer end) word = refl
after_quiet e _ word = refl

-- the world in which the process is in this situation, with these words
abbrev pub put : WorldValue → ℕ → SheetValue → Situation → WorldValue
put v p sheet s = record v { sheet = sheet; situations = set v.situations p s }

module _ (v : WorldValue) (p : ℕ) (sheet : SheetValue) (s : Situation) (layout : sheet.layout ≡ v.sheet.layout) (low : p < v.sheet.layout.processes) where
  there : IsGood v → p < length v.situations
  there g = let k = g.situations in omega (arith, k, low)

  pub situation_is : IsGood v → (world_of (put v p sheet s)).situation p ≡ s
  situation_is g = get_or-set_same v.situations p s (Idle first_rest) (there g)

  pub others_are : (q : ℕ) → q ≢ p → (world_of (put v p sheet s)).situation q ≡ (world_of v).situation q
  others_are q ne = get_or-set_other v.situations p q s (Idle first_rest) ne

  -- it stays a world where its step is a sound one
  pub put_kept : reports_in s ≡ 0 → (room : ℕ) → IsReserved v room → Keeps p (world_of v) (world_of (put v p sheet s)) → IsReserved (put v p sheet s) room
  put_kept quiet room h keeps = record {
    good = record {
      sound = keeps.sound;
      situations = length-set v.situations p s ∙ h.good.situations ∙ ap (λ (l : Layout). l.processes) (sym layout);
      open_edits = h.good.open_edits ∙ ap (λ (l : Layout). l.processes) (sym layout);
      reports = record {
        cells = h.good.reports.cells ∙ ap (λ (l : Layout). cells_of l) (sym layout);
        processes = h.good.reports.processes ∙ ap (λ (l : Layout). l.processes) (sym layout);
      };
      answered = h.good.answered;
      counts = no_more v.situations p s v.settled SETTLED_MOST (there h.good) quiet h.good.counts;
    };
    reserved = subst (λ (l : Layout). l.processes * 256 ≤ room) (sym layout) h.reserved;
  }

-- ---- beginnings

module _ (v : WorldValue) (e : PlainWorkCall) (next : Rest) (room : ℕ) (kept : IsReserved v room) (index : ℕ) (asked : IsAskedFor v.sheet.layout e.process next index e)
    (low : e.process < v.sheet.layout.processes) (idle : (world_of v).situation e.process ≡ Idle next) where
  pub begun : BeginsWork next e (world_of v) (world_of (put v e.process v.sheet (Working e)))
  begun = record {
    turn = record {
      layout = refl;
      memory = record { cached = λ r. refl; persisted = λ r. refl; buffer = λ q. refl };
      situation = situation_is v e.process v.sheet (Working e) refl low kept.good ∙ first;
      others = λ q ne. others_are v e.process v.sheet (Working e) refl low q ne;
      counted = refl;
      open_edits = λ q. refl;
    };
    was = idle;
    next_is = asked.next_is;
    cells = asked.cells;
    processes = asked.processes;
    cell = asked.inside;
  }
    where
      first : Working e ≡ Working (at e LoadMark)
      first = ap (λ s. Working (at e s)) asked.first

  pub begun_kept : IsReserved (put v e.process v.sheet (Working e)) room
  begun_kept = put_kept v e.process v.sheet (Working e) refl low refl room kept (begins_keep next e (world_of v) (world_of (put v e.process v.sheet (Working e))) kept.good.sound low begun)

-- the situation that was read is the process's
pub situation_at : (v : WorldValue) (p : ℕ) (read : Situation) → IsGood v → p < v.sheet.layout.processes → read ≡ get_or v.situations p read → (world_of v).situation p ≡ read
situation_at v p read good low is = get_or_default v.situations p (Idle first_rest) read (let s = good.situations in omega (arith, s, low)) ∙ sym is

-- why a process in this situation may not begin work
pub refuses_of : (w : PlainWorld) (p : ℕ) (s : Situation) (r : Refusal) → w.situation p ≡ s → Err r ≡ next_edit s → Refuses w p r
refuses_of w p (Idle m) r at is = absurd (cc)
refuses_of w p Stopped r at is = rw at (let same : r ≡ refusal.Stopped = cc in same)
refuses_of w p (Editing e) r at is = rw at (let same : r ≡ refusal.Busy = cc in same)
refuses_of w p (Working e) r at is = rw at (let same : r ≡ refusal.Busy = cc in same)
refuses_of w p (Recovering e) r at is = rw at (let same : r ≡ refusal.Busy = cc in same)
refuses_of w p (Showing e) r at is = rw at (let same : r ≡ refusal.Busy = cc in same)
refuses_of w p (Migrating e) r at is = rw at (let same : r ≡ refusal.Busy = cc in same)

-- ---- works under way

module _ (v : WorldValue) (g : IsGood v) (p : ℕ) (e : PlainWorkCall) (low : p < v.sheet.layout.processes) (works : (world_of v).situation p ≡ Working e) where
  fits : WorkFits (world_of v) p e
  fits = subst (λ (x : Situation). CallFits (world_of v) p x) works (g.sound.calls p low)

  pub mine : e.process ≡ p
  mine = fits.mine

  pub here : (world_of v).situation e.process ≡ Working e
  here = ap (λ q. (world_of v).situation q) mine ∙ works

  pub low_own : e.process < v.sheet.layout.processes
  low_own = rw mine low

  -- its cell is one of the sheet
  pub cells_are : cells_of v.sheet.layout ≡ e.cells
  cells_are = fits.cells

  pub cell_inside : e.cell < count_of v.sheet.layout.shape
  cell_inside = let c = fits.cell in let same = fits.cells in omega (arith, c, same)

  -- its access can be performed
  pub perform_at : CanPerform v.sheet.layout (memory v.sheet) p (access_at v.sheet.layout.shape e e.stage)
  perform_at = subst (λ (q : ℕ). CanPerform v.sheet.layout (memory v.sheet) q (access_at v.sheet.layout.shape e e.stage)) mine (can_perform (world_of v) e g.sound low_own e.stage here)

  -- a turn that touches no word
  pub turns : (f : PlainWorkCall) → Turns e f (world_of v) (world_of (put v p v.sheet (Working f)))
  turns f = record {
    layout = refl;
    memory = record { cached = λ r. refl; persisted = λ r. refl; buffer = λ q. refl };
    situation = ap (λ q. (world_of (put v p v.sheet (Working f))).situation q) mine ∙ situation_is v p v.sheet (Working f) refl low g;
    others = λ q ne. others_are v p v.sheet (Working f) refl low q (λ same. ne (same ∙ sym mine));
    counted = refl;
    open_edits = λ q. refl;
  }

  -- the entry of its task is offered
  module _ (entry' : entries.Entry) (waits : e.stage ≡ Wait) (is : entry' ≡ local v.sheet.layout.shape e.content (entry_in e.inputs)) where
    pub offers : OffersAt e entry' (world_of v) (world_of (put v p v.sheet (Working (offered e entry'))))
    offers = record { turn = turns (offered e entry'); is = is }

    pub is_offered : IsOffered (world_of v) p entry' (world_of (put v p v.sheet (Working (offered e entry'))))
    is_offered = record { work = e; waits = record { inside = low; works = works; waits = waits }; mine = mine; offers = offers }

    pub offered_kept : (room : ℕ) → IsReserved v room → IsReserved (put v p v.sheet (Working (offered e entry'))) room
    offered_kept room kept = put_kept v p v.sheet (Working (offered e entry')) refl low refl room kept
        (subst (λ (q : ℕ). Keeps q (world_of v) (world_of (put v p v.sheet (Working (offered e entry'))))) mine
        (offer_keep e entry' (world_of v) (world_of (put v p v.sheet (Working (offered e entry')))) g.sound low_own (here ∙ ap (λ s. Working (at e s)) waits) offers))

  -- ---- its steps

  module _ (word : ℕ) (sheet : SheetValue) (layout : sheet.layout ≡ v.sheet.layout) (performs : PerformsAt (access_at v.sheet.layout.shape e e.stage) p (memory v.sheet) (memory sheet) word) where
    pub steps_at : (s : Situation) → s ≡ after e e.stage word → IsPlainStep e.stage → StepsAt e e.stage word (world_of v) (world_of (put v p sheet s))
    steps_at s is plain = record {
      plain = plain;
      layout = layout;
      memory = subst (λ (q : ℕ). PerformsAt (access_at v.sheet.layout.shape e e.stage) q (memory v.sheet) (memory sheet) word) (sym mine) performs;
      situation = ap (λ q. (world_of (put v p sheet s)).situation q) mine ∙ situation_is v p sheet s layout low g ∙ is;
      others = λ q ne. others_are v p sheet s layout low q (λ same. ne (same ∙ sym mine));
      counted = refl;
      open_edits = λ q. refl;
    }

    pub step_kept : (s : Situation) → s ≡ after e e.stage word → IsPlainStep e.stage → (room : ℕ) → IsReserved v room → IsReserved (put v p sheet s) room
    step_kept s is plain room kept = put_kept v p sheet s layout low (ap reports_in is ∙ after_quiet e e.stage word) room kept
        (subst (λ (q : ℕ). Keeps q (world_of v) (world_of (put v p sheet s))) mine
        (work_steps_keep e e.stage word (world_of v) (world_of (put v p sheet s)) g.sound low_own here (steps_at s is plain)))

  -- the content is read, or that lacked memory
  module _ (f : PlainWorkCall) (at_read : e.stage ≡ Read) where
    pub read_takes : IsWork e → IsReading v.sheet.layout.shape e f → StepsBy (world_of v) p does.GoesOn (world_of (put v p v.sheet (Working f)))
    read_takes h (inl r) = record { inside = low; work = e; mine = mine; works = works; is = h; turn = reads r.content r.inputs at_read (record { turn = subst (λ (x : PlainWorkCall). Turns e x (world_of v) (world_of (put v p v.sheet (Working f)))) r.after (turns f); is = r.is }) }
    read_takes h (inr l) = record { inside = low; work = e; mine = mine; works = works; is = h; turn = lacked at_read (subst (λ (x : PlainWorkCall). Turns e x (world_of v) (world_of (put v p v.sheet (Working f)))) l (turns f)) }

    pub read_kept : IsReading v.sheet.layout.shape e f → (room : ℕ) → IsReserved v room → IsReserved (put v p v.sheet (Working f)) room
    read_kept r room kept = put_kept v p v.sheet (Working f) refl low refl room kept (subst (λ (q : ℕ). Keeps q (world_of v) (world_of (put v p v.sheet (Working f)))) mine (keeps r))
      where
        was : (world_of v).situation e.process ≡ Working (at e Read)
        was = here ∙ ap (λ s. Working (at e s)) at_read

        keeps : IsReading v.sheet.layout.shape e f → Keeps e.process (world_of v) (world_of (put v p v.sheet (Working f)))
        keeps (inl r) = reads_keep e r.content r.inputs (world_of v) (world_of (put v p v.sheet (Working f))) g.sound low_own was (record { turn = subst (λ (x : PlainWorkCall). Turns e x (world_of v) (world_of (put v p v.sheet (Working f)))) r.after (turns f); is = r.is })
        keeps (inr l) = lacks_keep e (world_of v) (world_of (put v p v.sheet (Working f))) g.sound low_own was (subst (λ (x : PlainWorkCall). Turns e x (world_of v) (world_of (put v p v.sheet (Working f)))) l (turns f))

-- what the turn of a stage says of it
pub steps_plain : (s : WorkStage) → turn_at s ≡ doings.Steps → IsPlainStep s
steps_plain Read is = absurd cc
steps_plain Wait is = absurd cc
steps_plain (Answer end) is = absurd cc
steps_plain _ is = tt

-- a turn that makes a step is at no answer
pub steps_not_answer : (s : WorkStage) → turn_at s ≡ doings.Steps → (end : WorkEnd) → s ≡ Answer end → ⊥
steps_not_answer s is end at = let k : turn_at (Answer end) ≡ doings.Steps = subst (λ (x : WorkStage). turn_at x ≡ doings.Steps) at is in cc

-- after a turn that makes a step the process is in the work's next stage
pub steps_after : (e : PlainWorkCall) (s : WorkStage) (word : ℕ) → turn_at s ≡ doings.Steps → Working (next_at e s word) ≡ after e s word
steps_after e (Answer end) word is = absurd cc
steps_after e _ word is = refl

-- the turn that reads the content is that of the stage `Read`
pub reads_at : (s : WorkStage) → turn_at s ≡ doings.Reads → s ≡ Read
reads_at Read is = refl
reads_at _ is = absurd cc

-- the turn that answers is that of the stage of that answer
pub answers_at : (s : WorkStage) (end : WorkEnd) → turn_at s ≡ doings.Answers end → s ≡ Answer end
answers_at (Answer end') end is = let same : end' ≡ end = cc in ap (λ x. Answer x) same
answers_at _ end is = absurd cc

pub waits_at : (s : WorkStage) → turn_at s ≡ doings.Waits → s ≡ Wait
waits_at Wait is = refl
waits_at _ is = absurd cc
