-- Each turn of a work that goes on leaves fewer.
use Rattle.std.proofs.Common.{ℕ, ◌≡◌, ◌<◌, ◌≤◌, ◌∙◌, Bool, true, false, if◌then◌else◌, nat_lt, List, refl, ap, sym, subst, arith, length}
use Rattle.ds_formula.specs.Cells.{count_of}
use Rattle.ds_formula.specs.Plain.{PlainContent}
use Rattle.ds_eval.specs.declared.inputs.Input.{Input}
use Rattle.ds_state.specs.Works.{PlainWorkCall, IsWork}
use Rattle.ds_state.specs.World.{PlainWorld}
use Rattle.ds_state.specs.CallsFit.{CallFits}
use Rattle.ds_state.specs.Sound.{IsSound}
use Rattle.ds_state.specs.declared.situation.Situation.{Situation}
use Rattle.ds_state.specs.declared.situation.Situation.TheVariants.{Working}
use Rattle.ds_state.specs.declared.work.WorkEnd.{WorkEnd}
use Rattle.ds_state.specs.declared.work.WorkStage.{WorkStage}
use Rattle.ds_state.specs.declared.work.WorkStage.TheVariants.{Read, Wait, LoadValue, LoadOwnValue, Answer}
use Rattle.ds_state.specs.declared.turn.Turn.{Turn}
use Rattle.ds_state.specs.declared.turn.Turn.TheVariants as does
use Rattle.ds_work.specs.WorkSteps.{at, after, next_at, read_from, lacks, IsPlainStep}
use Rattle.ds_work.specs.WorkRank.{left, steps_left, Falls, GoesOn}
use Rattle.ds_work.specs.WorkTakes.{TakesTurn, steps, reads, lacked, answers, StepsBy}
use Rattle.ds_work.proofs.Gathered.{content_few}
use Rattle.ds_work.proofs.Next.{next_noted}
use Rattle.ds_work.proofs.Ranks.{each_falls}

-- after a step that is no answer the process is in the next work
pub after_goes : (e : PlainWorkCall) (s : WorkStage) (word : ℕ) → ((end : WorkEnd) → s ≡ Answer end → ⊥) → after e s word ≡ Working (next_at e s word)
after_goes e (Answer end) word na = absurd (na end refl)
after_goes e _ word na = refl

-- a step that ends by its access, and is no answer, leaves fewer
pub falls_plain : (r : ℕ) (e f : PlainWorkCall) (s : WorkStage) → Falls r e f s → IsPlainStep s → ((end : WorkEnd) → s ≡ Answer end → ⊥) → steps_left r f < left r e s
falls_plain r e f Read h plain na = absurd plain
falls_plain r e f Wait h plain na = absurd plain
falls_plain r e f (Answer end) h plain na = absurd (na end refl)
falls_plain r e f _ h plain na = h

-- reading leaves fewer, also where more references were relied on
pub reading_less : (r : ℕ) (e : PlainWorkCall) (content : PlainContent) (inputs : List Input) → length inputs ≤ r → steps_left r (read_from e content inputs) < left r e Read
reading_less r e content inputs few = go (nat_lt 0 (length inputs))
  where
    go : (b : Bool) → steps_left r (if b then record e { content = content; inputs = inputs; stage = LoadValue 0 } else record e { content = content; inputs = inputs; stage = LoadOwnValue }) < left r e Read
    go true = omega (arith, few)
    go false = omega arith

-- the reading of the content leaves the number of the sheet's cells
pub read_cells : (e : PlainWorkCall) (content : PlainContent) (inputs : List Input) → (read_from e content inputs).cells ≡ e.cells
read_cells e content inputs = go (nat_lt 0 (length inputs))
  where
    go : (b : Bool) → (if b then record e { content = content; inputs = inputs; stage = LoadValue 0 } else record e { content = content; inputs = inputs; stage = LoadOwnValue }).cells ≡ e.cells
    go true = refl
    go false = refl

module _ (p : ℕ) (old new : PlainWorld) (sound : IsSound old) (e : PlainWorkCall) (real : p < old.layout.processes) (mine : e.process ≡ p) (works : old.situation p ≡ Working e) (is : IsWork e) where
  count : count_of old.layout.shape ≡ e.cells
  count = (subst (λ (x : Situation). CallFits old p x) works (sound.calls p real)).cells

  here : (f : PlainWorkCall) → new.situation e.process ≡ Working f → new.situation p ≡ Working f
  here f at = ap (λ q. new.situation q) (sym mine) ∙ at

  at_own : (s : WorkStage) → e.stage ≡ s → (f : PlainWorkCall) → steps_left e.cells f < left e.cells e s → steps_left e.cells f < steps_left e.cells e
  at_own s same f lt = subst (λ (x : WorkStage). steps_left e.cells f < left e.cells e x) (sym same) lt

  go : (t : Turn WorkEnd) → TakesTurn e old new t → t ≡ does.GoesOn → GoesOn p e new
  go t (steps word k na) same = record {
    work = next_at e e.stage word;
    works = here (next_at e e.stage word) (k.situation ∙ after_goes e e.stage word na);
    cells = ap (λ (x : PlainWorkCall). x.cells) (next_noted e word e.stage);
    fewer = falls_plain e.cells e (next_at e e.stage word) e.stage (each_falls e.cells word e is) k.plain na;
  }
  go t (reads content inputs stage k) same = record {
    work = read_from e content inputs;
    works = here (read_from e content inputs) k.turn.situation;
    cells = read_cells e content inputs;
    fewer = at_own Read stage (read_from e content inputs) (reading_less e.cells e content inputs (let few = content_few old.layout.shape e.text content inputs k.is in let same = count in omega (arith, few, same)));
  }
  go t (lacked stage k) same = record {
    work = lacks e;
    works = here (lacks e) k.situation;
    cells = refl;
    fewer = at_own Read stage (lacks e) (omega arith);
  }
  go t (answers end stage k) same = absurd cc

-- each turn of a work that goes on leaves it fewer steps
pub turns_fall : (p : ℕ) (old new : PlainWorld) → IsSound old → (by : StepsBy old p does.GoesOn new) → GoesOn p by.work new
turns_fall p old new sound by = go p old new sound by.work by.inside by.mine by.works by.is does.GoesOn by.turn refl
