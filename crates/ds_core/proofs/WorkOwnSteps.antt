-- How many steps of its own a work makes, by the references of its content.
use Rattle.std.proofs.Common.{ℕ, ◌≡◌, ◌≤◌, ◌+◌, ◌-◌, ◌/◌, ◌==◌, ◌&&◌, Bool, true, false, if◌then◌else◌, nat_lt, List, [], ◌∷◌, ◌++◌, Option, Some, None, refl, ap, sym, ◌∙◌, subst, arith, length}
use Rattle.std.proofs.lemmas.List.{length-set}
use Rattle.ds_formula.specs.Plain.{PlainContent}
use Rattle.ds_eval.specs.declared.inputs.Entry.{Entry}
use Rattle.ds_eval.specs.declared.inputs.Input.{Input}
use Rattle.ds_eval.specs.Inputs.{cell_in}
use Rattle.ds_state.specs.Works.{PlainWorkCall, IsWork}
use Rattle.ds_state.specs.Standing.{shown_entry, value_for, word_for}
use Rattle.ds_state.specs.Telling.{told_from}
use Rattle.ds_state.specs.Value.{WorldValue, world_of}
use Rattle.ds_state.specs.Sound.{IsSound}
use Rattle.ds_state.specs.declared.situation.Situation.{Situation}
use Rattle.ds_state.specs.declared.situation.Situation.TheVariants.{Editing, Working, Recovering, Showing, Migrating}
use Rattle.ds_state.specs.declared.work.WorkStage.{WorkStage}
use Rattle.ds_state.specs.declared.work.WorkStage.TheVariants.{LoadMark, Claim, FlushClaim, BackClaim, LoadHead, LoadHeader, LoadText, Read, LoadKind, Wait, StoreValue, Telling, Clear, Give}
use Rattle.ds_state.specs.declared.spread.Spread.TheVariants.{LoadRow, OrTold, FlushTold, BackTold}
use Rattle.ds_state.specs.declared.turn.Turn.{Turn}
use Rattle.ds_state.specs.declared.work.WorkEnd.{WorkEnd}
use Rattle.ds_state.specs.declared.turn.Turn.TheVariants as taken
use Rattle.ds_work.specs.WorkTakes as work_events
use Rattle.ds_work.specs.WorkRank.{left, steps_left}
use Rattle.ds_work.specs.WorkSteps.{next_at, read_from, lacks, offered, told}
use Rattle.ds_work.specs.Noted.{inputs_at}
use Rattle.ds_work.proofs.Next.{next_noted}
use Rattle.ds_work.proofs.Ranks.{each_falls, offer_falls}
use Rattle.ds_work.proofs.Turning.{after_goes, falls_plain, reading_less, read_cells}
use Rattle.ds_core.specs.WorkEvents.{work_reply}
use Rattle.ds_core.specs.StepEvents as steps
use Rattle.ds_core.specs.Takes.{WorldRun}
use Rattle.ds_core.specs.Own.{own_step, own_steps, AreUnanswered, IsInCall, WorkGoesOn}
use Rattle.ds_core.specs.declared.event.Event.{Event}
use Rattle.ds_core.specs.declared.reply.Reply.{Reply}
use Rattle.ds_core.specs.declared.reply.Reply.TheVariants as reply
use Rattle.ds_core.proofs.CallSteps.{OwnMove, stays, steps_once, is_offered, own_move, work_some}

-- the work has read its content
abbrev HasRead : WorkStage → Type 0
HasRead LoadMark = ⊥
HasRead Claim = ⊥
HasRead FlushClaim = ⊥
HasRead BackClaim = ⊥
HasRead LoadHead = ⊥
HasRead LoadHeader = ⊥
HasRead (LoadText part) = ⊥
HasRead Read = ⊥
HasRead _ = Unit {0}

if_read : (b : Bool) (x y : PlainWorkCall) → HasRead x.stage → HasRead y.stage → HasRead (if b then x else y).stage
if_read true x y h k = h
if_read false x y h k = k

told_read : (e : PlainWorkCall) (o : Option ℕ) → HasRead (told e o).stage
told_read e None = tt
told_read e (Some d) = tt

-- what is read stays read
next_read : (e : PlainWorkCall) (s : WorkStage) (word : ℕ) → HasRead s → HasRead (next_at e s word).stage
next_read e LoadMark word h = absurd h
next_read e Claim word h = absurd h
next_read e FlushClaim word h = absurd h
next_read e BackClaim word h = absurd h
next_read e LoadHead word h = absurd h
next_read e LoadHeader word h = absurd h
next_read e (LoadText part) word h = absurd h
next_read e Read word h = absurd h
next_read e (LoadKind i value) word h = if_read (nat_lt (i + 1) _) _ _ tt tt
next_read e (Telling (LoadRow part)) word h =
    let f : PlainWorkCall = record e { row = e.row ++ word ∷ [] } in
    if_read (nat_lt (part + 1) ((e.cells + 63) / 64)) (record f { stage = Telling (LoadRow (part + 1)) }) (told f (told_from (e.row ++ word ∷ []) (e.cells - 0) 0)) tt (told_read f (told_from (e.row ++ word ∷ []) (e.cells - 0) 0))
next_read e (Telling (BackTold d)) word h = told_read e _
next_read e (Telling (OrTold d)) word h = tt
next_read e (Telling (FlushTold d)) word h = tt
next_read e (Clear changed) word h = if_read (word == e.mark) _ _ tt tt
next_read e Give word h = if_read (word == e.mark) _ _ tt tt
next_read e _ word h = tt

inputs_stay : (e : PlainWorkCall) (s : WorkStage) (word : ℕ) → length (inputs_at e s word) ≡ length e.inputs
inputs_stay e (LoadKind i value) word = length-set e.inputs i (record { cell = cell_in e.inputs i; entry = shown_entry e.cells value word })
inputs_stay e _ word = refl

-- n steps of its own later the process is in this work, whose content is still read where it was; fewer are left,
-- said for as many references as one likes, at least those that it has read
record Goes (p : ℕ) (e : PlainWorkCall) (steps : ℕ) (new : WorldValue) : Type 0 where
  work : PlainWorkCall
  works : (world_of new).situation p ≡ Working work
  cells : work.cells ≡ e.cells
  read : HasRead e.stage → HasRead work.stage × (length work.inputs ≡ length e.inputs)
  fewer : (r : ℕ) → (HasRead work.stage → length work.inputs ≤ r) → steps + steps_left r work ≤ steps_left r e

working_same : (s : Situation) (e f : PlainWorkCall) → s ≡ Working e → s ≡ Working f → f ≡ e
working_same s e f a b = let one : Working f ≡ Working e = sym b ∙ a in cc

still : (p : ℕ) (e : PlainWorkCall) (new : WorldValue) → (world_of new).situation p ≡ Working e → Goes p e 0 new
still p e new at = record { work = e; works = at; cells = refl; read = λ h. (h, refl); fewer = λ r h. omega arith }

if_inputs : (b : Bool) (x y : PlainWorkCall) (inputs : List Input) → x.inputs ≡ inputs → y.inputs ≡ inputs → (if b then x else y).inputs ≡ inputs
if_inputs true x y inputs h k = h
if_inputs false x y inputs h k = k

offered_read : (b : Bool) → HasRead (if b then Clear false else StoreValue)
offered_read true = tt
offered_read false = tt

module _ (p : ℕ) (old new : WorldValue) (e : PlainWorkCall) (mine : e.process ≡ p) where
  here : (f : PlainWorkCall) → (world_of new).situation e.process ≡ Working f → (world_of new).situation p ≡ Working f
  here f at = ap (λ q. (world_of new).situation q) (sym mine) ∙ at

  by_read : (content : PlainContent) (inputs : List Input) → e.stage ≡ Read → (world_of new).situation e.process ≡ Working (read_from e content inputs) → Goes p e 1 new
  by_read content inputs stage now =
      let has : HasRead (read_from e content inputs).stage = if_read (nat_lt 0 (length inputs)) _ _ tt tt in
      let same : (read_from e content inputs).inputs ≡ inputs = if_inputs (nat_lt 0 (length inputs)) _ _ inputs refl refl in
      record {
        work = read_from e content inputs;
        works = here (read_from e content inputs) now;
        cells = read_cells e content inputs;
        read = λ h. absurd (subst HasRead stage h);
        fewer = λ r h. (
            let few : length inputs ≤ r = subst (λ (x : List Input). length x ≤ r) same (h has) in
            let less = reading_less r e content inputs few in
            let is : steps_left r e ≡ left r e Read = ap (λ s. left r e s) stage in
            omega (arith, less, is));
      }

  by_taken : IsWork e → (what : Turn WorkEnd) → what ≡ taken.GoesOn → work_events.TakesTurn e (world_of old) (world_of new) what → Goes p e 1 new
  by_taken is what on (work_events.steps word t goes) = record {
    work = next_at e e.stage word;
    works = here (next_at e e.stage word) (t.situation ∙ after_goes e e.stage word goes);
    cells = ap (λ (x : PlainWorkCall). x.cells) (next_noted e word e.stage);
    read = λ h. (next_read e e.stage word h, ap (λ (x : PlainWorkCall). length x.inputs) (next_noted e word e.stage) ∙ inputs_stay e e.stage word);
    fewer = λ r h. (let f = falls_plain r e (next_at e e.stage word) e.stage (each_falls r word e is) t.plain goes in omega (arith, f));
  }
  by_taken is what on (work_events.reads content inputs at t) = by_read content inputs at t.turn.situation
  by_taken is what on (work_events.lacked stage t) = record {
    work = lacks e;
    works = here (lacks e) t.situation;
    cells = refl;
    read = λ h. (tt, refl);
    fewer = λ r h. (let is : steps_left r e ≡ left r e Read = ap (λ s. left r e s) stage in omega (arith, is));
  }
  by_taken is what on (work_events.answers end stage t) = absurd (cc)

  by_offer : (entry : Entry) → e.stage ≡ Wait → (world_of new).situation e.process ≡ Working (offered e entry) → Goes p e 0 new
  by_offer entry stage now = record {
    work = offered e entry;
    works = here (offered e entry) now;
    cells = refl;
    read = λ h. (offered_read ((e.value == value_for entry) && (e.kind == word_for entry)), refl);
    fewer = λ r h. (
        let less = offer_falls r e entry in
        let is : steps_left r e ≡ left r e Wait = ap (λ s. left r e s) stage in
        omega (arith, less, is));
  }

stepped : (what : Turn WorkEnd) → reply.Stepped ≡ work_reply what → what ≡ taken.GoesOn
stepped taken.GoesOn is = refl
stepped (taken.Answers end) is = absurd (cc)

goes : (p n : ℕ) (e : PlainWorkCall) (old new : WorldValue) → (world_of old).situation p ≡ Working e → OwnMove p old new n → Goes p e n new
goes p n e old new at (stays same) = still p e new (same ∙ at)
goes p n e old new at (steps_once (steps.edits h)) = absurd (let bad : Working e ≡ Editing h.steps.edit = sym at ∙ h.steps.at in cc)
goes p n e old new at (steps_once (steps.works h)) = subst (λ (x : PlainWorkCall). Goes p x 1 new) (working_same ((world_of old).situation p) e h.steps.work at h.steps.works)
    (by_taken p old new h.steps.work h.steps.mine h.steps.is h.what (stepped h.what h.is) h.steps.turn)
goes p n e old new at (steps_once (steps.reports h)) = absurd (let bad : Working e ≡ Showing h.steps.show = sym at ∙ h.steps.at in cc)
goes p n e old new at (steps_once (steps.recoveries h)) = absurd (let bad : Working e ≡ Recovering h.steps.recovery = sym at ∙ h.steps.at in cc)
goes p n e old new at (steps_once (steps.migrations h)) = absurd (let bad : Working e ≡ Migrating h.steps.migration = sym at ∙ h.steps.at in cc)
goes p n e old new at (is_offered value mine h) =
    let o = h.offered in
    subst (λ (x : PlainWorkCall). Goes p x 0 new) (working_same ((world_of old).situation p) e o.work at (ap (λ q. (world_of old).situation q) (sym mine) ∙ o.waits.works))
    (by_offer p old new o.work (o.mine ∙ mine) value.entry o.waits.waits o.offers.turn.situation)

goes_through : (events : List Event) (replies : List Reply) (old new : WorldValue) (p : ℕ) (e : PlainWorkCall) → IsSound (world_of old) → (world_of old).situation p ≡ Working e
    → WorldRun old events replies new → AreUnanswered p events replies → Goes p e (own_steps p events replies) new
goes_through [] [] old new p e sound at run u = still p e new (ap (λ (v : WorldValue). (world_of v).situation p) run ∙ at)
goes_through (event ∷ events) (r ∷ replies) old new p e sound at run u =
    let first = goes p (own_step p event r) e old run.0 at (own_move p old run.0 sound (subst IsInCall (sym at) tt) event r run.1.takes u.0) in
    let rest = goes_through events replies run.0 new p first.work run.1.good.sound first.works run.2 u.1 in
    record {
      work = rest.work;
      works = rest.works;
      cells = rest.cells ∙ first.cells;
      read = λ h. (let a = first.read h in let b = rest.read a.0 in (b.0, b.1 ∙ a.1));
      fewer = λ r h. (
          let b = rest.fewer r h in
          let a = first.fewer r (λ has. (let k = rest.read has in let l = h k.0 in let same = k.1 in omega (arith, l, same))) in
          omega (arith, a, b));
    }
goes_through [] (r ∷ replies) old new p e sound at run u = absurd run
goes_through (event ∷ events) [] old new p e sound at run u = absurd run

-- work that is not answered goes on, with few steps made, by the references that it has read
pub works_go_on : (old : WorldValue) (events : List Event) (replies : List Reply) (new : WorldValue) (p : ℕ) (e : PlainWorkCall) → IsSound (world_of old) → (world_of old).situation p ≡ Working e → e.stage ≡ LoadMark
    → WorldRun old events replies new → AreUnanswered p events replies → WorkGoesOn p e (own_steps p events replies) new
works_go_on old events replies new p e sound at first run u =
    let g = goes_through events replies old new p e sound at run u in
    let few = g.fewer (length g.work.inputs) (λ has. omega arith) in
    let some = work_some (length g.work.inputs) g.work g.work.stage in
    let is : steps_left (length g.work.inputs) e ≡ left (length g.work.inputs) e LoadMark = ap (λ s. left (length g.work.inputs) e s) first in
    record { work = g.work; works = g.works; few = omega (arith, few, some, is) }
