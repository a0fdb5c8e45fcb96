-- A call that is alone, and makes enough steps, is answered as it may be.
use Rattle.std.proofs.Common.{ℕ, ◌≡◌, ◌<◌, ◌≤◌, ◌+◌, ◌*◌, ◌/◌, List, [], ◌∷◌, sym, subst, arith, zero, suc, length, Some}
use Rattle.std.specs.Prelude.{slice_get}
use Rattle.ds_state.specs.Edits.{PlainEditCall}
use Rattle.ds_state.specs.World.{PlainWorld}
use Rattle.ds_state.specs.Works.{PlainWorkCall}
use Rattle.ds_state.specs.Value.{WorldValue, world_of}
use Rattle.ds_state.specs.Sound.{IsSound}
use Rattle.ds_state.specs.declared.stage.Stage.TheVariants.{StoreHeader}
use Rattle.ds_state.specs.declared.work.WorkStage.TheVariants.{LoadMark}
use Rattle.ds_state.specs.declared.situation.Situation.TheVariants.{Editing, Working}
use Rattle.ds_work.specs.WorkAlone.{IsMarkedAt}
use Rattle.ds_core.specs.Takes.{WorldRun}
use Rattle.ds_core.specs.Own.{own_steps, IsUnhalted, AreUnhalted, IsInCall}
use Rattle.ds_core.specs.Solo.{IsSoloEvent, IsSolo, IsDoneOnly, AreDoneOnly, IsLoneEvent, IsLone, IsLoneAnswer, IsLoneReply, AreLoneReplies}
use Rattle.ds_core.specs.Headline.{Happens}
use Rattle.ds_core.specs.declared.event.Event.{Event}
use Rattle.ds_core.specs.declared.event.Event.TheVariants.{Step, Stop, Crash}
use Rattle.ds_state.specs.declared.answer.Answer.{Answer}
use Rattle.ds_state.specs.declared.answer.Answer.TheVariants.{Edit}
use Rattle.ds_state.specs.declared.answer.EditEnd.TheVariants.{Done}
use Rattle.ds_core.specs.declared.reply.Reply.{Reply}
use Rattle.ds_core.specs.declared.reply.Reply.TheVariants.{Answered}
use Rattle.ds_core.proofs.CallSteps.{answered, edit_left, work_left}
use Rattle.ds_core.proofs.Solo.{solo_done}
use Rattle.ds_core.proofs.LoneWork.{lone_publishes}

-- ---- an edit

solo_unhalted : (p : ℕ) (events : List Event) → IsSolo p events → AreUnhalted p events
solo_unhalted p [] solo = tt
solo_unhalted p (event ∷ events) solo = (one event solo.0, solo_unhalted p events solo.1)
  where
    one : (event : Event) → IsSoloEvent p event → IsUnhalted p event
    one (Stop q) solo = absurd solo
    one Crash solo = absurd solo
    one _ solo = tt

done_there : (number : ℕ) (replies : List Reply) (k : ℕ) (answer : Answer) → AreDoneOnly number replies → slice_get replies k ≡ Some (Answered answer) → answer ≡ Edit (Done number)
done_there number [] k answer all is = absurd (cc)
done_there number (reply ∷ replies) zero answer all is = let same : reply ≡ Answered answer = cc in subst (λ (r : Reply). IsDoneOnly number r) same all.0
done_there number (reply ∷ replies) (suc k) answer all is = done_there number replies k answer all.1 is

-- an edit that is alone and makes enough steps is answered Done
pub solo_answered : (old : WorldValue) (events : List Event) (replies : List Reply) (new : WorldValue) (p : ℕ) (e : PlainEditCall) → IsSound (world_of old) → p < old.sheet.layout.processes
    → (world_of old).situation p ≡ Editing e → e.stage ≡ StoreHeader → WorldRun old events replies new → IsSolo p events → 112 + 3 * length e.refs ≤ own_steps p events replies
    → (k : ℕ) × Happens events replies k (Step p) (Answered (Edit (Done e.number)))
solo_answered old events replies new p e sound low at first run solo enough =
    let few = edit_left old p e sound low at in
    let f = answered old events replies new p sound low (subst IsInCall (sym at) tt) run (solo_unhalted p events solo) (omega (arith, few, enough)) in
    (f.k, subst (λ (a : Answer). Happens events replies f.k (Step p) (Answered a)) (done_there e.number replies f.k f.answer (solo_done old events replies new p e sound at first run solo) f.happens.reply_is) f.happens)

-- ---- work

lone_unhalted : (p : ℕ) (events : List Event) → IsLone p events → AreUnhalted p events
lone_unhalted p [] lone = tt
lone_unhalted p (event ∷ events) lone = (one event lone.0, lone_unhalted p events lone.1)
  where
    one : (event : Event) → IsLoneEvent p event → IsUnhalted p event
    one (Stop q) lone = absurd lone
    one Crash lone = absurd lone
    one _ lone = tt

lone_there : (first last : PlainWorld) (cell : ℕ) (replies : List Reply) (k : ℕ) (answer : Answer) → AreLoneReplies first last cell replies → slice_get replies k ≡ Some (Answered answer) → IsLoneAnswer first last cell answer
lone_there first last cell [] k answer all is = absurd (cc)
lone_there first last cell (reply ∷ replies) zero answer all is = let same : reply ≡ Answered answer = cc in subst (λ (r : Reply). IsLoneReply first last cell r) same all.0
lone_there first last cell (reply ∷ replies) (suc k) answer all is = lone_there first last cell replies k answer all.1 is

-- work on a marked cell that is alone and makes enough steps is answered, as work alone may be
pub lone_answered : (old : WorldValue) (events : List Event) (replies : List Reply) (new : WorldValue) (p : ℕ) (e : PlainWorkCall) → IsSound (world_of old) → p < old.sheet.layout.processes
    → (world_of old).situation p ≡ Working e → e.stage ≡ LoadMark → IsMarkedAt (world_of old) e → WorldRun old events replies new → IsLone p events
    → 5 * e.cells + (e.cells + 63) / 64 + 51 ≤ own_steps p events replies
    → (k : ℕ) × (answer : Answer) × Happens events replies k (Step p) (Answered answer)
    × IsLoneAnswer (world_of old) (world_of new) e.cell answer
lone_answered old events replies new p e sound low at first marked run lone enough =
    let few = work_left old p e at first in
    let f = answered old events replies new p sound low (subst IsInCall (sym at) tt) run (lone_unhalted p events lone) (omega (arith, few, enough)) in
    (f.k, f.answer, f.happens, lone_there (world_of old) (world_of new) e.cell replies f.k f.answer (lone_publishes old events replies new p e sound low at first marked run lone) f.happens.reply_is)
