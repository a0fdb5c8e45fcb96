-- What is alike goes on alike.
use Rattle.std.proofs.Common.{ℕ, zero, suc, ◌≡◌, ◌<◌, ◌≤◌, ◌∙◌, refl, sym, ap, subst, inl, inr, List, [], ◌∷◌, ◌++◌, length, map, get_or, Bool, true, false, arith}
use Rattle.std.specs.Prelude.{◌≢◌, ◌&&◌, ◌==◌, if◌then◌else◌, Option, Some, None, slice_get, slice_index_or, slice_set}
use Rattle.std.proofs.lemmas.List.{length-map, length-set, get_or-set_same}
use Rattle.ds_formula.specs.declared.cells.Shape.{Shape}
use Rattle.ds_eval.specs.declared.inputs.Entry.{Entry}
use Rattle.ds_eval.specs.declared.value.Value.{Value}
use Rattle.ds_eval.specs.Inputs.{entry_in}
use Rattle.ds_eval.specs.Local.{local}
use Rattle.ds_words.specs.declared.access.Access.{Access}
use Rattle.ds_words.specs.declared.access.Access.TheVariants.{Nothing, Load, Store, Or, SwapIf, Flush, Back}
use Rattle.ds_words.specs.declared.access.BufferEntry.{BufferEntry}
use Rattle.ds_words.specs.Memory.{SameMemory}
use Rattle.ds_layout.specs.declared.layout.Layout.{Layout}
use Rattle.ds_layout.specs.declared.place.Place.{Place}
use Rattle.ds_layout.specs.Places.{IsPlace, class_of}
use Rattle.ds_layout.specs.SheetMemory.{memory, PerformsAt}
use Rattle.ds_state.specs.Value.{WorldValue, world_of, IsGood, first_rest}
use Rattle.ds_state.specs.Reports.{with_report}
use Rattle.ds_state.specs.Works.{PlainWorkCall, PlainShowCall}
use Rattle.ds_state.specs.Standing.{value_for, word_for}
use Rattle.ds_state.specs.declared.answer.Answer.{Answer}
use Rattle.ds_state.specs.declared.answer.Answer.TheVariants as answers
use Rattle.ds_state.specs.declared.show.ShowEnd.TheVariants.{Settled, Unsettled}
use Rattle.ds_state.specs.declared.situation.Situation.{Situation}
use Rattle.ds_state.specs.declared.situation.Situation.TheVariants.{Idle, Stopped, Editing, Working, Showing, Recovering, Migrating}
use Rattle.ds_state.specs.declared.work.WorkStage.{WorkStage}
use Rattle.ds_state.specs.declared.work.WorkStage.TheVariants as stages
use Rattle.ds_work.specs.WorkSteps.{OffersAt, Turns, offered}
use Rattle.ds_work.specs.WorkTakes.{IsOffered, Waits}
use Rattle.ds_show.specs.ShowSteps as shows
use Rattle.ds_core.specs.Own.{IsInCall}
use Rattle.ds_core.specs.StepEvents.{Rests, StepTakes, StepsBy, EvictTakes, EvictsWord}
use Rattle.ds_core.specs.StopEvents.{StopTakes, StopsProcess}
use Rattle.ds_core.specs.Takes.{Fits}
use Rattle.ds_core.specs.declared.event.Event.TheVariants as events
use Rattle.ds_core.specs.declared.reply.Reply.{Reply}
use Rattle.ds_core.specs.declared.reply.Reply.TheVariants as replies
use Rattle.ds_script.specs.ScriptTexts.{recovery_text, reply_text, unsettled_text, values_of}
use Rattle.ds_script_io.specs.AnswerTexts.{settled_text}
use Rattle.ds_explore_state.specs.declared.orders.Allowed.{Allowed}
use Rattle.ds_explore_state.specs.declared.position.Move.{Move}
use Rattle.ds_explore_state.specs.declared.position.Move.TheVariants.{Step, Stop, Evict}
use Rattle.ds_explore_state.specs.declared.position.Position.{Position}
use Rattle.ds_explore_state.specs.declared.position.ProcessState.{ProcessState}
use Rattle.ds_explore_state.specs.States.{PlainSeat, seat_of, word_in}
use Rattle.ds_explore_state.specs.Alike.{AreAlike, ArePositionsAlike}
use Rattle.ds_explore_state.specs.Orders.{Evicts, HasDirt, Happens, HappensAt, IsBusy, IsReady, IsUnderWay, MayHappen, ReadsWhereItShould, Steps, Stops, WaitsForNone, access_in, buffer_after, no_seat, seat_after, seat_stopped, seats_of, with_seat}
use Rattle.ds_explore_state.proofs.Memories.{by_cases, evicted, performs_alike, stays, stopped}
use Rattle.ds_explore_state.proofs.Steps.{Goes, GoesTo, goes_by, goes_once, reply_in}

-- ---- lists

-- what stands at a place of a list, if that is not what stands for nothing
pub get_real : {X : Type 0} (xs : List X) (p : ℕ) (d s : X) → slice_index_or xs p d ≡ s → (s ≡ d → ⊥) → slice_get xs p ≡ Some s
get_real [] p d s e real = absurd (real (sym e))
get_real (x ∷ xs) zero d s e real = ap Some e
get_real (x ∷ xs) (suc p) d s e real = get_real xs p d s e real

-- what stands at a place of a list
pub get_there : {X : Type 0} (xs : List X) (p : ℕ) (d s : X) → slice_get xs p ≡ Some s → slice_index_or xs p d ≡ s
get_there [] p d s e = cc
get_there (x ∷ xs) zero d s e = cc
get_there (x ∷ xs) (suc p) d s e = get_there xs p d s e

-- what stands at a place stands below the length
pub place_there : {X : Type 0} (xs : List X) (p : ℕ) (s : X) → slice_get xs p ≡ Some s → p < length xs
place_there [] p s e = cc
place_there (x ∷ xs) zero s e = omega arith
place_there (x ∷ xs) (suc p) s e = (let low = place_there xs p s e in omega (arith, low))

-- a process in a call is no idle one
call_is_real : (s : Situation) → IsInCall s → s ≡ Idle first_rest → ⊥
call_is_real s calls e = (let bad : IsInCall (Idle first_rest) = subst IsInCall e calls in bad)

-- the situation of a process in a call
pub busy_is : (w : WorldValue) (p : ℕ) → IsUnderWay (slice_get w.situations p) → IsInCall ((world_of w).situation p)
busy_is w p calls = go (slice_get w.situations p) refl calls
  where
    go : (o : Option Situation) → slice_get w.situations p ≡ o → IsUnderWay o → IsInCall ((world_of w).situation p)
    go None e c = absurd c
    go (Some s) e c = subst IsInCall (sym (get_there w.situations p (Idle first_rest) s e)) c

pub busy_get : (w : WorldValue) (p : ℕ) → IsInCall ((world_of w).situation p) → slice_get w.situations p ≡ Some ((world_of w).situation p)
busy_get w p calls = get_real w.situations p (Idle first_rest) ((world_of w).situation p) refl (call_is_real ((world_of w).situation p) calls)

pub is_under_way : (w : WorldValue) (p : ℕ) → IsInCall ((world_of w).situation p) → IsUnderWay (slice_get w.situations p)
is_under_way w p calls = subst IsUnderWay (sym (busy_get w p calls)) calls

-- ---- texts

same_values : (v w : WorldValue) (p : ℕ) → w.sheet.layout ≡ v.sheet.layout → values_of v p ≡ values_of w p
    → settled_text w.sheet.layout.shape (values_of w p) ≡ settled_text v.sheet.layout.shape (values_of v p)
same_values v w p layout values =
    ap (λ (l : Layout). settled_text l.shape (values_of w p)) layout ∙ ap (λ (vs : List Value). settled_text v.sheet.layout.shape vs) (sym values)

-- the text of a reply, but for that of a settled report, is that of the sheet's shape
pub same_text : (v w : WorldValue) (p : ℕ) (answer : Answer) → w.sheet.layout ≡ v.sheet.layout
    → (answer ≡ answers.Show Settled → values_of v p ≡ values_of w p) → reply_text w p (replies.Answered answer) ≡ reply_text v p (replies.Answered answer)
same_text v w p (answers.Edit end) layout values = refl
same_text v w p (answers.Work end) layout values = refl
same_text v w p (answers.Show Settled) layout values = same_values v w p layout (values refl)
same_text v w p (answers.Show (Unsettled place word)) layout values =
    ap (λ (l : Layout). unsettled_text l.shape place word) layout
same_text v w p (answers.Recovery end) layout values = ap (λ (l : Layout). recovery_text l.shape p end) layout
same_text v w p (answers.Migration end) layout values = refl

-- ---- a work is offered its entry

-- an offered work does not wait
offered_goes : (e : PlainWorkCall) (entry : Entry) → (offered e entry).stage ≡ stages.Wait → ⊥
offered_goes e entry is = go ((e.value == value_for entry) && (e.kind == word_for entry)) is
  where
    go : (b : Bool) → (if b then stages.Clear false else stages.StoreValue) ≡ stages.Wait → ⊥
    go true bad = cc
    go false bad = cc

module _ (v w : WorldValue) (alike : AreAlike v w) (p : ℕ) where
  waits_too : (e : PlainWorkCall) → Waits (world_of w) p e → Waits (world_of v) p e
  waits_too e k = record {
    inside = subst (λ (l : Layout). p < l.processes) alike.layout k.inside;
    works = sym (alike.situation p) ∙ k.works;
    waits = k.waits;
  }

  waits_again : (e : PlainWorkCall) → Waits (world_of v) p e → Waits (world_of w) p e
  waits_again e k = record {
    inside = subst (λ (l : Layout). p < l.processes) (sym alike.layout) k.inside;
    works = alike.situation p ∙ k.works;
    waits = k.waits;
  }

  both_offered : (m n : WorldValue) (one two : Entry) → IsOffered (world_of v) p one (world_of m) → IsOffered (world_of w) p two (world_of n) → AreAlike m n
  both_offered m n one two h k =
      let works : k.work ≡ h.work = (let e : Working k.work ≡ Working h.work = sym k.waits.works ∙ alike.situation p ∙ h.waits.works in cc) in
      let shapes : w.sheet.layout.shape ≡ v.sheet.layout.shape = ap (λ (l : Layout). l.shape) alike.layout in
      let entries : two ≡ one =
      k.offers.is ∙ ap (λ (s : Shape). local s k.work.content (entry_in k.work.inputs)) shapes
      ∙ ap (λ (e : PlainWorkCall). local v.sheet.layout.shape e.content (entry_in e.inputs)) works ∙ sym h.offers.is in
      let mine : (world_of n).situation p ≡ (world_of m).situation p =
      subst (λ (q : ℕ). (world_of n).situation q ≡ Working (offered k.work two)) k.mine k.offers.turn.situation
      ∙ ap (λ (e : PlainWorkCall). Working (offered e two)) works ∙ ap (λ (e : Entry). Working (offered h.work e)) entries
      ∙ sym (subst (λ (q : ℕ). (world_of m).situation q ≡ Working (offered h.work one)) h.mine h.offers.turn.situation) in
      record {
        layout = k.offers.turn.layout ∙ alike.layout ∙ sym h.offers.turn.layout;
        memory = stays (memory v.sheet) (memory w.sheet) (memory m.sheet) (memory n.sheet) alike.memory h.offers.turn.memory k.offers.turn.memory;
        situation = λ q. by_cases p q ((world_of n).situation q) ((world_of m).situation q)
            (λ e. ap (world_of n).situation e ∙ mine ∙ sym (ap (world_of m).situation e))
            (λ ne. k.offers.turn.others q (λ e. ne (e ∙ k.mine)) ∙ alike.situation q ∙ sym (h.offers.turn.others q (λ e. ne (e ∙ h.mine))));
      }

  pub ready_alike : (m n : WorldValue) → IsReady v p m → IsReady w p n → AreAlike m n
  ready_alike m n (inl (e, none)) (inl (f, also)) = subst (λ (x : WorldValue). AreAlike x n) (sym e) (subst (λ (x : WorldValue). AreAlike v x) (sym f) alike)
  ready_alike m n (inl (e, none)) (inr (two, k)) = absurd (none k.work (waits_too k.work k.waits))
  ready_alike m n (inr (one, h)) (inl (f, none)) = absurd (none h.work (waits_again h.work h.waits))
  ready_alike m n (inr (one, h)) (inr (two, k)) = both_offered m n one two h k

-- no work of the process waits in the world before its step
pub waits_no_more : (v m : WorldValue) (p : ℕ) → IsReady v p m → WaitsForNone m p
waits_no_more v m p (inl (e, none)) = subst (λ (x : WorldValue). WaitsForNone x p) (sym e) none
waits_no_more v m p (inr (entry, h)) = λ f k. (
    let is : (world_of m).situation p ≡ Working (offered h.work entry) = subst (λ (q : ℕ). (world_of m).situation q ≡ Working (offered h.work entry)) h.mine h.offers.turn.situation in
    let same : Working f ≡ Working (offered h.work entry) = sym k.works ∙ is in
    let call : f ≡ offered h.work entry = cc in
    offered_goes h.work entry (sym (ap (λ (e : PlainWorkCall). e.stage) call) ∙ k.waits))

-- it is in its call there, too
pub ready_calls : (v m : WorldValue) (p : ℕ) → IsReady v p m → IsInCall ((world_of v).situation p) → IsInCall ((world_of m).situation p)
ready_calls v m p (inl (e, none)) calls = subst (λ (x : WorldValue). IsInCall ((world_of x).situation p)) (sym e) calls
ready_calls v m p (inr (entry, h)) calls =
    subst IsInCall (sym (subst (λ (q : ℕ). (world_of m).situation q ≡ Working (offered h.work entry)) h.mine h.offers.turn.situation)) tt

-- ---- a step

-- a process that is in a call is one of the sheet
pub call_there : (v : WorldValue) (p : ℕ) → IsGood v → IsInCall ((world_of v).situation p) → p < v.sheet.layout.processes
call_there v p good calls = (let low = place_there v.situations p ((world_of v).situation p) (busy_get v p calls) in let count = good.situations in omega (arith, low, count))

-- a process that is in a call and does not wait makes a step of it
pub makes_step : (m v : WorldValue) (p : ℕ) (reply : Reply) → IsGood v → IsInCall ((world_of m).situation p) → WaitsForNone m p → StepTakes m p reply v → Goes m p reply v
makes_step m v p replies.Stepped good calls none s = goes_by m v p replies.Stepped s
makes_step m v p (replies.Answered answer) good calls none s = goes_by m v p (replies.Answered answer) s
makes_step m v p replies.NotEnabled good calls none s =
    let there = call_there m p (subst IsGood s.same good) calls in
    let w = s.waits there calls in
    absurd (none w.0 (record { inside = there; works = w.1; waits = w.2 }))
makes_step m v p (replies.Begun number) good calls none s = absurd s
makes_step m v p replies.Entered good calls none s = absurd s
makes_step m v p (replies.Refused why) good calls none s = absurd s
makes_step m v p replies.WrongTask good calls none s = absurd s
makes_step m v p replies.Evicted good calls none s = absurd s
makes_step m v p replies.Stopped good calls none s = absurd s
makes_step m v p replies.Crashed good calls none s = absurd s

-- the values of a report that was settled by the step
settled_values : (m v : WorldValue) (p : ℕ) (reply : Reply) (e : PlainShowCall) → IsGood v → p < v.sheet.layout.processes → v.reports ≡ with_report m.reports p (shows.answered e) → values_of v p ≡ shows.answered e
settled_values m v p reply e good there is =
    let values : v.reports.values ≡ slice_set m.reports.values p (shows.answered e) = ap (λ (r : _). r.values) is in
    let many : length v.reports.values ≡ length m.reports.values = ap length values ∙ length-set m.reports.values p (shows.answered e) in
    let count = good.reports.processes in
    let low : p < length m.reports.values = omega (arith, many, count, there) in
    ap (λ (vs : List (List Value)). slice_index_or vs p []) values ∙ get_or-set_same m.reports.values p (shows.answered e) [] low

module _ (m n v w : WorldValue) (alike : AreAlike m n) (p : ℕ) (r s : Reply) (h : Goes m p r v) (k : Goes n p s w) where
  same_call : k.call ≡ h.call
  same_call = sym k.at ∙ alike.situation p ∙ h.at

  shapes : n.sheet.layout.shape ≡ m.sheet.layout.shape
  shapes = ap (λ (l : Layout). l.shape) alike.layout

  performs_too : PerformsAt (access_in m.sheet.layout.shape (Some h.call)) p (memory n.sheet) (memory w.sheet) k.word
  performs_too =
      subst (λ (c : Situation). PerformsAt (access_in m.sheet.layout.shape (Some c)) p (memory n.sheet) (memory w.sheet) k.word) same_call
      (subst (λ (z : Shape). PerformsAt (access_in z (Some k.call)) p (memory n.sheet) (memory w.sheet) k.word) shapes k.performs)

  same_memory : (k.word ≡ h.word) × SameMemory (memory v.sheet) (memory w.sheet)
  same_memory = performs_alike (memory m.sheet) (memory n.sheet) (memory v.sheet) (memory w.sheet) alike.memory (access_in m.sheet.layout.shape (Some h.call)) p h.word k.word h.performs performs_too

  pub same_reply : s ≡ r
  same_reply = k.is ∙ ap (λ (l : Layout). reply_in l.processes k.call) alike.layout ∙ ap (λ (c : Situation). reply_in m.sheet.layout.processes c) same_call ∙ sym h.is

  goes_too : GoesTo m.sheet.layout.shape h.call h.word ((world_of w).situation p)
  goes_too =
      subst (λ (a : ℕ). GoesTo m.sheet.layout.shape h.call a ((world_of w).situation p)) same_memory.0
      (subst (λ (c : Situation). GoesTo m.sheet.layout.shape c k.word ((world_of w).situation p)) same_call
      (subst (λ (z : Shape). GoesTo z k.call k.word ((world_of w).situation p)) shapes k.goes))

  pub worlds_alike : ReadsWhereItShould ((world_of m).situation p) ((world_of v).situation p) → ReadsWhereItShould ((world_of n).situation p) ((world_of w).situation p) → AreAlike v w
  worlds_alike a b =
      let own : (world_of w).situation p ≡ (world_of v).situation p =
      goes_once m.sheet.layout.shape h.call h.word ((world_of v).situation p) ((world_of w).situation p) h.goes goes_too
      (subst (λ (c : Situation). ReadsWhereItShould c ((world_of v).situation p)) h.at a)
      (subst (λ (c : Situation). ReadsWhereItShould c ((world_of w).situation p)) (alike.situation p ∙ h.at) b) in
      record {
        layout = k.layout ∙ alike.layout ∙ sym h.layout;
        memory = same_memory.1;
        situation = λ q. by_cases p q ((world_of w).situation q) ((world_of v).situation q)
            (λ e. ap (world_of w).situation e ∙ own ∙ sym (ap (world_of v).situation e))
            (λ ne. k.others q ne ∙ alike.situation q ∙ sym (h.others q ne));
      }

  -- the values of a report that is settled by the step
  pub values_alike : IsGood v → IsGood w → r ≡ replies.Answered (answers.Show Settled) → values_of v p ≡ values_of w p
  values_alike good also is =
      let one = h.reports is in
      let two = k.reports (same_reply ∙ is) in
      let same : Showing two.0 ≡ Showing one.0 = sym two.1 ∙ same_call ∙ one.1 in
      let show : two.0 ≡ one.0 = cc in
      let there : p < v.sheet.layout.processes = subst (λ (l : Layout). p < l.processes) (sym h.layout) h.there in
      let too : p < w.sheet.layout.processes = subst (λ (l : Layout). p < l.processes) (sym k.layout) k.there in
      settled_values m v p r one.0 good there one.2 ∙ ap shows.answered (sym show) ∙ sym (settled_values n w p s two.0 also too two.2)

-- what a process has after a step, in worlds that are alike
buffers_alike : (v w : WorldValue) → AreAlike v w → (access : Access Place) (buffer : List (BufferEntry Place)) → buffer_after access w buffer ≡ buffer_after access v buffer
buffers_alike v w alike (Flush place) buffer =
    ap (λ (value : ℕ). buffer ++ record { place = place; class = class_of place; value = value } ∷ []) (alike.memory.cached place)
buffers_alike v w alike Back [] = refl
buffers_alike v w alike Back (entry ∷ rest) = refl
buffers_alike v w alike Nothing buffer = refl
buffers_alike v w alike (Load place) buffer = refl
buffers_alike v w alike (Store place value) buffer = refl
buffers_alike v w alike (Or place bits) buffer = refl
buffers_alike v w alike (SwapIf place expected value) buffer = refl

-- what a process has after a step that answers nothing
buffer_alone : (v w : WorldValue) → AreAlike v w → (access : Access Place) (seat : PlainSeat)
    → ◌≡◌ {A = PlainSeat} (record { buffer = buffer_after access w seat.buffer; answer = seat.answer; text = seat.text }) (record { buffer = buffer_after access v seat.buffer; answer = seat.answer; text = seat.text })
buffer_alone v w alike access seat = ap (λ (b : List (BufferEntry Place)). let s : PlainSeat = record { buffer = b; answer = seat.answer; text = seat.text } in s) (buffers_alike v w alike access seat.buffer)

seats_alike : (v w : WorldValue) → AreAlike v w → (p : ℕ) (access : Access Place) (reply : Reply) (seat : PlainSeat)
    → (reply ≡ replies.Answered (answers.Show Settled) → values_of v p ≡ values_of w p) → seat_after p access reply w seat ≡ seat_after p access reply v seat
seats_alike v w alike p access (replies.Answered answer) seat values =
    let one = buffers_alike v w alike access seat.buffer in
    let two = same_text v w p answer alike.layout (λ e. values (ap replies.Answered e)) in
    ap (λ (b : List (BufferEntry Place)). let s : PlainSeat = record { buffer = b; answer = Some answer; text = reply_text w p (replies.Answered answer) } in s) one
    ∙ ap (λ (t : List ℕ). let s : PlainSeat = record { buffer = buffer_after access v seat.buffer; answer = Some answer; text = t } in s) two
seats_alike v w alike p access replies.Stepped seat values = buffer_alone v w alike access seat
seats_alike v w alike p access (replies.Begun number) seat values = buffer_alone v w alike access seat
seats_alike v w alike p access replies.Entered seat values = buffer_alone v w alike access seat
seats_alike v w alike p access (replies.Refused why) seat values = buffer_alone v w alike access seat
seats_alike v w alike p access replies.WrongTask seat values = buffer_alone v w alike access seat
seats_alike v w alike p access replies.Evicted seat values = buffer_alone v w alike access seat
seats_alike v w alike p access replies.Stopped seat values = buffer_alone v w alike access seat
seats_alike v w alike p access replies.Crashed seat values = buffer_alone v w alike access seat
seats_alike v w alike p access replies.NotEnabled seat values = buffer_alone v w alike access seat

-- the seat of a process after its step
pub with_alike : (f g : PlainSeat → PlainSeat) (p : ℕ) (before also : List PlainSeat) → ((seat : PlainSeat) → g seat ≡ f seat) → also ≡ before → with_seat g p also ≡ with_seat f p before
with_alike f g p before also same is =
    ap (λ (l : List PlainSeat). with_seat g p l) is ∙ ap (λ (s : PlainSeat). slice_set before p s) (same (slice_index_or before p no_seat))

pub step_alike : (v w after other : WorldValue) (before also then_ too : List PlainSeat) (p : ℕ) (a b : Option Place) → AreAlike v w → also ≡ before → IsInCall ((world_of v).situation p)
    → Steps p a v before after then_ → Steps p b w also other too → AreAlike after other × (too ≡ then_)
step_alike v w after other before also then_ too p a b alike seats calls h k =
    let mids : AreAlike h.mid k.mid = ready_alike v w alike p h.mid k.mid h.ready k.ready in
    let in_h : IsInCall ((world_of h.mid).situation p) = ready_calls v h.mid p h.ready calls in
    let in_k : IsInCall ((world_of k.mid).situation p) = ready_calls w k.mid p k.ready (subst IsInCall (sym (alike.situation p)) calls) in
    let one : Goes h.mid p h.reply after = makes_step h.mid after p h.reply h.fits.good in_h (waits_no_more v h.mid p h.ready) h.fits.takes in
    let two : Goes k.mid p k.reply other = makes_step k.mid other p k.reply k.fits.good in_k (waits_no_more w k.mid p k.ready) k.fits.takes in
    let worlds : AreAlike after other = worlds_alike h.mid k.mid after other mids p h.reply k.reply one two h.reads k.reads in
    let reply : k.reply ≡ h.reply = same_reply h.mid k.mid after other mids p h.reply k.reply one two in
    let values : h.reply ≡ replies.Answered (answers.Show Settled) → values_of after p ≡ values_of other p = values_alike h.mid k.mid after other mids p h.reply k.reply one two h.fits.good k.fits.good in
    let gets : slice_get k.mid.situations p ≡ slice_get h.mid.situations p = busy_get k.mid p in_k ∙ ap Some (mids.situation p) ∙ sym (busy_get h.mid p in_h) in
    let access : k.access ≡ h.access =
    k.makes ∙ ap (λ (l : Layout). access_in l.shape (slice_get k.mid.situations p)) mids.layout ∙ ap (λ (o : Option Situation). access_in h.mid.sheet.layout.shape o) gets ∙ sym h.makes in (
      worlds,
      k.seats ∙ with_alike (seat_after p h.access h.reply after) (seat_after p k.access k.reply other) p before also
          (λ seat. ap (λ (a : Access Place). seat_after p a k.reply other seat) access ∙ ap (λ (r : Reply). seat_after p h.access r other seat) reply
          ∙ seats_alike after other worlds p h.access h.reply seat values)
          seats
          ∙ sym h.seats,
    )

-- ---- a stop

-- a process that is in a call stops
pub makes_stop : (v w : WorldValue) (p : ℕ) (reply : Reply) → IsGood w → IsInCall ((world_of v).situation p) → StopTakes v p reply w → (reply ≡ replies.Stopped) × StopsProcess v p w
makes_stop v w p replies.Stopped good calls s = (refl, s)
makes_stop v w p replies.NotEnabled good calls s = absurd (s.none (call_there v p (subst IsGood s.same good) calls) (λ e. (let bad : IsInCall Stopped = subst IsInCall e calls in bad)))
makes_stop v w p (replies.Begun number) good calls s = absurd s
makes_stop v w p replies.Entered good calls s = absurd s
makes_stop v w p (replies.Refused why) good calls s = absurd s
makes_stop v w p replies.Stepped good calls s = absurd s
makes_stop v w p (replies.Answered answer) good calls s = absurd s
makes_stop v w p replies.WrongTask good calls s = absurd s
makes_stop v w p replies.Evicted good calls s = absurd s
makes_stop v w p replies.Crashed good calls s = absurd s

pub stop_alike : (v w after other : WorldValue) (before also then_ too : List PlainSeat) (p : ℕ) (c d : Option Place) → AreAlike v w → also ≡ before → IsInCall ((world_of v).situation p)
    → Stops p c v before after then_ → Stops p d w also other too → AreAlike after other × (too ≡ then_)
stop_alike v w after other before also then_ too p c d alike seats calls h k =
    let one = makes_stop v after p h.reply h.fits.good calls h.fits.takes in
    let two = makes_stop w other p k.reply k.fits.good (subst IsInCall (sym (alike.situation p)) calls) k.fits.takes in
    let a = one.1.stops in
    let b = two.1.stops in
    let reply : k.reply ≡ h.reply = two.0 ∙ sym one.0 in (
      record {
        layout = b.layout ∙ alike.layout ∙ sym a.layout;
        memory = stopped (memory v.sheet) (memory w.sheet) (memory after.sheet) (memory other.sheet) alike.memory p a.memory b.memory;
        situation = λ q. by_cases p q ((world_of other).situation q) ((world_of after).situation q)
            (λ e. ap (world_of other).situation e ∙ b.situation ∙ sym a.situation ∙ sym (ap (world_of after).situation e))
            (λ ne. b.others q ne ∙ alike.situation q ∙ sym (a.others q ne));
      },
      k.seats ∙ with_alike (seat_stopped p h.reply after) (seat_stopped p k.reply other) p before also
          (λ seat. ap (λ (r : Reply). seat_stopped p r other seat) two.0 ∙ sym (ap (λ (r : Reply). seat_stopped p r after seat) one.0))
          seats
          ∙ sym h.seats,
    )

-- ---- an eviction

-- a word of the sheet is evicted
pub makes_eviction : (v w : WorldValue) (place : Place) (reply : Reply) → IsPlace v.sheet.layout place → EvictTakes v place reply w → EvictsWord v place w
makes_eviction v w place replies.Evicted there s = s
makes_eviction v w place replies.NotEnabled there s = absurd (s.none there)
makes_eviction v w place (replies.Begun number) there s = absurd s
makes_eviction v w place replies.Entered there s = absurd s
makes_eviction v w place (replies.Refused why) there s = absurd s
makes_eviction v w place replies.Stepped there s = absurd s
makes_eviction v w place (replies.Answered answer) there s = absurd s
makes_eviction v w place replies.WrongTask there s = absurd s
makes_eviction v w place replies.Stopped there s = absurd s
makes_eviction v w place replies.Crashed there s = absurd s

pub eviction_alike : (v w after other : WorldValue) (before also then_ too : List PlainSeat) (place : Place) (c d : Option Place) → AreAlike v w → also ≡ before → IsPlace v.sheet.layout place
    → Evicts place c v before after then_ → Evicts place d w also other too → AreAlike after other × (too ≡ then_)
eviction_alike v w after other before also then_ too place c d alike seats there h k =
    let a = (makes_eviction v after place h.reply there h.fits.takes).evicts in
    let b = (makes_eviction w other place k.reply (subst (λ (l : Layout). IsPlace l place) (sym alike.layout) there) k.fits.takes).evicts in (
      record {
        layout = b.layout ∙ alike.layout ∙ sym a.layout;
        memory = evicted (memory v.sheet) (memory w.sheet) (memory after.sheet) (memory other.sheet) alike.memory place a.memory b.memory;
        situation = λ q. b.situation q ∙ alike.situation q ∙ sym (a.situation q);
      },
      k.seats ∙ seats ∙ sym h.seats,
    )

-- ---- what may happen

seats_count : (x y : Position) → seats_of y ≡ seats_of x → length y.seats.items ≡ length x.seats.items
seats_count x y e = sym (length-map y.seats.items seat_of) ∙ ap length e ∙ length-map x.seats.items seat_of

busy_alike : (x y : Position) (p : ℕ) → ArePositionsAlike x y → IsBusy x p → IsBusy y p
busy_alike x y p alike busy = record {
  there = (let count = seats_count x y alike.seats in let low = busy.there in omega (arith, count, low));
  calls = is_under_way y.world p (subst IsInCall (sym (alike.worlds.situation p)) (busy_is x.world p busy.calls));
}

dirt_alike : (v w : WorldValue) (place : Place) → AreAlike v w → HasDirt v place → HasDirt w place
dirt_alike v w place alike dirt = record {
  there = subst (λ (l : Layout). IsPlace l place) (sym alike.layout) dirt.there;
  differs = λ e. dirt.differs (sym (alike.memory.cached place) ∙ e ∙ alike.memory.persisted place);
}

pub may_alike : (allowed : Allowed) (places : List Place) (x y : Position) (move : Move) → ArePositionsAlike x y → MayHappen allowed places x move → MayHappen allowed places y move
may_alike allowed places x y (Step p) alike may = busy_alike x y p alike may
may_alike allowed places x y (Stop p) alike may = (may.0, busy_alike x y p alike may.1)
may_alike allowed places x y (Evict place) alike may =
    (may.0, dirt_alike x.world y.world place alike.worlds may.1, may.2, (may.3.0, busy_alike x y may.3.0 alike may.3.1))

pub happens_alike : (allowed : Allowed) (places : List Place) (move : Move) (x y after other : Position) → ArePositionsAlike x y → MayHappen allowed places x move → Happens x move after → Happens y move other → ArePositionsAlike after other
happens_alike allowed places move x y after other alike may h k = let both = by_move move may h.1 k.1 in record { worlds = both.0; seats = both.1 }
  where
    by_move : (move : Move) → MayHappen allowed places x move → HappensAt x move h.0 after → HappensAt y move k.0 other → AreAlike after.world other.world × (seats_of other ≡ seats_of after)
    by_move (Step p) may a b = step_alike x.world y.world after.world other.world (seats_of x) (seats_of y) (seats_of after) (seats_of other) p h.0 k.0 alike.worlds alike.seats (busy_is x.world p may.calls) a b
    by_move (Stop p) may a b = stop_alike x.world y.world after.world other.world (seats_of x) (seats_of y) (seats_of after) (seats_of other) p h.0 k.0 alike.worlds alike.seats (busy_is x.world p may.1.calls) a b
    by_move (Evict place) may a b = eviction_alike x.world y.world after.world other.world (seats_of x) (seats_of y) (seats_of after) (seats_of other) place h.0 k.0 alike.worlds alike.seats may.1.there a b
