-- Turns of a recalculation.
use Rattle.std.proofs.Common.{ℕ, suc, [], ◌∷◌, length, slice_index_or, remove, ◌≡◌, ◌<◌, ◌∙◌, Bool, true, false, List, All, Some, None, refl, sym, ap, subst, lit<, arith}
use Rattle.std.specs.Prelude.{Option, IfSome}
use Rattle.std.specs.Global.{Vec}
use Rattle.ds_formula.specs.Cells.{cell_at}
use Rattle.ds_eval.specs.declared.inputs.Entry.{Entry}
use Rattle.ds_state.specs.Value.{WorldValue, world_of, IsGood}
use Rattle.ds_state.specs.declared.answer.Answer.{Answer}
use Rattle.ds_state.specs.declared.answer.Answer.TheVariants.{Work}
use Rattle.ds_state.specs.declared.work.WorkEnd.{WorkEnd}
use Rattle.ds_work.specs.WorkTakes.{IsOffered}
use Rattle.ds_core.specs.Takes.{Fits}
use Rattle.ds_core.specs.declared.event.Event.{Event}
use Rattle.ds_core.specs.declared.event.Event.TheVariants.{Step, BeginWork}
use Rattle.ds_core.specs.declared.reply.Reply.{Reply}
use Rattle.ds_core.specs.declared.reply.Reply.TheVariants.{Begun, Entered, Stepped, Answered}
use Rattle.ds_calls.proofs.Driving.{offer_event, offer_fits}
use Rattle.ds_script.specs.declared.drive.Until.TheVariants.{OneStep}
use Rattle.ds_script.specs.ScriptTexts.{reply_text}
use Rattle.ds_calls.specs.Marked.{state_at, is_marked}
use Rattle.ds_script.specs.Doing.{Doing, Says, WorksInOrder, entered, gone, in_order}
use Rattle.ds_script.proofs.Recalculated.{at_marked, at_other}
use Rattle.ds_script.specs.Plays.{WantsStep}
use Rattle.ds_script.specs.Script.{step_taken}
use Rattle.ds_script.proofs.Driving.{offer_asked, if_some}
use Rattle.ds_script.specs.declared.turn.Left.{Left}
use Rattle.ds_script.specs.declared.turn.Left.TheVariants as left
use Rattle.ds_script.specs.ScriptTurns.{Remains, IsStep, IsWithin, TakesTurn, events_from, events_to_step}
use Rattle.ds_script.proofs.Turning.{near, nothing_left, own_offer, stays_within, wants_behind}

-- a process that is driven through a work of a recalculation goes on with the cells that the work left
pub entered_within : (old new : WorldValue) (p cell : ℕ) (rest : Vec ℕ) (reply : Reply) (next : Option Left)
    → IsWithin old (left.WorksInOrder p cell rest) → Fits old (BeginWork p (cell_at old.sheet.layout.shape cell)) reply new
    → IfSome next (λ l. l ≡ left.DrivesInOrder p rest) → IfSome next (IsWithin new)
entered_within old new p cell rest reply next within fits same =
    if_some next (λ l. l ≡ left.DrivesInOrder p rest) (IsWithin new)
    (λ l is. subst (λ (x : Left). IsWithin new x) (sym is) (stays_within old new (BeginWork p (cell_at old.sheet.layout.shape cell)) reply (left.DrivesInOrder p rest) fits within.1)) same

-- a work that has not begun ends the recalculation
pub not_entered : (w : WorldValue) (p : ℕ) (rest : List ℕ) (reply : Reply) → ((n : ℕ) → reply ≡ Begun n → ⊥) → (reply ≡ Entered → ⊥) → entered w p rest reply ≡ Says (reply_text w p reply)
not_entered w p rest (Begun n) a b = absurd (a n refl)
not_entered w p rest Entered a b = absurd (b refl)
not_entered w p rest reply a b = refl

-- a beginning of work
pub begins : (old new : WorldValue) (p cell : ℕ) (rest : Vec ℕ) (reply : Reply) (next : Option Left)
    → IsWithin old (left.WorksInOrder p cell rest) → Fits old (BeginWork p (cell_at old.sheet.layout.shape cell)) reply new
    → Remains next (entered new p rest.items reply) → IfSome next (λ l. l ≡ left.DrivesInOrder p rest)
    → TakesTurn (left.WorksInOrder p cell rest) old (record { stepped = false; reply = reply; left = next }) new
begins old new p cell rest reply next within fits remains same = record {
  event = BeginWork p (cell_at old.sheet.layout.shape cell);
  asked = refl;
  fits = fits;
  is = refl;
  offers = λ value is. cc;
  remains = remains;
  within = entered_within old new p cell rest reply next within fits same;
  nearer = λ none. if_some next (λ l. l ≡ left.DrivesInOrder p rest) (λ l. events_to_step new l < 3)
      (λ l is. subst (λ (x : Left). events_to_step new x < 3) (sym is) (near p new.sheet.layout.shape ((world_of new).situation p))) same;
  fewer = tt;
}

-- an offer
pub offers : (old new : WorldValue) (p : ℕ) (rest : Vec ℕ) (given : (entry : Entry) × IsOffered (world_of old) p entry (world_of new))
    → IsGood new → new.done ≡ old.done → new.settled ≡ old.settled → new.reports ≡ old.reports → IsWithin old (left.DrivesInOrder p rest)
    → TakesTurn (left.DrivesInOrder p rest) old (record { stepped = false; reply = Stepped; left = Some (left.DrivesInOrder p rest) }) new
offers old new p rest given good done settled reports within = record {
  event = offer_event old new p given good done settled reports;
  asked = offer_asked old new p OneStep given good done settled reports;
  fits = offer_fits old new p given good done settled reports;
  is = refl;
  offers = λ value is. (own_offer old new p given good done settled reports value is, refl);
  remains = refl;
  within = stays_within old new (offer_event old new p given good done settled reports) Stepped (left.DrivesInOrder p rest) (offer_fits old new p given good done settled reports) within;
  nearer = λ none. subst (λ (n : ℕ). events_to_step new (left.DrivesInOrder p rest) < n) (sym (ap events_from (offer_asked old new p OneStep given good done settled reports)))
      (subst (λ (n : ℕ). n < 2) (sym (ap (λ (e : Event). events_from (Some e)) (wants_behind old new p new.sheet.layout.shape given))) (lit< tt));
  fewer = tt;
}

-- a step that is not taken ends the recalculation
says : (w : WorldValue) (p : ℕ) (rest : List ℕ) (reply : Reply) → step_taken (Step p) reply ≡ 0 → gone w p rest reply ≡ Says (reply_text w p reply)
says w p rest Stepped none = absurd (omega (arith, none))
says w p rest (Answered answer) none = absurd (omega (arith, none))
says w p rest reply none = refl

-- a step, taken or not
pub steps : (old new : WorldValue) (p : ℕ) (rest : Vec ℕ) (reply : Reply) (taken : Bool) (next : Option Left) → WantsStep old p → Fits old (Step p) reply new
    → IsStep taken (Step p) reply → Remains next (gone new p rest.items reply) → IfSome next (IsWithin new)
    → TakesTurn (left.DrivesInOrder p rest) old (record { stepped = taken; reply = reply; left = next }) new
steps old new p rest reply true next wants fits is remains within = record {
  event = Step p;
  asked = ap (λ (e : Event). Some e) wants;
  fits = fits;
  is = is;
  offers = λ value other. cc;
  remains = remains;
  within = within;
  nearer = λ none. absurd (let e : true ≡ false = none in cc);
  fewer = tt;
}
steps old new p rest reply false next wants fits is remains within = record {
  event = Step p;
  asked = ap (λ (e : Event). Some e) wants;
  fits = fits;
  is = is;
  offers = λ value other. cc;
  remains = remains;
  within = within;
  nearer = λ none. nothing_left (reply_text new p reply) next (λ l. events_to_step new l < events_to_step old (left.DrivesInOrder p rest))
      (subst (λ (d : Doing). Remains next d) (says new p rest.items reply is) remains);
  fewer = tt;
}

-- ---- the cells of an order

-- a list whose first element this is
pub front : (xs : List ℕ) (x : ℕ) → 0 < length xs → x ≡ slice_index_or xs 0 x → xs ≡ x ∷ remove xs 0
front [] x low is = absurd (omega (arith, low))
front (y ∷ ys) x low is = ap (λ (z : ℕ). z ∷ ys) (sym is)

module _ (w : WorldValue) (p cell : ℕ) (order rest : List ℕ) (is : order ≡ cell ∷ rest) where
  -- a recalculation passes a cell that is not marked
  pub passes_on : is_marked (state_at (world_of w) cell) ≡ false → in_order w p order ≡ in_order w p rest
  passes_on clean = ap (λ (xs : List ℕ). in_order w p xs) is ∙ at_other w p cell rest clean

  -- and works on one that is
  pub works_at : is_marked (state_at (world_of w) cell) ≡ true → in_order w p order ≡ WorksInOrder p cell rest
  works_at marked = ap (λ (xs : List ℕ). in_order w p xs) is ∙ at_marked w p cell rest marked

  pub inside_first : (n : ℕ) → All (λ c. c < n) order → cell < n
  inside_first n h = (subst (λ (xs : List ℕ). All (λ c. c < n) xs) is h) 0 0 (omega arith)

  pub inside_rest : (n : ℕ) → All (λ c. c < n) order → All (λ c. c < n) rest
  inside_rest n h = λ k d l. (subst (λ (xs : List ℕ). All (λ c. c < n) xs) is h) (suc k) d (omega (arith, l))

-- an answer that is none of work ends the recalculation
pub other_answer : (w : WorldValue) (p : ℕ) (rest : List ℕ) (answer : Answer) → ((end : WorkEnd) → answer ≡ Work end → ⊥) → gone w p rest (Answered answer) ≡ Says (reply_text w p (Answered answer))
other_answer w p rest (Work end) none = absurd (none end refl)
other_answer w p rest answer none = refl

-- so does a reply that is neither a step nor an answer
pub other_reply : (w : WorldValue) (p : ℕ) (rest : List ℕ) (reply : Reply) → (reply ≡ Stepped → ⊥) → ((answer : Answer) → reply ≡ Answered answer → ⊥) → gone w p rest reply ≡ Says (reply_text w p reply)
other_reply w p rest Stepped a b = absurd (a refl)
other_reply w p rest (Answered answer) a b = absurd (b answer refl)
other_reply w p rest reply a b = refl
