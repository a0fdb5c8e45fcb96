-- How trails go on.
use Rattle.std.proofs.Common.{ℕ, suc, ◌≡◌, ◌+◌, [], ◌∷◌, ◌++◌, refl, sym, ap, ◌∙◌, subst, inl, inr, arith}
use Rattle.std.specs.Prelude.{Option, None, Some, IfSome}
use Rattle.std.proofs.lemmas.List.{append_assoc, append-nil}
use Rattle.std.proofs.lemmas.List.Elements.{All-nil, All-push, All-append}
use Rattle.ds_state.specs.declared.work.WorkEnd.{WorkEnd}
use Rattle.ds_core.specs.declared.event.Event.{Event}
use Rattle.ds_core.specs.declared.reply.Reply.{Reply}
use Rattle.ds_core.specs.declared.event.Event.TheVariants.{Step}
use Rattle.ds_core.specs.declared.reply.Reply.TheVariants.{Answered}
use Rattle.ds_state.specs.declared.answer.Answer.TheVariants as answers
use Rattle.ds_formula.specs.declared.cells.Shape.{Shape}
use Rattle.ds_crew.specs.Passes.{PlainPass, HasServed, with_trail}
use Rattle.ds_crew.specs.Trails.{Trail, and_event, IsNoAnswer, IsOfCall, GoesOn, EndsBy, WorkEnds, GoesOver, HasGoneRounds, more}
use Rattle.ds_crew.specs.declared.steps.Call.{Call}
use Rattle.ds_crew.specs.declared.steps.Call.TheVariants.{Work}

module _ (call : Call) (process : ℕ) where
  -- a trail goes on by nothing
  pub by_nothing : (trail : Trail) → GoesOn call process trail trail
  by_nothing trail = record { more = []; is = sym (append-nil trail); each = All-nil (λ e. IsOfCall call process e.0 × IsNoAnswer e.1) }

  -- by one event more
  pub by_one_more : (old middle new : Trail) (event : Event) (reply : Reply) → GoesOn call process old middle → IsOfCall call process event → IsNoAnswer reply → new ≡ and_event middle event reply → GoesOn call process old new
  by_one_more old middle new event reply h own unanswered is = record {
    more = and_event h.more event reply;
    is = is ∙ ap (λ (t : Trail). and_event t event reply) h.is ∙ append_assoc old h.more ((event, reply) ∷ []);
    each = All-push (λ e. IsOfCall call process e.0 × IsNoAnswer e.1) h.more (event, reply) h.each (own, unanswered);
  }

  -- by one event
  pub by_one : (old new : Trail) (event : Event) (reply : Reply) → IsOfCall call process event → IsNoAnswer reply → new ≡ and_event old event reply → GoesOn call process old new
  by_one old new event reply own unanswered is = by_one_more old old new event reply (by_nothing old) own unanswered is

  -- by two parts
  pub by_both : (old middle new : Trail) → GoesOn call process old middle → GoesOn call process middle new → GoesOn call process old new
  by_both old middle new a b = record {
    more = a.more ++ b.more;
    is = b.is ∙ ap (λ (t : Trail). t ++ b.more) a.is ∙ append_assoc old a.more b.more;
    each = All-append (λ e. IsOfCall call process e.0 × IsNoAnswer e.1) a.more b.more a.each b.each;
  }

  -- it goes on, and then ends
  pub ends_after : (old middle new : Trail) (last : Event) (reply : Reply) → GoesOn call process old middle → EndsBy call process last reply middle new → EndsBy call process last reply old new
  ends_after old middle new last reply a b = record { middle = b.middle; goes_on = by_both old middle b.middle a b.goes_on; is = b.is }

  -- it ends at once
  pub ends_at_once : (old new : Trail) (last : Event) (reply : Reply) → new ≡ and_event old last reply → EndsBy call process last reply old new
  ends_at_once old new last reply is = record { middle = old; goes_on = by_nothing old; is = is }

-- work goes on, and then ends
pub work_ends_after : (process : ℕ) (end : WorkEnd) (old middle new : Trail) → GoesOn Work process old middle → WorkEnds process end middle new → WorkEnds process end old new
work_ends_after process end old middle new a (inl b) = inl (ends_after Work process old middle new _ _ a b)
work_ends_after process end old middle new a (inr b) = inr (b.0, (b.1.0, ends_after Work process old middle new _ _ a b.1.1))

-- work that may have ended goes on before, by one event more
pub may_end_after : (process : ℕ) (end : Option WorkEnd) (old middle new : Trail) → GoesOn Work process old middle → IfSome end (λ e. WorkEnds process e middle new) → IfSome end (λ e. WorkEnds process e old new)
may_end_after process None old middle new a b = tt
may_end_after process (Some end) old middle new a b = work_ends_after process end old middle new a b

-- work ends by a step that is answered
pub work_ends_by : (process : ℕ) (end : WorkEnd) (old new : Trail) → new ≡ and_event old (Step process) (Answered (answers.Work end)) → WorkEnds process end old new
work_ends_by process end old new is = inl (ends_at_once Work process old new (Step process) (Answered (answers.Work end)) is)

-- a pass that adds nothing to its share, and stays but for its trail
pub stays : (first old new : PlainPass) (n : ℕ) → n ≡ 0 → new ≡ record old { dones = old.dones + n; trail = new.trail } → old ≡ with_trail first old.trail → new ≡ with_trail first new.trail
stays first old new n none is same =
    let e : old.dones + n ≡ old.dones = omega (arith, none) in
    is ∙ ap (λ (dones : ℕ). record old { dones = dones; trail = new.trail }) e ∙ ap (λ (pass : PlainPass). with_trail pass new.trail) same

-- one part more
pub over_one_more : (part : ℕ → Trail → Trail → Type 0) (old middle new : Trail) (n m : ℕ) → m ≡ n + 1 → GoesOver part old n middle → part n middle new → GoesOver part old m new
over_one_more part old middle new n m is over here =
    let e : suc n ≡ m = omega (arith, is) in
    subst (λ (k : ℕ). GoesOver part old k new) e (more n middle new over here)

-- a pass whose trail goes on by a worker's rounds
pub served : (shape : Shape) (rounds : ℕ) (old inside : PlainPass) (end : Trail) → inside ≡ old → HasGoneRounds shape inside.process rounds inside.trail end → HasServed shape rounds old (with_trail inside end)
served shape rounds old inside end is gone = subst (λ (pass : PlainPass). HasServed shape rounds pass (with_trail inside end)) is (record { is = refl; gone = gone })
