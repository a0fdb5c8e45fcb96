-- A settle that is played to its end is a settle of whole works, and its text says how that ended.
use Rattle.std.proofs.Common.{◌≤◌, ◌*◌, length, ℕ, zero, suc, ◌≡◌, ◌≢◌, ◌<◌, ◌+◌, ◌-◌, ◌⊎◌, List, [], ◌∷◌, ◌++◌, refl, sym, ap, ◌∙◌, subst, arith, inl, inr, Bool, true, false, Some, None}
use Rattle.std.specs.Prelude.{Option, Result, Ok, Err, if◌then◌else◌}
use Rattle.ds_formula.specs.Cells.{cell_at}
use Rattle.ds_formula.specs.declared.cells.Shape.{Shape}
use Rattle.ds_eval.proofs.Rounds.{inside_at}
use Rattle.ds_layout.specs.declared.layout.Layout.{Layout}
use Rattle.ds_layout.specs.Places.{cells_of}
use Rattle.ds_state.specs.Value.{WorldValue, world_of, IsGood}
use Rattle.ds_state.specs.World.{PlainWorld}
use Rattle.ds_state.specs.Works.{PlainWorkCall}
use Rattle.ds_state.specs.CallsFit.{CallFits}
use Rattle.ds_state.specs.KnownWork.{WorkFits}
use Rattle.ds_state.specs.declared.refusal.Refusal.{Refusal}
use Rattle.ds_state.specs.declared.situation.Situation.{Situation}
use Rattle.ds_state.specs.declared.situation.Situation.TheVariants.{Working}
use Rattle.ds_state.specs.declared.work.WorkStage.{WorkStage}
use Rattle.ds_state.specs.declared.work.WorkStage.TheVariants.{Wait}
use Rattle.ds_work.specs.WorkTakes.{Waits}
use Rattle.ds_state.specs.declared.answer.Answer.{Answer}
use Rattle.ds_state.specs.declared.answer.Answer.TheVariants.{Work}
use Rattle.ds_state.specs.declared.work.WorkEnd.{WorkEnd}
use Rattle.ds_state.specs.declared.work.WorkEnd.TheVariants as work_ends
use Rattle.ds_core.specs.Kinds.{IsWorkAnswer}
use Rattle.ds_core.specs.Ends.{IsCallOf}
use Rattle.ds_core.specs.StepEvents.{Rests}
use Rattle.ds_core.specs.Takes.{Fits, WorldRun}
use Rattle.ds_core.specs.WorkEvents.{HasWork}
use Rattle.ds_core.specs.declared.event.Event.{Event}
use Rattle.ds_core.specs.declared.event.Event.TheVariants.{Step, Offer, BeginWork}
use Rattle.ds_core.specs.declared.reply.Reply.{Reply}
use Rattle.ds_core.specs.declared.reply.Reply.TheVariants.{Entered, Refused, Stepped, Answered, WrongTask, NotEnabled}
use Rattle.ds_calls.specs.declared.settle.SettleEnd.{SettleEnd}
use Rattle.ds_calls.specs.declared.settle.SettleEnd.TheVariants as settle_ends
use Rattle.ds_calls.specs.declared.settle.SettleStage.{SettleStage}
use Rattle.ds_calls.specs.declared.settle.SettleStage.TheVariants as turns
use Rattle.ds_calls.specs.Marked.{state_at, is_marked, marked_from}
use Rattle.ds_calls.specs.Wanted.{wants, wanted, wanted_at, evaluated}
use Rattle.ds_calls.specs.Whole.{HasProcess, IsCallingAs, HasBegun, Goes, stays, goes, Whole, finishes, refused}
use Rattle.ds_calls.specs.Settling.{Settling, begins, works, worked, round, first_of, next_of, goes_behind, first_turn, IsInTurn}
use Rattle.ds_calls.proofs.Stepping.{step_goes, must_wait, calls_on}
use Rattle.ds_core.proofs.CallKinds.{step_ends}
use Rattle.ds_calls.proofs.Begins.{work_begins}
use Rattle.ds_calls.proofs.Runs.{whole_runs, run_keeps_layout}
use Rattle.ds_script.specs.declared.drive.Until.TheVariants.{InRound}
use Rattle.ds_script.specs.ScriptTexts.{reply_text, left_text}
use Rattle.ds_script.specs.Doing.{Doing, Says, Drives, Works, called, driven, at_turn, end_text, settle, plan}
use Rattle.ds_script.specs.Plays.{Plays, Played}
use Rattle.ds_script.specs.LoneSettles.{SaysClean}
use Rattle.ds_script_io.specs.AnswerTexts.{refused_text}
use Rattle.ds_calls.specs.Lone.{AreIdle, AreYoung, EndsClean}
use Rattle.ds_calls.proofs.LoneSettles.{settles_clean}
use Rattle.ds_calls.proofs.Ages.{young_marks}
use Rattle.ds_state.specs.Works.{SEEN_MOST}
use Rattle.ds_script.specs.Script.{Progress, Carried}
use Rattle.ds_script.specs.Orders.{Settle}
use Rattle.ds_script.proofs.Scripts.{carried_runs, carried_new, carried_good}

-- ---- the cell of a turn is one of the sheet

found_low : (w : PlainWorld) (more k cell : ℕ) → marked_from w more k ≡ Some cell → cell < k + more
found_low w zero k cell is = absurd (cc)
found_low w (suc more) k cell is = by (λ h. found_low w more (k + 1) cell h) (is_marked (state_at w k)) is
  where
    by : (marked_from w more (k + 1) ≡ Some cell → cell < (k + 1) + more) → (b : Bool) → (if b then Some k else marked_from w more (k + 1)) ≡ Some cell → cell < k + suc more
    by again true same = let one : k ≡ cell = cc in omega (arith, one)
    by again false same = let low = again same in omega (arith, low)

in_first : (v : WorldValue) (r : ℕ) (o : Option ℕ) → ((cell : ℕ) → o ≡ Some cell → cell < cells_of v.sheet.layout) → IsInTurn (cells_of v.sheet.layout) (first_of v r o)
in_first v r None low = tt
in_first v r (Some cell) low = low cell refl

in_round : (v : WorldValue) (rounds : ℕ) → IsInTurn (cells_of v.sheet.layout) (round v rounds)
in_round v zero = tt
in_round v (suc r) = in_first v r (marked_from (world_of v) (cells_of v.sheet.layout) 0) (λ cell is. let low = found_low (world_of v) (cells_of v.sheet.layout) 0 cell is in omega (arith, low))

in_next : (v : WorldValue) (r : ℕ) (o : Option ℕ) → ((cell : ℕ) → o ≡ Some cell → cell < cells_of v.sheet.layout) → IsInTurn (cells_of v.sheet.layout) (next_of v r o)
in_next v r None low = in_round v r
in_next v r (Some cell) low = low cell refl

in_behind : (v : WorldValue) (rounds cell : ℕ) → cell < cells_of v.sheet.layout → IsInTurn (cells_of v.sheet.layout) (goes_behind v rounds cell)
in_behind v rounds cell low = in_next v rounds (marked_from (world_of v) (cells_of v.sheet.layout - (cell + 1)) (cell + 1))
    (λ next is. let found = found_low (world_of v) (cells_of v.sheet.layout - (cell + 1)) (cell + 1) next is in omega (arith, found, low))

in_worked : (v : WorldValue) (rounds cell : ℕ) (result : Result WorkEnd Refusal) → cell < cells_of v.sheet.layout → IsInTurn (cells_of v.sheet.layout) (worked v rounds cell result)
in_worked v rounds cell (Err why) low = tt
in_worked v rounds cell (Ok work_ends.NoMemory) low = tt
in_worked v rounds cell (Ok _) low = in_behind v rounds cell low

whole_layout : (p : ℕ) (event : Event) (old : WorldValue) (result : Result WorkEnd Refusal) (new : WorldValue) → Whole Work p event old result new → new.sheet.layout ≡ old.sheet.layout
whole_layout p event old result new h = run_keeps_layout old new (whole_runs _ _ p event old result new h)

pub in_turn : (p : ℕ) (first : WorldValue) (turn : SettleStage) (v : WorldValue) → Settling p first turn v → IsInTurn (cells_of v.sheet.layout) turn
in_turn p first turn v begins = in_round first (cells_of first.sheet.layout + 2)
in_turn p first turn v (works rounds cell old new result so_far whole) =
    in_worked new rounds cell result (subst (λ (y : Layout). cell < cells_of y) (sym (whole_layout p _ old result new whole)) (in_turn p first (turns.Works rounds cell) old so_far))

pub settling_layout : (p : ℕ) (first : WorldValue) (turn : SettleStage) (v : WorldValue) → Settling p first turn v → v.sheet.layout ≡ first.sheet.layout
settling_layout p first turn v begins = refl
settling_layout p first turn v (works rounds cell old new result so_far whole) = whole_layout p _ old result new whole ∙ settling_layout p first (turns.Works rounds cell) old so_far

whole_good : (p : ℕ) (event : Event) (old : WorldValue) (result : Result WorkEnd Refusal) (new : WorldValue) → Whole Work p event old result new → IsGood new
whole_good p event old result new (finishes reply mid n answer begun fits f) = f.answers.good
whole_good p event old result new (refused why n fits) = fits.good

settling_good : (p : ℕ) (first : WorldValue) → IsGood first → (turn : SettleStage) (v : WorldValue) → Settling p first turn v → IsGood v
settling_good p first good turn v begins = good
settling_good p first good turn v (works rounds cell old new result so_far whole) = whole_good p _ old result new whole

-- ---- what a process in a call wants

wanted_one : (p : ℕ) (shape : Shape) (e : PlainWorkCall) (s : WorkStage) → e.stage ≡ s → (wanted_at p shape e s ≡ Step p) ⊎ ((e.stage ≡ Wait) × (wanted_at p shape e s ≡ Offer (evaluated shape e)))
wanted_one p shape e Wait is = inr (is, refl)
wanted_one p shape e s is = inl refl

wanted_of : (p : ℕ) (shape : Shape) (s : Situation) → (wanted p shape s ≡ Step p) ⊎ ((e : PlainWorkCall) × (s ≡ Working e) × (e.stage ≡ Wait) × (wanted p shape s ≡ Offer (evaluated shape e)))
wanted_of p shape (Working e) = elim (wanted_one p shape e e.stage refl) [ inl step ↦ inl step | inr offer ↦ inr (e, refl, offer.0, offer.1) ]
wanted_of p shape _ = inl refl

-- a process whose step has another reply makes none
no_step : (w mid : WorldValue) (p : ℕ) (reply : Reply) → Fits w (Step p) reply mid → reply ≢ Stepped → ((answer : Answer) → reply ≢ Answered answer) → Rests (IsCallOf IsWorkAnswer) w p mid
no_step w mid p Stepped fits ns na = absurd (ns refl)
no_step w mid p (Answered answer) fits ns na = absurd (na answer refl)
no_step w mid p NotEnabled fits ns na = record { same = fits.takes.same; waits = λ low call. fits.takes.waits low call.0 }
no_step w mid p _ fits ns na = absurd fits.takes

-- an answer of work is how it ended
pub work_of : (answer : Answer) → IsWorkAnswer answer → (end : WorkEnd) × (answer ≡ Work end)
work_of (Work end) h = (end, refl)
work_of _ h = absurd h

module _ (p : ℕ) (w mid : WorldValue) (good : IsGood w) (calling : IsCallingAs IsWorkAnswer w p) where
  step_or_offer : (wants w p ≡ Step p) ⊎ ((e : PlainWorkCall) × ((world_of w).situation p ≡ Working e) × (e.stage ≡ Wait) × (wants w p ≡ Offer (evaluated w.sheet.layout.shape e)))
  step_or_offer = wanted_of p w.sheet.layout.shape ((world_of w).situation p)

  its : (e : PlainWorkCall) → (world_of w).situation p ≡ Working e → e.process ≡ p
  its e at = (let fits : WorkFits (world_of w) p e = subst (λ (s : Situation). CallFits (world_of w) p s) at (good.sound.calls p calling.there) in fits.mine)

  waits_wants : (e : PlainWorkCall) → Waits (world_of w) p e → wants w p ≡ Offer (evaluated w.sheet.layout.shape e)
  waits_wants e waits =
      ap (λ (s : Situation). wanted p w.sheet.layout.shape s) waits.works
      ∙ ap (λ (s : WorkStage). wanted_at p w.sheet.layout.shape e s) waits.waits

  only_offered : (e : PlainWorkCall) (reply : Reply) → (world_of w).situation p ≡ Working e → e.stage ≡ Wait → reply ≢ Stepped → Fits w (Offer (evaluated w.sheet.layout.shape e)) reply mid → ⊥
  only_offered e Stepped at waits ns fits = ns refl
  only_offered e WrongTask at waits ns fits =
      fits.takes.none (record { work = e; waits = record { inside = subst (λ q. q < w.sheet.layout.processes) (sym (its e at)) calling.there; works = ap (λ q. (world_of w).situation q) (its e at) ∙ at; waits = waits }; is = refl })
  only_offered e _ at waits ns fits = fits.takes

  pub no_other : (reply : Reply) → reply ≢ Stepped → ((answer : Answer) → reply ≢ Answered answer) → Fits w (wants w p) reply mid → ⊥
  no_other reply ns na fits = elim step_or_offer [
    | inl step ↦ must_wait IsWorkAnswer w mid p calling (no_step w mid p reply (subst (λ (e : Event). Fits w e reply mid) step fits) ns na) (λ e waits. (let bad : Step p ≡ Offer (evaluated w.sheet.layout.shape e) = sym step ∙ waits_wants e waits in cc))
    | inr offer ↦ only_offered offer.0 reply offer.1 offer.2 ns (subst (λ (e : Event). Fits w e reply mid) offer.3 fits)
  ]

  pub steps_end : (answer : Answer) → Fits w (wants w p) (Answered answer) mid → Fits w (Step p) (Answered answer) mid
  steps_end answer fits = elim step_or_offer [
    | inl step ↦ subst (λ (e : Event). Fits w e (Answered answer) mid) step fits
    | inr offer ↦ absurd (only_offered offer.0 (Answered answer) offer.1 offer.2 (λ is. cc) (subst (λ (e : Event). Fits w e (Answered answer) mid) offer.3 fits))
  ]

  pub still_calling : Fits w (wants w p) Stepped mid → IsCallingAs IsWorkAnswer mid p
  still_calling fits = elim step_or_offer [
    | inl step ↦ calls_on IsWorkAnswer w mid p calling (step_goes w mid p good.sound (record { there = calling.there; calls = calling.calls.0 }) (subst (λ (e : Event). Fits w e Stepped mid) step fits))
    | inr offer ↦ (
        let f : Fits w (Offer (evaluated w.sheet.layout.shape offer.0)) Stepped mid = subst (λ (e : Event). Fits w e Stepped mid) offer.3 fits in
        let o = f.takes.offered in
        let mine : o.work.process ≡ p = o.mine ∙ its offer.0 offer.1 in
        record {
          there = subst (λ (y : Layout). p < y.processes) (sym o.offers.turn.layout) calling.there;
          calls = subst (λ (x : Situation). IsCallOf IsWorkAnswer x) (sym (ap (λ q. (world_of mid).situation q) (sym mine) ∙ o.offers.turn.situation)) (tt, λ answer h. h);
        })
  ]

-- ---- plays

on_in_round : (p rounds cell : ℕ) (w : WorldValue) (event : Event) → driven w p (InRound rounds cell) event Stepped ≡ Drives p (InRound rounds cell)
on_in_round p rounds cell w (Offer value) = refl
on_in_round p rounds cell w event = refl

ends_round : (p rounds cell : ℕ) (w : WorldValue) (event : Event) (end : WorkEnd) → driven w p (InRound rounds cell) event (Answered (Work end)) ≡ at_turn w p (worked w rounds cell (Ok end))
ends_round p rounds cell w (Offer value) end = refl
ends_round p rounds cell w event end = refl

module _ (p : ℕ) (first : WorldValue) (good : IsGood first) (there : HasProcess first p) (text : List ℕ) (new : WorldValue) where
  -- it has ended so, and this is its text
  pub record Settles : Type 0 where
    pub end : SettleEnd
    pub settling : Settling p first (turns.Ends end) new
    pub text_is : text ≡ end_text new p end

  record InRoundAt (rounds cell : ℕ) (w : WorldValue) : Type 0 where
    old : WorldValue
    so_far : Settling p first (turns.Works rounds cell) old
    reply : Reply
    mid : WorldValue
    begun : HasBegun reply
    fits : Fits old (BeginWork p (cell_at old.sheet.layout.shape cell)) reply mid
    events : List Event
    replies : List Reply
    goes_so : Goes p mid events replies w
    calling : IsCallingAs IsWorkAnswer w p
    good_now : IsGood w

  has_work : (rounds cell : ℕ) (old : WorldValue) → Settling p first (turns.Works rounds cell) old → HasWork old p (cell_at old.sheet.layout.shape cell)
  has_work rounds cell old so_far = record {
    process = subst (λ (y : Layout). p < y.processes) (sym (settling_layout p first (turns.Works rounds cell) old so_far)) there;
    within = inside_at old.sheet.layout.shape cell (in_turn p first (turns.Works rounds cell) old so_far);
  }

  goes_next : (rounds cell : ℕ) (w mid : WorldValue) → (u : InRoundAt rounds cell w) → Fits w (wants w p) Stepped mid → InRoundAt rounds cell mid
  goes_next rounds cell w mid u fits = record {
    old = u.old;
    so_far = u.so_far;
    reply = u.reply;
    mid = u.mid;
    begun = u.begun;
    fits = u.fits;
    events = u.events ++ wants w p ∷ [];
    replies = u.replies ++ Stepped ∷ [];
    goes_so = goes u.events u.replies w mid u.goes_so fits;
    calling = still_calling p w mid u.good_now u.calling fits;
    good_now = fits.good;
  }

  -- the rest of the play, from a turn on, and from a work under way on
  abbrev TurnsOn : List Event → List Reply → Type 0
  TurnsOn events replies = (turn : SettleStage) (w : WorldValue) → Settling p first turn w → Plays (at_turn w p turn) w events replies (Says text) new → Settles

  abbrev DrivesOn : List Event → List Reply → Type 0
  DrivesOn events replies = (rounds cell : ℕ) (w : WorldValue) → InRoundAt rounds cell w → Plays (Drives p (InRound rounds cell)) w events replies (Says text) new → Settles

  refused_plays : (events : List Event) (replies : List Reply) (rounds cell : ℕ) (w mid : WorldValue) (why : Refusal) → Settling p first (turns.Works rounds cell) w → Fits w (BeginWork p (cell_at w.sheet.layout.shape cell)) (Refused why) mid
      → Plays (Says (reply_text mid p (Refused why))) mid events replies (Says text) new → Settles
  refused_plays [] [] rounds cell w mid why s fits h =
      let same : text ≡ reply_text mid p (Refused why) = (let says : Says text ≡ Says (reply_text mid p (Refused why)) = h.0 in cc) in
      let ends : Settling p first (turns.Ends (settle_ends.Refused why)) mid = works rounds cell w mid (Err why) s (refused why mid fits) in
      record {
        end = settle_ends.Refused why;
        settling = subst (λ (v : WorldValue). Settling p first (turns.Ends (settle_ends.Refused why)) v) (sym h.1) ends;
        text_is = same ∙ ap (λ (v : WorldValue). reply_text v p (Refused why)) (sym h.1);
      }
  refused_plays (event ∷ events) (reply ∷ replies) rounds cell w mid why s fits h = absurd (let bad : None ≡ Some event = h.1 in cc)
  refused_plays [] (reply ∷ replies) rounds cell w mid why s fits h = absurd h
  refused_plays (event ∷ events) [] rounds cell w mid why s fits h = absurd h

  begin_plays : (events : List Event) (replies : List Reply) → DrivesOn events replies → (rounds cell : ℕ) (w mid : WorldValue) (reply : Reply) → Settling p first (turns.Works rounds cell) w → Fits w (BeginWork p (cell_at w.sheet.layout.shape cell)) reply mid
      → Plays (called mid p (InRound rounds cell) reply) mid events replies (Says text) new → Settles
  begin_plays events replies on rounds cell w mid Entered s fits h =
      on rounds cell mid
      (record { old = w; so_far = s; reply = Entered; mid = mid; begun = tt; fits = fits; events = []; replies = []; goes_so = stays; calling = (work_begins w mid p (cell_at w.sheet.layout.shape cell) Entered (has_work rounds cell w s) fits); good_now = fits.good }) h
  begin_plays events replies on rounds cell w mid (Refused why) s fits h = refused_plays events replies rounds cell w mid why s fits h
  begin_plays events replies on rounds cell w mid NotEnabled s fits h = absurd (fits.takes.unnamed (has_work rounds cell w s))
  begin_plays events replies on rounds cell w mid _ s fits h = absurd fits.takes

  reply_plays : (events : List Event) (replies : List Reply) → TurnsOn events replies → DrivesOn events replies → (rounds cell : ℕ) (w mid : WorldValue) (event : Event) (reply : Reply) → InRoundAt rounds cell w → Fits w (wants w p) reply mid
      → Plays (driven mid p (InRound rounds cell) event reply) mid events replies (Says text) new → Settles
  reply_plays events replies turn on rounds cell w mid event Stepped u fits h =
      on rounds cell mid (goes_next rounds cell w mid u fits) (subst (λ (d : Doing). Plays d mid events replies (Says text) new) (on_in_round p rounds cell mid event) h)
  reply_plays events replies turn on rounds cell w mid event (Answered answer) u fits h =
      let ends = steps_end p w mid u.good_now u.calling answer fits in
      let work = work_of answer (u.calling.calls.1 answer (step_ends w mid p answer ends.takes).to) in
      let answers = subst (λ (a : Answer). Fits w (Step p) (Answered a) mid) work.1 ends in
      let plays = subst (λ (a : Answer). Plays (driven mid p (InRound rounds cell) event (Answered a)) mid events replies (Says text) new) work.1 h in
      turn (worked mid rounds cell (Ok work.0)) mid
      (works rounds cell u.old mid (Ok work.0) u.so_far (finishes u.reply u.mid mid work.0 u.begun u.fits (record { events = u.events; replies = u.replies; last = w; goes = u.goes_so; answers = answers })))
      (subst (λ (d : Doing). Plays d mid events replies (Says text) new) (ends_round p rounds cell mid event work.0) plays)
  reply_plays events replies turn on rounds cell w mid event reply u fits h = absurd (no_other p w mid u.good_now u.calling reply (λ is. cc) (λ answer is. cc) fits)

  mutual
    turn_plays : (events : List Event) (replies : List Reply) → TurnsOn events replies
    turn_plays [] [] (turns.Ends end) w s h =
        let same : text ≡ end_text w p end = (let says : Says text ≡ Says (end_text w p end) = h.0 in cc) in
        record { end = end; settling = subst (λ (v : WorldValue). Settling p first (turns.Ends end) v) (sym h.1) s; text_is = same ∙ ap (λ (v : WorldValue). end_text v p end) (sym h.1) }
    turn_plays [] [] (turns.Works rounds cell) w s h = absurd (let bad : Says text ≡ Works p rounds cell = h.0 in cc)
    turn_plays (event ∷ events) (reply ∷ replies) (turns.Ends end) w s h = absurd (let bad : None ≡ Some event = h.1 in cc)
    turn_plays (event ∷ events) (reply ∷ replies) (turns.Works rounds cell) w s h =
        begin_plays events replies (λ r c v u k. drive_plays events replies r c v u k) rounds cell w h.0 reply s
        (subst (λ (e : Event). Fits w e reply h.0) (let asked : Some (BeginWork p (cell_at w.sheet.layout.shape cell)) ≡ Some event = h.1 in let same : event ≡ BeginWork p (cell_at w.sheet.layout.shape cell) = cc in same) h.2) h.3
    turn_plays [] (reply ∷ replies) turn w s h = absurd h
    turn_plays (event ∷ events) [] turn w s h = absurd h

    drive_plays : (events : List Event) (replies : List Reply) → DrivesOn events replies
    drive_plays [] [] rounds cell w u h = absurd (let bad : Says text ≡ Drives p (InRound rounds cell) = h.0 in cc)
    drive_plays (event ∷ events) (reply ∷ replies) rounds cell w u h =
        reply_plays events replies (λ t v s k. turn_plays events replies t v s k) (λ r c v x k. drive_plays events replies r c v x k) rounds cell w h.0 event reply u
        (subst (λ (e : Event). Fits w e reply h.0) (let asked : Some (wants w p) ≡ Some event = h.1 in let same : event ≡ wants w p = cc in same) h.2) h.3
    drive_plays [] (reply ∷ replies) rounds cell w u h = absurd h
    drive_plays (event ∷ events) [] rounds cell w u h = absurd h

  pub played_settles : (events : List Event) (replies : List Reply) → Plays (settle first p) first events replies (Says text) new → Settles
  played_settles events replies h = turn_plays events replies (first_turn first) first begins h

-- ---- where nobody disturbs it

pub clean_line : (p : ℕ) (new : WorldValue) (end : SettleEnd) → EndsClean (world_of new) end → SaysClean p (end_text new p end)
clean_line p new (settle_ends.Left left) is = inl (ap left_text is.0)
clean_line p new (settle_ends.Refused why) is = inr (inl (ap (λ (r : Refusal). refused_text p r) is))
clean_line p new settle_ends.NoMemory is = inr (inr refl)

-- a settle where each process is idle and marks are young says that all is clean, or that an allocation failed
pub lone_says_clean : (p : ℕ) (old : WorldValue) (text : List ℕ) (new : WorldValue) → IsGood old → HasProcess old p → AreIdle (world_of old) → AreYoung (world_of old) (cells_of old.sheet.layout + 2)
    → Played (settle old p) old text new → SaysClean p text
lone_says_clean p old text new good there idle young h =
    let s = played_settles p old good there text new h.events h.replies h.plays in
    subst (λ (xs : List ℕ). SaysClean p xs) (sym s.text_is) (clean_line p new s.end (settles_clean p old good idle young there s.end new s.settling))

-- ---- in a script

pub run_good : (events : List Event) (replies : List Reply) (old new : WorldValue) → IsGood old → WorldRun old events replies new → IsGood new
run_good [] [] old new good run = subst (λ (v : WorldValue). IsGood v) (sym run) good
run_good (event ∷ events) (reply ∷ replies) old new good run = run_good events replies run.0 new run.1.good run.2
run_good [] (reply ∷ replies) old new good run = absurd run
run_good (event ∷ events) [] old new good run = absurd run

-- the same, at a point of a script with few enough events
pub script_says_clean : (whole : Bool) (script : List ℕ) (lines : ℕ) (at : Progress) (out rest : List ℕ) → Carried whole script lines at out rest → (p : ℕ) (text : List ℕ) (new : WorldValue) → HasProcess at.world p → AreIdle (world_of at.world)
    → length at.events + 2 * (cells_of at.world.sheet.layout + 2) ≤ SEEN_MOST → (order : List ℕ) → Played (plan at.world order (Settle p)) at.world text new → SaysClean p text
script_says_clean whole script lines at out rest carried p text new there idle few order h =
    let run : WorldRun at.start at.events at.replies at.world = carried_runs whole script lines at out rest carried in
    let good : IsGood at.start = carried_good whole script lines at out rest carried in
    lone_says_clean p at.world text new (run_good at.events at.replies at.start at.world good run) there idle
    (young_marks at.start at.events at.replies at.world (cells_of at.world.sheet.layout + 2) (carried_new whole script lines at out rest carried) good run few) h
