-- Recalculations as commands: what leads from turn to turn; and that one that is played is a recalculation of whole works.
use Rattle.std.proofs.Common.{ℕ, suc, ◌≡◌, ◌<◌, ◌≤◌, ◌+◌, ◌*◌, List, [], ◌∷◌, ◌++◌, length, All, Bool, true, false, Some, None, refl, sym, ap, ◌∙◌, subst, arith, inl, inr}
use Rattle.std.specs.Prelude.{Option, Result, Ok, Err}
use Rattle.ds_formula.specs.Cells.{cell_at}
use Rattle.ds_eval.proofs.Rounds.{inside_at}
use Rattle.ds_layout.specs.Places.{cells_of}
use Rattle.ds_layout.specs.declared.layout.Layout.{Layout}
use Rattle.ds_state.specs.Value.{WorldValue, world_of, IsGood}
use Rattle.ds_state.specs.Works.{SEEN_MOST}
use Rattle.ds_state.specs.declared.refusal.Refusal.{Refusal}
use Rattle.ds_state.specs.declared.answer.Answer.{Answer}
use Rattle.ds_state.specs.declared.answer.Answer.TheVariants.{Work}
use Rattle.ds_state.specs.declared.work.WorkEnd.{WorkEnd}
use Rattle.ds_core.specs.Kinds.{IsWorkAnswer}
use Rattle.ds_core.specs.Takes.{Fits, WorldRun}
use Rattle.ds_core.specs.WorkEvents.{HasWork}
use Rattle.ds_core.proofs.CallKinds.{step_ends}
use Rattle.ds_core.specs.declared.event.Event.{Event}
use Rattle.ds_core.specs.declared.event.Event.TheVariants.{Step, BeginWork}
use Rattle.ds_core.specs.declared.reply.Reply.{Reply}
use Rattle.ds_core.specs.declared.reply.Reply.TheVariants.{Begun, Entered, NotEnabled, Refused, Stepped, Answered}
use Rattle.ds_calls.specs.declared.settle.SettleEnd.{SettleEnd}
use Rattle.ds_calls.specs.declared.settle.SettleEnd.TheVariants as settle_ends
use Rattle.ds_calls.specs.declared.settle.SettleStage.TheVariants.{Ends}
use Rattle.ds_calls.specs.Lone.{AreIdle, AreYoung}
use Rattle.ds_calls.specs.Marked.{state_at, is_marked}
use Rattle.ds_calls.specs.Wanted.{wants}
use Rattle.ds_calls.specs.Whole as whole_calls
use Rattle.ds_calls.specs.Whole.{HasProcess, IsCallingAs, Goes, Finishes, Whole, HasBegun}
use Rattle.ds_calls.proofs.Ages.{young_marks}
use Rattle.ds_calls.proofs.Begins.{work_begins}
use Rattle.ds_calls.proofs.Stepping.{answered_wants}
use Rattle.ds_recalculation.specs.Plans.{IsPlan}
use Rattle.ds_recalculation.specs.Recalculations.{Ordered, begins, passes, works, stop_of, EndsInOrder}
use Rattle.ds_recalculation.proofs.Recalculated.{ends_in_order_clean, work_keeps_layout}
use Rattle.ds_script.specs.Orders.{Recalculate}
use Rattle.ds_script.specs.Script.{Progress, Carried}
use Rattle.ds_script.specs.ScriptTexts.{reply_text}
use Rattle.ds_script.specs.Doing.{Doing, Says, WorksInOrder, DrivesInOrder, entered, gone, after_work, in_order, end_text, plan}
use Rattle.ds_script.specs.Plays.{Plays, Leads, Played}
use Rattle.ds_script.specs.LoneSettles.{SaysClean}
use Rattle.ds_script.proofs.Played.{leads_on, stays, one}
use Rattle.ds_script.proofs.Settles.{settling_leads}
use Rattle.ds_script.proofs.Settled.{clean_line, no_other, played_settles, run_good, steps_end, still_calling, work_of}
use Rattle.ds_script.proofs.Scripts.{carried_runs, carried_new, carried_good}

-- ---- a whole work

module _ (p : ℕ) (rest : List ℕ) where
  goes_leads : (first : WorldValue) (events : List Event) (replies : List Reply) (new : WorldValue) → Goes p first events replies new
      → Leads (DrivesInOrder p rest) first (DrivesInOrder p rest) new
  goes_leads first events replies new whole_calls.stays = stays (DrivesInOrder p rest) (DrivesInOrder p rest) first refl
  goes_leads first events replies new (whole_calls.goes es rs old n so_far fits) =
      leads_on (DrivesInOrder p rest) (DrivesInOrder p rest) (DrivesInOrder p rest) first old new (goes_leads first es rs old so_far)
      (one (DrivesInOrder p rest) (DrivesInOrder p rest) old new (wants old p) Stepped refl fits refl)

  finishes_leads : (old : WorldValue) (end : WorkEnd) (new : WorldValue) → Finishes p old (Work end) new → Leads (DrivesInOrder p rest) old (after_work new p rest (stop_of (Ok end))) new
  finishes_leads old end new h =
      leads_on (DrivesInOrder p rest) (DrivesInOrder p rest) (after_work new p rest (stop_of (Ok end))) old h.last new
      (goes_leads old h.events h.replies h.last h.goes)
      (one (DrivesInOrder p rest) (after_work new p rest (stop_of (Ok end))) h.last new (Step p) (Answered (Work end))
      (ap (λ (e : Event). Some e) (answered_wants h.last new p (Work end) h.answers)) h.answers refl)

  begun_drives : (w : WorldValue) (reply : Reply) → HasBegun reply → entered w p rest reply ≡ DrivesInOrder p rest
  begun_drives w (Begun number) h = refl
  begun_drives w Entered h = refl
  begun_drives w _ h = absurd h

  -- a whole work leads a recalculation on, or to its end
  whole_leads : (cell : ℕ) (old : WorldValue) (result : Result WorkEnd Refusal) (new : WorldValue) → Whole Work p (BeginWork p (cell_at old.sheet.layout.shape cell)) old result new
      → Leads (WorksInOrder p cell rest) old (after_work new p rest (stop_of result)) new
  whole_leads cell old result new (whole_calls.finishes reply mid n end begun fits h) =
      leads_on (WorksInOrder p cell rest) (DrivesInOrder p rest) (after_work new p rest (stop_of (Ok end))) old mid new
      (one (WorksInOrder p cell rest) (DrivesInOrder p rest) old mid (BeginWork p (cell_at old.sheet.layout.shape cell)) reply refl fits (begun_drives mid reply begun))
      (finishes_leads mid end new h)
  whole_leads cell old result new (whole_calls.refused why n fits) =
      one (WorksInOrder p cell rest) (Says (reply_text new p (Refused why))) old new (BeginWork p (cell_at old.sheet.layout.shape cell)) (Refused why) refl fits refl

-- ---- a recalculation

-- at a cell that is marked, and at one that is not
pub at_marked : (w : WorldValue) (p cell : ℕ) (rest : List ℕ) → is_marked (state_at (world_of w) cell) ≡ true → in_order w p (cell ∷ rest) ≡ WorksInOrder p cell rest
at_marked w p cell rest is = rw is refl

pub at_other : (w : WorldValue) (p cell : ℕ) (rest : List ℕ) → is_marked (state_at (world_of w) cell) ≡ false → in_order w p (cell ∷ rest) ≡ in_order w p rest
at_other w p cell rest is = rw is refl

-- a whole work on a marked cell leads the recalculation on from it
work_leads : (p cell : ℕ) (rest : List ℕ) (old : WorldValue) (result : Result WorkEnd Refusal) (new : WorldValue) → is_marked (state_at (world_of old) cell) ≡ true
    → Whole Work p (BeginWork p (cell_at old.sheet.layout.shape cell)) old result new → Leads (in_order old p (cell ∷ rest)) old (after_work new p rest (stop_of result)) new
work_leads p cell rest old result new marked whole =
    subst (λ (d : Doing). Leads d old (after_work new p rest (stop_of result)) new) (sym (at_marked old p cell rest marked)) (whole_leads p rest cell old result new whole)

-- a recalculation, up to each of its turns, leads its command to that turn
ordered_leads : (p : ℕ) (order : List ℕ) (first : WorldValue) (rest : List ℕ) (new : WorldValue) → Ordered p order first rest new → Leads (in_order first p order) first (in_order new p rest) new
ordered_leads p order first rest new begins = stays (in_order first p order) (in_order first p order) first refl
ordered_leads p order first rest new (passes cell r w so_far clean) =
    subst (λ (d : Doing). Leads (in_order first p order) first d new) (at_other new p cell rest clean) (ordered_leads p order first (cell ∷ rest) new so_far)
ordered_leads p order first rest new (works cell r old result n so_far marked whole on) =
    leads_on (in_order first p order) (in_order old p (cell ∷ rest)) (in_order new p rest) first old new (ordered_leads p order first (cell ∷ rest) old so_far)
    (subst (λ (o : Option SettleEnd). Leads (in_order old p (cell ∷ rest)) old (after_work new p rest o) new) on (work_leads p cell rest old result new marked whole))

-- a recalculation leads its command to its end
pub recalculation_leads : (p : ℕ) (order : List ℕ) (first : WorldValue) (end : SettleEnd) (new : WorldValue) → EndsInOrder p order first end new → Played (in_order first p order) first (end_text new p end) new
recalculation_leads p order first end new (inl s) =
    leads_on (in_order first p order) (in_order s.old p (s.cell ∷ s.rest)) (Says (end_text new p end)) first s.old new (ordered_leads p order first (s.cell ∷ s.rest) s.old s.so_far)
    (subst (λ (o : Option SettleEnd). Leads (in_order s.old p (s.cell ∷ s.rest)) s.old (after_work new p s.rest o) new) s.stop_is (work_leads p s.cell s.rest s.old s.result new s.marked s.whole))
recalculation_leads p order first end new (inr s) =
    leads_on (in_order first p order) (in_order s.mid p []) (Says (end_text new p end)) first s.mid new (ordered_leads p order first [] s.mid s.all)
    (settling_leads p s.mid (Ends end) new s.settling)

-- ---- what is played is a recalculation

module _ (p : ℕ) (order : List ℕ) (first : WorldValue) (good : IsGood first) (there : HasProcess first p) (text : List ℕ) (new : WorldValue) where
  -- it has ended so, and this is its text
  pub record Recalculated : Type 0 where
    pub end : SettleEnd
    pub ends : EndsInOrder p order first end new
    pub text_is : text ≡ end_text new p end

  -- it has come to this turn
  record AtTurn (rest : List ℕ) (w : WorldValue) : Type 0 where
    so_far : Ordered p order first rest w
    good_now : IsGood w
    layout : w.sheet.layout ≡ first.sheet.layout
    inside : All (λ c. c < cells_of first.sheet.layout) rest

  -- a work of its is under way
  record InWork (rest : List ℕ) (w : WorldValue) : Type 0 where
    cell : ℕ
    old : WorldValue
    turn : AtTurn (cell ∷ rest) old
    marked : is_marked (state_at (world_of old) cell) ≡ true
    reply : Reply
    mid : WorldValue
    begun : HasBegun reply
    fits : Fits old (BeginWork p (cell_at old.sheet.layout.shape cell)) reply mid
    events : List Event
    replies : List Reply
    goes_so : Goes p mid events replies w
    calling : IsCallingAs IsWorkAnswer w p
    good_now : IsGood w

  passed : (cell : ℕ) (rest : List ℕ) (w : WorldValue) → AtTurn (cell ∷ rest) w → is_marked (state_at (world_of w) cell) ≡ false → AtTurn rest w
  passed cell rest w h clean = record { so_far = passes cell rest w h.so_far clean; good_now = h.good_now; layout = h.layout; inside = λ k d l. h.inside (suc k) d (omega (arith, l)) }

  has_work : (cell : ℕ) (rest : List ℕ) (w : WorldValue) → AtTurn (cell ∷ rest) w → HasWork w p (cell_at w.sheet.layout.shape cell)
  has_work cell rest w h = record {
    process = subst (λ (y : Layout). p < y.processes) (sym h.layout) there;
    within = inside_at w.sheet.layout.shape cell (subst (λ (y : Layout). cell < cells_of y) (sym h.layout) (h.inside 0 0 (omega arith)));
  }

  goes_next : (rest : List ℕ) (w mid : WorldValue) → (u : InWork rest w) → Fits w (wants w p) Stepped mid → InWork rest mid
  goes_next rest w mid u fits = record {
    cell = u.cell;
    old = u.old;
    turn = u.turn;
    marked = u.marked;
    reply = u.reply;
    mid = u.mid;
    begun = u.begun;
    fits = u.fits;
    events = u.events ++ wants w p ∷ [];
    replies = u.replies ++ Stepped ∷ [];
    goes_so = whole_calls.goes u.events u.replies w mid u.goes_so fits;
    calling = still_calling p w mid u.good_now u.calling fits;
    good_now = fits.good;
  }

  whole_of : (rest : List ℕ) (w mid : WorldValue) (end : WorkEnd) → (u : InWork rest w) → Fits w (Step p) (Answered (Work end)) mid → Whole Work p (BeginWork p (cell_at u.old.sheet.layout.shape u.cell)) u.old (Ok end) mid
  whole_of rest w mid end u answers =
      whole_calls.finishes u.reply u.mid mid end u.begun u.fits (record { events = u.events; replies = u.replies; last = w; goes = u.goes_so; answers = answers })

  -- the rest of the play, from a turn on, and from a work under way on
  abbrev OrderOn : List Event → List Reply → Type 0
  OrderOn events replies = (rest : List ℕ) (w : WorldValue) → AtTurn rest w → Plays (in_order w p rest) w events replies (Says text) new → Recalculated

  abbrev WorkOn : List Event → List Reply → Type 0
  WorkOn events replies = (rest : List ℕ) (w : WorldValue) → InWork rest w → Plays (DrivesInOrder p rest) w events replies (Says text) new → Recalculated

  abbrev BeginsOn : List Event → List Reply → Type 0
  BeginsOn events replies = (cell : ℕ) (rest : List ℕ) (w : WorldValue) → AtTurn (cell ∷ rest) w → is_marked (state_at (world_of w) cell) ≡ true
      → Plays (WorksInOrder p cell rest) w events replies (Says text) new → Recalculated

  settled : (events : List Event) (replies : List Reply) (w : WorldValue) → AtTurn [] w → Plays (in_order w p []) w events replies (Says text) new → Recalculated
  settled events replies w turn h =
      let s = played_settles p w turn.good_now (subst (λ (y : Layout). p < y.processes) (sym turn.layout) there) text new events replies h in
      record { end = s.end; ends = inr (record { mid = w; all = turn.so_far; settling = s.settling }); text_is = s.text_is }

  order_by : (events : List Event) (replies : List Reply) → BeginsOn events replies → OrderOn events replies
  order_by events replies on [] w turn h = settled events replies w turn h
  order_by events replies on (cell ∷ rest) w turn h = by (λ t k. order_by events replies on rest w t k) (is_marked (state_at (world_of w) cell)) refl
    where
      by : (AtTurn rest w → Plays (in_order w p rest) w events replies (Says text) new → Recalculated) → (b : Bool) → is_marked (state_at (world_of w) cell) ≡ b → Recalculated
      by after true is = on cell rest w turn is (subst (λ (d : Doing). Plays d w events replies (Says text) new) (at_marked w p cell rest is) h)
      by after false is = after (passed cell rest w turn is) (subst (λ (d : Doing). Plays d w events replies (Says text) new) (at_other w p cell rest is) h)

  -- the play ends where it says a text
  says_plays : (events : List Event) (replies : List Reply) (said : List ℕ) (w : WorldValue) → Plays (Says said) w events replies (Says text) new → (text ≡ said) × (new ≡ w)
  says_plays [] [] said w h = (let says : Says text ≡ Says said = h.0 in let same : text ≡ said = cc in same, h.1)
  says_plays (event ∷ events) (reply ∷ replies) said w h = absurd (let bad : None ≡ Some event = h.1 in cc)
  says_plays [] (reply ∷ replies) said w h = absurd h
  says_plays (event ∷ events) [] said w h = absurd h

  stopped : (cell : ℕ) (rest : List ℕ) (w mid : WorldValue) (result : Result WorkEnd Refusal) (end : SettleEnd) → AtTurn (cell ∷ rest) w → is_marked (state_at (world_of w) cell) ≡ true
      → Whole Work p (BeginWork p (cell_at w.sheet.layout.shape cell)) w result mid → stop_of result ≡ Some end → (text ≡ end_text mid p end) × (new ≡ mid) → Recalculated
  stopped cell rest w mid result end turn marked whole stop h = record {
    end = end;
    ends = inl (record {
      cell = cell;
      rest = rest;
      old = w;
      so_far = turn.so_far;
      marked = marked;
      result = result;
      whole = subst (λ (v : WorldValue). Whole Work p (BeginWork p (cell_at w.sheet.layout.shape cell)) w result v) (sym h.1) whole;
      stop_is = stop;
    });
    text_is = h.0 ∙ ap (λ (v : WorldValue). end_text v p end) (sym h.1);
  }

  begin_plays : (events : List Event) (replies : List Reply) → WorkOn events replies → (cell : ℕ) (rest : List ℕ) (w mid : WorldValue) (reply : Reply) → AtTurn (cell ∷ rest) w → is_marked (state_at (world_of w) cell) ≡ true
      → Fits w (BeginWork p (cell_at w.sheet.layout.shape cell)) reply mid → Plays (entered mid p rest reply) mid events replies (Says text) new → Recalculated
  begin_plays events replies on cell rest w mid Entered turn marked fits h =
      on rest mid
      (record {
        cell = cell;
        old = w;
        turn = turn;
        marked = marked;
        reply = Entered;
        mid = mid;
        begun = tt;
        fits = fits;
        events = [];
        replies = [];
        goes_so = whole_calls.stays;
        calling = work_begins w mid p (cell_at w.sheet.layout.shape cell) Entered (has_work cell rest w turn) fits;
        good_now = fits.good;
      }) h
  begin_plays events replies on cell rest w mid (Refused why) turn marked fits h =
      stopped cell rest w mid (Err why) (settle_ends.Refused why) turn marked (whole_calls.refused why mid fits) refl (says_plays events replies (reply_text mid p (Refused why)) mid h)
  begin_plays events replies on cell rest w mid NotEnabled turn marked fits h = absurd (fits.takes.unnamed (has_work cell rest w turn))
  begin_plays events replies on cell rest w mid _ turn marked fits h = absurd fits.takes

  work_plays : (events : List Event) (replies : List Reply) → OrderOn events replies → (rest : List ℕ) (w mid : WorldValue) (end : WorkEnd) → (u : InWork rest w) → Fits w (Step p) (Answered (Work end)) mid
      → Plays (after_work mid p rest (stop_of (Ok end))) mid events replies (Says text) new → Recalculated
  work_plays events replies turn rest w mid end u answers h = by (stop_of (Ok end)) refl
    where
      whole : Whole Work p (BeginWork p (cell_at u.old.sheet.layout.shape u.cell)) u.old (Ok end) mid
      whole = whole_of rest w mid end u answers

      by : (o : Option SettleEnd) → stop_of (Ok end) ≡ o → Recalculated
      by None is = turn rest mid
          (record {
            so_far = works u.cell rest u.old (Ok end) mid u.turn.so_far u.marked whole is;
            good_now = answers.good;
            layout = work_keeps_layout p u.cell u.old (Ok end) mid whole ∙ u.turn.layout;
            inside = λ k d l. u.turn.inside (suc k) d (omega (arith, l));
          })
          (subst (λ (o : Option SettleEnd). Plays (after_work mid p rest o) mid events replies (Says text) new) is h)
      by (Some stop) is = stopped u.cell rest u.old mid (Ok end) stop u.turn u.marked whole is
          (says_plays events replies (end_text mid p stop) mid (subst (λ (o : Option SettleEnd). Plays (after_work mid p rest o) mid events replies (Says text) new) is h))

  reply_plays : (events : List Event) (replies : List Reply) → OrderOn events replies → WorkOn events replies → (rest : List ℕ) (w mid : WorldValue) (reply : Reply) → (u : InWork rest w) → Fits w (wants w p) reply mid
      → Plays (gone mid p rest reply) mid events replies (Says text) new → Recalculated
  reply_plays events replies turn on rest w mid Stepped u fits h = on rest mid (goes_next rest w mid u fits) h
  reply_plays events replies turn on rest w mid (Answered answer) u fits h =
      let ends = steps_end p w mid u.good_now u.calling answer fits in
      let work = work_of answer (u.calling.calls.1 answer (step_ends w mid p answer ends.takes).to) in
      work_plays events replies turn rest w mid work.0 u (subst (λ (a : Answer). Fits w (Step p) (Answered a) mid) work.1 ends)
      (subst (λ (a : Answer). Plays (gone mid p rest (Answered a)) mid events replies (Says text) new) work.1 h)
  reply_plays events replies turn on rest w mid reply u fits h = absurd (no_other p w mid u.good_now u.calling reply (λ is. cc) (λ answer is. cc) fits)

  mutual
    begins_plays : (events : List Event) (replies : List Reply) → BeginsOn events replies
    begins_plays [] [] cell rest w turn marked h = absurd (let bad : Says text ≡ WorksInOrder p cell rest = h.0 in cc)
    begins_plays (event ∷ events) (reply ∷ replies) cell rest w turn marked h =
        begin_plays events replies (λ r v u k. drive_plays events replies r v u k) cell rest w h.0 reply turn marked
        (subst (λ (e : Event). Fits w e reply h.0) (let asked : Some (BeginWork p (cell_at w.sheet.layout.shape cell)) ≡ Some event = h.1 in let same : event ≡ BeginWork p (cell_at w.sheet.layout.shape cell) = cc in same) h.2) h.3
    begins_plays [] (reply ∷ replies) cell rest w turn marked h = absurd h
    begins_plays (event ∷ events) [] cell rest w turn marked h = absurd h

    drive_plays : (events : List Event) (replies : List Reply) → WorkOn events replies
    drive_plays [] [] rest w u h = absurd (let bad : Says text ≡ DrivesInOrder p rest = h.0 in cc)
    drive_plays (event ∷ events) (reply ∷ replies) rest w u h =
        reply_plays events replies (λ r v s k. order_by events replies (λ c q x y z m. begins_plays events replies c q x y z m) r v s k) (λ r v x k. drive_plays events replies r v x k) rest w h.0 reply u
        (subst (λ (e : Event). Fits w e reply h.0) (let asked : Some (wants w p) ≡ Some event = h.1 in let same : event ≡ wants w p = cc in same) h.2) h.3
    drive_plays [] (reply ∷ replies) rest w u h = absurd h
    drive_plays (event ∷ events) [] rest w u h = absurd h

  pub played_recalculates : All (λ c. c < cells_of first.sheet.layout) order → (events : List Event) (replies : List Reply) → Plays (in_order first p order) first events replies (Says text) new → Recalculated
  played_recalculates inside events replies h =
      order_by events replies (λ c q x y z m. begins_plays events replies c q x y z m) order first (record { so_far = begins; good_now = good; layout = refl; inside = inside }) h

-- ---- where nobody disturbs it

-- a recalculation where each process is idle and marks are young says that all is clean, or that an allocation failed
pub lone_recalculates_clean : (p : ℕ) (order : List ℕ) (old : WorldValue) (text : List ℕ) (new : WorldValue) → IsGood old → HasProcess old p → AreIdle (world_of old) → AreYoung (world_of old) (2 * cells_of old.sheet.layout + 2)
    → IsPlan old order → Played (in_order old p order) old text new → SaysClean p text
lone_recalculates_clean p order old text new good there idle young planned h =
    let r = played_recalculates p order old good there text new planned.once.below h.events h.replies h.plays in
    subst (λ (xs : List ℕ). SaysClean p xs) (sym r.text_is)
    (clean_line p new r.end (ends_in_order_clean p order old r.end new good there idle young planned r.ends))

-- the same, at a point of a script with few enough events
pub script_recalculates_clean : (whole : Bool) (script : List ℕ) (lines : ℕ) (at : Progress) (out rest : List ℕ) → Carried whole script lines at out rest → (p : ℕ) (order : List ℕ) (text : List ℕ) (new : WorldValue) → HasProcess at.world p → AreIdle (world_of at.world)
    → IsPlan at.world order → length at.events + 2 * (2 * cells_of at.world.sheet.layout + 2) ≤ SEEN_MOST → Played (plan at.world order (Recalculate p)) at.world text new → SaysClean p text
script_recalculates_clean whole script lines at out rest carried p order text new there idle planned few h =
    let run : WorldRun at.start at.events at.replies at.world = carried_runs whole script lines at out rest carried in
    let good : IsGood at.start = carried_good whole script lines at out rest carried in
    lone_recalculates_clean p order at.world text new (run_good at.events at.replies at.start at.world good run) there idle
    (young_marks at.start at.events at.replies at.world (2 * cells_of at.world.sheet.layout + 2) (carried_new whole script lines at out rest carried) good run few) planned h
