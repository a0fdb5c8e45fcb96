-- How a script ends whose blocks are written.
use Rattle.std.proofs.Common.{ℕ, suc, ◌+◌, ◌≡◌, ◌≢◌, Bool, true, false, List, [], ◌∷◌, ◌++◌, take, refl, sym, subst, arith, inl, inr}
use Rattle.ds_state.specs.Value.{WorldValue, world_of, IsGood}
use Rattle.ds_core.specs.Takes.{WorldRun}
use Rattle.ds_core.specs.Headline.{HasHeadline}
use Rattle.ds_core.specs.declared.event.Event.{Event}
use Rattle.ds_core.specs.declared.event.Event.TheVariants as events
use Rattle.ds_core.specs.declared.reply.Reply.{Reply}
use Rattle.ds_core.specs.declared.reply.Reply.TheVariants.{Crashed}
use Rattle.ds_core.proofs.EachRun.{runs_have_headline}
use Rattle.ds_state.specs.Fresh.{IsNew}
use Rattle.ds_script.specs.Orders.{Deed}
use Rattle.ds_script.specs.Doing.{Says, plan}
use Rattle.ds_calls.proofs.Runs.{run_both}
use Rattle.ds_script.proofs.Played.{play_runs}
use Rattle.ds_script.proofs.Scripts.{carried_runs, carried_new, carried_good}
use Rattle.ds_script_io.specs.declared.ending.ScriptEnd.{ScriptEnd}
use Rattle.ds_script_io.specs.declared.ending.ScriptEnd.TheVariants as ends
use Rattle.ds_script_stops.specs.declared.reach.Short.{Short}
use Rattle.ds_script_stops.specs.declared.reach.Short.TheVariants as shorts
use Rattle.std.proofs.lemmas.List.{append-nil}
use Rattle.ds_script.specs.Script.{StandsAt}
use Rattle.ds_script_stops.specs.declared.range.StopRange.{StopRange}
use Rattle.ds_script_stops.specs.StopBlocks.{InTurn, no_deed, one_deed_more, IsIn, IsBlock, Blocks, one_block_more, one_left_out, StopsWith, StopsInRange, block_events, block_replies}
use Rattle.ds_script_stops.specs.Reaching.{FallsShort, IsTold, end_of}
use Rattle.ds_script_stops.proofs.Telling.{is_block}

-- ---- ends

-- the blocks of n stops, with what is reported of the next one after them, are those of one stop more
pub blocks_more : (range : StopRange) (whole : Bool) (script out text : List ℕ) (k : ℕ) (w : WorldValue) → Blocks range whole script k out → StandsAt whole script (k + 1) w → IsTold range (k + 1) w text → Blocks range whole script (k + 1) (out ++ text)
blocks_more range whole script out text k w blocks stands (inl told) =
    let e : k + 1 ≡ suc k = omega arith in
    subst (λ (n : ℕ). Blocks range whole script n (out ++ text)) (sym e)
    (one_block_more k out text blocks (subst (λ (n : ℕ). IsIn range n) e told.0)
    (subst (λ (n : ℕ). IsBlock whole script n text) e (is_block whole script (k + 1) w told.1 text stands told.2)))
blocks_more range whole script out text k w blocks stands (inr other) =
    let e : k + 1 ≡ suc k = omega arith in
    subst (λ (n : ℕ). Blocks range whole script n (out ++ text)) (sym e)
    (subst (λ (t : List ℕ). Blocks range whole script (suc k) (out ++ t)) (sym other.1)
    (subst (λ (t : List ℕ). Blocks range whole script (suc k) t) (sym (append-nil out))
    (one_left_out k out blocks (λ is. other.0 (subst (λ (n : ℕ). IsIn range n) (sym e) is)))))

ends_by : (range : StopRange) (whole : Bool) (script out : List ℕ) (k : ℕ) (w : WorldValue) (short : Short) → Blocks range whole script k out → FallsShort whole script (suc k) w short → StopsWith range whole script out (end_of whole short)
ends_by range true script out k w shorts.Ended blocks h = (refl, record { stops = k; blocks = blocks; ends = h.ends })
ends_by range false script out k w shorts.Ended blocks h = (refl, record { stops = k; blocks = blocks; ends = h.ends })
ends_by range true script out k w (shorts.Fault line kind) blocks h = record { stops = k; blocks = blocks; breaks = h }
ends_by range false script out k w (shorts.Fault line kind) blocks h = record { stops = k; blocks = blocks; breaks = h }
ends_by range true script out k w shorts.NoMemory blocks h = (k, blocks)
ends_by range false script out k w shorts.NoMemory blocks h = (k, blocks)

-- where a run falls short of the next step, the blocks of those before are what is written
pub ends_with : (range : StopRange) (whole : Bool) (script out : List ℕ) (k : ℕ) (w : WorldValue) (short : Short) (end : ScriptEnd) → Blocks range whole script k out → FallsShort whole script (k + 1) w short → end ≡ end_of whole short → StopsWith range whole script out end
ends_with range whole script out k w short end blocks h is =
    let e : k + 1 ≡ suc k = omega arith in
    subst (λ (x : ScriptEnd). StopsWith range whole script out x) (sym is) (ends_by range whole script out k w short blocks (subst (λ (n : ℕ). FallsShort whole script n w short) e h))

-- how a script ends is never by a write that failed, but where one did
pub writes : (whole : Bool) (short : Short) → end_of whole short ≢ ends.WriteFailed
writes true shorts.Ended = λ e. cc
writes false shorts.Ended = λ e. cc
writes true (shorts.Fault line kind) = λ e. cc
writes false (shorts.Fault line kind) = λ e. cc
writes true shorts.NoMemory = λ e. cc
writes false shorts.NoMemory = λ e. cc

-- no script ends as one that could not be read
not_read_with : (range : StopRange) (whole : Bool) (script out : List ℕ) (end : ScriptEnd) → StopsWith range whole script out end → end ≢ ends.ReadFailed
not_read_with range whole script out end h = λ e. let bad : StopsWith range whole script out ends.ReadFailed = subst (λ (x : ScriptEnd). StopsWith range whole script out x) e h in bad

pub not_read : (range : StopRange) (limit : ℕ) (script out : List ℕ) (end : ScriptEnd) → StopsInRange range limit script out end → end ≢ ends.ReadFailed
not_read range limit script out end (inl h) = not_read_with range true script out end h.stops
not_read range limit script out end (inr h) = not_read_with range false (take limit script) out end h.stops

-- ---- runs

-- deeds that are carried out in their order are a run
pub turn_runs : (start : WorldValue) (deeds : List Deed) (events : List Event) (replies : List Reply) (answers : List ℕ) (w : WorldValue) → InTurn start deeds events replies answers w → WorldRun start events replies w
turn_runs start deeds events replies answers w no_deed = refl
turn_runs start deeds events replies answers w (one_deed_more before es rs ts v deed own told answer new h plays) =
    run_both es rs own told start v new (turn_runs start before es rs ts v h) (play_runs own told (plan v [] deed) (Says answer) v new plays)

module _ (whole : Bool) (script : List ℕ) (k : ℕ) (text : List ℕ) (b : IsBlock whole script k text) where
  -- up to the step that the crash comes after it
  pub before_runs : WorldRun b.stands.progress.start (b.stands.progress.events ++ (b.stands.events ++ events.Step b.stands.p ∷ [])) (b.stands.progress.replies ++ (b.stands.replies ++ b.stands.reply ∷ [])) b.world
  before_runs =
      run_both b.stands.progress.events b.stands.progress.replies (b.stands.events ++ events.Step b.stands.p ∷ []) (b.stands.replies ++ b.stands.reply ∷ []) b.stands.progress.start b.stands.progress.world b.world
      (carried_runs whole script b.stands.lines b.stands.progress b.stands.out b.stands.rest b.stands.carried)
      (play_runs (b.stands.events ++ events.Step b.stands.p ∷ []) (b.stands.replies ++ b.stands.reply ∷ []) (plan b.stands.progress.world b.stands.order b.stands.deed) b.stands.doing b.stands.progress.world b.world b.stands.plays)

  pub block_runs : WorldRun b.stands.progress.start (block_events b) (block_replies b) b.new
  block_runs =
      run_both (b.stands.progress.events ++ (b.stands.events ++ events.Step b.stands.p ∷ [])) (b.stands.progress.replies ++ (b.stands.replies ++ b.stands.reply ∷ []))
      (events.Crash ∷ b.events) (Crashed ∷ b.replies) b.stands.progress.start b.world b.new before_runs
      (b.crashed, b.crash, turn_runs b.crashed _ b.events b.replies b.answers b.new b.behind)

  pub block_new : IsNew (world_of b.stands.progress.start)
  block_new = carried_new whole script b.stands.lines b.stands.progress b.stands.out b.stands.rest b.stands.carried

  pub block_good : IsGood b.stands.progress.start
  block_good = carried_good whole script b.stands.lines b.stands.progress b.stands.out b.stands.rest b.stands.carried

  pub block_headline : (run : WorldRun b.stands.progress.start (block_events b) (block_replies b) b.new) → HasHeadline b.stands.progress.start (block_events b) (block_replies b) b.new run
  block_headline run = runs_have_headline b.stands.progress.start (block_events b) (block_replies b) b.new block_new block_good run
