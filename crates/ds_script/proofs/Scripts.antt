-- What a script does is a run, and how it ends.
use Rattle.std.proofs.Common.{◌≡◌, ◌≢◌, ℕ, suc, ◌+◌, Bool, true, List, ◌++◌, Option, Result, Ok, Err, refl, sym, ap, subst, ◌∙◌, inl, inr}
use Rattle.std.specs.Io.KnownBytes.{Appends}
use Rattle.std.specs.Prelude.{Some}
use Rattle.std.proofs.lemmas.List.{append-nil}
use Rattle.ds_state.specs.Value.{WorldValue, world_of, IsGood}
use Rattle.ds_state.specs.Fresh.{IsNew}
use Rattle.ds_core.specs.Takes.{WorldRun}
use Rattle.ds_core.specs.Headline.{HasHeadline}
use Rattle.ds_core.proofs.EachRun.{runs_have_headline}
use Rattle.ds_calls.proofs.Runs.{run_both}
use Rattle.ds_script_io.specs.declared.ending.ScriptEnd.{ScriptEnd}
use Rattle.ds_script_io.specs.declared.ending.ScriptEnd.TheVariants as ends
use Rattle.ds_script_io.specs.declared.input.InputEnd.{InputEnd}
use Rattle.ds_script_io.specs.ScriptLines.{AtFront, ALine, next_of}
use Rattle.ds_script_io.proofs.Known.{Appends-both}
use Rattle.ds_script.specs.declared.order.Begun.{Begun}
use Rattle.ds_script.specs.declared.script.Hindrance.{Hindrance}
use Rattle.ds_script.specs.declared.script.Hindrance.TheVariants as hindrances
use Rattle.ds_script.specs.declared.script.Break.{Break}
use Rattle.ds_script.specs.declared.script.Break.TheVariants as breaks
use Rattle.ds_script.specs.Orders.{Order, Make, Does}
use Rattle.ds_script.specs.Doing.{Says, plan}
use Rattle.ds_script.specs.Script.{Progress, Asks, begins_at, goes_on, Carried, begins, skips, makes, obeys, Finishes, FaultAt, Breaks, Lacks, is_whole, Writes}
use Rattle.ds_script.specs.Running.{Obeys, Obeyed, Stopped, after, break_of, RanLines, HidesNone, ending_of}
use Rattle.ds_script.proofs.Played.{play_runs}

-- ---- runs

-- the events up to a point of a script are a run
pub carried_runs : (whole : Bool) (script : List ℕ) (lines : ℕ) (p : Progress) (out rest : List ℕ) → Carried whole script lines p out rest → WorldRun p.start p.events p.replies p.world
carried_runs whole script lines p out rest (begins w made) = refl
carried_runs whole script lines p out rest (skips n q o r line behind before next asks) = carried_runs whole script n q o r before
carried_runs whole script lines p out rest (makes n q o r line behind first columns rows processes edition w before next asks made) = refl
carried_runs whole script lines p out rest (obeys n q o r line behind deed order events replies answer new before next asks planned plays) =
    run_both q.events q.replies events replies q.start q.world new (carried_runs whole script n q o r before) (play_runs events replies (plan q.world order deed) (Says answer) q.world new plays)

-- the world that a point of a script began in is new
pub carried_new : (whole : Bool) (script : List ℕ) (lines : ℕ) (p : Progress) (out rest : List ℕ) → Carried whole script lines p out rest → IsNew (world_of p.start)
carried_new whole script lines p out rest (begins w made) = made.new
carried_new whole script lines p out rest (skips n q o r line behind before next asks) = carried_new whole script n q o r before
carried_new whole script lines p out rest (makes n q o r line behind first columns rows processes edition w before next asks made) = made.new
carried_new whole script lines p out rest (obeys n q o r line behind deed order events replies answer new before next asks planned plays) = carried_new whole script n q o r before

-- the world that a point of a script began in is good
pub carried_good : (whole : Bool) (script : List ℕ) (lines : ℕ) (p : Progress) (out rest : List ℕ) → Carried whole script lines p out rest → IsGood p.start
carried_good whole script lines p out rest (begins w made) = made.good
carried_good whole script lines p out rest (skips n q o r line behind before next asks) = carried_good whole script n q o r before
carried_good whole script lines p out rest (makes n q o r line behind first columns rows processes edition w before next asks made) = made.good
carried_good whole script lines p out rest (obeys n q o r line behind deed order events replies answer new before next asks planned plays) = carried_good whole script n q o r before

-- the run up to a point of a script has the headline
pub carried_headline : (whole : Bool) (script : List ℕ) (lines : ℕ) (p : Progress) (out rest : List ℕ) → Carried whole script lines p out rest
    → (run : WorldRun p.start p.events p.replies p.world) → HasHeadline p.start p.events p.replies p.world run
carried_headline whole script lines p out rest carried run =
    runs_have_headline p.start p.events p.replies p.world (carried_new whole script lines p out rest carried) (carried_good whole script lines p out rest carried) run

-- ---- one line more

-- the lines led here, with this to say of what came before and of the world
pub record Led (whole : Bool) (script : List ℕ) (lines : ℕ) (first : Begun) (w : WorldValue) (out rest : List ℕ) : Type 0 where
  pub progress : Progress
  pub begun_is : progress.begun ≡ first
  pub world_is : progress.world ≡ w
  pub carried : Carried whole script lines progress out rest

led_by : (whole : Bool) (script : List ℕ) (lines : ℕ) (p : Progress) (out rest : List ℕ) → Carried whole script lines p out rest → Led whole script lines p.begun p.world out rest
led_by whole script lines p out rest carried = record { progress = p; begun_is = refl; world_is = refl; carried = carried }

obeyed_more : (whole : Bool) (script : List ℕ) (lines : ℕ) (p : Progress) (out rest line behind : List ℕ) (order : Order) (answer : List ℕ) (new : WorldValue)
    → Carried whole script lines p out rest → next_of whole rest ≡ ALine line behind → Asks p line (Some order) → Obeys p.world order answer new
    → Led whole script (suc lines) (after order) new (out ++ answer) behind
obeyed_more whole script lines p out rest line behind (Make first columns rows processes edition) answer new carried next asks h =
    subst (λ (o : List ℕ). Led whole script (suc lines) first new o behind) (sym (ap (λ (a : List ℕ). out ++ a) h.0 ∙ append-nil out))
    (led_by whole script (suc lines) (begins_at first new) out behind (makes lines p out rest line behind first columns rows processes edition new carried next asks h.1))
obeyed_more whole script lines p out rest line behind (Does deed) answer new carried next asks h =
    let played = h.2 in
    led_by whole script (suc lines) (goes_on p played.events played.replies new) (out ++ answer) behind (obeys lines p out rest line behind deed h.0 played.events played.replies answer new carried next asks h.1 played.plays)

obeyed_at : (whole : Bool) (script : List ℕ) (lines : ℕ) (p : Progress) (out rest line behind : List ℕ) (before now then : Option (List ℕ)) (first' : Begun) (new : WorldValue)
    → Carried whole script lines p out rest → Appends before now out → next_of whole rest ≡ ALine line behind → Obeyed p.begun p.world line first' new now then
    → (out' : List ℕ) × Appends before then out' × Led whole script (suc lines) first' new out' behind
obeyed_at whole script lines p out rest line behind before now then first' new carried written next (inl s) = (
  out,
  subst (λ (o : Option (List ℕ)). Appends before o out) (sym s.nothing) written,
  record { progress = p; begun_is = sym s.still; world_is = sym s.same; carried = skips lines p out rest line behind carried next s.asks },
)
obeyed_at whole script lines p out rest line behind before now then first' new carried written next (inr a) = (
  out ++ a.answer,
  Appends-both before now then out a.answer written a.written,
  subst (λ (b : Begun). Led whole script (suc lines) b new (out ++ a.answer) behind) (sym a.begun_is) (obeyed_more whole script lines p out rest line behind a.order a.answer new carried next a.asks a.obeys),
)

-- a line that is obeyed leads on, and its answer stands after those before
pub line_more : (whole : Bool) (script : List ℕ) (lines : ℕ) (first : Begun) (w : WorldValue) (out rest line behind : List ℕ) (before now then : Option (List ℕ)) (first' : Begun) (new : WorldValue)
    → Led whole script lines first w out rest → Appends before now out → next_of whole rest ≡ ALine line behind → Obeyed first w line first' new now then
    → (out' : List ℕ) × Appends before then out' × Led whole script (suc lines) first' new out' behind
line_more whole script lines first w out rest line behind before now then first' new led written next h =
    obeyed_at whole script lines led.progress out rest line behind before now then first' new led.carried written next
    (subst (λ (b : Begun). Obeyed b led.progress.world line first' new now then) (sym led.begun_is) (subst (λ (v : WorldValue). Obeyed first v line first' new now then) (sym led.world_is) h))

-- a line that stops the script
stops_at : (whole : Bool) (script : List ℕ) (lines : ℕ) (p : Progress) (out rest line behind : List ℕ) (before now then : Option (List ℕ)) (failed : Bool) (stop : Hindrance)
    → Carried whole script lines p out rest → Appends before now out → next_of whole rest ≡ ALine line behind → Stopped p.begun p.world line now then failed stop
    → RanLines whole script before then failed (Err (break_of (lines + 1) stop))
stops_at whole script lines p out rest line behind before now then failed (hindrances.Fault kind) carried written next s = (
  out,
  subst (λ (o : Option (List ℕ)). Appends before o out) (sym s.1) written,
  record { lines = lines; progress = p; rest = rest; carried = carried; number = refl; fault = subst (λ (f : AtFront). FaultAt p f kind) (sym next) s.0 },
)
stops_at whole script lines p out rest line behind before now then failed hindrances.NoMemory carried written next s =
    (out, subst (λ (o : Option (List ℕ)). Appends before o out) (sym s) written, inl (record { lines = lines; progress = p; rest = rest; carried = carried }))
stops_at whole script lines p out rest line behind before now then failed hindrances.WriteFailed carried written next s = s

-- a line that stops a script breaks it off there
pub line_stops : (whole : Bool) (script : List ℕ) (lines : ℕ) (first : Begun) (w : WorldValue) (out rest line behind : List ℕ) (before now then : Option (List ℕ)) (failed : Bool) (stop : Hindrance)
    → Led whole script lines first w out rest → Appends before now out → next_of whole rest ≡ ALine line behind → Stopped first w line now then failed stop
    → RanLines whole script before then failed (Err (break_of (lines + 1) stop))
line_stops whole script lines first w out rest line behind before now then failed stop led written next h =
    stops_at whole script lines led.progress out rest line behind before now then failed stop led.carried written next
    (subst (λ (b : Begun). Stopped b led.progress.world line now then failed stop) (sym led.begun_is) (subst (λ (v : WorldValue). Stopped first v line now then failed stop) (sym led.world_is) h))

-- ---- endings

-- what a script wrote fits how its input ended and how it did, but where a write failed
pub writes_of : (whole : Bool) (script : List ℕ) (run : Result (Unit {0}) Break) (end : ScriptEnd) (input : InputEnd) (before now : Option (List ℕ)) (failed : Bool)
    → is_whole input ≡ whole → ((out : List ℕ) → Finishes whole script out → Writes input script out end) → RanLines whole script before now failed run → ending_of run end ≢ ends.WriteFailed
    → (out : List ℕ) × Appends before now out × Writes input script out (ending_of run end)
writes_of whole script (Ok u) end input before now failed w done ran ne = (ran.0, ran.1, done ran.0 ran.2)
writes_of whole script (Err (breaks.Fault line kind)) end input before now failed w done ran ne = (ran.0, ran.1, subst (λ (b : Bool). Breaks b script ran.0 line kind) (sym w) ran.2)
writes_of whole script (Err breaks.NoMemory) end input before now failed w done ran ne = (ran.0, ran.1, subst (λ (b : Bool). Lacks b script ran.0) (sym w) ran.2)
writes_of whole script (Err breaks.WriteFailed) end input before now failed w done ran ne = absurd (ne refl)

pub none_hidden : (run : Result (Unit {0}) Break) (end : ScriptEnd) (before now : Bool) → HidesNone run before now → ending_of run end ≢ ends.WriteFailed → now ≡ before
none_hidden (Ok u) end before now h ne = h
none_hidden (Err (breaks.Fault line kind)) end before now h ne = h
none_hidden (Err breaks.NoMemory) end before now h ne = h
none_hidden (Err breaks.WriteFailed) end before now h ne = absurd (ne refl)

-- a script that stops hides no failed write, where what has failed stays but for a write that does
pub same_after : (stop : Hindrance) (line : ℕ) (before now : Bool) → (stop ≢ hindrances.WriteFailed → now ≡ before) → HidesNone (Err (break_of line stop)) before now
same_after (hindrances.Fault kind) line before now h = h (λ e. cc)
same_after hindrances.NoMemory line before now h = h (λ e. cc)
same_after hindrances.WriteFailed line before now h = tt

pub writes_fail : (whole : Bool) (script : List ℕ) (run : Result (Unit {0}) Break) (end : ScriptEnd) (before now : Option (List ℕ)) (failed : Bool)
    → end ≢ ends.WriteFailed → RanLines whole script before now failed run → ending_of run end ≡ ends.WriteFailed → failed ≡ true
writes_fail whole script (Ok u) end before now failed ne ran e = absurd (ne e)
writes_fail whole script (Err (breaks.Fault line kind)) end before now failed ne ran e = absurd (cc)
writes_fail whole script (Err breaks.NoMemory) end before now failed ne ran e = absurd (cc)
writes_fail whole script (Err breaks.WriteFailed) end before now failed ne ran e = ran
