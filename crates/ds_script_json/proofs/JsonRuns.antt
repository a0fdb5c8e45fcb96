-- A script whose answers are JSON is the script that it is without that.
use Rattle.std.proofs.Common.{◌≡◌, ◌≢◌, ℕ, suc, ◌+◌, Bool, true, false, List, [], ◌++◌, Option, Result, Ok, Err, refl, sym, ap, subst, ◌∙◌, inl, inr}
use Rattle.std.specs.Io.KnownBytes.{Appends}
use Rattle.std.specs.Prelude.{Some, IfErr, IfOk}
use Rattle.std.proofs.lemmas.List.{append-nil}
use Rattle.ds_state.specs.Value.{WorldValue}
use Rattle.ds_script_io.specs.declared.ending.ScriptFault.{ScriptFault}
use Rattle.ds_script_io.specs.declared.ending.ScriptFault.TheVariants.{LineTooLong}
use Rattle.ds_script_io.specs.declared.ending.ScriptEnd.{ScriptEnd}
use Rattle.ds_script_io.specs.declared.ending.ScriptEnd.TheVariants as ends
use Rattle.ds_script_io.specs.declared.input.InputEnd.{InputEnd}
use Rattle.ds_script_io.specs.declared.input.InputEnd.TheVariants as inputs
use Rattle.ds_script_io.specs.ScriptLines.{AtFront, ALine, LongLine, NoLine, next_of}
use Rattle.ds_script_io.proofs.Known.{Appends-both}
use Rattle.ds_script.specs.declared.order.Begun.{Begun}
use Rattle.ds_script.specs.Orders.{Order, Make, Does}
use Rattle.ds_script.specs.Running.{after}
use Rattle.ds_script.specs.Script as scripts
use Rattle.ds_script.specs.Script.{Progress, Asks, begins_at, goes_on, Carried, Finishes, FaultAt, Breaks, Lacks, is_whole, Writes}
use Rattle.ds_script_json.specs.declared.carry.CommandEnd.{CommandEnd}
use Rattle.ds_script_json.specs.CommandEnds.{Obeys, text_of}
use Rattle.ds_script_json.specs.JsonAnswers.{line_of}
use Rattle.ds_script_json.specs.JsonScripts.{InJson, begins, skips, makes, obeys, SaysInJson, Obeyed, StoppedAt, Said, RanInJson, ending_of}

-- what is carried out with answers in JSON is carried out with these texts
pub is_carried : (whole : Bool) (script : List ℕ) (lines : ℕ) (p : Progress) (out json rest : List ℕ) → InJson whole script lines p out json rest → Carried whole script lines p out rest
is_carried whole script lines p out json rest (begins w made) = scripts.begins w made
is_carried whole script lines p out json rest (skips n q o j r line behind before next asks) =
    scripts.skips n q o r line behind (is_carried whole script n q o j r before) next asks
is_carried whole script lines p out json rest (makes n q o j r line behind first columns rows processes edition w before next asks made) =
    scripts.makes n q o r line behind first columns rows processes edition w (is_carried whole script n q o j r before) next asks made
is_carried whole script lines p out json rest (obeys n q o j r line behind deed order events replies end new before next asks planned plays) =
    scripts.obeys n q o r line behind deed order events replies (text_of new end) new (is_carried whole script n q o j r before) next asks planned plays

-- ---- one line more

-- the lines led here, with this to say of what came before and of the world
pub record Led (whole : Bool) (script : List ℕ) (lines : ℕ) (first : Begun) (w : WorldValue) (out json rest : List ℕ) : Type 0 where
  pub progress : Progress
  pub begun_is : progress.begun ≡ first
  pub world_is : progress.world ≡ w
  pub answered : InJson whole script lines progress out json rest

led_by : (whole : Bool) (script : List ℕ) (lines : ℕ) (p : Progress) (out json rest : List ℕ) → InJson whole script lines p out json rest → Led whole script lines p.begun p.world out json rest
led_by whole script lines p out json rest answered = record { progress = p; begun_is = refl; world_is = refl; answered = answered }

obeyed_more : (whole : Bool) (script : List ℕ) (lines : ℕ) (p : Progress) (out json rest line behind : List ℕ) (order : Order) (end : CommandEnd) (new : WorldValue)
    → InJson whole script lines p out json rest → next_of whole rest ≡ ALine line behind → Asks p line (Some order) → Obeys p.world order end new
    → Led whole script (suc lines) (after order) new (out ++ text_of new end) (json ++ line_of new end) behind
obeyed_more whole script lines p out json rest line behind (Make first columns rows processes edition) end new answered next asks h =
    subst (λ (e : CommandEnd). Led whole script (suc lines) first new (out ++ text_of new e) (json ++ line_of new e) behind) (sym h.0)
    (subst (λ (o : List ℕ). Led whole script (suc lines) first new o (json ++ []) behind) (sym (append-nil out))
    (subst (λ (j : List ℕ). Led whole script (suc lines) first new out j behind) (sym (append-nil json))
    (led_by whole script (suc lines) (begins_at first new) out json behind (makes lines p out json rest line behind first columns rows processes edition new answered next asks h.1))))
obeyed_more whole script lines p out json rest line behind (Does deed) end new answered next asks h =
    led_by whole script (suc lines) (goes_on p h.2.events h.2.replies new) (out ++ text_of new end) (json ++ line_of new end) behind
    (obeys lines p out json rest line behind deed h.0 h.2.events h.2.replies end new answered next asks h.1 h.2.plays)

-- what the lines so far were answered: the text, and its JSON, which stands after what was written before, and where they led
pub record So (whole : Bool) (script : List ℕ) (lines : ℕ) (first : Begun) (w : WorldValue) (before now : Option (List ℕ)) (rest : List ℕ) : Type 0 where
  pub out : List ℕ
  pub json : List ℕ
  pub written : Appends before now json
  pub led : Led whole script lines first w out json rest

obeyed_at : (whole : Bool) (script : List ℕ) (lines : ℕ) (p : Progress) (out json rest line behind : List ℕ) (before now then : Option (List ℕ)) (first' : Begun) (new : WorldValue)
    → InJson whole script lines p out json rest → Appends before now json → next_of whole rest ≡ ALine line behind → Obeyed p.begun p.world line first' new now then
    → So whole script (suc lines) first' new before then behind
obeyed_at whole script lines p out json rest line behind before now then first' new answered written next (inl s) = record {
  out = out;
  json = json;
  written = subst (λ (o : Option (List ℕ)). Appends before o json) (sym s.nothing) written;
  led = record { progress = p; begun_is = sym s.still; world_is = sym s.same; answered = skips lines p out json rest line behind answered next s.asks };
}
obeyed_at whole script lines p out json rest line behind before now then first' new answered written next (inr a) = record {
  out = out ++ text_of new a.end;
  json = json ++ line_of new a.end;
  written = Appends-both before now then json (line_of new a.end) written a.written;
  led = subst (λ (b : Begun). Led whole script (suc lines) b new (out ++ text_of new a.end) (json ++ line_of new a.end) behind) (sym a.begun_is)
      (obeyed_more whole script lines p out json rest line behind a.order a.end new answered next a.asks a.obeys);
}

-- a line that is obeyed leads on, and its answer stands after those before
pub line_more : (whole : Bool) (script : List ℕ) (lines : ℕ) (first : Begun) (w : WorldValue) (rest line behind : List ℕ) (before now then : Option (List ℕ)) (first' : Begun) (new : WorldValue)
    → So whole script lines first w before now rest → next_of whole rest ≡ ALine line behind → Obeyed first w line first' new now then
    → So whole script (suc lines) first' new before then behind
line_more whole script lines first w rest line behind before now then first' new so next h =
    obeyed_at whole script lines so.led.progress so.out so.json rest line behind before now then first' new so.led.answered so.written next
    (subst (λ (b : Begun). Obeyed b so.led.progress.world line first' new now then) (sym so.led.begun_is) (subst (λ (v : WorldValue). Obeyed first v line first' new now then) (sym so.led.world_is) h))

-- ---- where it stops

-- the lines so far, as an end of the script, with more to say of their answers
said_by : (whole : Bool) (script : List ℕ) (lines : ℕ) (p : Progress) (out json rest : List ℕ) (before now : Option (List ℕ)) (Ends : List ℕ → Type 0)
    → InJson whole script lines p out json rest → Appends before now json → Ends out → Said whole script before now Ends
said_by whole script lines p out json rest before now Ends answered written end =
    record { out = out; json = json; written = written; is_end = end; says = inl (record { lines = lines; progress = p; rest = rest; answered = answered }) }

-- no line is left
pub finishes : (whole : Bool) (script : List ℕ) (lines : ℕ) (first : Begun) (w : WorldValue) (before now : Option (List ℕ)) (rest : List ℕ)
    → So whole script lines first w before now rest → next_of whole rest ≡ NoLine → Said whole script before now (Finishes whole script)
finishes whole script lines first w before now rest so none =
    said_by whole script lines so.led.progress so.out so.json rest before now (Finishes whole script) so.led.answered so.written
    (record { lines = lines; progress = so.led.progress; rest = rest; carried = is_carried whole script lines so.led.progress so.out so.json rest so.led.answered; none = none })

-- the line at the front has a fault
breaks : (whole : Bool) (script : List ℕ) (lines : ℕ) (p : Progress) (out json rest : List ℕ) (before now : Option (List ℕ)) (number : ℕ) (kind : ScriptFault)
    → InJson whole script lines p out json rest → Appends before now json → number ≡ lines + 1 → FaultAt p (next_of whole rest) kind
    → Said whole script before now (λ o. Breaks whole script o number kind)
breaks whole script lines p out json rest before now number kind answered written numbered fault =
    said_by whole script lines p out json rest before now (λ o. Breaks whole script o number kind) answered written
    (record { lines = lines; progress = p; rest = rest; carried = is_carried whole script lines p out json rest answered; number = numbered; fault = fault })

-- the line at the front is too long
pub is_too_long : (whole : Bool) (script : List ℕ) (lines : ℕ) (first : Begun) (w : WorldValue) (before now : Option (List ℕ)) (rest : List ℕ)
    → So whole script lines first w before now rest → next_of whole rest ≡ LongLine → Said whole script before now (λ o. Breaks whole script o (lines + 1) LineTooLong)
is_too_long whole script lines first w before now rest so long =
    breaks whole script lines so.led.progress so.out so.json rest before now (lines + 1) LineTooLong so.led.answered so.written refl
    (subst (λ (f : AtFront). FaultAt so.led.progress f LineTooLong) (sym long) refl)

stops_at : (whole : Bool) (script : List ℕ) (lines : ℕ) (p : Progress) (out json rest line behind : List ℕ) (before now then : Option (List ℕ)) (failed : Bool) (end : ScriptEnd)
    → InJson whole script lines p out json rest → Appends before now json → next_of whole rest ≡ ALine line behind → StoppedAt (lines + 1) p.begun p.world line now then failed end
    → RanInJson whole script before then failed (Err end)
stops_at whole script lines p out json rest line behind before now then failed (ends.Fault number kind) answered written next s =
    breaks whole script lines p out json rest before then number kind answered (subst (λ (o : Option (List ℕ)). Appends before o json) (sym s.2) written) s.0
    (subst (λ (f : AtFront). FaultAt p f kind) (sym next) s.1)
stops_at whole script lines p out json rest line behind before now then failed ends.NoMemory answered written next s =
    said_by whole script lines p out json rest before then (Lacks whole script) answered (subst (λ (o : Option (List ℕ)). Appends before o json) (sym s) written)
    (inl (record { lines = lines; progress = p; rest = rest; carried = is_carried whole script lines p out json rest answered }))
stops_at whole script lines p out json rest line behind before now then failed ends.WriteFailed answered written next s = s
stops_at whole script lines p out json rest line behind before now then failed end answered written next s = absurd s

-- a line that stops a script breaks it off there
pub line_stops : (whole : Bool) (script : List ℕ) (lines : ℕ) (first : Begun) (w : WorldValue) (rest line behind : List ℕ) (before now then : Option (List ℕ)) (failed : Bool) (end : ScriptEnd)
    → So whole script lines first w before now rest → next_of whole rest ≡ ALine line behind → StoppedAt (lines + 1) first w line now then failed end
    → RanInJson whole script before then failed (Err end)
line_stops whole script lines first w rest line behind before now then failed end so next h =
    stops_at whole script lines so.led.progress so.out so.json rest line behind before now then failed end so.led.answered so.written next
    (subst (λ (b : Begun). StoppedAt (lines + 1) b so.led.progress.world line now then failed end) (sym so.led.begun_is) (subst (λ (v : WorldValue). StoppedAt (lines + 1) first v line now then failed end) (sym so.led.world_is) h))

-- ---- endings

-- what a script was answered fits how its input ended and how it did, but where a write failed
pub writes_of : (whole : Bool) (script : List ℕ) (run : Result (Unit {0}) ScriptEnd) (end : ScriptEnd) (input : InputEnd) (before now : Option (List ℕ)) (failed : Bool)
    → is_whole input ≡ whole → ((out : List ℕ) → Finishes whole script out → Writes input script out end) → RanInJson whole script before now failed run → ending_of run end ≢ ends.WriteFailed
    → (out json : List ℕ) × Appends before now json × Writes input script out (ending_of run end) × SaysInJson (is_whole input) script out json
writes_of whole script (Ok u) end input before now failed w done ran ne =
    (ran.out, ran.json, ran.written, done ran.out ran.is_end, subst (λ (b : Bool). SaysInJson b script ran.out ran.json) (sym w) ran.says)
writes_of whole script (Err (ends.Fault line kind)) end input before now failed w done ran ne =
    (ran.out, ran.json, ran.written, subst (λ (b : Bool). Breaks b script ran.out line kind) (sym w) ran.is_end, subst (λ (b : Bool). SaysInJson b script ran.out ran.json) (sym w) ran.says)
writes_of whole script (Err ends.NoMemory) end input before now failed w done ran ne =
    (ran.out, ran.json, ran.written, subst (λ (b : Bool). Lacks b script ran.out) (sym w) ran.is_end, subst (λ (b : Bool). SaysInJson b script ran.out ran.json) (sym w) ran.says)
writes_of whole script (Err ends.WriteFailed) end input before now failed w done ran ne = absurd (ne refl)
writes_of whole script (Err other) end input before now failed w done ran ne = absurd ran

pub writes_fail : (whole : Bool) (script : List ℕ) (run : Result (Unit {0}) ScriptEnd) (end : ScriptEnd) (before now : Option (List ℕ)) (failed : Bool)
    → end ≢ ends.WriteFailed → RanInJson whole script before now failed run → ending_of run end ≡ ends.WriteFailed → failed ≡ true
writes_fail whole script (Ok u) end before now failed ne ran e = absurd (ne e)
writes_fail whole script (Err (ends.Fault line kind)) end before now failed ne ran e = absurd (cc)
writes_fail whole script (Err ends.NoMemory) end before now failed ne ran e = absurd (cc)
writes_fail whole script (Err ends.WriteFailed) end before now failed ne ran e = ran
writes_fail whole script (Err other) end before now failed ne ran e = absurd ran

-- no failed write is hidden, but for one that ends the script
pub none_hidden : (run : Result (Unit {0}) ScriptEnd) (end : ScriptEnd) (before now : Bool) → IfOk run (λ u. now ≡ before) → IfErr run (λ e. e ≢ ends.WriteFailed → now ≡ before)
    → ending_of run end ≢ ends.WriteFailed → now ≡ before
none_hidden (Ok u) end before now ok err ne = ok
none_hidden (Err e) end before now ok err ne = err ne

-- a script that is cut off at its limit
pub cut : (input : InputEnd) (script : List ℕ) (run : Result (Unit {0}) ScriptEnd) (result : ScriptEnd) (before now : Option (List ℕ)) (failed : Bool)
    → input ≡ inputs.TooLong → result ≡ ending_of run ends.TooLong → RanInJson false script before now failed run → result ≢ ends.WriteFailed
    → (out json : List ℕ) × Appends before now json × Writes input script out result × SaysInJson (is_whole input) script out json
cut input script run result before now failed is ended ran ne =
    let w = writes_of false script run ends.TooLong input before now failed (ap is_whole is) (λ out f. (is, f)) ran (λ e. ne (ended ∙ e)) in
    (w.0, w.1, w.2, subst (λ (e : ScriptEnd). Writes input script w.0 e) (sym ended) w.3, w.4)
