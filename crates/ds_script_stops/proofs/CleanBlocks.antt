-- In each block every process recovers before the settle, which is alone then, and ends clean.
use Rattle.std.proofs.Common.{ℕ, ◌≡◌, ◌<◌, ◌≤◌, ◌+◌, ◌*◌, List, [], ◌∷◌, ◌++◌, refl, ap, sym, ◌∙◌, subst, arith, append_assoc, inl, inr, zero, suc, length, Bool}
use Rattle.std.proofs.lemmas.Bool.{cases_lt}
use Rattle.std.proofs.lemmas.List.{length-append}
use Rattle.ds_layout.specs.declared.layout.Layout.{Layout}
use Rattle.ds_layout.specs.Places.{cells_of}
use Rattle.ds_state.specs.Works.{SEEN_MOST}
use Rattle.ds_state.specs.Value.{WorldValue, world_of, IsGood}
use Rattle.ds_state.specs.LayoutsFit.{IsMoving, NoneMoves}
use Rattle.ds_state.specs.declared.situation.Rest.{Rest}
use Rattle.ds_state.specs.declared.situation.Situation.TheVariants.{Idle, Stopped}
use Rattle.ds_core.specs.Takes.{WorldRun}
use Rattle.ds_core.specs.declared.event.Event.{Event}
use Rattle.ds_core.specs.declared.event.Event.TheVariants as events
use Rattle.ds_core.specs.declared.reply.Reply.{Reply}
use Rattle.ds_core.specs.declared.reply.Reply.TheVariants.{Crashed}
use Rattle.ds_calls.specs.Whole.{HasProcess}
use Rattle.ds_calls.proofs.Ages.{young_marks}
use Rattle.ds_calls.proofs.Runs.{run_both}
use Rattle.ds_script.specs.Orders.{Deed, Whole, Settle}
use Rattle.ds_script.specs.Doing.{Says, plan}
use Rattle.ds_script.specs.Plays.{Plays}
use Rattle.ds_script.proofs.RecoverPlayed.{recovered}
use Rattle.ds_script.proofs.Settled.{lone_says_clean}
use Rattle.ds_script_stops.specs.StopBlocks.{InTurn, no_deed, one_deed_more, recoveries, deeds_behind, IsBlock, block_events}
use Rattle.ds_script_stops.specs.CleanBlocks.{TellsClean}
use Rattle.ds_script_stops.proofs.Ending.{turn_runs, before_runs, block_new, block_good}

-- ---- the deeds before the last one

record Splits {A : Type 0} (xs ys : List A) (x y : A) : Type 0 where
  before : xs ≡ ys
  last : x ≡ y

splits : {A : Type 0} (xs ys : List A) (x y : A) → xs ++ x ∷ [] ≡ ys ++ y ∷ [] → Splits xs ys x y
splits [] [] x y is = record { before = refl; last = cc }
splits [] (b ∷ []) x y is = absurd (let bad : [] ≡ y ∷ [] = cc in cc)
splits [] (b ∷ c ∷ ys) x y is = absurd (let bad : [] ≡ c ∷ (ys ++ y ∷ []) = cc in cc)
splits (a ∷ []) [] x y is = absurd (let bad : x ∷ [] ≡ [] = cc in cc)
splits (a ∷ c ∷ xs) [] x y is = absurd (let bad : c ∷ (xs ++ x ∷ []) ≡ [] = cc in cc)
splits (a ∷ xs) (b ∷ ys) x y is =
    let heads : a ≡ b = cc in
    let tails : xs ++ x ∷ [] ≡ ys ++ y ∷ [] = cc in
    let rest = splits xs ys x y tails in
    record { before = ap (λ z. z ∷ xs) heads ∙ ap (λ zs. b ∷ zs) rest.before; last = rest.last }

no_last : {A : Type 0} (xs : List A) (x : A) → xs ++ x ∷ [] ≡ [] → ⊥
no_last [] x is = cc
no_last (a ∷ xs) x is = cc

-- the deeds up to the last one were carried out, and then that one
record EndsWith (start : WorldValue) (before : List Deed) (last : Deed) (all : List Event) (all_replies : List Reply) (all_answers : List ℕ) (new : WorldValue) : Type 0 where
  events : List Event
  replies : List Reply
  answers : List ℕ
  world : WorldValue
  turn : InTurn start before events replies answers world
  own : List Event
  told : List Reply
  answer : List ℕ
  plays : Plays (plan world [] last) world own told (Says answer) new
  events_are : all ≡ events ++ own
  replies_are : all_replies ≡ replies ++ told
  answers_are : all_answers ≡ answers ++ answer

ends_with : (start : WorldValue) (deeds before : List Deed) (last : Deed) (es : List Event) (rs : List Reply) (answers : List ℕ) (new : WorldValue) → deeds ≡ before ++ last ∷ [] → InTurn start deeds es rs answers new → EndsWith start before last es rs answers new
ends_with start deeds before last es rs answers new is no_deed = absurd (no_last before last (sym is))
ends_with start deeds before last es rs answers new is (one_deed_more ds es1 rs1 ts v deed own told answer w h plays) =
    let s = splits ds before deed last is in
    record {
      events = es1;
      replies = rs1;
      answers = ts;
      world = v;
      turn = subst (λ (x : List Deed). InTurn start x es1 rs1 ts v) s.before h;
      own = own;
      told = told;
      answer = answer;
      plays = subst (λ (d : Deed). Plays (plan v [] d) v own told (Says answer) new) s.last plays;
      events_are = refl;
      replies_are = refl;
      answers_are = refl;
    }

-- ---- after the recoveries

-- the first processes, this many, are idle, and the others have stopped
record AreBack (n : ℕ) (first w : WorldValue) : Type 0 where
  idle : (q : ℕ) → q < n → (m : Rest) × ((world_of w).situation q ≡ Idle m)
  stopped : (q : ℕ) → n ≤ q → q < first.sheet.layout.processes → (world_of w).situation q ≡ Stopped
  layout : w.sheet.layout ≡ first.sheet.layout
  good : IsGood w

module _ (first : WorldValue) (good : IsGood first) (stopped : (q : ℕ) → q < first.sheet.layout.processes → (world_of first).situation q ≡ Stopped) where
  -- none of them migrates
  alone : (n : ℕ) (w : WorldValue) → AreBack n first w → (p : ℕ) → NoneMoves (world_of w) p
  alone n w b p q lt ne moves = elim (cases_lt q n) [
    | inl before ↦ (let idle = b.idle q before in subst IsMoving idle.1 moves)
    | inr behind ↦ subst IsMoving (b.stopped q (omega (arith, behind)) (subst (λ (y : Layout). q < y.processes) b.layout lt)) moves
  ]

  back : (n : ℕ) (deeds : List Deed) (es : List Event) (rs : List Reply) (answers : List ℕ) (w : WorldValue) → n ≤ first.sheet.layout.processes → deeds ≡ recoveries n → InTurn first deeds es rs answers w → AreBack n first w
  back zero deeds es rs answers w few is no_deed = record { idle = λ q lt. absurd (omega arith); stopped = λ q le lt. stopped q lt; layout = refl; good = good }
  back zero deeds es rs answers w few is (one_deed_more ds es1 rs1 ts v deed own told answer new h plays) = absurd (no_last ds deed is)
  back (suc n) deeds es rs answers w few is h =
      let e = ends_with first deeds (recoveries n) (Whole n (events.BeginRecover n)) es rs answers w is h in
      let b = back n (recoveries n) e.events e.replies e.answers e.world (omega (arith, few)) refl e.turn in
      let r = recovered n e.own e.told e.world w e.answer b.good (rw b.layout (omega (arith, few))) (b.stopped n (omega arith) (omega (arith, few))) (alone n e.world b n) e.plays in
      record {
        idle = λ q lt. elim (cases_lt q n) [
          | inl before ↦ (let was = b.idle q before in (was.0, r.others q (λ same. omega arith) ∙ was.1))
          | inr here ↦ (let same : q ≡ n = omega arith in (r.next, ap (λ x. (world_of w).situation x) same ∙ r.idle))
        ];
        stopped = λ q le lt. r.others q (λ same. omega arith) ∙ b.stopped q (omega arith) lt;
        layout = r.layout ∙ b.layout;
        good = r.good;
      }

-- ---- a block

module _ (whole : Bool) (script : List ℕ) (k : ℕ) (text : List ℕ) (b : IsBlock whole script k text) (there : HasProcess b.crashed 0)
    (few : length (block_events b) + 2 * (cells_of b.crashed.sheet.layout + 2) ≤ SEEN_MOST) where
  abbrev processes : ℕ
  processes = b.crashed.sheet.layout.processes

  reported : EndsWith b.crashed (recoveries processes ++ Settle 0 ∷ []) (Whole 0 (events.BeginShow 0)) b.events b.replies b.answers b.new
  reported = ends_with b.crashed (deeds_behind processes) (recoveries processes ++ Settle 0 ∷ []) (Whole 0 (events.BeginShow 0)) b.events b.replies b.answers b.new
      (sym (append_assoc (recoveries processes) (Settle 0 ∷ []) (Whole 0 (events.BeginShow 0) ∷ []))) b.behind

  settled : EndsWith b.crashed (recoveries processes) (Settle 0) reported.events reported.replies reported.answers reported.world
  settled = ends_with b.crashed (recoveries processes ++ Settle 0 ∷ []) (recoveries processes) (Settle 0) reported.events reported.replies reported.answers reported.world refl reported.turn

  all_back : AreBack processes b.crashed settled.world
  all_back = back b.crashed b.crash.good (λ q lt. b.crash.takes.crashes.situation q (rw (sym (ap (λ (y : Layout). y.processes) b.crash.takes.crashes.layout)) lt))
      processes (recoveries processes) settled.events settled.replies settled.answers settled.world (omega arith) refl settled.turn

  run : WorldRun b.stands.progress.start ((b.stands.progress.events ++ (b.stands.events ++ events.Step b.stands.p ∷ [])) ++ events.Crash ∷ settled.events)
      ((b.stands.progress.replies ++ (b.stands.replies ++ b.stands.reply ∷ [])) ++ Crashed ∷ settled.replies) settled.world
  run = run_both (b.stands.progress.events ++ (b.stands.events ++ events.Step b.stands.p ∷ [])) (b.stands.progress.replies ++ (b.stands.replies ++ b.stands.reply ∷ []))
      (events.Crash ∷ settled.events) (Crashed ∷ settled.replies) b.stands.progress.start b.world settled.world
      (before_runs whole script k text b) (b.crashed, b.crash, turn_runs b.crashed (recoveries processes) settled.events settled.replies settled.answers settled.world settled.turn)

  fewer : length ((b.stands.progress.events ++ (b.stands.events ++ events.Step b.stands.p ∷ [])) ++ events.Crash ∷ settled.events) + 2 * (cells_of settled.world.sheet.layout + 2) ≤ SEEN_MOST
  fewer =
      let before : List Event = b.stands.progress.events ++ (b.stands.events ++ events.Step b.stands.p ∷ []) in
      let x = length-append before (events.Crash ∷ settled.events) in
      let y = length-append before (events.Crash ∷ b.events) in
      let z = ap length reported.events_are ∙ length-append reported.events reported.own in
      let u = ap length settled.events_are ∙ length-append settled.events settled.own in
      let same = ap cells_of all_back.layout in
      omega (arith, few, x, y, z, u, same)

  clean_line : TellsClean b.crashed b.events b.replies b.answers b.new
  clean_line = record {
    recover_events = settled.events;
    recover_replies = settled.replies;
    told = settled.answers;
    recovered = settled.world;
    recovers = settled.turn;
    settle_events = settled.own;
    settle_replies = settled.told;
    line = settled.answer;
    settled = reported.world;
    settles = settled.plays;
    clean = lone_says_clean 0 settled.world settled.answer reported.world all_back.good (rw all_back.layout there)
        (record { each = λ q lt. all_back.idle q (rw (sym (ap (λ (y : Layout). y.processes) all_back.layout)) lt) })
        (young_marks b.stands.progress.start _ _ settled.world (cells_of settled.world.sheet.layout + 2) (block_new whole script k text b) (block_good whole script k text b) run fewer)
        (record { events = settled.own; replies = settled.told; plays = settled.plays });
    report_events = reported.own;
    report_replies = reported.told;
    report = reported.answer;
    reports = reported.plays;
    events_are = reported.events_are ∙ ap (λ (es : List Event). es ++ reported.own) settled.events_are;
    replies_are = reported.replies_are ∙ ap (λ (rs : List Reply). rs ++ reported.told) settled.replies_are;
    answers_are = reported.answers_are ∙ ap (λ (xs : List ℕ). xs ++ reported.answer) settled.answers_are;
  }

-- a block with few enough events reports recoveries, a settle that says all is clean or is out of memory, and a report
pub blocks_clean : (whole : Bool) (script : List ℕ) (k : ℕ) (text : List ℕ) (b : IsBlock whole script k text) → HasProcess b.crashed 0 → length (block_events b) + 2 * (cells_of b.crashed.sheet.layout + 2) ≤ SEEN_MOST
    → TellsClean b.crashed b.events b.replies b.answers b.new
blocks_clean whole script k text b there few = clean_line whole script k text b there few
