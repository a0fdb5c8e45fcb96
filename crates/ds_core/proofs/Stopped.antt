-- The worlds after a stop and after a crash are good.
use Rattle.std.proofs.Common.{ℕ, ◌≡◌, ◌≢◌, ◌<◌, List, [], ◌∷◌, suc, length, get_or, set, refl, ap, sym, ◌∙◌, arith, Some, Bool, true, false}
use Rattle.std.specs.Prelude.{All, Contains, if◌then◌else◌}
use Rattle.std.proofs.Math.ListN.{length-set}
use Rattle.std.proofs.lemmas.List.{get_or-set_same, get_or-set_other}
use Rattle.ds_words.specs.Memory.{StopsAt, Crashes}
use Rattle.ds_layout.specs.declared.layout.Layout.{Layout}
use Rattle.ds_layout.specs.SheetMemory.{SheetValue, memory}
use Rattle.ds_state.specs.World.{PlainEdit, PlainIssue}
use Rattle.ds_state.specs.Value.{first_rest, WorldValue, world_of, IsGood, IsReserved}
use Rattle.ds_state.specs.Dones.{HasAnswered}
use Rattle.ds_state.specs.Crashes.{StopsIn, CrashesTo, is_lost, survivors}
use Rattle.ds_state.specs.Sound.{IsOfSheet}
use Rattle.ds_state.specs.declared.situation.Situation.{Situation}
use Rattle.ds_state.specs.declared.situation.Situation.TheVariants as situation
use Rattle.ds_state.specs.Underway.{reports_in, shows_under_way}
use Rattle.ds_state.specs.declared.reports.TheConstants.{SETTLED_MOST}
use Rattle.ds_state.proofs.Underway.{no_more}
use Rattle.ds_state.proofs.Stopping.{stop_keeps}
use Rattle.ds_state.proofs.CrashSound.{crash_sound}
use Rattle.ds_core.specs.StopEvents.{HasHeadPlace}
use Rattle.ds_core.proofs.Closing.{to_filter}
use Rattle.ds_core.proofs.Crash.{lost_open}

-- ---- a stop

abbrev pub stopped : WorldValue → SheetValue → ℕ → WorldValue
stopped v sheet p = record v { sheet = sheet; situations = set v.situations p situation.Stopped }

module _ (v : WorldValue) (sheet : SheetValue) (p room : ℕ) (k : IsReserved v room) (layout : sheet.layout ≡ v.sheet.layout) (stops : StopsAt p (memory v.sheet) (memory sheet))
    (there : p < length v.situations) (runs : get_or v.situations p (situation.Idle first_rest) ≢ situation.Stopped) where
  processes : sheet.layout.processes ≡ v.sheet.layout.processes
  processes = ap (λ (l : Layout). l.processes) layout

  pub stop_there : p < v.sheet.layout.processes
  stop_there = let s = k.good.situations in omega arith

  pub stops_in : StopsIn p (world_of v) (world_of (stopped v sheet p))
  stops_in = record {
    runs = runs;
    layout = layout;
    memory = stops;
    situation = get_or-set_same v.situations p situation.Stopped (situation.Idle first_rest) there;
    others = λ q ne. get_or-set_other v.situations p q situation.Stopped (situation.Idle first_rest) ne;
    counted = refl;
    open_edits = λ q. refl;
  }

  pub stop_reserved : IsReserved (stopped v sheet p) room
  stop_reserved = record {
    good = record {
      sound = (stop_keeps p (world_of v) (world_of (stopped v sheet p)) k.good.sound stop_there stops_in).sound;
      situations = length-set v.situations p situation.Stopped ∙ k.good.situations ∙ sym processes;
      open_edits = k.good.open_edits ∙ sym processes;
      reports = rw layout k.good.reports;
      answered = k.good.answered;
      counts = no_more v.situations p situation.Stopped v.settled SETTLED_MOST there refl k.good.counts;
    };
    reserved = (let r = k.reserved in let s = processes in omega arith);
  }

-- ---- a crash

-- no show is under way where every process has stopped
none_stopped : (ss : List Situation) → ((p : ℕ) → p < length ss → get_or ss p (situation.Idle first_rest) ≡ situation.Stopped) → shows_under_way ss ≡ 0
none_stopped [] all = refl
none_stopped (s ∷ ss) all =
    let first = all 0 (omega arith) in
    let rest = none_stopped ss (λ p lt. all (suc p) (omega arith)) in
    let one = ap reports_in first in
    omega arith

abbrev pub crashed : WorldValue → SheetValue → List Situation → WorldValue
crashed v sheet situations = record v { sheet = sheet; situations = situations; counted = survivors (memory v.sheet) v.counted }

-- the head of each linearized edit can be looked at
pub heads_there : (v : WorldValue) → IsGood v → All (λ e. HasHeadPlace v.sheet.layout e) v.counted
heads_there v g k d lt =
    let e : IsOfSheet (world_of v) (get_or v.counted k d) = g.sound.of_sheet k d lt in
    let few = v.sheet.layout.limited in
    record { cell = e.cell; process = (let p = e.process in omega arith); number = e.number }

module _ (v : WorldValue) (sheet : SheetValue) (situations : List Situation) (room : ℕ) (k : IsReserved v room) (layout : sheet.layout ≡ v.sheet.layout) (crash : Crashes (memory v.sheet) (memory sheet))
    (count : length situations ≡ length v.situations) (all : (p : ℕ) → p < length situations → get_or situations p (situation.Idle first_rest) ≡ situation.Stopped) where
  same_processes : sheet.layout.processes ≡ v.sheet.layout.processes
  same_processes = ap (λ (l : Layout). l.processes) layout

  pub crashes_to : CrashesTo (world_of v) (world_of (crashed v sheet situations))
  crashes_to = record {
    layout = layout;
    memory = crash;
    situation = λ q lt. all q (let s = k.good.situations in omega arith);
    counted = refl;
    open_edits = λ q. refl;
  }

  -- what was answered is not lost: only an open edit is
  stays : (e : PlainEdit) → Contains v.counted e → ((issue : PlainIssue) → (world_of v).open_edits e.process ≡ Some issue → issue.edit ≢ e) → Contains (survivors (memory v.sheet) v.counted) e
  unfolding survivors
  stays e there closed = to_filter (λ (f : PlainEdit). if is_lost (memory v.sheet) f then false else true) v.counted e there (kept ((if is_lost (memory v.sheet) e then false else true)) refl)
    where
      kept : (b : Bool) → (if is_lost (memory v.sheet) e then false else true) ≡ b → (if is_lost (memory v.sheet) e then false else true) ≡ true
      kept true is = is
      kept false is = (let o = lost_open (world_of v) k.good.sound e there is in absurd (closed o.issue o.issued o.same))

  answered : HasAnswered (survivors (memory v.sheet) v.counted) (world_of v).open_edits v.done
  answered = let a = k.good.answered in record {
    closed = a.closed;
    as_many = a.as_many;
    once = a.once;
    count = λ e there. stays e (a.count e there) (λ issue is. a.answered e issue there is);
    answered = a.answered;
  }

  pub crash_reserved : IsReserved (crashed v sheet situations) room
  crash_reserved = record {
    good = record {
      sound = crash_sound (world_of v) (world_of (crashed v sheet situations)) k.good.sound crashes_to;
      situations = count ∙ k.good.situations ∙ sym same_processes;
      open_edits = k.good.open_edits ∙ sym same_processes;
      reports = rw layout k.good.reports;
      answered = answered;
      counts = (let none = none_stopped situations all in let c = k.good.counts in omega arith);
    };
    reserved = (let r = k.reserved in let s = same_processes in omega arith);
  }
