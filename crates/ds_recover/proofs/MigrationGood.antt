-- Each step of a migration, and its beginning, keep a world good.
use Rattle.std.proofs.Common.{ℕ, ◌≡◌, ◌<◌, length, get_or, set, refl, ap, sym, ◌∙◌, subst, arith}
use Rattle.ds_state.specs.declared.turn.Turn.{Turn}
use Rattle.ds_state.specs.declared.migration.MigrateEnd.{MigrateEnd}
use Rattle.std.proofs.Math.ListN.{length-set}
use Rattle.std.proofs.lemmas.List.{get_or-set_same, get_or-set_other, get_or_default}
use Rattle.ds_layout.specs.declared.layout.Layout.{Layout}
use Rattle.ds_layout.specs.SheetMemory.{SheetValue, memory, CanPerform, PerformsAt}
use Rattle.ds_state.specs.Works.{PlainMigrateCall}
use Rattle.ds_state.specs.Underway.{reports_in}
use Rattle.ds_state.specs.Value.{WorldValue, first_rest, world_of, IsGood, IsReserved}
use Rattle.ds_state.specs.CallsFit.{CallFits, MigrationFits}
use Rattle.ds_state.specs.declared.migration.MigrateStage.{MigrateStage}
use Rattle.ds_state.specs.declared.migration.MigrateStage.TheVariants.{Answer}
use Rattle.ds_state.specs.declared.situation.Situation.{Situation}
use Rattle.ds_state.specs.declared.situation.Situation.TheVariants.{Idle, Migrating}
use Rattle.ds_state.proofs.Underway.{no_more}
use Rattle.ds_recover.specs.MigrationSteps.{StepsAt, BeginsMigration, access_at, after, fresh}
use Rattle.ds_recover.specs.MigrationTakes.{AllStopped, StepsBy, effect_at}
use Rattle.ds_recover.proofs.Migrating.{migration_keeps, migration_begins}
use Rattle.ds_recover.proofs.MigrationPossible.{possible}

-- the process's migration
pub record IsMoved (v : WorldValue) (p : ℕ) (e : PlainMigrateCall) : Type 0 where
  pub there : p < length v.situations
  pub is : (world_of v).situation p ≡ Migrating e

-- the process's situation that was read says which migration it is in
pub moved_from : (v : WorldValue) (p : ℕ) (e : PlainMigrateCall) (read : Situation) → p < length v.situations → read ≡ get_or v.situations p read → read ≡ Migrating e → IsMoved v p e
moved_from v p e read lt is here = record { there = lt; is = get_or_default v.situations p (Idle first_rest) read lt ∙ sym is ∙ here }

no_show : (e : PlainMigrateCall) (s : MigrateStage) (word : ℕ) → reports_in (after e s word) ≡ 0
no_show e (Answer how) word = refl
no_show e _ word = refl

module _ (v : WorldValue) (g : IsGood v) (p : ℕ) (e : PlainMigrateCall) (at : IsMoved v p e) where
  pub low : p < v.sheet.layout.processes
  low = let t = at.there in let s = g.situations in omega arith

  fits : MigrationFits (world_of v) p e
  fits = subst (λ (x : Situation). CallFits (world_of v) p x) at.is (g.sound.calls p low)

  pub mine : e.process ≡ p
  mine = fits.mine

  here : (world_of v).situation e.process ≡ Migrating e
  here = ap (λ q. (world_of v).situation q) mine ∙ at.is

  low_own : e.process < v.sheet.layout.processes
  low_own = rw mine low

  -- its access can be performed
  pub perform_at : CanPerform v.sheet.layout (memory v.sheet) p (access_at e e.stage)
  perform_at = subst (λ (q : ℕ). CanPerform v.sheet.layout (memory v.sheet) q (access_at e e.stage)) mine (possible e (world_of v) low_own (subst (λ (q : ℕ). MigrationFits (world_of v) q e) (sym mine) fits))

  module _ (word : ℕ) (sheet : SheetValue) (layout : sheet.layout ≡ v.sheet.layout) (performs : PerformsAt (access_at e e.stage) p (memory v.sheet) (memory sheet) word) where
    -- the world after the step
    pub next : WorldValue
    next = record v { sheet = sheet; situations = set v.situations p (after e e.stage word) }

    pub steps : StepsAt e e.stage word (world_of v) (world_of next)
    unfolding next
    steps = record {
      layout = layout;
      memory = subst (λ (q : ℕ). PerformsAt (access_at e e.stage) q (memory v.sheet) (memory sheet) word) (sym mine) performs;
      situation = ap (λ q. get_or (set v.situations p (after e e.stage word)) q (Idle first_rest)) mine ∙ get_or-set_same v.situations p (after e e.stage word) (Idle first_rest) at.there;
      others = λ q ne. get_or-set_other v.situations p q (after e e.stage word) (Idle first_rest) (λ same. ne (same ∙ sym mine));
      counted = refl;
      open_edits = λ q. refl;
    }

    pub next_kept : (room : ℕ) → IsReserved v room → IsReserved next room
    unfolding next
    next_kept room kept = record {
      good = record {
        sound = (migration_keeps e e.stage word (world_of v) (world_of next) g.sound low_own here steps).sound;
        situations = length-set v.situations p (after e e.stage word) ∙ g.situations ∙ ap (λ (l : Layout). l.processes) (sym layout);
        open_edits = g.open_edits ∙ ap (λ (l : Layout). l.processes) (sym layout);
        reports = rw layout g.reports;
        answered = g.answered;
        counts = no_more v.situations p (after e e.stage word) v.settled _ at.there (no_show e e.stage word) g.counts;
      };
      reserved = (let same = ap (λ (l : Layout). l.processes) layout in let r = kept.reserved in omega arith);
    }

    pub next_takes : (what : Turn MigrateEnd) → what ≡ effect_at e.stage → StepsBy v p what next
    unfolding next
    next_takes what is = record {
      there = low;
      migration = e;
      mine = mine;
      at = at.is;
      word = word;
      steps = steps;
      is = is;
      done = refl;
      settled = refl;
      reports = refl;
    }

    -- a world of these parts is that world
    pub next_is : (situation : Situation) → situation ≡ after e e.stage word → (let w : WorldValue = record v { sheet = sheet; situations = set v.situations p situation } in w) ≡ next
    unfolding next
    next_is situation is = ap (λ (s : Situation). (let w : WorldValue = record v { sheet = sheet; situations = set v.situations p s } in w)) is

-- the world in which the migration is under way
abbrev pub entered : WorldValue → PlainMigrateCall → WorldValue
entered v e = record v { situations = set v.situations e.process (Migrating e) }

module _ (v : WorldValue) (e : PlainMigrateCall) (room : ℕ) (kept : IsReserved v room) (low : e.process < v.sheet.layout.processes) (stopped : AllStopped (world_of v))
    (first : e ≡ fresh e.process v.sheet.layout.processes) where
  there : e.process < length v.situations
  there = let s = kept.good.situations in omega arith

  pub began : BeginsMigration e.process (world_of v) (world_of (entered v e))
  began = record {
    stopped = stopped e.process low;
    alone = λ q l ne. stopped q l;
    layout = refl;
    memory = record { cached = λ r. refl; persisted = λ r. refl; buffer = λ q. refl };
    situation = get_or-set_same v.situations e.process (Migrating e) (Idle first_rest) there ∙ ap (λ (x : PlainMigrateCall). Migrating x) first;
    others = λ q ne. get_or-set_other v.situations e.process q (Migrating e) (Idle first_rest) ne;
    counted = refl;
    open_edits = λ q. refl;
  }

  pub entered_kept : IsReserved (entered v e) room
  entered_kept = record {
    good = record {
      sound = (migration_begins e.process (world_of v) (world_of (entered v e)) kept.good.sound low began).sound;
      situations = length-set v.situations e.process (Migrating e) ∙ kept.good.situations;
      open_edits = kept.good.open_edits;
      reports = kept.good.reports;
      answered = kept.good.answered;
      counts = no_more v.situations e.process (Migrating e) v.settled _ there refl kept.good.counts;
    };
    reserved = kept.reserved;
  }
