-- Each step of a show keeps a world good.
use Rattle.std.proofs.Common.{ℕ, ◌≡◌, ◌<◌, ◌≤◌, ◌+◌, length, get_or, set, refl, ap, sym, ◌∙◌, subst, arith}
use Rattle.ds_state.specs.declared.turn.Turn.{Turn}
use Rattle.ds_state.specs.declared.show.ShowEnd.{ShowEnd}
use Rattle.std.proofs.Math.ListN.{length-set}
use Rattle.std.proofs.lemmas.List.{get_or-set_same, get_or-set_other, get_or_default}
use Rattle.ds_layout.specs.declared.layout.Layout.{Layout}
use Rattle.ds_layout.specs.SheetMemory.{SheetValue, memory, CanPerform, PerformsAt}
use Rattle.ds_state.specs.Works.{PlainShowCall}
use Rattle.ds_state.specs.Reports.{PlainReports}
use Rattle.ds_state.specs.Underway.{reports_in, shows_under_way}
use Rattle.ds_state.specs.Value.{WorldValue, world_of, AreReportsOf, IsGood, IsReserved}
use Rattle.ds_state.specs.KnownShow.{ShowFits}
use Rattle.ds_state.specs.CallsFit.{CallFits}
use Rattle.ds_state.specs.declared.reports.TheConstants.{SETTLED_MOST}
use Rattle.ds_state.specs.declared.show.ShowEnd.TheVariants.{Settled, Unsettled}
use Rattle.ds_state.specs.declared.show.ShowStage.{ShowStage}
use Rattle.ds_state.specs.declared.show.ShowStage.TheVariants.{LoadAnnounce, LoadMark, LoadValue, LoadKind, AgainMark, AgainAnnounce, Answer}
use Rattle.ds_state.specs.declared.situation.Situation.{Situation}
use Rattle.ds_state.specs.declared.situation.Situation.TheVariants.{Idle, Showing}
use Rattle.ds_state.proofs.Underway.{after_set}
use Rattle.ds_state.specs.declared.turn.Turn.TheVariants.{GoesOn, Answers}
use Rattle.ds_show.specs.ShowSteps.{Steps, access_at, after, answered, effect_at}
use Rattle.ds_show.specs.ShowTakes.{settled_by, reports_by, StepsBy}
use Rattle.ds_show.proofs.ShowLaws.{steps as steps_keep, accesses}
use Rattle.ds_state.specs.Value.{first_rest}

-- the process's show
pub record IsShowing (v : WorldValue) (p : ℕ) (e : PlainShowCall) : Type 0 where
  pub there : p < length v.situations
  pub is : (world_of v).situation p ≡ Showing e

-- the process's situation that was read says which show it is in
pub showing_from : (v : WorldValue) (p : ℕ) (e : PlainShowCall) (read : Situation) → p < length v.situations → read ≡ get_or v.situations p read → read ≡ Showing e → IsShowing v p e
showing_from v p e read lt is here = record { there = lt; is = get_or_default v.situations p (Idle first_rest) read lt ∙ sym is ∙ here }

-- a show that is settled is under way no more
settles_one : (e : PlainShowCall) (s : ShowStage) (word : ℕ) → settled_by (effect_at s) + reports_in (after e s word) ≤ 1
settles_one e (LoadAnnounce i) word = omega arith
settles_one e (LoadMark i) word = omega arith
settles_one e (LoadValue i) word = omega arith
settles_one e (LoadKind i) word = omega arith
settles_one e (AgainMark i) word = omega arith
settles_one e (AgainAnnounce i) word = omega arith
settles_one e (Answer Settled) word = omega arith
settles_one e (Answer (Unsettled place w)) word = omega arith

-- the snapshots that are kept are of the sheet
reports_kept : (layout : Layout) (r : PlainReports) (e : PlainShowCall) (what : Turn ShowEnd) → AreReportsOf layout r → AreReportsOf layout (reports_by r e what)
reports_kept layout r e GoesOn h = h
reports_kept layout r e (Answers Settled) h = record { cells = h.cells; processes = length-set r.values e.process (answered e) ∙ h.processes }
reports_kept layout r e (Answers (Unsettled place w)) h = h

module _ (v : WorldValue) (g : IsGood v) (p : ℕ) (e : PlainShowCall) (at : IsShowing v p e) where
  pub low : p < v.sheet.layout.processes
  low = let t = at.there in let s = g.situations in omega arith

  fits : ShowFits (world_of v) p e
  fits = subst (λ (x : Situation). CallFits (world_of v) p x) at.is (g.sound.calls p low)

  pub mine : e.process ≡ p
  mine = fits.1.mine

  here : (world_of v).situation e.process ≡ Showing e
  here = ap (λ q. (world_of v).situation q) mine ∙ at.is

  low_own : e.process < v.sheet.layout.processes
  low_own = rw mine low

  -- its access can be performed
  pub perform_at : CanPerform v.sheet.layout (memory v.sheet) p (access_at e.stage)
  perform_at = subst (λ (q : ℕ). CanPerform v.sheet.layout (memory v.sheet) q (access_at e.stage)) mine (accesses e (world_of v) g.sound low_own here)

  -- there is a show of its process, of as many cells
  pub keeps_there : e.process < length v.reports.values
  keeps_there = let l = low_own in let s = g.reports.processes in omega arith

  pub keeps_cells : v.reports.cells ≡ e.cells
  keeps_cells = g.reports.cells ∙ fits.1.cells

  -- it can be counted
  one_less : (s : Situation) → shows_under_way (set v.situations p s) + 1 ≡ shows_under_way v.situations + reports_in s
  one_less s = let h = after_set v.situations p s (Idle first_rest) at.there in let was = ap reports_in at.is in omega arith

  pub can_count : v.settled < SETTLED_MOST
  can_count = let h = one_less (Idle first_rest) in let c = g.counts in omega arith

  module _ (word : ℕ) (sheet : SheetValue) (layout : sheet.layout ≡ v.sheet.layout) (performs : PerformsAt (access_at e.stage) p (memory v.sheet) (memory sheet) word) where
    -- the world after the step
    pub next : WorldValue
    next = record v {
      sheet = sheet;
      situations = set v.situations p (after e e.stage word);
      settled = v.settled + settled_by (effect_at e.stage);
      reports = reports_by v.reports e (effect_at e.stage);
    }

    pub steps : Steps e word (world_of v) (world_of next)
    unfolding next
    steps = record {
      layout = layout;
      memory = subst (λ (q : ℕ). PerformsAt (access_at e.stage) q (memory v.sheet) (memory sheet) word) (sym mine) performs;
      situation = ap (λ q. get_or (set v.situations p (after e e.stage word)) q (Idle first_rest)) mine ∙ get_or-set_same v.situations p (after e e.stage word) (Idle first_rest) at.there;
      others = λ q ne. get_or-set_other v.situations p q (after e e.stage word) (Idle first_rest) (λ same. ne (same ∙ sym mine));
      counted = refl;
      open_edits = λ q. refl;
    }

    pub next_kept : (room : ℕ) → IsReserved v room → IsReserved next room
    unfolding next
    next_kept room kept = record {
      good = record {
        sound = (steps_keep e word (world_of v) (world_of next) g.sound low_own here steps).sound;
        situations = length-set v.situations p (after e e.stage word) ∙ g.situations ∙ ap (λ (l : Layout). l.processes) (sym layout);
        open_edits = g.open_edits ∙ ap (λ (l : Layout). l.processes) (sym layout);
        reports = reports_kept sheet.layout v.reports e (effect_at e.stage) (rw layout g.reports);
        answered = g.answered;
        counts = (let h = one_less (after e e.stage word) in let k = settles_one e e.stage word in let c = g.counts in omega arith);
      };
      reserved = (let same = ap (λ (l : Layout). l.processes) layout in let r = kept.reserved in omega arith);
    }

    pub next_takes : (what : Turn ShowEnd) → what ≡ effect_at e.stage → StepsBy v p what next
    unfolding next
    next_takes what is = record {
      there = low;
      show = e;
      mine = mine;
      at = at.is;
      word = word;
      steps = steps;
      is = is;
      done = refl;
      settled = ap (λ (w : Turn ShowEnd). v.settled + settled_by w) (sym is);
      reports = ap (λ (w : Turn ShowEnd). reports_by v.reports e w) (sym is);
    }

    -- a world of these parts is that world
    pub next_is : (situation : Situation) (settled : ℕ) (reports : PlainReports)
        → situation ≡ after e e.stage word → settled ≡ v.settled + settled_by (effect_at e.stage) → reports ≡ reports_by v.reports e (effect_at e.stage)
        → (let w : WorldValue = record v { sheet = sheet; situations = set v.situations p situation; settled = settled; reports = reports } in w) ≡ next
    unfolding next
    next_is situation settled reports a b c =
        let made : Situation → ℕ → PlainReports → WorldValue = λ s n r. record v { sheet = sheet; situations = set v.situations p s; settled = n; reports = r } in
        ap (λ s. made s settled reports) a
        ∙ ap (λ n. made (after e e.stage word) n reports) b
        ∙ ap (λ r. made (after e e.stage word) (v.settled + settled_by (effect_at e.stage)) r) c
