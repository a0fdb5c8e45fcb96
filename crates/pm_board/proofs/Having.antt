-- Each board, open or closed, has one run.
use Rattle.std.proofs.Common.{sym, ap, subst, ◌≡◌, ◌∙◌, ℕ, List, ◌++◌}
use Rattle.pm_base.specs.Structures.{In, Structure, IsStructure}
use Rattle.pm_base.specs.Runs.{Happened, Run, deeds_by, history_of}
use Rattle.pm_base.specs.declared.history.Deed.{Deed}
use Rattle.pm_base.specs.declared.history.Deed.TheVariants.{Response}
use Rattle.pm_base.proofs.Lists.{in_left, in_right}
use Rattle.pm_board.specs.declared.board.Seated.{Seated}
use Rattle.pm_board.specs.Rule.{Start, Closes, Witness, world_on, all_of, IsOrigin, AreTrue, DidSo, HasRun, OpenBoardsHaveRuns, ClosedBoardsHaveRuns}
use Rattle.pm_board.proofs.Dealt.{known_true}
use Rattle.pm_board.proofs.Histories.{did_both, run_all, holds_all}

module _ {K S T : Type 0} (s : Structure K S T) (key : K) (structure : IsStructure s key) where
  -- what a process was answered in a stretch it was answered in all that happened
  pub answered_in_all : (all : List (Happened s key)) (e : Seated S T) (t : T) → DidSo s key all e → In e.deeds.done (Response t) → In (deeds_by e.process (history_of s key all)) (Response t)
  answered_in_all all e t d inside =
      let here : In (deeds_by e.process (history_of s key d.stretch)) (Response t) = subst (λ (l : List (Deed S T)). In l (Response t)) d.done inside in
      let parts : deeds_by e.process (history_of s key all) ≡ deeds_by e.process (history_of s key d.since) ++ (deeds_by e.process (history_of s key d.stretch) ++ deeds_by e.process (history_of s key d.before)) =
      ap (λ (l : List (Happened s key)). deeds_by e.process (history_of s key l)) d.parts ∙ (did_both s key e.process d.since (d.stretch ++ d.before) ∙ ap (λ (l : List (Deed S T)). deeds_by e.process (history_of s key d.since) ++ l) (did_both s key e.process d.stretch d.before)) in
      subst (λ (l : List (Deed S T)). In l (Response t)) (sym parts) (in_right (deeds_by e.process (history_of s key d.since)) _ (Response t) (in_left (deeds_by e.process (history_of s key d.stretch)) (deeds_by e.process (history_of s key d.before)) (Response t) here))

  has_run : (words : List ℕ) (b : Witness s key) (known : List (Seated S T)) → IsOrigin s key b.origin → Run s key b.origin.opened b.happened (world_on s key words b) → AreTrue s key b known → HasRun s key words known
  has_run words b known from run true_of = record {
    first = b.origin.first;
    new = from.new;
    happened = all_of s key b;
    witness = b;
    run = run_all s key b.origin b.happened (world_on s key words b) from run;
    holds = holds_all s key structure b.origin b.happened (world_on s key words b) from run;
    did = λ e inside. (true_of e inside).was;
    responses = λ e t inside here. (holds_all s key structure b.origin b.happened (world_on s key words b) from run).responses e.process t (answered_in_all (all_of s key b) e t (true_of e inside).was here);
    saw = λ e seen inside is. (true_of e inside).saw seen is;
  }

  pub open_runs : OpenBoardsHaveRuns s key
  open_runs start t h j v at = has_run t.words h.witness (v.past ++ v.entries) h.from h.run (known_true s key start t h j v at)

  pub closed_runs : ClosedBoardsHaveRuns s key
  closed_runs words b past rests returned = has_run words b past rests.from rests.run returned

  pub closes_runs : (start : Start) (words : List ℕ) (entries past : List (Seated S T)) → Closes s key start words entries past → HasRun s key words past
  closes_runs start words entries past h = has_run words h.witness past h.rests.from h.rests.run h.responses
