use Rattle.std.proofs.Common.{◌≡◌, List, sym, subst, Option, None}
use Rattle.std.specs.Prelude.{All}
use Rattle.ds_state.specs.World.{PlainIssue}
use Rattle.ds_state.specs.Value.{WorldValue, world_of}
use Rattle.ds_state.specs.Shown.{IsQuiet}
use Rattle.ds_state.proofs.Quiet.{quiet_by, answered_by}
use Rattle.ds_state.proofs.world.World.is_quiet.Goals as goal

pub returns-then-all_answered : goal.returns-then-all_answered
returns-then-all_answered c =
    let v : WorldValue = record { sheet = c.self.inside.words; situations = c.self.inside.situations.items; counted = c.self.inside.counted.items; open_edits = c.self.inside.open_edits.items; done = c.self.inside.done; settled = c.self.inside.settled; reports = c.self.inside.reports } in
    let none : All (λ issue. issue ≡ None) v.open_edits = subst (λ (xs : List (Option PlainIssue)). All (λ issue. issue ≡ None) xs) c.deref.ensures.value (c.all_answered.ensures.0 c.if-all_answered.true) in (
      λ clean. subst (λ (x : WorldValue). IsQuiet (world_of x)) c.self.view_is (quiet_by v c.self.invariant.good none (c.are_clean.ensures.0 clean)),
      λ quiet. c.are_clean.ensures.1 (subst (λ (x : WorldValue). IsQuiet (world_of x)) (sym c.self.view_is) quiet).clean,
    )

pub returns-else-all_answered : goal.returns-else-all_answered
returns-else-all_answered c =
    let v : WorldValue = record { sheet = c.self.inside.words; situations = c.self.inside.situations.items; counted = c.self.inside.counted.items; open_edits = c.self.inside.open_edits.items; done = c.self.inside.done; settled = c.self.inside.settled; reports = c.self.inside.reports } in (
      λ is. absurd (cc),
      λ quiet. c.all_answered.ensures.1 (subst (λ (xs : List (Option PlainIssue)). All (λ issue. issue ≡ None) xs) (sym c.deref.ensures.value)
          (answered_by v c.self.invariant.good (subst (λ (x : WorldValue). IsQuiet (world_of x)) (sym c.self.view_is) quiet))),
    )
