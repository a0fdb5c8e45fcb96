use Rattle.std.proofs.Common.{sym, ◌∙◌, subst, inl, ⊎_elim, rules}
use Rattle.pm_base.specs.Structures.{In}
use Rattle.pm_explore.proofs.Lists.{in_at, in_pushed}
use Rattle.pm_explore.proofs.position.tell.Goals as goal

pub returns-then-same_told : goal.returns-then-same_told
returns-then-same_told g c = λ y. (λ i. inl i, λ either. ⊎_elim (λ i. i) (λ is. subst (In c.args.list.now.items) (sym (is ∙ c.same_told.ensures c.if-same_told.true)) (in_at c.args.list.now.items c.loop-i.i c.index.result.now (search rules) c.index.ensures)) either)

pub returns : goal.returns
returns g c = λ y. rw c.in_ok-push.ensures.items (in_pushed c.args.list.now.items c.args.told y)
