use Rattle.std.proofs.Common.{ℕ, List, ◌∙◌, ap, subst, sym, true≢false}
use Rattle.std.specs.Prelude.{All, nat_eq}
use Rattle.std.specs.Global.{Vec}
use Rattle.std.specs.List.{ends_with}
use Rattle.ds_explore.specs.Judging.{IsPart, texts_of}
use Rattle.ds_explore.proofs.Telling.{ends_so}
use Rattle.ds_explore.proofs.outcomes.Finding.is_in.Goals as goal

pub returns-then-contains_all : goal.returns-then-contains_all
returns-then-contains_all c = (
  (λ yes. (
    subst (λ (parts : List (Vec ℕ)). All (IsPart c.args.answers.now) (texts_of parts)) c.deref.ensures.value (c.contains_all.ensures.0 c.if-contains_all.true),
    ends_so c.args.answers.now c.deref-then-contains_all.result.now c.args.self.now.tail.items c.ends_with.result c.deref-then-contains_all.ensures.value c.ends_with.ensures.value yes,
  )),
  (λ answers. c.ends_with.ensures.value ∙ ap (λ (t : List ℕ). ends_with nat_eq c.args.answers.now t) c.deref-then-contains_all.ensures.value ∙ answers.1),
)

pub returns-else-contains_all : goal.returns-else-contains_all
returns-else-contains_all c = (
  (λ yes. absurd (true≢false (sym yes ∙ c.if-contains_all.false))),
  (λ answers. c.contains_all.ensures.1 (subst (λ (parts : List (Vec ℕ)). All (IsPart c.args.answers.now) (texts_of parts)) (sym c.deref.ensures.value) answers.0)),
)
