use Rattle.std.proofs.Common.{List, sym, subst, true≢false, ◌∙◌, ◌++◌, ◌∷◌, []}
use Rattle.std.specs.Prelude.{Contains}
use Rattle.ds_layout.specs.declared.place.Place.{Place}
use Rattle.ds_trace.specs.Traces.{AreFirsts}
use Rattle.ds_trace.proofs.Firsts.{firsts_again, firsts_new}
use Rattle.ds_trace.proofs.trace.add.Goals as goal

pub returns-then-is_one_of : goal.returns-then-is_one_of
returns-then-is_one_of c = λ names h.
    firsts_again names c.args.place c.args.places.now.items h
    (subst (λ (l : List Place). Contains l c.args.place) c.deref.ensures.value (c.is_one_of.ensures.0 c.if-is_one_of.true))

pub returns : goal.returns
returns c = λ names h.
    subst (λ (l : List Place). AreFirsts (names ++ c.args.place ∷ []) l) (sym c.in_ok-push.ensures.items)
    (firsts_new names c.args.place c.args.places.now.items h
    (λ there. true≢false (sym (c.is_one_of.ensures.1 (subst (λ (l : List Place). Contains l c.args.place) (sym c.deref.ensures.value) there)) ∙ c.if-is_one_of.false)))
