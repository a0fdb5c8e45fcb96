use Rattle.std.proofs.Common.{◌≡◌, ◌<◌, ◌≤◌, ◌∙◌, List, arith, length, sym, subst, true≢false}
use Rattle.std.specs.Prelude.{All}
use Rattle.std.proofs.lemmas.List.{take_all}
use Rattle.std.proofs.lemmas.List.Elements.{All-more}
use Rattle.ds_layout.specs.declared.place.Place.{Place}
use Rattle.ds_trace_scene.proofs.texts.number_of.Goals as goal

pub loop-number-preserved : goal.loop-number-preserved
loop-number-preserved c =
    let len = c.len-number-end.ensures in
    let test = c.loop-number-test.true in
    let low : c.loop-number.number < length c.args.trace.now.places.items = omega (arith, len, test) in
    All-more (λ (other : Place). other ≡ c.args.place → ⊥) c.args.trace.now.places.items c.loop-number.number c.index.result.now low c.loop-number.invariant
    (λ same. true≢false (sym (c.are_same.ensures.1 (c.index.ensures ∙ same)) ∙ c.if-are_same.false))

pub returns-clause-none : goal.returns-clause-none
returns-clause-none c = λ none.
    let len = c.len-number-end.ensures in
    let test = c.loop-number-test.false in
    let past : length c.args.trace.now.places.items ≤ c.loop-number.number = omega (arith, len, test) in
    subst (λ (places : List Place). All (λ (other : Place). other ≡ c.args.place → ⊥) places) (take_all c.loop-number.number c.args.trace.now.places.items past) c.loop-number.invariant
