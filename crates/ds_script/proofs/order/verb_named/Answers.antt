use Rattle.std.proofs.Common.{rules, ◌≡◌, ◌∙◌, ◌<◌, true, false, length, slice_index_or, sym}
use native.Mathlib.Numerals.{unary_clauses}
use Rattle.std.specs.Str.{bytes_eq}
use Rattle.ds_script.specs.Orders.{all_verbs, name_of_verb}
use Rattle.ds_script.specs.declared.order.Verb.TheVariants.{Sheet}
use Rattle.ds_script.proofs.Naming.{found, none, passed}
use Rattle.ds_script.proofs.order.verb_named.Goals as goal

pub returns-then-eq : goal.returns-then-eq
returns-then-eq c =
    let is : bytes_eq c.args.word.now (name_of_verb (slice_index_or all_verbs c.loop-verb.verb-index Sheet)) ≡ true = search rules in
    let low : c.loop-verb.verb-index < length all_verbs = search rules in
    sym (c.loop-verb.invariant ∙ found name_of_verb all_verbs c.loop-verb.verb-index Sheet c.args.word.now low is)

pub loop-verb-preserved : goal.loop-verb-preserved
loop-verb-preserved c =
    let is : bytes_eq c.args.word.now (name_of_verb (slice_index_or all_verbs c.loop-verb.verb-index Sheet)) ≡ false = search rules in
    let low : c.loop-verb.verb-index < length all_verbs = search rules in
    simp unary_clauses (c.loop-verb.invariant ∙ passed name_of_verb all_verbs c.loop-verb.verb-index Sheet c.args.word.now low is)

pub returns : goal.returns
returns c = sym (c.loop-verb.invariant ∙ none name_of_verb all_verbs c.loop-verb.verb-index c.args.word.now c.loop-verb-test.false)
