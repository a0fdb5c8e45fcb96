use Rattle.std.proofs.Common.{rules, ◌≡◌, ◌∙◌, ◌<◌, true, false, length, slice_index_or, sym}
use native.Mathlib.Numerals.{unary_clauses}
use Rattle.std.specs.Str.{bytes_eq}
use Rattle.ds_script.specs.Orders.{all_points}
use Rattle.ds_script.specs.Points.{name_of_point}
use Rattle.ds_script.specs.declared.point.PointName.TheVariants.{Written}
use Rattle.ds_script.proofs.Naming.{found, none, passed}
use Rattle.ds_script.proofs.order.point.Goals as goal

pub returns-then-eq : goal.returns-then-eq
returns-then-eq c =
    let is : bytes_eq c.args.word.now (name_of_point (slice_index_or all_points c.loop-name.name-index Written)) ≡ true = search rules in
    let low : c.loop-name.name-index < length all_points = search rules in
    sym (c.loop-name.invariant ∙ found name_of_point all_points c.loop-name.name-index Written c.args.word.now low is)

pub loop-name-preserved : goal.loop-name-preserved
loop-name-preserved c =
    let is : bytes_eq c.args.word.now (name_of_point (slice_index_or all_points c.loop-name.name-index Written)) ≡ false = search rules in
    let low : c.loop-name.name-index < length all_points = search rules in
    simp unary_clauses (c.loop-name.invariant ∙ passed name_of_point all_points c.loop-name.name-index Written c.args.word.now low is)

pub returns : goal.returns
returns c = sym (c.loop-name.invariant ∙ none name_of_point all_points c.loop-name.name-index c.args.word.now c.loop-name-test.false)
