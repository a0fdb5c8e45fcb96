use Rattle.std.proofs.Common.{rules, w64, to_z, of_z, ◌≡◌, ◌∙◌}
use Rattle.ds_eval.specs.CodeSteps.{floor_mod}
use Rattle.ds_eval.proofs.Division.{floor_mod_is}
use Rattle.ds_eval.proofs.arithmetic.remainder.Goals as goal

pub returns : goal.returns
returns c =
    let e : to_z w64 (of_z w64 c.signed_size.result) ≡ floor_mod c.args.a c.args.b = search rules in
    e ∙ floor_mod_is _ _ c.requires
