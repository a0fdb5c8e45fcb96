use Rattle.std.proofs.Common.{◌∙◌, Bool, sym, ap}
use Rattle.std.specs.Prelude.{if◌then◌else◌}
use Rattle.ds_script.specs.declared.drive.Until.TheVariants.{ToPoint}
use Rattle.ds_script.specs.ScriptTexts.{at_text}
use Rattle.ds_script.specs.Doing.{Says, Drives}
use Rattle.ds_script.proofs.turn.to_point.Goals as goal

pub returns-then-has_come-clause-remains : goal.returns-then-has_come-clause-remains
returns-then-has_come-clause-remains c = (
  at_text c.args.process c.args.name,
  ap (λ (b : Bool). if b then Says (at_text c.args.process c.args.name) else Drives c.args.process (ToPoint c.args.name)) (sym c.has_come.ensures ∙ c.if-has_come.true),
)
