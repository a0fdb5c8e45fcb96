use Rattle.std.proofs.Common.{List, ℕ}
use Rattle.ds_calls.specs.declared.settle.SettleStage.TheVariants.{Ends}
use Rattle.ds_script.specs.Doing.{end_text, settle}
use Rattle.ds_script.specs.Plays.{Played}
use Rattle.ds_script.proofs.Played.{answered}
use Rattle.ds_script.proofs.Settles.{settling_leads}
use Rattle.ds_script.proofs.settle.settle.Goals as goal

pub returns : goal.returns
returns c =
    answered c.end_bytes.result (end_text c.settle-end.new.world c.args.process c.settle-end.result) (λ (t : List ℕ). Played (settle c.args.world.now c.args.process) c.args.world.now t c.settle-end.new.world) c.end_bytes.ensures
    (settling_leads c.args.process c.args.world.now (Ends c.settle-end.result) c.settle-end.new.world c.settle-end.ensures.settles)
