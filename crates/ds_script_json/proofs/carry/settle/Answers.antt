use Rattle.ds_calls.specs.declared.settle.SettleStage.TheVariants.{Ends}
use Rattle.ds_script.proofs.Settles.{settling_leads}
use Rattle.ds_script_json.proofs.carry.settle.Goals as goal

pub returns-clause-played : goal.returns-clause-played
returns-clause-played c = settling_leads c.args.process c.args.world.now (Ends c.settle.result) c.settle.new.world c.settle.ensures.settles
