use Rattle.std.proofs.Common.{◌∙◌}
use Rattle.ds_explore.specs.Judging.{texts_of}
use Rattle.ds_explore.proofs.Telling.{among_of}
use Rattle.ds_explore.proofs.among.OutcomesEndings.number.Goals as goal

pub returns : goal.returns
returns c =
    among_of c.number_in.result c.args.self.now.judge.now (texts_of c.args.self.now.keys.now) c.args.position.now c.args.crashed c.in_ok-found.found c.deref.result.now c.in_ok-found.ensures (c.deref.ensures.value ∙ c.in_ok-key.ensures) c.number_in.ensures
