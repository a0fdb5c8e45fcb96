use Rattle.std.specs.Str.Parse.{ParsesBool}
use Rattle.clap.specs.Words.{found_of}
use Rattle.ds_cli.proofs.Matched.{flag_of}
use Rattle.ds_cli.proofs.exploring.is_set.Goals as goal

pub returns : goal.returns
returns c = flag_of (λ t r. ParsesBool t r) (λ t r h. h) (found_of c.args.found.now) c.args.name.now c.get_one.result c.eq.result c.get_one.ensures.none c.get_one.ensures.value c.eq.ensures
