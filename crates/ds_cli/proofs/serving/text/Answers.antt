use Rattle.clap.specs.Words.{found_of}
use Rattle.ds_cli.proofs.Matched.{text_is}
use Rattle.ds_cli.proofs.serving.text.Goals as goal

pub returns : goal.returns
returns c = text_is (found_of c.args.matches.now) c.args.name.now c.get_str.result c.get_str.ensures
