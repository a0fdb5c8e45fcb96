use Rattle.std.proofs.Common.{refl}
use Rattle.clap.specs.Words.{found_of}
use Rattle.ds_cli.proofs.Matched.{none_of, text_of}
use Rattle.ds_cli.proofs.command_line.value_of.Goals as goal

pub returns-in-Some-clause-named : goal.returns-in-Some-clause-named
returns-in-Some-clause-named c = text_of (found_of c.args.found.now) c.args.name.now c.get_str.result c.in-Some.value c.get_str.ensures c.in-Some.is

pub returns-in-None-clause-none : goal.returns-in-None-clause-none
returns-in-None-clause-none c = (refl, none_of (found_of c.args.found.now) c.args.name.now c.get_str.result c.get_str.ensures c.in-None.is)
