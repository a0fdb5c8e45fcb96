use Rattle.std.proofs.Common.{codes}
use Rattle.clap.specs.Words.{found_of}
use Rattle.ds_cli.proofs.Matched.{level_of, no_level_of, no_level_text, text_of}
use Rattle.ds_cli.proofs.serving.level.Goals as goal

pub returns-in-Ok-clause-some : goal.returns-in-Ok-clause-some
returns-in-Ok-clause-some c = record {
  text = c.in-Some.text.now;
  has = text_of (found_of c.args.matches.now) (codes "log") c.get_str.result c.in-Some.text c.get_str.ensures c.in-Some.is;
  names = level_of c.in-Some.text.now c.parse.result c.in-Ok.level c.parse.ensures.value c.in-Ok.is;
}

pub returns-in_default-clause-none : goal.returns-in_default-clause-none
returns-in_default-clause-none c = λ e. no_level_text (found_of c.args.matches.now) (codes "log") c.get_str.result c.get_str.ensures c.in_default.is

pub returns-in-Err-clause-none : goal.returns-in-Err-clause-none
returns-in-Err-clause-none c = λ e. no_level_of (found_of c.args.matches.now) (codes "log") c.get_str.result c.in-Some.text c.parse.result _ c.get_str.ensures c.in-Some.is c.parse.ensures.value c.in-Err.is
