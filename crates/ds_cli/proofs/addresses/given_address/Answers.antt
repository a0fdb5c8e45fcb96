use Rattle.clap.specs.Words.{found_of}
use Rattle.ds_cli.proofs.Matched.{no_address_of, none_of, text_of}
use Rattle.ds_cli.proofs.addresses.given_address.Goals as goal

pub returns-in_default-clause-some : goal.returns-in_default-clause-some
returns-in_default-clause-some c = none_of (found_of c.args.matches.now) c.args.name.now c.get_str.result c.get_str.ensures c.in_default.is

pub returns-in-Ok-clause-some : goal.returns-in-Ok-clause-some
returns-in-Ok-clause-some c = record {
  text = c.in-Some.text.now;
  has = text_of (found_of c.args.matches.now) c.args.name.now c.get_str.result c.in-Some.text c.get_str.ensures c.in-Some.is;
  spells = c.in-Ok.ensures.value;
}

pub returns-in-Err-clause-none : goal.returns-in-Err-clause-none
returns-in-Err-clause-none c = λ e. record {
  text = c.in-Some.text.now;
  has = text_of (found_of c.args.matches.now) c.args.name.now c.get_str.result c.in-Some.text c.get_str.ensures c.in-Some.is;
  none = no_address_of (found_of c.args.matches.now) c.args.name.now c.get_str.result c.in-Some.text c.get_str.ensures c.in-Some.is c.in-Err.ensures.value;
}
