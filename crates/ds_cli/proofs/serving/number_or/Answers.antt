use Rattle.std.proofs.Common.{inr, refl}
use Rattle.clap.specs.Words.{found_of}
use Rattle.ds_cli.proofs.Matched.{given_number, no_number_of, none_of, text_of}
use Rattle.ds_cli.proofs.serving.number_or.Goals as goal

pub returns-in-Some-clause-some : goal.returns-in-Some-clause-some
returns-in-Some-clause-some c = given_number (found_of c.args.matches.now) c.args.name.now c.in-Some.text.now c.args.default c.digits.result
    (text_of (found_of c.args.matches.now) c.args.name.now c.get_str.result c.in-Some.text c.get_str.ensures c.in-Some.is) c.digits.ensures.some

pub returns-in-Some-clause-none : goal.returns-in-Some-clause-none
returns-in-Some-clause-none c = λ e.
    let has = text_of (found_of c.args.matches.now) c.args.name.now c.get_str.result c.in-Some.text c.get_str.ensures c.in-Some.is in
    ((c.in-Some.text.now, has), no_number_of (found_of c.args.matches.now) c.args.name.now c.in-Some.text.now has (c.digits.ensures.none e))

pub returns-in-None-clause-some : goal.returns-in-None-clause-some
returns-in-None-clause-some c = inr (none_of (found_of c.args.matches.now) c.args.name.now c.get_str.result c.get_str.ensures c.in-None.is, refl)
