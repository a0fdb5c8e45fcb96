use Rattle.std.proofs.Common.{◌∙◌, ap, codes, inl, inr, Some}
use Rattle.clap.specs.Words.{found_of}
use Rattle.ds_cli.proofs.Matched.{none_of, text_of}
use Rattle.ds_cli.proofs.inputs.input_of.Goals as goal

pub returns-in-Some-text : goal.returns-in-Some-text
returns-in-Some-text c = inr (text_of (found_of c.args.found.now) (codes "file") c.get_str.result c.in-Some-text.field-0 c.get_str.ensures c.in-Some-text.is ∙ ap Some c.in-Some-text.is-text)

pub returns-in-Some : goal.returns-in-Some
returns-in-Some c = (text_of (found_of c.args.found.now) (codes "file") c.get_str.result c.in-Some.path c.get_str.ensures c.in-Some.is, c.in-Some.not-text)

pub returns-in-None : goal.returns-in-None
returns-in-None c = inl (none_of (found_of c.args.found.now) (codes "file") c.get_str.result c.get_str.ensures c.in-None.is)
