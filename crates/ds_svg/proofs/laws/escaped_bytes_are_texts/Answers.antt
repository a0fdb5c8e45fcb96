use Rattle.ds_svg.proofs.Texts.{texts}
use Rattle.ds_svg.proofs.laws.escaped_bytes_are_texts.Goals as goal

pub returns : goal.returns
returns c = texts
