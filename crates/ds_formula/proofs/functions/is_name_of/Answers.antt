use Rattle.std.proofs.lemmas.Bool.Decides.{same_from_decides}
use Rattle.std.specs.Cmp.Lexicographic.{bytes_decides}
use Rattle.ds_formula.proofs.functions.is_name_of.Goals as goal

pub returns : goal.returns
returns c = rw (c.as_bytes.ensures.value, c.name-wanted.ensures) at (same_from_decides _ _ c.eq_ignore_ascii_case.ensures.test (bytes_decides _ _))
