use Rattle.std.proofs.Common.{◌≡◌, take, map}
use Rattle.ds_client.specs.AnswerLines.{byte_in_line}
use Rattle.ds_client.proofs.answer.in_line.Given as goal

abbrev pub invariant-loop-byte : goal.invariant-loop-byte
invariant-loop-byte l = l.shown.items ≡ map byte_in_line (take l.byte-index l.text)
