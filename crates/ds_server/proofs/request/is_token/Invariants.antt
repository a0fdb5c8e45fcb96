use Rattle.std.proofs.Common.{◌≡◌, take}
use Rattle.std.specs.Prelude.{Decides}
use Rattle.ds_server.proofs.request.is_token.Given as goal

abbrev pub invariant-loop-at : goal.invariant-loop-at
invariant-loop-at l = Decides l.same (take l.at l.word ≡ take l.at l.token)
