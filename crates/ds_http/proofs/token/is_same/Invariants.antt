use Rattle.std.proofs.Common.{◌≡◌, take}
use Rattle.std.specs.Prelude.{Decides}
use Rattle.ds_http.proofs.token.is_same.Given as goal

abbrev pub invariant-loop-at : goal.invariant-loop-at
invariant-loop-at l = Decides l.same (take l.at l.word ≡ take l.at l.token)
