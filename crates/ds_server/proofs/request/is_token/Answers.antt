use Rattle.std.proofs.Common.{arith}
use Rattle.ds_server.proofs.Tokens.{whole}
use Rattle.ds_server.proofs.request.is_token.Goals as goal

pub returns : goal.returns
returns c = whole c.args.word.now c.args.token.now c.loop-at.at c.loop-at.same (omega (arith, c.if-word-token.false, c.loop-at.auto.at-end, c.loop-at-test.false)) (omega (arith, c.loop-at.auto.at-end, c.loop-at-test.false)) c.loop-at.invariant
