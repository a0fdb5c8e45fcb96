use Rattle.std.proofs.Common.{subst, List, OnOk}
use Rattle.http1.specs.Fields.{Header}
use Rattle.ds_http.specs.declared.problem.Problem.TheVariants as problems
use Rattle.ds_http.specs.Bodies.{Refuses}
use Rattle.ds_http.proofs.Shaking.{agrees_by, refuses_by}
use Rattle.ds_http.proofs.handshake.shake.Goals as goal

pub returns-in-Err : goal.returns-in-Err
returns-in-Err c = refuses_by c.refuse.result c.args.headers.now c.refuse.new.response c.in-Some.key.now c.as_bytes.result.now c.in-Err.field-0 c.in-Some.ensures.value c.as_bytes.ensures.value c.in-Err.ensures
    (subst (λ (fields : List Header). OnOk c.refuse.result (Refuses fields problems.BadKey c.refuse.new.response)) c.requires.headers c.refuse.ensures)

pub returns : goal.returns
returns c = agrees_by c.agree.result c.args.headers.now c.agree.new.response c.in-Some.key.now c.in-Ok-from_bytes.accept c.as_bytes.result.now c.in-Ok.accept c.as_slice.result.now c.in-Some.ensures.value c.as_bytes.ensures.value c.in-Ok.ensures c.as_slice.ensures c.in-Ok-from_bytes.ensures.ok c.agree.ensures
