use Rattle.std.proofs.Common.{IsTrue, ℕ, ◌≤◌, arith, subst}
use Rattle.ds_server.specs.declared.desk.CallRefusal.{CallRefusal}
use Rattle.ds_server.specs.DeskCalls.{Join}
use Rattle.ds_server.specs.Replies.{Refused}
use Rattle.ds_http.specs.Taking.{begins, next_of}
use Rattle.ds_http.proofs.Takings.{all_tried, none_next, one_more, one_refused, one_taken}
use Rattle.ds_http.proofs.taking.take_process.Goals as goal

pub loop-tried-init : goal.loop-tried-init
loop-tried-init g c = record { tried = begins; processes = c.processes-processes.ensures }

pub returns-in-Ok-clause-takes : goal.returns-in-Ok-clause-takes
returns-in-Ok-clause-takes g c =
    one_taken g.B.Desk.rules c.args.desk.now c.loop-tried.desk c.join.new.self c.processes-processes.result c.loop-tried.tried c.in-Ok._last c.loop-tried.invariant.processes c.loop-tried.invariant.tried c.in-Ok.ensures.does

pub returns-clause-takes : goal.returns-clause-takes
returns-clause-takes g c =
    all_tried g.B.Desk.rules c.args.desk.now c.loop-tried.desk c.processes-processes.result c.loop-tried.tried c.loop-tried.invariant.processes (omega (arith, c.loop-tried-test.false)) c.loop-tried.invariant.tried

pub returns-then-process-processes-clause-takes : goal.returns-then-process-processes-clause-takes
returns-then-process-processes-clause-takes g c =
    none_next g.B.Desk.rules c.args.desk.now c.loop-tried.desk c.processes-processes.result c.loop-tried.tried c.loop-tried.invariant.processes
    (subst (λ (n : ℕ). n ≤ next_of c.processes-processes.result c.loop-tried.tried) c.processes.ensures (omega (arith, c.if-process-processes.true))) c.loop-tried.invariant.tried

pub returns-then-not-is_taken-clause-takes : goal.returns-then-not-is_taken-clause-takes
returns-then-not-is_taken-clause-takes g c =
    one_refused g.B.Desk.rules c.args.desk.now c.loop-tried.desk c.join.new.self c.processes-processes.result c.loop-tried.tried c.in-Err.why c.loop-tried.invariant.processes
    (λ taken. let yes : IsTrue c.is_taken.result = c.is_taken.ensures.1 taken in cc (yes, c.if-not-is_taken.true)) c.loop-tried.invariant.tried c.in-Err.ensures.does

pub loop-tried-preserved : goal.loop-tried-preserved
loop-tried-preserved g c =
    let yes : IsTrue c.is_taken.result = cc (c.if-not-is_taken.false) in record {
      tried = one_more g.B.Desk.rules c.args.desk.now c.loop-tried.desk c.join.new.self c.processes-processes.result c.loop-tried.tried c.loop-tried.invariant.processes c.loop-tried.invariant.tried
          (subst (λ (why : CallRefusal). g.B.Desk.rules.does c.loop-tried.desk (Join (next_of c.processes-processes.result c.loop-tried.tried)) (Refused why) c.join.new.self) (c.is_taken.ensures.0 yes) c.in-Err.ensures.does);
      processes = c.loop-tried.invariant.processes;
    }
