use Rattle.std.proofs.Common.{rules, sym, ◌∙◌}
use Rattle.std.proofs.lemmas.Result.{err_from_is_err_and}
use Rattle.std.proofs.lemmas.List.{map_push}
use Rattle.ds_formula.specs.Forms.{leaf, sign, group, call}
use Rattle.ds_formula.proofs.Views.{formula_call}
use Rattle.ds_formula.proofs.Steps.{operator_here, none_here, semicolon_here, no_semicolon, close_here, lead_as}
use Rattle.ds_formula.proofs.Parses.{lead_refused, climb_first, climb_more, climb_done, climb_refused, sign_refused, group_refused, group_unclosed, call_refused}
use Rattle.ds_formula.proofs.Calls.{arguments_first, arguments_more, arguments_done, arguments_refused, call_done, call_no_bracket, call_empty, call_arguments_refused, call_unclosed, call_wrong, takes_is}
use Rattle.ds_formula.proofs.parser.+parser.Goals as goal

pub arguments-loop-after-init : goal.arguments-loop-after-init
arguments-loop-after-init t c =
    rw (c.in_ok-push.ensures.items, c.new-trees.ensures.items, c.as_argument-ranges.ensures) (arguments_first _ _ _ _ _ _ c.in_ok-first.ensures.found c.in_ok-first.ensures.shorter)

pub arguments-returns-in_err-next-clause-refused :
    goal.arguments-returns-in_err-next-clause-refused
arguments-returns-in_err-next-clause-refused t c =
    let p = err_from_is_err_and c.from_residual-in_err-next.result c.from_residual-in_err-next.ensures.1 in
    rw (p.1, p.2) (arguments_refused _ _ _ _ _ _ _ _ c.loop-after.invariant (semicolon_here _ _ c.in-Some.ensures.is) c.in_err-next.ensures.refused)

pub arguments-loop-after-preserved : goal.arguments-loop-after-preserved
arguments-loop-after-preserved t c =
    rw (c.in_ok-push-2.ensures.items, map_push, c.first_of-ranges.ensures, c.as_argument.ensures)
    (arguments_more _ _ _ _ _ _ _ _ _ _ c.loop-after.invariant (semicolon_here _ _ c.in-Some.ensures.is) c.in-Some.ensures.shorter c.in_ok-next.ensures.found c.in_ok-next.ensures.shorter)

pub arguments-returns-clause-found : goal.arguments-returns-clause-found
arguments-returns-clause-found t c = arguments_done _ _ _ _ _ _ c.loop-after.invariant (no_semicolon _ c.in_default.ensures.is)

pub call-returns-in_err-rest-clause-refused : goal.call-returns-in_err-rest-clause-refused
call-returns-in_err-rest-clause-refused t c =
    let p = err_from_is_err_and c.from_residual.result c.from_residual.ensures.1 in
    rw (p.1, p.2) (call_no_bracket _ _ _ _ _ (rw c.skip.ensures.is at c.in_err-rest.ensures.is))

pub call-returns-then-begins-clause-refused : goal.call-returns-then-begins-clause-refused
call-returns-then-begins-clause-refused t c = call_empty _ _ _ _ _ (rw c.skip.ensures.is at c.in_ok-rest.ensures.is) (sym (rw c.skip-2.ensures.is at c.if-begins.ensures))

pub call-returns-in_err-trees-clause-refused : goal.call-returns-in_err-trees-clause-refused
call-returns-in_err-trees-clause-refused t c =
    let p = err_from_is_err_and c.from_residual-in_err-trees.result c.from_residual-in_err-trees.ensures.1 in
    rw (p.1, p.2) (call_arguments_refused _ _ _ _ _ _ (rw c.skip.ensures.is at c.in_ok-rest.ensures.is) (sym (rw c.skip-2.ensures.is at c.if-begins.ensures)) c.in_err-trees.ensures.refused)

pub call-returns-in_err-rest-2-clause-refused : goal.call-returns-in_err-rest-2-clause-refused
call-returns-in_err-rest-2-clause-refused t c =
    let p = err_from_is_err_and c.from_residual-in_err-rest-2.result c.from_residual-in_err-rest-2.ensures.1 in
    rw (p.1, p.2) (call_unclosed _ _ _ _ _ _ _ _ _ (rw c.skip.ensures.is at c.in_ok-rest.ensures.is) c.in_ok-trees.ensures.found c.in_err-rest-2.ensures.is)

pub call-returns-then-not-takes-clause-refused : goal.call-returns-then-not-takes-clause-refused
call-returns-then-not-takes-clause-refused t c =
    call_wrong _ _ _ _ _ _ _ _ _ (rw c.skip.ensures.is at c.in_ok-rest.ensures.is) c.in_ok-trees.ensures.found (close_here _ _ c.in_ok-rest-2.ensures.is) (takes_is c.args.function c.in_ok-trees.trees.items _ c.takes.result c.takes.ensures (search rules) ∙ c.if-not-takes.true)

pub call-returns-clause-found : goal.call-returns-clause-found
call-returns-clause-found t c =
    call_done _ _ _ _ _ _ _ _ (rw c.skip.ensures.is at c.in_ok-rest.ensures.is) c.in_ok-trees.ensures.found (close_here _ _ c.in_ok-rest-2.ensures.is) (takes_is c.args.function c.in_ok-trees.trees.items _ c.takes.result c.takes.ensures (search rules) ∙ c.if-not-takes.false)

pub level-loop-operator-init : goal.level-loop-operator-init
level-loop-operator-init t c = climb_first _ _ _ _ _ _ c.requires c.in_ok-left.ensures.found c.in_ok-left.ensures.shorter

pub level-returns-in_err-right-clause-refused : goal.level-returns-in_err-right-clause-refused
level-returns-in_err-right-clause-refused t c =
    let p = err_from_is_err_and c.from_residual-in_err-right.result c.from_residual-in_err-right.ensures.1 in
    rw (p.1, p.2) (climb_refused _ _ _ _ _ _ _ _ _ c.loop-operator.invariant (operator_here _ _ _ _ c.in-Some.ensures.is) c.in_err-right.ensures.refused)

pub level-loop-operator-preserved : goal.level-loop-operator-preserved
level-loop-operator-preserved t c =
    rw (c.in_ok-left-2.ensures.tree, c.in_ok-left-2.ensures.ranges)
    (climb_more _ _ _ _ _ _ _ _ _ _ _ c.loop-operator.invariant (operator_here _ _ _ _ c.in-Some.ensures.is) c.in-Some.ensures.shorter (rw c.level_of.ensures.value at c.in_ok-right.ensures.found) c.in_ok-right.ensures.shorter)

pub level-returns-clause-found : goal.level-returns-clause-found
level-returns-clause-found t c = climb_done _ _ _ _ _ _ c.loop-operator.invariant (none_here _ _ c.in_default.ensures.is)

pub operand-returns-in_err-lead-clause-refused : goal.operand-returns-in_err-lead-clause-refused
operand-returns-in_err-lead-clause-refused t c =
    let p = err_from_is_err_and c.from_residual.result c.from_residual.ensures.1 in
    rw (p.1, p.2) (lead_refused _ _ _ c.in_err-lead.ensures.is)

pub operand-returns-in_err-inner-in-Prefix-clause-refused :
    goal.operand-returns-in_err-inner-in-Prefix-clause-refused
operand-returns-in_err-inner-in-Prefix-clause-refused t c =
    let p = err_from_is_err_and c.from_residual-in_err-inner-in-Prefix.result c.from_residual-in_err-inner-in-Prefix.ensures.1 in
    rw (p.1, p.2) (sign_refused _ _ _ _ _ (lead_as _ _ _ _ _ c.in_ok-lead.ensures.is c.in-Prefix.is) c.in_err-inner-in-Prefix.ensures.refused)

pub operand-returns-in_err-inner-in-Open-clause-refused :
    goal.operand-returns-in_err-inner-in-Open-clause-refused
operand-returns-in_err-inner-in-Open-clause-refused t c =
    let p = err_from_is_err_and c.from_residual-in_err-inner-in-Open.result c.from_residual-in_err-inner-in-Open.ensures.1 in
    rw (p.1, p.2) (group_refused _ _ _ _ (lead_as _ _ _ _ _ c.in_ok-lead.ensures.is c.in-Open.is) c.in_err-inner-in-Open.ensures.refused)

pub operand-returns-in_err-rest-in-Open-clause-refused :
    goal.operand-returns-in_err-rest-in-Open-clause-refused
operand-returns-in_err-rest-in-Open-clause-refused t c =
    let p = err_from_is_err_and c.from_residual-in_err-rest-in-Open.result c.from_residual-in_err-rest-in-Open.ensures.1 in
    rw (p.1, p.2) (group_unclosed _ _ _ _ _ _ _ (lead_as _ _ _ _ _ c.in_ok-lead.ensures.is c.in-Open.is) c.in_ok-inner-in-Open.ensures.found c.in_err-rest-in-Open.ensures.is)

pub operand-returns-in_err-trees-in-Name-clause-refused :
    goal.operand-returns-in_err-trees-in-Name-clause-refused
operand-returns-in_err-trees-in-Name-clause-refused t c =
    let p = err_from_is_err_and c.from_residual-in_err-trees-in-Name.result c.from_residual-in_err-trees-in-Name.ensures.1 in
    rw (p.1, p.2) (call_refused _ _ _ _ _ _ (lead_as _ _ _ _ _ c.in_ok-lead.ensures.is c.in-Name.is) c.in_err-trees-in-Name.ensures.refused)

pub operand-returns-in-Leaf-clause-found : goal.operand-returns-in-Leaf-clause-found
operand-returns-in-Leaf-clause-found t c = rw (c.of_leaf.ensures.tree, c.of_leaf.ensures.ranges) (leaf (sym (lead_as _ _ _ _ _ c.in_ok-lead.ensures.is c.in-Leaf.is)))

pub operand-returns-in_ok-signed-in-Prefix-clause-found :
    goal.operand-returns-in_ok-signed-in-Prefix-clause-found
operand-returns-in_ok-signed-in-Prefix-clause-found t c =
    rw (c.in_ok-signed-in-Prefix.ensures.tree, c.in_ok-signed-in-Prefix.ensures.ranges) (sign (sym (lead_as _ _ _ _ _ c.in_ok-lead.ensures.is c.in-Prefix.is)) c.in_ok-inner-in-Prefix.ensures.found)

pub operand-returns-in_ok-rest-in-Open-clause-found :
    goal.operand-returns-in_ok-rest-in-Open-clause-found
operand-returns-in_ok-rest-in-Open-clause-found t c =
    group (sym (lead_as _ _ _ _ _ c.in_ok-lead.ensures.is c.in-Open.is)) c.in_ok-inner-in-Open.ensures.found (close_here _ _ c.in_ok-rest-in-Open.ensures.is)

pub operand-returns-in_ok-trees-in-Name-clause-found :
    goal.operand-returns-in_ok-trees-in-Name-clause-found
operand-returns-in_ok-trees-in-Name-clause-found t c = rw formula_call (call (sym (lead_as _ _ _ _ _ c.in_ok-lead.ensures.is c.in-Name.is)) c.in_ok-trees-in-Name.ensures.found)
