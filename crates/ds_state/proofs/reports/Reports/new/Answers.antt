use Rattle.std.proofs.Common.{ℕ, ◌≡◌, ◌≤◌, List, [], refl, ap, ◌∙◌, arith, replicate}
use Rattle.std.specs.Vec.{vec_capacity}
use Rattle.std.proofs.lemmas.List.Elements.{All-nil}
use Rattle.ds_eval.specs.declared.value.Value.{Value}
use Rattle.ds_state.specs.Reports.{PlainReports}
use Rattle.ds_state.proofs.ShowRooms.{one_more}
use Rattle.ds_state.proofs.reports.Reports.new.Goals as goal

pub loop-init : goal.loop-init
loop-init c = rw c.in_ok-values.ensures.items (refl, All-nil (λ (k : ℕ). c.args.cells ≤ k))

pub loop-preserved : goal.loop-preserved
loop-preserved c =
    one_more (λ v. v.items) (λ v. vec_capacity v) c.loop.values.items c.push.new.self.items c.in_ok-with_capacity.field-0 c.loop.counter c.args.cells
    c.in_ok-push.ensures.items c.loop.invariant.0 c.loop.invariant.1 c.in_ok-with_capacity.ensures.items c.in_ok-with_capacity.ensures.capacity

pub invariant_of-result : goal.invariant_of-result
invariant_of-result c = c.loop.invariant.1

pub returns : goal.returns
returns c = let counter : c.loop.counter ≡ c.args.processes = omega arith in
    ap (λ (vs : List (List Value)). let r : PlainReports = record { cells = c.args.cells; values = vs } in r) (c.loop.invariant.0 ∙ ap (λ (n : ℕ). replicate n []) counter)
