use Rattle.std.proofs.Common.{ℕ, ◌≡◌, ◌∙◌, [], Option, length, sym, subst, true, true≢false, vec_len}
use Rattle.std.specs.Prelude.{IfSome}
use Rattle.std.proofs.lemmas.Bool.{eq-eqb, eqb-true}
use Rattle.ds_explore_state.specs.Closed.{HasNumber}
use Rattle.ds_explore_state.specs.States.{groups_of}
use Rattle.ds_explore.proofs.Leading.{comes_again, order_first}
use Rattle.ds_explore.proofs.search.Start.comes_again.Goals as goal

pub returns : goal.returns
returns c = λ yes.
    let start = c.args.self.now in
    let states = c.args.states.now in
    let x = c.go_along.new.position in
    let y = c.go_along-2.new.position in
    let h = c.in_ok-go_along.ensures [] (order_first start c.in_ok-position.position c.in_ok-position.ensures.world c.in_ok-position.ensures.seats) in
    let k = c.in_ok-go_along-2.ensures h.0 h.2 in
    comes_again start states h.0 (length c.deref-2.result.now) c.in-Some.state c.in-Some-2.later x y h.2 k
    (λ none.
    let zero : vec_len c.args.circle.now.around ≡ 0 = sym c.deref-2.ensures.len ∙ none in
    let empty : c.is_empty.result ≡ true = c.is_empty.ensures ∙ eq-eqb (vec_len c.args.circle.now.around) 0 zero in
    true≢false (sym empty ∙ c.if-is_empty.false))
    (subst (λ (o : Option ℕ). IfSome o (HasNumber states (groups_of start.touched) x)) c.in-Some.is c.in_ok-state.ensures)
    (subst (λ (o : Option ℕ). IfSome o (HasNumber states (groups_of start.touched) y)) c.in-Some-2.is c.in_ok-later.ensures)
    (eqb-true c.in-Some.state c.in-Some-2.later yes)
