use Rattle.std.proofs.Common.{◌≡◌, ◌+◌, ◌∙◌, sym, ap, arith, ⊎_elim, subst, List, ℕ, get_or}
use Rattle.std.proofs.lemmas.List.{length_push, get_or_default}
use Rattle.ds_words.specs.declared.words.Word.{Word}
use Rattle.pm_explore.specs.Lists.{IsAt}
use Rattle.pm_explore.proofs.Closing.{at_pushed}
use Rattle.pm_explore.proofs.start.first_words.Goals as goal

pub loop-i-preserved : goal.loop-i-preserved
loop-i-preserved g c = record {
  count = rw (c.in_ok-push.ensures.items, length_push) (ap (λ n. n + 1) c.loop-i.invariant.count);
  first = λ k n w inside at.
      let first : ℕ = c.first_word-first.result in
      let new : Word = record { cached = first; persisted = first } in
      ⊎_elim
      (λ (old : IsAt c.loop-i.list.items k w). c.loop-i.invariant.first k n w inside old)
      (λ last.
      let here : k ≡ c.loop-i.i = last.0 ∙ c.loop-i.invariant.count in
      let is : n ≡ get_or c.args.window.now c.loop-i.i 0 = sym inside.is ∙ (get_or_default c.args.window.now k n 0 inside.low ∙ ap (λ z. get_or c.args.window.now z 0) here) in
      let value : first ≡ g.P.Explored.structure.first_word c.args.key.now n = c.first_word-first.ensures ∙ ap (g.P.Explored.structure.first_word c.args.key.now) (sym is) in
      (omega (arith, is, c.if-window-i.false, c.words-words.ensures), ap (λ (z : Word). z.cached) last.1 ∙ value, ap (λ (z : Word). z.persisted) last.1 ∙ value))
      (at_pushed c.loop-i.list.items new k w (subst (λ (z : List Word). IsAt z k w) c.in_ok-push.ensures.items at));
}
