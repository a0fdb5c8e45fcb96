-- Texts and sums of numbers below one more.
use Rattle.std.proofs.Common.{ℕ, arith, add-one, ◌+◌, ◌≡◌, ◌∙◌, List, ◌++◌, ap, append_assoc, sym}
use Rattle.std.specs.Prelude.{◌-◌, ◌^◌, min}
use Rattle.ds_explore.specs.Explored.{at_most_orders}
use Rattle.ds_explore_summary.specs.Summaries.{sum_below, texts_below}

-- the text of one number more, after a head
pub texts_more : (head : List ℕ) (f : ℕ → List ℕ) (n : ℕ) (old more new : List ℕ) → old ≡ head ++ texts_below f n → more ≡ f n → new ≡ old ++ more → new ≡ head ++ texts_below f (n + 1)
texts_more head f n old more new before is e =
    e ∙ ap (λ (t : List ℕ). t ++ more) before ∙ append_assoc head (texts_below f n) more ∙ ap (λ (t : List ℕ). head ++ (texts_below f n ++ t)) is ∙ ap (λ (k : ℕ). head ++ texts_below f k) (sym (add-one n))

-- the same, after nothing
pub blocks_more : (f : ℕ → List ℕ) (n : ℕ) (old more new : List ℕ) → old ≡ texts_below f n → more ≡ f n → new ≡ old ++ more → new ≡ texts_below f (n + 1)
blocks_more f n old more new before is e = e ∙ ap (λ (t : List ℕ). t ++ more) before ∙ ap (λ (t : List ℕ). texts_below f n ++ t) is ∙ ap (λ (k : ℕ). texts_below f k) (sym (add-one n))

-- the orders of one number more, up to the most that is counted
pub orders_more : (f : ℕ → ℕ) (n old more new : ℕ) → old ≡ at_most_orders (sum_below f n) → more ≡ f n → new ≡ at_most_orders (old + more) → new ≡ at_most_orders (sum_below f (n + 1))
orders_more f n old more new before is e =
    e ∙ ap (λ (k : ℕ). at_most_orders (k + more)) before ∙ ap (λ (k : ℕ). at_most_orders (at_most_orders (sum_below f n) + k)) is ∙ cap (sum_below f n) (f n) (2 ^ 128 - 1) ∙ ap (λ (k : ℕ). at_most_orders (sum_below f k)) (sym (add-one n))
  where
    cap : (a b most : ℕ) → min (min a most + b) most ≡ min (a + b) most
    cap a b most = omega arith
