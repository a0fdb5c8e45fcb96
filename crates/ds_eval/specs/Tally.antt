-- What is kept of many values while they are gone through.
use Rattle.std.specs.Prelude.{◌≡◌, ℕ, ◌+◌, ◌-◌, ◌^◌, ◌<◌, ℤ, pos, negsuc, List, [], ◌∷◌, length, None, if◌then◌else◌}
use Rattle.std.specs.Ordering.{int_eq}
use Rattle.ds_eval.specs.declared.value.Value.{Value}
use Rattle.ds_eval.specs.declared.tally.Wants.{Wants}
use Rattle.ds_eval.specs.declared.tally.Wants.TheVariants.{Sum, Least, Greatest, Zeros}
use Rattle.ds_eval.specs.declared.tally.Totals.{Totals}
use Rattle.ds_eval.specs.declared.tally.Tally.{Tally}
use Rattle.ds_eval.specs.Numbers.{numbers, first_error, total, least, greatest}

-- how many of the numbers are 0
abbrev pub zeros : List ℤ → ℕ
zeros [] = 0
zeros (n ∷ ns) = (if int_eq n (pos 0) then 1 else 0) + zeros ns

-- there are n numbers; and so far as that is wanted, with m zeros, with this sum, with this least or this greatest one;
-- where there are none, these are the greatest and the least that a number could be
pub record AreTotals (wants : Wants) (ns : List ℤ) (totals : Totals) : Type 0 where
  pub count : totals.count ≡ length ns
  pub zeros : wants ≡ Zeros → totals.zeros ≡ zeros ns
  pub sum : wants ≡ Sum → totals.sum ≡ total ns
  pub least : wants ≡ Least → 0 < length ns → totals.least ≡ least ns
  pub greatest : wants ≡ Greatest → 0 < length ns → totals.greatest ≡ greatest ns
  pub no_least : length ns ≡ 0 → totals.least ≡ pos (2 ^ 63 - 1)
  pub no_greatest : length ns ≡ 0 → totals.greatest ≡ negsuc (2 ^ 63 - 1)

-- the values have no error, and these are the totals of their numbers
pub record AreCounted (wants : Wants) (values : List Value) (totals : Totals) : Type 0 where
  pub no_error : first_error values ≡ None
  pub sums : AreTotals wants (numbers values) totals

-- the tally is that of the values: it has the first error among them, or else the totals of their numbers
pub record IsTally (wants : Wants) (values : List Value) (tally : Tally) : Type 0 where
  pub error : tally.error ≡ first_error values
  pub totals : first_error values ≡ None → AreTotals wants (numbers values) tally.totals
