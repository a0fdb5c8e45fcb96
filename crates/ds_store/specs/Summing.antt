-- Lines and their sums.
use Rattle.std.specs.Prelude.{ℕ, ◌≡◌, ◌≢◌, ◌⊎◌, false, suc, length, not, true, List, [], ◌∷◌, ◌++◌, filter, ⊤}
use Rattle.ds_store.specs.declared.fault.StoreFault.{StoreFault}
use Rattle.ds_store.specs.declared.fault.StoreFault.TheVariants.{NoMemory, Sum}
use Rattle.ds_store_sums.specs.Sums.{is_sum, sum_of}

-- the lines that have no sum
abbrev pub without_sums : List (List ℕ) → List (List ℕ)
without_sums lines = filter (λ line. not (is_sum line)) lines

-- the lines without their sums, and after them one that has the sum of all
abbrev pub summed_anew : List (List ℕ) → List (List ℕ)
summed_anew lines = without_sums lines ++ sum_of (without_sums lines) ∷ []

-- none of the lines is one with a sum
abbrev pub HaveNoSums : List (List ℕ) → Type 0
HaveNoSums [] = ⊤
HaveNoSums (line ∷ lines) = (is_sum line ≡ false) × HaveNoSums lines

-- the line of this number, from 1, is one with a sum, which is not that of the lines before it, and of those before them all
pub record HasWrongSum (before lines : List (List ℕ)) (number : ℕ) : Type 0 where
  pub front : List (List ℕ)
  pub line : List ℕ
  pub back : List (List ℕ)
  pub are : lines ≡ front ++ line ∷ back
  pub at : number ≡ suc (length front)
  pub is : is_sum line ≡ true
  pub wrong : line ≢ sum_of (before ++ front)

-- lines are not added after these for this fault: an allocation failed, or one has a wrong sum
abbrev pub AreNotAdded : List (List ℕ) → List (List ℕ) → StoreFault → Type 0
AreNotAdded before lines fault = (fault ≡ NoMemory) ⊎ ((number : ℕ) × (fault ≡ Sum number) × HasWrongSum before lines number)
