-- Why reading an input stopped.
use Rattle.std.specs.Prelude.{◌≡◌, ℕ, ◌+◌, ◌≤◌, Bool, true, List, length, Option}
use Rattle.std.specs.Io.KnownBytes.{IsAtEnd}
use Rattle.ds_script_io.specs.declared.input.InputEnd.{InputEnd}
use Rattle.ds_script_io.specs.declared.input.InputEnd.TheVariants.{Ended, TooLong, Failed}

-- the reader has ended, and gave no more bytes than the limit
pub record HasEnded (limit : ℕ) (remaining : Option (List ℕ)) (ended : Bool) (bytes : List ℕ) : Type 0 where
  pub no_more : IsAtEnd remaining
  pub flag : ended ≡ true
  pub within : length bytes ≤ limit

-- a read failed, and the bytes before it are no more than the limit
pub record HasFailed (limit : ℕ) (failed : Bool) (bytes : List ℕ) : Type 0 where
  pub flag : failed ≡ true
  pub within : length bytes ≤ limit

-- what is left of a reader, its two flags, the bytes that it gave, and why no more were read
abbrev pub EndsWith : ℕ → Option (List ℕ) → Bool → Bool → List ℕ → InputEnd → Type 0
EndsWith limit remaining ended failed bytes Ended = HasEnded limit remaining ended bytes
EndsWith limit remaining ended failed bytes TooLong = length bytes ≡ limit + 1
EndsWith limit remaining ended failed bytes Failed = HasFailed limit failed bytes

-- how many bytes were read, by why no more were
abbrev pub Within : ℕ → ℕ → InputEnd → Type 0
Within limit n Ended = n ≤ limit
Within limit n TooLong = n ≡ limit + 1
Within limit n Failed = n ≤ limit
