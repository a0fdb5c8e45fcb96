-- Truth as a number.
use Rattle.std.specs.Prelude.{ℕ, Bool, true, false}

-- 1 where it holds, 0 where it does not
abbrev pub flag : Bool → ℕ
flag false = 0
flag true = 1
