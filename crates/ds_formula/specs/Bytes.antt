-- Bytes that are read from the front of a text.
use Rattle.std.specs.Prelude.{ℕ, ◌+◌, ◌-◌, ◌*◌, Bool, false, ◌||◌, ◌==◌, nat_le, List, [], ◌∷◌, length, Result, Ok, Err, if◌then◌else◌}
use Rattle.std.specs.Char.{is_ascii_digit}
use Rattle.ds_formula.specs.declared.tokens.Stop.{Stop}
use Rattle.ds_formula.specs.declared.fault.FaultKind.{FaultKind}
use Rattle.ds_formula.specs.declared.fault.FaultKind.TheVariants.{BadToken, NotWhole, NumberTooLarge, Unfinished}

-- what is read at the front, and what is after it; or the fault there
abbrev pub Read : Type 0 → Type 0
Read A = Result (A × List ℕ) Stop

-- goes on with what was read, where there was no fault
infixl 10 ◌>>=◌
abbrev pub ◌>>=◌ : {A B : Type 0} → Result A Stop → (A → Result B Stop) → Result B Stop
(Ok x) >>= f = f x
(Err e) >>= f = Err e

-- what a function returned, seen by view
abbrev pub result_of : {A B : Type 0} → (A → B) → Result A Stop → Result B Stop
result_of view (Ok x) = Ok (view x)
result_of view (Err e) = Err e

-- a fault of this kind before these bytes
abbrev pub stop_at : FaultKind → List ℕ → Stop
stop_at kind rest = record { kind = kind; left = length rest }

-- the fault where the bytes don't go on as they should: they end, or the first one cannot stand there
abbrev pub unexpected_stop : List ℕ → Stop
unexpected_stop [] = stop_at Unfinished []
unexpected_stop (b ∷ bs) = stop_at BadToken (b ∷ bs)

-- whether this byte is the first one
abbrev pub begins : ℕ → List ℕ → Bool
begins byte [] = false
begins byte (b ∷ bs) = b == byte

-- whether a byte is white space: space, tab, line feed or carriage return
abbrev pub is_space : ℕ → Bool
is_space b = b == 32 || b == 9 || b == 10 || b == 13

-- what is after the white space at the front
abbrev pub skipped : List ℕ → List ℕ
skipped [] = []
skipped (b ∷ bs) = if is_space b then skipped bs else b ∷ bs

-- the number that the digits at the front give, after those that gave n so far
abbrev pub number_from : ℕ → List ℕ → ℕ × List ℕ
number_from n [] = (n, [])
number_from n (b ∷ bs) = if is_ascii_digit b then number_from (10 * n + (b - 48)) bs else (n, b ∷ bs)

-- whether a number goes on as a fraction, by a point or an exponent: `.`, `e` or `E`
abbrev pub goes_on_as_fraction : List ℕ → Bool
goes_on_as_fraction text = begins 46 text || begins 101 text || begins 69 text

-- the whole number at the front: digits, at least one, of a number that is at most the limit
unfoldable pub number_at : ℕ → List ℕ → Read ℕ
number_at limit [] = Err (unexpected_stop [])
number_at limit (b ∷ bs) =
    if is_ascii_digit b
    then
    (let read = number_from 0 (b ∷ bs) in
    if goes_on_as_fraction read.1 then Err (stop_at NotWhole read.1) else (if nat_le read.0 limit then Ok read else Err (stop_at NumberTooLarge (b ∷ bs))))
    else Err (unexpected_stop (b ∷ bs))

-- what is after a byte that has to come
unfoldable pub byte_at : ℕ → List ℕ → Result (List ℕ) Stop
byte_at byte [] = Err (unexpected_stop [])
byte_at byte (b ∷ bs) = if b == byte then Ok bs else Err (unexpected_stop (b ∷ bs))
