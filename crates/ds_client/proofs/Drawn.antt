-- Keys that are drawn.
use Rattle.std.proofs.Common.{◌≡◌, ◌≤◌, ◌<◌, ◌+◌, ◌^◌, ◌∙◌, ℕ, suc, Bool, true, false, List, [], ◌∷◌, length, refl, arith, length-append}
use Rattle.std.specs.Prelude.{◌&&◌, nat_le}
use Rattle.std.specs.Fmt.{decimal}
use Rattle.std.specs.Int.{IsInRange}
use Rattle.std.specs.List.{list_all}
use Rattle.std.specs.Char.{is_ascii_graphic}
use Rattle.std.specs.Str.Parse.{AllDigits}
use Rattle.std.proofs.lemmas.Bool.{and_parts}
use Rattle.std.proofs.lemmas.Bool.Decides.{nat_tests}
use Rattle.std.proofs.lemmas.Fmt.{decimal_injective, decimal_is_IsNumeral, length-decimal-le}
use Rattle.std.proofs.lemmas.List.{append_cancel_left}
use Rattle.std.proofs.lemmas.List.Folds.{list_all-append}
use Rattle.std.proofs.lemmas.Str.Parse.{tells_digits}
use Rattle.ds_key.specs.Keys.{is_key}
use Rattle.ds_client.specs.DrawnKeys.{PREFIX_MOST, drawn_key}

both : (a b : Bool) → a ≡ true → b ≡ true → (a && b) ≡ true
both true b h k = k
both false b h k = h

-- a digit is visible
digit_visible : (c : ℕ) → IsInRange 48 57 c → is_ascii_graphic c ≡ true
digit_visible c h = grind (arith, nat_tests)

-- digits are visible
digits_visible : (ds : List ℕ) → AllDigits 10 ds → list_all is_ascii_graphic ds ≡ true
digits_visible [] h = refl
digits_visible (c ∷ cs) h =
    let parts = tells_digits.parts c cs h in
    both (is_ascii_graphic c) (list_all is_ascii_graphic cs) (digit_visible c parts.0) (digits_visible cs parts.1)

-- a text of this length is neither empty nor too long
fits : (n : ℕ) → 1 ≤ n → n ≤ 64 → (nat_le 1 n && nat_le n 64) ≡ true
fits n low high = grind (arith, nat_tests)

-- a drawn key is one
pub is_drawn : (prefix : List ℕ) (number : ℕ) → is_key prefix ≡ true → length prefix ≤ PREFIX_MOST → number < 2 ^ 64 → is_key (drawn_key prefix number) ≡ true
is_drawn prefix number is short low =
    let count : length (drawn_key prefix number) ≡ length prefix + suc (length (decimal number)) = length-append prefix (45 ∷ decimal number) in
    let most : length (decimal number) ≤ 20 = length-decimal-le 20 number (omega arith) (omega (arith, low)) low in
    let shown = and_parts (nat_le 1 (length prefix) && nat_le (length prefix) 64) (list_all is_ascii_graphic prefix) is in
    both _ _
    (fits (length (drawn_key prefix number)) (omega (arith, count)) (omega (arith, count, most, short)))
    (list_all-append is_ascii_graphic prefix (45 ∷ decimal number) ∙ both _ _ shown.1 (digits_visible (decimal number) (decimal_is_IsNumeral number low).0.1))

tail_of : (one other : List ℕ) → 45 ∷ one ≡ 45 ∷ other → one ≡ other
tail_of one other is = cc is

-- the keys of two numbers differ
pub differ : (prefix : List ℕ) (one other : ℕ) → one < 2 ^ 64 → other < 2 ^ 64 → drawn_key prefix one ≡ drawn_key prefix other → one ≡ other
differ prefix one other low high is =
    decimal_injective one other low high (tail_of (decimal one) (decimal other) (append_cancel_left prefix (45 ∷ decimal one) (45 ∷ decimal other) is))
