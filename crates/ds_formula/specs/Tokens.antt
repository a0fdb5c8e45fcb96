-- The tokens of a formula.
use Rattle.std.specs.Prelude.{ℕ, ◌+◌, ◌-◌, ◌^◌, Bool, ◌||◌, ◌==◌, Option, Some, None, List, [], ◌∷◌, take, drop, length, Ok, Err, if◌then◌else◌, pos}
use Rattle.std.specs.Char.{is_ascii_alphabetic, is_ascii_digit}
use Rattle.ds_formula.specs.declared.content.Sign.TheVariants.{Plus, Minus}
use Rattle.ds_formula.specs.declared.content.Operator.{Operator}
use Rattle.ds_formula.specs.declared.content.Operator.TheVariants.{Multiply, Add, Subtract, Equal, NotEqual, Less, Greater, LessOrEqual, GreaterOrEqual}
use Rattle.ds_formula.specs.declared.content.Function.{Function}
use Rattle.ds_formula.specs.declared.tokens.Leaf.TheVariants.{Number}
use Rattle.ds_formula.specs.declared.tokens.Lead.{Lead}
use Rattle.ds_formula.specs.declared.tokens.Lead.TheVariants.{Leaf, Prefix, Open, Name}
use Rattle.ds_formula.specs.declared.tokens.Follow.{Follow}
use Rattle.ds_formula.specs.declared.tokens.Follow.TheVariants.{Infix, Close, Semicolon, End}
use Rattle.ds_formula.specs.declared.fault.FaultKind.TheVariants.{UnknownFunction}
use Rattle.ds_formula.specs.Bytes.{Read, ◌>>=◌, stop_at, unexpected_stop, skipped, number_at}
use Rattle.ds_formula.specs.References.{reference_at}
use Rattle.ds_formula.specs.Functions.{Scope, function_named}

-- whether a byte is one of a name: a letter, a digit, `.` or `_`
abbrev pub is_name_byte : ℕ → Bool
is_name_byte b = is_ascii_alphabetic b || is_ascii_digit b || b == 46 || b == 95

-- how many bytes of a name are at the front
abbrev pub word_length : List ℕ → ℕ
word_length [] = 0
word_length (b ∷ bs) = if is_name_byte b then 1 + word_length bs else 0

-- the name of this function before the rest
abbrev pub known : List ℕ → Option Function → List ℕ → Read Lead
known text (Some f) rest = Ok (Name f (length text), rest)
known text None rest = Err (stop_at UnknownFunction text)

-- the word at the front: it goes as far as bytes of a name do
abbrev pub word_at : List ℕ → List ℕ
word_at text = take (word_length text) text

-- the function of the list whose name is the word at the front
unfoldable pub name_at : List Function → List ℕ → Read Lead
name_at functions text = known text (function_named functions (word_at text)) (drop (word_length text) text)

-- the token at the front where an operand is due: a number, a reference, a range, `(`, a sign or a name
unfoldable pub lead_of : Scope → List ℕ → Read Lead
lead_of scope [] = Err (unexpected_stop [])
lead_of scope (b ∷ bs) =
    if b == 40 then Ok (Open, bs)
    else (if b == 43 then Ok (Prefix Plus, bs)
    else (if b == 45 then Ok (Prefix Minus, bs)
    else (if b == 91 then (reference_at scope.shape (b ∷ bs) >>= λ x. Ok (Leaf x.0, x.1))
    else (if is_ascii_digit b then (number_at (2 ^ 63 - 1) (b ∷ bs) >>= λ x. Ok (Leaf (Number (pos x.0)), x.1))
    else (if is_ascii_alphabetic b then name_at scope.functions (b ∷ bs)
    else Err (unexpected_stop (b ∷ bs)))))))

-- the token at the front where an operand is due, after white space, and what is after it
unfoldable pub lead_at : Scope → List ℕ → Read Lead
lead_at scope text = lead_of scope (skipped text)

-- the operator `<>`, `<=` or `<`, by what is after its first byte
abbrev pub after_less : List ℕ → Operator × List ℕ
after_less [] = (Less, [])
after_less (b ∷ bs) = if b == 62 then (NotEqual, bs) else (if b == 61 then (LessOrEqual, bs) else (Less, b ∷ bs))

-- the operator `>=` or `>`, by what is after its first byte
abbrev pub after_greater : List ℕ → Operator × List ℕ
after_greater [] = (Greater, [])
after_greater (b ∷ bs) = if b == 61 then (GreaterOrEqual, bs) else (Greater, b ∷ bs)

-- an operator as a token, before the rest
abbrev pub infix_of : Operator × List ℕ → Option (Follow × List ℕ)
infix_of x = Some (Infix x.0, x.1)

-- the token after an operand, by its first byte and the bytes after that: an operator, `)` or `;`
abbrev pub follow_token : ℕ → List ℕ → Option (Follow × List ℕ)
follow_token b bs =
    if b == 41 then Some (Close, bs)
    else (if b == 59 then Some (Semicolon, bs)
    else (if b == 42 then Some (Infix Multiply, bs)
    else (if b == 43 then Some (Infix Add, bs)
    else (if b == 45 then Some (Infix Subtract, bs)
    else (if b == 61 then Some (Infix Equal, bs)
    else (if b == 60 then infix_of (after_less bs)
    else (if b == 62 then infix_of (after_greater bs)
    else None)))))))

-- the token that stands before the rest; where there is none, the byte at the front is a fault
abbrev pub found : List ℕ → Option (Follow × List ℕ) → Read Follow
found text (Some x) = Ok x
found text None = Err (unexpected_stop text)

-- the token at the front where an operand has ended: an operator, `)`, `;` or the end
unfoldable pub follow_of : List ℕ → Read Follow
follow_of [] = Ok (End, [])
follow_of (b ∷ bs) = found (b ∷ bs) (follow_token b bs)

-- the token at the front where an operand has ended, after white space, and what is after it
unfoldable pub follow_at : List ℕ → Read Follow
follow_at text = follow_of (skipped text)
