-- A line leaves less of the script.
use Rattle.std.proofs.Common.{◌≡◌, ℕ, ◌+◌, ◌<◌, Bool, true, false, cond, nat_eq, List, [], ◌∷◌, length, drop, Option, Some, None, arith, length-drop, refl}
use Rattle.std.specs.Prelude.{position}
use Rattle.std.proofs.lemmas.List.Quantifiers.{position-Some}
use Rattle.ds_script_io.specs.ScriptLines.{NoLine, ALine, LongLine, last_of, next_by, next_of}

checked_rest : (long : Bool) (line rest l behind : List ℕ) → cond long LongLine (ALine line rest) ≡ ALine l behind → behind ≡ rest
checked_rest true line rest l behind e = absurd (cc)
checked_rest false line rest l behind e = cc

no_rest : (long : Bool) (l behind : List ℕ) → cond long LongLine NoLine ≡ ALine l behind → ⊥
no_rest true l behind e = cc
no_rest false l behind e = cc

last_shorter : (whole : Bool) (bytes line behind : List ℕ) → last_of whole bytes ≡ ALine line behind → length behind < length bytes
last_shorter whole [] line behind e = absurd (cc)
last_shorter true (b ∷ bytes) line behind e = let r = checked_rest _ (b ∷ bytes) [] line behind e in rw r (omega arith)
last_shorter false (b ∷ bytes) line behind e = absurd (no_rest _ line behind e)

by_shorter : (o : Option ℕ) (whole : Bool) (bytes line behind : List ℕ) → ((i : ℕ) → o ≡ Some i → i < length bytes) → next_by o whole bytes ≡ ALine line behind → length behind < length bytes
by_shorter None whole bytes line behind h e = last_shorter whole bytes line behind e
by_shorter (Some i) whole bytes line behind h e =
    let r = checked_rest _ _ (drop (i + 1) bytes) line behind e in
    let below = h i refl in
    rw (r, length-drop) (omega (arith, below))

-- after a line less of the script is left
pub next_shorter : (whole : Bool) (bytes line behind : List ℕ) → next_of whole bytes ≡ ALine line behind → length behind < length bytes
next_shorter whole bytes line behind e = by_shorter (position (λ b. nat_eq b 10) bytes) whole bytes line behind (λ i p. (position-Some (λ b. nat_eq b 10) bytes i 0 p).0) e
