-- The steps of the reader of expressions.
use Rattle.std.specs.Prelude.{◌≡◌, ℕ, ◌-◌, nat_le, length, List, [], ◌∷◌, Option, Some, None, Result, Ok, Err, if◌then◌else◌}
use Rattle.ds_formula.specs.declared.content.Operator.{Operator}
use Rattle.ds_formula.specs.declared.content.Function.{Function}
use Rattle.ds_formula.specs.declared.tokens.Stop.{Stop}
use Rattle.ds_formula.specs.declared.tokens.Follow.{Follow}
use Rattle.ds_formula.specs.declared.tokens.Follow.TheVariants.{Infix, Close, Semicolon, End}
use Rattle.ds_formula.specs.declared.fault.TextFault.{TextFault}
use Rattle.ds_formula.specs.declared.fault.FaultKind.TheVariants.{RangeNotAllowed, TooDeep}
use Rattle.ds_formula.specs.declared.ranges.Ranges.{Ranges}
use Rattle.ds_formula.specs.Functions.{Scope}
use Rattle.ds_formula.specs.Plain.{Formula, PlainContent, Computed}
use Rattle.ds_formula.specs.Ranges.{misplaced}
use Rattle.ds_formula.specs.Sizes.{Fits}
use Rattle.ds_formula.specs.declared.parser.Refusal.{Refusal}
use Rattle.ds_formula.specs.declared.parser.Refusal.TheVariants.{Memory, Stopped}
use Rattle.ds_formula.specs.Bytes.{Read, unexpected_stop, skipped}
use Rattle.ds_formula.specs.Tokens.{follow_at}
use Rattle.ds_formula.specs.Forms.{level_of}
use Rattle.ds_formula.specs.Turns.{Bracket, Call, Due, AnOperand, ItsBracket, Faulty}

-- the operator that was read, and what is after it, where it has this level or a tighter one
abbrev pub from_level : ℕ → Read Follow → Option (Operator × List ℕ)
from_level l (Ok (Infix o, rest)) = if nat_le l (level_of o) then Some (o, rest) else None
from_level l (Ok (Close, rest)) = None
from_level l (Ok (Semicolon, rest)) = None
from_level l (Ok (End, rest)) = None
from_level l (Err s) = None

-- the operator of this level or a tighter one at the front, and what is after it
abbrev pub operator_from : ℕ → List ℕ → Option (Operator × List ℕ)
operator_from l text = from_level l (follow_at text)

-- what is after the token that was read, where it is a semicolon
abbrev pub behind_semicolon : Read Follow → Option (List ℕ)
behind_semicolon (Ok (Semicolon, rest)) = Some rest
behind_semicolon (Ok (Infix o, rest)) = None
behind_semicolon (Ok (Close, rest)) = None
behind_semicolon (Ok (End, rest)) = None
behind_semicolon (Err s) = None

-- what is after a semicolon at the front
abbrev pub semicolon_at : List ℕ → Option (List ℕ)
semicolon_at text = behind_semicolon (follow_at text)

-- what is after the token that was read, where it is a closing bracket; else it is a fault
abbrev pub behind_close : List ℕ → Read Follow → Result (List ℕ) Stop
behind_close text (Ok (Close, rest)) = Ok rest
behind_close text (Ok (Infix o, rest)) = Err (unexpected_stop (skipped text))
behind_close text (Ok (Semicolon, rest)) = Err (unexpected_stop (skipped text))
behind_close text (Ok (End, rest)) = Err (unexpected_stop (skipped text))
behind_close text (Err s) = Err (unexpected_stop (skipped text))

-- what is after a closing bracket, which has to come
abbrev pub close_at : List ℕ → Result (List ℕ) Stop
close_at text = behind_close text (follow_at text)

-- what is after the token that was read, where it is the end; else it is a fault
abbrev pub behind_end : List ℕ → Read Follow → Result (List ℕ) Stop
behind_end text (Ok (End, rest)) = Ok rest
behind_end text (Ok (Infix o, rest)) = Err (unexpected_stop (skipped text))
behind_end text (Ok (Semicolon, rest)) = Err (unexpected_stop (skipped text))
behind_end text (Ok (Close, rest)) = Err (unexpected_stop (skipped text))
behind_end text (Err s) = Err (unexpected_stop (skipped text))

-- the end, which has to come
abbrev pub end_at : List ℕ → Result (List ℕ) Stop
end_at text = behind_end text (follow_at text)

-- out of memory, or the first fault where this is due, whatever is open around
abbrev pub RefusesAt : Scope → Due → List ℕ → Refusal → Type 0
RefusesAt scope due text Memory = Unit {0}
RefusesAt scope due text (Stopped stop) = (open_ones : List Bracket) → Faulty scope due open_ones text stop

-- out of memory, or the first fault where an operand is due, whatever is open around
abbrev pub Refuses : Scope → List ℕ → Refusal → Type 0
Refuses scope = RefusesAt scope AnOperand

-- out of memory, or the first fault after the name of a call, whatever is open around
abbrev pub CallRefuses : Scope → Function → ℕ → List ℕ → Refusal → Type 0
CallRefuses scope f place = RefusesAt scope (ItsBracket f place)

-- out of memory, or the first fault among the arguments of a call, whatever is open around
abbrev pub ArgumentsRefuse : Scope → List ℕ → Refusal → Type 0
ArgumentsRefuse scope text Memory = Unit {0}
ArgumentsRefuse scope text (Stopped stop) = (f : Function) (n name : ℕ) (open_ones : List Bracket) → Faulty scope AnOperand (Call f n name ∷ open_ones) text stop

-- out of memory, or the first fault of a whole text
abbrev pub WholeRefuses : Scope → List ℕ → Refusal → Type 0
WholeRefuses scope text Memory = Unit {0}
WholeRefuses scope text (Stopped stop) = Faulty scope AnOperand [] text stop

-- an expression may be a content: its ranges stand where they may, and it isn't too large
pub record IsAccepted (ranges : Ranges) (f : Formula) (content : PlainContent) : Type 0 where
  pub placed : misplaced ranges ≡ None
  pub fits : Fits f
  pub is : content ≡ Computed f

-- an expression may be no content: a range is misplaced, else it is too large
pub data IsRefused (text : List ℕ) (ranges : Ranges) (f : Formula) : TextFault → Type 0 where
  misplaced_range : (left : ℕ) → misplaced ranges ≡ Some left → IsRefused text ranges f (record { kind = RangeNotAllowed; offset = length text - left })
  too_large : misplaced ranges ≡ None → (Fits f → ⊥) → IsRefused text ranges f (record { kind = TooDeep; offset = 0 })
