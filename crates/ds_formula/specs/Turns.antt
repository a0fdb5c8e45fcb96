-- Which token may stand where, and the fault of the first that may not: no tree and no levels, only what is due and which
-- brackets are open.
use Rattle.std.specs.Prelude.{◌≡◌, ℕ, ◌+◌, List, [], ◌∷◌, Result, Ok, Err, if◌then◌else◌}
use Rattle.ds_formula.specs.declared.content.Function.{Function}
use Rattle.ds_formula.specs.declared.tokens.Stop.{Stop}
use Rattle.ds_formula.specs.declared.tokens.Lead.{Lead}
use Rattle.ds_formula.specs.declared.tokens.Lead.TheVariants.{Leaf, Prefix, Open, Name}
use Rattle.ds_formula.specs.declared.tokens.Follow.{Follow}
use Rattle.ds_formula.specs.declared.tokens.Follow.TheVariants.{Infix, Close, Semicolon, End}
use Rattle.ds_formula.specs.declared.fault.FaultKind.TheVariants.{WrongArguments}
use Rattle.ds_formula.specs.Bytes.{Read, unexpected_stop, begins, skipped, byte_at}
use Rattle.ds_formula.specs.Functions.{Scope, takes}
use Rattle.ds_formula.specs.Tokens.{lead_at, follow_at}

-- a bracket that is open: of a group, or of a call, with the number of the argument and the place of the name
pub data Bracket : Type 0 where
  Group : Bracket
  Call : Function → ℕ → ℕ → Bracket

-- what is due: an operand, the first argument, the bracket after a name, or what may follow an operand
pub data Due : Type 0 where
  AnOperand : Due
  FirstArgument : ℕ → Due
  ItsBracket : Function → ℕ → Due
  AnOperator : Due

-- what comes of the token at the front: what is due and open after it, and the bytes there; or its fault; or the end of
-- the whole text
pub data Turn : Type 0 where
  Goes : Due → List Bracket → List ℕ → Turn
  Stops : Stop → Turn
  Ends : Turn

-- a wrong number of arguments, which is a fault at the name of the function
abbrev pub wrong_arguments : ℕ → Turn
wrong_arguments name = Stops (record { kind = WrongArguments; left = name })

-- where an operand is due: what comes of the token there
abbrev pub after_lead : List Bracket → Lead → List ℕ → Turn
after_lead open_ones (Leaf l) rest = Goes AnOperator open_ones rest
after_lead open_ones (Prefix s) rest = Goes AnOperand open_ones rest
after_lead open_ones Open rest = Goes AnOperand (Group ∷ open_ones) rest
after_lead open_ones (Name f left) rest = Goes (ItsBracket f left) open_ones rest

-- where an operand is due: what comes of the token that was read, or of its fault
abbrev pub by_lead : List Bracket → Read Lead → Turn
by_lead open_ones (Ok x) = after_lead open_ones x.0 x.1
by_lead open_ones (Err s) = Stops s

-- after a name: a bracket opens the first argument
abbrev pub by_bracket : Function → ℕ → List Bracket → Result (List ℕ) Stop → Turn
by_bracket f name open_ones (Ok rest) = Goes (FirstArgument name) (Call f 1 name ∷ open_ones) rest
by_bracket f name open_ones (Err s) = Stops s

-- where a closing bracket comes after an operand: it closes the group or the call that is open
abbrev pub closed : List Bracket → List ℕ → List ℕ → Turn
closed [] text rest = Stops (unexpected_stop (skipped text))
closed (Group ∷ open_ones) text rest = Goes AnOperator open_ones rest
closed (Call f n name ∷ open_ones) text rest = if takes f n then Goes AnOperator open_ones rest else wrong_arguments name

-- where a semicolon comes after an operand: the next argument of the call that is open
abbrev pub parted : List Bracket → List ℕ → List ℕ → Turn
parted [] text rest = Stops (unexpected_stop (skipped text))
parted (Group ∷ open_ones) text rest = Stops (unexpected_stop (skipped text))
parted (Call f n name ∷ open_ones) text rest = Goes AnOperand (Call f (n + 1) name ∷ open_ones) rest

-- where the text ends after an operand: no bracket may be open
abbrev pub ended : List Bracket → List ℕ → Turn
ended [] text = Ends
ended (b ∷ open_ones) text = Stops (unexpected_stop (skipped text))

-- where an operand has ended: what comes of the token after it
abbrev pub after_follow : List Bracket → List ℕ → Follow → List ℕ → Turn
after_follow open_ones text (Infix o) rest = Goes AnOperand open_ones rest
after_follow open_ones text Close rest = closed open_ones text rest
after_follow open_ones text Semicolon rest = parted open_ones text rest
after_follow open_ones text End rest = ended open_ones text

-- where an operand has ended: what comes of the token that was read, or of its fault
abbrev pub by_follow : List Bracket → List ℕ → Read Follow → Turn
by_follow open_ones text (Ok x) = after_follow open_ones text x.0 x.1
by_follow open_ones text (Err s) = Stops s

-- what comes of the token at the front, by what is due and open
abbrev pub turn : Scope → Due → List Bracket → List ℕ → Turn
turn scope AnOperand open_ones text = by_lead open_ones (lead_at scope text)
turn scope (FirstArgument name) open_ones text = if begins 41 (skipped text) then wrong_arguments name else by_lead open_ones (lead_at scope text)
turn scope (ItsBracket f name) open_ones text = by_bracket f name open_ones (byte_at 40 (skipped text))
turn scope AnOperator open_ones text = by_follow open_ones text (follow_at text)

-- the tokens up to the rest may stand there, and lead from the one place to the other
pub data Walk (scope : Scope) : Due → List Bracket → List ℕ → Due → List Bracket → List ℕ → Type 0 where
  stay : {d : Due} {i : List Bracket} {text : List ℕ} → Walk scope d i text d i text
  step : {d e f : Due} {i j k : List Bracket} {text next rest : List ℕ} → turn scope d i text ≡ Goes e j next → Walk scope e j next f k rest → Walk scope d i text f k rest

-- the first fault from the left, where this is due and open
abbrev pub Faulty : Scope → Due → List Bracket → List ℕ → Stop → Type 0
Faulty scope d i text stop = (e : Due) × (j : List Bracket) × (rest : List ℕ) × Walk scope d i text e j rest × (turn scope e j rest ≡ Stops stop)
