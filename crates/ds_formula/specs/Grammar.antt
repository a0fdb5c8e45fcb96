-- Which text has which content, and which has which fault.
use Rattle.std.specs.Prelude.{◌≡◌, ◌⊎◌, ℕ, ℤ, pos, neg_ℤ, ◌≤◌, ◌<◌, ◌-◌, ◌^◌, List, [], ◌∷◌, length, drop, codes, Option, Some, None, Result, Ok, Err, ◌==◌, if◌then◌else◌}
use Rattle.ds_formula.specs.declared.cells.Shape.{Shape}
use Rattle.ds_formula.specs.declared.content.Content.{Content}
use Rattle.ds_formula.specs.declared.fault.TextFault.{TextFault}
use Rattle.ds_formula.specs.declared.fault.FaultKind.TheVariants.{TooLong, UnknownFunction, RangeNotAllowed, TooDeep, NoMemory}
use Rattle.ds_formula.specs.declared.ranges.Ranges.{Ranges}
use Rattle.ds_formula.specs.Limits.{TEXT_MOST}
use Rattle.ds_formula.specs.declared.tokens.Stop.{Stop}
use Rattle.ds_formula.specs.Plain.{Formula, PlainContent, plain, Empty, Constant, Computed}
use Rattle.ds_formula.specs.declared.content.Function.{Function}
use Rattle.ds_formula.specs.Functions.{Scope, scope_of, function_named}
use Rattle.ds_formula.specs.Tokens.{word_at}
use Rattle.ds_formula.specs.Bytes.{◌>>=◌, unexpected_stop, begins, number_at}
use Rattle.ds_formula.specs.Ranges.{misplaced}
use Rattle.ds_formula.specs.Forms.{Expression}
use Rattle.ds_formula.specs.Turns.{AnOperand, Faulty}
use Rattle.ds_formula.specs.Sizes.{Fits}

-- the number that was read, where the text ends after it
abbrev pub alone : ℕ → List ℕ → Result ℕ Stop
alone n [] = Ok n
alone n (b ∷ bs) = Err (unexpected_stop (b ∷ bs))

-- the number that is the whole text
unfoldable pub whole_of : ℕ → List ℕ → Result ℕ Stop
whole_of limit text = number_at limit text >>= λ x. alone x.0 x.1

-- the constant that is the whole text: a number, with a sign or without
unfoldable pub constant_of : List ℕ → Result ℤ Stop
constant_of text =
    if begins 45 text
    then (whole_of (2 ^ 63) (drop 1 text) >>= λ n. Ok (neg_ℤ (pos n)))
    else (if begins 43 text then (whole_of (2 ^ 63 - 1) (drop 1 text) >>= λ n. Ok (pos n)) else (whole_of (2 ^ 63 - 1) text >>= λ n. Ok (pos n)))

-- the rest of the text after these bytes, where it begins with them
abbrev pub behind : List ℕ → List ℕ → Option (List ℕ)
behind [] text = Some text
behind (p ∷ ps) [] = None
behind (p ∷ ps) (b ∷ bs) = if b == p then behind ps bs else None

-- the text without an `=` at the front: a second one changes nothing
abbrev pub without_equals : List ℕ → List ℕ
without_equals [] = []
without_equals (b ∷ bs) = if b == 61 then bs else b ∷ bs

-- the first text, where there is one, else the other
abbrev pub or_else : Option (List ℕ) → Option (List ℕ) → Option (List ℕ)
or_else (Some x) other = Some x
or_else None other = other

-- the expression after what begins a formula: a second `=` is skipped
abbrev pub expression_behind : Option (List ℕ) → Option (List ℕ)
expression_behind (Some x) = Some (without_equals x)
expression_behind None = None

-- the expression of a text that is a formula: after `=` or `of:=`
unfoldable pub expression_of : List ℕ → Option (List ℕ)
expression_of text = expression_behind (or_else (behind (codes "=") text) (behind (codes "of:=") text))

-- ---- in any scope

-- the text has this content, however long it is
pub data ReadsLongIn (scope : Scope) : List ℕ → PlainContent → Type 0 where
  blank : ReadsLongIn scope [] Empty
  constant : (text : List ℕ) (z : ℤ) → 0 < length text → expression_of text ≡ None → constant_of text ≡ Ok z → ReadsLongIn scope text (Constant z)
  computed : (text body : List ℕ) (f : Formula) (r : Ranges)
      → expression_of text ≡ Some body → Expression scope body f r → misplaced r ≡ None → Fits f → ReadsLongIn scope text (Computed f)

-- the text has this content
pub record ReadsIn (scope : Scope) (text : List ℕ) (content : PlainContent) : Type 0 where
  pub short : length text ≤ TEXT_MOST
  pub reads : ReadsLongIn scope text content

-- a fault by the bytes left, and by the bytes before it
abbrev pub placed : List ℕ → Stop → TextFault
placed text stop = record { kind = stop.kind; offset = length text - stop.left }

-- the text has this fault; faults of tokens come first, then misplaced ranges, then the size
pub data FaultsLongIn (scope : Scope) : List ℕ → TextFault → Type 0 where
  in_constant : (text : List ℕ) (stop : Stop) → 0 < length text → expression_of text ≡ None → constant_of text ≡ Err stop → FaultsLongIn scope text (placed text stop)
  in_formula : (text body : List ℕ) (stop : Stop) → expression_of text ≡ Some body → Faulty scope AnOperand [] body stop → FaultsLongIn scope text (placed text stop)
  range : (text body : List ℕ) (f : Formula) (r : Ranges) (left : ℕ)
      → expression_of text ≡ Some body → Expression scope body f r → misplaced r ≡ Some left → FaultsLongIn scope text (record { kind = RangeNotAllowed; offset = length text - left })
  too_deep : (text body : List ℕ) (f : Formula) (r : Ranges)
      → expression_of text ≡ Some body → Expression scope body f r → misplaced r ≡ None → (Fits f → ⊥) → FaultsLongIn scope text (record { kind = TooDeep; offset = 0 })

-- the text has this fault, its length first
pub data FaultsIn (scope : Scope) (text : List ℕ) : TextFault → Type 0 where
  too_long : TEXT_MOST < length text → FaultsIn scope text (record { kind = TooLong; offset = TEXT_MOST })
  within : (fault : TextFault) → length text ≤ TEXT_MOST → FaultsLongIn scope text fault → FaultsIn scope text fault

-- ---- in a sheet, where all functions may be named

-- the text has this content in a sheet of the shape, however long it is
abbrev pub ReadsLong : Shape → List ℕ → PlainContent → Type 0
ReadsLong shape = ReadsLongIn (scope_of shape)

-- the text has this content in a sheet of the shape
abbrev pub Reads : Shape → List ℕ → PlainContent → Type 0
Reads shape = ReadsIn (scope_of shape)

-- the text has this fault in a sheet of the shape, whatever its length
abbrev pub FaultsLong : Shape → List ℕ → TextFault → Type 0
FaultsLong shape = FaultsLongIn (scope_of shape)

-- the text has this fault in a sheet of the shape
abbrev pub Faults : Shape → List ℕ → TextFault → Type 0
Faults shape = FaultsIn (scope_of shape)

-- the answer where memory ran out
abbrev pub no_memory : TextFault
no_memory = record { kind = NoMemory; offset = 0 }

-- reading the text takes memory: it is a formula, and within the limit of its length
pub record TakesMemory (text : List ℕ) : Type 0 where
  pub short : length text ≤ TEXT_MOST
  pub body : List ℕ
  pub formula : expression_of text ≡ Some body

-- what may be answered to a text: its content, its fault, or, of a formula, that memory ran out
abbrev pub Answers : Shape → List ℕ → Result Content TextFault → Type 0
Answers shape text (Ok c) = Reads shape text (plain c)
Answers shape text (Err e) = ((e ≡ no_memory) × TakesMemory text) ⊎ Faults shape text e

-- the text has a content, or it has a fault
abbrev pub IsAnswered : Shape → List ℕ → Type 0
IsAnswered shape text = ((c : PlainContent) × Reads shape text c) ⊎ ((e : TextFault) × Faults shape text e)

-- a text has one content or one fault: there is one, no second one, and not one of each
pub record OneAnswer (shape : Shape) (text : List ℕ) : Type 0 where
  pub some : IsAnswered shape text
  pub content : (c d : PlainContent) → Reads shape text c → Reads shape text d → c ≡ d
  pub fault : (e f : TextFault) → Faults shape text e → Faults shape text f → e ≡ f
  pub never_both : (c : PlainContent) (e : TextFault) → Reads shape text c → Faults shape text e → ⊥

-- the fault is an unknown name, and the word that stands there is the name of one of these functions
pub record IsNameAmong (functions : List Function) (text : List ℕ) (fault : TextFault) : Type 0 where
  pub unknown : fault.kind ≡ UnknownFunction
  pub function : Function
  pub named : function_named functions (word_at (drop fault.offset text)) ≡ Some function
