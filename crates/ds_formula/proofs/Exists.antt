-- Each text has a content or a fault.
use Rattle.std.proofs.Common.{◌≡◌, ◌⊎◌, inl, inr, ℕ, zero, suc, ◌+◌, ◌<◌, ◌≤◌, ℤ, Bool, true, false, List, [], ◌∷◌, length, Option, Some, None, Result, Ok, Err, refl, sym, arith}
use Rattle.std.proofs.lemmas.Bool.{cases_lt}
use Rattle.ds_formula.specs.declared.cells.Shape.{Shape}
use Rattle.ds_formula.specs.declared.content.Sign.{Sign}
use Rattle.ds_formula.specs.declared.content.Operator.{Operator}
use Rattle.ds_formula.specs.declared.content.Function.{Function}
use Rattle.ds_formula.specs.declared.ranges.Ranges.{Ranges}
use Rattle.ds_formula.specs.declared.reading.TheConstants.{TEXT_LIMIT, NODE_LIMIT, DEPTH_LIMIT}
use Rattle.ds_formula.specs.declared.tokens.Stop.{Stop}
use Rattle.ds_formula.specs.declared.tokens.Lead.{Lead}
use Rattle.ds_formula.specs.declared.tokens.Lead.TheVariants as leads
use Rattle.ds_formula.specs.declared.tokens.Follow.TheVariants.{Infix, Semicolon}
use Rattle.ds_formula.specs.declared.parser.Refusal.TheVariants.{Stopped}
use Rattle.ds_formula.specs.Plain.{Formula, listed, count, Formulas}
use Rattle.ds_formula.specs.Bytes.{Read, begins, skipped, byte_at}
use Rattle.ds_formula.specs.Functions.{Scope, scope_of, takes}
use Rattle.ds_formula.specs.Ranges.{misplaced}
use Rattle.ds_formula.specs.Tokens.{lead_at, follow_at}
use Rattle.ds_formula.specs.Forms.{Operand, Call, Arguments, Level, Expression, leaf_formula, leaf_ranges, leaf, sign, group, call, level_of}
use Rattle.ds_formula.specs.Turns.{AnOperand, Faulty}
use Rattle.ds_formula.specs.Parsing.{operator_from, semicolon_at, close_at, end_at, Refuses, CallRefuses, ArgumentsRefuse}
use Rattle.ds_formula.specs.Sizes.{nodes, depth, Fits}
use Rattle.ds_formula.specs.Grammar.{expression_of, constant_of, computed, constant, too_long, within, in_constant, in_formula, range, too_deep, IsAnswered}
use Rattle.ds_formula.proofs.Steps.{operator_here, none_here, semicolon_here, no_semicolon, close_here, end_here}
use Rattle.ds_formula.proofs.Parses.{most, ClimbSoFar, lead_refused, climb_first, climb_more, climb_done, climb_refused, sign_refused, group_refused, group_unclosed, call_refused, whole_refused, whole_unended}
use Rattle.ds_formula.proofs.Calls.{ArgumentsSoFar, arguments_first, arguments_more, arguments_done, arguments_refused, arguments_first_refused, call_done, call_no_bracket, call_empty, call_arguments_refused, call_unclosed, call_wrong}
use Rattle.ds_formula.proofs.Shorter.{lead_shorter, follow_shorter, bracket_shorter}
use Rattle.ds_formula.proofs.Whole.{blank_read}

-- a form at the front of the text, or its first fault
data Outcome (Found : Formula → Ranges → List ℕ → Type 0) (s : Scope) (text : List ℕ) : Type 0 where
  found : (f : Formula) (r : Ranges) (rest : List ℕ) → Found f r rest → length rest < length text → Outcome Found s text
  refused : (stop : Stop) → Refuses s text (Stopped stop) → Outcome Found s text

-- so of each text that is shorter than n
abbrev Reader : Scope → ℕ → ℕ → Type 0
Reader s l n = (text : List ℕ) → length text < n → Outcome (Level s l text) s text

abbrev OperandReader : Scope → ℕ → Type 0
OperandReader s n = (text : List ℕ) → length text < n → Outcome (Operand s text) s text

-- ---- a level, by those of what is after an operator

abbrev LevelReader : Scope → ℕ → Type 0
LevelReader s n = (l : ℕ) → l ≤ 3 → Reader s l n

module _ (s : Scope) (l n : ℕ) (inner : LevelReader s n) where
  -- the same, where less than m is left
  abbrev LevelOn : ℕ → List ℕ → Type 0
  LevelOn m text = (f : Formula) (r : Ranges) (rest : List ℕ) → length rest < m → ClimbSoFar s l text f r rest → Outcome (Level s l text) s text

  level_joined : (m : ℕ) (text : List ℕ) (f : Formula) (r : Ranges) (rest : List ℕ) → LevelOn m text → length rest < suc m → ClimbSoFar s l text f r rest
      → (o : Operator) (after : List ℕ) → (follow_at rest ≡ Ok (Infix o, after)) × (l ≤ level_of o) → length after ≤ length rest → Outcome (Level s (level_of o + 1) after) s after → Outcome (Level s l text) s text
  level_joined m text f r rest on h so o after here shrinks (refused stop x) = refused stop (climb_refused s l text f r rest o after (Stopped stop) so here x)
  level_joined m text f r rest on h so o after here shrinks (found g t behind v j) =
      on _ _ behind (omega (arith, h, shrinks, j)) (climb_more s l text f r rest o after g t behind so here shrinks v j)

  level_at : (m : ℕ) (text : List ℕ) (f : Formula) (r : Ranges) (rest : List ℕ) → length text < suc n → LevelOn m text → length rest < suc m → ClimbSoFar s l text f r rest
      → (x : Option (Operator × List ℕ)) → x ≡ operator_from l rest → Outcome (Level s l text) s text
  level_at m text f r rest k on h so None e = found f r rest (climb_done s l text f r rest so (none_here l rest e)) so.shorter
  level_at m text f r rest k on h so (Some (o, after)) e =
      let here = operator_here l rest o after e in
      let shrinks = follow_shorter rest (Infix o) after here.0 in
      let tight = most o in
      level_joined m text f r rest on h so o after here shrinks (inner (level_of o + 1) (omega (arith, tight)) after (omega (arith, k, so.shorter, shrinks)))

  level_on : (m : ℕ) (text : List ℕ) → length text < suc n → LevelOn m text
  level_on zero text k f r rest h so = absurd (omega (arith, h))
  level_on (suc m) text k f r rest h so = level_at m text f r rest k (level_on m text k) h so (operator_from l rest) refl

  level_from : (text : List ℕ) → length text < suc n → l ≤ 3 → Outcome (Operand s text) s text → Outcome (Level s l text) s text
  level_from text k most (refused stop x) = refused stop x
  level_from text k most (found f r rest v j) = level_on (suc (length rest)) text k f r rest (omega arith) (climb_first s l text f r rest most v j)

all_levels : (s : Scope) (n : ℕ) → OperandReader s n → LevelReader s n
all_levels s zero operands l most text k = absurd (omega (arith, k))
all_levels s (suc n) operands l most text k = level_from s l n (all_levels s n (λ shorter j. operands shorter (omega (arith, j)))) text k most (operands text k)

-- ---- arguments

data ArgumentsOutcome (s : Scope) (g : Function) (text : List ℕ) : Type 0 where
  arguments_found : (fs : List Formula) (r : Ranges) (rest : List ℕ) → Arguments s g text (listed fs) r rest → length rest < length text → ArgumentsOutcome s g text
  arguments_stop : (stop : Stop) → ArgumentsRefuse s text (Stopped stop) → ArgumentsOutcome s g text

module _ (s : Scope) (g : Function) (n : ℕ) (inner : Reader s 0 n) where
  -- the same, where less than m is left
  abbrev ArgumentsOn : ℕ → List ℕ → Type 0
  ArgumentsOn m text = (fs : List Formula) (r : Ranges) (rest : List ℕ) → length rest < m → ArgumentsSoFar s g text fs r rest → ArgumentsOutcome s g text

  arguments_next : (m : ℕ) (text : List ℕ) (fs : List Formula) (r : Ranges) (rest : List ℕ) → ArgumentsOn m text → length rest < suc m → ArgumentsSoFar s g text fs r rest
      → (after : List ℕ) → follow_at rest ≡ Ok (Semicolon, after) → length after ≤ length rest → Outcome (Level s 0 after) s after → ArgumentsOutcome s g text
  arguments_next m text fs r rest on h so after here shrinks (refused stop x) = arguments_stop stop (arguments_refused s g text fs r rest after (Stopped stop) so here x)
  arguments_next m text fs r rest on h so after here shrinks (found f t behind v j) =
      on _ _ behind (omega (arith, h, shrinks, j)) (arguments_more s g text fs r rest after f t behind so here shrinks v j)

  arguments_at : (m : ℕ) (text : List ℕ) (fs : List Formula) (r : Ranges) (rest : List ℕ) → length text < n → ArgumentsOn m text → length rest < suc m → ArgumentsSoFar s g text fs r rest
      → (x : Option (List ℕ)) → x ≡ semicolon_at rest → ArgumentsOutcome s g text
  arguments_at m text fs r rest k on h so None e = arguments_found fs r rest (arguments_done s g text fs r rest so (no_semicolon rest e)) so.shorter
  arguments_at m text fs r rest k on h so (Some after) e =
      let here = semicolon_here rest after e in
      let shrinks = follow_shorter rest Semicolon after here in
      arguments_next m text fs r rest on h so after here shrinks (inner after (omega (arith, k, so.shorter, shrinks)))

  arguments_on : (m : ℕ) (text : List ℕ) → length text < n → ArgumentsOn m text
  arguments_on zero text k fs r rest h so = absurd (omega (arith, h))
  arguments_on (suc m) text k fs r rest h so = arguments_at m text fs r rest k (arguments_on m text k) h so (semicolon_at rest) refl

  arguments_from : (text : List ℕ) → length text < n → Outcome (Level s 0 text) s text → ArgumentsOutcome s g text
  arguments_from text k (refused stop x) = arguments_stop stop (arguments_first_refused s text (Stopped stop) x)
  arguments_from text k (found f r rest v j) = arguments_on (suc (length rest)) text k _ _ rest (omega arith) (arguments_first s g text f r rest v j)

  -- ---- calls

  data CallOutcome (name : ℕ) (text : List ℕ) : Type 0 where
    call_found : (fs : Formulas) (r : Ranges) (rest : List ℕ) → Call s g text fs r rest → length rest < length text → CallOutcome name text
    call_stop : (stop : Stop) → CallRefuses s g name text (Stopped stop) → CallOutcome name text

  call_taken : (name : ℕ) (text opened : List ℕ) (fs : List Formula) (r : Ranges) (mid rest : List ℕ) → Ok opened ≡ byte_at 40 (skipped text) → Arguments s g opened (listed fs) r mid → length mid < length opened
      → Ok rest ≡ close_at mid → (x : Bool) → x ≡ takes g (count (listed fs)) → CallOutcome name text
  call_taken name text opened fs r mid rest h v j c true e =
      let k = close_here mid rest c in
      call_found (listed fs) r rest (call_done s g text opened (listed fs) r mid rest h v k (sym e)) (omega (arith, j, bracket_shorter text opened h, follow_shorter mid _ rest k))
  call_taken name text opened fs r mid rest h v j c false e = call_stop _ (call_wrong s g name text opened (listed fs) r mid rest h v (close_here mid rest c) (sym e))

  call_closed : (name : ℕ) (text opened : List ℕ) (fs : List Formula) (r : Ranges) (mid : List ℕ) → Ok opened ≡ byte_at 40 (skipped text) → Arguments s g opened (listed fs) r mid → length mid < length opened
      → (x : Result (List ℕ) Stop) → x ≡ close_at mid → CallOutcome name text
  call_closed name text opened fs r mid h v j (Ok rest) e = call_taken name text opened fs r mid rest h v j e (takes g (count (listed fs))) refl
  call_closed name text opened fs r mid h v j (Err stop) e = call_stop stop (call_unclosed s g name text opened (listed fs) r mid stop h v e)

  call_with : (name : ℕ) (text opened : List ℕ) → Ok opened ≡ byte_at 40 (skipped text) → begins 41 (skipped opened) ≡ false → ArgumentsOutcome s g opened → CallOutcome name text
  call_with name text opened h b (arguments_stop stop x) = call_stop stop (call_arguments_refused s g name text opened (Stopped stop) h b x)
  call_with name text opened h b (arguments_found fs r mid v j) = call_closed name text opened fs r mid h v j (close_at mid) refl

  call_opened : (name : ℕ) (text opened : List ℕ) → length text < n → Ok opened ≡ byte_at 40 (skipped text) → (x : Bool) → x ≡ begins 41 (skipped opened) → CallOutcome name text
  call_opened name text opened k h true e = call_stop _ (call_empty s g name text opened h (sym e))
  call_opened name text opened k h false e =
      let less : length opened < n = omega (arith, k, bracket_shorter text opened h) in
      call_with name text opened h (sym e) (arguments_from opened less (inner opened less))

  call_at : (name : ℕ) (text : List ℕ) → length text < n → (x : Result (List ℕ) Stop) → x ≡ byte_at 40 (skipped text) → CallOutcome name text
  call_at name text k (Err stop) e = call_stop stop (call_no_bracket s g name text stop e)
  call_at name text k (Ok opened) e = call_opened name text opened k e (begins 41 (skipped opened)) refl

-- ---- operands

signed : (s : Scope) (text mid : List ℕ) (g : Sign) → Ok (leads.Prefix g, mid) ≡ lead_at s text → length mid < length text → Outcome (Operand s mid) s mid → Outcome (Operand s text) s text
signed s text mid g e h (found f r rest v j) = found _ _ rest (sign (sym e) v) (omega (arith, h, j))
signed s text mid g e h (refused stop x) = refused stop (sign_refused s text g mid (Stopped stop) e x)

closed : (s : Scope) (text opened : List ℕ) (f : Formula) (r : Ranges) (mid : List ℕ) → Ok (leads.Open, opened) ≡ lead_at s text → length opened < length text → Level s 0 opened f r mid → length mid < length opened
    → (x : Result (List ℕ) Stop) → x ≡ close_at mid → Outcome (Operand s text) s text
closed s text opened f r mid e h v j (Ok rest) c =
    let k = close_here mid rest c in
    found f r rest (group (sym e) v k) (omega (arith, h, j, follow_shorter mid _ rest k))
closed s text opened f r mid e h v j (Err stop) c = refused stop (group_unclosed s text opened f r mid stop e v c)

grouped : (s : Scope) (text opened : List ℕ) → Ok (leads.Open, opened) ≡ lead_at s text → length opened < length text → Outcome (Level s 0 opened) s opened → Outcome (Operand s text) s text
grouped s text opened e h (found f r mid v j) = closed s text opened f r mid e h v j (close_at mid) refl
grouped s text opened e h (refused stop x) = refused stop (group_refused s text opened (Stopped stop) e x)

called : (s : Scope) (g : Function) (n : ℕ) (inner : Reader s 0 n) (text : List ℕ) (name : ℕ) (mid : List ℕ) → Ok (leads.Name g name, mid) ≡ lead_at s text → length mid < length text → CallOutcome s g n inner name mid → Outcome (Operand s text) s text
called s g n inner text name mid e h (call_found fs r rest v j) = found _ r rest (call (sym e) v) (omega (arith, h, j))
called s g n inner text name mid e h (call_stop stop x) = refused stop (call_refused s text g name mid (Stopped stop) e x)

operand_at : (s : Scope) (n : ℕ) → OperandReader s n → (text : List ℕ) → length text < suc n → (x : Read Lead) → x ≡ lead_at s text → Outcome (Operand s text) s text
operand_at s n shorter text k (Err stop) e = refused stop (lead_refused s text stop e)
operand_at s n shorter text k (Ok (leads.Leaf l, rest)) e = found (leaf_formula l) (leaf_ranges l) rest (leaf (sym e)) (lead_shorter s text _ rest e)
operand_at s n shorter text k (Ok (leads.Prefix g, mid)) e = let h = lead_shorter s text _ mid e in signed s text mid g e h (shorter mid (omega (arith, h, k)))
operand_at s n shorter text k (Ok (leads.Open, opened)) e = let h = lead_shorter s text _ opened e in grouped s text opened e h (all_levels s n shorter 0 (omega arith) opened (omega (arith, h, k)))
operand_at s n shorter text k (Ok (leads.Name g name, mid)) e =
    let h = lead_shorter s text _ mid e in
    called s g n (all_levels s n shorter 0 (omega arith)) text name mid e h (call_at s g n (all_levels s n shorter 0 (omega arith)) name mid (omega (arith, h, k)) (byte_at 40 (skipped mid)) refl)

operands : (s : Scope) (n : ℕ) → OperandReader s n
operands s zero text k = absurd (omega (arith, k))
operands s (suc n) text k = operand_at s n (operands s n) text k (lead_at s text) refl

-- ---- whole texts

-- the whole text is that of an expression, or it has a first fault
data WholeOutcome (s : Scope) (text : List ℕ) : Type 0 where
  whole_found : (f : Formula) (r : Ranges) → Expression s text f r → WholeOutcome s text
  whole_stop : (stop : Stop) → Faulty s AnOperand [] text stop → WholeOutcome s text

whole_end : (s : Scope) (text : List ℕ) (f : Formula) (r : Ranges) (mid : List ℕ) → Level s 0 text f r mid → (x : Result (List ℕ) Stop) → x ≡ end_at mid → WholeOutcome s text
whole_end s text f r mid v (Ok rest) e = whole_found f r (mid, rest, v, end_here mid rest e)
whole_end s text f r mid v (Err stop) e = whole_stop stop (whole_unended s text f r mid stop v e)

whole_level : (s : Scope) (text : List ℕ) → Outcome (Level s 0 text) s text → WholeOutcome s text
whole_level s text (found f r mid v j) = whole_end s text f r mid v (end_at mid) refl
whole_level s text (refused stop x) = whole_stop stop (whole_refused s text (Stopped stop) x)

whole : (s : Scope) (text : List ℕ) → WholeOutcome s text
whole s text = whole_level s text (all_levels s (suc (length text)) (operands s (suc (length text))) 0 (omega arith) text (omega arith))

-- ---- contents and faults

fits_or_not : (f : Formula) → Fits f ⊎ (Fits f → ⊥)
fits_or_not f = elim (cases_lt NODE_LIMIT (nodes f)) [
  | inl many ↦ inr (λ h. omega (arith, many, h.few))
  | inr few ↦ elim (cases_lt DEPTH_LIMIT (depth f)) [
    | inl deep ↦ inr (λ h. omega (arith, deep, h.shallow))
    | inr shallow ↦ inl (record { few = few; shallow = shallow })
  ]
]

fitting : (s : Shape) (text body : List ℕ) (f : Formula) (r : Ranges) → length text ≤ TEXT_LIMIT → expression_of text ≡ Some body → Expression (scope_of s) body f r → misplaced r ≡ None → Fits f ⊎ (Fits f → ⊥) → IsAnswered s text
fitting s text body f r l b v p (inl fits) = inl (_, record { short = l; reads = computed text body f r b v p fits })
fitting s text body f r l b v p (inr large) = inr (_, within _ l (too_deep text body f r b v p large))

placing : (s : Shape) (text body : List ℕ) (f : Formula) (r : Ranges) → length text ≤ TEXT_LIMIT → expression_of text ≡ Some body → Expression (scope_of s) body f r → (x : Option ℕ) → x ≡ misplaced r → IsAnswered s text
placing s text body f r l b v None p = fitting s text body f r l b v (sym p) (fits_or_not f)
placing s text body f r l b v (Some left) p = inr (_, within _ l (range text body f r left b v (sym p)))

formula_read : (s : Shape) (text body : List ℕ) → length text ≤ TEXT_LIMIT → expression_of text ≡ Some body → WholeOutcome (scope_of s) body → IsAnswered s text
formula_read s text body l b (whole_found f r v) = placing s text body f r l b v (misplaced r) refl
formula_read s text body l b (whole_stop stop x) = inr (_, within _ l (in_formula text body stop b x))

constant_read : (s : Shape) (text : List ℕ) → 0 < length text → length text ≤ TEXT_LIMIT → expression_of text ≡ None → (x : Result ℤ Stop) → x ≡ constant_of text → IsAnswered s text
constant_read s text some l b (Ok z) e = inl (_, record { short = l; reads = constant text z some b (sym e) })
constant_read s text some l b (Err stop) e = inr (_, within _ l (in_constant text stop some b (sym e)))

text_read : (s : Shape) (text : List ℕ) → 0 < length text → length text ≤ TEXT_LIMIT → (x : Option (List ℕ)) → x ≡ expression_of text → IsAnswered s text
text_read s text some l None e = constant_read s text some l (sym e) (constant_of text) refl
text_read s text some l (Some body) e = formula_read s text body l (sym e) (whole (scope_of s) body)

short_read : (s : Shape) (text : List ℕ) → length text ≤ TEXT_LIMIT → IsAnswered s text
short_read s [] l = inl (_, blank_read s [] refl)
short_read s (b ∷ bs) l = text_read s (b ∷ bs) (omega arith) l (expression_of (b ∷ bs)) refl

-- each text has a content or a fault
pub answered : (s : Shape) (text : List ℕ) → IsAnswered s text
answered s text = elim (cases_lt TEXT_LIMIT (length text)) [
  | inl long ↦ inr (_, too_long long)
  | inr short ↦ short_read s text short
]
