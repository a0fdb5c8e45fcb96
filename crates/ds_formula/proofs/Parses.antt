-- What the reader of levels has found so far, and what is after its forms.
use Rattle.std.proofs.Common.{◌≡◌, ◌⊎◌, inl, inr, ℕ, zero, suc, ◌+◌, ◌-◌, ◌<◌, ◌≤◌, List, [], ◌∷◌, length, Ok, Err, refl, sym, ap, subst, arith, add-one}
use Rattle.std.proofs.lemmas.Bool.{cases_lt}
use Rattle.ds_formula.specs.declared.content.Operator.{Operator}
use Rattle.ds_formula.specs.declared.content.Operator.TheVariants.{Multiply, Add, Subtract, Equal, NotEqual, Less, Greater, LessOrEqual, GreaterOrEqual}
use Rattle.ds_formula.specs.declared.content.Function.{Function}
use Rattle.ds_formula.specs.declared.content.Sign.{Sign}
use Rattle.ds_formula.specs.declared.ranges.Ranges.{Ranges}
use Rattle.ds_formula.specs.declared.tokens.Stop.{Stop}
use Rattle.ds_formula.specs.declared.tokens.Lead.TheVariants as leads
use Rattle.ds_formula.specs.declared.tokens.Follow.TheVariants.{Infix}
use Rattle.ds_formula.specs.declared.parser.Refusal.{Refusal}
use Rattle.ds_formula.specs.declared.parser.Refusal.TheVariants.{Memory, Stopped}
use Rattle.ds_formula.specs.Functions.{Scope}
use Rattle.ds_formula.specs.Plain.{Formula, Joined}
use Rattle.ds_formula.specs.Ranges.{used, first_of}
use Rattle.ds_formula.specs.Tokens.{lead_at, follow_at}
use Rattle.ds_formula.specs.Forms.{Operand, Level, tightest, looser, Chain, ends, goes_on, NoneOf, level_of}
use Rattle.ds_formula.specs.Turns.{Bracket, Group, Due, AnOperand, AnOperator, ItsBracket, by_lead, Walk, stay}
use Rattle.ds_formula.specs.Parsing.{RefusesAt, Refuses, CallRefuses, WholeRefuses, close_at, end_at}
use Rattle.ds_formula.proofs.Walks.{joined, lead_step, follow_step, level_walk}
use Rattle.ds_formula.proofs.Steps.{NoOperator, NoneFrom, same_operator, group_open, whole_open}

-- a refusal of what is after a walk
pub later : (s : Scope) (d : Due) (text : List ℕ) (e : Due) (mid : List ℕ) (x : Refusal) → ((i : List Bracket) → (j : List Bracket) × Walk s d i text e j mid) → RefusesAt s e mid x → RefusesAt s d text x
later s d text e mid Memory w r = tt
later s d text e mid (Stopped stop) w r = λ i.
    let v = w i in
    let f = r v.0 in
    (f.0, f.1, f.2, joined v.1 f.3, f.4)

-- the turn where an operand is due is a fault
pub lead_refused : (s : Scope) (text : List ℕ) (stop : Stop) → Err stop ≡ lead_at s text → Refuses s text (Stopped stop)
lead_refused s text stop e = λ i. (AnOperand, i, text, stay, ap (by_lead i) (sym e))

-- ---- what is after a form

-- each operator's level is below that of operands
pub most : (o : Operator) → level_of o < 3
most Multiply = omega arith
most Add = omega arith
most Subtract = omega arith
most Equal = omega arith
most NotEqual = omega arith
most Less = omega arith
most Greater = omega arith
most LessOrEqual = omega arith
most GreaterOrEqual = omega arith

le_cases : (a b : ℕ) → a ≤ b → (b ≡ a) ⊎ (suc a ≤ b)
le_cases a b h = elim (cases_lt a b) [
  | inl lt ↦ inr (omega arith)
  | inr le ↦ inl (omega arith)
]

at_end : (l : ℕ) (text : List ℕ) → NoneOf l text → NoneFrom (suc l) text → (o : Operator) (after : List ℕ) → follow_at text ≡ Ok (Infix o, after) → (level_of o ≡ l) ⊎ (suc l ≤ level_of o) → ⊥
at_end l text n inner o after e (inl same) = n o after e same
at_end l text n inner o after e (inr above) = inner o after above e

mutual
  none_behind : (s : Scope) (l : ℕ) (text : List ℕ) (f : Formula) (r : Ranges) (rest : List ℕ) → Level s l text f r rest → NoneFrom l rest
  none_behind s l text f r rest (tightest h v) o after k e = let m = most o in omega (arith, k, h, m)
  none_behind s l text f r rest (looser h v w) o after k e = none_after s l _ _ _ _ _ _ w (none_behind s (suc l) text _ _ _ v) o after k e

  none_after : (s : Scope) (l : ℕ) (f : Formula) (r : Ranges) (text : List ℕ) (g : Formula) (t : Ranges) (rest : List ℕ) → Chain s l f r text g t rest → NoneFrom (suc l) text → NoneFrom l rest
  none_after s l f r text g t rest (ends n) inner o after k e = at_end l rest n inner o after e (le_cases l (level_of o) k)
  none_after s l f r text g t rest (goes_on h p v w) inner o after k e = none_after s l _ _ _ _ _ _ w (none_behind s (suc l) _ _ _ _ v) o after k e

-- after an expression of the loosest level no operator follows
pub no_operator : (s : Scope) (text : List ℕ) (f : Formula) (r : Ranges) (rest : List ℕ) → Level s 0 text f r rest → NoOperator rest
no_operator s text f r rest v o after e = none_behind s 0 text f r rest v o after (omega arith) e

-- ---- levels, as operators are added

none_of : (l : ℕ) (text : List ℕ) → NoneFrom l text → NoneOf l text
none_of l text n o behind e k = n o behind (omega (arith, k)) e

module _ (s : Scope) (text : List ℕ) (f : Formula) (r : Ranges) (rest : List ℕ) where
  lower : (d k : ℕ) → k + d ≤ 3 → Level s (k + d) text f r rest → NoneFrom k rest → Level s k text f r rest
  lower zero k l v n = subst (λ (x : ℕ). Level s x text f r rest) (let e : k + 0 ≡ k = omega arith in e) v
  lower (suc d) k l v n =
      let e : k + suc d ≡ suc k + d = omega arith in
      let w = lower d (suc k) (omega (arith, l)) (subst (λ (x : ℕ). Level s x text f r rest) e v) (λ o after h q. n o after (omega (arith, h)) q) in
      looser (omega (arith, l)) w (ends (none_of k rest n))

  -- a form of a level is one of each looser level, where no operator after it has that level or a tighter one
  pub lowered : (j k : ℕ) → k ≤ j → j ≤ 3 → Level s j text f r rest → NoneFrom k rest → Level s k text f r rest
  lowered j k l m v n =
      let e : j ≡ k + (j - k) = omega (arith, l) in
      lower (j - k) k (omega (arith, l, m)) (subst (λ (x : ℕ). Level s x text f r rest) e v) n

-- a form that operators of the level may still be added to: at the tightest level it is an operand
pub data Open (s : Scope) (l : ℕ) (text : List ℕ) (f : Formula) (r : Ranges) (rest : List ℕ) : Type 0 where
  bare : l ≡ 3 → Operand s text f r rest → Open s l text f r rest
  begun : {start : Formula} {starts : Ranges} {mid : List ℕ}
      → l < 3 → Level s (suc l) text start starts mid → ((h : Formula) (t : Ranges) (end : List ℕ) → Chain s l f r rest h t end → Chain s l start starts mid h t end) → Open s l text f r rest

closed : {s : Scope} {l : ℕ} {text : List ℕ} {f : Formula} {r : Ranges} {rest : List ℕ} → Open s l text f r rest → NoneOf l rest → Level s l text f r rest
closed (bare e v) n = tightest e v
closed (begun k v on) n = looser k v (on _ _ _ (ends n))

at_most : {s : Scope} {l : ℕ} {text : List ℕ} {f : Formula} {r : Ranges} {rest : List ℕ} → Open s l text f r rest → l ≤ 3
at_most (bare e v) = omega (arith, e)
at_most (begun k v on) = omega (arith, k)

-- an operand, and what the operators of this level and of tighter ones added so far: the last was of the open level
pub record ClimbSoFar (s : Scope) (at : ℕ) (text : List ℕ) (f : Formula) (r : Ranges) (rest : List ℕ) : Type 0 where
  pub level : ℕ
  pub from : at ≤ level
  pub so_far : Open s level text f r rest
  pub tighter : NoneFrom (suc level) rest
  pub walked : (i : List Bracket) → Walk s AnOperand i text AnOperator i rest
  pub shorter : length rest < length text

-- an operand is an expression so far, before any operator
pub climb_first : (s : Scope) (at : ℕ) (text : List ℕ) (f : Formula) (r : Ranges) (rest : List ℕ) → at ≤ 3 → Operand s text f r rest → length rest < length text → ClimbSoFar s at text f r rest
climb_first s at text f r rest k v j =
    record {
      level = 3;
      from = k;
      so_far = bare refl v;
      tighter = λ o after h e. (let m = most o in omega (arith, m, h));
      walked = level_walk (tightest refl v);
      shorter = j;
    }

-- the operator at the front is of the open level, or of a looser one
no_tighter : (s : Scope) (at : ℕ) (text : List ℕ) (f : Formula) (r : Ranges) (rest : List ℕ) (o : Operator) (after : List ℕ)
    → (so : ClimbSoFar s at text f r rest) → follow_at rest ≡ Ok (Infix o, after) → (so.level ≡ level_of o) ⊎ (suc (level_of o) ≤ so.level)
no_tighter s at text f r rest o after so h = elim (cases_lt so.level (level_of o)) [
  | inl lt ↦ absurd (so.tighter o after (omega (arith, lt)) h)
  | inr le ↦ le_cases (level_of o) so.level le
]

added_same : (s : Scope) (l : ℕ) (text : List ℕ) (f : Formula) (r : Ranges) (rest : List ℕ) (o : Operator) (after : List ℕ) (g : Formula) (t : Ranges) (behind : List ℕ)
    → Open s l text f r rest → follow_at rest ≡ Ok (Infix o, after) → level_of o ≡ l → Level s (suc l) after g t behind → Open s l text (Joined o f g) (first_of (used r) (used t)) behind
added_same s l text f r rest o after g t behind (bare e v) h same w = absurd (let m = most o in omega (arith, m, e, same))
added_same s l text f r rest o after g t behind (begun k v on) h same w = begun k v (λ x y end c. on x y end (goes_on h same w c))

-- the operator and its right side, added to what is open
added : (s : Scope) (l : ℕ) (text : List ℕ) (f : Formula) (r : Ranges) (rest : List ℕ) (o : Operator) (after : List ℕ) (g : Formula) (t : Ranges) (behind : List ℕ)
    → Open s l text f r rest → follow_at rest ≡ Ok (Infix o, after) → Level s (suc (level_of o)) after g t behind → (l ≡ level_of o) ⊎ (suc (level_of o) ≤ l)
    → Open s (level_of o) text (Joined o f g) (first_of (used r) (used t)) behind
added s l text f r rest o after g t behind grown h w (inl same) =
    let v = subst (λ (x : ℕ). Level s (suc x) after g t behind) (sym same) w in
    subst (λ (x : ℕ). Open s x text (Joined o f g) (first_of (used r) (used t)) behind) same (added_same s l text f r rest o after g t behind grown h (sym same) v)
added s l text f r rest o after g t behind grown h w (inr below) =
    let none : NoneFrom (suc (level_of o)) rest = λ p mid a e. (let same : level_of o ≡ level_of p = ap level_of (same_operator rest o p after mid h e) in omega (arith, a, same)) in
    let all = closed grown (λ p mid e a. none p mid (omega (arith, a, below)) e) in
    begun (most o) (lowered s text f r rest l (suc (level_of o)) below (at_most grown) all none) (λ x y end c. goes_on h refl w c)

-- an operator of the level or a tighter one, with its right side, is added to what there is so far
pub climb_more : (s : Scope) (at : ℕ) (text : List ℕ) (f : Formula) (r : Ranges) (rest : List ℕ) (o : Operator) (after : List ℕ) (g : Formula) (t : Ranges) (behind : List ℕ)
    → ClimbSoFar s at text f r rest → (follow_at rest ≡ Ok (Infix o, after)) × (at ≤ level_of o) → length after ≤ length rest → Level s (level_of o + 1) after g t behind → length behind < length after
    → ClimbSoFar s at text (Joined o f g) (first_of (used r) (used t)) behind
climb_more s at text f r rest o after g t behind so h shrinks v k =
    let w : Level s (suc (level_of o)) after g t behind = rw add-one at v in
    record {
      level = level_of o;
      from = h.1;
      so_far = added s so.level text f r rest o after g t behind so.so_far h.0 w (no_tighter s at text f r rest o after so h.0);
      tighter = none_behind s (suc (level_of o)) after g t behind w;
      walked = λ i. joined (so.walked i) (joined (follow_step h.0 refl) (level_walk w i));
      shorter = omega (arith, so.shorter, k, shrinks);
    }

-- an expression of a level is whole where no operator of that level or a tighter one follows
pub climb_done : (s : Scope) (at : ℕ) (text : List ℕ) (f : Formula) (r : Ranges) (rest : List ℕ) → ClimbSoFar s at text f r rest → NoneFrom at rest → Level s at text f r rest
climb_done s at text f r rest so n =
    lowered s text f r rest so.level at so.from (at_most so.so_far) (closed so.so_far (λ o mid e k. n o mid (omega (arith, k, so.from)) e)) n

-- a fault on the right side of an operator is one of the expression
pub climb_refused : (s : Scope) (at : ℕ) (text : List ℕ) (f : Formula) (r : Ranges) (rest : List ℕ) (o : Operator) (after : List ℕ) (e : Refusal)
    → ClimbSoFar s at text f r rest → (follow_at rest ≡ Ok (Infix o, after)) × (at ≤ level_of o) → Refuses s after e → Refuses s text e
climb_refused s at text f r rest o after e so h x = later s AnOperand text AnOperand after e (λ i. (i, joined (so.walked i) (follow_step h.0 refl))) x

-- ---- operands

-- a fault after a sign is one of the operand
pub sign_refused : (s : Scope) (text : List ℕ) (g : Sign) (mid : List ℕ) (e : Refusal) → Ok (leads.Prefix g, mid) ≡ lead_at s text → Refuses s mid e → Refuses s text e
sign_refused s text g mid e h x = later s AnOperand text AnOperand mid e (λ i. (i, lead_step (sym h) refl)) x

-- a fault in parentheses is one of the operand
pub group_refused : (s : Scope) (text inner : List ℕ) (e : Refusal) → Ok (leads.Open, inner) ≡ lead_at s text → Refuses s inner e → Refuses s text e
group_refused s text inner e h x = later s AnOperand text AnOperand inner e (λ i. (Group ∷ i, lead_step (sym h) refl)) x

-- an expression without its closing parenthesis is a fault of the operand
pub group_unclosed : (s : Scope) (text inner : List ℕ) (f : Formula) (r : Ranges) (mid : List ℕ) (stop : Stop)
    → Ok (leads.Open, inner) ≡ lead_at s text → Level s 0 inner f r mid → Err stop ≡ close_at mid → Refuses s text (Stopped stop)
group_unclosed s text inner f r mid stop h v e = λ i. (AnOperator, Group ∷ i, mid, joined (lead_step (sym h) refl) (level_walk v (Group ∷ i)), group_open i mid stop (no_operator s inner f r mid v) e)

-- a fault after the name of a call is one of the operand
pub call_refused : (s : Scope) (text : List ℕ) (g : Function) (left : ℕ) (mid : List ℕ) (e : Refusal) → Ok (leads.Name g left, mid) ≡ lead_at s text → CallRefuses s g left mid e → Refuses s text e
call_refused s text g left mid e h x = later s AnOperand text (ItsBracket g left) mid e (λ i. (i, lead_step (sym h) refl)) x

-- ---- whole texts

-- a fault where an operand is due is one of the whole text
pub whole_refused : (s : Scope) (text : List ℕ) (e : Refusal) → Refuses s text e → WholeRefuses s text e
whole_refused s text Memory x = tt
whole_refused s text (Stopped stop) x = x []

-- an expression that the text doesn't end after is a fault of the whole text
pub whole_unended : (s : Scope) (text : List ℕ) (f : Formula) (r : Ranges) (rest : List ℕ) (stop : Stop) → Level s 0 text f r rest → Err stop ≡ end_at rest → WholeRefuses s text (Stopped stop)
whole_unended s text f r rest stop v e = (AnOperator, [], rest, level_walk v [], whole_open rest stop (no_operator s text f r rest v) e)
