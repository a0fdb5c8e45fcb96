-- A form is a walk that leaves open what was open.
use Rattle.std.proofs.Common.{◌≡◌, ℕ, ◌+◌, Bool, true, false, cond, eqb, List, [], ◌∷◌, Ok, refl, ap, subst, ◌∙◌, arith}
use Rattle.std.proofs.lemmas.Bool.{eqb-true}
use Rattle.ds_formula.specs.declared.content.Function.{Function}
use Rattle.ds_formula.specs.declared.ranges.Ranges.{Ranges}
use Rattle.ds_formula.specs.declared.tokens.Lead.{Lead}
use Rattle.ds_formula.specs.declared.tokens.Follow.{Follow}
use Rattle.ds_formula.specs.declared.tokens.Follow.TheVariants.{Close}
use Rattle.ds_formula.specs.Plain.{Formula, Formulas, count}
use Rattle.ds_formula.specs.Bytes.{begins, skipped, byte_at}
use Rattle.ds_formula.specs.Functions.{Scope, takes}
use Rattle.ds_formula.specs.Tokens.{lead_at, lead_of, follow_at}
use Rattle.ds_formula.specs.Forms.{Operand, leaf, sign, group, call, Arguments, last, more, Level, tightest, looser, Chain, ends, goes_on, bracketed}
use Rattle.ds_formula.specs.Forms as forms
use Rattle.ds_formula.specs.Turns.{Bracket, Group, Call, Due, AnOperand, FirstArgument, ItsBracket, AnOperator, Goes, wrong_arguments, by_lead, by_follow, by_bracket, turn, Walk, stay, step}

-- a closing bracket begins no operand
at_close : (s : Scope) (text : List ℕ) (x : Lead × List ℕ) → lead_of s text ≡ Ok x → begins 41 text ≡ false
unfolding lead_of
at_close s [] x e = refl
at_close s (b ∷ bs) x e = split (eqb b 41) refl
  where
    split : (t : Bool) → eqb b 41 ≡ t → t ≡ false
    split false p = refl
    split true p = absurd (let h : lead_of s (41 ∷ bs) ≡ Ok x = subst (λ (c : ℕ). lead_of s (c ∷ bs) ≡ Ok x) (eqb-true b 41 p) e in cc)

pub no_close : (s : Scope) (text : List ℕ) (x : Lead × List ℕ) → lead_at s text ≡ Ok x → begins 41 (skipped text) ≡ false
unfolding lead_at
no_close s text x e = at_close s (skipped text) x e

-- where an operand may stand, a first argument may
pub first_turn : (s : Scope) (i : List Bracket) (text : List ℕ) (name : ℕ) → begins 41 (skipped text) ≡ false → turn s (FirstArgument name) i text ≡ turn s AnOperand i text
first_turn s i text name e = ap (λ (t : Bool). cond t (wrong_arguments name) (turn s AnOperand i text)) e

module _ {s : Scope} where
  pub joined : {d e f : Due} {i j k : List Bracket} {text mid rest : List ℕ} → Walk s d i text e j mid → Walk s e j mid f k rest → Walk s d i text f k rest
  joined stay w = w
  joined (step h v) w = step h (joined v w)

  -- one token
  pub one : {d e : Due} {i j : List Bracket} {text rest : List ℕ} → turn s d i text ≡ Goes e j rest → Walk s d i text e j rest
  one h = step h stay

  -- where an operand is due
  pub lead_step : {i j : List Bracket} {e : Due} {text rest : List ℕ} {x : Lead × List ℕ} → lead_at s text ≡ Ok x → by_lead i (Ok x) ≡ Goes e j rest → Walk s AnOperand i text e j rest
  lead_step {i = i} h k = one (ap (by_lead i) h ∙ k)

  -- where an operand has ended
  pub follow_step : {i j : List Bracket} {e : Due} {text rest : List ℕ} {x : Follow × List ℕ} → follow_at text ≡ Ok x → by_follow i text (Ok x) ≡ Goes e j rest → Walk s AnOperator i text e j rest
  follow_step {i = i} {text = text} h k = one (ap (by_follow i text) h ∙ k)

  pub first_walk : {i j : List Bracket} {text rest : List ℕ} (name : ℕ) → begins 41 (skipped text) ≡ false → Walk s AnOperand i text AnOperator j rest → Walk s (FirstArgument name) i text AnOperator j rest
  first_walk {i} {j} {text} {rest} name e (step h v) = step (first_turn s i text name e ∙ h) v

  pub bracket_step : {i : List Bracket} {g : Function} {name : ℕ} {text rest : List ℕ} → byte_at 40 (skipped text) ≡ Ok rest → Walk s (ItsBracket g name) i text (FirstArgument name) (Call g 1 name ∷ i) rest
  bracket_step {i} {g} {name} h = one (ap (by_bracket g name i) h)

  pub close_step : {i : List Bracket} {g : Function} {n name : ℕ} {text rest : List ℕ} → follow_at text ≡ Ok (Close, rest) → takes g n ≡ true → Walk s AnOperator (Call g n name ∷ i) text AnOperator i rest
  close_step {i} {g} {n} {name} {text} {rest} h y = follow_step h (ap (λ (t : Bool). cond t (Goes AnOperator i rest) (wrong_arguments name)) y)

  -- an operand begins the arguments
  operand_opens : {text : List ℕ} {f : Formula} {r : Ranges} {rest : List ℕ} → Operand s text f r rest → begins 41 (skipped text) ≡ false
  operand_opens {text} (leaf h) = no_close s text _ h
  operand_opens {text} (sign h v) = no_close s text _ h
  operand_opens {text} (group h v k) = no_close s text _ h
  operand_opens {text} (call h v) = no_close s text _ h

  level_opens : {l : ℕ} {text : List ℕ} {f : Formula} {r : Ranges} {rest : List ℕ} → Level s l text f r rest → begins 41 (skipped text) ≡ false
  level_opens (tightest h v) = operand_opens v
  level_opens (looser h v w) = level_opens v

  pub arguments_open : {g : Function} {text : List ℕ} {fs : Formulas} {r : Ranges} {rest : List ℕ} → Arguments s g text fs r rest → begins 41 (skipped text) ≡ false
  arguments_open (last v n) = level_opens v
  arguments_open (more v h w) = level_opens v

  mutual
    pub operand_walk : {text : List ℕ} {f : Formula} {r : Ranges} {rest : List ℕ} → Operand s text f r rest → (i : List Bracket) → Walk s AnOperand i text AnOperator i rest
    operand_walk (leaf h) i = lead_step h refl
    operand_walk (sign h v) i = joined (lead_step h refl) (operand_walk v i)
    operand_walk (group h v k) i = joined (lead_step h refl) (joined (level_walk v (Group ∷ i)) (follow_step k refl))
    operand_walk (call {left = left} h v) i = joined (lead_step h refl) (call_walk v left i)

    pub call_walk : {g : Function} {text : List ℕ} {fs : Formulas} {r : Ranges} {rest : List ℕ} → forms.Call s g text fs r rest → (name : ℕ) (i : List Bracket) → Walk s (ItsBracket g name) i text AnOperator i rest
    call_walk (bracketed {fs = fs} h v k y) name i = joined (bracket_step h) (joined (first_walk name (arguments_open v) (arguments_walk v 1 (count fs) name i (omega arith))) (close_step k y))

    -- n is the number of the first one, m of the last one
    pub arguments_walk : {g : Function} {text : List ℕ} {fs : Formulas} {r : Ranges} {rest : List ℕ} → Arguments s g text fs r rest → (n m name : ℕ) (i : List Bracket) → m + 1 ≡ n + count fs
        → Walk s AnOperand (Call g n name ∷ i) text AnOperator (Call g m name ∷ i) rest
    arguments_walk {g} {text} {rest = rest} (last v h) n m name i e =
        let same : n ≡ m = omega (arith, e) in
        subst (λ (k : ℕ). Walk s AnOperand (Call g n name ∷ i) text AnOperator (Call g k name ∷ i) rest) same (level_walk v (Call g n name ∷ i))
    arguments_walk {g} (more v h w) n m name i e =
        joined (level_walk v (Call g n name ∷ i)) (joined (follow_step h refl) (arguments_walk w (n + 1) m name i (omega (arith, e))))

    pub level_walk : {l : ℕ} {text : List ℕ} {f : Formula} {r : Ranges} {rest : List ℕ} → Level s l text f r rest → (i : List Bracket) → Walk s AnOperand i text AnOperator i rest
    level_walk (tightest h v) i = operand_walk v i
    level_walk (looser h v w) i = joined (level_walk v i) (chain_walk w i)

    pub chain_walk : {l : ℕ} {f g : Formula} {r t : Ranges} {text rest : List ℕ} → Chain s l f r text g t rest → (i : List Bracket) → Walk s AnOperator i text AnOperator i rest
    chain_walk (ends h) i = stay
    chain_walk (goes_on h e v w) i = joined (follow_step h refl) (joined (level_walk v i) (chain_walk w i))
