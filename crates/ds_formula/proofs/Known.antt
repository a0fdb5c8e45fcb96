-- What was read calls known functions alone.
use Rattle.std.proofs.Common.{◌≡◌, ℕ, ◌-◌, ◌^◌, pos, Bool, true, false, cond, eqb, List, [], ◌∷◌, drop, Option, Some, None, Ok, Err, refl, ap, subst}
use Rattle.std.specs.Option.{is_some}
use Rattle.std.specs.Char.{is_ascii_digit, is_ascii_alphabetic}
use Rattle.ds_formula.specs.declared.content.Sign.TheVariants.{Plus, Minus}
use Rattle.ds_formula.specs.declared.content.Function.{Function}
use Rattle.ds_formula.specs.declared.content.Function.TheVariants.{Sum, Min, Max, Abs, Mod, Quotient, If, Count, And, Or, Not}
use Rattle.ds_formula.specs.declared.ranges.Ranges.{Ranges}
use Rattle.ds_formula.specs.declared.tokens.Leaf.{Leaf}
use Rattle.ds_formula.specs.declared.tokens.Leaf.TheVariants.{Number, Reference, Range}
use Rattle.ds_formula.specs.declared.tokens.Lead.{Lead}
use Rattle.ds_formula.specs.declared.tokens.Lead.TheVariants as leads
use Rattle.ds_formula.specs.Plain.{Formula, Formulas, PlainContent}
use Rattle.ds_formula.specs.Bytes.{Read, ◌>>=◌, unexpected_stop, skipped, number_at}
use Rattle.ds_formula.specs.References.{reference_at}
use Rattle.ds_formula.specs.Functions.{Scope, name_of, is_name_of, function_named, knows}
use Rattle.ds_formula.specs.Uses.{CallsOnly, AllCallOnly, ContentCallsOnly}
use Rattle.ds_formula.specs.Tokens.{word_length, word_at, known, name_at, lead_of, lead_at}
use Rattle.ds_formula.specs.Forms.{leaf_formula, Operand, leaf, sign, group, call, Call, bracketed, Arguments, last, more, Level, tightest, looser, Chain, ends, goes_on}
use Rattle.ds_formula.specs.Grammar.{ReadsLongIn, blank, constant, computed}
use Rattle.ds_formula.proofs.Formed.{either, bind}

-- a function has its own name
own_name : (g : Function) → is_name_of g (name_of g) ≡ true
own_name Sum = refl
own_name Min = refl
own_name Max = refl
own_name Abs = refl
own_name Mod = refl
own_name Quotient = refl
own_name If = refl
own_name Count = refl
own_name And = refl
own_name Or = refl
own_name Not = refl

some_or : (t : Bool) (f : Function) (x : Option Function) → is_some x ≡ true → is_some (cond t (Some f) x) ≡ true
some_or true f x h = refl
some_or false f x h = h

-- what has the name is of the list, or it is the first one
named_there : (t : Bool) (f g : Function) (x y : Option Function) → cond t (Some f) x ≡ Some g → (x ≡ Some g → is_some y ≡ true) → is_some (cond (is_name_of f (name_of g)) (Some f) y) ≡ true
named_there true f g x y e h = let p : f ≡ g = cc in subst (λ (k : Function). is_some (cond (is_name_of f (name_of k)) (Some f) y) ≡ true) p (ap (λ (b : Bool). is_some (cond b (Some f) y)) (own_name f))
named_there false f g x y e h = some_or (is_name_of f (name_of g)) f y (h e)

named_known : (functions : List Function) (name : List ℕ) (g : Function) → function_named functions name ≡ Some g → is_some (function_named functions (name_of g)) ≡ true
named_known [] name g e = absurd cc
named_known (f ∷ fs) name g e = named_there (is_name_of f name) f g (function_named fs name) (function_named fs (name_of g)) e (named_known fs name g)

pub is_known : (functions : List Function) (name : List ℕ) (g : Function) → function_named functions name ≡ Some g → knows functions g ≡ true
unfolding knows
is_known functions name g e = named_known functions name g e

-- ---- names that are read

abbrev LeadKnown : List Function → Read Lead → Type 0
LeadKnown functions (Ok (leads.Leaf l, rest)) = Unit {0}
LeadKnown functions (Ok (leads.Prefix g, rest)) = Unit {0}
LeadKnown functions (Ok (leads.Open, rest)) = Unit {0}
LeadKnown functions (Ok (leads.Name g n, rest)) = knows functions g ≡ true
LeadKnown functions (Err e) = Unit {0}

known_known : (functions : List Function) (text name rest : List ℕ) (x : Option Function) → function_named functions name ≡ x → LeadKnown functions (known text x rest)
known_known functions text name rest (Some g) e = is_known functions name g e
known_known functions text name rest None e = tt

name_known : (functions : List Function) (text : List ℕ) → LeadKnown functions (name_at functions text)
unfolding name_at
name_known functions text = known_known functions text (word_at text) (drop (word_length text) text) (function_named functions (word_at text)) refl

lead_known : (s : Scope) (text : List ℕ) → LeadKnown s.functions (lead_of s text)
unfolding lead_of
lead_known s [] = tt
lead_known s (b ∷ bs) =
    let P : Read Lead → Type 0 = LeadKnown s.functions in
    let text : List ℕ = b ∷ bs in
    let none : Read Lead = Err (unexpected_stop text) in
    let y5 : Read Lead = cond (is_ascii_alphabetic b) (name_at s.functions text) none in
    let y4 : Read Lead = cond (is_ascii_digit b) (number_at (2 ^ 63 - 1) text >>= λ x. Ok (leads.Leaf (Number (pos x.0)), x.1)) y5 in
    let y3 : Read Lead = cond (eqb b 91) (reference_at s.shape text >>= λ x. Ok (leads.Leaf x.0, x.1)) y4 in
    let y2 : Read Lead = cond (eqb b 45) (Ok (leads.Prefix Minus, bs)) y3 in
    let y1 : Read Lead = cond (eqb b 43) (Ok (leads.Prefix Plus, bs)) y2 in
    either P (eqb b 40) (Ok (leads.Open, bs)) y1 (λ _. tt)
    (λ _. either P (eqb b 43) (Ok (leads.Prefix Plus, bs)) y2 (λ _. tt)
    (λ _. either P (eqb b 45) (Ok (leads.Prefix Minus, bs)) y3 (λ _. tt)
    (λ _. either P (eqb b 91) (reference_at s.shape text >>= λ x. Ok (leads.Leaf x.0, x.1)) y4 (λ _. bind P (reference_at s.shape text) (λ x. Ok (leads.Leaf x.0, x.1)) (λ _. tt) (λ _. tt))
    (λ _. either P (is_ascii_digit b) (number_at (2 ^ 63 - 1) text >>= λ x. Ok (leads.Leaf (Number (pos x.0)), x.1)) y5 (λ _. bind P (number_at (2 ^ 63 - 1) text) (λ x. Ok (leads.Leaf (Number (pos x.0)), x.1)) (λ _. tt) (λ _. tt))
    (λ _. either P (is_ascii_alphabetic b) (name_at s.functions text) none (λ _. name_known s.functions text) (λ _. tt))))))

called_known : (s : Scope) (text : List ℕ) (g : Function) (n : ℕ) (rest : List ℕ) → lead_at s text ≡ Ok (leads.Name g n, rest) → knows s.functions g ≡ true
unfolding lead_at
called_known s text g n rest e = subst (λ (x : Read Lead). LeadKnown s.functions x) e (lead_known s (skipped text))

leaf_calls : (functions : List Function) (l : Leaf) → CallsOnly functions (leaf_formula l)
leaf_calls functions (Number n) = tt
leaf_calls functions (Reference c) = tt
leaf_calls functions (Range r n) = tt

module _ {s : Scope} where
  mutual
    operand_calls : {text rest : List ℕ} {f : Formula} {r : Ranges} → Operand s text f r rest → CallsOnly s.functions f
    operand_calls (leaf {l = l} h) = leaf_calls s.functions l
    operand_calls (sign h v) = operand_calls v
    operand_calls (group h v k) = level_calls v
    operand_calls {text} (call {mid = mid} {g = g} {left = left} h v) = (called_known s text g left mid h, call_calls v)

    call_calls : {g : Function} {text rest : List ℕ} {fs : Formulas} {r : Ranges} → Call s g text fs r rest → AllCallOnly s.functions fs
    call_calls (bracketed h v k y) = arguments_call v

    arguments_call : {g : Function} {text rest : List ℕ} {fs : Formulas} {r : Ranges} → Arguments s g text fs r rest → AllCallOnly s.functions fs
    arguments_call (last v n) = (level_calls v, tt)
    arguments_call (more v h w) = (level_calls v, arguments_call w)

    level_calls : {l : ℕ} {text rest : List ℕ} {f : Formula} {r : Ranges} → Level s l text f r rest → CallsOnly s.functions f
    level_calls (tightest h v) = operand_calls v
    level_calls (looser h v w) = chain_calls w (level_calls v)

    chain_calls : {l : ℕ} {text rest : List ℕ} {f g : Formula} {r t : Ranges} → Chain s l f r text g t rest → CallsOnly s.functions f → CallsOnly s.functions g
    chain_calls (ends n) d = d
    chain_calls (goes_on h e v w) d = chain_calls w (d, level_calls v)

-- a content that was read in a scope calls functions of the scope alone
pub content_calls : (s : Scope) (text : List ℕ) (c : PlainContent) → ReadsLongIn s text c → ContentCallsOnly s.functions c
content_calls s text c blank = tt
content_calls s text c (constant t z l n e) = tt
content_calls s text c (computed t b f r n e m k) = level_calls e.2
