-- At the front of a text stands one form.
use Rattle.std.proofs.Common.{◌≡◌, ℕ, List, Result, Ok, sym, ap, ◌∙◌, arith}
use Rattle.ds_formula.specs.declared.content.Function.{Function}
use Rattle.ds_formula.specs.declared.ranges.Ranges.{Ranges}
use Rattle.ds_formula.specs.declared.tokens.Stop.{Stop}
use Rattle.ds_formula.specs.declared.tokens.Lead.{Lead}
use Rattle.ds_formula.specs.declared.tokens.Follow.{Follow}
use Rattle.ds_formula.specs.Functions.{Scope}
use Rattle.ds_formula.specs.Plain.{Formula, Formulas}
use Rattle.ds_formula.specs.Bytes.{Read, skipped, byte_at}
use Rattle.ds_formula.specs.Ranges.{used}
use Rattle.ds_formula.specs.Tokens.{lead_at, follow_at}
use Rattle.ds_formula.specs.Forms.{Operand, leaf, sign, group, call, Call, bracketed, Arguments, last, more, Level, tightest, looser, Chain, ends, goes_on, leaf_formula, leaf_ranges}

pub record Same (A : Type 0) (f g : A) (r t : Ranges) (x y : List ℕ) : Type 0 where
  pub form : f ≡ g
  pub ranges : r ≡ t
  pub behind : x ≡ y

abbrev read_lead : Lead × List ℕ → Read Lead
read_lead x = Ok x

lead_is : (x y : Lead × List ℕ) → read_lead x ≡ read_lead y → x ≡ y
lead_is x y e = cc

abbrev read_follow : Follow × List ℕ → Read Follow
read_follow x = Ok x

follow_is : (x y : Follow × List ℕ) → read_follow x ≡ read_follow y → x ≡ y
follow_is x y e = cc

-- one token at the front
both : (s : Scope) (text text' : List ℕ) (t u : Lead) (x y : List ℕ) → text ≡ text' → lead_at s text ≡ Ok (t, x) → lead_at s text' ≡ Ok (u, y) → (t ≡ u) × (x ≡ y)
both s text text' t u x y p h k =
    let e = lead_is (t, x) (u, y) (sym h ∙ ap (lead_at s) p ∙ k) in
    (ap (λ (z : Lead × List ℕ). z.0) e, ap (λ (z : Lead × List ℕ). z.1) e)

pub both_follow : (text text' : List ℕ) (t u : Follow) (x y : List ℕ) → text ≡ text' → follow_at text ≡ Ok (t, x) → follow_at text' ≡ Ok (u, y) → (t ≡ u) × (x ≡ y)
both_follow text text' t u x y p h k =
    let e = follow_is (t, x) (u, y) (sym h ∙ ap follow_at p ∙ k) in
    (ap (λ (z : Follow × List ℕ). z.0) e, ap (λ (z : Follow × List ℕ). z.1) e)

abbrev opened : List ℕ → Result (List ℕ) Stop
opened x = Ok x

opened_is : (x y : List ℕ) → opened x ≡ opened y → x ≡ y
opened_is x y e = cc

module _ {s : Scope} where
  mutual
    pub one_operand : {text text' : List ℕ} {f g : Formula} {r t : Ranges} {x y : List ℕ} → text ≡ text' → Operand s text f r x → Operand s text' g t y → Same Formula f g r t x y
    one_operand p (leaf {l = l} h) (leaf {l = m} h2) =
        let e = both s _ _ _ _ _ _ p h h2 in
        let q : l ≡ m = (let e0 = e.0 in cc) in
        record { form = ap leaf_formula q; ranges = ap leaf_ranges q; behind = e.1 }
    one_operand p (leaf h) (sign h2 v2) = absurd (let e = (both s _ _ _ _ _ _ p h h2).0 in cc)
    one_operand p (leaf h) (group h2 v2 k2) = absurd (let e = (both s _ _ _ _ _ _ p h h2).0 in cc)
    one_operand p (leaf h) (call h2 v2) = absurd (let e = (both s _ _ _ _ _ _ p h h2).0 in cc)
    one_operand p (sign h v) (leaf h2) = absurd (let e = (both s _ _ _ _ _ _ p h h2).0 in cc)
    one_operand p (sign h v) (sign h2 v2) =
        let e = both s _ _ _ _ _ _ p h h2 in
        let e0 = e.0 in
        let d = one_operand e.1 v v2 in
        let d0 = d.form in
        record { form = cc; ranges = ap used d.ranges; behind = d.behind }
    one_operand p (sign h v) (group h2 v2 k2) = absurd (let e = (both s _ _ _ _ _ _ p h h2).0 in cc)
    one_operand p (sign h v) (call h2 v2) = absurd (let e = (both s _ _ _ _ _ _ p h h2).0 in cc)
    one_operand p (group h v k) (leaf h2) = absurd (let e = (both s _ _ _ _ _ _ p h h2).0 in cc)
    one_operand p (group h v k) (sign h2 v2) = absurd (let e = (both s _ _ _ _ _ _ p h h2).0 in cc)
    one_operand p (group h v k) (group h2 v2 k2) =
        let d = one_level (both s _ _ _ _ _ _ p h h2).1 v v2 in
        record { form = d.form; ranges = d.ranges; behind = (both_follow _ _ _ _ _ _ d.behind k k2).1 }
    one_operand p (group h v k) (call h2 v2) = absurd (let e = (both s _ _ _ _ _ _ p h h2).0 in cc)
    one_operand p (call h v) (leaf h2) = absurd (let e = (both s _ _ _ _ _ _ p h h2).0 in cc)
    one_operand p (call h v) (sign h2 v2) = absurd (let e = (both s _ _ _ _ _ _ p h h2).0 in cc)
    one_operand p (call h v) (group h2 v2 k2) = absurd (let e = (both s _ _ _ _ _ _ p h h2).0 in cc)
    one_operand p (call {g = g} h v) (call {g = g2} h2 v2) =
        let e = both s _ _ _ _ _ _ p h h2 in
        let q : g ≡ g2 = (let e0 = e.0 in cc) in
        let d = one_call q e.1 v v2 in
        let d0 = d.form in
        record { form = cc; ranges = d.ranges; behind = d.behind }

    pub one_call : {g g' : Function} {text text' : List ℕ} {fs gs : Formulas} {r t : Ranges} {x y : List ℕ} → g ≡ g' → text ≡ text' → Call s g text fs r x → Call s g' text' gs t y → Same Formulas fs gs r t x y
    one_call q p (bracketed h v k c) (bracketed h2 v2 k2 c2) =
        let d = same_arguments q (opened_is _ _ (sym h ∙ ap (λ (z : List ℕ). byte_at 40 (skipped z)) p ∙ h2)) v v2 in
        record { form = d.form; ranges = d.ranges; behind = (both_follow _ _ _ _ _ _ d.behind k k2).1 }

    pub same_arguments : {g g' : Function} {text text' : List ℕ} {fs gs : Formulas} {r t : Ranges} {x y : List ℕ} → g ≡ g' → text ≡ text' → Arguments s g text fs r x → Arguments s g' text' gs t y → Same Formulas fs gs r t x y
    same_arguments q p (last v n) (last v2 n2) =
        let d = one_level p v v2 in
        let d0 = d.form in
        let d1 = d.ranges in
        record { form = cc; ranges = cc; behind = d.behind }
    same_arguments q p (last v n) (more {next = next} v2 h2 w2) = absurd (n next (ap follow_at (one_level p v v2).behind ∙ h2))
    same_arguments q p (more {next = next} v h w) (last v2 n2) = absurd (n2 next (ap follow_at (sym (one_level p v v2).behind) ∙ h))
    same_arguments q p (more v h w) (more v2 h2 w2) =
        let d = one_level p v v2 in
        let d0 = d.form in
        let d1 = d.ranges in
        let b = same_arguments q (both_follow _ _ _ _ _ _ d.behind h h2).1 w w2 in
        let b0 = b.form in
        let b1 = b.ranges in
        record { form = cc; ranges = cc; behind = b.behind }

    pub one_level : {l : ℕ} {text text' : List ℕ} {f g : Formula} {r t : Ranges} {x y : List ℕ} → text ≡ text' → Level s l text f r x → Level s l text' g t y → Same Formula f g r t x y
    one_level p (tightest e v) (tightest e2 v2) = one_operand p v v2
    one_level p (tightest e v) (looser e2 v2 w2) = absurd (omega (arith, e, e2))
    one_level p (looser e v w) (tightest e2 v2) = absurd (omega (arith, e, e2))
    one_level p (looser e v w) (looser e2 v2 w2) =
        let d = one_level p v v2 in
        one_chain d.form d.ranges d.behind w w2

    pub one_chain : {l : ℕ} {f f' g h : Formula} {r r' t u : Ranges} {text text' x y : List ℕ} → f ≡ f' → r ≡ r' → text ≡ text' → Chain s l f r text g t x → Chain s l f' r' text' h u y → Same Formula g h t u x y
    one_chain pf pr p (ends n) (ends n2) = record { form = pf; ranges = pr; behind = p }
    one_chain pf pr p (ends n) (goes_on {right = right} {o = o} h2 e2 v2 w2) = absurd (n o right (ap follow_at p ∙ h2) e2)
    one_chain pf pr p (goes_on {right = right} {o = o} h e v w) (ends n2) = absurd (n2 o right (ap follow_at (sym p) ∙ h) e)
    one_chain pf pr p (goes_on {o = o} h e v w) (goes_on {o = o2} h2 e2 v2 w2) =
        let b = both_follow _ _ _ _ _ _ p h h2 in
        let q : o ≡ o2 = (let b0 = b.0 in cc) in
        let d = one_level b.1 v v2 in
        let d0 = d.form in
        let d1 = d.ranges in
        one_chain (cc) (cc) d.behind w w2
