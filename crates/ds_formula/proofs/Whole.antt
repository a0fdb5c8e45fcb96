-- A text has one content or one fault.
use Rattle.std.proofs.Common.{◌≡◌, ℕ, ℤ, ◌≤◌, List, [], ◌∷◌, length, Option, Some, None, Result, Ok, Err, IfOk, IfErr, inr, refl, sym, ap, subst, ◌∙◌, arith}
use Rattle.ds_formula.specs.declared.cells.Shape.{Shape}
use Rattle.ds_formula.specs.declared.content.Content.{Content}
use Rattle.ds_formula.specs.declared.reading.TheConstants.{TEXT_LIMIT}
use Rattle.ds_formula.specs.declared.fault.TextFault.{TextFault}
use Rattle.ds_formula.specs.declared.ranges.Ranges.{Ranges}
use Rattle.ds_formula.specs.declared.tokens.Stop.{Stop}
use Rattle.ds_formula.specs.declared.tokens.Follow.TheVariants.{End}
use Rattle.ds_formula.specs.Functions.{Scope, scope_of}
use Rattle.ds_formula.specs.Plain.{Formula, PlainContent, plain, Empty, Constant, Computed}
use Rattle.ds_formula.specs.Ranges.{misplaced}
use Rattle.ds_formula.specs.Tokens.{follow_at}
use Rattle.ds_formula.specs.Forms.{Expression}
use Rattle.ds_formula.specs.Turns.{Bracket, Due, AnOperand, AnOperator, Goes, Stops, Ends, by_follow, turn, Walk, stay, step, Faulty}
use Rattle.ds_formula.specs.Sizes.{Fits}
use Rattle.ds_formula.specs.Grammar.{expression_of, placed, ReadsLongIn, blank, constant, computed, Reads, FaultsLongIn, in_constant, in_formula, range, too_deep, Faults, too_long, within, Answers}
use Rattle.ds_formula.specs.Parsing.{IsAccepted, IsRefused, misplaced_range, too_large}
use Rattle.ds_formula.proofs.Walks.{level_walk}
use Rattle.ds_formula.proofs.Unique.{one_level}

-- no token leads on
abbrev Stuck : Scope → Due → List Bracket → List ℕ → Type 0
Stuck s d i text = (e : Due) (j : List Bracket) (next : List ℕ) → turn s d i text ≡ Goes e j next → ⊥

record SamePlace (d e : Due) (i j : List Bracket) (x y : List ℕ) : Type 0 where
  due : d ≡ e
  brackets : i ≡ j
  rest : x ≡ y

same_walk : {s : Scope} {d d' e f : Due} {i i' j k : List Bracket} {text text' x y : List ℕ} → d ≡ d' → i ≡ i' → text ≡ text' → Walk s d i text e j x → Stuck s e j x → Walk s d' i' text' f k y → Stuck s f k y → SamePlace e f j k x y
same_walk pd pi p stay st stay su = record { due = pd; brackets = pi; rest = p }
same_walk {s} pd pi p stay st (step {e = e2} {j = j2} {next = next2} h2 v2) su = absurd (st e2 j2 next2 cc)
same_walk {s} pd pi p (step {e = e1} {j = j1} {next = next1} h v) st stay su = absurd (su e1 j1 next1 cc)
same_walk {s} pd pi p (step {e = e1} {j = j1} {next = next1} h v) st (step {e = e2} {j = j2} {next = next2} h2 v2) su =
    let q : Goes e1 j1 next1 ≡ Goes e2 j2 next2 = cc in
    same_walk (cc) (cc) (cc) v st v2 su

stuck_fault : (s : Scope) (d : Due) (i : List Bracket) (text : List ℕ) (stop : Stop) → turn s d i text ≡ Stops stop → Stuck s d i text
stuck_fault s d i text stop h e j next k = cc

ends_here : (s : Scope) (mid rest : List ℕ) → follow_at mid ≡ Ok (End, rest) → turn s AnOperator [] mid ≡ Ends
ends_here s mid rest h = ap (by_follow [] mid) h

stuck_end : (s : Scope) (mid : List ℕ) → turn s AnOperator [] mid ≡ Ends → Stuck s AnOperator [] mid
stuck_end s mid h e j next k = cc

one_expression : (s : Scope) (text text' : List ℕ) (f g : Formula) (r t : Ranges) → text ≡ text' → Expression s text f r → Expression s text' g t → (f ≡ g) × (r ≡ t)
one_expression s text text' f g r t p a b = let d = one_level p a.2 b.2 in (d.form, d.ranges)

not_both : (s : Scope) (text text' : List ℕ) (f : Formula) (r : Ranges) (stop : Stop) → text ≡ text' → Expression s text f r → Faulty s AnOperand [] text' stop → ⊥
not_both s text text' f r stop p a b =
    let e = ends_here s a.0 a.1 a.3 in
    let same = same_walk refl refl p (level_walk a.2 []) (stuck_end s a.0 e) b.3 (stuck_fault s b.0 b.1 b.2 stop b.4) in
    let p0 = same.due in
    let p1 = same.brackets in
    let p2 = same.rest in
    let q : turn s AnOperator [] a.0 ≡ turn s b.0 b.1 b.2 = cc in
    let k = b.4 in
    cc

one_stop : (s : Scope) (text text' : List ℕ) (u v : Stop) → text ≡ text' → Faulty s AnOperand [] text u → Faulty s AnOperand [] text' v → u ≡ v
one_stop s text text' u v p a b =
    let same = same_walk refl refl p a.3 (stuck_fault s a.0 a.1 a.2 u a.4) b.3 (stuck_fault s b.0 b.1 b.2 v b.4) in
    let p0 = same.due in
    let p1 = same.brackets in
    let p2 = same.rest in
    let q : turn s a.0 a.1 a.2 ≡ turn s b.0 b.1 b.2 = cc in
    let k = a.4 in
    let m = b.4 in
    cc

-- ---- contents

abbrev nothing : Option (List ℕ)
nothing = None

abbrev done : ℤ → Result ℤ Stop
done z = Ok z

abbrev failed : Stop → Result ℤ Stop
failed e = Err e

same_done : (x y : ℤ) → done x ≡ done y → x ≡ y
same_done x y e = cc

same_failed : (x y : Stop) → failed x ≡ failed y → x ≡ y
same_failed x y e = cc

abbrev body_is : List ℕ → Option (List ℕ)
body_is x = Some x

same_body : (text x y : List ℕ) → expression_of text ≡ body_is x → expression_of text ≡ body_is y → x ≡ y
same_body text x y h k = let e : body_is x ≡ body_is y = sym h ∙ k in cc

no_body : (text x : List ℕ) → expression_of text ≡ nothing → expression_of text ≡ body_is x → ⊥
no_body text x h k = let e : nothing ≡ body_is x = sym h ∙ k in cc

empty_body : (x : List ℕ) → expression_of [] ≡ body_is x → ⊥
unfolding expression_of
empty_body x h = cc

content_of : (s : Scope) (text : List ℕ) (c d : PlainContent) → ReadsLongIn s text c → ReadsLongIn s text d → c ≡ d
content_of s text c d blank blank = refl
content_of s text c d blank (constant t2 z2 l2 n2 e2) = absurd (omega (arith, l2))
content_of s text c d blank (computed t2 b2 f2 r2 n2 e2 m2 k2) = absurd (empty_body b2 n2)
content_of s text c d (constant t z l n e) blank = absurd (omega (arith, l))
content_of s text c d (constant t z l n e) (constant t2 z2 l2 n2 e2) = ap Constant (same_done z z2 (sym e ∙ e2))
content_of s text c d (constant t z l n e) (computed t2 b2 f2 r2 n2 e2 m2 k2) = absurd (no_body t b2 n n2)
content_of s text c d (computed t b f r n e m k) blank = absurd (empty_body b n)
content_of s text c d (computed t b f r n e m k) (constant t2 z2 l2 n2 e2) = absurd (no_body t b n2 n)
content_of s text c d (computed t b f r n e m k) (computed t2 b2 f2 r2 n2 e2 m2 k2) = ap Computed (one_expression s b b2 f f2 r r2 (same_body t b b2 n n2) e e2).0

-- a text has no two contents
pub only_content : (s : Shape) (text : List ℕ) (c d : PlainContent) → Reads s text c → Reads s text d → c ≡ d
only_content s text c d a b = content_of (scope_of s) text c d a.reads b.reads

placed_or_not : (r t : Ranges) (left : ℕ) → r ≡ t → misplaced r ≡ None → misplaced t ≡ Some left → ⊥
placed_or_not r t left p h k = let e : misplaced r ≡ misplaced t = ap misplaced p in cc

both_of : (s : Scope) (text : List ℕ) (c : PlainContent) (x : TextFault) → ReadsLongIn s text c → FaultsLongIn s text x → ⊥
both_of s text c x blank (in_constant t2 p2 l2 n2 e2) = omega (arith, l2)
both_of s text c x blank (in_formula t2 b2 p2 n2 e2) = empty_body b2 n2
both_of s text c x blank (range t2 b2 f2 r2 left2 n2 e2 m2) = empty_body b2 n2
both_of s text c x blank (too_deep t2 b2 f2 r2 n2 e2 m2 k2) = empty_body b2 n2
both_of s text c x (constant t z l n e) (in_constant t2 p2 l2 n2 e2) = cc
both_of s text c x (constant t z l n e) (in_formula t2 b2 p2 n2 e2) = no_body t b2 n n2
both_of s text c x (constant t z l n e) (range t2 b2 f2 r2 left2 n2 e2 m2) = no_body t b2 n n2
both_of s text c x (constant t z l n e) (too_deep t2 b2 f2 r2 n2 e2 m2 k2) = no_body t b2 n n2
both_of s text c x (computed t b f r n e m k) (in_constant t2 p2 l2 n2 e2) = no_body t b n2 n
both_of s text c x (computed t b f r n e m k) (in_formula t2 b2 p2 n2 e2) = not_both s b b2 f r p2 (same_body t b b2 n n2) e e2
both_of s text c x (computed t b f r n e m k) (range t2 b2 f2 r2 left2 n2 e2 m2) = placed_or_not r r2 left2 (one_expression s b b2 f f2 r r2 (same_body t b b2 n n2) e e2).1 m m2
both_of s text c x (computed t b f r n e m k) (too_deep t2 b2 f2 r2 n2 e2 m2 k2) = k2 (subst Fits (one_expression s b b2 f f2 r r2 (same_body t b b2 n n2) e e2).0 k)

-- a text that has a content has no fault
pub only_one : (s : Shape) (text : List ℕ) (c : PlainContent) (x : TextFault) → Reads s text c → Faults s text x → ⊥
only_one s text c x a (too_long l) = omega (arith, a.short, l)
only_one s text c x a (within x2 l f) = both_of (scope_of s) text c x a.reads f

same_left : (r t : Ranges) (a b : ℕ) → r ≡ t → misplaced r ≡ Some a → misplaced t ≡ Some b → a ≡ b
same_left r t a b p h k = let e : misplaced r ≡ misplaced t = ap misplaced p in cc

fault_of : (s : Scope) (text : List ℕ) (x y : TextFault) → FaultsLongIn s text x → FaultsLongIn s text y → x ≡ y
fault_of s text x y (in_constant t p l n e) (in_constant t2 p2 l2 n2 e2) = ap (placed t) (same_failed p p2 (sym e ∙ e2))
fault_of s text x y (in_constant t p l n e) (in_formula t2 b2 p2 n2 e2) = absurd (no_body t b2 n n2)
fault_of s text x y (in_constant t p l n e) (range t2 b2 f2 r2 left2 n2 e2 m2) = absurd (no_body t b2 n n2)
fault_of s text x y (in_constant t p l n e) (too_deep t2 b2 f2 r2 n2 e2 m2 k2) = absurd (no_body t b2 n n2)
fault_of s text x y (in_formula t b p n e) (in_constant t2 p2 l2 n2 e2) = absurd (no_body t b n2 n)
fault_of s text x y (in_formula t b p n e) (in_formula t2 b2 p2 n2 e2) = ap (placed t) (one_stop s b b2 p p2 (same_body t b b2 n n2) e e2)
fault_of s text x y (in_formula t b p n e) (range t2 b2 f2 r2 left2 n2 e2 m2) = absurd (not_both s b2 b f2 r2 p (same_body t b2 b n2 n) e2 e)
fault_of s text x y (in_formula t b p n e) (too_deep t2 b2 f2 r2 n2 e2 m2 k2) = absurd (not_both s b2 b f2 r2 p (same_body t b2 b n2 n) e2 e)
fault_of s text x y (range t b f r left n e m) (in_constant t2 p2 l2 n2 e2) = absurd (no_body t b n2 n)
fault_of s text x y (range t b f r left n e m) (in_formula t2 b2 p2 n2 e2) = absurd (not_both s b b2 f r p2 (same_body t b b2 n n2) e e2)
fault_of s text x y (range t b f r left n e m) (range t2 b2 f2 r2 left2 n2 e2 m2) =
    let q : left ≡ left2 = same_left r r2 left left2 (one_expression s b b2 f f2 r r2 (same_body t b b2 n n2) e e2).1 m m2 in
    cc
fault_of s text x y (range t b f r left n e m) (too_deep t2 b2 f2 r2 n2 e2 m2 k2) = absurd (placed_or_not r2 r left (one_expression s b2 b f2 f r2 r (same_body t b2 b n2 n) e2 e).1 m2 m)
fault_of s text x y (too_deep t b f r n e m k) (in_constant t2 p2 l2 n2 e2) = absurd (no_body t b n2 n)
fault_of s text x y (too_deep t b f r n e m k) (in_formula t2 b2 p2 n2 e2) = absurd (not_both s b b2 f r p2 (same_body t b b2 n n2) e e2)
fault_of s text x y (too_deep t b f r n e m k) (range t2 b2 f2 r2 left2 n2 e2 m2) = absurd (placed_or_not r r2 left2 (one_expression s b b2 f f2 r r2 (same_body t b b2 n n2) e e2).1 m m2)
fault_of s text x y (too_deep t b f r n e m k) (too_deep t2 b2 f2 r2 n2 e2 m2 k2) = refl

-- a text has no two faults
pub only_fault : (s : Shape) (text : List ℕ) (x y : TextFault) → Faults s text x → Faults s text y → x ≡ y
only_fault s text x y (too_long l) (too_long l2) = refl
only_fault s text x y (too_long l) (within x2 l2 f2) = absurd (omega (arith, l, l2))
only_fault s text x y (within x1 l f) (too_long l2) = absurd (omega (arith, l, l2))
only_fault s text x y (within x1 l f) (within x2 l2 f2) = fault_of (scope_of s) text x y f f2

-- ---- the answer

-- an empty text has the blank content
pub blank_read : (s : Shape) (text : List ℕ) → length text ≡ 0 → Reads s text Empty
blank_read s [] h = record { short = omega arith; reads = blank }
blank_read s (b ∷ bs) h = absurd (omega (arith, h))

refused : (s : Scope) (text body : List ℕ) (f : Formula) (r : Ranges) (e : TextFault) → expression_of text ≡ Some body → Expression s body f r → IsRefused text r f e → FaultsLongIn s text e
refused s text body f r e b v (misplaced_range left h) = range text body f r left b v h
refused s text body f r e b v (too_large h k) = too_deep text body f r b v h k

-- a formula's answer is right where it accepts or refuses the expression that is the whole text
pub formula_answer : (s : Shape) (text body : List ℕ) (f : Formula) (r : Ranges) (x : Result Content TextFault) → length text ≤ TEXT_LIMIT → expression_of text ≡ Some body → Expression (scope_of s) body f r
    → IfOk x (λ c. IsAccepted r f (plain c)) → IfErr x (λ e. IsRefused text r f e) → Answers s text x
formula_answer s text body f r (Ok c) l b v ok err = subst (λ (p : PlainContent). Reads s text p) (sym ok.is) (record { short = l; reads = computed text body f r b v ok.placed ok.fits })
formula_answer s text body f r (Err e) l b v ok err = inr (within e l (refused (scope_of s) text body f r e b v err))
