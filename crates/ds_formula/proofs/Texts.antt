-- The text of one argument more.
use Rattle.std.proofs.Common.{◌≡◌, ℕ, zero, suc, ◌+◌, ◌<◌, ◌≤◌, cond, is_ok, OnOk, Result, Ok, Err, List, [], ◌∷◌, ◌++◌, map, take, length, get_or, length-take, append_assoc, refl, sym, ap, ◌∙◌, arith}
use Rattle.std.proofs.lemmas.List.{take_all, append-nil, length-map}
use Rattle.std.specs.Global.{Vec}
use Rattle.ds_formula.specs.declared.content.Function.{Function}
use Rattle.ds_formula.specs.declared.content.Tree.{Tree}
use Rattle.ds_formula.specs.declared.content.Tree.TheVariants.{Call}
use Rattle.ds_formula.specs.Plain.{Formula, listed, formula}
use Rattle.ds_formula.specs.Functions.{name_of}
use Rattle.ds_formula.specs.Texts.{text_of, texts_of, others_of}
use Rattle.ds_formula.proofs.Views.{formula_call}
use Rattle.ds_formula.proofs.Counts.{one_more}

others_more : (fs : List Formula) (f : Formula) → others_of (listed (fs ++ f ∷ [])) ≡ others_of (listed fs) ++ (59 ∷ text_of f)
others_more [] f = ap (λ (x : List ℕ). 59 ∷ x) (append-nil (text_of f))
others_more (g ∷ fs) f = ap (λ (x : List ℕ). 59 ∷ (text_of g ++ x)) (others_more fs f) ∙ ap (λ (x : List ℕ). 59 ∷ x) (sym (append_assoc (text_of g) (others_of (listed fs)) (59 ∷ text_of f)))

-- the semicolon before an argument that isn't the first one
abbrev pub separator : ℕ → List ℕ
separator zero = []
separator (suc n) = 59 ∷ []

-- nothing stands before the first argument
pub no_separator : (i : ℕ) → i ≤ 0 → separator i ≡ []
no_separator zero h = refl
no_separator (suc n) h = absurd (omega (arith, h))

-- a semicolon stands before each further argument
pub some_separator : (i : ℕ) → 0 < i → separator i ≡ 59 ∷ []
some_separator zero h = absurd (omega (arith, h))
some_separator (suc n) h = refl

texts_more : (fs : List Formula) (f : Formula) → texts_of (listed (fs ++ f ∷ [])) ≡ texts_of (listed fs) ++ (separator (length fs) ++ text_of f)
texts_more [] f = append-nil (text_of f)
texts_more (g ∷ fs) f = ap (λ (x : List ℕ). text_of g ++ x) (others_more fs f) ∙ sym (append_assoc (text_of g) (others_of (listed fs)) (59 ∷ text_of f))

texts_step : (ts : List Tree) (i : ℕ) (t : Tree) → i < length ts → t ≡ get_or ts i t → texts_of (listed (map formula (take (i + 1) ts))) ≡ texts_of (listed (map formula (take i ts))) ++ (separator i ++ text_of (formula t))
texts_step ts i t h e =
    let n : length (map formula (take i ts)) ≡ i = simp (length-map, length-take) (omega arith) in
    ap (λ (x : List Formula). texts_of (listed x)) (one_more ts i t h e) ∙ texts_more (map formula (take i ts)) (formula t)
    ∙ ap (λ (k : ℕ). texts_of (listed (map formula (take i ts))) ++ (separator k ++ text_of (formula t))) n

-- its separator and one argument more extend the text of the arguments so far
pub argument_written : (ts : List Tree) (i : ℕ) (t : Tree) (start mid parted new : List ℕ) → i < length ts → t ≡ get_or ts i t → mid ≡ start ++ texts_of (listed (map formula (take i ts))) → parted ≡ mid ++ separator i → new ≡ parted ++ text_of (formula t)
    → new ≡ start ++ texts_of (listed (map formula (take (i + 1) ts)))
argument_written ts i t start mid parted new h e p q r =
    let before = texts_of (listed (map formula (take i ts))) in
    let x : new ≡ ((start ++ before) ++ separator i) ++ text_of (formula t) = cc in
    let y : ((start ++ before) ++ separator i) ++ text_of (formula t) ≡ start ++ (before ++ (separator i ++ text_of (formula t))) = simp append_assoc in
    x ∙ y ∙ ap (λ (z : List ℕ). start ++ z) (sym (texts_step ts i t h e))

-- a function's name, and its arguments in brackets, are the text of the call
pub call_written : {A E : Type 0} (r : Result A E) (g : Function) (v : Vec Tree) (ts : List Tree) (i : ℕ) (tree : Tree) (old named opened looped new : List ℕ)
    → tree ≡ Call g v → ts ≡ v.items → length ts ≤ i → named ≡ old ++ name_of g → opened ≡ named ++ 40 ∷ [] → looped ≡ opened ++ texts_of (listed (map formula (take i ts))) → new ≡ cond (is_ok r) (looped ++ 41 ∷ []) looped
    → OnOk r (new ≡ old ++ text_of (formula tree))
call_written (Err e) g v ts i tree old named opened looped new p q l h1 h2 h3 h4 = tt
call_written (Ok a) g v ts i tree old named opened looped new p q l h1 h2 h3 h4 =
    let all = texts_of (listed (map formula v.items)) in
    let t : texts_of (listed (map formula (take i ts))) ≡ all = ap (λ (x : List Tree). texts_of (listed (map formula x))) (take_all i ts l ∙ q) in
    let x : new ≡ (((old ++ name_of g) ++ 40 ∷ []) ++ all) ++ 41 ∷ [] = cc in
    let y : (((old ++ name_of g) ++ 40 ∷ []) ++ all) ++ 41 ∷ [] ≡ old ++ (name_of g ++ (40 ∷ (all ++ 41 ∷ []))) = simp append_assoc in
    x ∙ y ∙ ap (λ (f : Formula). old ++ text_of f) (sym (ap formula p ∙ formula_call g v))
