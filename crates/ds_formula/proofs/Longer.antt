-- With further functions a text has the same content, or the same fault, unless one of their names stands there.
use Rattle.std.proofs.Common.{◌≡◌, ◌⊎◌, inl, inr, ℕ, ◌-◌, Bool, true, false, cond, eqb, List, [], ◌∷◌, ◌++◌, drop, length, Option, Some, None, Ok, Err, refl, sym, ap, subst, ◌∙◌}
use Rattle.std.specs.Char.{is_ascii_digit, is_ascii_alphabetic}
use Rattle.ds_formula.specs.declared.cells.Shape.{Shape}
use Rattle.ds_formula.specs.declared.content.Function.{Function}
use Rattle.ds_formula.specs.declared.fault.FaultKind.TheVariants.{UnknownFunction}
use Rattle.ds_formula.specs.declared.fault.TextFault.{TextFault}
use Rattle.ds_formula.specs.declared.ranges.Ranges.{Ranges}
use Rattle.ds_formula.specs.declared.tokens.Stop.{Stop}
use Rattle.ds_formula.specs.declared.tokens.Lead.{Lead}
use Rattle.ds_formula.specs.Plain.{Formula, Formulas, PlainContent}
use Rattle.ds_formula.specs.Functions.{Scope, scope_with, is_name_of, function_named}
use Rattle.ds_formula.specs.Bytes.{Read, stop_at, begins, skipped}
use Rattle.ds_formula.specs.Tokens.{word_length, word_at, known, name_at, lead_of, lead_at}
use Rattle.ds_formula.specs.Forms.{Operand, leaf, sign, group, call, Call, bracketed, Arguments, last, more, Level, tightest, looser, Chain, ends, goes_on, Expression}
use Rattle.ds_formula.specs.Turns.{Bracket, Due, AnOperand, FirstArgument, ItsBracket, AnOperator, Goes, Stops, wrong_arguments, by_lead, turn, Walk, stay, step}
use Rattle.ds_formula.specs.Grammar.{ReadsLongIn, blank, constant, computed, ReadsIn, placed, FaultsLongIn, in_constant, in_formula, range, too_deep, FaultsIn, too_long, within, IsNameAmong}
use Rattle.ds_formula.proofs.Suffixes.{Behind, further, dropped, skipped_behind, walk_in, body_behind}

-- ---- names

named_cond : (t : Bool) (f g : Function) (x y : Option Function) → cond t (Some f) x ≡ Some g → (x ≡ Some g → y ≡ Some g) → cond t (Some f) y ≡ Some g
named_cond true f g x y e h = e
named_cond false f g x y e h = h e

-- the function that has a name in a list has it with further functions after it, too
pub named_longer : (old new : List Function) (name : List ℕ) (g : Function) → function_named old name ≡ Some g → function_named (old ++ new) name ≡ Some g
named_longer [] new name g e = absurd cc
named_longer (f ∷ fs) new name g e = named_cond (is_name_of f name) f g (function_named fs name) (function_named (fs ++ new) name) e (named_longer fs new name g)

unnamed_cond : (t : Bool) (f : Function) (x y z : Option Function) → cond t (Some f) x ≡ None → (x ≡ None → y ≡ z) → cond t (Some f) y ≡ z
unnamed_cond true f x y z e h = absurd cc
unnamed_cond false f x y z e h = h e

-- a name that the old functions don't have is left to the new ones
unnamed_longer : (old new : List Function) (name : List ℕ) → function_named old name ≡ None → function_named (old ++ new) name ≡ function_named new name
unnamed_longer [] new name e = refl
unnamed_longer (f ∷ fs) new name e = unnamed_cond (is_name_of f name) f (function_named fs name) (function_named (fs ++ new) name) (function_named new name) e (unnamed_longer fs new name)

-- the fault is a name at the front that one of the functions has
record NewName (functions : List Function) (text : List ℕ) (stop : Stop) : Type 0 where
  is : stop ≡ stop_at UnknownFunction text
  function : Function
  named : function_named functions (word_at text) ≡ Some function

abbrev done : Lead × List ℕ → Read Lead
done x = Ok x

abbrev failed : Stop → Read Lead
failed s = Err s

known_longer : (text rest : List ℕ) (a b : Option Function) (x : Lead × List ℕ) → ((g : Function) → a ≡ Some g → b ≡ Some g) → known text a rest ≡ done x → known text b rest ≡ done x
known_longer text rest (Some g) b x h e = ap (λ (o : Option Function). known text o rest) (h g refl) ∙ e
known_longer text rest None b x h e = absurd cc

known_stop : (new : List Function) (text rest : List ℕ) (a b c : Option Function) (s : Stop) → (a ≡ None → b ≡ c) → c ≡ function_named new (word_at text) → known text a rest ≡ failed s
    → (known text b rest ≡ failed s) ⊎ NewName new text s
known_stop new text rest (Some g) b c s h w e = absurd cc
known_stop new text rest None b None s h w e = inl (ap (λ (o : Option Function). known text o rest) (h refl) ∙ e)
known_stop new text rest None b (Some g) s h w e = inr (record { is = let p : failed (stop_at UnknownFunction text) ≡ failed s = e in cc; function = g; named = sym w })

-- ---- tokens where only what is after a letter differs

same_but : (t : Bool) (x a b y : Read Lead) → cond t x a ≡ y → (a ≡ y → b ≡ y) → cond t x b ≡ y
same_but true x a b y e h = e
same_but false x a b y e h = h e

same_letter : (t : Bool) (a b w y : Read Lead) → cond t a w ≡ y → (a ≡ y → b ≡ y) → cond t b w ≡ y
same_letter true a b w y e h = h e
same_letter false a b w y e h = e

or_but : (N : Type 0) (t : Bool) (x a b y : Read Lead) → cond t x a ≡ y → (a ≡ y → (b ≡ y) ⊎ N) → (cond t x b ≡ y) ⊎ N
or_but N true x a b y e h = inl e
or_but N false x a b y e h = h e

or_letter : (N : Type 0) (t : Bool) (a b w y : Read Lead) → cond t a w ≡ y → (a ≡ y → (b ≡ y) ⊎ N) → (cond t b w ≡ y) ⊎ N
or_letter N true a b w y e h = h e
or_letter N false a b w y e h = inl e

module _ (old new : List Function) (shape : Shape) where
  abbrev o : Scope
  o = scope_with old shape

  abbrev n : Scope
  n = scope_with (old ++ new) shape

  name_longer : (text : List ℕ) (x : Lead × List ℕ) → name_at old text ≡ done x → name_at (old ++ new) text ≡ done x
  unfolding name_at
  name_longer text x e =
      known_longer text (drop (word_length text) text) (function_named old (word_at text)) (function_named (old ++ new) (word_at text)) x (named_longer old new (word_at text)) e

  name_stop : (text : List ℕ) (s : Stop) → name_at old text ≡ failed s → (name_at (old ++ new) text ≡ failed s) ⊎ NewName new text s
  unfolding name_at
  name_stop text s e =
      known_stop new text (drop (word_length text) text) (function_named old (word_at text)) (function_named (old ++ new) (word_at text)) (function_named new (word_at text)) s (unnamed_longer old new (word_at text)) refl e

  lead_of_longer : (text : List ℕ) (x : Lead × List ℕ) → lead_of o text ≡ done x → lead_of n text ≡ done x
  unfolding lead_of
  lead_of_longer [] x e = e
  lead_of_longer (b ∷ bs) x e =
      same_but (eqb b 40) _ _ _ (done x) e (λ e1.
      same_but (eqb b 43) _ _ _ (done x) e1 (λ e2.
      same_but (eqb b 45) _ _ _ (done x) e2 (λ e3.
      same_but (eqb b 91) _ _ _ (done x) e3 (λ e4.
      same_but (is_ascii_digit b) _ _ _ (done x) e4 (λ e5.
      same_letter (is_ascii_alphabetic b) _ _ _ (done x) e5 (name_longer (b ∷ bs) x))))))

  lead_of_stop : (text : List ℕ) (s : Stop) → lead_of o text ≡ failed s → (lead_of n text ≡ failed s) ⊎ NewName new text s
  unfolding lead_of
  lead_of_stop [] s e = inl e
  lead_of_stop (b ∷ bs) s e =
      let N = NewName new (b ∷ bs) s in
      or_but N (eqb b 40) _ _ _ (failed s) e (λ e1.
      or_but N (eqb b 43) _ _ _ (failed s) e1 (λ e2.
      or_but N (eqb b 45) _ _ _ (failed s) e2 (λ e3.
      or_but N (eqb b 91) _ _ _ (failed s) e3 (λ e4.
      or_but N (is_ascii_digit b) _ _ _ (failed s) e4 (λ e5.
      or_letter N (is_ascii_alphabetic b) _ _ _ (failed s) e5 (name_stop (b ∷ bs) s))))))

  lead_longer : (text : List ℕ) (x : Lead × List ℕ) → lead_at o text ≡ done x → lead_at n text ≡ done x
  unfolding lead_at
  lead_longer text x e = lead_of_longer (skipped text) x e

  lead_stop : (text : List ℕ) (s : Stop) → lead_at o text ≡ failed s → (lead_at n text ≡ failed s) ⊎ NewName new (skipped text) s
  unfolding lead_at
  lead_stop text s e = lead_of_stop (skipped text) s e

  -- ---- forms

  mutual
    operand_longer : {text rest : List ℕ} {f : Formula} {r : Ranges} → Operand o text f r rest → Operand n text f r rest
    operand_longer {text} (leaf h) = leaf (lead_longer text _ h)
    operand_longer {text} (sign h v) = sign (lead_longer text _ h) (operand_longer v)
    operand_longer {text} (group h v k) = group (lead_longer text _ h) (level_longer v) k
    operand_longer {text} (call h v) = call (lead_longer text _ h) (call_longer v)

    call_longer : {g : Function} {text rest : List ℕ} {fs : Formulas} {r : Ranges} → Call o g text fs r rest → Call n g text fs r rest
    call_longer (bracketed h v k y) = bracketed h (arguments_longer v) k y

    arguments_longer : {g : Function} {text rest : List ℕ} {fs : Formulas} {r : Ranges} → Arguments o g text fs r rest → Arguments n g text fs r rest
    arguments_longer (last v h) = last (level_longer v) h
    arguments_longer (more v h w) = more (level_longer v) h (arguments_longer w)

    level_longer : {l : ℕ} {text rest : List ℕ} {f : Formula} {r : Ranges} → Level o l text f r rest → Level n l text f r rest
    level_longer (tightest h v) = tightest h (operand_longer v)
    level_longer (looser h v w) = looser h (level_longer v) (chain_longer w)

    chain_longer : {l : ℕ} {f g : Formula} {r t : Ranges} {text rest : List ℕ} → Chain o l f r text g t rest → Chain n l f r text g t rest
    chain_longer (ends h) = ends h
    chain_longer (goes_on h e v w) = goes_on h e (level_longer v) (chain_longer w)

  expression_longer : (text : List ℕ) (f : Formula) (r : Ranges) → Expression o text f r → Expression n text f r
  expression_longer text f r v = (v.0, v.1, level_longer v.2, v.3)

  long_longer : (text : List ℕ) (c : PlainContent) → ReadsLongIn o text c → ReadsLongIn n text c
  long_longer text c blank = blank
  long_longer text c (constant t z l e d) = constant t z l e d
  long_longer text c (computed t b f r e v m k) = computed t b f r e (expression_longer b f r v) m k

  pub content_longer : (text : List ℕ) (c : PlainContent) → ReadsIn o text c → ReadsIn n text c
  content_longer text c h = record { short = h.short; reads = long_longer text c h.reads }

  -- ---- walks

  by_lead_goes : (i : List Bracket) (text : List ℕ) (x : Read Lead) (e : Due) (j : List Bracket) (next : List ℕ) → lead_at o text ≡ x → by_lead i x ≡ Goes e j next → by_lead i (lead_at n text) ≡ Goes e j next
  by_lead_goes i text (Ok x) e j next h g = ap (by_lead i) (lead_longer text x h) ∙ g
  by_lead_goes i text (Err s) e j next h g = absurd cc

  by_lead_stops : (i : List Bracket) (text : List ℕ) (x : Read Lead) (s : Stop) → lead_at o text ≡ x → by_lead i x ≡ Stops s → (by_lead i (lead_at n text) ≡ Stops s) ⊎ NewName new (skipped text) s
  by_lead_stops i text (Ok x) s h g = inl (ap (by_lead i) (lead_longer text x h) ∙ g)
  by_lead_stops i text (Err u) s h g =
      let same : u ≡ s = cc in
      elim (lead_stop text u h) [
        | inl e ↦ inl (ap (by_lead i) e ∙ g)
        | inr w ↦ inr (subst (NewName new (skipped text)) same w)
      ]

  turn_goes : (d : Due) (i : List Bracket) (text : List ℕ) (e : Due) (j : List Bracket) (next : List ℕ) → turn o d i text ≡ Goes e j next → turn n d i text ≡ Goes e j next
  turn_goes AnOperand i text e j next h = by_lead_goes i text (lead_at o text) e j next refl h
  turn_goes (FirstArgument name) i text e j next h = first (begins 41 (skipped text)) h
    where
      first : (t : Bool) → cond t (wrong_arguments name) (by_lead i (lead_at o text)) ≡ Goes e j next → cond t (wrong_arguments name) (by_lead i (lead_at n text)) ≡ Goes e j next
      first true g = g
      first false g = by_lead_goes i text (lead_at o text) e j next refl g
  turn_goes (ItsBracket f name) i text e j next h = h
  turn_goes AnOperator i text e j next h = h

  turn_stops : (d : Due) (i : List Bracket) (text : List ℕ) (s : Stop) → turn o d i text ≡ Stops s → (turn n d i text ≡ Stops s) ⊎ NewName new (skipped text) s
  turn_stops AnOperand i text s h = by_lead_stops i text (lead_at o text) s refl h
  turn_stops (FirstArgument name) i text s h = first (begins 41 (skipped text)) h
    where
      first : (t : Bool) → cond t (wrong_arguments name) (by_lead i (lead_at o text)) ≡ Stops s → (cond t (wrong_arguments name) (by_lead i (lead_at n text)) ≡ Stops s) ⊎ NewName new (skipped text) s
      first true g = inl g
      first false g = by_lead_stops i text (lead_at o text) s refl g
  turn_stops (ItsBracket f name) i text s h = inl h
  turn_stops AnOperator i text s h = inl h

  walk_longer : {d e : Due} {i j : List Bracket} {text rest : List ℕ} → Walk o d i text e j rest → Walk n d i text e j rest
  walk_longer stay = stay
  walk_longer {d} {i = i} {text = text} (step {e = e} {j = j} {next = next} h v) = step (turn_goes d i text e j next h) (walk_longer v)

  -- ---- faults

  new_name : (text rest : List ℕ) (s : Stop) → Behind text (skipped rest) → NewName new (skipped rest) s → IsNameAmong new text (placed text s)
  new_name text rest s h w =
      let left : s.left ≡ length (skipped rest) = ap (λ (x : Stop). x.left) w.is in
      let word : drop (length text - s.left) text ≡ skipped rest = ap (λ (k : ℕ). drop (length text - k) text) left ∙ dropped text (skipped rest) h in
      record { unknown = ap (λ (x : Stop). x.kind) w.is; function = w.function; named = ap (λ (x : List ℕ). function_named new (word_at x)) word ∙ w.named }

  long_stays : (text : List ℕ) (x : TextFault) → FaultsLongIn o text x → (IsNameAmong new text x → ⊥) → FaultsLongIn n text x
  long_stays text x (in_constant t s l e d) h = in_constant t s l e d
  long_stays text x (in_formula t b s e f) h = elim (turn_stops f.0 f.1 f.2 s f.4) [
    | inl same ↦ in_formula t b s e (f.0, f.1, f.2, walk_longer f.3, same)
    | inr w ↦ absurd (h (new_name t f.2 s (further t b (skipped f.2) (body_behind t b e) (further b f.2 (skipped f.2) (walk_in f.3) (skipped_behind f.2))) w))
  ]
  long_stays text x (range t b f r left e v m) h = range t b f r left e (expression_longer b f r v) m
  long_stays text x (too_deep t b f r e v m k) h = too_deep t b f r e (expression_longer b f r v) m k

  pub fault_longer : (text : List ℕ) (x : TextFault) → FaultsIn o text x → (IsNameAmong new text x → ⊥) → FaultsIn n text x
  fault_longer text x (too_long l) h = too_long l
  fault_longer text x (within y l f) h = within y l (long_stays text y f h)
