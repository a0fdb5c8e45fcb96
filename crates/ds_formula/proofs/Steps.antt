-- What the reader's steps have found at the front.
use Rattle.std.proofs.Common.{◌≡◌, ℕ, ◌≤◌, leb, Bool, true, cond, List, [], ◌∷◌, Option, Some, None, Result, Ok, Err, refl, sym, ap, subst, ◌∙◌}
use Rattle.std.proofs.lemmas.Bool.{leb-true, le-leb}
use Rattle.std.proofs.lemmas.Option.{cond_some}
use Rattle.ds_formula.specs.declared.content.Operator.{Operator}
use Rattle.ds_formula.specs.declared.content.Function.{Function}
use Rattle.ds_formula.specs.declared.tokens.Stop.{Stop}
use Rattle.ds_formula.specs.declared.tokens.Follow.{Follow}
use Rattle.ds_formula.specs.declared.tokens.Follow.TheVariants.{Infix, Close, Semicolon, End}
use Rattle.ds_formula.specs.Functions.{Scope}
use Rattle.ds_formula.specs.Bytes.{Read, unexpected_stop, skipped}
use Rattle.ds_formula.specs.Tokens.{follow_of, follow_token, found, follow_at, lead_at}
use Rattle.ds_formula.specs.declared.tokens.Lead.{Lead}
use Rattle.ds_formula.specs.Forms.{level_of, NoSemicolon}
use Rattle.ds_formula.specs.Parsing.{from_level, operator_from, behind_semicolon, semicolon_at, behind_close, close_at, behind_end, end_at}
use Rattle.ds_formula.specs.Turns.{Bracket, Group, Call, Stops, by_follow}

operator_case : (l : ℕ) (x : Read Follow) (o : Operator) (rest : List ℕ) → from_level l x ≡ Some (o, rest) → (x ≡ Ok (Infix o, rest)) × (l ≤ level_of o)
operator_case l (Ok (Infix p, bs)) o rest e =
    let c = cond_some (leb l (level_of p)) (p, bs) (o, rest) e in
    let same_op : p ≡ o = ap (λ (x : Operator × List ℕ). x.0) c.1 in
    let same_rest : bs ≡ rest = ap (λ (x : Operator × List ℕ). x.1) c.1 in
    (cc, subst (λ (x : Operator). l ≤ level_of x) same_op (leb-true _ _ c.0))
operator_case l (Ok (Close, bs)) o rest e = absurd cc
operator_case l (Ok (Semicolon, bs)) o rest e = absurd cc
operator_case l (Ok (End, bs)) o rest e = absurd cc
operator_case l (Err s) o rest e = absurd cc

-- an operator of the level or a tighter one is at the front
pub operator_here : (l : ℕ) (text : List ℕ) (o : Operator) (rest : List ℕ) → Some (o, rest) ≡ operator_from l text → (follow_at text ≡ Ok (Infix o, rest)) × (l ≤ level_of o)
operator_here l text o rest e = operator_case l (follow_at text) o rest (sym e)

-- no operator of this level or a tighter one is at the front
abbrev pub NoneFrom : ℕ → List ℕ → Type 0
NoneFrom l text = (o : Operator) (after : List ℕ) → l ≤ level_of o → follow_at text ≡ Ok (Infix o, after) → ⊥

none_case : (l : ℕ) (bs : List ℕ) (o : Operator) → from_level l (Ok (Infix o, bs)) ≡ None → l ≤ level_of o → ⊥
none_case l bs o e k =
    let t : leb l (level_of o) ≡ true = le-leb _ _ k in
    let x : from_level l (Ok (Infix o, bs)) ≡ Some (o, bs) = ap (λ (b : Bool). cond b (Some (o, bs)) None) t in
    let y : ◌≡◌ {A = Option (Operator × List ℕ)} (Some (o, bs)) None = sym x ∙ e in
    absurd cc

-- where no operator of the level or a tighter one was found, none is at the front
pub none_here : (l : ℕ) (text : List ℕ) → None ≡ operator_from l text → NoneFrom l text
none_here l text e o rest k h = none_case l rest o (sym (ap (from_level l) h) ∙ sym e) k

abbrev token_of : Read Follow → Option Follow
token_of (Ok x) = Some x.0
token_of (Err s) = None

-- one operator is at the front
pub same_operator : (text : List ℕ) (o p : Operator) (a b : List ℕ) → follow_at text ≡ Ok (Infix o, a) → follow_at text ≡ Ok (Infix p, b) → o ≡ p
same_operator text o p a b e h =
    let t : Some (Infix o) ≡ Some (Infix p) = sym (ap token_of e) ∙ ap token_of h in
    cc

semicolon_case : (x : Read Follow) (rest : List ℕ) → behind_semicolon x ≡ Some rest → x ≡ Ok (Semicolon, rest)
semicolon_case (Ok (Semicolon, bs)) rest e = cc
semicolon_case (Ok (Infix o, bs)) rest e = absurd cc
semicolon_case (Ok (Close, bs)) rest e = absurd cc
semicolon_case (Ok (End, bs)) rest e = absurd cc
semicolon_case (Err s) rest e = absurd cc

-- a semicolon that was found is the token at the front
pub semicolon_here : (text rest : List ℕ) → Some rest ≡ semicolon_at text → follow_at text ≡ Ok (Semicolon, rest)
semicolon_here text rest e = semicolon_case (follow_at text) rest (sym e)

-- where no semicolon was found, none is at the front
pub no_semicolon : (text : List ℕ) → None ≡ semicolon_at text → NoSemicolon text
no_semicolon text e rest h = let x : Some rest ≡ None = sym (ap behind_semicolon h) ∙ sym e in cc

close_case : (text : List ℕ) (x : Read Follow) (rest : List ℕ) → behind_close text x ≡ Ok rest → x ≡ Ok (Close, rest)
close_case text (Ok (Close, bs)) rest e = cc
close_case text (Ok (Infix o, bs)) rest e = absurd cc
close_case text (Ok (Semicolon, bs)) rest e = absurd cc
close_case text (Ok (End, bs)) rest e = absurd cc
close_case text (Err s) rest e = absurd cc

-- a closing bracket that was found is the token at the front
pub close_here : (text rest : List ℕ) → Ok rest ≡ close_at text → follow_at text ≡ Ok (Close, rest)
close_here text rest e = close_case text (follow_at text) rest (sym e)

end_case : (text : List ℕ) (x : Read Follow) (rest : List ℕ) → behind_end text x ≡ Ok rest → x ≡ Ok (End, rest)
end_case text (Ok (End, bs)) rest e = cc
end_case text (Ok (Infix o, bs)) rest e = absurd cc
end_case text (Ok (Semicolon, bs)) rest e = absurd cc
end_case text (Ok (Close, bs)) rest e = absurd cc
end_case text (Err s) rest e = absurd cc

-- an end that was found is the token at the front
pub end_here : (text rest : List ℕ) → Ok rest ≡ end_at text → follow_at text ≡ Ok (End, rest)
end_here text rest e = end_case text (follow_at text) rest (sym e)

-- where no token may stand, the byte at the front may not
unfound : (text : List ℕ) (x : Option (Follow × List ℕ)) (s : Stop) → found text x ≡ Err s → s ≡ unexpected_stop text
unfound text (Some x) s e = absurd cc
unfound text None s e = cc

error_of : (text : List ℕ) (s : Stop) → follow_of text ≡ Err s → s ≡ unexpected_stop text
unfolding follow_of
error_of [] s e = absurd cc
error_of (b ∷ bs) s e = unfound (b ∷ bs) (follow_token b bs) s e

error_here : (text : List ℕ) (s : Stop) → follow_at text ≡ Err s → s ≡ unexpected_stop (skipped text)
unfolding follow_at
error_here text s e = error_of (skipped text) s e

-- no operator is at the front
abbrev pub NoOperator : List ℕ → Type 0
NoOperator text = (o : Operator) (rest : List ℕ) → follow_at text ≡ Ok (Infix o, rest) → ⊥

abbrev lost : Stop → Result (List ℕ) Stop
lost s = Err s

turned : (s u : Stop) → lost s ≡ lost u → Stops u ≡ Stops s
turned s u e = let p : s ≡ u = cc in ap Stops (sym p)

-- a group that isn't closed where it should be
group_case : (i : List Bracket) (text : List ℕ) (s : Stop) (x : Read Follow) → follow_at text ≡ x → NoOperator text → lost s ≡ behind_close text x → by_follow (Group ∷ i) text x ≡ Stops s
group_case i text s (Ok (Close, bs)) h n e = absurd cc
group_case i text s (Ok (Infix o, bs)) h n e = absurd (n o bs h)
group_case i text s (Ok (Semicolon, bs)) h n e = turned s _ e
group_case i text s (Ok (End, bs)) h n e = turned s _ e
group_case i text s (Err u) h n e = ap Stops (error_here text u h) ∙ turned s _ e

-- in parentheses, what is neither an operator nor a closing one is the fault there
pub group_open : (i : List Bracket) (text : List ℕ) (s : Stop) → NoOperator text → lost s ≡ close_at text → by_follow (Group ∷ i) text (follow_at text) ≡ Stops s
group_open i text s n e = group_case i text s (follow_at text) refl n e

call_case : (f : Function) (k name : ℕ) (i : List Bracket) (text : List ℕ) (s : Stop) (x : Read Follow) → follow_at text ≡ x → NoOperator text → NoSemicolon text → lost s ≡ behind_close text x
    → by_follow (Call f k name ∷ i) text x ≡ Stops s
call_case f k name i text s (Ok (Close, bs)) h n m e = absurd cc
call_case f k name i text s (Ok (Infix o, bs)) h n m e = absurd (n o bs h)
call_case f k name i text s (Ok (Semicolon, bs)) h n m e = absurd (m bs h)
call_case f k name i text s (Ok (End, bs)) h n m e = turned s _ e
call_case f k name i text s (Err u) h n m e = ap Stops (error_here text u h) ∙ turned s _ e

-- in a call, what is neither an operator nor a semicolon nor a closing bracket is the fault there
pub call_open : (f : Function) (k name : ℕ) (i : List Bracket) (text : List ℕ) (s : Stop) → NoOperator text → NoSemicolon text → lost s ≡ close_at text → by_follow (Call f k name ∷ i) text (follow_at text) ≡ Stops s
call_open f k name i text s n m e = call_case f k name i text s (follow_at text) refl n m e

whole_case : (text : List ℕ) (s : Stop) (x : Read Follow) → follow_at text ≡ x → NoOperator text → lost s ≡ behind_end text x → by_follow [] text x ≡ Stops s
whole_case text s (Ok (End, bs)) h n e = absurd cc
whole_case text s (Ok (Infix o, bs)) h n e = absurd (n o bs h)
whole_case text s (Ok (Semicolon, bs)) h n e = turned s _ e
whole_case text s (Ok (Close, bs)) h n e = turned s _ e
whole_case text s (Err u) h n e = ap Stops (error_here text u h) ∙ turned s _ e

-- with no bracket open, what is neither an operator nor the end is the fault there
pub whole_open : (text : List ℕ) (s : Stop) → NoOperator text → lost s ≡ end_at text → by_follow [] text (follow_at text) ≡ Stops s
whole_open text s n e = whole_case text s (follow_at text) refl n e

-- the token at the front, by its variant
pub lead_as : (s : Scope) (text : List ℕ) (t u : Lead) (rest : List ℕ) → Ok (t, rest) ≡ lead_at s text → t ≡ u → Ok (u, rest) ≡ lead_at s text
lead_as s text t u rest e h = subst (λ (x : Lead). Ok (x, rest) ≡ lead_at s text) h e
