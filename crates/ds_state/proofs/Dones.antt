-- No more edits are answered Done than are linearized.
use Rattle.std.proofs.Common.{ℕ, zero, suc, ◌≡◌, ◌≤◌, ◌+◌, List, [], ◌∷◌, ◌++◌, length, length-append, refl, ap, sym, ◌∙◌, subst, arith, inl, inr, Some, None}
use Rattle.std.specs.Prelude.{Option, Contains}
use Rattle.std.proofs.lemmas.List.Elements.{Contains-append_cases, Contains-append_left, Contains-append_right}
use Rattle.ds_state.specs.World.{PlainEdit, PlainIssue}
use Rattle.ds_state.specs.Dones.{AreDistinct, HasAnswered}
use Rattle.ds_state.specs.Value.{WorldValue, world_of, IsGood}
use Rattle.ds_state.proofs.Few.{counted_few}

single : (c e : PlainEdit) → Contains (c ∷ []) e → c ≡ e
single c e (zero, lt, is) = is
single c e (suc k, lt, is) = absurd (omega (arith, lt))

nothing : (e : PlainEdit) → Contains [] e → ⊥
nothing e h = omega (arith, h.1)

at_front : (e : PlainEdit) (es : List PlainEdit) → Contains (e ∷ es) e
at_front e es = (0, omega arith, refl)

cut : (cs : List PlainEdit) (e : PlainEdit) → Contains cs e → (before : List PlainEdit) × (after : List PlainEdit) × (cs ≡ before ++ e ∷ after)
cut [] e h = absurd (nothing e h)
cut (c ∷ cs) e h = elim (Contains-append_cases (c ∷ []) cs e h) [
  | inl here ↦ ([], cs, ap (λ (x : PlainEdit). x ∷ cs) (single c e here))
  | inr there ↦ (let s = cut cs e there in (c ∷ s.0, s.1, ap (λ (l : List PlainEdit). c ∷ l) s.2))
]

without : (before after : List PlainEdit) (e x : PlainEdit) → (x ≡ e → ⊥) → Contains (before ++ e ∷ after) x → Contains (before ++ after) x
without before after e x ne h = elim (Contains-append_cases before (e ∷ after) x h) [
  | inl early ↦ Contains-append_left before after x early
  | inr late ↦ elim (Contains-append_cases (e ∷ []) after x late) [
    | inl here ↦ absurd (ne (sym (single e x here)))
    | inr there ↦ Contains-append_right before after x there
  ]
]

-- distinct elements of a list are no more than it has
distinct_few : (es cs : List PlainEdit) → AreDistinct es → ((e : PlainEdit) → Contains es e → Contains cs e) → length es ≤ length cs
distinct_few [] cs d h = omega arith
distinct_few (e ∷ es) cs d h =
    let s = cut cs e (h e (at_front e es)) in
    let rest = distinct_few es (s.0 ++ s.1) d.1 (λ x inside. without s.0 s.1 e x (λ same. d.0 (subst (λ (y : PlainEdit). Contains es y) same inside)) (subst (λ (l : List PlainEdit). Contains l x) s.2 (h x (Contains-append_right (e ∷ []) es x inside)))) in
    let n : length cs ≡ length s.0 + suc (length s.1) = ap length s.2 ∙ length-append s.0 (e ∷ s.1) in
    let m : length (s.0 ++ s.1) ≡ length s.0 + length s.1 = length-append s.0 s.1 in
    omega (arith, rest, n, m)

pub dones_few : (counted : List PlainEdit) (pending : ℕ → Option PlainIssue) (done : ℕ) → HasAnswered counted pending done → done ≤ length counted
dones_few counted pending done h = subst (λ (n : ℕ). n ≤ length counted) h.as_many (distinct_few h.closed counted h.once h.count)

-- no more edits were answered Done than are linearized
pub few_dones : (v : WorldValue) → IsGood v → v.done ≤ length v.counted
few_dones v g = dones_few (world_of v).counted (world_of v).open_edits v.done g.answered

-- at most 2,048
pub few_done : (v : WorldValue) → IsGood v → v.done ≤ 2048
few_done v g =
    let a = dones_few (world_of v).counted (world_of v).open_edits v.done g.answered in
    let b = counted_few (world_of v) g.sound in
    let l = v.sheet.layout.limited in
    omega (arith, a, b, l)

-- edits are linearized; an edit that was linearized and is open now was open
pub still_answered : (cs ds : List PlainEdit) (p q : ℕ → Option PlainIssue) (done : ℕ) → ((e : PlainEdit) → Contains cs e → Contains ds e)
    → ((e : PlainEdit) (issue : PlainIssue) → Contains cs e → q e.process ≡ Some issue → issue.edit ≡ e → p e.process ≡ Some issue)
    → HasAnswered cs p done → HasAnswered ds q done
still_answered cs ds p q done more was h = record {
  closed = h.closed;
  as_many = h.as_many;
  once = h.once;
  count = λ e inside. more e (h.count e inside);
  answered = λ e issue inside at is. h.answered e issue inside (was e issue (h.count e inside) at is) is;
}

-- also an edit that was open, and linearized, is answered
pub one_answered : (cs ds : List PlainEdit) (p q : ℕ → Option PlainIssue) (done : ℕ) (last : PlainEdit) (since : ℕ) → ((e : PlainEdit) → Contains cs e → Contains ds e)
    → ((e : PlainEdit) (issue : PlainIssue) → Contains cs e → q e.process ≡ Some issue → issue.edit ≡ e → p e.process ≡ Some issue)
    → p last.process ≡ Some (record { edit = last; since = since }) → q last.process ≡ None → Contains cs last
    → HasAnswered cs p done → HasAnswered ds q (done + 1)
one_answered cs ds p q done last since more was open_is closed there h = record {
  closed = last ∷ h.closed;
  as_many = let n = h.as_many in omega (arith, n);
  once = ((λ inside. h.answered last (record { edit = last; since = since }) inside open_is refl), h.once);
  count = λ e inside. more e (elim (Contains-append_cases (last ∷ []) h.closed e inside) [
    | inl here ↦ subst (λ (x : PlainEdit). Contains cs x) (single last e here) there
    | inr before ↦ h.count e before
  ]);
  answered = λ e issue inside at is. elim (Contains-append_cases (last ∷ []) h.closed e inside) [
    | inl here ↦ (
        let none : q e.process ≡ None = ap (λ (x : PlainEdit). q x.process) (sym (single last e here)) ∙ closed in
        let bad : Some issue ≡ None = sym at ∙ none in
        absurd (cc))
    | inr before ↦ h.answered e issue before (was e issue (h.count e before) at is) is
  ];
}
