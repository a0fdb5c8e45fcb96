-- Words of one kind: what a store and a write-back make of them.
use Rattle.std.proofs.Common.{ℕ, ◌≡◌, ◌≢◌, ◌⊎◌, ◌*◌, ◌<◌, ◌≤◌, refl, sym, subst, ◌∙◌, inl, inr}
use mathlib.Core.Logic.{dite}
use native.Mathlib.Decide.{ℕ_discrete}
use Rattle.pm_base.specs.Structures.{put}
use Rattle.pm_base.proofs.Puts.{put_here, put_else}
use Rattle.pq.specs.History.{Side, Words, Either, Both, Spent, Fresh}

-- the cached side of one word becomes the value
abbrev pub stored : Side → ℕ → ℕ → Side
stored s a u = record { now = put s.now a u; kept = s.kept }

pub stored_here : (s : Side) (a u b : ℕ) → b ≡ a → (stored s a u).now b ≡ u
stored_here s a u b e = put_here s.now a u b e

pub stored_else : (s : Side) (a u b : ℕ) → b ≢ a → (stored s a u).now b ≡ s.now b
stored_else s a u b ne = put_else s.now a u b ne

pub either_stored : (s : Side) (a u b x : ℕ) → Either (stored s a u) b x → Either s b x ⊎ ((b ≡ a) × (x ≡ u))
either_stored s a u b x e = elim e [
  | inl n ↦ dite (ℕ_discrete b a) (λ same. inr (same, sym n ∙ put_here s.now a u b same)) (λ ne. inl (inl (sym (put_else s.now a u b ne) ∙ n)))
  | inr k ↦ inl (inr k)
]

pub both_stored : (s : Side) (a u b x : ℕ) → b ≢ a → Both s b x → Both (stored s a u) b x
both_stored s a u b x ne h = (put_else s.now a u b ne ∙ h.0, h.1)

pub both_same : (s : Side) (a u b : ℕ) → Both s b u → Both (stored s a u) b u
both_same s a u b h = dite (ℕ_discrete b a) (λ same. (put_here s.now a u b same, h.1)) (λ ne. both_stored s a u b u ne h)

-- the cached side of the word stays, and its persisted side does, or becomes the cached one
abbrev pub On : Side → Side → ℕ → Type 0
On s t a = (t.now a ≡ s.now a) × ((t.kept a ≡ s.kept a) ⊎ (t.kept a ≡ s.now a))

pub on_same : (s : Side) (a : ℕ) → On s s a
on_same s a = (refl, inl refl)

pub on_stored : (s : Side) (a u b : ℕ) → b ≢ a → On s (stored s a u) b
on_stored s a u b ne = (put_else s.now a u b ne, inl refl)

pub either_on : (s t : Side) (a u : ℕ) → On s t a → Either t a u → Either s a u
either_on s t a u o e = elim e [
  | inl n ↦ inl (sym o.0 ∙ n)
  | inr k ↦ elim o.1 [
    | inl same ↦ inr (sym same ∙ k)
    | inr came ↦ inl (sym came ∙ k)
  ]
]

pub both_on : (s t : Side) (a u : ℕ) → On s t a → Both s a u → Both t a u
both_on s t a u o b = (
  o.0 ∙ b.0,
  elim o.1 [
    | inl same ↦ same ∙ b.1
    | inr came ↦ came ∙ b.0
  ],
)

pub fresh_on : (s t : Side) (p i : ℕ) → On s t p → Fresh s p i → Fresh t p i
fresh_on s t p i o f = (
  subst (λ (z : ℕ). z < 2 * i) (sym o.0) f.0,
  elim o.1 [
    | inl same ↦ subst (λ (z : ℕ). z < 2 * i) (sym same) f.1
    | inr came ↦ subst (λ (z : ℕ). z < 2 * i) (sym came) f.0
  ],
)

pub spent_on : (s t : Side) (p i : ℕ) → On s t p → Spent s p i → Spent t p i
spent_on s t p i o f = (
  subst (λ (z : ℕ). 2 * i ≤ z) (sym o.0) f.0,
  elim o.1 [
    | inl same ↦ subst (λ (z : ℕ). 2 * i ≤ z) (sym same) f.1
    | inr came ↦ subst (λ (z : ℕ). 2 * i ≤ z) (sym came) f.0
  ],
)

-- each word is as before, or was written back
pub record Persisted (w v : Words) : Type 0 where
  pub next : (a : ℕ) → On w.next v.next a
  pub taker : (a : ℕ) → On w.taker v.taker a
  pub value : (a : ℕ) → On w.value v.value a
  pub linked : (a : ℕ) → On w.linked v.linked a
  pub result : (a : ℕ) → On w.result v.result a
  pub announce : (a : ℕ) → On w.announce v.announce a
  pub tail : (a : ℕ) → On w.tail v.tail a
  pub head : (a : ℕ) → On w.head v.head a

pub persisted_same : (w : Words) → Persisted w w
persisted_same w = record {
  next = λ a. on_same w.next a;
  taker = λ a. on_same w.taker a;
  value = λ a. on_same w.value a;
  linked = λ a. on_same w.linked a;
  result = λ a. on_same w.result a;
  announce = λ a. on_same w.announce a;
  tail = λ a. on_same w.tail a;
  head = λ a. on_same w.head a;
}
