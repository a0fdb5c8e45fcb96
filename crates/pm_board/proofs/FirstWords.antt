-- The words of a new structure, one after the other.
use Rattle.std.proofs.Common.{ℕ, ◌≡◌, ◌<◌, ◌≤◌, ◌+◌, ◌-◌, ◌*◌, List, [], ◌∷◌, ◌++◌, length, get_or, refl, sym, ap, subst, ◌∙◌, arith, inl, inr, zero, suc}
use Rattle.std.proofs.lemmas.Bool.{cases_lt, cases_eq}
use Rattle.std.proofs.lemmas.List.{length-append, get_or_append_left, get_or-append-add}
use Rattle.pm_base.specs.Structures.{Structure}
use Rattle.pm_board.specs.Rule.{AreFirst, IsSideOf}
use Rattle.pm_board.specs.Table.{cached_at, persisted_at}
use Rattle.pm_board.proofs.Sides.{before, few, lies_apart, lies_beside}

-- a word on the table
abbrev pub block : ℕ → List ℕ
block f = f ∷ f ∷ []

-- a word on the table that lies apart
abbrev pub wide_block : ℕ → List ℕ
wide_block f = f ∷ f ∷ 0 ∷ 0 ∷ 0 ∷ 0 ∷ 0 ∷ 0 ∷ []

filler : (f k : ℕ) → get_or (wide_block f) (k + 2) 0 ≡ 0
filler f zero = refl
filler f (suc zero) = refl
filler f (suc (suc zero)) = refl
filler f (suc (suc (suc zero))) = refl
filler f (suc (suc (suc (suc zero)))) = refl
filler f (suc (suc (suc (suc (suc zero))))) = refl
filler f (suc (suc (suc (suc (suc (suc k)))))) = let at : suc (suc (suc (suc (suc (suc k))))) + 2 ≡ suc (suc (suc (suc (suc (suc (suc (suc k))))))) = omega arith in ap (λ (i : ℕ). get_or (wide_block f) i 0) at

no_filler : (f k : ℕ) → get_or (block f) (k + 2) 0 ≡ 0
no_filler f k = let at : k + 2 ≡ suc (suc k) = omega arith in ap (λ (i : ℕ). get_or (block f) i 0) at

module _ {K S T : Type 0} (s : Structure K S T) (key : K) where
  abbrev apart : ℕ
  apart = s.apart key

  pub none_yet : (ws : List ℕ) → ws ≡ [] → AreFirst s key 0 ws
  none_yet ws none = record {
    long = (let n = ap length none in let f = few apart 0 in omega arith);
    sides = λ i r low is. absurd (omega arith);
    between = λ i other. ap (λ (l : List ℕ). get_or l i 0) none;
  }

  -- a word more, by this block
  module _ (n f : ℕ) (ws more : List ℕ) (h : AreFirst s key n ws) (is_first : f ≡ s.first_word key n) (cached : get_or more 0 0 ≡ f) (persisted : get_or more 1 0 ≡ f) (rest : (k : ℕ) → get_or more (k + 2) 0 ≡ 0) (long : length ws + length more ≡ cached_at apart (n + 1)) where
    at_end : (i k : ℕ) → i ≡ length ws + k → get_or (ws ++ more) i 0 ≡ get_or more k 0
    at_end i k is = ap (λ (j : ℕ). get_or (ws ++ more) j 0) is ∙ get_or-append-add ws more k 0

    side_last : (i : ℕ) → IsSideOf apart i n → get_or (ws ++ more) i 0 ≡ s.first_word key n
    side_last i (inl is) = at_end i 0 (let l = h.long in omega arith) ∙ cached ∙ is_first
    side_last i (inr is) = at_end i 1 (let l = h.long in omega arith) ∙ persisted ∙ is_first

    side_low : (i r : ℕ) → r < n → IsSideOf apart i r → i < length ws
    side_low i r low (inl is) = let b = before apart r n low in let l = h.long in omega arith
    side_low i r low (inr is) = let b = before apart r n low in let l = h.long in omega arith

    behind : (i k : ℕ) → i ≡ length ws + k → ((r : ℕ) → r < n + 1 → IsSideOf apart i r → ⊥) → get_or (ws ++ more) i 0 ≡ 0
    behind i zero is none = absurd (none n (omega arith) (inl (let l = h.long in omega arith)))
    behind i (suc zero) is none = absurd (none n (omega arith) (inr (let l = h.long in omega arith)))
    behind i (suc (suc k)) is none = at_end i (k + 2) (omega arith) ∙ rest k

    pub one_more : AreFirst s key (n + 1) (ws ++ more)
    one_more = record {
      long = length-append ws more ∙ long;
      sides = λ i r low is. elim (cases_eq r n) [
        | inl same ↦ side_last i (subst (IsSideOf apart i) same is) ∙ ap (s.first_word key) (sym same)
        | inr other ↦ (let less : r < n = omega (arith, low, other) in get_or_append_left ws more 0 i (side_low i r less is) ∙ h.sides i r less is)
      ];
      between = λ i none. elim (cases_lt i (length ws)) [
        | inl low ↦ get_or_append_left ws more 0 i low ∙ h.between i (λ r less is. none r (omega arith) is)
        | inr high ↦ behind i (i - length ws) (omega arith) none
      ];
    }

  -- after those that lie apart
  pub one_beside : (n f : ℕ) (ws : List ℕ) → AreFirst s key n ws → f ≡ s.first_word key n → apart ≤ n → AreFirst s key (n + 1) (ws ++ block f)
  one_beside n f ws h is high = one_more n f ws (block f) h is refl refl (no_filler f) (let l = h.long in let x = lies_beside apart n high in let y = lies_beside apart (n + 1) (omega arith) in omega arith)

  -- among them: so also where the next word is the first after them
  pub one_apart : (n f : ℕ) (ws : List ℕ) → AreFirst s key n ws → f ≡ s.first_word key n → n < apart → AreFirst s key (n + 1) (ws ++ wide_block f)
  one_apart n f ws h is low = one_more n f ws (wide_block f) h is refl refl (filler f) (let l = h.long in let x = lies_apart apart n low in elim (cases_lt (n + 1) apart) [
    | inl lower ↦ (let y = lies_apart apart (n + 1) lower in omega arith)
    | inr high ↦ (let y = lies_beside apart (n + 1) high in omega arith)
  ])
