-- How far the lines of a table are numbered from 1 on.
use Rattle.std.proofs.Common.{◌≡◌, ◌≢◌, ◌⊎◌, inl, inr, ◌<◌, ◌≤◌, ◌+◌, ℕ, zero, suc, List, [], ◌∷◌, ◌++◌, Any, MatchOption, None, Option, Some, ap, ap₂, append_assoc, arith, drop, get_or, length, length-append, map, refl, slice_get, subst, sym, ◌∙◌}
use Rattle.std.proofs.lemmas.List.{length-map, map-append}
use Rattle.sqlite.specs.Order.{Row}
use Rattle.ds_store_table.specs.declared.lines.LinesFault.{LinesFault}
use Rattle.ds_store_table.specs.declared.lines.LinesFault.TheVariants.{NoMemory}
use Rattle.ds_store_table.specs.Reading.{FailsToTell, IsNoText}
use Rattle.std.specs.String.{string_bytes}
use Rattle.ds_store_table.specs.declared.lines.FirstLines.{FirstLines}
use Rattle.ds_store_table.specs.Tables.{AreBefore, AreFirst, BreakAt, Numbered, RiseFrom, numbered, shown}
use Rattle.ds_store_table.proofs.Lists.{there}

-- these are the first lines, and those after them have higher numbers
pub record Begun (all : List Numbered) (lines : List (List ℕ)) : Type 0 where
  pub parts : all ≡ numbered 1 lines ++ drop (length lines) all
  pub rise : RiseFrom (suc (length lines)) (drop (length lines) all)

-- the next line of those
pub record Next (all : List Numbered) (at : ℕ) (row : Row) : Type 0 where
  pub it : Numbered
  pub rest : List Numbered
  pub is : drop at all ≡ it ∷ rest
  pub shows : row ≡ shown it

pub next_of : (all : List Numbered) (at : ℕ) (row : Row) → slice_get (map shown all) at ≡ Some row → Next all at row
next_of [] at row is = absurd cc
next_of (it ∷ all) zero row is = record { it = it; rest = all; is = refl; shows = let same : shown it ≡ row = cc in sym same }
next_of (it ∷ all) (suc at) row is = let n = next_of all at row is in record { it = n.it; rest = n.rest; is = n.is; shows = n.shows }

rest_of : {A : Type 0} (all : List A) (at : ℕ) (it : A) (rest : List A) → drop at all ≡ it ∷ rest → drop (suc at) all ≡ rest
rest_of [] zero it rest is = absurd cc
rest_of [] (suc at) it rest is = absurd cc
rest_of (a ∷ all) zero it rest is = cc
rest_of (a ∷ all) (suc at) it rest is = rest_of all at it rest is

-- it is one of them
pub among : {A : Type 0} (P : A → Type 0) (all : List A) (at : ℕ) (it : A) (rest : List A) → drop at all ≡ it ∷ rest → P it → Any P all
among {A = A} P all at it rest is here = let h = go all at is in (at, it, h.0, h.1, here) where
  go : (all : List A) (at : ℕ) → drop at all ≡ it ∷ rest → (at < length all) × (get_or all at it ≡ it)
  go [] zero is = absurd cc
  go [] (suc at) is = absurd cc
  go (a ∷ all) zero is = (omega arith, cc)
  go (a ∷ all) (suc at) is = let h = go all at is in (omega (arith, h.0), h.1)

one_more : (from : ℕ) (lines : List (List ℕ)) (line : List ℕ) (number : ℕ) → number ≡ from + length lines → numbered from (lines ++ line ∷ []) ≡ numbered from lines ++ record { number = number; line = line } ∷ []
one_more from [] line number is = let same : from ≡ number = omega (arith, is) in ap (λ n. record { number = n; line = line } ∷ []) same
one_more from (l ∷ lines) line number is = ap (λ ls. record { number = from; line = l } ∷ ls) (one_more (suc from) lines line number (omega (arith, is)))

pub begins : (all : List Numbered) → RiseFrom 1 all → Begun all []
begins all rise = record { parts = refl; rise = rise }

module _ (all : List Numbered) (lines : List (List ℕ)) (begun : Begun all lines) where
  pub whole : length all ≤ length lines → all ≡ numbered 1 lines
  whole few = go _ begun.parts
    where
      long : (from : ℕ) (ls : List (List ℕ)) → length (numbered from ls) ≡ length ls
      long from [] = refl
      long from (l ∷ ls) = ap suc (long (suc from) ls)

      go : (after : List Numbered) → all ≡ numbered 1 lines ++ after → all ≡ numbered 1 lines
      go [] is = is ∙ Rattle.std.proofs.Common.append-nil (numbered 1 lines)
      go (a ∷ after) is = absurd (omega (arith, ap length is, length-append (numbered 1 lines) (a ∷ after), long 1 lines))

  module _ (it : Numbered) (rest : List Numbered) (is : drop (length lines) all ≡ it ∷ rest) where
    pub goes_on : (line : List ℕ) → it.number ≡ suc (length lines) → it.line ≡ line → Begun all (lines ++ line ∷ [])
    goes_on line at same =
        let long : length (lines ++ line ∷ []) ≡ suc (length lines) = omega (arith, length-append lines (line ∷ [])) in
        let left : drop (suc (length lines)) all ≡ rest = rest_of all (length lines) it rest is in
        let first : it ≡ record { number = suc (length lines); line = line } = ap₂ (λ n (l : List ℕ). record { number = n; line = l }) at same in
        let more = one_more 1 lines line (suc (length lines)) (omega arith) in
        record {
          parts = begun.parts ∙ ap (λ r. numbered 1 lines ++ r) (is ∙ ap (λ i. i ∷ rest) first) ∙ sym (append_assoc (numbered 1 lines) (record { number = suc (length lines); line = line } ∷ []) rest)
              ∙ ap (λ l. l ++ rest) (sym more) ∙ ap (λ r. numbered 1 (lines ++ line ∷ []) ++ r) (sym (ap (λ n. drop n all) long ∙ left));
          rise = rw (long, left, ← at) (subst (RiseFrom (suc (length lines))) is begun.rise).1;
        }

    pub breaks : it.number ≢ suc (length lines) → BreakAt (suc (length lines)) lines all
    breaks other =
        let rise = subst (RiseFrom (suc (length lines))) is begun.rise in
        record {
          after = it ∷ rest;
          parts = begun.parts ∙ ap (λ r. numbered 1 lines ++ r) is;
          next = refl;
          more = omega arith;
          higher = (omega (arith, rise.0, other), rise.1);
        }

-- the loop stands at a row that shows the line after these
module _ {A : Type 0} (f : A → List ℕ) (all : List Numbered) (rows : List Row) (olds : List A) (at : ℕ) (row : Row) (are : rows ≡ map shown all) (low : at < length rows) (is : row ≡ get_or rows at row) where
  met : Next all at row
  met = next_of all at row (subst (λ rs. slice_get rs at ≡ Some row) are (there rows at row low is))

  pub one_fails : (fault : LinesFault) → ((it : Numbered) → row ≡ shown it → (fault ≡ NoMemory) ⊎ IsNoText fault it) → FailsToTell all fault
  one_fails fault told = go (told met.it met.shows) where
    go : (fault ≡ NoMemory) ⊎ IsNoText fault met.it → FailsToTell all fault
    go (inl no_memory) = inl no_memory
    go (inr no_text) = inr (among (IsNoText fault) all at met.it met.rest met.is no_text)

  module _ (count : at ≡ length olds) (number : ℕ) (next : number ≡ at + 1) (begun : Begun all (map f olds)) where
    long : length (map f olds) ≡ at
    long = length-map olds f ∙ sym count

    pub one_other : ((it : Numbered) → row ≡ shown it → it.number ≢ number) → BreakAt number (map f olds) all
    one_other told =
        let here : suc (length (map f olds)) ≡ number = omega (arith, long, next) in
        subst (λ n. BreakAt n (map f olds) all) here (breaks all (map f olds) begun met.it met.rest (rw long met.is) (λ same. told met.it met.shows (same ∙ here)))

    pub one_line : (new : A) → ((it : Numbered) → row ≡ shown it → (it.number ≡ number) × (it.line ≡ f new)) → Begun all (map f (olds ++ new ∷ []))
    one_line new told =
        let it = told met.it met.shows in
        rw (map-append f olds (new ∷ [])) (goes_on all (map f olds) begun met.it met.rest (rw long met.is) (f new) (omega (arith, it.0, long, next)) it.1)

texts : (from : ℕ) (lines : List (List ℕ)) → map (λ (it : Numbered). it.line) (numbered from lines) ≡ lines
texts from [] = refl
texts from (line ∷ lines) = ap (λ ls. line ∷ ls) (texts (suc from) lines)

after_them : (from : ℕ) (lines begin : List (List ℕ)) (after : List Numbered) → numbered from lines ≡ numbered from begin ++ after → (rest : List (List ℕ)) × (after ≡ numbered (from + length begin) rest)
after_them from lines [] after is = let same : from ≡ from + 0 = omega arith in (lines, sym is ∙ ap (λ n. numbered n lines) same)
after_them from [] (b ∷ begin) after is = absurd cc
after_them from (line ∷ lines) (b ∷ begin) after is =
    let tail : numbered (suc from) lines ≡ numbered (suc from) begin ++ after = cc in
    let h = after_them (suc from) lines begin after tail in
    let same : suc from + length begin ≡ from + suc (length begin) = omega arith in (h.0, h.1 ∙ ap (λ n. numbered n h.0) same)

-- none of these is missing
pub never_breaks : (n : ℕ) (begin lines : List (List ℕ)) → ¬ BreakAt n begin (numbered 1 lines)
never_breaks n begin lines b = let h = after_them 1 lines begin b.after b.parts in go h.0 h.1 where
  go : (rest : List (List ℕ)) → b.after ≡ numbered (1 + length begin) rest → ⊥
  go [] is = omega (arith, ap length is, b.more)
  go (line ∷ rest) is = omega (arith, (subst (RiseFrom (suc n)) is b.higher).0, b.next)

pub all_of_them : (lines : List (List ℕ)) (first : FirstLines) → AreBefore (numbered 1 lines) first → AreFirst lines first
all_of_them lines first before = go first.missing refl before where
  go : (missing : Option ℕ) → first.missing ≡ missing
      → MatchOption missing (numbered 1 lines ≡ numbered 1 (map string_bytes first.lines.items)) (λ n. BreakAt n (map string_bytes first.lines.items) (numbered 1 lines)) → AreFirst lines first
  go None is same = record { all = sym (texts 1 (map string_bytes first.lines.items)) ∙ sym (ap (map (λ (it : Numbered). it.line)) same) ∙ texts 1 lines; whole = is }
  go (Some n) is broken = absurd (never_breaks n _ lines broken)
