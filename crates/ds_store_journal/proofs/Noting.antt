-- How processes stand when one line more was read.
use Rattle.std.proofs.Common.{ℕ, zero, suc, ◌≡◌, ◌<◌, ◌≤◌, ◌+◌, ◌++◌, ◌∷◌, ◌==◌, eqb, true, false, [], List, Option, Some, length, map, get_or, refl, sym, ap, subst, ◌∙◌, inl, inr, Result, Ok, Err, take, drop, ⊎_elim, if◌then◌else◌, append_assoc, arith}
use Rattle.std.specs.Prelude.{slice_set, IfErr, IsErr, IsErrAnd}
use Rattle.std.proofs.lemmas.List.{append-nil, get_or-set_same, get_or-set_other}
use Rattle.std.proofs.lemmas.Bool.Decides.{eqb_tells}
use Rattle.ds_layout.specs.declared.layout.Layout.{Layout}
use Rattle.ds_script_io.specs.Fields.{is_skipped}
use Rattle.ds_store_journal.specs.Faults.{AreUncounted, IsUncounted}
use Rattle.ds_store_journal.specs.Joining.{joins_of}
use Rattle.ds_store_journal.specs.Journals.{AskedFor, edit_in}
use Rattle.ds_store_journal.specs.declared.fault.JournalFault.{JournalFault}
use Rattle.ds_store_journal.specs.declared.standing.Standing.{Standing}
use Rattle.ds_store_journal.specs.declared.standing.Mention.{Mention}
use Rattle.ds_store_journal.specs.Standings.{AreStandings, EDITS_LIMIT, before_in, counted, none_made, noted, one_more, standing_after, standing_from}

-- one line more
line_more : (layout : Layout) (process : ℕ) (s : Standing) (lines : List (List ℕ)) (line : List ℕ)
    → standing_from layout process s (lines ++ line ∷ []) ≡ standing_after layout process (standing_from layout process s lines) line
unfolding standing_from
line_more layout process s [] line = refl
line_more layout process s (l ∷ lines) line = line_more layout process (standing_after layout process s l) lines line

-- what stands there after the mention is what the mention says
pub set_as_noted : (xs : List Standing) (m : Mention) (process : ℕ) (d : Standing) → m.process < length xs → get_or (slice_set xs m.process m.standing) process d ≡ noted process (get_or xs process d) (Some m)
set_as_noted xs m process d low =
    ⊎_elim
    (λ here.
    (ap (λ k. get_or (slice_set xs m.process m.standing) k d) (sym here.1) ∙ get_or-set_same xs m.process m.standing d low)
    ∙ sym (ap (λ b. if b then m.standing else get_or xs process d) here.0))
    (λ apart.
    get_or-set_other xs m.process process m.standing d (λ e. apart.1 (sym e))
    ∙ sym (ap (λ b. if b then m.standing else get_or xs process d) apart.0))
    (eqb_tells m.process process)

-- the standings after one line more, which a mention tells
pub follows : (layout : Layout) (old new : List Standing) (lines : List (List ℕ)) (line : List ℕ) (mention : Option Mention)
    → ((process : ℕ) (d : Standing) → process < layout.processes → standing_after layout process (get_or old process d) line ≡ noted process (get_or old process d) mention)
    → ((process : ℕ) (d : Standing) → process < layout.processes → get_or new process d ≡ noted process (get_or old process d) mention)
    → AreStandings layout old lines → AreStandings layout new (lines ++ line ∷ [])
follows layout old new lines line mention after now are process d low =
    now process d low ∙ (sym (after process d low)
    ∙ (ap (λ s. standing_after layout process s line) (are process d low) ∙ sym (line_more layout process none_made lines line)))

-- a journal of fewer than two lines says nothing of how many processes may be joined
pub few_lines : {A : Type 0} (layout : Layout) (f : A → List ℕ) (xs : List A) → length xs < 2 → layout.processes ≡ joins_of layout (map f xs)
few_lines layout f [] low = refl
few_lines layout f (x ∷ []) low = refl
few_lines layout f (x ∷ y ∷ xs) low = absurd (omega (arith, low))

-- a line that asks for an edit of the process counts one more
pub one_counted : (layout : Layout) (process : ℕ) (s : Standing) (line : List ℕ) (asked : AskedFor) → is_skipped line ≡ false → Some asked ≡ edit_in layout line → asked.process ≡ process
    → (standing_after layout process s line).edits ≡ s.edits + 1
one_counted layout process s line asked skipped asks same =
    let here : eqb asked.process process ≡ true = ⊎_elim (λ here. here.0) (λ apart. absurd (apart.1 same)) (eqb_tells asked.process process) in
    ap (λ b. (if b then noted process s (before_in layout line) else counted process s (edit_in layout line)).edits) skipped
    ∙ (ap (λ o. (counted process s o).edits) (sym asks) ∙ ap (λ b. (if b then one_more asked.cell s else s).edits) here)

-- the lines with this one are not counted, where it counts too many
pub uncounted_after : (layout : Layout) (old : List Standing) (lines : List (List ℕ)) (line : List ℕ) (process : ℕ) → process < layout.processes
    → EDITS_LIMIT ≤ (standing_after layout process (get_or old process none_made) line).edits → AreStandings layout old lines → AreUncounted layout (lines ++ line ∷ [])
uncounted_after layout old lines line process low many are = record {
  before = lines ++ line ∷ [];
  after = [];
  are = sym (append-nil (lines ++ line ∷ []));
  process = process;
  there = low;
  many =
      subst (λ (s : Standing). EDITS_LIMIT ≤ s.edits) (sym (line_more layout process none_made lines line))
      (subst (λ s. EDITS_LIMIT ≤ (standing_after layout process s line).edits) (are process none_made low) many);
}

-- nor are more lines, where the first ones are not
pub uncounted_more : (layout : Layout) (first rest all : List (List ℕ)) (fault : JournalFault) → all ≡ first ++ rest → IsUncounted layout first fault → IsUncounted layout all fault
uncounted_more layout first rest all fault is (inl memory) = inl memory
uncounted_more layout first rest all fault is (inr many) =
    let h = many.1 in
    inr (
      many.0,
      record {
        before = h.before;
        after = h.after ++ rest;
        are = is ∙ (ap (λ ls. ls ++ rest) h.are ∙ append_assoc h.before h.after rest);
        process = h.process;
        there = h.there;
        many = h.many;
      },
    )

-- ---- errors that are passed on

-- what is so of each error that this one is passed on as
pub if_err : {A E : Type 0} (r : Result A E) (P Q : E → Type 0) → IsErr r × IsErrAnd r P → ((e : E) → P e → Q e) → IfErr r Q
if_err (Ok a) P Q h f = tt
if_err (Err e) P Q h f = f e h.1

-- a list by its elements before one, this one, and those after it
pub cut_at : {A : Type 0} (f : A → List ℕ) (xs : List A) (at : ℕ) (x : A) → at < length xs → x ≡ get_or xs at x → map f xs ≡ (map f (take at xs) ++ f x ∷ []) ++ map f (drop (at + 1) xs)
cut_at f [] at x low is = absurd (omega (arith, low))
cut_at f (y ∷ ys) zero x low is = ap (λ z. f z ∷ map f ys) (sym is)
cut_at f (y ∷ ys) (suc at) x low is =
    let next : suc at + 1 ≡ suc (at + 1) = omega arith in rw next (ap (λ zs. f y ∷ zs) (cut_at f ys at x (omega (arith, low)) is))
