-- The lines of a journal are gone through, one by one, and it is told who made their edits.
use Rattle.std.proofs.Common.{ℕ, zero, suc, ◌≡◌, ◌+◌, ◌<◌, ◌≤◌, ◌++◌, ◌∷◌, ◌==◌, ◌&&◌, ◌||◌, Bool, true, false, [], List, Option, Some, None, is_some, length, take, drop, get_or, refl, sym, ap, subst, ◌∙◌, ⊎_elim, if◌then◌else◌, append_assoc, Result, Ok, Err, arith}
use Rattle.std.specs.Prelude.{slice_set, IsErr, IsErrAnd, MatchResult}
use Rattle.std.proofs.lemmas.List.{append-nil, drop_all, drop_more, get_or-set_same, get_or-set_other, take_more}
use Rattle.std.proofs.lemmas.Bool.Decides.{eqb_tells}
use Rattle.ds_layout.specs.declared.layout.Layout.{Layout}
use Rattle.ds_script_io.specs.Fields.{is_skipped}
use Rattle.ds_store_journal.specs.declared.standing.Standing.{Standing}
use Rattle.ds_store_journal.specs.declared.standing.Mention.{Mention}
use Rattle.ds_store_journal.specs.Journals.{AskedFor, edit_in, one_if}
use Rattle.ds_store_journal.specs.Faults.{AreUncounted}
use Rattle.ds_store_journal.proofs.Noting.{one_counted, uncounted_after}
use Rattle.ds_store_journal.specs.Standings.{AreStandings, EDITS_LIMIT, before_in, counted, none_made, noted, one_more, standing_after, standing_from, standing_of}
use Rattle.ds_store_edits.specs.declared.edits.Passed.{Passed}
use Rattle.ds_store_edits.specs.JournalEdits.{EntryValue, HasPassed, maker_of, entries_at, entries_of, tell_before, tellings}

-- ---- how the processes stand

line_more : (layout : Layout) (process : ℕ) (s : Standing) (lines : List (List ℕ)) (line : List ℕ)
    → standing_from layout process s (lines ++ line ∷ []) ≡ standing_after layout process (standing_from layout process s lines) line
unfolding standing_from
line_more layout process s [] line = refl
line_more layout process s (l ∷ lines) line = line_more layout process (standing_after layout process s l) lines line

-- after one line more
stand_after : (layout : Layout) (old new : List Standing) (lines : List (List ℕ)) (line : List ℕ)
    → ((process : ℕ) (d : Standing) → process < layout.processes → get_or new process d ≡ standing_after layout process (get_or old process d) line)
    → AreStandings layout old lines → AreStandings layout new (lines ++ line ∷ [])
stand_after layout old new lines line now are process d low =
    now process d low ∙ (ap (λ s. standing_after layout process s line) (are process d low) ∙ sym (line_more layout process none_made lines line))

-- one process stands otherwise
set_one : (xs : List Standing) (at : ℕ) (s : Standing) (process : ℕ) (d : Standing) → at < length xs → get_or (slice_set xs at s) process d ≡ (if at == process then s else get_or xs process d)
set_one xs at s process d low =
    ⊎_elim
    (λ here. (ap (λ k. get_or (slice_set xs at s) k d) (sym here.1) ∙ get_or-set_same xs at s d low) ∙ sym (ap (λ b. if b then s else get_or xs process d) here.0))
    (λ apart. get_or-set_other xs at process s d (λ e. apart.1 (sym e)) ∙ sym (ap (λ b. if b then s else get_or xs process d) apart.0))
    (eqb_tells at process)

after_skipped : (layout : Layout) (process : ℕ) (s : Standing) (line : List ℕ) (mention : Option Mention) → is_skipped line ≡ true → mention ≡ before_in layout line
    → standing_after layout process s line ≡ noted process s mention
after_skipped layout process s line mention skipped says =
    ap (λ b. if b then noted process s (before_in layout line) else counted process s (edit_in layout line)) skipped ∙ ap (noted process s) (sym says)

after_edit : (layout : Layout) (process : ℕ) (s : Standing) (line : List ℕ) (asked : AskedFor) → is_skipped line ≡ false → edit_in layout line ≡ Some asked
    → standing_after layout process s line ≡ counted process s (Some asked)
after_edit layout process s line asked skipped asks =
    ap (λ b. if b then noted process s (before_in layout line) else counted process s (edit_in layout line)) skipped ∙ ap (counted process s) asks

-- after a line that is skipped, and says nothing
pub stand_on : (layout : Layout) (xs : List Standing) (lines : List (List ℕ)) (line : List ℕ) → is_skipped line ≡ true → None ≡ before_in layout line
    → AreStandings layout xs lines → AreStandings layout xs (lines ++ line ∷ [])
stand_on layout xs lines line skipped says = stand_after layout xs xs lines line (λ p d low. sym (after_skipped layout p (get_or xs p d) line None skipped says))

-- after a line that says how a process stood
pub stand_as_said : (layout : Layout) (xs : List Standing) (lines : List (List ℕ)) (line : List ℕ) (m : Mention) → m.process < length xs → is_skipped line ≡ true → Some m ≡ before_in layout line
    → AreStandings layout xs lines → AreStandings layout (slice_set xs m.process m.standing) (lines ++ line ∷ [])
stand_as_said layout xs lines line m low skipped says =
    stand_after layout xs (slice_set xs m.process m.standing) lines line
    (λ p d below. set_one xs m.process m.standing p d low ∙ sym (after_skipped layout p (get_or xs p d) line (Some m) skipped says))

-- the standing that was put in place of the one of this process is that after its edit
counts_one : (xs : List Standing) (asked : AskedFor) (s : Standing) (process : ℕ) (d : Standing) → ((e : Standing) → s ≡ one_more asked.cell (get_or xs asked.process e))
    → (if asked.process == process then s else get_or xs process d) ≡ counted process (get_or xs process d) (Some asked)
counts_one xs asked s process d is =
    ⊎_elim
    (λ here. ap (λ b. if b then s else get_or xs process d) here.0
    ∙ (is d ∙ ap (λ k. one_more asked.cell (get_or xs k d)) here.1)
    ∙ sym (ap (λ b. if b then one_more asked.cell (get_or xs process d) else get_or xs process d) here.0))
    (λ apart. ap (λ b. if b then s else get_or xs process d) apart.0 ∙ sym (ap (λ b. if b then one_more asked.cell (get_or xs process d) else get_or xs process d) apart.0))
    (eqb_tells asked.process process)

-- after the line of an edit
pub stand_counted : (layout : Layout) (xs : List Standing) (lines : List (List ℕ)) (line : List ℕ) (asked : AskedFor) (s : Standing) → asked.process < length xs → is_skipped line ≡ false
    → edit_in layout line ≡ Some asked → ((e : Standing) → s ≡ one_more asked.cell (get_or xs asked.process e))
    → AreStandings layout xs lines → AreStandings layout (slice_set xs asked.process s) (lines ++ line ∷ [])
stand_counted layout xs lines line asked s low skipped asks is =
    stand_after layout xs (slice_set xs asked.process s) lines line
    (λ p d below. set_one xs asked.process s p d low ∙ (counts_one xs asked s p d is ∙ sym (after_edit layout p (get_or xs p d) line asked skipped asks)))

-- ---- lines that say how a process stood

none_more : (b t : Bool) (n : ℕ) → (n ≡ 0 → t ≡ false) → one_if b + n ≡ 0 → (b || t) ≡ false
none_more true t n rest none = absurd (omega (arith, none))
none_more false t n rest none = rest (omega (arith, none))

some_more : (b t : Bool) (n : ℕ) → (0 < n → t ≡ true) → 0 < one_if b + n → (b || t) ≡ true
some_more true t n rest some = refl
some_more false t n rest some = rest (omega (arith, some))

pub none_tells : (layout : Layout) (lines : List (List ℕ)) → tellings layout lines ≡ 0 → tell_before layout lines ≡ false
unfolding tell_before tellings
none_tells layout [] none = refl
none_tells layout (line ∷ lines) none = none_more _ _ (tellings layout lines) (none_tells layout lines) none

pub some_tells : (layout : Layout) (lines : List (List ℕ)) → 0 < tellings layout lines → tell_before layout lines ≡ true
unfolding tell_before tellings
some_tells layout [] some = absurd (omega (arith, some))
some_tells layout (line ∷ lines) some = some_more _ _ (tellings layout lines) (some_tells layout lines) some

-- the line of an edit says nothing
pub tellings_edit : (layout : Layout) (line : List ℕ) (after : List (List ℕ)) → is_skipped line ≡ false → tellings layout (line ∷ after) ≡ tellings layout after
unfolding tellings
tellings_edit layout line after skipped =
    let same = ap (λ b. one_if (b && is_some (before_in layout line)) + tellings layout after) skipped in
    omega (arith, same)

-- a line that is skipped says it, or says nothing
pub tellings_said : (layout : Layout) (line : List ℕ) (after : List (List ℕ)) (mention : Mention) → is_skipped line ≡ true → Some mention ≡ before_in layout line → tellings layout (line ∷ after) ≡ tellings layout after + 1
unfolding tellings
tellings_said layout line after mention skipped says =
    let same = ap (λ b. one_if (b && is_some (before_in layout line)) + tellings layout after) skipped ∙ ap (λ o. one_if (is_some o) + tellings layout after) (sym says) in
    omega (arith, same)

pub tellings_none : (layout : Layout) (line : List ℕ) (after : List (List ℕ)) → is_skipped line ≡ true → None ≡ before_in layout line → tellings layout (line ∷ after) ≡ tellings layout after
unfolding tellings
tellings_none layout line after skipped says =
    let same = ap (λ b. one_if (b && is_some (before_in layout line)) + tellings layout after) skipped ∙ ap (λ o. one_if (is_some o) + tellings layout after) (sym says) in
    omega (arith, same)

-- ---- who made the edits

-- nobody, where a line that follows says how a process stood
pub nobody : (layout : Layout) (before : List (List ℕ)) (line : List ℕ) (after : List (List ℕ)) (process left : ℕ) → is_skipped line ≡ false → left ≡ tellings layout (line ∷ after) → 0 < left
    → None ≡ maker_of layout before process after
nobody layout before line after process left skipped is more =
    let some : 0 < tellings layout after = omega (arith, is, tellings_edit layout line after skipped, more) in
    sym (ap (λ b. if b then None else Some (record { process = process; number = (standing_of layout process before).edits })) (some_tells layout after some))

-- the process, where none does
pub somebody : (layout : Layout) (before : List (List ℕ)) (line : List ℕ) (after : List (List ℕ)) (process left number : ℕ) → is_skipped line ≡ false → left ≡ tellings layout (line ∷ after) → left ≤ 0
    → number ≡ (standing_of layout process before).edits → Some (record { process = process; number = number }) ≡ maker_of layout before process after
somebody layout before line after process left number skipped is none same =
    let no : tellings layout after ≡ 0 = omega (arith, is, tellings_edit layout line after skipped, none) in
    ap (λ (n : ℕ). Some (record { process = process; number = n })) same
    ∙ sym (ap (λ b. if b then None else Some (record { process = process; number = (standing_of layout process before).edits })) (none_tells layout after no))

-- these have made the edits of the first lines, as many as this, where those lines are before them
pub record HasListed (layout : Layout) (first lines : List (List ℕ)) (passed : Passed) (entries : List EntryValue) (count : ℕ) : Type 0 where
  pub has_passed : HasPassed layout passed (first ++ take count lines) (drop count lines)
  pub so_far : entries ++ entries_of layout (first ++ take count lines) (drop count lines) ≡ entries_of layout first lines

-- no lines yet
pub listed_none : (layout : Layout) (first lines : List (List ℕ)) (passed : Passed) → HasPassed layout passed first lines → HasListed layout first lines passed [] 0
listed_none layout first lines passed has =
    let same = sym (append-nil first) in
    record { has_passed = subst (λ b. HasPassed layout passed b lines) same has; so_far = ap (λ b. entries_of layout b lines) (append-nil first) }

entries_more : (layout : Layout) (before : List (List ℕ)) (line : List ℕ) (after : List (List ℕ)) → entries_of layout before (line ∷ after) ≡ entries_at layout before line after ++ entries_of layout (before ++ line ∷ []) after
unfolding entries_of
entries_more layout before line after = refl

-- one line more
pub listed_more : (layout : Layout) (first lines : List (List ℕ)) (old new : Passed) (entries more : List EntryValue) (count : ℕ) (line : List ℕ) → count < length lines → line ≡ get_or lines count line
    → ((before after : List (List ℕ)) → HasPassed layout old before (line ∷ after) → HasPassed layout new (before ++ line ∷ []) after)
    → ((before after : List (List ℕ)) → HasPassed layout old before (line ∷ after) → more ≡ entries_at layout before line after)
    → HasListed layout first lines old entries count → HasListed layout first lines new (entries ++ more) (count + 1)
listed_more layout first lines old new entries more count line low at goes are has =
    let before = first ++ take count lines in
    let after = drop (count + 1) lines in
    let cut : drop count lines ≡ line ∷ after = drop_more lines count line low ∙ ap (λ l. l ∷ after) (sym at) in
    let grown : before ++ line ∷ [] ≡ first ++ take (count + 1) lines =
    append_assoc first (take count lines) (line ∷ []) ∙ ap (λ ls. first ++ ls) (ap (λ l. take count lines ++ l ∷ []) at ∙ sym (take_more lines count line low)) in
    let was : HasPassed layout old before (line ∷ after) = subst (HasPassed layout old before) cut has.has_passed in
    let told : entries ++ entries_of layout before (line ∷ after) ≡ entries_of layout first lines = subst (λ ls. entries ++ entries_of layout before ls ≡ entries_of layout first lines) cut has.so_far in
    record {
      has_passed = subst (λ b. HasPassed layout new b after) grown (goes before after was);
      so_far =
          append_assoc entries more (entries_of layout (first ++ take (count + 1) lines) after)
          ∙ (ap (λ b. entries ++ (more ++ entries_of layout b after)) (sym grown)
          ∙ (ap (λ m. entries ++ (m ++ entries_of layout (before ++ line ∷ []) after)) (are before after was)
          ∙ (ap (λ m. entries ++ m) (sym (entries_more layout before line after)) ∙ told)));
    }

-- all lines
pub listed_all : (layout : Layout) (first lines : List (List ℕ)) (passed : Passed) (entries : List EntryValue) (count : ℕ) → length lines ≤ count
    → HasListed layout first lines passed entries count → entries ≡ entries_of layout first lines
unfolding entries_of
listed_all layout first lines passed entries count all has =
    sym (append-nil entries) ∙ subst (λ ls. entries ++ entries_of layout (first ++ take count lines) ls ≡ entries_of layout first lines) (drop_all count lines all) has.so_far

-- ---- why edits are not listed

-- nor are more lines counted, where the first ones are not
pub uncounted_on : (layout : Layout) (first rest : List (List ℕ)) → AreUncounted layout first → AreUncounted layout (first ++ rest)
uncounted_on layout first rest h = record {
  before = h.before;
  after = h.after ++ rest;
  are = ap (λ ls. ls ++ rest) h.are ∙ append_assoc h.before h.after rest;
  process = h.process;
  there = h.there;
  many = h.many;
}

-- a fact that each of two cases gives
pub by_cases : {X : Type 0} (b : Bool) → (b ≡ true → X) → (b ≡ false → X) → X
by_cases true f g = f refl
by_cases false f g = g refl

-- the line of an edit that is one too many
pub uncounted_edit : (layout : Layout) (xs : List Standing) (before : List (List ℕ)) (line : List ℕ) (asked : AskedFor) → asked.process < layout.processes → is_skipped line ≡ false
    → Some asked ≡ edit_in layout line → EDITS_LIMIT ≤ (get_or xs asked.process none_made).edits + 1 → AreStandings layout xs before → AreUncounted layout (before ++ line ∷ [])
uncounted_edit layout xs before line asked low skipped asks many are =
    let more = one_counted layout asked.process (get_or xs asked.process none_made) line asked skipped asks refl in
    uncounted_after layout xs before line asked.process low (omega (arith, more, many)) are

pub match_err : {A E : Type 0} (r : Result A E) (O : A → Type 0) (P Q : E → Type 0) → IsErr r × IsErrAnd r P → ((e : E) → P e → Q e) → MatchResult r O Q
match_err (Ok a) O P Q h f = absurd h.1
match_err (Err e) O P Q h f = f e h.1

-- the first elements and the others
pub take_drop : (n : ℕ) (xs : List (List ℕ)) → take n xs ++ drop n xs ≡ xs
take_drop zero xs = refl
take_drop (suc n) [] = refl
take_drop (suc n) (x ∷ xs) = ap (λ ys. x ∷ ys) (take_drop n xs)
