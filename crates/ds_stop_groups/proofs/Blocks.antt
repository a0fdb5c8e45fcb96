-- One block more.
use Rattle.std.proofs.Common.{ℕ, suc, ◌≡◌, ◌+◌, ◌<◌, ◌≤◌, ◌∙◌, List, [], ◌++◌, Option, Some, None, append_assoc, below_more, length, refl, sym, ap, subst, arith, inl}
use Rattle.std.proofs.lemmas.List.{append-nil}
use Rattle.ds_script_stops.specs.StopBlocks.{stop_text}
use Rattle.ds_stop_groups.specs.Groups.{AreLines, ComesNext, Differs, GoUpToNext, Groups, IsBlockOf, IsGrouped, LacksLine, blocks_text, group_line, no_group, one_group_more}
use Rattle.ds_stop_groups.proofs.Lines.{blocks_on, lines_before, shorter}

-- the lines are those of the groups of a text's front, which the blocks of one more group and then the rest follow
pub record Stands (start : ℕ) (text lines rest : List ℕ) (first more : ℕ) (answers : List ℕ) : Type 0 where
  pub done : List ℕ
  pub before : Option (List ℕ)
  pub groups : Groups start done lines before first
  pub begins : AreLines done
  pub differs : Differs before answers
  pub ends : GoUpToNext first more answers
  pub next : ComesNext answers rest (first + more + 1)
  pub numbers : first + more + length rest < start + length text
  pub whole : text ≡ (done ++ blocks_text first more answers) ++ rest

-- a block that says the same belongs to the group
pub same_group : (text done rest after answers other : List ℕ) (first more stop : ℕ) → text ≡ (done ++ blocks_text first more answers) ++ rest
    → rest ≡ stop_text stop ++ (other ++ after) → stop ≡ first + more + 1 → other ≡ answers → text ≡ (done ++ blocks_text first (more + 1) answers) ++ after
same_group text done rest after answers other first more stop whole next is same =
    let count : more + 1 ≡ suc more = omega arith in
    let at : stop ≡ first + suc more = omega (arith, is) in
    let blocks : List ℕ = done ++ blocks_text first more answers in
    subst (λ (n : ℕ). text ≡ (done ++ blocks_text first n answers) ++ after) (sym count)
    (whole
    ∙ ap (λ (l : List ℕ). blocks ++ l) next
    ∙ ap (λ (l : List ℕ). blocks ++ (stop_text stop ++ (l ++ after))) same
    ∙ ap (λ (n : ℕ). blocks ++ (stop_text n ++ (answers ++ after))) at
    ∙ ap (λ (l : List ℕ). blocks ++ l) (sym (append_assoc (stop_text (first + suc more)) answers after))
    ∙ sym (append_assoc blocks (stop_text (first + suc more) ++ answers) after)
    ∙ ap (λ (l : List ℕ). l ++ after) (append_assoc done (blocks_text first more answers) (stop_text (first + suc more) ++ answers)))

-- another block begins a group
pub next_group : (text blocks rest after answers : List ℕ) (stop : ℕ) → text ≡ blocks ++ rest → rest ≡ stop_text stop ++ (answers ++ after)
    → text ≡ (blocks ++ blocks_text stop 0 answers) ++ after
next_group text blocks rest after answers stop whole next =
    whole
    ∙ ap (λ (l : List ℕ). blocks ++ l) next
    ∙ ap (λ (l : List ℕ). blocks ++ l) (sym (append_assoc (stop_text stop) answers after))
    ∙ sym (append_assoc blocks (stop_text stop ++ answers) after)

-- no text has no groups
pub none_grouped : (start : ℕ) (text lines : List ℕ) → text ≡ [] → lines ≡ [] → IsGrouped start text lines
none_grouped start text lines a b = record {
  last = None;
  next = start;
  groups = subst (λ (l : List ℕ). Groups start text l None start) (sym b) (subst (λ (t : List ℕ). Groups start t [] None start) (sym a) no_group);
}

-- a block of one stop goes up to the next one's line
pub ends_one : (first : ℕ) (answers : List ℕ) → LacksLine answers (stop_text (first + 1)) → GoUpToNext first 0 answers
ends_one first answers lacks = record {
  lacks = λ k below. let same : first + 1 ≡ first + k + 1 = omega (arith, below) in subst (λ (n : ℕ). LacksLine answers (stop_text n)) same lacks;
  lines = λ some. absurd (omega (arith, some));
}

-- one block more
pub ends_more : (first more stop : ℕ) (answers : List ℕ) → GoUpToNext first more answers → stop ≡ first + more + 1 → LacksLine answers (stop_text (stop + 1)) → AreLines answers
    → GoUpToNext first (more + 1) answers
ends_more first more stop answers ends is lacks lines =
    let same : stop + 1 ≡ first + (more + 1) + 1 = omega (arith, is) in
    let here : LacksLine answers (stop_text (first + (more + 1) + 1)) = subst (λ (n : ℕ). LacksLine answers (stop_text n)) same lacks in
    record {
      lacks = λ k below. below_more (λ (n : ℕ). LacksLine answers (stop_text (first + n + 1))) (more + 1) (λ n under. ends.lacks n (omega (arith, under))) here k (omega (arith, below));
      lines = λ some. lines;
    }

-- what comes next, by another name of the number
pub next_of : (answers rest : List ℕ) (m n : ℕ) → m ≡ n → ComesNext answers rest m → ComesNext answers rest n
next_of answers rest m n same next = subst (λ (k : ℕ). ComesNext answers rest k) same next

-- at first there is one block, and no line
pub stands_first : (start : ℕ) (text lines after answers : List ℕ) → lines ≡ [] → IsBlockOf text start answers after → Stands start text lines after start 0 answers
stands_first start text lines after answers none block =
    let less : length after + 1 ≤ length text = shorter text answers after start block.is in
    record {
      done = [];
      before = None;
      groups = subst (λ (l : List ℕ). Groups start [] l None start) (sym none) no_group;
      begins = inl refl;
      differs = tt;
      ends = ends_one start answers block.lacks;
      next = next_of answers after (start + 1) (start + 0 + 1) (omega arith) block.next;
      numbers = omega (arith, less);
      whole = next_group text [] text after answers start refl block.is;
    }

-- one block more says the same
pub stands_same : (start : ℕ) (text lines rest after answers other : List ℕ) (first more stop : ℕ) → Stands start text lines rest first more answers
    → IsBlockOf rest stop other after → stop ≡ first + more + 1 → other ≡ answers → Stands start text lines after first (more + 1) answers
stands_same start text lines rest after answers other first more stop s block is same =
    let less : length after + 1 ≤ length rest = shorter rest other after stop block.is in
    let numbers : first + more + length rest < start + length text = s.numbers in
    let next : ComesNext answers after (stop + 1) = subst (λ (l : List ℕ). ComesNext l after (stop + 1)) same block.next in
    record {
      done = s.done;
      before = s.before;
      groups = s.groups;
      begins = s.begins;
      differs = s.differs;
      ends = ends_more first more stop answers s.ends is (subst (λ (l : List ℕ). LacksLine l (stop_text (stop + 1))) same block.lacks)
          (lines_before answers rest other after (first + more + 1) stop s.next block.is);
      next = next_of answers after (stop + 1) (first + (more + 1) + 1) (omega (arith, is)) next;
      numbers = omega (arith, less, numbers);
      whole = same_group text s.done rest after answers other first more stop s.whole block.is is same;
    }

-- one block more says something else: the group before it has its line
pub stands_next : (start : ℕ) (text lines new rest after answers other : List ℕ) (first more stop : ℕ) → Stands start text lines rest first more answers
    → IsBlockOf rest stop other after → stop ≡ first + more + 1 → (other ≡ answers → ⊥) → new ≡ lines ++ group_line first more answers
    → Stands start text new after stop 0 other
stands_next start text lines new rest after answers other first more stop s block is another line =
    let less : length after + 1 ≤ length rest = shorter rest other after stop block.is in
    let numbers : first + more + length rest < start + length text = s.numbers in
    record {
      done = s.done ++ blocks_text first more answers;
      before = Some answers;
      groups = subst (λ (l : List ℕ). Groups start (s.done ++ blocks_text first more answers) l (Some answers) stop) (sym line)
          (subst (λ (n : ℕ). Groups start (s.done ++ blocks_text first more answers) (lines ++ group_line first more answers) (Some answers) n) (sym is)
          (one_group_more s.done lines answers s.before first more s.groups s.begins s.differs s.ends));
      begins = blocks_on s.done answers first more (lines_before answers rest other after (first + more + 1) stop s.next block.is);
      differs = λ e. another (sym e);
      ends = ends_one stop other block.lacks;
      next = next_of other after (stop + 1) (stop + 0 + 1) (omega arith) block.next;
      numbers = omega (arith, less, numbers, is);
      whole = next_group text (s.done ++ blocks_text first more answers) rest after other stop s.whole block.is;
    }

-- no block is left: the last group has its line
pub stands_last : (start : ℕ) (text lines new rest answers : List ℕ) (first more : ℕ) → Stands start text lines rest first more answers → rest ≡ []
    → new ≡ lines ++ group_line first more answers → IsGrouped start text new
stands_last start text lines new rest answers first more s none line = record {
  last = Some answers;
  next = first + more + 1;
  groups =
      let all : text ≡ s.done ++ blocks_text first more answers = s.whole ∙ ap (λ (l : List ℕ). (s.done ++ blocks_text first more answers) ++ l) none ∙ append-nil (s.done ++ blocks_text first more answers) in
      subst (λ (l : List ℕ). Groups start text l (Some answers) (first + more + 1)) (sym line)
      (subst (λ (t : List ℕ). Groups start t (lines ++ group_line first more answers) (Some answers) (first + more + 1)) (sym all)
      (one_group_more s.done lines answers s.before first more s.groups s.begins s.differs s.ends));
}
