-- Lines of a text, and the block of a stop at its front.
use Rattle.std.proofs.Common.{ℕ, zero, suc, ◌≡◌, ◌+◌, ◌-◌, ◌<◌, ◌≤◌, ◌∙◌, List, [], ◌∷◌, ◌++◌, length, take, drop, codes, decimal, append_assoc, length-append, length-drop, refl, sym, ap, subst, arith, inl, inr}
use Rattle.std.proofs.lemmas.List.{append-nil, drop-append-le, drop_at, take-append-le, take_at}
use Rattle.ds_script_stops.specs.StopBlocks.{stop_text}
use Rattle.ds_stop_groups.specs.Groups.{AreLines, BeginsWith, ComesNext, IsBlockOf, IsLineAt, LacksLine, blocks_text}

-- a text with another front does not begin with this one
pub not_begun : (text line front : List ℕ) → front ≡ take (length line) text → (front ≡ line → ⊥) → BeginsWith text line → ⊥
not_begun text line front is other begins = other (is ∙ ap (λ (l : List ℕ). take (length line) l) begins.1 ∙ take_at line begins.0 (length line) refl)

-- the line of a stop has bytes
pub stop_some : (n : ℕ) → 1 ≤ length (stop_text n)
stop_some n = omega (arith, length-append (codes "stop ") (decimal n ++ codes "\n"))

-- what is behind the line of a stop and some answers is shorter than all of it
pub shorter : (text answers after : List ℕ) (n : ℕ) → text ≡ stop_text n ++ (answers ++ after) → length after + 1 ≤ length text
shorter text answers after n is =
    let whole : length text ≡ length (stop_text n ++ (answers ++ after)) = ap length is in
    let parts : length (stop_text n ++ (answers ++ after)) ≡ length (stop_text n) + length (answers ++ after) = length-append (stop_text n) (answers ++ after) in
    let rest : length (answers ++ after) ≡ length answers + length after = length-append answers after in
    let some : 1 ≤ length (stop_text n) = stop_some n in
    omega arith

-- what is before the first place of a line lacks that line
pub lacks_before : (text answers after line : List ℕ) (place : ℕ) → text ≡ answers ++ after → length answers ≡ place → 1 ≤ length line
    → ((p : ℕ) → p < place → IsLineAt text line p → ⊥) → LacksLine answers line
lacks_before text answers after line place whole long some none p at =
    let rest : List ℕ = at.is.0 in
    let is : drop p answers ≡ line ++ rest = at.is.1 in
    let bytes : length (drop p answers) ≡ length (line ++ rest) = ap length is in
    let parts : length (line ++ rest) ≡ length line + length rest = length-append line rest in
    let left : length (drop p answers) ≡ length answers - p = length-drop p answers in
    let below : p < place = omega arith in
    let fits : p ≤ length answers = omega arith in
    let front : take p text ≡ take p answers = ap (λ (l : List ℕ). take p l) whole ∙ take-append-le p answers after fits in
    let back : drop p text ≡ line ++ (rest ++ after) =
    ap (λ (l : List ℕ). drop p l) whole ∙ drop-append-le p answers after fits ∙ ap (λ (l : List ℕ). l ++ after) is ∙ append_assoc line rest after in
    none p below (record { begins = subst AreLines (sym front) at.begins; is = (rest ++ after, back) })

-- what comes at the place of the next stop's line, if it is one of the text
pub comes_next : (text answers after : List ℕ) (stop place : ℕ) → text ≡ answers ++ after → length answers ≡ place
    → (place < length text → IsLineAt text (stop_text stop) place) → ComesNext answers after stop
comes_next text answers [] stop place whole long at = inl refl
comes_next text answers (byte ∷ rest) stop place whole long at =
    let bytes : length text ≡ length (answers ++ (byte ∷ rest)) = ap length whole in
    let parts : length (answers ++ (byte ∷ rest)) ≡ length answers + suc (length rest) = length-append answers (byte ∷ rest) in
    let below : place < length text = omega arith in
    let found : IsLineAt text (stop_text stop) place = at below in
    let front : take place text ≡ answers = ap (λ (l : List ℕ). take place l) whole ∙ take_at answers (byte ∷ rest) place long in
    let back : drop place text ≡ byte ∷ rest = ap (λ (l : List ℕ). drop place l) whole ∙ drop_at answers (byte ∷ rest) place long in
    inr (subst AreLines front found.begins, subst (λ (l : List ℕ). BeginsWith l (stop_text stop)) back found.is)

-- a stop's line, and then what is before the first place of the next stop's line, are its block
pub block_is : (text line next rest answers after : List ℕ) (stop place : ℕ) → line ≡ stop_text stop → next ≡ stop_text (stop + 1) → text ≡ line ++ rest → rest ≡ answers ++ after
    → length answers ≡ place → ((p : ℕ) → p < place → IsLineAt rest next p → ⊥) → (place < length rest → IsLineAt rest next place) → IsBlockOf text stop answers after
block_is text line next rest answers after stop place line_is next_is starts whole long first at = record {
  is = starts ∙ ap (λ (l : List ℕ). l ++ rest) line_is ∙ ap (λ (l : List ℕ). stop_text stop ++ l) whole;
  lacks = lacks_before rest answers after (stop_text (stop + 1)) place whole long (stop_some (stop + 1))
      (subst (λ (l : List ℕ). (p : ℕ) → p < place → IsLineAt rest l p → ⊥) next_is first);
  next = comes_next rest answers after (stop + 1) place whole long (subst (λ (l : List ℕ). place < length rest → IsLineAt rest l place) next_is at);
}

-- the line of a stop, and then whole lines, are whole lines
pub lines_on : (front answers : List ℕ) (n : ℕ) → AreLines answers → AreLines (front ++ (stop_text n ++ answers))
lines_on front answers n (inl none) = inr (
  front ++ (codes "stop " ++ decimal n),
  ap (λ (l : List ℕ). front ++ (stop_text n ++ l)) none
      ∙ ap (λ (l : List ℕ). front ++ l) (append-nil (stop_text n))
      ∙ ap (λ (l : List ℕ). front ++ l) (sym (append_assoc (codes "stop ") (decimal n) (codes "\n")))
      ∙ sym (append_assoc front (codes "stop " ++ decimal n) (codes "\n")),
)
lines_on front answers n (inr (lines, is)) = inr (
  front ++ (stop_text n ++ lines),
  ap (λ (l : List ℕ). front ++ (stop_text n ++ l)) is
      ∙ ap (λ (l : List ℕ). front ++ l) (sym (append_assoc (stop_text n) lines (codes "\n")))
      ∙ sym (append_assoc front (stop_text n ++ lines) (codes "\n")),
)

-- the blocks of some stops that all say whole lines are whole lines
pub blocks_on : (front answers : List ℕ) (first more : ℕ) → AreLines answers → AreLines (front ++ blocks_text first more answers)
blocks_on front answers first zero lines = lines_on front answers first lines
blocks_on front answers first (suc more) lines =
    subst AreLines (append_assoc front (blocks_text first more answers) (stop_text (first + suc more) ++ answers)) (lines_on (front ++ blocks_text first more answers) answers (first + suc more) lines)

-- a block after which another comes is whole lines
pub lines_before : (answers rest other after : List ℕ) (next stop : ℕ) → ComesNext answers rest next → rest ≡ stop_text stop ++ (other ++ after) → AreLines answers
lines_before answers rest other after next stop (inl none) is =
    let some : length after + 1 ≤ length rest = shorter rest other after stop is in
    let bytes : length rest ≡ 0 = ap length none in
    absurd (omega arith)
lines_before answers rest other after next stop (inr (lines, begins)) is = lines
