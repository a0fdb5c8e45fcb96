use Rattle.std.proofs.Common.{◌≡◌, ◌∙◌, ◌&&◌, not, Bool, take, drop, ap, sym}
use Rattle.ds_formula.specs.Bytes.{begins}
use Rattle.ds_a1.specs.Tokens.{is_cell}
use Rattle.ds_a1.proofs.Steps.{reference_front}
use Rattle.ds_a1.proofs.tokens.begins_reference.Goals as goal

pub returns-then-is_cell : goal.returns-then-is_cell
returns-then-is_cell c =
    let text = c.args.text.now in
    let n = c.word_length.result in
    let cell : is_cell (take n text) ≡ c.is_cell.result = ap is_cell (sym c.split_at.ensures.front) ∙ sym c.is_cell.ensures in
    let mark : begins 40 (drop n text) ≡ c.begins_mark.result = ap (begins 40) (sym c.split_at.ensures.back) ∙ sym c.begins_mark.ensures in
    sym
    (reference_front text n c.word_length.ensures.value ∙ ap (λ (t : Bool). t && not (begins 40 (drop n text))) (cell ∙ c.if-is_cell.true) ∙ ap not mark)

pub returns-else-is_cell : goal.returns-else-is_cell
returns-else-is_cell c =
    let text = c.args.text.now in
    let n = c.word_length.result in
    let cell : is_cell (take n text) ≡ c.is_cell.result = ap is_cell (sym c.split_at.ensures.front) ∙ sym c.is_cell.ensures in
    c.if-is_cell.false
    ∙ sym (reference_front text n c.word_length.ensures.value ∙ ap (λ (t : Bool). t && not (begins 40 (drop n text))) (cell ∙ c.if-is_cell.false))
