use Rattle.std.proofs.Common.{ℕ, List, ◌≡◌, ◌++◌, ◌∷◌, [], None, inl, inr, sym, ap, subst, true, ◌∙◌, arith}
use Rattle.std.proofs.lemmas.Result.{IfOk-weaker}
use Rattle.std.specs.Prelude.{Option}
use Rattle.ds_script_io.specs.ScriptLines.{ALine, next_of}
use Rattle.ds_script_io.proofs.LinesLemmas.{next_shorter}
use Rattle.ds_a1_script.specs.declared.script.RefusedLine.{RefusedLine}
use Rattle.ds_a1_script.specs.OpenScripts.{OpensScript}
use Rattle.ds_a1_script.proofs.Goes.{begun, line_more, line_refused, lines_end}
use Rattle.ds_a1_script.proofs.script.open_script.Goals as goal

pub lines-init : goal.lines-init
lines-init c = record { opens = begun c.args.script.now c.new-text.result.items c.new-text.ensures.items; within = omega arith }

pub lines-preserved : goal.lines-preserved
lines-preserved c =
    let next : next_of true c.lines.rest.now ≡ ALine c.in-Line.line.now c.in-Line.left.now = sym c.in-Line.ensures in
    let shorter = next_shorter true c.lines.rest.now c.in-Line.line.now c.in-Line.left.now next in
    let is : c.add_line.new.text.items ≡ c.lines.text.items ++ (c.in-Ok.open.items ++ (10 ∷ [])) = c.in_ok-add_line-in-Ok.ensures ∙ ap (λ (l : List ℕ). c.lines.text.items ++ (l ++ (10 ∷ []))) c.deref.ensures.value in
    record {
      opens = line_more c.args.script.now c.lines.text.items c.add_line.new.text.items c.lines.rest.now c.in-Line.line.now c.in-Line.left.now c.in-Ok.open.items c.lines.lines c.lines.invariant.opens next c.in-Ok.ensures is;
      within = omega (arith, shorter, c.lines.invariant.within);
    }

pub returns-in_default : goal.returns-in_default
returns-in_default c = line_refused c.args.script.now c.lines.text.items c.lines.rest.now c.in-Line.line.now c.in-Line.left.now c.lines.lines c.in-Err.fault c.lines.invariant.opens
    (sym c.in-Line.ensures) c.in-Err.ensures c.in_default.not-NoMemory

pub returns-in-Nothing : goal.returns-in-Nothing
returns-in-Nothing c =
    IfOk-weaker c.ended.result _ _
    (λ s h. lines_end c.args.script.now c.lines.text.items s.text.items c.lines.rest.now c.lines.lines s.refused c.lines.invariant.opens (inl (sym c.in-Nothing.ensures)) h.0 h.1) c.ended.ensures

pub returns-in-TooLong : goal.returns-in-TooLong
returns-in-TooLong c =
    IfOk-weaker c.ended-in-TooLong.result _ _
    (λ s h. lines_end c.args.script.now c.lines.text.items s.text.items c.lines.rest.now c.lines.lines s.refused c.lines.invariant.opens (inr (sym c.in-TooLong.ensures)) h.0 h.1) c.ended-in-TooLong.ensures
