use Rattle.std.proofs.Common.{ℕ, ◌≡◌, ◌≤◌, ◌∙◌, ◌++◌, List, [], length, Some, true, ap, arith, subst, sym}
use Rattle.ds_formula.specs.Limits.{INPUT_MOST}
use Rattle.ds_script_io.specs.Streams.{reader_of, writer_of, has_ended, read_failed}
use Rattle.ds_script_io.specs.declared.ending.ScriptEnd.{ScriptEnd}
use Rattle.ds_script.specs.Script.{Finishes, Concludes}
use Rattle.ds_explore.proofs.Telling.{finishes_of}
use Rattle.ds_explore.proofs.answers.answers_to.Goals as goal

pub returns-in-Ended : goal.returns-in-Ended
returns-in-Ended c =
    let ran = c.run_script.ensures.outcome (λ e. cc) in
    let short : length c.args.script.now ≤ INPUT_MOST = omega arith in
    let given : c.args.script.now ≡ ran.0 ++ (reader_of c.run_script.new.reader).now = cc in
    let empty : (writer_of c.new-writer.result).items ≡ [] = cc in
    let all : c.into_inner.result.items ≡ (writer_of c.new-writer.result).items ++ ran.1 = cc in
    let written : c.into_inner.result.items ≡ ran.1 = all ∙ ap (λ (xs : List ℕ). xs ++ ran.1) empty in
    let ended = subst (λ (end : ScriptEnd). Concludes INPUT_MOST (Some (reader_of c.run_script.new.reader).now) (has_ended c.run_script.new.reader) (read_failed c.run_script.new.reader) ran.0 ran.1 end) c.in-Ended.is ran.4 in
    subst (λ (out : List ℕ). Finishes true c.args.script.now out) (sym written)
    (finishes_of INPUT_MOST c.args.script.now (Some (reader_of c.run_script.new.reader).now) (has_ended c.run_script.new.reader) (read_failed c.run_script.new.reader) ran.0 ran.1 short given ended)
