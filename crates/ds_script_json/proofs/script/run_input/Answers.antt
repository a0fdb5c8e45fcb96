use Rattle.std.proofs.Common.{◌≡◌, ◌≤◌, ℕ, List, length, take, subst, sym, ap, ◌∙◌, true, false}
use Rattle.std.proofs.lemmas.List.{take_all}
use Rattle.ds_script_io.specs.Streams.{writer_of, write_failed}
use Rattle.ds_script_io.specs.declared.input.InputEnd.{InputEnd}
use Rattle.ds_script_io.specs.declared.input.InputEnd.TheVariants as inputs
use Rattle.ds_script_io.specs.declared.ending.ScriptEnd.{ScriptEnd}
use Rattle.ds_script_io.specs.declared.ending.ScriptEnd.TheVariants as ends
use Rattle.ds_script_io.specs.Input.{Within}
use Rattle.ds_script.specs.Script.{Writes, is_whole}
use Rattle.ds_script_json.specs.JsonScripts.{RanInJson}
use Rattle.ds_script_json.proofs.JsonRuns.{cut, writes_of}
use Rattle.ds_script_json.proofs.script.run_input.Goals as goal

within_by : (limit n : ℕ) (end is : InputEnd) → end ≡ is → Within limit n end → Within limit n is
within_by limit n end is e h = subst (λ (x : InputEnd). Within limit n x) e h

pub returns-in-Ended-clause-writes : goal.returns-in-Ended-clause-writes
returns-in-Ended-clause-writes g c = λ ne.
    let w : length c.args.input.now.bytes.items ≤ c.args.limit = within_by c.args.limit _ _ inputs.Ended c.in-Ended.is c.requires.within in
    let is : c.as_slice-bytes.result.now ≡ take c.args.limit c.args.input.now.bytes.items = c.as_slice-bytes.ensures.value ∙ sym (take_all c.args.limit c.args.input.now.bytes.items w) in
    let ran = subst (λ (s : List ℕ). RanInJson true s (g.W.Write.contents (writer_of c.args.writer.now)) (g.W.Write.contents (writer_of c.run_lines.new.writer)) (write_failed c.run_lines.new.writer) c.run_lines.result) is c.run_lines.ensures.ran in
    let r = writes_of true (take c.args.limit c.args.input.now.bytes.items) c.run_lines.result ends.Ended c.args.input.now.end (g.W.Write.contents (writer_of c.args.writer.now)) (g.W.Write.contents (writer_of c.run_lines.new.writer)) (write_failed c.run_lines.new.writer)
    (ap is_whole c.in-Ended.is) (λ out f. (c.in-Ended.is, f)) ran (λ e. ne (c.ending.ensures ∙ e)) in
    (r.0, r.1, r.2, subst (λ (e : ScriptEnd). Writes c.args.input.now.end (take c.args.limit c.args.input.now.bytes.items) r.0 e) (sym c.ending.ensures) r.3, r.4)

pub returns-in-Failed-clause-writes : goal.returns-in-Failed-clause-writes
returns-in-Failed-clause-writes g c = λ ne.
    let w : length c.args.input.now.bytes.items ≤ c.args.limit = within_by c.args.limit _ _ inputs.Failed c.in-Failed.is c.requires.within in
    let is : c.as_slice-bytes.result.now ≡ take c.args.limit c.args.input.now.bytes.items = c.as_slice-bytes.ensures.value ∙ sym (take_all c.args.limit c.args.input.now.bytes.items w) in
    let ran = subst (λ (s : List ℕ). RanInJson false s (g.W.Write.contents (writer_of c.args.writer.now)) (g.W.Write.contents (writer_of c.run_lines-in-Failed.new.writer)) (write_failed c.run_lines-in-Failed.new.writer) c.run_lines-in-Failed.result) is c.run_lines-in-Failed.ensures.ran in
    let r = writes_of false (take c.args.limit c.args.input.now.bytes.items) c.run_lines-in-Failed.result ends.ReadFailed c.args.input.now.end (g.W.Write.contents (writer_of c.args.writer.now)) (g.W.Write.contents (writer_of c.run_lines-in-Failed.new.writer)) (write_failed c.run_lines-in-Failed.new.writer)
    (ap is_whole c.in-Failed.is) (λ out f. (c.in-Failed.is, f)) ran (λ e. ne (c.ending-in-Failed.ensures ∙ e)) in
    (r.0, r.1, r.2, subst (λ (e : ScriptEnd). Writes c.args.input.now.end (take c.args.limit c.args.input.now.bytes.items) r.0 e) (sym c.ending-in-Failed.ensures) r.3, r.4)

pub returns-in-TooLong-clause-writes : goal.returns-in-TooLong-clause-writes
returns-in-TooLong-clause-writes g c = λ ne.
    let ran = subst (λ (l : List ℕ). RanInJson false (take c.args.limit l) (g.W.Write.contents (writer_of c.args.writer.now)) (g.W.Write.contents (writer_of c.run_lines-run.new.writer)) (write_failed c.run_lines-run.new.writer) c.run_lines-run.result) c.as_slice-bytes.ensures.value c.run_lines-run.ensures.ran in
    cut c.args.input.now.end (take c.args.limit c.args.input.now.bytes.items) c.run_lines-run.result c.ending-in-TooLong.result _ _ _ c.in-TooLong.is c.ending-in-TooLong.ensures ran ne
