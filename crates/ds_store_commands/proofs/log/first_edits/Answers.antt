use Rattle.std.proofs.Common.{true, false, ◌≡◌, ◌+◌, ◌∙◌, ap, arith, inl, map, refl, rules, sym, take}
use Rattle.std.proofs.lemmas.List.{take-map}
use Rattle.std.specs.String.{string_bytes}
use Rattle.ds_script_io.specs.Fields.{is_skipped}
use Rattle.ds_store_commands.specs.Logs.{edits_in}
use Rattle.ds_store_commands.proofs.Firsts.{passed_one}
use Rattle.ds_store_commands.proofs.log.first_edits.Goals as goal
use Rattle.ds_store_commands.proofs.log.first_edits.Goals.{then-not-is_skipped, else-not-is_skipped}

pub loop-line-init : goal.loop-line-init
unfolding edits_in
loop-line-init c = record { edits = omega arith; count = refl }

pub returns-then-left-eq0 : goal.returns-then-left-eq0
returns-then-left-eq0 c =
    let h = c.loop-line.invariant in
    let none = c.if-left-eq0.true in
    inl (ap edits_in (take-map string_bytes c.loop-line.count c.args.lines.now)
    ∙ ap (λ n. edits_in (map string_bytes (take n c.args.lines.now))) h.count
    ∙ omega (arith, h.edits, none))

pub loop-line-preserved : goal.loop-line-preserved
loop-line-preserved c =
    let h = c.loop-line.invariant in
    let skipped : c.is_skipped.result ≡ is_skipped (string_bytes c.line-item.result) = c.is_skipped.ensures ∙ ap is_skipped c.as_bytes.ensures.value in
    record {
      edits = elim c.if-not-is_skipped.branch [
        | then-not-is_skipped w ↦ passed_one c.args.lines.now c.loop-line.line-index c.line-item.result c.args.edits c.loop-line.left c.if-not-is_skipped.left false
            c.loop-line-test.true c.line-item.is (sym skipped ∙ search rules) w.left-is h.edits c.if-left-eq0.false
        | else-not-is_skipped w ↦ passed_one c.args.lines.now c.loop-line.line-index c.line-item.result c.args.edits c.loop-line.left c.if-not-is_skipped.left true
            c.loop-line-test.true c.line-item.is (sym skipped ∙ search rules) w.left-is h.edits c.if-left-eq0.false
      ];
      count = ap (λ n. n + 1) h.count;
    }
