use Rattle.std.proofs.Common.{◌≡◌, inr, refl, ap, ◌∙◌, rules}
use Rattle.std.specs.String.{string_bytes}
use Rattle.ds_script_io.specs.Fields.{is_skipped}
use Rattle.ds_store_keys.specs.Keys.{key_in}
use Rattle.ds_store_keys.specs.Written.{key_text}
use Rattle.ds_store_keys.proofs.Written.{key_back}
use Rattle.ds_store_keys.proofs.line.key_line.Goals as goal

pub returns-else-has-clause-unwritten : goal.returns-else-has-clause-unwritten
returns-else-has-clause-unwritten c =
    let note = c.args.note.now in
    let text : string_bytes c.in_ok-line.line ≡ key_text note = search rules in
    let line = c.as_bytes.ensures.value ∙ text in
    inr (refl, λ may. c.has.ensures.other c.if-has.false (ap is_skipped line) (ap (key_in c.args.layout.now) line ∙ key_back c.args.layout.now note may))
