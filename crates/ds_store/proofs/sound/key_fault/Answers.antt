use Rattle.std.proofs.Common.{◌≡◌, ◌∙◌, Some, ap, sym, rules, slice_get}
use Rattle.std.specs.String.{string_bytes}
use Rattle.ds_store_journal.specs.Journals.{sheet_in}
use Rattle.ds_store.proofs.Unsound.{first_makes, keys_fault}
use Rattle.ds_store.proofs.sound.key_fault.Goals.{in-Ok-of_lines, in-Err}
use Rattle.ds_store.proofs.sound.key_fault.Goals as goal

pub returns : goal.returns
returns c = elim c.match-of_lines.branch [
  | in-Ok-of_lines w ↦ rw w.result-is tt
  | in-Err w ↦
      let layout = c.in-Ok.layout in
      let lines = c.args.lines.now in
      let first : slice_get lines 0 ≡ Some c.in_ok-first.field-0.now = search rules in
      let makes = first_makes string_bytes layout lines c.in_ok-first.field-0.now first (ap sheet_in (sym c.as_bytes.ensures.value) ∙ c.in-Ok.ensures.made) in
      rw (w.result-is, w.from.ensures) (keys_fault string_bytes layout lines w.in-Err.fault makes w.in-Err.ensures.fault w.in-Err.ensures.again)
]
