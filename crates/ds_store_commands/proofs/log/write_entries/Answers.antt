use Rattle.std.proofs.Common.{◌∙◌, ◌++◌, List, ℕ, map, sym, ap, subst, append-nil}
use Rattle.std.specs.Io.KnownBytes.{Appends}
use Rattle.ds_store_edits.specs.JournalEdits.{entry_view}
use Rattle.ds_store_commands.specs.Lists.{begun_in, begun_text}
use Rattle.ds_store_commands.proofs.Lists.{lines_none, written_more}
use Rattle.ds_store_commands.proofs.log.write_entries.Goals as goal

pub loop-index-init : goal.loop-index-init
loop-index-init g c =
    let begun = begun_text (begun_in (map entry_view c.args.entries.now)) in
    subst (Appends (g.W.Write.contents c.args.out.now) (g.W.Write.contents c.write_begun.new.out)) (sym (append-nil begun) ∙ ap (λ (ls : List ℕ). begun ++ ls) (sym (lines_none 1 c.args.only))) c.in_ok-write_begun.ensures

pub loop-index-preserved : goal.loop-index-preserved
loop-index-preserved g c =
    written_more c.args.only c.args.entries.now c.loop-index.index c.saturating_add.result _ (begun_text (begun_in (map entry_view c.args.entries.now)))
    (g.W.Write.contents c.args.out.now) (g.W.Write.contents c.loop-index.out) (g.W.Write.contents c.write_asked.new.out)
    c.loop-index-test.true c.well_formed.1.0.0 c.saturating_add.ensures c.loop-index.invariant c.in_ok-write_asked.ensures
