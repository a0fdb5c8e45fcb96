use Rattle.std.proofs.Common.{List, refl, subst, sym, ℕ}
use Rattle.std.specs.Io.KnownBytes.{Appends}
use Rattle.ds_script_io.specs.Streams.{writer_of}
use Rattle.ds_explore.specs.Explored.{wrong_in}
use Rattle.ds_explore.specs.Whole.{Explores}
use Rattle.ds_explore.specs.declared.explore.ExploreEnd.{ExploreEnd}
use Rattle.ds_explore.proofs.Going.{explores_of}
use Rattle.ds_explore.proofs.explore.write_found.Goals as goal

pub returns-in-Ok-write_all-clause-writes : goal.returns-in-Ok-write_all-clause-writes
returns-in-Ok-write_all-clause-writes g c = λ script options explores ne. (
  c.in-Ok.text.items,
  subst (λ (t : List ℕ). Appends (g.W.Write.contents (writer_of c.args.writer.now)) (g.W.Write.contents (writer_of c.write_all.new.self)) t) c.deref.ensures.value c.in-Ok-write_all.ensures.bytes,
  subst (λ (e : ExploreEnd). Explores script options c.in-Ok.text.items e) (sym c.end.ensures)
      (explores_of script options c.args.exploration.now c.args.exploration.now.is_cut (wrong_in c.args.exploration.now) c.in-Ok.text.items explores refl refl c.in-Ok.ensures),
)
