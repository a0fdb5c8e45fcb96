use Rattle.std.proofs.Common.{ℕ, List, [], ◌++◌, ◌∙◌, refl, subst, arith}
use Rattle.std.specs.Io.KnownBytes.{Appends}
use Rattle.ds_script_io.specs.Streams.{writer_of}
use Rattle.ds_script_io.proofs.Known.{Appends-none, Appends-both}
use Rattle.ds_script_stops.specs.StopBlocks.{no_block}
use Rattle.ds_script_stops.proofs.Ending.{blocks_more, ends_with}
use Rattle.ds_script_stops.proofs.stops.write_blocks.Goals as goal

pub returns-in_default-clause-writes : goal.returns-in_default-clause-writes
returns-in_default-clause-writes g c = λ ne. ([], Appends-none _, (0, no_block))

pub loop-stops-init : goal.loop-stops-init
loop-stops-init g c = record {
  out = [];
  written = Appends-none _;
  blocks = no_block;
  no_failure = refl;
  at = c.first-place.ensures.at c.args.whole c.in-Ok.world c.in-Ok.ensures;
  taken = c.first-place.ensures.taken;
  within = c.first-place.ensures.within c.in-Ok.world;
  short = c.first-place.ensures.short;
}

pub returns-in-Err-clause-writes : goal.returns-in-Err-clause-writes
returns-in-Err-clause-writes g c = λ ne.
    let w = c.loop-stops.invariant in (
      w.out,
      w.written,
      ends_with c.args.range c.args.whole c.args.script.now w.out c.loop-stops.stops c.go_on.new.world c.in-Err.short c.ending.result w.blocks (c.in-Err.ensures.falls c.args.script.now w.at) c.ending.ensures,
    )

pub loop-stops-preserved : goal.loop-stops-preserved
loop-stops-preserved g c =
    let w = c.loop-stops.invariant in
    let stands = c.in-Ok-go_on.ensures.stands c.args.script.now w.at in
    let bytes = subst (λ (t : List ℕ). Appends (g.W.Write.contents (writer_of c.loop-stops.writer)) (g.W.Write.contents (writer_of c.write_all.new.self)) t) c.deref.ensures.value c.in-Ok-write_all.ensures.bytes in
    record {
      out = w.out ++ c.in-Ok-told.text.items;
      written = Appends-both _ _ _ w.out c.in-Ok-told.text.items w.written bytes;
      blocks = blocks_more c.args.range c.args.whole c.args.script.now w.out c.in-Ok-told.text.items c.loop-stops.stops c.go_on.new.world w.blocks stands.0 c.in-Ok-told.ensures;
      no_failure = c.in-Ok-write_all.ensures.not_failed ∙ w.no_failure;
      at = stands.1;
      taken = c.in-Ok-go_on.ensures.taken;
      within = c.in-Ok-go_on.ensures.within;
      short = let shorter = c.in-Ok-go_on.ensures.short in omega (arith, shorter, w.short);
    }
