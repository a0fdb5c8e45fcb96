use Rattle.ds_explore.specs.Judging.{texts_of}
use Rattle.ds_explore.specs.Met.{AreLedTo, AreMet}
use Rattle.ds_explore.proofs.met.Meeting.marks.Given as goal

abbrev pub invariant-loop : goal.invariant-loop
invariant-loop l = record {
  way : AreLedTo l.self.start.now l.way.items;
  marks : AreMet l.self.start.now (texts_of l.self.keys.now) l.self.states.now l.marks.items;
}
