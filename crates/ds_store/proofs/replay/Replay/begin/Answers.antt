use Rattle.std.proofs.Common.{[]}
use Rattle.ds_store_journal.specs.Journals.{IsJournal}
use Rattle.ds_store.proofs.replay.Replay.begin.Goals as goal

pub returns-clause-leads : goal.returns-clause-leads
returns-clause-leads c = record {
  edits = [];
  goes_on = record { journal = IsJournal.makes c.args.line.now c.in_ok-layout.ensures.made; counts_are = c.in_ok-new.ensures.none };
  made = c.in_ok-make.ensures;
}
