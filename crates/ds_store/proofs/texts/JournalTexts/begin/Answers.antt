use Rattle.std.proofs.Common.{[]}
use Rattle.ds_store_journal.specs.Journals.{IsJournal}
use Rattle.ds_store.proofs.texts.JournalTexts.begin.Goals as goal

pub returns : goal.returns
returns c = record {
  edits = [];
  goes_on = record { journal = IsJournal.makes c.args.line.now c.in_ok-layout.ensures.made; counts_are = c.in_ok-new.ensures.none };
  texts_are = c.in_ok-no_texts.ensures.texts;
}
