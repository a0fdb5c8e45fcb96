use Rattle.std.proofs.Common.{sym, subst}
use Rattle.ds_words.specs.Memory.{IsFresh}
use Rattle.ds_words.specs.Words.{WordsValue, memory_of, fresh_words}
use Rattle.ds_words.proofs.Laws.{IsFresh-fresh_words}
use Rattle.ds_layout.specs.SheetMemory.{memory_at}
use Rattle.ds_layout.proofs.Sheet.{fresh_at}
use Rattle.ds_layout.proofs.sheet_words.SheetWords.new.Goals as goal

pub returns-clause-fresh : goal.returns-clause-fresh
returns-clause-fresh c =
    let classes = c.in_ok-classes.classes.items in
    let layout = c.args.layout in
    subst (λ (v : WordsValue). IsFresh (memory_at layout (memory_of v))) (sym c.in_ok-words.ensures)
    (fresh_at layout (memory_of (fresh_words classes layout.processes)) (IsFresh-fresh_words classes layout.processes))
