use Rattle.std.proofs.Common.{arith, ℕ, sym, subst}
use Rattle.ds_words.specs.Memory.{EvictsAt}
use Rattle.ds_words.specs.Words.{memory_of}
use Rattle.ds_layout.specs.Places.{IsPlace}
use Rattle.ds_layout.specs.SheetMemory.{SheetValue, memory, memory_at}
use Rattle.ds_layout.proofs.Places.{number_of_below}
use Rattle.ds_layout.proofs.Sheet.{evicts_at}
use Rattle.ds_layout.proofs.sheet_words.SheetWords.evict.Goals as goal

pub returns-clause-evicts : goal.returns-clause-evicts
returns-clause-evicts c =
    let layout = c.self.inside.layout in
    let old = memory_of c.self.inside.words in
    let new = memory_of c.evict.new.self in
    let there : IsPlace layout c.args.place = subst (λ (s : SheetValue). IsPlace s.layout c.args.place) (sym c.self.view_is) c.requires in
    subst (λ (s : SheetValue). EvictsAt c.args.place (memory s) (memory_at layout new)) c.self.view_is
    (evicts_at layout old new c.args.place there (subst (λ (n : ℕ). EvictsAt n old new) c.number_from-number.ensures c.evict.ensures.evicts))

pub evict-requires : goal.evict-requires
evict-requires c =
    let layout = c.self.inside.layout in
    let there : IsPlace layout c.args.place = subst (λ (s : SheetValue). IsPlace s.layout c.args.place) (sym c.self.view_is) c.requires in
    let below = number_of_below layout c.args.place there in
    let count = c.self.invariant.0.words in
    let is = c.number_from-number.ensures in
    omega arith
