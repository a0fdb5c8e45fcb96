use Rattle.std.proofs.Common.{arith, ℕ, ap, sym, subst, ◌∙◌}
use Rattle.ds_words.specs.Words.{memory_of, word_at}
use Rattle.ds_words.specs.declared.words.Word.{Word}
use Rattle.ds_layout.specs.Places.{IsPlace}
use Rattle.ds_layout.specs.SheetMemory.{SheetValue, memory}
use Rattle.ds_layout.proofs.Places.{number_of_below}
use Rattle.ds_layout.proofs.Sheet.{side_at_place}
use Rattle.ds_layout.proofs.sheet_words.SheetWords.word.Goals as goal

pub returns-clause-cached : goal.returns-clause-cached
returns-clause-cached c =
    let layout = c.self.inside.layout in
    let there : IsPlace layout c.args.place = subst (λ (s : SheetValue). IsPlace s.layout c.args.place) (sym c.self.view_is) c.requires in
    ap (λ (w : Word). w.cached) c.word.ensures
    ∙ ap (λ (n : ℕ). (word_at c.self.inside.words n).cached) c.number_from.ensures
    ∙ sym (side_at_place layout (memory_of c.self.inside.words).cached c.args.place there)
    ∙ ap (λ (s : SheetValue). (memory s).cached c.args.place) c.self.view_is

pub returns-clause-persisted : goal.returns-clause-persisted
returns-clause-persisted c =
    let layout = c.self.inside.layout in
    let there : IsPlace layout c.args.place = subst (λ (s : SheetValue). IsPlace s.layout c.args.place) (sym c.self.view_is) c.requires in
    ap (λ (w : Word). w.persisted) c.word.ensures
    ∙ ap (λ (n : ℕ). (word_at c.self.inside.words n).persisted) c.number_from.ensures
    ∙ sym (side_at_place layout (memory_of c.self.inside.words).persisted c.args.place there)
    ∙ ap (λ (s : SheetValue). (memory s).persisted c.args.place) c.self.view_is

pub word-requires : goal.word-requires
word-requires c =
    let layout = c.self.inside.layout in
    let there : IsPlace layout c.args.place = subst (λ (s : SheetValue). IsPlace s.layout c.args.place) (sym c.self.view_is) c.requires in
    let below = number_of_below layout c.args.place there in
    let count = c.self.invariant.0.words in
    let is = c.number_from.ensures in
    omega arith
