use Rattle.std.proofs.Common.{◌<◌, ◌∙◌, [], ap, sym, subst, arith, false}
use Rattle.ds_layout.specs.declared.layout.Layout.{Layout}
use Rattle.ds_layout.specs.declared.place.Place.TheVariants.{Version}
use Rattle.ds_layout.specs.Places.{words_of}
use Rattle.ds_layout.proofs.Places.{number_of_below}
use Rattle.pm_board.specs.Views.{first_view}
use Rattle.ds_structure.specs.Sheet.{sheet}
use Rattle.ds_structure_shared.specs.Boards.{new_words}
use Rattle.ds_structure_shared.proofs.NewWords.{are_new}
use Rattle.ds_structure_shared.proofs.board.make.Goals as goal

pub make-requires-clause-some : goal.make-requires-clause-some
make-requires-clause-some c = subst (λ (l : Layout). 0 < words_of l) (sym c.new.ensures) (let low = number_of_below c.args.layout Version tt in omega arith)

pub make-requires-clause-few : goal.make-requires-clause-few
make-requires-clause-few c = subst (λ (l : Layout). words_of l < 268435456) (sym c.new.ensures) (let is = c.words-words.ensures.value in let few = c.words-words.ensures.at_most in omega (arith, is, few))

pub returns-clause-words : goal.returns-clause-words
returns-clause-words c = are_new c.new.result _ c.in_ok-board.ensures.words ∙ ap new_words c.new.ensures

pub returns-clause-view : goal.returns-clause-view
returns-clause-view c = c.in_ok-board.ensures.place.1 ∙ ap (λ key. (first_view sheet key false [], [])) (sym c.in_ok-board.ensures.key)
