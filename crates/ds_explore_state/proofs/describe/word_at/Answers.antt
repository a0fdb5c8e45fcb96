use Rattle.std.proofs.Common.{◌≡◌, ap, sym, subst, true, ◌∙◌}
use Rattle.ds_layout.specs.Places.{IsPlace}
use Rattle.ds_layout.specs.declared.layout.Layout.{Layout}
use Rattle.ds_words.specs.Words.{memory_of}
use Rattle.ds_state.specs.Value.{WorldValue}
use Rattle.ds_explore_state.specs.States.{word_in}
use Rattle.ds_explore_state.proofs.Parts.{no_place, same_word}
use Rattle.ds_explore_state.proofs.describe.word_at.Goals as goal

pub returns-else-contains : goal.returns-else-contains
returns-else-contains c =
    let sheet = c.world.inside.words in
    let none : IsPlace sheet.layout c.args.place → ⊥ = λ is. (let yes : c.contains.result ≡ true = c.contains.ensures.1 (subst (λ (l : Layout). IsPlace l c.args.place) (sym c.layout.ensures) is) in cc) in
    same_word 0 0 _ _ (sym (no_place sheet.layout (memory_of sheet.words).cached c.args.place none)) (sym (no_place sheet.layout (memory_of sheet.words).persisted c.args.place none))
    ∙ ap (λ (w : WorldValue). word_in w c.args.place) c.world.view_is
