use Rattle.std.proofs.Common.{inl, subst, sym}
use Rattle.ds_server.specs.Replies.{got_view}
use Rattle.ds_net_desks.specs.CellQuestions.{HasAsked, HasGot}
use Rattle.ds_net_desks.proofs.shared_desk.SharedDesk.got.Goals as goal

pub returns-clause-asked : goal.returns-clause-asked
returns-clause-asked g c =
    let cell = c.args.cell in
    let what = got_view cell c.answer-got.result in
    let seen = c.args.notebook.now.seen.items in
    let after = c.answer-got.new.notebook.seen.items in
    let old = c.in-Ok.numbered in
    let new = c.answer-got.new.numbered in
    subst (λ o. HasAsked c.args.self.now.shape cell o seen what o after) (sym c.in_default.is)
    (inl (old, new, subst (λ n. HasGot cell n old seen what new after) c.index.ensures.value c.answer-got.ensures.got))
