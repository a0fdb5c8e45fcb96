use Rattle.std.proofs.Common.{ap, inl, inr, refl, subst, sym}
use Rattle.ds_server.specs.DeskCalls.{View}
use Rattle.ds_server.specs.Replies.{report_view}
use Rattle.ds_net_desks.specs.CellQuestions.{HasComputed}
use Rattle.ds_net_desks.specs.StoredDesks.{StoredDeals, notes_in}
use Rattle.ds_net_desks.proofs.Viewing.{views}
use Rattle.ds_net_desks.proofs.stored_desk.StoredDeskDesk.view.Goals as goal
use Rattle.ds_net_desks.proofs.stored_desk.StoredDeskDesk.view.Goals.{in-Ok, in-Err}

pub returns-clause-does : goal.returns-clause-does
returns-clause-does g c =
    let shared = c.args.self.now.shared in
    let before = notes_in c.args.self.now.notebook in
    elim c.match-viewed.branch [
      | in-Ok w ↦
          subst (λ s. StoredDeals shared.shape shared.numbered before (View c.args._joined) (report_view c.match-viewed.end) s.shared.numbered (notes_in s.notebook)) (sym w.self-is)
          (subst (λ e. StoredDeals shared.shape shared.numbered before (View c.args._joined) (report_view e) c.viewed.new.self.numbered before) (sym w.end-is)
          (views shared.shape shared.numbered c.viewed.new.self.numbered before before c.args._joined (report_view w.in-Ok.end) (inl (w.in-Ok.ensures.viewed, refl)) refl refl))
      | in-Err w ↦
          let after = notes_in w.computed_values-end.new.notebook in
          subst (λ s. StoredDeals shared.shape shared.numbered before (View c.args._joined) (report_view c.match-viewed.end) s.shared.numbered (notes_in s.notebook)) (sym w.self-is)
          (subst (λ e. StoredDeals shared.shape shared.numbered before (View c.args._joined) (report_view e) c.viewed.new.self.numbered after) (sym w.end-is)
          (views shared.shape shared.numbered c.viewed.new.self.numbered before after c.args._joined (report_view w.computed_values-end.result)
          (inr (w.in-Err.ensures.none.0, subst (λ h. HasComputed h before.seen (report_view w.computed_values-end.result) after.seen) c.viewed.ensures.rest.0 w.computed_values-end.ensures.computed))
          (ap (λ l. l.items) w.computed_values-end.ensures.notes.0) (ap (λ l. l.items) w.computed_values-end.ensures.notes.1)))
    ]
