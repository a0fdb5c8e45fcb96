use Rattle.std.proofs.Common.{OnOk, refl, subst, sym}
use Rattle.http_header.specs.FieldValue.{FieldValue}
use Rattle.http_header.specs.HeaderMap.{Entries}
use Rattle.ds_http.specs.declared.resource.Resource.{Resource}
use Rattle.ds_http.specs.Handshakes.{Shakes}
use Rattle.ds_http.specs.Sites.{Obeys}
use Rattle.ds_http.proofs.Shaking.{on_ok}
use Rattle.ds_http.proofs.site.obey.Goals as goal

pub returns-in-Session-clause-obeys : goal.returns-in-Session-clause-obeys
returns-in-Session-clause-obeys g c =
    subst (λ (named : Resource). OnOk c.shake.result (Obeys g.B.Desk.rules (g.C.Counts.gives c.args.counts.now) (g.A.Analyst.finds c.args.analyst.now) c.args.page.now c.args.desk.now named c.args.request.now c.shake.new.response c.args.desk.now)) (sym c.in-Session.is)
    (on_ok c.shake.result (λ h. (subst (λ (fields : Entries FieldValue). Shakes fields c.shake.new.response) c.headers-in-Session.ensures h, refl)) c.shake.ensures)
