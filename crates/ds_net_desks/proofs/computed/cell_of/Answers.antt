use Rattle.std.proofs.Common.{◌≡◌, inl, inr, refl, subst}
use Rattle.std.specs.Prelude.{option_map}
use Rattle.ds_server.specs.Replies.{entry_view, got_view, report_view}
use Rattle.ds_net_desks.specs.CellQuestions.{got_said}
use Rattle.ds_net_desks.proofs.computed.cell_of.Goals as goal

pub returns-in-Ok : goal.returns-in-Ok
returns-in-Ok c =
    let plain = report_view c.values_of-end.result in
    let edit = option_map entry_view c.in-Ok.edit in
    inl (
      plain,
      edit,
      c.values_of-end.ensures,
      c.in-Ok.ensures,
      subst (λ n. got_view c.args.cell c.got_of.result ≡ got_said c.args.cell n edit plain) c.index.ensures.value (c.got_of.ensures c.args.cell),
    )

pub returns-in-Err : goal.returns-in-Err
returns-in-Err c = inr refl
