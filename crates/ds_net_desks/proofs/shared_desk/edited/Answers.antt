use Rattle.std.proofs.Common.{inl, inr, refl}
use Rattle.ds_net_desks.specs.SharedDesks.{sheet_of}
use Rattle.ds_net_desks.proofs.Sharing.{lacks}
use Rattle.ds_net_desks.proofs.shared_desk.edited.Goals as goal

pub returns-in-Ok : goal.returns-in-Ok
returns-in-Ok c = record {
  edits = inl (c.in-Ok.how, c.in-Ok.ensures.made.1, c.ended.ensures);
}

pub returns-in-Err : goal.returns-in-Err
returns-in-Err c = record {
  edits = inr (c.in-Err.ensures.err.1, lacks (sheet_of c.args.seat.now) c.args.cell c.in-Err.field-0 c.in-Err.ensures.err.0, refl);
}
