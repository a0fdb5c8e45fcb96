use Rattle.std.proofs.Common.{inl, inr, refl, sym}
use Rattle.std.proofs.lemmas.List.{append-nil}
use Rattle.ds_server.specs.declared.desk.CallRefusal.TheVariants.{NoMemory}
use Rattle.ds_server.specs.Replies.{Refused}
use Rattle.ds_net_desks.proofs.Hears.{hears_none}
use Rattle.ds_net_desks.proofs.stored_desk.edited_as.Goals as goal

pub returns-in-Err-clause-uses : goal.returns-in-Err-clause-uses
returns-in-Err-clause-uses c = record {
  now = c.args.numbered.now;
  plain = Refused NoMemory;
  catches_up = record { process = refl; newer = inl refl };
  uses = (inr (refl, refl), sym (append-nil c.args.notebook.now.heard.items));
  seen = refl;
  rest = record { numberings = refl; epoch = refl };
}

pub returns-in-Err-clause-hears : goal.returns-in-Err-clause-hears
returns-in-Err-clause-hears c = hears_none c.args.backlog.now c.args.backlog.now c.args.notebook.now.heard.items refl refl refl
