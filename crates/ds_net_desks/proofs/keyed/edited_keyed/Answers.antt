use Rattle.std.proofs.Common.{◌∙◌, ◌++◌, ◌∷◌, [], ap, inl, inr, refl, sym}
use Rattle.std.proofs.lemmas.List.{append-nil}
use Rattle.ds_server.specs.declared.desk.CallRefusal.TheVariants.{NoMemory}
use Rattle.ds_server.specs.Replies.{Refused}
use Rattle.ds_net_desks.proofs.Hears.{hears_beside, hears_key, hears_no_key, hears_none}
use Rattle.ds_net_desks.proofs.keyed.edited_keyed.Goals as goal

pub returns-in_default-clause-uses : goal.returns-in_default-clause-uses
returns-in_default-clause-uses c = record {
  now = c.args.numbered.now;
  plain = Refused NoMemory;
  catches_up = record { process = refl; newer = inl refl };
  uses = (inr (refl, refl), sym (append-nil c.args.notebook.now.heard.items));
  seen = refl;
  rest = record { numberings = refl; epoch = refl };
}

pub returns-in_default-clause-hears : goal.returns-in_default-clause-hears
returns-in_default-clause-hears c = hears_none c.args.backlog.now c.args.backlog.now c.args.notebook.now.heard.items refl refl refl

pub returns-in_default-clause-hears_keys : goal.returns-in_default-clause-hears_keys
returns-in_default-clause-hears_keys c = hears_no_key c.args.backlog.now c.args.backlog.now c.args.notebook.now.keyed.items c.args.notebook.now.keyed.items refl (record { kept = refl; known = refl })

pub returns-in-Ok-Done-clause-hears : goal.returns-in-Ok-Done-clause-hears
returns-in-Ok-Done-clause-hears c =
    hears_beside c.args.backlog.now c.edited_as-end.new.backlog c.hear_key.new.self c.args.notebook.now.heard.items c.edited_as-end.new.notebook.heard.items c.hear_key.new.notebook.heard.items (ap (λ l. l.items) c.hear_key.ensures.notes.0) (ap (λ es. es.items) c.hear_key.ensures.rest.0) c.hear_key.ensures.rest.1
    c.hear_key.ensures.rest.2 c.hear_key.ensures.failed c.edited_as-end.ensures.hears

pub returns-in-Ok-Done-clause-hears_keys : goal.returns-in-Ok-Done-clause-hears_keys
returns-in-Ok-Done-clause-hears_keys c =
    hears_key c.args.backlog.now c.edited_as-end.new.backlog c.hear_key.new.self c.args.notebook.now.keyed.items c.hear_key.new.notebook.keyed.items c.note-note.result c.edited_as-end.ensures.keys
    (c.hear_key.ensures.noted ∙ ap (λ l. l.items ++ (0, c.note-note.result) ∷ []) c.edited_as-end.ensures.notes.1) c.hear_key.ensures.heard
    c.hear_key.ensures.known

pub returns-in_default-end-clause-hears_keys : goal.returns-in_default-end-clause-hears_keys
returns-in_default-end-clause-hears_keys c = hears_no_key c.args.backlog.now c.edited_as-end.new.backlog c.args.notebook.now.keyed.items c.edited_as-end.new.notebook.keyed.items (ap (λ l. l.items) c.edited_as-end.ensures.notes.1) c.edited_as-end.ensures.keys
