use Rattle.std.proofs.Common.{◌∙◌, ap, inl, inr, refl}
use Rattle.ds_store_keys.specs.Tables.{found}
use Rattle.ds_net_desks.proofs.Keys.{known_of, resolves_known, spends}
use Rattle.ds_net_desks.proofs.keyed.resolved.Goals as goal

pub returns-in-Ok-Some-clause-resolved : goal.returns-in-Ok-Some-clause-resolved
returns-in-Ok-Some-clause-resolved g c = record {
  list = c.show.result.now;
  seen = c.show.ensures.seen;
  does = let is = known_of (found c.show.result.now.keys c.args.key.now) c.in-Ok-Some.field-0 c.in-Ok-Some.edit c.in-Ok-Some.field-0-is c.in-Ok-Some.ensures.some in
      inl (resolves_known c.args.key.now (found c.show.result.now.keys c.args.key.now) is.0 c.in-Ok-Some.edit c.args.notebook.now.keyed.items c.show.new.notebook.keyed.items is.1 is.2 (ap (λ l. l.items) c.show.ensures.notes.1));
}

pub returns-in-Ok-None-clause-resolved : goal.returns-in-Ok-None-clause-resolved
returns-in-Ok-None-clause-resolved g c = record {
  list = c.show.result.now;
  seen = ap (λ l. l.items) c.spend-end.ensures.notes.1 ∙ c.show.ensures.seen;
  does = spends c.args.key.now (found c.show.result.now.keys c.args.key.now) c.spend-end.result c.args.notebook.now.keyed.items c.show.new.notebook.keyed.items c.spend-end.new.notebook.keyed.items (c.in-Ok-None.ensures.none c.in-Ok-None.field-0-is)
      (ap (λ l. l.items) c.show.ensures.notes.1) c.spend-end.ensures.resolves;
}

pub returns-clause-resolved : goal.returns-clause-resolved
returns-clause-resolved g c = record {
  list = c.show.result.now;
  seen = c.show.ensures.seen;
  does = inr (refl, ap (λ l. l.items) c.show.ensures.notes.1);
}
