use Rattle.std.proofs.Common.{◌≡◌, ◌++◌, ℕ, subst}
use Rattle.ds_server.specs.Replies.{set_view}
use Rattle.ds_net_desks.specs.StoredDesks.{StoredSet, keyed_of}
use Rattle.ds_net_desks.proofs.Reading.{used_after}
use Rattle.ds_net_desks.proofs.keyed.edited_once.Goals as goal

pub returns-clause-edits : goal.returns-clause-edits
returns-clause-edits g c =
    let what = set_view c.edited_keyed.result in
    let before = c.args.notebook.now in
    let after = c.edited_keyed.new.notebook in
    record {
      uses = used_after (StoredSet before.heard.items c.args.cell c.args.text.now after.heard.items what) c.args.numbered.now c.catch_up.new.numbered c.edited_keyed.new.numbered what c.catch_up.ensures c.edited_keyed.ensures.uses;
      keyed = subst (λ (p : ℕ). after.keyed.items ≡ before.keyed.items ++ keyed_of p c.args.cell c.args.text.now c.args.key.now what) c.catch_up.ensures.process c.edited_keyed.ensures.keyed;
    }
