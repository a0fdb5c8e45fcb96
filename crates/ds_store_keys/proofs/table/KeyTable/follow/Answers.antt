use Rattle.std.proofs.Common.{◌≡◌, ◌∙◌, ap, sym, Some, option_map}
use Rattle.ds_store_keys.specs.Keys.{key_in, read_view}
use Rattle.ds_store_keys.proofs.Tabling.{follows, stands_again, stays, with_both}
use Rattle.ds_store_keys.proofs.table.KeyTable.follow.Goals as goal

pub returns-in_default-clause-added : goal.returns-in_default-clause-added
returns-in_default-clause-added c lines are = stays c.args.self.now c.args.layout.now lines c.args.line.now (sym c.read_key.ensures ∙ ap (option_map read_view) c.in_default.is) are

pub returns-clause-added : goal.returns-clause-added
returns-clause-added c =
    let layout = c.args.layout.now in
    let line = c.args.line.now in
    let k = c.in-Ok.note in
    let has : key_in layout line ≡ Some k = sym c.read_key.ensures ∙ (ap (option_map read_view) c.in-Some.is ∙ ap Some (sym c.in-Ok.ensures)) in
    with_both c.add.result c.add.ensures.new c.add.ensures.added (λ none added lines are. follows c.args.self.now c.add.new.self layout lines line k has none added are)

pub returns-clause-again : goal.returns-clause-again
returns-clause-again c again lines are once =
    let layout = c.args.layout.now in
    let line = c.args.line.now in
    let k = c.in-Ok.note in
    let has : key_in layout line ≡ Some k = sym c.read_key.ensures ∙ (ap (option_map read_view) c.in-Some.is ∙ ap Some (sym c.in-Ok.ensures)) in
    stands_again c.args.self.now layout lines line k has (c.add.ensures.again.0 again) are once
