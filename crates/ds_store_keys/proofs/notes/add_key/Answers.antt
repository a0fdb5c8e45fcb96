use Rattle.std.proofs.Common.{◌≡◌, ◌∙◌, ◌++◌, ◌∷◌, [], ap, sym, Some, option_map}
use Rattle.ds_store_keys.specs.Keys.{key_in, read_view}
use Rattle.ds_store_keys.proofs.Listing.{has_key, has_none}
use Rattle.ds_store_keys.proofs.notes.add_key.Goals as goal

pub returns-in_ok-push : goal.returns-in_ok-push
returns-in_ok-push c lines are =
    let layout = c.args.layout.now in
    let line = c.args.line.now in
    let k = c.in_ok-note.field-0 in
    let has : key_in layout line ≡ Some k = sym c.read_key.ensures ∙ (ap (option_map read_view) c.in-Some.is ∙ ap Some (sym c.in_ok-note.ensures)) in
    let items : c.push.new.self.items ≡ c.args.notes.now.items ++ k ∷ [] = c.in_ok-push.ensures.items in
    items ∙ (ap (λ notes. notes ++ k ∷ []) are ∙ sym (has_key layout lines line k has))

pub returns-in_default : goal.returns-in_default
returns-in_default c lines are = are ∙ sym (has_none c.args.layout.now lines c.args.line.now (sym c.read_key.ensures ∙ ap (option_map read_view) c.in_default.is))
