use Rattle.std.proofs.Common.{None, rules, ◌≡◌, ◌∙◌, ap, subst, refl, Bool, true, false, Option, Some, bytes_eq, option_map, if◌then◌else◌}
use Rattle.std.specs.HashMap.{get_by}
use Rattle.ds_store_keys.specs.Keys.{KeptKey, edit_of}
use Rattle.ds_store_keys.specs.Tables.{found}
use Rattle.ds_store_keys.proofs.Finding.{is_at, updated}
use Rattle.ds_store_keys.proofs.Tabling.{no_some}
use Rattle.ds_store_keys.proofs.table.KeyTable.add.Goals as goal

each : {A B : Type 0} (f : A → B) (b : Bool) (x : A) (y : Option A) → option_map f (if b then Some x else y) ≡ (if b then Some (f x) else option_map f y)
each f true x y = refl
each f false x y = refl

pub returns-in-Ok-clause-again : goal.returns-in-Ok-clause-again
returns-in-Ok-clause-again c =
    let none : found c.args.self.now c.args.note.key ≡ None = search rules in
    (λ bad. absurd cc, λ some. absurd (no_some (found c.args.self.now c.args.note.key) none some))

pub returns-clause-again : goal.returns-clause-again
returns-clause-again c =
    let none : found c.args.self.now c.args.note.key ≡ None = search rules in
    (λ bad. absurd cc, λ some. absurd (no_some (found c.args.self.now c.args.note.key) none some))

pub returns-in-Ok-clause-added : goal.returns-in-Ok-clause-added
returns-in-Ok-clause-added c key =
    let inside = c.note.inside in
    let old = c.args.self.now.uses in
    let new = c.insert.new.self in
    subst (λ (n : KeptKey). option_map edit_of (get_by (is_at key) new) ≡ (if bytes_eq key n.key then Some n.edit else found c.args.self.now key)) c.note.view_is
    (ap (option_map edit_of) (updated old new inside.key.items (Some inside.of) c.in-Ok.ensures.updates key) ∙ each edit_of (bytes_eq key inside.key.items) inside.of (get_by (is_at key) old))
