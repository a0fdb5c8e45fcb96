use Rattle.std.proofs.Common.{rules, ◌≡◌, [], None, length}
use Rattle.std.proofs.lemmas.List.{ext_get_or}
use Rattle.ds_store_keys.specs.Keys.{KeptKey}
use Rattle.ds_store_keys.proofs.notes.are_same.Goals as goal

pub returns-clause-same : goal.returns-clause-same
returns-clause-same c same =
    let d : KeptKey = record { key = []; edit = None } in
    let long : length c.args.notes.now ≡ length c.args.others.now = search rules in
    ext_get_or d c.args.notes.now c.args.others.now long (λ k low. c.loop-number.invariant k d (search rules))
