use Rattle.std.proofs.Common.{◌∙◌, ◌++◌, ◌∷◌, [], Err, ap, map, subst, sym}
use Rattle.std.specs.String.{string_bytes}
use Rattle.ds_store_keys.specs.Keys.{KeptKey, keys_of}
use Rattle.ds_store_keys.specs.Tables.{AreKeys}
use Rattle.ds_store_keys.proofs.Listing.{has_key}
use Rattle.ds_store_keys.proofs.Tabling.{grows}
use Rattle.ds_store.proofs.Growing.{on_ok, sum_after}
use Rattle.ds_store.proofs.Keying.{one_more}
use Rattle.ds_store.proofs.Unkept.{key_not_sum, no_sum_more, not_added}
use Rattle.ds_store.specs.Keeping.{KeysHaveNoLines}
use Rattle.ds_store.specs.Summing.{HaveNoSums}
use Rattle.ds_store_journal.proofs.Noting.{if_err}
use Rattle.ds_store_sums.specs.Sums.{is_sum}
use Rattle.ds_store.proofs.noting.put_note.Goals as goal

pub returns-clause-journal : goal.returns-clause-journal
returns-clause-journal c =
    let old = c.args.texts.now.items in
    let new = c.put_text.new.texts.items in
    let line = c.in_ok-line.line in
    on_ok c.put_text.result c.put_text.ensures.put (λ items counts held edits goes.
    sum_after c.args.layout.now counts held (map string_bytes old) (map string_bytes new) (string_bytes line) edits goes (one_more string_bytes old new line items) c.in_ok-line.ensures.has.0)

pub returns-clause-keys : goal.returns-clause-keys
returns-clause-keys c =
    let old = c.args.texts.now.items in
    let new = c.put_text.new.texts.items in
    let line = c.in_ok-line.line in
    on_ok c.put_text.result c.put_text.ensures.put (λ items.
    ap (keys_of c.args.layout.now) (one_more string_bytes old new line items) ∙ has_key c.args.layout.now (map string_bytes old) (string_bytes line) c.args.note.now c.in_ok-line.ensures.has.1)

pub returns-clause-table : goal.returns-clause-table
returns-clause-table c =
    let old = c.args.table.now in
    let new = c.add.new.self in
    on_ok c.put_text.result c.put_text.ensures.put (λ items before are.
    subst (λ (k : KeptKey). AreKeys new (before ++ k ∷ [])) c.in_ok-copied.ensures (grows old new before c.in_ok-copied.field-0 c.in_ok-add.ensures.new c.in_ok-add.ensures.added are))

pub returns-in_err-add-clause-unkept : goal.returns-in_err-add-clause-unkept
returns-in_err-add-clause-unkept c known are =
    let layout = c.args.layout.now in
    let copy = c.in_ok-copied.field-0 in
    let why = c.in_err-add.field-0.0 in
    let fails = not_added layout c.args.table.now known copy why are c.in_err-add.ensures.fault (λ again. c.in_err-add.ensures.again.0 (ap Err again)) in
    if_err c.from_residual-in_err-add.result _ _ c.from_residual-in_err-add.ensures (λ told is. rw is (subst (λ (k : KeptKey). KeysHaveNoLines layout known (k ∷ []) why) c.in_ok-copied.ensures fails))

pub returns-clause-plain : goal.returns-clause-plain
returns-clause-plain c =
    let old = c.args.texts.now.items in
    let new = c.put_text.new.texts.items in
    let line = c.in_ok-line.line in
    on_ok c.put_text.result c.put_text.ensures.put (λ items none.
    subst HaveNoSums (sym (one_more string_bytes old new line items)) (no_sum_more (map string_bytes old) (string_bytes line) none (ap is_sum c.in_ok-line.ensures.text ∙ key_not_sum c.args.note.now)))
