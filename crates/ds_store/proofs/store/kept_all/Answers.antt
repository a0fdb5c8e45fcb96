use Rattle.std.proofs.Common.{arith, rules, ◌≡◌, ◌∙◌, ◌++◌, [], ap, length, map, refl, subst, sym, take}
use Rattle.std.proofs.lemmas.Grind.{common_steps}
use Rattle.std.specs.String.{string_bytes}
use Rattle.ds_store_keys.specs.Keys.{keys_of}
use Rattle.ds_store_keys.proofs.Listing.{has_none, no_line}
use Rattle.std.proofs.lemmas.Option.{slice_get_read}
use Rattle.ds_store.proofs.Keying.{one_more}
use Rattle.ds_store.proofs.Unkept.{no_sum_more, one_unwritten}
use Rattle.ds_store.specs.Summing.{HaveNoSums}
use Rattle.ds_store_journal.proofs.Noting.{if_err}
use Rattle.ds_store.proofs.store.kept_all.Goals as goal

pub loop-edit-init : goal.loop-edit-init
loop-edit-init c =
    let none : keys_of c.args.layout.now (map string_bytes c.in_ok-texts.texts.items) ≡ [] = ap (λ ts. keys_of c.args.layout.now (map string_bytes ts)) c.in_ok-texts.ensures.items ∙ no_line c.args.layout.now in
    (search rules, search rules, search rules, none, subst (λ ts. HaveNoSums (map string_bytes ts)) (sym c.in_ok-texts.ensures.items) tt, refl)

pub loop-edit-preserved : goal.loop-edit-preserved
loop-edit-preserved c =
    let layout = c.args.layout.now in
    let texts = c.loop-edit.texts.items in
    let line = string_bytes c.in_ok-text.text in
    let none : keys_of layout (map string_bytes c.push_reserved.new.self.items) ≡ [] =
    ap (keys_of layout) (one_more string_bytes texts c.push_reserved.new.self.items c.in_ok-text.text c.push_reserved.ensures.items)
    ∙ (has_none layout (map string_bytes texts) line c.in_ok-text.ensures.keyless ∙ c.loop-edit.invariant.3) in
    let plain = no_sum_more (map string_bytes texts) line c.loop-edit.invariant.4 c.in_ok-text.ensures.plain in
    let items = one_more string_bytes texts c.push_reserved.new.self.items c.in_ok-text.text c.push_reserved.ensures.items in
    (grind (arith, common_steps), grind (arith, common_steps), grind (arith, common_steps), none, subst HaveNoSums (sym items) plain, c.in_ok-text.ensures.each ∙ c.loop-edit.invariant.5)

pub returns-in_err-text-clause-unkept : goal.returns-in_err-text-clause-unkept
returns-in_err-text-clause-unkept c lines before goes many =
    let layout = c.args.layout.now in
    let edits = c.args.edits.now in
    let i = c.loop-edit.edit-index in
    let inv = c.loop-edit.invariant in
    let edit = c.edit-item.result in
    let at = slice_get_read edits (length edits) i edit refl c.loop-edit-test.true c.edit-item.is in
    let fails = c.in_err-text.ensures.unkept (lines ++ map string_bytes c.loop-edit.texts.items) (before ++ take i edits) (inv.0 lines before goes) (inv.5 ∙ many) in
    if_err c.from_residual-in_err-text.result _ _ c.from_residual-in_err-text.ensures (λ told is. rw is (one_unwritten layout before edits i edit c.in_err-text.field-0.0 at fails))
