use Rattle.std.proofs.Common.{◌≡◌, ◌∙◌, ◌++◌, inl, inr, map, refl, sym, subst, subst₂}
use Rattle.std.specs.String.{string_bytes}
use Rattle.sqlite.specs.Held.{state}
use Rattle.sqlite.proofs.StateLemmas.{survives_weaker}
use Rattle.ds_store_keys.specs.Keys.{StandOnce, keys_of}
use Rattle.ds_store_keys.specs.Tables.{AreKeys}
use Rattle.ds_store_table.specs.Tables.{Holds}
use Rattle.ds_store.specs.Keeping.{HaveNoLines}
use Rattle.ds_store.specs.Stores.{GoesOn, MayKeep}
use Rattle.ds_store_journal.proofs.Noting.{if_err}
use Rattle.ds_store_journal.specs.declared.fault.JournalFault.TheVariants.{NoMemory}
use Rattle.ds_store.proofs.Growing.{sum_after}
use Rattle.ds_store.proofs.Keying.{knows, with_sum}
use Rattle.ds_store.proofs.store.Store.keep_all.Goals as goal

pub returns-clause-kept : goal.returns-clause-kept
returns-clause-kept g c =
    let layout = c.args.self.now.layout in
    let counts = c.lines_to_keep.new.counts.counts.items in
    let table = c.lines_to_keep.new.table in
    let plain = map string_bytes c.in_ok-texts.texts.items in
    let all = map string_bytes c.in_ok-texts-2.texts.items in
    let same : c.deref-3.result.now ≡ c.in_ok-texts-2.texts.items = c.deref-3.ensures.value in
    let edits : c.deref.result.now ≡ c.args.edits.items = c.deref.ensures.value in
    let keys : c.deref-2.result.now ≡ c.args.keys.items = c.deref-2.ensures.value in (
      all,
      (λ held before goes at.
          let kept = subst (λ es. GoesOn layout counts (held ++ plain) (before ++ es)) edits (c.in_ok-texts.ensures.journal held before goes) in
          let summed = c.in_ok-texts-2.ensures.summed held at in
          (sum_after layout counts held plain all summed.1.0 (before ++ c.args.edits.items) kept summed.1.1 summed.1.2, summed.0)),
      (λ held at are.
          let summed = c.in_ok-texts-2.ensures.summed held at in
          let known = subst (λ ks. AreKeys table (keys_of layout held ++ ks)) keys (c.in_ok-texts.ensures.table (keys_of layout held) are) in
          let is : keys_of layout (held ++ all) ≡ keys_of layout held ++ c.args.keys.items = with_sum layout held plain all summed.1.0 (held ++ plain) c.args.keys.items (c.in_ok-texts.ensures.keys ∙ keys) summed.1.1 summed.1.3 in
          (knows table layout (held ++ all) held c.args.keys.items is known, is)),
      (λ clean held holds. subst (λ ts. Holds (held ++ map string_bytes ts) (state g.S.Store c.append.new.conn).now × Holds (held ++ map string_bytes ts) (state g.S.Store c.append.new.conn).committed) same (c.in_ok-append.ensures.added clean held holds)),
    )

pub returns-in_err-append-clause-crash : goal.returns-in_err-append-clause-crash
returns-in_err-append-clause-crash g c held before goes at has =
    let layout = c.args.self.now.layout in
    let counts = c.lines_to_keep.new.counts.counts.items in
    let plain = map string_bytes c.in_ok-texts.texts.items in
    let last = map string_bytes c.in_ok-texts-2.texts.items in
    let edits : c.deref.result.now ≡ c.args.edits.items = c.deref.ensures.value in
    let keys : c.deref-2.result.now ≡ c.args.keys.items = c.deref-2.ensures.value in
    let kept = subst (λ es. GoesOn layout counts (held ++ plain) (before ++ es)) edits (c.in_ok-texts.ensures.journal held before goes) in
    let summed = c.in_ok-texts-2.ensures.summed held at in
    let whole = sum_after layout counts held plain last summed.1.0 (before ++ c.args.edits.items) kept summed.1.1 summed.1.2 in
    let all = subst (λ ts. GoesOn layout counts (held ++ map string_bytes ts) (before ++ c.args.edits.items)) (sym c.deref-3.ensures.value) whole in
    let is : keys_of layout (held ++ last) ≡ keys_of layout held ++ c.args.keys.items = with_sum layout held plain last summed.1.0 (held ++ plain) c.args.keys.items (c.in_ok-texts.ensures.keys ∙ keys) summed.1.1 summed.1.3 in
    let are = subst (λ ts. keys_of layout (held ++ map string_bytes ts) ≡ keys_of layout held ++ c.args.keys.items) (sym c.deref-3.ensures.value) is in
    survives_weaker (state g.S.Store c.args.self.now.conn) (state g.S.Store c.append.new.conn) _ (MayKeep layout held before c.args.edits.items c.args.keys.items)
    (λ clean db may. record { lines = map string_bytes c.deref-3.result.now; journal = all.journal; keys_are = are; holds = may }) (c.append.ensures.crash held has)

pub returns-clause-crash : goal.returns-clause-crash
returns-clause-crash g c held before goes at has =
    let layout = c.args.self.now.layout in
    let counts = c.lines_to_keep.new.counts.counts.items in
    let plain = map string_bytes c.in_ok-texts.texts.items in
    let last = map string_bytes c.in_ok-texts-2.texts.items in
    let edits : c.deref.result.now ≡ c.args.edits.items = c.deref.ensures.value in
    let keys : c.deref-2.result.now ≡ c.args.keys.items = c.deref-2.ensures.value in
    let kept = subst (λ es. GoesOn layout counts (held ++ plain) (before ++ es)) edits (c.in_ok-texts.ensures.journal held before goes) in
    let summed = c.in_ok-texts-2.ensures.summed held at in
    let whole = sum_after layout counts held plain last summed.1.0 (before ++ c.args.edits.items) kept summed.1.1 summed.1.2 in
    let all = subst (λ ts. GoesOn layout counts (held ++ map string_bytes ts) (before ++ c.args.edits.items)) (sym c.deref-3.ensures.value) whole in
    let is : keys_of layout (held ++ last) ≡ keys_of layout held ++ c.args.keys.items = with_sum layout held plain last summed.1.0 (held ++ plain) c.args.keys.items (c.in_ok-texts.ensures.keys ∙ keys) summed.1.1 summed.1.3 in
    let are = subst (λ ts. keys_of layout (held ++ map string_bytes ts) ≡ keys_of layout held ++ c.args.keys.items) (sym c.deref-3.ensures.value) is in
    survives_weaker (state g.S.Store c.args.self.now.conn) (state g.S.Store c.append.new.conn) _ (MayKeep layout held before c.args.edits.items c.args.keys.items)
    (λ clean db may. record { lines = map string_bytes c.deref-3.result.now; journal = all.journal; keys_are = are; holds = may }) (c.append.ensures.crash held has)

pub returns-in_err-append-clause-again : goal.returns-in_err-append-clause-again
returns-in_err-append-clause-again g c before are twice =
    absurd (twice (subst (λ ks. StandOnce (before ++ ks)) c.deref-2.ensures.value (c.in_ok-texts.ensures.table before are).once))

pub returns-clause-again : goal.returns-clause-again
returns-clause-again g c before are twice =
    absurd (twice (subst (λ ks. StandOnce (before ++ ks)) c.deref-2.ensures.value (c.in_ok-texts.ensures.table before are).once))

pub returns-in_err-texts-clause-err : goal.returns-in_err-texts-clause-err
returns-in_err-texts-clause-err g c clean held before goes many at are =
    let layout = c.args.self.now.layout in
    let why = c.in_err-texts.field-0.0 in
    let none = c.in_err-texts.ensures.unkept held before (keys_of layout held) goes many are in
    let these = subst₂ (λ es ks. HaveNoLines layout before es (keys_of layout held) ks why) c.deref.ensures.value c.deref-2.ensures.value none in
    if_err c.from_residual.result _ _ c.from_residual.ensures (λ told is. inl (refl, why, is, these))

pub returns-in_err-texts-2-clause-err : goal.returns-in_err-texts-2-clause-err
returns-in_err-texts-2-clause-err g c clean held before goes many at are =
    let memory = c.in_err-texts-2.ensures.plain held at c.in_ok-texts.ensures.plain in
    if_err c.from_residual-in_err-texts-2.result _ _ c.from_residual-in_err-texts-2.ensures (λ told is. inl (refl, NoMemory, is ∙ memory, inr (inl refl)))

pub returns-in_err-append-clause-err : goal.returns-in_err-append-clause-err
returns-in_err-append-clause-err g c clean held before goes many at known =
    let layout = c.args.self.now.layout in
    let counts = c.lines_to_keep.new.counts.counts.items in
    let plain = map string_bytes c.in_ok-texts.texts.items in
    let last = map string_bytes c.in_ok-texts-2.texts.items in
    let edits : c.deref.result.now ≡ c.args.edits.items = c.deref.ensures.value in
    let keys : c.deref-2.result.now ≡ c.args.keys.items = c.deref-2.ensures.value in
    let kept = subst (λ es. GoesOn layout counts (held ++ plain) (before ++ es)) edits (c.in_ok-texts.ensures.journal held before goes) in
    let summed = c.in_ok-texts-2.ensures.summed held at in
    let whole = sum_after layout counts held plain last summed.1.0 (before ++ c.args.edits.items) kept summed.1.1 summed.1.2 in
    let all = subst (λ ts. GoesOn layout counts (held ++ map string_bytes ts) (before ++ c.args.edits.items)) (sym c.deref-3.ensures.value) whole in
    let is : keys_of layout (held ++ last) ≡ keys_of layout held ++ c.args.keys.items = with_sum layout held plain last summed.1.0 (held ++ plain) c.args.keys.items (c.in_ok-texts.ensures.keys ∙ keys) summed.1.1 summed.1.3 in
    let are = subst (λ ts. keys_of layout (held ++ map string_bytes ts) ≡ keys_of layout held ++ c.args.keys.items) (sym c.deref-3.ensures.value) is in
    if_err c.from_residual-in_err-append.result _ _ c.from_residual-in_err-append.ensures (λ told same. inr (map string_bytes c.deref-3.result.now, all.journal, are, c.in_err-append.field-0.0, same, c.in_err-append.ensures.err clean))
