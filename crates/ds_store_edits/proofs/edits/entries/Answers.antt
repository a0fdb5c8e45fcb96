use Rattle.std.proofs.Common.{◌≡◌, ◌∙◌, ◌<◌, ◌≤◌, ◌+◌, ◌++◌, ◌∷◌, [], List, ap, get_or, length, map, take, drop, append_assoc, subst, sym, refl, inl, inr, ⊎_elim, arith}
use Rattle.std.proofs.lemmas.List.{drop_more, get_or-map, length-map}
use Rattle.std.specs.String.{string_bytes}
use Rattle.ds_store_edits.specs.declared.edits.Entry.{Entry}
use Rattle.ds_store_edits.specs.JournalEdits.{EntryValue, HasPassed, entry_view, entries_in}
use Rattle.ds_store_journal.specs.Faults.{AreUncounted, IsUncounted}
use Rattle.ds_store_journal.proofs.Noting.{cut_at, uncounted_more}
use Rattle.ds_store_edits.proofs.Makers.{HasListed, listed_all, listed_more, listed_none, match_err, take_drop, uncounted_on}
use Rattle.ds_store_edits.proofs.edits.entries.Goals as goal

abbrev views : List Entry → List EntryValue
views entries = map entry_view entries

pub loop-line-init : goal.loop-line-init
loop-line-init c =
    let layout = c.args.layout.now in
    let before = map string_bytes c.args.before.now in
    let lines = map string_bytes c.args.lines.now in
    let passed = c.in_ok-passed.passed in
    record {
      count = c.in_ok-passed.ensures.count;
      listed = subst (λ es. HasListed layout before lines passed (views es) 0) (sym c.new-entries.ensures.items) (listed_none layout before lines passed c.in_ok-passed.ensures.passed);
    }

pub loop-line-preserved : goal.loop-line-preserved
loop-line-preserved c =
    let layout = c.args.layout.now in
    let before = map string_bytes c.args.before.now in
    let lines = map string_bytes c.args.lines.now in
    let index = c.loop-line.line-index in
    let item = c.line-item.result in
    let bytes = c.as_bytes.result.now in
    let low : index < length lines = omega (arith, length-map c.args.lines.now string_bytes, c.loop-line-test.true) in
    let at : bytes ≡ get_or lines index bytes =
    c.as_bytes.ensures.value ∙ (ap string_bytes c.line-item.is ∙ sym (get_or-map string_bytes c.args.lines.now index item bytes c.loop-line-test.true)) in
    let more = listed_more layout before lines c.loop-line.passed c.pass.new.self (views c.loop-line.entries.items) (entries_in c.in_ok-entry.entry) index bytes low at
    c.in_ok-entry.ensures.passed c.in_ok-entry.ensures.entries c.loop-line.invariant.listed in
    record {
      count = c.in_ok-entry.ensures.count;
      listed = subst (λ ms. HasListed layout before lines c.pass.new.self ms (index + 1)) (sym c.in_ok-add.ensures) more;
    }

pub returns : goal.returns
returns c =
    let layout = c.args.layout.now in
    let before = map string_bytes c.args.before.now in
    let lines = map string_bytes c.args.lines.now in
    let all : length lines ≤ c.loop-line.line-index = omega (arith, length-map c.args.lines.now string_bytes, c.loop-line-test.false) in
    listed_all layout before lines c.loop-line.passed (views c.loop-line.entries.items) c.loop-line.line-index all c.loop-line.invariant.listed

pub returns-in_err-passed : goal.returns-in_err-passed
returns-in_err-passed c =
    let before = map string_bytes c.args.before.now in
    let lines = map string_bytes c.args.lines.now in
    match_err c.from_residual.result _ _ _ c.from_residual.ensures (λ fault is.
    let same : fault ≡ c.in_err-passed.field-0.0 = is in
    inr (uncounted_more c.args.layout.now before lines (before ++ lines) fault refl (subst (IsUncounted c.args.layout.now before) (sym same) c.in_err-passed.ensures.uncounted)))

pub returns-in_err-entry : goal.returns-in_err-entry
returns-in_err-entry c =
    let layout = c.args.layout.now in
    let before = map string_bytes c.args.before.now in
    let lines = c.args.lines.now in
    let all = map string_bytes lines in
    let index = c.loop-line.line-index in
    let bytes = c.as_bytes.result.now in
    let first = map string_bytes (take index lines) in
    let more = map string_bytes (drop (index + 1) lines) in
    let cut = cut_at string_bytes lines index c.line-item.result c.loop-line-test.true c.line-item.is ∙ ap (λ b. (first ++ b ∷ []) ++ more) (sym c.as_bytes.ensures.value) in
    let are : all ≡ first ++ bytes ∷ more = cut ∙ append_assoc first (bytes ∷ []) more in
    let rest = drop index all in
    let low : index < length all = omega (arith, length-map lines string_bytes, c.loop-line-test.true) in
    let at : bytes ≡ get_or all index bytes =
    c.as_bytes.ensures.value ∙ (ap string_bytes c.line-item.is ∙ sym (get_or-map string_bytes lines index c.line-item.result bytes c.loop-line-test.true)) in
    let next : rest ≡ bytes ∷ drop (index + 1) all = drop_more all index bytes low ∙ ap (λ l. l ∷ drop (index + 1) all) (sym at) in
    let has = subst (HasPassed layout c.loop-line.passed (before ++ take index all)) next c.loop-line.invariant.listed.has_passed in
    let why = c.in_err-entry.ensures.unlisted (before ++ take index all) (drop (index + 1) all) has in
    match_err c.from_residual-in_err-entry.result _ _ _ c.from_residual-in_err-entry.ensures (λ fault is.
    let same : fault ≡ c.in_err-entry.field-0.0 = is in
    ⊎_elim
    (λ none. inl (same ∙ none.0, record { before = first; line = bytes; after = more; are = are; neither = none.1 }))
    (λ many. inr (inr (
      same ∙ many.0,
      subst (AreUncounted layout) (append_assoc before (take index all) (drop index all) ∙ ap (λ ls. before ++ ls) (take_drop index all))
          (uncounted_on layout (before ++ take index all) (drop index all) many.1),
    )))
    why)
