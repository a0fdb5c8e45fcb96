-- The list of a store's edits, one by one.
use Rattle.std.proofs.Common.{◌≡◌, ◌+◌, ◌<◌, ◌∙◌, ℕ, suc, Bool, true, false, Option, None, Some, is_none, is_some, not, List, [], ◌∷◌, ◌++◌, ap, append_assoc, append-nil, arith, get_or, length, map, min, refl, subst, sym, take, if◌then◌else◌}
use Rattle.std.proofs.Math.Seq.{take-suc}
use Rattle.std.proofs.lemmas.List.{get_or-map, length-map, length-take}
use Rattle.std.proofs.lemmas.List.Sums.{count_by-le-length, count_by_more_no, count_by_more_yes}
use Rattle.std.specs.Io.KnownBytes.{Appends}
use Rattle.std.proofs.KnownBytes.{Appends-trans}
use Rattle.ds_formula.specs.declared.cells.Cell.{Cell}
use Rattle.ds_store_edits.specs.declared.edits.Entry.{Entry}
use Rattle.ds_store_edits.specs.declared.edits.Maker.{Maker}
use Rattle.ds_store_edits.specs.JournalEdits.{EntryValue, entry_view}
use Rattle.ds_store_commands.specs.Lists.{begun_in, entry_text, is_asked, lines_from}

-- ---- texts that the sheet began with

none_if : (maker : Option Maker) (none : Bool) → is_some maker ≡ not none → is_none maker ≡ none
none_if None true is = refl
none_if None false is = sym is
none_if (Some maker) true is = sym is
none_if (Some maker) false is = refl

-- an edit that nobody made is counted
pub begun_more : (entries : List Entry) (i : ℕ) (d : Entry) (count next : ℕ) → i < length entries → length entries < 18446744073709551616 → is_some (get_or entries i d).maker ≡ false
    → next ≡ min (count + 1) 18446744073709551615 → count ≡ begun_in (take i (map entry_view entries)) → next ≡ begun_in (take (i + 1) (map entry_view entries))
begun_more entries i d count next low few none is so_far =
    let p = λ (e : EntryValue). is_none e.maker in
    let views = map entry_view entries in
    let at = get_or-map entry_view entries i d (entry_view d) low in
    let more = count_by_more_yes p views i (entry_view d) (subst (λ n. i < n) (sym (length-map entries entry_view)) low) (ap p at ∙ none_if (get_or entries i d).maker true none) in
    let few_so_far = count_by-le-length p (take i views) in
    let long = length-take i views in
    let same = length-map entries entry_view in
    omega (arith, more, is, so_far, few_so_far, long, same, low, few)

-- an edit that someone made is not
pub begun_still : (entries : List Entry) (i : ℕ) (d : Entry) (count : ℕ) → i < length entries → is_some (get_or entries i d).maker ≡ true
    → count ≡ begun_in (take i (map entry_view entries)) → count ≡ begun_in (take (i + 1) (map entry_view entries))
begun_still entries i d count low made so_far =
    let p = λ (e : EntryValue). is_none e.maker in
    let views = map entry_view entries in
    let at = get_or-map entry_view entries i d (entry_view d) low in
    so_far ∙ sym (count_by_more_no p views i (entry_view d) (subst (λ n. i < n) (sym (length-map entries entry_view)) low) (ap p at ∙ none_if (get_or entries i d).maker false made))

-- ---- lines

-- the line of an edit, where its cell is asked for
abbrev pub line_at : ℕ → Option Cell → EntryValue → List ℕ
line_at place only entry = if is_asked only entry.cell then entry_text place entry else []

-- there is no line of no edit
pub lines_none : (place : ℕ) (only : Option Cell) → lines_from place only [] ≡ []
unfolding lines_from
lines_none place only = refl

lines_more : (place : ℕ) (only : Option Cell) (entries : List EntryValue) (entry : EntryValue)
    → lines_from place only (entries ++ entry ∷ []) ≡ lines_from place only entries ++ line_at (place + length entries) only entry
unfolding lines_from
lines_more place only [] entry = append-nil _ ∙ ap (λ n. line_at n only entry) (omega arith)
lines_more place only (e ∷ entries) entry =
    ap (λ ls. line_at place only e ++ ls) (lines_more (place + 1) only entries entry ∙ ap (λ n. lines_from (place + 1) only entries ++ line_at n only entry) (omega arith))
    ∙ sym (append_assoc (line_at place only e) (lines_from (place + 1) only entries) _)

one_more : (only : Option Cell) (entries : List EntryValue) (i : ℕ) (d : EntryValue) → i < length entries
    → lines_from 1 only (take (i + 1) entries) ≡ lines_from 1 only (take i entries) ++ line_at (i + 1) only (get_or entries i d)
one_more only entries i d low =
    let one : i + 1 ≡ suc i = omega arith in
    let long : 1 + length (take i entries) ≡ i + 1 = let l = length-take i entries in omega (arith, l, low) in
    ap (λ n. lines_from 1 only (take n entries)) one
    ∙ ap (λ es. lines_from 1 only es) (take-suc entries i d low)
    ∙ lines_more 1 only (take i entries) (get_or entries i d)
    ∙ ap (λ n. lines_from 1 only (take i entries) ++ line_at n only (get_or entries i d)) long

-- the line of one edit more is written
pub written_more : (only : Option Cell) (entries : List Entry) (i place : ℕ) (d : Entry) (begun : List ℕ) (old mid new : Option (List ℕ)) → i < length entries → length entries < 18446744073709551616
    → place ≡ min (i + 1) 18446744073709551615
    → Appends old mid (begun ++ lines_from 1 only (take i (map entry_view entries)))
    → Appends mid new (line_at place only (entry_view (get_or entries i d)))
    → Appends old new (begun ++ lines_from 1 only (take (i + 1) (map entry_view entries)))
written_more only entries i place d begun old mid new low few is so_far more =
    let views = map entry_view entries in
    let long = length-map entries entry_view in
    let at = get_or-map entry_view entries i d (entry_view d) low in
    let here : place ≡ i + 1 = omega (arith, is, low, few) in
    subst (Appends old new)
    (append_assoc begun (lines_from 1 only (take i views)) (line_at place only (entry_view (get_or entries i d)))
    ∙ ap (λ ls. begun ++ ls)
    (ap (λ n. lines_from 1 only (take i views) ++ line_at n only (entry_view (get_or entries i d))) here
    ∙ ap (λ e. lines_from 1 only (take i views) ++ line_at (i + 1) only e) (sym at)
    ∙ sym (one_more only views i (entry_view d) (subst (λ n. i < n) (sym long) low))))
    (Appends-trans old mid new _ _ so_far more)
