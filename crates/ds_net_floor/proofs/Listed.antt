-- The edits of a journal are listed, one by one.
use Rattle.std.proofs.Common.{String, Global, ◌≡◌, ◌∙◌, ◌+◌, ◌<◌, ◌≤◌, ◌++◌, ◌∷◌, [], ℕ, List, ap, arith, drop, get_or, length, map, min, sym, take}
use Rattle.std.proofs.lemmas.List.{length-map, length-take-le, map-append, take_more}
use Rattle.std.specs.String.{string_bytes}
use Rattle.ds_layout.specs.declared.layout.Layout.{Layout}
use Rattle.ds_server.specs.Replies.{EditEntry, entry_view}
use Rattle.ds_server.specs.declared.desk.ListedEdit.{ListedEdit}
use Rattle.ds_store_edits.specs.JournalEdits as edits
use Rattle.ds_store_edits.specs.JournalEdits.{entries_of}
use Rattle.ds_store_edits.specs.declared.edits.Entry.{Entry}
use Rattle.ds_net_floor.specs.Listings.{listed_as, listed_from, listed_in}

-- one edit more
listed_more : (nobody place : ℕ) (entries : List edits.EntryValue) (entry : edits.EntryValue) → listed_from nobody place (entries ++ entry ∷ []) ≡ listed_from nobody place entries ++ listed_as nobody (place + length entries) entry ∷ []
unfolding listed_from
listed_more nobody place [] entry = ap (λ (n : ℕ). listed_as nobody n entry ∷ []) (omega arith)
listed_more nobody place (e ∷ es) entry =
    let later : (place + 1) + length es ≡ place + length (e ∷ es) = omega arith in
    ap (λ (l : List EditEntry). listed_as nobody place e ∷ l) (listed_more nobody (place + 1) es entry ∙ ap (λ (n : ℕ). listed_from nobody (place + 1) es ++ listed_as nobody n entry ∷ []) later)

-- none is listed yet
pub none_listed : (nobody : ℕ) (list : List ListedEdit) → list ≡ [] → map entry_view list ≡ listed_from nobody 0 []
unfolding listed_from
none_listed nobody list none = ap (map entry_view) none

-- the next edit is listed with its place
pub one_listed : (nobody : ℕ) (all : List Entry) (index : ℕ) (d : Entry) (list : List ListedEdit) (edit : ListedEdit) (place : ℕ) → index < length all → length list ≡ index → place ≡ length list
    → map entry_view list ≡ listed_from nobody 0 (map edits.entry_view (take index all)) → entry_view edit ≡ listed_as nobody place (edits.entry_view (get_or all index d))
    → map entry_view (list ++ edit ∷ []) ≡ listed_from nobody 0 (map edits.entry_view (take (index + 1) all))
one_listed nobody all index d list edit place below count at so_far is =
    let entry : Entry = get_or all index d in
    let first : List edits.EntryValue = map edits.entry_view (take index all) in
    let views : map edits.entry_view (take (index + 1) all) ≡ first ++ edits.entry_view entry ∷ [] =
    ap (map edits.entry_view) (take_more all index d below) ∙ map-append edits.entry_view (take index all) (entry ∷ []) in
    let mapped : length first ≡ length (take index all) = length-map (take index all) edits.entry_view in
    let taken : length (take index all) ≡ index = length-take-le index all (omega (arith, below)) in
    let same : place ≡ 0 + length first = omega (arith, mapped, taken, count, at) in
    map-append entry_view list (edit ∷ [])
    ∙ (ap (λ (l : List EditEntry). l ++ entry_view edit ∷ []) so_far
    ∙ (ap (λ (e : EditEntry). listed_from nobody 0 first ++ e ∷ []) (is ∙ ap (λ (n : ℕ). listed_as nobody n (edits.entry_view entry)) same)
    ∙ (sym (listed_more nobody 0 first (edits.entry_view entry)) ∙ ap (listed_from nobody 0) (sym views))))

-- the first line makes the sheet, and the others have the edits
pub listed_split : (layout : Layout) (nobody n : ℕ) (lines first rest : List (String Global)) (list : List EditEntry) → n ≡ min (length lines) 1 → first ≡ take n lines → rest ≡ drop n lines
    → list ≡ listed_from nobody 0 (entries_of layout (map string_bytes first) (map string_bytes rest)) → list ≡ listed_in layout nobody (map string_bytes lines)
unfolding listed_from entries_of
listed_split layout nobody n [] first rest list is front back so =
    let zero : n ≡ 0 = omega (arith, is) in
    let none : rest ≡ [] = back ∙ ap (λ (k : ℕ). drop k []) zero in
    so ∙ ap (λ (r : List (String Global)). listed_from nobody 0 (entries_of layout (map string_bytes first) (map string_bytes r))) none
listed_split layout nobody n (l ∷ ls) first rest list is front back so =
    let some : 1 ≤ length (l ∷ ls) = omega arith in
    let one : n ≡ 1 = omega (arith, is, some) in
    let head : first ≡ l ∷ [] = front ∙ ap (λ (k : ℕ). take k (l ∷ ls)) one in
    let tail : rest ≡ ls = back ∙ ap (λ (k : ℕ). drop k (l ∷ ls)) one in
    so
    ∙ (ap (λ (f : List (String Global)). listed_from nobody 0 (entries_of layout (map string_bytes f) (map string_bytes rest))) head
    ∙ ap (λ (r : List (String Global)). listed_from nobody 0 (entries_of layout (map string_bytes (l ∷ [])) (map string_bytes r))) tail)
