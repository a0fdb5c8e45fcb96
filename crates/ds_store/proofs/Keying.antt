-- The keys of the lines of a store.
use Rattle.std.proofs.Common.{ℕ, ◌≡◌, ◌≢◌, ◌≤◌, ◌-◌, ◌++◌, ◌∷◌, [], List, Option, Some, None, ap, sym, subst, ◌∙◌, refl, length, drop, arith, codes, map}
use Rattle.std.proofs.lemmas.List.{map-append}
use Rattle.ds_layout.specs.declared.layout.Layout.{Layout}
use Rattle.ds_store_journal.specs.Journals.{KeptEdit}
use Rattle.ds_store_keys.specs.Keys.{IsSaid, KEYS_MOST, KeptKey, StandOnce, carried, key_in, keys_of, use_of}
use Rattle.ds_store_keys.specs.Tables.{AreKeys, found}
use Rattle.ds_store_keys.specs.declared.table.KeyTable.{KeyTable}
use Rattle.ds_store_keys.proofs.Listing.{among, first_of, has_none, more_lines, not_after, once_rest, said, use_among, use_first, use_in_both, use_in_rest}
use Rattle.ds_store_keys.proofs.Plain.{sum_line}
use Rattle.ds_store_sums.specs.Sums.{sum_of}
use Rattle.ds_store.specs.GoingOver.{GoesOver}

-- ---- lines that are kept

-- the bytes of one text more
pub one_more : {A : Type 0} (f : A → List ℕ) (texts all : List A) (text : A) → all ≡ texts ++ text ∷ [] → map f all ≡ map f texts ++ f text ∷ []
one_more f texts all text is = ap (map f) is ∙ map-append f texts (text ∷ [])

-- a line that begins as one with a sum has no key
no_key : (layout : Layout) (rest line : List ℕ) → line ≡ codes "# sum " ++ rest → key_in layout line ≡ None
no_key layout rest line is = ap (key_in layout) is ∙ sum_line layout rest

-- of lines after others, of which the last one has a sum
pub with_sum : (layout : Layout) (held plain all : List (List ℕ)) (sum : List ℕ) (before : List (List ℕ)) (keys : List KeptKey) → keys_of layout plain ≡ keys → all ≡ plain ++ sum ∷ []
    → sum ≡ sum_of before → keys_of layout (held ++ all) ≡ keys_of layout held ++ keys
with_sum layout held plain all sum before keys are is sum_is =
    let none : key_in layout sum ≡ None = no_key layout _ sum sum_is in
    more_lines layout held all ∙ ap (λ ks. keys_of layout held ++ ks) (ap (keys_of layout) is ∙ (has_none layout plain sum none ∙ are))

-- a table that has the keys of those, too
pub knows : (table : KeyTable) (layout : Layout) (lines held : List (List ℕ)) (keys : List KeptKey) → keys_of layout lines ≡ keys_of layout held ++ keys
    → AreKeys table (keys_of layout held ++ keys) → AreKeys table (keys_of layout lines)
knows table layout lines held keys is are = subst (AreKeys table) (sym is) are

-- ---- after a store has gone over

-- how many keys are left behind
left : List KeptKey → ℕ
left keys = length keys - KEYS_MOST

as_left : (keys : List KeptKey) → carried keys ≡ drop (left keys) keys
unfolding left
as_left keys = refl

pub carried_on : (old new more : List (List ℕ)) (over : GoesOver old new) (key : List ℕ) (edit : Option KeptEdit) → StandOnce (keys_of over.layout old)
    → use_of key (carried (keys_of over.layout old)) ≡ Some edit → (use_of key (keys_of over.layout old) ≡ Some edit) × (use_of key (keys_of over.again (new ++ more)) ≡ Some edit)
carried_on old new more over key edit once is =
    let keys = keys_of over.layout old in
    let later = use_of key (keys_of over.again more) in
    let now : use_of key (keys_of over.again new) ≡ Some edit = ap (use_of key) over.keys ∙ is in (
      use_in_rest (left keys) key keys edit once (ap (use_of key) (sym (as_left keys)) ∙ is),
      ap (use_of key) (more_lines over.again new more) ∙ (use_in_both key (keys_of over.again new) (keys_of over.again more) ∙ ap (λ x. first_of x later) now),
    )

pub no_others : (old new : List (List ℕ)) (over : GoesOver old new) (key : List ℕ) → use_of key (carried (keys_of over.layout old)) ≡ None → use_of key (keys_of over.again new) ≡ None
no_others old new over key is = ap (use_of key) over.keys ∙ is

pub once_again : (old new : List (List ℕ)) (over : GoesOver old new) → StandOnce (keys_of over.layout old) → StandOnce (keys_of over.again new)
once_again old new over once =
    let keys = keys_of over.layout old in
    subst StandOnce (sym (over.keys ∙ as_left keys)) (once_rest (left keys) keys once)

pub all_carried : (keys : List KeptKey) → length keys ≤ KEYS_MOST → carried keys ≡ keys
all_carried keys few = let none : length keys - KEYS_MOST ≡ 0 = omega (arith, few) in ap (λ n. drop n keys) none

-- ---- each key stands once

never_none : {A : Type 0} (x : Option A) (y : A) → first_of x (Some y) ≡ None → ⊥
never_none None y is = absurd cc
never_none (Some x) y is = absurd cc

pub one_line_alone : (table : KeyTable) (layout : Layout) (before between after : List (List ℕ)) (line again : List ℕ) (k j : KeptKey)
    → AreKeys table (keys_of layout (before ++ line ∷ (between ++ again ∷ after))) → key_in layout line ≡ Some k → key_in layout again ≡ Some j → k.key ≢ j.key
one_line_alone table layout before between after line again k j are has has_too same =
    let rest = between ++ again ∷ after in
    let once = subst StandOnce (among layout before line rest k has) are.once in
    let none : use_of k.key (keys_of layout rest) ≡ None = not_after (keys_of layout before) k (keys_of layout rest) once in
    let tail : keys_of layout rest ≡ keys_of layout between ++ j ∷ keys_of layout after = among layout between again after j has_too in
    let bad : first_of (use_of j.key (keys_of layout between)) (use_of j.key (j ∷ keys_of layout after)) ≡ None =
    sym (use_in_both j.key (keys_of layout between) (j ∷ keys_of layout after)) ∙ (ap (use_of j.key) (sym tail) ∙ (ap (λ q. use_of q (keys_of layout rest)) (sym same) ∙ none)) in
    never_none (use_of j.key (keys_of layout between)) j.edit (ap (first_of (use_of j.key (keys_of layout between))) (sym (use_first j (keys_of layout after))) ∙ bad)

pub line_found : (table : KeyTable) (layout : Layout) (before after : List (List ℕ)) (line : List ℕ) (k : KeptKey) → AreKeys table (keys_of layout (before ++ line ∷ after))
    → key_in layout line ≡ Some k → found table k.key ≡ Some k.edit
line_found table layout before after line k are has =
    let all = among layout before line after k has in
    are.finds k.key ∙ (ap (use_of k.key) all ∙ use_among (keys_of layout before) k (keys_of layout after) (subst StandOnce all are.once))

pub found_said : (table : KeyTable) (layout : Layout) (lines : List (List ℕ)) (key : List ℕ) (edit : Option KeptEdit) → AreKeys table (keys_of layout lines) → found table key ≡ Some edit
    → IsSaid layout lines (record { key = key; edit = edit })
found_said table layout lines key edit are is = said layout lines key edit (sym (are.finds key) ∙ is)
