-- Why edits and keys have no lines.
use Rattle.std.proofs.Common.{◌≡◌, ◌⊎◌, ◌∙◌, ◌++◌, ◌∷◌, [], inl, inr, ℕ, zero, suc, IsSome, List, Option, Some, None, ap, append-nil, append_assoc, drop, eq-eqb, eqb, false, refl, slice_get, subst, sym, take, true≢false}
use Rattle.ds_formula.proofs.Digits.{unequal}
use Rattle.ds_layout.specs.declared.layout.Layout.{Layout}
use Rattle.ds_script_io.specs.Fields.{is_skipped}
use Rattle.ds_store.specs.Keeping.{HaveKeyLines, HaveNoLines, KeysHaveNoLines, MayBeNext, MayFollow}
use Rattle.ds_store.specs.Summing.{AreNotAdded, HaveNoSums}
use Rattle.ds_store.specs.declared.fault.StoreFault.{StoreFault}
use Rattle.ds_store.specs.declared.fault.StoreFault.TheVariants as store
use Rattle.ds_store_journal.specs.Faults.{IsUnwritten}
use Rattle.ds_store_journal.specs.Journals.{KeptEdit}
use Rattle.ds_store_journal.specs.declared.fault.JournalFault.{JournalFault}
use Rattle.ds_store_journal.specs.declared.fault.JournalFault.TheVariants.{KeyAgain, NoMemory}
use Rattle.ds_store_keys.specs.Keys.{KeptKey, StandOnce, use_of}
use Rattle.ds_store_keys.specs.Tables.{AreKeys, found}
use Rattle.ds_store_keys.specs.Written.{HasKeyLine, key_text}
use Rattle.ds_store_keys.specs.declared.table.KeyTable.{KeyTable}
use Rattle.ds_store_keys.proofs.Listing.{first_of, not_before, use_in_both}
use Rattle.ds_store_sums.specs.Sums.{is_sum}

-- ---- sums

-- a line that is not skipped has no sum
pub not_sum : (line : List ℕ) → is_skipped line ≡ false → is_sum line ≡ false
not_sum [] is = absurd cc
not_sum (b ∷ line) is =
    let other : eqb 35 b ≡ false = unequal 35 b (λ e. true≢false (sym (eq-eqb b 35 (sym e)) ∙ is)) in
    rw other refl

-- nor has the line of a key
pub key_not_sum : (key : KeptKey) → is_sum (key_text key) ≡ false
key_not_sum key = refl

pub no_sum_more : (lines : List (List ℕ)) (line : List ℕ) → HaveNoSums lines → is_sum line ≡ false → HaveNoSums (lines ++ line ∷ [])
no_sum_more [] line none is = (is, tt)
no_sum_more (l ∷ lines) line none is = (none.0, no_sum_more lines line none.1 is)

no_sum_at : (front back : List (List ℕ)) (line : List ℕ) → HaveNoSums (front ++ line ∷ back) → is_sum line ≡ false
no_sum_at [] back line none = none.0
no_sum_at (f ∷ front) back line none = no_sum_at front back line none.1

-- lines without sums are added but for memory
pub only_memory : (before lines : List (List ℕ)) (fault : StoreFault) → HaveNoSums lines → AreNotAdded before lines fault → fault ≡ store.NoMemory
only_memory before lines fault none (inl memory) = memory
only_memory before lines fault none (inr wrong) =
    let w = wrong.2 in
    absurd (let plain = no_sum_at w.front w.back w.line (subst HaveNoSums w.are none) in let sum = w.is in cc)

-- ---- edits

-- each of the edits can be the next one after those before it
next_at : (layout : Layout) (before edits : List KeptEdit) (n : ℕ) (edit : KeptEdit) → slice_get edits n ≡ Some edit → MayFollow layout before edits → MayBeNext layout (before ++ take n edits) edit
next_at layout before [] n edit at may = absurd cc
next_at layout before (e ∷ edits) zero edit at may =
    let same : e ≡ edit = cc in subst (MayBeNext layout (before ++ [])) same (subst (λ b. MayBeNext layout b e) (sym (append-nil before)) may.0)
next_at layout before (e ∷ edits) (suc n) edit at may = subst (λ b. MayBeNext layout b edit) (append_assoc before (e ∷ []) (take n edits)) (next_at layout (before ++ e ∷ []) edits n edit at may.1)

pub one_unwritten : (layout : Layout) (before edits : List KeptEdit) (n : ℕ) (edit : KeptEdit) (why : JournalFault) → slice_get edits n ≡ Some edit
    → IsUnwritten (MayBeNext layout (before ++ take n edits) edit) why → IsUnwritten (MayFollow layout before edits) why
one_unwritten layout before edits n edit why at (inl memory) = inl memory
one_unwritten layout before edits n edit why at (inr other) = inr (other.0, λ may. other.1 (next_at layout before edits n edit at may))

pub edits_have_none : (layout : Layout) (before edits : List KeptEdit) (known keys : List KeptKey) (why : JournalFault) → IsUnwritten (MayFollow layout before edits) why → HaveNoLines layout before edits known keys why
edits_have_none layout before edits known keys why (inl memory) = inr (inl memory)
edits_have_none layout before edits known keys why (inr other) = inl other

-- ---- keys

line_at : (layout : Layout) (keys : List KeptKey) (n : ℕ) (key : KeptKey) → slice_get keys n ≡ Some key → HaveKeyLines layout keys → HasKeyLine layout key
line_at layout [] n key at have = absurd cc
line_at layout (k ∷ keys) zero key at have = let same : k ≡ key = cc in subst (HasKeyLine layout) same have.0
line_at layout (k ∷ keys) (suc n) key at have = line_at layout keys n key at have.1

none_first : (o p : Option (Option KeptEdit)) → first_of o p ≡ None → o ≡ None
none_first None p is = refl
none_first (Some x) p is = absurd cc

-- the first of keys that stand once do so
once_front : (keys more : List KeptKey) → StandOnce (keys ++ more) → StandOnce keys
unfolding StandOnce
once_front [] more once = tt
once_front (k ∷ keys) more once = (none_first (use_of k.key keys) (use_of k.key more) (sym (use_in_both k.key keys more) ∙ once.0), once_front keys more once.1)

cut : (keys : List KeptKey) (n : ℕ) (key : KeptKey) → slice_get keys n ≡ Some key → keys ≡ take n keys ++ key ∷ drop (suc n) keys
cut [] n key at = absurd cc
cut (k ∷ keys) zero key at = let same : k ≡ key = cc in ap (λ x. x ∷ keys) same
cut (k ∷ keys) (suc n) key at = ap (λ ks. k ∷ ks) (cut keys n key at)

-- a key that a table has would stand again
pub stands_again : (table : KeyTable) (known : List KeptKey) (key : KeptKey) → AreKeys table known → IsSome (found table key.key) → StandOnce (known ++ key ∷ []) → ⊥
stands_again table known key are some once = true≢false (sym (subst IsSome (are.finds key.key ∙ not_before known key [] once) some))

pub one_key : (layout : Layout) (known : List KeptKey) (key : KeptKey) (why : JournalFault) → IsUnwritten (HasKeyLine layout key) why → KeysHaveNoLines layout known (key ∷ []) why
one_key layout known key why (inl memory) = inl memory
one_key layout known key why (inr other) = inr (inl (other.0, λ have. other.1 have.0))

pub not_added : (layout : Layout) (table : KeyTable) (known : List KeptKey) (key : KeptKey) (why : JournalFault) → AreKeys table known → (why ≡ KeyAgain) ⊎ (why ≡ NoMemory)
    → (why ≡ KeyAgain → IsSome (found table key.key)) → KeysHaveNoLines layout known (key ∷ []) why
not_added layout table known key why are (inl again) has = inr (inr (again, stands_again table known key are (has again)))
not_added layout table known key why are (inr memory) has = inl memory

pub one_of_keys : (layout : Layout) (known keys : List KeptKey) (n : ℕ) (key : KeptKey) (why : JournalFault) → slice_get keys n ≡ Some key
    → KeysHaveNoLines layout (known ++ take n keys) (key ∷ []) why → KeysHaveNoLines layout known keys why
one_of_keys layout known keys n key why at (inl memory) = inl memory
one_of_keys layout known keys n key why at (inr (inl other)) = inr (inl (other.0, λ have. other.1 (line_at layout keys n key at have, tt)))
one_of_keys layout known keys n key why at (inr (inr again)) =
    inr (inr (
      again.0,
      λ once.
          let parts : known ++ keys ≡ ((known ++ take n keys) ++ key ∷ []) ++ drop (suc n) keys =
          ap (λ ks. known ++ ks) (cut keys n key at) ∙ sym (append_assoc known (take n keys) (key ∷ drop (suc n) keys)) ∙ sym (append_assoc (known ++ take n keys) (key ∷ []) (drop (suc n) keys)) in
          again.1 (once_front ((known ++ take n keys) ++ key ∷ []) (drop (suc n) keys) (subst StandOnce parts once)),
    ))
