-- Tables that grow.
use Rattle.std.proofs.Common.{◌≡◌, ◌∙◌, sym, ap, subst, ◌++◌, ◌∷◌, [], List, ℕ, Option, Some, None, IsSome, Result, Ok, Err, OnOk, bytes_eq, if◌then◌else◌}
use Rattle.ds_layout.specs.declared.layout.Layout.{Layout}
use Rattle.ds_store_keys.specs.Keys.{KeptKey, StandOnce, key_in, keys_of, use_of}
use Rattle.ds_store_keys.specs.Tables.{AreKeys, found}
use Rattle.ds_store_keys.specs.declared.table.KeyTable.{KeyTable}
use Rattle.ds_store_keys.proofs.Listing.{has_key, has_none, not_before, once_more, use_more}

-- by one key, which it had not
pub grows : (old new : KeyTable) (keys : List KeptKey) (k : KeptKey) → found old k.key ≡ None
    → ((key : List ℕ) → found new key ≡ (if bytes_eq key k.key then Some k.edit else found old key)) → AreKeys old keys → AreKeys new (keys ++ k ∷ [])
grows old new keys k none added are =
    let absent : use_of k.key keys ≡ None = sym (are.finds k.key) ∙ none in
    record {
      finds = λ key. added key ∙ (ap (λ f. if bytes_eq key k.key then Some k.edit else f) (are.finds key) ∙ sym (use_more key keys k absent));
      once = once_more keys k are.once absent;
    }

-- by the key of one line more
pub follows : (old new : KeyTable) (layout : Layout) (lines : List (List ℕ)) (line : List ℕ) (k : KeptKey) → key_in layout line ≡ Some k → found old k.key ≡ None
    → ((key : List ℕ) → found new key ≡ (if bytes_eq key k.key then Some k.edit else found old key)) → AreKeys old (keys_of layout lines) → AreKeys new (keys_of layout (lines ++ line ∷ []))
follows old new layout lines line k is none added are =
    subst (AreKeys new) (sym (has_key layout lines line k is)) (grows old new (keys_of layout lines) k none added are)

-- a line more that has no key
pub stays : (table : KeyTable) (layout : Layout) (lines : List (List ℕ)) (line : List ℕ) → key_in layout line ≡ None → AreKeys table (keys_of layout lines) → AreKeys table (keys_of layout (lines ++ line ∷ []))
stays table layout lines line is are =
    subst (AreKeys table) (sym (has_none layout lines line is)) are

-- what is not there is not there
pub no_some : {A : Type 0} (x : Option A) → x ≡ None → IsSome x → ⊥
no_some None is some = absurd cc
no_some (Some x) is some = absurd cc

-- a table that knows a key, and a line more that has it: the key stands twice then
pub stands_again : (table : KeyTable) (layout : Layout) (lines : List (List ℕ)) (line : List ℕ) (k : KeptKey) → key_in layout line ≡ Some k → IsSome (found table k.key)
    → AreKeys table (keys_of layout lines) → StandOnce (keys_of layout (lines ++ line ∷ [])) → ⊥
stands_again table layout lines line k is some are once =
    no_some (found table k.key) (are.finds k.key ∙ not_before (keys_of layout lines) k [] (subst StandOnce (has_key layout lines line k is) once)) some

-- where two facts are so of what came well, so is what follows of them
pub with_both : {T E : Type 0} {P Q R : Type 0} (r : Result T E) → OnOk r P → OnOk r Q → (P → Q → R) → OnOk r R
with_both (Ok x) p q f = f p q
with_both (Err e) p q f = p
