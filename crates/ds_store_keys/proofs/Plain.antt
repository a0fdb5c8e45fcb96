-- Lines that have no key.
use Rattle.std.proofs.Common.{◌≡◌, ◌∙◌, refl, sym, ap, ◌++◌, ◌∷◌, [], List, ℕ, zero, suc, false, true≢false, Option, Some, None, bytes_eq, codes, eq-eqb, get_or, length, lt-ltb, nat_lt, cond, ◌<◌, arith, position, if◌then◌else◌, ⊎_elim, ◌==◌}
use Rattle.std.specs.List.{position_or_len}
use Rattle.std.proofs.lemmas.Bool.{cases_Bool}
use Rattle.std.proofs.lemmas.Slice.Eq.{bytes_eq-Decides}
use Rattle.ds_key.specs.Keys.{is_key}
use Rattle.ds_layout.specs.declared.layout.Layout.{Layout}
use Rattle.ds_script_io.specs.Fields.{◌>>=◌, is_skipped}
use Rattle.ds_script_io.specs.ScriptLines.{word_by, word_of}
use Rattle.ds_store_journal.specs.Journals.{after_verb}
use Rattle.ds_store_keys.specs.Keys.{KeptKey, key_in, named_after}

-- the words after `#` that say which key
after_key : Layout → List ℕ → Option KeptKey
after_key layout rest =
    after_verb (codes "key") rest >>= λ words.
    if is_key (word_of words).0
    then (named_after layout (word_of words).1 >>= λ edit. Some (record { key = (word_of words).0; edit = edit }))
    else None

as_words : (layout : Layout) (line : List ℕ) → key_in layout line ≡ (after_verb (codes "#") line >>= after_key layout)
unfolding after_key
as_words layout line = refl

-- a line whose first word is `#` begins so
begins : (at : Option ℕ) (b : ℕ) (rest : List ℕ) → (word_by at (b ∷ rest)).0 ≡ 35 ∷ [] → b ≡ 35
begins None b rest is = ap (λ l. get_or l 0 b) is
begins (Some zero) b rest is = absurd cc
begins (Some (suc n)) b rest is = ap (λ l. get_or l 0 b) is

-- a line that is not skipped has none
pub not_skipped : (layout : Layout) (line : List ℕ) → is_skipped line ≡ false → key_in layout line ≡ None
not_skipped layout [] is = absurd (true≢false is)
not_skipped layout (b ∷ rest) is =
    as_words layout (b ∷ rest) ∙ ap (λ o. o >>= after_key layout) none where
      first : bytes_eq (word_of (b ∷ rest)).0 (codes "#") ≡ false
      first = ⊎_elim
          (λ same.
          let here : b ≡ 35 = begins (position (λ c. c == 32) (b ∷ rest)) b rest ((bytes_eq-Decides (word_of (b ∷ rest)).0 (codes "#")).0 same) in
          absurd (true≢false (sym (eq-eqb b 35 here) ∙ is)))
          (λ apart. apart)
          (cases_Bool (bytes_eq (word_of (b ∷ rest)).0 (codes "#")))

      none : after_verb (codes "#") (b ∷ rest) ≡ None
      none = ap (λ t. if t then (word_of (b ∷ rest)).1 else None) first

-- the first space of bytes
a_space : (at : ℕ) (bytes : List ℕ) → position_or_len (λ b. b == 32) bytes ≡ at → at < length bytes → position (λ b. b == 32) bytes ≡ Some at
a_space at bytes is low =
    ap (λ n. cond (nat_lt n (length bytes)) (Some n) None) is ∙ ap (λ t. cond t (Some at) None) (lt-ltb at (length bytes) low)

-- the words of a line with a sum are after its `#`
sum_words : (rest : List ℕ) → after_verb (codes "#") (codes "# sum " ++ rest) ≡ Some (codes "sum " ++ rest)
sum_words rest =
    let line = codes "# sum " ++ rest in
    ap (λ p. if bytes_eq (word_by p line).0 (codes "#") then (word_by p line).1 else None) (a_space 1 line refl (omega arith))

-- and do not say which key
no_key_words : (layout : Layout) (rest : List ℕ) → after_key layout (codes "sum " ++ rest) ≡ None
unfolding after_key
no_key_words layout rest =
    let words = codes "sum " ++ rest in
    ap
    (λ p. (if bytes_eq (word_by p words).0 (codes "key") then (word_by p words).1 else None) >>= λ more.
    if is_key (word_of more).0 then (named_after layout (word_of more).1 >>= λ edit. Some (record { key = (word_of more).0; edit = edit })) else None)
    (a_space 3 words refl (omega arith))

-- a line with a sum has none
pub sum_line : (layout : Layout) (rest : List ℕ) → key_in layout (codes "# sum " ++ rest) ≡ None
sum_line layout rest = as_words layout (codes "# sum " ++ rest) ∙ (ap (λ o. o >>= after_key layout) (sum_words rest) ∙ no_key_words layout rest)
