-- Lists of keys: they grow, are cut, and each key stands once.
use Rattle.std.proofs.Common.{◌≡◌, ◌∙◌, refl, sym, ap, ◌++◌, ◌∷◌, [], List, ℕ, zero, suc, Bool, true, false, true≢false, Option, Some, None, drop, append-nil, bytes_eq, if◌then◌else◌, ⊎_elim}
use Rattle.std.proofs.lemmas.Bool.{cases_Bool}
use Rattle.std.proofs.lemmas.Slice.Eq.{bytes_eq-Decides}
use Rattle.ds_layout.specs.declared.layout.Layout.{Layout}
use Rattle.ds_store_journal.specs.Journals.{KeptEdit}
use Rattle.ds_store_keys.specs.Keys.{IsSaid, KeptKey, StandOnce, key_in, keys_of, use_of, with_key}

-- ---- bytes

-- bytes are themselves
same_bytes : (a : List ℕ) → bytes_eq a a ≡ true
same_bytes a = (bytes_eq-Decides a a).1 refl

-- bytes that differ do so the other way round
turned : (a b : List ℕ) → bytes_eq a b ≡ false → bytes_eq b a ≡ false
turned a b apart =
    ⊎_elim
    (λ same. absurd (true≢false (sym (same_bytes a) ∙ (ap (bytes_eq a) (sym ((bytes_eq-Decides b a).0 same)) ∙ apart))))
    (λ other. other)
    (cases_Bool (bytes_eq b a))

-- ---- options

-- the first of two, where there is one
abbrev pub first_of : {A : Type 0} → Option A → Option A → Option A
first_of None y = y
first_of (Some x) y = Some x

pub first_alone : {A : Type 0} (x : Option A) → first_of x None ≡ x
first_alone None = refl
first_alone (Some x) = refl

chosen : {A : Type 0} (b : Bool) (x y : A) → b ≡ true → (if b then x else y) ≡ x
chosen b x y is = ap (λ c. if c then x else y) is

other : {A : Type 0} (b : Bool) (x y : A) → b ≡ false → (if b then x else y) ≡ y
other b x y is = ap (λ c. if c then x else y) is

-- ---- the keys of lines

with_more : (k : Option KeptKey) (a b : List KeptKey) → with_key k (a ++ b) ≡ with_key k a ++ b
with_more None a b = refl
with_more (Some k) a b = refl

-- those of more lines
pub more_lines : (layout : Layout) (lines more : List (List ℕ)) → keys_of layout (lines ++ more) ≡ keys_of layout lines ++ keys_of layout more
unfolding keys_of
more_lines layout [] more = refl
more_lines layout (line ∷ lines) more =
    ap (with_key (key_in layout line)) (more_lines layout lines more) ∙ with_more (key_in layout line) (keys_of layout lines) (keys_of layout more)

-- that of one line
pub one_line : (layout : Layout) (line : List ℕ) → keys_of layout (line ∷ []) ≡ with_key (key_in layout line) []
unfolding keys_of
one_line layout line = refl

-- no lines have no keys
pub no_line : (layout : Layout) → keys_of layout [] ≡ []
unfolding keys_of
no_line layout = refl

-- with a line more that has this one
pub has_key : (layout : Layout) (lines : List (List ℕ)) (line : List ℕ) (k : KeptKey) → key_in layout line ≡ Some k → keys_of layout (lines ++ line ∷ []) ≡ keys_of layout lines ++ k ∷ []
has_key layout lines line k is = more_lines layout lines (line ∷ []) ∙ ap (λ ks. keys_of layout lines ++ ks) (one_line layout line ∙ ap (λ o. with_key o []) is)

-- with a line more that has none
pub has_none : (layout : Layout) (lines : List (List ℕ)) (line : List ℕ) → key_in layout line ≡ None → keys_of layout (lines ++ line ∷ []) ≡ keys_of layout lines
has_none layout lines line is =
    more_lines layout lines (line ∷ []) ∙ (ap (λ ks. keys_of layout lines ++ ks) (one_line layout line ∙ ap (λ o. with_key o []) is) ∙ append-nil (keys_of layout lines))

-- ---- what a key is of

choose_first : {A : Type 0} (b : Bool) (x : A) (y z : Option A) → (if b then Some x else first_of y z) ≡ first_of (if b then Some x else y) z
choose_first true x y z = refl
choose_first false x y z = refl

-- in two lists
pub use_in_both : (key : List ℕ) (a b : List KeptKey) → use_of key (a ++ b) ≡ first_of (use_of key a) (use_of key b)
unfolding use_of
use_in_both key [] b = refl
use_in_both key (k ∷ a) b =
    ap (λ r. if bytes_eq key k.key then Some k.edit else r) (use_in_both key a b) ∙ choose_first (bytes_eq key k.key) k.edit (use_of key a) (use_of key b)

-- in no list
pub use_in_none : (key : List ℕ) → use_of key [] ≡ None
unfolding use_of
use_in_none key = refl

-- in a list with this entry first
pub use_in_one : (key : List ℕ) (k : KeptKey) (keys : List KeptKey) → use_of key (k ∷ keys) ≡ (if bytes_eq key k.key then Some k.edit else use_of key keys)
unfolding use_of
use_in_one key k keys = refl

absent_by : {A : Type 0} (b : Bool) (x : A) (y : Option A) → (if b then Some x else y) ≡ None → (b ≡ false) × (y ≡ None)
absent_by true x y is = absurd cc
absent_by false x y is = (refl, is)

-- what a list has not, its first entry is not, nor have the others it
pub absent : (key : List ℕ) (k : KeptKey) (keys : List KeptKey) → use_of key (k ∷ keys) ≡ None → (bytes_eq key k.key ≡ false) × (use_of key keys ≡ None)
absent key k keys is = absent_by (bytes_eq key k.key) k.edit (use_of key keys) (sym (use_in_one key k keys) ∙ is)

first_there : {A : Type 0} (x : Option A) (y : Option A) → x ≡ None → first_of x y ≡ y
first_there x y is = ap (λ z. first_of z y) is

-- after an entry more, of a key that was not there
pub use_more : (key : List ℕ) (keys : List KeptKey) (k : KeptKey) → use_of k.key keys ≡ None → use_of key (keys ++ k ∷ []) ≡ (if bytes_eq key k.key then Some k.edit else use_of key keys)
use_more key keys k none =
    let all = use_in_both key keys (k ∷ []) in
    let one : use_of key (k ∷ []) ≡ (if bytes_eq key k.key then Some k.edit else None) = use_in_one key k [] ∙ ap (λ r. if bytes_eq key k.key then Some k.edit else r) (use_in_none key) in
    ⊎_elim
    (λ same.
    let absent_here : use_of key keys ≡ None = ap (λ q. use_of q keys) ((bytes_eq-Decides key k.key).0 same) ∙ none in
    all ∙ (first_there (use_of key keys) (use_of key (k ∷ [])) absent_here ∙ (one ∙ (chosen (bytes_eq key k.key) (Some k.edit) None same ∙ sym (chosen (bytes_eq key k.key) (Some k.edit) (use_of key keys) same)))))
    (λ apart.
    all ∙ (ap (first_of (use_of key keys)) (one ∙ other (bytes_eq key k.key) (Some k.edit) None apart)
    ∙ (first_alone (use_of key keys) ∙ sym (other (bytes_eq key k.key) (Some k.edit) (use_of key keys) apart))))
    (cases_Bool (bytes_eq key k.key))

-- ---- each key stands once

-- in no list
pub once_none : StandOnce []
unfolding StandOnce
once_none = tt

-- the first entry is not among the others, and each of those stands once
pub once_first : (k : KeptKey) (keys : List KeptKey) → StandOnce (k ∷ keys) → (use_of k.key keys ≡ None) × StandOnce keys
unfolding StandOnce
once_first k keys once = once

once_both : (k : KeptKey) (keys : List KeptKey) → use_of k.key keys ≡ None → StandOnce keys → StandOnce (k ∷ keys)
unfolding StandOnce
once_both k keys none once = (none, once)

-- with an entry more, of a key that was not there
pub once_more : (keys : List KeptKey) (k : KeptKey) → StandOnce keys → use_of k.key keys ≡ None → StandOnce (keys ++ k ∷ [])
once_more [] k once none = once_both k [] (use_in_none k.key) once_none
once_more (j ∷ keys) k once none =
    let was = once_first j keys once in
    let not_here = absent k.key j keys none in
    let still : use_of j.key (keys ++ k ∷ []) ≡ None =
    use_more j.key keys k not_here.1 ∙ (other (bytes_eq j.key k.key) (Some k.edit) (use_of j.key keys) (turned k.key j.key not_here.0) ∙ was.0) in
    once_both j (keys ++ k ∷ []) still (once_more keys k was.1 not_here.1)

-- in what is left of a list
pub once_rest : (n : ℕ) (keys : List KeptKey) → StandOnce keys → StandOnce (drop n keys)
once_rest zero keys once = once
once_rest (suc n) [] once = once
once_rest (suc n) (k ∷ keys) once = once_rest n keys (once_first k keys once).1

-- what a key is of in what is left of a list, it is of in the whole one
pub use_in_rest : (n : ℕ) (key : List ℕ) (keys : List KeptKey) (edit : Option KeptEdit) → StandOnce keys → use_of key (drop n keys) ≡ Some edit → use_of key keys ≡ Some edit
use_in_rest zero key keys edit once is = is
use_in_rest (suc n) key [] edit once is = is
use_in_rest (suc n) key (k ∷ keys) edit once is =
    let was = once_first k keys once in
    let rest = use_in_rest n key keys edit was.1 is in
    ⊎_elim
    (λ same.
    let none : use_of key keys ≡ None = ap (λ q. use_of q keys) ((bytes_eq-Decides key k.key).0 same) ∙ was.0 in
    absurd (not_both edit (use_of key keys) rest none))
    (λ apart. use_in_one key k keys ∙ (other (bytes_eq key k.key) (Some k.edit) (use_of key keys) apart ∙ rest))
    (cases_Bool (bytes_eq key k.key)) where
      not_both : (e : Option KeptEdit) (x : Option (Option KeptEdit)) → x ≡ Some e → x ≡ None → ⊥
      not_both e x there none = let bad : Some e ≡ None = sym there ∙ none in cc

-- ---- lines among others

-- the keys of lines among which this one has a key
pub among : (layout : Layout) (before : List (List ℕ)) (line : List ℕ) (after : List (List ℕ)) (k : KeptKey) → key_in layout line ≡ Some k
    → keys_of layout (before ++ line ∷ after) ≡ keys_of layout before ++ k ∷ keys_of layout after
among layout before line after k is =
    more_lines layout before (line ∷ after) ∙ ap (λ ks. keys_of layout before ++ ks) (more_lines layout (line ∷ []) after ∙ (ap (λ ks. ks ++ keys_of layout after) (one_line layout line) ∙ ap (λ o. with_key o [] ++ keys_of layout after) is))

-- an entry among others, each of which stands once, is in none of those before it
pub not_before : (before : List KeptKey) (k : KeptKey) (after : List KeptKey) → StandOnce (before ++ k ∷ after) → use_of k.key before ≡ None
not_before [] k after once = use_in_none k.key
not_before (j ∷ before) k after once =
    let was = once_first j (before ++ k ∷ after) once in
    let here : use_of j.key (before ++ k ∷ after) ≡ first_of (use_of j.key before) (use_of j.key (k ∷ after)) = use_in_both j.key before (k ∷ after) in
    let none = none_of_both (use_of j.key before) (use_of j.key (k ∷ after)) (sym here ∙ was.0) in
    let apart = absent j.key k after none.1 in
    use_in_one k.key j before ∙ (other (bytes_eq k.key j.key) (Some j.edit) (use_of k.key before) (turned j.key k.key apart.0) ∙ not_before before k after was.1) where
      none_of_both : {A : Type 0} (x y : Option A) → first_of x y ≡ None → (x ≡ None) × (y ≡ None)
      none_of_both None y is = (refl, is)
      none_of_both (Some x) y is = absurd cc

-- nor in those after it
pub not_after : (before : List KeptKey) (k : KeptKey) (after : List KeptKey) → StandOnce (before ++ k ∷ after) → use_of k.key after ≡ None
not_after [] k after once = (once_first k after once).0
not_after (j ∷ before) k after once = not_after before k after (once_first j (before ++ k ∷ after) once).1

-- the first entry says what its key is of
pub use_first : (k : KeptKey) (keys : List KeptKey) → use_of k.key (k ∷ keys) ≡ Some k.edit
use_first k keys = use_in_one k.key k keys ∙ chosen (bytes_eq k.key k.key) (Some k.edit) (use_of k.key keys) (same_bytes k.key)

-- a key is of what its entry says
pub use_among : (before : List KeptKey) (k : KeptKey) (after : List KeptKey) → StandOnce (before ++ k ∷ after) → use_of k.key (before ++ k ∷ after) ≡ Some k.edit
use_among before k after once =
    use_in_both k.key before (k ∷ after) ∙ (first_there (use_of k.key before) (use_of k.key (k ∷ after)) (not_before before k after once)
    ∙ use_first k after)

-- ---- what a key is of is what a line says

later : (layout : Layout) (line : List ℕ) (lines : List (List ℕ)) (k : KeptKey) → IsSaid layout lines k → IsSaid layout (line ∷ lines) k
later layout line lines k s = record { before = line ∷ s.before; line = s.line; after = s.after; at = ap (λ ls. line ∷ ls) s.at; says = s.says }

made : (k : KeptKey) (key : List ℕ) (edit : Option KeptEdit) → key ≡ k.key → k.edit ≡ edit → k ≡ record { key = key; edit = edit }
made k key edit a b = λ i. record { key = sym a i; edit = b i }

said_by : (layout : Layout) (line : List ℕ) (lines : List (List ℕ)) (key : List ℕ) (edit : Option KeptEdit)
    → (use_of key (keys_of layout lines) ≡ Some edit → IsSaid layout lines (record { key = key; edit = edit }))
    → (o : Option KeptKey) → key_in layout line ≡ o → use_of key (with_key o [] ++ keys_of layout lines) ≡ Some edit → IsSaid layout (line ∷ lines) (record { key = key; edit = edit })
said_by layout line lines key edit rest None none is = later layout line lines (record { key = key; edit = edit }) (rest is)
said_by layout line lines key edit rest (Some k) has is =
    let here = sym (use_in_one key k (keys_of layout lines)) ∙ is in
    ⊎_elim
    (λ same.
    let edit_is : k.edit ≡ edit = let e : Some k.edit ≡ Some edit = sym (chosen (bytes_eq key k.key) (Some k.edit) (use_of key (keys_of layout lines)) same) ∙ here in cc in
    let key_is : key ≡ k.key = (bytes_eq-Decides key k.key).0 same in
    record { before = []; line = line; after = lines; at = refl; says = has ∙ ap Some (made k key edit key_is edit_is) })
    (λ apart. later layout line lines (record { key = key; edit = edit }) (rest (sym (other (bytes_eq key k.key) (Some k.edit) (use_of key (keys_of layout lines)) apart) ∙ here)))
    (cases_Bool (bytes_eq key k.key))

pub said : (layout : Layout) (lines : List (List ℕ)) (key : List ℕ) (edit : Option KeptEdit) → use_of key (keys_of layout lines) ≡ Some edit → IsSaid layout lines (record { key = key; edit = edit })
said layout [] key edit is = absurd (let bad : None ≡ Some edit = sym (ap (use_of key) (no_line layout) ∙ use_in_none key) ∙ is in cc)
said layout (line ∷ lines) key edit is =
    let split : keys_of layout (line ∷ lines) ≡ with_key (key_in layout line) [] ++ keys_of layout lines = more_lines layout (line ∷ []) lines ∙ ap (λ ks. ks ++ keys_of layout lines) (one_line layout line) in
    said_by layout line lines key edit (said layout lines key edit) (key_in layout line) refl (sym (ap (use_of key) split) ∙ is)
