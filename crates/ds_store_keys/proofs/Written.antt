-- Keys that were written are read back.
use Rattle.std.proofs.Common.{◌≡◌, ◌∙◌, ◌+◌, ◌<◌, ◌≤◌, ◌∷◌, ◌++◌, [], ◌&&◌, List, ℕ, zero, suc, Bool, true, false, Option, Some, None, IsUtf8, ap, arith, codes, cond, eqb, nat_le, length, refl, rules, true≢false}
use Rattle.std.specs.Char.{is_ascii_graphic}
use Rattle.std.specs.List.{list_all}
use Rattle.std.specs.Fmt.{decimal}
use Rattle.std.specs.Str.{IsAscii}
use Rattle.std.specs.Prelude.{unwrap_or}
use Rattle.std.proofs.lemmas.Bool.Decides.{nat_tests}
use Rattle.std.proofs.lemmas.Str.{IsUtf8-from_ascii}
use Rattle.ds_formula.specs.declared.cells.Cell.{Cell}
use Rattle.ds_formula.specs.Names.{cell_text}
use Rattle.ds_formula.proofs.Digits.{unequal}
use Rattle.ds_key.specs.Keys.{is_key, KEY_MOST}
use Rattle.ds_layout.specs.declared.layout.Layout.{Layout}
use Rattle.ds_script_io.specs.Fields.{◌>>=◌, number_field, cell_field}
use Rattle.ds_script_io.specs.ScriptLines.{word_of}
use Rattle.ds_store_journal.specs.Journals.{KeptEdit, after_verb}
use Rattle.ds_store_journal.specs.Standings.{EDITS_LIMIT}
use Rattle.ds_store_journal.proofs.ReadsBack.{HaveNoSpace, after_back, cell_then, number_then, word_alone, word_then}
use Rattle.ds_store_keys.specs.Keys.{KeptKey, edit_named, key_in, named_after}
use Rattle.ds_store_keys.specs.Written.{HasKeyLine, MayBeOf, MayBeOfAny, edit_words, key_text, key_words}

-- a visible character of ASCII
record IsVisible (b : ℕ) : Type 0 where
  low : 33 ≤ b
  high : b ≤ 126

visible : (b : ℕ) → is_ascii_graphic b ≡ true → IsVisible b
visible b is = record { low = grind (arith, nat_tests); high = grind (arith, nat_tests) }

first_is : (a b : Bool) → (a && b) ≡ true → (a ≡ true) × (b ≡ true)
first_is true b is = (refl, is)
first_is false b is = absurd (true≢false (Rattle.std.proofs.Common.sym is))

visible_plain : (bs : List ℕ) → list_all is_ascii_graphic bs ≡ true → HaveNoSpace bs
visible_plain [] is = tt
visible_plain (b ∷ bs) is =
    let p = first_is (is_ascii_graphic b) (list_all is_ascii_graphic bs) is in
    let v = visible b p.0 in
    (unequal b 32 (λ e. omega (arith, e, v.low)), visible_plain bs p.1)

visible_ascii : (bs : List ℕ) → list_all is_ascii_graphic bs ≡ true → IsAscii bs
visible_ascii [] is i = omega arith
visible_ascii (b ∷ bs) is zero = let v = visible b (first_is (is_ascii_graphic b) (list_all is_ascii_graphic bs) is).0 in omega (arith, v.high)
visible_ascii (b ∷ bs) is (suc i) = visible_ascii bs (first_is (is_ascii_graphic b) (list_all is_ascii_graphic bs) is).1 i

all_visible : (key : List ℕ) → is_key key ≡ true → list_all is_ascii_graphic key ≡ true
all_visible key is = (first_is (nat_le 1 (length key) && nat_le (length key) KEY_MOST) (list_all is_ascii_graphic key) is).1

-- a key is UTF-8
pub key_utf8 : (key : List ℕ) → is_key key ≡ true → IsUtf8 key
key_utf8 key is = IsUtf8-from_ascii key (visible_ascii key (all_visible key is))

-- ---- edits

abbrev named_in : ℕ → ℕ → Cell × Option (List ℕ) → Option KeptEdit
named_in process number c = Some (record { process = process; number = number; cell = c.0; text = unwrap_or c.1 [] })

abbrev with_number : Layout → ℕ → ℕ × Option (List ℕ) → Option KeptEdit
with_number layout process n = cell_field layout.shape n.1 >>= named_in process n.0

abbrev with_process : Layout → ℕ × Option (List ℕ) → Option KeptEdit
with_process layout p = number_field EDITS_LIMIT p.1 >>= with_number layout p.0

edit_back : (layout : Layout) (edit : KeptEdit) → MayBeOf layout edit → edit_named layout (edit_words edit) ≡ Some edit
edit_back layout edit may =
    let named : List ℕ = cell_text edit.cell ++ 32 ∷ edit.text in
    let counted : List ℕ = decimal edit.number ++ 32 ∷ named in
    ap (λ (o : Option (ℕ × Option (List ℕ))). o >>= with_process layout) (number_then layout.processes edit.process counted may.line.process (omega (arith, may.line.process, layout.limited)))
    ∙ (ap (λ (o : Option (ℕ × Option (List ℕ))). o >>= with_number layout edit.process) (number_then EDITS_LIMIT edit.number named may.number (omega (arith, may.number)))
    ∙ ap (λ (o : Option (Cell × Option (List ℕ))). o >>= named_in edit.process edit.number) (cell_then layout.shape edit.cell edit.text may.line.cell))

-- ---- keys

abbrev with_edit : List ℕ → Option KeptEdit → Option KeptKey
with_edit key edit = Some (record { key = key; edit = edit })

-- what the first word and what is after it say
abbrev said : Layout → List ℕ × Option (List ℕ) → Option KeptKey
said layout w = cond (is_key w.0) (named_after layout w.1 >>= with_edit w.0) None

words_back : (layout : Layout) (key : List ℕ) (edit : Option KeptEdit) → is_key key ≡ true → MayBeOfAny layout edit → said layout (word_of (key_words key edit)) ≡ with_edit key edit
words_back layout key None is may =
    ap (said layout) (word_alone key (visible_plain key (all_visible key is)))
    ∙ ap (λ b. cond b (with_edit key None) None) is
words_back layout key (Some edit) is may =
    ap (said layout) (word_then key (edit_words edit) (visible_plain key (all_visible key is)))
    ∙ (ap (λ b. cond b ((edit_named layout (edit_words edit) >>= λ e. Some (Some e)) >>= with_edit key) None) is
    ∙ ap (λ (o : Option KeptEdit). (o >>= λ e. Some (Some e)) >>= with_edit key) (edit_back layout edit may))

pub key_back : (layout : Layout) (key : KeptKey) → HasKeyLine layout key → key_in layout (key_text key) ≡ Some key
key_back layout key has =
    let words = key_words key.key key.edit in
    ap (λ (o : Option (List ℕ)). o >>= λ rest. after_verb (codes "key") rest >>= λ more. said layout (word_of more)) (after_back (codes "#") (codes "key " ++ words) (refl, tt) refl)
    ∙ (ap (λ (o : Option (List ℕ)). o >>= λ more. said layout (word_of more)) (after_back (codes "key") words (refl, (refl, (refl, tt))) refl)
    ∙ words_back layout key.key key.edit has.key has.edit)
