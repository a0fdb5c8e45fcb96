-- A new sheet is sound.
use Rattle.std.proofs.Common.{ℕ, ◌≡◌, ◌<◌, inl, List, [], ◌∷◌, ◌++◌, length, length-append, refl, ap, sym, ◌∙◌, subst, arith, ◌%◌}
use Rattle.std.specs.Prelude.{All, Contains}
use Rattle.std.specs.Int.{bit_at}
use Rattle.std.proofs.lemmas.Nat.Bits.{bit_at-zero}
use Rattle.std.proofs.lemmas.List.Elements.{All-nil, All-contains}
use Rattle.std.specs.Prelude.{Bool, false, if◌then◌else◌, min, ◌==◌}
use Rattle.std.proofs.Common.{◌≤◌, inr}
use Rattle.std.proofs.Math.Nat.{le-mul_of_pos_right}
use Rattle.std.proofs.lemmas.Bool.Decides.{eqb_tells}
use Rattle.ds_formula.specs.declared.cells.Shape.{Shape}
use Rattle.ds_formula.specs.declared.cells.Cell.{Cell}
use Rattle.ds_formula.specs.Cells.{count_of}
use Rattle.ds_formula.specs.Plain.{Empty}
use Rattle.ds_eval.specs.declared.value.Value.TheVariants as values
use Rattle.ds_eval.specs.declared.inputs.Entry as entries
use Rattle.ds_eval.specs.Local.{local, entry_at}
use Rattle.ds_state.specs.Standing.{value_for, word_for, AllStand}
use Rattle.ds_layout.specs.declared.place.Place.{Place}
use Rattle.ds_layout.specs.declared.place.Place.TheVariants.{Version, Head, Mark, Value, Kind, Index, Announce, Header, Text, Done}
use Rattle.ds_layout.specs.Bits.{HasBit, IsSubset}
use Rattle.ds_state.specs.World.{PlainEdit, PlainWorld, of_cell, head_after_all}
use Rattle.ds_state.specs.WordsFit.{VersionFits, WordFits, IsSuperseded}
use Rattle.ds_state.specs.CallsFit.{CallFits}
use Rattle.ds_state.specs.Fresh.{IsNew}
use Rattle.ds_state.specs.Sound.{IsSound, IsOfSheet, Increasing}
use Rattle.ds_state.specs.declared.situation.Situation.{Situation}
use Rattle.ds_layout.specs.declared.place.Edition.{Edition}
use Rattle.ds_layout.specs.declared.place.Edition.TheVariants.{First, Second}
use Rattle.ds_layout.specs.Places.{edition_of, edition_word}
use Rattle.ds_state.specs.LayoutsFit.{LayoutFits}

no_head : (cell : ℕ) (edits : List PlainEdit) → edits ≡ [] → head_after_all (of_cell cell edits) ≡ 0
unfolding head_after_all of_cell
no_head cell edits e = subst (λ (es : List PlainEdit). head_after_all (of_cell cell es) ≡ 0) (sym e) refl

none_superseded : (w : PlainWorld) (p n : ℕ) → w.counted ≡ [] → IsSuperseded w p n → ⊥
unfolding of_cell
none_superseded w p n z h =
    let e : of_cell h.edit.cell w.counted ≡ [] = ap (λ es. of_cell h.edit.cell es) z in
    let l : length (h.before ++ h.edit ∷ h.next ∷ h.after) ≡ 0 = ap length (sym h.parts ∙ e) in
    absurd (omega (arith, length-append h.before (h.edit ∷ h.next ∷ h.after)))

no_bit : (word number : ℕ) → word ≡ 0 → HasBit word number → ⊥
no_bit word number z has = let z' : bit_at word (number % 64) ≡ 0 = ap (λ (x : ℕ). bit_at x (number % 64)) z ∙ bit_at-zero (number % 64) in omega arith

no_bits : (a b : ℕ) → a ≡ 0 → IsSubset a b
no_bits a b z i = let e : bit_at a i ≡ 0 = ap (λ (x : ℕ). bit_at x i) z ∙ bit_at-zero i in omega arith

none_in : (P : PlainEdit → Type 0) (edits : List PlainEdit) → edits ≡ [] → All P edits
none_in P edits e = subst (λ (es : List PlainEdit). All P es) (sym e) (All-nil P)

nothing_counts : (w : PlainWorld) (e : PlainEdit) → w.counted ≡ [] → Contains w.counted e → ⊥
nothing_counts w e z h = All-contains (λ f. ⊥) w.counted e (none_in (λ f. ⊥) w.counted z) h

new_word : (w : PlainWorld) → w.counted ≡ [] → (r : Place) (c p : ℕ) → c ≡ 0 → p ≡ 0 → WordFits w r c p
new_word w z Version c p a b = record { behind = omega arith; most = omega arith }
new_word w z (Head cell) c p a b = record { last = a ∙ sym (no_head cell w.counted z); sides = inl (b ∙ sym a) }
new_word w z (Mark cell) c p a b = record { behind = omega arith; few = omega arith; holder = λ q by. absurd (omega arith); persisted_holder = λ q by. absurd (omega arith) }
new_word w z (Value cell) c p a b = inl (b ∙ sym a)
new_word w z (Kind cell) c p a b = inl (b ∙ sym a)
new_word w z (Index row part) c p a b = record { sides = no_bits p c b; counted = λ e h k r. absurd (nothing_counts w e z h) }
new_word w z (Announce q) c p a b = record { sides = omega arith; on_cached = λ n small is. absurd (omega arith); on_persisted = λ n small is. absurd (omega arith) }
new_word w z (Header q n) c p a b = λ e h i j k. absurd (nothing_counts w e z h)
new_word w z (Text edition q n part) c p a b = λ now e h i j k. absurd (nothing_counts w e z h)
new_word w z (Done q part) c p a b = record {
  sides = no_bits p c b;
  superseded = λ n e o. absurd (none_superseded w q n z o);
  told = λ n small e has. absurd (no_bit c n a has);
}

-- the version's word may say either layout
version_word : (edition : Edition) (c p : ℕ) → c ≡ edition_word edition → p ≡ edition_word edition → VersionFits c p
version_word First c p a b = record { behind = omega arith; most = omega arith }
version_word Second c p a b = record { behind = omega arith; most = omega arith }

-- the version's word of a layout says that layout
pub reads_back : (edition : Edition) (word : ℕ) → word ≡ edition_word edition → edition_of word ≡ edition
reads_back First word is = ap edition_of is
reads_back Second word is = ap edition_of is

new_words : (w : PlainWorld) (is : IsNew w) (r : Place) → WordFits w r (w.memory.cached r) (w.memory.persisted r)
new_words w is Version = version_word is.edition (w.memory.cached Version) (w.memory.persisted Version) is.memory.seen is.memory.kept
new_words w is r = new_word w is.counted r (w.memory.cached r) (w.memory.persisted r) (is.memory.cached r (λ x. cc)) (is.memory.persisted r (λ x. cc))

-- an empty content has the entry of two zero words
empty_entry : (shape : Shape) (u : Cell → entries.Entry) → local shape Empty u ≡ record { value = values.Blank; height = 0 }
empty_entry shape u =
    let n : ℕ = count_of shape in
    let some : 1 ≤ n = (let a = shape.within.some_columns in let b = le-mul_of_pos_right shape.columns (shape.within.some_rows) in omega arith) in
    let z : min n 0 ≡ 0 = omega arith in
    let f : 0 == n ≡ false = elim (eqb_tells 0 n) [ inl same ↦ absurd (let e = same.1 in omega arith) | inr differ ↦ differ.0 ] in
    ap (λ (h : ℕ). entry_at shape Empty u h) z ∙ ap (λ (b : Bool). record { value = if b then values.Circular else values.Blank; height = 0 }) f

new_stands : (w : PlainWorld) → IsNew w → AllStand w
new_stands w is =
    let fresh = is.memory in
    let u : Cell → entries.Entry = (λ d. record { value = values.Blank; height = 0 }) in
    let value : value_for (local w.layout.shape Empty u) ≡ 0 = ap (λ (e : entries.Entry). value_for e) (empty_entry w.layout.shape u) in
    let kind : word_for (local w.layout.shape Empty u) ≡ 0 = ap (λ (e : entries.Entry). word_for e) (empty_entry w.layout.shape u) in
    record {
      on_cached = λ c clean. inr (record { content = Empty; has = inl (fresh.cached (Head c) (λ x. cc), refl); inputs = u; on_value = fresh.cached (Value c) (λ x. cc) ∙ sym value; on_kind = fresh.cached (Kind c) (λ x. cc) ∙ sym kind; near = λ d refers inside. absurd refers });
      on_persisted = λ c x clean d. inr (record { content = Empty; has = inl (fresh.persisted (Head c) (λ x. cc), refl); inputs = u; on_value = fresh.persisted (Value c) (λ x. cc) ∙ sym value; on_kind = fresh.persisted (Kind c) (λ x. cc) ∙ sym kind; near = λ d refers inside. absurd refers });
    }

-- a new world is sound
pub new_sound : (w : PlainWorld) → IsNew w → IsSound w
new_sound w is =
    let fresh = is.memory in
    record {
      stand = new_stands w is;
      words = new_words w is;
      calls = λ p l. subst (λ (s : Situation). CallFits w p s) (sym (is.situation p l)) (record {
        number = omega arith;
        holds_none = λ r by. absurd (let z = fresh.cached (Mark r) (λ x. cc) in omega arith);
        open_edits = is.open_edits p;
        buffer = fresh.buffer p;
        below = none_in (λ f. f.process ≡ p → f.number < 0) w.counted is.counted;
        cached = fresh.cached (Announce p) (λ x. cc);
        persisted = fresh.persisted (Announce p) (λ x. cc);
      });
      of_sheet = none_in (λ e. IsOfSheet w e) w.counted is.counted;
      layouts = λ p l. subst (λ (s : Situation). LayoutFits w p s) (sym (is.situation p l)) (record { cached = reads_back is.edition _ fresh.seen; persisted = reads_back is.edition _ fresh.kept });
      headers = λ p n said. absurd (let c = fresh.cached (Announce p) (λ x. cc) in let v = fresh.persisted (Announce p) (λ x. cc) in elim said [ inl now ↦ omega (arith, c, now) | inr now ↦ omega (arith, v, now) ]);
      increasing = subst Increasing (sym is.counted) tt;
    }
