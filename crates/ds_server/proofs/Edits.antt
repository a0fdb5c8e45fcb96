-- The last edit of a cell.
use Rattle.std.proofs.Common.{ℕ, ◌≡◌, ◌≢◌, List, [], ◌∷◌, ◌++◌, length, map, take, drop, Option, Some, None, Result, ap, refl, sym, subst, arith, ◌∙◌}
use Rattle.std.specs.Prelude.{slice_index_or}
use Rattle.std.proofs.lemmas.List.{append-nil, take-map, drop-map}
use Rattle.ds_formula.specs.declared.cells.Cell.{Cell}
use Rattle.ds_formula.specs.declared.cells.Shape.{Shape}
use Rattle.ds_formula.specs.Cells.{index_of}
use Rattle.ds_eval.specs.declared.value.Value.{Value}
use Rattle.ds_eval.specs.declared.value.Value.TheVariants.{Blank}
use Rattle.ds_state.specs.Value.{WorldValue}
use Rattle.ds_state.specs.declared.answer.EditEnd.{EditEnd}
use Rattle.ds_state.specs.World.{PlainEdit, of_cell}
use Rattle.ds_state.specs.Shown.{last_text}
use Rattle.ds_state.proofs.Heads.{of_cell-append, of_cell-own, of_cell-other}
use Rattle.ds_server.specs.declared.desk.CallRefusal.{CallRefusal}
use Rattle.ds_server.specs.DeskCalls.{Undo}
use Rattle.ds_server.specs.Replies.{EditEntry, set_view}
use Rattle.ds_server.specs.WorldDesks.{Does, HasEdited, IsLastOf, IsTextBefore, edits_of, entry_of, sets, undoes}

-- the last edit is one of the cell
pub ends_with : (cell : ℕ) (all before : List PlainEdit) (e : PlainEdit) → all ≡ before ++ e ∷ [] → e.cell ≡ cell → of_cell cell all ≡ of_cell cell before ++ e ∷ []
ends_with cell all before e is its =
    ap (λ (es : List PlainEdit). of_cell cell es) is ∙ of_cell-append cell before (e ∷ []) ∙ ap (λ (es : List PlainEdit). of_cell cell before ++ es) (subst (λ (c : ℕ). of_cell c (e ∷ []) ≡ e ∷ []) its (of_cell-own e))

-- the last edit is one of another cell
pub ends_without : (cell : ℕ) (all before : List PlainEdit) (e : PlainEdit) → all ≡ before ++ e ∷ [] → e.cell ≢ cell → of_cell cell all ≡ of_cell cell before
ends_without cell all before e is other =
    ap (λ (es : List PlainEdit). of_cell cell es) is ∙ of_cell-append cell before (e ∷ []) ∙ ap (λ (es : List PlainEdit). of_cell cell before ++ es) (of_cell-other cell e other) ∙ append-nil (of_cell cell before)

-- no edit is one of the cell
pub has_none : (cell : ℕ) (all : List PlainEdit) → length all ≡ 0 → of_cell cell all ≡ []
unfolding of_cell
has_none cell [] none = refl
has_none cell (e ∷ es) none = absurd (omega (arith, none))

-- the text of the last of some edits
pub last_push : (before : List PlainEdit) (e : PlainEdit) → last_text (before ++ e ∷ []) ≡ e.text
last_push [] e = refl
last_push (b ∷ []) e = refl
last_push (b ∷ c ∷ rest) e = last_push (c ∷ rest) e

-- the text before the last edit is that of the one before it
pub text_of_one_before : (edits before more : List PlainEdit) (last e : PlainEdit) → edits ≡ before ++ last ∷ [] → before ≡ more ++ e ∷ [] → IsTextBefore edits e.text
text_of_one_before edits before more last e is its = record { before = before; last = last; is = is; text_is = sym (ap last_text its ∙ last_push more e) }

-- the text before the first edit is empty
pub text_of_none_before : (edits before : List PlainEdit) (last : PlainEdit) → edits ≡ before ++ last ∷ [] → before ≡ [] → IsTextBefore edits []
text_of_none_before edits before last is none = record { before = before; last = last; is = is; text_is = sym (ap last_text none) }

-- a part of the edits, in a list, is that part of the list of all
pub lists_part : (s t : Shape) (from most : ℕ) (listed : List EditEntry) (part edits counted : List PlainEdit) → s ≡ t → listed ≡ map (entry_of s) part → part ≡ take most (drop from edits) → edits ≡ counted
    → listed ≡ take most (drop from (map (entry_of t) counted))
lists_part s t from most listed part edits counted shapes lists parts same =
    lists ∙ ap (λ (x : Shape). map (entry_of x) part) shapes ∙ ap (λ (es : List PlainEdit). map (entry_of t) es) (parts ∙ ap (λ (es : List PlainEdit). take most (drop from es)) same)
    ∙ sym (take-map (entry_of t) most (drop from counted)) ∙ ap (λ (es : List EditEntry). take most es) (sym (drop-map (entry_of t) from counted))

-- what holds of the edits of the cell with this number holds of those of the cell
module _ (w : WorldValue) (cell : Cell) (s : Shape) (index : ℕ) (edits : List PlainEdit) (shapes : s ≡ w.sheet.layout.shape) (at : index ≡ index_of s cell) (same : edits ≡ w.counted) where
  pub same_index : index ≡ index_of w.sheet.layout.shape cell
  same_index = at ∙ ap (λ (x : Shape). index_of x cell) shapes

  pub same_edits : of_cell index edits ≡ edits_of w cell
  same_edits = ap (λ (es : List PlainEdit). of_cell index es) same ∙ ap (λ (n : ℕ). of_cell n w.counted) same_index

  pub last_in : (entry : Option EditEntry) → IsLastOf s (of_cell index edits) entry → IsLastOf w.sheet.layout.shape (edits_of w cell) entry
  last_in entry h = subst (λ (x : Shape). IsLastOf x (edits_of w cell) entry) shapes (subst (λ (es : List PlainEdit). IsLastOf s es entry) same_edits h)

  pub value_in : (values : List Value) (value : Value) → value ≡ slice_index_or values index Blank → value ≡ slice_index_or values (index_of w.sheet.layout.shape cell) Blank
  value_in values value is = is ∙ ap (λ (n : ℕ). slice_index_or values n Blank) same_index

-- an edit to the text before is an undo
pub undo_holds : (old new : WorldValue) (p : ℕ) (cell : Cell) (text sent : List ℕ) (end : Result EditEnd CallRefusal) → IsTextBefore (edits_of old cell) text → sent ≡ text → HasEdited p cell sent old end new → Does old (Undo p cell) (set_view end) new
undo_holds old new p cell text sent end before same h =
    undoes p cell sent (set_view end) new (subst (λ (t : List ℕ). IsTextBefore (edits_of old cell) t) (sym same) before) (sets p cell sent h.answer end new h.whole h.tells)
