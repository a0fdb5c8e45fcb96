-- Lines that were written are read back.
use Rattle.std.proofs.Common.{◌≡◌, ℕ, ◌+◌, ◌*◌, ◌^◌, ◌<◌, ◌≤◌, Bool, true, false, cond, eqb, leb, List, [], ◌∷◌, ◌++◌, Option, Some, None, codes, refl, sym, ap, subst, ◌∙◌, ⊎_elim, arith}
use Rattle.std.specs.Prelude.{nat_le, ◌&&◌, is_none, unwrap_or}
use Rattle.std.specs.Fmt.{decimal}
use Rattle.std.proofs.lemmas.Bool.{le-leb}
use Rattle.std.proofs.lemmas.Bool.Decides.{eqb_tells}
use Rattle.ds_formula.specs.declared.cells.Cell.{Cell}
use Rattle.ds_formula.specs.declared.cells.Shape.{Shape}
use Rattle.ds_formula.specs.Cells.{IsInside}
use Rattle.ds_formula.specs.Limits.{COLUMNS_MOST, ROWS_MOST, CELLS_MOST, PROCESSES_MOST}
use Rattle.ds_formula.specs.Names.{cell_text}
use Rattle.ds_formula.proofs.Digits.{unequal}
use Rattle.ds_layout.specs.declared.layout.Layout.{Layout}
use Rattle.ds_script_io.specs.Fields.{◌>>=◌, number_field, cell_field}
use Rattle.ds_store_journal.specs.Faults.{HasLast, HasLine, MayBeJoined, MayStand}
use Rattle.ds_store_journal.specs.Joining.{joins_in}
use Rattle.ds_store_journal.specs.Journals.{AskedFor, KeptEdit, SheetSize, after_verb, asked_by, edit_in, may_have, sheet_in, size_of}
use Rattle.ds_store_journal.specs.Standings.{EDITS_LIMIT, before_in, last_in}
use Rattle.ds_store_journal.specs.Written.{before_text, edit_text, joins_text, edits_text, sheet_text}
use Rattle.ds_store_journal.specs.declared.standing.Mention.{Mention}
use Rattle.ds_store_journal.specs.declared.standing.Standing.{Standing}
use Rattle.ds_store_journal.proofs.ReadsBack.{HaveNoSpace, after_back, cell_alone, cell_then, number_alone, number_then}

-- ---- sheets

abbrev made : ℕ → ℕ → ℕ × Option (List ℕ) → Option SheetSize
made columns rows p = cond (may_have columns rows && (nat_le 1 p.0 && is_none p.1)) (Some (record { columns = columns; rows = rows; processes = p.0 })) None

abbrev with_rows : ℕ → ℕ × Option (List ℕ) → Option SheetSize
with_rows columns r = number_field (PROCESSES_MOST + 1) r.1 >>= made columns r.0

abbrev with_columns : ℕ × Option (List ℕ) → Option SheetSize
with_columns c = number_field (ROWS_MOST + 1) c.1 >>= with_rows c.0

equal : (a b : ℕ) → a ≡ b → eqb a b ≡ true
equal a b same = ⊎_elim (λ here. here.0) (λ apart. absurd (apart.1 same)) (eqb_tells a b)

all_true : (a b c d e f : Bool) → a ≡ true → b ≡ true → c ≡ true → d ≡ true → e ≡ true → f ≡ true → (((a && b) && ((c && d) && e)) && (f && true)) ≡ true
all_true a b c d e f p q r s t u = rw (p, q, r, s, t, u) refl

pub sheet_back : (layout : Layout) → sheet_in (sheet_text layout) ≡ Some (size_of layout)
sheet_back layout =
    let columns = layout.shape.columns in
    let rows = layout.shape.rows in
    let processes = layout.processes in
    let w = layout.shape.within in
    let last : List ℕ = decimal processes in
    let mid : List ℕ = decimal rows ++ 32 ∷ last in
    let front : List ℕ = decimal columns ++ 32 ∷ mid in
    let may : (may_have columns rows && (nat_le 1 processes && true)) ≡ true =
    all_true _ _ _ _ _ _ (le-leb 1 columns w.some_columns) (le-leb columns COLUMNS_MOST w.columns_to_z) (le-leb 1 rows w.some_rows) (le-leb rows ROWS_MOST w.rows_to_64)
    (le-leb (columns * rows) CELLS_MOST w.cells_to_1024) (le-leb 1 processes layout.some) in
    ap (λ (o : Option (List ℕ)). number_field (COLUMNS_MOST + 1) o >>= with_columns) (after_back (codes "sheet") front (refl, (refl, (refl, (refl, (refl, tt))))) refl)
    ∙ (ap (λ (o : Option (ℕ × Option (List ℕ))). o >>= with_columns) (number_then (COLUMNS_MOST + 1) columns mid (omega (arith, w.columns_to_z)) (omega (arith, w.columns_to_z)))
    ∙ (ap (λ (o : Option (ℕ × Option (List ℕ))). o >>= with_rows columns) (number_then (ROWS_MOST + 1) rows last (omega (arith, w.rows_to_64)) (omega (arith, w.rows_to_64)))
    ∙ (ap (λ (o : Option (ℕ × Option (List ℕ))). o >>= made columns rows) (number_alone (PROCESSES_MOST + 1) processes (omega (arith, layout.limited)) (omega (arith, layout.limited)))
    ∙ ap (λ b. cond b (Some (size_of layout)) None) may)))

-- two layouts of one size do not differ
pub differ : (one other : Layout) → ((eqb one.shape.columns other.shape.columns && eqb one.shape.rows other.shape.rows) && eqb one.processes other.processes) ≡ false
    → Some (size_of one) ≡ Some (size_of other) → ⊥
differ one other unlike same =
    let sizes : size_of one ≡ size_of other = cc in
    let columns = equal one.shape.columns other.shape.columns (ap (λ (s : SheetSize). s.columns) sizes) in
    let rows = equal one.shape.rows other.shape.rows (ap (λ (s : SheetSize). s.rows) sizes) in
    let processes = equal one.processes other.processes (ap (λ (s : SheetSize). s.processes) sizes) in
    let alike : ((eqb one.shape.columns other.shape.columns && eqb one.shape.rows other.shape.rows) && eqb one.processes other.processes) ≡ true = rw (columns, rows, processes) refl in
    absurd cc

-- ---- edits

abbrev asked_in : ℕ → Cell × Option (List ℕ) → Option AskedFor
asked_in process c = Some (record { process = process; cell = c.0; text = unwrap_or c.1 [] })

abbrev with_process : Layout → ℕ × Option (List ℕ) → Option AskedFor
with_process layout p = cell_field layout.shape p.1 >>= asked_in p.0

pub edit_back : (layout : Layout) (edit : KeptEdit) → HasLine layout edit → edit_in layout (edit_text (asked_by edit)) ≡ Some (asked_by edit)
edit_back layout edit h =
    let named : List ℕ = cell_text edit.cell ++ 32 ∷ edit.text in
    ap (λ (o : Option (List ℕ)). number_field layout.processes o >>= with_process layout) (after_back (codes "set") (decimal edit.process ++ 32 ∷ named) (refl, (refl, (refl, tt))) refl)
    ∙ (ap (λ (o : Option (ℕ × Option (List ℕ))). o >>= with_process layout) (number_then layout.processes edit.process named h.process (omega (arith, h.process, layout.limited)))
    ∙ ap (λ (o : Option (Cell × Option (List ℕ))). o >>= asked_in edit.process) (cell_then layout.shape edit.cell edit.text h.cell))

-- ---- how many may be joined

abbrev joined : ℕ × Option (List ℕ) → Option ℕ
joined n = cond (nat_le 1 n.0 && is_none n.1) (Some n.0) None

pub joins_back : (layout : Layout) (number : ℕ) → MayBeJoined layout number → joins_in layout (joins_text number) ≡ Some number
joins_back layout number h =
    let limit = layout.processes + 1 in
    let some : nat_le 1 number ≡ true = le-leb 1 number h.some in
    ap (λ (o : Option (List ℕ)). number_field limit (o >>= after_verb (codes "joins")) >>= joined) (after_back (codes "#") (codes "joins" ++ 32 ∷ decimal number) (refl, tt) refl)
    ∙ (ap (λ (o : Option (List ℕ)). number_field limit o >>= joined) (after_back (codes "joins") (decimal number) (refl, (refl, (refl, (refl, (refl, tt))))) refl)
    ∙ (ap (λ (o : Option (ℕ × Option (List ℕ))). o >>= joined) (number_alone limit number (omega (arith, h.limited)) (omega (arith, h.limited, layout.limited)))
    ∙ ap (λ b. cond (b && true) (Some number) None) some))

-- ---- how a process stands

abbrev mentioned : ℕ → Standing → Option Mention
mentioned process standing = Some (record { process = process; standing = standing })

abbrev with_edits : Layout → ℕ → ℕ × Option (List ℕ) → Option Mention
with_edits layout process e = last_in layout.shape e.0 e.1 >>= mentioned process

abbrev stood : Layout → ℕ × Option (List ℕ) → Option Mention
stood layout p = number_field EDITS_LIMIT p.1 >>= with_edits layout p.0

abbrev standing : ℕ → Option Cell → Standing
standing edits last = record { edits = edits; last = last }

-- the count and the cell of the last edit are read back
edits_back : (layout : Layout) (process edits : ℕ) (last : Option Cell) → edits < EDITS_LIMIT → HasLast layout.shape edits last
    → (number_field EDITS_LIMIT (Some (edits_text edits last)) >>= with_edits layout process) ≡ mentioned process (standing edits last)
edits_back layout process edits None low h =
    ap (λ (o : Option (ℕ × Option (List ℕ))). o >>= with_edits layout process) (number_alone EDITS_LIMIT edits low (omega (arith, low)))
    ∙ (ap (λ n. last_in layout.shape n None >>= mentioned process) h ∙ ap (λ n. mentioned process (standing n None)) (sym h))
edits_back layout process edits (Some cell) low h =
    let some : eqb edits 0 ≡ false = unequal edits 0 (λ e. omega (arith, h.0, e)) in
    let placed : Cell × Option (List ℕ) → Option Standing = λ c. cond (is_none c.1) (Some (standing edits (Some c.0))) None in
    ap (λ (o : Option (ℕ × Option (List ℕ))). o >>= with_edits layout process) (number_then EDITS_LIMIT edits (cell_text cell) low (omega (arith, low)))
    ∙ (ap (λ b. cond b None (cell_field layout.shape (Some (cell_text cell)) >>= placed) >>= mentioned process) some
    ∙ ap (λ (o : Option (Cell × Option (List ℕ))). (o >>= placed) >>= mentioned process) (cell_alone layout.shape cell h.1))

pub before_back : (layout : Layout) (mention : Mention) → MayStand layout mention → before_in layout (before_text mention) ≡ Some mention
before_back layout mention h =
    let process = mention.process in
    let edits = mention.standing.edits in
    let last = mention.standing.last in
    let rest : List ℕ = edits_text edits last in
    let said : List ℕ = decimal process ++ 32 ∷ rest in
    ap (λ (o : Option (List ℕ)). number_field layout.processes (o >>= after_verb (codes "before")) >>= stood layout) (after_back (codes "#") (codes "before" ++ 32 ∷ said) (refl, tt) refl)
    ∙ (ap (λ (o : Option (List ℕ)). number_field layout.processes o >>= stood layout) (after_back (codes "before") said (refl, (refl, (refl, (refl, (refl, (refl, tt)))))) refl)
    ∙ (ap (λ (o : Option (ℕ × Option (List ℕ))). o >>= stood layout) (number_then layout.processes process rest h.process (omega (arith, h.process, layout.limited)))
    ∙ edits_back layout process edits last h.edits h.last))
