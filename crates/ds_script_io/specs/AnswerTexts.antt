-- The text of each answer (our own rules).
use Rattle.std.specs.Prelude.{ℕ, zero, suc, List, [], ◌++◌, map, take, drop, codes}
use Rattle.std.specs.Fmt.{decimal}
use Rattle.csv.specs.Writing.{row_text, default_writer}
use Rattle.ds_formula.specs.declared.cells.Shape.{Shape}
use Rattle.ds_formula.specs.Names.{fault_text}
use Rattle.ds_eval.specs.declared.value.Value.{Value}
use Rattle.ds_eval.specs.Numbers.{value_text}
use Rattle.ds_state.specs.declared.refusal.Refusal.{Refusal}
use Rattle.ds_state.specs.declared.refusal.Refusal.TheVariants.{Text, Busy, Stopped, RecordsFull, NoMemory, Migrating, NotStopped}

-- the answer to an edit that is done: P NUMBER done
abbrev pub done_text : ℕ → ℕ → List ℕ
done_text process number = decimal process ++ (codes " " ++ (decimal number ++ codes " done\n"))

-- the code and the name of a refusal
abbrev pub refusal_text : Refusal → List ℕ
refusal_text (Text fault) = codes "1 " ++ fault_text fault
refusal_text Busy = codes "2 Busy"
refusal_text Stopped = codes "3 Stopped"
refusal_text RecordsFull = codes "4 RecordsFull"
refusal_text NoMemory = codes "5 NoMemory"
refusal_text (Migrating process) = codes "6 Migrating"
refusal_text (NotStopped process) = codes "7 NotStopped"

-- the answer to an edit that is refused: P refused CODE NAME
abbrev pub refused_text : ℕ → Refusal → List ℕ
refused_text process refusal = decimal process ++ (codes " refused " ++ (refusal_text refusal ++ codes "\n"))

-- the values as CSV, n a record, and m records
abbrev pub rows_text : ℕ → ℕ → List Value → List ℕ
rows_text columns zero values = []
rows_text columns (suc rows) values = row_text default_writer (map value_text (take columns values)) ++ rows_text columns rows (drop columns values)

-- the answer to a report that is settled: settled, and a record for each row of the sheet
abbrev pub settled_text : Shape → List Value → List ℕ
settled_text shape values = codes "settled\n" ++ rows_text shape.columns shape.rows values
