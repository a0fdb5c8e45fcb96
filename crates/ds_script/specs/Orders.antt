-- The commands of a script over a world, and the lines that give them.
use Rattle.std.specs.Prelude.{◌∷◌, ℕ, ◌<◌, ◌+◌, ◌*◌, Bool, ◌&&◌, ◌==◌, nat_le, List, [], codes, Option, Some, None, is_none, option_map, unwrap_or, Result, Ok, Err, if◌then◌else◌}
use Rattle.std.specs.Str.{bytes_eq}
use Rattle.ds_formula.specs.declared.cells.Shape.{Shape}
use Rattle.ds_formula.specs.declared.cells.Cell.{Cell}
use Rattle.ds_formula.specs.Cells.{IsInside, index_of}
use Rattle.ds_formula.specs.Limits.{COLUMNS_MOST, ROWS_MOST, CELLS_MOST, PROCESSES_MOST}
use Rattle.ds_layout.specs.declared.place.TheConstants.{RECORDS, FIRST_PARTS, SECOND_PARTS, DONE_PARTS}
use Rattle.ds_layout.specs.declared.place.Edition.{Edition}
use Rattle.ds_layout.specs.declared.place.Edition.TheVariants.{First, Second}
use Rattle.ds_layout.specs.declared.place.Place.{Place}
use Rattle.ds_layout.specs.declared.place.Place.TheVariants as place
use Rattle.ds_layout.specs.declared.layout.Layout.{Layout}
use Rattle.ds_layout.specs.Places.{parts_of, IsPlace}
use Rattle.ds_state.specs.Value.{WorldValue, world_of}
use Rattle.ds_core.specs.declared.event.Event.{Event}
use Rattle.ds_core.specs.declared.event.Event.TheVariants as events
use Rattle.ds_calls.specs.Whole.{request}
use Rattle.ds_script_io.specs.declared.ending.ScriptFault.{ScriptFault}
use Rattle.ds_script_io.specs.declared.ending.ScriptFault.TheVariants.{UnknownCommand, BadField, SheetNotFirst, LayoutNotFirst}
use Rattle.ds_script_io.specs.ScriptLines.{word_of}
use Rattle.ds_script_io.specs.Fields.{◌>>=◌, number_field, cell_field, is_skipped}
use Rattle.ds_script.specs.declared.point.PointName.{PointName}
use Rattle.ds_script.specs.declared.point.PointName.TheVariants as name
use Rattle.ds_script.specs.declared.order.Verb.{Verb}
use Rattle.ds_script.specs.declared.order.Verb.TheVariants as verbs
use Rattle.ds_script.specs.declared.order.CallName.{CallName}
use Rattle.ds_script.specs.declared.order.CallName.TheVariants as names
use Rattle.ds_script.specs.declared.order.Begun.{Begun}
use Rattle.ds_script.specs.declared.order.Begun.TheVariants as begun
use Rattle.ds_script.specs.declared.places.PlaceKind.{PlaceKind}
use Rattle.ds_script.specs.declared.places.PlaceKind.TheVariants as kinds
use Rattle.ds_script.specs.declared.order.Call.{Call}
use Rattle.ds_script.specs.declared.order.Call.TheVariants as calls
use Rattle.ds_script.specs.declared.order.Command.{Command}
use Rattle.ds_script.specs.declared.order.Command.TheVariants as commands
use Rattle.ds_script.specs.Named.{named_in}
use Rattle.ds_script.specs.Points.{lacks, name_of_point}

-- what a line asks of a world: a whole call of a process, by the event that begins it; its beginning alone; rounds of
-- works until no cell is marked; works in an order of the cells, and then those rounds; one step; steps up to a point;
-- steps to the end of the call; a stop, a crash, an eviction; what a cell shows; both sides of a word
pub data Deed : Type 0 where
  Whole : ℕ → Event → Deed
  Begin : ℕ → Event → Deed
  Settle : ℕ → Deed
  Recalculate : ℕ → Deed
  Step : ℕ → Deed
  RunTo : ℕ → PointName → Deed
  Run : ℕ → Deed
  Stop : ℕ → Deed
  Crash : Deed
  Evict : Place → Deed
  Peek : Cell → Deed
  Word : Place → Deed

-- what a line asks for: a new sheet of that number of columns, rows and processes, in a layout, and how the script has
-- begun then; or something of the sheet that is there
pub data Order : Type 0 where
  Make : Begun → ℕ → ℕ → ℕ → Edition → Order
  Does : Deed → Order

-- the event that begins a call of the process
abbrev pub beginning : ℕ → Call → Event
beginning process (calls.Edit cell text) = events.BeginEdit (request process cell text.now)
beginning process (calls.Work cell) = events.BeginWork process cell
beginning process calls.Show = events.BeginShow process
beginning process calls.Recovery = events.BeginRecover process
beginning process calls.Migration = events.BeginMigrate process

-- the order that a command gives
abbrev pub command_view : Command → Order
command_view (commands.Sheet layout) = Make begun.Sheet layout.shape.columns layout.shape.rows layout.processes Second
command_view (commands.Layout layout edition) = Make begun.Command layout.shape.columns layout.shape.rows layout.processes edition
command_view (commands.Whole process call) = Does (Whole process (beginning process call))
command_view (commands.Begin process call) = Does (Begin process (beginning process call))
command_view (commands.Settle process) = Does (Settle process)
command_view (commands.Recalculate process) = Does (Recalculate process)
command_view (commands.Step process) = Does (Step process)
command_view (commands.RunTo process name) = Does (RunTo process name)
command_view (commands.Run process) = Does (Run process)
command_view (commands.Stop process) = Does (Stop process)
command_view commands.Crash = Does Crash
command_view (commands.Evict place) = Does (Evict place)
command_view (commands.Peek cell) = Does (Peek cell)
command_view (commands.Word place) = Does (Word place)

-- a sheet of this layout can carry the command out
abbrev pub CanDo : Layout → Command → Type 0
CanDo layout (commands.Recalculate process) = process < layout.processes
CanDo layout (commands.Evict place) = IsPlace layout place
CanDo layout (commands.Peek cell) = IsInside layout.shape cell
CanDo layout (commands.Word place) = IsPlace layout place
CanDo layout _ = Unit {0}

-- ---- places

-- the number of the cell in the last field of a line
abbrev pub cell_only : Shape → Option (List ℕ) → Option ℕ
cell_only shape rest = cell_field shape rest >>= λ cell. if is_none cell.1 then Some (index_of shape cell.0) else None

-- the number below the limit in the last field of a line
abbrev pub number_only : ℕ → Option (List ℕ) → Option ℕ
number_only limit rest = number_field limit rest >>= λ n. if is_none n.1 then Some n.0 else None

-- the kind of place that a word of a script names
abbrev pub kind_of : List ℕ → Option PlaceKind
kind_of word =
    if bytes_eq word (codes "head") then Some kinds.Head
    else (if bytes_eq word (codes "mark") then Some kinds.Mark
    else (if bytes_eq word (codes "value") then Some kinds.Value
    else (if bytes_eq word (codes "kind") then Some kinds.Kind
    else (if bytes_eq word (codes "index") then Some kinds.Index
    else (if bytes_eq word (codes "announce") then Some kinds.Announce
    else (if bytes_eq word (codes "header") then Some kinds.Header
    else (if bytes_eq word (codes "text") then Some kinds.Text
    else (if bytes_eq word (codes "done") then Some kinds.Done
    else (if bytes_eq word (codes "version") then Some kinds.Version
    else (if bytes_eq word (codes "newtext") then Some kinds.NewText
    else None))))))))))

-- the place by its kind: head C, mark C, value C, kind C, index C PART, announce P, header P NUMBER,
-- text P NUMBER PART, done P PART; version; newtext P NUMBER PART, in the texts of the second layout
abbrev pub place_by : Layout → PlaceKind → Option (List ℕ) → Option Place
place_by layout kinds.Head rest = cell_only layout.shape rest >>= λ c. Some (place.Head c)
place_by layout kinds.Mark rest = cell_only layout.shape rest >>= λ c. Some (place.Mark c)
place_by layout kinds.Value rest = cell_only layout.shape rest >>= λ c. Some (place.Value c)
place_by layout kinds.Kind rest = cell_only layout.shape rest >>= λ c. Some (place.Kind c)
place_by layout kinds.Index rest =
    cell_field layout.shape rest >>= λ c. number_only (parts_of layout) c.1 >>= λ part. Some (place.Index (index_of layout.shape c.0) part)
place_by layout kinds.Announce rest = number_only layout.processes rest >>= λ p. Some (place.Announce p)
place_by layout kinds.Header rest = number_field layout.processes rest >>= λ p. number_only RECORDS p.1 >>= λ n. Some (place.Header p.0 n)
place_by layout kinds.Text rest =
    number_field layout.processes rest >>= λ p. number_field RECORDS p.1 >>= λ n. number_only FIRST_PARTS n.1 >>= λ part. Some (place.Text First p.0 n.0 part)
place_by layout kinds.Done rest = number_field layout.processes rest >>= λ p. number_only DONE_PARTS p.1 >>= λ part. Some (place.Done p.0 part)
place_by layout kinds.Version rest = if is_none rest then Some place.Version else None
place_by layout kinds.NewText rest =
    number_field layout.processes rest >>= λ p. number_field RECORDS p.1 >>= λ n. number_only SECOND_PARTS n.1 >>= λ part. Some (place.Text Second p.0 n.0 part)

-- the place that the fields of a line name: its kind, then its numbers
abbrev pub place_field : Layout → Option (List ℕ) → Option Place
place_field layout rest = rest >>= λ bytes. kind_of (word_of bytes).0 >>= λ kind. place_by layout kind (word_of bytes).1

-- ---- points

-- the names of points
abbrev pub all_points : List PointName
all_points = name.Written ∷ name.Announced ∷ name.Indexed ∷ name.Helped ∷ name.Swung ∷ name.Kept ∷ name.Marked ∷ name.Answered ∷ name.Held ∷ name.Stored ∷ name.Valued ∷ name.Spread ∷ name.Cleared ∷ name.Freed ∷ name.Copied ∷ name.Switched ∷ []

-- the point that a word of a script names
abbrev pub point_named : List ℕ → Option PointName
point_named word = named_in name_of_point all_points word

-- ---- commands

-- the order for the deed, where no field is left after it
abbrev pub alone : Deed → Option (List ℕ) → Option Order
alone deed rest = if is_none rest then Some (Does deed) else None

-- the fields of `set`: PROCESS CELL TEXT; the text is all after the space after the cell, and empty without one
abbrev pub set_of : Layout → Option (List ℕ) → Option Order
set_of layout rest =
    number_field layout.processes rest >>= λ process.
    cell_field layout.shape process.1 >>= λ cell.
    Some (Does (Whole process.0 (events.BeginEdit (request process.0 cell.0 (unwrap_or cell.1 [])))))

-- the fields of `work`: PROCESS CELL
abbrev pub work_of : Layout → Option (List ℕ) → Option Order
work_of layout rest =
    number_field layout.processes rest >>= λ process.
    cell_field layout.shape process.1 >>= λ cell.
    alone (Whole process.0 (events.BeginWork process.0 cell.0)) cell.1

-- the deed of a command whose one field is a process
abbrev pub deed_of : Verb → ℕ → Option Deed
deed_of verbs.Recover process = Some (Whole process (events.BeginRecover process))
deed_of verbs.Report process = Some (Whole process (events.BeginShow process))
deed_of verbs.Migrate process = Some (Whole process (events.BeginMigrate process))
deed_of verbs.Settle process = Some (Settle process)
deed_of verbs.Recalculate process = Some (Recalculate process)
deed_of verbs.Step process = Some (Step process)
deed_of verbs.Stop process = Some (Stop process)
deed_of _ process = None

-- the field of a command that has a process alone: PROCESS
abbrev pub of_process : Verb → Layout → Option (List ℕ) → Option Order
of_process verb layout rest = number_only layout.processes rest >>= λ process. deed_of verb process >>= λ deed. Some (Does deed)

-- the fields of `run` after its process: to POINT, or none
abbrev pub run_by : ℕ → Option (List ℕ) → Option Order
run_by process None = Some (Does (Run process))
run_by process (Some bytes) =
    if bytes_eq (word_of bytes).0 (codes "to") then ((word_of bytes).1 >>= λ word. point_named word >>= λ n. Some (Does (RunTo process n))) else None

-- the fields of `run`: PROCESS to POINT, or PROCESS alone
abbrev pub run_of : Layout → Option (List ℕ) → Option Order
run_of layout rest = number_field layout.processes rest >>= λ process. run_by process.0 process.1

-- the fields of `evict`: those of a place
abbrev pub evict_of : Layout → Option (List ℕ) → Option Order
evict_of layout rest = place_field layout rest >>= λ r. Some (Does (Evict r))

-- the fields of `word`: those of a place
abbrev pub word_order : Layout → Option (List ℕ) → Option Order
word_order layout rest = place_field layout rest >>= λ r. Some (Does (Word r))

-- the field of `peek`: CELL
abbrev pub peek_of : Layout → Option (List ℕ) → Option Order
peek_of layout rest = cell_field layout.shape rest >>= λ cell. alone (Peek cell.0) cell.1

-- whether a sheet may have that number of columns and rows
abbrev pub may_have : ℕ → ℕ → Bool
may_have columns rows = (nat_le 1 columns && nat_le columns COLUMNS_MOST) && ((nat_le 1 rows && nat_le rows ROWS_MOST) && nat_le (columns * rows) CELLS_MOST)

-- the fields of `sheet`: COLUMNS ROWS PROCESSES
abbrev pub sheet_of : Option (List ℕ) → Option Order
sheet_of rest =
    number_field (COLUMNS_MOST + 1) rest >>= λ columns.
    number_field (ROWS_MOST + 1) columns.1 >>= λ rows.
    number_field (PROCESSES_MOST + 1) rows.1 >>= λ processes.
    if may_have columns.0 rows.0 && (nat_le 1 processes.0 && is_none processes.1) then Some (Make begun.Sheet columns.0 rows.0 processes.0 Second) else None

-- the layout with this number: 1 or 2
abbrev pub edition_numbered : ℕ → Option Edition
edition_numbered n = if n == 1 then Some First else (if n == 2 then Some Second else None)

-- the field of `layout`: 1 or 2; the sheet that is there is made anew in that layout
abbrev pub layout_of : Layout → Option (List ℕ) → Option Order
layout_of layout rest =
    number_only 3 rest >>= λ n. edition_numbered n >>= λ edition.
    Some (Make begun.Command layout.shape.columns layout.shape.rows layout.processes edition)

-- the order that the fields give; where they give none, the fault BadField
abbrev pub or_bad_field : Option Order → Result Order ScriptFault
or_bad_field None = Err BadField
or_bad_field (Some order) = Ok order

-- ---- begin PROCESS set CELL TEXT, work CELL, show, recover, migrate; a word that is no call's is no command

-- the fields of `begin PROCESS set`: CELL TEXT
abbrev pub begin_edit_of : Layout → ℕ → Option (List ℕ) → Option Order
begin_edit_of layout process rest =
    cell_field layout.shape rest >>= λ cell. Some (Does (Begin process (events.BeginEdit (request process cell.0 (unwrap_or cell.1 [])))))

-- the field of `begin PROCESS work`: CELL
abbrev pub begin_work_of : Layout → ℕ → Option (List ℕ) → Option Order
begin_work_of layout process rest = cell_field layout.shape rest >>= λ cell. alone (Begin process (events.BeginWork process cell.0)) cell.1

-- the call that a word after `begin PROCESS` names
abbrev pub call_named : List ℕ → Option CallName
call_named word =
    if bytes_eq word (codes "set") then Some names.Edit
    else (if bytes_eq word (codes "work") then Some names.Work
    else (if bytes_eq word (codes "show") then Some names.Show
    else (if bytes_eq word (codes "recover") then Some names.Recovery
    else (if bytes_eq word (codes "migrate") then Some names.Migration
    else None))))

-- the order of `begin` by the call that it names; a word that is no call's is an unknown command
abbrev pub begin_by : Layout → ℕ → Option CallName → Option (List ℕ) → Result Order ScriptFault
begin_by layout process None rest = Err UnknownCommand
begin_by layout process (Some names.Edit) rest = or_bad_field (begin_edit_of layout process rest)
begin_by layout process (Some names.Work) rest = or_bad_field (begin_work_of layout process rest)
begin_by layout process (Some names.Show) rest = or_bad_field (alone (Begin process (events.BeginShow process)) rest)
begin_by layout process (Some names.Recovery) rest = or_bad_field (alone (Begin process (events.BeginRecover process)) rest)
begin_by layout process (Some names.Migration) rest = or_bad_field (alone (Begin process (events.BeginMigrate process)) rest)

-- the words of `begin` after its process: a call's name, then its fields
abbrev pub begin_words : Layout → ℕ → Option (List ℕ) → Result Order ScriptFault
begin_words layout process None = Err BadField
begin_words layout process (Some bytes) = begin_by layout process (call_named (word_of bytes).0) (word_of bytes).1

-- the fields of `begin`: PROCESS, then the words of a call
abbrev pub begin_of : Layout → Option (ℕ × Option (List ℕ)) → Result Order ScriptFault
begin_of layout None = Err BadField
begin_of layout (Some process) = begin_words layout process.0 process.1

-- ---- lines

-- the first word of a line, by its command
abbrev pub name_of_verb : Verb → List ℕ
name_of_verb verbs.Sheet = codes "sheet"
name_of_verb verbs.Set = codes "set"
name_of_verb verbs.Work = codes "work"
name_of_verb verbs.Recover = codes "recover"
name_of_verb verbs.Report = codes "report"
name_of_verb verbs.Settle = codes "settle"
name_of_verb verbs.Recalculate = codes "recalc"
name_of_verb verbs.Begin = codes "begin"
name_of_verb verbs.Step = codes "step"
name_of_verb verbs.Run = codes "run"
name_of_verb verbs.Stop = codes "stop"
name_of_verb verbs.Crash = codes "crash"
name_of_verb verbs.Evict = codes "evict"
name_of_verb verbs.Peek = codes "peek"
name_of_verb verbs.Word = codes "word"
name_of_verb verbs.Layout = codes "layout"
name_of_verb verbs.Migrate = codes "migrate"

-- the commands
abbrev pub all_verbs : List Verb
all_verbs = verbs.Sheet ∷ verbs.Set ∷ verbs.Work ∷ verbs.Recover ∷ verbs.Report ∷ verbs.Settle ∷ verbs.Recalculate ∷ verbs.Begin ∷ verbs.Step ∷ verbs.Run ∷ verbs.Stop ∷ verbs.Crash ∷ verbs.Evict ∷ verbs.Peek ∷ verbs.Word ∷ verbs.Layout ∷ verbs.Migrate ∷ []

-- the command that the first word of a line names
abbrev pub verb_of : List ℕ → Option Verb
verb_of word = named_in name_of_verb all_verbs word

-- the order that the words after the first give, by the command
abbrev pub fields_of : Verb → Layout → Option (List ℕ) → Result Order ScriptFault
fields_of verbs.Sheet layout rest = or_bad_field (sheet_of rest)
fields_of verbs.Set layout rest = or_bad_field (set_of layout rest)
fields_of verbs.Work layout rest = or_bad_field (work_of layout rest)
fields_of verbs.Recover layout rest = or_bad_field (of_process verbs.Recover layout rest)
fields_of verbs.Report layout rest = or_bad_field (of_process verbs.Report layout rest)
fields_of verbs.Settle layout rest = or_bad_field (of_process verbs.Settle layout rest)
fields_of verbs.Recalculate layout rest = or_bad_field (of_process verbs.Recalculate layout rest)
fields_of verbs.Begin layout rest = begin_of layout (number_field layout.processes rest)
fields_of verbs.Step layout rest = or_bad_field (of_process verbs.Step layout rest)
fields_of verbs.Run layout rest = or_bad_field (run_of layout rest)
fields_of verbs.Stop layout rest = or_bad_field (of_process verbs.Stop layout rest)
fields_of verbs.Crash layout rest = or_bad_field (alone Crash rest)
fields_of verbs.Evict layout rest = or_bad_field (evict_of layout rest)
fields_of verbs.Peek layout rest = or_bad_field (peek_of layout rest)
fields_of verbs.Word layout rest = or_bad_field (word_order layout rest)
fields_of verbs.Layout layout rest = or_bad_field (layout_of layout rest)
fields_of verbs.Migrate layout rest = or_bad_field (of_process verbs.Migrate layout rest)

-- the order of a line by its command: an unknown one is a fault, and so is `sheet` after another command, and `layout`
-- after one that is not `sheet`
abbrev pub order_by : Option Verb → Begun → Layout → Option (List ℕ) → Result Order ScriptFault
order_by None first layout rest = Err UnknownCommand
order_by (Some verbs.Sheet) begun.Sheet layout rest = Err SheetNotFirst
order_by (Some verbs.Sheet) begun.Command layout rest = Err SheetNotFirst
order_by (Some verbs.Layout) begun.Command layout rest = Err LayoutNotFirst
order_by (Some verb) first layout rest = fields_of verb layout rest

-- the order, checked in this world: a point that the process's call does not have is a bad field
abbrev pub checked : WorldValue → Order → Result Order ScriptFault
checked w (Does (RunTo process n)) = if lacks ((world_of w).situation process) n then Err BadField else Ok (Does (RunTo process n))
checked w order = Ok order

-- an order, or its fault, as what a line that is not skipped asks for
abbrev pub some : Result Order ScriptFault → Result (Option Order) ScriptFault
some (Ok order) = Ok (Some order)
some (Err fault) = Err fault

-- what a line asks for once its order is read: the order, checked in this world, or the fault
abbrev pub checked_of : WorldValue → Result Order ScriptFault → Result (Option Order) ScriptFault
checked_of w (Err fault) = Err fault
checked_of w (Ok order) = some (checked w order)

-- what the line asks for at this point of a script: an order; none where the line is skipped; or its fault
abbrev pub order_of : Begun → WorldValue → List ℕ → Result (Option Order) ScriptFault
order_of first w line =
    if is_skipped line then Ok None
    else checked_of w (order_by (verb_of (word_of line).0) first w.sheet.layout (word_of line).1)

-- the order of a command that was read, or the fault
abbrev pub read_view : Result Command ScriptFault → Result Order ScriptFault
read_view (Ok command) = Ok (command_view command)
read_view (Err fault) = Err fault

-- the order of a line's command, if it has one, or the fault
abbrev pub answer_view : Result (Option Command) ScriptFault → Result (Option Order) ScriptFault
answer_view (Ok command) = Ok (option_map command_view command)
answer_view (Err fault) = Err fault
