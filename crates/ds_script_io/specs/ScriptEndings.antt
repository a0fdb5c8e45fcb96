-- How the end of a script is shown (our own rule).
use Rattle.std.specs.Prelude.{ℕ, List, ◌++◌, codes}
use Rattle.std.specs.Fmt.{decimal}
use Rattle.ds_script_io.specs.declared.ending.ScriptFault.{ScriptFault}
use Rattle.ds_script_io.specs.declared.ending.ScriptFault.TheVariants.{UnknownCommand, BadField, SheetNotFirst, LayoutNotFirst, LineTooLong}
use Rattle.ds_script_io.specs.declared.ending.ScriptEnd.{ScriptEnd}
use Rattle.ds_script_io.specs.declared.ending.ScriptEnd.TheVariants.{Ended, Fault, TooLong, ReadFailed, WriteFailed, NoMemory}

-- the name of a fault of a script
abbrev pub name_of_fault : ScriptFault → List ℕ
name_of_fault UnknownCommand = codes "unknown command"
name_of_fault BadField = codes "bad field"
name_of_fault SheetNotFirst = codes "sheet not first"
name_of_fault LayoutNotFirst = codes "layout not first"
name_of_fault LineTooLong = codes "line too long"

-- the text of how a script ended: a fault with the number of its line
abbrev pub end_text : ScriptEnd → List ℕ
end_text Ended = codes "ended"
end_text (Fault line kind) = codes "line " ++ (decimal line ++ (codes ": " ++ name_of_fault kind))
end_text TooLong = codes "script too long: more than 1048576 bytes"
end_text ReadFailed = codes "the script could not be read"
end_text WriteFailed = codes "an answer could not be written"
end_text NoMemory = codes "out of memory"
