-- Lines that edit a cell, and their texts.
use Rattle.std.specs.Prelude.{ℕ, ◌-◌, Bool, false, ◌&&◌, List, ◌++◌, length, take, Option, Some, None, Result, Ok, Err, codes, if◌then◌else◌}
use Rattle.std.specs.Str.{bytes_eq}
use Rattle.ds_formula.specs.declared.fault.TextFault.{TextFault}
use Rattle.ds_script_io.specs.ScriptLines.{word_of}
use Rattle.ds_a1.specs.Notation.{opens}
use Rattle.ds_a1_script.specs.declared.lines.Commands.{Commands}
use Rattle.ds_a1_script.specs.declared.lines.Commands.TheVariants.{OfScript, OfClient}

-- what is after the first of these words, where there is a space
abbrev pub after_word : Option (List ℕ) → Option (List ℕ)
after_word None = None
after_word (Some words) = (word_of words).1

-- whether the first of these words is this one
abbrev pub begins_word : List ℕ → Option (List ℕ) → Bool
begins_word name None = false
begins_word name (Some words) = bytes_eq (word_of words).0 name

-- the text in a line of a script, `set P C TEXT` or `begin P set C TEXT`
abbrev pub script_text : List ℕ → Option (List ℕ)
script_text line =
    if begins_word (codes "set") (Some line) then after_word (after_word (after_word (Some line)))
    else (if begins_word (codes "begin") (Some line) && begins_word (codes "set") (after_word (after_word (Some line)))
    then after_word (after_word (after_word (after_word (Some line))))
    else None)

-- the text in a line of a client, `set C TEXT`
abbrev pub client_text : List ℕ → Option (List ℕ)
client_text line = if begins_word (codes "set") (Some line) then after_word (after_word (Some line)) else None

-- the text in a line of these commands; none where it is none that edits, or ends before its text
abbrev pub line_text : Commands → List ℕ → Option (List ℕ)
line_text OfScript = script_text
line_text OfClient = client_text

-- a line with this in the place of its text, where that has something in it
abbrev pub with_text : List ℕ → List ℕ → Result (List ℕ) TextFault → Result (List ℕ) TextFault
with_text line text (Ok open_text) = Ok (take (length line - length text) line ++ open_text)
with_text line text (Err fault) = Err fault

-- a line with its text in OpenFormula
abbrev pub opened_by : List ℕ → Option (List ℕ) → Result (List ℕ) TextFault
opened_by line None = Ok line
opened_by line (Some text) = with_text line text (opens text)

-- what a line whose text is in A1 notation is in OpenFormula, or the fault of its text
abbrev pub line_opens : Commands → List ℕ → Result (List ℕ) TextFault
line_opens commands line = opened_by line (line_text commands line)
