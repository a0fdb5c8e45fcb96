-- The drawing of a script.
use Rattle.std.specs.Prelude.{ℕ, ◌≡◌, ◌≤◌, ◌<◌, List, [], ◌++◌, true, codes, length}
use Rattle.std.specs.Fmt.{decimal}
use Rattle.ds_script_io.specs.ScriptEndings.{name_of_fault}
use Rattle.ds_formula.specs.Limits.{INPUT_MOST}
use Rattle.ds_script.specs.Script.{Breaks}
use Rattle.ds_svg.specs.Pages.{IsDocument}
use Rattle.ds_trace.specs.Traces.{IsTooLong}
use Rattle.ds_trace.specs.declared.record.Untraced.{Untraced}
use Rattle.ds_trace.specs.declared.record.Untraced.TheVariants as untraced
use Rattle.ds_trace_picture.specs.declared.script.PictureEnd.{PictureEnd}
use Rattle.ds_trace_picture.specs.declared.script.PictureEnd.TheVariants as ends

-- how many bytes a picture has at most
abbrev pub PICTURE_MOST : ℕ
PICTURE_MOST = 1048576

-- the text of how the drawing of a script ended
abbrev pub end_text : PictureEnd → List ℕ
end_text ends.Drawn = codes "drawn"
end_text (ends.Fault line kind) = codes "line " ++ (decimal line ++ (codes ": " ++ name_of_fault kind))
end_text ends.ScriptTooLong = codes "script too long: more than 1048576 bytes"
end_text ends.TooManyEvents = codes "run too long: more than 1000 events"
end_text ends.TooLong = codes "picture too long: more than 1048576 bytes"
end_text ends.WriteFailed = codes "the picture could not be written"
end_text ends.NoMemory = codes "out of memory"

-- how the drawing of a script ends that has no recording
abbrev pub end_of : Untraced → PictureEnd
end_of (untraced.Fault line kind) = ends.Fault line kind
end_of untraced.TooManyEvents = ends.TooManyEvents
end_of untraced.NoMemory = ends.NoMemory

-- why there is no picture: a line has a fault, which a run of the script meets there; the run has too many events; or for
-- want of room
abbrev pub IsUndrawn : List ℕ → PictureEnd → Type 0
IsUndrawn script ends.Drawn = ⊥
IsUndrawn script (ends.Fault line kind) = (told : List ℕ) × Breaks true script told line kind
IsUndrawn script ends.ScriptTooLong = ⊥
IsUndrawn script ends.TooManyEvents = IsTooLong true script
IsUndrawn script ends.TooLong = Unit {0}
IsUndrawn script ends.WriteFailed = ⊥
IsUndrawn script ends.NoMemory = Unit {0}

-- what is written for a script, by how its drawing ends: a well-formed document within the limit; or nothing
abbrev pub Draws : ℕ → List ℕ → PictureEnd → List ℕ → Type 0
Draws limit script ends.Drawn out = IsDocument out × (length out ≤ limit)
Draws limit script (ends.Fault line kind) out = (out ≡ []) × ((told : List ℕ) × Breaks true script told line kind)
Draws limit script ends.ScriptTooLong out = (out ≡ []) × (INPUT_MOST < length script)
Draws limit script ends.TooManyEvents out = (out ≡ []) × IsTooLong true script
Draws limit script ends.TooLong out = out ≡ []
Draws limit script ends.WriteFailed out = Unit {0}
Draws limit script ends.NoMemory out = out ≡ []
