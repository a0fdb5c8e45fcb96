-- A script that has no picture.
use Rattle.std.proofs.Common.{ℕ, List, [], refl}
use Rattle.ds_trace_picture.specs.declared.script.PictureEnd.{PictureEnd}
use Rattle.ds_trace_picture.specs.declared.script.PictureEnd.TheVariants as ends
use Rattle.ds_trace_picture.specs.Drawing.{Draws, IsUndrawn}

-- a script that has no picture has nothing written for it
pub undrawn : (limit : ℕ) (script : List ℕ) (end : PictureEnd) → IsUndrawn script end → Draws limit script end []
undrawn limit script ends.Drawn h = absurd h
undrawn limit script (ends.Fault line kind) h = (refl, h)
undrawn limit script ends.ScriptTooLong h = absurd h
undrawn limit script ends.TooManyEvents h = (refl, h)
undrawn limit script ends.TooLong h = refl
undrawn limit script ends.WriteFailed h = absurd h
undrawn limit script ends.NoMemory h = refl
