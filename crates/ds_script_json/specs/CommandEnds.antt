-- How commands end, and the texts of that.
use Rattle.std.specs.Prelude.{◌≡◌, List, [], ℕ}
use Rattle.ds_formula.specs.Cells.{IsInside}
use Rattle.ds_layout.specs.Places.{IsPlace}
use Rattle.ds_layout.specs.SheetMemory.{memory}
use Rattle.ds_state.specs.Value.{WorldValue, world_of}
use Rattle.ds_script.specs.Doing.{IsOrderOf, end_text, plan}
use Rattle.ds_script.specs.Orders.{Order, Make, Does}
use Rattle.ds_script.specs.Plays.{Played}
use Rattle.ds_script.specs.Script.{IsMade}
use Rattle.ds_script.specs.ScriptTexts.{reply_text, at_text, peek_text, word_text}
use Rattle.ds_script_json.specs.declared.carry.CommandEnd.{CommandEnd}
use Rattle.ds_script_json.specs.declared.carry.CommandEnd.TheVariants.{Made, Replied, At, Settled, Peeked, Read}

-- the text that a script's answer is where a command has ended so, in the world after it
abbrev pub text_of : WorldValue → CommandEnd → List ℕ
text_of w Made = []
text_of w (Replied p reply) = reply_text w p reply
text_of w (At p name) = at_text p name
text_of w (Settled p end) = end_text w p end
text_of w (Peeked cell) = peek_text (world_of w) cell
text_of w (Read place) = word_text (memory w.sheet) place

-- what is asked of the sheet is on it
abbrev pub CanShow : WorldValue → CommandEnd → Type 0
CanShow w (Peeked cell) = IsInside w.sheet.layout.shape cell
CanShow w (Read place) = IsPlace w.sheet.layout place
CanShow w _ = Unit {0}

-- an order is carried out, and ends so: a new sheet is made, or the deed is played to its end with the text of that
abbrev pub Obeys : WorldValue → Order → CommandEnd → WorldValue → Type 0
Obeys old (Make first columns rows processes edition) end new = (end ≡ Made) × IsMade columns rows processes edition new
Obeys old (Does deed) end new = (order : List ℕ) × IsOrderOf old deed order × Played (plan old order deed) old (text_of new end) new
