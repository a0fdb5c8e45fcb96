-- What is known of keys.
use Rattle.std.specs.Prelude.{◌≡◌, ℕ, List, Option, None, Some, Result, Ok, Err}
use Rattle.ds_formula.specs.declared.cells.Cell.{Cell}
use Rattle.ds_server.specs.declared.desk.CallRefusal.TheVariants as refusals
use Rattle.ds_server.specs.declared.desk.ListedEdit.{ListedEdit}
use Rattle.ds_server.specs.Replies as said
use Rattle.ds_store_journal.specs.Journals.{KeptEdit}
use Rattle.ds_net_desks.specs.StoredDesks.{IsOf, entry_kept}
use Rattle.ds_net_desks.specs.declared.keyed.KeyCopy.{KeyCopy}
use Rattle.ds_net_desks.specs.declared.keyed.Knowing.{Knowing}
use Rattle.ds_net_desks.specs.declared.keyed.Knowing.TheVariants.{New, Same, Other}
use Rattle.ds_net_desks.specs.declared.keyed.Once.{Once}
use Rattle.ds_net_desks.specs.declared.keyed.Once.TheVariants as once

-- what the client of an edit with a key is answered
abbrev pub once_view : Once → said.Said
once_view (once.Made end) = said.set_view end
once_view (once.Known number) = said.Done number
once_view once.Reused = said.Refused refusals.KeyReused

-- what is known of a key for an edit of this cell to this text, by what it is of: nothing where the list has it not; that it is of
-- such an edit, which has this number; or that it is of another edit, or of none
abbrev pub SaysKnowing : Cell → List ℕ → Option (Option KeptEdit) → Knowing → Type 0
SaysKnowing cell text known New = known ≡ None
SaysKnowing cell text known (Same number) = (edit : KeptEdit) × (known ≡ Some (Some edit)) × IsOf cell text (Some edit) × (number ≡ edit.number)
SaysKnowing cell text known Other = (of : Option KeptEdit) × (known ≡ Some of) × (IsOf cell text of → ⊥)

-- both copies are of this key and this text
abbrev pub AreCopies : KeyCopy × KeyCopy → List ℕ → List ℕ → Type 0
AreCopies both key text = (both.0.key.items ≡ key) × (both.0.text.items ≡ text) × (both.1.key.items ≡ key) × (both.1.text.items ≡ text)

-- the edit that a key is of, as an edit of a list
abbrev pub SaysUse : Option KeptEdit → Option ListedEdit → Type 0
SaysUse None None = Unit {0}
SaysUse (Some edit) (Some listed) = said.entry_view listed ≡ entry_kept edit
SaysUse known edit = ⊥
