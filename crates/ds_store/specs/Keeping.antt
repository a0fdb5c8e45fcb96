-- Why edits and keys are not kept, and why a store does not go over.
use Rattle.std.specs.Prelude.{ℕ, ◌≡◌, ◌⊎◌, ◌<◌, ◌++◌, ◌∷◌, [], List, map, ⊤}
use Rattle.ds_layout.specs.declared.layout.Layout.{Layout}
use Rattle.ds_store.specs.GoingOver.{GoesOver}
use Rattle.ds_store.specs.Stores.{NUMBER_MOST}
use Rattle.ds_store.specs.Told.{IsOfLines, edit_told, lines_told, told_of}
use Rattle.ds_store.specs.declared.fault.StoreFault.{StoreFault}
use Rattle.ds_store_journal.specs.Faults.{HasLine}
use Rattle.ds_store_journal.specs.Journals.{IsJournal, KeptEdit, edits_by}
use Rattle.ds_store_journal.specs.declared.fault.JournalFault.{JournalFault}
use Rattle.ds_store_journal.specs.declared.fault.JournalFault.TheVariants.{KeyAgain, NoMemory, Other}
use Rattle.ds_store_keys.specs.Keys.{KeptKey, StandOnce, keys_of}
use Rattle.ds_store_keys.specs.Written.{HasKeyLine}
use Rattle.ds_store_table.specs.Reading.{FailsToRead}
use Rattle.ds_store_table.specs.declared.lines.LinesFault.{LinesFault}
use Rattle.ds_store_table.specs.Tables.{numbered}
use Rattle.ds_store_table.specs.Statements.{FailsToKeep, creation, insertion, removal}
use Rattle.sqlite.specs.Held.{Held}
use Rattle.sqlite.specs.State.{State}
use Rattle.sqlite.specs.Store.{Ghosts}
use Rattle.sqlite.specs.declared.error.Error.{Error}

-- the edit can be the next one after these: it has a line in a journal of a sheet of this layout, and the next number of its process
pub record MayBeNext (layout : Layout) (before : List KeptEdit) (edit : KeptEdit) : Type 0 where
  pub line : HasLine layout edit
  pub number : edit.number ≡ edits_by edit.process before
  pub counted : edit.number < NUMBER_MOST

-- each of the edits can be, after those and the ones before it
abbrev pub MayFollow : Layout → List KeptEdit → List KeptEdit → Type 0
MayFollow layout before [] = ⊤
MayFollow layout before (edit ∷ edits) = MayBeNext layout before edit × MayFollow layout (before ++ edit ∷ []) edits

-- each of the keys has a line
abbrev pub HaveKeyLines : Layout → List KeptKey → Type 0
HaveKeyLines layout [] = ⊤
HaveKeyLines layout (key ∷ keys) = HasKeyLine layout key × HaveKeyLines layout keys

-- keys have no lines after these for this fault: an allocation failed; or one may have none; or one stands again
abbrev pub KeysHaveNoLines : Layout → List KeptKey → List KeptKey → JournalFault → Type 0
KeysHaveNoLines layout known keys why =
    (why ≡ NoMemory) ⊎ (((why ≡ Other) × (HaveKeyLines layout keys → ⊥)) ⊎ ((why ≡ KeyAgain) × (StandOnce (known ++ keys) → ⊥)))

-- edits and keys have no lines after these for this fault: an edit cannot be the next one; or it is so of the keys
abbrev pub HaveNoLines : Layout → List KeptEdit → List KeptEdit → List KeptKey → List KeptKey → JournalFault → Type 0
HaveNoLines layout before edits known keys why = ((why ≡ Other) × (MayFollow layout before edits → ⊥)) ⊎ KeysHaveNoLines layout known keys why

-- the lines that a database holds are not given, for this fault: they are not read
abbrev pub FailsToGive : List (List ℕ) → State → State → StoreFault → Type 0
FailsToGive held old new fault = (why : LinesFault) × (fault ≡ lines_told why) × FailsToRead (numbered 1 held) old new why

module _ {S : Type 0} (g : Ghosts S) where
  -- edits and keys are not kept after these lines, for this fault: they have no lines, and nothing was tried; or their lines were
  -- to be inserted, and the database kept nothing
  abbrev pub FailsToKeepAll : Layout → List (List ℕ) → List KeptEdit → List KeptEdit → List KeptKey → Held S → Held S → StoreFault → Type 0
  FailsToKeepAll layout held before edits keys old new fault =
      ((new ≡ old) × (why : JournalFault) × (fault ≡ edit_told why) × HaveNoLines layout before edits (keys_of layout held) keys why)
      ⊎ ((lines : List (List ℕ)) × IsJournal layout (held ++ lines) (before ++ edits) × (keys_of layout (held ++ lines) ≡ keys_of layout held ++ keys)
      × (e : Error) × (fault ≡ told_of e) × FailsToKeep g (map insertion lines) old new e)

  -- a store of these lines does not go over, for this fault: it is of the lines, and nothing was tried; or lines that go on where
  -- these have ended were to be put in their place, and the database kept nothing
  abbrev pub FailsToGoOver : List (List ℕ) → Held S → Held S → StoreFault → Type 0
  FailsToGoOver held old new fault =
      ((new ≡ old) × IsOfLines fault)
      ⊎ ((lines : List (List ℕ)) × GoesOver held lines × (e : Error) × (fault ≡ told_of e) × FailsToKeep g (removal ∷ creation ∷ map insertion lines) old new e)
