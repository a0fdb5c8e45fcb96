-- Of what a keeper hears, by the notes of the session that has the turn to edit.
use Rattle.std.specs.Prelude.{◌≡◌, ◌⊎◌, ◌++◌, [], ◌∷◌, ℕ, List, Option, Some, if◌then◌else◌, map}
use Rattle.std.specs.Str.{bytes_eq}
use Rattle.ds_store_journal.specs.Journals.{KeptEdit}
use Rattle.ds_store_keys.specs.Tables.{found}
use Rattle.ds_net_floor.specs.EditLists.{told_as}
use Rattle.ds_net_floor.specs.Entries.{entries}
use Rattle.ds_net_floor.specs.declared.keeping.Backlog.{Backlog}
use Rattle.ds_net_floor.specs.declared.keeping.Phase.TheVariants.{Failed}
use Rattle.ds_net_desks.specs.StoredDesks.{Heard, Keyed}

-- the keeper has heard of just the edits that were noted since: they are to be kept, and they are listed, by the numbers with which
-- they were noted, in their order; or nothing is kept any more
pub record HearsNoted (old : Backlog) (before : Heard) (new : Backlog) (after : Heard) : Type 0 where
  pub more : Heard
  pub noted : after ≡ before ++ more
  pub kept : (new.edits.items ≡ old.edits.items ++ map (λ h. h.1) more) ⊎ (new.phase ≡ Failed)
  pub listed : (entries new.list ≡ entries old.list ++ map told_as more) ⊎ (new.phase ≡ Failed)
  pub nobody : new.list.nobody ≡ old.list.nobody

-- the keeper has heard of no key
pub record HearsNoKey (old new : Backlog) : Type 0 where
  pub kept : new.keys.items ≡ old.keys.items
  pub known : new.list.keys ≡ old.list.keys

-- what a key is of where these were noted, and it was of this before
abbrev pub use_after : Keyed → List ℕ → Option (Option KeptEdit) → Option (Option KeptEdit)
use_after [] key of = of
use_after (h ∷ more) key of = use_after more key (if bytes_eq key h.1.key then Some h.1.edit else of)

-- the keeper has heard of just the keys that were noted since: they are to be kept, and they are known; or nothing is kept any more
pub record HearsNotedKeys (old : Backlog) (before : Keyed) (new : Backlog) (after : Keyed) : Type 0 where
  pub more : Keyed
  pub noted : after ≡ before ++ more
  pub kept : (new.keys.items ≡ old.keys.items ++ map (λ h. h.1) more) ⊎ (new.phase ≡ Failed)
  pub known : ((key : List ℕ) → found new.list.keys key ≡ use_after more key (found old.list.keys key)) ⊎ (new.phase ≡ Failed)
