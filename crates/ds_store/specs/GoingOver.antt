-- A store goes over to a new sheet.
use Rattle.std.specs.Prelude.{◌≡◌, ◌<◌, ℕ, List, length}
use Rattle.ds_layout.specs.declared.layout.Layout.{Layout}
use Rattle.ds_store_journal.specs.Joining.{joins_of}
use Rattle.ds_store_journal.specs.Standings.{AreStandings, standing_of}
use Rattle.ds_store_keys.specs.Keys.{carried, keys_of}
use Rattle.ds_store_table.specs.Tables.{MayHold}
use Rattle.ds_store.specs.Texts.{HasTexts, SameTexts}
use Rattle.ds_store.specs.declared.going_over.ReadJournal.{ReadJournal}
use Rattle.sqlite.specs.Tree.{Trees}

-- the new lines go on where the old ones have ended, with another sheet: each of its cells has the text that it had, as many
-- processes may be joined, and each of those stands as it stood; and they have the last keys, of what these were
pub record GoesOver (old new : List (List ℕ)) : Type 0 where
  pub layout : Layout
  pub again : Layout
  pub texts : SameTexts layout old again new
  pub joins : joins_of again new ≡ joins_of layout old
  pub standings : (process : ℕ) → process < joins_of layout old → standing_of again process new ≡ standing_of layout process old
  pub keys : keys_of again new ≡ carried (keys_of layout old)

-- the trees of a database that has lines which go on where these have ended
pub record MayGoOver (old : List (List ℕ)) (trees : Trees) : Type 0 where
  pub lines : List (List ℕ)
  pub over : GoesOver old lines
  pub holds : MayHold lines trees

-- what was read of these lines
pub record HasRead (read : ReadJournal) (lines : List (List ℕ)) : Type 0 where
  pub texts : HasTexts read.texts.layout read.texts.counts.counts.items read.texts.texts.items lines
  pub joins : read.joins ≡ joins_of read.texts.layout lines
  pub count : length read.standings.items ≡ read.texts.layout.processes
  pub standings : AreStandings read.texts.layout read.standings.items lines
  pub keys : read.keys.items ≡ keys_of read.texts.layout lines
