-- A new sheet.
use Rattle.std.specs.Prelude.{ℕ, ◌≡◌, ◌≢◌, ◌<◌, [], None}
use Rattle.ds_words.specs.Memory.{Memory}
use Rattle.ds_layout.specs.declared.place.Edition.{Edition}
use Rattle.ds_layout.specs.declared.place.Place.{Place}
use Rattle.ds_layout.specs.declared.place.Place.TheVariants.{Version}
use Rattle.ds_layout.specs.Places.{edition_word}
use Rattle.ds_state.specs.World.{PlainWorld}
use Rattle.ds_state.specs.declared.situation.Situation.TheVariants.{Idle}

-- the words of a new sheet in this layout: the version's word says it on both sides, all other words are zero, and
-- nothing is flushed
pub record AreNew (m : Memory Place) (edition : Edition) : Type 0 where
  pub seen : m.cached Version ≡ edition_word edition
  pub kept : m.persisted Version ≡ edition_word edition
  pub cached : (r : Place) → r ≢ Version → m.cached r ≡ 0
  pub persisted : (r : Place) → r ≢ Version → m.persisted r ≡ 0
  pub buffer : (p : ℕ) → m.buffer p ≡ []

-- a new sheet, in one of the two layouts: each process is idle and begins with its edit 0
pub record IsNew (w : PlainWorld) : Type 0 where
  pub edition : Edition
  pub memory : AreNew w.memory edition
  pub situation : (p : ℕ) → p < w.layout.processes → w.situation p ≡ Idle (record { number = 0; edition = edition })
  pub counted : w.counted ≡ []
  pub open_edits : (p : ℕ) → w.open_edits p ≡ None
