-- Which layouts the sides of the version's word say.
use Rattle.std.specs.Prelude.{ℕ, ◌≡◌, ◌*◌, ◌⊎◌}
use Rattle.ds_words.specs.Memory.{Memory}
use Rattle.ds_layout.specs.declared.place.Edition.{Edition}
use Rattle.ds_layout.specs.declared.place.Place.{Place}
use Rattle.ds_layout.specs.declared.place.Place.TheVariants.{Version}
use Rattle.ds_layout.specs.Places.{parts_in, edition_of}

-- how many bytes a text may have in a layout
abbrev pub most_in : Edition → ℕ
most_in edition = 8 * parts_in edition

-- the layout that processes see
abbrev pub seen_edition : Memory Place → Edition
seen_edition m = edition_of (m.cached Version)

-- the layout that a crash leaves
abbrev pub kept_edition : Memory Place → Edition
kept_edition m = edition_of (m.persisted Version)

-- one of the two sides says the layout
abbrev pub Shows : Memory Place → Edition → Type 0
Shows m edition = (seen_edition m ≡ edition) ⊎ (kept_edition m ≡ edition)

-- both sides say the layout
pub record Agrees (m : Memory Place) (edition : Edition) : Type 0 where
  pub cached : seen_edition m ≡ edition
  pub persisted : kept_edition m ≡ edition
