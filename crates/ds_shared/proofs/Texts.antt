-- The text of a cell, as the words of a closed sheet show it.
use Rattle.std.proofs.Common.{ℕ, ◌≡◌, List, [], sym, refl}
use Rattle.std.specs.Prelude.{Option, Some, None}
use Rattle.ds_words.specs.Memory.{Memory}
use Rattle.ds_layout.specs.declared.layout.Layout.{Layout}
use Rattle.ds_layout.specs.declared.head.Head.{Head}
use Rattle.ds_layout.specs.declared.place.Place.{Place}
use Rattle.ds_layout.specs.declared.place.Place.TheVariants as place
use Rattle.ds_layout.specs.Head.{head_of}
use Rattle.ds_layout.specs.SheetMemory.{memory_at}
use Rattle.ds_state.specs.Editions.{seen_edition}
use Rattle.ds_state.specs.World.{of_cell}
use Rattle.ds_state.specs.Sound.{IsSound}
use Rattle.ds_state.specs.Shown.{last_text, named_at, text_at}
use Rattle.ds_state.proofs.LastText.{text_at_head, text_without_head}
use Rattle.ds_state.proofs.ReadBack.{record_read}
use Rattle.pm_board.specs.Rule.{Witness, world_on}
use Rattle.pm_board.specs.Table.{two_sided}
use Rattle.ds_structure.specs.Sheet.{apart_of, plain, sheet}
use Rattle.ds_structure.specs.declared.sheet.SheetKey.{SheetKey}

-- the words of a closed sheet by their places
abbrev pub closed_in : Layout → List ℕ → Memory Place
closed_in layout words = memory_at layout (two_sided (apart_of layout) words (λ q. []))

module _ (key : SheetKey) (words : List ℕ) (cell : ℕ) (b : Witness sheet key) (s : IsSound (plain key (world_on sheet key words b))) where
  abbrev layout : Layout
  layout = key.layout

  abbrev closed : Memory Place
  closed = closed_in key.layout words

  by_head : (found : Option Head) → head_of layout.processes (closed.cached (place.Head cell)) ≡ found → named_at layout closed found ≡ last_text (of_cell cell b.hidden.counted)
  by_head None is = sym (text_without_head (plain key (world_on sheet key words b)) cell s is)
  by_head (Some head) is =
      let h = text_at_head (plain key (world_on sheet key words b)) cell head s is in
      record_read layout closed (seen_edition closed) head.process head.number h.cell (last_text (of_cell cell b.hidden.counted)) h.within (record { header = h.stands.header; parts = record { is = h.stands.parts.is; fits = h.stands.parts.fits; each = h.stands.parts.each } })

  pub text_closed : text_at layout closed cell ≡ last_text (of_cell cell b.hidden.counted)
  text_closed = by_head (head_of layout.processes (closed.cached (place.Head cell))) refl
