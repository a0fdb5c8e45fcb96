-- The first lines of a journal that are sound.
use Rattle.std.specs.Prelude.{◌≡◌, ℕ, List, None, length, map, take}
use Rattle.std.specs.String.{string_bytes}
use Rattle.ds_store.specs.declared.sound.SoundLines.{SoundLines}

-- these are the first of the lines held; where nothing is wrong, as many as are asked for, and it says how many there are
pub record AreFirst (most : ℕ) (held : List (List ℕ)) (s : SoundLines) : Type 0 where
  pub begin : map string_bytes s.lines.items ≡ take (length s.lines.items) held
  pub asked : s.fault ≡ None → map string_bytes s.lines.items ≡ take most held
  pub count : s.fault ≡ None → s.count ≡ length held
