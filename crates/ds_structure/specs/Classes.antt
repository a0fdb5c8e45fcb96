-- The class of a word of a sheet by its number, and where kinds of words begin.
use Rattle.std.specs.Prelude.{ℕ, ◌≡◌, ◌+◌, nat_lt, if◌then◌else◌}
use Rattle.ds_words.specs.declared.access.Class.{Class}
use Rattle.ds_words.specs.declared.access.Class.TheVariants.{Stamped, Bit, Owned}
use Rattle.ds_layout.specs.declared.layout.Layout.{Layout}
use Rattle.ds_layout.specs.declared.place.Edition.TheVariants.{Second}
use Rattle.ds_layout.specs.declared.place.Place.TheVariants.{Version, Value, Kind, Announce, Header, Text, Done}
use Rattle.ds_layout.specs.Places.{cells_of, number_of}
use Rattle.ds_structure.specs.declared.sheet.Bounds.{Bounds}

-- the version's word is there, and words of another class begin there: values; index rows; announcements; done bits; the
-- texts of the second layout. So do records, by their headers
pub record AreBounds (layout : Layout) (b : Bounds) : Type 0 where
  pub version : b.version ≡ number_of layout Version
  pub values : b.values ≡ number_of layout (Value 0)
  pub rows : b.rows ≡ number_of layout (Kind 0) + cells_of layout
  pub announcements : b.announcements ≡ number_of layout (Announce 0)
  pub records : b.records ≡ number_of layout (Header 0 0)
  pub done : b.done ≡ number_of layout (Done 0 0)
  pub texts : b.texts ≡ number_of layout (Text Second 0 0 0)

-- the class of the word with this number, where they begin there
abbrev pub class_by : ℕ → ℕ → ℕ → ℕ → ℕ → ℕ → Class
class_by values rows announcements done texts n =
    if nat_lt n values then Stamped
    else (if nat_lt n rows then Owned
    else (if nat_lt n announcements then Bit
    else (if nat_lt n done then Owned
    else (if nat_lt n texts then Bit
    else Owned))))
