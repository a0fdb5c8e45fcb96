-- The position at which a search begins.
use Rattle.std.specs.Prelude.{ℕ, ◌≡◌, ◌<◌, List, length}
use Rattle.ds_words.specs.declared.words.Word.{Word}
use Rattle.pm_base.specs.Structures.{Structure}
use Rattle.pm_explore.specs.Closed.{IsStart}
use Rattle.pm_explore.specs.Lists.{IsAt}
use Rattle.pm_explore.specs.Positions.{Point, Shows}
use Rattle.pm_explore.specs.declared.happen.Came.{Came}
use Rattle.pm_explore.specs.declared.happen.Came.TheVariants.{To}
use Rattle.pm_explore.specs.declared.setting.Setting.{Setting}

-- the words are those of the window, as they are at first
pub record AreFirst {K S T : Type 0} (s : Structure K S T) (key : K) (window : List ℕ) (words : List Word) : Type 0 where
  pub count : length words ≡ length window
  pub first : (k n : ℕ) (w : Word) → IsAt window k n → IsAt words k w → (n < s.words key) × (w.cached ≡ s.first_word key n) × (w.persisted ≡ s.first_word key n)

-- a position that shows each point at which a run begins, or none
abbrev pub Starts : {K S T : Type 0} → Structure K S T → Setting K S → Came S T → Type 0
Starts {K} {S} {T} s setting (To x) = (point : Point S T s.Hidden) → IsStart s setting point → Shows setting.window.items x point
Starts s setting _ = Unit {0}
