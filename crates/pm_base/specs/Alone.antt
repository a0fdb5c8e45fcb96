-- What a step on words of one thread does.
use Rattle.std.specs.Prelude.{ℕ, ◌≡◌, Bool, true, false}
use Rattle.ds_words.specs.Memory.{Performs}
use Rattle.ds_words.specs.Words.{WordsValue, memory_of}
use Rattle.pm_base.specs.Structures.{Structure, Calls}

module _ {K S T C E : Type 0} (s : Structure K S T) (c : Calls K S T C E) (key : K) where
  -- the access is performed, and the call goes on with what it answers; or all is as it was
  abbrev pub Takes : WordsValue → C → WordsValue → C → Bool → Type 0
  Takes old call new call' true = (answer : ℕ) × Performs (s.class_in key) (c.access key call) (c.process call) (memory_of old) (memory_of new) answer × (call' ≡ c.next call answer)
  Takes old call new call' false = (new ≡ old) × (call' ≡ call)
