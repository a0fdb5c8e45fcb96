-- What a library's calls do with what its handles hold: handles of a type H hold values of a type V, and a call fails with
-- an F.
use Rattle.std.specs.Prelude.{ℕ, ◌≡◌, ◌≢◌, Option, Some, Result, Err}

-- how a handle says what it holds: by its first word, which is this where it holds a value, and by the value
pub record Sight (H V : Type 0) : Type 0 where
  pub full : ℕ
  pub word : H → ℕ
  pub value : H → Option V

-- the handle holds this value
pub record Holds {H V : Type 0} (S : Sight H V) (h : H) (v : V) : Type 0 where
  pub marked : S.word h ≡ S.full
  pub held : S.value h ≡ Some v

-- the handle holds nothing
abbrev pub IsEmpty : {H V : Type 0} → Sight H V → H → Type 0
IsEmpty S h = S.word h ≢ S.full

-- the handle holds something
abbrev pub IsFull : {H V : Type 0} → Sight H V → H → Type 0
IsFull S h = S.word h ≡ S.full

-- handles of a library, with the numbers of its failures: among them that a handle holds nothing, that one which is to
-- hold nothing holds something, and that one holds a value of another kind
pub record Handles (H V F : Type 0) : Type 0 where
  pub sight : Sight H V
  pub number_of : F → ℕ
  pub empty : F
  pub full : F
  pub wrong : F

-- ---- calls on what is held

-- the call was made on the value that the handle held, and the handle holds the value that it led to
pub record OnValue {H V F R : Type 0} (L : Handles H V F) (Call : V → Result R F → V → Type 0) (Tells : Result R F → ℕ → Type 0) (old new : H) (number : ℕ) : Type 0 where
  pub value : V
  pub next : V
  pub told : Result R F
  pub held : Holds L.sight old value
  pub holds : Holds L.sight new next
  pub does : Call value told next
  pub tells : Tells told number

-- the call was made on the value of the handle; or the handle holds none and stays, which is the failure that its number names
pub data OnHandle {H V F R : Type 0} (L : Handles H V F) (Call : V → Result R F → V → Type 0) (Tells : Result R F → ℕ → Type 0) (old new : H) (number : ℕ) : Type 0 where
  called : OnValue L Call Tells old new number → OnHandle L Call Tells old new number
  empty : IsEmpty L.sight old → new ≡ old → Tells (Err L.empty) number → OnHandle L Call Tells old new number

-- the value is of another kind than those that this makes of contents of type P
abbrev pub IsOther : {P V : Type 0} → (P → V) → V → Type 0
IsOther {P} kind v = (p : P) → v ≡ kind p → ⊥

-- the call was made on the content of a value of this kind; or the value is of another kind, stays, and is refused
pub data OnKind {P V F R : Type 0} (kind : P → V) (wrong : F) (Call : P → Result R F → P → Type 0) (old : V) (told : Result R F) (new : V) : Type 0 where
  content : (p q : P) → old ≡ kind p → new ≡ kind q → Call p told q → OnKind kind wrong Call old told new
  other : IsOther kind old → new ≡ old → told ≡ Err wrong → OnKind kind wrong Call old told new

-- ---- values come and go

-- a handle that held nothing gets a new value; or it stays, for a cause that holds; or it held something, and stays
pub data Makes {H V F : Type 0} (L : Handles H V F) (IsNew : V → Type 0) (CanNotMake : F → Type 0) (old new : H) (number : ℕ) : Type 0 where
  made : (v : V) → IsEmpty L.sight old → IsNew v → Holds L.sight new v → number ≡ 0 → Makes L IsNew CanNotMake old new number
  fails : (why : F) → IsEmpty L.sight old → CanNotMake why → new ≡ old → number ≡ L.number_of why → Makes L IsNew CanNotMake old new number
  full : IsFull L.sight old → new ≡ old → number ≡ L.number_of L.full → Makes L IsNew CanNotMake old new number

-- a value of this kind was freed, and the handle holds nothing; or it holds one of another kind, or nothing, and stays
pub data Frees {H V F P : Type 0} (L : Handles H V F) (kind : P → V) (old new : H) (number : ℕ) : Type 0 where
  freed : (p : P) → Holds L.sight old (kind p) → IsEmpty L.sight new → number ≡ 0 → Frees L kind old new number
  other : (v : V) → Holds L.sight old v → IsOther kind v → Holds L.sight new v → number ≡ L.number_of L.wrong → Frees L kind old new number
  empty : IsEmpty L.sight old → new ≡ old → number ≡ L.number_of L.empty → Frees L kind old new number

-- a handle that held nothing gets what was taken from another one's value; or that fails for a cause that holds; or there
-- is nothing to take it from, or nowhere to put it
pub data Takes {H V F : Type 0} (L : Handles H V F) (Taken : V → V → V → Type 0) (NotTaken : V → F → V → Type 0) (old new before after : H) (number : ℕ) : Type 0 where
  taken : (v w t : V) → Holds L.sight old v → Holds L.sight new w → IsEmpty L.sight before → Holds L.sight after t → Taken v w t → number ≡ 0 → Takes L Taken NotTaken old new before after number
  fails : (v w : V) (why : F) → Holds L.sight old v → Holds L.sight new w → IsEmpty L.sight before → after ≡ before → NotTaken v why w → number ≡ L.number_of why → Takes L Taken NotTaken old new before after number
  empty : IsEmpty L.sight old → new ≡ old → IsEmpty L.sight before → after ≡ before → number ≡ L.number_of L.empty → Takes L Taken NotTaken old new before after number
  full : IsFull L.sight before → new ≡ old → after ≡ before → number ≡ L.number_of L.full → Takes L Taken NotTaken old new before after number

-- a handle's value becomes, by this, that of another one that held nothing; or that fails for a cause that holds, and the
-- value may have become another one by that; or nothing is to be moved, or nowhere to
pub data Moves {H V F : Type 0} (L : Handles H V F) (Did : V → V → Type 0) (Fails : V → F → V → Type 0) (old new before after : H) (number : ℕ) : Type 0 where
  moved : (v w : V) → Holds L.sight old v → IsEmpty L.sight new → IsEmpty L.sight before → Holds L.sight after w → Did v w → number ≡ 0 → Moves L Did Fails old new before after number
  fails : (v w : V) (why : F) → Holds L.sight old v → Holds L.sight new w → IsEmpty L.sight before → after ≡ before → Fails v why w → number ≡ L.number_of why → Moves L Did Fails old new before after number
  empty : IsEmpty L.sight old → new ≡ old → IsEmpty L.sight before → after ≡ before → number ≡ L.number_of L.empty → Moves L Did Fails old new before after number
  full : IsFull L.sight before → new ≡ old → after ≡ before → number ≡ L.number_of L.full → Moves L Did Fails old new before after number
