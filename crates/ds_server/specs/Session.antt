-- A session: its lines in order, the desk after each, and what is said to them. Over any desk: what a call does and
-- is answered is what the desk says of itself.
use Rattle.std.specs.Prelude.{◌≡◌, ◌⊎◌, ℕ, ◌+◌, ◌<◌, ◌≤◌, List, [], ◌++◌, ◌∷◌, length, codes, Option, None, Ok, Err}
use Rattle.serde_json.specs.Data.{Data}
use Rattle.ds_server.specs.declared.request.LineFault.{LineFault}
use Rattle.ds_server.specs.declared.request.LineFault.TheVariants.{LineTooLong, NoMemory, NotJson}
use Rattle.ds_server.specs.declared.session.SessionEnd.{SessionEnd}
use Rattle.ds_server.specs.declared.session.SessionEnd.TheVariants as ends
use Rattle.ds_server.specs.SessionLines.{HasNoFeed, IsLine}
use Rattle.ds_server.specs.DeskCalls.{Call}
use Rattle.ds_server.specs.Replies.{Said, Faulted, said_to}
use Rattle.ds_server.specs.Desks.{Rules, Leaves, joined_after}
use Rattle.ds_server.specs.LineRequests.{IsJson, IsNoJson, call_of, number_field}
use Rattle.ds_server.specs.SessionTexts.{said_text}

-- ---- one line

-- what is said to the value of a line, and the desk before and after it: a fault, which leaves the desk as it is;
-- or the answer to the call that the value asks for, and to a join also whether an edit was lost
pub data Obeys {B : Type 0} (rules : Rules B) (old : B) (joined : Option ℕ) (value : Data) : Said → B → Type 0 where
  refuses : (fault : LineFault) → call_of (rules.shape old) (rules.processes old) (rules.token old) joined value ≡ Err fault → Obeys rules old joined value (Faulted fault) old
  calls : (call : Call) (said : Said) (new : B) → call_of (rules.shape old) (rules.processes old) (rules.token old) joined value ≡ Ok call → rules.does old call said new → Obeys rules old joined value (said_to (number_field (codes "told") value) said) new

-- what is said to a line: that it is no JSON, just where it is none; or what is said to its value; or, with the desk
-- as it is, that memory was wanted to read it
pub data Answers {B : Type 0} (rules : Rules B) (old : B) (joined : Option ℕ) (line : List ℕ) : Said → B → Type 0 where
  no_json : IsNoJson line → Answers rules old joined line (Faulted NotJson) old
  no_memory : Answers rules old joined line (Faulted NoMemory) old
  reads : (value : Data) (said : Said) (new : B) → IsJson line value → Obeys rules old joined value said new → Answers rules old joined line said new

-- what is said to the bytes of one line: a line of more than `most` bytes is refused unread
pub data Turns {B : Type 0} (rules : Rules B) (most : ℕ) (old : B) (joined : Option ℕ) (bytes : List ℕ) : Said → B → Type 0 where
  short : (line : List ℕ) (said : Said) (new : B) → IsLine bytes line → length line ≤ most → Answers rules old joined line said new → Turns rules most old joined bytes said new
  long : (line : List ℕ) → IsLine bytes line → most < length line → Turns rules most old joined bytes (Faulted LineTooLong) old

-- ---- lines

-- the bytes are lines, one after another; each was answered, and these are the answers; they led from the first desk
-- to this one, and to this process that the session has joined, if any
pub data Session {B : Type 0} (rules : Rules B) (most : ℕ) (first : B) : List ℕ → B → Option ℕ → List ℕ → Type 0 where
  begins : Session rules most first [] first None []
  turns : (bytes more out : List ℕ) (old new : B) (joined : Option ℕ) (said : Said)
      → Session rules most first bytes old joined out → Turns rules most old joined more said new
      → Session rules most first (bytes ++ more) new (joined_after joined said) (out ++ said_text (rules.shape old) said)

-- every line of the bytes is answered; the rest, after the last line feed, is no line
pub record Served {B : Type 0} (rules : Rules B) (most : ℕ) (first : B) (bytes out rest : List ℕ) (last : B) (joined : Option ℕ) : Type 0 where
  pub lines : List ℕ
  pub session : Session rules most first lines last joined out
  pub is : bytes ≡ lines ++ rest

-- every line of the bytes but the last one is answered; that one is carried out, and its answer lost
pub record Broken {B : Type 0} (rules : Rules B) (most : ℕ) (first : B) (bytes out : List ℕ) (last : B) (joined : Option ℕ) : Type 0 where
  pub lines : List ℕ
  pub more : List ℕ
  pub desk : B
  pub before : Option ℕ
  pub said : Said
  pub session : Session rules most first lines desk before out
  pub turn : Turns rules most desk before more said last
  pub joined_is : joined ≡ joined_after before said
  pub is : bytes ≡ lines ++ more

-- ---- ends

-- the rest has no line feed, and the bytes are within the limit
pub record Within (limit : ℕ) (bytes rest : List ℕ) : Type 0 where
  pub no_feed : HasNoFeed rest
  pub within : length bytes ≤ limit

-- the bytes are one more than the limit; the rest has no line feed within it
pub record OverLimit (limit : ℕ) (bytes rest : List ℕ) : Type 0 where
  pub front : List ℕ
  pub last : ℕ
  pub no_feed : HasNoFeed front
  pub is : rest ≡ front ++ last ∷ []
  pub over : length bytes ≡ limit + 1

-- how a session ended: the bytes that it read, what it has written, the desk and the process joined at last
abbrev pub Ran : {B : Type 0} → Rules B → ℕ → ℕ → B → List ℕ → List ℕ → B → Option ℕ → SessionEnd → Type 0
Ran rules most limit first bytes out last joined ends.Ended = (rest : List ℕ) × Served rules most first bytes out rest last joined × Within limit bytes rest
Ran rules most limit first bytes out last joined ends.ReadFailed = (rest : List ℕ) × Served rules most first bytes out rest last joined × Within limit bytes rest
Ran rules most limit first bytes out last joined ends.TooLong = (rest : List ℕ) × Served rules most first bytes out rest last joined × OverLimit limit bytes rest
Ran rules most limit first bytes out last joined ends.NoMemory = Served rules most first bytes out [] last joined ⊎ Broken rules most first bytes out last joined
Ran rules most limit first bytes out last joined ends.WriteFailed = Broken rules most first bytes out last joined

-- how a session ended, and at its end its process, if it has joined one, is given back
pub record Outcome {B : Type 0} (rules : Rules B) (most limit : ℕ) (first : B) (bytes out : List ℕ) (last : B) (end : SessionEnd) : Type 0 where
  pub desk : B
  pub joined : Option ℕ
  pub ran : Ran rules most limit first bytes out desk joined end
  pub leaves : Leaves rules joined desk last
