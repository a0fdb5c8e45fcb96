-- What a server makes of the connections that it is given, and when it ends.
use Rattle.std.specs.Prelude.{◌≡◌, ◌<◌, ◌≤◌, ◌+◌, ℕ, Bool, true, false, Ok, Err}
use Rattle.std.specs.IoError.{error_kind}
use Rattle.std.specs.declared.io.ErrorKind.{ErrorKind}
use Rattle.std.specs.declared.io.ErrorKind.TheVariants.{WouldBlock, ConnectionAborted, ConnectionReset, TimedOut, NetworkDown, NetworkUnreachable, HostUnreachable, OutOfMemory, Uncategorized}
use Rattle.ds_net_connections.specs.declared.accepting.Step.{Step}
use Rattle.ds_net_connections.specs.declared.accepting.Step.TheVariants as steps
use Rattle.ds_net_connections.specs.declared.counts.Ending.{Ending}
use Rattle.ds_net_connections.specs.declared.counts.Ending.TheVariants.{Asked, Served}
use Rattle.ds_net_connections.specs.declared.counts.Taken.{Taken}
use Rattle.ds_net_connections.specs.declared.accepting.Waited.{Waited}
use Rattle.ds_net_connections.specs.declared.accepting.Waited.TheVariants as waited
use Rattle.ds_net_connections.specs.declared.serving.ServeError.{ServeError}
use Rattle.ds_net_connections.specs.declared.serving.ServeError.TheVariants.{Listener, NoMemory, Store}

-- a failure of this kind passes: no connection came in time, it is of one connection alone or of the way to its client,
-- or descriptors or memory are wanting
abbrev pub passes : ErrorKind → Bool
passes WouldBlock = true
passes ConnectionAborted = true
passes ConnectionReset = true
passes TimedOut = true
passes NetworkDown = true
passes NetworkUnreachable = true
passes HostUnreachable = true
passes OutOfMemory = true
passes Uncategorized = true
passes kind = false

-- a server that has had this number of sessions, and is to serve at most `most` (0: for ever), takes no more connections
-- for this reason: it was asked to stop; or it has an end, and that number has come
abbrev pub HasEnded : ℕ → ℕ → Ending → Type 0
HasEnded most sessions Asked = Unit {0}
HasEnded most sessions Served = (0 < most) × (most ≤ sessions)

-- a server that has had this number of sessions takes one more: it has no end, or fewer have come
abbrev pub MayGoOn : ℕ → ℕ → Type 0
MayGoOn most sessions = 0 < most → sessions < most

-- a wait for a connection ends so only where there is one, and one more is taken; where no more are taken; or at a
-- failure that does not pass
abbrev pub Waits : ℕ → ℕ → Waited → Type 0
Waits most sessions (waited.Connected stream) = MayGoOn most sessions
Waits most sessions (waited.Over ending) = HasEnded most sessions ending
Waits most sessions (waited.Failed error) = passes (error_kind error) ≡ false

-- a server that is to serve this number of sessions (0: for ever) has ended well: for a reason that ends it, and with each
-- connection that it took either a session or refused
pub record IsServed (most : ℕ) (taken : Taken) : Type 0 where
  pub ended : HasEnded most taken.sessions taken.ending
  pub all : taken.connections ≡ taken.sessions + taken.refused

-- what takes connections ends in failure only at a failure of its listener that does not pass, or where an allocation fails before
-- the first connection
abbrev pub IsLasting : ServeError → Type 0
IsLasting (Listener error) = passes (error_kind error) ≡ false
IsLasting NoMemory = Unit {0}
IsLasting (Store fault) = ⊥

-- a server ends in failure so, or at a fault of its store
abbrev pub IsStoredLasting : ServeError → Type 0
IsStoredLasting (Listener error) = IsLasting (Listener error)
IsStoredLasting NoMemory = IsLasting NoMemory
IsStoredLasting (Store fault) = Unit {0}

-- the next step of a server that is to serve this number of sessions, and has had `before`: one session more, where it may go on;
-- or its end, for a reason that ends it
abbrev pub IsStep : ℕ → ℕ → ℕ → Step → Type 0
IsStep most before after (steps.Session stream) = MayGoOn most before × (after ≡ before + 1)
IsStep most before after (steps.Ended (Ok taken)) = IsServed most taken × (taken.sessions ≡ before)
IsStep most before after (steps.Ended (Err error)) = IsLasting error
