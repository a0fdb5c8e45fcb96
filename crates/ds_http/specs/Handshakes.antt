-- The opening of a WebSocket (RFC 6455, section 4.2).
use Rattle.std.specs.Prelude.{◌≡◌, ℕ, List, [], ◌∷◌, Some, codes}
use Rattle.http1.specs.Fields.{Header}
use Rattle.http_header.specs.FieldValue.{FieldValue}
use Rattle.http_header.specs.HeaderMap.{Entries, get}
use Rattle.http_server.specs.declared.response.Response.{Response}
use Rattle.http_server.specs.Response.{IsResponse}
use Rattle.websocket.specs.Handshake.{IsValidKey, accept_key_of}
use Rattle.ds_http.specs.declared.problem.Problem.TheVariants as problems
use Rattle.ds_http.specs.Bodies.{Refuses}

-- the fields of an answer that agrees by this value
abbrev pub agreed_by : List ℕ → List Header
agreed_by accept = (codes "upgrade", codes "websocket") ∷ (codes "connection", codes "upgrade") ∷ (codes "sec-websocket-accept", accept) ∷ []

-- the fields that say what is wanted
abbrev pub wanted_fields : List Header
wanted_fields = (codes "upgrade", codes "websocket") ∷ (codes "connection", codes "upgrade") ∷ (codes "sec-websocket-version", codes "13") ∷ []

-- the answer to a request for a session: the connection becomes a WebSocket only where its key is valid, and the answer has
-- the accept key of just that key; a key that is not valid is refused; or a WebSocket of version 13 is wanted
pub data Shakes (headers : Entries FieldValue) (r : Response) : Type 0 where
  agrees : (key : FieldValue) → get headers (codes "sec-websocket-key") ≡ Some key → IsValidKey key.bytes → IsResponse 101 (agreed_by (accept_key_of key.bytes)) [] r → Shakes headers r
  refuses : (key : FieldValue) → get headers (codes "sec-websocket-key") ≡ Some key → ¬ (IsValidKey key.bytes) → Refuses [] problems.BadKey r → Shakes headers r
  wants : Refuses wanted_fields problems.UpgradeRequired r → Shakes headers r
