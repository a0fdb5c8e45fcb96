-- Which requests may act by a process: those that have the token that a join has to have, if there is one (RFC 6750, section 2.1).
use Rattle.std.specs.Prelude.{ℕ, List, take, drop, Bool, true, false, ◌&&◌, Option, Some, None, codes, bytes_eq}
use Rattle.http_header.specs.FieldValue.{FieldValue}

-- the value is "Bearer " and the token
abbrev pub has_token : List ℕ → List ℕ → Bool
has_token value token = bytes_eq (take 7 value) (codes "Bearer ") && bytes_eq (drop 7 value) token

-- the field `authorization`, where it is there, has the token
abbrev pub bears_one : List ℕ → Option FieldValue → Bool
bears_one token None = false
bears_one token (Some value) = has_token value.bytes token

-- the same, where there is a token
abbrev pub bears : Option (List ℕ) → Option FieldValue → Bool
bears None value = true
bears (Some token) value = bears_one token value
