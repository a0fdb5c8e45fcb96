-- Which requests may be answered, by the fields `host` and `origin`. A page of elsewhere that a browser shows sends its own
-- origin (RFC 6454, section 7); one whose name was made to lead to this computer sends its own host.
use Rattle.std.specs.Prelude.{ℕ, ◌==◌, List, [], ◌∷◌, length, take, drop, Bool, true, false, ◌&&◌, ◌||◌, Option, Some, None, codes, bytes_eq}
use Rattle.http_header.specs.FieldValue.{FieldValue}
use Rattle.http_header.specs.HeaderMap.{Entries, get}

-- nothing follows the name of a host, or a port does
abbrev pub is_end_or_port : List ℕ → Bool
is_end_or_port [] = true
is_end_or_port (byte ∷ rest) = byte == 58

-- the host is this name, with any port or none
abbrev pub is_named : List ℕ → List ℕ → Bool
is_named name host = bytes_eq (take (length name) host) name && is_end_or_port (drop (length name) host)

-- the host is this computer
abbrev pub is_loopback : List ℕ → Bool
is_loopback host = (is_named (codes "127.0.0.1") host || is_named (codes "localhost") host) || is_named (codes "[::1]") host

-- the host is loopback, or just the address served
abbrev pub is_served : List ℕ → List ℕ → Bool
is_served host address = is_loopback host || bytes_eq host address

-- a page of this origin was served by this host: "http://", and the host
abbrev pub is_own_origin : List ℕ → List ℕ → Bool
is_own_origin origin host = bytes_eq (take 7 origin) (codes "http://") && bytes_eq (drop 7 origin) host

-- the origin, if there is one, is that of a page of this host
abbrev pub is_own_page : List ℕ → Option FieldValue → Bool
is_own_page host None = true
is_own_page host (Some origin) = is_own_origin origin.bytes host

-- the host, if there is one, is served, and the origin is its own
abbrev pub is_own_host : List ℕ → Option FieldValue → Option FieldValue → Bool
is_own_host address None origin = false
is_own_host address (Some host) origin = is_served host.bytes address && is_own_page host.bytes origin

-- a request with these fields may be answered by the server of this address
abbrev pub is_own : Entries FieldValue → List ℕ → Bool
is_own headers address = is_own_host address (get headers (codes "host")) (get headers (codes "origin"))
