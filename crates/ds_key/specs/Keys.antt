-- Keys that clients give their edits (our own rule; the header `Idempotency-Key` of HTTP carries one).
use Rattle.std.specs.Prelude.{ℕ, Bool, ◌&&◌, nat_le, List, length}
use Rattle.std.specs.List.{list_all}
use Rattle.std.specs.Char.{is_ascii_graphic}

-- how many bytes a key may have
abbrev pub KEY_MOST : ℕ
KEY_MOST = 64

-- whether a text is a key: 1 to 64 visible characters of ASCII
abbrev pub is_key : List ℕ → Bool
is_key text = (nat_le 1 (length text) && nat_le (length text) KEY_MOST) && list_all is_ascii_graphic text
