-- The limits of a session (our own rules). Each constant of the code that says one of them is this number, by a law of the crate.
use Rattle.std.specs.Prelude.{ℕ}

-- how many bytes a line of a session may have, without its line feed
abbrev pub SESSION_LINE_MOST : ℕ
SESSION_LINE_MOST = 4096

-- how many bytes a session may have
abbrev pub SESSION_MOST : ℕ
SESSION_MOST = 1048576

-- how many edits an answer lists at most
abbrev pub HISTORY_MOST : ℕ
HISTORY_MOST = 100
