-- How the end of a session is shown (our own rule).
use Rattle.std.specs.Prelude.{ℕ, List, codes}
use Rattle.ds_server.specs.declared.session.SessionEnd.{SessionEnd}
use Rattle.ds_server.specs.declared.session.SessionEnd.TheVariants.{Ended, TooLong, ReadFailed, WriteFailed, NoMemory}

-- the text of how a session ended
abbrev pub end_text : SessionEnd → List ℕ
end_text Ended = codes "ended"
end_text TooLong = codes "session too long: more than 1048576 bytes"
end_text ReadFailed = codes "a line could not be read"
end_text WriteFailed = codes "an answer could not be written"
end_text NoMemory = codes "out of memory"
