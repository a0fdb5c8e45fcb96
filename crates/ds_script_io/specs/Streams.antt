-- What a clause sees of a reader and a writer that remember whether a call failed.
use Rattle.std.specs.Prelude.{ℕ, Bool}
use Rattle.ds_script_io.specs.declared.streams.Reading.{Reading}
use Rattle.ds_script_io.specs.declared.streams.Writing.{Writing}

-- the reader that the calls are passed on to
abbrev pub reader_of : {R : Type 0} → Reading R → R
reader_of r = r.reader

-- how many bytes the reader gave, from the first call on
abbrev pub bytes_given : {R : Type 0} → Reading R → ℕ
bytes_given r = r.given

-- whether the last call that had room and did not fail gave no byte
abbrev pub has_ended : {R : Type 0} → Reading R → Bool
has_ended r = r.ended

-- whether a call to read failed
abbrev pub read_failed : {R : Type 0} → Reading R → Bool
read_failed r = r.failed

-- the writer that the calls are passed on to
abbrev pub writer_of : {W : Type 0} → Writing W → W
writer_of w = w.writer

-- whether nothing was written since the last flush that came back well, or since the writer was taken
abbrev pub is_flushed : {W : Type 0} → Writing W → Bool
is_flushed w = w.flushed

-- whether a call to write failed
abbrev pub write_failed : {W : Type 0} → Writing W → Bool
write_failed w = w.failed
