-- A CSV writer over bytes in memory.
use Rattle.std.specs.Prelude.{◌≡◌, ℕ, false, List, ◌++◌}
use Rattle.std.specs.Global.{Vec}
use Rattle.csv.specs.Writing.{writer_setup, fields_written, has_written, default_writer}
use Rattle.csv.specs.declared.writer.Writer.{Writer}

-- what a CSV writer has written, whether or not that is passed on yet
abbrev pub text_of : Writer (Vec ℕ) → List ℕ
text_of w = w.wtr.inner.items ++ w.wtr.buf

-- a CSV writer with the default settings stands at the start of a record
pub record IsReady (w : Writer (Vec ℕ)) : Type 0 where
  pub setup : writer_setup w ≡ default_writer
  pub fields : fields_written w ≡ 0
  pub wrote : has_written w ≡ false
