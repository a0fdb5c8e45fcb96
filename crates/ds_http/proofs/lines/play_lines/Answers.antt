use Rattle.std.proofs.Common.{◌++◌, ◌∙◌, Bor, ap, List, ℕ, Some, subst}
use Rattle.std.specs.Prelude.{Vec}
use Rattle.std.specs.Global.{Global}
use Rattle.std.specs.Io.KnownBytes.{Consumes}
use Rattle.ds_script_io.specs.Streams.{reader_of}
use Rattle.ds_http.proofs.lines.play_lines.Goals as goal

pub returns : goal.returns
returns g c =
    let o = c.session-end.ensures.outcome in record {
      read = o.0;
      rest = (reader_of c.session-end.new.reader).now;
      out = o.1;
      is = subst (λ (r : Bor (List ℕ)). Consumes (Some r.now) (Some (reader_of c.session-end.new.reader).now) o.0) c.new-reader.ensures.reader o.2;
      all = c.session-end.ensures.at_end;
      outcome = o.4;
      written = λ well. ap (λ (v : Vec ℕ Global). v.items) c.into_inner.ensures ∙ o.3 well ∙ ap (λ (v : Vec ℕ Global). v.items ++ o.1) c.new-writer.ensures.writer ∙ ap (λ (xs : List ℕ). xs ++ o.1) c.new.ensures.items;
    }
