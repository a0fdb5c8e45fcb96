use Rattle.std.proofs.Common.{◌≡◌, ◌++◌}
use Rattle.ds_script_io.specs.Streams.{has_ended, read_failed, reader_of}
use Rattle.ds_batch.specs.Scripts.{text_of}
use Rattle.ds_batch.proofs.run.run_read.Goals as goal

pub returns : goal.returns
returns g c some =
    let ran = c.run_answered.ensures some in
    let given : text_of c.args.script.now ≡ ran.0 ++ (reader_of c.run_answered.new.reader).now = cc in (
      ran.1,
      ran.2,
      ran.4,
      record {
        read = ran.0;
        left = (reader_of c.run_answered.new.reader).now;
        are = given;
        ended = has_ended c.run_answered.new.reader;
        failed = read_failed c.run_answered.new.reader;
        concludes = ran.5;
        in_form = ran.6;
      },
    )
