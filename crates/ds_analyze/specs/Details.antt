-- How much a picture shows (our own rule).
use Rattle.std.specs.Prelude.{if◌then◌else◌}
use Rattle.ds_cli.specs.declared.tracing.Tracing.{Tracing}
use Rattle.ds_trace_picture.specs.declared.script.Detail.{Detail}
use Rattle.ds_trace_picture.specs.declared.script.Detail.TheVariants as details

-- the detail of the picture that `dsheet trace` is asked for
abbrev pub detail_of : Tracing → Detail
detail_of tracing = if tracing.brief then details.Brief else details.Steps
