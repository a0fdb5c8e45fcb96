-- The numbers of a server as a text, in the format of Prometheus, version 0.0.4.
use Rattle.std.specs.Prelude.{ℕ, List, ◌++◌, codes}
use Rattle.std.specs.Fmt.{decimal}
use Rattle.ds_http.specs.declared.metrics.Metrics.{Metrics}
use Rattle.ds_http.specs.declared.metrics.MetricKind.{MetricKind}
use Rattle.ds_http.specs.declared.metrics.MetricKind.TheVariants as kinds

-- the line that says what a number is
abbrev pub help_line : List ℕ → List ℕ → List ℕ
help_line name about = codes "# HELP " ++ (name ++ (codes " " ++ (about ++ codes "\n")))

-- the line of its type: it only grows while the server runs, it goes up and down, or it is a sum and how many that is of
abbrev pub type_line : List ℕ → MetricKind → List ℕ
type_line name kinds.Counter = codes "# TYPE " ++ (name ++ codes " counter\n")
type_line name kinds.Gauge = codes "# TYPE " ++ (name ++ codes " gauge\n")
type_line name kinds.Summary = codes "# TYPE " ++ (name ++ codes " summary\n")

-- the line of its value
abbrev pub value_line : List ℕ → ℕ → List ℕ
value_line name value = name ++ (codes " " ++ (decimal value ++ codes "\n"))

-- the line of a time in seconds, by its microseconds
abbrev pub seconds_line : List ℕ → ℕ → List ℕ
seconds_line name microseconds = name ++ (codes " " ++ (decimal microseconds ++ codes "e-6\n"))

-- its three lines
abbrev pub metric_text : List ℕ → MetricKind → List ℕ → ℕ → List ℕ
metric_text name kind about value = help_line name about ++ type_line name kind ++ value_line name value

-- the calls that were made
abbrev pub calls_text : Metrics → List ℕ
calls_text m =
    metric_text (codes "dsheet_edits_done_total") kinds.Counter (codes "Edits that were answered done.") m.edits_done
    ++ metric_text (codes "dsheet_edits_overtaken_total") kinds.Counter (codes "Edits that were overtaken and never take effect.") m.edits_overtaken
    ++ metric_text (codes "dsheet_calls_refused_total") kinds.Counter (codes "Edits and reports that were refused.") m.calls_refused
    ++ metric_text (codes "dsheet_reports_total") kinds.Counter (codes "Reports that were answered, settled or not.") m.reports

-- the commits of edits: how long they took, and how many they were
abbrev pub commits_text : Metrics → List ℕ
commits_text m =
    help_line (codes "dsheet_commit_seconds") (codes "Commits of edits in the store.")
    ++ type_line (codes "dsheet_commit_seconds") kinds.Summary
    ++ seconds_line (codes "dsheet_commit_seconds_sum") m.commit_microseconds
    ++ value_line (codes "dsheet_commit_seconds_count") m.commits

-- all numbers
abbrev pub metrics_text : Metrics → List ℕ
metrics_text m =
    calls_text m
    ++ metric_text (codes "dsheet_sessions_joined_total") kinds.Counter (codes "Joins of a process, by sessions and for edits by requests.") m.sessions_joined
    ++ metric_text (codes "dsheet_sessions") kinds.Gauge (codes "Connections that are served now.") m.sessions
    ++ commits_text m
