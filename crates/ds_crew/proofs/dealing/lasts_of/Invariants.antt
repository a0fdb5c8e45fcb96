use Rattle.std.proofs.Common.{◌≡◌, ◌<◌, ℕ, map, length, []}
use Rattle.std.specs.Prelude.{slice_index_or}
use Rattle.ds_crew.specs.Kept.{report_of}
use Rattle.ds_crew.proofs.dealing.lasts_of.Given as goal

abbrev pub invariant-loop-process : goal.invariant-loop-process
invariant-loop-process l = record {
  count : length l.lasts.items ≡ l.process;
  each : (p : ℕ) → p < l.process → slice_index_or (map (λ last. last.items) l.lasts.items) p [] ≡ report_of l.world.reports p;
}
