use Rattle.std.proofs.Common.{Bor, List, ℕ, ◌∙◌, sym, refl, inl, inr, map, Some, ◌∷◌, []}
use Rattle.std.proofs.lemmas.List.{map-append}
use Rattle.csv.specs.Reading.{Reached, default_config, strip_bom}
use Rattle.csv.specs.Records.{fields_of}
use Rattle.csv.specs.declared.parser.State.TheVariants as state
use Rattle.csv.proofs.ReadFacts.{rows-more}
use Rattle.ds_grid.proofs.grid.records.Goals as goal

pub loop-row-init : goal.loop-row-init
unfolding Reached
loop-row-init c =
    let made = c.from_reader-reader.ensures in
    let plain = c.has_headers.ensures in
    let loose = c.flexible.ensures in
    let start = c.into_iter-row-iterator.ensures.into_iter_gives ∙ refl in
    let rdr = c.into_byte_records-row-items.ensures.rdr in
    let left = c.into_byte_records-row-items.ensures.left in
    rw (start, rdr, c.new-rows.ensures.items) (record {
      trims = rw (loose, plain) at made.trim ∙ c.new.ensures.trim;
      ready = inr (inr (rw (loose, plain) at made.has_headers, made.headers));
      left = left;
      config = rw (loose, plain) at made.config ∙ c.new.ensures.config;
      rest = strip_bom c.args.text.now;
      source = made.source;
      reached = (sym made.state, refl);
    })

pub loop-row-preserved : goal.loop-row-preserved
loop-row-preserved c =
    let h = c.loop-row.invariant in
    let step = (rw (c.in-Some.is, c.in-Ok.is) at ((c.next.ensures.steps h.left h.trims).0 h.ready)) in
    let more = rows-more (λ (s : Bor (List ℕ)). Some s.now) c.loop-row.row-iterator.rdr c.next.new.self.rdr (fields_of c.in-Ok.row) default_config state.StartRecord (strip_bom c.args.text.now) h.rest (map fields_of c.loop-row.rows.items) h.config h.source h.reached step.0 in
    record {
      trims = step.0.3 ∙ h.trims;
      ready = inl step.1;
      left = step.2;
      config = step.0.2 ∙ h.config;
      rest = more.0;
      source = more.1;
      reached = rw (c.in_ok-push.ensures.items, map-append fields_of c.loop-row.rows.items (c.in-Ok.row ∷ [])) more.2;
    }
