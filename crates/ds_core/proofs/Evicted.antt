-- An eviction keeps a world good.
use Rattle.std.proofs.Common.{ℕ, ◌≡◌, ap, sym, ◌∙◌, arith, refl}
use Rattle.ds_words.specs.Memory.{EvictsAt}
use Rattle.ds_layout.specs.declared.layout.Layout.{Layout}
use Rattle.ds_layout.specs.declared.place.Place.{Place}
use Rattle.ds_layout.specs.SheetMemory.{SheetValue, memory}
use Rattle.ds_state.specs.Events.{Evicts}
use Rattle.ds_state.specs.Value.{WorldValue, world_of, IsReserved}
use Rattle.ds_state.proofs.Accesses.{evict_sound}
use Rattle.ds_state.proofs.Buffers.{buffered}

-- an eviction
pub evict_kept : (v : WorldValue) (sheet : SheetValue) (place : Place) (room : ℕ) → IsReserved v room → sheet.layout ≡ v.sheet.layout → EvictsAt place (memory v.sheet) (memory sheet)
    → IsReserved (record v { sheet = sheet }) room × Evicts place (world_of v) (world_of (record v { sheet = sheet }))
evict_kept v sheet place room k layout m =
    let e : Evicts place (world_of v) (world_of (record v { sheet = sheet })) = record { layout = layout; memory = m; situation = λ q. refl; counted = refl; open_edits = λ q. refl } in
    let same = ap (λ (l : Layout). l.processes) layout in (
      record {
        good = record {
          sound = (evict_sound place (world_of v) (world_of (record v { sheet = sheet })) k.good.sound (buffered (world_of v) k.good.sound) e).0;
          situations = k.good.situations ∙ sym same;
          open_edits = k.good.open_edits ∙ sym same;
          reports = rw layout k.good.reports;
          answered = k.good.answered;
          counts = k.good.counts;
        };
        reserved = (let r = k.reserved in omega arith);
      },
      e,
    )
