-- The position at which a search begins.
use Rattle.std.proofs.Common.{◌≡◌, [], sym, ap, ◌∙◌, arith, replicate}
use Rattle.pm_base.specs.Structures.{World, Structure}
use Rattle.pm_explore.specs.Closed.{IsStart}
use Rattle.pm_explore.specs.Lists.{slot}
use Rattle.pm_explore.specs.Positions.{Point, Shows}
use Rattle.pm_explore.specs.Starts.{AreFirst}
use Rattle.pm_explore.specs.declared.position.Position.{Position}
use Rattle.pm_explore.specs.declared.setting.Setting.{Setting}
use Rattle.pm_explore.proofs.Closing.{slot_is}
use Rattle.pm_explore.proofs.Leading.{all_at}

pub starts : {K S T : Type 0} (s : Structure K S T) (setting : Setting K S) (x : Position S T) → AreFirst s setting.key setting.window.items x.cells.words.items → x.cells.buffers.items ≡ replicate (s.processes setting.key) []
    → x.doing.items ≡ replicate (s.processes setting.key) s.first → x.begun.items ≡ replicate (s.processes setting.key) 0 → x.told.items ≡ [] → (point : Point S T s.Hidden) → IsStart s setting point → Shows setting.window.items x point
starts {K} {S} {T} s setting x first buffers doing begun told point start =
    let count = first.count in record {
      cells = record {
        fits = omega (arith, count);
        words = λ n w at.
            let low = at.low in
            let k = first.first (slot setting.window.items n) n w (slot_is setting.window.items n (omega (arith, low, count))) at in
            (start.new.memory.cached n k.0 ∙ sym k.1, start.new.memory.persisted n k.0 ∙ sym k.2);
        buffers = rw buffers (λ p b at. start.new.memory.buffer p ∙ sym (all_at (s.processes setting.key) [] p b at));
      };
      doing = rw doing (λ p d at. ap (λ (w : World S s.Hidden). w.situation p) start.new.is ∙ sym (all_at (s.processes setting.key) s.first p d at));
      begun = rw begun (λ p n at. start.begun p ∙ sym (all_at (s.processes setting.key) 0 p n at));
      told = rw told (λ p t. rw start.told (λ none. none, λ none. none));
    }
