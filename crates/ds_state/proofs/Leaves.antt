-- What a process's doing leaves, from what it keeps; and one doing after another.
use Rattle.std.proofs.Common.{ℕ, ◌≡◌, ◌<◌, ◌⊎◌, List, ◌∙◌, subst, arith, suc, inl, inr}
use Rattle.std.specs.Prelude.{Contains}
use Rattle.ds_layout.specs.declared.place.Place.TheVariants.{Version}
use Rattle.ds_state.specs.Works.{PlainShowCall}
use Rattle.ds_state.specs.World.{PlainEdit, PlainWorld}
use Rattle.ds_state.specs.Spent.{IsSpent}
use Rattle.ds_state.specs.Rely.{Keeps}
use Rattle.ds_state.specs.Crashes.{StopsIn}
use Rattle.ds_state.specs.Sound.{IsSound}
use Rattle.ds_state.specs.Middles.{HaveMiddles}
use Rattle.ds_state.specs.Leaves.{Leaves}
use Rattle.ds_state.specs.declared.situation.Situation.TheVariants.{Showing}
use Rattle.ds_state.proofs.Middles.{lasts_kept, lasts_on, middles_kept, middles_stopped}
use Rattle.ds_state.proofs.Lasting.{at_most}
use Rattle.ds_state.proofs.Spent.{spent_grown}
use Rattle.ds_state.proofs.Stopping.{stop_keeps}

module _ (p : ℕ) (old new : PlainWorld) where
  -- it keeps the world, and something is known of the edits that were linearized
  pub leaves_of : Keeps p old new → ((d : PlainEdit) → Contains new.counted d → Contains old.counted d ⊎ ((d.process ≡ p) × ((n : ℕ) → IsSpent old p n → n < d.number)))
      → (HaveMiddles old → HaveMiddles new) → Leaves p old new
  leaves_of k came middles = record {
    sound = k.sound;
    lasts = lasts_kept p old new k;
    situations = λ q ne. (k.others q ne).situation;
    buffers = λ q ne. (k.others q ne).buffer;
    announced = λ q. ((k.others (suc p) (λ same. omega arith)).grows Version).announces_persisted q;
    came = came;
    middles = middles;
  }

  -- none was linearized
  pub leaves_same : Keeps p old new → new.counted ≡ old.counted → (HaveMiddles old → HaveMiddles new) → Leaves p old new
  leaves_same k same middles = leaves_of k (λ d here. inl (subst (λ (es : List PlainEdit). Contains es d) same here)) middles

  -- it is in no show then
  pub middles_left : Keeps p old new → ((e : PlainShowCall) → new.situation p ≡ Showing e → ⊥) → HaveMiddles old → HaveMiddles new
  middles_left k none h = (h.0, h.1, middles_kept h.0 h.1 old new h.2 p k none)

  pub stop_leaves : IsSound old → p < old.layout.processes → StopsIn p old new → Leaves p old new
  stop_leaves sound low stop = leaves_same (stop_keeps p old new sound low stop) stop.counted (λ h. (h.0, h.1, middles_stopped h.0 h.1 old new h.2 p sound low stop))

-- what two doings of a process leave, one after the other, is what one doing leaves
pub leaves_on : (p : ℕ) (old mid new : PlainWorld) → Leaves p old mid → Leaves p mid new → Leaves p old new
leaves_on p old mid new a b = record {
  sound = b.sound;
  lasts = lasts_on old mid new a.lasts b.lasts;
  situations = λ q ne. b.situations q ne ∙ a.situations q ne;
  buffers = λ q ne. b.buffers q ne ∙ a.buffers q ne;
  announced = λ q. at_most (a.announced q) (b.announced q);
  came = λ d here. elim (b.came d here) [
    | inl was ↦ a.came d was
    | inr new ↦ inr (new.0, λ n s. new.1 n (spent_grown old mid p n (a.announced p) s))
  ];
  middles = λ h. b.middles (a.middles h);
}
