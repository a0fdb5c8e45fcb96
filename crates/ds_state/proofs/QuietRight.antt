-- Where every mark is clean and no edit is open, each cell shows what its content gives: clause 1 is enough for the headline.
use Rattle.std.proofs.Common.{ℕ, ◌≡◌, ap, sym, ◌∙◌, inl, inr, Some, None}
use Rattle.std.specs.Prelude.{Option}
use Rattle.ds_formula.specs.Cells.{IsInside, index_of}
use Rattle.ds_formula.specs.declared.cells.Cell.{Cell}
use Rattle.ds_formula.specs.Refs.{Refers}
use Rattle.ds_eval.specs.Local.{local}
use Rattle.ds_eval.proofs.Neighbours as neighbours
use Rattle.ds_layout.specs.Places.{cells_of}
use Rattle.ds_layout.specs.declared.place.Place.TheVariants.{Head, Kind}
use Rattle.ds_state.specs.World.{PlainIssue, edit_of, PlainWorld}
use Rattle.ds_state.specs.Owing.{Excuses}
use Rattle.ds_state.specs.Standing.{cached_side, entry_on, shown_entry, value_for}
use Rattle.ds_state.specs.CallsFit.{CallFits}
use Rattle.ds_state.specs.Sound.{IsSound}
use Rattle.ds_state.specs.Calm.{IsCalm, IsLocalAt}
use Rattle.ds_state.specs.declared.situation.Situation.{Situation}
use Rattle.ds_state.specs.declared.situation.Situation.TheVariants.{Idle, Stopped, Editing, Working, Recovering, Showing, Migrating}
use Rattle.ds_state.proofs.Frames.{clean_free}
use Rattle.ds_state.proofs.Shows.{local_back}

none_some : (o : Option PlainIssue) (i : PlainIssue) → o ≡ None → o ≡ Some i → ⊥
none_some o i a b = let e : None ≡ Some i = sym a ∙ b in cc

-- no process without an open edit owes its cell
no_excuse : (w : PlainWorld) (p : ℕ) (s : Situation) (c x : ℕ) → w.open_edits p ≡ None → CallFits w p s → Excuses w p s c x → ⊥
no_excuse w p (Idle next) c x none h o = o
no_excuse w p Stopped c x none h o = none_some (w.open_edits p) o.issue none o.issued
no_excuse w p (Editing e) c x none h o = none_some (w.open_edits p) (record { edit = edit_of e; since = h.since }) none h.open_edits
no_excuse w p (Working e) c x none h o = o
no_excuse w p (Recovering e) c x none h o = none_some (w.open_edits p) o.0.issue none o.0.issued
no_excuse w p (Showing e) c x none h o = o
no_excuse w p (Migrating e) c x none h o = none_some (w.open_edits p) o.issue none o.issued

-- in a sound, calm world each cell shows what its content gives of what the others show
pub quiet_right : (w : PlainWorld) → IsSound w → IsCalm w → (c : ℕ) → IsLocalAt w c
quiet_right w sound calm c = elim (sound.stand.on_cached c (calm.clean c)) [
  | inl o ↦ absurd (no_excuse w o.process (w.situation o.process) c _ (calm.answered o.process o.inside) (sound.calls o.process o.inside) o.still)
  | inr h ↦ (
      let near : (d : Cell) → Refers h.content d → IsInside w.layout.shape d → h.inputs d ≡ entry_on w.layout (cached_side w.memory) (index_of w.layout.shape d) =
      (λ d refers inside. elim (h.near d refers inside) [ inl is ↦ is | inr o ↦ absurd (clean_free _ o.holder (calm.clean (index_of w.layout.shape d)) o.held.by) ]) in
      record {
        content = h.content;
        has = h.has;
        is = ap (λ (v : ℕ). shown_entry (cells_of w.layout) v (w.memory.cached (Kind c))) h.on_value
            ∙ ap (λ (k : ℕ). shown_entry (cells_of w.layout) (value_for (local w.layout.shape h.content h.inputs)) k) h.on_kind
            ∙ local_back w (cached_side w.memory) c (w.memory.cached (Head c)) h.content h.inputs h.has near
            ∙ neighbours.local_on w.layout.shape h.content h.inputs (λ d. entry_on w.layout (cached_side w.memory) (index_of w.layout.shape d)) near;
      })
]
