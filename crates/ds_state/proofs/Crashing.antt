-- What a crash leaves.
use Rattle.std.proofs.Common.{ℕ, ◌≡◌, ◌⊎◌, List, [], ◌∷◌, ◌++◌, ap, sym, ◌∙◌, subst, arith, inl, inr, length}
use Rattle.std.specs.Prelude.{Contains}
use Rattle.ds_words.specs.declared.access.BufferEntry.{BufferEntry}
use Rattle.ds_formula.specs.Plain.{PlainContent}
use Rattle.ds_layout.specs.declared.place.Place.{Place}
use Rattle.ds_layout.specs.declared.place.Place.TheVariants.{Head, Mark, Value, Kind, Announce}
use Rattle.ds_state.specs.Edits.{text_parts}
use Rattle.ds_state.specs.World.{PlainEdit, edit_of, PlainWorld, of_cell, head_after_all, IsHeadBy}
use Rattle.ds_state.specs.Owing.{entry, Owes, CellOwes, IsPending, EditOwes, Excuses, IsExcused}
use Rattle.ds_state.specs.Standing.{cached_side, persisted_side, HasContent, AllStand}
use Rattle.ds_state.specs.Known.{pending, IsAnnounced, known_at}
use Rattle.ds_state.specs.CallsFit.{CallFits}
use Rattle.ds_state.specs.Sound.{IsSound}
use Rattle.ds_state.specs.Crashes.{CrashesTo}
use Rattle.ds_state.specs.declared.stage.Stage.{Stage}
use Rattle.ds_state.specs.declared.stage.Stage.TheVariants as edits
use Rattle.ds_state.specs.declared.situation.Situation.{Situation}
use Rattle.ds_state.specs.declared.situation.Situation.TheVariants.{Idle, Stopped, Editing, Working, Recovering, Showing, Migrating}
use Rattle.ds_state.proofs.Heads.{Small, small_counted, small_of_cell, head_grows, by_cases}
use Rattle.ds_state.proofs.Bearing.{stands_lasts}

-- what a crash does to the list, cell by cell: it keeps the edits of the persisted head, and their order
pub record Leaves (old new : PlainWorld) : Type 0 where
  pub cells : (c : ℕ) → (of_cell c new.counted ≡ of_cell c old.counted) ⊎ ((last : PlainEdit) × (of_cell c old.counted ≡ of_cell c new.counted ++ last ∷ []))
  pub heads : (c : ℕ) → old.memory.persisted (Head c) ≡ head_after_all (of_cell c new.counted)

-- an edit that owes its cell is announced as pending on both sides
pub pends_while : (w : PlainWorld) (p : ℕ) (s : Situation) (c x : ℕ) → CallFits w p s → Excuses w p s c x → IsPending w p c
pends_while w p (Idle next) c x fits o = absurd o
pends_while w p Stopped c x fits o = o
pends_while w p (Editing e) c x fits o = both (announced e.stage o.1 fits.knows.announced)
  where
    announced : (s : Stage) → EditOwes w.memory p c s x → IsAnnounced w (edit_of e) (known_at (text_parts e.text) (length e.refs) s).before (known_at (text_parts e.text) (length e.refs) s).now → IsAnnounced w (edit_of e) pending pending
    announced (edits.FlushOwn own) k h = h
    announced (edits.BackOwn own) k h = h
    announced (edits.OrMark own) k h = h
    announced (edits.FlushMark own) k h = h
    announced (edits.BackMark own) k h = h
    announced _ k h = absurd k

    both : IsAnnounced w (edit_of e) pending pending → IsPending w p c
    both a =
        let mine : e.process ≡ p = fits.mine in
        record {
          issue = record { edit = edit_of e; since = fits.since };
          issued = fits.open_edits;
          cell = o.0;
          cached = ap (λ (q : ℕ). w.memory.cached (Announce q)) (sym mine) ∙ a.cached;
          persisted = elim a.persisted [
            | inl b ↦ ap (λ (q : ℕ). w.memory.persisted (Announce q)) (sym mine) ∙ b
            | inr n ↦ ap (λ (q : ℕ). w.memory.persisted (Announce q)) (sym mine) ∙ n
          ];
        }
pends_while w p (Working e) c x fits o = absurd o
pends_while w p (Recovering e) c x fits o = o.0
pends_while w p (Showing e) c x fits o = absurd o
pends_while w p (Migrating e) c x fits o = o

module _ (old new : PlainWorld) (sound : IsSound old) (crash : CrashesTo old new) (leaves : Leaves old new) where
  pends : (q c : ℕ) → IsPending old q c → IsPending new q c
  pends q c k = record {
    issue = k.issue;
    issued = crash.open_edits q ∙ k.issued;
    cell = k.cell;
    cached = crash.memory.cached (Announce q) ∙ k.persisted;
    persisted = crash.memory.persisted (Announce q) ∙ k.persisted;
  }

  excused : (c x : ℕ) → IsExcused old c x → IsExcused new c x
  excused c x o = record {
    process = o.process;
    inside = rw crash.layout o.inside;
    still = subst (λ (s : Situation). Excuses new o.process s c x) (sym (crash.situation o.process o.inside)) (pends o.process c (pends_while old o.process (old.situation o.process) c x (sound.calls o.process o.inside) o.still));
  }

  owing : (r c x : ℕ) → CellOwes old r c x → CellOwes new r c x
  owing r c x o =
      let a = crash.memory.cached (Mark r) in
      let b = crash.memory.persisted (Mark r) in
      let by = o.held.by in
      let same = o.held.same in
      record {
        holder = o.holder;
        held = record { by = omega arith; same = omega arith };
        still = subst (λ (s : Situation). Owes new.memory o.holder s r c x) (sym (crash.situation o.holder ((sound.words (Mark r)).holder o.holder o.held.by).0)) tt;
      }

  -- the persisted head is of an edit that stays
  kept : (c : ℕ) (by : PlainEdit) → IsHeadBy (of_cell c old.counted) (old.memory.persisted (Head c)) by → IsHeadBy (of_cell c new.counted) (old.memory.persisted (Head c)) by
  kept c by h = elim (leaves.cells c) [
    | inl same ↦ subst (λ (es : List PlainEdit). IsHeadBy es (old.memory.persisted (Head c)) by) (sym same) h
    | inr lost ↦ (
        let es : List PlainEdit = of_cell c new.counted in
        let small : Small (es ++ lost.0 ∷ []) = subst (λ (xs : List PlainEdit). Small xs) lost.1 (small_of_cell c old.counted (small_counted old sound.of_sheet)) in
        let grows = head_grows es lost.0 [] small in
        let head = leaves.heads c in
        elim (by_cases es lost.0 (old.memory.persisted (Head c)) by (subst (λ (xs : List PlainEdit). IsHeadBy xs (old.memory.persisted (Head c)) by) lost.1 h)) [
          | inl newest ↦ absurd (omega arith)
          | inr older ↦ older
        ])
  ]

  text : (c : ℕ) (content : PlainContent) → HasContent old c (old.memory.persisted (Head c)) content → HasContent new c (old.memory.persisted (Head c)) content
  text c content (inl none) = inl none
  text c content (inr h) = inr (record { by = h.by; gave = kept c h.by h.gave; reads = rw crash.layout h.reads })

  nothing_buffered : (q : ℕ) (e : BufferEntry Place) → Contains (new.memory.buffer q) e → ⊥
  nothing_buffered q e h = none (subst (λ (xs : List (BufferEntry Place)). Contains xs e) (crash.memory.buffer q) h)
    where
      none : Contains [] e → ⊥
      none (k, l, is) = omega arith

  -- a clean mark that a crash leaves stands, on both sides
  pub crash_stands : AllStand new
  crash_stands = record {
    on_cached = λ c clean. stands_lasts old new (persisted_side old.memory) (cached_side new.memory) c (new.memory.cached (Mark c)) sound crash.layout (text c)
        (crash.memory.cached (Value c)) (crash.memory.cached (Kind c)) (inl (crash.memory.cached (Head c))) (excused c _) (λ r. inl (crash.memory.cached (Value r), crash.memory.cached (Kind r))) (λ r bit o. owing r c _ o)
        (sound.stand.on_persisted c _ (clean) (inl (crash.memory.cached (Mark c))));
    on_persisted = λ c x clean d. elim d [
      | inr b ↦ absurd (nothing_buffered b.by (entry (Mark c) x) b.there)
      | inl is ↦ stands_lasts old new (persisted_side old.memory) (persisted_side new.memory) c x sound crash.layout (text c)
          (crash.memory.persisted (Value c)) (crash.memory.persisted (Kind c)) (inl (crash.memory.persisted (Head c))) (excused c x) (λ r. inl (crash.memory.persisted (Value r), crash.memory.persisted (Kind r))) (λ r bit o. owing r c x o)
          (sound.stand.on_persisted c x clean (inl (is ∙ crash.memory.persisted (Mark c))))
    ];
  }
