-- What a recovery's begin and steps leave of what the words say of closed edits.
use Rattle.std.proofs.Common.{ℕ, ◌≡◌, ◌≢◌, ◌/◌, ◌⊎◌, refl, ap, sym, ◌∙◌, subst, inl, inr, Bool, Some, None}
use Rattle.ds_words.specs.Memory.{Memory}
use Rattle.ds_words.specs.declared.access.Access.{Access}
use Rattle.ds_words.specs.declared.access.Access.TheVariants as acts
use Rattle.ds_layout.specs.declared.place.Place.{Place}
use Rattle.ds_layout.specs.declared.place.Place.TheVariants as place
use Rattle.ds_layout.specs.declared.place.Place.TheVariants.{Header, Announce}
use Rattle.ds_layout.specs.declared.layout.Layout.{Layout}
use Rattle.ds_layout.specs.SheetMemory.{PerformsAt}
use Rattle.ds_state.specs.World.{PlainWorld}
use Rattle.ds_state.specs.Works.{PlainRecoverCall}
use Rattle.ds_state.specs.Value.{WorldValue, world_of}
use Rattle.ds_state.specs.CallsFit.{CallFits, RecoveryFits}
use Rattle.ds_state.specs.KnownRecovery.{recovery_held, ResolvedFits, resolved_at}
use Rattle.ds_state.specs.declared.situation.Situation.{Situation}
use Rattle.ds_state.specs.Telling.{spread_access}
use Rattle.ds_state.specs.declared.spread.Spread.{Spread}
use Rattle.ds_state.specs.declared.spread.Spread.TheVariants as spreads
use Rattle.ds_state.specs.declared.recovery.RecoverStage.{RecoverStage}
use Rattle.ds_state.specs.declared.recovery.RecoverStage.TheVariants as stages
use Rattle.ds_state.specs.declared.turn.Turn.TheVariants as effects
use Rattle.ds_recover.specs.RecoverySteps as steps
use Rattle.ds_recover.specs.RecoverySteps.{number_of, cell_from}
use Rattle.ds_core.specs.RecoveryEvents.{RecoveryStepsBy, RecoveryBegins}
use Rattle.ds_core.specs.Moments.{Ledger}
use Rattle.ds_core.specs.declared.reply.Reply.{Reply}
use Rattle.ds_core.proofs.AtRecovery.{recovery_pending}
use Rattle.ds_core.proofs.Headers.{SidesStay, Spares, sides_same, sides_performed, recovery_first, spread_spares}
use Rattle.ds_core.proofs.Ledgers.{IsOf, doubts}
use Rattle.ds_core.proofs.Turns.{recovery_turn, recovery_begins_turn}
use Rattle.ds_core.proofs.Told.{Tells, told_on, tells_turn}
use Rattle.ds_core.proofs.Telling.{announces_now}

-- ---- its accesses

spares : (p n : ℕ) (e : PlainRecoverCall) (s : RecoverStage) → Spares p n (steps.access_at e s)
spares p n e (stages.Telling cell spread) = spread_spares p n cell spread
spares p n e _ = tt

pub recovery_sides : (p n : ℕ) (old new : PlainWorld) (e : PlainRecoverCall) (word : ℕ) → RecoveryFits old e.process e → PerformsAt (steps.access_at e e.stage) e.process old.memory new.memory word → SidesStay old.memory new.memory (Header p n)
recovery_sides p n old new e word fits performs = sides_performed p n e.process (steps.access_at e e.stage) old.memory new.memory word (spares p n e e.stage) (recovery_first p n e.process old e.announcement e.cell (recovery_held e.cell e.stage) fits.buffer) performs

-- no access but one changes a cached side of a header or an announcement
abbrev IsPlain : Access Place → Type 0
IsPlain (acts.Store r value) = ⊥
IsPlain (acts.Or (place.Mark c) bits) = Unit {0}
IsPlain (acts.Or r bits) = ⊥
IsPlain (acts.SwapIf (place.Mark c) expected value) = Unit {0}
IsPlain (acts.SwapIf r expected value) = ⊥
IsPlain access = Unit {0}

cached_stays : (q : ℕ) (access : Access Place) (old new : Memory Place) (word : ℕ) (r : Place) → IsPlain access → ((c : ℕ) → r ≢ place.Mark c) → PerformsAt access q old new word → new.cached r ≡ old.cached r
cached_stays q acts.Nothing old new word r plain not h = h.1.cached r
cached_stays q (acts.Load s) old new word r plain not h = h.1.cached r
cached_stays q (acts.Store s value) old new word r plain not h = absurd plain
cached_stays q (acts.Or (place.Mark c) bits) old new word r plain not h = h.1.elsewhere r (not c)
cached_stays q (acts.Or _ bits) old new word r plain not h = absurd plain
cached_stays q (acts.SwapIf (place.Mark c) expected value) old new word r plain not h = elim h.1 [ inl won ↦ won.1.elsewhere r (not c) | inr lost ↦ lost.1.cached r ]
cached_stays q (acts.SwapIf _ expected value) old new word r plain not h = absurd plain
cached_stays q (acts.Flush s) old new word r plain not h = h.1.cached r
cached_stays q acts.Back old new word r plain not h = h.1.2.cached r

spread_plain : (cell : ℕ) (s : Spread) → IsPlain (spread_access cell s)
spread_plain cell (spreads.LoadRow part) = tt
spread_plain cell (spreads.OrTold d) = tt
spread_plain cell (spreads.FlushTold d) = tt
spread_plain cell (spreads.BackTold d) = tt

-- the one that stores is that of an open edit
abbrev IsStore : RecoverStage → Type 0 → Type 0
IsStore (stages.StoreOutcome how) P = P
IsStore _ P = Unit {0}

plain_or_store : (e : PlainRecoverCall) (s : RecoverStage) → IsPlain (steps.access_at e s) ⊎ ((how : Bool) × (s ≡ stages.StoreOutcome how))
plain_or_store e (stages.StoreOutcome how) = inr (how, refl)
plain_or_store e (stages.Telling cell spread) = inl (spread_plain cell spread)
plain_or_store e _ = inl tt

-- ---- its begin

-- the begin of a recovery leaves what the words say of closed edits
pub tells_recovery_begun : (layout : Layout) (l : Ledger) (v v' : WorldValue) (p : ℕ) → IsOf layout l v → Tells l v → RecoveryBegins v p v' → Tells l v'
tells_recovery_begun layout l v v' p h t b =
    let g = b.begun.begins in
    tells_turn p l l v v' t (recovery_begins_turn v v' p h.good.sound b) (record {
      layout = g.layout;
      told = λ c is. (let k = t.told p c is in told_on l.counted l.counted (world_of v) (world_of v') p c k g.layout (sides_same (world_of v).memory (world_of v').memory (Header p c.it.edit.number) g.memory) k.counted);
      opens = λ issue is. t.opens p issue (sym (g.open_edits p) ∙ is);
      announced = λ doubt none. ap (λ x. x / 4) (g.memory.cached (Announce p)) ∙ announces_now (world_of v) h.good.sound p b.there (sym (g.open_edits p) ∙ none) (l.told p) (λ n is. h.numbers p n is) (λ d. t.announced p b.there d (sym (g.open_edits p) ∙ none));
    }) (λ q ne. refl) (λ q c ne is. (t.told q c is).counted)

-- ---- a step that goes on

module _ (layout : Layout) (l : Ledger) (v v' : WorldValue) (p : ℕ) (reply : Reply) (h : IsOf layout l v) (t : Tells l v) (s : RecoveryStepsBy v p reply v') where
  e : PlainRecoverCall
  e = s.steps.recovery

  pub recovery_fits : RecoveryFits (world_of v) p s.steps.recovery
  recovery_fits = subst (λ (x : Situation). CallFits (world_of v) p x) s.steps.at (h.good.sound.calls p s.steps.there)

  fits_own : RecoveryFits (world_of v) s.steps.recovery.process s.steps.recovery
  fits_own = subst (λ q. RecoveryFits (world_of v) q s.steps.recovery) (sym s.steps.mine) recovery_fits

  pub recovery_header : (n : ℕ) → SidesStay (world_of v).memory (world_of v').memory (Header p n)
  recovery_header n = recovery_sides p n (world_of v) (world_of v') s.steps.recovery s.steps.word fits_own s.steps.steps.memory

  module _ (goes : s.what ≡ effects.GoesOn) where
    on : steps.effect_at s.steps.recovery s.steps.recovery.stage ≡ effects.GoesOn
    on = sym s.steps.is ∙ goes

    pends : (q : ℕ) → (world_of v').open_edits q ≡ (world_of v).open_edits q
    pends = recovery_pending v v' p reply s goes

    -- where no edit is open, nothing is announced
    quiet_word : (world_of v).open_edits p ≡ None → (world_of v').memory.cached (Announce p) ≡ (world_of v).memory.cached (Announce p)
    quiet_word none = elim (plain_or_store s.steps.recovery s.steps.recovery.stage) [
      | inl plain ↦ cached_stays s.steps.recovery.process (steps.access_at s.steps.recovery s.steps.recovery.stage) (world_of v).memory (world_of v').memory s.steps.word (Announce p) plain (λ c is. cc) s.steps.steps.memory
      | inr (how, at) ↦ (
          let r = subst (λ (x : RecoverStage). ResolvedFits (world_of v) s.steps.recovery.process s.steps.recovery.announcement s.steps.recovery.cell (resolved_at x)) at recovery_fits.resolved in
          let open_there : (world_of v).open_edits p ≡ Some r.issue = ap (λ x. (world_of v).open_edits x) (sym s.steps.mine) ∙ r.it.issued in
          absurd (let bad : None ≡ Some r.issue = sym none ∙ open_there in cc))
    ]

    pub tells_recovery_on : Tells l v'
    tells_recovery_on = tells_turn p l l v v' t (recovery_turn v v' p reply h.good.sound s) (record {
      layout = s.steps.steps.layout;
      told = λ c is. (let k = t.told p c is in told_on l.counted l.counted (world_of v) (world_of v') p c k s.steps.steps.layout (recovery_header c.it.edit.number) k.counted);
      opens = λ issue is. t.opens p issue (sym (pends p) ∙ is);
      announced = λ doubt none. (let before = sym (pends p) ∙ none in ap (λ x. x / 4) (quiet_word before) ∙ t.announced p s.steps.there (ap doubts s.steps.at) before);
    }) (λ q ne. refl) (λ q c ne is. (t.told q c is).counted)
