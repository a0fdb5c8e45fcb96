-- A show of a quiescent world that is alone is settled.
use Rattle.std.proofs.Common.{ℕ, ◌≡◌, ◌<◌, ◌+◌, ◌==◌, List, [], ◌∷◌, ◌++◌, refl, ap, sym, ◌∙◌, subst, arith, length, inl, inr, nat_lt}
use Rattle.std.proofs.lemmas.Bool.{false≢true, eq-eqb}
use Rattle.ds_layout.specs.declared.place.Place.{Place}
use Rattle.ds_layout.specs.declared.place.Place.TheVariants.{Version, Mark, Announce}
use Rattle.ds_layout.specs.Places.{cells_of}
use Rattle.ds_state.specs.Works.{PlainShowCall}
use Rattle.ds_state.specs.World.{PlainWorld}
use Rattle.ds_layout.specs.Mark.{IsClean}
use Rattle.ds_state.specs.KnownShow.{noted, reads_clean, reads_pending, IsPendingWord, moment_of, IsStill}
use Rattle.ds_state.specs.ShowStages.{IsStage}
use Rattle.ds_show.specs.ShowSteps.{fresh, next_at}
use Rattle.ds_show.specs.ShowRuns.{Call}
use Rattle.ds_show.specs.ShowSolo.{SoloCall}
use Rattle.ds_state.specs.declared.show.ShowEnd.{ShowEnd}
use Rattle.ds_state.specs.declared.show.ShowEnd.TheVariants.{Settled}
use Rattle.ds_state.specs.declared.show.ShowStage.{ShowStage}
use Rattle.ds_state.specs.declared.show.ShowStage.TheVariants.{LoadAnnounce, LoadMark, LoadValue, LoadKind, AgainMark, AgainAnnounce, Answer}
use Rattle.ds_state.specs.declared.situation.Situation.TheVariants.{Showing}
use Rattle.ds_state.proofs.CleanRead.{clean_reads}
use Rattle.ds_state.proofs.QuietShown.{quiet_still}
use Rattle.ds_show.proofs.ShowSteps.{Sees, on, branches, each_push}
use Rattle.ds_show.proofs.ShowKeeps.{sees_word, touches_nothing}
use Rattle.ds_show.proofs.ShowRuns.{told, goes_to, showing_inj}

-- every word that it noted is still there, so it sees each again
abbrev IsNotOff : ShowStage → Type 0
IsNotOff (Answer end) = end ≡ Settled
IsNotOff _ = Unit {0}

record IsAlone (w : PlainWorld) (e : PlainShowCall) : Type 0 where
  still : IsStill w.layout (moment_of w)
  marks : (c : ℕ) → c < length e.marks → w.memory.cached (Mark c) ≡ noted e.marks c
  announcements : (q : ℕ) → q < length e.announcements → w.memory.cached (Announce q) ≡ noted e.announcements q
  good : IsNotOff e.stage

not_off : (s : ShowStage) → (s' : ShowStage) → s ≡ s' → IsNotOff s → IsNotOff s'
not_off s s' is h = subst (λ (x : ShowStage). IsNotOff x) is h

module _ (w : PlainWorld) (e : PlainShowCall) (cells : cells_of w.layout ≡ e.cells) (processes : w.layout.processes ≡ e.processes) where
  alone_next : (s : ShowStage) (word : ℕ) → Sees w s word → IsStage e s → IsAlone w (on e s) → IsAlone w (next_at (on e s) s word)
  alone_next (LoadAnnounce i) word sees is h =
      let l = is.1.announcements in
      let k = is.0 in
      let more : (q : ℕ) → q < length (e.announcements ++ word ∷ []) → w.memory.cached (Announce q) ≡ noted (e.announcements ++ word ∷ []) q =
      each_push (λ q v. w.memory.cached (Announce q) ≡ v) e.announcements word h.announcements (sym (sees ∙ ap (λ (j : ℕ). w.memory.cached (Announce j)) (sym l))) in
      branches (λ x. IsAlone w x) (reads_pending word) _ _
      (λ b. absurd (h.still.settled i (omega arith) (subst (λ (x : ℕ). IsPendingWord x) sees b)))
      (λ b. branches (λ x. IsAlone w x) (nat_lt (i + 1) e.processes) _ _
      (λ t. record { still = h.still; marks = h.marks; announcements = more; good = tt }) (λ f. record { still = h.still; marks = h.marks; announcements = more; good = tt }))
  alone_next (LoadMark i) word sees is h =
      let l = is.1.marks in
      let k = is.0 in
      let more : (c : ℕ) → c < length (e.marks ++ word ∷ []) → w.memory.cached (Mark c) ≡ noted (e.marks ++ word ∷ []) c =
      each_push (λ c v. w.memory.cached (Mark c) ≡ v) e.marks word h.marks (sym (sees ∙ ap (λ (j : ℕ). w.memory.cached (Mark j)) (sym l))) in
      branches (λ x. IsAlone w x) (reads_clean e.processes word) _ _
      (λ b. branches (λ x. IsAlone w x) (nat_lt (i + 1) e.cells) _ _
      (λ t. record { still = h.still; marks = more; announcements = h.announcements; good = tt }) (λ f. record { still = h.still; marks = more; announcements = h.announcements; good = tt }))
      (λ b. absurd (false≢true (sym b ∙ clean_reads e.processes word (subst (λ (x : ℕ). IsClean x) (sym sees) (h.still.clean i (omega arith))))))
  alone_next (LoadValue i) word sees is h = record { still = h.still; marks = h.marks; announcements = h.announcements; good = tt }
  alone_next (LoadKind i) word sees is h = branches (λ x. IsAlone w x) (nat_lt (i + 1) e.cells) _ _
      (λ t. record { still = h.still; marks = h.marks; announcements = h.announcements; good = tt }) (λ f. record { still = h.still; marks = h.marks; announcements = h.announcements; good = tt })
  alone_next (AgainMark i) word sees is h =
      let l = is.1.marks in
      let k = is.0 in
      let same : word ≡ noted e.marks i = sees ∙ h.marks i (omega arith) in
      branches (λ x. IsAlone w x) (word == noted e.marks i) _ _
      (λ b. branches (λ x. IsAlone w x) (nat_lt (i + 1) e.cells) _ _
      (λ t. record { still = h.still; marks = h.marks; announcements = h.announcements; good = tt }) (λ f. record { still = h.still; marks = h.marks; announcements = h.announcements; good = tt }))
      (λ b. absurd (false≢true (sym b ∙ eq-eqb word (noted e.marks i) same)))
  alone_next (AgainAnnounce i) word sees is h =
      let l = is.1.announcements in
      let k = is.0 in
      let same : word ≡ noted e.announcements i = sees ∙ h.announcements i (omega arith) in
      branches (λ x. IsAlone w x) (word == noted e.announcements i) _ _
      (λ b. branches (λ x. IsAlone w x) (nat_lt (i + 1) e.processes) _ _
      (λ t. record { still = h.still; marks = h.marks; announcements = h.announcements; good = tt }) (λ f. record { still = h.still; marks = h.marks; announcements = h.announcements; good = refl }))
      (λ b. absurd (false≢true (sym b ∙ eq-eqb word (noted e.announcements i) same)))
  alone_next (Answer end) word sees is h = h

-- where processes see the same
alone_same : (old new : PlainWorld) (e : PlainShowCall) → new.layout ≡ old.layout → ((r : Place) → new.memory.cached r ≡ old.memory.cached r) → IsAlone old e → IsAlone new e
alone_same old new e layout cached h = record {
  still = record {
    clean = λ c l. subst (λ (x : ℕ). IsClean x) (sym (cached (Mark c))) (h.still.clean c (rw (sym layout) l));
    settled = λ q l is. h.still.settled q (rw (sym layout) l) (subst (λ (x : ℕ). IsPendingWord x) (cached (Announce q)) is);
  };
  marks = λ c l. cached (Mark c) ∙ h.marks c l;
  announcements = λ q l. cached (Announce q) ∙ h.announcements q l;
  good = h.good;
}

-- ---- the call

module _ (p : ℕ) where
  is_call : (now : PlainWorld) (past : List PlainWorld) → SoloCall p now past → Call p now past
  is_call now [] solo = solo.0
  is_call now (w ∷ past) (sound, inl own, solo) = (sound, inl own, is_call w past solo)
  is_call now (w ∷ past) (sound, inr same, solo) = (sound, inr same.rely, is_call w past solo)

  alone : (now : PlainWorld) (past : List PlainWorld) → SoloCall p now past → (e : PlainShowCall) → now.situation p ≡ Showing e → IsAlone now e
  alone now [] (b, quiet) e is =
      let first : IsAlone b.before (fresh p b.next (cells_of b.before.layout) b.before.layout.processes) = record {
        still = quiet_still b.before b.sound quiet;
        marks = λ c l. absurd (omega arith);
        announcements = λ q l. absurd (omega arith);
        good = tt;
      } in
      subst (λ (x : PlainShowCall). IsAlone now x) (showing_inj (now.situation p) _ e b.begins.situation is)
      (alone_same b.before now (fresh p b.next (cells_of b.before.layout) b.before.layout.processes) b.begins.layout b.begins.memory.cached first)
  alone now (w ∷ past) (sound, inr same, solo) e is = alone_same w now e (same.rely.grows Version).layout same.cached (alone w past solo e (sym same.rely.situation ∙ is))
  alone now (w ∷ past) (sound, inl own, solo) e is =
      let f : PlainShowCall = own.show in
      let s : ShowStage = f.stage in
      let before : IsAlone w f = alone w past solo f own.was in
      let t = told p w past (is_call w past solo) f own.was in
      let next : IsAlone w (next_at f s own.word) = alone_next w f t.fits.cells t.fits.processes s own.word (sees_word s f.process own.word w now own.steps.memory) t.fits.is.stage before in
      subst (λ (x : PlainShowCall). IsAlone now x) (goes_to f e s own.word (sym own.steps.situation ∙ ap now.situation own.mine ∙ is))
      (alone_same w now (next_at f s own.word) own.steps.layout (touches_nothing s f.process own.word w now own.steps.memory).cached next)

  -- so it is settled
  pub solo_settles : (now : PlainWorld) (past : List PlainWorld) → SoloCall p now past → (e : PlainShowCall) (end : ShowEnd) → now.situation p ≡ Showing e → e.stage ≡ Answer end → end ≡ Settled
  solo_settles now past solo e end is at = not_off e.stage (Answer end) at (alone now past solo e is).good
