-- What the answer of a show says is true of the worlds of its call.
use Rattle.std.proofs.Common.{ℕ, ◌≡◌, ◌≢◌, ◌<◌, ◌+◌, ◌==◌, List, [], ◌∷◌, ◌++◌, refl, ap, sym, ◌∙◌, subst, arith, length, inl, inr, nat_lt}
use Rattle.std.proofs.lemmas.Bool.{eqb-false}
use Rattle.std.proofs.lemmas.List.{append-nil}
use Rattle.std.proofs.lemmas.List.Elements.{All-nil}
use Rattle.ds_layout.proofs.OrBits.{IsSubset-same}
use Rattle.ds_layout.specs.declared.place.Place.{Place}
use Rattle.ds_layout.specs.declared.place.Place.TheVariants.{Version, Mark, Announce, Index, Done}
use Rattle.ds_state.specs.Works.{PlainShowCall}
use Rattle.ds_state.specs.World.{PlainEdit, PlainWorld}
use Rattle.ds_layout.specs.Mark.{IsClean}
use Rattle.ds_state.specs.KnownShow.{noted, reads_pending, reads_clean, IsPendingWord, Moment, moment_of, ShowFitsAt}
use Rattle.ds_state.specs.ShowStages.{IsStage}
use Rattle.ds_layout.specs.Places.{cells_of}
use Rattle.ds_show.specs.ShowSteps.{fresh, next_at, after}
use Rattle.ds_show.specs.ShowRuns.{Call, IsOf, AreInTurn, IsRestless, WasOff, IsTrueShow}
use Rattle.ds_state.specs.Rely.{Grows, Rely}
use Rattle.ds_state.specs.declared.show.ShowEnd.{ShowEnd}
use Rattle.ds_state.specs.declared.show.ShowEnd.TheVariants.{Settled, Unsettled}
use Rattle.ds_state.specs.declared.show.ShowStage.{ShowStage}
use Rattle.ds_state.specs.declared.show.ShowStage.TheVariants.{LoadAnnounce, LoadMark, LoadValue, LoadKind, AgainMark, AgainAnnounce, Answer}
use Rattle.ds_state.specs.declared.situation.Situation.{Situation}
use Rattle.ds_state.specs.declared.situation.Situation.TheVariants.{Showing}
use Rattle.ds_state.proofs.StableShow.{show_goes}
use Rattle.ds_show.proofs.ShowSteps.{Sees, moment_after, on, branches, each_push}
use Rattle.ds_state.proofs.CleanRead.{dirty_read}
use Rattle.ds_show.proofs.ShowKeeps.{sees_word, known_next, begin_known}
use Rattle.ds_show.proofs.ShowTruth.{IsSettled, settled_true}

-- a world of the call at which the place held the word
pub record HadIn (now : PlainWorld) (past : List PlainWorld) (place : Place) (word : ℕ) : Type 0 where
  at : PlainWorld
  of : IsOf at now past
  is : at.memory.cached place ≡ word

self : (now : PlainWorld) (past : List PlainWorld) → IsOf now now past
self now [] = refl
self now (w ∷ past) = inl refl

abbrev pub OffIn : PlainWorld → List PlainWorld → ShowStage → Type 0
OffIn now past (Answer Settled) = Unit {0}
OffIn now past (Answer (Unsettled place word)) = WasOff now past place word (IsRestless place word)
OffIn now past _ = Unit {0}

-- each noted word was there in the call, and so was the word that ended it
pub record Recalls (now : PlainWorld) (past : List PlainWorld) (e : PlainShowCall) : Type 0 where
  marks : (c : ℕ) → c < length e.marks → HadIn now past (Mark c) (noted e.marks c)
  announcements : (q : ℕ) → q < length e.announcements → HadIn now past (Announce q) (noted e.announcements q)
  off : OffIn now past e.stage

-- the moment is one of the call's worlds
pub record MomentIn (now : PlainWorld) (past : List PlainWorld) (m : Moment) : Type 0 where
  at : PlainWorld
  of : IsOf at now past
  is : m ≡ moment_of at

module _ (now w : PlainWorld) (past : List PlainWorld) where
  older : (place : Place) (word : ℕ) → HadIn w past place word → HadIn now (w ∷ past) place word
  older place word h = record { at = h.at; of = inr h.of; is = h.is }

  older_off : (place : Place) (word : ℕ) (Bad : Type 0) → WasOff w past place word Bad → WasOff now (w ∷ past) place word Bad
  older_off place word Bad h = record {
    moment = h.moment;
    of = inr h.of;
    held = h.held;
    why = elim h.why [ inl bad ↦ inl bad | inr e ↦ inr (e.0, inr e.1, e.2) ];
  }

  older_at : (s : ShowStage) → OffIn w past s → OffIn now (w ∷ past) s
  older_at (LoadAnnounce i) h = tt
  older_at (LoadMark i) h = tt
  older_at (LoadValue i) h = tt
  older_at (LoadKind i) h = tt
  older_at (AgainMark i) h = tt
  older_at (AgainAnnounce i) h = tt
  older_at (Answer Settled) h = tt
  older_at (Answer (Unsettled place word)) h = older_off place word (IsRestless place word) h

  older_all : (e : PlainShowCall) → Recalls w past e → Recalls now (w ∷ past) e
  older_all e h = record {
    marks = λ c l. older (Mark c) _ (h.marks c l);
    announcements = λ q l. older (Announce q) _ (h.announcements q l);
    off = older_at e.stage h.off;
  }

  older_moment : (m : Moment) → MomentIn w past m → MomentIn now (w ∷ past) m
  older_moment m h = record { at = h.at; of = inr h.of; is = h.is }

  -- the world before this one
  seen_now : (place : Place) (word : ℕ) → word ≡ w.memory.cached place → HadIn now (w ∷ past) place word
  seen_now place word is = record { at = w; of = inr (self w past); is = sym is }

  -- it is bad by itself
  off_by : (place : Place) (word : ℕ) (Bad : Type 0) → word ≡ w.memory.cached place → Bad → WasOff now (w ∷ past) place word Bad
  off_by place word Bad is bad = record { moment = w; of = inr (self w past); held = sym is; why = inl bad }

-- the earlier world is not this one, since the words differ
strictly : (w : PlainWorld) (past : List PlainWorld) (place : Place) (word : ℕ) → (h : HadIn w past place word) → w.memory.cached place ≢ word → AreInTurn h.at w w past
strictly w [] place word h ne = absurd (ne (ap (λ (v : PlainWorld). v.memory.cached place) (sym h.of) ∙ h.is))
strictly w (u ∷ past) place word h ne = elim h.of [
  | inl eq ↦ absurd (ne (ap (λ (v : PlainWorld). v.memory.cached place) (sym eq) ∙ h.is))
  | inr of ↦ inl (refl, of)
]

-- it moved
off_moved : (now w : PlainWorld) (past : List PlainWorld) (place : Place) (word other : ℕ) (Bad : Type 0) → word ≡ w.memory.cached place → HadIn w past place other → word ≢ other → WasOff now (w ∷ past) place word Bad
off_moved now w past place word other Bad is h ne = record {
  moment = w;
  of = inr (self w past);
  held = sym is;
  why = inr (h.at, inr (strictly w past place other h (λ same. ne (is ∙ same))), λ same. ne (sym same ∙ h.is));
}

-- ---- a step

abbrev with_words : PlainShowCall → List ℕ → List ℕ → List ℕ → List ℕ → ShowStage → PlainShowCall
with_words e qs ms vs ks s = record e { announcements = qs; marks = ms; values = vs; kinds = ks; stage = s }

module _ (now w : PlainWorld) (past : List PlainWorld) (e : PlainShowCall) where
  recall : (s : ShowStage) (word : ℕ) → Sees w s word → IsStage e s → Recalls w past (on e s) → Recalls now (w ∷ past) (next_at (on e s) s word)
  recall (LoadAnnounce i) word sees is h =
      let o : Recalls now (w ∷ past) (on e (LoadAnnounce i)) = older_all now w past (on e (LoadAnnounce i)) h in
      let l = is.1.announcements in
      let more : (q : ℕ) → q < length (e.announcements ++ word ∷ []) → HadIn now (w ∷ past) (Announce q) (noted (e.announcements ++ word ∷ []) q) =
      each_push (λ q v. HadIn now (w ∷ past) (Announce q) v) e.announcements word o.announcements (seen_now now w past (Announce (length e.announcements)) word (sees ∙ ap (λ (j : ℕ). w.memory.cached (Announce j)) (sym l))) in
      branches (λ x. Recalls now (w ∷ past) x) (reads_pending word) _ _
      (λ b. record { marks = o.marks; announcements = o.announcements; off = off_by now w past (Announce i) word (IsPendingWord word) sees b })
      (λ b. branches (λ x. Recalls now (w ∷ past) x) (nat_lt (i + 1) e.processes) _ _
      (λ t. record { marks = o.marks; announcements = more; off = tt }) (λ f. record { marks = o.marks; announcements = more; off = tt }))
  recall (LoadMark i) word sees is h =
      let o : Recalls now (w ∷ past) (on e (LoadMark i)) = older_all now w past (on e (LoadMark i)) h in
      let l = is.1.marks in
      let more : (c : ℕ) → c < length (e.marks ++ word ∷ []) → HadIn now (w ∷ past) (Mark c) (noted (e.marks ++ word ∷ []) c) =
      each_push (λ c v. HadIn now (w ∷ past) (Mark c) v) e.marks word o.marks (seen_now now w past (Mark (length e.marks)) word (sees ∙ ap (λ (j : ℕ). w.memory.cached (Mark j)) (sym l))) in
      branches (λ x. Recalls now (w ∷ past) x) (reads_clean e.processes word) _ _
      (λ b. branches (λ x. Recalls now (w ∷ past) x) (nat_lt (i + 1) e.cells) _ _
      (λ t. record { marks = more; announcements = o.announcements; off = tt }) (λ f. record { marks = more; announcements = o.announcements; off = tt }))
      (λ b. record { marks = o.marks; announcements = o.announcements; off = off_by now w past (Mark i) word (IsClean word → ⊥) sees (dirty_read e.processes word b) })
  recall (LoadValue i) word sees is h =
      let o : Recalls now (w ∷ past) (on e (LoadValue i)) = older_all now w past (on e (LoadValue i)) h in
      record { marks = o.marks; announcements = o.announcements; off = tt }
  recall (LoadKind i) word sees is h =
      let o : Recalls now (w ∷ past) (on e (LoadKind i)) = older_all now w past (on e (LoadKind i)) h in
      branches (λ x. Recalls now (w ∷ past) x) (nat_lt (i + 1) e.cells) _ _
      (λ t. record { marks = o.marks; announcements = o.announcements; off = tt }) (λ f. record { marks = o.marks; announcements = o.announcements; off = tt })
  recall (AgainMark i) word sees is h =
      let o : Recalls now (w ∷ past) (on e (AgainMark i)) = older_all now w past (on e (AgainMark i)) h in
      let l = is.1.marks in
      let k = is.0 in
      branches (λ x. Recalls now (w ∷ past) x) (word == noted e.marks i) _ _
      (λ b. branches (λ x. Recalls now (w ∷ past) x) (nat_lt (i + 1) e.cells) _ _
      (λ t. record { marks = o.marks; announcements = o.announcements; off = tt }) (λ f. record { marks = o.marks; announcements = o.announcements; off = tt }))
      (λ b. record { marks = o.marks; announcements = o.announcements; off = off_moved now w past (Mark i) word (noted e.marks i) (IsClean word → ⊥) sees (h.marks i (omega arith)) (eqb-false word (noted e.marks i) b) })
  recall (AgainAnnounce i) word sees is h =
      let o : Recalls now (w ∷ past) (on e (AgainAnnounce i)) = older_all now w past (on e (AgainAnnounce i)) h in
      let l = is.1.announcements in
      let k = is.0 in
      branches (λ x. Recalls now (w ∷ past) x) (word == noted e.announcements i) _ _
      (λ b. branches (λ x. Recalls now (w ∷ past) x) (nat_lt (i + 1) e.processes) _ _
      (λ t. record { marks = o.marks; announcements = o.announcements; off = tt }) (λ f. record { marks = o.marks; announcements = o.announcements; off = tt }))
      (λ b. record { marks = o.marks; announcements = o.announcements; off = off_moved now w past (Announce i) word (noted e.announcements i) (IsPendingWord word) sees (h.announcements i (omega arith)) (eqb-false word (noted e.announcements i) b) })
  recall (Answer end) word sees is h = older_all now w past (on e (Answer end)) h

  moment_next : (m : Moment) (s : ShowStage) → MomentIn w past m → MomentIn now (w ∷ past) (moment_after w m s)
  moment_next m (LoadKind i) h = record { at = w; of = inr (self w past); is = refl }
  moment_next m (LoadAnnounce i) h = older_moment now w past m h
  moment_next m (LoadMark i) h = older_moment now w past m h
  moment_next m (LoadValue i) h = older_moment now w past m h
  moment_next m (AgainMark i) h = older_moment now w past m h
  moment_next m (AgainAnnounce i) h = older_moment now w past m h
  moment_next m (Answer end) h = older_moment now w past m h

-- a show goes on by a step that is not its answer
pub goes_to : (e e' : PlainShowCall) (s : ShowStage) (word : ℕ) → after e s word ≡ Showing e' → next_at (on e s) s word ≡ e'
goes_to e e' (LoadAnnounce i) word is = cc
goes_to e e' (LoadMark i) word is = cc
goes_to e e' (LoadValue i) word is = cc
goes_to e e' (LoadKind i) word is = cc
goes_to e e' (AgainMark i) word is = cc
goes_to e e' (AgainAnnounce i) word is = cc
goes_to e e' (Answer end) word is = absurd (cc)

-- a situation is that of one show alone
pub showing_inj : (s : Situation) (e e' : PlainShowCall) → s ≡ Showing e → s ≡ Showing e' → e ≡ e'
showing_inj s e e' a b = let both : Showing e ≡ Showing e' = sym a ∙ b in cc

-- ---- the call

pub record Told (p : ℕ) (now : PlainWorld) (past : List PlainWorld) (e : PlainShowCall) : Type 0 where
  pub m : Moment
  pub fits : ShowFitsAt now p e m
  pub recalls : Recalls now past e
  pub moment : MomentIn now past m

module _ (p : ℕ) where
  pub told : (now : PlainWorld) (past : List PlainWorld) → Call p now past → (e : PlainShowCall) → now.situation p ≡ Showing e → Told p now past e
  told now [] b e is =
      let first : ShowFitsAt now p (fresh p b.next (cells_of b.before.layout) b.before.layout.processes) (moment_of now) = begin_known p b.next b.before now b.sound b.real b.begins in
      let same : fresh p b.next (cells_of b.before.layout) b.before.layout.processes ≡ e = showing_inj (now.situation p) _ e b.begins.situation is in
      subst (λ (x : PlainShowCall). Told p now [] x) same (record {
        m = moment_of now;
        fits = first;
        recalls = record { marks = λ c l. absurd (omega arith); announcements = λ q l. absurd (omega arith); off = tt };
        moment = record { at = now; of = refl; is = refl };
      })
  told now (w ∷ past) (sound, inr rely, call) e is =
      let t : Told p w past e = told w past call e (sym rely.situation ∙ is) in
      record {
        m = t.m;
        fits = show_goes w now p e t.m (rely.grows Version) rely.open_edits rely.buffer t.fits;
        recalls = older_all now w past e t.recalls;
        moment = older_moment now w past t.m t.moment;
      }
  told now (w ∷ past) (sound, inl own, call) e is =
      let f : PlainShowCall = own.show in
      let s : ShowStage = f.stage in
      let t : Told p w past f = told w past call f own.was in
      let fits : ShowFitsAt w f.process f t.m = subst (λ (q : ℕ). ShowFitsAt w q f t.m) (sym own.mine) t.fits in
      let was : w.situation f.process ≡ Showing f = ap w.situation own.mine ∙ own.was in
      let next : ShowFitsAt now f.process (next_at f s own.word) (moment_after w t.m s) = known_next f s own.word w now sound was own.steps t.m fits in
      let same : next_at f s own.word ≡ e = goes_to f e s own.word (sym own.steps.situation ∙ ap now.situation own.mine ∙ is) in
      subst (λ (x : PlainShowCall). Told p now (w ∷ past) x) same (record {
        m = moment_after w t.m s;
        fits = subst (λ (q : ℕ). ShowFitsAt now q (next_at f s own.word) (moment_after w t.m s)) own.mine next;
        recalls = recall now w past f s own.word (sees_word s f.process own.word w now own.steps.memory) t.fits.is.stage t.recalls;
        moment = moment_next now w past f t.m s t.moment;
      })

  -- the sheet stays
  same_layout : (now : PlainWorld) (past : List PlainWorld) → Call p now past → (v : PlainWorld) → IsOf v now past → v.layout ≡ now.layout
  same_layout now [] b v is = ap (λ (x : PlainWorld). x.layout) is
  same_layout now (w ∷ past) (sound, passes, call) v (inl is) = ap (λ (x : PlainWorld). x.layout) is
  same_layout now (w ∷ past) (sound, inl own, call) v (inr of) = same_layout w past call v of ∙ sym own.steps.layout
  same_layout now (w ∷ past) (sound, inr rely, call) v (inr of) = same_layout w past call v of ∙ sym (rely.grows Version).layout

  -- what it answers is true of the worlds of its call
  pub answer_true : (now : PlainWorld) (past : List PlainWorld) → Call p now past → (e : PlainShowCall) (end : ShowEnd) → now.situation p ≡ Showing e → e.stage ≡ Answer end → IsTrueShow now past e end
  answer_true now past call e Settled is at =
      let t : Told p now past e = told now past call e is in
      let v : PlainWorld = t.moment.at in
      let layout : v.layout ≡ now.layout = same_layout now past call v t.moment.of in
      let h : IsSettled now e (moment_of v) = settled_true now p e (moment_of v) (subst (λ (m : Moment). ShowFitsAt now p e m) t.moment.is t.fits) at in
      record {
        moment = v;
        of = t.moment.of;
        still = rw layout h.still;
        right = rw layout h.right;
        more = h.more;
        counted = h.counted;
      }
  answer_true now past call e (Unsettled place word) is at = subst (λ (s : ShowStage). OffIn now past s) at (told now past call e is).recalls.off

-- an event that changes nothing leaves all that anyone may rely on
grows_same : (q : ℕ) (but : Place) (w : PlainWorld) → Grows q but w w
grows_same q but w = record {
  layout = refl;
  owned_cached = λ r o ne. refl;
  owned_persisted = λ r o ne. inl refl;
  heads_cached = λ c. omega arith;
  heads_persisted = λ c. omega arith;
  marks_cached = λ c. omega arith;
  marks_persisted = λ c. omega arith;
  holds = λ c ne. record { cached = λ h. refl; persisted = λ h k. k; came = λ h. h };
  announces_cached = λ p. omega arith;
  announces_persisted = λ p. omega arith;
  values = λ c clean. (refl, refl);
  index_cached = λ row part. IsSubset-same (w.memory.cached (Index row part));
  index_persisted = λ row part. IsSubset-same (w.memory.persisted (Index row part));
  done_cached = λ p part. IsSubset-same (w.memory.cached (Done p part));
  done_persisted = λ p part. IsSubset-same (w.memory.persisted (Done p part));
  added = [];
  counted = sym (append-nil w.counted);
  foreign = All-nil (λ (e : PlainEdit). e.process ≢ q);
}

-- where nothing happens a process may rely on all
pub rely_same : (q : ℕ) (w : PlainWorld) → Rely q w w
rely_same q w = record {
  situation = refl;
  open_edits = refl;
  buffer = refl;
  grows = λ but. grows_same q but w;
  bears = record {
    owing = λ r c x i m o. o;
    excused = λ c x m o. o;
    values = λ r. inl refl;
    kinds = λ r. inl refl;
    heads = λ c. inl refl;
  };
}

-- what came up to a world of the call is a call
pub call_until : (p : ℕ) (v now : PlainWorld) (past : List PlainWorld) → Call p now past → IsOf v now past → (older : List PlainWorld) × Call p v older
call_until p v now [] call is = ([], subst (λ (x : PlainWorld). Call p x []) (sym is) call)
call_until p v now (w ∷ past) call (inl is) = (w ∷ past, subst (λ (x : PlainWorld). Call p x (w ∷ past)) (sym is) call)
call_until p v now (w ∷ past) call (inr of) = call_until p v w past call.2 of
