-- A clean cell that relies on an edit in doubt: only that edit's process accounts for it, and an answer that leaves the
-- cell unmarked leaves no sound world.
use Rattle.std.proofs.Common.{ℕ, ◌≡◌, ◌<◌, refl, ap, sym, ◌∙◌, subst, inl, inr, Some}
use Rattle.std.proofs.lemmas.Bool.{cases_eq}
use Rattle.ds_formula.specs.Plain.{PlainContent}
use Rattle.ds_eval.specs.Local.{local}
use Rattle.ds_layout.specs.Mark.{IsClean}
use Rattle.ds_layout.specs.declared.layout.Layout.{Layout}
use Rattle.ds_layout.specs.declared.place.Place.TheVariants.{Mark, Head}
use Rattle.ds_state.specs.CallsFit.{CallFits, EditFits}
use Rattle.ds_state.specs.Owing.{IsExcused, Excuses}
use Rattle.ds_state.specs.Sound.{IsSound}
use Rattle.ds_state.specs.Standing.{HasContent, Reasons, cached_side, value_for}
use Rattle.ds_state.specs.World.{PlainIssue, PlainWorld, of_cell, IsHeadBy}
use Rattle.ds_state.specs.declared.situation.Situation.{Situation}
use Rattle.ds_state.specs.declared.situation.Situation.TheVariants.{Idle, Stopped, Editing, Working, Recovering, Showing, Migrating}
use Rattle.ds_recover.specs.Unmarked.{ReliesOn, AnswersUnmarked}

-- who accounts for a cell has an open edit of it
module _ (w : PlainWorld) (sound : IsSound w) (q c x : ℕ) (inside : q < w.layout.processes) where
  pub record HasOpen : Type 0 where
    pub issue : PlainIssue
    pub issued : w.open_edits q ≡ Some issue
    pub cell : issue.edit.cell ≡ c

  by_situation : (s : Situation) → w.situation q ≡ s → Excuses w q s c x → HasOpen
  by_situation (Idle next) is h = absurd h
  by_situation Stopped is h = record { issue = h.issue; issued = h.issued; cell = h.cell }
  by_situation (Editing e) is h =
      let f : EditFits w q e = subst (λ (s : Situation). CallFits w q s) is (sound.calls q inside) in
      record { issue = _; issued = f.open_edits; cell = h.0 }
  by_situation (Working e) is h = absurd h
  by_situation (Recovering e) is h = record { issue = h.0.issue; issued = h.0.issued; cell = h.0.cell }
  by_situation (Showing e) is h = absurd h
  by_situation (Migrating e) is h = record { issue = h.issue; issued = h.issued; cell = h.cell }

  pub has_open : Excuses w q (w.situation q) c x → HasOpen
  has_open h = by_situation (w.situation q) refl h

-- the cell's words are not what its content gives, so that somebody accounts for it
unreasoned : (w : PlainWorld) (p c : ℕ) → ReliesOn w p c → Reasons w (cached_side w.memory) c (w.memory.cached (Mark c)) → ⊥
unreasoned w p c relies r = relies.other r.content r.inputs r.has r.on_value

pub excused : (w : PlainWorld) (p c : ℕ) → IsSound w → ReliesOn w p c → IsExcused w c (w.memory.cached (Mark c))
excused w p c sound relies = elim (sound.stand.on_cached c relies.clean) [ inl e ↦ e | inr r ↦ absurd (unreasoned w p c relies r) ]

-- and that is its process alone
pub relied : (w : PlainWorld) (p c : ℕ) → IsSound w → ReliesOn w p c → Excuses w p (w.situation p) c (w.memory.cached (Mark c))
relied w p c sound relies =
    let e = excused w p c sound relies in
    elim (cases_eq e.process p) [
      | inl same ↦ subst (λ q. Excuses w q (w.situation q) c (w.memory.cached (Mark c))) same e.still
      | inr other ↦ absurd (let o = has_open w sound e.process c (w.memory.cached (Mark c)) e.inside e.still in relies.alone e.process o.issue other o.issued o.cell)
    ]

-- the same cell after the answer
on_text : (old new : PlainWorld) (c head : ℕ) (content : PlainContent) → new.layout ≡ old.layout → new.counted ≡ old.counted → HasContent new c head content → HasContent old c head content
on_text old new c head content layout counted (inl h) = inl h
on_text old new c head content layout counted (inr h) = inr (record {
  by = h.by;
  gave = subst (λ es. IsHeadBy (of_cell c es) head h.by) counted h.gave;
  reads = subst (λ (l : Layout). Rattle.ds_formula.specs.Grammar.Reads l.shape h.by.text content) layout h.reads;
})

relies_on : (p c : ℕ) (old new : PlainWorld) → ReliesOn old p c → AnswersUnmarked p c old new → ReliesOn new p c
relies_on p c old new relies a = record {
  clean = subst IsClean (sym a.mark) relies.clean;
  other = λ content inputs has is. relies.other content inputs
      (subst (λ h. HasContent old c h content) a.head (on_text old new c (new.memory.cached (Head c)) content a.layout a.counted has))
      (sym a.value ∙ is ∙ ap (λ (l : Layout). value_for (local l.shape content inputs)) a.layout);
  alone = λ q issue other is. relies.alone q issue other (sym (a.others q other) ∙ is);
}

-- an answer that leaves the cell of an undone edit unmarked leaves no sound world
pub unmarked_answer : (p c : ℕ) (old new : PlainWorld) → ReliesOn old p c → AnswersUnmarked p c old new → IsSound new → ⊥
unmarked_answer p c old new relies a sound = subst (λ (s : Situation). Excuses new p s c (new.memory.cached (Mark c))) a.answered (relied new p c sound (relies_on p c old new relies a))
