-- `into_boxed` moves two fields, and what they own goes with them.
use Rattle.c_handles.proofs.Walks.{refl, [], ◌∷◌, emp, ftrue, fsep, tables, ‵, raw, ◌⊛◌, ◌$◌, ◌∵◌, !, qed, by, move, drop, join, split, fsplit, fjoin, suffices, done, yes, RattleType, plain, type_at, nothing, says, Stays, stay_dropped, walk_of, ends_at, Goes-dropped, proved_at}
use Rattle.c_handles.specs.Owned.{boxed_owns}
use Rattle.c_handles.proofs.Moved.{moves}
use Rattle.ds_c.specs.contracts.held.Held as Held
use Rattle.ds_c.proofs.held.Held.TheLaws as laws
use Rattle.ds_c.specs.contracts.holder.BoxedHeld as BoxedHeld
use Rattle.ds_c.specs.contracts.holder.BoxedHeld.into_boxed as F
use Rattle.ds_c.specs.contracts.holder.BoxedHeld.into_boxed.Key.{name as #self}
use Rattle.ds_c.proofs.holder.BoxedHeld.into_boxed.Statement.{statement}
use Rattle.ds_c.proofs.holder.BoxedHeld.into_boxed.Code as code

abbrev From : RattleType
From = BoxedHeld.the_row

abbrev stayed : Stays F.ended.signature.params F.ended.kept
stayed = (stay_dropped (plain (λ _. From)) yes, tt)

pub into_boxed_spec : {M : Type 1} → statement M
into_boxed_spec 𝓤 𝓛 𝓜 𝓡 wired =
    let c = F.clauses 𝓛 𝓜.mem 𝓡.returns in let 𝓣 = tables 𝓤 𝓛.H 𝓜 𝓡 𝓡.env in
    proved_at 𝓛 F.ended stayed c 𝓜 𝓡 (Goes-dropped 𝓛 0 (plain (λ _. From)) yes (λ κs x f. refl), tt) #self code.function (code.unfolded 𝓤 𝓛.H 𝓜 𝓡 wired) (λ z are.
    let s = z.0.3.0 in let To = type_at F.signature.result tt in
    let made : To.Denot = record { at = s.at; alloc = s.alloc; value = s.value } in
    qed 𝓛 ((‵ ftrue ⊛ ‵ (fsep (From.own_val s z.0.4.0) ftrue)) ∷ raw (emp 𝓤) ∷ []) ∵ split ! $ drop ! $ fsplit ! $ move ! (1 ∷ 2 ∷ []) $ drop ! $ drop ! $
    by ! (moves Held.the_row laws.the_row_laws 𝓛 𝓣.C 𝓣.Λ _ _ s.at s.alloc (boxed_owns Held.the_row s.alloc s.at s.value) z.0.4.0 ((walk_of 𝓛 F.ended stayed c).post z) (λ w.
    qed 𝓛 (‵ (To.own_val made (w ∷ [])) ∷ []) ∵ suffices ! _ (ends_at 𝓛 F.ended stayed c z w made (tt, tt) (tt, tt)) $ says ! refl $
    nothing ! $ nothing ! $ fjoin ! $ join ! $ nothing ! $ join ! $ done !)))
