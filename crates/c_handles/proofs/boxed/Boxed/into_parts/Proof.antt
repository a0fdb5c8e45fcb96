-- `into_parts` moves two fields, and what they own goes with them.
use mir.Syntax.{Fn}
use mir.MapTy.{inst_fn}
use prog.Memory.{Memory}
use prog.Routine.{Routine}
use prog.Wp.{Calls, Loops}
use contract.Monad.{Fun}
use denote.Triple.Clauses.{Ended, Clauses}
use Rattle.std.specs.Prelude.{Option, None, Some, IsSome}
use Rattle.std.proofs.alloc.Calls.{Goes-blank}
use Rattle.std.proofs.lemmas.Bool.{false≢true}
use Rattle.std_alloc.proofs.BoxSteps.Form.{Bx, D, R, B, word, box_typed}
use Rattle.std_alloc.proofs.BoxSteps.Steps.{box_out, box_in}
use Rattle.c_handles.proofs.HeapBox.{heap_box, one_type, FromBoxed as From}
use Rattle.c_handles.proofs.Walks.{refl, sym, subst, List, [], ◌∷◌, ◌++◌, Ura, Val, SProp, ent, id⊢, ftrue, fsep, flft, ◌⊑◌, fact, tables, WpFn, Logic, Item, ‵, raw, ◌⊛◌, ◌$◌, ◌∵◌, !, qed, by, move, drop, use1, join, split, fsplit, fjoin, suffices, done, whole, sub, agg, stop, fld, no_more, and_then, of_opd, returns, enter, alloc_all, pass_all, free_all, look_at, get, get_in, sets, no, Laws, RattleType, type_at, nothing, heard, says, Stays, stay_dropped, walk_of, ends_at, proved_at}
use Rattle.c_handles.specs.contracts.boxed.Boxed as Boxed
use Rattle.c_handles.specs.contracts.boxed.Boxed.into_parts as F
use Rattle.c_handles.specs.contracts.boxed.Boxed.into_parts.Key.{name as #self}
use Rattle.c_handles.proofs.boxed.Boxed.into_parts.Statement.{statement}
use Rattle.c_handles.proofs.boxed.Boxed.into_parts.Code as code

module _ (X : RattleType) (laws : Laws X) where
  abbrev E : Bx
  E = heap_box X laws

  abbrev fn' : Fn
  fn' = inst_fn (one_type X) code.function

  abbrev ended : Ended
  ended = F.ended X

  abbrev stayed : Stays ended.signature.params ended.kept
  stayed = (stay_dropped (From E) no, tt)

  abbrev Self : RattleType
  Self = Boxed.the_row (R E)

  module _ {M : Type 1} {𝓤 : Ura M} (𝓛 : Logic 𝓤) (at_mem : Memory → SProp 𝓤) (run : Routine → Fun 𝓤) (C : Calls 𝓤 𝓛.H) (Λ : Loops 𝓤 𝓛.H) where
    open 𝓛 use {H}

    abbrev held : Clauses 𝓤 ended
    held = F.clauses X 𝓛 at_mem run

    module _ (z : (walk_of 𝓛 ended stayed held).Ghost) where
      abbrev state : Option X.Denot → Self.Denot
      state m = record { at = z.0.3.0.at; alloc = z.0.3.0.alloc; value = m }

      abbrev bound : Option X.Denot → (walk_of 𝓛 ended stayed held).Ghost
      bound m = ((z.0.0, z.0.1, z.0.2, (state m, tt), (z.0.4.0, tt)), z.1)

      abbrev Post : Option X.Denot → Val → SProp 𝓤
      Post m = (walk_of 𝓛 ended stayed held).post (bound m)

      abbrev ts : Item 𝓤
      ts = ‵ (flft z.0.0.0 z.0.1.0) ⊛ ‵ ftrue

      walk_at : (m : Option X.Denot) → IsSome m → ent 𝓤 (types.Kit.⋆ 𝓛 (‵ (Self.own_val (state m) z.0.4.0) ∷ ts ∷ [])) (WpFn 𝓤 H C Λ fn' (z.0.4.0 ++ []) (Post m))
      walk_at None is = absurd (false≢true is)
      walk_at (Some x) _ =
          let vs = z.0.4.0 in
          let v : D E = record { ptr = z.0.3.0.at; alloc = z.0.3.0.alloc; value = x } in
          let To = type_at ended.signature.result z.0.0 in
          let made : To.Denot = record { ptr = z.0.3.0.at; alloc = z.0.3.0.alloc; value = x } in
          qed 𝓛 (‵ ((B E).own_val v vs) ∷ ts ∷ []) ∵
          box_out E ! v vs (λ b o hv e ws fa. box_in E ! v b o x e refl $
          let w = word E hv b o in
          use1 𝓛 (‵ (To.own_val made (w ∷ []))) (id⊢ 𝓤 _) $
          let Γ : List (Item 𝓤) = ‵ (To.own_val made (w ∷ [])) ∷ ts ∷ [] in
          by ! (subst (λ (us : List Val). ent 𝓤 (types.Kit.⋆ 𝓛 Γ) (WpFn 𝓤 H C Λ fn' (us ++ []) (Post (Some x)))) (sym ws)
          (qed 𝓛 Γ ∵ enter ! C Λ fn' (w ∷ []) _ $ alloc_all ! (λ ls. pass_all ! refl (box_typed E hv b o fa, tt) $
          sets ! (of_opd ! (get_in ! (fld ! refl (stop !)) (sub ! 0 refl (whole !)))) refl (tt, tt) $ sets ! (of_opd ! (get_in ! (fld ! refl (stop !)) (sub ! 1 refl (whole !)))) refl fa $
          sets ! (agg ! (and_then ! (get ! refl) (and_then ! (get ! refl) (no_more !)))) refl (box_typed E hv b o fa) $ returns ! (look_at ! 0 refl) $ free_all ! refl $
          suffices ! _ (ends_at 𝓛 ended stayed held (bound (Some x)) w made (tt, tt) (tt, tt)) $ says ! refl $
          nothing ! $ nothing ! $ fjoin ! $ join ! $ move ! (1 ∷ 0 ∷ []) $ join ! $ done !))))

    walk : (z : (walk_of 𝓛 ended stayed held).Ghost) → ent 𝓤 ((walk_of 𝓛 ended stayed held).pre z) (WpFn 𝓤 H C Λ fn' (z.0.4.0 ++ []) ((walk_of 𝓛 ended stayed held).post z))
    walk z =
        let s = z.0.3.0 in
        qed 𝓛 ((ts z ⊛ ‵ (fsep (Self.own_val s z.0.4.0) ftrue)) ∷ (raw (fact 𝓤 (z.0.0.0 ⊑ X.lives)) ⊛ raw (fact 𝓤 (IsSome s.value))) ∷ []) ∵ split ! $ move ! (1 ∷ []) $ fsplit ! $
        move ! (3 ∷ []) $ split ! $ move ! (1 ∷ []) $ heard ! (IsSome s.value) (λ is. move ! (0 ∷ 2 ∷ []) $ drop ! $ drop ! $ by ! (walk_at z s.value is))

pub into_parts_spec : {M : Type 1} → statement M
into_parts_spec 𝓤 𝓛 𝓜 𝓡 wired X laws =
    let 𝓣 = tables 𝓤 𝓛.H 𝓜 𝓡 𝓡.env in
    proved_at 𝓛 (ended X laws) (stayed X laws) (held X laws 𝓛 𝓜.mem 𝓡.returns 𝓣.C 𝓣.Λ) 𝓜 𝓡 (Goes-blank 𝓛 1 (From (E X laws)) no (λ κs x f. tt), tt) (#self (one_type X)) (fn' X laws) (code.unfolded 𝓤 𝓛.H 𝓜 𝓡 wired (X, tt))
    (λ z are. walk X laws 𝓛 𝓜.mem 𝓡.returns 𝓣.C 𝓣.Λ z)
