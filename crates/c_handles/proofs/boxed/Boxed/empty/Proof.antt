-- `empty` owns nothing but the handle of the heap.
use lib.Dec.{T, lit<}
use mir.Syntax.{Fn}
use mir.MapTy.{inst_fn}
use mir.Val.{vnull, vstruct, vcons, vnil, has_ty, WT}
use Rattle.std.specs.Prelude.{None}
use Rattle.std.proofs.alloc.Calls.{α, handle_tells}
use Rattle.std_alloc.proofs.ResultValues.{and_tt}
use Rattle.std_alloc.proofs.BoxSteps.Form.{Bx, P, box_ty, owning}
use Rattle.c_handles.proofs.HeapBox.{heap_box, one_type, FromHeap as From}
use Rattle.c_handles.proofs.Walks.{refl, sym, subst, List, [], ◌∷◌, ◌++◌, Val, SProp, ent, id⊢, ftrue, fsep, flft, ◌⊑◌, fact, tables, WpFn, Item, ‵, raw, ◌⊛◌, ◌$◌, ◌∵◌, !, qed, by, move, drop, use1, join, split, fsplit, fjoin, fpack, feq_i, suffices, done, agg, no_more, and_then, returns, enter, lit, alloc_all, pass_all, free_all, look_at, get, sets, yes, Valss, RawPtr, null_ptr, shape, within, type_at, nothing, says, Stays, stay_dropped, walk_of, ends_at, Goes-dropped, proved_at}
use Rattle.c_handles.specs.contracts.boxed.Boxed.empty as F
use Rattle.c_handles.specs.contracts.boxed.Boxed.empty.Key.{name as #self}
use Rattle.c_handles.proofs.boxed.Boxed.empty.Statement.{statement}
use Rattle.c_handles.proofs.boxed.Boxed.empty.Code as code

pub empty_spec : {M : Type 1} → statement M
empty_spec 𝓤 𝓛 𝓜 𝓡 wired X laws =
    let E : Bx = heap_box X laws in let fn : Fn = inst_fn (one_type X) code.function in let 𝓣 = tables 𝓤 𝓛.H 𝓜 𝓡 𝓡.env in
    let ended = F.ended X in let c = F.clauses X 𝓛 𝓜.mem 𝓡.returns in
    let stayed : Stays ended.signature.params ended.kept = (stay_dropped From yes, tt) in
    proved_at 𝓛 ended stayed c 𝓜 𝓡 (Goes-dropped 𝓛 1 From yes (λ κs x f. refl), tt) (#self (one_type X)) fn (code.unfolded 𝓤 𝓛.H 𝓜 𝓡 wired (X, tt)) (λ z are.
    let κs = z.0.0 in let a = z.0.3.0 in let To = type_at ended.signature.result κs in let Run : List Val → SProp 𝓤 = λ us. WpFn 𝓤 𝓛.H 𝓣.C 𝓣.Λ fn us ((walk_of 𝓛 ended stayed c).post z) in
    let made : To.Denot = record { at = null_ptr; alloc = a; value = None } in
    let ts : Item 𝓤 = ‵ (flft κs.0 z.0.1.0) ⊛ ‵ ftrue in
    qed 𝓛 ((ts ⊛ ‵ (fsep (E.al.row.own_val a z.0.4.0) ftrue)) ∷ (raw (fact 𝓤 (κs.0 ⊑ X.lives)) ⊛ ‵ ftrue) ∷ []) ∵ split ! $ move ! (1 ∷ []) $ fsplit ! $
    handle_tells E.al ! a z.0.4.0 (λ hv ws fa. move ! (3 ∷ []) $ drop ! $
    let w : Val = vstruct (vcons vnull (vcons hv vnil)) in
    let typed : T (has_ty (box_ty E) w) × WT w = (and_tt (has_ty (α E.al) hv) fa.0, (record { fits = lit< tt }, (fa.1, tt))) in
    let Γ : List (Item 𝓤) = ‵ (E.al.row.own_val a (hv ∷ [])) ∷ ‵ ftrue ∷ ts ∷ [] in
    by ! (subst (λ (us : List Val). ent 𝓤 (types.Kit.⋆ 𝓛 Γ) (Run (us ++ []))) (sym ws)
    (qed 𝓛 Γ ∵ enter ! 𝓣.C 𝓣.Λ fn (hv ∷ []) _ $ alloc_all ! (λ ls. pass_all ! refl (fa, tt) $
    sets ! (agg ! (and_then ! (lit ! tt) (and_then ! (get ! refl) (no_more !)))) refl typed $ returns ! (look_at ! 0 refl) $ free_all ! refl $
    nothing ! $ move ! (1 ∷ 0 ∷ []) $ fjoin ! $ feq_i ! (List Val) (vnull ∷ []) (vnull ∷ []) refl $ fjoin ! $ feq_i ! (List Val) (w ∷ []) (w ∷ []) refl $ fjoin ! $
    fpack ! (Valss (RawPtr ∷ P E ∷ [])) (within (shape (owning E)) (null_ptr, (a, tt)) (w ∷ [])) (vnull ∷ [], (hv ∷ [], tt)) $ fjoin ! $ use1 𝓛 (‵ (To.own_val made (w ∷ []))) (id⊢ 𝓤 _) $
    suffices ! _ (ends_at 𝓛 ended stayed c z w made (tt, tt) (tt, tt)) $ says ! refl $
    nothing ! $ nothing ! $ fjoin ! $ join ! $ move ! (1 ∷ 0 ∷ []) $ join ! $ done !)))))
