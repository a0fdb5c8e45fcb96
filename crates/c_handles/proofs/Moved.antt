-- A value of a pointer and a handle of the heap becomes one of another type, of the same two fields: what such a function
-- does, whatever the value owns.
use mathlib.Core.Path.{◌≡◌}
use lib.Dec.{T, lit<}
use mir.Syntax.{Sym, Ty, Fn, local, value_local, place, copy, field, assign, rv_opd, aggregate, seq, return, ty_ptr, ty_struct, tnil, tcons}
use mir.Val.{vstruct, of_list, has_ty, WT}
use prog.Wp.{Calls, Loops}
use Rattle.std.specs.Global.{Global}
use Rattle.std.proofs.alloc.Calls.{α, handle_tells, Fits}
use Rattle.std_alloc.proofs.ResultValues.{and_tt}
use Rattle.std_alloc.proofs.BoxSteps.Form.{Bx, P, owning}
use Rattle.c_handles.proofs.Walks.{refl, sym, subst, List, [], ◌∷◌, ◌++◌, Ura, Val, SProp, ent, Fml, fsep, WpFn, Logic, Item, ‵, ◌$◌, ◌∵◌, !, qed, by, move, drop, fsplit, fjoin, fpick, fpack, feq_i, feq_l, whole, sub, agg, stop, fld, no_more, and_then, of_opd, returns, enter, alloc_all, pass_all, free_all, look_at, get, get_in, sets, Laws, RattleType, Valss, Ptr, RawPtr, block_ptr, null_ptr, ptr_val, nothing, shape, within}
use Rattle.c_handles.proofs.HeapBox.{heap_box}

module _ (X : RattleType) (laws : Laws X) where
  abbrev E : Bx
  E = heap_box X laws

  -- a type with this name, of a pointer and a handle of the heap
  abbrev pair : Sym → Ty
  pair name = ty_struct name (tcons ty_ptr (tcons (α E.al) tnil))

  -- the function: it copies both fields, casts the pointer, and makes the other value of them
  abbrev pub moving : Sym → Sym → Fn
  moving to from = record {
    lifetimes = 0;
    outlives = [];
    ty_params = [];
    givens = 0;
    params = 1;
    locals = local (pair to) value_local ∷ local (pair from) value_local ∷ local ty_ptr value_local ∷ local (α E.al) value_local ∷ local ty_ptr value_local ∷ [];
    body = seq (assign (place 2 []) (rv_opd (copy (place 1 (field 0 ∷ [])))))
        (seq (assign (place 3 []) (rv_opd (copy (place 1 (field 1 ∷ [])))))
        (seq (assign (place 4 []) (rv_opd (copy (place 2 []))))
        (seq (assign (place 0 []) (aggregate (copy (place 4 []) ∷ copy (place 3 []) ∷ []))) return)));
  }

  -- what a value of this pointer and this handle owns, which owns this beside, at these machine values
  abbrev pub pair_own : Ptr → Global → Fml → List Val → Fml
  pair_own p a Q vs = fsep (base.Fml.fex (Valss (RawPtr ∷ P E ∷ [])) (within (shape (owning E)) (p, (a, tt)) vs)) Q

  abbrev word : Ptr → Val → Val
  word p hv = vstruct (of_list (ptr_val p ∷ hv ∷ []))

  ptr_typed : (p : Ptr) → T (has_ty ty_ptr (ptr_val p)) × WT (ptr_val p)
  ptr_typed (block_ptr b o) = (tt, tt)
  ptr_typed null_ptr = (tt, record { fits = lit< tt })

  word_typed : (name : Sym) (p : Ptr) (hv : Val) → Fits E.al hv → T (has_ty (pair name) (word p hv)) × WT (word p hv)
  word_typed name (block_ptr b o) hv fa = (and_tt (has_ty (α E.al) hv) fa.0, (tt, (fa.1, tt)))
  word_typed name null_ptr hv fa = (and_tt (has_ty (α E.al) hv) fa.0, (record { fits = lit< tt }, (fa.1, tt)))

  module _ {M : Type 1} {𝓤 : Ura M} (𝓛 : Logic 𝓤) (C : Calls 𝓤 𝓛.H) (Λ : Loops 𝓤 𝓛.H) where
    open 𝓛 use {H}

    -- what follows from what the new value owns follows once the function has run on the old one
    pub moves : (to from : Sym) (p : Ptr) (a : Global) (Q : Fml) (vs : List Val) (Post : Val → SProp 𝓤)
        → ((w : Val) → ent 𝓤 (types.Kit.⋆ 𝓛 (‵ (pair_own p a Q (w ∷ [])) ∷ [])) (Post w))
        → ent 𝓤 (types.Kit.⋆ 𝓛 (‵ (pair_own p a Q vs) ∷ [])) (WpFn 𝓤 H C Λ (moving to from) (vs ++ []) Post)
    moves to from p a Q vs Post k =
        qed 𝓛 (‵ (pair_own p a Q vs) ∷ []) ∵ fsplit ! $ fpick ! (λ vss. fsplit ! $ feq_l ! (λ ev. fsplit ! $ feq_l ! (λ ep. fsplit ! $ handle_tells E.al ! a vss.1.0 (λ hv ea fa. move ! (1 ∷ []) $ drop ! $
        let w = word p hv in
        let ws : vs ≡ w ∷ [] = subst (λ (hs : List Val). vs ≡ vstruct (of_list (ptr_val p ∷ (hs ++ []))) ∷ []) ea (subst (λ (ps : List Val). vs ≡ vstruct (of_list (ps ++ (vss.1.0 ++ []))) ∷ []) ep ev) in
        let Γ : List (Item 𝓤) = ‵ (E.al.row.own_val a (hv ∷ [])) ∷ ‵ Q ∷ [] in
        by ! (subst (λ (us : List Val). ent 𝓤 (types.Kit.⋆ 𝓛 Γ) (WpFn 𝓤 H C Λ (moving to from) (us ++ []) Post)) (sym ws)
        (qed 𝓛 Γ ∵ enter ! C Λ (moving to from) (w ∷ []) _ $ alloc_all ! (λ ls. pass_all ! refl (word_typed from p hv fa, tt) $
        sets ! (of_opd ! (get_in ! (fld ! refl (stop !)) (sub ! 0 refl (whole !)))) refl (ptr_typed p) $ sets ! (of_opd ! (get_in ! (fld ! refl (stop !)) (sub ! 1 refl (whole !)))) refl fa $
        sets ! (of_opd ! (get ! refl)) refl (ptr_typed p) $
        sets ! (agg ! (and_then ! (get ! refl) (and_then ! (get ! refl) (no_more !)))) refl (word_typed to p hv fa) $ returns ! (look_at ! 0 refl) $ free_all ! refl $
        nothing ! $ move ! (1 ∷ 0 ∷ []) $ fjoin ! $ feq_i ! (List Val) (ptr_val p ∷ []) (ptr_val p ∷ []) refl $ fjoin ! $ feq_i ! (List Val) (w ∷ []) (w ∷ []) refl $ fjoin ! $
        fpack ! (Valss (RawPtr ∷ P E ∷ [])) (within (shape (owning E)) (p, (a, tt)) (w ∷ [])) (ptr_val p ∷ [], (hv ∷ [], tt)) $ fjoin ! $ by ! (k w))))))))
