-- Why lines are not sound, by the first of them.
use Rattle.std.proofs.Common.{◌≡◌, ◌⊎◌, ◌∙◌, ◌-◌, ◌≤◌, ◌<◌, ◌++◌, ◌∷◌, [], inl, inr, ℕ, zero, suc, List, Some, ap, append_assoc, arith, drop, map, refl, slice_get, subst, sym, take, ⊎_elim}
use Rattle.std.proofs.lemmas.List.{take-append-drop, take-map}
use Rattle.ds_layout.specs.declared.layout.Layout.{Layout}
use Rattle.ds_store.specs.Opened.{Leads, fault_at}
use Rattle.ds_store.specs.Summing.{AreNotAdded}
use Rattle.ds_store.specs.Unsound.{AreUnsound, HaveKeyAgain, Makes, StandsAgain}
use Rattle.ds_store.specs.declared.fault.StoreFault.{StoreFault}
use Rattle.ds_store.specs.declared.fault.StoreFault.TheVariants as store
use Rattle.ds_store.specs.declared.seated.SeatedSheet.{SeatedSheet}
use Rattle.ds_store_journal.specs.Journals.{IsJournal, KeptEdit, sheet_in, size_of}
use Rattle.ds_store_journal.specs.declared.fault.JournalFault.TheVariants.{KeyAgain, NoMemory}
use Rattle.ds_store_keys.specs.Keys.{StandOnce, keys_of}
use Rattle.ds_store_keys.specs.declared.fault.KeyLineFault.{KeyLineFault}

-- ---- of the first lines, so of all

pub added_more : (n : ℕ) (lines : List (List ℕ)) (fault : StoreFault) → AreNotAdded [] (take n lines) fault → AreNotAdded [] lines fault
added_more n lines fault (inl memory) = inl memory
added_more n lines fault (inr wrong) =
    let w = wrong.2 in
    inr (
      wrong.0,
      wrong.1,
      record {
        front = w.front;
        line = w.line;
        back = w.back ++ drop n lines;
        are = sym (take-append-drop n lines) ∙ ap (λ ls. ls ++ drop n lines) w.are ∙ append_assoc w.front (w.line ∷ w.back) (drop n lines);
        at = w.at;
        is = w.is;
        wrong = w.wrong;
      },
    )

fewer : {A : Type 0} (m n : ℕ) (xs : List A) → m ≤ n → take m (take n xs) ≡ take m xs
fewer zero n xs low = refl
fewer (suc m) zero xs low = absurd (omega (arith, low))
fewer (suc m) (suc n) [] low = refl
fewer (suc m) (suc n) (x ∷ xs) low = ap (λ l. x ∷ l) (fewer m n xs (omega (arith, low)))

more : {A : Type 0} (m n : ℕ) (xs : List A) → n ≤ m → take m (take n xs) ≡ take n xs
more zero zero xs low = refl
more (suc m) zero xs low = refl
more zero (suc n) xs low = absurd (omega (arith, low))
more (suc m) (suc n) [] low = refl
more (suc m) (suc n) (x ∷ xs) low = ap (λ l. x ∷ l) (more m n xs (omega (arith, low)))

makes_more : (layout : Layout) (n : ℕ) (lines : List (List ℕ)) → Makes layout (take n lines) → Makes layout lines
makes_more layout zero lines makes = absurd makes
makes_more layout (suc n) [] makes = makes
makes_more layout (suc n) (line ∷ lines) makes = makes

either_way : (m n : ℕ) → (m ≤ n) ⊎ (n < m)
either_way zero n = inl (omega arith)
either_way (suc m) zero = inr (omega arith)
either_way (suc m) (suc n) = ⊎_elim (λ low. inl (omega (arith, low))) (λ high. inr (omega (arith, high))) (either_way m n)

again_more : (n : ℕ) (lines : List (List ℕ)) (layout : Layout) (number : ℕ) → StandsAgain layout (take n lines) number → StandsAgain layout lines number
again_more n lines layout number s = ⊎_elim here there (either_way number n) where
  here : number ≤ n → StandsAgain layout lines number
  here low = record {
    makes = makes_more layout n lines s.makes;
    once = subst (λ ls. StandOnce (keys_of layout ls)) (fewer (number - 1) n lines (omega (arith, low))) s.once;
    again = λ once. s.again (subst (λ ls. StandOnce (keys_of layout ls)) (sym (fewer number n lines low)) once);
  }

  there : n < number → StandsAgain layout lines number
  there high = absurd (s.again (subst (λ ls. StandOnce (keys_of layout ls)) (more (number - 1) n lines (omega (arith, high)) ∙ sym (more number n lines (omega (arith, high)))) s.once))

pub keys_more : (n : ℕ) (lines : List (List ℕ)) (fault : StoreFault) → HaveKeyAgain (take n lines) fault → HaveKeyAgain lines fault
keys_more n lines fault has = (has.0, has.1, has.2, again_more n lines has.0 has.1 has.3)

-- ---- keys

head_makes : (layout : Layout) (lines : List (List ℕ)) (line : List ℕ) → Makes layout lines → Makes layout (lines ++ line ∷ [])
head_makes layout [] line makes = absurd makes
head_makes layout (l ∷ lines) line makes = makes

journal_makes : (layout : Layout) (lines : List (List ℕ)) (edits : List KeptEdit) → IsJournal layout lines edits → Makes layout lines
journal_makes layout _ _ (IsJournal.makes line is) = is
journal_makes layout _ _ (IsJournal.skips lines line edits journal is) = head_makes layout lines line (journal_makes layout lines edits journal)
journal_makes layout _ _ (IsJournal.keeps lines line edits edit journal is asks number) = head_makes layout lines line (journal_makes layout lines edits journal)

pub leads_makes : (layout : Layout) (counts : List ℕ) (sheet : SeatedSheet) (lines : List (List ℕ)) → Leads layout counts sheet lines → Makes layout lines
leads_makes layout counts sheet lines leads = journal_makes layout lines leads.edits leads.goes_on.journal

-- what is told of lines of which a key stands again
pub keys_fault : {A : Type 0} (f : A → List ℕ) (layout : Layout) (lines : List A) (k : KeyLineFault) → Makes layout (map f lines) → (k.fault ≡ KeyAgain) ⊎ (k.fault ≡ NoMemory)
    → (k.fault ≡ KeyAgain → StandOnce (keys_of layout (map f (take (k.number - 1) lines))) × (StandOnce (keys_of layout (map f (take k.number lines))) → ⊥))
    → (fault_at k.number k.fault ≡ store.NoMemory) ⊎ HaveKeyAgain (map f lines) (fault_at k.number k.fault)
keys_fault f layout lines k makes (inr memory) again = inl (ap (fault_at k.number) memory)
keys_fault f layout lines k makes (inl is) again =
    let h = again is in
    inr (
      layout,
      k.number,
      ap (fault_at k.number) is,
      record {
        makes = makes;
        once = subst (λ ls. StandOnce (keys_of layout ls)) (sym (take-map f (k.number - 1) lines)) h.0;
        again = λ once. h.1 (subst (λ ls. StandOnce (keys_of layout ls)) (take-map f k.number lines) once);
      },
    )

-- a fault of keys, or of memory, is one of lines that are not sound
pub keys_unsound : (lines : List (List ℕ)) (fault : StoreFault) → (fault ≡ store.NoMemory) ⊎ HaveKeyAgain lines fault → AreUnsound lines fault
keys_unsound lines fault (inl memory) = inr (inr (inl (inl memory)))
keys_unsound lines fault (inr again) = inr (inl again)

pub first_makes : {A : Type 0} (f : A → List ℕ) (layout : Layout) (lines : List A) (first : A) → slice_get lines 0 ≡ Some first → sheet_in (f first) ≡ Some (size_of layout) → Makes layout (map f lines)
first_makes f layout [] first is makes = absurd cc
first_makes f layout (line ∷ lines) first is makes = let same : first ≡ line = cc in subst (λ l. sheet_in (f l) ≡ Some (size_of layout)) same makes

-- what comes of a fault of lines that are not sound
pub earlier_unsound : (lines : List (List ℕ)) (fault told : StoreFault) → AreUnsound lines fault → (told ≡ fault) ⊎ (HaveKeyAgain lines told ⊎ AreNotAdded [] lines told) → AreUnsound lines told
earlier_unsound lines fault told unsound (inl same) = subst (AreUnsound lines) (sym same) unsound
earlier_unsound lines fault told unsound (inr (inl again)) = inr (inl again)
earlier_unsound lines fault told unsound (inr (inr wrong)) = inr (inr (inl wrong))
