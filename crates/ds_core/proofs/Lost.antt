-- Taking out of the list the edits that a crash takes, in one pass.
use Rattle.std.proofs.Common.{ℕ, ◌≡◌, ◌<◌, ◌≤◌, ◌+◌, List, [], ◌∷◌, ◌++◌, refl, ap, sym, ◌∙◌, subst, arith, length, take, set, get_or, Bool, true, false}
use Rattle.std.specs.Prelude.{All, filter, if◌then◌else◌}
use Rattle.std.proofs.Math.ListN.{length-set}
use Rattle.std.proofs.Math.Seq.{take-length}
use Rattle.std.proofs.lemmas.List.{take_more, take_more_set, get_or-set_other, append-nil}
use Rattle.std.proofs.lemmas.List.Elements.{filter-append}
use Rattle.ds_words.specs.Memory.{Memory}
use Rattle.ds_layout.specs.declared.place.Place.{Place}
use Rattle.ds_state.specs.World.{PlainEdit}
use Rattle.ds_state.specs.Crashes.{is_lost, survivors}

-- of the first i edits those that stay stand in front, n of them; the edits from i on are as they were
pub record IsSifted (m : Memory Place) (old xs : List PlainEdit) (i kept : ℕ) : Type 0 where
  pub fewer : kept ≤ i
  pub size : length xs ≡ length old
  pub front : take kept xs ≡ survivors m (take i old)
  pub rest : (j : ℕ) (e : PlainEdit) → i ≤ j → get_or xs j e ≡ get_or old j e

abbrev keep : Memory Place → PlainEdit → Bool
keep m e = if is_lost m e then false else true

-- before the first edit is looked at nothing has moved
pub sifted_first : (m : Memory Place) (old : List PlainEdit) → IsSifted m old old 0 0
unfolding survivors
sifted_first m old = record { fewer = omega arith; size = refl; front = refl; rest = λ j e l. refl }

one_more : (m : Memory Place) (old : List PlainEdit) (i : ℕ) (e : PlainEdit) → i < length old → e ≡ get_or old i e → survivors m (take (i + 1) old) ≡ survivors m (take i old) ++ survivors m (e ∷ [])
unfolding survivors
one_more m old i e lt is =
    ap (λ (es : List PlainEdit). filter (keep m) es) (take_more old i e lt ∙ ap (λ (x : PlainEdit). take i old ++ x ∷ []) (sym is)) ∙ filter-append (keep m) (take i old) (e ∷ [])

none_stays : (m : Memory Place) (e : PlainEdit) → is_lost m e ≡ true → survivors m (e ∷ []) ≡ []
unfolding survivors
none_stays m e lost = let k : keep m e ≡ false = rw lost refl in rw k refl

one_stays : (m : Memory Place) (e : PlainEdit) → is_lost m e ≡ false → survivors m (e ∷ []) ≡ e ∷ []
unfolding survivors
one_stays m e there = let k : keep m e ≡ true = rw there refl in rw k refl

module _ (m : Memory Place) (old xs : List PlainEdit) (i kept : ℕ) (h : IsSifted m old xs i kept) (e : PlainEdit) (lt : i < length xs) (is : e ≡ get_or xs i e) where
  low : i < length old
  low = let s = h.size in omega arith

  old_is : e ≡ get_or old i e
  old_is = is ∙ h.rest i e (omega arith)

  pub sifted_out : is_lost m e ≡ true → IsSifted m old xs (i + 1) kept
  sifted_out lost = record {
    fewer = (let f = h.fewer in omega arith);
    size = h.size;
    front = h.front ∙ sym (one_more m old i e low old_is ∙ ap (λ es. survivors m (take i old) ++ es) (none_stays m e lost) ∙ append-nil (survivors m (take i old)));
    rest = λ j d l. h.rest j d (omega arith);
  }

  pub sifted_in : is_lost m e ≡ false → IsSifted m old (set xs kept e) (i + 1) (kept + 1)
  sifted_in there = record {
    fewer = (let f = h.fewer in omega arith);
    size = length-set xs kept e ∙ h.size;
    front = take_more_set xs kept e (let f = h.fewer in omega arith) ∙ ap (λ es. es ++ e ∷ []) h.front ∙ sym (one_more m old i e low old_is ∙ ap (λ es. survivors m (take i old) ++ es) (one_stays m e there));
    rest = λ j d l. get_or-set_other xs kept j e d (let f = h.fewer in omega arith) ∙ h.rest j d (omega arith);
  }

-- once all edits are looked at, those in front are what a crash leaves
pub sifted_last : (m : Memory Place) (old xs : List PlainEdit) (kept : ℕ) → IsSifted m old xs (length old) kept → take kept xs ≡ survivors m old
sifted_last m old xs kept h = h.front ∙ ap (λ es. survivors m es) (take-length old)

-- the edit that is looked at is the one that stood there at first
pub sifted_at : (m : Memory Place) (old xs : List PlainEdit) (i kept : ℕ) (P : PlainEdit → Type 0) → IsSifted m old xs i kept → All P old → (e : PlainEdit) → i < length xs → e ≡ get_or xs i e → P e
sifted_at m old xs i kept P h all e lt is = subst P (sym (is ∙ h.rest i e (omega arith))) (all i e (let s = h.size in omega arith))
