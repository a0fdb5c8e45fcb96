-- What happened, one after the other.
use Rattle.std.proofs.Common.{ℕ, ◌≡◌, List, [], ◌∷◌, ◌++◌, refl, sym, ap, subst, ◌∙◌}
use Rattle.std.proofs.lemmas.List.{append_assoc}
use Rattle.ds_state.specs.World.{PlainWorld}
use Rattle.ds_shared_runs.specs.History.{Happened, Run, Stood, answered_from, answered_by}
use Rattle.ds_shared_runs.specs.declared.history.CallEvent.{CallEvent}

pub run_both : (a b c : PlainWorld) (xs ys : List Happened) → Run a xs b → Run b ys c → Run a (ys ++ xs) c
run_both a b c xs [] r e = subst (λ (w : PlainWorld). Run a xs w) (sym e) r
run_both a b c xs (y ∷ ys) r s = (s.0, run_both a b y.before xs ys r s.1)

pub answered_both : (p : ℕ) (ys xs : List Happened) → answered_by p (ys ++ xs) ≡ answered_by p ys ++ answered_by p xs
answered_both p [] xs = refl
answered_both p (y ∷ ys) xs = ap (λ (z : List CallEvent). answered_from p y.before y.event y.reply ++ z) (answered_both p ys xs) ∙ sym (append_assoc (answered_from p y.before y.event y.reply) (answered_by p ys) (answered_by p xs))

pub stood_both : (ys xs : List Happened) → Stood ys → Stood xs → Stood (ys ++ xs)
stood_both [] xs s t = t
stood_both (y ∷ ys) xs s t = (s.0, stood_both ys xs s.1 t)
