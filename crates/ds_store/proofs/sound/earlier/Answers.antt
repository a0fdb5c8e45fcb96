use Rattle.std.proofs.Common.{◌≡◌, ◌⊎◌, [], inl, inr, List, map, subst, sym, take, ℕ}
use Rattle.std.proofs.lemmas.List.{take-map}
use Rattle.std.specs.String.{string_bytes}
use Rattle.ds_store.specs.Summing.{AreNotAdded}
use Rattle.ds_store.specs.Unsound.{HaveKeyAgain}
use Rattle.ds_store.specs.declared.fault.StoreFault.{StoreFault}
use Rattle.ds_store.specs.declared.fault.StoreFault.TheVariants.{NoMemory}
use Rattle.ds_store.proofs.Unsound.{added_more, keys_more}
use Rattle.ds_store.proofs.sound.earlier.Goals.{in-Ok, in-Err}
use Rattle.ds_store.proofs.sound.earlier.Goals as goal

-- a fault of keys of the first lines
of_keys : {A : Type 0} (f : A → List ℕ) (n : ℕ) (lines : List A) (fault : StoreFault) → (fault ≡ NoMemory) ⊎ HaveKeyAgain (map f (take n lines)) fault
    → HaveKeyAgain (map f lines) fault ⊎ AreNotAdded [] (map f lines) fault
of_keys f n lines fault (inl memory) = inr (inl memory)
of_keys f n lines fault (inr again) = inl (keys_more n (map f lines) fault (subst (λ ls. HaveKeyAgain ls fault) (sym (take-map f n lines)) again))

of_sums : {A : Type 0} (f : A → List ℕ) (n : ℕ) (lines : List A) (fault : StoreFault) → AreNotAdded [] (map f (take n lines)) fault → AreNotAdded [] (map f lines) fault
of_sums f n lines fault wrong = added_more n (map f lines) fault (subst (λ ls. AreNotAdded [] ls fault) (sym (take-map f n lines)) wrong)

pub returns-in-Some : goal.returns-in-Some
returns-in-Some c = inr (of_keys string_bytes c.min-before-2.result c.args.lines.now c.in-Some.earlier c.in-Some.ensures)

pub returns-in-None : goal.returns-in-None
returns-in-None c = elim c.match-add_all.branch [
  | in-Ok w ↦ inl w.fault-is
  | in-Err w ↦
      let lines = map string_bytes c.args.lines.now in
      let wrong = of_sums string_bytes c.min-before.result c.args.lines.now w.in-Err.earlier (w.in-Err.ensures.wrong [] c.new.ensures) in
      inr (inr (subst (AreNotAdded [] lines) (sym w.fault-is) wrong))
]
