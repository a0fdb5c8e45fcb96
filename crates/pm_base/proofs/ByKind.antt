-- What a structure owes of a step or of a begin, from what it owes of calls of one kind.
use Rattle.std.proofs.Common.{ℕ, ◌≡◌, ◌<◌, ◌∙◌, List, sym, ap, subst}
use Rattle.ds_words.specs.declared.access.Access.{Access}
use Rattle.ds_words.specs.Memory.{Memory, Performs}
use Rattle.pm_base.specs.Structures.{World, Structure, Calls, BeginsOf, StepsOf, Goes, GoesTelling, KindBegins, KindSteps, after_begin, after_step}

module _ {K S T C E : Type 0} (s : Structure K S T) (key : K) (c : Calls K S T C E) where
  -- a call of the kind begins
  pub kind_begins : KindBegins s key c → (w : World S s.Hidden) (p : ℕ) (now : S) → s.sound key w → p < s.processes key → BeginsOf c key p (w.situation p) now → Goes s key w (after_begin s key w p now)
  kind_begins each w p now sound low k =
      let low2 : c.process k.call < s.processes key = subst (λ (q : ℕ). q < s.processes key) (sym k.own) low in
      let may : c.begins key (w.situation (c.process k.call)) k.call = subst (λ (q : ℕ). c.begins key (w.situation q) k.call) (sym k.own) k.may in
      subst (λ (z : ℕ × S). Goes s key w (after_begin s key w z.0 z.1)) (λ i. (k.own i, sym k.lands i)) (each w k.call sound low2 k.fits k.goes may)

  -- a call of the kind takes a step
  pub kind_steps : KindSteps s key c → (w : World S s.Hidden) (p : ℕ) (access : Access ℕ) (answer : ℕ) (now : S) (says : List T) (memory : Memory ℕ) → s.sound key w → p < s.processes key
      → StepsOf c key p (w.situation p) access answer now says → Performs (s.class_in key) access p w.memory memory answer → GoesTelling s key w (after_step s key w p now memory) p says
  kind_steps each w p access answer now says memory sound low k performs =
      let low2 : c.process k.call < s.processes key = subst (λ (q : ℕ). q < s.processes key) (sym k.own) low in
      let at : w.situation (c.process k.call) ≡ c.doing k.call = ap w.situation k.own ∙ k.at in
      let does_so : Performs (s.class_in key) (c.access key k.call) (c.process k.call) w.memory memory answer = subst (λ (z : Access ℕ × ℕ). Performs (s.class_in key) z.0 z.1 w.memory memory answer) (λ i. (k.asks i, sym k.own i)) performs in
      subst (λ (z : ℕ × S × List T). GoesTelling s key w (after_step s key w z.0 z.1 memory) z.0 z.2) (λ i. (k.own i, sym k.lands i, sym k.tells i)) (each w k.call memory answer sound low2 at k.fits k.goes does_so)
