-- Values that are wrong.
use Rattle.std.proofs.Common.{ℕ, suc, add-one, ◌+◌, ◌≡◌, ◌<◌, ◌∙◌, get_or, length, true, List, [], ◌∷◌, ◌++◌, map, take, Ok, Err, ap, append_assoc, inl, inr, refl, subst, sym}
use Rattle.std.proofs.lemmas.List.{append-nil, map-append, map_more}
use Rattle.std.specs.Global.{Vec}
use Rattle.std.specs.Prelude.{IfOk, OnOk, Option, Result, Some, option_map}
use Rattle.ds_state.specs.Value.{WorldValue}
use Rattle.ds_state.specs.declared.situation.Situation.{Situation}
use Rattle.ds_formula.specs.declared.cells.Shape.{Shape}
use Rattle.ds_eval.specs.declared.value.Value.{Value}
use Rattle.ds_text_values.specs.TextValues.{IsEvaluated}
use Rattle.ds_explore.specs.declared.flaw.Flaw.{Flaw}
use Rattle.ds_explore.specs.declared.judge.Asked.{Asked}
use Rattle.ds_explore.specs.declared.flaw.Flaw.TheVariants.{NotSettled}
use Rattle.ds_explore.specs.Judging.{AddsValueFlaws, AreValueFlaws, EndsIn, FitsValue, JudgesValues, PlainAsked, asked_in, listed, reported_in, no_value, one_value_more, plain_asked, texts_in, texts_of}

-- no flaw
pub values_none : (expected reported : List Value) (flaws : List Flaw) → AddsValueFlaws expected reported 0 flaws flaws
values_none expected reported flaws = record { more = []; are = no_value; is = sym (append-nil flaws) }

-- one flaw more, or none
pub values_more : (expected reported : List Value) (n : ℕ) (before mid after : List Flaw) (more : Option Flaw) → AddsValueFlaws expected reported n before mid → FitsValue expected reported n more → after ≡ mid ++ listed more → AddsValueFlaws expected reported (n + 1) before after
values_more expected reported n before mid after more h fits e = record {
  more = h.more ++ listed more;
  are = subst (λ (k : ℕ). AreValueFlaws expected reported k (h.more ++ listed more)) (sym (add-one n)) (one_value_more n h.more more h.are fits);
  is = e ∙ ap (λ (l : List Flaw). l ++ listed more) h.is ∙ append_assoc before h.more (listed more);
}

-- the flaws of the values that are reported, after those before
pub values_ok : {E : Type 0} (r : Result (Unit {0}) E) (w : WorldValue) (shape : Shape) (texts : List (List ℕ)) (expected now shown : List Value) (before after : List Flaw) → shape ≡ w.sheet.layout.shape → IsEvaluated shape texts expected → now ≡ expected → shown ≡ reported_in w
    → OnOk r (AddsValueFlaws now shown (length now) before after) → OnOk r ((more : List Flaw) × JudgesValues w texts more × (after ≡ before ++ more))
values_ok (Ok u) w shape texts expected now shown before after e evaluated f g h = (
  h.more,
  record {
    expected = expected;
    evaluated = subst (λ (s : Shape). IsEvaluated s texts expected) e evaluated;
    are = subst (λ (l : List Value). AreValueFlaws expected l (length expected) h.more) g (subst (λ (l : List Value). AreValueFlaws l shown (length l) h.more) f h.are);
  },
  h.is,
)
values_ok (Err why) w shape texts expected now shown before after e evaluated f g h = tt

-- a report that is not settled
pub unsettled_ok : {E : Type 0} (r : Result (Unit {0}) E) (before after : List Flaw) → OnOk r (after ≡ before ++ listed (Some NotSettled)) → OnOk r ((more : List Flaw) × (more ≡ NotSettled ∷ []) × (after ≡ before ++ more))
unsettled_ok (Ok u) before after h = (NotSettled ∷ [], refl, h)
unsettled_ok (Err why) before after h = tt

-- ---- edits that are asked for

-- no edit
pub asked_none : (all : List (Option Asked)) → all ≡ [] → map (option_map plain_asked) all ≡ []
asked_none all e = ap (λ (l : List (Option Asked)). map (option_map plain_asked) l) e

-- the edit of one process more
pub asked_more : (xs : List Situation) (n : ℕ) (x : Situation) (asked : Option Asked) (old new : List (Option Asked)) → n < length xs → x ≡ get_or xs n x → option_map plain_asked asked ≡ asked_in x → map (option_map plain_asked) old ≡ map asked_in (take n xs)
    → new ≡ old ++ asked ∷ [] → map (option_map plain_asked) new ≡ map asked_in (take (n + 1) xs)
asked_more xs n x asked old new low at is before e =
    ap (λ (l : List (Option Asked)). map (option_map plain_asked) l) e ∙ map-append (option_map plain_asked) old (asked ∷ []) ∙ ap (λ (l : List (Option PlainAsked)). l ++ option_map plain_asked asked ∷ []) before
    ∙ ap (λ (o : Option PlainAsked). map asked_in (take n xs) ++ o ∷ []) (is ∙ ap asked_in at) ∙ sym (map_more asked_in xs n x low)

-- the texts that a crash leaves
pub crashed_ok : {E : Type 0} (r : Result (Vec (Vec ℕ)) E) (w copy lost : WorldValue) → copy ≡ w → EndsIn true copy lost → IfOk r (λ texts. texts_of texts.items ≡ texts_in lost)
    → IfOk r (λ texts. (after : WorldValue) × EndsIn true w after × (texts_of texts.items ≡ texts_in after))
crashed_ok (Ok texts) w copy lost e ends is = (lost, subst (λ (x : WorldValue). EndsIn true x lost) e ends, is)
crashed_ok (Err why) w copy lost e ends is = tt
