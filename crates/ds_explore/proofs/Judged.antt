-- Flaws, one after the other, and texts of answers.
use Rattle.std.proofs.Common.{ℕ, ◌+◌, ◌≡◌, ◌<◌, get_or, map, take, add-one, List, [], ◌∷◌, ◌++◌, length, Some, None, Ok, Err, sym, subst, ap, ◌∙◌, append_assoc}
use Rattle.std.specs.Prelude.{Option, Result}
use Rattle.std.proofs.lemmas.List.{append-nil, length_push, map-append, map_more}
use Rattle.std.specs.Global.{Vec}
use Rattle.ds_state.specs.Value.{WorldValue}
use Rattle.ds_state.specs.declared.answer.Answer.{Answer}
use Rattle.ds_state.specs.declared.recovery.RecoveryEnd.{RecoveryEnd}
use Rattle.ds_state.specs.declared.refusal.Refusal.{Refusal}
use Rattle.ds_core.specs.Ends.{recoveries}
use Rattle.ds_script.specs.ScriptTexts.{reply_text}
use Rattle.ds_explore.specs.declared.ends.OutcomeEnding.{OutcomeEnding}
use Rattle.ds_explore.specs.declared.flaw.Flaw.{Flaw}
use Rattle.ds_explore.specs.declared.judge.Judge.{Judge}
use Rattle.ds_state.specs.declared.answer.Answer.TheVariants.{Recovery}
use Rattle.ds_core.specs.declared.event.Event.TheVariants.{BeginRecover}
use Rattle.ds_calls.specs.Whole.{IsWhole}
use Rattle.ds_explore_state.specs.declared.position.ProcessState.{ProcessState}
use Rattle.ds_explore_state.specs.States.{PlainSeat, seat_of}
use Rattle.ds_explore.specs.Judging.{AreAnswers, AreRecoveries, IsJudged, JudgesReport, answer_text, flaws_below, listed, no_answer, no_recovery, one_answer_more, one_recovery_more, process_flaw, replied, settle_flaw, text_flaw, texts_below, texts_in, texts_of}

-- ---- flaws

-- the flaws of one number more
pub below_more : (f : ℕ → Option Flaw) (n : ℕ) (mid new : List Flaw) (r : Option Flaw) → mid ≡ flaws_below f n → r ≡ f n → new ≡ mid ++ listed r → new ≡ flaws_below f (n + 1)
below_more f n mid new r are is e =
    e ∙ ap (λ (b : List Flaw). b ++ listed r) are ∙ ap (λ (o : Option Flaw). flaws_below f n ++ listed o) is ∙ ap (λ (k : ℕ). flaws_below f k) (sym (add-one n))

-- more flaws after those before
pub below_after : (f : ℕ → Option Flaw) (first : List Flaw) (n : ℕ) (mid new : List Flaw) (r : Option Flaw) → mid ≡ first ++ flaws_below f n → r ≡ f n → new ≡ mid ++ listed r → new ≡ first ++ flaws_below f (n + 1)
below_after f first n mid new r are is e =
    e ∙ ap (λ (b : List Flaw). b ++ listed r) are ∙ append_assoc first (flaws_below f n) (listed r) ∙ ap (λ (o : Option Flaw). first ++ (flaws_below f n ++ listed o)) is ∙ ap (λ (k : ℕ). first ++ flaws_below f k) (sym (add-one n))

-- all that the judge finds
pub judged_of : (judge : Judge) (w : WorldValue) (ending : OutcomeEnding) (cells : List (Vec ℕ)) (a b c d : List Flaw) (r : Option Flaw) → a ≡ flaws_below (process_flaw judge ending) (length ending.answers.items) → texts_of cells ≡ texts_in w
    → b ≡ a ++ flaws_below (text_flaw judge ending cells) (length cells) → r ≡ settle_flaw ending.left → c ≡ b ++ listed r
    → (values : List Flaw) × JudgesReport w (texts_of cells) ending.reported values × (d ≡ c ++ values) → IsJudged judge w ending d
judged_of judge w ending cells a b c d r processes shown texts settled is reported = record {
  texts = cells;
  shown = shown;
  values = reported.0;
  of_report = reported.1;
  is = reported.2 ∙ ap (λ (x : List Flaw). x ++ reported.0)
      (is ∙ ap (λ (o : Option Flaw). b ++ listed o) settled ∙ ap (λ (x : List Flaw). x ++ listed (settle_flaw ending.left)) (texts ∙ ap (λ (x : List Flaw). x ++ flaws_below (text_flaw judge ending cells) (length cells)) processes));
}

-- ---- texts

-- one answer more
pub answers_more : (w : WorldValue) (seats : List PlainSeat) (given : List (Option Answer)) (texts : List (Vec ℕ)) (p : ℕ) (seat : PlainSeat) (answer : Option Answer) (text : Vec ℕ) (seats' : List PlainSeat) (given' : List (Option Answer)) (texts' : List (Vec ℕ))
    → AreAnswers w seats given (texts_of texts) → length given ≡ p → answer ≡ seat.answer → text.items ≡ answer_text w p seat.answer seat.text → seats' ≡ seats ++ seat ∷ [] → given' ≡ given ++ answer ∷ [] → texts' ≡ texts ++ text ∷ [] → AreAnswers w seats' given' (texts_of texts')
answers_more w seats given texts p seat answer text seats' given' texts' are count told is d e f =
    subst (λ (s : List PlainSeat). AreAnswers w s given' (texts_of texts')) (sym d)
    (subst (λ (g : List (Option Answer)). AreAnswers w (seats ++ seat ∷ []) g (texts_of texts')) (sym (e ∙ ap (λ (a : Option Answer). given ++ a ∷ []) told))
    (subst (λ (t : List (List ℕ)). AreAnswers w (seats ++ seat ∷ []) (given ++ seat.answer ∷ []) t)
    (sym (ap (λ (ts : List (Vec ℕ)). texts_of ts) f ∙ map-append (λ (v : Vec ℕ). v.items) texts (text ∷ []) ∙ ap (λ (t : List ℕ). texts_of texts ++ t ∷ []) (is ∙ ap (λ (n : ℕ). answer_text w n seat.answer seat.text) (sym count))))
    (one_answer_more seats given (texts_of texts) seat are)))

-- one recovery more
pub recoveries_more : (first old new : WorldValue) (resolved : List (Result RecoveryEnd Refusal)) (text line : List ℕ) (p : ℕ) (came : Result RecoveryEnd Refusal) (resolved' : List (Result RecoveryEnd Refusal)) (text' : List ℕ)
    → AreRecoveries first resolved text old → length resolved ≡ p → IsWhole Recovery p (BeginRecover p) old came new → line ≡ reply_text new p (replied recoveries came) → resolved' ≡ resolved ++ came ∷ [] → text' ≡ text ++ line → AreRecoveries first resolved' text' new
recoveries_more first old new resolved text line p came resolved' text' are count whole is e f =
    subst (λ (t : List (Result RecoveryEnd Refusal)). AreRecoveries first t text' new) (sym e)
    (subst (λ (t : List ℕ). AreRecoveries first (resolved ++ came ∷ []) t new) (sym (f ∙ ap (λ (l : List ℕ). text ++ l) (is ∙ ap (λ (n : ℕ). reply_text new n (replied recoveries came)) (sym count))))
    (one_recovery_more resolved text old new came are (subst (λ (n : ℕ). IsWhole Recovery n (BeginRecover n) old came new) (sym count) whole)))

-- the processes up to one more
pub seats_more : (xs : List ProcessState) (p : ℕ) (x : ProcessState) → p < length xs → x ≡ get_or xs p x → map seat_of (take (p + 1) xs) ≡ map seat_of (take p xs) ++ seat_of x ∷ []
seats_more xs p x low at = map_more seat_of xs p x low ∙ ap (λ (v : ProcessState). map seat_of (take p xs) ++ seat_of v ∷ []) (sym at)

-- a list of one more is one longer
pub longer : {X : Type 0} (xs ys : List X) (x : X) (n : ℕ) → length xs ≡ n → ys ≡ xs ++ x ∷ [] → length ys ≡ n + 1
longer xs ys x n count e = ap (λ (l : List _). length l) e ∙ length_push xs x ∙ ap (λ (k : ℕ). k + 1) count

-- no answers
pub answers_none : (w : WorldValue) (seats : List PlainSeat) (given : List (Option Answer)) (texts : List (Vec ℕ)) → seats ≡ [] → given ≡ [] → texts ≡ [] → AreAnswers w seats given (texts_of texts)
answers_none w seats given texts d e f =
    subst (λ (s : List PlainSeat). AreAnswers w s given (texts_of texts)) (sym d) (subst (λ (g : List (Option Answer)). AreAnswers w [] g (texts_of texts)) (sym e) (subst (λ (t : List (Vec ℕ)). AreAnswers w [] [] (texts_of t)) (sym f) no_answer))

-- no recoveries
pub recoveries_none : (first : WorldValue) (resolved : List (Result RecoveryEnd Refusal)) (text : List ℕ) → resolved ≡ [] → text ≡ [] → AreRecoveries first resolved text first
recoveries_none first resolved text e f =
    subst (λ (g : List (Result RecoveryEnd Refusal)). AreRecoveries first g text first) (sym e) (subst (λ (t : List ℕ). AreRecoveries first [] t first) (sym f) no_recovery)

-- one text more
pub texts_more : (f : ℕ → List ℕ) (n : ℕ) (old new : List (Vec ℕ)) (text : Vec ℕ) → texts_of old ≡ texts_below f n → text.items ≡ f n → new ≡ old ++ text ∷ [] → texts_of new ≡ texts_below f (n + 1)
texts_more f n old new text are is e =
    ap (λ (ts : List (Vec ℕ)). texts_of ts) e ∙ map-append (λ (v : Vec ℕ). v.items) old (text ∷ []) ∙ ap (λ (l : List (List ℕ)). l ++ text.items ∷ []) are ∙ ap (λ (t : List ℕ). texts_below f n ++ t ∷ []) is ∙ ap (λ (k : ℕ). texts_below f k) (sym (add-one n))

-- two texts behind another
pub behind_it : (t a b x y mid new : List ℕ) → a ≡ x → b ≡ y → mid ≡ t ++ a → new ≡ mid ++ b → new ≡ t ++ (x ++ y)
behind_it t a b x y mid new is same e f =
    f ∙ ap (λ (l : List ℕ). l ++ b) (e ∙ ap (λ (l : List ℕ). t ++ l) is) ∙ ap (λ (l : List ℕ). (t ++ x) ++ l) same ∙ append_assoc t x y
