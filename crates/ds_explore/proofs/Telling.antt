-- Scripts that are answered, and the outcomes that are written.
use Rattle.std.proofs.Common.{ℕ, zero, suc, arith, map, Ok, Err, ◌+◌, ◌||◌, add-one, ◌≡◌, ◌≤◌, ◌<◌, get_or, Bool, true, false, List, [], ◌++◌, Option, Some, length, take, refl, sym, subst, ap, ◌∙◌, ◌∷◌, append_assoc, inl, inr}
use Rattle.std.proofs.lemmas.List.{append-nil, length-take-le, map-append, take_all, take_more}
use Rattle.std.proofs.lemmas.List.Elements.{All-cons, All-tail}
use Rattle.std.specs.Global.{Vec}
use Rattle.std.proofs.KnownBytes.{Consumes-all}
use Rattle.std.specs.Prelude.{◌-◌, ◌^◌, ◌↔◌, All, IfOk, IfSome, IsTrue, None, Result, drop, min, nat_eq, slice_get}
use Rattle.std.specs.List.{ends_with}
use Rattle.std.specs.Str.{bytes_eq}
use Rattle.std.proofs.lemmas.Slice.Eq.{bytes_eq-Decides}
use Rattle.std.specs.Io.KnownBytes.{Consumes}
use Rattle.ds_script_io.specs.Input.{EndsWith}
use Rattle.ds_script_io.specs.declared.input.InputEnd.{InputEnd}
use Rattle.ds_script_io.specs.declared.input.InputEnd.TheVariants as inputs
use Rattle.ds_script_io.specs.declared.ending.ScriptEnd.TheVariants as ends
use Rattle.ds_script.specs.Script.{Finishes, Concludes}
use Rattle.ds_script_stops.specs.declared.reach.Short.{Short}
use Rattle.ds_script_stops.specs.declared.reach.Short.TheVariants as shorts
use Rattle.ds_script_stops.specs.Reaching.{MeetsFault}
use Rattle.ds_formula.specs.declared.cells.Shape.{Shape}
use Rattle.ds_explore.specs.declared.lines.FoundLine.{FoundLine}
use Rattle.ds_explore.specs.declared.exploration.Outcome.{Outcome}
use Rattle.ds_explore.specs.declared.exploration.Unexplored.{Unexplored}
use Rattle.ds_explore.specs.declared.exploration.Unexplored.TheVariants as unexplored
use Rattle.ds_explore.specs.declared.flaw.Flaw.{Flaw}
use Rattle.ds_explore.specs.declared.options.Options.{Options}
use Rattle.ds_explore.specs.declared.search.Start.{Start}
use Rattle.ds_explore_state.specs.declared.position.Position.{Position}
use Rattle.ds_explore.specs.declared.outcomes.Finding.{Finding}
use Rattle.ds_state.specs.Value.{WorldValue}
use Rattle.ds_explore_state.specs.declared.position.ProcessState.{ProcessState}
use Rattle.ds_explore_state.specs.States.{seat_of}
use Rattle.ds_explore.specs.declared.judge.Judge.{Judge}
use Rattle.ds_explore.specs.Judging.{ComesTo, EndsIn, IsFound, IsPart, texts_of}
use Rattle.ds_explore.specs.Whole.{Explores, IsAmong, LacksExploration, lacks_by}
use Rattle.ds_explore.specs.Lines.{IsLines, no_line, one_line_more, line_text, GoesOn}
use Rattle.ds_explore.specs.Explored.{AreOutcomes, IsOutcome, any_wrong, at_most_orders, end_lacking, is_wrong, joined, key_text, one_outcome, one_outcome_more, orders_to, outcome_text, outcomes_text, wrong_text, wrong_texts}

-- a reader over a script that has ended gave all of it
gave_all : (limit : ℕ) (script : List ℕ) (after : Option (List ℕ)) (ended failed : Bool) (bytes : List ℕ) (end : InputEnd)
    → Consumes (Some script) after bytes → EndsWith limit after ended failed bytes end → end ≡ inputs.Ended → bytes ≡ script
gave_all limit script after ended failed bytes end consumed h is =
    let whole = subst (λ (e : InputEnd). EndsWith limit after ended failed bytes e) is h in
    Consumes-all (Some script) after bytes [] bytes consumed whole.no_more refl

-- a script within the limit that was read whole and ended is carried out to its end
pub finishes_of : (limit : ℕ) (script : List ℕ) (after : Option (List ℕ)) (ended failed : Bool) (bytes out : List ℕ)
    → length script ≤ limit → Consumes (Some script) after bytes → Concludes limit after ended failed bytes out ends.Ended → Finishes true script out
finishes_of limit script after ended failed bytes out short consumed (inl ran) =
    let all = gave_all limit script after ended failed bytes ran.end consumed ran.ends_with ran.writes.0 in
    let e : take limit bytes ≡ script = ap (take limit) all ∙ take_all limit script short in
    subst (λ (s : List ℕ). Finishes true s out) e ran.writes.1
finishes_of limit script after ended failed bytes out short consumed (inr unread) = cc

-- ---- ends

-- there is no exploration of a script that does not end
pub lacks_short : (script : List ℕ) (short : Short) → MeetsFault true script (2 ^ 64 - 1) short → LacksExploration script (lacks_by short)
lacks_short script (shorts.Fault line kind) h = h
lacks_short script shorts.Ended h = tt
lacks_short script shorts.NoMemory h = tt

-- nothing is written where there is no exploration
pub explores_none : (script : List ℕ) (options : Options) (why : Unexplored) → LacksExploration script why → Explores script options [] (end_lacking why)
explores_none script options (unexplored.Fault line kind) h = (refl, h)
explores_none script options unexplored.TooLong h = (refl, h)
explores_none script options unexplored.FoundTooLong h = refl
explores_none script options unexplored.NoMemory h = refl

-- ---- texts, line by line

-- no line has the text of none
pub lines_none : (shape : Shape) (text : List ℕ) → text ≡ [] → IsLines shape text
lines_none shape text is = subst (λ (t : List ℕ). IsLines shape t) (sym is) no_line

-- one line more, after the text of those before
pub lines_more : (shape : Shape) (text bytes new : List ℕ) (line : FoundLine) → IsLines shape text → bytes ≡ line_text shape line → new ≡ text ++ bytes → IsLines shape new
lines_more shape text bytes new line lines is e =
    subst (λ (t : List ℕ). IsLines shape t) (sym (e ∙ ap (λ (t : List ℕ). text ++ t) is)) (one_line_more text line lines)

-- one flaw more, after the lines of those before
pub wrong_push : (flaws : List Flaw) (f : Flaw) → wrong_texts (flaws ++ f ∷ []) ≡ wrong_texts flaws ++ wrong_text f
wrong_push [] f = append-nil (wrong_text f)
wrong_push (g ∷ flaws) f = ap (λ (t : List ℕ). wrong_text g ++ t) (wrong_push flaws f) ∙ sym (append_assoc (wrong_text g) (wrong_texts flaws) (wrong_text f))

pub wrong_more : (flaws : List Flaw) (f : Flaw) (text line new : List ℕ) → text ≡ wrong_texts flaws → line ≡ wrong_text f → new ≡ text ++ line → new ≡ wrong_texts (flaws ++ f ∷ [])
wrong_more flaws f text line new are is e = e ∙ ap (λ (t : List ℕ). t ++ line) are ∙ ap (λ (t : List ℕ). wrong_texts flaws ++ t) is ∙ sym (wrong_push flaws f)

-- the same, by the place of the flaw
pub wrong_at : (flaws : List Flaw) (i : ℕ) (d : Flaw) (text line new : List ℕ) → i < length flaws → text ≡ wrong_texts (take i flaws) → line ≡ wrong_text (get_or flaws i d) → new ≡ text ++ line → new ≡ wrong_texts (take (i + 1) flaws)
wrong_at flaws i d text line new low are is e =
    wrong_more (take i flaws) (get_or flaws i d) text line new are is e ∙ ap (λ (fs : List Flaw). wrong_texts fs) (sym (take_more flaws i d low))

-- one text more, after those before
pub joined_push : (texts : List (List ℕ)) (text : List ℕ) → joined (texts ++ text ∷ []) ≡ joined texts ++ text
joined_push [] text = append-nil text
joined_push (t ∷ texts) text = ap (λ (r : List ℕ). t ++ r) (joined_push texts text) ∙ sym (append_assoc t (joined texts) text)

-- the same, by the place of the text
pub joined_at : (texts : List (Vec ℕ)) (i : ℕ) (t : Vec ℕ) (text new : List ℕ) → i < length texts → t ≡ get_or texts i t → text ≡ joined (texts_of (take i texts)) → new ≡ text ++ t.items → new ≡ joined (texts_of (take (i + 1) texts))
joined_at texts i t text new low at is e =
    e ∙ ap (λ (b : List ℕ). b ++ t.items) is ∙ sym (joined_push (texts_of (take i texts)) t.items)
    ∙ ap (λ (ts : List (List ℕ)). joined ts) (sym (map-append (λ (v : Vec ℕ). v.items) (take i texts) (t ∷ [])))
    ∙ ap (λ (vs : List (Vec ℕ)). joined (texts_of vs)) (ap (λ (u : Vec ℕ). take i texts ++ u ∷ []) at ∙ sym (take_more texts i t low))

-- ---- outcomes

-- the texts of one more
texts_push : (texts more : List (Vec ℕ)) (text : Vec ℕ) → more ≡ texts ++ text ∷ [] → texts_of texts ++ text.items ∷ [] ≡ texts_of more
texts_push texts more text is = sym (ap (λ (ts : List (Vec ℕ)). texts_of ts) is ∙ map-append (λ (v : Vec ℕ). v.items) texts (text ∷ []))

-- the first outcome
pub outcomes_first : (script : List ℕ) (start : Start) (key : Vec ℕ) (keys : List (Vec ℕ)) (outcome : Outcome) (outcomes : List Outcome) → keys ≡ key ∷ [] → outcomes ≡ outcome ∷ [] → IsOutcome script start key.items outcome → AreOutcomes script start (texts_of keys) outcomes
outcomes_first script start key keys outcome outcomes e f is =
    subst (λ (os : List Outcome). AreOutcomes script start (texts_of keys) os) (sym f) (subst (λ (ks : List (Vec ℕ)). AreOutcomes script start (texts_of ks) (outcome ∷ [])) (sym e) (one_outcome key.items outcome is))

-- one outcome more after the others
pub outcomes_more : (script : List ℕ) (start : Start) (keys : List (Vec ℕ)) (outcomes : List Outcome) (key : Vec ℕ) (outcome : Outcome) (more : List (Vec ℕ)) (new : List Outcome) → AreOutcomes script start (texts_of keys) outcomes → IsOutcome script start key.items outcome
    → All (λ other. other ≡ key.items → ⊥) (texts_of keys) → more ≡ keys ++ key ∷ [] → new ≡ outcomes ++ outcome ∷ [] → AreOutcomes script start (texts_of more) new
outcomes_more script start keys outcomes key outcome more new before is fresh e f =
    subst (λ (os : List Outcome). AreOutcomes script start (texts_of more) os) (sym f)
    (subst (λ (ks : List (List ℕ)). AreOutcomes script start ks (outcomes ++ outcome ∷ [])) (texts_push keys more key e) (one_outcome_more (texts_of keys) outcomes key.items outcome before is fresh))

-- ---- texts of outcomes

outcomes_push : (n : ℕ) (outcomes : List Outcome) (outcome : Outcome) → outcomes_text n (outcomes ++ outcome ∷ []) ≡ outcomes_text n outcomes ++ outcome_text (suc (length outcomes + n)) outcome
outcomes_push n [] outcome =
    let same : n ≡ length {A = Outcome} [] + n = omega arith in
    append-nil (outcome_text (suc n) outcome) ∙ ap (λ (k : ℕ). outcome_text (suc k) outcome) same
outcomes_push n (first ∷ outcomes) outcome =
    let same : length outcomes + suc n ≡ suc (length outcomes) + n = omega arith in
    ap (λ (t : List ℕ). outcome_text (suc n) first ++ t) (outcomes_push (suc n) outcomes outcome ∙ ap (λ (k : ℕ). outcomes_text (suc n) outcomes ++ outcome_text (suc k) outcome) same)
    ∙ sym (append_assoc (outcome_text (suc n) first) (outcomes_text (suc n) outcomes) (outcome_text (suc (suc (length outcomes) + n)) outcome))

-- one outcome's text more, after those before
pub outcomes_at : (outcomes : List Outcome) (i : ℕ) (outcome : Outcome) (old more new : List ℕ) → i < length outcomes → outcome ≡ get_or outcomes i outcome → old ≡ outcomes_text 0 (take i outcomes) → more ≡ outcome_text (i + 1) outcome → new ≡ old ++ more
    → new ≡ outcomes_text 0 (take (i + 1) outcomes)
outcomes_at outcomes i outcome old more new low at before is e =
    let number : i + 1 ≡ suc (length (take i outcomes) + 0) = omega (arith, length-take-le i outcomes (omega (arith, low))) in
    e ∙ ap (λ (t : List ℕ). t ++ more) before ∙ ap (λ (t : List ℕ). outcomes_text 0 (take i outcomes) ++ t) (is ∙ ap (λ (k : ℕ). outcome_text k outcome) number)
    ∙ sym (outcomes_push 0 (take i outcomes) outcome) ∙ ap (λ (os : List Outcome). outcomes_text 0 os) (ap (λ (o : Outcome). take i outcomes ++ o ∷ []) at ∙ sym (take_more outcomes i outcome low))

orders_push : (outcomes : List Outcome) (outcome : Outcome) → orders_to (outcomes ++ outcome ∷ []) ≡ orders_to outcomes + outcome.orders
orders_push [] outcome = omega arith
orders_push (first ∷ outcomes) outcome = omega (arith, orders_push outcomes outcome)

-- the orders of one more, up to the most that is counted
pub orders_at : (outcomes : List Outcome) (i : ℕ) (outcome : Outcome) (old new : ℕ) → i < length outcomes → outcome ≡ get_or outcomes i outcome → old ≡ at_most_orders (orders_to (take i outcomes)) → new ≡ at_most_orders (old + (get_or outcomes i outcome).orders)
    → new ≡ at_most_orders (orders_to (take (i + 1) outcomes))
orders_at outcomes i outcome old new low at before is =
    is ∙ ap (λ (o : Outcome). at_most_orders (old + o.orders)) (sym at) ∙ ap (λ (n : ℕ). at_most_orders (n + outcome.orders)) before ∙ cap (orders_to (take i outcomes)) outcome.orders (2 ^ 128 - 1)
    ∙ ap (λ (n : ℕ). at_most_orders n) (sym (orders_push (take i outcomes) outcome)) ∙ ap (λ (os : List Outcome). at_most_orders (orders_to os)) (ap (λ (o : Outcome). take i outcomes ++ o ∷ []) at ∙ sym (take_more outcomes i outcome low))
  where
    cap : (a b most : ℕ) → min (min a most + b) most ≡ min (a + b) most
    cap a b most = omega arith

or_assoc : (a b c : Bool) → (a || b) || c ≡ a || (b || c)
or_assoc true b c = refl
or_assoc false b c = refl

or_false : (a : Bool) → a || false ≡ a
or_false true = refl
or_false false = refl

wrong_after : (outcomes : List Outcome) (outcome : Outcome) → any_wrong (outcomes ++ outcome ∷ []) ≡ any_wrong outcomes || is_wrong outcome.flaws.items
wrong_after [] outcome = or_false (is_wrong outcome.flaws.items)
wrong_after (first ∷ outcomes) outcome = ap (λ (b : Bool). is_wrong first.flaws.items || b) (wrong_after outcomes outcome) ∙ sym (or_assoc (is_wrong first.flaws.items) (any_wrong outcomes) (is_wrong outcome.flaws.items))

-- one outcome more with which something is wrong, or nothing
pub any_at : (outcomes : List Outcome) (i : ℕ) (outcome : Outcome) (old more new : Bool) → i < length outcomes → outcome ≡ get_or outcomes i outcome → old ≡ any_wrong (take i outcomes) → more ≡ is_wrong outcome.flaws.items → new ≡ old || more → new ≡ any_wrong (take (i + 1) outcomes)
any_at outcomes i outcome old more new low at before is e =
    e ∙ ap (λ (b : Bool). b || more) before ∙ ap (λ (b : Bool). any_wrong (take i outcomes) || b) is ∙ sym (wrong_after (take i outcomes) outcome)
    ∙ ap (λ (os : List Outcome). any_wrong os) (ap (λ (o : Outcome). take i outcomes ++ o ∷ []) at ∙ sym (take_more outcomes i outcome low))

-- ---- parts of texts

-- a part that was looked for
pub part_of : (text part items : List ℕ) → part ≡ items → IsPart text part → IsPart text items
part_of text part items is h = subst (λ (p : List ℕ). IsPart text p) is h

-- a text was found to end so
pub ends_so : (text tail items : List ℕ) (found : Bool) → tail ≡ items → found ≡ ends_with nat_eq text tail → found ≡ true → ends_with nat_eq text items ≡ true
ends_so text tail items found is e found_so = sym (ap (λ (t : List ℕ). ends_with nat_eq text t) is) ∙ sym e ∙ found_so

-- a text was found to be another one
pub differs : (read items key : List ℕ) → read ≡ items → false ≡ bytes_eq read key → items ≡ key → ⊥
differs read items key is unlike same =
    let bad : false ≡ true = unlike ∙ (bytes_eq-Decides read key).1 (is ∙ same) in
    cc

-- the keys are other ones than this
pub fresh_as : (keys now : List (Vec ℕ)) (key read : List ℕ) → now ≡ keys → read ≡ key → All (λ other. other ≡ read → ⊥) (texts_of now) → All (λ other. other ≡ key → ⊥) (texts_of keys)
fresh_as keys now key read is same h =
    subst (λ (ks : List (Vec ℕ)). All (λ other. other ≡ key → ⊥) (texts_of ks)) is (subst (λ (k : List ℕ). All (λ other. other ≡ k → ⊥) (texts_of now)) same h)

-- ---- what is among the outcomes

-- a key that was found has its number
pub key_there : (keys : List (Vec ℕ)) (n : ℕ) (found : Vec ℕ) (key : List ℕ) → n < length keys → found ≡ get_or keys n found → found.items ≡ key → slice_get (texts_of keys) n ≡ Some key
key_there keys n found key low at is = there keys n low at ∙ ap (λ (t : List ℕ). Some t) is
  where
    there : (keys : List (Vec ℕ)) (n : ℕ) → n < length keys → found ≡ get_or keys n found → slice_get (texts_of keys) n ≡ Some found.items
    there [] n low at = absurd (let bad : ⊥ = omega (arith, low) in bad)
    there (k ∷ keys) zero low at = ap (λ (v : Vec ℕ). Some v.items) (sym at)
    there (k ∷ keys) (suc n) low at = there keys n (omega (arith, low)) at

-- what an order comes to is the outcome whose key was found
pub among_of : (r : Option ℕ) (judge : Judge) (keys : List (List ℕ)) (x : Position) (crashed : Bool) (found : Finding) (key : List ℕ) → ComesTo judge x crashed found → key ≡ key_text found → IfSome r (λ n. slice_get keys n ≡ Some key) → IfSome r (IsAmong judge keys x crashed)
among_of (Some n) judge keys x crashed found key comes is there = record { found = found; comes = comes; there = there ∙ ap (λ (t : List ℕ). Some t) is }
among_of None judge keys x crashed found key comes is there = tt

-- what is found in the world that an order leaves is what it comes to
pub comes_ok : {E : Type 0} (r : Result Finding E) (judge : Judge) (x : Position) (crashed : Bool) (copy begun : WorldValue) (seats : List ProcessState) → copy ≡ x.world → EndsIn crashed copy begun → seats ≡ x.seats.items → IfOk r (IsFound judge begun (map seat_of seats) crashed)
    → IfOk r (ComesTo judge x crashed)
comes_ok (Ok found) judge x crashed copy begun seats e ends f h = record {
  begun = begun;
  ends = subst (λ (w : WorldValue). EndsIn crashed w begun) e ends;
  found_so = subst (λ (l : List ProcessState). IsFound judge begun (map seat_of l) crashed found) f h;
}
comes_ok (Err e) judge x crashed copy begun seats d ends f h = tt

-- one part more stands in the text
pub parts_more : (text : List ℕ) (parts : List (Vec ℕ)) (first : Vec ℕ) (b : Bool) → 1 ≤ length parts → first ≡ get_or parts 0 first → IsPart text first.items → IsTrue b ↔ All (IsPart text) (texts_of (drop 1 parts)) → IsTrue b ↔ All (IsPart text) (texts_of parts)
parts_more text [] first b some is here rest = absurd (let bad : ⊥ = omega (arith, some) in bad)
parts_more text (part ∷ parts) first b some is here rest = (
  (λ yes. All-cons (IsPart text) part.items (texts_of parts) (subst (λ (v : Vec ℕ). IsPart text v.items) is here) (rest.0 yes)),
  (λ all. rest.1 (All-tail (IsPart text) part.items (texts_of parts) all)),
)
