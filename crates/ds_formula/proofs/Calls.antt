-- Calls and their arguments.
use Rattle.std.proofs.Common.{◌≡◌, ℕ, ◌+◌, ◌<◌, ◌≤◌, Bool, true, false, cond, List, [], ◌∷◌, ◌++◌, map, length, length-append, Ok, Err, refl, sym, ap, subst, ◌∙◌, arith}
use Rattle.ds_formula.specs.declared.content.Function.{Function}
use Rattle.ds_formula.specs.declared.content.Tree.{Tree}
use Rattle.ds_formula.specs.declared.fault.FaultKind.TheVariants.{WrongArguments}
use Rattle.ds_formula.specs.declared.ranges.Ranges.{Ranges}
use Rattle.ds_formula.specs.declared.ranges.Ranges.TheVariants.{Placed, Bare, Misplaced}
use Rattle.ds_formula.specs.declared.tokens.Stop.{Stop}
use Rattle.ds_formula.specs.declared.tokens.Follow.TheVariants.{Close, Semicolon}
use Rattle.ds_formula.specs.declared.parser.Refusal.{Refusal}
use Rattle.ds_formula.specs.declared.parser.Refusal.TheVariants.{Memory, Stopped}
use Rattle.ds_formula.specs.Plain.{Formula, Formulas, Nothing, Then, listed, count, formula}
use Rattle.ds_formula.specs.Bytes.{begins, skipped, byte_at}
use Rattle.ds_formula.specs.Functions.{Scope, takes}
use Rattle.ds_formula.specs.Ranges.{first_of, as_argument}
use Rattle.ds_formula.specs.Tokens.{follow_at}
use Rattle.ds_formula.specs.Forms.{Arguments, last, more, Level, NoSemicolon, bracketed}
use Rattle.ds_formula.specs.Forms as forms
use Rattle.ds_formula.specs.Turns.{Bracket, Call, Due, AnOperand, AnOperator, FirstArgument, ItsBracket, by_bracket, by_follow, turn, Stops, Goes, wrong_arguments, Walk, stay, step, Faulty}
use Rattle.ds_formula.specs.Parsing.{Refuses, CallRefuses, ArgumentsRefuse, close_at}
use Rattle.ds_formula.proofs.Walks.{joined, follow_step, bracket_step, first_turn, first_walk, arguments_walk, arguments_open, level_walk}
use Rattle.ds_formula.proofs.Steps.{NoOperator, call_open}
use Rattle.ds_formula.proofs.Parses.{no_operator}

-- more formulas after these
abbrev pub followed : List Formula → Formulas → Formulas
followed [] fs = fs
followed (g ∷ gs) fs = Then g (followed gs fs)

-- the arguments so far; the last one may be followed by more
pub record ArgumentsSoFar (s : Scope) (g : Function) (text : List ℕ) (fs : List Formula) (r : Ranges) (rest : List ℕ) : Type 0 where
  pub before : List Formula
  pub earlier : Ranges
  pub latest : Formula
  pub latest_ranges : Ranges
  pub from : List ℕ
  pub all : fs ≡ before ++ latest ∷ []
  pub ranges : r ≡ first_of earlier (as_argument g latest_ranges)
  pub found : Level s 0 from latest latest_ranges rest
  pub reaches : (gs : Formulas) (t : Ranges) (end : List ℕ) → Arguments s g from gs t end → Arguments s g text (followed before gs) (first_of earlier t) end
  pub walked : (f : Function) (n name : ℕ) (i : List Bracket) → Walk s AnOperand (Call f n name ∷ i) text AnOperator (Call f (n + length before) name ∷ i) rest
  pub shorter : length rest < length text

-- the first expression in the brackets is the arguments so far
pub arguments_first : (s : Scope) (g : Function) (text : List ℕ) (f : Formula) (r : Ranges) (rest : List ℕ) → Level s 0 text f r rest → length rest < length text → ArgumentsSoFar s g text (f ∷ []) (as_argument g r) rest
arguments_first s g text f r rest v k = record {
  before = [];
  earlier = Placed;
  latest = f;
  latest_ranges = r;
  from = text;
  all = refl;
  ranges = refl;
  found = v;
  reaches = λ gs t end a. a;
  walked = λ h n name i. subst (λ (m : ℕ). Walk s AnOperand (Call h n name ∷ i) text AnOperator (Call h m name ∷ i) rest) (let x : n ≡ n + 0 = omega arith in x) (level_walk v (Call h n name ∷ i));
  shorter = k;
}

followed_more : (before : List Formula) (f : Formula) (gs : Formulas) → followed before (Then f gs) ≡ followed (before ++ f ∷ []) gs
followed_more [] f gs = refl
followed_more (g ∷ fs) f gs = ap (Then g) (followed_more fs f gs)

followed_listed : (before : List Formula) (f : Formula) → followed before (Then f Nothing) ≡ listed (before ++ f ∷ [])
followed_listed [] f = refl
followed_listed (g ∷ fs) f = ap (Then g) (followed_listed fs f)

first_assoc : (a b c : Ranges) → first_of a (first_of b c) ≡ first_of (first_of a b) c
first_assoc Placed b c = refl
first_assoc (Bare n) b c = refl
first_assoc (Misplaced n) b c = refl

-- a semicolon and one more expression extend the arguments so far
pub arguments_more : (s : Scope) (g : Function) (text : List ℕ) (fs : List Formula) (r : Ranges) (rest after : List ℕ) (f : Formula) (t : Ranges) (behind : List ℕ)
    → ArgumentsSoFar s g text fs r rest → follow_at rest ≡ Ok (Semicolon, after) → length after ≤ length rest → Level s 0 after f t behind → length behind < length after
    → ArgumentsSoFar s g text (fs ++ f ∷ []) (first_of r (as_argument g t)) behind
arguments_more s g text fs r rest after f t behind so h shrinks v k = record {
  before = so.before ++ so.latest ∷ [];
  earlier = r;
  latest = f;
  latest_ranges = t;
  from = after;
  all = ap (λ (x : List Formula). x ++ f ∷ []) so.all;
  ranges = refl;
  found = v;
  reaches = λ gs u end a.
      let b = so.reaches (Then so.latest gs) (first_of (as_argument g so.latest_ranges) u) end (more so.found h a) in
      let c : Arguments s g text (followed (so.before ++ so.latest ∷ []) gs) (first_of so.earlier (first_of (as_argument g so.latest_ranges) u)) end =
      subst (λ (x : Formulas). Arguments s g text x (first_of so.earlier (first_of (as_argument g so.latest_ranges) u)) end) (followed_more so.before so.latest gs) b in
      subst (λ (x : Ranges). Arguments s g text (followed (so.before ++ so.latest ∷ []) gs) x end) (first_assoc so.earlier (as_argument g so.latest_ranges) u ∙ ap (λ (x : Ranges). first_of x u) (sym so.ranges)) c;
  walked = λ p n name i.
      let m = n + length so.before in
      let e : m + 1 ≡ n + length (so.before ++ so.latest ∷ []) = omega (arith, length-append so.before (so.latest ∷ [])) in
      joined (so.walked p n name i)
      (joined (follow_step h refl)
      (subst (λ (x : ℕ). Walk s AnOperand (Call p (m + 1) name ∷ i) after AnOperator (Call p x name ∷ i) behind) e (level_walk v (Call p (m + 1) name ∷ i))));
  shorter = omega (arith, so.shorter, k, shrinks);
}

-- the arguments so far are all, where no semicolon follows
pub arguments_done : (s : Scope) (g : Function) (text : List ℕ) (fs : List Formula) (r : Ranges) (rest : List ℕ) → ArgumentsSoFar s g text fs r rest → NoSemicolon rest → Arguments s g text (listed fs) r rest
arguments_done s g text fs r rest so n =
    let a = so.reaches (Then so.latest Nothing) (as_argument g so.latest_ranges) rest (last so.found n) in
    let b : Arguments s g text (listed fs) (first_of so.earlier (as_argument g so.latest_ranges)) rest =
    subst (λ (x : Formulas). Arguments s g text x (first_of so.earlier (as_argument g so.latest_ranges)) rest) (followed_listed so.before so.latest ∙ ap listed (sym so.all)) a in
    subst (λ (x : Ranges). Arguments s g text (listed fs) x rest) (sym so.ranges) b

-- a fault in an argument after a semicolon is one of the arguments
pub arguments_refused : (s : Scope) (g : Function) (text : List ℕ) (fs : List Formula) (r : Ranges) (rest after : List ℕ) (e : Refusal)
    → ArgumentsSoFar s g text fs r rest → follow_at rest ≡ Ok (Semicolon, after) → Refuses s after e → ArgumentsRefuse s text e
arguments_refused s g text fs r rest after Memory so h x = tt
arguments_refused s g text fs r rest after (Stopped stop) so h x = λ f n name i.
    let m = n + length so.before in
    let y = x (Call f (m + 1) name ∷ i) in
    (y.0, y.1, y.2, joined (so.walked f n name i) (joined (follow_step h refl) y.3), y.4)

-- a fault in the first argument is one of the arguments
pub arguments_first_refused : (s : Scope) (text : List ℕ) (e : Refusal) → Refuses s text e → ArgumentsRefuse s text e
arguments_first_refused s text Memory x = tt
arguments_first_refused s text (Stopped stop) x = λ f n name i. x (Call f n name ∷ i)

-- ---- calls, after the name

-- a bracket, arguments and a closing bracket are a call, where the function takes that number
pub call_done : (s : Scope) (g : Function) (text inner : List ℕ) (fs : Formulas) (r : Ranges) (mid rest : List ℕ) → Ok inner ≡ byte_at 40 (skipped text) → Arguments s g inner fs r mid → follow_at mid ≡ Ok (Close, rest) → takes g (count fs) ≡ true
    → forms.Call s g text fs r rest
call_done s g text inner fs r mid rest h v k y = bracketed (sym h) v k y

-- a name without a bracket after it is a fault of the call
pub call_no_bracket : (s : Scope) (g : Function) (name : ℕ) (text : List ℕ) (stop : Stop) → Err stop ≡ byte_at 40 (skipped text) → CallRefuses s g name text (Stopped stop)
call_no_bracket s g name text stop e = λ i. (ItsBracket g name, i, text, stay, ap (by_bracket g name i) (sym e))

-- a call with nothing in its brackets has the wrong number of arguments
pub call_empty : (s : Scope) (g : Function) (name : ℕ) (text inner : List ℕ) → Ok inner ≡ byte_at 40 (skipped text) → begins 41 (skipped inner) ≡ true → CallRefuses s g name text (Stopped (record { kind = WrongArguments; left = name }))
call_empty s g name text inner h e = λ i. (
  FirstArgument name,
  Call g 1 name ∷ i,
  inner,
  bracket_step (sym h),
  ap (λ (t : Bool). cond t (wrong_arguments name) (turn s AnOperand (Call g 1 name ∷ i) inner)) e,
)

first_cases : (s : Scope) (name : ℕ) {d e : Due} {i j : List Bracket} {text rest : List ℕ} (stop : Stop) → d ≡ AnOperand → begins 41 (skipped text) ≡ false → Walk s d i text e j rest → turn s e j rest ≡ Stops stop → Faulty s (FirstArgument name) i text stop
first_cases s name {i = i} {text = text} stop same n stay f =
    (FirstArgument name, i, text, stay, first_turn s i text name n ∙ subst (λ (x : Due). turn s x i text ≡ Stops stop) same f)
first_cases s name {i = i} {text = text} stop same n (step {e = e} {f = f} {j = j} {k = k} {next = next} {rest = rest} h v) q =
    (f, k, rest, step (first_turn s i text name n ∙ subst (λ (x : Due). turn s x i text ≡ Goes e j next) same h) v, q)

-- a fault among the arguments is one of the call
pub call_arguments_refused : (s : Scope) (g : Function) (name : ℕ) (text inner : List ℕ) (e : Refusal) → Ok inner ≡ byte_at 40 (skipped text) → begins 41 (skipped inner) ≡ false → ArgumentsRefuse s inner e → CallRefuses s g name text e
call_arguments_refused s g name text inner Memory h n x = tt
call_arguments_refused s g name text inner (Stopped stop) h n x = λ i.
    let y = x g 1 name i in
    let z = first_cases s name stop refl n y.3 y.4 in
    (z.0, z.1, z.2, joined (bracket_step (sym h)) z.3, z.4)

-- after the arguments is neither an operator nor a semicolon
pub record Ended (text : List ℕ) : Type 0 where
  pub no_operator : NoOperator text
  pub no_semicolon : NoSemicolon text

arguments_end : (s : Scope) (g : Function) (text : List ℕ) (fs : Formulas) (r : Ranges) (rest : List ℕ) → Arguments s g text fs r rest → Ended rest
arguments_end s g text fs r rest (last v n) = record { no_operator = no_operator s text _ _ rest v; no_semicolon = n }
arguments_end s g text fs r rest (more v h w) = arguments_end s g _ _ _ rest w

all_walk : {s : Scope} {g : Function} {text inner : List ℕ} {fs : Formulas} {r : Ranges} {mid : List ℕ} (name : ℕ) (i : List Bracket) → byte_at 40 (skipped text) ≡ Ok inner → Arguments s g inner fs r mid
    → Walk s (ItsBracket g name) i text AnOperator (Call g (count fs) name ∷ i) mid
all_walk {fs = fs} name i h v = joined (bracket_step h) (first_walk name (arguments_open v) (arguments_walk v 1 (count fs) name i (omega arith)))

-- arguments without a closing bracket after them are a fault of the call
pub call_unclosed : (s : Scope) (g : Function) (name : ℕ) (text inner : List ℕ) (fs : Formulas) (r : Ranges) (mid : List ℕ) (stop : Stop)
    → Ok inner ≡ byte_at 40 (skipped text) → Arguments s g inner fs r mid → Err stop ≡ close_at mid → CallRefuses s g name text (Stopped stop)
call_unclosed s g name text inner fs r mid stop h v e = λ i.
    let end = arguments_end s g inner fs r mid v in
    (AnOperator, Call g (count fs) name ∷ i, mid, all_walk name i (sym h) v, call_open g (count fs) name i mid stop end.no_operator end.no_semicolon e)

-- as many arguments as the function doesn't take are a fault at its name
pub call_wrong : (s : Scope) (g : Function) (name : ℕ) (text inner : List ℕ) (fs : Formulas) (r : Ranges) (mid rest : List ℕ)
    → Ok inner ≡ byte_at 40 (skipped text) → Arguments s g inner fs r mid → follow_at mid ≡ Ok (Close, rest) → takes g (count fs) ≡ false
    → CallRefuses s g name text (Stopped (record { kind = WrongArguments; left = name }))
call_wrong s g name text inner fs r mid rest h v k y = λ i. (
  AnOperator,
  Call g (count fs) name ∷ i,
  mid,
  all_walk name i (sym h) v,
  ap (by_follow (Call g (count fs) name ∷ i) mid) k ∙ ap (λ (t : Bool). cond t (Goes AnOperator i rest) (wrong_arguments name)) y,
)

count_listed : (ts : List Tree) → count (listed (map formula ts)) ≡ length ts
count_listed [] = refl
count_listed (t ∷ ts) = let e = count_listed ts in omega (arith, e)

-- whether a function takes that number of arguments is shown by the length of the list of their trees
pub takes_is : (g : Function) (ts : List Tree) (n : ℕ) (b : Bool) → b ≡ takes g n → n ≡ length ts → takes g (count (listed (map formula ts))) ≡ b
takes_is g ts n b e h = ap (takes g) (count_listed ts ∙ sym h) ∙ sym e
