-- What the getters of `clap` read, by the rows of the matches.
use Rattle.std.proofs.Common.{◌≡◌, ◌∙◌, sym, subst, refl, ap, ap₂, codes, Bool, true, false, Option, Some, None, Result, Ok, Err, List, ℕ, option_map, ◌↔◌, ◌<◌, IfSome, IsTrue, inl}
use Rattle.std.specs.Option.{option_eq}
use mathlib.Core.Bool.{beq}
use Rattle.std.specs.Str.Parse.{ParsesBool, digits_value}
use Rattle.std.specs.Borrow.{Bor}
use Rattle.std.specs.Prelude.{Box}
use Rattle.std.specs.Box.{box_value}
use Rattle.clap.specs.Simple.{subcommand_rows}
use Rattle.clap.specs.declared.parser.matches.SubCommand.{SubCommand}
use Rattle.clap.specs.declared.parser.matches.ArgMatches.TheViews.{out-SubCommand}
use Rattle.std.specs.Net.Grammar.{IsSocketText}
use Rattle.std.specs.declared.net.socket_addr.SocketAddr.{SocketAddr}
use Rattle.log.specs.Level.{IsParsed, parse_filter}
use Rattle.log.specs.declared.level.LevelFilter.{LevelFilter}
use Rattle.ds_cli.specs.Addresses.{HasNoAddress}
use Rattle.ds_cli.specs.Servings.{HasNoLevel, HasNoNumber, IsNumberOf, IsNumberOr, IsWritten}
use Rattle.clap.specs.Words.{Row, Text, found_of, first_of, first_value, one_of, one_text, rows_of, ReadsOne}
use Rattle.clap.specs.declared.parser.matches.Found.{Found}
use Rattle.clap.proofs.WalkLemmas.{first_value-rows, one_text-rows}

-- a text that a getter gave stands in the rows
pub text_of : (f : Found) (name : Text) (r : Option (Bor Text)) (x : Bor Text) → option_map (λ s. s.now) r ≡ first_value f name → r ≡ Some x
    → first_of name (rows_of f) ≡ Some x.now
text_of f name r x gives is = sym (first_value-rows f name) ∙ sym gives ∙ ap (option_map (λ (s : Bor Text). s.now)) is

-- a text that a getter did not give does not stand in the rows
pub none_of : (f : Found) (name : Text) (r : Option (Bor Text)) → option_map (λ s. s.now) r ≡ first_value f name → r ≡ None → first_of name (rows_of f) ≡ None
none_of f name r gives is = sym (first_value-rows f name) ∙ sym gives ∙ ap (option_map (λ (s : Bor Text). s.now)) is

-- a text that a getter gave, if any, is that of the rows
pub text_is : (f : Found) (name : Text) (r : Option (Bor Text)) → option_map (λ s. s.now) r ≡ first_value f name → first_of name (rows_of f) ≡ option_map (λ s. s.now) r
text_is f name r gives = sym (first_value-rows f name) ∙ sym gives

-- what a typed getter gave is read from a text of the rows
pub read_of : {T E : Type 0} (gives : List ℕ → Result T E → Type 0) (f : Found) (name : Text) (r : Option T) (x : T)
    → (one_text f name ≡ None → r ≡ None) → ((t : List ℕ) → one_text f name ≡ Some t → ReadsOne gives t r) → r ≡ Some x
    → (t : Text) × (one_of name (rows_of f) ≡ Some t) × gives t (Ok x)
read_of {T = T} gives f name r x none value is = go (one_text f name) refl where
  go : (o : Option Text) → one_text f name ≡ o → (t : Text) × (one_of name (rows_of f) ≡ Some t) × gives t (Ok x)
  go None e = let bad : Some x ≡ None = sym is ∙ none e in cc
  go (Some t) e = (t, sym (one_text-rows f name) ∙ e, subst (ReadsOne gives t) is (value t e))

-- a number that was read of an option's text is its number
pub number_of : (f : Found) (name t : Text) (o : Option ℕ) → first_of name (rows_of f) ≡ Some t → IfSome o (IsWritten t) → IfSome o (IsNumberOf (rows_of f) name)
number_of f name t None has h = h
number_of f name t (Some n) has h = record { text = t; has = has; written = h }

-- the same, of an option that may be left out
pub given_number : (f : Found) (name t : Text) (default : ℕ) (o : Option ℕ) → first_of name (rows_of f) ≡ Some t → IfSome o (IsWritten t) → IfSome o (IsNumberOr (rows_of f) name default)
given_number f name t default None has h = h
given_number f name t default (Some n) has h = inl (record { text = t; has = has; written = h })

-- an option whose text is no number of 16 bits has none
pub no_number_of : (f : Found) (name t : Text) → first_of name (rows_of f) ≡ Some t → ((n : ℕ) → n < 65536 → IsWritten t n → ⊥) → HasNoNumber (rows_of f) name
no_number_of f name t has none n below is =
    let same : Some is.text ≡ Some t = sym is.has ∙ has in
    let text : is.text ≡ t = cc in
    none n below (subst (λ u. IsWritten u n) text is.written)

-- an option that has no text has no number
pub no_number_in : (f : Found) (name : Text) → first_of name (rows_of f) ≡ None → HasNoNumber (rows_of f) name
no_number_in f name none n below is = let bad : Some is.text ≡ None = sym is.has ∙ none in cc

-- an option has one number
pub one_number : (rows : List Row) (name : Text) (m n : ℕ) → IsNumberOf rows name m → IsNumberOf rows name n → m ≡ n
one_number rows name m n a b =
    let same : Some a.text ≡ Some b.text = sym a.has ∙ b.has in
    let text : a.text ≡ b.text = cc in
    a.written.value ∙ ap (digits_value 10) text ∙ sym b.written.value

-- an option that has no text has no address
pub no_text_of : (f : Found) (name : Text) (r : Option (Bor Text)) → option_map (λ s. s.now) r ≡ first_value f name → r ≡ None → HasNoAddress (rows_of f) name
no_text_of f name r gives is a has =
    let none : first_value f name ≡ None = sym gives ∙ ap (option_map (λ (s : Bor Text). s.now)) is in
    let bad : Some has.text ≡ None = sym has.has ∙ sym (first_value-rows f name) ∙ none in cc

-- an option whose text spells no address has none
pub no_address_of : (f : Found) (name : Text) (r : Option (Bor Text)) (x : Bor Text) → option_map (λ s. s.now) r ≡ first_value f name → r ≡ Some x
    → ((a : SocketAddr) → IsSocketText x.now a → ⊥) → HasNoAddress (rows_of f) name
no_address_of f name r x gives is none a has =
    let same : Some x.now ≡ Some has.text = sym (text_of f name r x gives is) ∙ has.has in
    let text : x.now ≡ has.text = cc in
    none a (subst (λ t. IsSocketText t a) (sym text) has.spells)

-- a flag that was read as set
pub set_of : {E : Type 0} (gives : List ℕ → Result Bool E → Type 0) → ((t : List ℕ) (r : Result Bool E) → gives t r → ParsesBool {E = E} t r)
    → (f : Found) (name : Text) (r : Option Bool) → (one_text f name ≡ None → r ≡ None)
    → ((t : List ℕ) → one_text f name ≡ Some t → ReadsOne gives t r) → r ≡ Some true → one_of name (rows_of f) ≡ Some (codes "true")
set_of {E = E} gives parses f name r none value is =
    let read = read_of gives f name r true none value is in
    let spelled : ParsesBool {E = E} read.0 (Ok true) = parses read.0 (Ok true) read.2 in
    read.1 ∙ ap Some spelled

-- a flag that is set is read so
pub reads_set : {E : Type 0} (gives : List ℕ → Result Bool E → Type 0) → ((t : List ℕ) (r : Result Bool E) → gives t r → ParsesBool {E = E} t r)
    → (f : Found) (name : Text) (r : Option Bool)
    → ((t : List ℕ) → one_text f name ≡ Some t → ReadsOne gives t r) → one_of name (rows_of f) ≡ Some (codes "true") → r ≡ Some true
reads_set {E = E} gives parses f name r value set = go r (value (codes "true") (one_text-rows f name ∙ set)) where
  go : (o : Option Bool) → ReadsOne gives (codes "true") o → o ≡ Some true
  go None h = absurd ((parses (codes "true") (Err h.0) h.1).0 refl)
  go (Some true) h = refl
  go (Some false) h = let bad = parses (codes "true") (Ok false) h in cc

-- whether a flag was read as set
pub flag_of : {E : Type 0} (gives : List ℕ → Result Bool E → Type 0) → ((t : List ℕ) (r : Result Bool E) → gives t r → ParsesBool {E = E} t r)
    → (f : Found) (name : Text) (r : Option Bool) (b : Bool) → (one_text f name ≡ None → r ≡ None)
    → ((t : List ℕ) → one_text f name ≡ Some t → ReadsOne gives t r) → b ≡ option_eq beq r (Some true)
    → IsTrue b ↔ (one_of name (rows_of f) ≡ Some (codes "true"))
flag_of gives parses f name r b none value is =
    (λ set. set_of gives parses f name r none value (go r (subst IsTrue is set)), λ set. subst IsTrue (sym (is ∙ ap (λ o. option_eq beq o (Some true)) (reads_set gives parses f name r value set))) refl) where
      go : (o : Option Bool) → IsTrue (option_eq beq o (Some true)) → o ≡ Some true
      go None h = cc
      go (Some true) h = refl
      go (Some false) h = cc

-- the subcommand that was entered, by its name and its rows
pub entered_is : {Z : Type 0} (o : Option (Box SubCommand Z)) (name : Text) (rows : List Row)
    → Some name ≡ option_map (λ b. (out-SubCommand (box_value b)).name.now) o → Some rows ≡ option_map (λ p. p.1) (subcommand_rows o)
    → subcommand_rows o ≡ Some (name, rows)
entered_is None name rows is have = cc
entered_is (Some b) name rows is have =
    let same_name : (out-SubCommand (box_value b)).name.now ≡ name = cc in
    let same_rows : rows_of (found_of (out-SubCommand (box_value b)).matches) ≡ rows = cc in
    ap₂ (λ (x : Text) (y : List Row). Some (x, y)) same_name same_rows

-- a level that was read of a text is the one that it names
pub level_of : {E : Type 0} (t : Text) (r : Result LevelFilter E) (x : LevelFilter) → IsParsed (parse_filter t) r → r ≡ Ok x → parse_filter t ≡ Some x
level_of {E = E} t r x parsed is = go (parse_filter t) (subst (IsParsed {E = E} (parse_filter t)) is parsed) where
  go : (o : Option LevelFilter) → IsParsed {E = E} o (Ok x) → o ≡ Some x
  go None h = let bad : false ≡ true = h in cc
  go (Some y) h = cc

-- an option that has no text names no level
pub no_level_text : (f : Found) (name : Text) (r : Option (Bor Text)) → option_map (λ s. s.now) r ≡ first_value f name → r ≡ None → HasNoLevel (rows_of f) name
no_level_text f name r gives is level has =
    let none : first_value f name ≡ None = sym gives ∙ ap (option_map (λ (s : Bor Text). s.now)) is in
    let bad : Some has.text ≡ None = sym has.has ∙ sym (first_value-rows f name) ∙ none in cc

-- an option of whose text no level was read names none
pub no_level_of : {E : Type 0} (f : Found) (name : Text) (r : Option (Bor Text)) (x : Bor Text) (read : Result LevelFilter E) (e : E)
    → option_map (λ s. s.now) r ≡ first_value f name → r ≡ Some x → IsParsed (parse_filter x.now) read → read ≡ Err e → HasNoLevel (rows_of f) name
no_level_of f name r x read e gives is parsed failed level has =
    let same : Some x.now ≡ Some has.text = sym (text_of f name r x gives is) ∙ has.has in
    let text : x.now ≡ has.text = cc in
    go (parse_filter x.now) (subst (IsParsed (parse_filter x.now)) failed parsed) (ap parse_filter text ∙ has.names) where
      go : (o : Option LevelFilter) → IsParsed o (Err e) → o ≡ Some level → ⊥
      go None h bad = cc
      go (Some y) h bad = cc
