-- Lines that have a key say nothing else.
use Rattle.std.proofs.Common.{◌≡◌, ◌∙◌, ◌+◌, ◌&&◌, ℕ, List, Bool, true, false, Option, Some, None, ap, sym, refl, bytes_eq, codes, is_none, nat_le, if◌then◌else◌, ⊎_elim}
use Rattle.std.proofs.lemmas.Bool.{cases_Bool}
use Rattle.std.proofs.lemmas.Slice.Eq.{bytes_eq-Decides}
use Rattle.ds_key.specs.Keys.{is_key}
use Rattle.ds_layout.specs.declared.layout.Layout.{Layout}
use Rattle.ds_script_io.specs.Fields.{◌>>=◌, is_skipped, number_field}
use Rattle.ds_script_io.specs.ScriptLines.{word_of}
use Rattle.ds_store_journal.specs.Joining.{joins_in}
use Rattle.ds_store_journal.specs.Journals.{after_verb, edit_in}
use Rattle.ds_store_journal.specs.Standings.{EDITS_LIMIT, before_in, counted, last_in, noted, standing_after}
use Rattle.ds_store_journal.specs.declared.standing.Mention.{Mention}
use Rattle.ds_store_journal.specs.declared.standing.Standing.{Standing}
use Rattle.ds_store_keys.specs.Keys.{KeptKey, key_in, named_after}
use Rattle.ds_store_keys.proofs.Plain.{not_skipped}

-- a line that has one is skipped
pub skipped : (layout : Layout) (line : List ℕ) (k : KeptKey) → key_in layout line ≡ Some k → is_skipped line ≡ true
skipped layout line k has =
    ⊎_elim
    (λ yes. yes)
    (λ no. let bad : None ≡ Some k = sym (not_skipped layout line no) ∙ has in absurd cc)
    (cases_Bool (is_skipped line))

-- the first word after the `#` of such a line
pub record SaysKey (line : List ℕ) : Type 0 where
  rest : List ℕ
  after : after_verb (codes "#") line ≡ Some rest
  word : (word_of rest).0 ≡ codes "key"

-- which key those words say
key_by : Layout → List ℕ → Option KeptKey
key_by layout words =
    if is_key (word_of words).0
    then (named_after layout (word_of words).1 >>= λ edit. Some (record { key = (word_of words).0; edit = edit }))
    else None

by_word : (layout : Layout) (rest : List ℕ) (k : KeptKey) (b : Bool) → bytes_eq (word_of rest).0 (codes "key") ≡ b → ((if b then (word_of rest).1 else None) >>= key_by layout) ≡ Some k
    → (word_of rest).0 ≡ codes "key"
by_word layout rest k true is says = (bytes_eq-Decides (word_of rest).0 (codes "key")).0 is
by_word layout rest k false is says = absurd cc

by_hash : (layout : Layout) (line : List ℕ) (k : KeptKey) (o : Option (List ℕ)) → after_verb (codes "#") line ≡ o
    → (o >>= λ rest. after_verb (codes "key") rest >>= key_by layout) ≡ Some k → SaysKey line
by_hash layout line k None is says = absurd cc
by_hash layout line k (Some rest) is says = record { rest = rest; after = is; word = by_word layout rest k (bytes_eq (word_of rest).0 (codes "key")) refl says }

says_key : (layout : Layout) (line : List ℕ) (k : KeptKey) → key_in layout line ≡ Some k → SaysKey line
unfolding key_by
says_key layout line k has = by_hash layout line k (after_verb (codes "#") line) refl has

-- so another verb does not stand there
no_verb : (line verb : List ℕ) → bytes_eq (codes "key") verb ≡ false → SaysKey line → (after_verb (codes "#") line >>= after_verb verb) ≡ None
no_verb line verb apart says =
    ap (λ o. o >>= after_verb verb) says.after
    ∙ (ap (λ w. if bytes_eq w verb then (word_of says.rest).1 else None) says.word ∙ ap (λ b. if b then (word_of says.rest).1 else None) apart)

-- how a process stood, by the words after `# before`
before_by : Layout → Option (List ℕ) → Option Mention
before_by layout words =
    number_field layout.processes words >>= λ process.
    number_field EDITS_LIMIT process.1 >>= λ edits.
    last_in layout.shape edits.0 edits.1 >>= λ standing.
    Some (record { process = process.0; standing = standing })

no_mention : (layout : Layout) (line : List ℕ) → SaysKey line → before_in layout line ≡ None
unfolding before_by
no_mention layout line says = ap (before_by layout) (no_verb line (codes "before") refl says)

-- it says of no process how it stood
pub no_standing : (layout : Layout) (line : List ℕ) (k : KeptKey) (process : ℕ) (s : Standing) → key_in layout line ≡ Some k → standing_after layout process s line ≡ s
no_standing layout line k process s has =
    ap (λ b. if b then noted process s (before_in layout line) else counted process s (edit_in layout line)) (skipped layout line k has) ∙ ap (noted process s) (no_mention layout line (says_key layout line k has))

-- how many may be joined, by the words after `# joins`
joins_by : Layout → Option (List ℕ) → Option ℕ
joins_by layout words =
    number_field (layout.processes + 1) words >>= λ number.
    if nat_le 1 number.0 && is_none number.1 then Some number.0 else None

-- nor how many may be joined
pub no_joins : (layout : Layout) (line : List ℕ) (k : KeptKey) → key_in layout line ≡ Some k → joins_in layout line ≡ None
unfolding joins_by
no_joins layout line k has = ap (joins_by layout) (no_verb line (codes "joins") refl (says_key layout line k has))
