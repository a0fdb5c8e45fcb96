-- Edits with keys.
use Rattle.std.proofs.Common.{◌≡◌, ◌⊎◌, ◌∙◌, ◌++◌, [], refl, sym, ap, subst, inl, inr, ℕ, List, Option, Some, None, IfSome, Result, Ok, Err}
use Rattle.ds_formula.specs.declared.cells.Cell.{Cell}
use Rattle.ds_state.specs.declared.answer.EditEnd.{EditEnd}
use Rattle.ds_state.specs.declared.answer.EditEnd.TheVariants.{Done, Overtaken}
use Rattle.ds_server.specs.declared.desk.CallRefusal.{CallRefusal}
use Rattle.ds_server.specs.declared.desk.CallRefusal.TheVariants.{KeyReused, NoMemory}
use Rattle.ds_server.specs.declared.desk.ListedEdit.{ListedEdit}
use Rattle.ds_server.specs.Replies as said
use Rattle.ds_store_journal.specs.Journals.{KeptEdit}
use Rattle.ds_net_desks.specs.DeskSeats.{Uses}
use Rattle.ds_net_desks.specs.Keyings.{SaysKnowing, SaysUse}
use Rattle.ds_net_desks.specs.StoredDesks.{EditsWithKey, Heard, Keyed, Notes, Resolves, SetsOnce, StoredSet, entry_kept, keyed_of}
use Rattle.ds_net_desks.specs.declared.keyed.Knowing.TheVariants.{New, Same, Other}
use Rattle.ds_net_desks.specs.declared.numbered_seat.NumberedSeat.{NumberedSeat}

-- the key is that of the same edit
pub known_same : (cell : Cell) (text key : List ℕ) (known : Option (Option KeptEdit)) (number : ℕ) (n : NumberedSeat) (before after : Notes) → SaysKnowing cell text known (Same number) → after.heard ≡ before.heard → after.keyed ≡ before.keyed
    → SetsOnce cell text key known n before (said.Done number) n after
known_same cell text key known number n before after (edit, is, of, same) heard keyed =
    subst (λ (u : Option (Option KeptEdit)). SetsOnce cell text key u n before (said.Done number) n after) (sym is)
    (record { says = (edit, refl, of, same); same = refl; heard = heard; keyed = keyed })

-- the key is that of another edit, or of none
pub known_other : (cell : Cell) (text key : List ℕ) (known : Option (Option KeptEdit)) (n : NumberedSeat) (before after : Notes) → SaysKnowing cell text known Other → after.heard ≡ before.heard → after.keyed ≡ before.keyed
    → SetsOnce cell text key known n before (said.Refused KeyReused) n after
known_other cell text key known n before after (of, is, none) heard keyed =
    subst (λ (u : Option (Option KeptEdit)). SetsOnce cell text key u n before (said.Refused KeyReused) n after) (sym is)
    (record { says = (refl, none); same = refl; heard = heard; keyed = keyed })

-- the key is not known
pub not_known : (cell : Cell) (text key : List ℕ) (known : Option (Option KeptEdit)) (old new : NumberedSeat) (before mid after : Notes) (what : said.Said) → SaysKnowing cell text known New → mid.heard ≡ before.heard → mid.keyed ≡ before.keyed
    → EditsWithKey cell text key old mid what new after → SetsOnce cell text key known old before what new after
not_known cell text key known old new before mid after what is heard keyed edits =
    subst (λ (u : Option (Option KeptEdit)). SetsOnce cell text key u old before what new after) (sym is)
    (record {
      uses = subst (λ (h : Heard). Uses (StoredSet h cell text after.heard what) old what new) heard edits.uses;
      keyed = edits.keyed ∙ ap (λ (k : Keyed). k ++ keyed_of old.seat.pass.process cell text key what) keyed;
    })

-- of an edit that is not done the keeper hears no key
pub not_done : (process : ℕ) (cell : Cell) (text key : List ℕ) (end : Result EditEnd CallRefusal) → ((number : ℕ) → end ≡ Ok (Done number) → ⊥) → keyed_of process cell text key (said.set_view end) ≡ []
not_done process cell text key (Ok (Done number)) h = absurd (h number refl)
not_done process cell text key (Ok (Overtaken number by)) h = refl
not_done process cell text key (Err why) h = refl

-- a key that is known is answered by what it is of
pub resolves_known : (key : List ℕ) (found : Option (Option KeptEdit)) (known : Option KeptEdit) (edit : Option ListedEdit) (before after : Keyed) → found ≡ Some known → SaysUse known edit → after ≡ before
    → Resolves key found before (said.resolved_view (Ok edit)) after
resolves_known key found known edit before after is says same = subst (λ (f : Option (Option KeptEdit)). Resolves key f before (said.resolved_view (Ok edit)) after) (sym is) (go known edit says) where
  go : (u : Option KeptEdit) (e : Option ListedEdit) → SaysUse u e → Resolves key (Some u) before (said.resolved_view (Ok e)) after
  go None None h = (refl, same)
  go (Some kept) (Some listed) h = (ap (λ (x : said.EditEntry). said.Resolved (Some x)) h, same)
  go (Some kept) None h = absurd h
  go None (Some listed) h = absurd h

-- a key that is not known is spent, or an allocation has failed
pub spends : (key : List ℕ) (found : Option (Option KeptEdit)) (result : Result (Option ListedEdit) CallRefusal) (before mid after : Keyed) → found ≡ None → mid ≡ before
    → Resolves key None mid (said.resolved_view result) after ⊎ ((result ≡ Err NoMemory) × (after ≡ mid))
    → Resolves key found before (said.resolved_view result) after ⊎ ((said.resolved_view result ≡ said.Refused NoMemory) × (after ≡ before))
spends key found result before mid after is same (inl h) = inl (subst (λ (f : Option (Option KeptEdit)). Resolves key f before (said.resolved_view result) after) (sym is) (subst (λ (k : Keyed). Resolves key None k (said.resolved_view result) after) same h))
spends key found result before mid after is same (inr h) = inr (ap said.resolved_view h.0, h.1 ∙ same)

-- what is said of a key that is known
pub known_of : (found : Option (Option KeptEdit)) (of : Option (Option ListedEdit)) (edit : Option ListedEdit) → of ≡ Some edit → IfSome of (λ e. (kept : Option KeptEdit) × (found ≡ Some kept) × SaysUse kept e)
    → (kept : Option KeptEdit) × (found ≡ Some kept) × SaysUse kept edit
known_of found of edit is h = subst (λ (o : Option (Option ListedEdit)). IfSome o (λ e. (kept : Option KeptEdit) × (found ≡ Some kept) × SaysUse kept e)) is h
