-- A keeper hears of the edits that a session notes.
use Rattle.std.proofs.Common.{◌≡◌, ◌⊎◌, ◌∙◌, ◌++◌, ◌∷◌, [], List, ap, append-nil, inl, inr, map, subst, sym}
use Rattle.std.specs.Prelude.{ℕ, if◌then◌else◌, Some}
use Rattle.std.specs.Str.{bytes_eq}
use Rattle.ds_store_journal.specs.Journals.{KeptEdit}
use Rattle.ds_store_keys.specs.Keys.{KeptKey}
use Rattle.ds_store_keys.specs.Tables.{found}
use Rattle.ds_net_floor.specs.EditLists.{told_as}
use Rattle.ds_net_floor.specs.Entries.{entries}
use Rattle.ds_net_floor.specs.declared.keeping.Backlog.{Backlog}
use Rattle.ds_net_floor.specs.declared.keeping.Phase.TheVariants.{Failed}
use Rattle.ds_net_desks.specs.Hearing.{HearsNoKey, HearsNoted, HearsNotedKeys}
use Rattle.ds_net_desks.specs.StoredDesks.{Heard, Keyed}

-- of none
pub hears_none : (old new : Backlog) (heard : Heard) → new.edits.items ≡ old.edits.items → entries new.list ≡ entries old.list → new.list.nobody ≡ old.list.nobody
    → HearsNoted old heard new heard
hears_none old new heard kept listed nobody = record {
  more = [];
  noted = sym (append-nil heard);
  kept = inl (kept ∙ sym (append-nil old.edits.items));
  listed = inl (listed ∙ sym (append-nil (entries old.list)));
  nobody = nobody;
}

-- of one
pub hears_one : (old new : Backlog) (heard after : Heard) (number : ℕ) (edit : KeptEdit) → after ≡ heard ++ (number, edit) ∷ []
    → (new.edits.items ≡ old.edits.items ++ edit ∷ []) ⊎ (new.phase ≡ Failed) → (entries new.list ≡ entries old.list ++ told_as (number, edit) ∷ []) ⊎ (new.phase ≡ Failed)
    → new.list.nobody ≡ old.list.nobody → HearsNoted old heard new after
hears_one old new heard after number edit noted kept listed nobody = record {
  more = (number, edit) ∷ [];
  noted = noted;
  kept = kept;
  listed = listed;
  nobody = nobody;
}

-- with room made before
pub hears_after : (old mid new : Backlog) (heard after : Heard) → mid.edits.items ≡ old.edits.items → entries mid.list ≡ entries old.list → mid.list.nobody ≡ old.list.nobody
    → HearsNoted mid heard new after → HearsNoted old heard new after
hears_after old mid new heard after edits list nobody h = record {
  more = h.more;
  noted = h.noted;
  kept = subst (λ (es : List KeptEdit). (new.edits.items ≡ es ++ map (λ k. k.1) h.more) ⊎ (new.phase ≡ Failed)) edits h.kept;
  listed = subst (λ es. (entries new.list ≡ es ++ map told_as h.more) ⊎ (new.phase ≡ Failed)) list h.listed;
  nobody = h.nobody ∙ nobody;
}

-- and a key beside
pub hears_beside : (old mid new : Backlog) (heard mid_heard after : Heard) → after ≡ mid_heard → new.edits.items ≡ mid.edits.items → entries new.list ≡ entries mid.list → new.list.nobody ≡ mid.list.nobody → (mid.phase ≡ Failed → new.phase ≡ Failed)
    → HearsNoted old heard mid mid_heard → HearsNoted old heard new after
hears_beside old mid new heard mid_heard after same_heard edits list nobody failed h = record {
  more = h.more;
  noted = same_heard ∙ h.noted;
  kept = both mid.edits.items new.edits.items (old.edits.items ++ map (λ k. k.1) h.more) edits h.kept;
  listed = both (entries mid.list) (entries new.list) (entries old.list ++ map told_as h.more) list h.listed;
  nobody = nobody ∙ h.nobody;
} where
  both : {X : Type 0} (was is all : List X) → is ≡ was → (was ≡ all) ⊎ (mid.phase ≡ Failed) → (is ≡ all) ⊎ (new.phase ≡ Failed)
  both was is all same (inl k) = inl (same ∙ k)
  both was is all same (inr k) = inr (failed k)

-- of no key
pub hears_no_key : (old new : Backlog) (keyed after : Keyed) → after ≡ keyed → HearsNoKey old new → HearsNotedKeys old keyed new after
hears_no_key old new keyed after same h = record {
  more = [];
  noted = same ∙ sym (append-nil keyed);
  kept = inl (h.kept ∙ sym (append-nil old.keys.items));
  known = inl (λ key. ap (λ t. found t key) h.known);
}

-- of one key
pub hears_key : (old mid new : Backlog) (keyed after : Keyed) (note : KeptKey) → HearsNoKey old mid → after ≡ keyed ++ (0, note) ∷ [] → (new.keys.items ≡ mid.keys.items ++ note ∷ []) ⊎ (new.phase ≡ Failed)
    → ((key : List ℕ) → found new.list.keys key ≡ (if bytes_eq key note.key then Some note.edit else found mid.list.keys key)) ⊎ (new.phase ≡ Failed) → HearsNotedKeys old keyed new after
hears_key old mid new keyed after note same noted kept known = record {
  more = (0, note) ∷ [];
  noted = noted;
  kept = subst (λ (ks : List KeptKey). (new.keys.items ≡ ks ++ note ∷ []) ⊎ (new.phase ≡ Failed)) same.kept kept;
  known = subst (λ t. ((key : List ℕ) → found new.list.keys key ≡ (if bytes_eq key note.key then Some note.edit else found t key)) ⊎ (new.phase ≡ Failed)) same.known known;
}
