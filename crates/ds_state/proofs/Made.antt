-- A world that is made anew is good.
use Rattle.std.proofs.Common.{ℕ, ◌≡◌, ◌<◌, ◌≤◌, ◌+◌, ◌*◌, ◌++◌, List, [], ◌∷◌, get_or, replicate, refl, ◌∙◌, arith, zero, suc, Option, None}
use Rattle.std.proofs.lemmas.List.{length-replicate, replicate_more}
use Rattle.ds_words.specs.Memory.{Memory, IsFresh, StoresAt, EvictsAt}
use Rattle.ds_layout.specs.declared.place.Edition.{Edition}
use Rattle.ds_layout.specs.declared.place.Edition.TheVariants.{First, Second}
use Rattle.ds_layout.specs.declared.place.Place.{Place}
use Rattle.ds_layout.specs.declared.place.Place.TheVariants.{Version}
use Rattle.ds_layout.specs.declared.place.TheConstants.{RECORDS}
use Rattle.ds_layout.specs.SheetMemory.{SheetValue, memory}
use Rattle.ds_eval.specs.declared.value.Value.{Value}
use Rattle.ds_layout.specs.Places.{cells_of}
use Rattle.ds_state.specs.Reports.{no_reports}
use Rattle.ds_state.specs.World.{PlainIssue, PlainWorld}
use Rattle.ds_state.specs.Editions.{Agrees}
use Rattle.ds_state.specs.Fresh.{AreNew, IsNew}
use Rattle.ds_state.specs.Value.{WorldValue, first_rest, rest_in, world_of, IsReserved}
use Rattle.ds_state.specs.declared.situation.Situation.{Situation}
use Rattle.ds_state.specs.declared.situation.Situation.TheVariants.{Idle}
use Rattle.ds_state.proofs.New.{new_sound, reads_back}
use Rattle.ds_state.proofs.Underway.{none_idle}

-- n equal situations and one more are one more of them
pub one_more : (n : ℕ) (s : Situation) → replicate n s ++ s ∷ [] ≡ replicate (n + 1) s
one_more n s = replicate_more n s

all_same : {X : Type 0} (n q : ℕ) (x y : X) → q < n → get_or (replicate n x) q y ≡ x
all_same zero q x y l = absurd (omega arith)
all_same (suc n) zero x y l = refl
all_same (suc n) (suc q) x y l = all_same n q x y (omega arith)

none_same : (n q : ℕ) → get_or (replicate {A = Option PlainIssue} n None) q None ≡ None
none_same zero q = refl
none_same (suc n) zero = refl
none_same (suc n) (suc q) = none_same n q

-- of these parts
abbrev pub made : SheetValue → Edition → WorldValue
made sheet edition = record {
  sheet = sheet;
  situations = replicate sheet.layout.processes (Idle (rest_in edition));
  counted = [];
  open_edits = replicate sheet.layout.processes None;
  done = 0;
  settled = 0;
  reports = no_reports sheet.layout.processes (cells_of sheet.layout);
}

-- a world made of new words is new
pub made_new : (sheet : SheetValue) (edition : Edition) → AreNew (memory sheet) edition → IsNew (world_of (made sheet edition))
made_new sheet edition fresh = record {
  edition = edition;
  memory = fresh;
  situation = λ p l. all_same sheet.layout.processes p (Idle (rest_in edition)) (Idle first_rest) l;
  counted = refl;
  open_edits = λ p. none_same sheet.layout.processes p;
}

-- a world made of new words is good, and has a place for each edit that can be numbered
pub made_kept : (sheet : SheetValue) (edition : Edition) (room : ℕ) → AreNew (memory sheet) edition → sheet.layout.processes * RECORDS ≤ room → IsReserved (made sheet edition) room
made_kept sheet edition room fresh enough =
    let processes : ℕ = sheet.layout.processes in
    record {
      good = record {
        sound = new_sound (world_of (made sheet edition)) (made_new sheet edition fresh);
        situations = length-replicate processes (Idle (rest_in edition));
        open_edits = length-replicate {A = Option PlainIssue} processes None;
        answered = record { closed = []; as_many = refl; once = tt; count = λ e inside. inside; answered = λ e issue inside at is. absurd (let l = inside.1 in omega arith) };
        reports = record { cells = refl; processes = length-replicate {A = List Value} processes [] };
        counts = (let none = none_idle processes (rest_in edition) in omega arith);
      };
      reserved = enough;
    }

-- the version's word is stored and evicted, and all else is as it was
pub second_new : (old mid new : Memory Place) → IsFresh old → StoresAt Version 1 old mid → EvictsAt Version mid new → AreNew new Second
second_new old mid new fresh stores evicts = record {
  seen = evicts.cached Version ∙ stores.there;
  kept = evicts.there ∙ stores.there;
  cached = λ r ne. evicts.cached r ∙ stores.elsewhere r ne ∙ fresh.cached r;
  persisted = λ r ne. evicts.elsewhere r ne ∙ stores.persisted r ∙ fresh.persisted r;
  buffer = λ p. evicts.buffer p ∙ stores.buffer p ∙ fresh.buffer p;
}

pub first_new : (m : Memory Place) → IsFresh m → AreNew m First
first_new m fresh = record {
  seen = fresh.cached Version;
  kept = fresh.persisted Version;
  cached = λ r ne. fresh.cached r;
  persisted = λ r ne. fresh.persisted r;
  buffer = λ p. fresh.buffer p;
}

pub agrees : (w : PlainWorld) (edition : Edition) → AreNew w.memory edition → Agrees w.memory edition
agrees w edition fresh = record { cached = reads_back edition _ fresh.seen; persisted = reads_back edition _ fresh.kept }
