-- What a call knows stays while words only grow.
use Rattle.std.proofs.Common.{ℕ, ◌≡◌, ◌≢◌, ◌+◌, List, [], ◌∷◌, refl, ap, sym, ◌∙◌, subst, arith, length, inl, inr, Some, None, zero, suc}
use Rattle.std.specs.Prelude.{Option}
use Rattle.ds_layout.specs.declared.place.Place.{Place}
use Rattle.ds_layout.specs.declared.place.Place.TheVariants.{Version, Announce, Header}
use Rattle.ds_layout.proofs.OrBits.{HasBit-subset, IsSubset-both}
use Rattle.ds_state.specs.Edits.{PlainEditCall, text_parts}
use Rattle.ds_state.specs.World.{PlainEdit, PlainIssue, edit_of, PlainWorld, record_word, record_place, done_place, head_after_all}
use Rattle.ds_state.specs.Known.{Standing, outside, inside, safe, Announced, last, pending, ended, Noted, nothing, head_noted, head_back, bit_set, bit_back, came_late, Known, known_at, StandsAs, IsRecorded, word_of, IsAnnounced, row_of, IsIndexedTo, IsOred, IsWhen, IsNoted, Knows, Knowing}
use Rattle.ds_state.specs.Owing.{entry}
use Rattle.ds_state.specs.CallsFit.{Held, empty, record_words, announcing_word, row_bits, done_bits, head_from, mark, held_at, Holds, CallFits, IsSheetOf, HasRefs, DoubtFits, IsWritten, MigrationHolds}
use Rattle.ds_state.specs.KnownWork.{IsAtRest}
use Rattle.ds_state.specs.Rely.{Grows, Rely}
use Rattle.ds_state.specs.declared.situation.Situation.{Situation}
use Rattle.ds_state.specs.declared.situation.Situation.TheVariants.{Idle, Stopped, Editing, Working, Recovering, Showing, Migrating}
use Rattle.ds_state.proofs.Lasting.{at_most, record_owned, below_stable, by_stable, last_stable, when_stable, longer, safe_stable, done_stable}
use Rattle.ds_state.specs.KnownRecovery.{freed_at, resolved_at, recovery_held}
use Rattle.ds_state.proofs.StableRecovery.{freed_stable, resolved_stable, held_stable, own_words}
use Rattle.ds_state.proofs.StableWork.{work_stable}
use Rattle.ds_state.proofs.StableShow.{show_stable}
use Rattle.ds_layout.specs.declared.place.Edition.{Edition}
use Rattle.ds_layout.specs.declared.place.Edition.TheVariants.{First}
use Rattle.ds_state.specs.Editions.{seen_edition}
use Rattle.ds_state.specs.LayoutsFit.{LayoutFits}
use Rattle.ds_state.specs.Works.{PlainMigrateCall}
use Rattle.ds_state.specs.declared.migration.MigrateStage.{MigrateStage}
use Rattle.ds_state.specs.declared.migration.MigrateStage.TheVariants.{LoadVersion, LoadOld, StoreNew, FlushNew, BackNew, Swap, FlushVersion, BackVersion, Answer}
use Rattle.std.specs.Prelude.{◌<◌}

module _ (but : Place) (old new : PlainWorld) (e : PlainEdit) (g : Grows e.process but old new) where
  pub standing_stable : (s : Standing) → StandsAs old e s → StandsAs new e s
  standing_stable outside h = below_stable e.process but old new g e.number h
  standing_stable (inside own) h = record {
    below = below_stable e.process but old new g (e.number + 1) h.below;
    head = by_stable e.process but old new g e.cell own e h.head;
  }
  standing_stable safe h = record {
    below = below_stable e.process but old new g (e.number + 1) h.below;
    safe = safe_stable e.process but old new g e h.safe;
  }

  pub recorded_stable : (edition : Edition) → seen_edition old.memory ≡ edition → ((k : ℕ) → record_place edition e.process e.number k ≢ but) → (stored back : ℕ) → IsRecorded old edition e stored back → IsRecorded new edition e stored back
  recorded_stable edition seen apart stored back h = record {
    cached = λ k l. g.owned_cached (record_place edition e.process e.number k) (record_owned old.memory edition seen e.process e.number k) (apart k) ∙ h.cached k l;
    persisted = λ k l. elim (g.owned_persisted (record_place edition e.process e.number k) (record_owned old.memory edition seen e.process e.number k) (apart k)) [
      | inl same ↦ same ∙ h.persisted k l
      | inr now ↦ (let f = h.fewer in now ∙ h.cached k (omega arith))
    ];
    fewer = h.fewer;
  }

  pub word_stable : (a : Announced) → word_of new e a ≡ word_of old e a
  word_stable last = last_stable e.process but old new g e.number
  word_stable pending = refl
  word_stable (ended how) = refl

  pub announced_stable : Announce e.process ≢ but → (before now : Announced) → IsAnnounced old e before now → IsAnnounced new e before now
  announced_stable apart before now h = record {
    cached = g.owned_cached (Announce e.process) refl apart ∙ h.cached ∙ sym (word_stable now);
    persisted = elim (g.owned_persisted (Announce e.process) refl apart) [
      | inl same ↦ elim h.persisted [ inl b ↦ inl (same ∙ b ∙ sym (word_stable before)) | inr n ↦ inr (same ∙ n ∙ sym (word_stable now)) ]
      | inr caught ↦ inr (caught ∙ h.cached ∙ sym (word_stable now))
    ];
  }

  pub indexed_stable : (refs : List ℕ) (count : ℕ) → IsIndexedTo old e refs count → IsIndexedTo new e refs count
  indexed_stable refs count h = record {
    cached = λ i l. HasBit-subset (old.memory.cached (row_of e refs i)) (new.memory.cached (row_of e refs i)) e.cell (g.index_cached _ _) (h.cached i l);
    persisted = λ i l. HasBit-subset (old.memory.persisted (row_of e refs i)) (new.memory.persisted (row_of e refs i)) e.cell (g.index_persisted _ _) (h.persisted i l);
  }

  pub ored_stable : (refs : List ℕ) (o : Option ℕ) → IsOred old e refs o → IsOred new e refs o
  ored_stable refs None h = tt
  ored_stable refs (Some i) h = HasBit-subset (old.memory.cached (row_of e refs i)) (new.memory.cached (row_of e refs i)) e.cell (g.index_cached _ _) h

  pub is_when_stable : (since count : ℕ) → IsWhen old since count → IsWhen new since count
  is_when_stable since count h = record { late = h.late; there = at_most h.there (longer e.process but old new g) }

  pub noted_stable : (since : ℕ) (head : _) → IsNoted old e since head → IsNoted new e since head
  noted_stable since head h = record {
    count = h.count;
    when = is_when_stable since h.count h.when;
    before = h.before;
    by = h.by;
    parts = when_stable e.process but old new g e.cell h.count h.when.there ∙ h.parts;
    process = h.process;
    number = h.number;
    word = h.word;
  }

  pub head_stable : (since : ℕ) (k : Noted) → Knows old e since k → Knows new e since k
  head_stable since nothing h = tt
  head_stable since (head_noted head) h = noted_stable since head h
  head_stable since (head_back head) (h, b) = (noted_stable since head h, at_most b (g.heads_persisted e.cell))
  head_stable since (bit_set head) (h, b, c) = (
    noted_stable since head h,
    at_most b (g.heads_persisted e.cell),
    HasBit-subset (old.memory.cached (done_place head.process head.number)) (new.memory.cached (done_place head.process head.number)) head.number (g.done_cached _ _) c,
  )
  head_stable since (bit_back head) h = record {
    count = h.count;
    when = is_when_stable since h.count h.when;
    is = h.is ∙ ap head_after_all (sym (when_stable e.process but old new g e.cell h.count h.when.there));
    back = at_most h.back (g.heads_persisted e.cell);
    done = λ before by parts. done_stable e.process but old new g by.process by.number (h.done before by (sym (when_stable e.process but old new g e.cell h.count h.when.there) ∙ parts));
  }
  head_stable since (came_late noted seen) h = record {
    count = h.count;
    when = is_when_stable since h.count h.when;
    is = h.is ∙ ap head_after_all (sym (when_stable e.process but old new g e.cell h.count h.when.there));
    greater = h.greater;
    by = h.by;
    head = by_stable e.process but old new g e.cell seen h.by h.head;
  }

  pub knowing_stable : (edition : Edition) → seen_edition old.memory ≡ edition → ((k : ℕ) → record_place edition e.process e.number k ≢ but) → Announce e.process ≢ but → (refs : List ℕ) (since : ℕ) (k : Known) → Knowing old edition e refs since k → Knowing new edition e refs since k
  knowing_stable edition seen apart apart' refs since k h = record {
    standing = standing_stable k.standing h.standing;
    recorded = recorded_stable edition seen apart k.stored k.back h.recorded;
    announced = announced_stable apart' k.before k.now h.announced;
    indexed = indexed_stable refs k.indexed h.indexed;
    ored = ored_stable refs k.ored h.ored;
    head = head_stable since k.head h.head;
  }

  pub holds_stable : new.memory.buffer e.process ≡ old.memory.buffer e.process → (edition : Edition) (held : Held) → Holds old edition e held → Holds new edition e held
  holds_stable same edition empty h = same ∙ h
  holds_stable same edition (record_words first count) h = same ∙ h
  holds_stable same edition (announcing_word a) h = same ∙ h ∙ ap (λ (v : ℕ). entry (Announce e.process) v ∷ []) (sym (word_stable a))
  holds_stable same edition (row_bits row) h = record { value = h.value; alone = same ∙ h.alone; is = record { has = h.is.has; subset = IsSubset-both _ _ _ h.is.subset (g.index_cached _ _) } }
  holds_stable same edition (done_bits p n) h = record { value = h.value; alone = same ∙ h.alone; is = record { has = h.is.has; subset = IsSubset-both _ _ _ h.is.subset (g.done_cached _ _) } }
  holds_stable same edition (head_from least) h = record { value = h.value; alone = same ∙ h.alone; is = record { enough = h.is.enough; by = h.is.by; head = by_stable e.process but old new g e.cell h.value h.is.by h.is.head } }
  holds_stable same edition mark h = record { value = h.value; alone = same ∙ h.alone; is = (at_most h.is.0 (g.marks_cached e.cell), λ q by. rw g.layout (h.is.1 q by)) }

Grows_at : (p q : ℕ) (but : Place) (old new : PlainWorld) → p ≡ q → Grows p but old new → Grows q but old new
Grows_at p q but old new same g = subst (λ (x : ℕ). Grows x but old new) same g

pub sheet_stable : (old new : PlainWorld) (e : PlainEditCall) → new.layout ≡ old.layout → IsSheetOf old.layout e → IsSheetOf new.layout e
sheet_stable old new e same h = rw same h

pub refs_stable : (old new : PlainWorld) (e : PlainEditCall) → new.layout ≡ old.layout → HasRefs old.layout.shape e.text e.refs → HasRefs new.layout.shape e.text e.refs
refs_stable old new e same h = rw same h

-- no word of a process is the version's
pub record_no_version : (edition : Edition) (p n k : ℕ) → record_place edition p n k ≢ Version
record_no_version edition p n zero = λ same. cc
record_no_version edition p n (suc k) = λ same. cc

-- the header of a record
header_stable : (but : Place) (old new : PlainWorld) (e : PlainEdit) → Grows e.process but old new → Header e.process e.number ≢ but → IsRecorded old First e 1 1 → IsRecorded new First e 1 1
header_stable but old new e g apart h = record {
  cached = λ k l. at k l (cached_same k l);
  persisted = λ k l. at' k l;
  fewer = h.fewer;
}
  where
    cached_same : (k : ℕ) → k < 1 → new.memory.cached (Header e.process e.number) ≡ old.memory.cached (Header e.process e.number)
    cached_same k l = g.owned_cached (Header e.process e.number) refl apart

    at : (k : ℕ) → k < 1 → new.memory.cached (Header e.process e.number) ≡ old.memory.cached (Header e.process e.number) → new.memory.cached (record_place First e.process e.number k) ≡ record_word e k
    at zero l same = same ∙ h.cached 0 l
    at (suc k) l same = absurd (omega arith)

    at' : (k : ℕ) → k < 1 → new.memory.persisted (record_place First e.process e.number k) ≡ record_word e k
    at' zero l = elim (g.owned_persisted (Header e.process e.number) refl apart) [ inl same ↦ same ∙ h.persisted 0 l | inr now ↦ now ∙ h.cached 0 l ]
    at' (suc k) l = absurd (omega arith)

-- the header of an edit that has announced itself stays, but at the word that its process itself changes
pub written_stable : (but : Place) (old new : PlainWorld) (e : PlainEdit) → Grows e.process but old new → Header e.process e.number ≢ but → (a : Announced) → IsWritten old e a → IsWritten new e a
written_stable but old new e g apart last h = tt
written_stable but old new e g apart pending h = header_stable but old new e g apart h
written_stable but old new e g apart (ended how) h = header_stable but old new e g apart h

-- how a process's last edit ended, or is in doubt, stays where its announcement and its records do
pub doubt_grows : (but : Place) (old new : PlainWorld) (q : ℕ) → Grows q but old new → new.open_edits q ≡ old.open_edits q → Announce q ≢ but → ((n : ℕ) → Header q n ≢ but)
    → (o : Option PlainIssue) → DoubtFits old q o → DoubtFits new q o
doubt_grows but old new q g pends announce record' None h = record { next = h.next; rest = rest_at h.next h.rest }
  where
    rest_at : (next : ℕ) → IsAtRest old q next → IsAtRest new q next
    rest_at next k = record {
      number = k.number;
      open_edits = pends ∙ k.open_edits;
      below = below_stable q but old new g next k.below;
      cached = g.owned_cached (Announce q) refl announce ∙ k.cached ∙ sym (last_stable q but old new g next);
      persisted = elim (g.owned_persisted (Announce q) refl announce) [
        | inl same ↦ same ∙ k.persisted ∙ sym (last_stable q but old new g next)
        | inr caught ↦ caught ∙ k.cached ∙ sym (last_stable q but old new g next)
      ];
    }
doubt_grows but old new q g' pends announce record' (Some issue) h =
    let e : PlainEdit = issue.edit in
    let g : Grows e.process but old new = Grows_at q e.process but old new (sym h.mine) g' in
    let apart : Header e.process e.number ≢ but = subst (λ (x : ℕ). Header x e.number ≢ but) (sym h.mine) (record' e.number) in
    let cached' : new.memory.cached (Announce q) ≡ word_of new e h.now = g'.owned_cached (Announce q) refl announce ∙ h.cached ∙ sym (word_stable but old new e g h.now) in
    elim (g'.owned_persisted (Announce q) refl announce) [
      | inl same ↦ record {
        mine = h.mine;
        number = h.number;
        cell = rw g'.layout h.cell;
        text = h.text;
        standing = h.standing;
        stands = standing_stable but old new e g h.standing h.stands;
        before = h.before;
        now = h.now;
        cached = cached';
        persisted = same ∙ h.persisted ∙ sym (word_stable but old new e g h.before);
        said = h.said;
        said_before = h.said_before;
        order = h.order;
        written = written_stable but old new e g apart h.now h.written;
      }
      | inr caught ↦ record {
        mine = h.mine;
        number = h.number;
        cell = rw g'.layout h.cell;
        text = h.text;
        standing = h.standing;
        stands = standing_stable but old new e g h.standing h.stands;
        before = h.now;
        now = h.now;
        cached = cached';
        persisted = caught ∙ h.cached ∙ sym (word_stable but old new e g h.now);
        said = h.said;
        said_before = h.said;
        order = omega arith;
        written = written_stable but old new e g apart h.now h.written;
      }
    ]

doubt_stable : (old new : PlainWorld) (q : ℕ) → Rely q old new → (o : Option PlainIssue) → DoubtFits old q o → DoubtFits new q o
doubt_stable old new q r o h = doubt_grows Version old new q (r.grows Version) r.open_edits (λ same. cc) (λ n same. cc) o h

migration_stable : (old new : PlainWorld) (q : ℕ) (e : PlainMigrateCall) (s : MigrateStage) → new.memory.buffer q ≡ old.memory.buffer q → MigrationHolds old q e s → MigrationHolds new q e s
migration_stable old new q e (BackNew at) same h = same ∙ h
migration_stable old new q e (BackVersion how) same h = same ∙ h
migration_stable old new q e LoadVersion same h = same ∙ h
migration_stable old new q e (LoadOld at) same h = same ∙ h
migration_stable old new q e (StoreNew at) same h = same ∙ h
migration_stable old new q e (FlushNew at) same h = same ∙ h
migration_stable old new q e Swap same h = same ∙ h
migration_stable old new q e (FlushVersion how) same h = same ∙ h
migration_stable old new q e (Answer how) same h = same ∙ h

-- what a call knows stays while another process steps
pub call_stable : (old new : PlainWorld) (q : ℕ) (s : Situation) → Rely q old new → LayoutFits old q s → CallFits old q s → CallFits new q s
call_stable old new q (Idle next) r l h =
    let g = r.grows Version in
    record {
      number = h.number;
      holds_none = λ x by. h.holds_none x ((g.holds x (λ same. cc)).came by);
      open_edits = r.open_edits ∙ h.open_edits;
      buffer = r.buffer ∙ h.buffer;
      below = below_stable q Version old new g next.number h.below;
      cached = g.owned_cached (Announce q) refl (λ same. cc) ∙ h.cached ∙ sym (last_stable q Version old new g next.number);
      persisted = elim (g.owned_persisted (Announce q) refl (λ same. cc)) [
        | inl same ↦ same ∙ h.persisted ∙ sym (last_stable q Version old new g next.number)
        | inr caught ↦ caught ∙ h.cached ∙ sym (last_stable q Version old new g next.number)
      ];
    }
call_stable old new q Stopped r l h = record { buffer = r.buffer ∙ h.buffer; doubt = subst (λ (o : Option PlainIssue). DoubtFits new q o) (sym r.open_edits) (doubt_stable old new q r (old.open_edits q) h.doubt) }
call_stable old new q (Editing e) r fit h =
    let g : Grows e.process Version old new = Grows_at q e.process Version old new (sym h.mine) (r.grows Version) in
    let l = longer e.process Version old new g in
    let i = h.issued in
    record {
      mine = h.mine;
      is = h.is;
      sheet = sheet_stable old new e g.layout h.sheet;
      refs = refs_stable old new e g.layout h.refs;
      since = h.since;
      open_edits = r.open_edits ∙ h.open_edits;
      issued = omega arith;
      holds_none = λ x by. h.holds_none x ((g.holds x (λ same. cc)).came by);
      knows = knowing_stable Version old new (edit_of e) g e.edition fit.cached (record_no_version e.edition e.process e.number) (λ same. cc) e.refs h.since (known_at (text_parts e.text) (length e.refs) e.stage) h.knows;
      buffer = holds_stable Version old new (edit_of e) g (ap new.memory.buffer h.mine ∙ r.buffer ∙ ap old.memory.buffer (sym h.mine)) e.edition (held_at (text_parts e.text) e.refs e.stage) h.buffer;
    }
call_stable old new q (Working e) r l h = work_stable old new q e r h
call_stable old new q (Recovering e) r l h =
    let g : Grows e.process Version old new = Grows_at q e.process Version old new (sym h.mine) (r.grows Version) in
    let pends : new.open_edits e.process ≡ old.open_edits e.process = ap new.open_edits h.mine ∙ r.open_edits ∙ ap old.open_edits (sym h.mine) in
    record {
      mine = h.mine;
      cells = rw g.layout h.cells;
      processes = rw g.layout h.processes;
      doubt = subst (λ (o : Option PlainIssue). DoubtFits new q o) (sym r.open_edits) (doubt_stable old new q r (old.open_edits q) h.doubt);
      freed = freed_stable old new e.process g e.mark (freed_at e.stage) h.freed;
      resolved = resolved_stable old new e.process g pends e.announcement e.cell (resolved_at e.stage) h.resolved;
      buffer = held_stable old new e.process g pends (ap new.memory.buffer h.mine ∙ r.buffer ∙ ap old.memory.buffer (sym h.mine)) e.announcement e.cell (recovery_held e.cell e.stage)
          (own_words old e.process e.mark e.cell e.stage h.freed) h.buffer;
      is = h.is;
    }
call_stable old new q (Showing e) r l h = show_stable old new q e r h
call_stable old new q (Migrating e) r l h = record {
  mine = h.mine;
  is = h.is;
  processes = ap (λ (lay : _). lay.processes) (r.grows Version).layout ∙ h.processes;
  doubt = subst (λ (o : Option PlainIssue). DoubtFits new q o) (sym r.open_edits) (doubt_stable old new q r (old.open_edits q) h.doubt);
  buffer = migration_stable old new q e e.stage r.buffer h.buffer;
}
