-- Work is given its content, or is out of memory for it, and is offered an entry.
use Rattle.std.proofs.Common.{ℕ, ◌≡◌, ◌<◌, ◌⊎◌, Bool, true, false, if◌then◌else◌, nat_lt, List, [], refl, ap, sym, ◌∙◌, subst, arith, length, inl, inr}
use Rattle.std.proofs.lemmas.Bool.{ltb-true, ltb-false}
use Rattle.ds_formula.specs.Cells.{IsInside, index_of}
use Rattle.ds_formula.specs.Plain.{PlainContent, Empty}
use Rattle.ds_formula.specs.Grammar.{Reads, blank}
use Rattle.ds_formula.proofs.Whole.{only_content}
use Rattle.ds_eval.specs.declared.inputs.Entry as entries
use Rattle.ds_eval.specs.declared.inputs.Input.{Input}
use Rattle.ds_eval.specs.Inputs.{cell_in}
use Rattle.ds_layout.specs.declared.layout.Layout.{Layout}
use Rattle.ds_state.specs.Works.{PlainWorkCall}
use Rattle.ds_state.specs.World.{PlainWorld, index_place}
use Rattle.ds_state.specs.Owing.{IsIndexed}
use Rattle.ds_state.specs.Standing.{HasContent}
use Rattle.ds_state.specs.KnownWork.{WorkFits, ReadsWhole, Gathers, row_of}
use Rattle.ds_work.specs.WorkSteps.{Turns, ReadsAt, LacksAt, OffersAt, read_from}
use Rattle.ds_state.specs.Rely.{Keeps}
use Rattle.ds_state.specs.Sound.{IsSound}
use Rattle.ds_state.specs.declared.work.WorkStage.TheVariants as works
use Rattle.ds_state.specs.declared.situation.Situation.TheVariants.{Working}
use Rattle.ds_state.proofs.Accesses.{Turn}
use Rattle.ds_state.proofs.Found.{refs_indexed}
use Rattle.ds_work.proofs.WorkSteps.{on}
use Rattle.ds_work.proofs.WorkOwn.{offer_keeps}
use Rattle.ds_work.proofs.WorkFrame as frame
use Rattle.ds_work.proofs.Keeping.{turn_goes}
use Rattle.ds_state.specs.declared.work.WorkStage.{WorkStage}

read_edition : (e : PlainWorkCall) (content : PlainContent) (inputs : List Input) → (read_from e content inputs).edition ≡ e.edition
read_edition e content inputs = by (nat_lt 0 (length inputs))
  where
    by : (b : Bool) → (if b then record e { content = content; inputs = inputs; stage = works.LoadValue 0 } else record e { content = content; inputs = inputs; stage = works.LoadOwnValue }).edition ≡ e.edition
    by true = refl
    by false = refl

module _ (e : PlainWorkCall) (old new : PlainWorld) (sound : IsSound old) (real : e.process < old.layout.processes) where
  turns : (f : PlainWorkCall) (s : WorkStage) → old.situation e.process ≡ Working (on e s) → f.edition ≡ e.edition → Turns e f old new → Turn e.process old new
  turns f s was same t = record { layout = t.layout; counted = t.counted; situations = t.others; pendings = λ q ne. t.open_edits q; goes = turn_goes e f s old new real was same t }

  pub lacks_keeps : WorkFits old e.process (on e works.Read) → old.situation e.process ≡ Working (on e works.Read) → LacksAt e old new → Keeps e.process old new
  lacks_keeps fits was t = frame.loads e works.Read (on e works.Give) old new sound real was t.situation (turns _ _ was refl t) (t.open_edits e.process) fits tt t.memory
      (λ c x bit matters o. absurd o) (λ o. absurd o) (λ k. record { hold = k.hold; loaded = tt; own = tt; evaluated = tt }) (λ h. h)

  pub offers_keep : (entry : entries.Entry) → WorkFits old e.process (on e works.Wait) → old.situation e.process ≡ Working (on e works.Wait) → OffersAt e entry old new → Keeps e.process old new
  offers_keep entry fits was t = offer_keeps e entry old new sound real was t.turn.situation (turns _ _ was refl t.turn) (t.turn.open_edits e.process) fits t.turn.memory t.is

  module _ (content : PlainContent) (inputs : List Input) (fits : WorkFits old e.process (on e works.Read)) (was : old.situation e.process ≡ Working (on e works.Read)) (t : ReadsAt e content inputs old new) where
    abbrev shape_is : new.layout ≡ old.layout
    shape_is = t.turn.layout

    has : ((e.head ≡ 0) × (e.text ≡ [])) ⊎ ReadsWhole old e.cell e.head e.text → HasContent old e.cell e.head content
    has (inl none) = inl (none.0, only_content old.layout.shape [] content Empty (subst (λ (xs : List ℕ). Reads old.layout.shape xs content) none.1 t.is.reads) (record { short = omega arith; reads = blank }))
    has (inr w) = inr (record { by = w.by; gave = w.gave; reads = subst (λ (xs : List ℕ). Reads old.layout.shape xs content) w.text t.is.reads })

    now : HasContent old e.cell e.head content → HasContent new e.cell e.head content
    now (inl none) = inl none
    now (inr h) = inr (record { by = h.by; gave = rw t.turn.counted h.gave; reads = rw t.turn.layout h.reads })

    row : (j : ℕ) → j < length inputs → IsIndexed new (row_of new inputs j) e.cell
    row j l =
        let only = t.is.only j l in
        let bit : IsIndexed old (index_of old.layout.shape (cell_in inputs j)) e.cell = refs_indexed old sound e.cell e.head content (has fits.knows.loaded.1) (cell_in inputs j) only.0 only.1 in
        subst (λ (r : ℕ). IsIndexed new r e.cell) (ap (λ (y : Layout). index_of y.shape (cell_in inputs j)) (sym t.turn.layout))
        (rw t.turn.layout bit.0, rw t.turn.layout bit.1, rw (t.turn.memory.cached (index_place (index_of old.layout.shape (cell_in inputs j)) e.cell)) bit.2)

    pub read_keeps : Keeps e.process old new
    read_keeps = go (nat_lt 0 (length inputs)) refl
      where
        gathers : Gathers new e.cell e.mark e.head content inputs 0 → (n : ℕ) → n ≡ 0 → Gathers new e.cell e.mark e.head content inputs n
        gathers h n is = subst (λ (k : ℕ). Gathers new e.cell e.mark e.head content inputs k) (sym is) h

        go : (b : Bool) → nat_lt 0 (length inputs) ≡ b → Keeps e.process old new
        go true some = frame.loads e works.Read (record e { content = content; inputs = inputs; stage = works.LoadValue 0 }) old new sound real was
            (t.turn.situation ∙ ap (λ (b : Bool). Working (if b then record e { content = content; inputs = inputs; stage = works.LoadValue 0 } else record e { content = content; inputs = inputs; stage = works.LoadOwnValue })) some)
            (turns _ _ was (read_edition e content inputs) t.turn) (t.turn.open_edits e.process) fits (ltb-true 0 (length inputs) some) t.turn.memory
            (λ c x bit matters o. absurd o) (λ o. absurd o)
            (λ k. record {
              hold = k.hold;
              loaded = record {
                head = k.loaded.0;
                content = now (has fits.knows.loaded.1);
                ascending = t.is.ascending;
                found = λ d refers inside. t.is.all d refers (subst (λ (y : Layout). IsInside y.shape d) t.turn.layout inside);
                rows = row;
                each = λ j l. absurd (omega arith);
              };
              own = tt;
              evaluated = tt;
            }) (λ h. h)
        go false none = frame.loads e works.Read (record e { content = content; inputs = inputs; stage = works.LoadOwnValue }) old new sound real was
            (t.turn.situation ∙ ap (λ (b : Bool). Working (if b then record e { content = content; inputs = inputs; stage = works.LoadValue 0 } else record e { content = content; inputs = inputs; stage = works.LoadOwnValue })) none)
            (turns _ _ was (read_edition e content inputs) t.turn) (t.turn.open_edits e.process) fits tt t.turn.memory
            (λ c x bit matters o. absurd o) (λ o. absurd o)
            (λ k. record {
              hold = k.hold;
              loaded = gathers (record {
                head = k.loaded.0;
                content = now (has fits.knows.loaded.1);
                ascending = t.is.ascending;
                found = λ d refers inside. t.is.all d refers (subst (λ (y : Layout). IsInside y.shape d) t.turn.layout inside);
                rows = row;
                each = λ j l. absurd (omega arith);
              }) (length inputs) (let l = ltb-false 0 (length inputs) none in omega arith);
              own = tt;
              evaluated = tt;
            }) (λ h. h)
