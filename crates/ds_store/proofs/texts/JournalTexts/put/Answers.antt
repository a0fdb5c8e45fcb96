use Rattle.std.proofs.Common.{rules, ◌≡◌, ◌<◌, ◌++◌, ◌∷◌, [], refl, sym, subst, length}
use Rattle.std.specs.Prelude.{slice_set}
use Rattle.ds_formula.specs.Cells.{index_of}
use Rattle.ds_store_journal.specs.Journals.{KeptEdit}
use Rattle.ds_store.specs.Texts.{HasTexts}
use Rattle.ds_store.proofs.Growing.{keeps_one}
use Rattle.ds_store.proofs.Texting.{put}
use Rattle.ds_store.proofs.texts.JournalTexts.put.Goals as goal

pub returns : goal.returns
returns c lines line is asks h =
    let a = c.args.asked in
    let layout = c.args.self.now.layout in
    let texts = c.args.self.now.texts.items in
    let text = c.in_ok-text.text in
    let new = c.count.new.self.counts.items in
    let at : c.index.result ≡ index_of layout.shape a.cell = c.index.ensures.value in
    let below : index_of layout.shape a.cell < length texts = search rules in
    let items : text.items ≡ a.text.now = c.in_ok-text.ensures.items in
    let edit : KeptEdit = record { process = a.process; number = c.in-Some._number; cell = a.cell; text = a.text.now } in
    let counted = c.in-Some.ensures.counted h.edits edit h.goes_on.counts_are refl in
    subst (λ i. HasTexts layout new (slice_set texts i text) (lines ++ line ∷ [])) (sym at) (record {
      edits = h.edits ++ edit ∷ [];
      goes_on = keeps_one layout c.args.self.now.counts.counts.items new lines line h.edits edit h.goes_on is asks counted.0 counted.1;
      texts_are = put layout.shape texts text h.edits edit below items h.texts_are;
    })
