use Rattle.std.proofs.Common.{◌≡◌, ◌∙◌, ap, arith, length, map, min, sym, subst, take, List, ℕ, None, Option, Some, IfSome}
use Rattle.std.proofs.lemmas.List.{length-map, take-map}
use Rattle.std.specs.String.{string_bytes}
use Rattle.ds_store_keys.specs.Keys.{StandOnce, keys_of}
use Rattle.ds_store.specs.Opened.{Leads}
use Rattle.ds_store.specs.declared.fault.StoreFault.{StoreFault}
use Rattle.ds_store.specs.Unsound.{before_of, sound_before}
use Rattle.ds_store.proofs.Firsts.{all_begin, as_asked, first_of_first}
use Rattle.ds_store.proofs.sound.first_sound.Goals as goal

pub returns-clause-leads : goal.returns-clause-leads
returns-clause-leads g c =
    let r = c.in_ok-leads.leads in (
      r.layout,
      r.counts.counts.items,
      r.sheet,
      subst (λ ls. Leads r.layout r.counts.counts.items r.sheet (map string_bytes ls)) c.deref-2.ensures.value c.in_ok-leads.ensures.leads,
      subst (λ ls. StandOnce (keys_of r.layout (map string_bytes ls))) c.deref-3.ensures.value c.in_ok-of_lines.ensures.keys.once,
    )

pub returns-clause-first : goal.returns-clause-first
returns-clause-first g c clean held holds =
    let first = (c.in_ok-lines.ensures.first clean held holds).0 in
    let read = c.in_ok-lines.field-0.lines in
    let whole : map string_bytes read.items ≡ held = first.all in
    let long : c.len-all.result ≡ length read.items = omega (arith, c.len-all.ensures, read.ok.0) in
    record {
      begin = rw c.truncate.ensures.items (first_of_first string_bytes c.min.result read.items held (all_begin string_bytes read.items held whole));
      asked = λ none.
          let few : c.min.result ≡ min (length read.items) c.args.most = c.min.ensures ∙ ap (λ n. min n c.args.most) (c.in_ok-sound.ensures ∙ (ap (λ o. sound_before o c.len-all.result) none ∙ long)) in
          rw c.truncate.ensures.items (as_asked string_bytes c.min.result c.args.most read.items held whole few);
      count = λ none. long ∙ sym (length-map read.items string_bytes) ∙ ap length whole;
    }

-- as many lines as are before a fault
up_to : {A : Type 0} (f : A → List ℕ) (fault : Option StoreFault) (sound most n all : ℕ) (items lines : List A) (held : List (List ℕ)) → map f items ≡ held → sound ≡ sound_before fault all → n ≡ min sound most → lines ≡ take n items
    → IfSome fault (λ told. map f lines ≡ take (min (before_of told) most) held)
up_to f None sound most n all items lines held whole is few are = tt
up_to f (Some told) sound most n all items lines held whole is few are =
    ap (map f) are ∙ sym (take-map f n items) ∙ ap (take n) whole ∙ ap (λ k. take k held) (few ∙ ap (λ k. min k most) is)

pub returns-clause-sound : goal.returns-clause-sound
returns-clause-sound g c clean held holds =
    let first = (c.in_ok-lines.ensures.first clean held holds).0 in
    up_to string_bytes c.first_fault-fault.result c.in_ok-sound.sound c.args.most c.min.result c.len-all.result c.in_ok-lines.field-0.lines.items c.truncate.new.self.items held first.all c.in_ok-sound.ensures c.min.ensures c.truncate.ensures.items
