-- One line more of a script.
use Rattle.std.proofs.Common.{◌≡◌, ◌≢◌, ◌⊎◌, inl, inr, ℕ, ◌+◌, ◌<◌, ◌≤◌, true, List, [], ◌∷◌, ◌++◌, length, Some, None, Ok, Err, sym, ap, subst, ◌∙◌, append_assoc, append-nil, arith}
use Rattle.std.specs.Prelude.{Option}
use Rattle.ds_formula.specs.declared.fault.TextFault.{TextFault}
use Rattle.ds_formula.specs.declared.fault.FaultKind.TheVariants.{NoMemory}
use Rattle.ds_formula.specs.Grammar.{no_memory}
use Rattle.ds_script_io.specs.ScriptLines.{NoLine, ALine, LongLine, next_of}
use Rattle.ds_a1_script.specs.declared.lines.Commands.TheVariants.{OfScript}
use Rattle.ds_a1_script.specs.declared.script.RefusedLine.{RefusedLine}
use Rattle.ds_a1_script.specs.EditLines.{line_opens}
use Rattle.ds_a1_script.specs.OpenScripts.{OpensScript, HasNoLine, ends, refused, goes_on}

-- what is after the lines that were opened goes on so
abbrev pub GoesOn : List ℕ → List ℕ → ℕ → List ℕ → Type 0
GoesOn script done lines rest = (text : List ℕ) (end : Option RefusedLine) → OpensScript lines rest text end → OpensScript 0 script (done ++ text) end

pub begun : (script done : List ℕ) → done ≡ [] → GoesOn script done 0 script
begun script done e text end h = subst (λ (d : List ℕ). OpensScript 0 script (d ++ text) end) (sym e) h

pub line_more : (script done new rest line left open_line : List ℕ) (lines : ℕ) → GoesOn script done lines rest → next_of true rest ≡ ALine line left → line_opens OfScript line ≡ Ok open_line
    → new ≡ done ++ (open_line ++ (10 ∷ [])) → GoesOn script new (lines + 1) left
line_more script done new rest line left open_line lines so next opens is text end h =
    subst (λ (t : List ℕ). OpensScript 0 script t end) (sym (ap (λ (d : List ℕ). d ++ text) is ∙ append_assoc done (open_line ++ (10 ∷ [])) text))
    (so ((open_line ++ (10 ∷ [])) ++ text) end (goes_on lines rest line left open_line text end next opens h))

pub line_refused : (script done rest line left : List ℕ) (lines : ℕ) (fault : TextFault) → GoesOn script done lines rest → next_of true rest ≡ ALine line left
    → (fault ≡ no_memory) ⊎ (line_opens OfScript line ≡ Err fault) → fault.kind ≢ NoMemory → OpensScript 0 script done (Some (record { line = lines + 1; fault = fault }))
line_refused script done rest line left lines fault so next (inl none) not = absurd (not (ap (λ (f : TextFault). f.kind) none))
line_refused script done rest line left lines fault so next (inr opens) not =
    subst (λ (t : List ℕ). OpensScript 0 script t (Some (record { line = lines + 1; fault = fault }))) (append-nil done) (so [] _ (refused lines rest line left fault next opens))

pub lines_end : (script done new rest : List ℕ) (lines : ℕ) (end : Option RefusedLine) → GoesOn script done lines rest → HasNoLine rest → new ≡ done ++ rest → end ≡ None → OpensScript 0 script new end
lines_end script done new rest lines end so none is without =
    subst (λ (e : Option RefusedLine). OpensScript 0 script new e) (sym without) (subst (λ (t : List ℕ). OpensScript 0 script t None) (sym is) (so rest None (ends lines rest none)))
