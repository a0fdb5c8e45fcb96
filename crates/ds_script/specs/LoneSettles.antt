-- What a settle answers where nobody disturbs it.
use Rattle.std.specs.Prelude.{ℕ, ◌≡◌, ◌⊎◌, List, codes}
use Rattle.ds_state.specs.declared.refusal.Refusal.TheVariants.{NoMemory}
use Rattle.ds_script_io.specs.AnswerTexts.{refused_text}
use Rattle.ds_script.specs.ScriptTexts.{word_line}

-- the line says that all cells are clean; or that an allocation failed, where a work was to begin or in one
abbrev pub SaysClean : ℕ → List ℕ → Type 0
SaysClean p line = (line ≡ codes "clean\n") ⊎ ((line ≡ refused_text p NoMemory) ⊎ (line ≡ word_line p (codes "nomemory")))
