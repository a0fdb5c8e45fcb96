-- The texts of a recording's rows.
use Rattle.std.specs.Prelude.{ℕ, zero, suc, ◌≡◌, ◌≢◌, ◌==◌, ◌&&◌, ◌-◌, ◌⊎◌, Bool, true, false, not, List, [], ◌∷◌, ◌++◌, Option, Some, None, All, map, codes, nat_lt, slice_get, slice_index_or, if◌then◌else◌}
use Rattle.std.specs.Fmt.{decimal}
use Rattle.ds_formula.specs.Names.{cell_text}
use Rattle.ds_words.specs.declared.access.Access.{Access}
use Rattle.ds_words.specs.declared.access.Access.TheVariants as access
use Rattle.ds_words.specs.declared.words.Word.{Word}
use Rattle.ds_core.specs.declared.reply.Reply.{Reply}
use Rattle.ds_core.specs.declared.reply.Reply.TheVariants as replies
use Rattle.ds_layout.specs.declared.place.Place.{Place}
use Rattle.ds_trace.specs.Traces.{place_named}
use Rattle.ds_trace.specs.declared.row.Begin.{Begin}
use Rattle.ds_trace.specs.declared.row.Begin.TheVariants as begins
use Rattle.ds_trace.specs.declared.row.Happening.{Happening}
use Rattle.ds_trace.specs.declared.row.Happening.TheVariants.{Begins, Steps, TakesEntry, Evicts, Crashes}
use Rattle.ds_trace.specs.declared.row.TraceRow.{TraceRow}
use Rattle.ds_trace.specs.declared.row.Trace.{Trace}
use Rattle.ds_trace_scene.specs.Columns.{no_word, word_before}
use Rattle.ds_trace_scene.specs.PlaceNames.{name_of}
use Rattle.ds_trace_scene.specs.declared.columns.Passage.{Passage}
use Rattle.ds_trace_scene.specs.declared.columns.PassageEnd.{PassageEnd}
use Rattle.ds_trace_scene.specs.declared.columns.PassageEnd.TheVariants as passage

-- what stands for the end of a line: a bar, unless it is the last end
abbrev pub bar : List ℕ → List ℕ
bar [] = []
bar (byte ∷ rest) = codes " | "

-- the lines of an answer as one
abbrev pub one_line : List ℕ → List ℕ
one_line [] = []
one_line (byte ∷ rest) = (if byte == 10 then bar rest else byte ∷ []) ++ one_line rest

-- the text of a call that begins
abbrev pub call_text : Begin → List ℕ → List ℕ
call_text (begins.Edit cell) text = (codes "set " ++ (cell_text cell ++ codes " ")) ++ text
call_text (begins.Work cell) text = codes "work " ++ cell_text cell
call_text begins.Show text = codes "report"
call_text begins.Recovery text = codes "recover"
call_text begins.Migration text = codes "migrate"

-- ---- the word that an event touches

-- the word at this place is that with its number in the recording; zeros, where the recording does not look at it
abbrev pub IsWordAt : Trace → Place → (ℕ → Word) → Word → Type 0
IsWordAt trace place numbered word =
    ((number : ℕ) × (slice_get trace.places.items number ≡ Some place) × (word ≡ numbered number))
    ⊎ (All (λ other. other ≢ place) trace.places.items × (word ≡ no_word))

-- the entry was written back
abbrev pub is_written_back : PassageEnd → Bool
is_written_back passage.WrittenBack = true
is_written_back passage.Lost = false
is_written_back passage.Buffered = false

-- the word that the process writes back at the line, by these buffer entries
abbrev pub written_back : List Passage → ℕ → ℕ → Option Place
written_back [] process line = None
written_back (entry ∷ entries) process line =
    if entry.process == process && (entry.to == line && is_written_back entry.end) then Some entry.place else written_back entries process line

-- the word that is named or written back by what happened at the line
abbrev pub place_touched : List Passage → ℕ → Happening → Option Place
place_touched entries line (Steps process access.Back) = written_back entries process line
place_touched entries line what = place_named what

-- ---- a step that goes on

-- what an access does
abbrev pub verb : Access Place → List ℕ
verb access.Nothing = codes "read the text"
verb (access.Load place) = codes "load"
verb (access.Store place word) = codes "store"
verb (access.Or place bits) = codes "set bits of"
verb (access.SwapIf place expected value) = codes "swap"
verb (access.Flush place) = codes "flush"
verb access.Back = codes "write back"

-- the access is a swap, and finds another word than it expects
abbrev pub fails : Access Place → Word → Bool
fails (access.SwapIf place expected value) before = not (before.cached == expected)
fails _ before = false

-- what is said of a step after its word: that its swap finds another one, or that an edit is linearized by it
abbrev pub step_end : Access Place → Word → Bool → List ℕ
step_end access before counts = if fails access before then codes ": another word is there" else (if counts then codes ": the edit counts" else [])

-- how many edits are linearized after the event, counted from 0
abbrev pub counted_after : Trace → ℕ → ℕ
counted_after trace event = slice_index_or (map (λ (row : TraceRow). row.counted) trace.rows.items) event 0

-- how many are before it
abbrev pub counted_before : Trace → ℕ → ℕ
counted_before trace zero = 0
counted_before trace (suc event) = counted_after trace event

-- the text of a step by this access, at this place if it touches one, after which as many edits are linearized
abbrev pub IsStepText : Trace → ℕ → Access Place → ℕ → Option Place → List ℕ → Type 0
IsStepText trace event access counted None text = text ≡ verb access
IsStepText trace event access counted (Some place) text =
    (before : Word) × IsWordAt trace place (λ number. word_before trace number event) before
    × (text ≡ verb access ++ (codes " " ++ (name_of trace.layout place ++ step_end access before (nat_lt (counted_before trace event) counted))))

-- ---- an event

-- the text of a crash that takes back as many edits that were linearized
abbrev pub crash_text : ℕ → List ℕ
crash_text taken = if taken == 0 then codes "crash" else codes "crash: edits that counted and are taken back: " ++ decimal taken

-- the text of the row of the event with this number, which touches the word at this place if it touches one, by what
-- happened and what that was answered: what is no begin, step or crash that happens is said by its answer
abbrev pub IsTextBy : Trace → ℕ → Option Place → TraceRow → List ℕ → Happening → Reply → Type 0
IsTextBy trace event place row text (Begins process begin) (replies.Begun number) = text ≡ call_text begin row.text.items
IsTextBy trace event place row text (Begins process begin) replies.Entered = text ≡ call_text begin row.text.items
IsTextBy trace event place row text (Steps process access) replies.Stepped = IsStepText trace event access row.counted place text
IsTextBy trace event place row text (TakesEntry process) reply = text ≡ codes "take the entry"
IsTextBy trace event place row text (Evicts evicted) reply = text ≡ codes "evict " ++ name_of trace.layout evicted
IsTextBy trace event place row text Crashes reply = text ≡ crash_text (counted_before trace event - row.counted)
IsTextBy trace event place row text what reply = text ≡ one_line row.answer.items

-- the same, by the row
abbrev pub IsRowText : Trace → ℕ → Option Place → TraceRow → List ℕ → Type 0
IsRowText trace event place row text = IsTextBy trace event place row text row.what row.reply
