-- A run with one more event.
use Rattle.std.proofs.Common.{ℕ, ◌≡◌, ◌<◌, ◌+◌, List, [], ◌∷◌, ◌++◌, refl, ap, sym, ◌∙◌, subst, take, length, get_or}
use Rattle.std.proofs.lemmas.List.{take_more}
use Rattle.ds_state.specs.Value.{WorldValue}
use Rattle.ds_core.specs.Takes.{Fits, WorldRun}
use Rattle.ds_core.specs.declared.event.Event.{Event}
use Rattle.ds_core.specs.declared.reply.Reply.{Reply}

-- a run with one more event is a run
pub run_more : (old mid new : WorldValue) (events : List Event) (event : Event) (replies : List Reply) (reply : Reply) → WorldRun old events replies mid → Fits mid event reply new
    → WorldRun old (events ++ event ∷ []) (replies ++ reply ∷ []) new
run_more old mid new [] event [] reply run fits = (new, subst (λ (v : WorldValue). Fits v event reply new) run fits, refl)
run_more old mid new (e ∷ events) event (r ∷ replies) reply run fits = (run.0, run.1, run_more run.0 mid new events event replies reply run.2 fits)
run_more old mid new [] event (r ∷ replies) reply run fits = absurd run
run_more old mid new (e ∷ events) event [] reply run fits = absurd run

-- a run of a list's first events goes on with its next one
pub run_next : (old mid new : WorldValue) (events : List Event) (i : ℕ) (event : Event) (replies : List Reply) (reply : Reply) → i < length events → event ≡ get_or events i event
    → WorldRun old (take i events) replies mid → Fits mid event reply new → WorldRun old (take (i + 1) events) (replies ++ reply ∷ []) new
run_next old mid new events i event replies reply lt is run fits =
    subst (λ (es : List Event). WorldRun old es (replies ++ reply ∷ []) new) (sym (take_more events i event lt ∙ ap (λ x. take i events ++ x ∷ []) (sym is)))
    (run_more old mid new (take i events) event replies reply run fits)
