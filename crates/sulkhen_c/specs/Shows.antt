-- What C sees of a call, and the machine that it has back.
use Rattle.std.specs.Prelude.{◌≡◌, ℕ, ℤ, List, Result, Ok, Err}
use Rattle.amx_machine.specs.declared.event.Event.{Event}
use Rattle.host_embed.specs.declared.event.SulkhenEvent.{SulkhenEvent}
use Rattle.host_embed.specs.declared.refusal.Refusal.{Refusal}
use Rattle.amx_machine.specs.Machine.{Machine}
use Rattle.host_embed.specs.Held.{Held}
use Rattle.host_embed.specs.Refusals.{code_of}
use Rattle.host_embed.specs.Shown.{event_of}
use Rattle.host_embed.specs.Starts.{StartsSo}
use Rattle.host_embed.specs.Turns.{RunsSo, Turns}

-- some answer that the call may give has this code
abbrev pub Codes : {T : Type 0} → (Result T Refusal → Type 0) → ℤ → Type 0
Codes {T} gives code = (answer : Result T Refusal) × gives answer × (code ≡ code_of answer)

-- a start
abbrev pub StartsFor : Held → ℤ → List ℤ → ℤ → Held → Type 0
StartsFor old entry cells code new =
    Codes {T = Unit {0}} (λ answer. StartsSo old entry cells answer new) code

-- a call that makes this machine where the mode allows it
abbrev pub TurnsFor : Type 0 → Machine → Held → ℤ → Held → Type 0
TurnsFor allowed made old code new =
    Codes {T = Unit {0}} (λ answer. Turns allowed made old answer new) code

-- what a run leaves at its event's place
abbrev pub shown : Result (ℕ × Event) Refusal → SulkhenEvent → SulkhenEvent
shown (Ok r) old = event_of r.0 r.1
shown (Err r) old = old

-- a run: with the event, or with nothing changed
abbrev pub RunsFor : Held → ℕ → ℤ → SulkhenEvent → SulkhenEvent → Held → Type 0
RunsFor old n code event event' new =
    Codes (λ answer. RunsSo old n answer new × (event' ≡ shown answer event)) code
