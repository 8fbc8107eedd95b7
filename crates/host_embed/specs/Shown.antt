-- An event as C sees it.
use Rattle.std.specs.Prelude.{ℕ, ℤ, pos, if◌then◌else◌}
use Rattle.amx_ops.specs.Table.{is_number}
use Rattle.amx_machine.specs.declared.event.Event.{Event}
use Rattle.amx_machine.specs.declared.event.Event.TheVariants as event
use Rattle.host_embed.specs.declared.event.SulkhenEvent.{SulkhenEvent}

-- by its kind, its value and its tag
abbrev pub shown : ℕ → ℤ → ℤ → ℤ → SulkhenEvent
shown steps kind value tag =
    record { steps = steps; kind = kind; native = 0; value = value; tag = tag }

-- HALT 12 is a sleep, HALT 0 is done, HALT 1 an exit, and any other an error
abbrev pub halted : ℕ → ℤ → ℤ → ℤ → SulkhenEvent
halted steps code pri alt =
    if is_number 12 code then shown steps (pos 2) pri alt
    else (if is_number 0 code then shown steps (pos 3) pri (pos 0)
    else (if is_number 1 code then shown steps (pos 4) pri alt
    else shown steps (pos 5) code (pos 0)))

-- the event behind so many steps
abbrev pub event_of : ℕ → Event → SulkhenEvent
event_of steps event.Going = shown steps (pos 0) (pos 0) (pos 0)
event_of steps (event.Native native) =
    record (shown steps (pos 1) (pos 0) (pos 0)) { native = native }
event_of steps (event.Halt code pri alt) = halted steps code pri alt
event_of steps (event.Error code) = shown steps (pos 5) code (pos 0)
