-- What a native sees of its arguments, one after another, and where it writes.
use Rattle.std.specs.Prelude.{◌≤◌, ℕ, ℤ, pos, suc, List, [], ◌∷◌, Option, None, Some, Bool, true}
use Rattle.std.specs.Prelude.{false, ◌&&◌, map, length, unwrap_or, nat_lt, nat_le}
use Rattle.std.specs.List.{slice_index_or}
use Rattle.pawn_cells.specs.Cells.{bits_of}
use Rattle.host_script.specs.declared.script.Form.{Form}
use Rattle.host_script.specs.declared.script.Form.TheVariants as form
use Rattle.host_script.specs.declared.script.Write.{Write}
use Rattle.host_script.specs.declared.event.Seen.{Seen}
use Rattle.host_script.specs.declared.event.Seen.TheVariants as seen
use Rattle.host_script.specs.NativeCall.{Sight, Sees, Blind, Sought, Put}
use Rattle.amx_ops.specs.State.{State}
use Rattle.amx_ops.specs.Moves.{look, arguments, live_from}
use Rattle.host_run.specs.declared.guest.Guest.{Guest}
use Rattle.host_run.specs.Guest.{form_at}

-- none where they can't be read
abbrev pub arguments_of : State → List ℤ
arguments_of s = unwrap_or (arguments s) []

-- something was seen
abbrev pub is_sight : Sight (Sought ℕ) → Bool
is_sight (Sees it) = true
is_sight (Blind trap) = false

-- what was seen; a blind one sees nothing
abbrev pub sought_in : Sight (Sought ℕ) → Sought ℕ
sought_in (Sees it) = it
sought_in (Blind trap) = record { seen = seen.Cell (pos 0); hold = None }

-- the arguments from one with a number on
abbrev pub all_seen : State → (ℕ → Form) → ℕ → List ℤ → Bool
all_seen s form index [] = true
all_seen s form index (value ∷ values) =
    is_sight (look s value (form index)) && all_seen s form (suc index) values

-- what was seen of each of them
abbrev pub sought : State → (ℕ → Form) → ℕ → List ℤ → List (Sought ℕ)
sought s form index [] = []
sought s form index (value ∷ values) =
    sought_in (look s value (form index)) ∷ sought s form (suc index) values

-- as a host sees the arguments of a native
abbrev pub seen_by : State → Guest → List Seen
seen_by s guest =
    map (λ it. it.seen) (sought s (form_at guest.forms.now guest.rest) 0 (arguments_of s))

-- whether it sees them all
abbrev pub sees_all : State → Guest → Bool
sees_all s guest = all_seen s (form_at guest.forms.now guest.rest) 0 (arguments_of s)

-- so many cells may be written to an argument of a form
abbrev pub room_of : Form → Option ℕ
room_of form.Cell = None
room_of form.Ref = Some 1
room_of form.Text = None
room_of (form.Cells count) = Some count

-- so many cells have room
abbrev pub fits_in : Option ℕ → ℕ → Bool
fits_in None count = false
fits_in (Some room) count = nat_le count room

-- a write to an argument that is there, of no more cells than it has
abbrev pub is_allowed : (ℕ → Form) → ℕ → Write → Bool
is_allowed form count write =
    nat_lt write.arg count && fits_in (room_of (form write.arg)) (length write.cells)

-- a write goes to the address that is its argument
abbrev pub put_of : List ℤ → Write → Put ℕ
put_of values write =
    record { to = bits_of (slice_index_or values write.arg (pos 0)); values = write.cells }

-- its place is live
abbrev pub IsRoomFor : State → List ℤ → Write → Type 0
IsRoomFor s values write =
    length write.cells ≤ length (live_from s (bits_of (slice_index_or values write.arg (pos 0))))
