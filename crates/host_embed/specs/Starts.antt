-- Starts at an entry, with arguments and with cells behind them, which a function reaches by their
-- addresses.
use Rattle.std.specs.Prelude.{◌≡◌, ◌≤◌, ◌*◌, ◌-◌, ℕ, ℤ, List, Option, None, Some, Result, Ok, Err}
use Rattle.std.specs.Prelude.{IsTrue, is_some, length, drop, nat_le, if◌then◌else◌}
use Rattle.pawn_cells.specs.Cells.{bits_of, cell_of}
use Rattle.amx_ops.specs.Moves.{live_from}
use Rattle.amx_machine.specs.Machine.{Machine, IsIdle}
use Rattle.amx_machine.specs.Starts.{address_by, started}
use Rattle.amx_machine.specs.Starts as machine
use Rattle.host_embed.specs.declared.refusal.Refusal.{Refusal}
use Rattle.host_embed.specs.declared.refusal.Refusal.TheVariants as refusal
use Rattle.host_embed.specs.Held.{Held, with_machine}

-- why a machine isn't started, the first cause in this order
abbrev pub IsUnstarted : Machine → ℤ → List ℤ → Refusal → Type 0
IsUnstarted m entry cells refusal.Mode = ¬ IsIdle m.mode
IsUnstarted m entry cells refusal.Index = IsIdle m.mode × (address_by m.amx entry ≡ None)
IsUnstarted m entry cells refusal.Stack =
    IsIdle m.mode × IsTrue (is_some (address_by m.amx entry)) × (started m entry cells ≡ None)
IsUnstarted m entry cells refusal.Dead = ⊥
IsUnstarted m entry cells (refusal.Image fault) = ⊥

-- where the last so many of its cells stand: below the stack's top
abbrev pub place_of : List ℤ → ℕ → Option ℤ
place_of cells count =
    if nat_le count (length cells) then Some (cell_of (4 * (length cells - count))) else None

-- cells stand there once they were pushed: the last so many of them at the place of so many
pub record StandsSo (old : Machine) (cells : List ℤ) (new : Machine) : Type 0 where
  pub at : (count : ℕ) (place : ℤ) → count ≤ length cells
      → place_of old.state.cells count ≡ Some place
      → live_from new.state (bits_of place) ≡ drop (length cells - count) cells

-- what a start comes to
abbrev pub StartsSo : {T : Type 0} → Held → ℤ → List ℤ → Result T Refusal → Held → Type 0
StartsSo old entry cells (Ok t) new =
    IsIdle old.machine.mode
    × machine.StartsSo old.machine entry cells (Ok t) new.machine
    × StandsSo old.machine cells new.machine
    × (new ≡ with_machine old new.machine)
StartsSo old entry cells (Err r) new = IsUnstarted old.machine entry cells r × (new ≡ old)
