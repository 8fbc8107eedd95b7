-- Arguments of a native that is waited for, and cells that are written.
use Rattle.std.specs.Prelude.{◌≡◌, ◌<◌, ◌≤◌, ℕ, ℤ, List, Bool, Option, None, Some, Result, Ok, Err}
use Rattle.std.specs.Prelude.{length, option_and_then, option_map, slice_get}
use Rattle.pawn_cells.specs.Cells.{bits_of}
use Rattle.amx_ops.specs.Moves.{arguments, live_from, with_write}
use Rattle.amx_machine.specs.Machine.{Machine}
use Rattle.host_embed.specs.declared.refusal.Refusal.{Refusal}
use Rattle.host_embed.specs.declared.refusal.Refusal.TheVariants as refusal
use Rattle.host_script.specs.Script.{characters}
use Rattle.host_embed.specs.Texts.{IsCopied}
use Rattle.host_embed.specs.Held.{Held, with_machine}
use Rattle.host_embed.specs.Turns.{IsWaiting}
use Rattle.host_embed.specs.Written.{IsText, text_cells}

-- how many arguments there are, where the machine waits for a native and they are live
abbrev pub CountsSo : Machine → Result ℕ Refusal → Type 0
CountsSo m (Ok n) = IsWaiting m × (option_map length (arguments m.state) ≡ Some n)
CountsSo m (Err refusal.Mode) = ¬ IsWaiting m
CountsSo m (Err refusal.Dead) = IsWaiting m × (arguments m.state ≡ None)
CountsSo m (Err refusal.Index) = ⊥
CountsSo m (Err refusal.Stack) = ⊥
CountsSo m (Err (refusal.Image fault)) = ⊥

-- the argument with a number
abbrev pub argument_at : Machine → ℕ → Option ℤ
argument_at m index = option_and_then (λ cells. slice_get cells index) (arguments m.state)

-- it, or why there is none
abbrev pub ArguesSo : Machine → ℕ → Result ℤ Refusal → Type 0
ArguesSo m index (Ok cell) = IsWaiting m × (argument_at m index ≡ Some cell)
ArguesSo m index (Err refusal.Mode) = ¬ IsWaiting m
ArguesSo m index (Err refusal.Dead) = IsWaiting m × (arguments m.state ≡ None)
ArguesSo m index (Err refusal.Index) = IsWaiting m × (argument_at m index ≡ None)
ArguesSo m index (Err refusal.Stack) = ⊥
ArguesSo m index (Err (refusal.Image fault)) = ⊥

-- as many characters of the text at an address as there is room for, and their count
abbrev pub TellsText : Machine → ℤ → List ℤ → Result ℕ Refusal → List ℤ → Type 0
TellsText m at old (Ok n) new =
    IsCopied (characters (live_from m.state (bits_of at))) old (Some n) new
TellsText m at old (Err r) new =
    IsCopied (characters (live_from m.state (bits_of at))) old None new × (r ≡ refusal.Dead)

-- cells written from an address on
abbrev pub written : ℕ → List ℤ → Machine → Machine
written at cells m =
    record m {
      state = record m.state
          { cells = with_write (record { to = at; values = cells }) m.state.cells };
    }

-- all of them where so many are live, and else none
abbrev pub WritesSo : {T : Type 0} → Held → ℤ → List ℤ → Result T Refusal → Held → Type 0
WritesSo old at cells (Ok t) new =
    (length cells ≤ length (live_from old.machine.state (bits_of at)))
    × (new ≡ with_machine old (written (bits_of at) cells old.machine))
WritesSo old at cells (Err r) new =
    (length (live_from old.machine.state (bits_of at)) < length cells)
    × (r ≡ refusal.Dead) × (new ≡ old)

-- the cells of a text where so many are live, and else none
abbrev pub WritesText : {T : Type 0} → Held → ℤ → Bool → List ℕ → Result T Refusal → Held → Type 0
WritesText old at packed text (Ok t) new =
    (cells : List ℤ) × IsText packed text cells × WritesSo old at cells (Ok t) new
WritesText old at packed text (Err r) new =
    (length (live_from old.machine.state (bits_of at)) < text_cells packed (length text))
    × (r ≡ refusal.Dead) × (new ≡ old)
