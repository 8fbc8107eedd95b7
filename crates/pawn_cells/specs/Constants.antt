-- The constants that every source has (Language Guide, "Predefined constants"): no others are.
use Rattle.std.specs.Prelude.{ℕ, ℤ, pos, Bool, true, false, Option, Some, None, List, codes}
use Rattle.std.specs.Prelude.{if◌then◌else◌}
use Rattle.std.specs.Str.{bytes_eq}
use Rattle.pawn_cells.specs.declared.constant.Constant.{Constant}
use Rattle.pawn_cells.specs.Cells as cells

-- a constant without a tag
abbrev pub number : ℤ → Option Constant
number value = Some (record { value = value; is_bool = false })

-- a constant with the tag `bool`
abbrev pub boolean : Bool → Option Constant
boolean holds = Some (record { value = cells.truth holds; is_bool = true })

-- the one with a name
abbrev pub predefined : List ℕ → Option Constant
predefined name =
    if bytes_eq name (codes "true") then boolean true
    else if bytes_eq name (codes "false") then boolean false
    else if bytes_eq name (codes "EOS") then number (pos 0)
    else if bytes_eq name (codes "cellbits") then number (pos 32)
    else if bytes_eq name (codes "cellmax") then number cells.greatest_cell
    else if bytes_eq name (codes "cellmin") then number cells.least_cell
    else if bytes_eq name (codes "charbits") then number (pos 8)
    else None
