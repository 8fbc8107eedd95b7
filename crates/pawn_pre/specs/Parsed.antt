-- A directive, as the code hands over its parts.
use Rattle.std.specs.Prelude.{◌≡◌, Option, Some, None}
use Rattle.pawn_pre.specs.declared.directive.Parts.{Parts}
use Rattle.pawn_pre.specs.declared.directive.PragmaParts.{PragmaParts}
use Rattle.pawn_pre.specs.Directive.{Directive, Pragma}

-- the same word and bytes, or none
abbrev pub IsDirective : Option Directive → Option Parts → Type 0
IsDirective found None = found ≡ None
IsDirective found (Some parts) =
    found ≡ Some (record { word = parts.word; rest = parts.rest.now })

-- the same setting and bytes
abbrev pub IsPragma : Pragma → PragmaParts → Type 0
IsPragma found parts = found ≡ record { setting = parts.setting; rest = parts.rest.now }
