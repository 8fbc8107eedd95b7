-- The partner of a conditional's line: the next `#elseif`, `#else` or `#endif` of the same
-- conditional, found by looking ahead on the open lines (Language Guide, "Directives", on `#if`).
use Rattle.std.specs.Prelude.{ℕ, List, [], ◌∷◌, Bool, true, false, if◌then◌else◌}
use Rattle.pawn_cells.specs.declared.place.Place.{Place}
use Rattle.pawn_pre.specs.declared.directive.Word.{Word}
use Rattle.pawn_pre.specs.declared.directive.Word.TheVariants as word
use Rattle.pawn_pre.specs.OpenLines.{Plain, Directs, Open, Line, End, place}

-- its place, the bytes behind its word, and the lines behind it; or the fault of the line that
-- shows that there is none
pub data Partner : Type 0 where
  AtElseIf : Place → List ℕ → List Open → Partner
  AtElse : Place → List ℕ → List Open → Partner
  AtEndif : List Open → Partner
  Lacks : ℕ → Place → Partner

-- an `#elseif` or `#else` of a conditional that is passed over: its `#else` may not be past
abbrev pub within : Bool → Place → Partner → Partner
within past at later = if past then Lacks 2 at else later

-- by the word of a line and the conditionals that were opened on the way, of each whether its
-- `#else` is past
abbrev pub partner_at :
    Word → List Bool → Place → List ℕ → List Open → (List Bool → Partner) → Partner
partner_at word.If inner at bytes rest later = later (false ∷ inner)
partner_at word.ElseIf [] at bytes rest later = AtElseIf at bytes rest
partner_at word.ElseIf (past ∷ inner) at bytes rest later =
    within past at (later (past ∷ inner))
partner_at word.Else [] at bytes rest later = AtElse at bytes rest
partner_at word.Else (past ∷ inner) at bytes rest later = within past at (later (true ∷ inner))
partner_at word.Endif [] at bytes rest later = AtEndif rest
partner_at word.Endif (past ∷ inner) at bytes rest later = later inner
partner_at other inner at bytes rest later = later inner

-- an open comment goes before a conditional that isn't closed; each line has an end behind it
unfoldable pub partner : List Bool → List Open → Partner
partner inner [] = Lacks 2 (place 0 1)
partner inner (End last unclosed ∷ rest) = Lacks (if unclosed then 12 else 2) last
partner inner (Line at (Plain bytes) ∷ rest) = partner inner rest
partner inner (Line at (Directs word bytes) ∷ rest) =
    partner_at word inner at bytes rest (λ next. partner next rest)
