-- The lines of conditionals: each keeps the lines behind it or drops them up to its partner
-- (Language Guide, "Directives", on `#if`).
use Rattle.std.specs.Prelude.{Option, Some, None, List, [], ◌∷◌, Bool, true, false, if◌then◌else◌}
use Rattle.pawn_cells.specs.declared.place.Place.{Place}
use Rattle.pawn_pre.specs.declared.directive.Word.TheVariants as word
use Rattle.pawn_pre.specs.Marks.{Mark, Opens, Closes, innermost}
use Rattle.pawn_pre.specs.OpenLines.{Open, Line, Directs}
use Rattle.pawn_pre.specs.Partner.{Partner, AtElseIf, AtElse, AtEndif, Lacks, partner}
use Rattle.pawn_pre.specs.Turn.{Turn, Goes, fault}

-- behind an `#if` that doesn't hold: an `#elseif` there is now an `#if`
abbrev pub dropped_if : List Mark → Partner → Turn
dropped_if marks (AtElseIf at bytes rest) = Goes marks (Line at (Directs word.If bytes) ∷ rest)
dropped_if marks (AtElse at bytes rest) = Goes (Opens true ∷ marks) rest
dropped_if marks (AtEndif rest) = Goes marks rest
dropped_if marks (Lacks kind at) = fault marks at kind

-- behind an `#elseif` of which a part was chosen before
abbrev pub dropped_elseif : List Mark → Partner → Turn
dropped_elseif marks (AtElseIf at bytes rest) =
    Goes marks (Line at (Directs word.ElseIf bytes) ∷ rest)
dropped_elseif marks (AtElse at bytes rest) =
    Goes marks (Line at (Directs word.Else bytes) ∷ rest)
dropped_elseif marks (AtEndif rest) = Goes (Closes ∷ marks) rest
dropped_elseif marks (Lacks kind at) = fault marks at kind

-- behind such an `#else`: its partner is an `#endif`
abbrev pub dropped_else : List Mark → Partner → Turn
dropped_else marks (AtElseIf at bytes rest) = fault marks at 2
dropped_else marks (AtElse at bytes rest) = fault marks at 2
dropped_else marks (AtEndif rest) = Goes (Closes ∷ marks) rest
dropped_else marks (Lacks kind at) = fault marks at kind

-- an `#if` that holds, or one that doesn't
abbrev pub if_by : Bool → List Mark → List Open → Turn
if_by true marks rest = Goes (Opens false ∷ marks) rest
if_by false marks rest = dropped_if marks (partner [] rest)

-- fault 2 where no conditional is open, or its `#else` is past
abbrev pub if_not_past : List Mark → Place → Option Bool → Turn → Turn
if_not_past marks at None turn = fault marks at 2
if_not_past marks at (Some past) turn = if past then fault marks at 2 else turn

-- an `#elseif` behind a chosen part
abbrev pub elseif_line : List Mark → Place → List Open → Turn
elseif_line marks at rest =
    if_not_past marks at (innermost marks) (dropped_elseif marks (partner [] rest))

-- an `#else` behind a chosen part
abbrev pub else_line : List Mark → Place → List Open → Turn
else_line marks at rest =
    if_not_past marks at (innermost marks) (dropped_else marks (partner [] rest))

-- an open conditional is closed
abbrev pub endif_by : List Mark → Place → Option Bool → List Open → Turn
endif_by marks at None rest = fault marks at 2
endif_by marks at (Some past) rest = Goes (Closes ∷ marks) rest

-- an `#endif`
abbrev pub endif_line : List Mark → Place → List Open → Turn
endif_line marks at rest = endif_by marks at (innermost marks) rest
