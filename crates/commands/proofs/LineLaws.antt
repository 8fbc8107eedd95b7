-- The lines of warnings, from one of them on.
use Rattle.std.proofs.Common.{◌≡◌, ◌+◌, ◌<◌, ◌≤◌, ◌∙◌, ℕ, List, [], ◌++◌, length, drop, get_or, sym}
use Rattle.std.proofs.Common.{ap}
use Rattle.std.proofs.Math.ListN.{drop_of_length-le}
use Rattle.std.proofs.lemmas.List.{drop_more}
use Rattle.pawn_front.specs.declared.compiled.Warning.{Warning}
use Rattle.commands.specs.Lines.{warning_line, warning_lines}

-- the lines from a warning on
pub from_warning : (all : List Warning) (i : ℕ) (it : Warning) → i < length all
    → it ≡ get_or all i it
    → warning_lines (drop i all) ≡ warning_line it ++ warning_lines (drop (i + 1) all)
from_warning all i it h is =
    ap warning_lines (drop_more all i it h)
    ∙ ap (λ (y : Warning). warning_line y ++ warning_lines (drop (i + 1) all)) (sym is)

-- none are left behind the last
pub from_end : (all : List Warning) (i : ℕ) → length all ≤ i → warning_lines (drop i all) ≡ []
from_end all i h = ap warning_lines (drop_of_length-le all h)
