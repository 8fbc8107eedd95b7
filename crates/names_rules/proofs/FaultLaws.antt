-- The faults of a tree are those of the names outside all functions and those of its marks.
use Rattle.std.proofs.Common.{◌≡◌, List, [], ◌∷◌, ◌++◌, refl}
use Rattle.std.specs.List.{Contains}
use Rattle.std.proofs.lemmas.List.Elements.{Contains-append_left, Contains-append_right}
use Rattle.pawn_tree.specs.Declarations.{Tree}
use Rattle.names_rules.specs.Verdict.{Fault}
use Rattle.names_rules.specs.Mark.{Mark}
use Rattle.names_rules.specs.TreeMarks.{tree_marks}
use Rattle.names_rules.specs.FileNames.{FileName, file_names, twice_faults}
use Rattle.names_rules.specs.Around.{Around, around_of}
use Rattle.names_rules.specs.Faults.{mark_faults, marks_faults, faults}

-- ---- one of them

pub twice_is_fault : (tree : Tree) (fault : Fault) → Contains (twice_faults (file_names tree)) fault
    → Contains (faults tree) fault
twice_is_fault tree fault x =
    Contains-append_left (twice_faults (file_names tree))
    (marks_faults (around_of tree) (tree_marks tree)) fault x

pub mark_is_fault : (tree : Tree) (fault : Fault)
    → Contains (marks_faults (around_of tree) (tree_marks tree)) fault
    → Contains (faults tree) fault
mark_is_fault tree fault x =
    Contains-append_right (twice_faults (file_names tree))
    (marks_faults (around_of tree) (tree_marks tree)) fault x

-- that of the latest mark
pub latest_is_fault : (around : Around) (before : List Mark) (mark : Mark) (fault : Fault)
    → Contains (mark_faults around before mark) fault
    → Contains (marks_faults around (mark ∷ before)) fault
latest_is_fault around before mark fault x =
    Contains-append_right (marks_faults around before) (mark_faults around before mark) fault x

-- names that follow keep the faults of those before them
pub twice_stays : (more before : List FileName) (fault : Fault)
    → Contains (twice_faults before) fault → Contains (twice_faults (more ++ before)) fault
twice_stays [] before fault x = x
twice_stays (name ∷ more) before fault x =
    Contains-append_left (twice_faults (more ++ before)) _ fault (twice_stays more before fault x)

-- ---- none

none_of_two : (xs ys : List Fault) → xs ≡ [] → ys ≡ [] → xs ++ ys ≡ []
none_of_two xs ys x y = rw (x, y) refl

pub no_mark_faults : (around : Around) (before : List Mark) (mark : Mark)
    → marks_faults around before ≡ [] → mark_faults around before mark ≡ []
    → marks_faults around (mark ∷ before) ≡ []
no_mark_faults around before mark x y = none_of_two _ _ x y

pub no_faults : (tree : Tree) → twice_faults (file_names tree) ≡ []
    → marks_faults (around_of tree) (tree_marks tree) ≡ [] → faults tree ≡ []
no_faults tree x y = none_of_two _ _ x y
