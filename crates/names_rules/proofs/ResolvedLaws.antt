-- What holds of each mark of a tree that breaks no rule.
use Rattle.std.proofs.Common.{◌≡◌, Bool, true, false, not, ◌&&◌, if◌then◌else◌, List, [], ◌∷◌, ◌++◌}
use Rattle.std.proofs.Common.{Option, Some, None, refl, sym, ap, ◌∙◌, arith}
use Rattle.pawn_cells.specs.declared.place.Place.{Place}
use Rattle.pawn_tree.specs.Declarations.{Tree}
use Rattle.names_rules.specs.Verdict.{Fault, Stands, Breaks}
use Rattle.names_rules.specs.Mark.{Mark, Uses, Declares, Use}
use Rattle.names_rules.specs.TreeMarks.{tree_marks}
use Rattle.names_rules.specs.FileNames.{file_names, twice_faults}
use Rattle.names_rules.specs.Known.{Known, Kind, Cells, Worth, Function}
use Rattle.names_rules.specs.Around.{Around, around_of}
use Rattle.names_rules.specs.Found.{meaning, declared}
use Rattle.names_rules.specs.Here.{is_here}
use Rattle.names_rules.specs.Faults.{use_faults, again_faults, value_faults, mark_faults}
use Rattle.names_rules.specs.Faults.{marks_faults}
use Rattle.names_rules.specs.Resolves.{Names, Resolves}
use Rattle.names_rules.specs.ResolvedMeans.{StandsIn, HasValue, IsResolved}
use Rattle.names_rules.proofs.KindLaws.{KindFine, declared_fine}

-- ---- lists that are empty when joined

left_empty : (xs ys : List Fault) → xs ++ ys ≡ [] → xs ≡ []
left_empty [] ys e = refl
left_empty (x ∷ xs) ys e = absurd (grind (arith, e))

right_empty : (xs ys : List Fault) → xs ++ ys ≡ [] → ys ≡ []
right_empty [] ys e = e
right_empty (x ∷ xs) ys e = absurd (grind (arith, e))

-- ---- one mark

no_use_fault : (it : Use) (known : Option Known) → use_faults it known ≡ []
    → (found : Known) × (known ≡ Some found)
no_use_fault it None e = absurd (grind (arith, e))
no_use_fault it (Some known) e = (known, refl)

abbrev again : Place → List Fault
again place = record { kind = 51; place = place } ∷ []

not_again : (place : Place) (b : Bool) → (if b then again place else []) ≡ [] → b ≡ false
not_again place true e = absurd (grind (arith, e))
not_again place false e = refl

inside : (outside here : Bool) → outside ≡ false → (not outside && here) ≡ false → here ≡ false
inside false here e h = h
inside true here e h = absurd (grind (arith, e))

value_stands : (kind : Kind) → KindFine kind → value_faults kind ≡ [] → HasValue kind
value_stands (Cells sizes) h e = tt
value_stands (Worth (Stands value)) h e = (value, refl)
value_stands (Worth (Breaks [])) h e = absurd h.told
value_stands (Worth (Breaks (fault ∷ more))) h e = absurd (grind (arith, e))
value_stands Function h e = tt

-- ---- the mark of a tree

module _ (around : Around) where
  no_fault_before : (more before : List Mark) (mark : Mark)
      → marks_faults around (more ++ mark ∷ before) ≡ [] → mark_faults around before mark ≡ []
  no_fault_before [] before mark e =
      right_empty (marks_faults around before) (mark_faults around before mark) e
  no_fault_before (later ∷ more) before mark e =
      no_fault_before more before mark
      (left_empty (marks_faults around (more ++ mark ∷ before))
      (mark_faults around (more ++ mark ∷ before) later) e)

module _ (tree : Tree) (names : Names) (resolves : Resolves tree names) where
  no_marks_faults : marks_faults (around_of tree) (tree_marks tree) ≡ []
  no_marks_faults = right_empty (twice_faults (file_names tree)) _ resolves.whole

  no_mark_faults : (before : List Mark) (mark : Mark) → StandsIn tree before mark
      → mark_faults (around_of tree) before mark ≡ []
  no_mark_faults before mark x =
      no_fault_before (around_of tree) x.more before mark
      (ap (marks_faults (around_of tree)) (sym x.same) ∙ no_marks_faults)

  pub is_resolved : IsResolved tree
  is_resolved = record {
    found =
        λ before it x. no_use_fault it (meaning (around_of tree) before it.name)
        (no_mark_faults before (Uses it) x);
    once = λ before it x e.
        inside it.outside (is_here before it.name.bytes) e (not_again it.place _
        (left_empty (again_faults it (is_here before it.name.bytes)) _
        (no_mark_faults before (Declares it) x)));
    valued = λ before it x.
        value_stands (declared (around_of tree) before it).kind
        (declared_fine (around_of tree) before it)
        (right_empty (again_faults it (is_here before it.name.bytes)) _
        (no_mark_faults before (Declares it) x));
  }
