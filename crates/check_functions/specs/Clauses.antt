-- The clauses of bodies as code holds them, and what it finds of them.
use Rattle.std.specs.Prelude.{◌≡◌, ℕ, List, [], ◌∷◌, ◌++◌, map, filter, filter_map, slice_get}
use Rattle.std.specs.Prelude.{Option, None, Some}
use Rattle.pawn_tree.specs.declared.name.At.{At}
use Rattle.pawn_states.specs.declared.clause.Clause.{Clause}
use Rattle.pawn_states.specs.declared.fault.StateFault.{StateFault}
use Rattle.pawn_states.specs.declared.fault.StateFault.TheVariants.{Twice, FallbackTwice, Mixed}
use Rattle.pawn_states.specs.declared.fault.StateFault.TheVariants.{Memory}
use Rattle.pawn_states.specs.Classifier.{first_fault}
use Rattle.names_rules.specs.Verdict.{Fault}
use Rattle.types_rules.specs.declared.fault.TheConstants.{STATE_TWICE, FALLBACK_TWICE}
use Rattle.types_rules.specs.declared.fault.TheConstants.{MIXED_AUTOMATA}
use Rattle.types_rules.specs.Groups.{Written}
use Rattle.types_rules.specs.Functions.{clause_of, has_classifier, fault}
use Rattle.check_functions.specs.declared.clauses.Classified.{Classified}

-- with that of a body more
pub record Stands (old new : Classified) (it : Written) : Type 0 where
  pub clauses : new.clauses ≡ old.clauses ++ filter_map clause_of (it ∷ [])
  pub places : new.places ≡ old.places
      ++ map (λ (body : Written). body.at) (filter has_classifier (it ∷ []))

-- a broken rule at a token, where there is one
abbrev pub at_place : ℕ → Option At → List Fault
at_place kind None = []
at_place kind (Some at) = fault kind at ∷ []

-- a fault of clauses, at the body that it names
abbrev pub places_by : List At → Option StateFault → List Fault
places_by places None = []
places_by places (Some (Twice i)) = at_place STATE_TWICE (slice_get places i)
places_by places (Some (FallbackTwice i)) = at_place FALLBACK_TWICE (slice_get places i)
places_by places (Some (Mixed i)) = at_place MIXED_AUTOMATA (slice_get places i)
places_by places (Some Memory) = []

-- the first one
abbrev pub clauses_by : List At → List Clause → List Fault
clauses_by places clauses = places_by places (first_fault [] clauses)
