-- The signature of an operator, as code finds it.
use Rattle.std.specs.Prelude.{ℕ, List, [], ◌∷◌, Option, Some, None}
use Rattle.pawn_tags.specs.declared.op.Op.{Op}
use Rattle.pawn_tags.specs.declared.op.Signature.{Signature}
use Rattle.types_rules.specs.Keys.{signature_between}

-- by the tags of its parameters, with the right one where it has one operand
abbrev pub signature_by : Op → ℕ → Option (List ℕ) → Option Signature
signature_by sign right None = None
signature_by sign right (Some []) = None
signature_by sign right (Some (operand ∷ [])) = signature_between sign operand right
signature_by sign right (Some (left ∷ other ∷ [])) = signature_between sign left other
signature_by sign right (Some (left ∷ other ∷ third ∷ more)) = None
