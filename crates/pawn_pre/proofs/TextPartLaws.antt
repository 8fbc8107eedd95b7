-- A part more of a text that is read.
use Rattle.std.proofs.Common.{◌≡◌, ℕ, ◌-◌, ◌<◌, ◌++◌, zero, suc, List, [], ◌∷◌, false, Option, Some}
use Rattle.std.proofs.Common.{None, refl, sym, ap, append_assoc, arith}
use Rattle.pawn_token.specs.declared.class.Class.TheVariants as class
use Rattle.pawn_token.specs.Class.{is_in}
use Rattle.pawn_pre.specs.declared.part.Part.{Part}
use Rattle.pawn_pre.specs.declared.condition_parts.Step.{Step}
use Rattle.pawn_pre.specs.ConditionParts.{step_at, parts_from, with_parts}

pub skipped : (control left b : ℕ) (rest : List ℕ) → 0 < left
    → parts_from control left (b ∷ rest) ≡ parts_from control (left - 1) rest
unfolding parts_from
skipped control zero b rest h = absurd (omega arith)
skipped control (suc left) b rest h = ap (λ n. parts_from control n rest) (omega arith)

with_more : (front : List Part) (p : Part) (o : Option (List Part))
    → with_parts front (with_parts (p ∷ []) o) ≡ with_parts (front ++ p ∷ []) o
unfolding with_parts
with_more front p None = refl
with_more front p (Some ps) = ap (λ qs. Some qs) (sym (append_assoc front (p ∷ []) ps))

pub one_part : (front : List Part) (control b : ℕ) (rest : List ℕ) (s : Step)
    → is_in class.Blank b ≡ false → step_at control (b ∷ rest) ≡ Some s
    → with_parts front (parts_from control 0 (b ∷ rest))
    ≡ with_parts (front ++ s.part ∷ []) (parts_from control (s.size - 1) rest)
unfolding parts_from
one_part front control b rest s h k =
    rw (h, k) (with_more front s.part (parts_from control (s.size - 1) rest))
