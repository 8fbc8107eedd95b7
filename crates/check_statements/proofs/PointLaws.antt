-- Places by their parts.
use Rattle.std.proofs.Common.{◌≡◌, ℕ, ◌+◌, refl, arith}
use Rattle.types_rules.specs.Points.{Point, beyond}

pub point_eq : (p q : Point) → p.scope ≡ q.scope → p.objects ≡ q.objects → p.slots ≡ q.slots → p ≡ q
point_eq p q a b c = rw (a, b, c) refl

pub beyond_none : (p : Point) → p ≡ beyond p 0 0
beyond_none p = point_eq p (beyond p 0 0) refl (omega arith) (omega arith)
