-- A list whose elements each stand behind what those before them declare and make.
use Rattle.std.specs.Prelude.{◌≡◌}
use Rattle.names_rules.specs.Verdict.{Verdict, Stands, both}

-- two parts joined
abbrev pub joined : {A : Type 0} → (A → A → A) → Verdict A → Verdict A → Verdict A
joined join first second = both first second (λ x y. Stands (join x y))

-- the whole is what was told so far, and the rest
pub record Walked {A : Type 0} (join : A → A → A) (whole done rest : Verdict A) : Type 0 where
  pub same : whole ≡ joined join done rest
