-- The steps that every rule of the parser is made of.
use Rattle.std.proofs.Common.{◌≡◌, Bool, true, false, not, ◌⊎◌, inl, inr, Option, Some, None}
use Rattle.std.proofs.Common.{refl, sym, ap, unwrap_or}
use Rattle.std.specs.Prelude.{if◌then◌else◌}
use Rattle.tree_rules.specs.Readers.{◌>>=◌, guard}

pub none_some : {A : Type 0} {y : A} → None ≡ Some y → ⊥
none_some e = cc

pub some_inj : {A : Type 0} (x y : A) → Some x ≡ Some y → x ≡ y
some_inj x y e = ap (λ o. unwrap_or o x) e

pub false_true : false ≡ true → ⊥
false_true e = cc

pub not_true : (b : Bool) → not b ≡ true → b ≡ false
not_true true e = absurd (false_true e)
not_true false e = refl

pub not_false : (b : Bool) → not b ≡ false → b ≡ true
not_false true e = refl
not_false false e = absurd (false_true (sym e))

pub record Bound {A B : Type 0} (o : Option A) (f : A → Option B) (y : B) : Type 0 where
  pub first : A
  pub is : o ≡ Some first
  pub next : f first ≡ Some y

pub bind_some : {A B : Type 0} (o : Option A) (f : A → Option B) (y : B) → (o >>= f) ≡ Some y
    → Bound o f y
bind_some None f y e = absurd (none_some e)
bind_some (Some x) f y e = record { first = x; is = refl; next = e }

pub guard_some : {A : Type 0} (b : Bool) (o : Option A) (y : A) → guard b o ≡ Some y
    → (b ≡ true) × (o ≡ Some y)
guard_some true o y e = (refl, e)
guard_some false o y e = absurd (none_some e)

pub if_cases : {A : Type 0} (b : Bool) (x z : Option A) (y : A) → (if b then x else z) ≡ Some y
    → ((b ≡ true) × (x ≡ Some y)) ⊎ ((b ≡ false) × (z ≡ Some y))
if_cases true x z y e = inl (refl, e)
if_cases false x z y e = inr (refl, e)
