-- What holds of all that stands: one law for each way of joining verdicts. For callers.
use Rattle.std.proofs.Common.{◌≡◌, List, [], ◌∷◌, refl}
use Rattle.names_rules.specs.Verdict.{Fault, Verdict, Stands, Breaks, after, both}
use Rattle.types_rules.specs.Rule.{also, unless_faults}

-- what stands has a property
pub record Holds {A : Type 0} (P : A → Type 0) (w : Verdict A) : Type 0 where
  pub of : (x : A) → w ≡ Stands x → P x

pub stands_itself : {A : Type 0} (P : A → Type 0) (x : A) → P x → Holds P (Stands x)
stands_itself P x p = record { of = λ y e. let same : x ≡ y = cc in rw (← same) p }

pub breaks_holds : {A : Type 0} (P : A → Type 0) (found : List Fault) → Holds P (Breaks found)
breaks_holds P found = record { of = λ y e. cc }

pub holds_after : {A B : Type 0} {P : A → Type 0} {R : B → Type 0} {w : Verdict A} {rule : A
    → Verdict B}
    → Holds P w → ((x : A) → P x → Holds R (rule x)) → Holds R (after w rule)
holds_after {w = Stands x} h go = go x (h.of x refl)
holds_after {w = Breaks found} h go = breaks_holds _ found

pub holds_both : {A B C : Type 0} {P : A → Type 0} {Q : B → Type 0} {R : C
    → Type 0} {v : Verdict A} {w : Verdict B}
    {rule : A → B → Verdict C} → Holds P v → Holds Q w
    → ((x : A) (y : B) → P x → Q y → Holds R (rule x y)) → Holds R (both v w rule)
holds_both {v = Stands x} h k go = holds_after k (λ y q. go x y (h.of x refl) q)
holds_both {v = Breaks found} h k go = breaks_holds _ _

-- with nothing asked
pub holds_all : {A : Type 0} (w : Verdict A) → Holds (λ x. Unit {0}) w
holds_all w = record { of = λ x e. tt }

pub holds_also : {A B : Type 0} {P : B → Type 0} (v : Verdict A) {w : Verdict B} → Holds P w
    → Holds P (also v w)
holds_also {P = P} v h =
    holds_after h (λ x p. holds_after (holds_all v) (λ passed t. stands_itself P x p))

pub holds_unless : {A B : Type 0} {P : B → Type 0} (v : Verdict A) {w : Verdict B} → Holds P w
    → Holds P (unless_faults v w)
holds_unless (Stands x) h = h
holds_unless (Breaks []) h = h
holds_unless (Breaks (fault ∷ more)) h = breaks_holds _ _
