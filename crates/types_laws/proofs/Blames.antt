-- A verdict that doesn't stand has a fault: one law for each way of joining verdicts.
use Rattle.std.proofs.Common.{◌≡◌, List, [], ◌∷◌, Bool, true, false, refl}
use Rattle.std.specs.Prelude.{if◌then◌else◌}
use Rattle.names_rules.specs.Verdict.{Fault, Verdict, Stands, Breaks, after, both}
use Rattle.types_rules.specs.Rule.{also, unless_faults, pair, each, thread}

pub record Blames {A : Type 0} (w : Verdict A) : Type 0 where
  pub some : w ≡ Breaks [] → ⊥

pub stood : {A : Type 0} (x : A) → Blames (Stands x)
stood x = record { some = λ e. let no : ⊥ = cc in no }

pub blamed : {A : Type 0} (fault : Fault) (more : List Fault)
    → Blames {A = A} (Breaks (fault ∷ more))
blamed fault more = record { some = λ e. let no : ⊥ = cc in no }

pub when : {A : Type 0} (b : Bool) {v w : Verdict A} → Blames v → Blames w
    → Blames (if b then v else w)
when true h k = h
when false h k = k

pub blames_after : {A B : Type 0} {w : Verdict A} {rule : A → Verdict B} → Blames w
    → ((x : A) → w ≡ Stands x → Blames (rule x)) → Blames (after w rule)
blames_after {w = Stands x} h go = go x refl
blames_after {w = Breaks []} h go = absurd (h.some refl)
blames_after {w = Breaks (fault ∷ more)} h go = blamed fault more

pub blames_both : {A B C : Type 0} {v : Verdict A} {w : Verdict B} {rule : A → B → Verdict C}
    → Blames v → ((x : A) → v ≡ Stands x → Blames w)
    → ((x : A) (y : B) → v ≡ Stands x → w ≡ Stands y → Blames (rule x y))
    → Blames (both v w rule)
blames_both {v = Stands x} h k go = blames_after (k x refl) (λ y e. go x y refl e)
blames_both {v = Breaks []} h k go = absurd (h.some refl)
blames_both {v = Breaks (fault ∷ more)} h k go = blamed _ _

pub blames_also : {A B : Type 0} {v : Verdict A} {w : Verdict B} → Blames v → Blames w
    → Blames (also v w)
blames_also h k = blames_after k (λ x e. blames_after h (λ y e2. stood x))

pub blames_unless : {A B : Type 0} (v : Verdict A) {w : Verdict B} → Blames w
    → Blames (unless_faults v w)
blames_unless (Stands x) h = h
blames_unless (Breaks []) h = h
blames_unless (Breaks (fault ∷ more)) h = blamed fault more

pub blames_pair : {A B : Type 0} {v : Verdict A} {w : Verdict B} → Blames v → Blames w
    → Blames (pair v w)
blames_pair h k = blames_both h (λ x e. k) (λ x y e e2. stood (x, y))

pub blames_each : {A B : Type 0} (rule : A → Verdict B) (all : List A)
    → ((x : A) → Blames (rule x)) → Blames (each rule all)
unfolding each
blames_each rule [] h = stood []
blames_each rule (x ∷ more) h =
    blames_both (h x) (λ y e. blames_each rule more h) (λ y ys e e2. stood (y ∷ ys))

pub blames_thread : {A B : Type 0} (step : A → B → Verdict A) (done : A) (all : List B)
    → ((x : A) (y : B) → Blames (step x y)) → Blames (thread step done all)
unfolding thread
blames_thread step done [] h = stood done
blames_thread step done (x ∷ more) h =
    blames_after (h done x) (λ next e. blames_thread step next more h)
