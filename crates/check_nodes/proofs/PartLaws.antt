-- What a part answers, for the node.
use Rattle.std.proofs.Common.{◌≡◌, ◌<◌, ℕ, List, [], ◌∷◌, ◌++◌, Bool, true, false, refl, sym, ap}
use Rattle.std.proofs.Common.{◌∙◌, arith}
use Rattle.std.proofs.lemmas.Bool.{false≢true}
use Rattle.std.specs.Prelude.{Result, Ok, Err}
use Rattle.std.specs.List.{Contains}
use Rattle.std.proofs.lemmas.List.Elements.{Contains-append_left, Contains-append_right}
use Rattle.pawn_cells.specs.declared.place.Place.{Place}
use Rattle.names_rules.specs.Verdict.{Verdict, Stands, Breaks, Fault, faults_of, after, both}
use Rattle.pawn_verdict.specs.declared.fault.CheckFault.{CheckFault}
use Rattle.pawn_verdict.specs.declared.fault.CheckFault.TheVariants as check
use Rattle.pawn_verdict.specs.Answers.{Fails, Answers}
use Rattle.types_rules.specs.Rule.{unless_faults}
use Rattle.check_nodes.specs.declared.fault.PartFault.{PartFault}
use Rattle.check_nodes.specs.declared.fault.PartFault.TheVariants.{Source, Fallen, Memory}
use Rattle.check_nodes.specs.PartAnswers.{FailsPart, PartAnswers, part_of}

-- nothing is contained in no list
none : {A : Type 0} (f : Fault) → Contains [] f → A
none f h = let k : h.0 < 0 = h.1 in absurd (omega (arith, k))

abbrev stands : {A : Type 0} → Verdict A → Bool
stands (Stands x) = true
stands (Breaks faults) = false

stands_not : {A B : Type 0} (x : A) → Stands x ≡ Breaks [] → B
stands_not x h = absurd (false≢true (sym (ap stands h)))

-- ---- a rule over one part

pub part_after : {A B : Type 0} (w : Verdict A) (rule : A → Verdict B) (fault : PartFault)
    → FailsPart w fault → FailsPart (after w rule) fault
part_after (Stands x) rule (Source kind place) h = none _ h.cause
part_after (Stands x) rule Fallen h = stands_not x h.cause
part_after (Stands x) rule Memory h = record { cause = tt }
part_after (Breaks faults) rule (Source kind place) h = record { cause = h.cause }
part_after (Breaks faults) rule Fallen h =
    record { cause = ap (λ fs. Breaks fs) (ap faults_of h.cause) }
part_after (Breaks faults) rule Memory h = record { cause = tt }

-- ---- a rule over two parts

-- the first one breaks a rule, or memory is short
pub part_first : {A B C : Type 0} (v : Verdict A) (w : Verdict B) (rule : A → B → Verdict C)
    (fault : CheckFault) → FailsPart v (part_of fault) → FailsPart (both v w rule) (part_of fault)
part_first v w rule check.Memory h = record { cause = tt }
part_first (Stands x) w rule (check.Source kind place) h = none _ h.cause
part_first (Breaks faults) w rule (check.Source kind place) h =
    record { cause = Contains-append_left faults (faults_of w) _ h.cause }

-- the same by the number and the place
pub part_first_broken : {A B C : Type 0} (v : Verdict A) (w : Verdict B) (rule : A → B → Verdict C)
    (kind : ℕ) (place : Place) → FailsPart v (Source kind place)
    → FailsPart (both v w rule) (Source kind place)
part_first_broken v w rule kind place h = part_first v w rule (check.Source kind place) h

-- the second one breaks one
pub part_second : {A B C : Type 0} (v : Verdict A) (w : Verdict B) (rule : A → B → Verdict C)
    (x : A) (fault : PartFault) → v ≡ Stands x → FailsPart w fault → FailsPart (both v w rule) fault
part_second v w rule x fault h k = rw h (part_after w (rule x) fault k)

-- the first one falls: then it is as the second one says
pub part_fallen : {A B C : Type 0} (v : Verdict A) (w : Verdict B) (rule : A → B → Verdict C)
    (fault : PartFault) → FailsPart v Fallen → FailsPart w fault → FailsPart (both v w rule) fault
part_fallen v w rule fault h k = rw h.cause (fallen w fault k)
  where
    fallen : {B C : Type 0} (w : Verdict B) (fault : PartFault) → FailsPart w fault
        → FailsPart {A = C} (Breaks ([] ++ faults_of w)) fault
    fallen (Stands y) (Source kind place) k = none _ k.cause
    fallen (Stands y) Fallen k = record { cause = refl }
    fallen (Stands y) Memory k = record { cause = tt }
    fallen (Breaks faults) (Source kind place) k = record { cause = k.cause }
    fallen (Breaks faults) Fallen k = record { cause = ap (λ fs. Breaks fs) (ap faults_of k.cause) }
    fallen (Breaks faults) Memory k = record { cause = tt }

-- and falls where that one stands
pub part_falls : {A B C : Type 0} (v : Verdict A) (w : Verdict B) (rule : A → B → Verdict C) (y : B)
    → FailsPart v Fallen → w ≡ Stands y → FailsPart (both v w rule) Fallen
part_falls v w rule y h k = record { cause = rw (h.cause, k) refl }

-- ---- parts that are judged before the node

pub unless_broken : {A B : Type 0} (parts : Verdict A) (node : Verdict B) (fault : CheckFault)
    → FailsPart parts (part_of fault) → FailsPart (unless_faults parts node) (part_of fault)
unless_broken parts node check.Memory h = record { cause = tt }
unless_broken (Stands x) node (check.Source kind place) h = none _ h.cause
unless_broken (Breaks []) node (check.Source kind place) h = none _ h.cause
unless_broken (Breaks (f ∷ more)) node (check.Source kind place) h = record { cause = h.cause }

pub unless_fallen : {A B : Type 0} (parts : Verdict A) (node : Verdict B) → FailsPart parts Fallen
    → unless_faults parts node ≡ node
unless_fallen parts node h = rw h.cause refl

pub unless_stands : {A B : Type 0} (parts : Verdict A) (node : Verdict B) (x : A) → parts ≡ Stands x
    → unless_faults parts node ≡ node
unless_stands parts node x h = rw h refl

-- ---- a rule that never falls

pub fails_part : {A : Type 0} (w : Verdict A) (fault : CheckFault) → Fails (faults_of w) fault
    → FailsPart w (part_of fault)
fails_part w (check.Source kind place) h = record { cause = h.cause }
fails_part w check.Memory h = record { cause = tt }

pub ruleset parts = (
  part_after,
  part_first,
  part_first_broken,
  part_second,
  part_fallen,
  part_falls,
  unless_broken,
  unless_fallen,
  unless_stands,
  fails_part,
)
