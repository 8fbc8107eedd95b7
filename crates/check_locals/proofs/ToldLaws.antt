-- What is told of parts, for the node.
use Rattle.std.proofs.Common.{◌≡◌, [], ◌∷◌, refl}
use Rattle.std.specs.Prelude.{Option, None, Some, Result, Ok, Err}
use Rattle.names_rules.specs.Verdict.{Verdict, Stands, Breaks, faults_of, after, both}
use Rattle.pawn_verdict.specs.declared.fault.CheckFault.{CheckFault}
use Rattle.pawn_verdict.specs.declared.fault.CheckFault.TheVariants as check
use Rattle.pawn_verdict.specs.Answers.{Fails}
use Rattle.pawn_verdict.proofs.VerdictLaws.{none_fails, fails_after, fails_first, fails_second}
use Rattle.pawn_verdict.proofs.VerdictLaws.{after_is, both_is}
use Rattle.types_rules.specs.Rule.{unless_faults}
use Rattle.check_nodes.specs.declared.fault.PartFault.{PartFault}
use Rattle.check_nodes.specs.declared.fault.PartFault.TheVariants as part
use Rattle.check_nodes.specs.PartAnswers.{PartAnswers}
use Rattle.check_locals.specs.Tells.{told, Tells, told_part, answer_of}

-- ---- between the two forms

pub tells : {A B : Type 0} (view : B → A) (v : Verdict A) (r : Result B PartFault)
    → PartAnswers view v r → Tells view v (told_part r)
tells view v (Ok x) h = h
tells view v (Err part.Fallen) h = h.cause
tells view v (Err (part.Source kind place)) h = record { cause = h.cause }
tells view v (Err part.Memory) h = record { cause = tt }

pub answers : {A B : Type 0} (view : B → A) (v : Verdict A) (r : Result (Option B) CheckFault)
    → Tells view v r → PartAnswers view v (answer_of r)
answers view v (Ok (Some x)) h = h
answers view v (Ok None) h = record { cause = h }
answers view v (Err (check.Source kind place)) h = record { cause = h.cause }
answers view v (Err check.Memory) h = record { cause = tt }

-- ---- a part that falls

pub falls_after : {A B : Type 0} (w : Verdict A) (rule : A → Verdict B) → w ≡ Breaks []
    → after w rule ≡ Breaks []
falls_after w rule h = rw h refl

pub falls_first : {A B C : Type 0} (v : Verdict A) (w : Verdict B) (rule : A → B → Verdict C)
    (y : B) → v ≡ Breaks [] → w ≡ Stands y → both v w rule ≡ Breaks []
falls_first v w rule y h k = rw (h, k) refl

pub falls_both : {A B C : Type 0} (v : Verdict A) (w : Verdict B) (rule : A → B → Verdict C)
    → v ≡ Breaks [] → w ≡ Breaks [] → both v w rule ≡ Breaks []
falls_both v w rule h k = rw (h, k) refl

pub falls_second : {A B C : Type 0} (v : Verdict A) (w : Verdict B) (rule : A → B → Verdict C)
    (x : A) → v ≡ Stands x → w ≡ Breaks [] → both v w rule ≡ Breaks []
falls_second v w rule x h k = rw (h, k) refl

-- ---- parts that are judged before the node

pub fails_unless : {A B : Type 0} (parts : Verdict A) (node : Verdict B) (fault : CheckFault)
    → Fails (faults_of parts) fault → Fails (faults_of (unless_faults parts node)) fault
fails_unless (Stands x) node fault h = none_fails _ fault h
fails_unless (Breaks []) node fault h = none_fails _ fault h
fails_unless (Breaks (f ∷ more)) node fault h = h

pub unless_told : {A B X : Type 0} (view : X → A) (parts : Verdict A) (node : Verdict B)
    (it : Option X) → parts ≡ told view it → unless_faults parts node ≡ node
unless_told view parts node (Some x) h = rw h refl
unless_told view parts node None h = rw h refl

pub ruleset parts = (
  fails_after,
  fails_first,
  fails_second,
  after_is,
  both_is,
  falls_after,
  falls_first,
  falls_both,
  falls_second,
  fails_unless,
  unless_told,
)
