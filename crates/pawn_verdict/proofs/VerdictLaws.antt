-- A fault of a part is a fault of the node.
use Rattle.std.proofs.Common.{◌≡◌, ◌<◌, List, [], ◌∷◌, ◌++◌, refl, arith}
use Rattle.std.specs.List.{Contains}
use Rattle.std.proofs.lemmas.List.Elements.{Contains-append_left, Contains-append_right}
use Rattle.names_rules.specs.Verdict.{Verdict, Stands, Breaks, Fault, faults_of, after, both}
use Rattle.pawn_verdict.specs.declared.fault.CheckFault.{CheckFault}
use Rattle.pawn_verdict.specs.declared.fault.CheckFault.TheVariants.{Source, Memory}
use Rattle.pawn_verdict.specs.Answers.{Fails, Causes}

-- no fault is one of none
pub none_fails : (faults : List Fault) (fault : CheckFault) → Fails [] fault → Fails faults fault
none_fails faults (Source kind place) h =
    let k : h.cause.0 < 0 = h.cause.1 in absurd (omega (arith, k))
none_fails faults Memory h = record { cause = tt }

pub fails_left : (xs ys : List Fault) (fault : CheckFault) → Fails xs fault → Fails (xs ++ ys) fault
fails_left xs ys (Source kind place) h = record { cause = Contains-append_left xs ys _ h.cause }
fails_left xs ys Memory h = record { cause = tt }

pub fails_right : (xs ys : List Fault) (fault : CheckFault) → Fails ys fault
    → Fails (xs ++ ys) fault
fails_right xs ys (Source kind place) h = record { cause = Contains-append_right xs ys _ h.cause }
fails_right xs ys Memory h = record { cause = tt }

pub fails_after : {A B : Type 0} (w : Verdict A) (rule : A → Verdict B) (fault : CheckFault)
    → Fails (faults_of w) fault → Fails (faults_of (after w rule)) fault
fails_after (Stands x) rule fault h = none_fails _ fault h
fails_after (Breaks faults) rule fault h = h

pub fails_first : {A B C : Type 0} (v : Verdict A) (w : Verdict B) (rule : A → B → Verdict C)
    (fault : CheckFault) → Fails (faults_of v) fault → Fails (faults_of (both v w rule)) fault
fails_first (Stands x) w rule fault h = none_fails _ fault h
fails_first (Breaks faults) w rule fault h = fails_left faults (faults_of w) fault h

pub fails_second : {A B C : Type 0} (v : Verdict A) (w : Verdict B) (rule : A → B → Verdict C)
    (fault : CheckFault) → Fails (faults_of w) fault → Fails (faults_of (both v w rule)) fault
fails_second (Stands x) w rule fault h = fails_after w (rule x) fault h
fails_second (Breaks faults) w rule fault h = fails_right faults (faults_of w) fault h

-- what stands, and then what its rule says
pub after_is : {A B : Type 0} (w : Verdict A) (rule : A → Verdict B) (x : A) → w ≡ Stands x
    → after w rule ≡ rule x
after_is w rule x h = rw h refl

pub both_is : {A B C : Type 0} (v : Verdict A) (w : Verdict B) (rule : A → B → Verdict C) (x : A)
    (y : B) → v ≡ Stands x → w ≡ Stands y → both v w rule ≡ rule x y
both_is v w rule x y h k = rw (h, k) refl

pub ruleset verdicts = (fails_after, fails_first, fails_second, after_is, both_is)
