-- What holds beside an answer, where it is told.
use Rattle.std.proofs.Common.{◌≡◌, Result, Ok, Err, Option}
use Rattle.std.specs.Prelude.{IfOk, IsErrAnd}
use Rattle.std.proofs.lemmas.Result.{err_from_is_err_and}
use Rattle.names_rules.specs.Verdict.{Verdict, faults_of}
use Rattle.pawn_verdict.specs.Answers.{Fails}
use Rattle.pawn_verdict.specs.declared.fault.CheckFault.{CheckFault}
use Rattle.check_nodes.specs.declared.fault.PartFault.{PartFault}
use Rattle.check_nodes.specs.declared.fault.PartFault.TheVariants.{Source, Fallen, Memory}
use Rattle.check_nodes.specs.PartAnswers.{Judged}
use Rattle.check_heads.specs.SoFar.{UnlessMemory}
use Rattle.check_locals.specs.Tells.{Tells, told_part}

judged_of : {B : Type 0} (P : Type 0) (r : Result B PartFault) → Judged r P
    → IfOk (told_part r) (λ it. P)
judged_of P (Ok x) p = p
judged_of P (Err Fallen) p = p
judged_of P (Err (Source kind place)) p = tt
judged_of P (Err Memory) p = tt

memory_of : {B : Type 0} (P : Type 0) (r : Result B PartFault) → UnlessMemory r P
    → IfOk (told_part r) (λ it. P)
memory_of P (Ok x) p = p
memory_of P (Err Fallen) p = p
memory_of P (Err (Source kind place)) p = tt
memory_of P (Err Memory) p = tt

mapped : {B : Type 0} (P Q : Type 0) (r : Result B CheckFault) → (P → Q) → IfOk r (λ it. P)
    → IfOk r (λ it. Q)
mapped P Q (Ok x) f p = f p
mapped P Q (Err fault) f p = tt

pub judged_told : {B : Type 0} (P Q : Type 0) (r : Result B PartFault)
    (told : Result (Option B) CheckFault) → told ≡ told_part r → Judged r P → (P → Q)
    → IfOk told (λ it. Q)
judged_told P Q r told e p f = rw e (mapped P Q (told_part r) f (judged_of P r p))

pub memory_told : {B : Type 0} (P Q : Type 0) (r : Result B PartFault)
    (told : Result (Option B) CheckFault) → told ≡ told_part r → UnlessMemory r P → (P → Q)
    → IfOk told (λ it. Q)
memory_told P Q r told e p f = rw e (mapped P Q (told_part r) f (memory_of P r p))

-- ---- an exit of `?`

pub exit_tells : {A B : Type 0} (view : B → A) (w : Verdict A)
    (result : Result (Option B) CheckFault)
    (fault : CheckFault) → IsErrAnd result (λ it. it ≡ fault) → Fails (faults_of w) fault
    → Tells view w result
exit_tells view w result fault e h =
    let p = err_from_is_err_and result e in
    rw (p.1, p.2) h

pub exit_ok : {B : Type 0} (P : B → Type 0) (result : Result B CheckFault) (fault : CheckFault)
    → IsErrAnd result (λ it. it ≡ fault) → IfOk result P
exit_ok P (Ok x) fault e = absurd e
exit_ok P (Err it) fault e = tt

pub ok_holds : {B : Type 0} (P : Type 0) (result : Result B CheckFault) → P
    → IfOk result (λ it. P)
ok_holds P (Ok x) p = p
ok_holds P (Err fault) p = tt
