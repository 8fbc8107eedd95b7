-- Rules over one part, which may fall, and over one that never does; what holds beside an
-- answer.
use Rattle.std.proofs.Common.{◌≡◌, List, ◌∷◌, Result, Ok, Err, ap, sym, ◌∙◌}
use Rattle.std.proofs.lemmas.Result.{err_from_is_err_and}
use Rattle.std.specs.Result.{IsErrAnd}
use Rattle.names_rules.specs.Verdict.{Verdict}
use Rattle.pawn_verdict.proofs.VerdictLaws.{after_is}
use Rattle.check_nodes.specs.declared.fault.PartFault.{PartFault}
use Rattle.check_nodes.specs.declared.fault.PartFault.TheVariants.{Source, Fallen, Memory}
use Rattle.check_nodes.specs.PartAnswers.{FailsPart, Judged, PartAnswers}
use Rattle.check_nodes.proofs.PartLaws.{part_after, fails_part}
use Rattle.check_nodes.specs.Scopes.{Block, Blocks, outer_by, outer_of}
use Rattle.check_heads.specs.SoFar.{IsBroken, UnlessMemory}

pub ruleset afters = (part_after, fails_part, after_is)

-- ---- what holds beside an answer

pub judged_holds : {B : Type 0} {P : Type 0} (result : Result B PartFault) → P → Judged result P
judged_holds (Ok x) p = p
judged_holds (Err (Source kind place)) p = tt
judged_holds (Err Fallen) p = p
judged_holds (Err Memory) p = tt

pub judged_broken : {A B : Type 0} (P : Type 0) (v : Verdict A) (result : Result B PartFault)
    (fault : PartFault) → result ≡ Err fault → IsBroken v fault → Judged result P
judged_broken P v (Ok x) fault e h = absurd (cc e)
judged_broken P v (Err (Source kind place)) fault e h = tt
judged_broken P v (Err Memory) fault e h = tt
judged_broken P v (Err Fallen) (Source kind place) e h = absurd (cc e)
judged_broken P v (Err Fallen) Memory e h = absurd (cc e)
judged_broken P v (Err Fallen) Fallen e h = absurd h.cause

pub unless_memory : {B : Type 0} {P : Type 0} (result : Result B PartFault) → P
    → UnlessMemory result P
unless_memory (Ok x) p = p
unless_memory (Err (Source kind place)) p = p
unless_memory (Err Fallen) p = p
unless_memory (Err Memory) p = tt

-- what holds where memory isn't short, by what held there
pub unless_mapped : {B : Type 0} {P Q : Type 0} (result : Result B PartFault) → (P → Q)
    → UnlessMemory result P → UnlessMemory result Q
unless_mapped (Ok x) f p = f p
unless_mapped (Err (Source kind place)) f p = f p
unless_mapped (Err Fallen) f p = f p
unless_mapped (Err Memory) f p = tt

-- ---- an exit of `?`

pub exit_answers : {A B : Type 0} (view : B → A) (w : Verdict A) (result : Result B PartFault)
    (fault : PartFault) → IsErrAnd result (λ it. it ≡ fault) → FailsPart w fault
    → PartAnswers view w result
exit_answers view w result fault e h =
    let p = err_from_is_err_and result e in
    rw (p.1, p.2) h

pub exit_judged : {A B : Type 0} (P : Type 0) (v : Verdict A) (result : Result B PartFault)
    (fault : PartFault) → IsErrAnd result (λ it. it ≡ fault) → IsBroken v fault → Judged result P
exit_judged P v result fault e h =
    let p = err_from_is_err_and result e in
    judged_broken P v result fault (p.1 ∙ ap (λ (it : PartFault). Err it) p.2) h

-- ---- blocks

-- a block that was entered is left
pub left_again : (old now : Blocks) → now.outer ≡ old.here ∷ old.outer → outer_of now ≡ old
left_again old now e = ap (λ (blocks : List Block). outer_by blocks) e
