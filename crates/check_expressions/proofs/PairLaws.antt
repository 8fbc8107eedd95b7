-- A node of two parts tells the fault of the first one, unless it only falls.
use Rattle.std.proofs.Common.{◌≡◌, refl, sym, subst, ◌∙◌}
use Rattle.std.specs.Prelude.{Result, Ok, Err}
use Rattle.names_rules.specs.Verdict.{Verdict, Stands, Breaks, after, both, faults_of}
use Rattle.types_rules.specs.Rule.{pair}
use Rattle.pawn_verdict.specs.declared.fault.CheckFault.{CheckFault}
use Rattle.pawn_verdict.specs.declared.fault.CheckFault.TheVariants as check
use Rattle.pawn_verdict.specs.Answers.{Fails}
use Rattle.check_nodes.specs.declared.fault.PartFault.{PartFault}
use Rattle.check_nodes.specs.declared.fault.PartFault.TheVariants.{Source, Fallen, Memory}
use Rattle.check_nodes.specs.PartAnswers.{FailsPart, PartAnswers, Judged, part_of}
use Rattle.check_nodes.proofs.PartLaws.{part_after, part_first_broken, part_second, part_fallen}
use Rattle.check_nodes.proofs.PartLaws.{part_falls, fails_part}
use Rattle.check_expressions.specs.Faults.{told, both_of}

-- ---- what holds where all is judged

-- whatever would have stood
pub judged_same : (X Z P : Type 0) (fault : PartFault) → Judged {B = X} (Err fault) P
    → Judged {B = Z} (Err fault) P
judged_same X Z P (Source kind place) h = tt
judged_same X Z P Fallen h = h
judged_same X Z P Memory h = tt

judged_told : (X Y Z P : Type 0) (first second : PartFault)
    → Judged {B = X} (Err first) (Judged {B = Y} (Err second) P)
    → Judged {B = Z} (Err (told first second)) P
judged_told X Y Z P (Source kind place) second h = tt
judged_told X Y Z P Fallen second h = judged_same Y Z P second h
judged_told X Y Z P Memory second h = tt

-- a rule that is broken leaves nothing to be said
pub judged_broken : (Z P : Type 0) (fault : CheckFault) → Judged {B = Z} (Err (part_of fault)) P
judged_broken Z P (check.Source kind place) = tt
judged_broken Z P check.Memory = tt

-- what holds always holds there too
pub judged_always : {X P : Type 0} (x : Result X PartFault) → P → Judged x P
judged_always (Ok x) h = h
judged_always (Err (Source kind place)) h = tt
judged_always (Err Fallen) h = h
judged_always (Err Memory) h = tt

-- and what follows
pub judged_map : {X P Q : Type 0} (x : Result X PartFault) → (P → Q) → Judged x P → Judged x Q
judged_map (Ok x) f h = f h
judged_map (Err (Source kind place)) f h = tt
judged_map (Err Fallen) f h = f h
judged_map (Err Memory) f h = tt

pub judged_both : {X P Q R : Type 0} (x : Result X PartFault) → (P → Q → R) → Judged x P
    → Judged x Q → Judged x R
judged_both (Ok x) f h k = f h k
judged_both (Err (Source kind place)) f h k = tt
judged_both (Err Fallen) f h k = f h k
judged_both (Err Memory) f h k = tt

-- ---- the verdict of two parts

module _ {A B X Y : Type 0} (f : X → A) (g : Y → B) where
  abbrev seen : X × Y → A × B
  seen it = (f it.0, g it.1)

  first_fails : (v : Verdict A) (w : Verdict B) (y : Y) (fault : PartFault)
      → FailsPart v fault → Judged {B = X} (Err fault) (w ≡ Stands (g y))
      → FailsPart (pair v w) fault
  first_fails v w y (Source kind place) h k = part_first_broken v w _ kind place h
  first_fails v w y Fallen h k = part_falls v w _ (g y) h k
  first_fails v w y Memory h k = record { cause = tt }

  both_fail : (v : Verdict A) (w : Verdict B) (first second : PartFault)
      → FailsPart v first → Judged {B = X} (Err first) (FailsPart w second)
      → FailsPart (pair v w) (told first second)
  both_fail v w (Source kind place) second h k = part_first_broken v w _ kind place h
  both_fail v w Fallen second h k = part_fallen v w _ second h k
  both_fail v w Memory second h k = record { cause = tt }

  pub pair_answers : (v : Verdict A) (w : Verdict B) (x : Result X PartFault)
      (y : Result Y PartFault)
      → PartAnswers f v x → Judged x (PartAnswers g w y) → PartAnswers seen (pair v w) (both_of x y)
  pair_answers v w (Ok x) (Ok y) h k = rw (h, k) refl
  pair_answers v w (Ok x) (Err fault) h k = part_second v w _ (f x) fault h k
  pair_answers v w (Err fault) (Ok y) h k = first_fails v w y fault h k
  pair_answers v w (Err first) (Err second) h k = both_fail v w first second h k

by_pair : {A B C : Type 0} (v : Verdict A) (w : Verdict B) (rule : A → B → Verdict C)
    → both v w rule ≡ after (pair v w) (λ it. rule it.0 it.1)
by_pair (Stands x) (Stands y) rule = refl
by_pair (Stands x) (Breaks faults) rule = refl
by_pair (Breaks faults) w rule = refl

module _ {A B C X Y : Type 0} (f : X → A) (g : Y → B) (v : Verdict A) (w : Verdict B)
    (rule : A → B → Verdict C) (x : Result X PartFault) (y : Result Y PartFault) where
  -- one of the parts doesn't stand
  pub parts_fail : (fault : PartFault) → Err fault ≡ both_of x y → PartAnswers f v x
      → Judged x (PartAnswers g w y) → FailsPart (both v w rule) fault
  parts_fail fault e h k =
      rw (by_pair v w rule) (part_after (pair v w) (λ it. rule it.0 it.1) fault
      (subst (λ (r : Result (X × Y) PartFault). PartAnswers (λ (it : X × Y). (f it.0, g it.1))
      (pair v w) r) (sym e) (pair_answers f g v w x y h k)))

  -- both stand
  pub parts_stand : (p : X) (q : Y) → Ok (p, q) ≡ both_of x y → PartAnswers f v x
      → Judged x (PartAnswers g w y) → both v w rule ≡ rule (f p) (g q)
  parts_stand p q e h k =
      let stands : pair v w ≡ Stands (f p, g q) =
      subst (λ (r : Result (X × Y) PartFault). PartAnswers (λ (it : X × Y). (f it.0, g it.1))
      (pair v w) r) (sym e) (pair_answers f g v w x y h k) in
      by_pair v w rule ∙ rw stands refl

  -- both stand, and the rule is broken
  pub parts_broken : (p : X) (q : Y) (fault : CheckFault) → Ok (p, q) ≡ both_of x y
      → PartAnswers f v x
      → Judged x (PartAnswers g w y) → Fails (faults_of (rule (f p) (g q))) fault
      → FailsPart (both v w rule) (part_of fault)
  parts_broken p q fault e h k l =
      rw (parts_stand p q e h k) (fails_part (rule (f p) (g q)) fault l)

module _ {X Y : Type 0} (P : Type 0) (x : Result X PartFault) (y : Result Y PartFault) where
  pub judged_pair : Judged x (Judged y P) → Judged (both_of x y) P
  judged_pair h = judged_cases x y h
    where
      judged_cases : (x : Result X PartFault) (y : Result Y PartFault) → Judged x (Judged y P)
          → Judged (both_of x y) P
      judged_cases (Ok x) (Ok y) h = h
      judged_cases (Ok x) (Err fault) h = judged_same Y (X × Y) P fault h
      judged_cases (Err fault) (Ok y) h = judged_same X (X × Y) P fault h
      judged_cases (Err first) (Err second) h = judged_told X Y (X × Y) P first second h

  pub judged_fail : (Z : Type 0) (fault : PartFault) → Err fault ≡ both_of x y
      → Judged x (Judged y P) → Judged {B = Z} (Err fault) P
  judged_fail Z fault e h =
      judged_same (X × Y) Z P fault (subst (λ (r : Result (X × Y) PartFault). Judged r P) (sym e)
      (judged_pair h))

  pub judged_stand : (p : X) (q : Y) → Ok (p, q) ≡ both_of x y → Judged x (Judged y P) → P
  judged_stand p q e h =
      subst (λ (r : Result (X × Y) PartFault). Judged r P) (sym e) (judged_pair h)

pub ruleset pairs =
    (parts_fail, parts_stand, parts_broken, judged_fail, judged_stand, judged_same, judged_broken)
