-- One element more of a list that is judged element by element.
use Rattle.std.proofs.Common.{◌≡◌, ℕ, List, [], ◌∷◌, ◌++◌, map, refl, sym, ap, subst, ◌∙◌}
use Rattle.std.proofs.Common.{append_assoc, append-nil}
use Rattle.std.proofs.lemmas.List.{map-append}
use Rattle.std.specs.Prelude.{Result, Ok, Err}
use Rattle.names_rules.specs.Verdict.{Verdict, Stands, Breaks, Fault, after, both, faults_of}
use Rattle.check_nodes.specs.declared.fault.PartFault.{PartFault}
use Rattle.check_nodes.specs.declared.fault.PartFault.TheVariants.{Source, Fallen, Memory}
use Rattle.check_nodes.specs.PartAnswers.{FailsPart, PartAnswers, Judged}
use Rattle.check_nodes.proofs.PartLaws.{part_after, part_first_broken}
use Rattle.check_expressions.specs.Faults.{told, both_of}
use Rattle.check_expressions.specs.SoFar.{behind, SoFar}

-- an element and the rest
abbrev pub with : {A : Type 0} → Verdict A → Verdict (List A) → Verdict (List A)
with first rest = both first rest (λ x more. Stands (x ∷ more))

one_more : {A : Type 0} (done : List A) (x : A) (rest : Verdict (List A))
    → behind done (after rest (λ more. Stands (x ∷ more))) ≡ behind (done ++ x ∷ []) rest
one_more {A} done x (Stands more) =
    ap (λ (all : List A). Stands all) (sym (append_assoc done (x ∷ []) more))
one_more done x (Breaks faults) = refl

same_faults : {A : Type 0} (x : A) (rest : Verdict (List A))
    → faults_of (after rest (λ more. Stands (x ∷ more))) ≡ faults_of rest
same_faults x (Stands more) = refl
same_faults x (Breaks faults) = refl

module _ {A B X : Type 0} (seen : B → List A) (view : X → A) (whole rest : Verdict (List A))
    (w : Verdict A) where
  -- with one element more
  abbrev seen_more : B × X → List A
  seen_more it = seen it.0 ++ view it.1 ∷ []

  one_fails : (done : List A) (fault : PartFault) → whole ≡ behind done (with w rest)
      → FailsPart w fault → SoFar seen_more whole rest (Err fault)
  one_fails done (Source kind place) h k =
      rw h (part_after (with w rest) (λ more. Stands (done ++ more)) (Source kind place)
      (part_first_broken w rest (λ x more. Stands (x ∷ more)) kind place k)).cause
  one_fails done Fallen h k = h ∙ rw k.cause refl
  one_fails done Memory h k = tt

  others_fail : (it : X) (fault : PartFault) → SoFar seen whole (with w rest) (Err fault)
      → Judged {B = B} (Err fault) (w ≡ Stands (view it)) → SoFar seen_more whole rest (Err fault)
  others_fail it (Source kind place) h k = h
  others_fail it Fallen h k =
      h ∙ ap (λ (faults : List Fault). Breaks faults) (rw k (same_faults (view it) rest))
  others_fail it Memory h k = tt

  all_fail : (first second : PartFault) → SoFar seen whole (with w rest) (Err first)
      → Judged {B = B} (Err first) (FailsPart w second)
      → SoFar seen_more whole rest (Err (told first second))
  all_fail (Source kind place) second h k = h
  all_fail Fallen (Source kind place) h k =
      rw h (part_first_broken w rest (λ x more. Stands (x ∷ more)) kind place k).cause
  all_fail Fallen Fallen h k = h ∙ rw k.cause refl
  all_fail Fallen Memory h k = tt
  all_fail Memory second h k = tt

  more_so_far : (all : Result B PartFault) (it : Result X PartFault)
      → SoFar seen whole (with w rest) all
      → Judged all (PartAnswers view w it) → SoFar seen_more whole rest (both_of all it)
  more_so_far (Ok all) (Ok it) h k = h ∙ rw k (one_more (seen all) (view it) rest)
  more_so_far (Ok all) (Err fault) h k = one_fails (seen all) fault h k
  more_so_far (Err fault) (Ok it) h k = others_fail it fault h k
  more_so_far (Err first) (Err second) h k = all_fail first second h k

-- nothing of a list that is told as a fault is seen
same_so_far : {A B C : Type 0} (seen : B → List A) (other : C → List A)
    (whole rest : Verdict (List A)) (fault : PartFault)
    → SoFar seen whole rest (Err fault) → SoFar other whole rest (Err fault)
same_so_far seen other whole rest (Source kind place) h = h
same_so_far seen other whole rest Fallen h = h
same_so_far seen other whole rest Memory h = h

module _ {A B X : Type 0} (seen : B → List A) (view : X → A) (whole rest : Verdict (List A))
    (w : Verdict A) (all : Result B PartFault) (it : Result X PartFault) where
  -- an element doesn't stand
  pub list_fails : (fault : PartFault) → Err fault ≡ both_of all it
      → SoFar seen whole (with w rest) all
      → Judged all (PartAnswers view w it) → SoFar seen whole rest (Err fault)
  list_fails fault e h k =
      same_so_far (λ (p : B × X). seen p.0 ++ view p.1 ∷ []) seen whole rest fault
      (subst (λ (r : Result (B × X) PartFault). SoFar
      (λ (p : B × X). seen p.0 ++ view p.1 ∷ []) whole rest r) (sym e)
      (more_so_far seen view whole rest w all it h k))

  -- all of them stand
  pub list_stands : (p : B) (q : X) → Ok (p, q) ≡ both_of all it
      → SoFar seen whole (with w rest) all
      → Judged all (PartAnswers view w it) → whole ≡ behind (seen p ++ view q ∷ []) rest
  list_stands p q e h k =
      subst (λ (r : Result (B × X) PartFault). SoFar
      (λ (p : B × X). seen p.0 ++ view p.1 ∷ []) whole rest r) (sym e)
      (more_so_far seen view whole rest w all it h k)

-- what was appended is seen behind the others
pub seen_behind : {A X : Type 0} (view : X → A) (whole rest : Verdict (List A)) (all more : List X)
    (it : X)
    → whole ≡ behind (map view all ++ view it ∷ []) rest → more ≡ all ++ it ∷ []
    → whole ≡ behind (map view more) rest
seen_behind view whole rest all more it h e = h ∙ rw (e, map-append view all (it ∷ [])) refl

-- all of them stand, and the element is appended
pub list_grows : {A B X : Type 0} (seen : B → List A) (view : X → A) (whole rest : Verdict (List A))
    (w : Verdict A) (all : Result B PartFault) (it : Result X PartFault) (p : B) (q : X)
    (items more : List X) → Ok (p, q) ≡ both_of all it → SoFar seen whole (with w rest) all
    → Judged all (PartAnswers view w it) → seen p ≡ map view items → more ≡ items ++ q ∷ []
    → whole ≡ behind (map view more) rest
list_grows {A} seen view whole rest w all it p q items more e h k s g =
    seen_behind view whole rest items more q
    (list_stands seen view whole rest w all it p q e h k
    ∙ ap (λ (xs : List A). behind (xs ++ view q ∷ []) rest) s) g

-- ---- the whole list

-- nothing is left
pub all_so_far : {A B : Type 0} (seen : B → List A) (whole : Verdict (List A))
    (all : Result B PartFault)
    → SoFar seen whole (Stands []) all → PartAnswers seen whole all
all_so_far {A} seen whole (Ok all) h =
    h ∙ ap (λ (items : List A). Stands items) (append-nil (seen all))
all_so_far seen whole (Err (Source kind place)) h = record { cause = h }
all_so_far seen whole (Err Fallen) h = record { cause = h }
all_so_far seen whole (Err Memory) h = record { cause = tt }

-- what is left, at another count
pub moved : {A B : Type 0} (seen : B → List A) (whole : Verdict (List A))
    (rest : ℕ → Verdict (List A)) (m n : ℕ) (all : Result B PartFault)
    → Judged all (m ≡ n) → SoFar seen whole (rest n) all → SoFar seen whole (rest m) all
moved seen whole rest m n (Ok all) e h = rw e h
moved seen whole rest m n (Err (Source kind place)) e h = h
moved seen whole rest m n (Err Fallen) e h = rw e h
moved seen whole rest m n (Err Memory) e h = h

pub ruleset lists = (list_fails, list_stands, seen_behind)
