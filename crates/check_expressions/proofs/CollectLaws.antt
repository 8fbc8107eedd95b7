-- A list whose elements are judged one by one, each behind the objects of those before it.
use Rattle.std.proofs.Common.{◌≡◌, ◌+◌, ◌<◌, ◌≤◌, ℕ, List, [], ◌∷◌, length, drop, get_or, map}
use Rattle.std.proofs.Common.{refl, subst, arith}
use Rattle.std.specs.Prelude.{Result, Ok}
use Rattle.std.proofs.lemmas.List.{drop_all}
use Rattle.names_rules.specs.Verdict.{Verdict, Stands, Breaks, after}
use Rattle.check_nodes.specs.declared.fault.PartFault.{PartFault}
use Rattle.check_nodes.specs.PartAnswers.{PartAnswers, Judged}
use Rattle.check_nodes.proofs.ThreadLaws.{next}
use Rattle.check_expressions.specs.SoFar.{behind, SoFar}
use Rattle.check_expressions.proofs.PairLaws.{judged_always, judged_map}
use Rattle.check_expressions.proofs.SoFarLaws.{with, all_so_far, moved}

-- how the verdict and the count of a list are made of those of its elements
pub record Collects {X A : Type 0} (one : ℕ → X → Verdict A) (count : X → ℕ)
    (all : ℕ → List X → Verdict (List A)) (counts : List X → ℕ) : Type 0 where
  pub none : (before : ℕ) → all before [] ≡ Stands []
  pub more : (before : ℕ) (x : X) (xs : List X)
      → all before (x ∷ xs) ≡ with (one before x) (all (before + count x) xs)
  pub count_none : counts [] ≡ 0
  pub count_more : (x : X) (xs : List X) → counts (x ∷ xs) ≡ count x + counts xs

counted : (a b c d t : ℕ) → a + (b + c) ≡ t → d ≡ a + b → d + c ≡ t
counted a b c d t p q = omega (arith, p, q)

ended : (a b t : ℕ) → a + b ≡ t → b ≡ 0 → a ≡ t
ended a b t p q = omega (arith, p, q)

module _ {H X A B E : Type 0} (view : H → X) (one : ℕ → X → Verdict A) (count : X → ℕ)
    (all : ℕ → List X → Verdict (List A)) (counts : List X → ℕ)
    (law : Collects one count all counts)
    (seen : B → List A) (element : E → A) (begin : ℕ) (list : List H) where
  -- so many elements are judged, with so many objects before the next one
  pub record Collected (i objects : ℕ) (done : Result B PartFault) : Type 0 where
    pub so_far : SoFar seen (all begin (map view list)) (all objects (map view (drop i list))) done
    pub judged : Judged done
        (objects + counts (map view (drop i list)) ≡ begin + counts (map view list))

  from_none : (w : Verdict (List A)) → w ≡ behind [] w
  from_none (Stands ys) = refl
  from_none (Breaks faults) = refl

  pub collects_none : (done : B) → seen done ≡ [] → Collected 0 begin (Ok done)
  collects_none done e = record {
    so_far = rw e (from_none (all begin (map view list)));
    judged = refl;
  }

  pub collects_more : {i objects : ℕ} {done more : Result B PartFault} (g : H) (after : ℕ)
      (it : Result E PartFault)
      → Collected i objects done → i < length list → g ≡ get_or list i g
      → PartAnswers element (one objects (view g)) it → Judged it (after ≡ objects + count (view g))
      → ((whole rest : Verdict (List A)) (w : Verdict A) → SoFar seen whole (with w rest) done
      → Judged done (PartAnswers element w it) → SoFar seen whole rest more)
      → ((m n : ℕ) → Judged done (Judged it (m ≡ n)) → Judged more (m ≡ n))
      → Collected (i + 1) after more
  collects_more {i} {objects} {done} {more} g after it h lt e answer behind join judge =
      let whole : Verdict (List A) = all begin (map view list) in
      let xs : List X = map view (drop (i + 1) list) in
      let total : ℕ = begin + counts (map view list) in
      let split : drop i list ≡ g ∷ drop (i + 1) list = next list i g lt e in
      let left : all objects (map view (drop i list))
      ≡ with (one objects (view g)) (all (objects + count (view g)) xs) =
      rw split (law.more objects (view g) xs) in
      let counts_left : counts (map view (drop i list)) ≡ count (view g) + counts xs =
      rw split (law.count_more (view g) xs) in
      let so_far : SoFar seen whole (with (one objects (view g))
      (all (objects + count (view g)) xs)) done =
      subst (λ (w : Verdict (List A)). SoFar seen whole w done) left h.so_far in
      let judged : Judged done (objects + (count (view g) + counts xs) ≡ total) =
      subst (λ (n : ℕ). Judged done (objects + n ≡ total)) counts_left h.judged in
      record {
        so_far = moved seen whole (λ n. all n xs) after (objects + count (view g)) more
            (judge after (objects + count (view g)) (judged_always done behind))
            (join whole (all (objects + count (view g)) xs) (one objects (view g)) so_far
            (judged_always done answer));
        judged = judge (after + counts xs) total
            (judged_map done (λ (p : objects + (count (view g) + counts xs) ≡ total). judged_map it
            (λ (q : after ≡ objects + count (view g)). counted objects (count (view g))
            (counts xs) after total p q) behind) judged);
      }

  pub collects_all : {i objects : ℕ} {done : Result B PartFault} → Collected i objects done
      → length list ≤ i
      → PartAnswers seen (all begin (map view list)) done
  collects_all {i} {objects} {done} h le =
      let none : all objects (map view (drop i list)) ≡ Stands [] =
      rw (drop_all i list le) (law.none objects) in
      all_so_far seen (all begin (map view list)) done
      (subst (λ (w : Verdict (List A)). SoFar seen (all begin (map view list)) w done) none
      h.so_far)

  pub counts_all : {i objects : ℕ} {done : Result B PartFault} → Collected i objects done
      → length list ≤ i
      → Judged done (objects ≡ begin + counts (map view list))
  counts_all {i} {objects} {done} h le =
      let none : counts (map view (drop i list)) ≡ 0 = rw (drop_all i list le) law.count_none in
      judged_map done (λ (p : objects + counts (map view (drop i list))
      ≡ begin + counts (map view list)). ended objects (counts (map view (drop i list)))
      (begin + counts (map view list)) p none) h.judged
