-- What is known behind each element of a list, where each changes what there is so far. For
-- callers.
use Rattle.std.proofs.Common.{◌≡◌, ℕ, ◌+◌, ◌<◌, ◌≤◌, List, [], ◌∷◌, length, drop, get_or, map, refl}
use Rattle.std.proofs.Common.{◌∙◌, add-one, drop-cons}
use Rattle.std.proofs.lemmas.List.{drop_all}
use Rattle.names_rules.specs.Verdict.{Verdict, Stands, after, faults_of}
use Rattle.types_rules.specs.Rule.{thread}
use Rattle.pawn_verdict.specs.declared.fault.CheckFault.{CheckFault}
use Rattle.pawn_verdict.specs.Answers.{Fails}
use Rattle.pawn_verdict.proofs.VerdictLaws.{fails_after}

-- the element that was read stands in front of the rest
pub next : {A : Type 0} (xs : List A) (i : ℕ) (x : A) → i < length xs → x ≡ get_or xs i x
    → drop i xs ≡ x ∷ drop (i + 1) xs
next xs i x lt e = rw (add-one i, drop-cons xs i x, ← e) refl

module _ {T G H : Type 0} (view : H → G) (step : T → G → Verdict T) (begin : T)
    (list : List H) where
  -- so far it stands, and the rest goes on from there
  pub record Threaded (i : ℕ) (done : T) : Type 0 where
    pub same : thread step begin (map view list) ≡ thread step done (map view (drop i list))

  pub thread_begins : (done : T) → done ≡ begin → Threaded 0 done
  thread_begins done e = record { same = rw e refl }

  pub thread_more : {i : ℕ} {done : T} (g : H) (x : T) → Threaded i done → i < length list
      → g ≡ get_or list i g → step done (view g) ≡ Stands x → Threaded (i + 1) x
  unfolding thread
  thread_more {i} {done} g x so_far lt e h =
      record { same = so_far.same ∙ rw (next list i g lt e, h) refl }

  pub thread_fails : {i : ℕ} {done : T} (g : H) (fault : CheckFault) → Threaded i done
      → i < length list → g ≡ get_or list i g → Fails (faults_of (step done (view g))) fault
      → Fails (faults_of (thread step begin (map view list))) fault
  unfolding thread
  thread_fails {i} {done} g fault so_far lt e h =
      rw (so_far.same, next list i g lt e)
      (fails_after (step done (view g)) (λ x. thread step x (map view (drop (i + 1) list))) fault h)

  pub thread_all : {i : ℕ} {done : T} → Threaded i done → length list ≤ i
      → thread step begin (map view list) ≡ Stands done
  unfolding thread
  thread_all {i} {done} so_far lt = so_far.same ∙ rw (drop_all i list lt) refl
