-- A turn is paid by the instruction with which it begins.
use Rattle.std.proofs.Common.{◌≡◌, ◌+◌, ◌≤◌, inl, inr, ℕ, ap, ◌∙◌, arith}
use Rattle.host_script.specs.declared.event.End.{End}
use Rattle.pawn_meaning.specs.World.{World}
use Rattle.pawn_meaning.specs.Run.{Outcome, Gives, Stops, More}
use Rattle.amx_ops.specs.Runs.{Moved, Goes, iterate}
use Rattle.amx_ops.specs.Moves.{Config}
use Rattle.amx_ops.proofs.RunLaws.{iterate-goes}
use Rattle.gen_sim.specs.Does.{How, Reach, Short, Then, Does}

module _ (mv : Config → Moved Config End) (cells room : ℕ) where
  turned_reach : {P : Config → Type 0} {c u : ℕ} {s t : Config} {w : World} {how : How}
      → mv s ≡ Goes t → c ≤ cells
      → Reach mv cells room c (u + 1) t w how P → Reach mv cells room 1 u s w how P
  turned_reach {s = s} {t = t} e h r = record {
    steps = 1 + r.steps;
    config = r.config;
    by = λ k. ap (λ n. iterate mv n s) (omega arith) ∙ iterate-goes mv (r.steps + k) s t e ∙ r.by k;
    said = r.said;
    least = omega (arith, r.least);
    most = omega (arith, r.most, h);
    holds = r.holds;
  }

  turned_short : {c u : ℕ} {s t : Config} {w : World} → mv s ≡ Goes t → c ≤ cells
      → Short mv cells room c (u + 1) t w
      → Short mv cells room 1 u s w
  turned_short e h short =
      record {
        at = short.at;
        later = short.later;
        deep = short.deep;
        reach = turned_reach e h short.reach;
      }

  turned_by : {A : Type 0} (c u : ℕ) (s t : Config) (o : Outcome A)
      (Q : A → World → Config → Type 0) → mv s ≡ Goes t → c ≤ cells
      → Then mv cells room c (u + 1) t o Q → Then mv cells room 1 u s o Q
  turned_by c u s t (Gives a w) Q e h (inl short) = inl (turned_short e h short)
  turned_by c u s t (Gives a w) Q e h (inr r) = inr (turned_reach e h r)
  turned_by c u s t (Stops end w) Q e h (inl short) = inl (turned_short e h short)
  turned_by c u s t (Stops end w) Q e h (inr r) = inr (turned_reach e h r)
  turned_by c u s t (More w) Q e h (inl short) = inl (turned_short e h short)
  turned_by c u s t (More w) Q e h (inr r) = inr (turned_reach e h r)

  -- code that takes at most as many steps as the file has cells, behind the instruction that begins
  -- its turn
  pub turned : {A : Type 0} {c u : ℕ} {s t : Config} {o : Outcome A}
      {Q : A → World → Config → Type 0} → mv s ≡ Goes t → c ≤ cells
      → Does mv cells room c (u + 1) t o Q → Does mv cells room 1 u s o Q
  turned {c = c} {u = u} {s = s} {t = t} {o = o} {Q = Q} e h d =
      record { does = turned_by c u s t o Q e h d.does }
