-- How what a machine does for one run goes on to the next.
use Rattle.std.proofs.Common.{◌≡◌, ◌+◌, ◌<◌, ◌≤◌, inl, inr, ℕ, pos, refl, ap, subst, ◌∙◌, arith}
use Rattle.host_script.specs.declared.event.End.{End}
use Rattle.host_script.specs.declared.event.End.TheVariants.{Error}
use Rattle.pawn_meaning.specs.World.{World}
use Rattle.pawn_meaning.specs.Run.{Outcome, Gives, Stops, More, Run, then_do}
use Rattle.pawn_meaning.specs.Told.{events_of}
use Rattle.pawn_meaning.specs.Later.{Later, world_of}
use Rattle.pawn_meaning.proofs.RunLaws.{runs_grow_lem}
use Rattle.amx_ops.specs.Runs.{Moved, Goes, Ends, iterate}
use Rattle.amx_ops.specs.Moves.{Config}
use Rattle.amx_ops.proofs.RunLaws.{iterate-goes, iterate-ends}
use Rattle.gen_sim.specs.Does.{How, Running, Closed, how_of, Reach, Short, Then, Does}

module _ (mv : Config → Moved Config End) (cells room : ℕ) where
  -- ---- reaching

  pub stays : {P : Config → Type 0} (s : Config) (w : World) → s.events ≡ events_of w.entries
      → P s → Reach mv cells room 0 w.turns s w Running P
  stays s w e p = record {
    steps = 0;
    config = s;
    by = λ k. ap (λ n. iterate mv n s) (omega arith);
    said = e;
    least = omega arith;
    most = omega arith;
    holds = p;
  }

  pub goes_one : {P : Config → Type 0} (s t : Config) (w : World) → mv s ≡ Goes t
      → t.events ≡ events_of w.entries → P t → Reach mv cells room 1 w.turns s w Running P
  goes_one s t w m e p = record {
    steps = 1;
    config = t;
    by = λ k. ap (λ n. iterate mv n s) (omega arith) ∙ iterate-goes mv k s t m;
    said = e;
    least = omega arith;
    most = omega arith;
    holds = p;
  }

  pub ends_one : (s t : Config) (w : World) (x : End) → mv s ≡ Ends x t
      → t.events ≡ events_of w.entries
      → Reach mv cells room 1 w.turns s w (Closed x) (λ t. Unit {0})
  ends_one s t w x m e = record {
    steps = 1;
    config = t;
    by = λ k. ap (λ n. iterate mv n s) (omega arith) ∙ iterate-ends mv k s t x m;
    said = e;
    least = omega arith;
    most = omega arith;
    holds = tt;
  }

  -- one way behind another
  pub reach_after : {P R : Config → Type 0} {c d u : ℕ} {s : Config} {w x : World} {how : How}
      (r : Reach mv cells room c u s w Running P)
      → Reach mv cells room d w.turns r.config x how R → Reach mv cells room (c + d) u s x how R
  reach_after {s = s} {how = how} r q = record {
    steps = r.steps + q.steps;
    config = q.config;
    by = λ k. ap (λ n. iterate mv n s) (omega arith) ∙ r.by (q.steps + k) ∙ q.by k;
    said = q.said;
    least = omega (arith, r.least, q.least);
    most = omega (arith, r.most, q.most);
    holds = q.holds;
  }

  -- something else holds of where the machine comes to
  pub reach_holds : {P R : Config → Type 0} {c u : ℕ} {s : Config} {w : World} {how : How}
      → (r : Reach mv cells room c u s w how P) → R r.config → Reach mv cells room c u s w how R
  reach_holds r holds = record {
    steps = r.steps;
    config = r.config;
    by = r.by;
    said = r.said;
    least = r.least;
    most = r.most;
    holds = holds;
  }

  pub grown : {P : Config → Type 0} {c d u : ℕ} {s : Config} {w : World} {how : How} → c ≤ d
      → Reach mv cells room c u s w how P → Reach mv cells room d u s w how P
  grown h r = record {
    steps = r.steps;
    config = r.config;
    by = r.by;
    said = r.said;
    least = r.least;
    most = omega (arith, r.most, h);
    holds = r.holds;
  }

  pub grown_short : {c d u : ℕ} {s : Config} {w x : World} → c ≤ d → Later w x
      → Short mv cells room c u s w
      → Short mv cells room d u s x
  grown_short h l short =
      record {
        at = short.at;
        later = runs_grow_lem.on _ _ _ short.later l;
        deep = short.deep;
        reach = grown h short.reach;
      }

  pub short_after : {P : Config → Type 0} {c d u : ℕ} {s : Config} {w x : World}
      (r : Reach mv cells room c u s w Running P)
      → Short mv cells room d w.turns r.config x → Short mv cells room (c + d) u s x
  short_after r short =
      record {
        at = short.at;
        later = short.later;
        deep = short.deep;
        reach = reach_after r short.reach;
      }

  -- ---- for outcomes

  pub short_then : {A : Type 0} {c u : ℕ} {s : Config} {Q : A → World → Config → Type 0}
      (o : Outcome A) → Short mv cells room c u s (world_of o) → Does mv cells room c u s o Q
  short_then (Gives a w) short = record { does = inl short }
  short_then (Stops e w) short = record { does = inl short }
  short_then (More w) short = record { does = inl short }

  pub gives : {A : Type 0} {c u : ℕ} {s : Config} {Q : A → World → Config
      → Type 0} {a : A} {w : World} → Reach mv cells room c u s w Running (Q a w)
      → Does mv cells room c u s (Gives a w) Q
  gives r = record { does = inr r }

  pub stops : {A : Type 0} {c u : ℕ} {s : Config} {Q : A → World → Config
      → Type 0} {e : End} {w : World} → Reach mv cells room c u s w (how_of e) (λ t. Unit {0})
      → Does mv cells room c u s (Stops e w) Q
  stops r = record { does = inr r }

  then_after : {A : Type 0} {P : Config → Type 0} (c d u : ℕ) (s : Config) (w : World)
      (o : Outcome A) (Q : A → World → Config → Type 0)
      (r : Reach mv cells room c u s w Running P) → Then mv cells room d w.turns r.config o Q
      → Then mv cells room (c + d) u s o Q
  then_after c d u s w (Gives a x) Q r (inl short) = inl (short_after r short)
  then_after c d u s w (Gives a x) Q r (inr q) = inr (reach_after r q)
  then_after c d u s w (Stops e x) Q r (inl short) = inl (short_after r short)
  then_after c d u s w (Stops e x) Q r (inr q) = inr (reach_after r q)
  then_after c d u s w (More x) Q r (inl short) = inl (short_after r short)
  then_after c d u s w (More x) Q r (inr q) = inr (reach_after r q)

  pub reach_then : {A : Type 0} {P : Config
      → Type 0} {c d u : ℕ} {s : Config} {w : World} {o : Outcome A} {Q : A → World → Config
      → Type 0}
      (r : Reach mv cells room c u s w Running P) → Does mv cells room d w.turns r.config o Q
      → Does mv cells room (c + d) u s o Q
  reach_then {c = c} {d = d} {u = u} {s = s} {w = w} {o = o} {Q = Q} r q =
      record { does = then_after c d u s w o Q r q.does }

  in_turn_by : {A B : Type 0} (c d u : ℕ) (s : Config) (o : Outcome A) (go : A → Run B)
      (P : A → World → Config → Type 0) (Q : B → World → Config → Type 0)
      → ((a : A) (w : World) → Later w (world_of (go a w))) → Then mv cells room c u s o P
      → ((a : A) (w : World) (t : Config) → P a w t → Does mv cells room d w.turns t (go a w) Q)
      → Does mv cells room (c + d) u s (then_do o go) Q
  in_turn_by c d u s (Gives a w) go P Q grow (inl short) next =
      short_then (go a w) (grown_short (omega arith) (grow a w) short)
  in_turn_by c d u s (Gives a w) go P Q grow (inr r) next = reach_then r (next a w r.config r.holds)
  in_turn_by c d u s (Stops e w) go P Q grow (inl short) next =
      short_then (Stops e w) (grown_short (omega arith) (runs_grow_lem.same w) short)
  in_turn_by c d u s (Stops e w) go P Q grow (inr r) next = stops (grown (omega arith) r)
  in_turn_by c d u s (More w) go P Q grow (inl short) next =
      short_then (More w) (grown_short (omega arith) (runs_grow_lem.same w) short)
  in_turn_by c d u s (More w) go P Q grow (inr r) next =
      record { does = inr (grown (omega arith) r) }

  -- a run, and what follows with its value
  pub in_turn : {A B : Type 0} {c d u : ℕ} {s : Config} (o : Outcome A) (go : A → Run B)
      (P : A → World → Config → Type 0) {Q : B → World → Config → Type 0}
      → ((a : A) (w : World) → Later w (world_of (go a w))) → Does mv cells room c u s o P
      → ((a : A) (w : World) (t : Config) → P a w t → Does mv cells room d w.turns t (go a w) Q)
      → Does mv cells room (c + d) u s (then_do o go) Q
  in_turn {c = c} {d = d} {u = u} {s = s} o go P {Q = Q} grow first next =
      in_turn_by c d u s o go P Q grow first.does next

  -- one step in front, which shows nothing
  pub step_then : {A : Type 0} {d : ℕ} {o : Outcome A} {Q : A → World → Config → Type 0}
      (w : World) (s t : Config)
      → mv s ≡ Goes t → t.events ≡ events_of w.entries → Does mv cells room d w.turns t o Q
      → Does mv cells room (1 + d) w.turns s o Q
  unfolding goes_one
  step_then w s t m e next = reach_then (goes_one {P = λ x. Unit {0}} s t w m e tt) next

  -- no room on the stack
  pub short_here : {A : Type 0} {Q : A → World → Config → Type 0} (d : ℕ) (s t : Config)
      (w : World) (o : Outcome A)
      → mv s ≡ Ends (Error (pos 3)) t → t.events ≡ events_of w.entries → room < w.peak + 16
      → Later w (world_of o) → Does mv cells room (1 + d) w.turns s o Q
  short_here d s t w o m e deep l =
      short_then o (record {
        at = w;
        later = l;
        deep = deep;
        reach = grown (omega arith) (ends_one s t w (Error (pos 3)) m e);
      })

  pub size_is : {A : Type 0} {c d u : ℕ} {s : Config} {o : Outcome A} {Q : A → World → Config
      → Type 0} → c ≡ d → Does mv cells room c u s o Q → Does mv cells room d u s o Q
  size_is {u = u} {s = s} {o = o} {Q = Q} e does = subst (λ n. Does mv cells room n u s o Q) e does

  then_give : {A : Type 0} (o : Outcome A) → then_do o (λ a w. Gives a w) ≡ o
  then_give (Gives a w) = refl
  then_give (Stops e w) = refl
  then_give (More w) = refl

  -- what the machine does once the run has given its value
  pub after_it : {A : Type 0} {c d u : ℕ} {s : Config} (o : Outcome A)
      (P : A → World → Config → Type 0) {Q : A → World → Config → Type 0}
      → Does mv cells room c u s o P
      → ((a : A) (w : World) (t : Config) → P a w t → Does mv cells room d w.turns t (Gives a w) Q)
      → Does mv cells room (c + d) u s o Q
  after_it {c = c} {d = d} {u = u} {s = s} o P {Q = Q} first next =
      subst (λ x. Does mv cells room (c + d) u s x Q) (then_give o)
      (in_turn o (λ a w. Gives a w) P (λ a w. runs_grow_lem.same w) first next)

  wider_by : {A : Type 0} (c d u : ℕ) (s : Config) (o : Outcome A)
      (Q : A → World → Config → Type 0) → c ≤ d → Then mv cells room c u s o Q
      → Does mv cells room d u s o Q
  wider_by c d u s (Gives a x) Q h (inl short) =
      short_then (Gives a x) (grown_short h (runs_grow_lem.same x) short)
  wider_by c d u s (Gives a x) Q h (inr r) = gives (grown h r)
  wider_by c d u s (Stops e x) Q h (inl short) =
      short_then (Stops e x) (grown_short h (runs_grow_lem.same x) short)
  wider_by c d u s (Stops e x) Q h (inr r) = stops (grown h r)
  wider_by c d u s (More x) Q h (inl short) =
      short_then (More x) (grown_short h (runs_grow_lem.same x) short)
  wider_by c d u s (More x) Q h (inr r) = record { does = inr (grown h r) }

  pub wider : {A : Type 0} {c d u : ℕ} {s : Config} {o : Outcome A} {Q : A → World → Config
      → Type 0} → c ≤ d → Does mv cells room c u s o Q → Does mv cells room d u s o Q
  wider {c = c} {d = d} {u = u} {s = s} {o = o} {Q = Q} h q = wider_by c d u s o Q h q.does
