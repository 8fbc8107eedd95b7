-- Iterations and segments of any machine: it goes on, sleeps, or ends. A segment has a bound on its
-- moves and stops at a sleep; a trace joins segments, going on after each sleep.
use Rattle.std.specs.Prelude.{ℕ, zero, suc, ◌+◌, List, [], ◌∷◌}

-- what one move comes to
pub data Moved (C E : Type 0) : Type 0 where
  Goes : C → Moved C E
  Sleeps : C → Moved C E
  Ends : E → C → Moved C E

-- so many moves without an end, or the end
pub data Finish (C E : Type 0) : Type 0 where
  Cut : C → Finish C E
  Over : E → C → Finish C E

-- it goes on after a sleep as after any other move
unfoldable pub iterate : {C E : Type 0} → (C → Moved C E) → ℕ → C → Finish C E
iterate move zero c = Cut c
iterate move (suc n) c =
    elim (move c) [ Goes d ↦ iterate move n d | Sleeps d ↦ iterate move n d | Ends e d ↦ Over e d ]

-- why a segment stopped
pub data Stop (E : Type 0) : Type 0 where
  Steps : Stop E
  Asleep : Stop E
  Over_by : E → Stop E

-- what a segment came to: why it stopped, where, and after how many moves
pub record Segmented (C E : Type 0) : Type 0 where
  pub stop : Stop E
  pub config : C
  pub steps : ℕ

-- at most so many moves, with so many done before
unfoldable pub segment : {C E : Type 0} → (C → Moved C E) → (left so_far : ℕ) → C → Segmented C E
segment move zero so_far c = record { stop = Steps; config = c; steps = so_far }
segment move (suc n) so_far c = elim (move c) [
  | Goes d ↦ segment move n (so_far + 1) d
  | Sleeps d ↦ record { stop = Asleep; config = d; steps = so_far + 1 }
  | Ends e d ↦ record { stop = Over_by e; config = d; steps = so_far + 1 }
]

-- what the last segment came to, its bound, and the moves of all segments together
pub record Traced (C E : Type 0) : Type 0 where
  pub stop : Stop E
  pub config : C
  pub bound : ℕ
  pub steps : ℕ

-- a segment with its bound
abbrev pub traced : {C E : Type 0} → ℕ → Segmented C E → Traced C E
traced bound segmented =
    record {
      stop = segmented.stop;
      config = segmented.config;
      bound = bound;
      steps = segmented.steps;
    }

-- with so many moves before
abbrev pub behind : {C E : Type 0} → ℕ → Traced C E → Traced C E
behind steps t =
    record { stop = t.stop; config = t.config; bound = t.bound; steps = steps + t.steps }

-- a first bound, and further ones for the segments after sleeps
abbrev pub joined : {C E : Type 0} → (C → Moved C E) → ℕ → List ℕ → C → Traced C E
joined move bound [] c = traced bound (segment move bound 0 c)
joined move bound (next ∷ bounds) c = elim (segment move bound 0 c).stop [
  | Steps ↦ traced bound (segment move bound 0 c)
  | Asleep ↦ behind (segment move bound 0 c).steps
      (joined move next bounds (segment move bound 0 c).config)
  | Over_by e ↦ traced bound (segment move bound 0 c)
]

-- ---- sleeps

-- how many of the next moves are sleeps, up to an end
unfoldable pub sleeps : {C E : Type 0} → (C → Moved C E) → ℕ → C → ℕ
sleeps move zero c = 0
sleeps move (suc n) c =
    elim (move c) [ Goes d ↦ sleeps move n d | Sleeps d ↦ suc (sleeps move n d) | Ends e d ↦ 0 ]
