-- Runs: from a world to a value and a world, to an end, or to where the bound on turns is reached.
-- Each combinator below is a step that a program can make, and every node is made of these.
use Rattle.std.specs.Prelude.{ℕ, ℤ, ◌+◌, Bool, true, false, Option, None, Some, length, nat_lt}
use Rattle.std.specs.Prelude.{if◌then◌else◌}
use Rattle.host_script.specs.declared.event.End.{End}
use Rattle.host_script.specs.declared.event.End.TheVariants as end
use Rattle.host_script.specs.declared.event.Event.{Event}
use Rattle.pawn_cells.specs.Cells.{is_zero}
use Rattle.pawn_meaning.specs.Memory.{Memory, Frame, cut_heap}
use Rattle.pawn_meaning.specs.World.{World, said, entered, left}

-- a value and a world, an end, or a cut
pub data Outcome (A : Type 0) : Type 0 where
  Gives : A → World → Outcome A
  Stops : End → World → Outcome A
  -- the next turn would be one more than the bound
  More : World → Outcome A

-- what a part of a program does to a world
abbrev pub Run : Type 0 → Type 0
Run A = World → Outcome A

-- what follows where a value was given
abbrev pub then_do : {A B : Type 0} → Outcome A → (A → Run B) → Outcome B
then_do (Gives a w) go = go a w
then_do (Stops end w) go = Stops end w
then_do (More w) go = More w

-- one run, and another with its value
infixl 10 ◌>>=◌
abbrev pub ◌>>=◌ : {A B : Type 0} → Run A → (A → Run B) → Run B
run >>= go = λ w. then_do (run w) go

-- what a step gives that gives nothing
pub data Done : Type 0 where
  done : Done

-- a value, with nothing done
abbrev pub give : {A : Type 0} → A → Run A
give a = λ w. Gives a w

-- the end of the run
abbrev pub stop : {A : Type 0} → End → Run A
stop end = λ w. Stops end w

-- a value, or the end that stands in its place
abbrev pub or_stop : {A : Type 0} → Option A → End → Run A
or_stop None end = stop end
or_stop (Some a) end = give a

-- one of two
abbrev pub choose : {A : Type 0} → Bool → Run A → Run A → Run A
choose true first second = first
choose false first second = second

-- the first one for 0, the second one for every other value
abbrev pub at_zero : {A : Type 0} → ℤ → Run A → Run A → Run A
at_zero v first second = choose (is_zero v) first second

-- one more turn, below the bound
abbrev pub turn : ℕ → Run Done
turn limit =
    λ w. if nat_lt w.turns limit then Gives done (record w { turns = w.turns + 1 }) else More w

-- what the memory has; where it has nothing the access is stray
abbrev pub look : {A : Type 0} → (Memory → Option A) → Run A
look f = λ w. or_stop (f w.memory) end.Stray w

-- the memory in place of the old one
abbrev pub changed : Option Memory → Run Done
changed None = stop end.Stray
changed (Some m) = λ w. Gives done (record w { memory = m })

-- another memory; where there is none the access is stray
abbrev pub change : (Memory → Option Memory) → Run Done
change f = λ w. changed (f w.memory) w

-- the host is shown an event
abbrev pub say : Event → Run Done
say event = λ w. Gives done (said event w)

-- a call begins
abbrev pub enter : Frame → Run Done
enter frame = λ w. Gives done (entered frame w)

-- and ends
abbrev pub leave : Run Done
leave = λ w. Gives done (left w)

-- a run in a frame of its own
abbrev pub with_frame : {A : Type 0} → Frame → Run A → Run A
with_frame frame run = enter frame >>= (λ _. run >>= (λ a. leave >>= (λ _. give a)))

-- a run behind which the temporary arguments that it made are gone
abbrev pub with_heap : {A : Type 0} → Run A → Run A
with_heap run =
    look (λ m. Some (length m.heap))
    >>= (λ count. run >>= (λ a. change (λ m. Some (cut_heap count m)) >>= (λ _. give a)))
