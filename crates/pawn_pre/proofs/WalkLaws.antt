-- Steps, one after another.
use Rattle.std.proofs.Common.{◌≡◌, suc, Err, refl}
use Rattle.pawn_outside.specs.Held.{Held}
use Rattle.pawn_pre.specs.Evaluation.{Value}
use Rattle.pawn_pre.specs.declared.fault.PreFault.{PreFault}
use Rattle.pawn_pre.specs.declared.fault.PreFault.TheVariants as fault
use Rattle.pawn_pre.specs.WalkAnswers.{Says, EndsIn}
use Rattle.pawn_pre.specs.Outcome.{Outcome}
use Rattle.pawn_pre.specs.Walk.{Stack, On, Stopped, step, run_walk, WalkEnds}

module _ (value : Value) (map : Held) where
  -- a step that goes on
  pub goes : (p q : Stack) (o : Outcome) → step value map p ≡ On q → WalkEnds value map q o
      → WalkEnds value map p o
  unfolding run_walk
  goes p q o e ends = record { steps = suc ends.steps; ends = rw e ends.ends }

  -- a step that stops
  pub stops : (p : Stack) (o : Outcome) → step value map p ≡ Stopped o → WalkEnds value map p o
  unfolding run_walk
  stops p o e = record { steps = 1; ends = rw e refl }

  -- a step that refuses, behind steps that lead there
  pub blames : (first p new : Stack) (refused : PreFault)
      → ((o : Outcome) → WalkEnds value map p o → WalkEnds value map first o) →
      Says (step value map p) (Err refused) new → EndsIn value map first (Err refused)
  blames first p new (fault.Source kind place file) leads e = leads _ (stops p _ e)
  blames first p new fault.NoSource leads e = e
  blames first p new (fault.TooLarge file) leads e = leads _ (stops p _ e)
  blames first p new fault.Files leads e = tt
  blames first p new fault.Memory leads e = tt
