-- Along a whole run, of any program from main or a public function.
use Rattle.std.proofs.Common.{◌≡◌, ◌≤◌, ℕ, zero, suc, List, [], ◌∷◌, Option, None, Some, refl}
use Rattle.std.proofs.Common.{arith, slice_get}
use Rattle.std.specs.Prelude.{All, Contains, reverse}
use Rattle.std.proofs.lemmas.Option.{slice_get_within}
use Rattle.std.proofs.lemmas.List.Elements.{All-nil, All-weaker}
use Rattle.host_script.specs.declared.event.End.TheVariants as end
use Rattle.pawn_meaning.specs.Program.{Stmt, Slot, Function}
use Rattle.pawn_meaning.specs.World.{first_world}
use Rattle.pawn_meaning.specs.Run.{Outcome, Gives, Stops, More}
use Rattle.pawn_meaning.specs.Meaning.{Scene, run}
use Rattle.pawn_meaning.specs.Told.{nested, without_params, entry_or_stray, whole}
use Rattle.pawn_meaning.specs.Told.{told_of, scene_of}
use Rattle.pawn_usage.specs.Called.{called_by}
use Rattle.pawn_usage.specs.Chains.{starts, IsChain, chain_need}
use Rattle.pawn_usage.specs.LiveCallsAreChains.{LiveCallsAreChains}
use Rattle.pawn_usage.proofs.ChainLaws.{IsLive, live_is_chain}
use Rattle.pawn_usage.proofs.KeepLaws.{Good, Kept, Keeps, after_keeps, stop_keeps, more_keeps}
use Rattle.pawn_usage.proofs.NodesKeep.{Allowed, run_keeps, enter_keeps}

nested_keeps : (scene : Scene) (n : ℕ) (live : List ℕ) (s : Stmt)
    → Allowed scene.program live (called_by scene.program s)
    → Keeps scene.program live (nested scene n s)
nested_keeps scene zero live s h = more_keeps
nested_keeps scene (suc n) live s h =
    run_keeps scene (nested scene n) (nested_keeps scene n) s h

module _ (scene : Scene) (f : ℕ) (start : Contains (starts scene.program) f) where
  without_params_keeps : (function : Function) (params : List Slot)
      → slice_get scene.program.functions f ≡ Some function
      → Keeps scene.program [] (without_params scene f function params)
  without_params_keeps function [] e =
      after_keeps
      (enter_keeps scene (run scene (nested scene scene.limit))
      (λ live s h. run_keeps scene (nested scene scene.limit) (nested_keeps scene scene.limit) s h)
      [] f function [] e
      (record { there = slice_get_within scene.program.functions f function e; started = start }))
      (λ v. stop_keeps (end.Done v))
  without_params_keeps function (param ∷ params) e = stop_keeps end.Stray

  entry_keeps : (o : Option Function) → slice_get scene.program.functions f ≡ o
      → Keeps scene.program [] (entry_or_stray scene f o)
  entry_keeps None e = stop_keeps end.Stray
  entry_keeps (Some function) e = without_params_keeps function function.params e

  first_good : Good scene.program (first_world scene.program)
  first_good = record {
    chains = All-nil (IsLive scene.program);
    peak = λ cells bounded. omega arith;
  }

  whole_kept : Kept scene.program [] (whole scene f)
  whole_kept =
      (entry_keeps (slice_get scene.program.functions f) refl).at (first_world scene.program)
      first_good (record { functions = refl; needs = refl })

  -- what is told of a run has these chains, and a peak below what bounds all chains
  pub record GoodTold (chains : List (List ℕ)) (peak : ℕ) : Type 0 where
    pub chains_are : All (IsLive scene.program) chains
    pub peak_is : (cells : ℕ)
        → ((live : List ℕ) → IsLive scene.program live → chain_need scene.program live ≤ cells)
        → peak ≤ cells

  told : (o : Outcome ⊥) → Kept scene.program [] o
      → GoodTold (told_of o).chains (told_of o).peak
  told (Gives a w) kept = absurd a
  told (Stops e w) kept = record { chains_are = kept.chains; peak_is = kept.peak }
  told (More w) kept = record { chains_are = kept.chains; peak_is = kept.peak }

  pub whole_told : GoodTold (told_of (whole scene f)).chains (told_of (whole scene f)).peak
  whole_told = told (whole scene f) whole_kept

pub live_calls_are_chains_lem : LiveCallsAreChains
live_calls_are_chains_lem program script f limit start =
    All-weaker (IsLive program) (λ live. IsChain program (reverse live)) (live_is_chain program) _
    (whole_told (scene_of program script limit) f start).chains_are
