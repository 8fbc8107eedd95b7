-- From a function's address on, a file does what the program means.
use Rattle.std.proofs.Common.{◌≡◌, ◌+◌, ◌≤◌, ℕ, suc, ℤ, pos, List, [], ◌∷◌}
use Rattle.std.proofs.Common.{Option, None, Some, length, slice_get, refl, sym, ap}
use Rattle.std.proofs.Common.{subst, ◌∙◌, arith}
use Rattle.host_script.specs.declared.event.End.TheVariants as end
use Rattle.pawn_meaning.specs.Program.{Slot, Function}
use Rattle.pawn_meaning.specs.World.{World, first_world}
use Rattle.pawn_meaning.specs.Run.{Stops, stop}
use Rattle.pawn_meaning.specs.Calls.{enter_function}
use Rattle.pawn_meaning.specs.Told.{entry_or_stray, without_params, entry_run, whole}
use Rattle.pawn_meaning.proofs.Grows.{same_later}
use Rattle.amx_ops.specs.declared.op.Op.TheVariants as op
use Rattle.amx_ops.specs.Instructions.{fetched}
use Rattle.amx_ops.specs.Written.{read_as}
use Rattle.amx_ops.specs.Runs as runs
use Rattle.amx_ops.specs.Moves.{Config, move}
use Rattle.gen_sim.specs.Does.{nothing}
use Rattle.gen_sim.proofs.Sim.{stops, ends_one, in_turn, wider}
use Rattle.gen_sim.specs.Pieces.{total}
use Rattle.gen_sim.specs.Stands.{Stands, With}
use Rattle.gen_sim.specs.Site.{Site, Starts, DoesAt, scene_at}
use Rattle.gen_sim.specs.Items.{item_cells, with}
use Rattle.gen_sim.specs.Results.{SuitAll}
use Rattle.gen_sim.specs.Code.{with_turns}
use Rattle.gen_sim.proofs.StepLaws.{move_is, stray}
use Rattle.gen_laws.specs.FunctionCode.{function_items, HasFunctions}
use Rattle.gen_laws.proofs.FunctionNodes.{function_runs, calls_do}
use Rattle.gen_laws.proofs.FirstLaws.{first_view, low_is}

module _ (x : Site) (has : HasFunctions x)
    (first : fetched x.amx.code 0 ≡ Some (read_as (with op.Halt (pos 0))))
    (fits : (f : ℕ) (function : Function) → slice_get x.program.functions f ≡ Some function
    → length (item_cells (function_items x.program (x.entry f) function)) + 2 ≤ length x.amx.code)
    (f : ℕ) (c : Config) (s : Stands x.program x.room first_view (pos 0 ∷ pos 0 ∷ []) (x.entry f)
    (first_world x.program) c) where
  abbrev w : World
  w = first_world x.program

  -- at address 0 the value is the end's
  ended : (y : ℤ) (u : World) (t : Config) → With x.program x.room first_view [] 0 y u t
      → DoesAt x 1 u t (Stops (end.Done y) u) nothing
  ended y u t k =
      stops (move x.amx x.script) (length x.amx.code) x.room
      (ends_one (move x.amx x.script) (length x.amx.code) x.room t
      (record t { state = record t.state { cip = 8 } }) u (end.Done y)
      (move_is x t 0 (with op.Halt (pos 0)) k.stands.at first
      ∙ ap (λ z. runs.Ends (end.Done z) (record t { state = record t.state { cip = 8 } }))
      k.value)
      k.stands.said)

  enters : (function : Function) → slice_get x.program.functions f ≡ Some function
      → function.params ≡ []
      → DoesAt x (length x.amx.code) w c (entry_run (scene_at x) f function w) nothing
  enters function there none =
      let n = length (item_cells (function_items x.program (x.entry f) function)) in
      let starts : Starts x 0 = rw first refl in
      let suit : SuitAll function.params [] = subst (λ ps. SuitAll ps []) (sym none) tt in
      wider (move x.amx x.script) (length x.amx.code) x.room {c = n + 1}
      (omega (arith, fits f function there))
      (in_turn (move x.amx x.script) (length x.amx.code) x.room
      (enter_function (with_turns x (suc x.limit)) f function [] w) (λ v. stop (end.Done v))
      (With x.program x.room first_view [] 0) (λ v u. same_later u)
      (function_runs x has (suc x.limit)
      (λ fewer h. calls_do x has (suc x.limit) fewer (omega (arith, h))) f function there
      first_view [] [] [] 0 suit tt s.laid starts
      (omega arith) (omega (arith, ap total (low_is x.program x.room))) w c s)
      (λ v u t k. ended v u t k))

  by_params : (function : Function) → slice_get x.program.functions f ≡ Some function
      → (params : List Slot) → function.params ≡ params
      → DoesAt x (length x.amx.code) w c (without_params (scene_at x) f function params w) nothing
  by_params function there [] e = enters function there e
  by_params function there (param ∷ params) e = stray x s

  by_function : (o : Option Function) → slice_get x.program.functions f ≡ o
      → DoesAt x (length x.amx.code) w c (entry_or_stray (scene_at x) f o w) nothing
  by_function None e = stray x s
  by_function (Some function) e = by_params function e function.params refl

  pub whole_does : DoesAt x (length x.amx.code) w c (whole (scene_at x) f) nothing
  whole_does = by_function (slice_get x.program.functions f) refl
