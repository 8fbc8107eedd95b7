-- A loop with a body, a step and a test does what it means, by the number of turns left.
use Rattle.std.proofs.Common.{◌≡◌, ◌+◌, ◌^◌, ◌<◌, ◌≤◌, inr, ℕ, zero, suc, ℤ, List, []}
use Rattle.std.proofs.Common.{◌++◌, length, sym, subst, ◌∙◌}
use Rattle.std.proofs.Common.{arith}
use Rattle.pawn_meaning.specs.Program.{Stmt}
use Rattle.pawn_meaning.specs.World.{World}
use Rattle.pawn_meaning.specs.Run.{Run, Done, ◌>>=◌, give, turn, at_zero}
use Rattle.pawn_meaning.specs.Calls.{Way, Through, Broke, Continued, Returned, again}
use Rattle.pawn_meaning.specs.Meaning.{run}
use Rattle.pawn_meaning.specs.Later.{Grows}
use Rattle.pawn_meaning.proofs.Grows.{give_grows, after_grows, turn_grows}
use Rattle.pawn_meaning.proofs.RunLaws.{runs_grow_lem}
use Rattle.amx_ops.specs.declared.op.Op.TheVariants as op
use Rattle.amx_ops.specs.Moves.{Config, move}
use Rattle.gen_sim.proofs.Sim.{stays, grown, in_turn, wider, size_is}
use Rattle.gen_sim.specs.View.{View}
use Rattle.gen_sim.specs.Stands.{Stands}
use Rattle.gen_sim.specs.Site.{Site, DoesAt, scene_at}
use Rattle.gen_sim.specs.Items.{Item, item_cells, past, LieIn}
use Rattle.gen_sim.specs.Code.{with_turns}
use Rattle.gen_sim.proofs.ItemLaws.{past-append, count-append, past_is}
use Rattle.gen_sim.proofs.StepLaws.{given}
use Rattle.gen_sim.specs.Lies.{Lies}
use Rattle.gen_sim.specs.JumpCode.{jump_to}
use Rattle.gen_sim.proofs.ItemSteps.{first_lies, rest_lies, next_lies}
use Rattle.gen_sim.specs.Here.{Exits}
use Rattle.gen_sim.specs.Ways.{Outer, Left}
use Rattle.gen_sim.proofs.WayLaws.{stays_left}
use Rattle.gen_sim.specs.LoopCode.{body_at, step_at, loop_test, loop_end, loop_exits}
use Rattle.gen_sim.specs.LoopCode.{loop_code}
use Rattle.gen_sim.proofs.LoopSteps.{in_next_turn, jump_goes}
use Rattle.gen_sim.specs.Branch.{TakenDoes, FromDoes}
use Rattle.gen_sim.proofs.TestSteps.{test_turns_by}

-- what follows a pass
pub again_grows : (way : Way) {go : Run Way} → Grows go → Grows (again way go)
again_grows Through h = h
again_grows Broke h = give_grows Through
again_grows Continued h = h
again_grows (Returned y) h = give_grows (Returned y)

-- a pass, and what follows it
abbrev pub pass_run : ℕ → Run Way → Run Done → Run Way → Run Way
pass_run limit body step next =
    turn limit >>= (λ _. body >>= (λ way. again way (step >>= (λ _. next))))

-- what a loop with a test means
abbrev pub tested : ℕ → Run ℤ → Run Way → Run Done → Run Way → Run Way
tested limit test body step next =
    test >>= (λ n. at_zero n (give Through) (pass_run limit body step next))

module _ (x : Site) (e : Exits) (o : Outer) (v : View) (top : ℕ)
    (test body step : List Item) where
  -- the view at the loop's exits is that in which its body begins
  abbrev pub around : Outer
  around = record o { loop = v }

  abbrev end : ℕ
  end = loop_end top test body step

  -- the parts of the loop do these runs
  pub record Parts (rt : Run ℤ) (rb : Run Way) (rs : Run Done) : Type 0 where
    pub body_grows : Grows rb
    pub step_grows : Grows rs
    pub tests : Lies x (loop_test top body step) test → (off on : Run Way) → Grows off → Grows on
        → TakenDoes x v (body_at top) 1 on (Left x e o v end)
        → FromDoes x v end 0 off (Left x e o v end) → (w : World) (c : Config)
        → Stands x.program x.room v [] (loop_test top body step) w c
        → DoesAt x (length (item_cells test) + 0) w c ((rt >>= (λ n. at_zero n off on)) w)
        (Left x e o v end)
    pub does : Lies x (body_at top) body → (w : World) (c : Config)
        → Stands x.program x.room v [] (body_at top) w c
        → DoesAt x (length (item_cells body)) w c (rb w)
        (Left x (loop_exits top test body step) around v (step_at top body))
    pub steps : Lies x (step_at top body) step → (w : World) (c : Config)
        → Stands x.program x.room v [] (step_at top body) w c
        → DoesAt x (length (item_cells step)) w c (rs w)
        (λ d. Stands x.program x.room v [] (loop_test top body step))

  module _ (l : Lies x top (loop_code top test body step))
      (paid : length (item_cells (loop_code top test body step)) ≤ length x.amx.code)
      (small : LieIn x (loop_test top body step) test → end < 2 ^ 31) where
    abbrev start : Item
    start = jump_to op.Jump (loop_test top body step)

    from_body : Lies x (body_at top) (body ++ (step ++ test))
    from_body = next_lies x top start (body ++ (step ++ test)) l

    from_step : Lies x (step_at top body) (step ++ test)
    from_step = rest_lies x (body_at top) body (step ++ test) from_body

    at_test : Lies x (loop_test top body step) test
    at_test = rest_lies x (step_at top body) step test from_step

    body_small : body_at top < 2 ^ 31
    body_small = l.lie.2

    pub end_small : end < 2 ^ 31
    end_small = small at_test.lie

    test_small : loop_test top body step < 2 ^ 31
    test_small = omega (arith, end_small, past_is (loop_test top body step) test)

    pub step_small : step_at top body < 2 ^ 31
    step_small = omega (arith, test_small, past_is (step_at top body) step)

    long : 2 + (length (item_cells body)
        + (length (item_cells step) + length (item_cells test)))
        ≡ length (item_cells (loop_code top test body step))
    long = omega (arith, count-append body (step ++ test), count-append step test)

    pub ends : end ≡ past top (loop_code top test body step)
    ends =
        sym (past-append (body_at top) body (step ++ test) ∙ past-append (step_at top body) step test)

    pub body_paid : length (item_cells body) ≤ length x.amx.code
    body_paid = omega (arith, paid, long)

    -- ---- one pass

    module _ (rt : Run ℤ) (rb : Run Way) (rs : Run Done) (next : Run Way) (parts : Parts rt rb rs)
        (grow : Grows next)
        (again_does : (w : World) (c : Config)
        → Stands x.program x.room v [] (loop_test top body step) w c
        → DoesAt x (length (item_cells test)) w c (next w) (Left x e o v end)) where
      steps_then : (w : World) (c : Config)
          → Stands x.program x.room v [] (step_at top body) w c
          → DoesAt x (length (item_cells step) + length (item_cells test)) w c
          ((rs >>= (λ _. next)) w) (Left x e o v end)
      steps_then w c s =
          in_turn (move x.amx x.script) (length x.amx.code) x.room (rs w) (λ _. next)
          (λ d. Stands x.program x.room v [] (loop_test top body step))
          (λ d n. grow.at n) (parts.steps
          (first_lies x (step_at top body) step test from_step) w c s)
          (λ d n i k. again_does n i k)

      pass_by : (way : Way) (w : World) (c : Config)
          → Left x (loop_exits top test body step) around v (step_at top body) way w c
          → DoesAt x (length (item_cells step) + length (item_cells test)) w c
          (again way (rs >>= (λ _. next)) w) (Left x e o v end)
      pass_by Through w c k = steps_then w c k
      pass_by Broke w c k = given x k.1 k.1
      pass_by Continued w c k = steps_then w c k.1
      pass_by (Returned y) w c k = stays_left x e o v end (Returned y) w c k

      body_then : (w : World) (c : Config) → Stands x.program x.room v [] (body_at top) w c
          → DoesAt x (length (item_cells body)
          + (length (item_cells step) + length (item_cells test))) w c
          ((rb >>= (λ way. again way (rs >>= (λ _. next)))) w) (Left x e o v end)
      body_then w c s =
          in_turn (move x.amx x.script) (length x.amx.code) x.room (rb w)
          (λ way. again way (rs >>= (λ _. next)))
          (Left x (loop_exits top test body step) around v (step_at top body))
          (λ way n. (again_grows way (after_grows parts.step_grows (λ _. grow))).at n)
          (parts.does (first_lies x (body_at top) body (step ++ test) from_body) w c s)
          pass_by

      -- a jump back begins a turn
      jumps_back : TakenDoes x v (body_at top) 1 (pass_run x.limit rb rs next) (Left x e o v end)
      jumps_back p t w c s h f =
          test_turns_by x {n = length (item_cells body)
          + (length (item_cells step) + length (item_cells test))} s
          (λ _. rb >>= (λ way. again way (rs >>= (λ _. next)))) (omega (arith, paid, long))
          t (body_at top) body_small h f (λ i k. body_then (in_next_turn w) i k)

      one_pass : (w : World) (c : Config)
          → Stands x.program x.room v [] (loop_test top body step) w c
          → DoesAt x (length (item_cells test)) w c (tested x.limit rt rb rs next w)
          (Left x e o v end)
      one_pass w c s =
          size_is (move x.amx x.script) (length x.amx.code) x.room (omega arith)
          (parts.tests at_test (give Through) (pass_run x.limit rb rs next) (give_grows Through)
          (after_grows (turn_grows x.limit)
          (λ _. after_grows parts.body_grows
          (λ way. again_grows way (after_grows parts.step_grows (λ _. grow)))))
          jumps_back (λ u i k. given x k k) w c s)

    -- ---- all passes

    module _ (loop : Stmt) (turns : ℕ) (rt : ℕ → Run ℤ) (rb : ℕ → Run Way) (rs : ℕ → Run Done)
        (parts : (k : ℕ) → k ≤ turns → Parts (rt k) (rb k) (rs k))
        (is : (k : ℕ) → run (scene_at x) (with_turns x k) loop
        ≡ tested x.limit (rt k) (rb k) (rs k) (with_turns x k loop)) where
      passes : (k : ℕ) → k ≤ turns → (w : World) (c : Config)
          → Stands x.program x.room v [] (loop_test top body step) w c
          → DoesAt x (length (item_cells test)) w c (with_turns x k loop w) (Left x e o v end)
      passes zero h w c s = record {
        does = inr (grown (move x.amx x.script) (length x.amx.code) x.room (omega arith)
            (stays (move x.amx x.script) (length x.amx.code) x.room c w s.said tt));
      }
      passes (suc k) h w c s =
          subst (λ (r : Run Way). DoesAt x (length (item_cells test)) w c (r w)
          (Left x e o v end)) (sym (is k))
          (one_pass (rt k) (rb k) (rs k) (with_turns x k loop) (parts k (omega (arith, h)))
          (runs_grow_lem.nestings (scene_at x) k loop)
          (passes k (omega (arith, h))) w c s)

      pub loop_does : (w : World) (c : Config) → Stands x.program x.room v [] top w c
          → DoesAt x (length (item_cells (loop_code top test body step))) w c
          (tested x.limit (rt turns) (rb turns) (rs turns) (with_turns x turns loop) w)
          (Left x e o v (past top (loop_code top test body step)))
      loop_does w c s =
          subst (λ q. DoesAt x (length (item_cells (loop_code top test body step))) w c
          (tested x.limit (rt turns) (rb turns) (rs turns) (with_turns x turns loop) w)
          (Left x e o v q)) ends
          (wider (move x.amx x.script) (length x.amx.code) x.room (omega (arith, long))
          (jump_goes x {d = length (item_cells test)} s (loop_test top body step) test_small
          l.lie.0
          (λ i g. one_pass (rt turns) (rb turns) (rs turns) (with_turns x turns loop)
          (parts turns (omega arith)) (runs_grow_lem.nestings (scene_at x) turns loop)
          (passes turns (omega arith)) w i g)))
