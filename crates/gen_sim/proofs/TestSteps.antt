-- A loop's test by its own jump: it ends the loop, or leads back and begins a turn.
use Rattle.std.proofs.Common.{◌≡◌, ◌+◌, ◌*◌, ◌^◌, ◌<◌, ◌≤◌, ℕ, ℤ, pos, List, Some, true, false, length}
use Rattle.std.proofs.Common.{refl, ap, subst, ◌∙◌}
use Rattle.pawn_meaning.specs.World.{World}
use Rattle.pawn_meaning.specs.Run.{Outcome, Run, Done, done, ◌>>=◌, turn}
use Rattle.amx_ops.specs.Instructions.{fetched}
use Rattle.amx_ops.specs.Written.{cells_of, read_as}
use Rattle.amx_ops.specs.State.{State}
use Rattle.amx_ops.specs.Moves.{Config, moved}
use Rattle.gen_sim.specs.View.{View}
use Rattle.gen_sim.specs.Stands.{Stands}
use Rattle.gen_sim.specs.Site.{Site, DoesAt}
use Rattle.gen_sim.specs.Items.{with}
use Rattle.gen_sim.specs.TestCode.{Test, holds, test_op}
use Rattle.gen_sim.proofs.WorldLaws.{stands_on}
use Rattle.gen_sim.proofs.StepLaws.{move_is, goes}
use Rattle.gen_sim.proofs.LoopSteps.{in_next_turn, next_stands, turns_then}
use Rattle.gen_sim.proofs.TestLaws.{two_cells, taken_act, passed_act}

module _ (x : Site) {A : Type 0} {d : ℕ} {o : Outcome A} {Q : A → World → Config → Type 0}
    {v : View} {pending : List ℤ} {p : ℕ} {w : World} {c : Config}
    (a : Stands x.program x.room v pending p w c) (t : Test) (at : ℕ) where
  pub test_ends : holds t c.state.pri c.state.alt ≡ false
      → fetched x.amx.code p ≡ Some (read_as (with (test_op t) (pos at)))
      → ((k : Config) → Stands x.program x.room v pending (p + 8) w k → DoesAt x d w k o Q)
      → DoesAt x (1 + d) w c o Q
  test_ends z f next =
      let it = with (test_op t) (pos at) in
      let q : ℕ = p + 4 * length (cells_of it) in
      let s : State = record c.state { cip = q } in
      goes x {d = d} a it f s (passed_act x.amx t at q c.state z)
      (next (record c { state = s })
      (subst (λ n. Stands x.program x.room v pending (p + 4 * n) w (record c { state = s }))
      (two_cells t at) (stands_on x.program x.room a q s refl refl refl refl refl)))

  pub test_goes : at < 2 ^ 31 → holds t c.state.pri c.state.alt ≡ true
      → fetched x.amx.code p ≡ Some (read_as (with (test_op t) (pos at)))
      → ((k : Config) → Stands x.program x.room v pending at w k → DoesAt x d w k o Q)
      → DoesAt x (1 + d) w c o Q
  test_goes small z f next =
      let it = with (test_op t) (pos at) in
      let q : ℕ = p + 4 * length (cells_of it) in
      let s : State = record c.state { cip = at } in
      goes x {d = d} a it f s (taken_act x.amx t at q c.state small z)
      (next (record c { state = s }) (stands_on x.program x.room a at s refl refl refl refl refl))

module _ (x : Site) {A : Type 0} {n : ℕ} {Q : A → World → Config → Type 0} {v : View}
    {pending : List ℤ} {p : ℕ} {w : World} {c : Config}
    (a : Stands x.program x.room v pending p w c) (go : Done → Run A)
    (paid : n ≤ length x.amx.code) where
  pub test_turns_by : (t : Test) (at : ℕ) → at < 2 ^ 31 → holds t c.state.pri c.state.alt ≡ true
      → fetched x.amx.code p ≡ Some (read_as (with (test_op t) (pos at)))
      → ((k : Config) → Stands x.program x.room v pending at (in_next_turn w) k
      → DoesAt x n (in_next_turn w) k (go done (in_next_turn w)) Q)
      → DoesAt x 1 w c ((turn x.limit >>= go) w) Q
  test_turns_by t at small z f next =
      let it = with (test_op t) (pos at) in
      let q : ℕ = p + 4 * length (cells_of it) in
      let s : State = record c.state { cip = at } in
      let k = stands_on x.program x.room a at s refl refl refl refl refl in
      turns_then x c (record c { state = s }) w go
      (move_is x c p it a.at f
      ∙ ap (λ i. moved x.amx x.script c i) (taken_act x.amx t at q c.state small z))
      a.said paid
      (next (record c { state = s }) (next_stands x k))
