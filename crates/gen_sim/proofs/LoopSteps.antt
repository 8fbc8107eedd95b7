-- The instructions of a loop: a turn begins, a jump leads back, a test leads to the end.
use Rattle.std.proofs.Common.{◌≡◌, ◌+◌, ◌^◌, ◌<◌, ◌≤◌, inr, ℕ, ℤ, pos, List}
use Rattle.std.proofs.Common.{Some, Bool, true, false, length, nat_lt, refl, ap}
use Rattle.std.proofs.Common.{◌∙◌, arith}
use Rattle.std.proofs.lemmas.Int.{ints}
use Rattle.pawn_cells.specs.Cells.{bits_of, is_zero}
use Rattle.pawn_meaning.specs.World.{World}
use Rattle.pawn_meaning.specs.Run.{Outcome, Run, Done, done, then_do, ◌>>=◌, turn}
use Rattle.pawn_meaning.specs.Told.{events_of}
use Rattle.amx_ops.specs.declared.op.Op.TheVariants as op
use Rattle.amx_ops.specs.Instructions.{fetched}
use Rattle.amx_ops.specs.Written.{read_as}
use Rattle.amx_ops.specs.State.{State, Goes}
use Rattle.amx_ops.specs.Step.{act}
use Rattle.amx_ops.specs.Runs as runs
use Rattle.amx_ops.specs.Moves.{Config, moved, move}
use Rattle.gen_sim.proofs.Sim.{stays, grown}
use Rattle.gen_sim.specs.View.{View}
use Rattle.gen_sim.specs.Stands.{Stands}
use Rattle.gen_sim.proofs.WorldLaws.{stands_on, stands_still}
use Rattle.gen_sim.specs.Site.{Site, DoesAt}
use Rattle.gen_sim.specs.Items.{with}
use Rattle.gen_sim.proofs.StepLaws.{move_is, goes}
use Rattle.gen_sim.proofs.TurnLaws.{turned}

bits_are : (n : ℕ) → n < 2 ^ 31 → bits_of (pos n) ≡ n
bits_are n h = omega (arith, ints, h)

-- a world with a turn more
abbrev pub in_next_turn : World → World
in_next_turn w = record w { turns = w.turns + 1 }

pub next_stands : (x : Site) {v : View} {pending : List ℤ} {p : ℕ} {w : World} {c : Config}
    → Stands x.program x.room v pending p w c
    → Stands x.program x.room v pending p (in_next_turn w) c
next_stands x s = stands_still x.program x.room s s.mem refl s.at

-- the instruction that begins a turn pays for what the file's cells bound
pub turns_then : (x : Site) {A : Type 0} {Q : A → World → Config → Type 0} {n : ℕ} (c t : Config)
    (w : World) (go : Done → Run A)
    → move x.amx x.script c ≡ runs.Goes t → c.events ≡ events_of w.entries → n ≤ length x.amx.code
    → DoesAt x n (in_next_turn w) t (go done (in_next_turn w)) Q
    → DoesAt x 1 w c ((turn x.limit >>= go) w) Q
turns_then x {A} {Q} {n} c t w go e said paid d = by_turn (nat_lt w.turns x.limit) refl
  where
    by_turn : (b : Bool) → nat_lt w.turns x.limit ≡ b
        → DoesAt x 1 w c (then_do (turn x.limit w) go) Q
    by_turn true h = rw h (turned (move x.amx x.script) (length x.amx.code) x.room e paid d)
    by_turn false h =
        rw h (record {
          does = inr (grown (move x.amx x.script) (length x.amx.code) x.room (omega arith)
              (stays (move x.amx x.script) (length x.amx.code) x.room c w said tt));
        })

module _ (x : Site) {A : Type 0} {d : ℕ} {o : Outcome A} {Q : A → World → Config → Type 0}
    {v : View} {pending : List ℤ} {p : ℕ} {w : World} {c : Config}
    (a : Stands x.program x.room v pending p w c) (at : ℕ) (small : at < 2 ^ 31) where
  pub jump_goes : fetched x.amx.code p ≡ Some (read_as (with op.Jump (pos at)))
      → ((t : Config) → Stands x.program x.room v pending at w t → DoesAt x d w t o Q)
      → DoesAt x (1 + d) w c o Q
  jump_goes f next =
      let t : State = record c.state { cip = at } in
      goes x {d = d} a (with op.Jump (pos at)) f t (rw (bits_are at small) refl)
      (next (record c { state = t }) (stands_on x.program x.room a at t refl refl refl refl refl))

  pub zero_goes : is_zero c.state.pri ≡ true
      → fetched x.amx.code p ≡ Some (read_as (with op.Jzer (pos at)))
      → ((t : Config) → Stands x.program x.room v pending at w t → DoesAt x d w t o Q)
      → DoesAt x (1 + d) w c o Q
  zero_goes z f next =
      let t : State = record c.state { cip = at } in
      goes x {d = d} a (with op.Jzer (pos at)) f t (rw (z, bits_are at small) refl)
      (next (record c { state = t }) (stands_on x.program x.room a at t refl refl refl refl refl))

module _ (x : Site) {A : Type 0} {d : ℕ} {o : Outcome A} {Q : A → World → Config → Type 0}
    {v : View} {pending : List ℤ} {p : ℕ} {w : World} {c : Config}
    (a : Stands x.program x.room v pending p w c) (at : ℕ) where
  pub stays_goes : is_zero c.state.pri ≡ false
      → fetched x.amx.code p ≡ Some (read_as (with op.Jzer (pos at)))
      → ((t : Config) → Stands x.program x.room v pending (p + 8) w t → DoesAt x d w t o Q)
      → DoesAt x (1 + d) w c o Q
  stays_goes z f next =
      let t : State = record c.state { cip = p + 8 } in
      goes x {d = d} a (with op.Jzer (pos at)) f t (rw z refl)
      (next (record c { state = t })
      (stands_on x.program x.room a (p + 8) t refl refl refl refl refl))

-- a test that isn't 0 begins a turn, and so does a NOP
module _ (x : Site) {A : Type 0} {n : ℕ} {Q : A → World → Config → Type 0} {v : View}
    {pending : List ℤ} {p : ℕ} {w : World} {c : Config}
    (a : Stands x.program x.room v pending p w c) (go : Done → Run A)
    (paid : n ≤ length x.amx.code) where
  pub test_turns : (at : ℕ) → is_zero c.state.pri ≡ false
      → fetched x.amx.code p ≡ Some (read_as (with op.Jzer (pos at)))
      → ((t : Config) → Stands x.program x.room v pending (p + 8) (in_next_turn w) t
      → DoesAt x n (in_next_turn w) t (go done (in_next_turn w)) Q)
      → DoesAt x 1 w c ((turn x.limit >>= go) w) Q
  test_turns at z f next =
      let t : State = record c.state { cip = p + 8 } in
      let s = stands_on x.program x.room a (p + 8) t refl refl refl refl refl in
      let stays_on : act x.amx op.Jzer (pos at) (p + 8) c.state ≡ Goes t = rw z refl in
      turns_then x c (record c { state = t }) w go
      (move_is x c p (with op.Jzer (pos at)) a.at f ∙ ap (λ y. moved x.amx x.script c y) stays_on)
      a.said paid
      (next (record c { state = t }) (next_stands x s))

  pub nop_turns : fetched x.amx.code p ≡ Some (read_as (with op.Nop (pos 0)))
      → ((t : Config) → Stands x.program x.room v pending (p + 4) (in_next_turn w) t
      → DoesAt x n (in_next_turn w) t (go done (in_next_turn w)) Q)
      → DoesAt x 1 w c ((turn x.limit >>= go) w) Q
  nop_turns f next =
      let t : State = record c.state { cip = p + 4 } in
      let s = stands_on x.program x.room a (p + 4) t refl refl refl refl refl in
      turns_then x c (record c { state = t }) w go
      (move_is x c p (with op.Nop (pos 0)) a.at f) a.said paid
      (next (record c { state = t }) (next_stands x s))
