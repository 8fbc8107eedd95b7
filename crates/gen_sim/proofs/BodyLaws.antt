-- A call does what it means, where the body that serves does so with fewer turns left: from the
-- function's code on, and from the CALL on.
use Rattle.std.proofs.Common.{◌≡◌, ◌+◌, ◌*◌, ◌-◌, ◌^◌, ◌<◌, ◌≤◌, inr, ℕ, zero, suc, ℤ, pos, List}
use Rattle.std.proofs.Common.{[], ◌∷◌, ◌++◌, Option, Some, Bool, true, false, length, replicate}
use Rattle.std.proofs.Common.{sum, nat_lt, refl, ap, subst, ◌∙◌, arith, length-append}
use Rattle.host_script.specs.declared.event.End.TheVariants as end
use Rattle.pawn_meaning.specs.Program.{Stmt, Body, Function}
use Rattle.pawn_meaning.specs.Memory.{Frame, Holds, Unmade}
use Rattle.pawn_meaning.specs.World.{World, entered}
use Rattle.pawn_meaning.specs.Run.{Run, ◌>>=◌, then_do, give, leave, turn, with_frame}
use Rattle.pawn_meaning.specs.Natives.{Held}
use Rattle.pawn_meaning.specs.Calls.{value_of, body_by, frame_of, run_body, enter_function}
use Rattle.pawn_meaning.specs.Meaning.{Fewer}
use Rattle.pawn_meaning.specs.Need.{need}
use Rattle.pawn_meaning.specs.Later.{Grows}
use Rattle.pawn_meaning.proofs.Grows.{after_grows, give_grows, leave_grows, enter_grows}
use Rattle.pawn_meaning.proofs.Grows.{or_stop_grows, look_grows, no_entries, later_on, same_later}
use Rattle.amx_ops.specs.declared.op.Op.TheVariants as op
use Rattle.amx_ops.specs.Instructions.{fetched}
use Rattle.amx_ops.specs.Written.{read_as}
use Rattle.amx_ops.specs.State.{State}
use Rattle.amx_ops.specs.Effects.{at_next}
use Rattle.amx_ops.specs.Runs as runs
use Rattle.amx_ops.specs.Moves.{Config, moved, move}
use Rattle.pawn_cells.specs.Cells.{cell_of}
use Rattle.gen_sim.proofs.Sim.{stays, gives, grown, in_turn, short_here}
use Rattle.gen_sim.specs.View.{View, kept, used, Laid}
use Rattle.gen_sim.specs.Next.{HoldArguments, in_call}
use Rattle.gen_sim.specs.Stands.{Stands, With}
use Rattle.gen_sim.proofs.MemLaws.{same_mem}
use Rattle.gen_sim.proofs.ChangeLaws.{pushed_on, push_goes, push_errs, pushed_mem}
use Rattle.gen_sim.proofs.WorldLaws.{stands_still}
use Rattle.gen_sim.specs.Site.{Site, Starts, DoesAt}
use Rattle.gen_sim.specs.Items.{with, CallOf, placed_in}
use Rattle.gen_sim.specs.Back.{Back}
use Rattle.gen_sim.proofs.TurnLaws.{turned}
use Rattle.gen_sim.proofs.ParameterLaws.{unmade_none}
use Rattle.gen_sim.proofs.StepLaws.{move_is}
use Rattle.gen_sim.proofs.CallLaws.{proc_does, small_fits, small_cell}

-- what a call with a chosen body is, its turn being begun
abbrev pub in_body : Fewer → ℕ → Function → List Held → Option Body → Run ℤ
in_body fewer f function held body =
    with_frame (frame_of f function held body) (run_body fewer body)

pub body_grows : (fewer : Fewer) → ((s : Stmt) → Grows (fewer s)) → (body : Option Body)
    → Grows (run_body fewer body)
body_grows fewer grow body =
    after_grows (or_stop_grows body (end.Error (pos 13)))
    (λ it. after_grows (grow it.stmt) (λ way. give_grows (value_of way)))

pub leaving_grows : {A : Type 0} (a : A) → Grows (leave >>= (λ _. give a))
leaving_grows a = after_grows leave_grows (λ _. give_grows a)

pub in_body_grows : (fewer : Fewer) → ((s : Stmt) → Grows (fewer s))
    → (f : ℕ) (function : Function) (held : List Held) (body : Option Body)
    → Grows (in_body fewer f function held body)
in_body_grows fewer grow f function held body =
    after_grows (enter_grows (frame_of f function held body))
    (λ _. after_grows (body_grows fewer grow body) (λ a. leaving_grows a))

pub enter_function_grows : (fewer : Fewer) → ((s : Stmt) → Grows (fewer s))
    → (f : ℕ) (function : Function) (held : List Held)
    → Grows (enter_function fewer f function held)
enter_function_grows fewer grow f function held =
    after_grows (look_grows (λ m. Some (body_by function function.dispatch m)))
    (λ body. in_body_grows fewer grow f function held body)

module _ (x : Site) (fewer : Fewer) (grow : (s : Stmt) → Grows (fewer s)) (v : View) (f : ℕ)
    (function : Function)
    (held : List Held) (cells waits : List ℤ) (back : ℕ)
    (hold : HoldArguments x.program x.room v held cells)
    (laid : Laid x.program x.room v) (starts : Starts x back) where
  -- the callee's view
  abbrev pub within : View
  within =
      in_call x.program x.room v (need function)
      (pos v.frm ∷ pos back ∷ pos (4 * length cells) ∷ []) held cells waits

  -- a body's code from behind its PROC, which comes back by a RETN
  abbrev pub BodyDoes : ℕ → ℕ → Body → Type 0
  BodyDoes count at body =
      (w : World) (c : Config) → Stands x.program x.room within [] at w c
      → DoesAt x count w c (fewer body.stmt w)
      (λ way. Back x.program x.room v waits back (value_of way))

  -- from the PROC on, with the return address on top of the count of bytes and the arguments
  pub body_does : (body : Body) (count at : ℕ) (w : World) (c : Config)
      → Stands x.program x.room v (pos back ∷ pos (4 * length cells) ∷ (cells ++ waits)) at w c
      → fetched x.amx.code at ≡ Some (read_as (with op.Proc (pos 0)))
      → used x.program x.room v waits + length cells + 3 ≤ kept x.program x.room + sum v.needs
      + need function
      → BodyDoes count (at + 4) body
      → DoesAt x (1 + (count + 0 + 0)) w c (in_body fewer f function held (Some body) w)
      (With x.program x.room v waits back)
  body_does body count at w c s g deep hb =
      let frame : Frame = frame_of f function held (Some body) in
      let rest : List Holds = replicate (length body.slots - length held) Unmade in
      let m = move x.amx x.script in
      let cells_are = length x.amx.code in
      let run : Run ℤ = fewer body.stmt >>= (λ way. give (value_of way)) in
      proc_does x v (need function) back held cells waits hold laid starts {d = count + 0 + 0}
      {o = then_do (run (entered frame w)) (λ a. leave >>= (λ _. give a))} frame rest at w c s
      refl refl
      (unmade_none (length body.slots - length held)) g deep
      ((after_grows (after_grows (grow body.stmt) (λ way. give_grows (value_of way)))
      (λ a. leaving_grows a)).at (entered frame w))
      (λ t s2. in_turn m cells_are x.room (run (entered frame w)) (λ a. leave >>= (λ _. give a))
      (Back x.program x.room v waits back)
      (λ a y. (leaving_grows a).at y)
      (in_turn m cells_are x.room (fewer body.stmt (entered frame w)) (λ way. give (value_of way))
      (λ way. Back x.program x.room v waits back (value_of way)) (λ way y. same_later y)
      (hb (entered frame w) t s2)
      (λ way y u b. gives m cells_are x.room (stays m cells_are x.room u y b.back.stands.said b)))
      (λ a y u b. rw b.frames_are (gives m cells_are x.room
      (stays m cells_are x.room u _ b.back.stands.said b.back))))

  -- CALL, whose turn it is: what stands at the function's address does the rest within the file's
  -- cells
  pub call_does : (p entry count : ℕ) (w : World) (c : Config) → p + 8 ≡ back → back < 2 ^ 31
      → x.entry f ≡ entry
      → Stands x.program x.room v (pos (4 * length cells) ∷ (cells ++ waits)) p w c
      → fetched x.amx.code p ≡ Some (read_as (placed_in x.entry (CallOf f)))
      → used x.program x.room v (pos (4 * length cells) ∷ (cells ++ waits)) ≤ kept x.program x.room
      + sum v.needs + 15
      → count ≤ length x.amx.code
      → ((y : World) (t : Config) → y.memory ≡ w.memory
      → Stands x.program x.room v (pos back ∷ pos (4 * length cells) ∷ (cells ++ waits)) entry y t
      → DoesAt x count y t (enter_function fewer f function held y)
      (With x.program x.room v waits back))
      → DoesAt x 1 w c (then_do (turn x.limit w) (λ _. enter_function fewer f function held))
      (With x.program x.room v waits back)
  call_does p entry count w c to small entry_is s g few paid hb =
      by_turn (nat_lt w.turns x.limit) refl
    where
      by_free : (k : ℕ) → length s.mem.free ≡ k
          → DoesAt x 1 w c (enter_function fewer f function held (record w { turns = w.turns + 1 }))
          (With x.program x.room v waits back)
      by_free zero e =
          let w1 : World = record w { turns = w.turns + 1 } in
          short_here (move x.amx x.script) (length x.amx.code) x.room 0 c c w
          (enter_function fewer f function held w1)
          (move_is x c p (placed_in x.entry (CallOf f)) s.at g
          ∙ ap (λ y. moved x.amx x.script c y)
          (push_errs s.mem (cell_of (p + 8)) (at_next (x.entry f)) e)) s.said
          (omega (
            arith,
            s.mem.size,
            length-append s.mem.free
                (pos (4 * length cells) ∷ (cells ++ waits)),
            e,
            few,
            s.most,
          ))
          (later_on (no_entries w w1 refl (omega arith) (omega arith))
          ((enter_function_grows fewer grow f function held).at w1))
      by_free (suc k) e =
          let w1 : World = record w { turns = w.turns + 1 } in
          let y : ℤ = cell_of (p + 8) in
          let y_is : y ≡ pos back = rw to (small_cell back small) in
          let u : State = record (pushed_on c.state y) { cip = x.entry f } in
          let t : Config = record c { state = u } in
          let goes_is : move x.amx x.script c ≡ runs.Goes t =
          move_is x c p (placed_in x.entry (CallOf f)) s.at g
          ∙ ap (λ z. moved x.amx x.script c z)
          (push_goes s.mem y (at_next (x.entry f)) (omega (arith, e))) in
          let s1 : Stands x.program x.room v (y ∷ pos (4 * length cells) ∷ (cells ++ waits)) entry
          w1 t =
          stands_still x.program x.room s (same_mem (pushed_mem s.mem y
          (rw y_is (small_fits back small)) (omega (arith, e))) u refl refl refl) refl entry_is in
          turned (move x.amx x.script) (length x.amx.code) x.room goes_is paid
          (hb w1 t refl (subst (λ z. Stands x.program x.room v
          (z ∷ pos (4 * length cells) ∷ (cells ++ waits)) entry w1 t) y_is s1))

      by_turn : (b : Bool) → nat_lt w.turns x.limit ≡ b
          → DoesAt x 1 w c (then_do (turn x.limit w) (λ _. enter_function fewer f function held))
          (With x.program x.room v waits back)
      by_turn true e = rw e (by_free (length s.mem.free) refl)
      by_turn false e =
          rw e (record {
            does = inr (grown (move x.amx x.script) (length x.amx.code) x.room (omega arith)
                (stays (move x.amx x.script) (length x.amx.code) x.room c w s.said tt));
          })
