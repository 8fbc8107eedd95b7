-- The knot: by the number of turns left.
use Rattle.std.proofs.Common.{◌≡◌, ◌+◌, ◌<◌, ◌≤◌, ◌⊎◌, inl, inr, ℕ, zero, suc, ℤ, length, refl, sym}
use Rattle.std.proofs.Common.{subst, arith}
use Rattle.std.proofs.lemmas.Bool.{cases_lt}
use Rattle.host_script.specs.declared.event.End.TheVariants as end
use Rattle.pawn_meaning.specs.Program.{Function, Stmt}
use Rattle.pawn_meaning.specs.Run.{Run, ◌>>=◌, then_do, or_stop, turn}
use Rattle.pawn_meaning.specs.Calls.{enter_function}
use Rattle.pawn_meaning.specs.Later.{Grows}
use Rattle.pawn_meaning.proofs.RunLaws.{runs_grow_lem}
use Rattle.amx_ops.specs.Moves.{move}
use Rattle.gen_sim.proofs.Sim.{wider}
use Rattle.gen_sim.specs.Stands.{With}
use Rattle.gen_sim.specs.Site.{Site, DoesAt, scene_at}
use Rattle.gen_sim.specs.Code.{CallsDo, CallsWithin, with_turns}
use Rattle.gen_sim.proofs.BodyLaws.{call_does}
use Rattle.gen_sim.specs.Enters.{EntersDo, CallsBelow, FunctionsDo}

-- a call goes to its function's address, with the return address pushed
module _ (x : Site) (turns : ℕ) (enters : EntersDo x (with_turns x turns)) where
  grows : (s : Stmt) → Grows (with_turns x turns s)
  grows s = runs_grow_lem.nestings (scene_at x) turns s

  calls_do : CallsDo x (with_turns x turns)
  calls_do f function v held cells waits p w c there suit hold small starts g few deep s =
      let run : Function → Run ℤ =
      λ it. turn x.limit >>= (λ _. enter_function (with_turns x turns) f it held) in
      subst (λ o. DoesAt x 1 w c (then_do (or_stop o end.Stray w) run)
      (With x.program x.room v waits (p + 8))) (sym there)
      (call_does x (with_turns x turns) grows v f function held cells waits
      (p + 8) hold s.laid starts p (x.entry f) (length x.amx.code) w c refl small refl s g few
      (omega arith)
      (λ y t same k.
      let r =
      enters f function there v held cells waits
      (p + 8) suit hold s.laid starts small deep y t k in
      wider (move x.amx x.script) (length x.amx.code) x.room r.paid r.does))

-- by strong induction
one_more : (x : Site) → FunctionsDo x → (turns : ℕ) → CallsBelow x turns → CallsBelow x (suc turns)
one_more x functions turns before fewer h = by_order (cases_lt fewer turns)
  where
    by_order : (fewer < turns) ⊎ (turns ≤ fewer) → CallsDo x (with_turns x fewer)
    by_order (inl l) = before fewer l
    by_order (inr l) =
        let same : turns ≡ fewer = omega (arith, h, l) in
        subst (λ n. CallsDo x (with_turns x n)) same (calls_do x turns (functions turns before))

below : (x : Site) → FunctionsDo x → (turns : ℕ) → CallsBelow x turns
below x functions zero = λ fewer h. absurd (omega (arith, h))
below x functions (suc turns) = one_more x functions turns (below x functions turns)

-- calls do what they mean with any number of turns left
pub calls_within : (x : Site) → FunctionsDo x → (turns : ℕ) → CallsWithin x turns
calls_within x functions turns fewer h = below x functions (suc turns) fewer (omega (arith, h))
