-- Where a segment falls asleep, its machine can be set to that state again.
use Rattle.std.proofs.Common.{◌≡◌, ◌⊎◌, inl, inr, ◌+◌, ◌*◌, ℕ, zero, suc, ℤ, pos, negsuc, List, []}
use Rattle.std.proofs.Common.{Bool}
use Rattle.std.proofs.Common.{true, false, Option, None, Some, IfSome, IsTrue, length, map, refl, sym}
use Rattle.std.proofs.Common.{ap, subst, ◌∙◌, true≢false}
use Rattle.std.proofs.lemmas.Bool.{eqb-true}
use Rattle.host_script.specs.declared.script.Script.{Script}
use Rattle.host_script.specs.declared.event.End.{End}
use Rattle.host_script.specs.NativeCall.{Called, Ends_there, Answers, native_call}
use Rattle.host_script.specs.Ranges.{IsScript}
use Rattle.pawn_meaning.specs.Program.{Program}
use Rattle.amx_ops.specs.declared.amx.Amx.{Amx}
use Rattle.amx_ops.specs.Instructions.{Placed, placed, is_start}
use Rattle.amx_ops.specs.Keeps.{IsRunnable, Leaves}
use Rattle.amx_ops.specs.Table.{is_number}
use Rattle.amx_ops.specs.State as state
use Rattle.amx_ops.specs.State.{State, Turned, swept}
use Rattle.amx_ops.specs.States.{IsState, IsRestorable}
use Rattle.amx_ops.specs.Step.{step}
use Rattle.amx_ops.specs.Moves.{Config, move, moved, asked, answered, arguments, halted_by, name_of}
use Rattle.amx_ops.specs.Moves.{look}
use Rattle.amx_ops.specs.Runs.{Moved, Goes, Sleeps, Ends, Stop, Steps, Asleep, Over_by, Segmented}
use Rattle.amx_ops.specs.Runs.{segment}
use Rattle.amx_ops.proofs.KeepsLaws.{keeps_states}
use Rattle.amx_ops.proofs.RunLaws.{segment-zero, segment-goes, segment-sleeps, segment-ends}
use Rattle.gen_agrees.specs.Shape.{HasShape, IsSleep, last_of}
use Rattle.run_laws.specs.RestorableSleeps.{segment_of, FallsAsleep, IsAtEnd, SleepsAreRestorable}
use Rattle.run_laws.proofs.StepLaws.{Sized, IsHalting, step_sized}
use Rattle.run_laws.proofs.ChainLaws.{behind, last_is}

is_twelve : (z : ℤ) → is_number 12 z ≡ true → z ≡ pos 12
is_twelve (pos n) h = ap pos (sym (eqb-true 12 n h))
is_twelve (negsuc n) h = absurd (true≢false (sym h))

-- a state behind a sleep of the code: what is dead is 0
record IsSlept (amx : Amx) (s : State) : Type 0 where
  before : State
  halts : IsHalting amx before (pos 12) s
  clean : swept s ≡ s

-- a move that falls asleep comes to one
abbrev Rests : Amx → Moved Config End → Type 0
Rests amx (Goes d) = Unit {0}
Rests amx (Sleeps d) = IsSlept amx d.state
Rests amx (Ends e d) = Unit {0}

halted_rests : (amx : Amx) (from : State) (v : ℤ) (a b d : Bool) (s : State) (c : Config)
    → is_number 12 v ≡ d → (v ≡ pos 12 → swept s ≡ s) → IsHalting amx from v s
    → Rests amx (halted_by v a b d s c)
halted_rests amx from v true b d s c e h i = tt
halted_rests amx from v false true d s c e h i = tt
halted_rests amx from v false false true s c e h i =
    let twelve = is_twelve v e in
    record {
      before = from;
      halts = subst (λ z. IsHalting amx from z s) twelve i;
      clean = h twelve;
    }
halted_rests amx from v false false false s c e h i = tt

answered_rests : (amx : Amx) (called : Called ℕ) (s : State) (c : Config)
    → Rests amx (answered called s c)
answered_rests amx (Ends_there trap position) s c = tt
answered_rests amx (Answers event result position puts) s c = tt

asked_rests : (amx : Amx) (script : Script) (name : List ℕ) (s : State) (c : Config)
    → Rests amx (asked script name (arguments s) s c)
asked_rests amx script name s c = elim (arguments s) as (λ o. Rests amx (asked script name o s c)) [
  | None ↦ tt
  | Some cells ↦ answered_rests amx (native_call script (look s) name cells c.position) s c
]

moved_rests : (amx : Amx) (script : Script) (c : Config) (t : Turned) → Leaves amx t
    → Sized (length c.state.cells) (IsHalting amx c.state) t → Rests amx (moved amx script c t)
moved_rests amx script c (state.Goes s) l i = tt
moved_rests amx script c (state.Errs code) l i = tt
moved_rests amx script c (state.Halts v s) l i =
    halted_rests amx c.state v (is_number 0 v) (is_number 1 v) (is_number 12 v) s c refl l.1 i.1
moved_rests amx script c (state.Asks n s) l i = asked_rests amx script (name_of amx.natives n) s c

-- ---- a segment

module _ (amx : Amx) (script : Script) (runs : IsRunnable amx) (keeps : IsScript script) where
  abbrev go : Config → Moved Config End
  go = move amx script

  -- one that falls asleep comes to such a state
  abbrev Comes : Segmented Config End → Stop End → Type 0
  Comes m stop =
      elim stop [
        | Steps ↦ Unit {0}
        | Asleep ↦ IsSlept amx m.config.state
        | Over_by e ↦ Unit {0}
      ]

  abbrev ComesTo : Segmented Config End → Type 0
  ComesTo m = Comes m m.stop

  went : (c d : Config) → go c ≡ Goes d → IsState amx c.state → IsState amx d.state
  went c d e h =
      subst (λ (m : Segmented Config End). IsState amx m.config.state)
      (segment-goes go 0 0 c d e ∙ segment-zero go 1 d)
      (keeps_states.traces amx script 1 [] c runs keeps h)

  fell : (c d : Config) → go c ≡ Sleeps d → IsState amx c.state → IsSlept amx d.state
  fell c d e h =
      subst (Rests amx) e (moved_rests amx script c (step amx c.state)
      (keeps_states.steps amx c.state runs h) (step_sized amx c.state h))

  comes_by : (n k : ℕ) (c : Config) (m : Moved Config End) → go c ≡ m → IsState amx c.state
      → ((d : Config) → IsState amx d.state → ComesTo (segment go n (k + 1) d))
      → ComesTo (segment go (suc n) k c)
  comes_by n k c (Goes d) e h f =
      subst ComesTo (sym (segment-goes go n k c d e)) (f d (went c d e h))
  comes_by n k c (Sleeps d) e h f =
      subst ComesTo (sym (segment-sleeps go n k c d e)) (fell c d e h)
  comes_by n k c (Ends x d) e h f = subst ComesTo (sym (segment-ends go n k c d x e)) tt

  comes : (n k : ℕ) (c : Config) → IsState amx c.state → ComesTo (segment go n k c)
  comes zero k c h = subst ComesTo (sym (segment-zero go k c)) tt
  comes (suc n) k c h = comes_by n k c (go c) refl h (λ d. comes n (k + 1) d)

-- ---- where it fell asleep

module _ (amx : Amx) (script : Script) (bound : ℕ) (c : Config)
    (falls : FallsAsleep amx script bound c) where
  abbrev made : Segmented Config End
  made = segment_of amx script bound c

  slept : IsSlept amx made.config.state
  slept =
      subst (Comes amx script falls.runnable falls.script_is made) falls.asleep
      (comes amx script falls.runnable falls.script_is bound 0 c falls.state)

  is_state : IsState amx made.config.state
  is_state =
      keeps_states.traces amx script bound [] c falls.runnable falls.script_is falls.state

  starts_by : ¬ IsAtEnd amx made.config.state
      → ((slept.before.cip + 4 * slept.halts.instr.cells ≡ 4 * length amx.code)
      ⊎ (is_start amx.code (slept.before.cip + 4 * slept.halts.instr.cells) ≡ true))
      → IsTrue (is_start amx.code made.config.state.cip)
  starts_by inside (inl end) = absurd (inside (slept.halts.behind ∙ end))
  starts_by inside (inr start) = ap (is_start amx.code) slept.halts.behind ∙ start

  restores : ¬ IsAtEnd amx made.config.state → IsRestorable amx made.config.state
  restores inside = record {
    state = is_state;
    starts =
        starts_by inside (behind amx.code _ amx.entry _ falls.runnable.valid slept.before.cip
        slept.halts.instr slept.halts.here);
    clean = slept.clean;
  }

  -- the last instruction is no sleep
  stands_inside : IfSome (last_of (placed amx.code)) (λ it. ¬ IsSleep it.instr)
      → ¬ IsAtEnd amx made.config.state
  stands_inside no_sleep at_end =
      let last =
      last_is amx.code _ amx.entry _ falls.runnable.valid slept.before.cip slept.halts.instr
      slept.halts.here (sym slept.halts.behind ∙ at_end) in
      subst (λ (o : Option Placed). IfSome o (λ it. ¬ IsSleep it.instr)) last no_sleep
      (slept.halts.halts, slept.halts.operand)

pub sleeps_are_restorable_lem : SleepsAreRestorable
sleeps_are_restorable_lem = record {
  restorable = λ amx script bound c falls inside. restores amx script bound c falls inside;
  of_program = λ program amx script bound c shape falls.
      restores amx script bound c falls (stands_inside amx script bound c falls
      shape.last_is_no_sleep);
}
