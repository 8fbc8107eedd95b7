-- Where a segment fell asleep, its machine can be saved; where a machine was started, it can be
-- run.
use Rattle.std.proofs.Common.{◌≡◌, ◌+◌, ◌-◌, ◌*◌, ◌/◌, ◌≤◌, ◌∙◌, ℕ, ℤ, pos, List, [], ◌∷◌, Bool}
use Rattle.std.proofs.Common.{true, false, cond, Option, None, Some, IfSome, length, set}
use Rattle.std.proofs.Common.{nat_le, refl, sym, ap, subst, length-set, arith}
use Rattle.host_script.specs.declared.script.Script.{Script}
use Rattle.host_script.specs.Ranges.{IsScript}
use Rattle.pawn_cells.specs.Cells.{cell_of}
use Rattle.amx_ops.specs.declared.amx.Amx.{Amx}
use Rattle.amx_ops.specs.Keeps.{IsRunnable}
use Rattle.amx_ops.specs.State.{State}
use Rattle.amx_ops.specs.States.{IsState}
use Rattle.amx_ops.specs.Moves.{move}
use Rattle.amx_ops.specs.Runs.{Asleep}
use Rattle.amx_ops.specs.Trace.{pushed_by, pushed_all, fresh, start_at}
use Rattle.amx_machine.specs.Machine.{Machine}
use Rattle.amx_machine.specs.declared.mode.Mode.TheVariants as mode
use Rattle.host_run.specs.Bound.{bound_of}
use Rattle.host_run.specs.Segments.{Place, begun, segment_of}
use Rattle.host_run.specs.Stands.{IsAwake, IsLeft, Stands}
use Rattle.amx_image.specs.declared.version.Version.TheVariants.{Live}
use Rattle.amx_image.specs.Image.{IsImage}
use Rattle.command_parts.specs.declared.program.Program.{Program}
use Rattle.commands.specs.declared.ready_segment.ReadySegment.{ReadySegment}
use Rattle.commands.specs.Prepared.{CanRun, IsPrepared}
use Rattle.commands.specs.ReadySegment.{IsReadySegment}
use Rattle.run_laws.proofs.SizeLaws.{segment_sized, slept}

module _ (script : Script) (old new : Place) (bound count : ℕ)
    (stands : Stands old (segment_of script old bound) count new)
    (is : (segment_of script old bound).stop ≡ Asleep) where
  pub mode_is : new.machine.mode ≡ mode.Asleep
  mode_is =
      let some = slept (move old.machine.amx script) bound 0 (begun old) is in
      let here = stands.steps in
      subst (λ stop. IsLeft stop new.machine.mode) is (stands.mode (omega (arith, some, here)))

  pub has_room : (front room : ℕ) → IsRunnable old.machine.amx → IsScript script
      → IsState old.machine.amx old.machine.state
      → front + 4 * length old.machine.state.cells ≤ room
      → front + 4 * length new.machine.state.cells ≤ room
  has_room front room runs keeps h fits =
      let size = segment_sized old.machine.amx script runs keeps bound 0 (begun old) h in
      let same : length new.machine.state.cells ≡ length old.machine.state.cells =
      ap (λ (s : State). length s.cells) stands.state ∙ size in
      omega (arith, same, fits)

  pub image_is : (digest bytes : List ℕ) → IsImage Live new.machine.state new.position digest bytes
      → (let c = (segment_of script old bound).config in IsImage Live c.state c.position
      digest bytes)
  image_is digest bytes image =
      let c = (segment_of script old bound).config in
      let P : ℕ → Type 0 = λ p. IsImage Live c.state p digest bytes in
      let Q : State → Type 0 = λ s. IsImage Live s new.position digest bytes in
      subst P stands.position (subst Q stands.state image)

-- ---- a start leaves as many cells as there were

abbrev Same : ℕ → State → Type 0
Same size s = length s.cells ≡ size

pushed_some : (size : ℕ) (v : ℤ) (s : State) (b : Bool) → Same size s
    → IfSome (cond b (Some (record s { stk = s.stk - 4; cells = set s.cells ((s.stk - 4) / 4) v }))
    None) (Same size)
pushed_some size v s true h = length-set s.cells ((s.stk - 4) / 4) v ∙ h
pushed_some size v s false h = tt

pushed_by_sized : (size : ℕ) (v : ℤ) (o : Option State) → IfSome o (Same size)
    → IfSome (pushed_by v o) (Same size)
pushed_by_sized size v None h = tt
pushed_by_sized size v (Some s) h = pushed_some size v s (nat_le (s.hea + 4) s.stk) h

pushed_all_sized : (size : ℕ) (vs : List ℤ) (s : State) → Same size s
    → IfSome (pushed_all vs s) (Same size)
pushed_all_sized size [] s h = h
pushed_all_sized size (v ∷ vs) s h =
    pushed_by_sized size v (pushed_all vs s) (pushed_all_sized size vs s h)

pub started_sized : (amx : Amx) (address : ℤ) (s t : State) → start_at amx address [] s ≡ Some t
    → length t.cells ≡ length s.cells
started_sized amx address s t e =
    subst (λ o. IfSome o (Same (length s.cells))) e
    (pushed_all_sized (length s.cells) (pos 0 ∷ cell_of 0 ∷ []) (fresh amx address s) refl)

-- a machine that was started runs the program
module _ (program : Program) (ready : ReadySegment) (prepared : IsPrepared program ready)
    (can : CanRun program.file) (script : IsScript program.script)
    (m : Machine) (same : m.amx ≡ ready.machine.amx) (running : m.mode ≡ mode.Running) where
  pub file_is : m.amx ≡ program.file
  file_is = same ∙ ap (λ (it : Machine). it.amx) prepared.machine

  pub is_ready : (address : ℤ) → start_at ready.machine.amx address [] ready.machine.state
      ≡ Some m.state → IsState program.file m.state
      → IsReadySegment (record ready { machine = m })
  is_ready address started state =
      let size = started_sized ready.machine.amx address ready.machine.state m.state started in
      let room = prepared.room in
      let loaded = ap (λ (it : Machine). length it.state.cells) prepared.machine in
      record {
        awake = subst IsAwake (sym running) tt;
        script = subst IsScript (sym prepared.script) script;
        bound =
            prepared.bound ∙ ap (λ (amx : Amx). bound_of program.script amx.natives) (sym file_is)
            ∙ ap (λ script. bound_of script m.amx.natives) (sym prepared.script);
        runnable = subst IsRunnable (sym file_is) can.runnable;
        state = subst (λ amx. IsState amx m.state) (sym file_is) state;
        room = omega (arith, size, loaded, room);
      }
