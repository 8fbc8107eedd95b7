-- RETN goes back to the caller.
use Rattle.std.proofs.Common.{◌≡◌, ◌*◌, ℕ, ℤ, pos, List, [], ◌∷◌, Some, length, refl, sym, subst}
use Rattle.std.proofs.Common.{◌∙◌, ap}
use Rattle.pawn_meaning.specs.Memory.{Frame, needs_of}
use Rattle.pawn_meaning.specs.World.{World}
use Rattle.pawn_meaning.specs.Run.{Gives}
use Rattle.pawn_meaning.specs.Natives.{Held}
use Rattle.amx_ops.specs.declared.op.Op.TheVariants as op
use Rattle.amx_ops.specs.Instructions.{fetched}
use Rattle.amx_ops.specs.Written.{read_as}
use Rattle.amx_ops.specs.Moves.{Config, move}
use Rattle.gen_sim.proofs.Sim.{stays, gives, step_then}
use Rattle.gen_sim.specs.View.{View, Laid}
use Rattle.gen_sim.specs.Next.{HoldArguments, in_call}
use Rattle.gen_sim.specs.Stands.{With}
use Rattle.gen_sim.specs.Site.{Site, Starts, DoesAt}
use Rattle.gen_sim.specs.Items.{with}
use Rattle.gen_sim.specs.Back.{without_frame, Back}
use Rattle.gen_sim.proofs.CallLaws.{retn_does}

module _ (x : Site) (v : View) (need back : ℕ) (held : List Held) (cells waits : List ℤ)
    (hold : HoldArguments x.program x.room v held cells)
    (laid : Laid x.program x.room v) (starts : Starts x back) where
  abbrev pub callee : View
  callee =
      in_call x.program x.room v need (pos v.frm ∷ pos back ∷ pos (4 * length cells) ∷ []) held
      cells waits

  -- with a value in PRI that a run's own value stands for
  module _ {A : Type 0} (a : A) (f : A → ℤ) (y : ℤ) (same : y ≡ f a) (q : ℕ) (w : World)
      (c : Config)
      (k : With x.program x.room callee [] q y w c)
      (g : fetched x.amx.code q ≡ Some (read_as (with op.Retn (pos 0)))) where
    by_frames : (frames : List Frame) → w.memory.frames ≡ frames
        → DoesAt x 1 w c (Gives a w) (λ z. Back x.program x.room v waits back (f z))
    by_frames [] e = absurd (none (sym (ap needs_of e) ∙ k.stands.needs))
      where
        none : needs_of [] ≡ need ∷ v.needs → ⊥
        none h = cc
    by_frames (frame ∷ frames) e =
        let r =
        retn_does x v need back held cells waits hold laid starts y q w c frame frames
        k e g in
        step_then (move x.amx x.script) (length x.amx.code) x.room w c r.0 r.1 r.2.stands.said
        (gives (move x.amx x.script) (length x.amx.code) x.room
        (stays (move x.amx x.script) (length x.amx.code) x.room r.0 w r.2.stands.said
        (record {
          frame = frame;
          frames = frames;
          frames_are = e;
          back =
              subst (λ z. With x.program x.room v waits back z (without_frame frames w) r.0) same
              r.2;
        })))

    pub returns : DoesAt x 1 w c (Gives a w) (λ z. Back x.program x.room v waits back (f z))
    returns = by_frames w.memory.frames refl
