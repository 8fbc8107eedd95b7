-- Cells that wait become a local of the frame that runs.
use Rattle.std.proofs.Common.{◌≡◌, ◌<◌, ◌≤◌, inr, ℕ, ℤ, List, [], ◌∷◌, ◌++◌, Option, None}
use Rattle.std.proofs.Common.{Some, Bool, true, false, length, slice_get, nat_lt}
use Rattle.std.proofs.Common.{if◌then◌else◌, refl, sym, ap, subst, ◌∙◌, arith}
use Rattle.std.proofs.lemmas.Bool.{ltb-true}
use Rattle.std.specs.Prelude.{Any}
use Rattle.pawn_meaning.specs.Program.{Slot}
use Rattle.pawn_meaning.specs.Scope.{Scope, IsMade}
use Rattle.pawn_meaning.specs.Memory.{Memory, Object, Frame, Owns, Local, one_cell, frame_at}
use Rattle.pawn_meaning.specs.Memory.{slot_in, pointed, running, with_slot, with_object, made_in}
use Rattle.pawn_meaning.specs.Memory.{made, needs_of}
use Rattle.pawn_meaning.specs.World.{World}
use Rattle.pawn_meaning.specs.Run.{changed, change}
use Rattle.amx_ops.specs.Moves.{Config}
use Rattle.gen_sim.specs.Pieces.{Piece, Fixed, Thing, Automaton, Each, IsSized, vectors}
use Rattle.gen_sim.specs.Places.{Apart}
use Rattle.gen_sim.specs.Mem.{Mem}
use Rattle.gen_sim.specs.View.{View, IsOf, innermost, all_cells, low}
use Rattle.gen_sim.specs.Next.{with_local}
use Rattle.gen_sim.specs.Stands.{Stands, refers_at}
use Rattle.gen_sim.proofs.PieceLaws.{each_both, each_gives}
use Rattle.gen_sim.proofs.FrameLaws.{pointed_made}
use Rattle.gen_sim.proofs.ObjectLaws.{object_needs, object_heap}
use Rattle.gen_sim.proofs.ChangeLaws.{made_mem}
use Rattle.gen_sim.proofs.DataLaws.{of_low}
use Rattle.gen_sim.proofs.ViewLaws.{local_apart, local_laid}
use Rattle.gen_sim.specs.Site.{Site, DoesAt}
use Rattle.gen_sim.specs.Fits.{own_sizes, locals_of, Fits}
use Rattle.gen_sim.proofs.ParameterLaws.{count_needs}
use Rattle.gen_sim.proofs.StepLaws.{given, stray}
use Rattle.gen_sim.proofs.LocalScopes.{any_here, any_there}

-- a slot that wasn't made stands nowhere among those that were
others_apart : (frame s : ℕ) (sizes : List ℕ) (slots : List Slot) (made_ones : List ℕ)
    → ¬ (Any (λ m. m ≡ s) made_ones)
    → Each (Apart (Thing (Local frame s) sizes)) (locals_of frame slots made_ones)
others_apart frame s sizes slots [] h = tt
others_apart frame s sizes slots (m ∷ made_ones) h =
    each_both (Apart (Thing (Local frame s) sizes)) (locals_of frame slots made_ones)
    (Thing (Local frame m) (own_sizes (slice_get slots m)) ∷ [])
    (others_apart frame s sizes slots made_ones (λ a. h (any_there (λ n. n ≡ s) m made_ones a)))
    (inr (λ e. h (any_here (λ n. n ≡ s) m made_ones (sym e))), tt)

any_sizes : (frame s : ℕ) (sizes : List ℕ) (q : Piece) → Apart (Thing (Local frame s) []) q
    → Apart (Thing (Local frame s) sizes) q
any_sizes frame s sizes (Fixed cells) h = tt
any_sizes frame s sizes (Thing name inner) h = h
any_sizes frame s sizes (Automaton a) h = tt

module _ (x : Site) (scope : Scope) (v : View) (fits : Fits x.program x.room scope v) (slot : ℕ)
    (above : scope.params ≤ slot) (new : ¬ (IsMade scope slot)) where
  -- it is nowhere in the view
  nowhere : (sizes : List ℕ) → Each (Apart (Thing (Local (innermost v) slot) sizes)) v.high
  nowhere sizes =
      subst (λ ps. Each (Apart (Thing (Local (innermost v) slot) sizes)) ps) (sym fits.locals)
      (each_both (Apart (Thing (Local (innermost v) slot) sizes))
      (locals_of (innermost v) scope.slots scope.made) fits.rest
      (others_apart (innermost v) slot sizes scope.slots scope.made new)
      (each_gives (Apart (Thing (Local (innermost v) slot) []))
      (Apart (Thing (Local (innermost v) slot) sizes)) fits.rest
      (λ q h. any_sizes (innermost v) slot sizes q h) (fits.nowhere_else slot above).0))

  module _ {pending : List ℤ} {p : ℕ} {w : World} {c : Config}
      (s : Stands x.program x.room v pending p w c) (sizes : List ℕ) (object : Object)
      (sized : IsSized sizes object) (cells_are : pending ≡ vectors sizes ++ object.cells) where
    stands_by : (n : Memory) (f : Frame) → frame_at w.memory.frames (innermost v) ≡ Some f
        → slot < length f.slots
        → n ≡ with_slot (Some f) (innermost v) slot (Owns object) w.memory
        → Stands x.program x.room (with_local v slot sizes) [] p (record w { memory = n }) c
    stands_by n f e below same =
        let k : ℕ = innermost v in
        let m = w.memory in
        let object_is : with_object (Local k slot) object m ≡ n =
        ap (λ o. with_slot o k slot (Owns object) m) e ∙ sym same in
        let none : pointed (slice_get f.slots slot) ≡ None =
        ap (λ o. pointed (slot_in o slot)) (sym e) ∙ s.params k slot
        ∙ (fits.nowhere_else slot above).1 in
        let low_apart =
        each_gives (IsOf 0 v.temps) (Apart (Thing (Local k slot) sizes))
        (low x.program x.room v)
        (λ q h. local_apart 0 v.temps k slot sizes q (omega arith) h)
        (of_low x.program 0 v.temps) in
        let mem =
        made_mem s.mem k slot sizes f object e below low_apart
        (nowhere sizes) sized cells_are in
        record {
          mem =
              subst (λ z. Mem (all_cells x.program x.room) (low x.program x.room v) []
              (Thing (Local k slot) sizes ∷ v.high) z c.state) object_is mem;
          frame = s.frame;
          at = s.at;
          said = s.said;
          position = s.position;
          needs =
              subst (λ z. needs_of z.frames ≡ v.needs) object_is
              (object_needs m (Local k slot) object ∙ s.needs);
          most = s.most;
          laid = local_laid x.program x.room v slot sizes fits.deep s.laid;
          params =
              λ j t. subst (λ z. refers_at j t z ≡ v.params j t) (sym same)
              (pointed_made m k slot j t f object e below none ∙ s.params j t);
          temps =
              subst (λ z. length z.heap ≡ v.temps) object_is
              (object_heap m (Local k slot) object ∙ s.temps);
        }

    by_below : (n : Memory) (f : Frame) → frame_at w.memory.frames (innermost v) ≡ Some f
        → (b : Bool) → nat_lt slot (length f.slots) ≡ b
        → (if b then Some (with_slot (Some f) (innermost v) slot (Owns object) w.memory) else None)
        ≡ Some n
        → Stands x.program x.room (with_local v slot sizes) [] p (record w { memory = n }) c
    by_below n f e true b h = stands_by n f e (ltb-true _ _ b) (sym (inside _ n h))
      where
        inside : (a z : Memory) → Some a ≡ Some z → a ≡ z
        inside a z k = cc
    by_below n f e false b h = cc

    by_frame : (n : Memory) (o : Option Frame) → frame_at w.memory.frames (innermost v) ≡ o
        → made_in o (innermost v) slot object w.memory ≡ Some n
        → Stands x.program x.room (with_local v slot sizes) [] p (record w { memory = n }) c
    by_frame n None e h = cc
    by_frame n (Some f) e h = by_below n f e (nat_lt slot (length f.slots)) refl h

    pub made_stands : (n : Memory) → made slot object w.memory ≡ Some n
        → Stands x.program x.room (with_local v slot sizes) [] p (record w { memory = n }) c
    made_stands n h =
        let k : running w.memory ≡ innermost v =
        omega (arith, count_needs w.memory.frames, ap length s.needs) in
        by_frame n (frame_at w.memory.frames (innermost v)) refl
        (subst (λ j. made_in (frame_at w.memory.frames j) j slot object w.memory ≡ Some n) k h)

  -- a cell that waits becomes a local of one cell
  pub local_does : (y : ℤ) (p : ℕ) (w : World) (c : Config)
      → Stands x.program x.room v (y ∷ []) p w c
      → DoesAt x 0 w c (change (made slot (one_cell y)) w)
      (λ d u t. Stands x.program x.room (with_local v slot (1 ∷ [])) [] p u t)
  local_does y p w c s = by_made (made slot (one_cell y) w.memory) refl
    where
      by_made : (o : Option Memory) → made slot (one_cell y) w.memory ≡ o
          → DoesAt x 0 w c (changed o w)
          (λ d u t. Stands x.program x.room (with_local v slot (1 ∷ [])) [] p u t)
      by_made None e = stray x s
      by_made (Some n) e =
          let k =
          made_stands s (1 ∷ []) (one_cell y)
          (record { sizes_are = refl; count = refl }) refl n e in given x k k
