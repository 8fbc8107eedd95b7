-- Jumps within a node's code.
use Rattle.std.proofs.Common.{◌≡◌, ◌+◌, ◌*◌, ◌^◌, ◌<◌, ◌≤◌, ℕ, ℤ, pos, List, [], ◌∷◌, true, false}
use Rattle.std.proofs.Common.{length, refl, arith}
use Rattle.std.proofs.lemmas.Int.{ints}
use Rattle.pawn_cells.specs.Cells.{bits_of, is_zero}
use Rattle.pawn_meaning.specs.World.{World}
use Rattle.pawn_meaning.specs.Run.{Outcome}
use Rattle.amx_ops.specs.declared.op.Op.TheVariants as op
use Rattle.amx_ops.specs.State.{State}
use Rattle.amx_ops.specs.Moves.{Config, move}
use Rattle.gen_sim.proofs.Sim.{wider}
use Rattle.gen_sim.specs.View.{View}
use Rattle.gen_sim.specs.Stands.{Stands}
use Rattle.gen_sim.proofs.WorldLaws.{stands_on}
use Rattle.gen_sim.specs.Site.{Site, DoesAt}
use Rattle.gen_sim.specs.Items.{Item, Plain, size, item_cells, past, LieIn, with}
use Rattle.gen_sim.proofs.StepLaws.{goes}
use Rattle.gen_sim.specs.Lies.{Lies}
use Rattle.gen_sim.proofs.ItemSteps.{one_item}

bits_are : (n : ℕ) → n < 2 ^ 31 → bits_of (pos n) ≡ n
bits_are n h = omega (arith, ints, h)

-- where items end is an address that a cell holds
pub past_small : (x : Site) (p : ℕ) (items : List Item) → LieIn x p items → p < 2 ^ 31
    → past p items < 2 ^ 31
past_small x p [] l h = h
past_small x p (it ∷ items) l h = past_small x (p + 4 * size it) items l.3 l.2

module _ (x : Site) {A : Type 0} {o : Outcome A} {Q : A → World → Config → Type 0} {js : List Item}
    {v : View} {pending : List ℤ} {p : ℕ} {w : World} {c : Config}
    (a : Stands x.program x.room v pending p w c) (at d : ℕ) (small : at < 2 ^ 31) where
  -- JUMP: whatever is done at the target in d cells
  pub jump_does : d ≤ length (item_cells js) → Lies x p (Plain (with op.Jump (pos at)) ∷ js)
      → ((t : Config) → Stands x.program x.room v pending at w t → t.state.pri ≡ c.state.pri
      → DoesAt x d w t o Q)
      → DoesAt x (length (item_cells (Plain (with op.Jump (pos at)) ∷ js))) w c o Q
  jump_does h l next =
      let t : State = record c.state { cip = at } in
      wider (move x.amx x.script) (length x.amx.code) x.room (omega (arith, h))
      (goes x {d = d} a (with op.Jump (pos at)) l.lie.0 t (rw (bits_are at small) refl)
      (next (record c { state = t })
      (stands_on x.program x.room a at t refl refl refl refl refl) refl))

  -- JZER, where PRI is 0
  pub zero_jumps : is_zero c.state.pri ≡ true → d ≤ length (item_cells js)
      → Lies x p (Plain (with op.Jzer (pos at)) ∷ js)
      → ((t : Config) → Stands x.program x.room v pending at w t → t.state.pri ≡ c.state.pri
      → DoesAt x d w t o Q)
      → DoesAt x (length (item_cells (Plain (with op.Jzer (pos at)) ∷ js))) w c o Q
  zero_jumps z h l next =
      let t : State = record c.state { cip = at } in
      wider (move x.amx x.script) (length x.amx.code) x.room (omega (arith, h))
      (goes x {d = d} a (with op.Jzer (pos at)) l.lie.0 t (rw (z, bits_are at small) refl)
      (next (record c { state = t })
      (stands_on x.program x.room a at t refl refl refl refl refl) refl))

module _ (x : Site) {A : Type 0} {o : Outcome A} {Q : A → World → Config → Type 0} {js : List Item}
    {v : View} {pending : List ℤ} {p : ℕ} {w : World} {c : Config}
    (a : Stands x.program x.room v pending p w c) (at : ℕ) where
  -- and where it isn't
  pub zero_passes : is_zero c.state.pri ≡ false → Lies x p (Plain (with op.Jzer (pos at)) ∷ js)
      → ((t : Config) → Stands x.program x.room v pending (p + 8) w t → t.state.pri ≡ c.state.pri
      → DoesAt x (length (item_cells js)) w t o Q)
      → DoesAt x (length (item_cells (Plain (with op.Jzer (pos at)) ∷ js))) w c o Q
  zero_passes z l next =
      let t : State = record c.state { cip = p + 8 } in
      one_item x (with op.Jzer (pos at)) js w
      (goes x a (with op.Jzer (pos at)) l.lie.0 t (rw z refl)
      (next (record c { state = t })
      (stands_on x.program x.room a (p + 8) t refl refl refl refl refl) refl))
