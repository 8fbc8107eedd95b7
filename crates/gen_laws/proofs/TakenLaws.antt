-- STACK takes cells for a local, or ends in error 3 with fewer than 16 others free.
use Rattle.std.proofs.Common.{◌≡◌, ◌+◌, ◌*◌, ◌-◌, ◌<◌, ◌≤◌, ◌⊎◌, inl, inr, ℕ, ℤ, pos, negsuc, ◌+ℤ◌}
use Rattle.std.proofs.Common.{List, [], ◌++◌, Some, true, false, length, sum, take, drop, nat_le}
use Rattle.std.proofs.Common.{refl, sym, ap, subst, ◌∙◌, arith, append-nil, length-append}
use Rattle.std.proofs.Common.{length-drop, le-leb}
use Rattle.std.proofs.lemmas.Bool.{lt-leb, cases_lt}
use Rattle.std.proofs.lemmas.Int.{ints}
use Rattle.std.proofs.lemmas.List.{length-take-le}
use Rattle.std.specs.Prelude.{neg_ℤ}
use Rattle.pawn_cells.specs.Cells.{cell_of}
use Rattle.pawn_meaning.specs.Memory.{Memory}
use Rattle.pawn_meaning.specs.World.{World}
use Rattle.pawn_meaning.specs.Run.{Outcome}
use Rattle.pawn_meaning.specs.Later.{Later, world_of}
use Rattle.amx_ops.specs.declared.op.Op.TheVariants as op
use Rattle.amx_ops.specs.Instructions.{fetched}
use Rattle.amx_ops.specs.Written.{read_as}
use Rattle.amx_ops.specs.State.{State, Goes, Errs}
use Rattle.amx_ops.specs.Step.{act}
use Rattle.amx_ops.specs.Moves.{Config, moved, move}
use Rattle.gen_sim.proofs.Sim.{short_here}
use Rattle.gen_sim.specs.Pieces.{Piece, AreThere, image, total}
use Rattle.gen_sim.specs.Mem.{row, Mem}
use Rattle.gen_sim.specs.View.{View, kept, used}
use Rattle.gen_sim.specs.Stands.{Stands}
use Rattle.gen_sim.proofs.Lists.{take_drop}
use Rattle.gen_sim.proofs.MemLaws.{count_cells}
use Rattle.gen_sim.proofs.WorldLaws.{stands_still}
use Rattle.gen_sim.specs.Site.{Site, DoesAt}
use Rattle.gen_sim.specs.Items.{with}
use Rattle.gen_sim.proofs.StepLaws.{move_is, goes}

less_small : (a b : ℕ) → b ≤ a → pos a +ℤ neg_ℤ (pos b) ≡ pos (a - b)
less_small a b h = omega (arith, ints, h)

less_big : (a b : ℕ) → a < b → pos a +ℤ neg_ℤ (pos b) ≡ negsuc (b - a - 1)
less_big a b h = omega (arith, ints, h)

take_goes : (x : Site) (s : State) (n q : ℕ) → s.stk ≤ 4 * length s.cells → s.hea + 64 + n ≤ s.stk
    → act x.amx op.Stack (neg_ℤ (pos n)) q s
    ≡ Goes (record s { alt = cell_of s.stk; stk = s.stk - n; cip = q })
take_goes x s n q h g =
    let a : nat_le (s.stk - n) (4 * length s.cells) ≡ true = le-leb _ _ (omega (arith, h)) in
    let b : nat_le (s.hea + 64) (s.stk - n) ≡ true = le-leb _ _ (omega (arith, g)) in
    rw (less_small s.stk n (omega (arith, g)), a, b) refl

take_errs : (x : Site) (s : State) (n q : ℕ) → s.stk ≤ 4 * length s.cells → s.stk < s.hea + 64 + n
    → act x.amx op.Stack (neg_ℤ (pos n)) q s ≡ Errs (pos 3)
take_errs x s n q h g = by (cases_lt s.stk n)
  where
    by : (s.stk < n) ⊎ (n ≤ s.stk) → act x.amx op.Stack (neg_ℤ (pos n)) q s ≡ Errs (pos 3)
    by (inl k) = rw (less_big s.stk n k) refl
    by (inr k) =
        let a : nat_le (s.stk - n) (4 * length s.cells) ≡ true = le-leb _ _ (omega (arith, h)) in
        let b : nat_le (s.hea + 64) (s.stk - n) ≡ false = lt-leb _ _ (omega (arith, g, k)) in
        rw (less_small s.stk n k, a, b) refl

-- cells that were free wait
taken_mem : {N : ℕ} {low high : List Piece} {m : Memory} {s : State} (mem : Mem N low [] high m s)
    (n : ℕ) → n ≤ length mem.free
    → (t : State) → t.cells ≡ s.cells → t.hea ≡ s.hea → t.stk + 4 * n ≡ s.stk
    → Mem N low (drop (length mem.free - n) mem.free) high m t
taken_mem {N} {low} {high} {m} mem n h t c f g =
    let k : ℕ = length mem.free - n in
    let e : mem.free ++ [] ≡ take k mem.free ++ drop k mem.free =
    append-nil mem.free ∙ sym (take_drop k mem.free) in
    record {
      free = take k mem.free;
      cells = c ∙ mem.cells ∙ ap (λ (l : List ℤ). image m (row low l high)) e;
      hea = f ∙ mem.hea;
      stk = omega (arith, g, h, mem.stk, length-take-le k mem.free (omega arith));
      there = subst (λ (l : List ℤ). AreThere m (row low l high)) e mem.there;
      size = subst (λ (l : List ℤ). total low + (length l + total high) ≡ N) e mem.size;
      fits = rw c mem.fits;
    }

pub takes : (x : Site) {A : Type 0} {d : ℕ} {o : Outcome A} {Q : A → World → Config → Type 0}
    {v : View} {p : ℕ} {w : World} {c : Config}
    (s : Stands x.program x.room v [] p w c) (n : ℕ)
    → fetched x.amx.code p ≡ Some (read_as (with op.Stack (neg_ℤ (pos (4 * n)))))
    → used x.program x.room v [] + n ≤ kept x.program x.room + sum v.needs → Later w (world_of o)
    → ((rest : List ℤ) (t : Config) → length rest ≡ n → Stands x.program x.room v rest (p + 8) w t
    → DoesAt x d w t o Q)
    → DoesAt x (1 + d) w c o Q
takes x {A} {d} {o} {Q} {v} {p} {w} {c} s n f deep later next =
    by_room (cases_lt (length s.mem.free) (n + 16))
  where
    top : c.state.stk ≤ 4 * length c.state.cells
    top = omega (arith, s.mem.stk, s.mem.size, count_cells s.mem, length-append s.mem.free [])

    by_room : (length s.mem.free < n + 16) ⊎ (n + 16 ≤ length s.mem.free) → DoesAt x (1 + d) w c o Q
    by_room (inl few) =
        short_here (move x.amx x.script) (length x.amx.code) x.room d c c w o
        (move_is x c p (with op.Stack (neg_ℤ (pos (4 * n)))) s.at f
        ∙ ap (λ y. moved x.amx x.script c y)
        (take_errs x c.state (4 * n) (p + 8) top (omega (arith, few, s.mem.hea, s.mem.stk))))
        s.said
        (omega (arith, few, s.mem.size, length-append s.mem.free [], deep, s.most)) later
    by_room (inr much) =
        let t : State =
        record c.state { alt = cell_of c.state.stk; stk = c.state.stk - 4 * n; cip = p + 8 }
        in
        goes x s (with op.Stack (neg_ℤ (pos (4 * n)))) f t
        (take_goes x c.state (4 * n) (p + 8) top (omega (arith, much, s.mem.hea, s.mem.stk)))
        (next (drop (length s.mem.free - n) s.mem.free) (record c { state = t })
        (omega (arith, length-drop (length s.mem.free - n) s.mem.free, much))
        (stands_still x.program x.room s
        (taken_mem s.mem n (omega (arith, much)) t refl refl (omega (arith, much, s.mem.stk)))
        refl refl))
