-- Locals are left: STACK above them.
use Rattle.std.proofs.Common.{◌≡◌, ◌+◌, ◌*◌, ◌<◌, ◌≤◌, ◌⊎◌, inl, inr, ℕ, pos, List, [], ◌++◌, Some}
use Rattle.std.proofs.Common.{true, false, length, sum, nat_le, refl, ap, ◌∙◌, arith, length-append}
use Rattle.std.proofs.Common.{le-leb}
use Rattle.std.proofs.lemmas.Bool.{lt-leb, cases_lt}
use Rattle.pawn_cells.specs.Cells.{cell_of}
use Rattle.pawn_meaning.specs.World.{World}
use Rattle.pawn_meaning.specs.Run.{Outcome}
use Rattle.pawn_meaning.specs.Later.{Later, world_of}
use Rattle.amx_ops.specs.declared.op.Op.TheVariants as op
use Rattle.amx_ops.specs.Instructions.{fetched}
use Rattle.amx_ops.specs.Written.{read_as}
use Rattle.amx_ops.specs.State.{State, Goes, Errs}
use Rattle.amx_ops.specs.Step.{act}
use Rattle.amx_ops.specs.Moves.{Config, moved, move}
use Rattle.gen_sim.proofs.Sim.{short_here}
use Rattle.gen_sim.specs.Pieces.{Piece, total}
use Rattle.gen_sim.specs.View.{View, kept, used, Laid}
use Rattle.gen_sim.specs.Stands.{Stands}
use Rattle.gen_sim.proofs.PieceLaws.{total-append}
use Rattle.gen_sim.proofs.MemLaws.{count_cells, gap, in_use}
use Rattle.gen_sim.proofs.ChangeLaws.{left_mem}
use Rattle.gen_sim.proofs.WorldLaws.{stands_anew}
use Rattle.gen_sim.specs.Site.{Site, DoesAt}
use Rattle.gen_sim.specs.Items.{with}
use Rattle.gen_sim.proofs.StepLaws.{move_is, goes}

leave_goes : (x : Site) (s : State) (n q : ℕ) → s.stk + n ≤ 4 * length s.cells
    → s.hea + 64 ≤ s.stk + n
    → act x.amx op.Stack (pos n) q s
    ≡ Goes (record s { alt = cell_of s.stk; stk = s.stk + n; cip = q })
leave_goes x s n q h g =
    let a : nat_le (s.stk + n) (4 * length s.cells) ≡ true = le-leb _ _ h in
    let b : nat_le (s.hea + 64) (s.stk + n) ≡ true = le-leb _ _ g in rw (a, b) refl

leave_errs : (x : Site) (s : State) (n q : ℕ) → s.stk + n ≤ 4 * length s.cells
    → s.stk + n < s.hea + 64 → act x.amx op.Stack (pos n) q s ≡ Errs (pos 3)
leave_errs x s n q h g =
    let a : nat_le (s.stk + n) (4 * length s.cells) ≡ true = le-leb _ _ h in
    let b : nat_le (s.hea + 64) (s.stk + n) ≡ false = lt-leb _ _ g in rw (a, b) refl

-- the view without the locals that were made last, or error 3 with fewer than 16 cells free
pub leaves : (x : Site) {A : Type 0} {d : ℕ} {o : Outcome A} {Q : A → World → Config → Type 0}
    (v : View) (gone : List Piece) {p : ℕ} {w : World} {c : Config}
    → Laid x.program x.room v → Stands x.program x.room
    (record v { high = gone ++ v.high }) [] p w c
    → fetched x.amx.code p ≡ Some (read_as (with op.Stack (pos (4 * total gone))))
    → used x.program x.room v [] ≤ kept x.program x.room + sum v.needs → Later w (world_of o)
    → ((t : Config) → Stands x.program x.room v [] (p + 8) w t → t.state.pri ≡ c.state.pri
    → DoesAt x d w t o Q)
    → DoesAt x (1 + d) w c o Q
leaves x {A} {d} {o} {Q} v gone {p} {w} {c} laid s f deep later next =
    by_room (cases_lt (c.state.stk + 4 * total gone) (c.state.hea + 64))
  where
    top : c.state.stk + 4 * total gone ≤ 4 * length c.state.cells
    top =
        omega (
          arith,
          s.mem.stk,
          s.mem.size,
          count_cells s.mem,
          length-append s.mem.free [],
          total-append gone v.high,
        )

    by_room : (c.state.stk + 4 * total gone < c.state.hea + 64)
        ⊎ (c.state.hea + 64 ≤ c.state.stk + 4 * total gone) → DoesAt x (1 + d) w c o Q
    by_room (inl few) =
        short_here (move x.amx x.script) (length x.amx.code) x.room d c c w o
        (move_is x c p (with op.Stack (pos (4 * total gone))) s.at f
        ∙ ap (λ y. moved x.amx x.script c y)
        (leave_errs x c.state (4 * total gone) (p + 8) top few)) s.said
        (omega (arith, few, gap s.mem, in_use s.mem, total-append gone v.high, deep, s.most)) later
    by_room (inr much) =
        let t : State =
        record c.state {
          alt = cell_of c.state.stk;
          stk = c.state.stk + 4 * total gone;
          cip = p + 8;
        } in
        goes x s (with op.Stack (pos (4 * total gone))) f t
        (leave_goes x c.state (4 * total gone) (p + 8) top much)
        (next (record c { state = t }) (stands_anew x.program x.room s v.high v.temps
        (left_mem gone v.high s.mem t refl refl refl) refl refl laid refl (λ k slot. refl) s.temps)
        refl)
