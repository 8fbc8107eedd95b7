-- Copies: the code does what the meaning does, of any number of cells.
use Rattle.std.proofs.Common.{◌≡◌, ◌+◌, ◌*◌, ◌≤◌, inl, inr, ℕ, zero, suc, ℤ, pos, List, [], ◌∷◌}
use Rattle.std.proofs.Common.{Option, None, Some, true, length, nat_le, refl, sym, ap, subst, ◌∙◌}
use Rattle.std.proofs.Common.{arith, le-leb}
use Rattle.std.specs.Prelude.{All}
use Rattle.pawn_arrays.specs.Sizes.{elements_in}
use Rattle.pawn_cells.specs.Cells.{IsCell}
use Rattle.pawn_meaning.specs.Program.{Array, Copy}
use Rattle.pawn_meaning.specs.Scope.{Scope, Extent, extent, known_extent, HasCells}
use Rattle.pawn_meaning.specs.Memory.{Memory, Object, Reference, put, read_cells, write_cells}
use Rattle.pawn_meaning.specs.Memory.{copy_of, copied, needs_of}
use Rattle.pawn_meaning.specs.World.{World}
use Rattle.pawn_meaning.specs.Run.{Run, Done, done, ◌>>=◌, then_do, give, changed, change}
use Rattle.pawn_meaning.specs.References.{other_sizes}
use Rattle.pawn_meaning.specs.Meaning.{array}
use Rattle.pawn_meaning.proofs.Grows.{after_grows, give_grows, change_grows}
use Rattle.amx_ops.specs.declared.op.Op.TheVariants as op
use Rattle.amx_ops.specs.Instructions.{fetched}
use Rattle.amx_ops.specs.Written.{read_as}
use Rattle.amx_ops.specs.State.{State}
use Rattle.amx_ops.specs.Moves.{Config}
use Rattle.pawn_cells.proofs.CellLaws.{small_cell}
use Rattle.gen_sim.specs.Pieces.{vectors}
use Rattle.gen_sim.specs.View.{View}
use Rattle.gen_sim.specs.Stands.{Stands, With, refers_at}
use Rattle.gen_sim.proofs.ObjectLaws.{object_needs, object_heap, refers_same}
use Rattle.gen_sim.proofs.MemLaws.{placed_inside, count_cells}
use Rattle.gen_sim.proofs.WorldLaws.{written, object_write}
use Rattle.gen_sim.specs.Site.{Site, DoesAt, scene_at}
use Rattle.gen_sim.specs.Items.{Item, past, with}
use Rattle.gen_sim.specs.Results.{ArrayAt}
use Rattle.gen_sim.specs.Code.{with_turns}
use Rattle.gen_sim.specs.Contract.{ValueCode, ArrayCode}
use Rattle.gen_sim.proofs.StepLaws.{given, goes, stray}
use Rattle.gen_sim.proofs.MoveLaws.{moved_cells}
use Rattle.gen_sim.proofs.CopyLaws.{RowAt, row_at, Cells, cells_read}
use Rattle.gen_sim.proofs.CopyLaws as copies
use Rattle.gen_sim.specs.SimpleCode.{alone, taking}
use Rattle.gen_sim.proofs.ItemSteps.{next_lies, one_item, item_sets}
use Rattle.gen_sim.proofs.NodesPartLaws.{nodes_of, both_does}
use Rattle.gen_sim.specs.IndexCode.{copy_code}
use Rattle.gen_sim.proofs.IndexNodes.{ReferenceAddress, array_leaves}

module _ (x : Site) {v : View} {pending : List ℤ} {p : ℕ} {w : World} {c : Config}
    (a : Stands x.program x.room v pending p w c)
    (to from : Reference) (ct cf : ℕ) (there : RowAt x.program x.room v to ct)
    (here : RowAt x.program x.room v from cf) where
  -- a row begins within the machine's cells
  begins_inside : (r : Reference) (cell : ℕ) (at : RowAt x.program x.room v r cell)
      → cell + 0 ≤ length c.state.cells
  begins_inside r cell at = elim (placed_inside at.placed) [
    | inl low_one ↦ omega (arith, at.cell_is, at.inside, low_one, a.mem.size, count_cells a.mem)
    | inr high_one ↦ omega (arith, at.cell_is, at.inside, high_one.1, count_cells a.mem)
  ]

  -- no cell: the memory is the same, also to the world
  none_does : {A : Type 0} {d : ℕ} {Q : A → World → Config → Type 0} → c.state.alt ≡ pos (4 * ct)
      → c.state.pri ≡ pos (4 * cf)
      → fetched x.amx.code p ≡ Some (read_as (with op.Movs (pos (4 * 0)))) → (go : Done → Run A)
      → ((m : Memory) (t : Config) → Stands x.program x.room v pending (p + 8)
      (record w { memory = m }) t → DoesAt x d w t (go done (record w { memory = m })) Q)
      → DoesAt x (1 + d) w c (then_do (changed (copied to from 0 w.memory) w) go) Q
  none_does {A} {d} {Q} e g f go next =
      let b1 : nat_le 0 (elements_in to.sizes) ≡ true = le-leb _ _ (omega arith) in
      let b2 : nat_le 0 (elements_in from.sizes) ≡ true = le-leb _ _ (omega arith) in
      rw (b1, b2) (by_values (read_cells from.object from.at 0 w.memory) refl)
    where
      by_memory : (values : List ℤ) → values ≡ [] → (o : Option Memory)
          → write_cells to.object to.at values w.memory ≡ o
          → DoesAt x (1 + d) w c (then_do (changed o w) go) Q
      by_memory values none None o = stray x a
      by_memory values none (Some m) o =
          let r = written to.object to.at values w.memory m o in
          let y : Object = record r.object { cells = put values to.at r.object.cells } in
          let t : State = record c.state { cells = put [] ct c.state.cells; cip = p + 8 } in
          let is =
          moved_cells c.state.cells a.mem.fits cf ct 0 (begins_inside from cf here)
          (begins_inside to ct there) in
          let fit : All IsCell values =
          subst (λ l. All IsCell l) (sym none) (λ k z h. absurd (omega (arith, h))) in
          let cells_are : t.cells ≡ put values
          (there.first + (length (vectors there.sizes) + to.at)) c.state.cells =
          ap (λ l. put l ct c.state.cells) (sym none)
          ∙ ap (λ k. put values k c.state.cells) there.cell_is in
          goes x a (with op.Movs (pos (4 * 0))) f t (rw (e, g, is) refl)
          (next m (record c { state = t }) (record {
            mem = object_write a.mem there.placed m to.at values o t cells_are refl refl fit;
            frame = a.frame;
            at = refl;
            said = a.said;
            position = a.position;
            needs =
                subst (λ z. needs_of z.frames ≡ v.needs) (sym r.new)
                (object_needs w.memory to.object y ∙ a.needs);
            most = a.most;
            laid = a.laid;
            params = λ b slot. subst (λ z. refers_at b slot z ≡ v.params b slot) (sym r.new)
                (refers_same w.memory to.object y r.object b slot r.is ∙ a.params b slot);
            temps =
                subst (λ z. length z.heap ≡ v.temps) (sym r.new)
                (object_heap w.memory to.object y ∙ a.temps);
          }))

      by_values : (o : Option (List ℤ)) → read_cells from.object from.at 0 w.memory ≡ o
          → DoesAt x (1 + d) w c (then_do (changed (copy_of o to.object to.at w.memory) w) go) Q
      by_values None o = stray x a
      by_values (Some values) o =
          by_memory values (cells_read w.memory from 0 values o).values_are
          (write_cells to.object to.at values w.memory) refl

  -- any number of cells
  copies_do : (n : ℕ) {A : Type 0} {d : ℕ} {Q : A → World → Config → Type 0}
      → n ≤ elements_in to.sizes → n ≤ elements_in from.sizes
      → c.state.alt ≡ pos (4 * ct) → c.state.pri ≡ pos (4 * cf)
      → fetched x.amx.code p ≡ Some (read_as (with op.Movs (pos (4 * n)))) → (go : Done → Run A)
      → ((m : Memory) (t : Config) → Stands x.program x.room v pending (p + 8)
      (record w { memory = m }) t → DoesAt x d w t (go done (record w { memory = m })) Q)
      → DoesAt x (1 + d) w c (then_do (changed (copied to from n w.memory) w) go) Q
  copies_do zero lt lf e g f go next = none_does e g f go next
  copies_do (suc n) lt lf e g f go next =
      copies.copy_does x a to from ct cf (suc n) there here (omega arith) lt lf e g f go next

-- an array of one dimension, which has so many cells
pub record Line (n : ℕ) (found : Option Extent) : Type 0 where
  pub size : ℕ
  pub is : found ≡ known_extent (size ∷ [])
  pub enough : n ≤ size

pub line : (n : ℕ) (found : Option Extent) → HasCells n found → Line n found
line n found h = record { size = h.0; is = h.1; enough = h.2 }

module _ (scope : Scope) (begin : ℕ) where
  pub copy_does : (to from : Array) (n : ℕ) (first second : List Item)
      → HasCells n (extent scope to) → HasCells n (extent scope from)
      → ArrayCode scope to begin first → ArrayCode scope from (past begin first + 4) second
      → ValueCode scope (Copy to from n) begin (copy_code n first second)
  copy_does to from n first second ht hf one two = record {
    does = λ x site same turns calls v fits lie starts pending deep w c s.
        let fewer = with_turns x turns in
        let lt = line n (extent scope to) ht in
        let lf = line n (extent scope from) hf in
        let reach : ℕ → Extent = λ size. record { first = Some size; inner = [] } in
        both_does x begin first second (taking op.Movs (pos (4 * n)) ∷ alone op.ZeroPri ∷ [])
        (array (scene_at x) fewer from)
        (λ r q. change (copied r q n) >>= (λ _. give (pos 0)))
        (λ r u t. ArrayAt x.program x.room v (reach lt.size) pending (past begin first) r u t)
        (ReferenceAddress x v (reach lt.size))
        (λ y r u t. ArrayAt x.program x.room v (reach lf.size) (y ∷ pending)
        (past (past begin first + 4) second) r u t) (ReferenceAddress x v (reach lf.size))
        (λ q. With x.program x.room v pending q) w (record { lie = lie; starts = starts })
        (array (scene_at x) fewer to w) (omega (arith, deep))
        ((nodes_of x turns).arrays from)
        (λ r q. after_grows (change_grows (copied r q n)) (λ _. give_grows (pos 0)))
        (λ l. one.does (reach lt.size) lt.is x site same turns calls v fits l.lie l.starts pending
        (omega (arith, deep)) w c s)
        (λ r u t h. array_leaves x h)
        (λ l y u t h. two.does (reach lf.size) lf.is x site same turns calls v fits l.lie l.starts
        (y ∷ pending) (omega (arith, deep)) u t h)
        (λ y r u t h. array_leaves x h)
        (λ l r q y z r_is fy q_is fz u t k alt pri.
        let rows =
        row_at x.program x.room v r r_is.cell r_is.refers (ap other_sizes r_is.reaches) in
        let others =
        row_at x.program x.room v q q_is.cell q_is.refers (ap other_sizes q_is.reaches) in
        let count_to : elements_in r.sizes ≡ elements_in (lt.size ∷ []) =
        ap elements_in r_is.reaches in
        let count_from : elements_in q.sizes ≡ elements_in (lf.size ∷ []) =
        ap elements_in q_is.reaches in
        one_item x (with op.Movs (pos (4 * n))) (alone op.ZeroPri ∷ []) u
        (copies_do x k r q r_is.cell q_is.cell rows others n (omega (arith, count_to, lt.enough))
        (omega (arith, count_from, lf.enough))
        (alt ∙ r_is.address) (pri ∙ q_is.address) l.lie.0 (λ _. give (pos 0))
        (λ m i b. item_sets x (with op.ZeroPri (pos 0)) b
        (next_lies x (past (past begin first + 4) second + 4) (taking op.Movs (pos (4 * n)))
        (alone op.ZeroPri ∷ []) l) (pos 0) i.state.alt refl
        (λ i2 b2 e f. given x b2 (record
        { stands = b2; value = e; fits = small_cell 0 (omega arith) })))));
  }
