-- What is given back behind a call: the values on the stack, and the cells of temporary arguments.
use Rattle.std.proofs.Common.{◌≡◌, ◌+◌, ◌*◌, ◌<◌, ◌≤◌, ◌⊎◌, inl, inr, ℕ, zero, suc, ℤ, pos, neg_ℤ}
use Rattle.std.proofs.Common.{List, [], ◌∷◌, ◌++◌, Some, true, false, length, sum, nat_le, refl}
use Rattle.std.proofs.Common.{sym, ap, subst, ◌∙◌, arith, length-append, le-leb}
use Rattle.std.proofs.lemmas.Bool.{lt-leb, cases_lt}
use Rattle.std.proofs.lemmas.List.{take_all}
use Rattle.pawn_cells.specs.Cells.{cell_of}
use Rattle.pawn_meaning.specs.Memory.{Memory, cut_heap}
use Rattle.pawn_meaning.specs.World.{World}
use Rattle.pawn_meaning.specs.Run.{Outcome, ◌>>=◌, give, change}
use Rattle.pawn_meaning.specs.Later.{Later, world_of}
use Rattle.pawn_meaning.proofs.Grows.{after_grows, give_grows, change_grows}
use Rattle.amx_ops.specs.declared.op.Op.TheVariants as op
use Rattle.amx_ops.specs.State.{State, Goes, Errs}
use Rattle.amx_ops.specs.Step.{act}
use Rattle.amx_ops.specs.Moves.{Config, moved, move}
use Rattle.gen_sim.proofs.Sim.{short_here}
use Rattle.gen_sim.specs.View.{View, kept, used, Laid}
use Rattle.gen_sim.specs.Stands.{Stands, With}
use Rattle.gen_sim.proofs.MemLaws.{count_cells, gap, in_use}
use Rattle.gen_sim.proofs.ChangeLaws.{dropped_mem}
use Rattle.gen_sim.proofs.WorldLaws.{stands_still}
use Rattle.gen_sim.specs.Site.{Site, IsSite, DoesAt}
use Rattle.gen_sim.specs.Items.{Item, Plain, item_cells, past, with}
use Rattle.gen_sim.specs.Results.{with_temporaries}
use Rattle.gen_sim.proofs.StepLaws.{move_is, given, goes}
use Rattle.gen_sim.proofs.TemporaryLaws.{with_temporaries_is, given_back}
use Rattle.gen_sim.specs.Lies.{Lies}
use Rattle.gen_sim.proofs.ItemSteps.{one_item}
use Rattle.gen_sim.specs.CallCode.{give_back_code}

-- ---- STACK

drop_goes : (x : Site) (s : State) (n q : ℕ) → s.stk + n ≤ 4 * length s.cells
    → s.hea + 64 ≤ s.stk + n
    → act x.amx op.Stack (pos n) q s
    ≡ Goes (record s { alt = cell_of s.stk; stk = s.stk + n; cip = q })
drop_goes x s n q h g =
    let a : nat_le (s.stk + n) (4 * length s.cells) ≡ true = le-leb _ _ h in
    let b : nat_le (s.hea + 64) (s.stk + n) ≡ true = le-leb _ _ g in rw (a, b) refl

drop_errs : (x : Site) (s : State) (n q : ℕ) → s.stk + n ≤ 4 * length s.cells
    → s.stk + n < s.hea + 64 → act x.amx op.Stack (pos n) q s ≡ Errs (pos 3)
drop_errs x s n q h g =
    let a : nat_le (s.stk + n) (4 * length s.cells) ≡ true = le-leb _ _ h in
    let b : nat_le (s.hea + 64) (s.stk + n) ≡ false = lt-leb _ _ g in rw (a, b) refl

-- values that wait are dropped, or error 3 with fewer than 16 cells free
pub drops : (x : Site) {A : Type 0} {o : Outcome A} {Q : A → World → Config → Type 0}
    (js : List Item) {v : View} (xs : List ℤ) {pending : List ℤ} {p : ℕ} {w : World} {c : Config}
    → Stands x.program x.room v (xs ++ pending) p w c → (n : ℕ) → n ≡ 4 * length xs
    → Lies x p (Plain (with op.Stack (pos n)) ∷ js)
    → used x.program x.room v pending ≤ kept x.program x.room + sum v.needs → Later w (world_of o)
    → ((t : Config) → Stands x.program x.room v pending (p + 8) w t → t.state.pri ≡ c.state.pri
    → DoesAt x (length (item_cells js)) w t o Q)
    → DoesAt x (length (item_cells (Plain (with op.Stack (pos n)) ∷ js))) w c o Q
drops x {A} {o} {Q} js {v} xs {pending} {p} {w} {c} s n count l deep later next =
    one_item x (with op.Stack (pos n)) js w
    (by_room (cases_lt (c.state.stk + n) (c.state.hea + 64)))
  where
    top : c.state.stk + n ≤ 4 * length c.state.cells
    top =
        omega (
          arith,
          count,
          s.mem.stk,
          s.mem.size,
          count_cells s.mem,
          length-append s.mem.free (xs ++ pending),
          length-append xs pending,
        )

    by_room : (c.state.stk + n < c.state.hea + 64) ⊎ (c.state.hea + 64 ≤ c.state.stk + n)
        → DoesAt x (1 + length (item_cells js)) w c o Q
    by_room (inl few) =
        short_here (move x.amx x.script) (length x.amx.code) x.room (length (item_cells js)) c c w o
        (move_is x c p (with op.Stack (pos n)) s.at l.lie.0
        ∙ ap (λ y. moved x.amx x.script c y) (drop_errs x c.state n (p + 8) top few)) s.said
        (omega (arith, few, count, gap s.mem, in_use s.mem, length-append xs pending, deep, s.most))
        later
    by_room (inr much) =
        let t : State =
        record c.state { alt = cell_of c.state.stk; stk = c.state.stk + n; cip = p + 8 } in
        goes x s (with op.Stack (pos n)) l.lie.0 t (drop_goes x c.state n (p + 8) top much)
        (next (record c { state = t }) (stands_still x.program x.room s
        (dropped_mem xs s.mem t refl refl (omega (arith, count))) refl refl) refl)

-- ---- HEAP

cut_same : (m : Memory) (n : ℕ) → length m.heap ≡ n → cut_heap n m ≡ m
cut_same m n e = ap (λ heap. record m { heap = heap }) (take_all n m.heap (omega (arith, e)))

module _ (x : Site) (site : IsSite x) (v : View) (pending : List ℤ) (laid : Laid x.program x.room v)
    (deep : used x.program x.room v pending ≤ kept x.program x.room + sum v.needs) where
  pub gives_back : (n : ℕ) (y : ℤ) (p : ℕ) (w : World) (c : Config)
      → With x.program x.room (with_temporaries n v) pending p y w c → Lies x p (give_back_code n)
      → DoesAt x (length (item_cells (give_back_code n))) w c
      ((change (λ m. Some (cut_heap v.temps m)) >>= (λ _. give y)) w)
      (With x.program x.room v pending (past p (give_back_code n)))
  gives_back zero y p w c a l =
      subst (λ m. DoesAt x 0 w c (give y (record w { memory = m }))
      (With x.program x.room v pending p)) (sym (cut_same w.memory v.temps a.stands.temps))
      (given x a.stands a)
  gives_back (suc n) y p w c a l =
      let s =
      subst (λ u. Stands x.program x.room u pending p w c)
      (with_temporaries_is (suc n) v) a.stands in
      one_item x (with op.Heap (neg_ℤ (pos (4 * suc n)))) [] w
      (given_back x site v (suc n) pending p w c laid s {d = length (item_cells [])} deep l.lie.0
      ((after_grows (change_grows (λ m. Some (cut_heap v.temps m))) (λ _. give_grows y)).at w)
      (λ t b e. given x b (record { stands = b; value = e ∙ a.value; fits = a.fits })))
