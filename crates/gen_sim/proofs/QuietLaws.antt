-- Values that are known, or stand at a direct place: a run finds them without a step, and their
-- code leaves ALT as it is. So a place may be read before them as well as behind them.
use Rattle.std.proofs.Common.{◌≡◌, ◌+◌, ◌*◌, ℕ, zero, suc, ℤ, pos, negsuc, List, [], ◌∷◌}
use Rattle.std.proofs.Common.{true, Option, None, Some, length, refl, sym, ap, subst}
use Rattle.std.proofs.Common.{◌∙◌}
use Rattle.pawn_cells.specs.declared.operator.Operator.{Operator}
use Rattle.pawn_cells.specs.declared.operator.Operator.TheVariants as between
use Rattle.pawn_cells.specs.Cells.{IsCell, add, sub, mul, neg, shl, ushr, equal, truth}
use Rattle.pawn_cells.specs.Operators.{binary}
use Rattle.pawn_cells.proofs.CellLaws.{cell_of_cell, wrap_cell, truth_cell}
use Rattle.host_script.specs.declared.event.End.TheVariants as end
use Rattle.pawn_meaning.specs.Program.{Scalar, Expr, Read}
use Rattle.pawn_meaning.specs.Scope.{Scope}
use Rattle.pawn_meaning.specs.Fold.{fold}
use Rattle.pawn_meaning.specs.Memory.{Place, read}
use Rattle.pawn_meaning.specs.World.{World}
use Rattle.pawn_meaning.specs.Run.{Outcome, Gives, Stops, More, Run, ◌>>=◌, then_do, or_stop, look}
use Rattle.pawn_meaning.specs.Meaning.{Fewer, place, value}
use Rattle.pawn_meaning.proofs.FoldLaws.{fold_means_lem}
use Rattle.amx_ops.specs.declared.op.Op.{Op}
use Rattle.amx_ops.specs.declared.op.Op.TheVariants as op
use Rattle.amx_ops.specs.Written.{cells_of}
use Rattle.amx_ops.specs.State.{State, Goes}
use Rattle.amx_ops.specs.Step.{act}
use Rattle.amx_ops.specs.Moves.{Config}
use Rattle.gen_sim.specs.View.{View}
use Rattle.gen_sim.specs.Stands.{Stands, With}
use Rattle.gen_sim.specs.Site.{Site, DoesAt, scene_at}
use Rattle.gen_sim.specs.Items.{Item, item_cells, past, with}
use Rattle.gen_sim.specs.Fits.{Fits}
use Rattle.gen_sim.specs.Lies.{Lies}
use Rattle.gen_sim.specs.SimpleCode.{taking, const_code}
use Rattle.gen_sim.specs.DirectCode.{Direct, direct_load}
use Rattle.gen_sim.specs.OperandCode.{known_code, loaded_code}
use Rattle.gen_sim.specs.ChangeCode.{leaves_alt}
use Rattle.gen_sim.specs.OperandCode.{placed_code}
use Rattle.gen_sim.proofs.StepLaws.{given, stray}
use Rattle.gen_sim.proofs.ItemSteps.{item_sets, next_lies}
use Rattle.gen_sim.proofs.AccessLaws.{Loaded}
use Rattle.gen_sim.proofs.DirectLaws.{Finds, DirectPlace, found_does, direct_loads}
use Rattle.gen_sim.proofs.DirectLaws.{direct_left}
use Rattle.gen_sim.proofs.OperandLaws.{subtracted, known_does, loaded_does}
use Rattle.gen_sim.proofs.OperandNodes.{runs_on}

-- ---- without a step

-- a run gives a value in the world as it is, or is stray
abbrev pub IsStill : World → Outcome ℤ → Type 0
IsStill w (Gives y u) = u ≡ w
IsStill w (Stops e u) = (u ≡ w) × (e ≡ end.Stray)
IsStill w (More u) = ⊥

-- so a place may be read first
pub read_first : (x : Site) {v : View} {pending : List ℤ} {A : Type 0} {n p : ℕ} {w : World}
    {c : Config} {Q : A → World → Config → Type 0} → Stands x.program x.room v pending p w c
    → (run : Run ℤ) → IsStill w (run w) → (at : Place) (go : ℤ → ℤ → Run A)
    → DoesAt x n w c ((look (read at) >>= (λ a. run >>= (λ y. go a y))) w) Q
    → DoesAt x n w c ((run >>= (λ y. look (read at) >>= (λ a. go a y))) w) Q
read_first x {v} {pending} {A} {n} {p} {w} {c} {Q} s run still at go d =
    by (run w) refl still (read at w.memory) refl
  where
    by : (o : Outcome ℤ) → run w ≡ o → IsStill w o → (m : Option ℤ) → read at w.memory ≡ m
        → DoesAt x n w c (then_do o (λ y. look (read at) >>= (λ a. go a y))) Q
    by (Gives y u) e h None g =
        subst (λ z. DoesAt x n w c (then_do (look (read at) z) (λ a. go a y)) Q) (sym h)
        (subst (λ k. DoesAt x n w c (then_do (or_stop k end.Stray w) (λ a. go a y)) Q) (sym g)
        (stray x s))
    by (Gives y u) e h (Some a) g =
        let here : DoesAt x n w c (then_do (run w) (λ z. go a z)) Q =
        subst (λ k. DoesAt x n w c (then_do (or_stop k end.Stray w)
        (λ b. run >>= (λ z. go b z))) Q) g d in
        subst (λ z. DoesAt x n w c (then_do (look (read at) z) (λ b. go b y)) Q) (sym h)
        (subst (λ k. DoesAt x n w c (then_do (or_stop k end.Stray w) (λ b. go b y)) Q) (sym g)
        (subst (λ o. DoesAt x n w c (then_do o (λ z. go a z)) Q) (e ∙ ap (λ z. Gives y z) h) here))
    by (Stops r u) e h m g =
        subst (λ z. DoesAt x n w c (Stops z u) Q) (sym h.1)
        (subst (λ z. DoesAt x n w c (Stops end.Stray z) Q) (sym h.0) (stray x s))
    by (More u) e h m g = elim h [ ]

-- ---- values that are quiet

-- some items load what an expression means, and ALT stays; a run finds it without a step
pub record QuietCode (scope : Scope) (e : Expr) (load : List Item) : Type 0 where
  pub still : (x : Site) → x.program ≡ scope.program → (fewer : Fewer) → (v : View)
      → Fits x.program x.room scope v → {pending : List ℤ} {p : ℕ} {w : World} {c : Config}
      → Stands x.program x.room v pending p w c → IsStill w (value (scene_at x) fewer e w)
  pub loads : (x : Site) → x.program ≡ scope.program → (fewer : Fewer) → (v : View)
      → Fits x.program x.room scope v → {pending : List ℤ} (p : ℕ) (w : World) (c : Config)
      → Stands x.program x.room v pending p w c → Lies x p load
      → DoesAt x (length (item_cells load)) w c (value (scene_at x) fewer e w)
      (Loaded x v pending (past p load) c.state.alt)

-- some items make of the left operand in PRI what an operator makes with an expression's value
pub record ReadyCode (scope : Scope) (o : Operator) (e : Expr) (change : List Item) : Type 0 where
  pub makes : (x : Site) → x.program ≡ scope.program → (fewer : Fewer) → (v : View)
      → Fits x.program x.room scope v → {pending : List ℤ} (a : ℤ) → IsCell a → (p : ℕ) (w : World)
      (c : Config) → Stands x.program x.room v pending p w c → c.state.pri ≡ a → Lies x p change
      → DoesAt x (length (item_cells change)) w c
      ((value (scene_at x) fewer e >>= (λ y. or_stop (binary o a y) (end.Error (pos 11)))) w)
      (With x.program x.room v pending (past p change))

-- and ALT stays
pub record KeptCode (scope : Scope) (o : Operator) (e : Expr) (change : List Item) : Type 0 where
  pub makes : (x : Site) → x.program ≡ scope.program → (fewer : Fewer) → (v : View)
      → Fits x.program x.room scope v → {pending : List ℤ} (a : ℤ) → IsCell a → (p : ℕ) (w : World)
      (c : Config) → Stands x.program x.room v pending p w c → c.state.pri ≡ a → Lies x p change
      → DoesAt x (length (item_cells change)) w c
      ((value (scene_at x) fewer e >>= (λ y. or_stop (binary o a y) (end.Error (pos 11)))) w)
      (Loaded x v pending (past p change) c.state.alt)

-- ---- known ones

-- ZERO.pri or CONST.pri leaves ALT
const_loads : (x : Site) {v : View} {pending : List ℤ} (p : ℕ) (y : ℤ) → IsCell y
    → Lies x p (const_code y) → (w : World) (c : Config)
    → Stands x.program x.room v pending p w c
    → DoesAt x (length (item_cells (const_code y))) w c (Gives y w)
    (Loaded x v pending (past p (const_code y)) c.state.alt)
const_loads x p (pos zero) fit l w c s =
    item_sets x (with op.ZeroPri (pos 0)) {js = []} s l (pos 0) c.state.alt refl
    (λ t b f g. given x b (record { stands = b; value = f; fits = fit }, g))
const_loads x p (pos (suc m)) fit l w c s =
    item_sets x (with op.ConstPri (pos (suc m))) {js = []} s l (pos (suc m)) c.state.alt refl
    (λ t b f g. given x b (record { stands = b; value = f; fits = fit }, g))
const_loads x p (negsuc m) fit l w c s =
    item_sets x (with op.ConstPri (negsuc m)) {js = []} s l (negsuc m) c.state.alt refl
    (λ t b f g. given x b (record { stands = b; value = f; fits = fit }, g))

module _ (scope : Scope) (e : Expr) (z : ℤ) (is : fold e ≡ Some z) (fz : IsCell z) where
  value_is : (x : Site) (fewer : Fewer) (w : World) → value (scene_at x) fewer e w ≡ Gives z w
  value_is x fewer w = ((fold_means_lem (scene_at x) fewer e z).0 is).1 w

  pub known_quiet : QuietCode scope e (const_code z)
  known_quiet = record {
    still = λ x same fewer v fits {pending} {p} {w} s.
        subst (λ o. IsStill w o) (sym (value_is x fewer w)) refl;
    loads = λ x same fewer v fits {pending} p w c s l.
        subst (λ o. DoesAt x (length (item_cells (const_code z))) w c o
        (Loaded x v pending (past p (const_code z)) c.state.alt)) (sym (value_is x fewer w))
        (const_loads x p z fz l w c s);
  }

  pub known_ready : (o : Operator) → ReadyCode scope o e (known_code o z)
  known_ready o = record {
    makes = λ x same fewer v fits {pending} a fa p w c s pri l.
        subst (λ m. DoesAt x (length (item_cells (known_code o z))) w c
        (then_do m (λ y. or_stop (binary o a y) (end.Error (pos 11))))
        (With x.program x.room v pending (past p (known_code o z)))) (sym (value_is x fewer w))
        (known_does x a z o fa fz p c s pri l);
  }

  module _ (x : Site) {v : View} {pending : List ℤ} {w : World} (a : ℤ) where
    by_one : (operation : Op) (k : ℤ) (f : ℤ → ℤ) (y : ℤ)
        → ((q : ℕ) (s : State) → act x.amx operation k q s
        ≡ Goes (record s { pri = f s.pri; cip = q }))
        → f a ≡ y → IsCell y → (p : ℕ) (c : Config) → Stands x.program x.room v pending p w c
        → c.state.pri ≡ a → Lies x p (taking operation k ∷ [])
        → DoesAt x (length (item_cells (taking operation k ∷ []))) w c (Gives y w)
        (Loaded x v pending (past p (taking operation k ∷ [])) c.state.alt)
    by_one operation k f y acts same fit p c s pri l =
        let q : ℕ = p + 4 * length (cells_of (with operation k)) in
        let value : f c.state.pri ≡ y = ap f pri ∙ same in
        item_sets x (with operation k) s l y c.state.alt
        (acts q c.state ∙ ap (λ m. Goes (record c.state { pri = m; cip = q })) value)
        (λ t b m n. given x b (record { stands = b; value = m; fits = fit }, n))

    kept_does : (o : Operator) → leaves_alt o ≡ true → (p : ℕ) (c : Config)
        → Stands x.program x.room v pending p w c → c.state.pri ≡ a → Lies x p (known_code o z)
        → DoesAt x (length (item_cells (known_code o z))) w c
        (or_stop (binary o a z) (end.Error (pos 11)) w)
        (Loaded x v pending (past p (known_code o z)) c.state.alt)
    unfolding binary
    kept_does between.Multiply h p c s k l =
        by_one op.SmulC z (λ y. mul y z) (mul a z) (λ q m. refl) refl (wrap_cell _) p c s k l
    kept_does between.Divide h p c s k l = cc
    kept_does between.Remainder h p c s k l = cc
    kept_does between.Add h p c s k l =
        by_one op.AddC z (λ y. add y z) (add a z) (λ q m. refl) refl (wrap_cell _) p c s k l
    kept_does between.Subtract h p c s k l =
        by_one op.AddC (neg z) (λ y. add y (neg z)) (sub a z) (λ q m. refl) (subtracted a z)
        (wrap_cell _) p c s k l
    kept_does between.ShiftLeft h p c s k l =
        by_one op.ShlCPri z (λ y. shl y z) (shl a z) (λ q m. refl) refl (cell_of_cell _) p c s k l
    kept_does between.ShiftRight h p c s k l = cc
    kept_does between.ShiftUnsigned h p c s k l =
        by_one op.ShrCPri z (λ y. ushr y z) (ushr a z) (λ q m. refl) refl (cell_of_cell _) p c s k l
    kept_does between.And h p c s k l = cc
    kept_does between.Xor h p c s k l = cc
    kept_does between.Or h p c s k l = cc
    kept_does between.Equal h p c s k l =
        by_one op.EqCPri z (λ y. truth (equal y z)) (truth (equal a z)) (λ q m. refl) refl
        (truth_cell _) p c s k l
    kept_does between.NotEqual h p c s k l = cc

  pub known_kept : (o : Operator) → leaves_alt o ≡ true → KeptCode scope o e (known_code o z)
  known_kept o h = record {
    makes = λ x same fewer v fits {pending} a fa p w c s pri l.
        subst (λ m. DoesAt x (length (item_cells (known_code o z))) w c
        (then_do m (λ y. or_stop (binary o a y) (end.Error (pos 11))))
        (Loaded x v pending (past p (known_code o z)) c.state.alt)) (sym (value_is x fewer w))
        (kept_does x a o h p c s pri l);
  }

-- ---- those of a direct place

still_look : (w : World) (at : Place) (m : Option ℤ) → read at w.memory ≡ m
    → IsStill w (or_stop m end.Stray w)
still_look w at None e = (refl, refl)
still_look w at (Some y) e = refl

still_read : (x : Site) (v : View) (d : Direct) (w : World) (o : Outcome Place) → Finds x v d w o
    → IsStill w (then_do o (λ at. look (read at)))
still_read x v d w (Gives at u) h =
    subst (λ z. IsStill w (look (read at) z)) (sym h.0)
    (still_look w at (read at w.memory) refl)
still_read x v d w (Stops e u) h = h
still_read x v d w (More u) h = elim h [ ]

module _ (scope : Scope) (s : Scalar) (d : Direct) (part : DirectPlace scope s d) where
  pub placed_quiet : QuietCode scope (Read s) (direct_load d)
  placed_quiet = record {
    still = λ x same fewer v fits {pending} {p} {w} k.
        still_read x v d w (place (scene_at x) fewer s w) (part.finds x same fewer v fits k);
    loads = λ x same fewer v fits {pending} p w c k l.
        found_does x d k (place (scene_at x) fewer s w) (part.finds x same fewer v fits k)
        (λ at. look (read at)) (λ at r. direct_loads x d at r p w c k l);
  }

  pub placed_ready : (o : Operator) → ReadyCode scope o (Read s) (placed_code o d)
  placed_ready o = record {
    makes = λ x same fewer v fits {pending} a fa p w c k pri l.
        let last = placed_code o d in
        let rest = λ (y : ℤ). or_stop (binary o a y) (end.Error (pos 11)) in
        subst (λ m. DoesAt x (length (item_cells last)) w c m
        (With x.program x.room v pending (past p last)))
        (runs_on (place (scene_at x) fewer s w) (λ at. look (read at)) rest)
        (found_does x d k (place (scene_at x) fewer s w)
        (part.finds x same fewer v fits k) (λ at. look (read at) >>= rest)
        (λ at r. direct_left x d at r p w c k l rest
        (λ b n fb j alt same_pri. loaded_does x a b o fa fb
        (p + 4 * length (cells_of (with d.loads_alt d.operand))) n j (same_pri ∙ pri) alt
        (next_lies x p (taking d.loads_alt d.operand) (loaded_code o) l))));
  }
