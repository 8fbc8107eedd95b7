-- Expressions whose value isn't used: steps by one instruction, and commas.
use Rattle.std.proofs.Common.{◌≡◌, ◌+◌, ◌*◌, ◌⊎◌, inl, inr, ℕ, ℤ, pos, negsuc, List, [], ◌∷◌}
use Rattle.std.proofs.Common.{Bool, true, Option, None, Some, length, refl, sym, ap}
use Rattle.std.proofs.Common.{subst, ◌∙◌, arith, if◌then◌else◌}
use Rattle.pawn_cells.specs.Cells.{add}
use Rattle.pawn_cells.proofs.CellLaws.{wrap_cell}
use Rattle.pawn_meaning.specs.Program.{Scalar, Expr, Step, Seq}
use Rattle.pawn_meaning.specs.Scope.{Scope}
use Rattle.pawn_meaning.specs.Memory.{Place, read, write}
use Rattle.pawn_meaning.specs.World.{World}
use Rattle.pawn_meaning.specs.Run.{◌>>=◌, give, look, change}
use Rattle.pawn_meaning.specs.Meaning.{place, value}
use Rattle.amx_ops.specs.declared.op.Op.{Op}
use Rattle.amx_ops.specs.declared.op.Op.TheVariants as op
use Rattle.amx_ops.specs.Access.{raise}
use Rattle.amx_ops.specs.Effects.{at_next}
use Rattle.amx_ops.specs.Step.{act}
use Rattle.amx_ops.specs.Written.{cells_of}
use Rattle.amx_ops.specs.Moves.{Config}
use Rattle.gen_sim.specs.View.{View}
use Rattle.gen_sim.specs.Stands.{Stands, With}
use Rattle.gen_sim.specs.Site.{Site, DoesAt, scene_at}
use Rattle.gen_sim.specs.Items.{Item, item_cells, past, with}
use Rattle.gen_sim.specs.Code.{with_turns}
use Rattle.gen_sim.specs.Contract.{EffectCode, ValueCode}
use Rattle.gen_sim.specs.Lies.{Lies}
use Rattle.gen_sim.specs.SimpleCode.{taking, comma_code}
use Rattle.gen_sim.specs.DirectCode.{Direct, direct_load, direct_store, direct_step, direct_effect}
use Rattle.gen_sim.proofs.StepLaws.{given, raise_by}
use Rattle.gen_sim.proofs.ItemSteps.{item_sets, one_item, next_lies}
use Rattle.gen_sim.proofs.NodesPartLaws.{nodes_of, gives_of, does_as, then_items}
use Rattle.gen_sim.proofs.AccessLaws.{Loaded, Stored}
use Rattle.gen_sim.proofs.DirectLaws.{Adding, ReachedAt, DirectPlace, found_does, direct_loads}
use Rattle.gen_sim.proofs.DirectLaws.{direct_stores}
use Rattle.gen_sim.proofs.StepNodes.{leaving, leaving_grows}

module _ (x : Site) {v : View} {pending : List ℤ} (d : Direct) (at : Place)
    (r : ReachedAt x v d at) (p : ℕ) (u : World) (t : Config)
    (s : Stands x.program x.room v pending p u t) (prefix : Bool) where
  -- by one instruction
  adds_one : (o : Op) (delta : ℤ) → act x.amx o d.operand
      (p + 4 * length (cells_of (with o d.operand))) t.state
      ≡ raise t.state (4 * r.cell) delta (at_next (p + 4 * length (cells_of (with o d.operand))))
      → Lies x p (taking o d.operand ∷ [])
      → DoesAt x (length (item_cells (taking o d.operand ∷ []))) u t
      ((look (read at) >>= (λ y. leaving at (add y delta)
      (if prefix then add y delta else y))) u)
      (λ y. Stands x.program x.room v pending (past p (taking o d.operand ∷ [])))
  adds_one o delta e l =
      let it = with o d.operand in
      subst (λ z. DoesAt x (length (item_cells (taking o d.operand ∷ []))) u t
      ((look (read z) >>= (λ y. leaving z (add y delta) (if prefix then add y delta else y))) u)
      (λ y. Stands x.program x.room v pending (past p (taking o d.operand ∷ [])))) (sym r.is)
      (one_item x it [] u
      (raise_by x {d = 0} s r.placed it delta l.lie.0 e
      (λ y n. give (if prefix then add y delta else y)) (λ y n i k. given x k k)))

  -- or by a load and a store
  adds_by : (delta : ℤ) → Lies x p (direct_step d delta true)
      → DoesAt x (length (item_cells (direct_step d delta true))) u t
      ((look (read at) >>= (λ y. leaving at (add y delta)
      (if prefix then add y delta else y))) u)
      (λ y. Stands x.program x.room v pending (past p (direct_step d delta true)))
  adds_by delta l =
      let q = past p (direct_load d) in
      then_items x p (direct_load d) (taking op.AddC delta ∷ direct_store d)
      (Loaded x v pending q t.state.alt) (λ n y. Stands x.program x.room v pending n) u l
      (look (read at) u) (λ y. leaving at (add y delta) (if prefix then add y delta else y))
      (λ y m. (leaving_grows at (add y delta) (if prefix then add y delta else y)).at m)
      (λ j. direct_loads x d at r p u t s j)
      (λ j y m i a. item_sets x (with op.AddC delta) a.0.stands j (add i.state.pri delta)
      i.state.alt refl
      (λ n b e f. gives_of x (length (item_cells (direct_store d))) m
      (change (write at (add y delta)) m) (λ k. if prefix then add y delta else y)
      (Stored x v pending (past (q + 8) (direct_store d)) (add y delta)) (λ k h g z. z.stands)
      (direct_stores x d at r (add y delta) (wrap_cell _) (q + 8) m n b
      (e ∙ ap (λ z. add z delta) a.0.value)
      (next_lies x q (taking op.AddC delta) (direct_store d) j))))

effect_adds : (x : Site) {v : View} {pending : List ℤ} (d : Direct) (at : Place)
    (r : ReachedAt x v d at) (p : ℕ) (u : World) (t : Config)
    (s : Stands x.program x.room v pending p u t) (prefix : Bool) (ops : Option (Op × Op))
    → Adding x v d.operand r.cell ops → (delta : ℤ) → (delta ≡ pos 1) ⊎ (delta ≡ negsuc 0)
    → Lies x p (direct_effect d ops delta)
    → DoesAt x (length (item_cells (direct_effect d ops delta))) u t
    ((look (read at) >>= (λ y. leaving at (add y delta) (if prefix then add y delta else y))) u)
    (λ y. Stands x.program x.room v pending (past p (direct_effect d ops delta)))
effect_adds x {v} {pending} d at r p u t s prefix None h delta valid l = adds_by x d at r p u t s prefix delta l
effect_adds x {v} {pending} d at r p u t s prefix (Some ops) h (pos n) (inl e) l =
    adds_one x d at r p u t s prefix ops.0 (pos n)
    (subst (λ z. act x.amx ops.0 d.operand (p + 4 * length (cells_of (with ops.0 d.operand))) t.state
    ≡ raise t.state (4 * r.cell) z (at_next (p + 4 * length (cells_of (with ops.0 d.operand)))))
    (sym e) (h pending p u t s (p + 4 * length (cells_of (with ops.0 d.operand)))).0) l
effect_adds x {v} {pending} d at r p u t s prefix (Some ops) h (pos n) (inr e) l = cc
effect_adds x {v} {pending} d at r p u t s prefix (Some ops) h (negsuc n) (inl e) l = cc
effect_adds x {v} {pending} d at r p u t s prefix (Some ops) h (negsuc n) (inr e) l =
    adds_one x d at r p u t s prefix ops.1 (negsuc n)
    (subst (λ z. act x.amx ops.1 d.operand (p + 4 * length (cells_of (with ops.1 d.operand))) t.state
    ≡ raise t.state (4 * r.cell) z (at_next (p + 4 * length (cells_of (with ops.1 d.operand)))))
    (sym e) (h pending p u t s (p + 4 * length (cells_of (with ops.1 d.operand)))).1) l

-- any code of a value
pub effect_of : (scope : Scope) (e : Expr) (begin : ℕ) (items : List Item)
    → ValueCode scope e begin items → EffectCode scope e begin items
effect_of scope e begin items part = record {
  does = λ x site same turns calls v fits lie starts pending deep w c s.
      does_as x (length (item_cells items)) w (value (scene_at x) (with_turns x turns) e w)
      (With x.program x.room v pending (past begin items)) (λ y n i k. k.stands)
      (part.does x site same turns calls v fits lie starts pending deep w c s);
}

module _ (scope : Scope) (begin : ℕ) where
  -- a step whose value isn't used
  pub effect_direct : (p : Scalar) (d : Direct) (delta : ℤ) (prefix : Bool)
      → (delta ≡ pos 1) ⊎ (delta ≡ negsuc 0) → DirectPlace scope p d
      → EffectCode scope (Step p delta prefix) begin (direct_effect d d.adds delta)
  effect_direct p d delta prefix valid part = record {
    does = λ x site same turns calls v fits lie starts pending deep w c s.
        let fewer = with_turns x turns in
        let after = λ (at : Place) (y : ℤ).
        leaving at (add y delta) (if prefix then add y delta else y) in
        found_does x d s (place (scene_at x) fewer p w) (part.finds x same fewer v fits s)
        (λ at. look (read at) >>= after at)
        (λ at r. effect_adds x d at r begin w c s prefix d.adds r.reached.adding delta valid
        (record { lie = lie; starts = starts }));
  }

  pub comma_effect : (a b : Expr) (first second : List Item) → EffectCode scope a begin first
      → EffectCode scope b (past begin first) second
      → EffectCode scope (Seq a b) begin (comma_code first second)
  comma_effect a b first second one two = record {
    does = λ x site same turns calls v fits lie starts pending deep w c s.
        then_items x begin first second
        (λ y. Stands x.program x.room v pending (past begin first))
        (λ q y. Stands x.program x.room v pending q) w (record { lie = lie; starts = starts })
        (value (scene_at x) (with_turns x turns) a w)
        (λ y. value (scene_at x) (with_turns x turns) b) (λ y u. ((nodes_of x turns).values b).at u)
        (λ l. one.does x site same turns calls v fits l.lie l.starts pending
        (omega (arith, deep)) w c s)
        (λ l y u t k. two.does x site same turns calls v fits l.lie l.starts pending
        (omega (arith, deep)) u t k);
  }
