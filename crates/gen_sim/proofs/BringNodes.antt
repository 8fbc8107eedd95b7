-- Right operands, by how they are brought, and comparisons of them.
use Rattle.std.proofs.Common.{◌≡◌, ◌+◌, ◌*◌, ◌≤◌, inl, ℕ, ℤ, pos, List, [], ◌∷◌, ◌++◌, Bool}
use Rattle.std.proofs.Common.{None, length, sum, refl, sym, ap, subst, ◌∙◌, arith}
use Rattle.pawn_cells.specs.declared.operator.Comparison.{Comparison}
use Rattle.pawn_cells.specs.declared.operator.Comparison.TheVariants as comparison
use Rattle.pawn_cells.specs.Cells.{IsCell, truth}
use Rattle.pawn_cells.specs.Operators.{compare}
use Rattle.pawn_cells.proofs.CellLaws.{truth_cell}
use Rattle.pawn_meaning.specs.Program.{Scalar, Expr, Read, Chain, no_links, then_link}
use Rattle.pawn_meaning.specs.Scope.{Scope}
use Rattle.pawn_meaning.specs.Memory.{read}
use Rattle.pawn_meaning.specs.Need.{load}
use Rattle.pawn_meaning.specs.World.{World}
use Rattle.pawn_meaning.specs.Run.{◌>>=◌, give, look}
use Rattle.pawn_meaning.specs.Meaning.{place, value}
use Rattle.pawn_meaning.proofs.Grows.{after_grows, give_grows}
use Rattle.pawn_meaning.proofs.FoldLaws.{fold_means_lem}
use Rattle.amx_ops.specs.declared.amx.Amx.{Amx}
use Rattle.amx_ops.specs.declared.op.Op.TheVariants as op
use Rattle.amx_ops.specs.Written.{cells_of}
use Rattle.amx_ops.specs.State.{State, Goes, push}
use Rattle.amx_ops.specs.Effects.{at_next}
use Rattle.amx_ops.specs.Step.{act}
use Rattle.amx_ops.specs.Moves.{Config}
use Rattle.gen_sim.specs.View.{View, kept, used}
use Rattle.gen_sim.specs.Stands.{Stands, With}
use Rattle.gen_sim.specs.Site.{Site, IsSite, DoesAt, scene_at}
use Rattle.gen_sim.specs.Items.{Item, item_cells, past, with}
use Rattle.gen_sim.specs.Fits.{Fits}
use Rattle.gen_sim.specs.Code.{with_turns, CallsWithin}
use Rattle.gen_sim.specs.Contract.{ValueCode}
use Rattle.gen_sim.specs.Lies.{Lies}
use Rattle.gen_sim.specs.SimpleCode.{alone}
use Rattle.gen_sim.specs.DirectCode.{Direct}
use Rattle.gen_sim.specs.OperandCode.{Right, Known, Placed, Waiting, bring_code}
use Rattle.gen_sim.specs.ChainCode.{loaded_compare, compare_by, last_link_by}
use Rattle.gen_sim.specs.LinksCode.{LinksCode}
use Rattle.gen_sim.proofs.StepLaws.{given}
use Rattle.gen_sim.proofs.ItemSteps.{next_lies, item_sets, item_pushes, item_pops_alt}
use Rattle.gen_sim.proofs.NodesPartLaws.{nodes_of, then_nothing, then_items, does_as}
use Rattle.gen_sim.proofs.DirectLaws.{DirectPlace, found_does, direct_left}
use Rattle.gen_sim.proofs.OperandNodes.{Comes}
use Rattle.gen_sim.proofs.LinkLaws.{compare_act}

-- where the operands are, by how the right one was brought
abbrev pub Sides : Right → (left right : ℤ) → State → Type 0
Sides (Known v) y z s = (s.pri ≡ y) × (s.alt ≡ z)
Sides (Placed d) y z s = (s.pri ≡ y) × (s.alt ≡ z)
Sides Waiting y z s = (s.alt ≡ y) × (s.pri ≡ z)

-- the machine stands for the world, with both operands
pub record Brought (x : Site) (v : View) (pending : List ℤ) (q : ℕ) (how : Right) (y z : ℤ)
    (w : World) (c : Config) : Type 0 where
  pub stands : Stands x.program x.room v pending q w c
  pub fits : IsCell z
  pub sides : Sides how y z c.state

module _ (scope : Scope) (begin : ℕ) (e : Expr) (right : List Item)
    (part : ValueCode scope e (begin + 4) right) (x : Site) (site : IsSite x)
    (same : x.program ≡ scope.program) (turns : ℕ) (calls : CallsWithin x turns) (v : View)
    (fits : Fits x.program x.room scope v) (pending : List ℤ)
    (deep : used x.program x.room v pending + (1 + load e) ≤ kept x.program x.room + sum v.needs)
    (y : ℤ) (w : World) (c : Config) (a : With x.program x.room v pending begin y w c) where
  bring_placed : (p : Scalar) (d : Direct) → DirectPlace scope p d
      → Lies x begin (bring_code (Placed d) right)
      → DoesAt x (length (item_cells (bring_code (Placed d) right))) w c
      (value (scene_at x) (with_turns x turns) (Read p) w)
      (Brought x v pending (past begin (bring_code (Placed d) right)) (Placed d) y)
  bring_placed p d direct l =
      let fewer = with_turns x turns in
      let Q = Brought x v pending (past begin (bring_code (Placed d) right)) (Placed d) y in
      let n = length (item_cells (bring_code (Placed d) right)) in
      found_does x d a.stands (place (scene_at x) fewer p w)
      (direct.finds x same fewer v fits a.stands) (λ at. look (read at))
      (λ at r. subst (λ o. DoesAt x n w c o Q) (then_nothing (look (read at) w))
      (direct_left x d at r begin w c a.stands l (λ z. give z)
      (λ z t fz j alt pri. given x j (record
      { stands = j; fits = fz; sides = (pri ∙ a.value, alt) }))))

  pub bring_does : (how : Right) → Comes scope e how → Lies x begin (bring_code how right)
      → DoesAt x (length (item_cells (bring_code how right))) w c
      (value (scene_at x) (with_turns x turns) e w)
      (Brought x v pending (past begin (bring_code how right)) how y)
  bring_does (Known z) h l =
      let code = bring_code (Known z) right in
      subst (λ o. DoesAt x (length (item_cells code)) w c o
      (Brought x v pending (past begin code) (Known z) y))
      (sym (((fold_means_lem (scene_at x) (with_turns x turns) e z).0 h.0).1 w))
      (item_sets x (with op.ConstAlt z) a.stands l c.state.pri z refl
      (λ t b pri alt. given x b (record
      { stands = b; fits = h.1; sides = (pri ∙ a.value, alt) })))
  bring_does (Placed d) h l =
      let code = bring_code (Placed d) right in
      subst (λ r. DoesAt x (length (item_cells code)) w c
      (value (scene_at x) (with_turns x turns) r w)
      (Brought x v pending (past begin code) (Placed d) y)) (sym h.is)
      (bring_placed h.place d h.direct l)
  bring_does Waiting h l =
      let fewer = with_turns x turns in
      let code = bring_code Waiting right in
      let last = alone op.PopAlt ∷ [] in
      let q = past (begin + 4) right in
      item_pushes x (with op.PushPri (pos 0)) a.stands l y
      (ap (λ z. push c.state z (at_next (begin + 4))) a.value) a.fits (omega (arith, deep))
      (((nodes_of x turns).values e).at w)
      (λ t b pri alt. subst (λ o. DoesAt x (length (item_cells (right ++ last))) w t o
      (Brought x v pending (past (begin + 4) (right ++ last)) Waiting y))
      (then_nothing (value (scene_at x) fewer e w))
      (then_items x (begin + 4) right last (With x.program x.room v (y ∷ pending) q)
      (λ p. Brought x v pending p Waiting y) w
      (next_lies x begin (alone op.PushPri) (right ++ last) l) (value (scene_at x) fewer e w)
      (λ z. give z) (λ z u. (give_grows z).at u)
      (λ j. part.does x site same turns calls v fits j.lie j.starts (y ∷ pending)
      (omega (arith, deep)) w t b)
      (λ j z u n k. item_pops_alt x k.stands j
      (λ i g alt2 pri2. given x g (record
      { stands = g; fits = k.fits; sides = (alt2, pri2 ∙ k.value) })))))

-- ---- a comparison

loaded_act : (amx : Amx) (o : Comparison) (q : ℕ) (s : State)
    → act amx (loaded_compare o) (pos 0) q s
    ≡ Goes (record s { pri = truth (compare o s.pri s.alt); cip = q })
loaded_act amx comparison.Less q s = refl
loaded_act amx comparison.LessEqual q s = refl
loaded_act amx comparison.Greater q s = refl
loaded_act amx comparison.GreaterEqual q s = refl

compared : (o : Comparison) (l r y z : ℤ) (q : ℕ) (s : State) → l ≡ y → r ≡ z
    → Goes (record s { pri = truth (compare o l r); cip = q })
    ≡ Goes (record s { pri = truth (compare o y z); cip = q })
compared o l r y z q s e f =
    ap (λ i. Goes (record s { pri = truth (compare o i r); cip = q })) e
    ∙ ap (λ i. Goes (record s { pri = truth (compare o y i); cip = q })) f

brought_act : (amx : Amx) (o : Comparison) (how : Right) (y z : ℤ) (q : ℕ) (s : State)
    → Sides how y z s
    → act amx (compare_by how o) (pos 0) q s
    ≡ Goes (record s { pri = truth (compare o y z); cip = q })
brought_act amx o (Known v) y z q s h =
    loaded_act amx o q s ∙ compared o s.pri s.alt y z q s h.0 h.1
brought_act amx o (Placed d) y z q s h =
    loaded_act amx o q s ∙ compared o s.pri s.alt y z q s h.0 h.1
brought_act amx o Waiting y z q s h =
    compare_act amx o q s ∙ compared o s.alt s.pri y z q s h.0 h.1

module _ (scope : Scope) (begin : ℕ) (o : Comparison) (e : Expr) (swapped : Bool) (how : Right)
    (comes : Comes scope e how) (right : List Item)
    (part : ValueCode scope e (begin + 4) right) where
  abbrev code : List Item
  code = last_link_by o None swapped how right

  abbrev last : List Item
  last = alone (compare_by how o) ∷ []

  -- behind the left operand
  brought_does : (x : Site) (site : IsSite x) (same : x.program ≡ scope.program) (turns : ℕ)
      (calls : CallsWithin x turns) (v : View)
      (fits : Fits x.program x.room scope v) (pending : List ℤ)
      → used x.program x.room v pending + (1 + load e) ≤ kept x.program x.room + sum v.needs
      → (y : ℤ) (w : World) (c : Config) → With x.program x.room v pending begin y w c
      → Lies x begin code
      → DoesAt x (length (item_cells code)) w c
      ((value (scene_at x) (with_turns x turns) e >>= (λ z. give (truth (compare o y z)))) w)
      (With x.program x.room v pending (past begin code))
  brought_does x site same turns calls v fits pending deep y w c a l =
      let q = past begin (bring_code how right) in
      then_items x begin (bring_code how right) last (Brought x v pending q how y)
      (With x.program x.room v pending) w l (value (scene_at x) (with_turns x turns) e w)
      (λ z. give (truth (compare o y z))) (λ z u. (give_grows (truth (compare o y z))).at u)
      (bring_does scope begin e right part x site same turns calls v fits pending deep y w c a how
      comes)
      (λ j z u t b. let it = with (compare_by how o) (pos 0) in
      item_sets x it b.stands j (truth (compare o y z)) t.state.alt
      (brought_act x.amx o how y z (q + 4 * length (cells_of it)) t.state b.sides)
      (λ n s pri alt. given x s (record { stands = s; value = pri; fits = truth_cell _ })))

  -- a last link
  pub brought_link_does : (fail : ℕ)
      → LinksCode scope (then_link o e None swapped no_links) begin fail code
  brought_link_does fail = record {
    does = λ x site same turns calls v fits l low pending deep y w c a.
        does_as x (length (item_cells code)) w
        ((value (scene_at x) (with_turns x turns) e >>= (λ z. give (truth (compare o y z)))) w)
        (With x.program x.room v pending (past begin code)) (λ z u t k. inl k)
        (brought_does x site same turns calls v fits pending (omega (arith, deep)) y w c a l);
  }

-- a chain of one link
module _ (scope : Scope) (begin : ℕ) (first : List Item) (e : Expr)
    (one : ValueCode scope e begin first) where
  pub brought_chain_does : (o : Comparison) (e2 : Expr) (swapped : Bool) (how : Right)
      → Comes scope e2 how → (right : List Item)
      → ValueCode scope e2 (past begin first + 4) right
      → ValueCode scope (Chain e (then_link o e2 None swapped no_links)) begin
      (first ++ last_link_by o None swapped how right)
  brought_chain_does o e2 swapped how comes right two = record {
    does = λ x site same turns calls v fits lie starts pending deep w c s.
        let fewer = with_turns x turns in
        let p = past begin first in
        then_items x begin first (last_link_by o None swapped how right)
        (With x.program x.room v pending p) (λ q. With x.program x.room v pending q) w
        (record { lie = lie; starts = starts }) (value (scene_at x) fewer e w)
        (λ y. value (scene_at x) fewer e2 >>= (λ z. give (truth (compare o y z))))
        (λ y u. (after_grows ((nodes_of x turns).values e2)
        (λ z. give_grows (truth (compare o y z)))).at u)
        (λ l. one.does x site same turns calls v fits l.lie l.starts pending
        (omega (arith, deep)) w c s)
        (λ l y u t a. brought_does scope p o e2 swapped how comes right two x site same turns calls
        v fits pending (omega (arith, deep)) y u t a l);
  }
