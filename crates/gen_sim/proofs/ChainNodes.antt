-- Chains: of one link, and of several.
use Rattle.std.proofs.Common.{◌≡◌, ◌+◌, ◌^◌, ◌<◌, inl, inr, ℕ, ℤ, pos, List, []}
use Rattle.std.proofs.Common.{◌∷◌, ◌++◌, Bool, Option, length, refl, sym, ap, subst, ◌∙◌, arith}
use Rattle.std.specs.Prelude.{IfSome}
use Rattle.pawn_cells.specs.declared.operator.Comparison.{Comparison}
use Rattle.pawn_cells.specs.Cells.{IsCell, truth}
use Rattle.pawn_cells.specs.Cells as cells
use Rattle.pawn_cells.specs.Operators.{is_true}
use Rattle.pawn_meaning.specs.Program.{Expr, Chain, Links, no_links, then_link}
use Rattle.pawn_meaning.specs.Scope.{Scope}
use Rattle.pawn_meaning.specs.ValidExprs.{IsOperator}
use Rattle.pawn_meaning.specs.World.{World}
use Rattle.pawn_meaning.specs.Run.{Run, ◌>>=◌, give}
use Rattle.pawn_meaning.specs.Meaning.{value, linked, chain, chained}
use Rattle.pawn_meaning.proofs.Grows.{after_grows, give_grows}
use Rattle.amx_ops.specs.declared.op.Op.TheVariants as op
use Rattle.amx_ops.specs.Moves.{Config, move}
use Rattle.pawn_cells.proofs.CellLaws.{truth_cell}
use Rattle.gen_sim.proofs.Sim.{wider}
use Rattle.gen_sim.specs.View.{View}
use Rattle.gen_sim.specs.Stands.{With}
use Rattle.gen_sim.specs.Site.{Site, DoesAt, scene_at}
use Rattle.gen_sim.specs.Items.{Item, item_cells, past, with}
use Rattle.gen_sim.specs.Code.{with_turns}
use Rattle.gen_sim.specs.Contract.{ValueCode}
use Rattle.gen_sim.proofs.StepLaws.{given}
use Rattle.gen_sim.specs.Lies.{Lies}
use Rattle.gen_sim.specs.SimpleCode.{alone, both_code}
use Rattle.gen_sim.specs.JumpCode.{jump_to}
use Rattle.gen_sim.proofs.ItemSteps.{next_lies, rest_lies, item_sets, item_pops_alt}
use Rattle.gen_sim.proofs.NodesPartLaws.{value_leaves, nodes_of, then_nothing, then_items, both_does}
use Rattle.gen_sim.proofs.JumpSteps.{jump_does}
use Rattle.gen_sim.proofs.JumpNodes.{twice}
use Rattle.gen_sim.proofs.OperatorNodes.{regrouped, same_behind}
use Rattle.gen_sim.specs.ChainCode.{link_code, fail_at, chain_end_code}
use Rattle.gen_sim.specs.LinksCode.{links_run, LinksAt, LinksCode}
use Rattle.gen_sim.proofs.LinkLaws.{linked_grows, chained_grows, linked_does}

-- ---- behind several links

abbrev third : ℕ → List Item
third q = jump_to op.Jump (fail_at q + 4) ∷ alone op.PopAlt ∷ []

abbrev second : ℕ → List Item
second q = alone op.Not ∷ third q

module _ (x : Site) (q : ℕ) (l : Lies x q (chain_end_code q)) where
  l1 : Lies x (q + 4) (second q)
  l1 = next_lies x q (alone op.Not) (second q) l

  l2 : Lies x (q + 4 + 4) (third q)
  l2 = next_lies x (q + 4) (alone op.Not) (third q) l1

  l3 : Lies x (fail_at q) (alone op.PopAlt ∷ [])
  l3 = next_lies x (q + 4 + 4) (jump_to op.Jump (fail_at q + 4)) (alone op.PopAlt ∷ []) l2

  pub fail_low : fail_at q < 2 ^ 31
  fail_low = l2.lie.2

  pub ends : {v : View} {pending : List ℤ} (u : ℤ) (w : World) (c : Config)
      → LinksAt x v pending (fail_at q) q u w c
      → DoesAt x (length (item_cells (chain_end_code q))) w c (give (truth (is_true u)) w)
      (With x.program x.room v pending (past q (chain_end_code q)))
  ends {v} {pending} u w c (inl a) =
      item_sets x (with op.Not (pos 0)) a.stands l (cells.not c.state.pri) c.state.alt refl
      (λ t b e f. item_sets x (with op.Not (pos 0)) b l1 (cells.not t.state.pri) t.state.alt refl
      (λ s h m g. jump_does x h (fail_at q + 4) 0 l3.lie.2 (omega arith) l2
      (λ i k same. given x k (record {
        stands = k;
        value = same ∙ m ∙ ap cells.not (e ∙ ap cells.not a.value) ∙ twice u;
        fits = truth_cell _;
      }))))
  ends {v} {pending} u w c (inr a) =
      let value_is : truth (is_true u) ≡ pos 0 = ap (λ z. truth (is_true z)) a.zero_is in
      wider (move x.amx x.script) (length x.amx.code) x.room (omega arith)
      (item_pops_alt x a.stands l3
      (λ t b alt pri. given x b (record
      { stands = b; value = pri ∙ a.pri ∙ sym value_is; fits = truth_cell _ })))

-- ---- nodes

module _ (scope : Scope) (begin : ℕ) (first : List Item) (e : Expr)
    (one : ValueCode scope e begin first) where
  pub short_chain_does : (o : Comparison) (e2 : Expr) (f : Option ℕ) (swapped : Bool)
      (operand : List Item) → IfSome f (IsOperator scope 2)
      → ValueCode scope e2 (past begin first + 4) operand
      → ValueCode scope (Chain e (then_link o e2 f swapped no_links)) begin
      (both_code first operand (link_code o f swapped))
  short_chain_does o e2 f swapped operand takes two = record {
    does = λ x site same turns calls v fits lie starts pending deep w c s.
        let fewer = with_turns x turns in
        both_does x begin first operand (link_code o f swapped) (value (scene_at x) fewer e2)
        (λ y z. linked (scene_at x) fewer o f swapped y z >>= (λ u. give u))
        (λ y u t. With x.program x.room v pending (past begin first) y u t) (λ y z. z ≡ y)
        (λ y z u t. With x.program x.room v (y ∷ pending)
        (past (past begin first + 4) operand) z u t) (λ y z. z ≡ y)
        (λ q. With x.program x.room v pending q) w (record { lie = lie; starts = starts })
        (value (scene_at x) fewer e w) (omega (arith, deep))
        ((nodes_of x turns).values e2)
        (λ y z. after_grows (linked_grows x turns o f swapped y z) (λ u. give_grows u))
        (λ k. one.does x site same turns calls v fits k.lie k.starts pending
        (omega (arith, deep)) w c s)
        (λ y u t a. value_leaves x a)
        (λ k y u t a. two.does x site same turns calls v fits k.lie k.starts (y ∷ pending)
        (omega (arith, deep)) u t a)
        (λ y z u t a. value_leaves x a)
        (λ k y z a b a_is fa b_is fb u t j alt pri.
        let q = past (past begin first + 4) operand + 4 in
        subst (λ r. DoesAt x (length (item_cells (link_code o f swapped))) u t r
        (With x.program x.room v pending (past q (link_code o f swapped))))
        (sym (then_nothing (linked (scene_at x) fewer o f swapped y z u)))
        (linked_does scope x same turns calls v pending (omega (arith, deep)) o f swapped takes y z
        (subst (λ n. IsCell n) a_is fa) (subst (λ n. IsCell n) b_is fb) q u t j
        (alt ∙ a_is) (pri ∙ b_is) k));
  }

  -- of two links and more
  pub chain_does : (o : Comparison) (e2 : Expr) (f : Option ℕ) (swapped : Bool) (o3 : Comparison)
      (e3 : Expr) (f3 : Option ℕ) (swapped3 : Bool) (links : Links)
      (items : List Item) → LinksCode scope
      (then_link o e2 f swapped (then_link o3 e3 f3 swapped3 links)) (past begin first)
      (fail_at (past (past begin first) items)) items
      → ValueCode scope (Chain e (then_link o e2 f swapped (then_link o3 e3 f3 swapped3 links)))
      begin (first ++ (items ++ chain_end_code (past (past begin first) items)))
  chain_does o e2 f swapped o3 e3 f3 swapped3 links items two = record {
    does = λ x site same turns calls v fits lie starts pending deep w c s.
        let fewer = with_turns x turns in
        let next = then_link o3 e3 f3 swapped3 links in
        let all = then_link o e2 f swapped next in
        let q = past (past begin first) items in
        let last : ℤ → Run ℤ = λ u. give (truth (is_true u)) in
        let grows = λ (y : ℤ). after_grows ((nodes_of x turns).values e2)
        (λ z. after_grows (linked_grows x turns o f swapped y z)
        (λ i. after_grows (chained_grows x turns next z i)
        (λ u. give_grows (truth (is_true u))))) in
        then_items x begin first (items ++ chain_end_code q)
        (With x.program x.room v pending (past begin first))
        (λ r. With x.program x.room v pending r) w
        (record { lie = lie; starts = starts }) (value (scene_at x) fewer e w)
        (chain (scene_at x) fewer all) (λ y u. (grows y).at u)
        (λ l. one.does x site same turns calls v fits l.lie l.starts pending
        (omega (arith, deep)) w c s)
        (λ l y u t a.
        let run : ℤ → ℤ → Run ℤ =
        λ i z. linked (scene_at x) fewer o f swapped i z
        >>= (λ r. chained (scene_at x) fewer next z r) in
        let same_run = regrouped (value (scene_at x) fewer e2 u) (run y) last
        ∙ same_behind (value (scene_at x) fewer e2 u) (λ z. run y z >>= last)
        (λ z. linked (scene_at x) fewer o f swapped y z
        >>= (λ r. chained (scene_at x) fewer next z r >>= last))
        (λ z m. regrouped (linked (scene_at x) fewer o f swapped y z m)
        (λ r. chained (scene_at x) fewer next z r) last) in
        let end_lies = rest_lies x (past begin first) items (chain_end_code q) l in
        subst (λ r. DoesAt x (length (item_cells (items ++ chain_end_code q))) u t r
        (With x.program x.room v pending (past (past begin first) (items ++ chain_end_code q))))
        same_run
        (then_items x (past begin first) items (chain_end_code q)
        (LinksAt x v pending (fail_at q) q) (λ r. With x.program x.room v pending r) u l
        (links_run (scene_at x) fewer all y u) last (λ r m. (give_grows (truth (is_true r))).at m)
        (λ j. two.does x site same turns calls v fits j (fail_low x q end_lies) pending
        (omega (arith, deep)) y u t a)
        (λ j r m i k. ends x q j r m i k)));
  }
