-- Links: a last one, and one with others behind it.
use Rattle.std.proofs.Common.{◌≡◌, ◌+◌, ◌*◌, ◌^◌, ◌<◌, ◌≤◌, inl, inr, ℕ, zero, suc, ℤ, pos, negsuc}
use Rattle.std.proofs.Common.{List, ◌∷◌, ◌++◌, Bool, true, false, Option, None, Some, length, sum}
use Rattle.std.proofs.Common.{refl, ap, ◌∙◌, arith}
use Rattle.std.specs.Prelude.{IfSome}
use Rattle.pawn_cells.specs.declared.operator.Comparison.{Comparison}
use Rattle.pawn_cells.specs.declared.operator.Comparison.TheVariants as comparison
use Rattle.pawn_cells.specs.Cells.{IsCell, is_zero, truth}
use Rattle.pawn_cells.specs.Operators.{compare}
use Rattle.pawn_meaning.specs.Program.{Expr, Links, no_links, then_link}
use Rattle.pawn_meaning.specs.Scope.{Scope}
use Rattle.pawn_meaning.specs.ValidExprs.{IsOperator}
use Rattle.pawn_meaning.specs.World.{World}
use Rattle.pawn_meaning.specs.Run.{Run, ◌>>=◌, give, choose}
use Rattle.pawn_meaning.specs.Later.{Grows}
use Rattle.pawn_meaning.specs.Meaning.{value, linked, chained}
use Rattle.pawn_meaning.proofs.Grows.{after_grows, give_grows}
use Rattle.amx_ops.specs.declared.amx.Amx.{Amx}
use Rattle.amx_ops.specs.declared.op.Op.TheVariants as op
use Rattle.amx_ops.specs.Written.{cells_of}
use Rattle.amx_ops.specs.State.{State, Goes, push}
use Rattle.amx_ops.specs.Effects.{at_next}
use Rattle.amx_ops.specs.Step.{act}
use Rattle.amx_ops.specs.Moves.{Config}
use Rattle.pawn_cells.proofs.CellLaws.{truth_cell}
use Rattle.gen_sim.specs.View.{View, kept, used}
use Rattle.gen_sim.specs.Stands.{Stands, With}
use Rattle.gen_sim.specs.Site.{Site, DoesAt, scene_at}
use Rattle.gen_sim.specs.Items.{Item, item_cells, past, with}
use Rattle.gen_sim.specs.Code.{with_turns, CallsWithin}
use Rattle.gen_sim.specs.Contract.{ValueCode}
use Rattle.gen_sim.proofs.StepLaws.{given}
use Rattle.gen_sim.specs.Lies.{Lies}
use Rattle.gen_sim.specs.SimpleCode.{alone}
use Rattle.gen_sim.specs.JumpCode.{jump_to}
use Rattle.gen_sim.proofs.ItemSteps.{next_lies, item_sets, item_pushes, item_pops_alt}
use Rattle.gen_sim.proofs.ItemSteps.{item_pops_pri}
use Rattle.gen_sim.proofs.NodesPartLaws.{nodes_of, gives_of, then_items}
use Rattle.gen_sim.proofs.JumpSteps.{zero_jumps, zero_passes}
use Rattle.gen_sim.proofs.JumpNodes.{choose_grows}
use Rattle.gen_sim.proofs.OperatorCalls.{two_grows, two_does}
use Rattle.gen_sim.specs.ChainCode.{compare_op, link_code, last_link_code, middle_link_code}
use Rattle.gen_sim.specs.LinksCode.{links_run, LinksAt, LinksCode}

-- ---- links only grow

pub linked_grows : (x : Site) (turns : ℕ) (o : Comparison) (f : Option ℕ) (swapped : Bool) (y z : ℤ)
    → Grows (linked (scene_at x) (with_turns x turns) o f swapped y z)
linked_grows x turns o None swapped y z = give_grows (truth (compare o y z))
linked_grows x turns o (Some f) swapped y z = two_grows x turns f swapped y z

pub chained_grows : (x : Site) (turns : ℕ) (links : Links) (y u : ℤ)
    → Grows (chained (scene_at x) (with_turns x turns) links y u)
chained_grows x turns no_links y u = give_grows u
chained_grows x turns (then_link o e f swapped links) y u =
    choose_grows (is_zero u) (give (pos 0))
    (value (scene_at x) (with_turns x turns) e
    >>= (λ z. linked (scene_at x) (with_turns x turns) o f swapped y z
    >>= (λ i. chained (scene_at x) (with_turns x turns) links z i)))
    (give_grows (pos 0))
    (after_grows ((nodes_of x turns).values e)
    (λ z. after_grows (linked_grows x turns o f swapped y z)
    (λ i. chained_grows x turns links z i)))

-- ---- a link on its operands

pub compare_act : (amx : Amx) (o : Comparison) (q : ℕ) (s : State)
    → act amx (compare_op o) (pos 0) q s
    ≡ Goes (record s { pri = truth (compare o s.alt s.pri); cip = q })
compare_act amx comparison.Less q s = refl
compare_act amx comparison.LessEqual q s = refl
compare_act amx comparison.Greater q s = refl
compare_act amx comparison.GreaterEqual q s = refl

module _ (scope : Scope) (x : Site) (same : x.program ≡ scope.program) (turns : ℕ)
    (calls : CallsWithin x turns) (v : View) (waits : List ℤ)
    (deep : used x.program x.room v waits ≤ kept x.program x.room + sum v.needs) where
  pub linked_does : (o : Comparison) (f : Option ℕ) (swapped : Bool) → IfSome f (IsOperator scope 2)
      → (y z : ℤ) → IsCell y → IsCell z → (p : ℕ) (w : World) (c : Config)
      → Stands x.program x.room v waits p w c → c.state.alt ≡ y → c.state.pri ≡ z
      → Lies x p (link_code o f swapped)
      → DoesAt x (length (item_cells (link_code o f swapped))) w c
      (linked (scene_at x) (with_turns x turns) o f swapped y z w)
      (With x.program x.room v waits (past p (link_code o f swapped)))
  linked_does o None swapped takes y z fy fz p w c s alt pri l =
      let q : ℕ = p + 4 * length (cells_of (with (compare_op o) (pos 0))) in
      let value_is : truth (compare o c.state.alt c.state.pri) ≡ truth (compare o y z) =
      rw (alt, pri) refl in
      item_sets x (with (compare_op o) (pos 0)) s l (truth (compare o y z)) c.state.alt
      (compare_act x.amx o q c.state
      ∙ ap (λ i. Goes (record c.state { pri = i; cip = q })) value_is)
      (λ t b e g. given x b (record { stands = b; value = e; fits = truth_cell _ }))
  linked_does o (Some f) swapped takes y z fy fz p w c s alt pri l =
      two_does scope x same turns calls v waits deep f takes swapped y z fy fz p w c s alt pri l

-- ---- the last link

module _ (scope : Scope) (begin fail : ℕ) (o : Comparison) (e : Expr) (f : Option ℕ)
    (swapped : Bool) (takes : IfSome f (IsOperator scope 2)) (operand : List Item)
    (part : ValueCode scope e (begin + 4) operand) where
  pub last_link_does : LinksCode scope (then_link o e f swapped no_links) begin fail
      (last_link_code operand (link_code o f swapped))
  last_link_does = record {
    does = λ x site same turns calls v fits l low pending deep y w c a.
        let fewer = with_turns x turns in
        let last = alone op.PopAlt ∷ link_code o f swapped in
        let go : ℤ → Run ℤ = λ z. linked (scene_at x) fewer o f swapped y z >>= (λ u. give u) in
        let grows =
        λ (z : ℤ). after_grows (linked_grows x turns o f swapped y z) (λ u. give_grows u) in
        item_pushes x (with op.PushPri (pos 0)) a.stands l y
        (ap (λ z. push c.state z (at_next (begin + 4))) a.value) a.fits (omega (arith, deep))
        ((after_grows ((nodes_of x turns).values e) grows).at w)
        (λ t b pri alt. then_items x (begin + 4) operand last
        (With x.program x.room v (y ∷ pending) (past (begin + 4) operand))
        (LinksAt x v pending fail) w
        (next_lies x begin (alone op.PushPri) (operand ++ last) l) (value (scene_at x) fewer e w) go
        (λ z u. (grows z).at u)
        (λ j. part.does x site same turns calls v fits j.lie j.starts (y ∷ pending)
        (omega (arith, deep)) w t b)
        (λ j z u n k. item_pops_alt x k.stands j
        (λ i g alt2 pri2. gives_of x (length (item_cells (link_code o f swapped))) u
        (linked (scene_at x) fewer o f swapped y z u) (λ r. r)
        (With x.program x.room v pending
        (past (past (begin + 4) operand + 4) (link_code o f swapped))) (λ r m h q. inl q)
        (linked_does scope x same turns calls v pending
        (omega (arith, deep)) o f swapped takes y z a.fits k.fits
        (past (begin + 4) operand + 4) u i g alt2 (pri2 ∙ k.value)
        (next_lies x (past (begin + 4) operand) (alone op.PopAlt) (link_code o f swapped) j)))));
  }

-- ---- a link with others behind it

-- by what the link gave, which is in PRI while its right operand waits
module _ (x : Site) {v : View} {pending : List ℤ} (fail : ℕ) (low : fail < 2 ^ 31)
    (others : List Item) (z : ℤ) (fz : IsCell z) (run : Run ℤ) where
  further : (u : ℤ) (p : ℕ) (w : World) (c : Config) → With x.program x.room v (z ∷ pending) p u w c
      → Lies x p (jump_to op.Jzer fail ∷ alone op.PopPri ∷ others)
      → (Lies x (p + 8 + 4) others → (t : Config)
      → With x.program x.room v pending (p + 8 + 4) z w t
      → DoesAt x (length (item_cells others)) w t (run w)
      (LinksAt x v pending fail (past (p + 8 + 4) others)))
      → (b : Bool) → is_zero u ≡ b
      → DoesAt x (length (item_cells (jump_to op.Jzer fail ∷ alone op.PopPri ∷ others))) w c
      (choose b (give (pos 0)) run w)
      (LinksAt x v pending fail (past p (jump_to op.Jzer fail ∷ alone op.PopPri ∷ others)))
  further u p w c a l next true e =
      zero_jumps x a.stands fail 0 low (ap is_zero a.value ∙ e) (omega arith) l
      (λ t b same. given x b (inr (record
      { other = z; stands = b; zero_is = refl; pri = same ∙ a.value ∙ is_it u e })))
    where
      is_it : (i : ℤ) → is_zero i ≡ true → i ≡ pos 0
      is_it (pos zero) h = refl
      is_it (pos (suc n)) h = cc
      is_it (negsuc n) h = cc
  further u p w c a l next false e =
      let l1 = next_lies x p (jump_to op.Jzer fail) (alone op.PopPri ∷ others) l in
      zero_passes x a.stands fail (ap is_zero a.value ∙ e) l
      (λ t b same. item_pops_pri x b l1
      (λ n g pri alt. next (next_lies x (p + 8) (alone op.PopPri) others l1) n
      (record { stands = g; value = pri; fits = fz })))

module _ (scope : Scope) (begin fail : ℕ) (o : Comparison) (e : Expr) (f : Option ℕ)
    (swapped : Bool) (takes : IfSome f (IsOperator scope 2)) (operand : List Item)
    (part : ValueCode scope e (begin + 4) operand) (o2 : Comparison) (e2 : Expr) (f2 : Option ℕ)
    (swapped2 : Bool) (links : Links) (others : List Item) where
  -- where the other links begin
  abbrev pub others_at : ℕ
  others_at = past (past (begin + 4) operand + 4 + 4) (link_code o f swapped) + 8 + 4

  pub middle_link_does : LinksCode scope (then_link o2 e2 f2 swapped2 links) others_at fail others
      → LinksCode scope (then_link o e f swapped (then_link o2 e2 f2 swapped2 links)) begin fail
      (middle_link_code fail operand (link_code o f swapped) others)
  middle_link_does rest = record {
    does = λ x site same turns calls v fits l low pending deep y w c a.
        let fewer = with_turns x turns in
        let next = then_link o2 e2 f2 swapped2 links in
        let tested = jump_to op.Jzer fail ∷ alone op.PopPri ∷ others in
        let last = alone op.PopAlt ∷ alone op.PushPri ∷ (link_code o f swapped ++ tested) in
        let go : ℤ → Run ℤ =
        λ z. linked (scene_at x) fewer o f swapped y z
        >>= (λ u. chained (scene_at x) fewer next z u) in
        let behind =
        λ (z : ℤ). after_grows (linked_grows x turns o f swapped y z)
        (λ u. chained_grows x turns next z u) in
        let q = past (begin + 4) operand in
        item_pushes x (with op.PushPri (pos 0)) a.stands l y
        (ap (λ z. push c.state z (at_next (begin + 4))) a.value) a.fits (omega (arith, deep))
        ((after_grows ((nodes_of x turns).values e) behind).at w)
        (λ t b pri alt. then_items x (begin + 4) operand last
        (With x.program x.room v (y ∷ pending) q) (LinksAt x v pending fail) w
        (next_lies x begin (alone op.PushPri) (operand ++ last) l) (value (scene_at x) fewer e w) go
        (λ z u. (behind z).at u)
        (λ j. part.does x site same turns calls v fits j.lie j.starts (y ∷ pending)
        (omega (arith, deep)) w t b)
        (λ j z u n k.
        let l1 =
        next_lies x q (alone op.PopAlt)
        (alone op.PushPri ∷ (link_code o f swapped ++ tested)) j in
        item_pops_alt x k.stands j
        (λ i g alt2 pri2. item_pushes x (with op.PushPri (pos 0)) g l1 z
        (ap (λ r. push i.state r (at_next (q + 4 + 4))) (pri2 ∙ k.value)) k.fits
        (omega (arith, deep)) ((behind z).at u)
        (λ h d pri3 alt3. then_items x (q + 4 + 4) (link_code o f swapped) tested
        (With x.program x.room v (z ∷ pending) (past (q + 4 + 4) (link_code o f swapped)))
        (LinksAt x v pending fail) u
        (next_lies x (q + 4) (alone op.PushPri) (link_code o f swapped ++ tested) l1)
        (linked (scene_at x) fewer o f swapped y z u) (λ r. chained (scene_at x) fewer next z r)
        (λ r m. (chained_grows x turns next z r).at m)
        (λ s. linked_does scope x same turns calls v (z ∷ pending)
        (omega (arith, deep)) o f swapped takes y z a.fits k.fits (q + 4 + 4) u h d
        (alt3 ∙ alt2) (pri3 ∙ pri2 ∙ k.value) s)
        (λ s r m h2 p2. further x fail low others z k.fits (links_run (scene_at x) fewer next z) r
        (past (q + 4 + 4) (link_code o f swapped)) m h2 p2 s
        (λ s2 t2 k2. rest.does x site same turns calls v fits s2 low pending
        (omega (arith, deep)) z m t2 k2) (is_zero r) refl)))));
  }
