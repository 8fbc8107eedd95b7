-- Links whose jumps are led to the end of their chain when it is known.
use Rattle.std.proofs.Common.{◌≡◌, ◌+◌, ◌-◌, ◌*◌, ◌/◌, ◌<◌, ◌≤◌, ℕ, zero, suc, pos, List, [], ◌∷◌, ◌++◌}
use Rattle.std.proofs.Common.{length, drop, get_or, add-one, refl, sym, ap, subst, ◌∙◌, arith}
use Rattle.std.proofs.Common.{append_assoc, append-nil, length-append, Result, Ok, Err, IfOk}
use Rattle.std.proofs.Math.Seq.{drop-cons}
use Rattle.pawn_meaning.specs.View.{expr_view, links_view}
use Rattle.pawn_meaning.specs.declared.node.Link.{Link}
use Rattle.pawn_meaning.specs.Program.{Expr, Links, no_links, then_link}
use Rattle.pawn_meaning.specs.Scope.{Scope}
use Rattle.pawn_cells.specs.declared.operator.Comparison.{Comparison}
use Rattle.std.specs.Prelude.{Option, Bool, false, ◌==◌}
use Rattle.std.proofs.lemmas.Bool.{false≢true}
use Rattle.amx_ops.specs.declared.op.Op.TheVariants as op
use Rattle.gen_sim.specs.Items.{Item, item_cells, past}
use Rattle.gen_sim.proofs.ItemLaws.{past-append}
use Rattle.gen_sim.specs.SimpleCode.{alone}
use Rattle.gen_sim.specs.JumpCode.{jump_to}
use Rattle.gen_sim.specs.OperandCode.{right_of}
use Rattle.gen_sim.specs.ChainCode.{link_code, last_link_by, middle_link_code, fail_at}
use Rattle.gen_sim.specs.ChainCode.{chain_end_code}
use Rattle.gen_laws.specs.ExprCode.{value_items, links_items, others_at}
use Rattle.gen_expr.specs.Built.{Built, with_items}
use Rattle.gen_expr.specs.Filled.{filled}
use Rattle.gen_expr.proofs.GrowLaws.{both_grow, next_at, none_grow}
use Rattle.gen_expr.proofs.JumpLaws.{jzer_filled}
use Rattle.gen_expr.specs.ChainItems.{chain_items}
use Rattle.gen_expr.specs.Holes.{holes_of, all_filled, AreIn, ended_by}

-- links that aren't none
pub some_left : (items : List Link) (none : Bool) → none ≡ (length items == 0) → none ≡ false
    → 0 < length items
some_left [] none e f = absurd (false≢true (sym f ∙ e))
some_left (link ∷ items) none e f = omega arith

-- ---- one link with others behind it

-- up to its jump
abbrev front_of : (operand link : List Item) → List Item
front_of operand link = alone op.PushPri ∷ (operand ++ (alone op.PopAlt ∷ alone op.PushPri ∷ link))

front_ends : (p : ℕ) (operand link : List Item)
    → past p (front_of operand link) ≡ past (past (p + 4) operand + 4 + 4) link
front_ends p operand link = past-append (p + 4) operand (alone op.PopAlt ∷ alone op.PushPri ∷ link)

-- its jump, and what it takes back
abbrev jump_of : ℕ → List Item
jump_of fail = jump_to op.Jzer fail ∷ alone op.PopPri ∷ []

middle_is : (fail : ℕ) (operand link others tail : List Item)
    → middle_link_code fail operand link others ++ tail
    ≡ front_of operand link ++ (jump_of fail ++ (others ++ tail))
middle_is fail operand link others tail = simp append_assoc

-- where the cells behind the front and behind the jump begin
front_cells : (m : Built) (operand link : List Item)
    → 4 * length (with_items (front_of operand link) m).code
    ≡ past (past (4 * length m.code + 4) operand + 4 + 4) link
front_cells m operand link =
    next_at m (with_items (front_of operand link) m) (front_of operand link) refl
    ∙ front_ends (4 * length m.code) operand link

behind_cells : (m : Built) (operand link : List Item) (fail : ℕ)
    → 4 * length (with_items (jump_of fail) (with_items (front_of operand link) m)).code
    ≡ others_at (4 * length m.code) operand link
behind_cells m operand link fail =
    let c : Built = with_items (front_of operand link) m in
    next_at c (with_items (jump_of fail) c) (jump_of fail) refl
    ∙ ap (λ n. n + 8 + 4) (front_cells m operand link)

hole_at : (m : Built) (operand link : List Item)
    → past (past (4 * length m.code + 4) operand + 4 + 4) link / 4 + 1
    ≡ length (with_items (front_of operand link) m).code + 1
hole_at m operand link =
    let e : 4 * length (with_items (front_of operand link) m).code
    ≡ past (past (4 * length m.code + 4) operand + 4 + 4) link =
    front_cells m operand link in
    omega arith

-- the others behind it make the whole
middle_whole : (m : Built) (operand link others : List Item)
    → with_items others (with_items (jump_of 0) (with_items (front_of operand link) m))
    ≡ with_items (middle_link_code 0 operand link others) m
middle_whole m operand link others =
    let front = front_of operand link in
    let shape : front ++ (jump_of 0 ++ others) ≡ middle_link_code 0 operand link others =
    ap (λ l. front ++ (jump_of 0 ++ l)) (sym (append-nil others))
    ∙ sym (middle_is 0 operand link others [])
    ∙ append-nil (middle_link_code 0 operand link others) in
    both_grow (jump_of 0) others (with_items front m) ∙ both_grow front (jump_of 0 ++ others) m
    ∙ ap (λ l. with_items l m) shape

-- the link's own jump is led, and then those of the others
middle_filled : (m : Built) (operand link others led tail : List Item) (fail hole : ℕ)
    (holes : List ℕ)
    → hole ≡ length (with_items (front_of operand link) m).code + 1
    → all_filled holes (pos fail) (with_items (others ++ tail)
    (with_items (jump_of fail) (with_items (front_of operand link) m)))
    ≡ with_items (led ++ tail) (with_items (jump_of fail) (with_items (front_of operand link) m))
    → all_filled (hole ∷ holes) (pos fail)
    (with_items (middle_link_code 0 operand link others ++ tail) m)
    ≡ with_items (middle_link_code fail operand link led ++ tail) m
middle_filled m operand link others led tail fail hole holes at hyp =
    let front = front_of operand link in
    let c : Built = with_items front m in
    let x : Built = with_items (middle_link_code 0 operand link others ++ tail) m in
    let seen : x ≡ with_items (jump_of 0 ++ (others ++ tail)) c =
    ap (λ l. with_items l m) (middle_is 0 operand link others tail)
    ∙ sym (both_grow front (jump_of 0 ++ (others ++ tail)) m) in
    let first : filled hole (pos fail) x ≡ with_items (jump_of fail ++ (others ++ tail)) c =
    ap (λ n. filled n (pos fail) x) at
    ∙ jzer_filled c x (alone op.PopPri ∷ (others ++ tail)) (pos fail) seen in
    ap (λ (z : Built). all_filled holes (pos fail) z)
    (first ∙ sym (both_grow (jump_of fail) (others ++ tail) c))
    ∙ hyp ∙ both_grow (jump_of fail) (led ++ tail) c
    ∙ both_grow front (jump_of fail ++ (led ++ tail)) m
    ∙ sym (ap (λ l. with_items l m) (middle_is fail operand link led tail))

-- ---- all links

-- with what stands behind them
abbrev Fill : Scope → ℕ → Links → Type 0
Fill scope fail links = (m : Built) (tail : List Item)
    → all_filled (holes_of scope (4 * length m.code) links) (pos fail)
    (with_items (links_items scope (4 * length m.code) 0 links ++ tail) m)
    ≡ with_items (links_items scope (4 * length m.code) fail links ++ tail) m

link_filled : (scope : Scope) (fail : ℕ) (o : Comparison) (e : Expr) (f : Option ℕ) (swapped : Bool)
    (links : Links)
    → Fill scope fail links → Fill scope fail (then_link o e f swapped links)
link_filled scope fail o e f swapped no_links hyp m tail = refl
link_filled scope fail o e f swapped (then_link o2 e2 f2 s2 links) hyp m tail =
    let begin = 4 * length m.code in
    let rest = then_link o2 e2 f2 s2 links in
    let operand = value_items scope (begin + 4) e in
    let link = link_code o f swapped in
    let next = others_at begin operand link in
    let n : Built = with_items (jump_of fail) (with_items (front_of operand link) m) in
    let there : all_filled (holes_of scope next rest) (pos fail)
    (with_items (links_items scope next 0 rest ++ tail) n)
    ≡ with_items (links_items scope next fail rest ++ tail) n =
    subst (λ q. all_filled (holes_of scope q rest) (pos fail)
    (with_items (links_items scope q 0 rest ++ tail) n)
    ≡ with_items (links_items scope q fail rest ++ tail) n) (behind_cells m operand link fail)
    (hyp n tail) in
    middle_filled m operand link (links_items scope next 0 rest)
    (links_items scope next fail rest) tail fail
    (past (past (begin + 4) operand + 4 + 4) link / 4 + 1) (holes_of scope next rest)
    (hole_at m operand link) there

links_filled : (scope : Scope) (fail : ℕ) (links : Links) → Fill scope fail links
links_filled scope fail no_links m tail = refl
links_filled scope fail (then_link o e f swapped links) m tail =
    link_filled scope fail o e f swapped links (λ n t. links_filled scope fail links n t) m tail

-- ---- the jumps are cells of the code

pub more_in : (n k : ℕ) (holes : List ℕ) → n ≤ k → AreIn n holes → AreIn k holes
more_in n k [] le all = tt
more_in n k (at ∷ holes) le all = (omega (arith, all.0), more_in n k holes le all.1)

abbrev In : Scope → Links → Type 0
In scope links =
    (m : Built) → AreIn (length (with_items (links_items scope (4 * length m.code) 0 links) m).code)
    (holes_of scope (4 * length m.code) links)

link_in : (scope : Scope) (o : Comparison) (e : Expr) (f : Option ℕ) (swapped : Bool)
    (links : Links)
    → In scope links → In scope (then_link o e f swapped links)
link_in scope o e f swapped no_links hyp m = tt
link_in scope o e f swapped (then_link o2 e2 f2 s2 links) hyp m =
    let begin = 4 * length m.code in
    let rest = then_link o2 e2 f2 s2 links in
    let operand = value_items scope (begin + 4) e in
    let link = link_code o f swapped in
    let next = others_at begin operand link in
    let c : Built = with_items (front_of operand link) m in
    let n : Built = with_items (jump_of 0) c in
    let others = links_items scope next 0 rest in
    let whole : with_items others n ≡ with_items (middle_link_code 0 operand link others) m =
    middle_whole m operand link others in
    let there : AreIn (length (with_items others n).code) (holes_of scope next rest) =
    subst (λ q. AreIn (length (with_items (links_items scope q 0 rest) n).code)
    (holes_of scope q rest))
    (behind_cells m operand link 0) (hyp n) in
    let cells : length (with_items others n).code
    ≡ length (with_items (middle_link_code 0 operand link others) m).code =
    ap (λ (z : Built). length z.code) whole in
    let long : length c.code + 1 < length (with_items others n).code =
    omega (
      arith,
      length-append c.code (item_cells (jump_of 0)),
      length-append n.code (item_cells others),
    ) in
    let at = hole_at m operand link in
    (omega arith, subst (λ k. AreIn k (holes_of scope next rest)) cells there)

pub links_in : (scope : Scope) (links : Links) → In scope links
links_in scope no_links m = tt
links_in scope (then_link o e f swapped links) m =
    link_in scope o e f swapped links (λ n. links_in scope links n) m

-- ---- the whole chain

ended_is : (scope : Scope) (o : Comparison) (e : Expr) (f : Option ℕ) (swapped : Bool)
    (links : Links) (b r : Built)
    → let all = then_link o e f swapped links in let p = 4 * length b.code in
    r ≡ ended_by (holes_of scope p all) (with_items (links_items scope p 0 all) b)
    → r ≡ with_items (chain_items scope p all) b
ended_is scope o e f swapped no_links b r is = is
ended_is scope o e f swapped (then_link o2 e2 f2 s2 links) b r is =
    let all = then_link o e f swapped (then_link o2 e2 f2 s2 links) in
    let p = 4 * length b.code in
    let unled = links_items scope p 0 all in
    let linked : Built = with_items unled b in
    let q = 4 * length linked.code in
    let q_is : q ≡ past p unled = next_at b linked unled refl in
    is ∙ ap (λ (z : Built). all_filled (holes_of scope p all) (pos (fail_at q)) z)
    (both_grow unled (chain_end_code q) b)
    ∙ links_filled scope (fail_at q) all b (chain_end_code q)
    ∙ ap (λ k. with_items (links_items scope p (fail_at k) all ++ chain_end_code k) b) q_is

pub chain_ended : (scope : Scope) (links : Links) (b r : Built)
    → r ≡ ended_by (holes_of scope (4 * length b.code) links)
    (with_items (links_items scope (4 * length b.code) 0 links) b)
    → r ≡ with_items (chain_items scope (4 * length b.code) links) b
chain_ended scope no_links b r is = is
chain_ended scope (then_link o e f swapped links) b r is = ended_is scope o e f swapped links b r is

-- ---- link by link

-- so far, with those that are left
pub record Linked (scope : Scope) (b : Built) (all : Links) (grown : Built) (holes : List ℕ)
    (left : Links) : Type 0 where
  pub code : with_items (links_items scope (4 * length grown.code) 0 left) grown
      ≡ with_items (links_items scope (4 * length b.code) 0 all) b
  pub cells : holes ++ holes_of scope (4 * length grown.code) left
      ≡ holes_of scope (4 * length b.code) all

pub none_linked : (scope : Scope) (b : Built) (all : Links) → Linked scope b all b [] all
none_linked scope b all = record { code = refl; cells = refl }

pub middle_linked : (scope : Scope) (b : Built) (all : Links) (m n : Built) (holes : List ℕ)
    (o : Comparison) (e : Expr) (f : Option ℕ)
    (swapped : Bool) (o2 : Comparison) (e2 : Expr) (f2 : Option ℕ) (s2 : Bool) (left : Links)
    (hole : ℕ)
    → Linked scope b all m holes (then_link o e f swapped (then_link o2 e2 f2 s2 left))
    → n ≡ with_items (middle_link_code 0 (value_items scope (4 * length m.code + 4) e)
    (link_code o f swapped) []) m → hole + 2 ≡ length n.code
    → Linked scope b all n (holes ++ hole ∷ []) (then_link o2 e2 f2 s2 left)
middle_linked scope b all m n holes o e f swapped o2 e2 f2 s2 left hole so_far grown last =
    let begin = 4 * length m.code in
    let rest = then_link o2 e2 f2 s2 left in
    let operand = value_items scope (begin + 4) e in
    let link = link_code o f swapped in
    let next = others_at begin operand link in
    let front = front_of operand link in
    let c : Built = with_items front m in
    let n_is : n ≡ with_items (jump_of 0) c =
    grown ∙ sym (middle_whole m operand link []) ∙ sym (none_grow (with_items (jump_of 0) c)) in
    let begins : 4 * length n.code ≡ next =
    ap (λ (z : Built). 4 * length z.code) n_is ∙ behind_cells m operand link 0 in
    let others = links_items scope next 0 rest in
    let whole : with_items (links_items scope (4 * length n.code) 0 rest) n
    ≡ with_items (middle_link_code 0 operand link others) m =
    ap (λ q. with_items (links_items scope q 0 rest) n) begins
    ∙ ap (λ (z : Built). with_items others z) n_is
    ∙ middle_whole m operand link others in
    let cells_n : length n.code ≡ length c.code + 3 =
    ap (λ (z : Built). length z.code) n_is ∙ length-append c.code (item_cells (jump_of 0)) in
    let at = hole_at m operand link in
    let hole_is : hole ≡ past (past (begin + 4) operand + 4 + 4) link / 4 + 1 = omega arith in
    record {
      code = whole ∙ so_far.code;
      cells = append_assoc holes (hole ∷ []) (holes_of scope (4 * length n.code) rest)
          ∙ ap (λ h. holes ++ (h ∷ holes_of scope (4 * length n.code) rest)) hole_is
          ∙ ap (λ q. holes ++ ((past (past (begin + 4) operand + 4 + 4) link / 4 + 1)
          ∷ holes_of scope q rest)) begins
          ∙ so_far.cells;
    }

-- all of them
pub record AllLinked (scope : Scope) (b : Built) (all : Links) (linked : Built)
    (holes : List ℕ) : Type 0 where
  pub code : linked ≡ with_items (links_items scope (4 * length b.code) 0 all) b
  pub cells : holes ≡ holes_of scope (4 * length b.code) all

pub last_linked : (scope : Scope) (b : Built) (all : Links) (m n : Built) (holes : List ℕ)
    (o : Comparison) (e : Expr) (f : Option ℕ)
    (swapped : Bool) → Linked scope b all m holes (then_link o e f swapped no_links)
    → n ≡ with_items (last_link_by o f swapped (right_of scope e)
    (value_items scope (4 * length m.code + 4) e)) m → AllLinked scope b all n holes
last_linked scope b all m n holes o e f swapped so_far grown =
    record { code = grown ∙ so_far.code; cells = sym (append-nil holes) ∙ so_far.cells }

pub all_in : (scope : Scope) (b : Built) (all : Links) (linked : Built) (holes : List ℕ)
    → AllLinked scope b all linked holes
    → AreIn (length linked.code) holes
all_in scope b all linked holes is =
    subst (λ l. AreIn (length linked.code) l) (sym is.cells)
    (subst (λ (z : Built). AreIn (length z.code) (holes_of scope (4 * length b.code) all))
    (sym is.code) (links_in scope all b))

pub all_ended : (scope : Scope) (b : Built) (all : Links) (linked r : Built) (holes : List ℕ)
    → AllLinked scope b all linked holes
    → r ≡ ended_by holes linked → r ≡ with_items (chain_items scope (4 * length b.code) all) b
all_ended scope b all linked r holes is e =
    chain_ended scope all b r (e ∙ ap (λ l. ended_by l linked) is.cells
    ∙ ap (λ (z : Built). ended_by (holes_of scope (4 * length b.code) all) z) is.code)

pub all_ended_ok : {E : Type 0} (scope : Scope) (b : Built) (all : Links) (linked : Built)
    (r : Result Built E) (holes : List ℕ)
    → AllLinked scope b all linked holes → IfOk r (λ x. x ≡ ended_by holes linked)
    → IfOk r (λ x. x ≡ with_items (chain_items scope (4 * length b.code) all) b)
all_ended_ok scope b all linked (Ok x) holes is e = all_ended scope b all linked x holes is e
all_ended_ok scope b all linked (Err fault) holes is e = e

-- ---- in the list that code walks over

none_left : (items : List Link) (n : ℕ) → n ≡ length items → drop n items ≡ []
none_left [] zero e = refl
none_left [] (suc n) e = refl
none_left (link ∷ items) zero e = absurd (omega (arith, e))
none_left (link ∷ items) (suc n) e = none_left items n (omega (arith, e))

pub link_stepped : (scope : Scope) (b m n : Built) (holes : List ℕ) (items : List Link) (i : ℕ)
    (link : Link) (hole : ℕ) (more : List ℕ)
    → i + 1 < length items → link ≡ get_or items i link
    → Linked scope b (links_view items) m holes (links_view (drop i items))
    → n ≡ with_items (middle_link_code 0
    (value_items scope (4 * length m.code + 4) (expr_view link.operand))
    (link_code link.op link.function link.swapped) []) m
    → hole + 2 ≡ length n.code → more ≡ holes ++ hole ∷ []
    → Linked scope b (links_view items) n more (links_view (drop (i + 1) items))
link_stepped scope b m n holes items i link hole more within is so_far grown last pushed =
    let here : i < length items = omega arith in
    let there : suc i < length items = omega arith in
    let next = get_or items (suc i) link in
    let left = drop (suc (suc i)) items in
    let now : links_view (drop i items) ≡ links_view (link ∷ next ∷ left) =
    ap links_view (drop-cons items i link here)
    ∙ ap (λ l. links_view (l ∷ drop (suc i) items)) (sym is)
    ∙ ap (λ l. links_view (link ∷ l)) (drop-cons items (suc i) link there) in
    let after : links_view (drop (i + 1) items) ≡ links_view (next ∷ left) =
    ap (λ k. links_view (drop k items)) (add-one i)
    ∙ ap links_view (drop-cons items (suc i) link there) in
    subst (λ h. Linked scope b (links_view items) n h (links_view (drop (i + 1) items)))
    (sym pushed)
    (subst (λ l. Linked scope b (links_view items) n (holes ++ hole ∷ []) l) (sym after)
    (middle_linked scope b (links_view items) m n holes link.op
    (expr_view link.operand) link.function link.swapped
    next.op (expr_view next.operand) next.function next.swapped (links_view left) hole
    (subst (λ l. Linked scope b (links_view items) m holes l) now so_far) grown last))

-- the last of some links is the one at which a walk ended
pub at_last : (items : List Link) (i : ℕ) (link : Link) → length items - 1 ≡ i
    → link ≡ get_or items (length items - 1) link → link ≡ get_or items i link
at_last items i link last is = subst (λ (k : ℕ). link ≡ get_or items k link) last is

pub link_ended : (scope : Scope) (b m n : Built) (holes : List ℕ) (items : List Link) (i : ℕ)
    (link : Link)
    → i + 1 ≡ length items → link ≡ get_or items i link
    → Linked scope b (links_view items) m holes (links_view (drop i items))
    → n ≡ with_items (last_link_by link.op link.function link.swapped
    (right_of scope (expr_view link.operand))
    (value_items scope (4 * length m.code + 4) (expr_view link.operand))) m
    → AllLinked scope b (links_view items) n holes
link_ended scope b m n holes items i link within is so_far grown =
    let here : i < length items = omega arith in
    let none : drop (suc i) items ≡ [] = none_left items (suc i) (omega arith) in
    let now : links_view (drop i items) ≡ links_view (link ∷ []) =
    ap links_view (drop-cons items i link here)
    ∙ ap (λ l. links_view (l ∷ drop (suc i) items)) (sym is)
    ∙ ap (λ l. links_view (link ∷ l)) none in
    last_linked scope b (links_view items) m n holes link.op
    (expr_view link.operand) link.function link.swapped
    (subst (λ l. Linked scope b (links_view items) m holes l) now so_far) grown

pub none_chained : (scope : Scope) (b : Built) (links : List Link) → length links ≡ 0
    → b ≡ with_items (chain_items scope (4 * length b.code) (links_view links)) b
none_chained scope b [] e = none_grow b
none_chained scope b (link ∷ links) e = absurd (omega (arith, e))
