-- A node's code is that of its parts, by what is known of each step; where the last step may fail,
-- so may the whole.
use Rattle.std.proofs.Common.{◌≡◌, ◌+◌, ◌*◌, ℕ, pos, List, [], ◌∷◌, ◌++◌, Bool, Option, None, Some}
use Rattle.std.proofs.Common.{length, refl, sym, subst, append_assoc}
use Rattle.pawn_cells.specs.declared.operator.Comparison.{Comparison}
use Rattle.std.proofs.Common.{ap, ◌∙◌, Result, Ok, Err, IfOk}
use Rattle.std.specs.declared.alloc.Global.{Global}
use Rattle.std.specs.declared.boxed.Box.{Box}
use Rattle.pawn_meaning.specs.Program.{Scalar, Chain}
use Rattle.pawn_meaning.specs.Fold.{fold}
use Rattle.pawn_meaning.specs.Scope.{Scope, Extent}
use Rattle.pawn_meaning.specs.View.{expr_view, args_view, links_view}
use Rattle.pawn_meaning.specs.declared.node.Arg.{Arg}
use Rattle.pawn_meaning.specs.declared.node.Link.{Link}
use Rattle.pawn_meaning.specs.declared.node.Expr as held
use Rattle.pawn_meaning.proofs.ViewLaws.{expr_view-Call, expr_view-Native, expr_view-Chain}
use Rattle.pawn_meaning.specs.Need.{count_of}
use Rattle.amx_ops.specs.declared.op.Op.TheVariants as op
use Rattle.gen_sim.specs.Items.{Item, CallOf, past}
use Rattle.gen_sim.specs.Results.{temporaries_in}
use Rattle.gen_sim.specs.SimpleCode.{alone, taking, waiting_code, folded}
use Rattle.gen_sim.specs.JumpCode.{jump_to, other_at, choice_code, cond_code}
use Rattle.gen_sim.specs.ChainCode.{compare_by, last_link_by, middle_link_code}
use Rattle.gen_sim.specs.OperandCode.{Right, Waiting, bring_code}
use Rattle.gen_sim.specs.CallCode.{two_code, give_back_code, call_code, native_code}
use Rattle.gen_laws.specs.ExprCode.{value_items, args_items}
use Rattle.gen_sim.specs.BaseCode.{Base, index_begin, indexed_code}
use Rattle.gen_sim.specs.AccessCode.{fetch_code}
use Rattle.gen_sim.specs.DirectCode.{Direct, read_by}
use Rattle.gen_sim.proofs.ItemLaws.{past-append}
use Rattle.gen_expr.specs.BaseView.{array_part}
use Rattle.gen_expr.specs.Built.{Built, with_items}
use Rattle.gen_expr.specs.Filled.{filled}
use Rattle.gen_expr.proofs.GrowLaws.{then_grow, then_ok, both_grow, next_at}
use Rattle.gen_expr.proofs.PartLaws.{behind, waiting_done}
use Rattle.gen_expr.proofs.JumpLaws.{jzer_wide, first_turned, second_done, choice_done}
use Rattle.gen_expr.specs.ChainItems.{chain_items}

pub then_part : {E : Type 0} (b m : Built) (r : Result Built E) (first : List Item)
    (rest : ℕ → List Item) → m ≡ with_items first b
    → IfOk r (λ x. x ≡ with_items (rest (4 * length m.code)) m)
    → IfOk r (λ x. x ≡ with_items (first ++ rest (past (4 * length b.code) first)) b)
then_part b m (Ok x) first rest e f = behind b m x first rest e f
then_part b m (Err fault) first rest e f = f

pub then_both : {E : Type 0} (b m n : Built) (r : Result Built E) (first tail : List Item)
    (second : ℕ → List Item)
    → m ≡ with_items first b → n ≡ with_items (alone op.PushPri ∷ second (4 * length m.code + 4)) m
    → IfOk r (λ x. x ≡ with_items tail n)
    → IfOk r (λ x. x ≡ with_items (waiting_code first
    (second (past (4 * length b.code) first + 4)) tail) b)
then_both b m n (Ok x) first tail second e f g = waiting_done b m n x first tail second e f g
then_both b m n (Err fault) first tail second e f g = g

-- a second value or array, while the first one waits
pub second_waits : (b m r : Built) (second : ℕ → List Item)
    → m ≡ with_items (alone op.PushPri ∷ []) b
    → r ≡ with_items (second (4 * length m.code)) m
    → r ≡ with_items (alone op.PushPri ∷ second (4 * length b.code + 4)) b
second_waits b m r second e f = behind b m r (alone op.PushPri ∷ []) second e f

-- from where the first of two parts is done, with a jump behind it
chosen : (c t y r : Built) (first : List Item) (second : ℕ → List Item) (end : ℕ)
    → t ≡ with_items (jump_to op.Jzer (other_at (4 * length c.code) first)
    ∷ (first ++ jump_to op.Jump 0 ∷ [])) c
    → end + 1 ≡ length t.code → y ≡ with_items (second (4 * length t.code)) t
    → r ≡ filled end (pos (4 * length y.code)) y
    → r ≡ with_items (choice_code (4 * length c.code) first
    (second (other_at (4 * length c.code) first))) c
chosen c t y r first second end et ee ey er =
    let p = 4 * length c.code in
    let rest = jump_to op.Jump 0 ∷ [] in
    let led : Built = with_items (jump_to op.Jzer (other_at p first) ∷ first) c in
    let ts : t ≡ with_items rest led =
    et ∙ sym (both_grow (jump_to op.Jzer (other_at p first) ∷ first) rest c) in
    second_done op.Jzer jzer_wide c led t y r first second end refl ts ee ey er

-- of one of two by a condition: the second one begins where the first one's end leads
pub then_choice : {E : Type 0} (b c t y : Built) (r : Result Built E) (condition : List Item)
    (first second : ℕ → List Item) (end : ℕ)
    → c ≡ with_items condition b
    → t ≡ with_items (jump_to op.Jzer (other_at (4 * length c.code) (first (4 * length c.code + 8)))
    ∷ (first (4 * length c.code + 8) ++ jump_to op.Jump 0 ∷ [])) c
    → end + 1 ≡ length t.code → y ≡ with_items (second (4 * length t.code)) t
    → IfOk r (λ x. x ≡ filled end (pos (4 * length y.code)) y)
    → IfOk r (λ x. let p = past (4 * length b.code) condition in
    x ≡ with_items (cond_code (4 * length b.code) condition (first (p + 8))
    (second (other_at p (first (p + 8))))) b)
then_choice b c t y (Ok x) condition first second end e f g h k =
    behind b c x condition (λ q. choice_code q (first (q + 8))
    (second (other_at q (first (q + 8))))) e
    (chosen c t y x (first (4 * length c.code + 8)) second end f g h k)
then_choice b c t y (Err fault) condition first second end e f g h k = k

-- the first of two parts, which begins behind its jump
pub part_turned : (c j x t : Built) (first : ℕ → List Item) (other : ℕ)
    → j ≡ with_items (jump_to op.Jzer 0 ∷ []) c
    → other + 1 ≡ length j.code → x ≡ with_items (first (4 * length j.code)) j
    → t ≡ with_items (jump_to op.Jump 0 ∷ []) (filled other (pos (4 * length x.code + 8)) x)
    → let p = 4 * length c.code in
    t ≡ with_items (jump_to op.Jzer (other_at p (first (p + 8)))
    ∷ (first (p + 8) ++ jump_to op.Jump 0 ∷ [])) c
part_turned c j x t first other ej eo ex et =
    first_turned op.Jzer jzer_wide c j x t (first (4 * length c.code + 8)) other ej eo
    (ex ∙ ap (λ q. with_items (first q) j) (next_at c j (jump_to op.Jzer 0 ∷ []) ej)) et

-- and both
pub parts_done : (c j x t y r : Built) (first second : ℕ → List Item) (other end : ℕ)
    → j ≡ with_items (jump_to op.Jzer 0 ∷ []) c
    → other + 1 ≡ length j.code → x ≡ with_items (first (4 * length j.code)) j
    → t ≡ with_items (jump_to op.Jump 0 ∷ []) (filled other (pos (4 * length x.code + 8)) x)
    → end + 1 ≡ length t.code
    → y ≡ with_items (second (4 * length t.code)) t → r ≡ filled end (pos (4 * length y.code)) y
    → let p = 4 * length c.code in r
    ≡ with_items (choice_code p (first (p + 8)) (second (other_at p (first (p + 8))))) c
parts_done c j x t y r first second other end ej eo ex et ee ey er =
    choice_done c j x t y r (first (4 * length c.code + 8)) second other end ej eo
    (ex ∙ ap (λ q. with_items (first q) j) (next_at c j (jump_to op.Jzer 0 ∷ []) ej)) et ee ey er

-- ---- links

-- a right operand that waited
pub brought_waiting : {E : Type 0} (how : Right) (right : List Item) (b m : Built)
    (r : Result Built E) → how ≡ Waiting → m ≡ with_items (alone op.PushPri ∷ right) b
    → IfOk r (λ x. x ≡ with_items (alone op.PopAlt ∷ []) m)
    → IfOk r (λ x. x ≡ with_items (bring_code how right) b)
brought_waiting how right b m r is e f =
    subst (λ j. IfOk r (λ x. x ≡ with_items (bring_code j right) b)) (sym is)
    (then_ok b m r (alone op.PushPri ∷ right) (alone op.PopAlt ∷ []) e f)

-- a last one, which the machine compares
pub last_compared : {E : Type 0} (o : Comparison) (k : Option ℕ) (swapped : Bool)
    (how given : Right) (right : List Item) (b m : Built) (r : Result Built E)
    → k ≡ None → given ≡ how → m ≡ with_items (bring_code given right) b
    → IfOk r (λ x. x ≡ with_items (alone (compare_by given o) ∷ []) m)
    → IfOk r (λ x. x ≡ with_items (last_link_by o k swapped how right) b)
last_compared o k swapped how given right b m r none is e f =
    subst (λ j. IfOk r (λ x. x ≡ with_items (last_link_by o j swapped how right) b)) (sym none)
    (subst (λ j. IfOk r (λ x. x ≡ with_items (last_link_by o None swapped j right) b)) is
    (then_ok b m r (bring_code given right) (alone (compare_by given o) ∷ []) e f))

-- or a user's operator
pub last_called : {E : Type 0} (o : Comparison) (k : Option ℕ) (f : ℕ) (swapped : Bool)
    (how : Right) (right : List Item) (b m n : Built) (r : Result Built E)
    → k ≡ Some f → m ≡ with_items (alone op.PushPri ∷ right) b
    → n ≡ with_items (alone op.PopAlt ∷ []) m → IfOk r (λ x. x ≡ with_items (two_code f swapped) n)
    → IfOk r (λ x. x ≡ with_items (last_link_by o k swapped how right) b)
last_called o k f swapped how right b m n r some e g h =
    subst (λ j. IfOk r (λ x. x ≡ with_items (last_link_by o j swapped how right) b)) (sym some)
    (then_ok b m r (alone op.PushPri ∷ right) (alone op.PopAlt ∷ two_code f swapped) e
    (then_ok m n r (alone op.PopAlt ∷ []) (two_code f swapped) g h))

pub middle_done : (b m n t j r : Built) (operand link : List Item)
    → m ≡ with_items (alone op.PushPri ∷ operand) b
    → n ≡ with_items (alone op.PopAlt ∷ alone op.PushPri ∷ []) m → t ≡ with_items link n
    → j ≡ with_items (jump_to op.Jzer 0 ∷ []) t
    → r ≡ with_items (alone op.PopPri ∷ []) j
    → r ≡ with_items (middle_link_code 0 operand link []) b
middle_done b m n t j r operand link e f g h k =
    let jump = jump_to op.Jzer 0 ∷ alone op.PopPri ∷ [] in
    then_grow b m r (alone op.PushPri ∷ operand)
    (alone op.PopAlt ∷ alone op.PushPri ∷ (link ++ jump)) e
    (then_grow m n r (alone op.PopAlt ∷ alone op.PushPri ∷ []) (link ++ jump) f
    (then_grow n t r link jump g (then_grow t j r (jump_to op.Jzer 0 ∷ [])
    (alone op.PopPri ∷ []) h k)))

-- ---- calls, behind their arguments

pub call_done : (b m n r : Built) (args : List Item) (f count cells all temporaries : ℕ)
    → count ≡ all → cells ≡ temporaries
    → m ≡ with_items args b → n ≡ with_items (taking op.PushC (pos (4 * count)) ∷ CallOf f ∷ []) m
    → r ≡ with_items (give_back_code cells) n → r ≡ with_items (call_code f all temporaries args) b
call_done b m n r args f count cells all temporaries ec et e g h =
    let last = taking op.PushC (pos (4 * count)) ∷ CallOf f ∷ [] in
    then_grow b n r (args ++ last) (give_back_code cells) (then_grow b m n args last e g) h
    ∙ ap (λ k. with_items (call_code f k cells args) b) ec
    ∙ ap (λ k. with_items (call_code f all k args) b) et

pub native_done : (b m n r : Built) (args : List Item) (f count cells all temporaries : ℕ)
    → count ≡ all → cells ≡ temporaries
    → m ≡ with_items args b
    → n ≡ with_items (taking op.PushC (pos (4 * count)) ∷ taking op.SysreqC (pos f)
    ∷ taking op.Stack (pos (4 * (count + 1))) ∷ []) m
    → r ≡ with_items (give_back_code cells) n
    → r ≡ with_items (native_code f all temporaries args) b
native_done b m n r args f count cells all temporaries ec et e g h =
    let last =
    taking op.PushC (pos (4 * count)) ∷ taking op.SysreqC (pos f)
    ∷ taking op.Stack (pos (4 * (count + 1))) ∷ [] in
    then_grow b n r (args ++ last) (give_back_code cells) (then_grow b m n args last e g) h
    ∙ ap (λ k. with_items (native_code f k cells args) b) ec
    ∙ ap (λ k. with_items (native_code f all k args) b) et

-- ---- an index, in an array that reaches so far

-- behind an array that waits, or before an instruction that sets its address
pub indexed : (base d : Option Base) (b m n r : Built) (array : List Item) (index : ℕ → List Item)
    (reach whole : Option Extent) (ends : Option Base → Option Extent → List Item) → d ≡ base
    → m ≡ with_items (array_part base array) b → n ≡ with_items (index (4 * length m.code)) m
    → reach ≡ whole → r ≡ with_items (ends d reach) n
    → r ≡ with_items (indexed_code base array (index (index_begin base (4 * length b.code) array))
    (ends base whole)) b
indexed None d b m n r array index reach whole ends is e f g h =
    let p : ℕ = 4 * length b.code in
    let push = alone op.PushPri ∷ [] in
    let tail = ends None whole in
    let done : r ≡ with_items tail n =
    h ∙ ap (λ k. with_items (ends k reach) n) is ∙ ap (λ z. with_items (ends None z) n) g in
    behind b m r (array ++ push) (λ q. index q ++ tail) e
    (then_grow m n r (index (4 * length m.code)) tail f done)
    ∙ ap (λ q. with_items ((array ++ push) ++ (index q ++ tail)) b) (past-append p array push)
    ∙ ap (λ l. with_items l b) (append_assoc array push (index (past p array + 4) ++ tail))
indexed (Some k) d b m n r array index reach whole ends is e f g h =
    let tail = ends (Some k) whole in
    let done : r ≡ with_items tail n =
    h ∙ ap (λ k2. with_items (ends k2 reach) n) is
    ∙ ap (λ z. with_items (ends (Some k) z) n) g in
    behind b m r [] (λ q. index q ++ tail) e
    (then_grow m n r (index (4 * length m.code)) tail f done)

pub then_indexed : {E : Type 0} (base d : Option Base) (b m n : Built) (r : Result Built E)
    (array : List Item) (index : ℕ → List Item) (reach whole : Option Extent)
    (ends : Option Base → Option Extent → List Item) → d ≡ base
    → m ≡ with_items (array_part base array) b → n ≡ with_items (index (4 * length m.code)) m
    → reach ≡ whole → IfOk r (λ x. x ≡ with_items (ends d reach) n)
    → IfOk r (λ x. x ≡ with_items (indexed_code base array
    (index (index_begin base (4 * length b.code) array)) (ends base whole)) b)
then_indexed base d b m n (Ok x) array index reach whole ends is e f g h =
    indexed base d b m n x array index reach whole ends is e f g h
then_indexed base d b m n (Err fault) array index reach whole ends is e f g h = h

-- an array before its index, where it waits
pub array_waits : (base : Option Base) (b m r : Built) (array : List Item) → None ≡ base
    → m ≡ with_items array b → r ≡ with_items (alone op.PushPri ∷ []) m
    → r ≡ with_items (array_part base array) b
array_waits base b m r array is e f =
    then_grow b m r array (alone op.PushPri ∷ []) e f
    ∙ ap (λ k. with_items (array_part k array) b) is

-- what stands at a place that no instruction reaches by itself
pub fetched : {E : Type 0} (o : Option Direct) (p : Scalar) (b m : Built) (r : Result Built E)
    (index : List Item) → None ≡ o → m ≡ with_items index b
    → IfOk r (λ x. x ≡ with_items (fetch_code p) m)
    → IfOk r (λ x. x ≡ with_items (read_by o p index) b)
fetched o p b m r index is e f =
    subst (λ k. IfOk r (λ x. x ≡ with_items (read_by k p index) b)) is
    (then_ok b m r index (fetch_code p) e f)

-- ---- nodes with a list

pub call_seen : (scope : Scope) (p : ℕ) (x : held.Expr) (f : ℕ) (args : List Arg)
    → x ≡ held.Call f args
    → value_items scope p (expr_view x)
    ≡ call_code f (count_of (args_view args)) (temporaries_in (args_view args))
    (args_items scope p (args_view args))
call_seen scope p x f args is =
    ap (λ e. value_items scope p e) (ap expr_view is ∙ expr_view-Call f args)

pub native_seen : (scope : Scope) (p : ℕ) (x : held.Expr) (n : ℕ) (args : List Arg)
    → x ≡ held.Native n args
    → value_items scope p (expr_view x)
    ≡ native_code n (count_of (args_view args)) (temporaries_in (args_view args))
    (args_items scope p (args_view args))
native_seen scope p x n args is =
    ap (λ e. value_items scope p e) (ap expr_view is ∙ expr_view-Native n args)

pub chain_seen : (scope : Scope) (p : ℕ) (x : held.Expr) (e : Box held.Expr Global)
    (links : List Link) → x ≡ held.Chain e links
    → value_items scope p (expr_view x)
    ≡ (let first = value_items scope p (expr_view e.value) in
    folded (fold (Chain (expr_view e.value) (links_view links)))
    (first ++ chain_items scope (past p first) (links_view links)))
chain_seen scope p x e links is =
    ap (λ l. value_items scope p l) (ap expr_view is ∙ expr_view-Chain e links)

pub chain_open : (x : held.Expr) (e : Box held.Expr Global) (links : List Link)
    → x ≡ held.Chain e links → fold (expr_view x) ≡ None
    → fold (Chain (expr_view e.value) (links_view links)) ≡ None
chain_open x e links is h =
    sym (ap (λ l. fold l) (ap expr_view is ∙ expr_view-Chain e links)) ∙ h

pub as_seen : {E : Type 0} (r : Result Built E) (b : Built) (is js : List Item) → js ≡ is
    → IfOk r (λ x. x ≡ with_items is b) → IfOk r (λ x. x ≡ with_items js b)
as_seen (Ok x) b is js e f = f ∙ ap (λ l. with_items l b) (sym e)
as_seen (Err fault) b is js e f = f
