-- Statements without a part that is a statement.
use Rattle.std.proofs.Common.{◌≡◌, ◌+◌, ◌*◌, ℕ, ℤ, pos, List, [], ◌∷◌, ◌++◌, length, ap, ◌∙◌, arith}
use Rattle.std.specs.Prelude.{neg_ℤ}
use Rattle.amx_ops.specs.declared.op.Op.TheVariants as op
use Rattle.gen_sim.specs.Items.{Item}
use Rattle.gen_sim.specs.SimpleCode.{alone, taking}
use Rattle.gen_sim.specs.JumpCode.{jump_to, choice_code, cond_code}
use Rattle.gen_sim.specs.FlowCode.{assert_code}
use Rattle.gen_laws.specs.MadeCode.{taken_code}
use Rattle.gen_expr.specs.Built.{Built, with_items}
use Rattle.gen_expr.specs.Filled.{filled}
use Rattle.gen_expr.proofs.GrowLaws.{then_grow, none_grow}
use Rattle.gen_expr.proofs.PartLaws.{behind}
use Rattle.gen_expr.proofs.JumpLaws.{choice_done}
use Rattle.gen_stmt.specs.declared.draft.Draft.{Draft}
use Rattle.gen_stmt.specs.Grown.{Grown}
use Rattle.gen_stmt.proofs.GrownLaws.{code_grown, then_grown, plain_grown}
use Rattle.gen_stmt.proofs.OkLaws.{then_plain}

-- a value, then what is done with it, then one more
pub two_more : (b v l r : Draft) (value : List Item) (left : List Item) (last : List Item)
    → Grown b v (λ exits. value) → Grown v l (λ exits. left)
    → r ≡ record { code = with_items last l.code; holes = l.holes }
    → Grown b r (λ exits. value ++ (left ++ last))
two_more b v l r value left last f g e =
    then_grown b v r (λ exits. value) (λ exits. left ++ last) f
    (then_plain v l r (λ exits. left) last g e)

pub halt_done : (b v t r : Draft) (value : List Item) (tag reason : ℤ) → Grown b v (λ exits. value)
    → t ≡ record { code = with_items (taking op.ConstAlt tag ∷ []) v.code; holes = v.holes }
    → r ≡ record { code = with_items (taking op.Halt reason ∷ []) t.code; holes = t.holes }
    → Grown b r (λ exits. value ++ (taking op.ConstAlt tag ∷ taking op.Halt reason ∷ []))
halt_done b v t r value tag reason f e g =
    two_more b v t r value (taking op.ConstAlt tag ∷ []) (taking op.Halt reason ∷ []) f
    (plain_grown v t (taking op.ConstAlt tag ∷ []) e) g

assert_shape : (p : ℕ) → taking op.Jzer (pos (p + 16)) ∷ taking op.Jump (pos (p + 24))
    ∷ taking op.Halt (pos 2) ∷ []
    ≡ choice_code p [] (taking op.Halt (pos 2) ∷ [])
assert_shape p =
    let other : p + 16 ≡ p + 8 + 8 = omega arith in
    let end : p + 24 ≡ p + 8 + 8 + 8 = omega arith in
    ap (λ n. jump_to op.Jzer n ∷ taking op.Jump (pos (p + 24)) ∷ taking op.Halt (pos 2) ∷ []) other
    ∙ ap (λ n. jump_to op.Jzer (p + 8 + 8) ∷ jump_to op.Jump n ∷ taking op.Halt (pos 2) ∷ []) end

pub assert_done : (b : Draft) (v r : Built) (value : List Item) → v ≡ with_items value b.code
    → r ≡ with_items (taking op.Jzer (pos (4 * length v.code + 16))
    ∷ taking op.Jump (pos (4 * length v.code + 24)) ∷ taking op.Halt (pos 2) ∷ []) v
    → Grown b (record { code = r; holes = b.holes })
    (λ exits. assert_code (4 * length b.code.code) value)
assert_done b v r value e f =
    code_grown b r (assert_code (4 * length b.code.code) value)
    (behind b.code v r value (λ q. choice_code q [] (taking op.Halt (pos 2) ∷ [])) e
    (f ∙ ap (λ l. with_items l v) (assert_shape (4 * length v.code))))

-- what is done where a value isn't 0
pub chosen_done : (b j x t r : Built) (first : List Item) (other end : ℕ)
    → j ≡ with_items (jump_to op.Jzer 0 ∷ []) b → other + 1 ≡ length j.code
    → x ≡ with_items first j → t ≡ with_items (jump_to op.Jump 0 ∷ [])
    (filled other (pos (4 * length x.code + 8)) x) → end + 1 ≡ length t.code
    → r ≡ filled end (pos (4 * length t.code)) t
    → r ≡ with_items (choice_code (4 * length b.code) first []) b
chosen_done b j x t r first other end ej eo ex et ee er =
    choice_done b j x t t r first (λ q. []) other end ej eo ex et ee (none_grow t) er

pub state_done : (b : Draft) (t r : Built) (condition first : List Item)
    → t ≡ with_items condition b.code
    → r ≡ with_items (choice_code (4 * length t.code) first []) t
    → Grown b (record { code = r; holes = b.holes })
    (λ exits. cond_code (4 * length b.code.code) condition first [])
state_done b t r condition first e f =
    code_grown b r (cond_code (4 * length b.code.code) condition first [])
    (behind b.code t r condition (λ q. choice_code q first []) e f)

-- a local array, by its cells
pub array_done : (b t f r : Built) (object : List Item) (own n : ℕ) (bytes down : ℤ) → own ≡ n
    → bytes ≡ pos (4 * own) → down ≡ neg_ℤ (pos (4 * own))
    → t ≡ with_items (taking op.Stack down ∷ taking op.Lctrl (pos 4) ∷ alone op.MoveAlt ∷ []) b
    → f ≡ with_items object t
    → r ≡ with_items (taking op.Movs bytes ∷ []) f
    → r ≡ with_items (taken_code n (object ++ taking op.Movs (pos (4 * n)) ∷ [])) b
array_done b t f r object own n bytes down eo eb ed et ef er =
    let head : ℤ → List Item =
    λ v. taking op.Stack v ∷ taking op.Lctrl (pos 4) ∷ alone op.MoveAlt ∷ [] in
    then_grow b t r (head down) (object ++ taking op.Movs bytes ∷ []) et
    (then_grow t f r object (taking op.Movs bytes ∷ []) ef er)
    ∙ ap (λ v. with_items (head v ++ (object ++ taking op.Movs bytes ∷ [])) b) ed
    ∙ ap (λ v. with_items (head (neg_ℤ (pos (4 * own))) ++ (object ++ taking op.Movs v ∷ [])) b) eb
    ∙ ap (λ k. with_items (taken_code k (object ++ taking op.Movs (pos (4 * k)) ∷ [])) b) eo
