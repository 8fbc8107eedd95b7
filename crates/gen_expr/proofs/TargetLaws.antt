-- A node that reads or writes a place has the code of its parts, by what is known of each step,
-- whether an instruction reaches the place by itself or not.
use Rattle.std.proofs.Common.{◌≡◌, ◌*◌, ℕ, ℤ, pos, negsuc, Bool, true, List, [], ◌∷◌, ◌++◌, Option}
use Rattle.std.proofs.Common.{None, Some, length, false, refl, sym, subst, ◌∙◌, Result, IfOk}
use Rattle.pawn_meaning.specs.Program.{Scalar, Global, Own, Element, Char}
use Rattle.pawn_meaning.specs.Program as node
use Rattle.amx_ops.specs.declared.op.Op.TheVariants as op
use Rattle.gen_sim.specs.Items.{Item}
use Rattle.gen_sim.specs.SimpleCode.{alone, operator_code, const_code}
use Rattle.gen_sim.specs.AccessCode.{load_code, store_code, stepped_code}
use Rattle.gen_sim.specs.DirectCode.{Direct, direct_store, direct_changed, direct_step}
use Rattle.gen_sim.specs.DirectCode.{direct_load, value_begin, step_by}
use Rattle.gen_sim.specs.OperandCode.{Right, Known, Placed, Waiting, known_code, loaded_code}
use Rattle.gen_sim.specs.ChangeCode.{assign_by, update_by, leaves_alt, known_update}
use Rattle.gen_sim.specs.OperandCode.{placed_code}
use Rattle.pawn_cells.specs.declared.operator.Operator.{Operator}
use Rattle.gen_sim.specs.DirectCode.{direct_effect, effect_there, effect_by}
use Rattle.gen_expr.specs.Built.{Built, with_items}
use Rattle.gen_expr.specs.TargetCode.{address_part, value_part, write_part, update_part}
use Rattle.gen_expr.specs.TargetCode.{operand_part, known_part, popped_part}
use Rattle.gen_expr.specs.TargetCode.{step_part, effect_there_part, effect_part}
use Rattle.gen_expr.proofs.GrowLaws.{then_ok, none_grow}
use Rattle.gen_expr.proofs.PartLaws.{behind}
use Rattle.gen_expr.proofs.NodeLaws.{then_both}

-- ---- a place, by itself

pub then_step : {E : Type 0} (o d : Option Direct) (p : Scalar) (delta : ℤ) (prefix : Bool)
    (b m : Built) (r : Result Built E) (place : List Item) → d ≡ o
    → m ≡ with_items (address_part o place) b
    → IfOk r (λ x. x ≡ with_items (step_part d p delta prefix) m)
    → IfOk r (λ x. x ≡ with_items (step_by o p delta prefix place) b)
then_step None d p delta prefix b m r place is e f =
    then_ok b m r place (alone op.MoveAlt ∷ (load_code p ++ stepped_code p delta prefix)) e
    (rw is at f)
then_step (Some k) d p delta prefix b m r place is e f =
    then_ok b m r [] (direct_step k delta prefix) e (rw is at f)

-- at its address
then_there : {E : Type 0} (p : Scalar) (delta : ℤ) (b m : Built) (r : Result Built E)
    (place : List Item) → m ≡ with_items place b
    → IfOk r (λ x. x ≡ with_items (effect_there_part p delta) m)
    → IfOk r (λ x. x ≡ with_items (effect_there p delta place) b)
then_there (Global o) (pos n) b m r place e f = then_ok b m r place (alone op.IncI ∷ []) e f
then_there (Global o) (negsuc n) b m r place e f = then_ok b m r place (alone op.DecI ∷ []) e f
then_there (Own s) (pos n) b m r place e f = then_ok b m r place (alone op.IncI ∷ []) e f
then_there (Own s) (negsuc n) b m r place e f = then_ok b m r place (alone op.DecI ∷ []) e f
then_there (node.Through s) (pos n) b m r place e f = then_ok b m r place (alone op.IncI ∷ []) e f
then_there (node.Through s) (negsuc n) b m r place e f =
    then_ok b m r place (alone op.DecI ∷ []) e f
then_there (Element a k) (pos n) b m r place e f = then_ok b m r place (alone op.IncI ∷ []) e f
then_there (Element a k) (negsuc n) b m r place e f = then_ok b m r place (alone op.DecI ∷ []) e f
then_there (Char a k) delta b m r place e f =
    then_ok b m r place
    (alone op.MoveAlt ∷ (load_code (Char a k) ++ stepped_code (Char a k) delta true)) e f

pub then_effect : {E : Type 0} (o d : Option Direct) (p : Scalar) (delta : ℤ)
    (b m : Built) (r : Result Built E) (place : List Item) → d ≡ o
    → m ≡ with_items (address_part o place) b
    → IfOk r (λ x. x ≡ with_items (effect_part d p delta) m)
    → IfOk r (λ x. x ≡ with_items (effect_by o p delta place) b)
then_effect None d p delta b m r place is e f =
    then_there p delta b m r place e (rw is at f)
then_effect (Some k) d p delta b m r place is e f =
    then_ok b m r [] (direct_effect k k.adds delta) e (rw is at f)

-- ---- a value for a place

-- which doesn't wait for an address
then_direct : {E : Type 0} (b m n : Built) (r : Result Built E) (value : ℕ → List Item)
    (tail : List Item)
    → m ≡ with_items [] b → n ≡ with_items (value (4 * length m.code)) m
    → IfOk r (λ x. x ≡ with_items tail n)
    → IfOk r (λ x. x ≡ with_items (value (4 * length b.code) ++ tail) b)
then_direct b m n r value tail e f g =
    then_ok b n r (value (4 * length b.code)) tail (behind b m n [] value e f) g

-- nothing was appended
same_code : (b m : Built) → m ≡ with_items [] b → m ≡ b
same_code b m e = e ∙ sym (none_grow b)

pub then_write : {E : Type 0} (o d t : Option Direct) (how k : Right) (p : Scalar) (b m n : Built)
    (r : Result Built E) (place : List Item) (value : ℕ → List Item) → d ≡ o → t ≡ d → k ≡ how
    → m ≡ with_items (address_part o place) b
    → n ≡ with_items (value_part d k (4 * length m.code) value) m
    → IfOk r (λ x. x ≡ with_items (write_part t k p) n)
    → IfOk r (λ x. x ≡ with_items
    (assign_by o how p place (value (value_begin o (4 * length b.code) place))) b)
then_write None d t (Known v) k p b m n r place value is same comes e f g =
    then_ok b m r place (alone op.MoveAlt ∷ (const_code v ++ store_code p)) e
    (then_ok m n r (alone op.MoveAlt ∷ const_code v) (store_code p) (rw (is, comes) at f)
    (rw (same ∙ is, comes) at g))
then_write None d t (Placed a) k p b m n r place value is same comes e f g =
    then_ok b m r place (alone op.MoveAlt ∷ (direct_load a ++ store_code p)) e
    (then_ok m n r (alone op.MoveAlt ∷ direct_load a) (store_code p) (rw (is, comes) at f)
    (rw (same ∙ is, comes) at g))
then_write None d t Waiting k p b m n r place value is same comes e f g =
    then_both b m n r place (alone op.PopAlt ∷ store_code p) value e (rw (is, comes) at f)
    (rw (same ∙ is, comes) at g)
then_write (Some a) d t how k p b m n r place value is same comes e f g =
    then_direct b m n r value (direct_store a) e (rw is at f) (rw (same ∙ is) at g)

known_shape : (c : Bool) (p : Scalar) (place change : List Item)
    → place ++ known_part c p change ≡ known_update c p place change
known_shape true p place change = refl
known_shape false p place change = refl

pub then_update : {E : Type 0} (o d t : Option Direct) (how k : Right) (p : Scalar) (f : Operator)
    (b m n : Built) (r : Result Built E) (place : List Item) (value : ℕ → List Item) → d ≡ o → t ≡ d
    → k ≡ how → m ≡ with_items (address_part o place) b
    → n ≡ with_items (operand_part d k (4 * length m.code) value) m
    → IfOk r (λ x. x ≡ with_items (update_part t k p f) n)
    → IfOk r (λ x. x ≡ with_items
    (update_by o how p f place (value (value_begin o (4 * length b.code) place))) b)
then_update None d t (Known v) k p f b m n r place value is same comes e g h =
    let at : n ≡ with_items place b = same_code m n (rw (is, comes) at g) ∙ e in
    let part = known_part (leaves_alt f) p (known_code f v) in
    subst (λ items. IfOk r (λ x. x ≡ with_items items b))
    (known_shape (leaves_alt f) p place (known_code f v))
    (then_ok b n r place part at (rw (same ∙ is, comes) at h))
then_update None d t (Placed a) k p f b m n r place value is same comes e g h =
    let at : n ≡ with_items place b = same_code m n (rw (is, comes) at g) ∙ e in
    then_ok b n r place (alone op.PushPri ∷ popped_part p (placed_code f a)) at
    (rw (same ∙ is, comes) at h)
then_update None d t Waiting k p f b m n r place value is same comes e g h =
    then_both b m n r place
    (alone op.PopAlt ∷ alone op.PushAlt ∷ alone op.Xchg ∷ popped_part p (loaded_code f)) value e
    (rw (is, comes) at g) (rw (same ∙ is, comes) at h)
then_update (Some a) d t (Known v) k p f b m n r place value is same comes e g h =
    let at : n ≡ with_items [] b = same_code m n (rw (is, comes) at g) ∙ e in
    then_ok b n r [] (direct_load a ++ (known_code f v ++ direct_store a)) at
    (rw (same ∙ is, comes) at h)
then_update (Some a) d t (Placed c) k p f b m n r place value is same comes e g h =
    let at : n ≡ with_items [] b = same_code m n (rw (is, comes) at g) ∙ e in
    then_ok b n r [] (direct_load a ++ (placed_code f c ++ direct_store a)) at
    (rw (same ∙ is, comes) at h)
then_update (Some a) d t Waiting k p f b m n r place value is same comes e g h =
    then_direct b m n r value (direct_changed a (operator_code f)) e (rw (is, comes) at g)
    (rw (same ∙ is, comes) at h)
