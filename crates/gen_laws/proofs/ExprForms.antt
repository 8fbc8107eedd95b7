-- The code of each valid expression leads to itself or to its end.
use Rattle.std.proofs.Common.{◌+◌, ◌*◌, ℕ, pos, List, [], ◌∷◌, ◌++◌, Bool, Option, length, refl}
use Rattle.pawn_cells.specs.declared.operator.Comparison.{Comparison}
use Rattle.pawn_meaning.specs.Program.{Scalar, Global, Own, Through, Element, Char, Array, Object}
use Rattle.pawn_meaning.specs.Program.{SlotArray, ParamArray, Row, From, Expr, Const, Read, Unary}
use Rattle.pawn_meaning.specs.Program.{Binary, Chain, And, Or, Cond, Assign, Update, UpdateBy, Step}
use Rattle.pawn_meaning.specs.Program.{StepBy, Copy, Operate, OperateOne, Call, Native, Seq, Links}
use Rattle.pawn_meaning.specs.Program.{no_links, then_link, Arg, Value, Ref, Whole, Temp, Args}
use Rattle.pawn_meaning.specs.Program.{no_args, then_arg}
use Rattle.pawn_meaning.specs.Scope.{Scope, extent}
use Rattle.pawn_meaning.specs.ValidExprs.{IsValidScalar, IsValidArray, IsValidExpr, AreValidLinks}
use Rattle.pawn_meaning.specs.ValidExprs.{IsValidArg, AreValidArgs}
use Rattle.pawn_meaning.specs.Fold.{fold}
use Rattle.pawn_meaning.specs.Need.{count_of}
use Rattle.amx_ops.specs.declared.op.Op.TheVariants as op
use Rattle.gen_sim.specs.Items.{Item, past}
use Rattle.gen_sim.specs.Results.{temporaries_in}
use Rattle.gen_sim.specs.SimpleCode.{alone, taking, const_code, prefix_op}
use Rattle.gen_sim.specs.AccessCode.{load_code, changed_code, turned_code, address_code}
use Rattle.gen_sim.specs.JumpCode.{other_at, choice_code, truth_code}
use Rattle.gen_sim.specs.PlaceItems.{object_address, slot_offset, object_code, slot_code}
use Rattle.gen_sim.specs.PlaceItems.{through_code}
use Rattle.gen_sim.specs.BaseCode.{base_of, index_begin}
use Rattle.gen_sim.specs.IndexCode.{element_code, rest_code, row_code}
use Rattle.gen_sim.specs.CallCode.{one_code, two_code, convert_code}
use Rattle.gen_sim.specs.ChainCode.{link_code, last_link_by, fail_at}
use Rattle.gen_laws.specs.ExprCode.{known_size, link_with, others_at, linked_with, place_items}
use Rattle.gen_laws.specs.ExprCode.{index_items}
use Rattle.gen_laws.specs.ExprCode.{array_items, value_items, links_items, arg_items, args_items}
use Rattle.gen_laws.specs.ExprCode.{effect_items}
use Rattle.gen_sim.specs.DirectCode.{direct_of, value_begin}
use Rattle.gen_sim.specs.OperandCode.{right_of, operate_by, Right}
use Rattle.gen_sim.specs.PushCode.{value_push, left_by}
use Rattle.gen_laws.proofs.LinkEnds.{links_end}
use Rattle.gen_laws.proofs.Shapes.{base_fine, element_closed, character_closed, row_fine, rest_fine}
use Rattle.gen_laws.proofs.Shapes.{own_closed, part_closed, both_closed}
use Rattle.gen_laws.proofs.Shapes.{choice_closed, truth_fine, const_fine, object_fine, slot_fine}
use Rattle.gen_laws.proofs.Shapes.{through_fine, temporary_closed, call_closed, native_closed}
use Rattle.gen_laws.proofs.Shapes.{AreLinked, closed_linked, middle_link_linked, ended_closed}
use Rattle.gen_laws.proofs.DirectShapes.{direct_fine, read_closed, assign_closed, update_closed}
use Rattle.gen_laws.proofs.DirectShapes.{step_closed, right_fine, operate_closed, folded_closed}
use Rattle.gen_laws.proofs.DirectShapes.{effects_fine, IsFineRight, effect_by_closed, quiet_fine}
use Rattle.gen_laws.proofs.DirectShapes.{last_by_closed}
use Rattle.gen_laws.proofs.PushLaws.{value_push_closed, left_closed, place_push_closed}
use Rattle.gen_laws.proofs.PushLaws.{array_push_closed}
use Rattle.gen_laws.specs.Fine.{AreFine, AreClosed}
use Rattle.gen_laws.proofs.FineLaws.{Nowhere, fine_both, closed_both}
use Rattle.gen_laws.proofs.FineItems.{alone_fine, length_fine, prefix_fine, load_fine, changed_fine}
use Rattle.gen_laws.proofs.FineItems.{turned_fine, one_fine, two_fine, convert_fine, link_fine}
use Rattle.gen_laws.proofs.FineItems.{address_fine}

copy_tail : (natives n : ℕ) → AreFine natives Nowhere
    (taking op.Movs (pos (4 * n)) ∷ alone op.ZeroPri ∷ [])
copy_tail natives n = (
  length_fine natives Nowhere op.Movs (4 * n) refl refl,
  (alone_fine natives Nowhere op.ZeroPri refl refl, tt),
)

loaded_tail : (natives : ℕ) (s : Scalar) (last : List Item) → AreFine natives Nowhere last
    → AreFine natives Nowhere (alone op.MoveAlt ∷ (load_code s ++ last))
loaded_tail natives s last h = (
  alone_fine natives Nowhere op.MoveAlt refl refl,
  fine_both natives Nowhere (load_code s) last (load_fine natives s) h,
)

module _ (scope : Scope) where
  abbrev natives : ℕ
  natives = length scope.program.natives

  -- ---- links

  link_closed_by : (begin fail : ℕ) (o : Comparison) (f : Option ℕ) (swapped : Bool) (how : Right)
      → IsFineRight natives how → (operand : List Item) (links : Links) (others : List Item)
      → AreClosed natives (begin + 4) operand
      → AreLinked natives fail (others_at begin operand (link_code o f swapped)) others
      → AreLinked natives fail begin (link_with fail o f swapped how operand links others)
  link_closed_by begin fail o f swapped how t operand no_links others h k =
      closed_linked natives fail begin (last_link_by o f swapped how operand)
      (last_by_closed natives begin o f swapped how t operand h)
  link_closed_by begin fail o f swapped how t operand (then_link o2 e2 f2 swapped2 links) others h
      k =
      middle_link_linked natives fail begin operand (link_code o f swapped) others h
      (link_fine natives o f swapped) k

  abbrev FirstForm : ℕ → Links → Type 0
  FirstForm begin no_links = Unit {0}
  FirstForm begin (then_link o e f swapped links) =
      AreClosed natives (begin + 4) (value_items scope (begin + 4) e)

  chain_closed_by : (p : ℕ) (links : Links) → FirstForm p links
      → ((fail : ℕ) → AreLinked natives fail p (links_items scope p fail links))
      → AreClosed natives p (linked_with (past p (links_items scope p 0 links)) links
      (links_items scope p (fail_at (past p (links_items scope p 0 links))) links))
  chain_closed_by p no_links part h = tt
  chain_closed_by p (then_link o e f swapped no_links) part h =
      last_by_closed natives p o f swapped (right_of scope e) (right_fine natives scope e)
      (value_items scope (p + 4) e) part
  chain_closed_by p (then_link o e f swapped (then_link o2 e2 f2 swapped2 links)) part h =
      let all = then_link o e f swapped (then_link o2 e2 f2 swapped2 links) in
      let q = past p (links_items scope p 0 all) in
      ended_closed natives p q (links_items scope p (fail_at q) all)
      (links_end scope all p (fail_at q) 0) (h (fail_at q))

  -- ---- each node

  place_form : (p : Scalar) (begin : ℕ) → AreClosed natives begin (index_items scope begin p)
      → AreClosed natives begin (place_items scope begin p)
  place_form p begin part =
      part_closed natives begin (index_items scope begin p) (address_code p) part
      (address_fine natives p)

  mutual
    pub index_closed : (p : Scalar) → IsValidScalar scope p → (begin : ℕ)
        → AreClosed natives begin (index_items scope begin p)
    index_closed (Global o) h begin =
        own_closed natives begin (object_code scope.program o)
        (object_fine natives (object_address scope.program o))
    index_closed (Own s) h begin =
        own_closed natives begin (slot_code scope s) (slot_fine natives (slot_offset scope s))
    index_closed (Through s) h begin =
        own_closed natives begin (through_code s) (through_fine natives s)
    index_closed (Element a e) h begin =
        let array = array_items scope begin a in
        let q = index_begin (base_of scope a) begin array in
        element_closed natives begin (base_of scope a) (base_fine natives scope a)
        (known_size (extent scope a)) array (value_items scope q e) (array_closed a h.1 begin)
        (value_closed e h.2 q)
    index_closed (Char a e) h begin =
        let array = array_items scope begin a in
        let q = index_begin (base_of scope a) begin array in
        character_closed natives begin (base_of scope a) (base_fine natives scope a)
        (known_size (extent scope a)) array (value_items scope q e) (array_closed a h.1 begin)
        (value_closed e h.2 q)

    pub array_closed : (a : Array) → IsValidArray scope a → (begin : ℕ)
        → AreClosed natives begin (array_items scope begin a)
    array_closed (Object o) h begin =
        own_closed natives begin (object_code scope.program o)
        (object_fine natives (object_address scope.program o))
    array_closed (SlotArray s) h begin =
        own_closed natives begin (slot_code scope s) (slot_fine natives (slot_offset scope s))
    array_closed (ParamArray s known) h begin =
        own_closed natives begin (through_code s) (through_fine natives s)
    array_closed (Row a e) h begin =
        let array = array_items scope begin a in
        let q = index_begin (base_of scope a) begin array in
        let size = known_size (extent scope a) in
        let index = value_items scope q e in
        part_closed natives begin (element_code (base_of scope a) size array index) row_code
        (element_closed natives begin (base_of scope a) (base_fine natives scope a) size array index
        (array_closed a h.1 begin) (value_closed e h.2 q)) (row_fine natives)
    array_closed (From a e) h begin =
        let array = array_items scope begin a in
        let q = index_begin (base_of scope a) begin array in
        let size = known_size (extent scope a) in
        let index = value_items scope q e in
        part_closed natives begin (element_code (base_of scope a) size array index) rest_code
        (element_closed natives begin (base_of scope a) (base_fine natives scope a) size array index
        (array_closed a h.1 begin) (value_closed e h.2 q)) (rest_fine natives)

    pub value_closed : (e : Expr) → IsValidExpr scope e → (begin : ℕ)
        → AreClosed natives begin (value_items scope begin e)
    value_closed (Const v) h begin = own_closed natives begin (const_code v) (const_fine natives v)
    value_closed (Read p) h begin =
        read_closed natives begin (direct_of scope p) (direct_fine natives scope p) p
        (index_items scope begin p) (index_closed p h begin)
    value_closed (Unary o e) h begin =
        folded_closed natives begin (fold (Unary o e)) _
        (part_closed natives begin (value_items scope begin e) (alone (prefix_op o) ∷ [])
        (value_closed e h begin) (prefix_fine natives o))
    value_closed (Binary o l r) h begin =
        let how = right_of scope r in
        let left = left_by how (value_push scope l) (value_items scope begin l) in
        let q = past begin left in
        folded_closed natives begin (fold (Binary o l r)) _
        (closed_both natives begin left (operate_by o how (value_items scope q r))
        (left_closed natives scope begin how l (value_items scope begin l) (value_closed l h.0 begin))
        (operate_closed natives q o how (right_fine natives scope r) (value_items scope q r)
        (value_closed r h.1 q)))
    value_closed (Chain e links) h begin =
        let first = value_items scope begin e in
        let p = past begin first in
        let q = past p (links_items scope p 0 links) in
        folded_closed natives begin (fold (Chain e links)) _ (closed_both natives begin first
        (linked_with q links (links_items scope p (fail_at q) links)) (value_closed e h.1 begin)
        (chain_closed_by p links (first_closed links h.2 p)
        (λ fail. links_closed links h.2 fail p)))
    value_closed (And l r) h begin =
        let left = value_items scope begin l in
        let p = past begin left in
        folded_closed natives begin (fold (And l r)) _ (closed_both natives begin left
        (choice_code p (value_items scope (p + 8) r ++ truth_code) (const_code (pos 0)))
        (value_closed l h.0 begin)
        (choice_closed natives p (value_items scope (p + 8) r ++ truth_code) (const_code (pos 0))
        (part_closed natives (p + 8) (value_items scope (p + 8) r) truth_code
        (value_closed r h.1 (p + 8)) (truth_fine natives))
        (own_closed natives 0 (const_code (pos 0)) (const_fine natives (pos 0)))))
    value_closed (Or l r) h begin =
        let left = value_items scope begin l in
        let p = past begin left in
        let q = other_at p (const_code (pos 1)) in
        folded_closed natives begin (fold (Or l r)) _ (closed_both natives begin left
        (choice_code p (const_code (pos 1)) (value_items scope q r ++ truth_code))
        (value_closed l h.0 begin)
        (choice_closed natives p (const_code (pos 1)) (value_items scope q r ++ truth_code)
        (own_closed natives 0 (const_code (pos 1)) (const_fine natives (pos 1)))
        (part_closed natives q (value_items scope q r) truth_code (value_closed r h.1 q)
        (truth_fine natives))))
    value_closed (Cond c a b) h begin =
        let condition = value_items scope begin c in
        let p = past begin condition in
        let first = value_items scope (p + 8) a in
        let q = other_at p first in
        folded_closed natives begin (fold (Cond c a b)) _ (closed_both natives begin condition
        (choice_code p first (value_items scope q b)) (value_closed c h.0 begin)
        (choice_closed natives p first (value_items scope q b) (value_closed a h.1 (p + 8))
        (value_closed b h.2 q)))
    value_closed (Assign p e) h begin =
        let place = place_items scope begin p in
        let q = value_begin (direct_of scope p) begin place in
        assign_closed natives begin (direct_of scope p) (direct_fine natives scope p)
        (right_of scope e) (quiet_fine natives scope e) p place (value_items scope q e)
        (place_form p begin (index_closed p h.0 begin)) (value_closed e h.1 q)
    value_closed (Update p o e) h begin =
        let place = place_items scope begin p in
        let q = value_begin (direct_of scope p) begin place in
        update_closed natives begin (direct_of scope p) (direct_fine natives scope p)
        (right_of scope e) (quiet_fine natives scope e) p o place (value_items scope q e)
        (place_form p begin (index_closed p h.0 begin)) (value_closed e h.1 q)
    value_closed (UpdateBy p f swapped e convert) h begin =
        let place = place_items scope begin p in
        let q = past begin place + 4 in
        let change = two_code f swapped ++ convert_code convert in
        both_closed natives begin place (value_items scope q e) (changed_code p change)
        (place_form p begin (index_closed p h.2 begin)) (value_closed e h.3 q)
        (changed_fine natives p change
        (fine_both natives Nowhere (two_code f swapped) (convert_code convert)
        (two_fine natives f swapped) (convert_fine natives convert)))
    value_closed (Step p delta prefix) h begin =
        step_closed natives begin (direct_of scope p) (direct_fine natives scope p) p delta prefix
        (place_items scope begin p) (place_form p begin (index_closed p h.1 begin))
    value_closed (StepBy p f prefix) h begin =
        part_closed natives begin (place_items scope begin p) _ (place_form p begin (index_closed p
        h.1 begin))
        (loaded_tail natives p (turned_code p (one_code f) prefix)
        (turned_fine natives p (one_code f) prefix (one_fine natives f)))
    value_closed (Copy to from n) h begin =
        let first = array_items scope begin to in
        let q = past begin first + 4 in
        both_closed natives begin first (array_items scope q from) _ (array_closed to h.2 begin)
        (array_closed from h.3 q) (copy_tail natives n)
    value_closed (Operate f l r swapped) h begin =
        let left = value_items scope begin l in
        let q = past begin left + 4 in
        both_closed natives begin left (value_items scope q r) (two_code f swapped)
        (value_closed l h.1 begin) (value_closed r h.2 q) (two_fine natives f swapped)
    value_closed (OperateOne f e) h begin =
        part_closed natives begin (value_items scope begin e) (one_code f)
        (value_closed e h.1 begin) (one_fine natives f)
    value_closed (Call f args) h begin =
        call_closed natives begin f (count_of args) (temporaries_in args)
        (args_items scope begin args) (args_closed args h.3 begin)
    value_closed (Native n args) h begin =
        native_closed natives begin n (count_of args) (temporaries_in args)
        (args_items scope begin args) h.0 (args_closed args h.1 begin)
    value_closed (Seq a b) h begin =
        let first = value_items scope begin a in
        closed_both natives begin first (value_items scope (past begin first) b)
        (value_closed a h.0 begin) (value_closed b h.1 (past begin first))

    first_closed : (links : Links) → AreValidLinks scope links → (p : ℕ) → FirstForm p links
    first_closed no_links h p = tt
    first_closed (then_link o e f swapped links) h p = value_closed e h.1 (p + 4)

    links_closed : (links : Links) → AreValidLinks scope links → (fail begin : ℕ)
        → AreLinked natives fail begin (links_items scope begin fail links)
    links_closed no_links h fail begin = tt
    links_closed (then_link o e f swapped links) h fail begin =
        let operand = value_items scope (begin + 4) e in
        let link = link_code o f swapped in
        let p = others_at begin operand link in
        link_closed_by begin fail o f swapped (right_of scope e) (right_fine natives scope e) operand
        links (links_items scope p fail links) (value_closed e h.1 (begin + 4))
        (links_closed links h.2 fail p)

    pub arg_closed : (a : Arg) → IsValidArg scope a → (begin : ℕ)
        → AreClosed natives begin (arg_items scope begin a)
    arg_closed (Value e) h begin =
        value_push_closed natives scope begin e (value_items scope begin e) (value_closed e h begin)
    arg_closed (Ref p) h begin =
        place_push_closed natives scope begin p (place_items scope begin p)
        (place_form p begin (index_closed p h.1 begin))
    arg_closed (Whole a) h begin =
        array_push_closed natives scope begin a (array_items scope begin a) (array_closed a h begin)
    arg_closed (Temp e) h begin =
        temporary_closed natives begin (value_items scope begin e) (value_closed e h begin)

    pub args_closed : (args : Args) → AreValidArgs scope args → (begin : ℕ)
        → AreClosed natives begin (args_items scope begin args)
    args_closed no_args h begin = tt
    args_closed (then_arg a args) h begin =
        let others = args_items scope begin args in
        closed_both natives begin others (arg_items scope (past begin others) a)
        (args_closed args h.1 begin) (arg_closed a h.0 (past begin others))

  -- ---- values that aren't used

  pub effect_closed : (e : Expr) → IsValidExpr scope e → (begin : ℕ)
      → AreClosed natives begin (effect_items scope begin e)
  effect_closed (Step p delta prefix) h begin =
      effect_by_closed natives begin (direct_of scope p) (direct_fine natives scope p)
      (effects_fine natives scope p) p delta (place_items scope begin p)
      (place_form p begin (index_closed p h.1 begin))
  effect_closed (Seq a b) h begin =
      let first = effect_items scope begin a in
      closed_both natives begin first (effect_items scope (past begin first) b)
      (effect_closed a h.0 begin) (effect_closed b h.1 (past begin first))
  effect_closed e h begin = value_closed e h begin
