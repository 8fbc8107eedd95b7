-- The code of each node is within its weight, with twenty cells to spare for what stands around it.
use Rattle.std.proofs.Common.{◌≡◌, ◌+◌, ◌*◌, ◌≤◌, ℕ, pos, List, [], ◌∷◌, ◌++◌, Bool, Option, arith}
use Rattle.pawn_cells.specs.declared.operator.Comparison.{Comparison}
use Rattle.pawn_meaning.specs.Program.{Scalar, Global, Own, Through, Element, Char, Array, Object}
use Rattle.pawn_meaning.specs.Program.{SlotArray, ParamArray, Row, From, Expr, Const, Read, Unary}
use Rattle.pawn_meaning.specs.Program.{Binary, Chain, And, Or, Cond, Assign, Update, UpdateBy, Step}
use Rattle.pawn_meaning.specs.Program.{StepBy, Copy, Operate, OperateOne, Call, Native, Seq, Links}
use Rattle.pawn_meaning.specs.Program.{no_links, then_link, Arg, Value, Ref, Whole, Temp, Args}
use Rattle.pawn_meaning.specs.Program.{no_args, then_arg}
use Rattle.pawn_meaning.specs.Scope.{Scope, extent}
use Rattle.pawn_meaning.specs.Need.{count_of}
use Rattle.pawn_meaning.specs.Weight.{scalar_weight, array_weight, expr_weight, links_weight}
use Rattle.pawn_meaning.specs.Weight.{arg_weight, args_weight, folds}
use Rattle.pawn_meaning.specs.Fold.{fold}
use Rattle.amx_ops.specs.declared.op.Op.TheVariants as op
use Rattle.gen_sim.specs.Items.{Item, CallOf, past}
use Rattle.gen_sim.specs.Results.{temporaries_in}
use Rattle.gen_sim.proofs.ItemLaws.{count-append}
use Rattle.gen_sim.specs.SimpleCode.{alone, taking, const_code, prefix_op}
use Rattle.gen_sim.specs.AccessCode.{load_code, changed_code, turned_code, address_code}
use Rattle.gen_sim.specs.JumpCode.{other_at, choice_code, truth_code}
use Rattle.gen_sim.specs.BaseCode.{base_of, index_begin}
use Rattle.gen_sim.specs.IndexCode.{element_code, rest_code, row_code}
use Rattle.gen_sim.specs.CallCode.{one_code, two_code, convert_code, give_back_code}
use Rattle.gen_sim.specs.ChainCode.{link_code, fail_at, chain_end_code}
use Rattle.gen_laws.specs.ExprCode.{known_size, link_with, others_at, linked_with, index_items}
use Rattle.gen_laws.specs.ExprCode.{place_items}
use Rattle.gen_laws.specs.ExprCode.{array_items, value_items, links_items, arg_items, args_items}
use Rattle.gen_laws.specs.ExprCode.{effect_items}
use Rattle.gen_laws.proofs.Counts.{count, prefix_count, load_count, changed_count}
use Rattle.gen_laws.proofs.Counts.{turned_count, address_count, element_count, character_count}
use Rattle.gen_laws.proofs.Counts.{base_two, two_count, convert_count, give_back_count, link_count}
use Rattle.gen_laws.proofs.Counts.{direct_two, read_count, step_count, const_count, right_two}
use Rattle.gen_laws.proofs.Counts.{operate_count, folded_count, effect_two, both_count}
use Rattle.gen_laws.proofs.Counts.{choice_count, IsRightTwo, last_by_count, middle_link_count}
use Rattle.gen_laws.proofs.ChangeCounts.{assign_count, update_count, effect_count, quiet_two}
use Rattle.gen_sim.specs.DirectCode.{direct_of, value_begin}
use Rattle.gen_sim.specs.OperandCode.{Right, right_of}
use Rattle.gen_sim.specs.OperandCode.{operate_by}
use Rattle.gen_sim.specs.PushCode.{value_push, left_by}
use Rattle.gen_laws.proofs.PushLaws.{value_push_count, left_count, place_push_count}
use Rattle.gen_laws.proofs.PushLaws.{array_push_count}

-- ---- links

link_light : (fail : ℕ) (o : Comparison) (f : Option ℕ) (swapped : Bool) (how : Right)
    → IsRightTwo how → (operand : List Item) (links : Links) (others : List Item)
    → count (link_with fail o f swapped how operand links others) ≤ count operand + count others + 12
link_light fail o f swapped how h operand no_links others =
    omega (arith, last_by_count o f swapped how h operand)
link_light fail o f swapped how h operand (then_link o2 e2 f2 swapped2 links) others =
    omega (
      arith,
      middle_link_count fail operand (link_code o f swapped) others,
      link_count o f swapped,
    )

chain_light : (q : ℕ) (links : Links) (items : List Item)
    → count (linked_with q links items) ≤ count items + 5
chain_light q no_links items = omega arith
chain_light q (then_link o e f swapped no_links) items = omega arith
chain_light q (then_link o e f swapped (then_link o2 e2 f2 swapped2 links)) items =
    omega (arith, count-append items (chain_end_code q))

-- a place, its load, and what changes the value
stepping_count : (items load last : List Item)
    → count (items ++ (alone op.MoveAlt ∷ (load ++ last)))
    ≡ count items + 1 + count load + count last
stepping_count items load last =
    omega (
      arith,
      count-append items (alone op.MoveAlt ∷ (load ++ last)),
      count-append load last,
    )

-- arguments, a call, and what gives the temporary ones back
given_count : (items last : List Item) (n : ℕ)
    → count ((items ++ last) ++ give_back_code n) ≤ count items + count last + 2
given_count items last n =
    omega (
      arith,
      count-append (items ++ last) (give_back_code n),
      count-append items last,
      give_back_count n,
    )

-- ---- each node

module _ (scope : Scope) where
  -- where an index begins
  abbrev index_at : ℕ → Array → ℕ
  index_at begin a = index_begin (base_of scope a) begin (array_items scope begin a)

  place_within : (p : Scalar) (begin : ℕ)
      → count (index_items scope begin p) + 25 ≤ scalar_weight folds p
      → count (place_items scope begin p) + 20 ≤ scalar_weight folds p
  place_within p begin h =
      omega (arith, count-append (index_items scope begin p) (address_code p), address_count p, h)

  mutual
    pub index_light : (p : Scalar) (begin : ℕ)
        → count (index_items scope begin p) + 25 ≤ scalar_weight folds p
    index_light (Global o) begin = omega arith
    index_light (Own s) begin = omega arith
    index_light (Through s) begin = omega arith
    index_light (Element a e) begin =
        omega (
          arith,
          element_count (base_of scope a) (base_two scope a) (known_size (extent scope a))
              (array_items scope begin a) (value_items scope (index_at begin a) e),
          array_light a begin,
          value_light e (index_at begin a),
        )
    index_light (Char a e) begin =
        omega (
          arith,
          character_count (base_of scope a) (base_two scope a) (known_size (extent scope a))
              (array_items scope begin a) (value_items scope (index_at begin a) e),
          array_light a begin,
          value_light e (index_at begin a),
        )

    pub array_light : (a : Array) (begin : ℕ)
        → count (array_items scope begin a) + 20 ≤ array_weight folds a
    array_light (Object o) begin = omega arith
    array_light (SlotArray s) begin = omega arith
    array_light (ParamArray s known) begin = omega arith
    array_light (Row a e) begin =
        let array = array_items scope begin a in
        let index = value_items scope (index_at begin a) e in
        let size = known_size (extent scope a) in
        omega (
          arith,
          element_count (base_of scope a) (base_two scope a) size array index,
          count-append (element_code (base_of scope a) size array index) row_code,
          array_light a begin,
          value_light e (index_at begin a),
        )
    array_light (From a e) begin =
        let array = array_items scope begin a in
        let index = value_items scope (index_at begin a) e in
        let size = known_size (extent scope a) in
        omega (
          arith,
          element_count (base_of scope a) (base_two scope a) size array index,
          count-append (element_code (base_of scope a) size array index) rest_code,
          array_light a begin,
          value_light e (index_at begin a),
        )

    pub value_light : (e : Expr) (begin : ℕ)
        → count (value_items scope begin e) + 20 ≤ expr_weight folds e
    value_light (Const v) begin = omega (arith, const_count v)
    value_light (Read p) begin =
        omega (
          arith,
          read_count (direct_of scope p) (direct_two scope p) p (index_items scope begin p),
          index_light p begin,
        )
    value_light (Unary o e) begin =
        folded_count (fold (Unary o e)) _ _ (omega (
          arith,
          count-append (value_items scope begin e) (alone (prefix_op o) ∷ []),
          prefix_count o,
          value_light e begin,
        ))
    value_light (Binary o l r) begin =
        let how = right_of scope r in
        let left = left_by how (value_push scope l) (value_items scope begin l) in
        let q = past begin left in
        folded_count (fold (Binary o l r)) _ _ (omega (
          arith,
          count-append left (operate_by o how (value_items scope q r)),
          left_count scope how l (value_items scope begin l),
          operate_count o how (right_two scope r) (value_items scope q r),
          value_light l begin,
          value_light r q,
        ))
    value_light (Chain e links) begin =
        let first = value_items scope begin e in
        let p = past begin first in
        let q = past p (links_items scope p 0 links) in
        let items = links_items scope p (fail_at q) links in
        folded_count (fold (Chain e links)) _ _ (omega (
          arith,
          count-append first (linked_with q links items),
          chain_light q links items,
          value_light e begin,
          links_light links p (fail_at q),
        ))
    value_light (And l r) begin =
        let left = value_items scope begin l in
        let p = past begin left in
        let right = value_items scope (p + 8) r in
        folded_count (fold (And l r)) _ _ (omega (
          arith,
          count-append left (choice_code p (right ++ truth_code) (const_code (pos 0))),
          choice_count p (right ++ truth_code) (const_code (pos 0)),
          count-append right truth_code,
          value_light l begin,
          value_light r (p + 8),
        ))
    value_light (Or l r) begin =
        let left = value_items scope begin l in
        let p = past begin left in
        let q = other_at p (const_code (pos 1)) in
        let right = value_items scope q r in
        folded_count (fold (Or l r)) _ _ (omega (
          arith,
          count-append left (choice_code p (const_code (pos 1)) (right ++ truth_code)),
          choice_count p (const_code (pos 1)) (right ++ truth_code),
          count-append right truth_code,
          value_light l begin,
          value_light r q,
        ))
    value_light (Cond c a b) begin =
        let condition = value_items scope begin c in
        let p = past begin condition in
        let first = value_items scope (p + 8) a in
        let q = other_at p first in
        let second = value_items scope q b in
        folded_count (fold (Cond c a b)) _ _ (omega (
          arith,
          count-append condition (choice_code p first second),
          choice_count p first second,
          value_light c begin,
          value_light a (p + 8),
          value_light b q,
        ))
    value_light (Assign p e) begin =
        let place = place_items scope begin p in
        let q = value_begin (direct_of scope p) begin place in
        omega (
          arith,
          assign_count (direct_of scope p) (direct_two scope p) (right_of scope e)
              (quiet_two scope e) p place (value_items scope q e),
          place_within p begin (index_light p begin),
          value_light e q,
        )
    value_light (Update p o e) begin =
        let place = place_items scope begin p in
        let q = value_begin (direct_of scope p) begin place in
        omega (
          arith,
          update_count (direct_of scope p) (direct_two scope p) (right_of scope e)
              (quiet_two scope e) p o place (value_items scope q e),
          place_within p begin (index_light p begin),
          value_light e q,
        )
    value_light (UpdateBy p f swapped e convert) begin =
        let place = place_items scope begin p in
        let q = past begin place + 4 in
        let change = two_code f swapped ++ convert_code convert in
        omega (
          arith,
          both_count place (value_items scope q e) (changed_code p change),
          changed_count p change,
          count-append (two_code f swapped) (convert_code convert),
          two_count f swapped,
          convert_count convert,
          place_within p begin (index_light p begin),
          value_light e q,
        )
    value_light (Step p delta prefix) begin =
        omega (
          arith,
          step_count (direct_of scope p) (direct_two scope p) p delta prefix
              (place_items scope begin p),
          place_within p begin (index_light p begin),
        )
    value_light (StepBy p f prefix) begin =
        omega (
          arith,
          stepping_count (place_items scope begin p) (load_code p) (turned_code p (one_code f)
              prefix),
          load_count p,
          turned_count p (one_code f) prefix,
          place_within p begin (index_light p begin),
        )
    value_light (Copy to from n) begin =
        let first = array_items scope begin to in
        let q = past begin first + 4 in
        omega (
          arith,
          both_count first (array_items scope q from)
              (taking op.Movs (pos (4 * n)) ∷ alone op.ZeroPri ∷ []),
          array_light to begin,
          array_light from q,
        )
    value_light (Operate f l r swapped) begin =
        let left = value_items scope begin l in
        let q = past begin left + 4 in
        omega (
          arith,
          both_count left (value_items scope q r) (two_code f swapped),
          two_count f swapped,
          value_light l begin,
          value_light r q,
        )
    value_light (OperateOne f e) begin =
        omega (arith, count-append (value_items scope begin e) (one_code f), value_light e begin)
    value_light (Call f args) begin =
        let items = args_items scope begin args in
        let last = taking op.PushC (pos (4 * count_of args)) ∷ CallOf f ∷ [] in
        omega (arith, given_count items last (temporaries_in args), args_light args begin)
    value_light (Native n args) begin =
        let items = args_items scope begin args in
        let last =
        taking op.PushC (pos (4 * count_of args)) ∷ taking op.SysreqC (pos n)
        ∷ taking op.Stack (pos (4 * (count_of args + 1))) ∷ [] in
        omega (arith, given_count items last (temporaries_in args), args_light args begin)
    value_light (Seq a b) begin =
        let first = value_items scope begin a in
        let p = past begin first in
        omega (
          arith,
          count-append first (value_items scope p b),
          value_light a begin,
          value_light b p,
        )

    -- a link is no node: the operand's cells to spare are for it
    pub links_light : (links : Links) (begin fail : ℕ)
        → count (links_items scope begin fail links) ≤ links_weight folds links
    links_light no_links begin fail = omega arith
    links_light (then_link o e f swapped links) begin fail =
        let operand = value_items scope (begin + 4) e in
        let link = link_code o f swapped in
        let p = others_at begin operand link in
        omega (
          arith,
          link_light fail o f swapped (right_of scope e) (right_two scope e) operand links
              (links_items scope p fail links),
          value_light e (begin + 4),
          links_light links p fail,
        )

    pub arg_light : (a : Arg) (begin : ℕ)
        → count (arg_items scope begin a) + 20 ≤ arg_weight folds a
    arg_light (Value e) begin =
        omega (
          arith,
          value_push_count scope e (value_items scope begin e),
          value_light e begin,
        )
    arg_light (Ref p) begin =
        omega (
          arith,
          place_push_count scope p (place_items scope begin p),
          place_within p begin (index_light p begin),
        )
    arg_light (Whole a) begin =
        omega (
          arith,
          array_push_count scope a (array_items scope begin a),
          array_light a begin,
        )
    arg_light (Temp e) begin =
        omega (
          arith,
          count-append (value_items scope begin e)
              (taking op.Heap (pos 4) ∷ alone op.StorI ∷ alone op.PushAlt ∷ []),
          value_light e begin,
        )

    pub args_light : (args : Args) (begin : ℕ)
        → count (args_items scope begin args) ≤ args_weight folds args
    args_light no_args begin = omega arith
    args_light (then_arg a args) begin =
        let others = args_items scope begin args in
        let p = past begin others in
        omega (
          arith,
          count-append others (arg_items scope p a),
          args_light args begin,
          arg_light a p,
        )

  pub effect_light : (e : Expr) (begin : ℕ)
      → count (effect_items scope begin e) + 20 ≤ expr_weight folds e
  effect_light (Step p delta prefix) begin =
      omega (
        arith,
        effect_count (direct_of scope p) (direct_two scope p) (effect_two scope p) p delta
            (place_items scope begin p),
        place_within p begin (index_light p begin),
      )
  effect_light (Seq a b) begin =
      let first = effect_items scope begin a in
      let p = past begin first in
      omega (
        arith,
        count-append first (effect_items scope p b),
        effect_light a begin,
        effect_light b p,
      )
  effect_light e begin = value_light e begin
