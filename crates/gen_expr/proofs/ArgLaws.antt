-- Arguments, from the last to the first.
use Rattle.std.proofs.Common.{◌≡◌, ◌+◌, ◌-◌, ◌*◌, ◌<◌, ℕ, zero, suc, List, [], ◌∷◌, length, drop}
use Rattle.std.proofs.Common.{get_or, add-one, refl, sym, ap, ◌∙◌, arith}
use Rattle.pawn_meaning.specs.Program.{then_arg}
use Rattle.pawn_meaning.specs.Scope.{Scope}
use Rattle.pawn_meaning.specs.View.{arg_view, args_view}
use Rattle.pawn_meaning.specs.declared.node.Arg.{Arg}
use Rattle.pawn_meaning.specs.Need.{count_of}
use Rattle.gen_sim.specs.Results.{is_temporary, temporaries_in}
use Rattle.gen_laws.specs.ExprCode.{arg_items, args_items}
use Rattle.gen_expr.specs.Built.{Built, with_items}
use Rattle.gen_expr.proofs.GrowLaws.{none_grow}
use Rattle.gen_expr.proofs.PartLaws.{behind}

pub count_is : (args : List Arg) → count_of (args_view args) ≡ length args
count_is [] = refl
count_is (a ∷ args) = ap suc (count_is args)

-- those from a number on are that one and those behind it
dropped : (args : List Arg) (i : ℕ) (a : Arg) → i < length args → a ≡ get_or args i a
    → drop i args ≡ a ∷ drop (suc i) args
dropped [] i a within e = absurd (omega (arith, within))
dropped (x ∷ args) zero a within e = ap (λ y. y ∷ args) (sym e)
dropped (x ∷ args) (suc i) a within e = dropped args i a (omega (arith, within)) e

all_dropped : (args : List Arg) (n : ℕ) → n ≡ length args → drop n args ≡ []
all_dropped [] zero e = refl
all_dropped [] (suc n) e = refl
all_dropped (a ∷ args) zero e = absurd (omega (arith, e))
all_dropped (a ∷ args) (suc n) e = all_dropped args n (omega (arith, e))

pub arg_grows : (scope : Scope) (b m r : Built) (args : List Arg) (passed : ℕ) (a : Arg)
    → passed < length args
    → a ≡ get_or args (length args - 1 - passed) a
    → m ≡ with_items (args_items scope (4 * length b.code)
    (args_view (drop (length args - passed) args))) b
    → r ≡ with_items (arg_items scope (4 * length m.code) (arg_view a)) m
    → r ≡ with_items (args_items scope (4 * length b.code)
    (args_view (drop (length args - (passed + 1)) args))) b
arg_grows scope b m r args passed a within is so_far grown =
    let i = length args - 1 - passed in
    let i_is : i ≡ length args - (passed + 1) = omega arith in
    let next : suc i ≡ length args - passed = omega arith in
    let view : args_view (drop (length args - (passed + 1)) args)
    ≡ then_arg (arg_view a) (args_view (drop (length args - passed) args)) =
    ap (λ k. args_view (drop k args)) (sym i_is) ∙ ap args_view (dropped args i a (omega arith) is)
    ∙ ap (λ k. then_arg (arg_view a) (args_view (drop k args))) next in
    behind b m r (args_items scope (4 * length b.code)
    (args_view (drop (length args - passed) args)))
    (λ q. arg_items scope q (arg_view a)) so_far grown
    ∙ ap (λ l. with_items (args_items scope (4 * length b.code) l) b) (sym view)

-- behind none of them, and behind all
pub none_passed : (scope : Scope) (b : Built) (args : List Arg)
    → b ≡ with_items (args_items scope (4 * length b.code)
    (args_view (drop (length args - 0) args))) b
none_passed scope b args =
    none_grow b ∙ ap (λ l. with_items (args_items scope (4 * length b.code) (args_view l)) b)
    (sym (all_dropped args (length args - 0) (omega arith)))

pub all_passed : (scope : Scope) (b r : Built) (args : List Arg) (passed : ℕ) → passed ≡ length args
    → r ≡ with_items (args_items scope (4 * length b.code)
    (args_view (drop (length args - passed) args))) b
    → r ≡ with_items (args_items scope (4 * length b.code) (args_view args)) b
all_passed scope b r args passed e is =
    let none : length args - passed ≡ 0 = omega arith in
    is ∙ ap (λ k. with_items (args_items scope (4 * length b.code) (args_view (drop k args))) b)
    none

-- how many of those from a number on have a cell of their own
pub temporaries_more : (args : List Arg) (i : ℕ) (a : Arg) → i < length args → a ≡ get_or args i a
    → temporaries_in (args_view (drop i args))
    ≡ is_temporary (arg_view a) + temporaries_in (args_view (drop (i + 1) args))
temporaries_more args i a within is =
    ap (λ l. temporaries_in (args_view l)) (dropped args i a within is)
    ∙ ap (λ k. is_temporary (arg_view a) + temporaries_in (args_view (drop k args)))
    (sym (add-one i))

pub none_temporary : (args : List Arg) (i : ℕ) → i ≡ length args
    → temporaries_in (args_view (drop i args)) ≡ 0
none_temporary args i e = ap (λ l. temporaries_in (args_view l)) (all_dropped args i e)
