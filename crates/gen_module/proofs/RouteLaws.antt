-- The code of a function with a route: its table is written behind the bodies.
use Rattle.std.proofs.Common.{◌≡◌, ◌+◌, ◌*◌, ℕ, ℤ, pos, List, [], ◌∷◌, ◌++◌, length, map, replicate}
use Rattle.std.proofs.Common.{refl, sym, ap, ◌∙◌, arith, Result, Ok, Err, IfOk}
use Rattle.std.proofs.lemmas.List.{length-replicate}
use Rattle.pawn_meaning.specs.Program.{Function, Route, Program}
use Rattle.amx_ops.specs.declared.op.Op.TheVariants as op
use Rattle.gen_sim.specs.Items.{Item}
use Rattle.gen_sim.specs.SimpleCode.{alone, taking}
use Rattle.gen_sim.specs.StateCode.{automaton_cell}
use Rattle.gen_laws.specs.SwitchCode.{table_item}
use Rattle.gen_laws.specs.RouteCode.{bodies_items, body_begin, route_table, leads_to, fail_at}
use Rattle.gen_laws.specs.RouteCode.{bodies_at, address_of, route_items}
use Rattle.gen_expr.specs.Built.{Built, with_items}
use Rattle.gen_expr.specs.Filled.{filled}
use Rattle.gen_expr.proofs.GrowLaws.{both_grow, then_grow, next_at}
use Rattle.gen_stmt.specs.Over.{over}
use Rattle.gen_stmt.proofs.SwitchLaws.{table_over}
use Rattle.gen_module.specs.Starts.{Finds}
use Rattle.gen_module.proofs.PairLaws.{table_count}

-- what is known of an answer, by what was known of it
pub ok_map : {A E : Type 0} (P Q : A → Type 0) (r : Result A E) → ((x : A) → P x → Q x) → IfOk r P
    → IfOk r Q
ok_map P Q (Ok x) f h = f x h
ok_map P Q (Err e) f h = h

-- the pairs of a route, as they are held
pub pairs_same : (cases : List (ℕ × ℕ)) → map (λ (case : ℕ × ℕ). (case.0, case.1)) cases ≡ cases
pairs_same [] = refl
pairs_same (case ∷ cases) = ap (λ l. case ∷ l) (pairs_same cases)

module _ (program : Program) (function : Function) (route : Route) (b : Built)
    (cases : List (ℕ × ℕ)) (same : route.cases ≡ cases) (count : ℕ)
    (counted : count ≡ length cases) where
  abbrev begin : ℕ
  begin = 4 * length b.code

  count_is : count ≡ length route.cases
  count_is = counted ∙ ap length (sym same)

  abbrev zeros : List ℤ
  zeros = replicate (2 * count) (pos 0)

  -- what stands before SWITCH
  abbrev pub first_items : List Item
  first_items =
      alone op.Proc ∷ taking op.LoadPri (pos (4 * automaton_cell program route.automaton)) ∷ []

  -- behind the table
  abbrev behind_table : List Item
  behind_table =
      taking op.Halt (pos 13) ∷ bodies_items program function.params
      (bodies_at begin route) function.bodies

  -- what was appended
  pub record Appended (loaded opened halted done : Built) : Type 0 where
    pub first : loaded ≡ with_items first_items b
    pub table : opened ≡ with_items
        (taking op.Switch (pos (4 * length loaded.code + 8)) ∷ table_item count 0 zeros ∷ []) loaded
    pub halt : halted ≡ with_items (taking op.Halt (pos 13) ∷ []) opened
    pub bodies : done ≡ with_items
        (bodies_items program function.params (4 * length halted.code) function.bodies) halted

  module _ (loaded opened halted done : Built) (it : Appended loaded opened halted done) where
    loaded_at : 4 * length loaded.code ≡ begin + 4 + 8
    loaded_at = next_at b loaded first_items it.first

    opened_at : 4 * length opened.code ≡ 4 * length loaded.code + 8 + 4 * (3 + 2 * count)
    opened_at =
        next_at loaded opened (taking op.Switch (pos (4 * length loaded.code + 8))
        ∷ table_item count 0 zeros ∷ []) it.table
        ∙ omega (arith, length-replicate (2 * count) (pos 0))

    -- where no body serves
    pub fails_at : 4 * length opened.code ≡ fail_at begin route
    fails_at = omega (arith, loaded_at, opened_at, count_is)

    pub opened_cells : length opened.code ≡ length loaded.code + 4 + 1 + 2 * count
    opened_cells = omega (arith, opened_at)

    -- where the bodies begin
    pub begin_at : 4 * length halted.code ≡ bodies_at begin route
    begin_at =
        next_at opened halted (taking op.Halt (pos 13) ∷ []) it.halt ∙ omega (arith, fails_at)

    -- behind the table everything is as it is wanted
    done_is : done ≡ with_items (taking op.Switch (pos (4 * length loaded.code + 8))
        ∷ table_item count 0 zeros ∷ behind_table) loaded
    done_is =
        then_grow loaded halted done
        (taking op.Switch (pos (4 * length loaded.code + 8)) ∷ table_item count 0 zeros
        ∷ taking op.Halt (pos 13) ∷ [])
        (bodies_items program function.params (bodies_at begin route) function.bodies)
        (then_grow loaded opened halted
        (taking op.Switch (pos (4 * length loaded.code + 8)) ∷ table_item count 0 zeros ∷ [])
        (taking op.Halt (pos 13) ∷ [])
        it.table it.halt)
        (it.bodies ∙ ap (λ p. with_items (bodies_items program function.params p function.bodies)
        halted) begin_at)

    pub route_made : (other : ℤ) (led r : Built)
        → other ≡ pos (leads_to (address_of program function begin route)
        (fail_at begin route) route.fallback)
        → led ≡ filled (length loaded.code + 4) other done
        → r ≡ over (length loaded.code + 4 + 1)
        (route_table (address_of program function begin route) cases) led
        → r ≡ with_items (route_items program function begin route) b
    route_made other led r is first second =
        let address = address_of program function begin route in
        let table = route_table address cases in
        let lead = leads_to address (fail_at begin route) route.fallback in
        let at = length loaded.code + 4 in
        let written : r ≡ over at (pos lead ∷ table) done =
        second ∙ ap (λ (x : Built). over (at + 1) table x) first
        ∙ ap (λ z. over (at + 1) table (filled at z done)) is in
        written ∙ ap (λ (x : Built). over at (pos lead ∷ table) x) done_is
        ∙ table_over loaded (4 * length loaded.code + 8) count lead zeros table behind_table
        (omega (arith, length-replicate (2 * count) (pos 0), table_count address cases, counted))
        ∙ ap (λ p. with_items (taking op.Switch (pos (p + 8)) ∷ table_item count lead table
        ∷ behind_table) loaded) loaded_at
        ∙ ap (λ (x : Built). with_items
        (taking op.Switch (pos (begin + 4 + 8 + 8)) ∷ table_item count lead table
        ∷ behind_table) x) it.first
        ∙ both_grow first_items (taking op.Switch (pos (begin + 4 + 8 + 8))
        ∷ table_item count lead table ∷ behind_table) b
        ∙ ap (λ n. with_items (first_items
        ++ (taking op.Switch (pos (begin + 4 + 8 + 8)) ∷ table_item n lead table
        ∷ behind_table)) b) count_is
        ∙ ap (λ l. with_items (first_items
        ++ (taking op.Switch (pos (begin + 4 + 8 + 8))
        ∷ table_item (length route.cases) lead (route_table address l) ∷ behind_table)) b)
        (sym same)

    -- the starts of the bodies
    pub starts_found : (starts : List ℤ)
        → Finds (body_begin program function.params (4 * length halted.code) function.bodies) starts
        → Finds (address_of program function begin route) starts
    starts_found starts found n x e =
        found n x e ∙ ap (λ p. pos (body_begin program function.params p function.bodies n))
        begin_at
