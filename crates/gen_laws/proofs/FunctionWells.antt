-- The code of functions is well: each function's leads to itself.
use Rattle.std.proofs.Common.{◌≡◌, ◌+◌, ◌*◌, ◌<◌, inl, ℕ, zero, suc, pos, List, [], ◌∷◌, Option}
use Rattle.std.proofs.Common.{None, Some, true, false, length, refl, subst, Bool}
use Rattle.std.proofs.Common.{◌++◌, arith}
use Rattle.std.specs.Prelude.{All, IfSome}
use Rattle.pawn_meaning.specs.Program.{Slot, Body, Route, Function, Program}
use Rattle.pawn_meaning.specs.Valid.{IsValidBody, IsValidRoute, IsValidFunction}
use Rattle.amx_ops.specs.declared.op.Op.TheVariants as op
use Rattle.gen_sim.specs.Items.{Item, Plain, CallOf, AreWritten, size, past}
use Rattle.gen_sim.specs.SimpleCode.{alone, taking}
use Rattle.gen_sim.specs.StateCode.{automaton_cell}
use Rattle.gen_laws.specs.SwitchCode.{table_item}
use Rattle.gen_laws.proofs.FineLaws.{Nowhere}
use Rattle.gen_laws.proofs.FineItems.{Own, alone_fine, any_fine}
use Rattle.gen_laws.specs.GoesOn.{never_goes_on}
use Rattle.gen_laws.specs.StmtCode.{stmt_items}
use Rattle.gen_laws.specs.Well.{AreWell, ArePairsLed, Holds}
use Rattle.gen_laws.proofs.WellLaws.{holds_here, well_both, own_well, no_call}
use Rattle.gen_laws.proofs.StmtWells.{stmt_well}
use Rattle.gen_laws.specs.BodyCode.{body_here, end_code, body_items, single_items}
use Rattle.gen_laws.specs.RouteCode.{bodies_items, body_begin, route_table, leads_to, fail_at}
use Rattle.gen_laws.specs.RouteCode.{bodies_at, address_of, route_items}
use Rattle.gen_laws.proofs.RouteLaws.{length_route}
use Rattle.gen_laws.specs.FunctionCode.{one_of, function_by, function_items}
use Rattle.gen_laws.specs.FileCode.{functions_items, program_items}
use Rattle.gen_laws.specs.Inner.{HoldsIn}
use Rattle.gen_laws.proofs.InnerLaws.{in_first, in_rest, in_next, in_here, holds_before}

clash : false ≡ true → ⊥
clash e = cc

pub written_of : (natives : ℕ) (T U : ℕ → Type 0) (items : List Item) → AreWell natives T U items
    → AreWritten items
written_of natives T U [] h = tt
written_of natives T U (Plain it ∷ items) h = (h.0.0, h.0.1, written_of natives T U items h.1)
written_of natives T U (CallOf f ∷ items) h = ((tt, refl), tt, written_of natives T U items h.1)

module _ (T U : ℕ → Type 0) (program : Program) where
  abbrev natives : ℕ
  natives = length program.natives

  -- ---- bodies

  end_fine : (b : Bool) → Own natives (end_code b)
  end_fine true = (alone_fine natives Nowhere op.Retn refl refl, tt)
  end_fine false = (
    alone_fine natives Nowhere op.ZeroPri refl refl,
    (alone_fine natives Nowhere op.Retn refl refl, tt),
  )

  holds_end : (b : Bool) (begin : ℕ) (items : List Item)
      → HoldsIn T U begin (items ++ end_code b) → Holds T U begin items
  holds_end true begin items g = holds_before T U begin items (alone op.Retn) [] g
  holds_end false begin items g =
      holds_before T U begin items (alone op.ZeroPri) (alone op.Retn ∷ []) g

  body_well : (params : List Slot) (body : Body) → IsValidBody program params body → (begin : ℕ)
      → HoldsIn T U begin (body_items program params begin body)
      → AreWell natives T U (body_items program params begin body)
  body_well params body valid begin g =
      let here = body_here program params body in
      let items = stmt_items here begin body.stmt in
      let never = never_goes_on body.stmt in
      well_both T U natives items (end_code never)
      (stmt_well T U body.stmt here false valid.stmt (λ e. absurd (clash e)) begin
      (holds_end never begin items g)) (own_well T U natives (end_code never) (end_fine never))

  single_well : (params : List Slot) (body : Body) → IsValidBody program params body → (begin : ℕ)
      → HoldsIn T U begin (single_items program params begin body)
      → AreWell natives T U (single_items program params begin body)
  single_well params body valid begin g = (
    (own_well T U natives (alone op.Proc ∷ [])
        (alone_fine natives Nowhere op.Proc refl refl, tt)).0,
    body_well params body valid (begin + 4)
        (in_next T U begin (alone op.Proc) (body_items program params (begin + 4) body) g),
  )

  bodies_well : (params : List Slot) (bodies : List Body) → All (IsValidBody program params) bodies
      → (begin : ℕ) → HoldsIn T U begin (bodies_items program params begin bodies)
      → AreWell natives T U (bodies_items program params begin bodies)
  bodies_well params [] valid begin g = tt
  bodies_well params (body ∷ bodies) valid begin g =
      let one = body_items program params begin body in
      let rest = bodies_items program params (past begin one) bodies in
      well_both T U natives one rest
      (body_well params body (valid 0 body (omega arith)) begin (in_first T U begin one rest g))
      (bodies_well params bodies (λ i d h. valid (suc i) d (omega (arith, h))) (past begin one)
      (in_rest T U begin one rest g))

  body_starts : (params : List Slot) (bodies : List Body) (begin number : ℕ)
      → number < length bodies → HoldsIn T U begin (bodies_items program params begin bodies)
      → T (body_begin program params begin bodies number)
  body_starts params [] begin number h g = absurd (omega (arith, h))
  body_starts params (body ∷ bodies) begin zero h g =
      let one = body_items program params begin body in
      let items = stmt_items (body_here program params body) begin body.stmt in
      holds_here T U begin items
      (holds_end (never_goes_on body.stmt) begin items
      (in_first T U begin one (bodies_items program params (past begin one) bodies) g))
  body_starts params (body ∷ bodies) begin (suc number) h g =
      let one = body_items program params begin body in
      body_starts params bodies (past begin one) number (omega (arith, h))
      (in_rest T U begin one (bodies_items program params (past begin one) bodies) g)

  -- ---- routes

  module _ (function : Function) (route : Route)
      (valid : IsValidRoute program (length function.bodies) route)
      (sound : All (IsValidBody program function.params) function.bodies) (begin : ℕ)
      (g : HoldsIn T U begin (route_items program function begin route)) where
    abbrev address : ℕ → ℕ
    address = address_of program function begin route

    abbrev fail : ℕ
    fail = fail_at begin route

    abbrev bodies : List Item
    bodies = bodies_items program function.params (bodies_at begin route) function.bodies

    abbrev load : Item
    load = taking op.LoadPri (pos (4 * automaton_cell program route.automaton))

    abbrev switch : Item
    switch = taking op.Switch (pos (begin + 4 + 8 + 8))

    abbrev entry : Item
    entry =
        table_item (length route.cases) (leads_to address fail route.fallback)
        (route_table address route.cases)

    abbrev halt : Item
    halt = taking op.Halt (pos 13)

    at_load : HoldsIn T U (begin + 4) (load ∷ switch ∷ entry ∷ halt ∷ bodies)
    at_load = in_next T U begin (alone op.Proc) (load ∷ switch ∷ entry ∷ halt ∷ bodies) g

    at_switch : HoldsIn T U (begin + 4 + 8) (switch ∷ entry ∷ halt ∷ bodies)
    at_switch = in_next T U (begin + 4) load (switch ∷ entry ∷ halt ∷ bodies) at_load

    at_entry : HoldsIn T U (begin + 4 + 8 + 8) (entry ∷ halt ∷ bodies)
    at_entry = in_next T U (begin + 4 + 8) switch (entry ∷ halt ∷ bodies) at_switch

    behind : begin + 4 + 8 + 8 + 4 * size entry ≡ fail
    behind = omega (arith, length_route address route.cases)

    at_halt : HoldsIn T U fail (halt ∷ bodies)
    at_halt =
        subst (λ q. HoldsIn T U q (halt ∷ bodies)) behind
        (in_next T U (begin + 4 + 8 + 8) entry (halt ∷ bodies) at_entry)

    at_bodies : HoldsIn T U (bodies_at begin route) bodies
    at_bodies = in_next T U fail halt bodies at_halt

    starts : (number : ℕ) → number < length function.bodies → T (address number)
    starts number h =
        body_starts function.params function.bodies (bodies_at begin route) number h at_bodies

    default_starts : (o : Option ℕ) → IfSome o (λ body. body < length function.bodies)
        → T (leads_to address fail o)
    default_starts None h = in_here T U fail halt bodies at_halt
    default_starts (Some number) h = starts number h

    pairs_led : (cases : List (ℕ × ℕ)) → All (λ case. case.1 < length function.bodies) cases
        → ArePairsLed T (route_table address cases)
    pairs_led [] h = tt
    pairs_led (case ∷ cases) h = (
      (address case.1, refl, starts case.1 (h 0 case (omega arith))),
      pairs_led cases (λ i d k. h (suc i) d (omega (arith, k))),
    )

    route_well : AreWell natives T U (route_items program function begin route)
    route_well =
        let count = length_route address route.cases in (
          (own_well T U natives (alone op.Proc ∷ [])
              (alone_fine natives Nowhere op.Proc refl refl, tt)).0,
          (
            (own_well T U natives (load ∷ []) (
              any_fine natives Nowhere op.LoadPri
                  (pos (4 * automaton_cell program route.automaton)) refl refl,
              tt,
            )).0,
            (
              (
                (tt, refl),
                no_call op.Switch refl,
                λ z. refl,
                (
                  begin + 4 + 8 + 8,
                  refl,
                  at_entry.tables (begin + 4 + 8 + 8)
                      (inl (refl, refl)),
                ),
              ),
              (
                (
                  omega (arith, count),
                  no_call op.Casetbl refl,
                  λ z. refl,
                  (
                    (
                      leads_to address fail route.fallback,
                      refl,
                      default_starts route.fallback valid.fallback,
                    ),
                    pairs_led route.cases valid.bodies_in,
                  ),
                ),
                (
                  (own_well T U natives (halt ∷ [])
                      (any_fine natives Nowhere op.Halt (pos 13) refl refl, tt)).0,
                  bodies_well function.params function.bodies sound
                      (bodies_at begin route) at_bodies,
                ),
              ),
            ),
          ),
        )

  -- ---- functions

  one_well : (function : Function) (bodies : List Body)
      → All (IsValidBody program function.params) bodies → (begin : ℕ)
      → HoldsIn T U begin (one_of program function begin bodies)
      → AreWell natives T U (one_of program function begin bodies)
  one_well function [] valid begin g = tt
  one_well function (body ∷ bodies) valid begin g =
      single_well function.params body (valid 0 body (omega arith)) begin g

  well_by : (function : Function) → IsValidFunction program function
      → (begin : ℕ) (d : Option Route) → IfSome d (IsValidRoute program (length function.bodies))
      → HoldsIn T U begin (function_by program function begin d)
      → AreWell natives T U (function_by program function begin d)
  well_by function valid begin None h g = one_well function function.bodies valid.bodies begin g
  well_by function valid begin (Some route) h g = route_well function route h valid.bodies begin g

  functions_well : (functions : List Function) → All (IsValidFunction program) functions
      → (begin : ℕ) → HoldsIn T U begin (functions_items program begin functions)
      → AreWell natives T U (functions_items program begin functions)
  functions_well [] valid begin g = tt
  functions_well (function ∷ functions) valid begin g =
      let one = function_items program begin function in
      let rest = functions_items program (past begin one) functions in
      let it = valid 0 function (omega arith) in
      well_both T U natives one rest
      (well_by function it begin function.dispatch it.routed (in_first T U begin one rest g))
      (functions_well functions (λ i d h. valid (suc i) d (omega (arith, h))) (past begin one)
      (in_rest T U begin one rest g))

  -- the whole program
  pub program_well : All (IsValidFunction program) program.functions
      → HoldsIn T U 0 (program_items program) → AreWell natives T U (program_items program)
  program_well valid g =
      let halt = taking op.Halt (pos 0) in (
        (own_well T U natives (halt ∷ [])
            (any_fine natives Nowhere op.Halt (pos 0) refl refl, tt)).0,
        functions_well program.functions valid 8
            (in_next T U 0 halt (functions_items program 8 program.functions) g),
      )
