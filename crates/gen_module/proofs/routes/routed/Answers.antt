use Rattle.std.proofs.Common.{rules, ◌≡◌, ◌+◌, ◌-◌, ◌*◌, pos, length, map, FitsSigned, w32, sym, ap}
use Rattle.std.proofs.Common.{subst, ◌∙◌, arith}
use Rattle.std.proofs.lemmas.Int.{to_z-of_z}
use Rattle.pawn_meaning.specs.View.{body_view, slot_view, function_view, route_view}
use Rattle.gen_laws.specs.RouteCode.{bodies_items, body_begin, route_table, leads_to, fail_at}
use Rattle.gen_laws.specs.RouteCode.{address_of, route_items}
use Rattle.gen_expr.specs.Built.{Built, with_items}
use Rattle.gen_expr.specs.Filled.{filled}
use Rattle.gen_stmt.specs.Over.{over}
use Rattle.gen_module.specs.Starts.{Finds}
use Rattle.gen_module.specs.Source.{program_of}
use Rattle.gen_module.proofs.RouteLaws.{ok_map, pairs_same, Appended, fails_at, opened_cells}
use Rattle.gen_module.proofs.RouteLaws.{route_made, starts_found}
use Rattle.gen_module.proofs.routes.routed.Goals as goal

pub returns : goal.returns
returns c =
    let program = program_of c.args.source.now in
    let function = function_view c.args.function.now in
    let route = route_view c.args.route.now in
    let b = c.args.b in
    let cases = c.as_slice-cases.result.now in
    let count = c.in_ok-count.count in
    let loaded = c.in_ok-loaded.loaded in
    let opened = c.in_ok-opened.opened in
    let halted = c.in_ok-halted.halted in
    let done = c.in_ok-done.done in
    let params = c.as_slice-params.result.now in
    let bodies = c.as_slice.result.now in
    let begin = 4 * length b.code in
    let address = address_of program function begin route in
    let same : route.cases ≡ cases =
    pairs_same c.args.route.now.cases ∙ sym c.as_slice-cases.ensures in
    let counted : count ≡ length cases = c.in_ok-count.ensures.0 in
    let it : Appended program function route b cases same count counted loaded opened halted done =
    record {
      first = c.in_ok-loaded.ensures;
      table = c.in_ok-opened.ensures;
      halt = c.in_ok-halted.ensures;
      bodies =
          c.in_ok-done.ensures.code
          ∙ ap (λ l. with_items (bodies_items program (map slot_view l) (4 * length halted.code)
          (map body_view bodies)) halted) c.as_slice-params.ensures
          ∙ ap (λ l. with_items (bodies_items program function.params (4 * length halted.code)
          (map body_view l)) halted) c.as_slice.ensures;
    } in
    let listed : Finds (body_begin program function.params (4 * length halted.code) function.bodies)
    c.in_ok-done.starts.items = λ n x e.
    c.in_ok-done.ensures.starts n x e
    ∙ ap (λ l. pos (body_begin program (map slot_view l) (4 * length halted.code)
    (map body_view bodies) n)) c.as_slice-params.ensures
    ∙ ap (λ l. pos (body_begin program function.params (4 * length halted.code)
    (map body_view l) n)) c.as_slice.ensures in
    let found : Finds address c.in_ok-done.starts.items =
    starts_found program function route b cases same count counted loaded opened halted done it
    c.in_ok-done.starts.items listed in
    let first : Finds address c.as_slice-2.result.now =
    subst (λ l. Finds address l) (sym c.as_slice-2.ensures.value) found in
    let second : Finds address c.as_slice-3.result.now =
    subst (λ l. Finds address l) (sym c.as_slice-3.ensures.value) found in
    let fails : c.in_ok-fail.fail ≡ pos (fail_at begin route) =
    c.in_ok-fail.ensures ∙ ap pos (fails_at program function route b cases same count counted loaded
    opened halted done it) in
    let whole : FitsSigned w32 c.in_ok-fail.fail = search rules in
    let other : c.in_ok-other.other ≡ pos (leads_to address (fail_at begin route) route.fallback) =
    c.in_ok-other.ensures address (fail_at begin route) first
    (to_z-of_z w32 c.in_ok-fail.fail whole ∙ fails) in
    let cells =
    opened_cells program function route b cases same count counted loaded opened halted
    done it in
    let end : c.in_ok-end.end ≡ length loaded.code + 4 + 1 + 2 * count =
    omega (arith, c.in_ok-end.ensures, ap length c.code.ensures, cells) in
    let at : c.in_ok-end.end - 2 * count - 1 ≡ length loaded.code + 4 = omega (arith, end) in
    let next : c.in_ok-end.end - 2 * count ≡ length loaded.code + 4 + 1 = omega (arith, end) in
    let fits : FitsSigned w32 c.in_ok-other.other = search rules in
    let led : c.lead-led.result ≡ filled (c.in_ok-end.end - 2 * count - 1) c.in_ok-other.other done
    =
    rw (to_z-of_z w32 c.in_ok-other.other fits) at c.lead-led.ensures in
    let led_is : c.lead-led.result ≡ filled (length loaded.code + 4) c.in_ok-other.other done =
    led ∙ ap (λ n. filled n c.in_ok-other.other done) at in
    ok_map (λ (r : Built). r ≡ over (c.in_ok-end.end - 2 * count)
    (route_table address cases) c.lead-led.result)
    (λ (r : Built). r ≡ with_items (route_items program function begin route) b)
    c.write_pairs.result
    (λ r e. route_made program function route b cases same count counted loaded opened halted done
    it c.in_ok-other.other c.lead-led.result r other led_is
    (e ∙ ap (λ n. over n (route_table address cases) c.lead-led.result) next))
    (c.write_pairs.ensures address second)
