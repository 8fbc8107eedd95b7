-- What is appended to drafts, one behind another.
use Rattle.std.proofs.Common.{◌≡◌, ◌+◌, ◌*◌, ◌≤◌, ℕ, pos, List, [], ◌∷◌, ◌++◌, length, refl, sym}
use Rattle.std.proofs.Common.{ap, subst, ◌∙◌, arith, length-append}
use Rattle.amx_ops.specs.declared.op.Op.{Op}
use Rattle.gen_sim.specs.Items.{Item, item_cells, past}
use Rattle.gen_sim.specs.JumpCode.{jump_to}
use Rattle.gen_sim.specs.Here.{Exits}
use Rattle.gen_expr.specs.Built.{Built, with_items}
use Rattle.gen_expr.specs.Filled.{filled}
use Rattle.gen_expr.proofs.GrowLaws.{then_grow, none_grow, next_at}
use Rattle.gen_expr.proofs.PartLaws.{keeps_cells}
use Rattle.gen_expr.proofs.JumpLaws.{Wide, wide_cells, wide_filled}
use Rattle.gen_stmt.specs.declared.draft.Draft.{Draft}
use Rattle.gen_stmt.specs.declared.draft.Exit.{Exit}
use Rattle.gen_stmt.specs.declared.draft.Hole.{Hole}
use Rattle.gen_stmt.specs.Led.{exit_by, exit_at, all_led, led}
use Rattle.gen_stmt.specs.Grown.{IsDraft, Grown}
use Rattle.gen_stmt.proofs.LedLaws.{exit_is, led_cells, led_before, led_append, in_more, in_both}
use Rattle.gen_stmt.proofs.LedLaws.{others_both}

-- where what is appended next begins, whatever the exits are
pub led_at : (exits : Exits) (d : Draft) → 4 * length (led exits d).code ≡ 4 * length d.code.code
led_at exits d = ap (λ n. 4 * n) (led_cells (pos exits.broke) (pos exits.continued) d.holes d.code)

pub ends_at : (o r : Draft) (items : Exits → List Item) → Grown o r items → IsDraft o
    → (exits : Exits)
    → 4 * length r.code.code ≡ past (4 * length o.code.code) (items exits)
ends_at o r items g h exits =
    sym (led_at exits r) ∙ next_at (led exits o) (led exits r) (items exits) (g.is h exits)
    ∙ ap (λ p. past p (items exits)) (led_at exits o)

-- items without a jump to an exit
pub plain_grown : (o r : Draft) (is : List Item)
    → r ≡ record { code = with_items is o.code; holes = o.holes } → Grown o r (λ exits. is)
plain_grown o r is e =
    let m : Draft = record { code = with_items is o.code; holes = o.holes } in
    let longer : length o.code.code ≤ length (with_items is o.code).code =
    keeps_cells o.code (with_items is o.code) is refl in
    let g : Grown o m (λ exits. is) = record {
      long = longer;
      inside = λ h. in_more (length o.code.code) (length m.code.code) o.holes longer h;
      is = λ h exits. led_before (pos exits.broke) (pos exits.continued) o.holes is o.code h;
      free = λ at within others. others;
    } in
    subst (λ (z : Draft). Grown o z (λ exits. is)) (sym e) g

-- by the code and the holes
pub code_grown : (o : Draft) (m : Built) (is : List Item) → m ≡ with_items is o.code
    → Grown o (record { code = m; holes = o.holes }) (λ exits. is)
code_grown o m is e =
    plain_grown o (record { code = m; holes = o.holes }) is
    (ap (λ (z : Built). record { code = z; holes = o.holes }) e)

pub same_grown : (o : Draft) → Grown o o (λ exits. [])
same_grown o = code_grown o o.code [] (none_grow o.code)

pub grown_as : (o r : Draft) (items others : Exits → List Item)
    → (IsDraft o → (exits : Exits) → items exits ≡ others exits) → Grown o r items
    → Grown o r others
grown_as o r items others same g = record {
  long = g.long;
  inside = g.inside;
  is = λ h exits. g.is h exits ∙ ap (λ l. with_items l (led exits o)) (same h exits);
  free = g.free;
}

pub then_grown : (o m r : Draft) (items more : Exits → List Item) → Grown o m items → Grown m r more
    → Grown o r (λ exits. items exits ++ more exits)
then_grown o m r items more f g = record {
  long = omega (arith, f.long, g.long);
  inside = λ h. g.inside (f.inside h);
  is =
      λ h exits. then_grow (led exits o) (led exits m) (led exits r) (items exits) (more exits)
      (f.is h exits) (g.is (f.inside h) exits);
  free = λ at within others. g.free at (omega (arith, within, f.long)) (f.free at within others);
}

-- a first part, and what its end leads to
pub part_grown : (o m r : Draft) (first : Exits → List Item) (rest : Exits → ℕ → List Item)
    → Grown o m first
    → Grown m r (λ exits. rest exits (4 * length m.code.code))
    → Grown o r (λ exits. first exits ++ rest exits (past (4 * length o.code.code) (first exits)))
part_grown o m r first rest f g =
    grown_as o r (λ exits. first exits ++ rest exits (4 * length m.code.code))
    (λ exits. first exits ++ rest exits (past (4 * length o.code.code) (first exits)))
    (λ h exits. ap (λ q. first exits ++ rest exits q) (ends_at o m first f h exits))
    (then_grown o m r first (λ exits. rest exits (4 * length m.code.code)) f g)

-- a jump to an exit
pub hole_grown : (k : Op) → Wide k → (o r : Draft) (m : Built) (at : ℕ) (e : Exit)
    → m ≡ with_items (jump_to k 0 ∷ []) o.code → at + 1 ≡ length m.code
    → r ≡ record { code = m; holes = o.holes ++ record { at = at; exit = e } ∷ [] }
    → Grown o r (λ exits. jump_to k (exit_at exits e) ∷ [])
hole_grown k wide o r m at e em ea er =
    let zero_jump : List Item = jump_to k 0 ∷ [] in
    let hole : Hole = record { at = at; exit = e } in
    let cells : length m.code ≡ length o.code.code + 2 =
    wide_cells k wide o.code m (pos 0) em in
    let d : Draft = record { code = m; holes = o.holes ++ hole ∷ [] } in
    let led_is : IsDraft o → (exits : Exits)
    → led exits d ≡ with_items (jump_to k (exit_at exits e) ∷ []) (led exits o) =
    λ h exits.
    let before : Built = led exits o in
    let place : at ≡ length before.code + 1 =
    omega (arith, ea, cells, led_cells (pos exits.broke) (pos exits.continued) o.holes o.code) in
    led_append (pos exits.broke) (pos exits.continued) o.holes (hole ∷ []) m
    ∙ ap (λ (z : Built). filled at (exit_by (pos exits.broke) (pos exits.continued) e)
    (all_led (pos exits.broke) (pos exits.continued) o.holes z)) em
    ∙ ap (λ (z : Built). filled at (exit_by (pos exits.broke) (pos exits.continued) e) z)
    (led_before (pos exits.broke) (pos exits.continued) o.holes zero_jump o.code h)
    ∙ ap (λ v. filled at v (with_items zero_jump before)) (exit_is exits e)
    ∙ ap (λ n. filled n (pos (exit_at exits e)) (with_items zero_jump before)) place
    ∙ wide_filled k wide before (with_items zero_jump before) [] (pos (exit_at exits e)) refl in
    let g : Grown o d (λ exits. jump_to k (exit_at exits e) ∷ []) = record {
      long = omega (arith, cells);
      inside = λ h. in_both (length m.code) o.holes (hole ∷ [])
          (in_more (length o.code.code) (length m.code) o.holes (omega (arith, cells)) h)
          (omega (arith, ea), tt);
      is = led_is;
      free =
          λ other within others. others_both other o.holes (hole ∷ []) others
          ((λ x. omega (arith, x, within, ea, cells)), tt);
    } in
    subst (λ (z : Draft). Grown o z (λ exits. jump_to k (exit_at exits e) ∷ [])) (sym er) g
