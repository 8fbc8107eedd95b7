-- A whole switch: its table is written, and its jumps led, behind all of its code.
use Rattle.std.proofs.Common.{◌≡◌, ◌+◌, ◌*◌, ◌<◌, ℕ, ℤ, pos, List, [], ◌∷◌, ◌++◌, length, replicate}
use Rattle.std.proofs.Common.{refl, sym, ap, subst, ◌∙◌, arith, append_assoc, length-append}
use Rattle.std.proofs.lemmas.List.{length-replicate}
use Rattle.pawn_meaning.specs.Program.{Cases}
use Rattle.amx_ops.specs.declared.op.Op.TheVariants as op
use Rattle.amx_ops.specs.Table.{number_of}
use Rattle.gen_sim.specs.Items.{Item, item_cells, waits_from, past}
use Rattle.gen_sim.specs.SimpleCode.{taking}
use Rattle.gen_sim.specs.Here.{Exits}
use Rattle.gen_laws.specs.SwitchCode.{cases_values, table_item, cases_at, table_code}
use Rattle.gen_expr.specs.Built.{Built, with_items}
use Rattle.gen_expr.specs.Filled.{filled}
use Rattle.gen_expr.proofs.GrowLaws.{both_grow, next_at}
use Rattle.gen_stmt.specs.Over.{over}
use Rattle.gen_stmt.proofs.OverLaws.{over_cells, over_others}
use Rattle.gen_stmt.specs.declared.draft.Draft.{Draft}
use Rattle.gen_stmt.specs.declared.draft.Hole.{Hole}
use Rattle.gen_stmt.specs.Led.{all_led, AreIn, AreOthers, led}
use Rattle.gen_stmt.specs.Grown.{IsDraft, Grown}
use Rattle.gen_stmt.proofs.LedLaws.{led_cells, led_before, led_others, others_before}
use Rattle.gen_stmt.proofs.GrownLaws.{plain_grown, led_at, ends_at}
use Rattle.gen_stmt.specs.Ended.{AreApart, Ended}
use Rattle.gen_stmt.specs.Tabled.{unled_table}
use Rattle.gen_stmt.proofs.EndedLaws.{others_behind, grown_apart, led_swap}

-- cells that are written, none of which is a jump's
pub led_over : (broke continued : ℤ) (holes : List Hole) (at : ℕ) (vs : List ℤ) (b : Built)
    → ((k : ℕ) → k < length vs → AreOthers (at + k) holes)
    → all_led broke continued holes (over at vs b) ≡ over at vs (all_led broke continued holes b)
led_over broke continued holes at [] b free = refl
led_over broke continued holes at (v ∷ vs) b free =
    let rest : (k : ℕ) → k < length vs → AreOthers (at + 1 + k) holes =
    λ k lt. subst (λ n. AreOthers n holes) (omega arith) (free (k + 1) (omega (arith, lt))) in
    let first : AreOthers at holes =
    subst (λ n. AreOthers n holes) (omega arith) (free 0 (omega arith)) in
    led_over broke continued holes (at + 1) vs (filled at v b) rest
    ∙ ap (λ (z : Built). over (at + 1) vs z) (led_others broke continued holes at v b first)

-- the table of a switch, in the place of its zeros
pub table_over : (m : Built) (p count other : ℕ) (zeros table : List ℤ) (is : List Item)
    → length zeros ≡ length table
    → over (length m.code + 4) (pos other ∷ table)
    (with_items (taking op.Switch (pos p) ∷ table_item count 0 zeros ∷ is) m)
    ≡ with_items (taking op.Switch (pos p) ∷ table_item count other table ∷ is) m
table_over m p count other zeros table is e =
    let head : List ℤ =
    pos (number_of op.Switch) ∷ pos p ∷ pos (number_of op.Casetbl) ∷ pos count ∷ [] in
    let front : List ℤ = m.code ++ head in
    let seen : (d : ℕ) (l : List ℤ)
    → (with_items (taking op.Switch (pos p) ∷ table_item count d l ∷ is) m).code
    ≡ front ++ ((pos d ∷ l) ++ item_cells is) =
    λ d l. ap (λ z. m.code ++ (pos (number_of op.Switch) ∷ pos p ∷ z)) refl
    ∙ sym (append_assoc m.code head ((pos d ∷ l) ++ item_cells is)) in
    let waits : List (ℕ × ℕ) =
    m.waits ++ waits_from (length m.code)
    (taking op.Switch (pos p) ∷ table_item count 0 zeros ∷ is) in
    let place : length m.code + 4 ≡ length front = sym (length-append m.code head) in
    ap (λ (l : List ℤ). over (length m.code + 4) (pos other ∷ table)
    (record { code = l; waits = waits })) (seen 0 zeros)
    ∙ ap (λ n. over n (pos other ∷ table)
    (record { code = front ++ ((pos 0 ∷ zeros) ++ item_cells is); waits = waits })) place
    ∙ over_others front (pos 0 ∷ zeros) (pos other ∷ table) (item_cells is) waits (omega (arith, e))
    ∙ ap (λ (l : List ℤ). record { code = l; waits = waits }) (sym (seen other table))
    ∙ ap (λ (l : List (ℕ × ℕ)). record {
      code = (with_items (taking op.Switch (pos p) ∷ table_item count other table ∷ is) m).code;
      waits = m.waits ++ l;
    })
    (ap (λ n. waits_from n is) (omega (arith, e)))

-- ---- the whole

pub cells_of_table : (c o : Draft) (cases : Cases)
    → o ≡ record {
      code = with_items (unled_table (4 * length c.code.code) cases) c.code;
      holes = c.holes;
    }
    → length o.code.code ≡ length c.code.code + 5 + 2 * cases_values cases
cells_of_table c o cases eo =
    let zeros : List ℤ = replicate (2 * cases_values cases) (pos 0) in
    omega (
      arith,
      ap (λ (z : Draft). length z.code.code) eo,
      length-append c.code.code (item_cells (unled_table (4 * length c.code.code) cases)),
      length-append zeros [],
      length-replicate (2 * cases_values cases) (pos 0),
    )

module _ (c o r d f : Draft) (cases : Cases) (ends : List Hole) (items : Exits → ℕ → List Item)
    (other : Exits → ℕ → List Item)
    (table : Exits → List ℤ) (pairs : List ℤ) (at : ℕ) (default : ℤ)
    (eo : o ≡ record {
      code = with_items (unled_table (4 * length c.code.code) cases) c.code;
      holes = c.holes;
    })
    (gr : Ended o r ends (λ end exits. items exits end))
    (gd : Grown r d (λ exits. other exits (4 * length r.code.code)))
    (ea : at ≡ length c.code.code + 4) (ed : default ≡ pos (4 * length r.code.code))
    (count : length pairs ≡ 2 * cases_values cases)
    (leads : IsDraft c → (exits : Exits) → pairs ≡ table exits)
    (ef : f ≡ record {
      code = all_led (pos (4 * length d.code.code)) (pos 0) ends
          (over at (default ∷ pairs) d.code);
      holes = d.holes;
    }) where
  abbrev p : ℕ
  p = 4 * length c.code.code

  abbrev unled : List Item
  unled = unled_table p cases

  go : Grown c o (λ exits. unled)
  go = plain_grown c o unled eo

  zeros_count : length (replicate (2 * cases_values cases) (pos 0)) ≡ 2 * cases_values cases
  zeros_count = length-replicate (2 * cases_values cases) (pos 0)

  cells_o : length o.code.code ≡ length c.code.code + 5 + 2 * cases_values cases
  cells_o = cells_of_table c o cases eo

  cells_f : length f.code.code ≡ length d.code.code
  cells_f =
      ap (λ (z : Draft). length z.code.code) ef
      ∙ led_cells (pos (4 * length d.code.code)) (pos 0) ends (over at (default ∷ pairs) d.code)
      ∙ over_cells at (default ∷ pairs) d.code

  holes_f : f.holes ≡ d.holes
  holes_f = ap (λ (z : Draft). z.holes) ef

  holes_o : o.holes ≡ c.holes
  holes_o = ap (λ (z : Draft). z.holes) eo

  in_d : IsDraft c → IsDraft d
  in_d h = gd.inside (gr.inside (go.inside h))

  in_f : IsDraft c → IsDraft f
  in_f h =
      subst (λ n. AreIn n f.holes) (sym cells_f)
      (subst (λ l. AreIn (length d.code.code) l) (sym holes_f) (in_d h))

  later_free : (n : ℕ) → n < length o.code.code → AreOthers n o.holes → AreOthers n d.holes
  later_free n within others = gd.free n (omega (arith, within, gr.long)) (gr.free n within others)

  -- a cell of the table is no jump's operand
  table_free : IsDraft c → (k : ℕ) → k < length (default ∷ pairs) → AreOthers (at + k) d.holes
  table_free h k lt =
      later_free (at + k) (omega (arith, ea, lt, count, cells_o))
      (subst (λ l. AreOthers (at + k) l) (sym holes_o)
      (others_before (length c.code.code) (at + k) c.holes (omega (arith, ea)) h))

  table_before : (k : ℕ) → k < length (default ∷ pairs) → AreOthers (at + k) ends
  table_before k lt =
      others_behind (length o.code.code) (at + k) ends
      (omega (arith, ea, lt, count, cells_o)) gr.ends_from

  at_o : 4 * length o.code.code ≡ cases_at p cases
  at_o = omega (arith, cells_o)

  at_r : IsDraft c → (exits : Exits)
      → 4 * length r.code.code ≡ past (cases_at p cases) (items exits 0)
  at_r h exits =
      sym (led_at exits r) ∙ ap (λ n. 4 * n) (sym (led_cells (pos 0) (pos 0) ends (led exits r)))
      ∙ next_at (led exits o) (all_led (pos 0) (pos 0) ends (led exits r)) (items exits 0)
      (gr.is (go.inside h) 0 exits)
      ∙ ap (λ q. past q (items exits 0)) (led_at exits o ∙ at_o)

  at_d : IsDraft c → (exits : Exits)
      → 4 * length d.code.code ≡ past (4 * length r.code.code)
      (other exits (4 * length r.code.code))
  at_d h exits =
      ends_at r d (λ e. other e (4 * length r.code.code)) gd (gr.inside (go.inside h)) exits

  abbrev whole : Exits → ℕ → ℕ → List Item
  whole exits q end = table_code p cases q (table exits) (items exits end ++ other exits q)

  -- behind the cases and what stands behind `default`
  body_is : IsDraft c → (exits : Exits)
      → all_led (pos (4 * length d.code.code)) (pos 0) ends (led exits d)
      ≡ with_items (unled ++ (items exits (4 * length d.code.code)
      ++ other exits (4 * length r.code.code))) (led exits c)
  body_is h exits =
      let end = 4 * length d.code.code in
      let last = other exits (4 * length r.code.code) in
      ap (λ (z : Built). all_led (pos end) (pos 0) ends z) (gd.is (gr.inside (go.inside h)) exits)
      ∙ led_before (pos end) (pos 0) ends last (led exits r)
      (subst (λ n. AreIn n ends) (sym
      (led_cells (pos exits.broke) (pos exits.continued) r.holes r.code)) gr.ends_in)
      ∙ ap (λ (z : Built). with_items last z) (gr.is (go.inside h) end exits)
      ∙ both_grow (items exits end) last (led exits o)
      ∙ ap (λ (z : Built). with_items (items exits end ++ last) z) (go.is h exits)
      ∙ both_grow unled (items exits end ++ last) (led exits c)

  led_is : IsDraft c → (exits : Exits)
      → led exits f ≡ with_items (whole exits (4 * length r.code.code) (4 * length d.code.code))
      (led exits c)
  led_is h exits =
      let end = 4 * length d.code.code in
      let q = 4 * length r.code.code in
      let vs : List ℤ = default ∷ pairs in
      let written : Built = over at vs d.code in
      let rest : List Item = items exits end ++ other exits q in
      let base : Built = led exits c in
      let apart : AreApart ends d.holes =
      grown_apart r d ends (λ e. other e q) gd gr.ends_in (gr.ends_apart (go.inside h)) in
      let place : at ≡ length base.code + 4 =
      omega (arith, ea, led_cells (pos exits.broke) (pos exits.continued) c.holes c.code) in
      let same : length (replicate (2 * cases_values cases) (pos 0)) ≡ length pairs =
      zeros_count ∙ sym count in
      ap (λ (z : Draft). led exits z) ef
      ∙ led_swap (pos exits.broke) (pos exits.continued) (pos end)
      (pos 0) ends d.holes written apart
      ∙ ap (λ (z : Built). all_led (pos end) (pos 0) ends z)
      (led_over (pos exits.broke) (pos exits.continued) d.holes at vs d.code (table_free h))
      ∙ led_over (pos end) (pos 0) ends at vs (led exits d) table_before
      ∙ ap (λ (z : Built). over at vs z) (body_is h exits)
      ∙ ap (λ v. over at (v ∷ pairs) (with_items (unled ++ rest) base)) ed
      ∙ ap (λ n. over n (pos q ∷ pairs) (with_items (unled ++ rest) base)) place
      ∙ table_over base (p + 8) (cases_values cases) q
      (replicate (2 * cases_values cases) (pos 0)) pairs rest same
      ∙ ap (λ l. with_items (table_code p cases q l rest) base) (leads h exits)

  pub switch_grown : Grown c f (λ exits.
      let default_at = past (cases_at p cases) (items exits 0) in
      table_code p cases default_at (table exits)
      (items exits (past default_at (other exits default_at)) ++ other exits default_at))
  switch_grown = record {
    long = omega (arith, go.long, gr.long, gd.long, cells_f);
    inside = in_f;
    is = λ h exits.
        led_is h exits
        ∙ ap (λ end. with_items (whole exits (4 * length r.code.code) end) (led exits c))
        (at_d h exits)
        ∙ ap (λ q. with_items (whole exits q (past q (other exits q))) (led exits c))
        (at_r h exits);
    free = λ n within others.
        subst (λ l. AreOthers n l) (sym holes_f)
        (later_free n (omega (arith, within, go.long))
        (subst (λ l. AreOthers n l) (sym holes_o) others));
  }
