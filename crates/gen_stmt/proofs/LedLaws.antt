-- Jumps that are led to exits, cell by cell.
use Rattle.std.proofs.Common.{◌≡◌, ◌+◌, ◌<◌, ◌≤◌, ℕ, zero, suc, ℤ, pos, List, [], ◌∷◌, ◌++◌, length}
use Rattle.std.proofs.Common.{drop, get_or, slice_set, add-one, length-set, refl, sym, ap, subst}
use Rattle.std.proofs.Common.{◌∙◌, arith}
use Rattle.std.proofs.Math.Seq.{drop-cons}
use Rattle.std.proofs.lemmas.List.{set-append_left}
use Rattle.gen_sim.specs.Items.{Item, item_cells, waits_from}
use Rattle.gen_sim.specs.Here.{Exits}
use Rattle.gen_expr.specs.Built.{Built, with_items}
use Rattle.gen_expr.specs.Filled.{filled}
use Rattle.gen_expr.proofs.PartLaws.{keeps_cells}
use Rattle.gen_stmt.specs.declared.draft.Exit.{Exit}
use Rattle.gen_stmt.specs.declared.draft.Exit.TheVariants as exit
use Rattle.gen_stmt.specs.declared.draft.Hole.{Hole}
use Rattle.gen_stmt.specs.Led.{exit_by, exit_at, all_led, AreIn, AreOthers}

pub exit_is : (exits : Exits) (e : Exit) → exit_by (pos exits.broke) (pos exits.continued) e
    ≡ pos (exit_at exits e)
exit_is exits exit.Break = refl
exit_is exits exit.Continue = refl

-- ---- one cell

pub filled_cells : (at : ℕ) (to : ℤ) (b : Built) → length (filled at to b).code ≡ length b.code
filled_cells at to b = length-set b.code at to

set_others : (l : List ℤ) (i j : ℕ) (x y : ℤ) → ¬ (i ≡ j)
    → slice_set (slice_set l i x) j y ≡ slice_set (slice_set l j y) i x
set_others [] i j x y h = refl
set_others (z ∷ l) zero zero x y h = absurd (h refl)
set_others (z ∷ l) zero (suc j) x y h = refl
set_others (z ∷ l) (suc i) zero x y h = refl
set_others (z ∷ l) (suc i) (suc j) x y h =
    ap (λ m. z ∷ m) (set_others l i j x y (λ e. h (ap suc e)))

-- two cells, in either order
pub filled_others : (i j : ℕ) (x y : ℤ) (b : Built) → ¬ (i ≡ j)
    → filled j y (filled i x b) ≡ filled i x (filled j y b)
filled_others i j x y b h =
    ap (λ (l : List ℤ). record { code = l; waits = b.waits }) (set_others b.code i j x y h)

-- a cell that was there before some items
pub filled_before : (at : ℕ) (to : ℤ) (is : List Item) (b : Built) → at < length b.code
    → filled at to (with_items is b) ≡ with_items is (filled at to b)
filled_before at to is b within =
    let code : slice_set (b.code ++ item_cells is) at to ≡ slice_set b.code at to ++ item_cells is =
    set-append_left b.code (item_cells is) at to within in
    ap (λ (l : List ℤ). record { code = l; waits = b.waits ++ waits_from (length b.code) is }) code
    ∙ ap (λ n. record {
      code = slice_set b.code at to ++ item_cells is;
      waits = b.waits ++ waits_from n is;
    }) (sym (filled_cells at to b))

-- ---- all of them

pub led_cells : (broke continued : ℤ) (holes : List Hole) (b : Built)
    → length (all_led broke continued holes b).code ≡ length b.code
led_cells broke continued [] b = refl
led_cells broke continued (hole ∷ holes) b =
    led_cells broke continued holes (filled hole.at (exit_by broke continued hole.exit) b)
    ∙ filled_cells hole.at (exit_by broke continued hole.exit) b

pub led_before : (broke continued : ℤ) (holes : List Hole) (is : List Item) (b : Built)
    → AreIn (length b.code) holes
    → all_led broke continued holes (with_items is b)
    ≡ with_items is (all_led broke continued holes b)
led_before broke continued [] is b all = refl
led_before broke continued (hole ∷ holes) is b all =
    let to = exit_by broke continued hole.exit in
    let one : Built = filled hole.at to b in
    ap (λ (z : Built). all_led broke continued holes z) (filled_before hole.at to is b all.0)
    ∙ led_before broke continued holes is one
    (subst (λ n. AreIn n holes) (sym (filled_cells hole.at to b)) all.1)

pub led_others : (broke continued : ℤ) (holes : List Hole) (at : ℕ) (v : ℤ) (b : Built)
    → AreOthers at holes
    → all_led broke continued holes (filled at v b) ≡ filled at v (all_led broke continued holes b)
led_others broke continued [] at v b all = refl
led_others broke continued (hole ∷ holes) at v b all =
    let to = exit_by broke continued hole.exit in
    ap (λ (z : Built). all_led broke continued holes z)
    (filled_others at hole.at v to b (λ e. all.0 (sym e)))
    ∙ led_others broke continued holes at v (filled hole.at to b) all.1

pub led_append : (broke continued : ℤ) (holes more : List Hole) (b : Built)
    → all_led broke continued (holes ++ more) b
    ≡ all_led broke continued more (all_led broke continued holes b)
led_append broke continued [] more b = refl
led_append broke continued (hole ∷ holes) more b =
    led_append broke continued holes more (filled hole.at (exit_by broke continued hole.exit) b)

-- ---- which cells they are

pub in_more : (n k : ℕ) (holes : List Hole) → n ≤ k → AreIn n holes → AreIn k holes
in_more n k [] le all = tt
in_more n k (hole ∷ holes) le all = (omega (arith, all.0), in_more n k holes le all.1)

-- where a jump was led, and more was appended
pub landed_in : (y l : Built) (n hole : ℕ) (to : ℤ) (holes : List Hole) → l ≡ filled hole to y
    → length l.code ≤ n → AreIn (length y.code) holes → AreIn n holes
landed_in y l n hole to holes el le all =
    let same : length l.code ≡ length y.code =
    ap (λ (z : Built). length z.code) el ∙ filled_cells hole to y in
    in_more (length y.code) n holes (omega (arith, same, le)) all

-- and where others were led
pub led_in : (broke continued : ℤ) (jumps holes : List Hole) (b r : Built)
    → r ≡ all_led broke continued jumps b → AreIn (length b.code) holes
    → AreIn (length r.code) holes
led_in broke continued jumps holes b r e all =
    subst (λ n. AreIn n holes)
    (sym (ap (λ (z : Built). length z.code) e ∙ led_cells broke continued jumps b)) all

pub in_both : (n : ℕ) (holes more : List Hole) → AreIn n holes → AreIn n more
    → AreIn n (holes ++ more)
in_both n [] more all others = others
in_both n (hole ∷ holes) more all others = (all.0, in_both n holes more all.1 others)

pub others_both : (at : ℕ) (holes more : List Hole) → AreOthers at holes → AreOthers at more
    → AreOthers at (holes ++ more)
others_both at [] more all others = others
others_both at (hole ∷ holes) more all others = (all.0, others_both at holes more all.1 others)

-- a cell behind all of them
pub others_before : (n at : ℕ) (holes : List Hole) → n ≤ at → AreIn n holes → AreOthers at holes
others_before n at [] le all = tt
others_before n at (hole ∷ holes) le all =
    ((λ e. omega (arith, all.0, e)), others_before n at holes le all.1)

-- ---- one after another

rest_is : (holes : List Hole) (i : ℕ) (hole : Hole) → i < length holes → hole ≡ get_or holes i hole
    → drop i holes ≡ hole ∷ drop (i + 1) holes
rest_is holes i hole within is =
    drop-cons holes i hole within ∙ ap (λ x. x ∷ drop (suc i) holes) (sym is)
    ∙ ap (λ k. hole ∷ drop k holes) (sym (add-one i))

pub lead_more : (holes : List Hole) (i : ℕ) (hole : Hole) (broke continued : ℤ) (b : Built)
    → i < length holes → hole ≡ get_or holes i hole
    → all_led broke continued (drop i holes) b
    ≡ all_led broke continued (drop (i + 1) holes)
    (filled hole.at (exit_by broke continued hole.exit) b)
lead_more holes i hole broke continued b within is =
    ap (λ l. all_led broke continued l b) (rest_is holes i hole within is)

none_left : (holes : List Hole) (n : ℕ) → n ≡ length holes → drop n holes ≡ []
none_left [] zero e = refl
none_left [] (suc n) e = refl
none_left (hole ∷ holes) zero e = absurd (omega (arith, e))
none_left (hole ∷ holes) (suc n) e = none_left holes n (omega (arith, e))

pub none_led : (holes : List Hole) (i : ℕ) (broke continued : ℤ) (b : Built) → i ≡ length holes
    → all_led broke continued (drop i holes) b ≡ b
none_led holes i broke continued b e = ap (λ l. all_led broke continued l b) (none_left holes i e)

pub in_rest : (holes : List Hole) (i : ℕ) (hole : Hole) (n : ℕ) → i < length holes
    → hole ≡ get_or holes i hole → AreIn n (drop i holes)
    → (hole.at < n) × AreIn n (drop (i + 1) holes)
in_rest holes i hole n within is all = subst (λ l. AreIn n l) (rest_is holes i hole within is) all
