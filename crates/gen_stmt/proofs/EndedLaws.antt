-- Cases one behind another, whose jumps to the end are led when it is known.
use Rattle.std.proofs.Common.{◌≡◌, ◌+◌, ◌<◌, ◌≤◌, ℕ, ℤ, pos, List, [], ◌∷◌, ◌++◌, length, refl, sym}
use Rattle.std.proofs.Common.{ap, subst, ◌∙◌, arith, length-append}
use Rattle.amx_ops.specs.declared.op.Op.TheVariants as op
use Rattle.gen_sim.specs.Items.{Item, item_cells}
use Rattle.gen_sim.specs.JumpCode.{jump_to}
use Rattle.gen_sim.specs.Here.{Exits}
use Rattle.gen_expr.specs.Built.{Built, with_items}
use Rattle.gen_expr.specs.Filled.{filled}
use Rattle.gen_expr.proofs.GrowLaws.{both_grow, none_grow}
use Rattle.gen_expr.proofs.JumpLaws.{jump_filled}
use Rattle.gen_stmt.specs.declared.draft.Draft.{Draft}
use Rattle.gen_stmt.specs.declared.draft.Exit.TheVariants as exit
use Rattle.gen_stmt.specs.declared.draft.Hole.{Hole}
use Rattle.gen_stmt.specs.Led.{exit_by, all_led, AreIn, AreOthers, led}
use Rattle.gen_stmt.specs.Grown.{IsDraft, Grown}
use Rattle.gen_stmt.proofs.LedLaws.{led_cells, led_before, led_others, led_append, in_more}
use Rattle.gen_stmt.proofs.LedLaws.{in_both, others_before}
use Rattle.gen_stmt.proofs.GrownLaws.{plain_grown, then_grown}
use Rattle.gen_stmt.specs.Ended.{AreFrom, AreApart, Ended}

-- ---- which cells they are

from_less : (n k : ℕ) (ends : List Hole) → k ≤ n → AreFrom n ends → AreFrom k ends
from_less n k [] le all = tt
from_less n k (end ∷ ends) le all = (omega (arith, le, all.0), from_less n k ends le all.1)

from_both : (n : ℕ) (ends more : List Hole) → AreFrom n ends → AreFrom n more
    → AreFrom n (ends ++ more)
from_both n [] more all others = others
from_both n (end ∷ ends) more all others = (all.0, from_both n ends more all.1 others)

apart_both : (ends more holes : List Hole) → AreApart ends holes → AreApart more holes
    → AreApart (ends ++ more) holes
apart_both [] more holes all others = others
apart_both (end ∷ ends) more holes all others = (all.0, apart_both ends more holes all.1 others)

-- a cell before all of them
pub others_behind : (n at : ℕ) (ends : List Hole) → at < n → AreFrom n ends → AreOthers at ends
others_behind n at [] lt all = tt
others_behind n at (end ∷ ends) lt all =
    ((λ e. omega (arith, lt, all.0, e)), others_behind n at ends lt all.1)

-- what stays apart of the holes that a draft has later
later_apart : (n : ℕ) (ends holes later : List Hole) → AreIn n ends
    → ((at : ℕ) → at < n → AreOthers at holes → AreOthers at later)
    → AreApart ends holes → AreApart ends later
later_apart n [] holes later all free apart = tt
later_apart n (end ∷ ends) holes later all free apart =
    (free end.at all.0 apart.0, later_apart n ends holes later all.1 free apart.1)

pub grown_apart : (m r : Draft) (ends : List Hole) (items : Exits → List Item) → Grown m r items
    → AreIn (length m.code.code) ends
    → AreApart ends m.holes → AreApart ends r.holes
grown_apart m r ends items g all apart =
    later_apart (length m.code.code) ends m.holes r.holes all g.free apart

-- ---- in either order

pub led_swap : (broke continued to other : ℤ) (ends holes : List Hole) (b : Built)
    → AreApart ends holes
    → all_led broke continued holes (all_led to other ends b)
    ≡ all_led to other ends (all_led broke continued holes b)
led_swap broke continued to other [] holes b apart = refl
led_swap broke continued to other (end ∷ ends) holes b apart =
    let v = exit_by to other end.exit in
    led_swap broke continued to other ends holes (filled end.at v b) apart.1
    ∙ ap (λ (z : Built). all_led to other ends z)
    (led_others broke continued holes end.at v b apart.0)

-- earlier ones, and later ones
led_later : (to other : ℤ) (n : ℕ) (ends more : List Hole) (b : Built) → AreIn n ends
    → AreFrom n more
    → all_led to other (ends ++ more) b ≡ all_led to other ends (all_led to other more b)
led_later to other n ends more b early late =
    led_append to other ends more b ∙ led_swap to other to other ends more b (apart_of ends early)
  where
    apart_of : (some : List Hole) → AreIn n some → AreApart some more
    apart_of [] all = tt
    apart_of (end ∷ some) all = (others_behind n end.at more all.0 late, apart_of some all.1)

-- ---- one behind another

pub none_ended : (o : Draft) (items : ℕ → Exits → List Item)
    → ((end : ℕ) (exits : Exits) → items end exits ≡ []) → Ended o o [] items
none_ended o items none = record {
  long = omega arith;
  inside = λ h. h;
  is =
      λ h end exits. none_grow (led exits o)
      ∙ ap (λ l. with_items l (led exits o)) (sym (none end exits));
  free = λ at within others. others;
  ends_from = tt;
  ends_in = tt;
  ends_apart = λ h. tt;
}

pub ended_as : (o r : Draft) (ends : List Hole) (items others : ℕ → Exits → List Item)
    → (IsDraft o → (end : ℕ) (exits : Exits) → items end exits ≡ others end exits)
    → Ended o r ends items → Ended o r ends others
ended_as o r ends items others same g = record {
  long = g.long;
  inside = g.inside;
  is = λ h end exits. g.is h end exits ∙ ap (λ l. with_items l (led exits o)) (same h end exits);
  free = g.free;
  ends_from = g.ends_from;
  ends_in = g.ends_in;
  ends_apart = g.ends_apart;
}

pub then_ended : (o m r : Draft) (ends more : List Hole) (items others : ℕ → Exits → List Item)
    → Ended o m ends items → Ended m r more others
    → Ended o r (ends ++ more) (λ end exits. items end exits ++ others end exits)
then_ended o m r ends more items others f g = record {
  long = omega (arith, f.long, g.long);
  inside = λ h. g.inside (f.inside h);
  is = λ h end exits.
      led_later (pos end) (pos 0) (length m.code.code) ends more (led exits r) f.ends_in g.ends_from
      ∙ ap (λ (z : Built). all_led (pos end) (pos 0) ends z) (g.is (f.inside h) end exits)
      ∙ led_before (pos end) (pos 0) ends (others end exits) (led exits m)
      (subst (λ n. AreIn n ends) (sym
      (led_cells (pos exits.broke) (pos exits.continued) m.holes m.code)) f.ends_in)
      ∙ ap (λ (z : Built). with_items (others end exits) z) (f.is h end exits)
      ∙ both_grow (items end exits) (others end exits) (led exits o);
  free = λ at within apart. g.free at (omega (arith, within, f.long)) (f.free at within apart);
  ends_from =
      from_both (length o.code.code) ends more f.ends_from
      (from_less (length m.code.code) (length o.code.code) more f.long g.ends_from);
  ends_in =
      in_both (length r.code.code) ends more
      (in_more (length m.code.code) (length r.code.code) ends g.long f.ends_in) g.ends_in;
  ends_apart = λ h.
      apart_both ends more r.holes (later_apart (length m.code.code) ends m.holes r.holes f.ends_in
      g.free (f.ends_apart h)) (g.ends_apart (f.inside h));
}

-- one case: what is done in it, and a jump to the end
pub one_ended : (o n j : Draft) (at : ℕ) (one : Exits → List Item) → Grown o n one
    → j ≡ record { code = with_items (jump_to op.Jump 0 ∷ []) n.code; holes = n.holes }
    → at + 1 ≡ length j.code.code
    → Ended o j (record { at = at; exit = exit.Break } ∷ [])
    (λ end exits. one exits ++ jump_to op.Jump end ∷ [])
one_ended o n j at one g ej ea =
    let over : List Item = jump_to op.Jump 0 ∷ [] in
    let jumped : Grown n j (λ exits. over) = plain_grown n j over ej in
    let whole : Grown o j (λ exits. one exits ++ over) =
    then_grown o n j one (λ exits. over) g jumped in
    let cells : length j.code.code ≡ length n.code.code + 2 =
    ap (λ (z : Draft). length z.code.code) ej ∙ length-append n.code.code (item_cells over) in
    let holes : j.holes ≡ n.holes = ap (λ (z : Draft). z.holes) ej in
    record {
      long = whole.long;
      inside = whole.inside;
      is = λ h end exits.
          let base : Built = with_items (one exits) (led exits o) in
          let n_is : led exits n ≡ base = g.is h exits in
          let place : at ≡ length base.code + 1 =
          omega (
            arith,
            ea,
            cells,
            led_cells (pos exits.broke) (pos exits.continued) n.holes n.code,
            ap (λ (z : Built). length z.code) n_is,
          ) in
          ap (λ (z : Built). filled at (pos end) z)
          (jumped.is (g.inside h) exits ∙ ap (λ (z : Built). with_items over z) n_is)
          ∙ ap (λ k. filled k (pos end) (with_items over base)) place
          ∙ jump_filled base (with_items over base) [] (pos end) refl
          ∙ both_grow (one exits) (jump_to op.Jump end ∷ []) (led exits o);
      free = whole.free;
      ends_from = (omega (arith, ea, cells, g.long), tt);
      ends_in = (omega (arith, ea), tt);
      ends_apart = λ h. (
        subst (λ l. AreOthers at l) (sym holes)
            (others_before (length n.code.code) at n.holes (omega (arith, ea, cells))
            (g.inside h)),
        tt,
      );
    }
