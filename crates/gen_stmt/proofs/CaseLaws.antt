-- Cases one behind another: what is left to be appended makes the whole.
use Rattle.std.proofs.Common.{◌≡◌, ◌+◌, ◌*◌, ◌<◌, ℕ, zero, suc, ℤ, pos, ◌+ℤ◌, List, [], ◌∷◌, ◌++◌}
use Rattle.std.proofs.Common.{drop, get_or, length, add-one, refl, sym, ap, subst, ◌∙◌, arith}
use Rattle.std.proofs.Common.{append_assoc, append-nil, length-append}
use Rattle.std.proofs.Math.Seq.{drop-cons}
use Rattle.std.proofs.lemmas.List.{drop_all}
use Rattle.pawn_meaning.specs.Program.{Stmt, no_cases, then_case}
use Rattle.pawn_meaning.specs.View.{stmt_view, cases_view}
use Rattle.pawn_meaning.specs.declared.node.Case.{Case}
use Rattle.pawn_meaning.specs.Weight.{values_in}
use Rattle.amx_ops.specs.declared.op.Op.TheVariants as op
use Rattle.gen_sim.specs.Items.{Item, past}
use Rattle.gen_sim.proofs.ItemLaws.{past-append}
use Rattle.gen_sim.specs.JumpCode.{jump_to}
use Rattle.gen_sim.specs.Here.{Exits, Here}
use Rattle.gen_laws.specs.SwitchCode.{values_from, ranges_table, case_code}
use Rattle.gen_laws.specs.StmtCode.{stmt_items, cases_items, cases_table}
use Rattle.gen_expr.specs.Built.{with_items}
use Rattle.gen_expr.proofs.GrowLaws.{next_at}
use Rattle.gen_stmt.specs.Over.{pairs_of, ranges_pairs, cases_pairs}
use Rattle.gen_stmt.specs.declared.draft.Draft.{Draft}
use Rattle.gen_stmt.specs.declared.draft.Exit.TheVariants as exit
use Rattle.gen_stmt.specs.declared.draft.Hole.{Hole}
use Rattle.gen_stmt.specs.Led.{all_led, led}
use Rattle.gen_stmt.specs.Grown.{IsDraft, Grown}
use Rattle.gen_stmt.proofs.LedLaws.{led_cells}
use Rattle.gen_stmt.proofs.GrownLaws.{led_at}
use Rattle.gen_stmt.specs.declared.place.Place.{Place}
use Rattle.gen_stmt.specs.Ended.{Ended}
use Rattle.gen_stmt.proofs.EndedLaws.{none_ended, ended_as, then_ended, one_ended}
use Rattle.gen_stmt.specs.declared.cases.Cased.{Cased}
use Rattle.gen_stmt.specs.Cased.{count_of, tabled, IsCased}
use Rattle.gen_stmt.specs.Standing.{here_in}

-- ---- pairs with an address

pairs_are : (v : ℤ) (n a : ℕ) → pairs_of v n (pos a) ≡ values_from v n a
pairs_are v zero a = refl
pairs_are v (suc n) a = ap (λ l. v ∷ pos a ∷ l) (pairs_are (v +ℤ pos 1) n a)

ranges_are : (ranges : List (ℤ × ℤ)) (a : ℕ) → ranges_pairs ranges (pos a) ≡ ranges_table ranges a
ranges_are [] a = refl
ranges_are (range ∷ ranges) a =
    ap (λ l. l ++ ranges_pairs ranges (pos a)) (pairs_are range.0 (values_in range) a)
    ∙ ap (λ l. values_from range.0 (values_in range) a ++ l) (ranges_are ranges a)

pub count_is : (cases : List Case) → count_of (cases_view cases) ≡ length cases
count_is [] = refl
count_is (case ∷ cases) = omega (arith, count_is cases)

-- ---- one after another

-- those from a number on
pub record CasesLeft (place : Place) (made : List ℕ) (since : ℕ) (cases : List Case) (i : ℕ)
    (b m : Draft) (begins : List ℤ) (ends : List Hole)
    : Type 0 where
  pub inside : IsDraft b → IsDraft m
  pub code : (r : Draft) (more : List Hole)
      → Ended m r more (λ end exits. cases_items (here_in place made since exits)
      (4 * length m.code.code) end (cases_view (drop i cases)))
      → Ended b r (ends ++ more) (λ end exits. cases_items (here_in place made since exits)
      (4 * length b.code.code) end (cases_view cases))
  pub count : length begins ≡ i
  pub table : IsDraft b → (exits : Exits) (more : List ℤ)
      → cases_pairs (cases_view (drop i cases)) more
      ≡ cases_table (here_in place made since exits) (4 * length m.code.code)
      (cases_view (drop i cases))
      → cases_pairs (cases_view cases) (begins ++ more)
      ≡ cases_table (here_in place made since exits) (4 * length b.code.code) (cases_view cases)

pub cases_begun : (place : Place) (made : List ℕ) (since : ℕ) (cases : List Case) (b : Draft)
    → CasesLeft place made since cases 0 b b [] []
cases_begun place made since cases b = record {
  inside = λ h. h;
  code = λ r more g. g;
  count = refl;
  table = λ h exits more e. e;
}

rest_is : (cases : List Case) (i : ℕ) (case : Case) → i < length cases → case ≡ get_or cases i case
    → cases_view (drop i cases) ≡ then_case case.ranges (stmt_view case.stmt)
    (cases_view (drop (i + 1) cases))
rest_is cases i case within is =
    ap cases_view (drop-cons cases i case within)
    ∙ ap (λ (x : Case). then_case x.ranges (stmt_view x.stmt) (cases_view (drop (suc i) cases)))
    (sym is)
    ∙ ap (λ k. then_case case.ranges (stmt_view case.stmt) (cases_view (drop k cases)))
    (sym (add-one i))

-- where what is appended behind them begins
ended_at : (m j : Draft) (ends : List Hole) (items : ℕ → Exits → List Item) → Ended m j ends items
    → IsDraft m → (exits : Exits)
    → 4 * length j.code.code ≡ past (4 * length m.code.code) (items 0 exits)
ended_at m j ends items g h exits =
    sym (led_at exits j) ∙ ap (λ n. 4 * n) (sym (led_cells (pos 0) (pos 0) ends (led exits j)))
    ∙ next_at (led exits m) (all_led (pos 0) (pos 0) ends (led exits j)) (items 0 exits)
    (g.is h 0 exits)
    ∙ ap (λ q. past q (items 0 exits)) (led_at exits m)

pub case_done : (place : Place) (made : List ℕ) (since : ℕ) (cases : List Case) (i : ℕ)
    (case : Case) (b m j : Draft) (begins : List ℤ)
    (ends : List Hole) (begin : ℤ) (hole : Hole) → i < length cases → case ≡ get_or cases i case
    → CasesLeft place made since cases i b m begins ends → begin ≡ pos (4 * length m.code.code)
    → Ended m j (hole ∷ []) (λ end exits. stmt_items (here_in place made since exits)
    (4 * length m.code.code) (stmt_view case.stmt) ++ jump_to op.Jump end ∷ [])
    → CasesLeft place made since cases (i + 1) b j (begins ++ begin ∷ []) (ends ++ hole ∷ [])
case_done place made since cases i case b m j begins ends begin hole within is so_far eb first =
    let rest = cases_view (drop (i + 1) cases) in
    let view = rest_is cases i case within is in
    let here : Exits → Here = λ exits. here_in place made since exits in
    let one : Exits → List Item =
    λ exits. stmt_items (here exits) (4 * length m.code.code) (stmt_view case.stmt) in
    let at_j : IsDraft m → (exits : Exits)
    → 4 * length j.code.code ≡ past (4 * length m.code.code) (one exits) + 8 =
    λ h exits. ended_at m j (hole ∷ []) (λ end e. one e ++ jump_to op.Jump end ∷ []) first h exits
    ∙ past-append (4 * length m.code.code) (one exits) (jump_to op.Jump 0 ∷ []) in
    record {
      inside = λ h. first.inside (so_far.inside h);
      code = λ r more others.
          let both : Ended m r (hole ∷ more)
          (λ end exits. (one exits ++ jump_to op.Jump end ∷ [])
          ++ cases_items (here exits) (4 * length j.code.code) end rest) =
          then_ended m j r (hole ∷ []) more (λ end exits. one exits ++ jump_to op.Jump end ∷ [])
          (λ end exits. cases_items (here exits) (4 * length j.code.code) end rest) first others in
          let there : Ended m r (hole ∷ more)
          (λ end exits. cases_items (here exits) (4 * length m.code.code) end
          (cases_view (drop i cases))) =
          ended_as m r (hole ∷ more)
          (λ end exits. (one exits ++ jump_to op.Jump end ∷ [])
          ++ cases_items (here exits) (4 * length j.code.code) end rest)
          (λ end exits. cases_items (here exits) (4 * length m.code.code) end
          (cases_view (drop i cases)))
          (λ h end exits.
          append_assoc (one exits) (jump_to op.Jump end ∷ [])
          (cases_items (here exits) (4 * length j.code.code) end rest)
          ∙ ap (λ q. case_code end (one exits) (cases_items (here exits) q end rest)) (at_j h exits)
          ∙ ap (λ l. cases_items (here exits) (4 * length m.code.code) end l) (sym view))
          both in
          subst (λ l. Ended b r l (λ end exits. cases_items (here exits)
          (4 * length b.code.code) end (cases_view cases)))
          (sym (append_assoc ends (hole ∷ []) more)) (so_far.code r (hole ∷ more) there);
      count = length-append begins (begin ∷ []) ∙ ap (λ k. k + 1) so_far.count;
      table = λ h exits more e.
          ap (λ l. cases_pairs (cases_view cases) l) (append_assoc begins (begin ∷ []) more)
          ∙ so_far.table h exits (begin ∷ more)
          (ap (λ l. cases_pairs l (begin ∷ more)) view
          ∙ ap (λ v. ranges_pairs case.ranges v ++ cases_pairs rest more) eb
          ∙ ap (λ l. l ++ cases_pairs rest more) (ranges_are case.ranges (4 * length m.code.code))
          ∙ ap (λ l. ranges_table case.ranges (4 * length m.code.code) ++ l) e
          ∙ ap (λ q. ranges_table case.ranges (4 * length m.code.code)
          ++ cases_table (here exits) q rest) (at_j (so_far.inside h) exits)
          ∙ ap (λ l. cases_table (here exits) (4 * length m.code.code) l) (sym view));
    }

pub cases_done : (place : Place) (made : List ℕ) (since : ℕ) (cases : List Case) (i : ℕ)
    (c o m : Draft) (it : Cased) → i ≡ length cases
    → o ≡ tabled (cases_view cases) c → CasesLeft place made since cases i o m it.begins it.ends
    → it.at ≡ length c.code.code + 4
    → it.default ≡ pos (4 * length m.code.code) → IsCased place made since (cases_view cases) c m it
cases_done place made since cases i c o m it e eo so_far ea ed =
    let none : cases_view (drop i cases) ≡ no_cases =
    ap cases_view (drop_all i cases (omega (arith, e))) in
    let here : Exits → Here = λ exits. here_in place made since exits in
    let t : Draft = tabled (cases_view cases) c in
    let now : CasesLeft place made since cases i t m it.begins it.ends =
    subst (λ (z : Draft). CasesLeft place made since cases i z m it.begins it.ends) eo so_far in
    let at_end : Ended m m [] (λ end exits. cases_items (here exits) (4 * length m.code.code) end
    (cases_view (drop i cases))) =
    none_ended m (λ end exits. cases_items (here exits) (4 * length m.code.code) end
    (cases_view (drop i cases)))
    (λ end exits. ap (λ l. cases_items (here exits) (4 * length m.code.code) end l) none) in
    record {
      at = ea;
      default = ed;
      code =
          subst (λ l. Ended t m l (λ end exits. cases_items (here exits)
          (4 * length t.code.code) end (cases_view cases))) (append-nil it.ends)
          (now.code m [] at_end);
      count = now.count ∙ e ∙ sym (count_is cases);
      table = λ h exits.
          ap (λ l. cases_pairs (cases_view cases) l) (sym (append-nil it.begins))
          ∙ now.table h exits []
          (ap (λ l. cases_pairs l []) none
          ∙ sym (ap (λ l. cases_table (here exits) (4 * length m.code.code) l) none));
    }

-- ---- by the lists that code holds

pub cases_first : (place : Place) (made : List ℕ) (since : ℕ) (cases : List Case) (o m : Draft)
    (begins : List ℤ) (ends : List Hole) → m ≡ o
    → begins ≡ [] → ends ≡ [] → CasesLeft place made since cases 0 o m begins ends
cases_first place made since cases o m begins ends em eb ee =
    subst (λ (z : Draft). CasesLeft place made since cases 0 o z begins ends) (sym em)
    (subst (λ l. CasesLeft place made since cases 0 o o l ends) (sym eb)
    (subst (λ l. CasesLeft place made since cases 0 o o [] l) (sym ee)
    (cases_begun place made since cases o)))

pub case_pushed : (place : Place) (made : List ℕ) (since : ℕ) (cases : List Case) (i : ℕ)
    (case : Case) (b m j : Draft) (begins news : List ℤ)
    (ends more : List Hole) (begin : ℤ) (hole : Hole) → i < length cases
    → case ≡ get_or cases i case
    → CasesLeft place made since cases i b m begins ends → begin ≡ pos (4 * length m.code.code)
    → Ended m j (hole ∷ []) (λ end exits. stmt_items (here_in place made since exits)
    (4 * length m.code.code) (stmt_view case.stmt) ++ jump_to op.Jump end ∷ [])
    → news ≡ begins ++ begin ∷ [] → more ≡ ends ++ hole ∷ []
    → CasesLeft place made since cases (i + 1) b j news more
case_pushed place made since cases i case b m j begins news ends more begin hole within is so_far eb
    first en em =
    subst (λ l. CasesLeft place made since cases (i + 1) b j l more) (sym en)
    (subst (λ l. CasesLeft place made since cases (i + 1) b j (begins ++ begin ∷ []) l) (sym em)
    (case_done place made since cases i case b m j begins ends begin hole within is so_far
    eb first))

-- a case behind the same slots
pub made_as : (place : Place) (now old : List ℕ) (since p : ℕ) (m j : Draft) (hole : Hole)
    (s : Stmt) → now ≡ old
    → Ended m j (hole ∷ []) (λ end exits. stmt_items (here_in place now since exits) p s
    ++ jump_to op.Jump end ∷ [])
    → Ended m j (hole ∷ []) (λ end exits. stmt_items (here_in place old since exits) p s
    ++ jump_to op.Jump end ∷ [])
made_as place now old since p m j hole s e g =
    subst (λ l. Ended m j (hole ∷ [])
    (λ end exits. stmt_items (here_in place l since exits) p s ++ jump_to op.Jump end ∷ [])) e g

-- one case, by the operand of its jump
pub one_done : (o n j : Draft) (hole : Hole) (one : Exits → List Item) → Grown o n one
    → j ≡ record { code = with_items (jump_to op.Jump 0 ∷ []) n.code; holes = n.holes }
    → hole.at + 1 ≡ length j.code.code → hole.exit ≡ exit.Break
    → Ended o j (hole ∷ []) (λ end exits. one exits ++ jump_to op.Jump end ∷ [])
one_done o n j hole one g ej ea eh =
    let plain : hole ≡ record { at = hole.at; exit = exit.Break } =
    ap (λ e. record { at = hole.at; exit = e }) eh in
    subst (λ (z : Hole). Ended o j (z ∷ []) (λ end exits. one exits ++ jump_to op.Jump end ∷ []))
    (sym plain) (one_ended o n j hole.at one g ej ea)
