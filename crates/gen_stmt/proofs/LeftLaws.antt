-- Locals that leave the stack, by how many they are.
use Rattle.std.proofs.Common.{◌≡◌, ◌-◌, ◌*◌, ◌<◌, ℕ, zero, suc, ℤ, pos, List, [], ◌∷◌, drop, length}
use Rattle.std.proofs.Common.{refl, sym, ap, ◌∙◌, arith}
use Rattle.pawn_meaning.specs.Program.{Slot}
use Rattle.amx_ops.specs.declared.op.Op.TheVariants as op
use Rattle.gen_sim.specs.SimpleCode.{taking}
use Rattle.gen_sim.specs.FlowCode.{made_cells, leave_code}
use Rattle.gen_expr.specs.Built.{with_items}
use Rattle.gen_stmt.specs.declared.draft.Draft.{Draft}
use Rattle.gen_stmt.specs.Grown.{Grown}
use Rattle.gen_stmt.proofs.GrownLaws.{grown_as, plain_grown, same_grown}
use Rattle.gen_stmt.specs.Keeps.{Keeps}
use Rattle.gen_stmt.specs.declared.locals.Locals.{Locals}
use Rattle.gen_stmt.specs.declared.locals.Mark.{Mark}
use Rattle.gen_stmt.specs.Left.{left_code}
use Rattle.gen_stmt.specs.Standing.{IsMark}
use Rattle.gen_stmt.proofs.StandLaws.{since_count, since_cells}

pub left_is : (slots : List Slot) (made : List ℕ)
    → left_code (length made) (made_cells slots made) ≡ leave_code slots made
left_is slots [] = refl
left_is slots (s ∷ made) = refl

pub left_as : (slots : List Slot) (made : List ℕ) (count cells : ℕ) → count ≡ length made
    → cells ≡ made_cells slots made
    → left_code count cells ≡ leave_code slots made
left_as slots made count cells ec ee =
    ap (λ n. left_code n cells) ec ∙ ap (λ n. left_code (length made) n) ee ∙ left_is slots made

pub none_dropped : (b : Draft) (count cells : ℕ) → count ≡ 0
    → Grown b b (λ exits. left_code count cells)
none_dropped b count cells e =
    grown_as b b (λ exits. []) (λ exits. left_code count cells)
    (λ h exits. ap (λ n. left_code n cells) (sym e)) (same_grown b)

pub some_dropped : (b r : Draft) (count cells : ℕ) (bytes : ℤ) → 0 < count → bytes ≡ pos (4 * cells)
    → r ≡ record { code = with_items (taking op.Stack bytes ∷ []) b.code; holes = b.holes }
    → Grown b r (λ exits. left_code count cells)
some_dropped b r zero cells bytes some eb er = absurd (omega (arith, some))
some_dropped b r (suc count) cells bytes some eb er =
    grown_as b r (λ exits. taking op.Stack bytes ∷ [])
    (λ exits. taking op.Stack (pos (4 * cells)) ∷ [])
    (λ h exits. ap (λ v. taking op.Stack v ∷ []) eb)
    (plain_grown b r (taking op.Stack bytes ∷ []) er)

-- those made since a mark
pub since_dropped : (slots : List Slot) (params : ℕ) (locals : Locals) (mark : Mark) (b r : Draft)
    (count cells : ℕ) → Keeps slots params locals
    → IsMark slots mark locals.made.items → count ≡ length locals.made.items - mark.made
    → cells ≡ locals.cells - mark.cells
    → Grown b r (λ exits. left_code count cells)
    → Grown b r (λ exits. leave_code slots (drop mark.made locals.made.items))
since_dropped slots params locals mark b r count cells k m ec ee g =
    let made = locals.made.items in
    let size : cells ≡ made_cells slots (drop mark.made made) =
    omega (arith, ee, k.cells, since_cells slots mark made m) in
    grown_as b r (λ exits. left_code count cells) (λ exits. leave_code slots (drop mark.made made))
    (λ h exits. left_as slots (drop mark.made made) count cells
    (ec ∙ since_count slots mark made m) size) g

-- all of them
pub all_dropped : (slots : List Slot) (params : ℕ) (locals : Locals) (b r : Draft) (count cells : ℕ)
    → Keeps slots params locals
    → count ≡ length locals.made.items → cells ≡ locals.cells
    → Grown b r (λ exits. left_code count cells)
    → Grown b r (λ exits. leave_code slots locals.made.items)
all_dropped slots params locals b r count cells k ec ee g =
    grown_as b r (λ exits. left_code count cells) (λ exits. leave_code slots locals.made.items)
    (λ h exits. left_as slots locals.made.items count cells ec (ee ∙ k.cells)) g
