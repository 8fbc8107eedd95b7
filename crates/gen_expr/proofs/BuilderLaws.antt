-- An instruction that is put is one item more.
use Rattle.std.proofs.Common.{◌≡◌, ℕ, ℤ, List, [], ◌∷◌, ◌++◌, sym, ap, subst, ◌∙◌, append-nil}
use Rattle.amx_ops.specs.declared.op.Op.{Op}
use Rattle.amx_ops.specs.Table.{number_of, operand_of}
use Rattle.amx_ops.specs.Instructions.{cells, encoded, IsProper, IsEncodable}
use Rattle.amx_ops.proofs.Rows.{encoded_is, encodable}
use Rattle.gen_sim.specs.Items.{Plain, item_cells, with}
use Rattle.gen_expr.specs.Built.{Built, with_items}

-- by the number of its operation, as code meets it
pub encodable_as : (o : Op) (n : ℕ) (v : ℤ) → n ≡ number_of o → IsProper (operand_of o) v
    → IsEncodable n v
encodable_as o n v e h = subst (λ k. IsEncodable k v) (sym e) (encodable o v h)

pub put_is : (o : Op) (n : ℕ) (v : ℤ) (b : Built) (new : List ℤ) → n ≡ number_of o
    → new ≡ b.code ++ encoded n v
    → record { code = new; waits = b.waits } ≡ with_items (Plain (with o v) ∷ []) b
put_is o n v b new e h =
    let own = cells (record { op = o; operand = v }) in
    let code_is : new ≡ b.code ++ item_cells (Plain (with o v) ∷ []) =
    h ∙ ap (λ k. b.code ++ encoded k v) e
    ∙ ap (λ l. b.code ++ l) (encoded_is o v ∙ sym (append-nil own) ∙ sym (append-nil (own ++ [])))
    in
    let waits_are : b.waits ≡ b.waits ++ [] = sym (append-nil b.waits) in
    let first : record { code = new; waits = b.waits }
    ≡ record { code = b.code ++ item_cells (Plain (with o v) ∷ []); waits = b.waits } =
    ap (λ l. record { code = l; waits = b.waits }) code_is in
    first ∙ ap (λ l. record { code = b.code ++ item_cells (Plain (with o v) ∷ []); waits = l })
    waits_are
