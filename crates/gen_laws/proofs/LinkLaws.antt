-- Items that are well lead where they may.
use Rattle.std.proofs.Common.{◌≡◌, ◌+◌, ◌-◌, ◌*◌, ◌/◌, ℕ, zero, suc, ℤ, pos, negsuc, List, [], ◌∷◌}
use Rattle.std.proofs.Common.{◌++◌, None, Bool, true, length, drop, refl, sym, ap, ◌∙◌, arith}
use Rattle.std.proofs.Common.{append_assoc, length-append}
use Rattle.std.proofs.Math.Seq.{drop-append-add}
use Rattle.amx_ops.specs.declared.table.Operand.{Operand}
use Rattle.amx_ops.specs.declared.table.Operand.TheVariants as operand
use Rattle.amx_ops.specs.Table.{number_of, operand_of}
use Rattle.amx_ops.specs.Instructions.{cells_by, placed_from}
use Rattle.amx_ops.specs.Written.{IsWrittenBy, cells_of}
use Rattle.amx_ops.specs.Valid.{first_of, leads, is_table, all_lead, link_fault, linked}
use Rattle.amx_ops.proofs.Rows.{has_row}
use Rattle.gen_sim.specs.Items.{Item, Plain, CallOf, size, placed_in, cells_with}
use Rattle.gen_laws.proofs.FaultLaws.{stand}
use Rattle.gen_laws.specs.Well.{IsLed, ArePairsLed, IsTableLed, LeadsWith, AreWell}
use Rattle.gen_laws.specs.Called.{AreCalled}

module _ (T U : ℕ → Type 0) (S : ℕ → Bool) (holds : (at : ℕ) → T at → S at ≡ true) where
  led : (v : ℤ) → IsLed T v → leads S v ≡ true
  led v h = rw h.1 (holds h.0 h.2)

  one_led : (v : ℤ) (rest : List ℤ) → leads S v ≡ true → all_lead S 1 (v ∷ rest) ≡ true
  one_led v [] e = rw e refl
  one_led v (x ∷ rest) e = rw e refl

  table_led : (n : ℕ) (v : ℤ) (pairs rest : List ℤ) → IsLed T v → ArePairsLed T pairs
      → length pairs ≡ 2 * n → all_lead S (suc n) (v ∷ (pairs ++ rest)) ≡ true
  table_led zero v [] rest h g e = one_led v rest (led v h)
  table_led zero v (x ∷ pairs) rest h g e = absurd (omega (arith, e))
  table_led (suc n) v [] rest h g e = absurd (omega (arith, e))
  table_led (suc n) v (x ∷ []) rest h g e = elim g [ ]
  table_led (suc n) v (x ∷ at ∷ pairs) rest h g e =
      rw (led v h) (table_led n at pairs rest g.0 g.1 (omega (arith, e)))

  module _ (code : List ℤ) (tables : (at : ℕ) → U at
      → is_table (placed_from 0 0 code) (pos at) ≡ true) where
    cases_link : (begin n count cells : ℕ) (pre table rest : List ℤ)
        → code ≡ pre ++ (pos n ∷ pos count ∷ (table ++ rest)) → begin ≡ 4 * length pre
        → length table ≡ 1 + 2 * count → IsTableLed T table
        → link_fault S 0 code operand.Cases
        (record { at = begin; instr = record { op = n; operand = pos count; cells = cells } })
        ≡ None
    cases_link begin n count cells pre [] rest e b c h = elim h [ ]
    cases_link begin n count cells pre (v ∷ pairs) rest e b c h =
        let index : (begin - 0) / 4 + 2 ≡ length pre + 2 = omega (arith, b) in
        let at : drop ((begin - 0) / 4 + 2) code ≡ v ∷ (pairs ++ rest) =
        ap (λ k. drop k code) index ∙ ap (λ (l : List ℤ). drop (length pre + 2) l) e
        ∙ drop-append-add pre (pos n ∷ pos count ∷ (v ∷ (pairs ++ rest))) 2 in
        let more : count + 1 ≡ suc count = omega arith in
        let all : all_lead S (count + 1) (v ∷ (pairs ++ rest)) ≡ true =
        ap (λ k. all_lead S k (v ∷ (pairs ++ rest))) more
        ∙ table_led count v pairs rest h.0 h.1 (omega (arith, c)) in
        rw (at, all) refl

    link_by : (kind : Operand) (begin n cells : ℕ) (v : ℤ) (pre table rest : List ℤ)
        → code ≡ pre ++ ((cells_by n v kind ++ table) ++ rest) → begin ≡ 4 * length pre
        → IsWrittenBy kind v table → LeadsWith T U kind v table
        → link_fault S 0 code kind (record
        { at = begin; instr = record { op = n; operand = v; cells = cells } }) ≡ None
    link_by operand.Target begin n cells v pre table rest e b w h = rw (h.1, holds h.0 h.2) refl
    link_by operand.Relative begin n cells v pre table rest e b w h = elim h [ ]
    link_by operand.CaseTable begin n cells v pre table rest e b w h = rw (h.1, tables h.0 h.2) refl
    link_by operand.Cases begin n cells (pos count) pre table rest e b w h =
        cases_link begin n count cells pre table rest e b w h
    link_by operand.Cases begin n cells (negsuc count) pre table rest e b w h = elim w [ ]
    link_by operand.Nothing begin n cells v pre table rest e b w h = refl
    link_by operand.AnyCell begin n cells v pre table rest e b w h = refl
    link_by operand.ByteCount begin n cells v pre table rest e b w h = refl
    link_by operand.Register begin n cells v pre table rest e b w h = refl
    link_by operand.SetRegister begin n cells v pre table rest e b w h = refl
    link_by operand.Multiple begin n cells v pre table rest e b w h = refl
    link_by operand.Length begin n cells v pre table rest e b w h = refl
    link_by operand.CellsLength begin n cells v pre table rest e b w h = refl
    link_by operand.NativeNumber begin n cells v pre table rest e b w h = refl

    module _ (entry : ℕ → ℕ) (C : ℕ → Type 0) (calls : (f : ℕ) → C f → S (entry f) ≡ true)
        (natives : ℕ) where
      next_code : (pre : List ℤ) (it : Item) (items : List Item)
          → code ≡ pre ++ cells_with entry (it ∷ items)
          → code ≡ (pre ++ cells_of (placed_in entry it)) ++ cells_with entry items
      next_code pre it items e =
          e ∙ sym (append_assoc pre (cells_of (placed_in entry it)) (cells_with entry items))

      pub linked_all : (begin : ℕ) (pre : List ℤ) (items : List Item)
          → code ≡ pre ++ cells_with entry items → begin ≡ 4 * length pre
          → AreWell natives T U items → AreCalled C items
          → first_of (linked S 0 code) (stand entry begin items) ≡ None
      linked_all begin pre [] e b h k = refl
      linked_all begin pre (Plain it ∷ items) e b h k =
          let own =
          link_by (operand_of it.op) begin (number_of it.op)
          (length (cells_of it)) it.operand pre it.table
          (cells_with entry items) e b h.0.0 h.0.3 in
          rw ((has_row it.op).row, own)
          (linked_all (begin + 4 * size (Plain it)) (pre ++ cells_of it) items
          (next_code pre (Plain it) items e)
          (omega (arith, b, length-append pre (cells_of it))) h.1 k)
      linked_all begin pre (CallOf f ∷ items) e b h k =
          rw ((has_row (placed_in entry (CallOf f)).op).row, calls f k.0)
          (linked_all (begin + 4 * size (CallOf f))
          (pre ++ cells_of (placed_in entry (CallOf f))) items
          (next_code pre (CallOf f) items e)
          (omega (arith, b, length-append pre (cells_of (placed_in entry (CallOf f))))) h.1 k.1)
