-- The last step of a function may want memory, and so may the whole.
use Rattle.std.proofs.Common.{◌≡◌, ◌*◌, ℕ, List, ◌++◌, length, Result, Ok, Err, IfOk}
use Rattle.gen_sim.specs.Items.{Item, past}
use Rattle.gen_sim.specs.Here.{Exits}
use Rattle.gen_expr.specs.Built.{with_items}
use Rattle.gen_stmt.specs.declared.draft.Draft.{Draft}
use Rattle.gen_stmt.specs.Grown.{Grown}
use Rattle.gen_stmt.proofs.GrownLaws.{plain_grown, grown_as, then_grown, part_grown}

pub as_ok : {E : Type 0} (r : Result Draft E) (b : Draft) (items others : Exits → List Item)
    → ((exits : Exits) → items exits ≡ others exits)
    → IfOk r (λ x. Grown b x items) → IfOk r (λ x. Grown b x others)
as_ok (Ok x) b items others same g = grown_as b x items others (λ h exits. same exits) g
as_ok (Err fault) b items others same g = g

pub then_grown_ok : {E : Type 0} (o m : Draft) (r : Result Draft E) (items more : Exits → List Item)
    → Grown o m items → IfOk r (λ x. Grown m x more)
    → IfOk r (λ x. Grown o x (λ exits. items exits ++ more exits))
then_grown_ok o m (Ok x) items more f g = then_grown o m x items more f g
then_grown_ok o m (Err fault) items more f g = g

pub part_grown_ok : {E : Type 0} (o m : Draft) (r : Result Draft E) (first : Exits → List Item)
    (rest : Exits → ℕ → List Item) → Grown o m first
    → IfOk r (λ x. Grown m x (λ exits. rest exits (4 * length m.code.code)))
    → IfOk r (λ x. Grown o x (λ exits. first exits
    ++ rest exits (past (4 * length o.code.code) (first exits))))
part_grown_ok o m (Ok x) first rest f g = part_grown o m x first rest f g
part_grown_ok o m (Err fault) first rest f g = g

-- plain items at the end
pub then_plain : (o m r : Draft) (items : Exits → List Item) (is : List Item) → Grown o m items
    → r ≡ record { code = with_items is m.code; holes = m.holes }
    → Grown o r (λ exits. items exits ++ is)
then_plain o m r items is f e = then_grown o m r items (λ exits. is) f (plain_grown m r is e)

-- what else is known where there is an answer
pub ok_so : {E : Type 0} (r : Result Draft E) (P Q : Type 0) → (P → Q) → IfOk r (λ x. P)
    → IfOk r (λ x. Q)
ok_so (Ok x) P Q f p = f p
ok_so (Err fault) P Q f p = p
