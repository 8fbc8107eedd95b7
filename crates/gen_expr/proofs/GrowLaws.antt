-- Items that are appended one behind another.
use Rattle.std.proofs.Common.{◌≡◌, ◌+◌, ◌*◌, ℕ, List, [], ◌∷◌, ◌++◌, length, sym, ap, ◌∙◌, arith}
use Rattle.std.proofs.Common.{append_assoc, append-nil, length-append, Result, Ok, Err, IfOk}
use Rattle.gen_sim.specs.Items.{Item, Plain, CallOf, size, item_cells, past, waits_from, appended}
use Rattle.amx_ops.specs.Written.{cells_of}
use Rattle.gen_sim.proofs.ItemLaws.{cells-append, past_is}
use Rattle.gen_expr.specs.Built.{Built, with_items}

pub waits-append : (at : ℕ) (is js : List Item)
    → waits_from at (is ++ js) ≡ waits_from at is ++ waits_from (at + length (item_cells is)) js
waits-append at [] js = ap (λ n. waits_from n js) (omega arith)
waits-append at (Plain it ∷ is) js =
    waits-append (at + size (Plain it)) is js
    ∙ ap (λ n. waits_from (at + size (Plain it)) is ++ waits_from n js)
    (omega (arith, length-append (cells_of it) (item_cells is)))
waits-append at (CallOf f ∷ is) js =
    ap (λ l. (at + 1, f) ∷ l) (waits-append (at + size (CallOf f)) is js
    ∙ ap (λ n. waits_from (at + size (CallOf f)) is ++ waits_from n js)
    (omega (arith, length-append (cells_of (appended (CallOf f))) (item_cells is))))

-- some items, and then others
pub both_grow : (is js : List Item) (b : Built)
    → with_items js (with_items is b) ≡ with_items (is ++ js) b
both_grow is js b =
    let code : (b.code ++ item_cells is) ++ item_cells js ≡ b.code ++ item_cells (is ++ js) =
    append_assoc b.code (item_cells is) (item_cells js)
    ∙ ap (λ l. b.code ++ l) (sym (cells-append (λ f. 0) is js)) in
    let waits : (b.waits ++ waits_from (length b.code) is)
    ++ waits_from (length (b.code ++ item_cells is)) js
    ≡ b.waits ++ waits_from (length b.code) (is ++ js) =
    append_assoc b.waits (waits_from (length b.code) is)
    (waits_from (length (b.code ++ item_cells is)) js)
    ∙ ap (λ n. b.waits ++ (waits_from (length b.code) is ++ waits_from n js))
    (length-append b.code (item_cells is))
    ∙ ap (λ l. b.waits ++ l) (sym (waits-append (length b.code) is js)) in
    ap (λ l. record {
      code = l;
      waits = (b.waits ++ waits_from (length b.code) is)
          ++ waits_from (length (b.code ++ item_cells is)) js;
    }) code
    ∙ ap (λ l. record { code = b.code ++ item_cells (is ++ js); waits = l }) waits

-- by what is known of each step
pub then_grow : (b m r : Built) (is js : List Item) → m ≡ with_items is b → r ≡ with_items js m
    → r ≡ with_items (is ++ js) b
then_grow b m r is js e f = f ∙ ap (λ x. with_items js x) e ∙ both_grow is js b

pub then_ok : {E : Type 0} (b m : Built) (r : Result Built E) (is js : List Item)
    → m ≡ with_items is b
    → IfOk r (λ x. x ≡ with_items js m) → IfOk r (λ x. x ≡ with_items (is ++ js) b)
then_ok b m (Ok x) is js e f = then_grow b m x is js e f
then_ok b m (Err fault) is js e f = f

-- nothing more
pub none_grow : (b : Built) → b ≡ with_items [] b
none_grow b =
    ap (λ l. record { code = l; waits = b.waits }) (sym (append-nil b.code))
    ∙ ap (λ l. record { code = b.code ++ []; waits = l }) (sym (append-nil b.waits))

-- where what is appended next begins
pub next_at : (b m : Built) (is : List Item) → m ≡ with_items is b
    → 4 * length m.code ≡ past (4 * length b.code) is
next_at b m is e =
    ap (λ (x : Built). 4 * length x.code) e
    ∙ omega (arith, length-append b.code (item_cells is), past_is (4 * length b.code) is)
