-- Parts of items, of whose starts something holds.
use Rattle.std.proofs.Common.{◌+◌, ◌*◌, inl, inr, ℕ, List, [], ◌∷◌, ◌++◌, refl}
use Rattle.gen_sim.specs.Items.{Item, size, past}
use Rattle.gen_laws.specs.Fine.{StartsAt}
use Rattle.gen_laws.specs.Well.{Holds}
use Rattle.gen_laws.specs.Inner.{InnerAt, HoldsIn}
use Rattle.gen_laws.proofs.WellLaws.{tables_first, tables_rest}

inner_first : (begin : ℕ) (is js : List Item) (at : ℕ) → InnerAt begin is at
    → InnerAt begin (is ++ js) at
inner_first begin [] js at h = elim h [ ]
inner_first begin (it ∷ is) js at (inl h) = inl h
inner_first begin (it ∷ is) js at (inr h) = inr (inner_first (begin + 4 * size it) is js at h)

inner_rest : (begin : ℕ) (is js : List Item) (at : ℕ) → InnerAt (past begin is) js at
    → InnerAt begin (is ++ js) at
inner_rest begin [] js at h = h
inner_rest begin (it ∷ is) js at h = inr (inner_rest (begin + 4 * size it) is js at h)

-- the end of some items is a start where others stand behind them
before_one : (begin : ℕ) (is : List Item) (it : Item) (js : List Item) (at : ℕ)
    → StartsAt begin is at → InnerAt begin (is ++ it ∷ js) at
before_one begin [] it js at h = inl h
before_one begin (i ∷ is) it js at (inl h) = inl h
before_one begin (i ∷ is) it js at (inr h) = inr (before_one (begin + 4 * size i) is it js at h)

module _ (T U : ℕ → Type 0) where
  pub in_first : (begin : ℕ) (is js : List Item) → HoldsIn T U begin (is ++ js)
      → HoldsIn T U begin is
  in_first begin is js h = record {
    starts = λ at z. h.starts at (inner_first begin is js at z);
    tables = λ at z. h.tables at (tables_first begin is js at z);
  }

  pub in_rest : (begin : ℕ) (is js : List Item) → HoldsIn T U begin (is ++ js)
      → HoldsIn T U (past begin is) js
  in_rest begin is js h = record {
    starts = λ at z. h.starts at (inner_rest begin is js at z);
    tables = λ at z. h.tables at (tables_rest begin is js at z);
  }

  pub in_next : (begin : ℕ) (it : Item) (items : List Item) → HoldsIn T U begin (it ∷ items)
      → HoldsIn T U (begin + 4 * size it) items
  in_next begin it items h =
      record { starts = λ at z. h.starts at (inr z); tables = λ at z. h.tables at (inr z) }

  pub in_here : (begin : ℕ) (it : Item) (items : List Item) → HoldsIn T U begin (it ∷ items)
      → T begin
  in_here begin it items h = h.starts begin (inl refl)

  pub holds_before : (begin : ℕ) (is : List Item) (it : Item) (js : List Item)
      → HoldsIn T U begin (is ++ it ∷ js) → Holds T U begin is
  holds_before begin is it js h = record {
    starts = λ at z. h.starts at (before_one begin is it js at z);
    tables = λ at z. h.tables at (tables_first begin is (it ∷ js) at z);
  }
