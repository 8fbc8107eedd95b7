-- The memory of a file that was loaded.
use Rattle.std.proofs.Common.{◌≡◌, ◌+◌, ◌-◌, ◌<◌, ◌≤◌, ◌++◌, inl, inr, ℕ, ℤ, pos, List, length}
use Rattle.std.proofs.Common.{drop, replicate, get_or, refl, sym, ap, ◌∙◌, arith, length-append}
use Rattle.std.proofs.lemmas.Bool.{cases_lt}
use Rattle.std.proofs.lemmas.List.{length-drop, drop-replicate, get_or-drop, get_or_append_left}
use Rattle.std.proofs.lemmas.List.{get_or-append_right}
use Rattle.amx_block.specs.Contents.{Contents}
use Rattle.amx_ops.proofs.ByteLaws.{same_cells}

pub code_put : (old new : Contents) (code : List ℤ) (place : ℕ) → length code ≤ place
    → ((k : ℕ) → k < place → get_or new.code k (pos 0) ≡ get_or code k (pos 0))
    → length new.code ≡ length code
    → new.memory ≡ old.memory → new.store ≡ old.store
    → new ≡ record { code = code; memory = old.memory; store = old.store }
code_put old new code place past done count memory store =
    let code_is : new.code ≡ code =
    same_cells new.code code count (λ k h. done k (omega (arith, h, past, count))) in
    ap (λ (cells : List ℤ). record { code = cells; memory = new.memory; store = new.store }) code_is
    ∙ ap (λ (cells : List ℤ). record { code = code; memory = cells; store = new.store }) memory
    ∙ ap (λ (n : ℕ). record { code = code; memory = old.memory; store = n }) store

cell_put : (store old new : List ℤ)
    → ((k : ℕ) → k < length store → get_or new k (pos 0) ≡ get_or store k (pos 0))
    → ((k : ℕ) → length store ≤ k → get_or new k (pos 0) ≡ get_or old k (pos 0)) → (k : ℕ)
    → get_or new k (pos 0) ≡ get_or (store ++ drop (length store) old) k (pos 0)
cell_put store old new done others k =
    elim (cases_lt k (length store)) [
      | inl h ↦ done k h ∙ sym (get_or_append_left store (drop (length store) old) (pos 0) k h)
      | inr h ↦
          let back : length store + (k - length store) ≡ k = omega (arith, h) in
          others k h ∙ ap (λ i. get_or old i (pos 0)) (sym back)
          ∙ sym (get_or-drop (length store) old (k - length store) (pos 0))
          ∙ sym (get_or-append_right store (drop (length store) old) (length store) k
          (pos 0) refl h)
    ]

pub store_put : (old new : Contents) (store : List ℤ) (place : ℕ) → length store ≤ place
    → place ≤ length store → length store ≤ length old.memory
    → ((k : ℕ) → k < place → get_or new.memory k (pos 0) ≡ get_or store k (pos 0))
    → ((k : ℕ) → place ≤ k → get_or new.memory k (pos 0) ≡ get_or old.memory k (pos 0))
    → length new.memory ≡ length old.memory
    → new.code ≡ old.code → new.store ≡ old.store
    → new ≡ record {
      code = old.code;
      memory = store ++ drop (length store) old.memory;
      store = old.store;
    }
store_put old new store place past within fits done others count code rest =
    let size : length new.memory ≡ length (store ++ drop (length store) old.memory) =
    omega (
      arith,
      count,
      fits,
      length-append store (drop (length store) old.memory),
      length-drop (length store) old.memory,
    ) in
    let memory : new.memory ≡ store ++ drop (length store) old.memory =
    same_cells new.memory (store ++ drop (length store) old.memory) size
    (λ k h. cell_put store old.memory new.memory (λ k h. done k (omega (arith, h, past)))
    (λ k h. others k (omega (arith, h, within))) k) in
    ap (λ (cells : List ℤ). record { code = new.code; memory = cells; store = new.store }) memory
    ∙ ap (λ (cells : List ℤ). record
    { code = cells; memory = store ++ drop (length store) old.memory; store = new.store }) code
    ∙ ap (λ (n : ℕ). record {
      code = old.code;
      memory = store ++ drop (length store) old.memory;
      store = n;
    }) rest

pub memory_loaded : (store given : List ℤ) (room : ℕ) (first second third : Contents)
    → given ≡ store
    → first.memory ≡ replicate (length given + room) (pos 0) → second.memory ≡ first.memory
    → third.memory ≡ given ++ drop (length given) second.memory
    → third.memory ≡ store ++ replicate room (pos 0)
memory_loaded store given room first second third is a b c =
    let n : length given + room - length given ≡ room = omega arith in
    c ∙ ap (λ cells. given ++ drop (length given) cells) (b ∙ a)
    ∙ ap (λ cells. given ++ cells)
    (drop-replicate (length given) (length given + room) (pos 0)
    ∙ ap (λ k. replicate k (pos 0)) n)
    ∙ ap (λ cells. cells ++ replicate room (pos 0)) is
