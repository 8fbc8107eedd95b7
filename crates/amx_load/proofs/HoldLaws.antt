-- A block that holds a file's code and data, by its cells in order.
use Rattle.std.proofs.Common.{◌≡◌, ◌+◌, ◌-◌, ◌*◌, ◌<◌, ◌≤◌, ◌++◌, inl, inr, ℕ, zero, suc, ℤ, pos}
use Rattle.std.proofs.Common.{List, length, get_or, replicate, refl, sym, ap, ◌∙◌, arith}
use Rattle.std.proofs.Common.{length-append}
use Rattle.std.proofs.lemmas.Bool.{cases_lt}
use Rattle.std.proofs.lemmas.List.{get_or_append_left, get_or-append_right, length-replicate}
use Rattle.amx_ops.proofs.ByteLaws.{same_cells}
use Rattle.amx_ops.specs.Access.{byte_at}
use Rattle.amx_block.specs.Contents.{Contents, all_cells, zeros}
use Rattle.amx_block.specs.Loaded.{IsLoaded}
use Rattle.amx_block.specs.Expanded.{IsExpanded, IsPackedIn}
use Rattle.amx_compact.specs.Fits.{Fits}
use Rattle.amx_compact.specs.Spelled.{SpelledAll}
use Rattle.amx_load.specs.Plain.{ArePlain}
use Rattle.amx_load.proofs.PackedLaws.{Packs, packs, leaves_whole}
use Rattle.amx_load.proofs.PlainLaws.{plain_put}

zeros_at : (n i : ℕ) → get_or (replicate n (pos 0)) i (pos 0) ≡ pos 0
zeros_at zero i = refl
zeros_at (suc n) zero = refl
zeros_at (suc n) (suc i) = zeros_at n i

all_zeros_at : (m n i : ℕ)
    → get_or (replicate m (pos 0) ++ replicate n (pos 0)) i (pos 0) ≡ pos 0
all_zeros_at zero n i = zeros_at n i
all_zeros_at (suc m) n zero = refl
all_zeros_at (suc m) n (suc i) = all_zeros_at m n i

module _ (code store : List ℤ) (room : ℕ) (block : Contents)
    (code_size : length block.code ≡ length code)
    (memory_size : length block.memory ≡ length store + room)
    (front : (i : ℕ) → i < length code + length store
    → get_or (all_cells block) i (pos 0) ≡ get_or (code ++ store) i (pos 0))
    (back : (i : ℕ) → length code + length store ≤ i
    → get_or (all_cells block) i (pos 0) ≡ pos 0) where
  pub held_code : block.code ≡ code
  held_code =
      same_cells block.code code code_size (λ i h.
      sym (get_or_append_left block.code block.memory (pos 0) i h)
      ∙ front i (omega (arith, h, code_size))
      ∙ get_or_append_left code store (pos 0) i (omega (arith, h, code_size)))

  in_all : (i : ℕ) → get_or block.memory i (pos 0)
      ≡ get_or (all_cells block) (length code + i) (pos 0)
  in_all i =
      let back : length code + i - length code ≡ i = omega arith in
      sym (get_or-append_right block.code block.memory (length code) (length code + i) (pos 0)
      code_size (omega arith) ∙ ap (λ j. get_or block.memory j (pos 0)) back)

  in_store : (i : ℕ) → get_or store i (pos 0) ≡ get_or (code ++ store) (length code + i) (pos 0)
  in_store i =
      let back : length code + i - length code ≡ i = omega arith in
      sym (get_or-append_right code store (length code) (length code + i) (pos 0) refl (omega arith)
      ∙ ap (λ j. get_or store j (pos 0)) back)

  each : (i : ℕ)
      → get_or block.memory i (pos 0) ≡ get_or (store ++ replicate room (pos 0)) i (pos 0)
  each i =
      elim (cases_lt i (length store)) [
        | inl h ↦ in_all i ∙ front (length code + i) (omega (arith, h)) ∙ sym (in_store i)
            ∙ sym (get_or_append_left store (replicate room (pos 0)) (pos 0) i h)
        | inr h ↦ in_all i ∙ back (length code + i) (omega (arith, h))
            ∙ sym (get_or-append_right store (replicate room (pos 0)) (length store) i (pos 0)
            refl h ∙ zeros_at room (i - length store))
      ]

  pub held_memory : block.memory ≡ store ++ replicate room (pos 0)
  held_memory =
      same_cells block.memory (store ++ replicate room (pos 0)) (omega (
        arith,
        memory_size,
        length-append store (replicate room (pos 0)),
        length-replicate room (let z : ℤ = pos 0 in z),
      )) (λ i h. each i)

-- the code and the memory that a file's block has
abbrev pub Holds : (code store : List ℤ) → ℕ → Contents → Type 0
Holds code store room block =
    (block.code ≡ code) × (block.memory ≡ store ++ replicate room (pos 0))

-- the row of compact cells that fit is short enough
pub short_row : (code store : List ℤ) (row : List ℕ) → SpelledAll (code ++ store) row → Fits row
    → length row ≤ 4 * (length code + length store)
short_row code store row spelled fits =
    omega (arith, leaves_whole (code ++ store) row spelled fits, length-append code store)

pub room_for : (code store : List ℤ) (room n : ℕ) (empty : Contents)
    → empty ≡ zeros (length code) (length store) room → n ≤ 4 * (length code + length store)
    → n ≤ 4 * (length empty.code + length empty.memory)
room_for code store room n empty was h =
    omega (
      arith,
      h,
      ap (λ b. length b.code) was ∙ length-replicate (length code) (let z : ℤ = pos 0 in z),
      ap (λ b. length b.memory) was
          ∙ length-replicate (length store + room) (let z : ℤ = pos 0 in z),
    )

module _ (code store : List ℤ) (room : ℕ) (row : List ℕ) (empty put : Contents)
    (was : empty ≡ zeros (length code) (length store) room) (loaded : IsLoaded row empty put) where
  code_was : length empty.code ≡ length code
  code_was = ap (λ b. length b.code) was ∙ length-replicate (length code) (pos 0)

  memory_was : length empty.memory ≡ length store + room
  memory_was = ap (λ b. length b.memory) was ∙ length-replicate (length store + room) (pos 0)

  sizes : length put.code + length put.memory ≡ length empty.code + length empty.memory
  sizes =
      sym (length-append put.code put.memory) ∙ loaded.cells.size
      ∙ length-append empty.code empty.memory

  code_put : length put.code ≡ length code
  code_put = loaded.code ∙ code_was

  memory_put : length put.memory ≡ length store + room
  memory_put = omega (arith, sizes, loaded.code, memory_was)

  zero_was : (i : ℕ) → get_or (all_cells empty) i (pos 0) ≡ pos 0
  zero_was i =
      ap (λ b. get_or (all_cells b) i (pos 0)) was
      ∙ all_zeros_at (length code) (length store + room) i

  behind_put : (i : ℕ) → length row ≤ 4 * i → get_or (all_cells put) i (pos 0) ≡ pos 0
  behind_put i h = loaded.cells.others i h ∙ zero_was i

  pub plain_held : ArePlain (code ++ store) row → Holds code store room put
  plain_held plain =
      let both = length-append code store in
      let front : (i : ℕ) → i < length code + length store
      → get_or (all_cells put) i (pos 0) ≡ get_or (code ++ store) i (pos 0) = λ i h.
      plain_put (code ++ store) row (all_cells empty) (all_cells put) plain loaded.cells i
      (omega (arith, h, both)) in
      let back : (i : ℕ) → length code + length store ≤ i → get_or (all_cells put) i (pos 0) ≡ pos 0
      = λ i h. behind_put i (omega (arith, h, both, plain.size)) in (
        held_code code store room put code_put memory_put front back,
        held_memory code store room put code_put memory_put front back,
      )

  module _ (spelled : SpelledAll (code ++ store) row) (fits : Fits row) where
    count : length put.code + put.store ≡ length code + length store
    count = omega (arith, code_put, loaded.store, ap (λ b. b.store) was)

    pub packed_in : Packs (all_cells put) (length row) (length put.code + put.store) (code ++ store)
    packed_in =
        packs (code ++ store) row (all_cells put) (length put.code + put.store) spelled fits
        (λ k h. let here : 0 + k ≡ k = omega arith in
        ap (byte_at (all_cells put)) here ∙ loaded.cells.put k h)
        (length-append code store ∙ sym count)
        (omega (arith, count, code_put, memory_put, length-append put.code put.memory))

    module _ (out : Contents)
        (expanded : (p : IsPackedIn (length row) put) → IsExpanded (length row) put out p) where
      done : IsExpanded (length row) put out packed_in.packed
      done = expanded packed_in.packed

      front_out : (i : ℕ) → i < length code + length store
          → get_or (all_cells out) i (pos 0) ≡ get_or (code ++ store) i (pos 0)
      front_out i h =
          done.cells.done i (omega arith) (omega (arith, h, count))
          ∙ packed_in.value i (omega (arith, h, count))

      back_out : (i : ℕ) → length code + length store ≤ i
          → get_or (all_cells out) i (pos 0) ≡ pos 0
      back_out i h =
          done.cells.past i (omega (arith, h, count))
          ∙ behind_put i (omega (arith, h, short_row code store row spelled fits))

      pub packed_held : Holds code store room out
      packed_held = (
        held_code code store room out (done.code ∙ code_put) (done.memory ∙ memory_put) front_out
            back_out,
        held_memory code store room out (done.code ∙ code_put) (done.memory ∙ memory_put) front_out
            back_out,
      )
