use Rattle.std.proofs.Common.{◌≡◌, ◌+◌, ◌-◌, ◌/◌, ◌≤◌, ◌<◌, ℕ, pos, take, get_or}
use Rattle.std.proofs.Common.{refl, sym, ap, ◌∙◌, arith, w32, FitsSigned, subst}
use Rattle.std.proofs.lemmas.List.{get_or-drop, length-drop, take-take}
use Rattle.amx_block.specs.Contents.{Contents}
use Rattle.amx_block.proofs.BlockLaws.{contents}
use Rattle.amx_block.proofs.CopyLaws.{bytes_of_cells, other_cells, in_front}
use Rattle.amx_block.proofs.block.Block.copy_cells.Goals as goal

pub returns : goal.returns
returns c =
    let f = c.self.inside in
    let e = c.copy_whole.ensures in
    let w = c.requires.whole in
    let code = f.code in
    let from = c.args.from in
    let to = c.args.to in
    let count = c.args.count in
    let was = f.cells.items in
    let is = c.copy_whole.new.cells.items in
    let old : Contents = contents code was f.store in
    let new : Contents = contents code is f.store in
    let copied : (i : ℕ) → to / 4 ≤ i → i < to / 4 + count / 4
    → get_or new.memory i (pos 0) ≡ get_or old.memory (from / 4 + (i - to / 4)) (pos 0) =
    λ i l h.
    let there : code + from / 4 + (code + i - (code + to / 4)) ≡ code + (from / 4 + (i - to / 4)) =
    omega (arith, l) in
    get_or-drop code is i (pos 0) ∙ e.copied (code + i) (omega (arith, l)) (omega (arith, h))
    ∙ ap (λ j. get_or was j (pos 0)) there
    ∙ sym (get_or-drop code was (from / 4 + (i - to / 4)) (pos 0)) in
    let below : (i : ℕ) → i < to / 4 → get_or new.memory i (pos 0) ≡ get_or old.memory i (pos 0) =
    λ i h.
    get_or-drop code is i (pos 0) ∙ in_front (code + to / 4) (code + i) was is e.front
    (omega (arith, h)) ∙ sym (get_or-drop code was i (pos 0)) in
    let behind : (i : ℕ) → to / 4 + count / 4 ≤ i
    → get_or new.memory i (pos 0) ≡ get_or old.memory i (pos 0) = λ i h.
    get_or-drop code is i (pos 0) ∙ e.behind (code + i) (omega (arith, h))
    ∙ sym (get_or-drop code was i (pos 0)) in
    let fits : (k : ℕ) → to + 0 ≤ k → k < to + count
    → FitsSigned w32 (get_or new.memory (k / 4) (pos 0)) = λ k l h.
    subst (FitsSigned w32) (sym (get_or-drop code is (k / 4) (pos 0)))
    (e.fits (code + k / 4) (omega (arith, l, w.1.0)) (omega (arith, h, w.1.0, w.1.1))) in
    let kept : take code is ≡ take code was =
    sym (take-take code (code + to / 4) is (omega arith)) ∙ ap (take code) e.front
    ∙ take-take code (code + to / 4) was (omega arith) in
    rw (← c.self.view_is) record {
      bytes = bytes_of_cells old new from to count w copied below behind;
      count = length-drop code is ∙ ap (λ n. n - code) e.size ∙ sym (length-drop code was);
      others = other_cells old new from to count w copied below behind;
      fits = fits;
      code = kept;
      store = refl;
    }
