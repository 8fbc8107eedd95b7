-- An image is of one version, state and position.
use Rattle.std.proofs.Common.{◌≡◌, ◌-◌, ◌/◌, ◌^◌, ◌<◌, ◌≤◌, ◌++◌, ℕ, ℤ, pos, List, length, take}
use Rattle.std.proofs.Common.{drop, replicate, refl, sym, ap, ◌∙◌, arith}
use Rattle.std.specs.Int.{w32}
use Rattle.std.proofs.lemmas.Int.{of_z-to_z}
use Rattle.std.proofs.lemmas.List.{length-take-le, take_at, drop_at}
use Rattle.pawn_cells.specs.Cells.{bits_of, cell_of}
use Rattle.amx_ops.specs.declared.amx.Amx.{Amx}
use Rattle.amx_ops.specs.State.{State}
use Rattle.amx_ops.specs.States.{IsRestorable}
use Rattle.amx_step.specs.declared.host_registers.Registers.{Registers}
use Rattle.amx_step.specs.Hosting.{registers_of}
use Rattle.amx_format.specs.Numbers.{cells_at}
use Rattle.amx_image.specs.declared.version.Version.{Version}
use Rattle.amx_image.specs.declared.version.Version.TheVariants.{Whole, Live}
use Rattle.amx_image.specs.declared.place.TheConstants.{CELLS}
use Rattle.amx_image.specs.Version.{version_number}
use Rattle.amx_image.specs.Image.{stored, IsImage}
use Rattle.amx_image.specs.Resumed.{AnImageIsOfOneState}

-- an address as a register, and back
pub address_back : (n : ℕ) → n < 2 ^ 32 → bits_of (cell_of n) ≡ n
address_back n h = of_z-to_z w32 n h

pub same_address : (m n : ℕ) → m < 2 ^ 32 → n < 2 ^ 32 → cell_of m ≡ cell_of n → m ≡ n
same_address m n f g e = sym (address_back m f) ∙ ap bits_of e ∙ address_back n g

pub same_version : (v w : Version) → version_number v ≡ version_number w → v ≡ w
same_version Whole Whole e = refl
same_version Whole Live e = absurd (let no : ⊥ = omega (arith, e) in no)
same_version Live Whole e = absurd (let no : ⊥ = omega (arith, e) in no)
same_version Live Live e = refl

abbrev state_of : ℤ → ℤ → (frm cip stk hea : ℕ) → List ℤ → State
state_of pri alt frm cip stk hea cells =
    record { pri = pri; alt = alt; frm = frm; cip = cip; stk = stk; hea = hea; cells = cells }

same_state : (s t : State) → s.pri ≡ t.pri → s.alt ≡ t.alt → s.frm ≡ t.frm → s.cip ≡ t.cip
    → s.stk ≡ t.stk → s.hea ≡ t.hea → s.cells ≡ t.cells → s ≡ t
same_state s t pri alt frm cip stk hea cells =
    ap (λ x. state_of x s.alt s.frm s.cip s.stk s.hea s.cells) pri
    ∙ ap (λ x. state_of t.pri x s.frm s.cip s.stk s.hea s.cells) alt
    ∙ ap (λ x. state_of t.pri t.alt x s.cip s.stk s.hea s.cells) frm
    ∙ ap (λ x. state_of t.pri t.alt t.frm x s.stk s.hea s.cells) cip
    ∙ ap (λ x. state_of t.pri t.alt t.frm t.cip x s.hea s.cells) stk
    ∙ ap (λ x. state_of t.pri t.alt t.frm t.cip t.stk x s.cells) hea
    ∙ ap (λ x. state_of t.pri t.alt t.frm t.cip t.stk t.hea x) cells

-- ---- cells

-- the cells below one number and from another on, parted again
module _ (xs ys : List ℤ) (h k : ℕ) (low : h ≤ length xs) (high : h ≤ length ys)
    (e : take h xs ++ drop k xs ≡ take h ys ++ drop k ys) where
  fronts : take h xs ≡ take h ys
  fronts =
      sym (take_at (take h xs) (drop k xs) h (length-take-le h xs low)) ∙ ap (take h) e
      ∙ take_at (take h ys) (drop k ys) h (length-take-le h ys high)

  backs : drop k xs ≡ drop k ys
  backs =
      sym (drop_at (take h xs) (drop k xs) h (length-take-le h xs low)) ∙ ap (drop h) e
      ∙ drop_at (take h ys) (drop k ys) h (length-take-le h ys high)

  pub between : take h xs ++ (replicate (k - h) (pos 0) ++ drop k xs)
      ≡ take h ys ++ (replicate (k - h) (pos 0) ++ drop k ys)
  between =
      ap (λ zs. zs ++ (replicate (k - h) (pos 0) ++ drop k xs)) fronts
      ∙ ap (λ zs. take h ys ++ (replicate (k - h) (pos 0) ++ zs)) backs

module _ (amx : Amx) (s t : State) (f : IsRestorable amx s) (g : IsRestorable amx t)
    (stk : s.stk ≡ t.stk) (hea : s.hea ≡ t.hea) where
  low : (u : State) → IsRestorable amx u → u.hea / 4 ≤ length u.cells
  low u r = omega (arith, r.state.order.1, r.state.order.2)

  live_cells : take (s.hea / 4) s.cells ++ drop (s.stk / 4) s.cells
      ≡ take (s.hea / 4) t.cells ++ drop (s.stk / 4) t.cells → s.cells ≡ t.cells
  live_cells e =
      sym (ap (λ (u : State). u.cells) f.clean)
      ∙ between s.cells t.cells (s.hea / 4) (s.stk / 4) (low s f) (omega (arith, low t g, hea)) e
      ∙ ap (λ (n : ℕ). take (n / 4) t.cells
      ++ (replicate (s.stk / 4 - n / 4) (pos 0) ++ drop (s.stk / 4) t.cells)) hea
      ∙ ap (λ (n : ℕ). take (t.hea / 4) t.cells
      ++ (replicate (n / 4 - t.hea / 4) (pos 0) ++ drop (n / 4) t.cells)) stk
      ∙ ap (λ (u : State). u.cells) g.clean

  pub same_cells : (v : Version) → stored v s ≡ stored v t → s.cells ≡ t.cells
  same_cells Whole e = e
  same_cells Live e =
      live_cells (e ∙ ap (λ (n : ℕ). take (n / 4) t.cells ++ drop (t.stk / 4) t.cells) (sym hea)
      ∙ ap (λ (n : ℕ). take (s.hea / 4) t.cells ++ drop (n / 4) t.cells) (sym stk))

-- ---- two images in the same bytes

module _ (v w : Version) (s t : State) (p q : ℕ) (digest bytes : List ℕ)
    (a : IsImage v s p digest bytes) (b : IsImage w t q digest bytes) where
  pub registers_agree : registers_of s ≡ registers_of t
  registers_agree = sym a.registers ∙ b.registers

  pub cip_agrees : cell_of s.cip ≡ cell_of t.cip
  cip_agrees = ap (λ (r : Registers). r.cip) registers_agree

  pub versions_agree : v ≡ w
  versions_agree = same_version v w (sym a.version_is ∙ b.version_is)

  pub stored_agree : stored v s ≡ stored w t
  stored_agree =
      let size : length (stored v s) ≡ length (stored w t) =
      omega (arith, a.length_is, b.length_is) in
      sym a.cells ∙ ap (cells_at bytes CELLS) size ∙ b.cells

  pub stored_as_one : stored v s ≡ stored v t
  stored_as_one = stored_agree ∙ ap (λ u. stored u t) (sym versions_agree)

  module _ (amx : Amx) (f : IsRestorable amx s) (g : IsRestorable amx t) where
    address : (u : State) → IsRestorable amx u → (u.stk < 2 ^ 32) × (u.hea < 2 ^ 32)
    address u r = (
      omega (arith, r.state.size, r.state.order.2),
      omega (arith, r.state.size, r.state.order.1, r.state.order.2),
    )

    pub states_agree : s ≡ t
    states_agree =
        let stk =
        same_address s.stk t.stk (address s f).0 (address t g).0
        (ap (λ (r : Registers). r.stk) registers_agree) in
        let hea =
        same_address s.hea t.hea (address s f).1 (address t g).1
        (ap (λ (r : Registers). r.hea) registers_agree) in
        same_state s t
        (ap (λ (r : Registers). r.pri) registers_agree)
        (ap (λ (r : Registers). r.alt) registers_agree)
        (same_address s.frm t.frm f.state.frm g.state.frm
        (ap (λ (r : Registers). r.frm) registers_agree))
        (same_address s.cip t.cip f.state.cip g.state.cip cip_agrees)
        stk hea
        (same_cells amx s t f g stk hea v stored_as_one)

pub one_state : AnImageIsOfOneState
one_state amx v w s t p q digest bytes f g a b = (
  versions_agree v w s t p q digest bytes a b,
  states_agree v w s t p q digest bytes a b amx f g,
  sym a.position_is ∙ b.position_is,
)
