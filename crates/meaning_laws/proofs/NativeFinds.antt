-- A native sees each argument that is alive, and writes where it saw.
use Rattle.std.proofs.Common.{◌≡◌, ◌∙◌, ◌⊎◌, ◌+◌, ◌≤◌, ℕ, ℤ, List, [], ◌∷◌, Bool, true, false}
use Rattle.std.proofs.Common.{Option, None, Some, IfSome, length, refl, sym, ap, subst, arith}
use Rattle.std.proofs.Common.{nat_le, inl, inr, if◌then◌else◌}
use Rattle.std.proofs.lemmas.Bool.{leb-true}
use Rattle.host_script.specs.declared.script.Form.{Form}
use Rattle.host_script.specs.declared.script.Form.TheVariants as form
use Rattle.host_script.specs.declared.script.Script.{Script}
use Rattle.host_script.specs.Script.{characters}
use Rattle.host_script.specs.NativeCall.{Trap, Sight, Sees, Hold, Sought, Put, Called, with_sight}
use Rattle.host_script.specs.NativeCall.{native_call}
use Rattle.pawn_meaning.specs.Program.{Program}
use Rattle.pawn_arrays.specs.Sizes.{elements_in}
use Rattle.pawn_meaning.specs.Memory.{Memory, Reference, read_cells, write_cells}
use Rattle.pawn_meaning.specs.Natives.{Held, Value, Refers, Spot, line_of, see_first, see_cells}
use Rattle.pawn_meaning.specs.Natives.{spot_of, lost, see_characters, see_text, see, with_writes}
use Rattle.meaning_laws.specs.Missing.{found_or, line_or, see_or}
use Rattle.meaning_laws.proofs.Outlines.{Outline, sizes_at, Has}
use Rattle.meaning_laws.proofs.NativeCalls as calls
use Rattle.meaning_laws.proofs.Accesses.{IsFine, Done, cells_are, cells_written}

module _ (program : Program) (l : Outline) where
  -- a reference leads to what is alive
  abbrev pub HeldFine : Held → Type 0
  HeldFine (Value v) = Unit {0}
  HeldFine (Refers r) = IsFine program l r

  abbrev pub AllFine : List Held → Type 0
  AllFine all = calls.AllHold HeldFine all

module _ (program : Program) (missing : Trap) (l : Outline) where
  abbrev Known : Memory → Type 0
  Known m = Has program l m

  abbrev Fine : Reference → Type 0
  Fine r = IsFine program l r

  -- ---- what is seen

  -- a part is seen whole, or has no form
  record Seen (r : Reference) (m : Memory) : Type 0 where
    cells : List ℤ
    by_one : line_or missing r r.sizes m ≡ Sees cells
    by_other : line_of r r.sizes m ≡ Some cells
    count : length cells ≡ elements_in r.sizes

  record Unseen (r : Reference) (m : Memory) : Type 0 where
    by_one : line_or missing r r.sizes m ≡ lost
    by_other : line_of r r.sizes m ≡ None

  line_by : (r : Reference) (m : Memory) (n : ℕ) (sizes : List ℕ) → Known m → Fine r → r.sizes ≡ sizes
      → n ≡ elements_in sizes
      → line_or missing r sizes m ≡ found_or missing (read_cells r.object r.at n m)
      → line_of r sizes m ≡ read_cells r.object r.at n m → Seen r m ⊎ Unseen r m
  line_by r m n sizes h f e count a b =
      let inside = f.inside in
      let same : elements_in r.sizes ≡ n = ap elements_in e ∙ sym count in
      let it = cells_are program l m r.object f.sizes r.at n h f.there (omega (arith, inside, same)) in
      inl (record {
        cells = it.0;
        by_one = ap (λ z. line_or missing r z m) e ∙ a ∙ ap (found_or missing) it.1;
        by_other = ap (λ z. line_of r z m) e ∙ b ∙ it.1;
        count = it.2 ∙ sym same;
      })

  line_is : (r : Reference) (m : Memory) (sizes : List ℕ) → Known m → Fine r → r.sizes ≡ sizes
      → Seen r m ⊎ Unseen r m
  line_is r m [] h f e = line_by r m 1 [] h f e refl refl refl
  line_is r m (size ∷ []) h f e =
      line_by r m size (size ∷ []) h f e (omega arith) refl refl
  line_is r m (size ∷ next ∷ inner) h f e = inr (record {
    by_one = ap (λ z. line_or missing r z m) e;
    by_other = ap (λ z. line_of r z m) e;
  })

  see_by : (r : Reference) (m : Memory) (it : Form) → Seen r m ⊎ Unseen r m
      → see_or missing m (Refers r) it ≡ see m (Refers r) it
  see_by r m form.Cell s = refl
  see_by r m form.Ref (inl s) =
      ap (λ t. with_sight t (λ cells. see_first r (Some cells))) s.by_one ∙ sym (ap (see_first r) s.by_other)
  see_by r m form.Ref (inr s) =
      ap (λ t. with_sight t (λ cells. see_first r (Some cells))) s.by_one ∙ sym (ap (see_first r) s.by_other)
  see_by r m form.Text (inl s) =
      ap (λ t. with_sight t (λ cells. see_text (Some cells))) s.by_one ∙ sym (ap see_text s.by_other)
  see_by r m form.Text (inr s) =
      ap (λ t. with_sight t (λ cells. see_text (Some cells))) s.by_one ∙ sym (ap see_text s.by_other)
  see_by r m (form.Cells n) (inl s) =
      ap (λ t. with_sight t (λ cells. see_cells r (Some cells) n)) s.by_one
      ∙ sym (ap (λ o. see_cells r o n) s.by_other)
  see_by r m (form.Cells n) (inr s) =
      ap (λ t. with_sight t (λ cells. see_cells r (Some cells) n)) s.by_one
      ∙ sym (ap (λ o. see_cells r o n) s.by_other)

  see_same : (held : Held) (it : Form) (m : Memory) → HeldFine program l held → Known m
      → see_or missing m held it ≡ see m held it
  see_same (Value v) it m f h = refl
  see_same (Refers r) it m f h = see_by r m it (line_is r m r.sizes h f refl)

  -- ---- where an answer may write

  -- so many cells from a spot on are alive
  pub record CellsFrom (at : Spot) (n : ℕ) : Type 0 where
    pub sizes : List ℕ
    pub there : sizes_at program l at.object ≡ Some sizes
    pub inside : at.at + n ≤ elements_in sizes

  abbrev HoldFits : Hold Spot → Type 0
  HoldFits hold = CellsFrom hold.at hold.cells

  abbrev PutFits : Put Spot → Type 0
  PutFits it = CellsFrom it.to (length it.values)

  abbrev SightFits : Sight (Sought Spot) → Type 0
  SightFits s = calls.SightFits HoldFits s

  abbrev pub CalledFits : Called Spot → Type 0
  CalledFits called = calls.CalledFits PutFits called

  first_fits : (r : Reference) (cells : List ℤ) → length cells ≡ elements_in r.sizes → Fine r
      → SightFits (see_first r (Some cells))
  first_fits r [] e f = tt
  first_fits r (v ∷ cells) e f =
      let inside = f.inside in
      let some : length (v ∷ cells) ≡ length cells + 1 = omega arith in
      record { sizes = f.sizes; there = f.there; inside = omega (arith, inside, e, some) }

  cells_by : (r : Reference) (cells : List ℤ) (n : ℕ) (b : Bool) → nat_le n (length cells) ≡ b
      → length cells ≡ elements_in r.sizes → Fine r → (it : Sought Spot)
      → it.hold ≡ Some (record { at = spot_of r; cells = n })
      → SightFits (if b then Sees it else lost)
  cells_by r cells n true t e f it is =
      let inside = f.inside in
      let most = leb-true n (length cells) t in
      subst (λ o. IfSome o HoldFits) (sym is)
      (record { sizes = f.sizes; there = f.there; inside = omega (arith, inside, e, most) })
  cells_by r cells n false t e f it is = tt

  characters_by : (o : Option (List ℤ)) → SightFits (see_characters o)
  characters_by None = tt
  characters_by (Some text) = tt

  seen_by : (r : Reference) (it : Form) (m : Memory) → Fine r → Seen r m ⊎ Unseen r m
      → SightFits (see m (Refers r) it)
  seen_by r form.Cell m f s = tt
  seen_by r form.Ref m f (inl s) =
      subst (λ o. SightFits (see_first r o)) (sym s.by_other) (first_fits r s.cells s.count f)
  seen_by r form.Ref m f (inr s) = subst (λ o. SightFits (see_first r o)) (sym s.by_other) tt
  seen_by r form.Text m f (inl s) =
      subst (λ o. SightFits (see_text o)) (sym s.by_other) (characters_by (characters s.cells))
  seen_by r form.Text m f (inr s) = subst (λ o. SightFits (see_text o)) (sym s.by_other) tt
  seen_by r (form.Cells n) m f (inl s) =
      subst (λ o. SightFits (see_cells r o n)) (sym s.by_other)
      (cells_by r s.cells n (nat_le n (length s.cells)) refl s.count f _ refl)
  seen_by r (form.Cells n) m f (inr s) = subst (λ o. SightFits (see_cells r o n)) (sym s.by_other) tt

  see_fits : (held : Held) (it : Form) (m : Memory) → HeldFine program l held → Known m
      → SightFits (see m held it)
  see_fits (Value v) form.Cell m f h = tt
  see_fits (Value v) form.Ref m f h = tt
  see_fits (Value v) form.Text m f h = tt
  see_fits (Value v) (form.Cells n) m f h = tt
  see_fits (Refers r) it m f h = seen_by r it m f (line_is r m r.sizes h f refl)

  into_by : (hold : Hold Spot) (values : List ℤ) (b : Bool) → nat_le (length values) hold.cells ≡ b
      → HoldFits hold
      → IfSome (if b then Some (record { to = hold.at; values = values }) else None) PutFits
  into_by hold values true t f =
      let inside = f.inside in
      let most = leb-true (length values) hold.cells t in
      record { sizes = f.sizes; there = f.there; inside = omega (arith, inside, most) }
  into_by hold values false t f = tt

  pub native_fits : (script : Script) (m : Memory) (name : List ℕ) (all : List Held) (position : ℕ)
      → AllFine program l all → Known m → CalledFits (native_call script (see m) name all position)
  native_fits script m name all position f h =
      calls.call_fits (HeldFine program l) HoldFits PutFits (see m)
      (λ held it g. see_fits held it m g h)
      (λ hold values g. into_by hold values (nat_le (length values) hold.cells) refl g) script name
      all position f

  pub native_seen : (script : Script) (m : Memory) (name : List ℕ) (all : List Held) (position : ℕ)
      → AllFine program l all → Known m
      → native_call script (see_or missing m) name all position
      ≡ native_call script (see m) name all position
  native_seen script m name all position f h =
      calls.call_same (HeldFine program l) (see m) (see_or missing m)
      (λ held it g. see_same held it m g h) script name all position f

  -- ---- what is written

  pub writes_done : (puts : List (Put Spot)) (o : Option Memory) → calls.AllHold PutFits puts
      → Done program l o → Done program l (with_writes puts o)
  writes_done [] o f h = h
  writes_done (it ∷ puts) None f h = absurd (cc (h.1))
  writes_done (it ∷ puts) (Some m) f h =
      let same : h.0 ≡ m = cc (h.1) in
      writes_done puts (write_cells it.to.object it.to.at it.values m) f.1
      (cells_written program l m it.to.object f.0.sizes it.to.at it.values
      (subst (λ x. Known x) same h.2) f.0.there f.0.inside)
