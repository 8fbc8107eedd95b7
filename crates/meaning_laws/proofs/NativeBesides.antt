-- A native sees and writes the same with more objects and automata beside.
use Rattle.std.proofs.Common.{◌≡◌, ℕ, ℤ, List, [], ◌∷◌, Bool, true, false, Option, None, Some}
use Rattle.std.proofs.Common.{IfSome, length, refl, sym, ap, subst, nat_le, if◌then◌else◌}
use Rattle.host_script.specs.declared.script.Form.{Form}
use Rattle.host_script.specs.declared.script.Form.TheVariants as form
use Rattle.host_script.specs.declared.script.Script.{Script}
use Rattle.host_script.specs.Script.{characters}
use Rattle.host_script.specs.NativeCall.{Sight, Sees, Hold, Sought, Put, Called, native_call}
use Rattle.pawn_meaning.specs.Memory.{Object, Memory, Reference, write_cells}
use Rattle.pawn_meaning.specs.Natives.{Held, Value, Refers, Spot, line_of, see_first, see_cells}
use Rattle.pawn_meaning.specs.Natives.{lost, see_characters, see_text, see, with_writes}
use Rattle.meaning_laws.proofs.NativeCalls as calls
use Rattle.meaning_laws.proofs.Besides.{beside, NameFits, HeldFits, AllHeldFit, Fits, Kept}
use Rattle.meaning_laws.proofs.Besides.{cells_kept, read_cells_same}

module _ (count states : ℕ) (objects : List Object) (more : List (Option ℕ)) where
  abbrev Named : Reference → Type 0
  Named r = NameFits count states objects more r.object

  abbrev Good : Memory → Type 0
  Good m = Fits count states objects more m

  abbrev with_beside : Memory → Memory
  with_beside m = beside count states objects more m

  -- ---- what is seen

  line_same : (r : Reference) (sizes : List ℕ) (m : Memory) → Named r → Good m
      → line_of r sizes (with_beside m) ≡ line_of r sizes m
  line_same r [] m f h = read_cells_same count states objects more r.object r.at 1 m f h
  line_same r (size ∷ []) m f h = read_cells_same count states objects more r.object r.at size m f h
  line_same r (size ∷ next ∷ inner) m f h = refl

  see_same : (held : Held) (it : Form) (m : Memory) → HeldFits count states objects more held
      → Good m → see (with_beside m) held it ≡ see m held it
  see_same (Value v) form.Cell m f h = refl
  see_same (Value v) form.Ref m f h = refl
  see_same (Value v) form.Text m f h = refl
  see_same (Value v) (form.Cells n) m f h = refl
  see_same (Refers r) form.Cell m f h = refl
  see_same (Refers r) form.Ref m f h = ap (see_first r) (line_same r r.sizes m f h)
  see_same (Refers r) form.Text m f h = ap see_text (line_same r r.sizes m f h)
  see_same (Refers r) (form.Cells n) m f h = ap (λ o. see_cells r o n) (line_same r r.sizes m f h)

  -- ---- where an answer may write

  abbrev HoldFits : Hold Spot → Type 0
  HoldFits hold = NameFits count states objects more hold.at.object

  abbrev PutFits : Put Spot → Type 0
  PutFits it = NameFits count states objects more it.to.object

  abbrev SightFits : Sight (Sought Spot) → Type 0
  SightFits s = calls.SightFits HoldFits s

  first_fits : (r : Reference) (o : Option (List ℤ)) → Named r → SightFits (see_first r o)
  first_fits r None f = tt
  first_fits r (Some []) f = tt
  first_fits r (Some (v ∷ cells)) f = f

  cells_by : (b : Bool) (it : Sought Spot) → IfSome it.hold HoldFits
      → SightFits (if b then Sees it else lost)
  cells_by true it f = f
  cells_by false it f = tt

  cells_fit : (r : Reference) (o : Option (List ℤ)) (n : ℕ) → Named r → SightFits (see_cells r o n)
  cells_fit r None n f = tt
  cells_fit r (Some cells) n f = cells_by (nat_le n (length cells)) _ f

  characters_fit : (o : Option (List ℤ)) → SightFits (see_text o)
  characters_fit None = tt
  characters_fit (Some cells) = by (characters cells) where
    by : (o : Option (List ℤ)) → SightFits (see_characters o)
    by None = tt
    by (Some text) = tt

  see_fits : (held : Held) (it : Form) (m : Memory) → HeldFits count states objects more held
      → SightFits (see m held it)
  see_fits (Value v) form.Cell m f = tt
  see_fits (Value v) form.Ref m f = tt
  see_fits (Value v) form.Text m f = tt
  see_fits (Value v) (form.Cells n) m f = tt
  see_fits (Refers r) form.Cell m f = tt
  see_fits (Refers r) form.Ref m f = first_fits r (line_of r r.sizes m) f
  see_fits (Refers r) form.Text m f = characters_fit (line_of r r.sizes m)
  see_fits (Refers r) (form.Cells n) m f = cells_fit r (line_of r r.sizes m) n f

  into_by : (b : Bool) (it : Put Spot) → PutFits it
      → IfSome (if b then Some it else None) PutFits
  into_by true it f = f
  into_by false it f = tt

  abbrev pub CalledFits : Called Spot → Type 0
  CalledFits called = calls.CalledFits PutFits called

  pub native_fits : (script : Script) (m : Memory) (name : List ℕ) (all : List Held) (position : ℕ)
      → AllHeldFit count states objects more all
      → CalledFits (native_call script (see m) name all position)
  native_fits script m name all position f =
      calls.call_fits (HeldFits count states objects more) HoldFits PutFits (see m)
      (λ held it g. see_fits held it m g)
      (λ hold values g. into_by (nat_le (length values) hold.cells) _ g) script name all position f

  pub native_seen : (script : Script) (m : Memory) (name : List ℕ) (all : List Held) (position : ℕ)
      → AllHeldFit count states objects more all → Good m
      → native_call script (see (with_beside m)) name all position
      ≡ native_call script (see m) name all position
  native_seen script m name all position f h =
      calls.call_same (HeldFits count states objects more) (see m) (see (with_beside m))
      (λ held it g. see_same held it m g h) script name all position f

  -- ---- what is written

  no_writes : (puts : List (Put Spot)) → with_writes puts None ≡ None
  no_writes [] = refl
  no_writes (it ∷ puts) = refl

  abbrev KeptHere : Option Memory → Option Memory → Type 0
  KeptHere o p = Kept count states objects more o p

  pub writes_kept : (puts : List (Put Spot)) (o p : Option Memory) → calls.AllHold PutFits puts
      → KeptHere o p
      → KeptHere (with_writes puts o) (with_writes puts p)
  writes_kept [] o p f h = h
  writes_kept (it ∷ puts) None p f h =
      subst (λ q. with_writes (it ∷ puts) q ≡ None) (sym h) refl
  writes_kept (it ∷ puts) (Some m) p f h =
      subst (λ q. KeptHere (with_writes (it ∷ puts) (Some m)) (with_writes (it ∷ puts) q)) (sym h.0)
      (writes_kept puts (write_cells it.to.object it.to.at it.values m)
      (write_cells it.to.object it.to.at it.values (with_beside m)) f.1
      (cells_kept count states objects more it.to.object it.to.at it.values m f.0 h.1))
