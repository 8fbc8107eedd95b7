-- The declarations in sight by their numbers, and the path of the definitions.
use Rattle.std.proofs.Common.{◌≡◌, ℕ, zero, suc, Bool, true, false, ◌||◌, if◌then◌else◌, List, []}
use Rattle.std.proofs.Common.{◌∷◌, ◌++◌, length, Option, Some, option_map, slice_get, refl, ap}
use Rattle.std.specs.Str.{bytes_eq}
use Rattle.names_rules.specs.Known as plain
use Rattle.names_rules.specs.Around.{Around, everywhere}
use Rattle.names_rules.specs.Path as p
use Rattle.names_rules.specs.Path.{Path, Entry, on_path}
use Rattle.names_sight.specs.declared.known.Known.{Known}
use Rattle.names_sight.specs.Scopes.{Numbered, with_number, outer_of, in_block, number_of, has_name}
use Rattle.names_sight.specs.Scopes.{innermost_has}
use Rattle.names_sight.specs.Means.{by_number}
use Rattle.names_sight.specs.Narrower.{NarrowerMeant, NarrowerKnown}
use Rattle.pawn_names.specs.Behind.{IsBlock, IsPath}
use Rattle.names_sight.specs.Views.{known_view}

pick : (known : List Known) (elsewhere : Option plain.Known) (b : Bool) (number : ℕ)
    (rest : Option ℕ) (x : plain.Known) (other : Option plain.Known)
    → NarrowerMeant (option_map known_view (slice_get known number)) (Some x)
    → NarrowerMeant (by_number known elsewhere rest) other
    → NarrowerMeant (by_number known elsewhere (if b then Some number else rest))
    (if b then Some x else other)
pick known elsewhere true number rest x other h k = h
pick known elsewhere false number rest x other h k = k

block_means : (known : List Known) (elsewhere : Option plain.Known) (block : List (List ℕ × ℕ))
    (entries : List Entry) (name : List ℕ) (rest : Option ℕ) (other : Option plain.Known)
    → IsBlock known block entries → NarrowerMeant (by_number known elsewhere rest) other
    → NarrowerMeant (by_number known elsewhere (in_block block name rest))
    (p.in_block entries name other)
block_means known elsewhere [] [] name rest other h k = k
block_means known elsewhere (x ∷ block) (entry ∷ entries) name rest other h k =
    rw h.0.name (pick known elsewhere (bytes_eq entry.name name) x.1
    (in_block block name rest) entry.known (p.in_block entries name other) h.0.narrower
    (block_means known elsewhere block entries name rest other h.1 k))
block_means known elsewhere [] (entry ∷ entries) name rest other h k = absurd h
block_means known elsewhere (x ∷ block) [] name rest other h k = absurd h

pub path_means : (around : Around) (known : List Known) (elsewhere : Option plain.Known)
    (numbered : Numbered) (path : Path) (name : List ℕ)
    → IsPath known numbered path → NarrowerMeant elsewhere (everywhere around name)
    → NarrowerMeant (by_number known elsewhere (number_of numbered name)) (on_path around path name)
path_means around known elsewhere [] [] name h k = k
path_means around known elsewhere (block ∷ numbered) (entries ∷ path) name h k =
    block_means known elsewhere block entries name (number_of numbered name)
    (on_path around path name) h.0 (path_means around known elsewhere numbered path name h.1 k)
path_means around known elsewhere [] (entries ∷ path) name h k = absurd h
path_means around known elsewhere (block ∷ numbered) [] name h k = absurd h

-- ---- the innermost block

block_has : (known : List Known) (block : List (List ℕ × ℕ)) (entries : List Entry) (name : List ℕ)
    → IsBlock known block entries
    → has_name block name ≡ p.has_name entries name
block_has known [] [] name h = refl
block_has known (x ∷ block) (entry ∷ entries) name h =
    rw h.0.name (ap (λ rest. bytes_eq entry.name name || rest)
    (block_has known block entries name h.1))
block_has known [] (entry ∷ entries) name h = absurd h
block_has known (x ∷ block) [] name h = absurd h

pub path_has_name : (known : List Known) (numbered : Numbered) (path : Path) (name : List ℕ)
    → IsPath known numbered path
    → innermost_has numbered name ≡ p.innermost_has path name
path_has_name known [] [] name h = refl
path_has_name known (block ∷ numbered) (entries ∷ path) name h =
    block_has known block entries name h.0
path_has_name known [] (entries ∷ path) name h = absurd h
path_has_name known (block ∷ numbered) [] name h = absurd h

-- ---- one more declaration

get_more : (known : List Known) (it : Known) (number : ℕ) (x : plain.Known)
    → NarrowerMeant (option_map known_view (slice_get known number)) (Some x)
    → NarrowerMeant (option_map known_view (slice_get (known ++ it ∷ []) number)) (Some x)
get_more [] it number x h = absurd h
get_more (y ∷ known) it zero x h = h
get_more (y ∷ known) it (suc number) x h = get_more known it number x h

block_more : (known : List Known) (it : Known) (block : List (List ℕ × ℕ)) (entries : List Entry)
    → IsBlock known block entries → IsBlock (known ++ it ∷ []) block entries
block_more known it [] [] h = tt
block_more known it (x ∷ block) (entry ∷ entries) h = (
  record { name = h.0.name; narrower = get_more known it x.1 entry.known h.0.narrower },
  block_more known it block entries h.1,
)
block_more known it [] (entry ∷ entries) h = absurd h
block_more known it (x ∷ block) [] h = absurd h

path_more : (known : List Known) (it : Known) (numbered : Numbered) (path : Path)
    → IsPath known numbered path → IsPath (known ++ it ∷ []) numbered path
path_more known it [] [] h = tt
path_more known it (block ∷ numbered) (entries ∷ path) h =
    (block_more known it block entries h.0, path_more known it numbered path h.1)
path_more known it [] (entries ∷ path) h = absurd h
path_more known it (block ∷ numbered) [] h = absurd h

get_last : (known : List Known) (it : Known) → slice_get (known ++ it ∷ []) (length known) ≡ Some it
get_last [] it = refl
get_last (x ∷ known) it = get_last known it

-- the latest declaration has the next number
pub path_with : (known : List Known) (it : Known) (numbered : Numbered) (path : Path)
    (entry : Entry)
    → IsPath known numbered path → NarrowerKnown (known_view it) entry.known
    → IsPath (known ++ it ∷ []) (with_number entry.name (length known) numbered)
    (p.with_entry entry path)
path_with known it [] [] entry h k =
    ((record { name = refl; narrower = rw (get_last known it) k }, tt), tt)
path_with known it (block ∷ numbered) (entries ∷ path) entry h k = (
  (
    record { name = refl; narrower = rw (get_last known it) k },
    block_more known it block entries h.0,
  ),
  path_more known it numbered path h.1,
)
path_with known it [] (entries ∷ path) entry h k = absurd h
path_with known it (block ∷ numbered) [] entry h k = absurd h

-- ---- blocks

pub path_out : (known : List Known) (numbered : Numbered) (path : Path) → IsPath known numbered path
    → IsPath known (outer_of numbered) (p.outer_of path)
path_out known [] [] h = tt
path_out known (block ∷ numbered) (entries ∷ path) h = h.1
path_out known [] (entries ∷ path) h = absurd h
path_out known (block ∷ numbered) [] h = absurd h
