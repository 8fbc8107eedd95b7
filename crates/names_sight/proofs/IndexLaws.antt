-- What the table tells of the declarations in sight is what their blocks have.
use Rattle.std.proofs.Common.{◌≡◌, ◌<◌, ℕ, suc, Bool, true, false, nat_eq, if◌then◌else◌, ◌||◌}
use Rattle.std.proofs.Common.{List, [], ◌∷◌, Option, Some, None, option_map, refl, sym, ap, ap₂}
use Rattle.std.proofs.Common.{◌∙◌, arith}
use Rattle.std.proofs.lemmas.Bool.{eq-eqb}
use Rattle.std.specs.Str.{bytes_eq}
use Rattle.names_rules.specs.InSight.{depth_of, meant_by, IsChain, Table, now_in}
use Rattle.names_rules.proofs.SightLaws.{stands_at, less_no}
use Rattle.names_sight.specs.declared.scopes.Declared.{Declared}
use Rattle.names_sight.specs.declared.scopes.Hidden.{Hidden}
use Rattle.names_sight.specs.Scopes.{Stack, Numbered, with_number, outer_of, number_of}
use Rattle.names_sight.specs.Scopes.{innermost_has, blocks_of}
use Rattle.names_sight.specs.Indexed.{IsIndexed, ways}

-- ---- the stack as blocks

number_by : (b : Bool) (it : Declared) (rest : Option Declared) (others : Option ℕ)
    → option_map (λ it. it.number) rest ≡ others
    → option_map (λ it. it.number) (if b then Some it else rest) ≡ if b then Some it.number
    else others
number_by true it rest others h = refl
number_by false it rest others h = h

number_with : (name : List ℕ) (number : ℕ) (blocks : Numbered) (other : List ℕ)
    → number_of (with_number name number blocks) other ≡ if bytes_eq name other then Some number
    else number_of blocks other
number_with name number [] other = refl
number_with name number (block ∷ outer) other = refl

pub finds : (stack : Stack) (name : List ℕ) → option_map (λ it. it.number) (meant_by ways stack name)
    ≡ number_of (blocks_of stack) name
finds [] name = refl
finds (None ∷ stack) name = finds stack name
finds (Some it ∷ stack) name =
    number_by (bytes_eq it.name.now name) it.declared (meant_by ways stack name)
    (number_of (blocks_of stack) name) (finds stack name)
    ∙ sym (number_with it.name.now it.declared.number (blocks_of stack) name)

-- by what the table has of a name
pub finds_in : (stack : Stack) (table : Table Declared) (depth : ℕ) (blocks : Numbered) (name : List ℕ)
    (found : Option (Option Declared))
    → IsIndexed stack table depth → blocks_of stack ≡ blocks → found ≡ stands_at name table
    → option_map (λ it. it.number) (now_in found) ≡ number_of blocks name
finds_in stack table depth blocks name found h v f =
    ap (λ x. option_map (λ it. it.number) (now_in x)) f
    ∙ ap (option_map (λ it. it.number)) (h.index name)
    ∙ finds stack name
    ∙ ap (λ b. number_of b name) v

-- ---- the innermost block

-- a declaration stands in so many blocks
abbrev pub stands_in : Option Declared → ℕ → Bool
stands_in None depth = false
stands_in (Some it) depth = nat_eq it.depth depth

deeper_by : (b : Bool) (it : Declared) (rest : Option Declared) (n : ℕ) → it.depth < n
    → stands_in rest n ≡ false
    → stands_in (if b then Some it else rest) n ≡ false
deeper_by true it rest n h k = less_no it.depth n h
deeper_by false it rest n h k = k

-- none stands deeper than the innermost block
deeper : (stack : Stack) (name : List ℕ) (n : ℕ) → IsChain ways stack → depth_of stack < n
    → stands_in (meant_by ways stack name) n ≡ false
deeper [] name n h k = refl
deeper (None ∷ stack) name n h k =
    let l : depth_of stack < n = omega arith in deeper stack name n h l
deeper (Some it ∷ stack) name n h k =
    let e : it.declared.depth ≡ depth_of stack = h.1 in
    let l : it.declared.depth < n = omega arith in
    deeper_by (bytes_eq it.name.now name) it.declared (meant_by ways stack name) n l
    (deeper stack name n h.2 k)

has_with : (name : List ℕ) (number : ℕ) (blocks : Numbered) (other : List ℕ)
    → innermost_has (with_number name number blocks) other
    ≡ (bytes_eq name other || innermost_has blocks other)
has_with name number [] other = refl
has_with name number (block ∷ outer) other = refl

here_by : (b : Bool) (it : Declared) (rest : Option Declared) (n : ℕ) (others : Bool) → it.depth ≡ n
    → others ≡ stands_in rest n
    → (b || others) ≡ stands_in (if b then Some it else rest) n
here_by true it rest n others h k = sym (eq-eqb it.depth n h)
here_by false it rest n others h k = k

here_is : (stack : Stack) (name : List ℕ) → IsChain ways stack
    → innermost_has (blocks_of stack) name ≡ stands_in (meant_by ways stack name) (depth_of stack)
here_is [] name h = refl
here_is (None ∷ stack) name h =
    let l : depth_of stack < suc (depth_of stack) = omega arith in
    sym (deeper stack name (suc (depth_of stack)) h l)
here_is (Some it ∷ stack) name h =
    has_with it.name.now it.declared.number (blocks_of stack) name
    ∙ here_by (bytes_eq it.name.now name) it.declared (meant_by ways stack name) (depth_of stack)
    (innermost_has (blocks_of stack) name) h.1 (here_is stack name h.2)

pub has_in : (stack : Stack) (table : Table Declared) (depth : ℕ) (blocks : Numbered) (name : List ℕ)
    (found : Option (Option Declared))
    → IsIndexed stack table depth → blocks_of stack ≡ blocks → found ≡ stands_at name table
    → stands_in (now_in found) depth ≡ innermost_has blocks name
has_in stack table depth blocks name found h v f =
    ap (λ x. stands_in (now_in x) depth) f
    ∙ ap₂ stands_in (h.index name) h.deep
    ∙ sym (here_is stack name h.chain)
    ∙ ap (λ b. innermost_has b name) v

-- ---- the innermost block ends

outer_with : (name : List ℕ) (number : ℕ) (blocks : Numbered)
    → outer_of (with_number name number blocks) ≡ outer_of blocks
outer_with name number [] = refl
outer_with name number (block ∷ outer) = refl

-- the blocks around the innermost one
abbrev pub around : Stack → Numbered
around stack = outer_of (blocks_of stack)

-- a declaration of the innermost block is none of them
pub skips : (stack : Stack) (it : Hidden) → around (Some it ∷ stack) ≡ around stack
skips stack it = outer_with it.name.now it.declared.number (blocks_of stack)
