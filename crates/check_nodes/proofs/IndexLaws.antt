-- What the table tells of the declarations in sight is what their blocks have.
use Rattle.std.proofs.Common.{◌≡◌, ◌<◌, ◌≤◌, ℕ, suc, Bool, true, false, if◌then◌else◌}
use Rattle.std.proofs.Common.{List, [], ◌∷◌, ◌++◌, length, map, take, drop, ◌+◌, ◌-◌, reverse}
use Rattle.std.proofs.Common.{Option, Some, None, option_map, refl, sym, ap, ap₂, ◌∙◌, arith}
use Rattle.std.proofs.lemmas.Bool.{eq-eqb}
use Rattle.std.specs.Str.{bytes_eq}
use Rattle.std.proofs.lemmas.List.{reverse-append, map-append, take_all, length-take-le}
use Rattle.std.proofs.lemmas.List.{take-append-le, take-append-drop}
use Rattle.std.specs.Option.{option_or}
use Rattle.names_rules.specs.InSight.{depth_of, meant_by, IsChain, Table, now_in}
use Rattle.names_rules.proofs.SightLaws.{stands_at, less_no, on_top}
use Rattle.types_rules.specs.Scope.{Scope, Meaning, Entry, first_named, found, found_in_block}
use Rattle.types_rules.specs.Scope.{with_entries}
use Rattle.types_rules.proofs.PathLaws.{found_with}
use Rattle.check_nodes.specs.declared.scopes.Sight.{Sight}
use Rattle.check_nodes.specs.declared.scopes.Declared.{Declared}
use Rattle.check_nodes.specs.declared.scopes.Hidden.{Hidden}
use Rattle.check_nodes.specs.Scopes.{sight_view, Stack, Block, Blocks, entry_view, block_view}
use Rattle.check_nodes.specs.Scopes.{scope_view, without, with_name, entry_of, blocks_of}
use Rattle.check_nodes.specs.Scopes.{scope_of, outer_of, here_in}
use Rattle.check_nodes.specs.Indexed.{IsIndexed, ways}

-- ---- the stack as blocks

abbrev pub means_in : Option Declared → Option Meaning
means_in declared = option_map (λ (it : Declared). sight_view it.means) declared

means_by : (b : Bool) (it : Declared) (rest : Option Declared) (others scope : Option Meaning)
    → option_or (means_in rest) others ≡ scope
    → option_or (means_in (if b then Some it else rest)) others
    ≡ if b then Some (sight_view it.means) else scope
means_by true it rest others scope h = refl
means_by false it rest others scope h = h

pub finds : (stack : Stack) (name : List ℕ)
    → option_or (means_in (meant_by ways stack name)) (found [] name) ≡ found (scope_of stack) name
unfolding found
finds [] name = refl
finds (None ∷ stack) name = finds stack name
finds (Some it ∷ stack) name =
    means_by (bytes_eq it.name.now name) it.declared (meant_by ways stack name) (found [] name)
    (found (scope_of stack) name) (finds stack name)
    ∙ sym (found_with (scope_of stack) (entry_of it) name)

-- by what the table has of a name
pub finds_in : (stack : Stack) (table : Table Declared) (depth : ℕ) (scope : Scope) (name : List ℕ)
    (declared : Option (Option Declared))
    → IsIndexed stack table depth → scope_of stack ≡ scope → declared ≡ stands_at name table
    → option_or (means_in (now_in declared)) (found [] name) ≡ found scope name
finds_in stack table depth scope name declared h v f =
    ap (λ (x : Option (Option Declared)). option_or (means_in (now_in x)) (found [] name)) f
    ∙ ap (λ (x : Option Declared). option_or (means_in x) (found [] name)) (h.index name)
    ∙ finds stack name
    ∙ ap (λ (b : Scope). found b name) v

-- ---- the innermost block

length_with : (scope : Scope) (entries : List Entry) → 0 < length scope
    → length (with_entries scope entries) ≡ length scope
length_with [] entries h = absurd (omega (arith, h))
length_with (block ∷ outer) entries h = refl

length_of : (stack : Stack) → length (scope_of stack) ≡ depth_of stack + 1
length_of [] = refl
length_of (None ∷ stack) =
    let e : length (scope_of stack) ≡ depth_of stack + 1 = length_of stack in omega arith
length_of (Some it ∷ stack) =
    let e : length (scope_of stack) ≡ depth_of stack + 1 = length_of stack in
    let more : 0 < length (scope_of stack) = omega arith in
    length_with (scope_of stack) (entry_of it ∷ []) more ∙ e

alone : (scope : Scope) (name : List ℕ) → length scope ≡ 1
    → found_in_block scope name ≡ found scope name
alone [] name h = refl
alone (block ∷ []) name h = refl
alone (block ∷ outer ∷ more) name h = absurd (omega (arith, h))

-- the block of the file
pub outermost : (stack : Stack) (table : Table Declared) (depth : ℕ) (scope : Scope) (name : List ℕ)
    → IsIndexed stack table depth → scope_of stack ≡ scope → depth ≡ 0
    → found_in_block scope name ≡ found scope name
outermost stack table depth scope name h v none =
    let deep : depth ≡ depth_of stack = h.deep in
    let long : length scope ≡ depth_of stack + 1 = sym (ap length v) ∙ length_of stack in
    let one : length scope ≡ 1 = omega arith in
    alone scope name one

within_new : (scope : Scope) (name : List ℕ) → 0 < length scope
    → found_in_block ([] ∷ scope) name ≡ None
within_new [] name h = absurd (omega (arith, h))
within_new (block ∷ outer) name h = refl

within_with : (scope : Scope) (it : Entry) (name : List ℕ) → 1 < length scope
    → found_in_block (with_entries scope (it ∷ [])) name
    ≡ if bytes_eq it.name name then Some it.means else found_in_block scope name
within_with [] it name h = absurd (omega (arith, h))
within_with (block ∷ []) it name h = absurd (omega (arith, h))
within_with (block ∷ outer ∷ more) it name h =
    ap (λ (entries : List Entry). first_named entries name) (reverse-append block (it ∷ []))

deeper_by : (b : Bool) (it : Declared) (rest : Option Declared) (n : ℕ) → it.depth < n
    → here_in rest n ≡ None
    → here_in (if b then Some it else rest) n ≡ None
deeper_by true it rest n h k =
    ap (λ (same : Bool). if same then Some (sight_view it.means) else None) (less_no it.depth n h)
deeper_by false it rest n h k = k

-- none stands deeper than the innermost block
deeper : (stack : Stack) (name : List ℕ) (n : ℕ) → IsChain ways stack → depth_of stack < n
    → here_in (meant_by ways stack name) n ≡ None
deeper [] name n h k = refl
deeper (None ∷ stack) name n h k =
    let l : depth_of stack < n = omega arith in deeper stack name n h l
deeper (Some it ∷ stack) name n h k =
    let e : it.declared.depth ≡ depth_of stack = h.1 in
    let l : it.declared.depth < n = omega arith in
    deeper_by (bytes_eq it.name.now name) it.declared (meant_by ways stack name) n l
    (deeper stack name n h.2 k)

here_by : (b : Bool) (it : Declared) (rest : Option Declared) (n : ℕ) (others : Option Meaning)
    → it.depth ≡ n → others ≡ here_in rest n
    → (if b then Some (sight_view it.means) else others) ≡ here_in (if b then Some it else rest) n
here_by true it rest n others h k =
    ap (λ (same : Bool). if same then Some (sight_view it.means) else None)
    (sym (eq-eqb it.depth n h))
here_by false it rest n others h k = k

here_is : (stack : Stack) (name : List ℕ) → IsChain ways stack → 0 < depth_of stack
    → found_in_block (scope_of stack) name ≡ here_in (meant_by ways stack name) (depth_of stack)
here_is [] name h k = absurd (omega (arith, k))
here_is (None ∷ stack) name h k =
    let e : length (scope_of stack) ≡ depth_of stack + 1 = length_of stack in
    let more : 0 < length (scope_of stack) = omega arith in
    let l : depth_of stack < suc (depth_of stack) = omega arith in
    within_new (scope_of stack) name more ∙ sym (deeper stack name (suc (depth_of stack)) h l)
here_is (Some it ∷ stack) name h k =
    let e : length (scope_of stack) ≡ depth_of stack + 1 = length_of stack in
    let more : 1 < length (scope_of stack) = omega arith in
    within_with (scope_of stack) (entry_of it) name more
    ∙ here_by (bytes_eq it.name.now name) it.declared (meant_by ways stack name) (depth_of stack)
    (found_in_block (scope_of stack) name) h.1
    (here_is stack name h.2 k)

pub here_of : (stack : Stack) (table : Table Declared) (depth : ℕ) (scope : Scope) (name : List ℕ)
    (declared : Option (Option Declared))
    → IsIndexed stack table depth → scope_of stack ≡ scope → declared ≡ stands_at name table
    → 0 < depth
    → here_in (now_in declared) depth ≡ found_in_block scope name
here_of stack table depth scope name declared h v f lt =
    let deep : depth ≡ depth_of stack = h.deep in
    let more : 0 < depth_of stack = omega arith in
    ap (λ (x : Option (Option Declared)). here_in (now_in x) depth) f
    ∙ ap₂ here_in (h.index name) h.deep
    ∙ sym (here_is stack name h.chain more)
    ∙ ap (λ (b : Scope). found_in_block b name) v

-- ---- block by block

pub name_viewed : (name : List ℕ) (means : Sight) (blocks : Blocks)
    → scope_view (with_name name means blocks)
    ≡ with_entries (scope_view blocks) (entry_view (name, means) ∷ [])
name_viewed name means blocks =
    ap (λ (entries : List Entry). entries ∷ map block_view blocks.outer)
    (map-append entry_view blocks.here ((name, means) ∷ []))

viewed : (stack : Stack) → scope_of stack ≡ scope_view (blocks_of stack)
viewed [] = refl
viewed (None ∷ stack) = ap (λ (scope : Scope). [] ∷ scope) (viewed stack)
viewed (Some it ∷ stack) =
    ap (λ (scope : Scope). with_entries scope (entry_of it ∷ [])) (viewed stack)
    ∙ sym (name_viewed it.name.now it.declared.means (blocks_of stack))

pub viewed_as : (stack : Stack) (blocks : Blocks) → blocks_of stack ≡ blocks
    → scope_of stack ≡ scope_view blocks
viewed_as stack blocks e = viewed stack ∙ ap scope_view e

-- ---- the innermost block ends

-- the block on top is gone
pub left_block : (items rest : List (Option Hidden)) (top : Option Hidden) (outer : Blocks)
    → outer_of (blocks_of (reverse items)) ≡ outer → items ≡ rest ++ top ∷ [] → top ≡ None
    → blocks_of (reverse rest) ≡ outer
left_block items rest top outer h popped is_none =
    let on_none : reverse items ≡ None ∷ reverse rest =
    ap reverse popped ∙ on_top rest top ∙ ap (λ x. x ∷ reverse rest) is_none in
    sym (ap (λ stack. outer_of (blocks_of stack)) on_none) ∙ h

-- the blocks around the innermost one
abbrev pub around : Stack → Blocks
around stack = outer_of (blocks_of stack)

-- a declaration of the innermost block is none of them
pub skips : (stack : Stack) (it : Hidden) → around (Some it ∷ stack) ≡ around stack
skips stack it = refl

-- ---- the latest declarations of a block are gone

pub without_none : (blocks : Blocks) → blocks ≡ without 0 blocks
without_none blocks =
    ap (λ (here : Block). record blocks { here = here })
    (sym (take_all (length blocks.here - 0) blocks.here (omega arith)))

one_less : {A : Type 0} (xs : List A) (k : ℕ) → k ≤ length xs
    → take (length (take k xs) - 1) (take k xs) ≡ take (k - 1) xs
one_less xs k h =
    let counted : length (take k xs) ≡ k = length-take-le k xs h in
    let fewer : k - 1 ≤ length (take k xs) = omega (arith, counted) in
    ap (λ n. take (n - 1) (take k xs)) counted
    ∙ sym (take-append-le (k - 1) (take k xs) (drop k xs) fewer)
    ∙ ap (take (k - 1)) (take-append-drop k xs)

pub without_more : (blocks : Blocks) (i : ℕ) → without 1 (without i blocks) ≡ without (i + 1) blocks
without_more blocks i =
    let all : ℕ = length blocks.here in
    let counts : all - i - 1 ≡ all - (i + 1) = omega arith in
    ap (λ (here : Block). record blocks { here = here })
    (one_less blocks.here (all - i) (omega arith)
    ∙ ap (λ n. take n blocks.here) counts)
