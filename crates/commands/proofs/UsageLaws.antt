-- What `usage` does, from its source to the names of a chain.
use Rattle.std.proofs.Common.{◌≡◌, ◌+◌, ◌<◌, ◌≤◌, ◌++◌, ℕ, List, [], ◌∷◌, Option, None}
use Rattle.std.proofs.Common.{Some, Result, Ok, Err, IfSome, All, Contains, drop, get_or, length}
use Rattle.std.proofs.Common.{map, true, refl, sym, ap, subst}
use Rattle.std.specs.List.{flat_map}
use Rattle.std.proofs.Math.ListN.{drop_of_length-le}
use Rattle.std.proofs.lemmas.List.{drop_more}
use Rattle.std.proofs.lemmas.List.Elements.{All-head, Contains-append_left}
use Rattle.std.proofs.lemmas.List.Elements.{Contains-append_right, Contains-push}
use Rattle.pawn_outside.specs.Held.{Held}
use Rattle.pawn_meaning.specs.Program.{Program, Public}
use Rattle.pawn_meaning.specs.View.{program_view}
use Rattle.pawn_front.specs.declared.fault.CompileFault.TheVariants as compile
use Rattle.pawn_front.specs.declared.sourced.Sourced.{Sourced}
use Rattle.pawn_front.specs.Sourced.{IsSourced, IsUsable, can_begin}
use Rattle.pawn_usage.specs.Called.{at_most_one}
use Rattle.pawn_usage.specs.IsUsage.{HasStart, IsUsage}
use Rattle.command_parts.specs.declared.stop.Stop.{Stop}
use Rattle.command_parts.specs.declared.stop.Stop.TheVariants.{FileFault, NoMemory}
use Rattle.commands.specs.declared.usages.Used.{Used}
use Rattle.commands.specs.Usages.{Measures, Uses}
use Rattle.commands.specs.UsageText.{name_text}

-- ---- the names of a chain

-- from a function on
pub from_function : (names : List (List ℕ)) (all : List ℕ) (i : ℕ) → i < length all
    → flat_map (name_text names) (drop i all)
    ≡ name_text names (get_or all i 0) ++ flat_map (name_text names) (drop (i + 1) all)
from_function names all i h = ap (flat_map (name_text names)) (drop_more all i 0 h)

-- none is left behind the last
pub from_end : (names : List (List ℕ)) (all : List ℕ) (i : ℕ) → length all ≤ i
    → flat_map (name_text names) (drop i all) ≡ []
from_end names all i h = ap (flat_map (name_text names)) (drop_of_length-le all h)

-- ---- a function to begin with

module _ (program : Program) where
  abbrev Begun : Type 0
  Begun = HasStart program

  by_entry : (f : ℕ) → program.entry ≡ Some f
      → IfSome program.entry (λ g. g < length program.functions) → Begun
  by_entry f e within = record {
    start = f;
    is =
        record {
          there = subst (λ o. IfSome o (λ g. g < length program.functions)) e within;
          started =
              Contains-append_left (at_most_one program.entry)
              (map (λ (it : Public). it.function) program.publics) f
              (subst (λ o. Contains (at_most_one o) f) (sym e) (Contains-push [] f));
        };
  }

  by_public : (it : Public) (more : List Public) → program.publics ≡ it ∷ more
      → All (λ (item : Public). item.function < length program.functions) program.publics
      → Begun
  by_public it more e within = record {
    start = it.function;
    is =
        record {
          there =
              All-head (λ (item : Public). item.function < length program.functions) it more
              (subst (All (λ (item : Public). item.function < length program.functions)) e within);
          started =
              Contains-append_right (at_most_one program.entry)
              (map (λ (item : Public). item.function) program.publics) it.function
              (subst (λ (l : List Public). Contains (map (λ (item : Public). item.function) l)
              it.function) (sym e)
              (Contains-append_left (it.function ∷ [])
              (map (λ (item : Public). item.function) more) it.function
              (Contains-push [] it.function)));
        };
  }

  pub has_start : (names : List (List ℕ)) → IsUsable program names → Begun
  has_start names it =
      by program.entry program.publics refl refl it.begins where
        by : (o : Option ℕ) (l : List Public) → program.entry ≡ o → program.publics ≡ l
            → can_begin (record program { entry = o; publics = l }) ≡ true → Begun
        by (Some f) l e same begins = by_entry f e it.good.valid.entry
        by None [] e same begins = absurd (cc begins)
        by None (item ∷ more) e same begins = by_public item more same it.good.valid.publics

-- ---- the use of a source

pub uses : (held : Option Held) (src : List ℕ) (sourced : Sourced) (result : Result Used Stop)
    → IsSourced held src sourced → Measures sourced result → Uses held src result
uses held src sourced (Ok it) is measured = record {
  sourced = subst (IsSourced held src) (sym measured.0) is;
  usage =
      subst (λ (s : Sourced). IsUsage (program_view s.program) it.usage) (sym measured.0)
      measured.1;
}
uses held src sourced (Err stop) is e = record { fault = compile.Memory; cause = tt; is = e }

-- measuring reads nothing
pub measures_no_fault : (sourced : Sourced) (result : Result Used Stop) → Measures sourced result
    → result ≡ Err FileFault → ⊥
measures_no_fault sourced result it e =
    let none : FileFault ≡ NoMemory = subst (Measures sourced) e it in absurd (cc none)
