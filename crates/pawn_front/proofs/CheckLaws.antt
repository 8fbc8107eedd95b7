-- What the layers behind the preprocessor answer, one behind another.
use Rattle.std.proofs.Common.{◌≡◌, ◌≤◌, ◌∙◌, ℕ, ℤ, List, Result, Ok, Err, length, refl, sym, ap}
use Rattle.std.proofs.Common.{subst}
use Rattle.pawn_pre.specs.declared.line.Lines.{Lines}
use Rattle.pawn_lex.specs.declared.token.Token.{Token}
use Rattle.pawn_lex.specs.Lines.{AreTokens}
use Rattle.pawn_tree.specs.Declarations.{Tree}
use Rattle.tree_rules.specs.Brackets.{IsTooDeep}
use Rattle.tree_rules.specs.Spells.{IsParse}
use Rattle.pawn_parse.specs.Parses.{HasNoTree}
use Rattle.names_rules.specs.Verdict.{Stands}
use Rattle.types_rules.specs.TypedTrees.{Checked as PlainChecked, typed}
use Rattle.pawn_verdict.specs.declared.fault.CheckFault.{CheckFault}
use Rattle.pawn_verdict.specs.declared.fault.CheckFault.TheVariants.{Source, Memory}
use Rattle.pawn_verdict.specs.Answers.{Answers}
use Rattle.pawn_check.specs.FunctionNames.{AreNames, function_names}
use Rattle.pawn_check.specs.View.{checked_view}
use Rattle.pawn_front.specs.declared.checking.Named.{Named}
use Rattle.pawn_front.specs.Checks.{Cuts, Grows, ChecksTree, ChecksTokens, Checks}
use Rattle.pawn_front.specs.Faults.{too_deep, no_tree, by_tokens, by_tree, by_bytes}
use Rattle.pawn_front.specs.Faults.{behind_bytes}
use Rattle.pawn_front.specs.Places.{place_at}

-- ---- the tree of tokens

pub grows_too_deep : (ts lent : List Token) (n : ℕ) (fault : CheckFault) → lent ≡ ts
    → IsTooDeep ts n
    → fault ≡ Source 31 (place_at lent n) → Grows ts (Err fault)
grows_too_deep ts lent n fault same deep e =
    let P : CheckFault → Type 0 = λ f. Grows ts (Err f) in
    subst P (sym (e ∙ ap (λ (l : List Token). Source 31 (place_at l n)) same))
    (too_deep n deep refl refl)

-- none, and none goes on at token n
abbrev pub NoTreeFrom : List Token → ℕ → Type 0
NoTreeFrom ts n = HasNoTree ts × (n ≤ length ts)

pub grows_no_tree : (ts lent : List Token) (n : ℕ) (fault : CheckFault) → lent ≡ ts
    → NoTreeFrom ts n
    → fault ≡ Source 30 (place_at lent n) → Grows ts (Err fault)
grows_no_tree ts lent n fault same none e =
    let P : CheckFault → Type 0 = λ f. Grows ts (Err f) in
    subst P (sym (e ∙ ap (λ (l : List Token). Source 30 (place_at l n)) same))
    (no_tree n none.0 none.1 refl refl)

-- ---- the program of tokens

pub tree_fails : (tree : Tree) (dynamic : ℤ) (fault : CheckFault)
    → Answers checked_view (typed tree dynamic) (Err fault) → ChecksTree tree dynamic (Err fault)
tree_fails tree dynamic (Source kind place) fails = fails.cause
tree_fails tree dynamic Memory fails = tt

pub tree_named : (tree : Tree) (dynamic : ℤ) (it : Named)
    → Answers checked_view (typed tree dynamic) (Ok it.checked) → it.names ≡ function_names tree
    → ((room : ℤ) (other : PlainChecked) → typed tree room ≡ Stands other
    → AreNames other.program it.names)
    → ChecksTree tree dynamic (Ok it)
tree_named tree dynamic it e names named = record {
  is = e;
  names_are = names;
  named = named dynamic (checked_view it.checked) e;
}

pub checks_tree : (ts : List Token) (tree : Tree) (dynamic : ℤ) (result : Result Named CheckFault)
    → IsParse ts tree → ChecksTree tree dynamic result → ChecksTokens ts dynamic result
checks_tree ts tree dynamic (Ok it) parse has = record {
  is = record { tree = tree; is_tree = parse; is_typed = has.is };
  names_are = has.names_are;
  named = has.named;
}
checks_tree ts tree dynamic (Err (Source kind place)) parse fault = by_tree tree parse fault
checks_tree ts tree dynamic (Err Memory) parse fault = tt

pub no_tree_checked : (ts : List Token) (dynamic : ℤ) (fault : CheckFault) → Grows ts (Err fault)
    → ChecksTokens ts dynamic (Err fault)
no_tree_checked ts dynamic (Source kind place) breaks = by_tokens breaks
no_tree_checked ts dynamic Memory breaks = tt

-- ---- the program of lines

pub no_tokens_checked : (lines : Lines) (fault : CheckFault) → Cuts lines.lines (Err fault)
    → Checks lines (Err fault)
no_tokens_checked lines (Source kind place) first = by_bytes first
no_tokens_checked lines Memory first = tt

pub checks_behind : (lines : Lines) (ts : List Token) (result : Result Named CheckFault)
    → AreTokens lines.lines ts
    → ChecksTokens ts lines.dynamic result → Checks lines result
checks_behind lines ts (Ok it) are has = record {
  is = record { tokens = ts; are_tokens = are; typed = has.is };
  names_are = has.names_are;
  named = has.named;
}
checks_behind lines ts (Err (Source kind place)) are breaks = behind_bytes ts are breaks
checks_behind lines ts (Err Memory) are breaks = tt
