-- The arguments of a call, parameter by parameter.
use Rattle.std.proofs.Common.{◌≡◌, ◌<◌, ◌≤◌, ◌≢◌, ◌+◌, ℕ, List, [], ◌∷◌, ◌++◌, length, drop, get_or}
use Rattle.std.proofs.Common.{set, map, refl, ap, sym, ◌∙◌, arith, lit<, Option, get_or-set_other}
use Rattle.std.proofs.Common.{length-set}
use Rattle.std.proofs.lemmas.List.{drop_all}
use Rattle.std.specs.Option.{option_map}
use Rattle.pawn_tree.specs.declared.name.At.{At}
use Rattle.pawn_meaning.specs.Program.{Arg, Args, no_args, then_arg}
use Rattle.pawn_meaning.specs.declared.node.Arg as held
use Rattle.pawn_meaning.specs.View.{arg_view, args_view}
use Rattle.names_rules.specs.Verdict.{Verdict, Stands, Breaks, after, both, faults_of}
use Rattle.types_rules.specs.declared.fault.TheConstants.{ARGUMENT_MISSING}
use Rattle.types_rules.specs.Around.{Around}
use Rattle.types_rules.specs.Around as around
use Rattle.types_rules.specs.Filling as filling
use Rattle.types_rules.specs.Defaults.{arg_of, args_of}
use Rattle.types_rules.specs.Calls.{args_in}
use Rattle.pawn_verdict.specs.declared.fault.CheckFault.{CheckFault}
use Rattle.pawn_verdict.specs.declared.fault.CheckFault.TheVariants.{Source}
use Rattle.pawn_verdict.specs.Answers.{Fails}
use Rattle.pawn_verdict.proofs.VerdictLaws.{fails_after, fails_first}
use Rattle.check_nodes.specs.declared.context.Param.{Param}
use Rattle.check_nodes.specs.ContextView.{param_view}
use Rattle.check_nodes.proofs.ThreadLaws.{next}
use Rattle.check_calls.specs.declared.filling.Filled.{Filled}
use Rattle.check_calls.specs.FillingView.{filled_view, slots_view}

-- arguments with others behind them
abbrev pub behind : Args → Args → Args
behind no_args others = others
behind (then_arg arg more) others = then_arg arg (behind more others)

pub view_behind : (args others : List held.Arg)
    → args_view (args ++ others) ≡ behind (args_view args) (args_view others)
view_behind [] others = refl
view_behind (arg ∷ args) others =
    ap (λ (more : Args). then_arg (arg_view arg) more) (view_behind args others)

-- the arguments that a list holds, seen one by one or all at once
pub args_are : (args : List held.Arg) → args_in (map arg_view args) ≡ args_view args
args_are [] = refl
args_are (arg ∷ args) = ap (λ (more : Args). then_arg (arg_view arg) more) (args_are args)

behind-assoc : (x y z : Args) → behind x (behind y z) ≡ behind (behind x y) z
behind-assoc no_args y z = refl
behind-assoc (then_arg arg more) y z =
    ap (λ (others : Args). then_arg arg others) (behind-assoc more y z)

abbrev from : List held.Arg → Verdict Args → Verdict Args
from done more = after more (λ others. Stands (behind (args_view done) others))

from_none : (w : Verdict Args) → w ≡ from [] w
from_none (Stands args) = refl
from_none (Breaks faults) = refl

from_one : (done : List held.Arg) (arg : held.Arg) (w : Verdict Args)
    → from done (after w (λ others. Stands (then_arg (arg_view arg) others)))
    ≡ from (done ++ arg ∷ []) w
from_one done arg (Stands others) =
    ap (λ (args : Args). Stands args)
    (behind-assoc (args_view done) (then_arg (arg_view arg) no_args) others
    ∙ ap (λ (args : Args). behind args others) (sym (view_behind done (arg ∷ []))))
from_one done arg (Breaks faults) = refl

module _ (cx : Around) (at : At) (params : List Param) (first : List (Option Filled))
    (others : Args) where
  abbrev all : List around.Param → List (Option filling.Filled) → Verdict Args
  all = λ left slots. args_of cx at (map param_view params) (slots_view first) left slots others

  -- so many parameters have their arguments, and the rest goes on from there
  pub record ArgsSoFar (i : ℕ) (items : List (Option Filled)) (done : List held.Arg) : Type 0 where
    pub same : all (map param_view params) (slots_view first)
        ≡ from done (all (map param_view (drop i params)) (slots_view (drop i first)))
    pub kept : (j : ℕ) (d : Option Filled) → i ≤ j → get_or items j d ≡ get_or first j d
    pub long : length items ≡ length first

  pub args_begin : ArgsSoFar 0 first []
  args_begin = record {
    same = from_none (all (map param_view params) (slots_view first));
    kept = λ j d le. refl;
    long = refl;
  }

  module _ {i : ℕ} {items : List (Option Filled)} {done : List held.Arg} where
    pub args_more : (param : Param) (it rest : Option Filled) (arg : held.Arg)
        → ArgsSoFar i items done
        → i < length params → param ≡ get_or params i param → i < length items
        → it ≡ get_or items i it
        → arg_of cx at (map param_view params) (slots_view first) (param_view param)
        (option_map filled_view it) ≡ Stands (arg_view arg)
        → ArgsSoFar (i + 1) (set items i rest) (done ++ arg ∷ [])
    unfolding args_of
    args_more param it rest arg h lt p lt2 e stands =
        let in_first : i < length first = omega (arith, h.long) in
        let is_it : it ≡ get_or first i it = e ∙ h.kept i it (omega arith) in
        record {
          same = h.same ∙ rw (next params i param lt p, next first i it in_first is_it, stands)
              (from_one done arg (all (map param_view (drop (i + 1) params))
              (slots_view (drop (i + 1) first))));
          kept =
              λ j d le. let ne : j ≢ i = omega arith in get_or-set_other items i j rest d ne
              ∙ h.kept j d (omega arith);
          long = length-set items i rest ∙ h.long;
        }

    pub args_fail : (param : Param) (it : Option Filled) (fault : CheckFault)
        → ArgsSoFar i items done
        → i < length params → param ≡ get_or params i param → i < length items
        → it ≡ get_or items i it
        → Fails (faults_of (arg_of cx at (map param_view params) (slots_view first)
        (param_view param) (option_map filled_view it))) fault
        → Fails (faults_of (all (map param_view params) (slots_view first))) fault
    unfolding args_of
    args_fail param it fault h lt p lt2 e f =
        let in_first : i < length first = omega (arith, h.long) in
        let is_it : it ≡ get_or first i it = e ∙ h.kept i it (omega arith) in
        let this : Verdict Arg =
        arg_of cx at (map param_view params) (slots_view first) (param_view param)
        (option_map filled_view it) in
        let more : Verdict Args =
        all (map param_view (drop (i + 1) params)) (slots_view (drop (i + 1) first)) in
        rw (h.same, next params i param lt p, next first i it in_first is_it)
        (fails_after (both this more (λ a left. Stands (then_arg a left)))
        (λ left. Stands (behind (args_view done) left)) fault
        (fails_first this more (λ a left. Stands (then_arg a left)) fault f))

    pub args_short : (param : Param) → ArgsSoFar i items done
        → i < length params → param ≡ get_or params i param → length items ≤ i
        → Fails (faults_of (all (map param_view params) (slots_view first)))
        (Source ARGUMENT_MISSING at.place)
    unfolding args_of
    args_short param h lt p le =
        let out : length first ≤ i = omega (arith, h.long) in
        rw (h.same, next params i param lt p, drop_all i first out)
        (record { cause = (0, lit< tt, refl) })

    pub args_end : ArgsSoFar i items done → length params ≤ i
        → all (map param_view params) (slots_view first) ≡ Stands (behind (args_view done) others)
    unfolding args_of
    args_end h le = h.same ∙ rw (drop_all i params le) refl
