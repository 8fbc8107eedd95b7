-- Runs of a valid program find what they ask for, by recursion on the turns.
use Rattle.std.proofs.Common.{◌≡◌, ◌<◌, ℕ, zero, suc}
use Rattle.std.proofs.Common.{List, []}
use Rattle.std.proofs.Common.{◌∷◌, Option, None, Some, All}
use Rattle.std.proofs.Common.{length, slice_get}
use Rattle.std.proofs.Common.{map, refl, sym, ap, subst}
use Rattle.std.proofs.lemmas.List.{length-replicate}
use Rattle.std.proofs.lemmas.List.Elements.{All-head, All-tail}
use Rattle.host_script.specs.declared.script.Script.{Script}
use Rattle.host_script.specs.declared.event.End.TheVariants as end
use Rattle.host_script.specs.NativeCall.{Trap}
use Rattle.pawn_meaning.specs.Program.{Slot, Function}
use Rattle.pawn_meaning.specs.Program.{Program}
use Rattle.pawn_meaning.specs.Program.{StaticObject}
use Rattle.pawn_meaning.specs.Memory.{made}
use Rattle.pawn_meaning.specs.World.{first_world, first_memory, first_object}
use Rattle.pawn_meaning.specs.Run.{Outcome, Gives, Stops, More}
use Rattle.pawn_meaning.specs.Meaning.{Scene, Fewer}
use Rattle.pawn_meaning.specs.Meaning.{run}
use Rattle.pawn_meaning.specs.Told.{nested, without_params, entry_or_stray, whole, told_of}
use Rattle.pawn_meaning.specs.Valid.{IsValid, IsValidObject, IsValidFunction}
use Rattle.meaning_laws.specs.MeaningWith as gone
use Rattle.meaning_laws.specs.NothingIsMissing.{NothingIsMissing}
use Rattle.meaning_laws.proofs.Outlines.{Each, ObjectIs}
use Rattle.meaning_laws.proofs.Outlines.{Outline}
use Rattle.meaning_laws.proofs.Outlines.{Has}
use Rattle.meaning_laws.proofs.Outlines.{sizes_of, states}
use Rattle.meaning_laws.proofs.ValidParts.{if_there, past_none}
use Rattle.meaning_laws.proofs.CallNodes.{Again, Setting}
use Rattle.meaning_laws.proofs.CallNodes.{enter_to_body}
use Rattle.meaning_laws.proofs.Entries as entries
use Rattle.meaning_laws.proofs.Statements.{run_to}
use Rattle.meaning_laws.proofs.Steps.{Free, To, RelIn, AlikeIn, after, stop_on}

module _ (program : Program) (valid : IsValid program) (missing : Trap) (script : Script)
    (limit : ℕ) where
  abbrev scene : Scene
  scene = record { program = program; script = script; limit = limit }

  abbrev set_by : (fewer fewer' : Fewer) → Again program fewer fewer' → Setting
  set_by fewer fewer' behind = record {
    scene = scene;
    valid = valid;
    missing = missing;
    fewer = fewer;
    fewer' = fewer';
    behind = behind;
  }

  nested_to : (turns : ℕ) → Again program (nested scene turns) (gone.nested missing scene turns)
  nested_to zero slots params made in_loop in_list s h current outer heap here =
      record { at = λ w g. refl }
  nested_to (suc turns) slots params made in_loop in_list s h current outer heap here =
      run_to (set_by (nested scene turns) (gone.nested missing scene turns) (nested_to turns)) slots params
      outer heap made in_loop in_list s h current here

  runs_to : Again program (run scene (nested scene limit)) (gone.run missing scene (gone.nested missing scene limit))
  runs_to slots params made in_loop in_list s h current outer heap here =
      run_to (set_by (nested scene limit) (gone.nested missing scene limit) (nested_to limit)) slots params
      outer heap made in_loop in_list s h current here

  abbrev first_outline : Outline
  first_outline = record { frames = []; heap = [] }

  first_to : (f : ℕ) (function : Function) → IsValidFunction program function → (params : List Slot)
      → function.params ≡ params
      → AlikeIn program {A = ⊥} first_outline (To first_outline Free)
      (without_params scene f function params)
      (gone.without_params missing scene f function params)
  first_to f function it [] e =
      after (enter_to_body (set_by (run scene (nested scene limit))
      (gone.run missing scene (gone.nested missing scene limit)) runs_to) first_outline f function [] it
      (subst (λ z. entries.AllFit program first_outline z []) (sym e) tt)) (λ v i. stop_on (end.Done v))
  first_to f function it (param ∷ params) e = stop_on end.Stray

  -- ---- both begin alike

  first_objects : (all : List StaticObject) → All IsValidObject all
      → Each ObjectIs (map (sizes_of) all) (map first_object all)
  first_objects [] h = tt
  first_objects (it ∷ all) h = (
    (refl, (All-head IsValidObject it all h).count),
    first_objects all (All-tail IsValidObject it all h),
  )

  first_known : Has program first_outline (first_memory program)
  first_known = record {
    objects_are = first_objects program.objects valid.objects;
    frames_are = tt;
    heap_is = tt;
    states_are = length-replicate (states program) None;
  }

  told_same : (o r : Outcome ⊥) → RelIn program {A = ⊥} (To first_outline Free) o r
      → told_of r ≡ told_of o
  told_same (Gives a x) r h = elim a [ ]
  told_same (Stops e x) r h = ap told_of h
  told_same (More x) r h = ap told_of h

  from_to : (f : ℕ) (o : Option Function) → slice_get program.functions f ≡ o
      → f < length program.functions
      → RelIn program {A = ⊥} (To first_outline Free)
      (entry_or_stray scene f o (first_world program))
      (gone.entry_or missing scene f o (first_world program))
  from_to f None e h = absurd (past_none program.functions f h e)
  from_to f (Some function) e h =
      (first_to f function
      (if_there (IsValidFunction program) program.functions f valid.functions (Some function) e)
      function.params refl).at (first_world program) first_known

  pub meaning_finds : (f : ℕ) → f < length program.functions
      → told_of (gone.whole missing scene f) ≡ told_of (whole scene f)
  meaning_finds f h =
      told_same (whole scene f) (gone.whole missing scene f)
      (from_to f (slice_get program.functions f) refl h)

pub nothing_is_missing_lem : NothingIsMissing
nothing_is_missing_lem program valid missing script f limit h =
    meaning_finds program valid missing script limit f h
