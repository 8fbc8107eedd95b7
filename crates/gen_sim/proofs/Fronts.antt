-- Along a run of the machine the events shown only grow.
use Rattle.std.proofs.Common.{◌≡◌, ℕ, zero, suc, ℤ, List, [], ◌∷◌, ◌++◌, Option, None, Some, Bool}
use Rattle.std.proofs.Common.{true, false, refl, sym, ap, ◌∙◌, append_assoc, append-nil}
use Rattle.host_script.specs.declared.script.Script.{Script}
use Rattle.host_script.specs.declared.event.Event.{Event}
use Rattle.host_script.specs.declared.event.Event.TheVariants as event
use Rattle.host_script.specs.declared.event.End.{End}
use Rattle.host_script.specs.NativeCall.{Called, Ends_there, Answers, native_call}
use Rattle.amx_ops.specs.declared.amx.Amx.{Amx}
use Rattle.amx_ops.specs.Table.{is_number}
use Rattle.amx_ops.specs.State as state
use Rattle.amx_ops.specs.State.{State, Turned}
use Rattle.amx_ops.specs.Step.{step}
use Rattle.amx_ops.specs.Runs.{Moved, Goes, Sleeps, Ends, Finish, Cut, Over, iterate}
use Rattle.amx_ops.specs.Moves.{Config, look, answered, asked, arguments, name_of, halted_by, moved}
use Rattle.amx_ops.specs.Moves.{move}
use Rattle.amx_ops.proofs.RunLaws.{iterate-zero, iterate-goes, iterate-sleeps, iterate-ends}
use Rattle.gen_agrees.specs.AgreesOn.{IsPrefix}

pub same_prefix : (es : List Event) → IsPrefix es es
same_prefix es = record { rest = []; all_is = append-nil es }

pub prefix_on : {es fs gs : List Event} → IsPrefix es fs → IsPrefix fs gs → IsPrefix es gs
prefix_on {es} {fs} {gs} a b =
    record {
      rest = a.rest ++ b.rest;
      all_is = sym (append_assoc es a.rest b.rest)
          ∙ ap (λ l. l ++ b.rest) a.all_is ∙ b.all_is;
    }

pub one_after : (es : List Event) (e : Event) → IsPrefix es (es ++ e ∷ [])
one_after es e = record { rest = e ∷ []; all_is = refl }

abbrev pub config_of : Moved Config End → Config
config_of (Goes d) = d
config_of (Sleeps d) = d
config_of (Ends e d) = d

abbrev pub finished : Finish Config End → Config
finished (Cut d) = d
finished (Over e d) = d

answered_front : (called : Called ℕ) (s : State) (c : Config)
    → IsPrefix c.events (config_of (answered called s c)).events
answered_front (Ends_there trap position) s c = same_prefix c.events
answered_front (Answers e result position puts) s c = one_after c.events e

asked_front : (script : Script) (name : List ℕ) (o : Option (List ℤ)) (s : State) (c : Config)
    → IsPrefix c.events (config_of (asked script name o s c)).events
asked_front script name None s c = same_prefix c.events
asked_front script name (Some cells) s c =
    answered_front (native_call script (look s) name cells c.position) s c

halted_front : (v : ℤ) (a b d : Bool) (s : State) (c : Config)
    → IsPrefix c.events (config_of (halted_by v a b d s c)).events
halted_front v true b d s c = same_prefix c.events
halted_front v false true d s c = same_prefix c.events
halted_front v false false true s c = one_after c.events (event.Slept s.pri s.alt)
halted_front v false false false s c = same_prefix c.events

moved_front : (amx : Amx) (script : Script) (c : Config) (t : Turned)
    → IsPrefix c.events (config_of (moved amx script c t)).events
moved_front amx script c (state.Goes s) = same_prefix c.events
moved_front amx script c (state.Errs code) = same_prefix c.events
moved_front amx script c (state.Halts v s) =
    halted_front v (is_number 0 v) (is_number 1 v) (is_number 12 v) s c
moved_front amx script c (state.Asks n s) =
    asked_front script (name_of amx.natives n) (arguments s) s c

module _ (amx : Amx) (script : Script) where
  abbrev mv : Config → Moved Config End
  mv = move amx script

  front_by : (n : ℕ) (c : Config) (m : Moved Config End) → mv c ≡ m
      → IsPrefix c.events (config_of m).events
      → ((d : Config) → IsPrefix d.events (finished (iterate mv n d)).events)
      → IsPrefix c.events (finished (iterate mv (suc n) c)).events
  front_by n c (Goes d) e p rest = rw (iterate-goes mv n c d e) (prefix_on p (rest d))
  front_by n c (Sleeps d) e p rest = rw (iterate-sleeps mv n c d e) (prefix_on p (rest d))
  front_by n c (Ends x d) e p rest = rw (iterate-ends mv n c d x e) p

  pub said_more : (n : ℕ) (c : Config) → IsPrefix c.events (finished (iterate mv n c)).events
  said_more zero c = rw (iterate-zero mv c) (same_prefix c.events)
  said_more (suc n) c =
      front_by n c (mv c) refl (moved_front amx script c (step amx c.state))
      (λ d. said_more n d)
