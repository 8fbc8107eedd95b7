-- A move and a segment only add to what was shown.
use Rattle.std.proofs.Common.{◌≡◌, ◌++◌, ◌+◌, ℕ, zero, suc, ℤ, Bool, true, false, List, [], ◌∷◌}
use Rattle.std.proofs.Common.{Option, None, Some, refl, sym, ap, subst, ◌∙◌, append-nil}
use Rattle.std.proofs.Common.{append_assoc}
use Rattle.host_script.specs.declared.script.Script.{Script}
use Rattle.host_script.specs.declared.event.Event.{Event}
use Rattle.host_script.specs.declared.event.End.{End}
use Rattle.host_script.specs.NativeCall.{Called, Ends_there, Answers, native_call}
use Rattle.amx_ops.specs.declared.amx.Amx.{Amx}
use Rattle.amx_ops.specs.Table.{is_number}
use Rattle.amx_ops.specs.State.{State, Turned, Goes, Errs, Halts, Asks}
use Rattle.amx_ops.specs.Step.{step}
use Rattle.amx_ops.specs.Moves.{Config, move, moved, halted_by, asked, answered, arguments, name_of}
use Rattle.amx_ops.specs.Moves.{look}
use Rattle.amx_ops.specs.Runs.{Moved, segment}
use Rattle.amx_ops.specs.Runs as run
use Rattle.amx_ops.proofs.RunLaws.{segment-zero, segment-goes, segment-sleeps, segment-ends}

abbrev pub Grows : List Event → List Event → Type 0
Grows old new = (more : List Event) × (new ≡ old ++ more)

stays : (events : List Event) → Grows events events
stays events = ([], sym (append-nil events))

grows_then : (a b c : List Event) → Grows a b → Grows b c → Grows a c
grows_then a b c x y = (x.0 ++ y.0, y.1 ∙ ap (λ l. l ++ y.0) x.1 ∙ append_assoc a x.0 y.0)

abbrev pub config_of : Moved Config End → Config
config_of (run.Goes d) = d
config_of (run.Sleeps d) = d
config_of (run.Ends e d) = d

by_halted : (v : ℤ) (a b d : Bool) (s : State) (c : Config)
    → Grows c.events (config_of (halted_by v a b d s c)).events
by_halted v true b d s c = stays c.events
by_halted v false true d s c = stays c.events
by_halted v false false true s c = (_, refl)
by_halted v false false false s c = stays c.events

by_answered : (called : Called ℕ) (s : State) (c : Config)
    → Grows c.events (config_of (answered called s c)).events
by_answered (Ends_there trap position) s c = stays c.events
by_answered (Answers event result position puts) s c = (event ∷ [], refl)

by_asked : (script : Script) (name : List ℕ) (cells : Option (List ℤ)) (s : State) (c : Config)
    → Grows c.events (config_of (asked script name cells s c)).events
by_asked script name None s c = stays c.events
by_asked script name (Some cells) s c =
    by_answered (native_call script (look s) name cells c.position) s c

by_moved : (amx : Amx) (script : Script) (c : Config) (t : Turned)
    → Grows c.events (config_of (moved amx script c t)).events
by_moved amx script c (Goes s) = stays c.events
by_moved amx script c (Errs code) = stays c.events
by_moved amx script c (Halts v s) = by_halted v (is_number 0 v) (is_number 1 v) (is_number 12 v) s c
by_moved amx script c (Asks n s) = by_asked script (name_of amx.natives n) (arguments s) s c

pub move_grows : (amx : Amx) (script : Script) (c : Config)
    → Grows c.events (config_of (move amx script c)).events
move_grows amx script c = by_moved amx script c (step amx c.state)

module _ (go : Config → Moved Config End)
    (grows : (c : Config) → Grows c.events (config_of (go c)).events) where
  segment_by : (n k : ℕ) (c : Config) (m : Moved Config End) → go c ≡ m
      → Grows c.events (config_of m).events
      → ((d : Config) → Grows d.events (segment go n (k + 1) d).config.events)
      → Grows c.events (segment go (suc n) k c).config.events
  segment_by n k c (run.Goes d) e g rest =
      subst (λ it. Grows c.events it.config.events) (sym (segment-goes go n k c d e))
      (grows_then c.events d.events _ g (rest d))
  segment_by n k c (run.Sleeps d) e g rest =
      subst (λ it. Grows c.events it.config.events) (sym (segment-sleeps go n k c d e)) g
  segment_by n k c (run.Ends x d) e g rest =
      subst (λ it. Grows c.events it.config.events) (sym (segment-ends go n k c d x e)) g

  pub segment_grows : (n k : ℕ) (c : Config) → Grows c.events (segment go n k c).config.events
  segment_grows zero k c =
      subst (λ it. Grows c.events it.config.events) (sym (segment-zero go k c)) (stays c.events)
  segment_grows (suc n) k c =
      segment_by n k c (go c) refl (grows c) (λ d. segment_grows n (k + 1) d)
