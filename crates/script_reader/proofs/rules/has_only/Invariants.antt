use Rattle.std.proofs.Common.{◌≡◌, map}
use Rattle.serde_json.specs.View.{members_view}
use Rattle.script_reader.specs.Rules.{has_only}
use Rattle.script_reader.proofs.rules.has_only.Given as goal

abbrev pub invariant-loop-key : goal.invariant-loop-key
invariant-loop-key l =
    has_only (map (λ k. k.now) l.known) (members_view l.object.entries)
    ≡ has_only (map (λ k. k.now) l.known) (members_view l.key-iterator)
