-- What the definitions see of keys and classifiers that code holds.
use Rattle.std.specs.Prelude.{List, Option, option_map}
use Rattle.std.specs.Borrow.{Bor}
use Rattle.pawn_tree.specs.declared.name.StateName.{StateName}
use Rattle.types_rules.specs.Keys as plain
use Rattle.check_source.specs.declared.key.Key.{Key}
use Rattle.check_source.specs.declared.key.Key.TheVariants as key

-- a key
abbrev pub key_view : Key → plain.Key
key_view (key.Named name) = plain.Named name.now
key_view (key.Operates it) = plain.Operates it
key_view (key.Enters name) = plain.Enters name.now
key_view key.Misshapen = plain.Misshapen

-- a classifier, where there is one
abbrev pub states_view : Option (Bor (List StateName)) → Option (List StateName)
states_view states = option_map (λ states. states.now) states
