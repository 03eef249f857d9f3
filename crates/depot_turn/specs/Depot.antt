-- The turn of the program `depot`.
use Rattle.std.specs.Prelude.{ℕ, List, [], ◌∷◌, refl}
use Rattle.auth.specs.declared.roster.Roster.{Roster}
use Rattle.auth.specs.Made.{roster}
use Rattle.broadcast.specs.Direct.{direct_outcomes}
use Rattle.broadcast.specs.Instances.{instance}
use Rattle.wire.specs.Reading.{reading}
use Rattle.depot_turn.specs.Texts.{turn_text}
use Rattle.depot_turn.specs.Turns.{turn_from}

-- four nodes, a bound of one, node 0 faulty
abbrev pub depot : Roster
depot = roster 4 1 (0 ∷ []) refl

-- what is printed for a message file: turn 0, led by node 0, which is faulty and so has no proposal
abbrev pub response : List ℕ → List ℕ
response file = turn_text depot (turn_from (λ messages. direct_outcomes (instance depot 0 0 0 messages)) (reading file 128))
