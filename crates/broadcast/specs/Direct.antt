-- The direct broadcast: each honest node takes the first value that the leader sends it, in round 0.
use Rattle.std.specs.Prelude.{ℕ, Bool, ◌&&◌, List, ◌==◌, if◌then◌else◌, find}
use Rattle.std.specs.Option.{option_map_or}
use Rattle.auth.specs.Rosters.{honest}
use Rattle.auth.specs.Tables.{table}
use Rattle.wire.specs.declared.message.Message.{Message}
use Rattle.broadcast.specs.declared.turn.Turn.{Turn}
use Rattle.broadcast.specs.Instances.{Instance, delivered}

-- a message of round 0 that arrives at the node from the leader
abbrev pub from_leader : Turn → ℕ → Message → Bool
from_leader turn node m = m.round == 0 && m.sender == turn.leader && m.receiver == node && delivered turn.roster m

-- the value of the first such message, or 0
abbrev pub first_value : Instance → ℕ → ℕ
first_value i node = option_map_or (λ m. m.value) (find (from_leader i.turn node) i.injected) 0

-- an honest leader sends its proposal, a faulty one what is injected; only honest nodes have an outcome
abbrev pub direct_outcome : Instance → ℕ → ℕ
direct_outcome i node = if honest i.turn.roster node then (if honest i.turn.roster i.turn.leader then i.turn.proposal else first_value i node) else 0

unfoldable pub direct_outcomes : Instance → List ℕ
direct_outcomes i = table (direct_outcome i)
