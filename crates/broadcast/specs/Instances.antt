-- What one broadcast is given.
use Rattle.std.specs.Prelude.{ℕ, Bool, ◌&&◌, List}
use Rattle.auth.specs.declared.roster.Roster.{Roster}
use Rattle.auth.specs.Rosters.{honest, faulty_node}
use Rattle.wire.specs.declared.message.Message.{Message}
use Rattle.broadcast.specs.declared.turn.Turn.{Turn}

-- the injected messages are all that the faulty nodes send
pub record Instance : Type 0 where
  pub turn : Turn
  pub injected : List Message

abbrev pub given : Turn → List Message → Instance
given turn injected = record { turn = turn; injected = injected }

-- the same of a turn's parts
abbrev pub instance : Roster → ℕ → ℕ → ℕ → List Message → Instance
instance roster number leader proposal injected = given (record { roster = roster; number = number; leader = leader; proposal = proposal }) injected

-- an injected message arrives only from a faulty node at an honest one
abbrev pub delivered : Roster → Message → Bool
delivered roster m = faulty_node roster m.sender && honest roster m.receiver
