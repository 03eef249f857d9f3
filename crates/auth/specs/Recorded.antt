-- What a turn's record holds.
use Rattle.std.specs.Prelude.{◌≡◌, ℕ, List, [], ◌∷◌, map, Some, None, Option, if◌then◌else◌}
use Rattle.auth.specs.declared.turn_record.SignedValues.{SignedValues}
use Rattle.auth.specs.declared.turn_record.SignedValues.TheVariants.{Nothing, One, Two}
use Rattle.auth.specs.declared.turn_record.TurnRecord.{TurnRecord}
use Rattle.auth.specs.Signing.{none_signed, takes, with_value}

-- what one node has signed, in order
abbrev pub values : SignedValues → List ℕ
values Nothing = []
values (One first) = first ∷ []
values (Two first second) = first ∷ second ∷ []

-- the lists of all nodes
abbrev pub lists : TurnRecord → List (List ℕ)
lists r = map values r.each

-- the turn is in hand, and nobody has signed in it yet
pub record Begun (r : TurnRecord) (turn : ℕ) : Type 0 where
  pub turn_in_hand : r.turn ≡ turn
  pub nothing_signed : lists r ≡ none_signed

-- a list with a further value, if it takes it
abbrev pub joined : List ℕ → ℕ → Option (List ℕ)
joined signed value = if takes signed value then Some (with_value signed value) else None
