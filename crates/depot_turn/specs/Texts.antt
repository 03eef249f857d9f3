-- What is printed of a turn, byte by byte.
use Rattle.std.specs.Prelude.{ℕ, if◌then◌else◌, List, [], ◌∷◌, ◌++◌, Ok, Err, codes, decimal, Result, slice_index}
use Rattle.std.specs.List.{range_with_len, flat_map}
use Rattle.auth.specs.declared.roster.Roster.{Roster}
use Rattle.auth.specs.Rosters.{honest}
use Rattle.wire.specs.declared.fault.Refusal.{Refusal}
use Rattle.wire.specs.Texts as Wire

abbrev pub newline : List ℕ
newline = 10 ∷ []

abbrev pub state_name : Roster → ℕ → List ℕ
state_name roster node = if honest roster node then codes "honest" else codes "faulty"

-- as `1,honest,5`
abbrev pub node_line : Roster → ℕ → ℕ → List ℕ
node_line roster node outcome = decimal node ++ (codes "," ++ (state_name roster node ++ (codes "," ++ (decimal outcome ++ newline))))

-- the heading, and a line for each node
abbrev pub outcomes_text : Roster → List ℕ → List ℕ
outcomes_text roster outcomes = (codes "box,state,outcome" ++ newline) ++ flat_map (λ node. node_line roster node (slice_index outcomes node)) (range_with_len 0 roster.nodes)

-- a line as `refused 3 at 0`
abbrev pub refusal_text : Refusal → List ℕ
refusal_text r = Wire.refusal_text r ++ newline

-- what is said of a turn
abbrev pub turn_text : Roster → Result (List ℕ) Refusal → List ℕ
turn_text roster (Ok outcomes) = outcomes_text roster outcomes
turn_text roster (Err refusal) = refusal_text refusal
