-- Who takes part in a broadcast, and which rosters are made.
use Rattle.std.specs.Prelude.{ℕ, Bool, false, not, ◌&&◌, nat_lt, List, Ok, Err, Result, nat_le, slice_index_or, if◌then◌else◌}
use Rattle.refusals.specs.Numbers.{InRange}
use Rattle.std.specs.List.{list_all}
use Rattle.std.specs.Result.{result_map_both}
use Rattle.std.proofs.Common.{lit≤}
use Rattle.auth.specs.declared.roster.Roster.{Roster}
use Rattle.auth.specs.declared.roster.RosterFault.{RosterFault}
use Rattle.auth.specs.declared.roster.RosterFault.TheVariants.{OutOfBounds}
use Rattle.auth.specs.Lists.{has}
use Rattle.auth.specs.Tables.{table}

-- a node that keeps to the protocol
abbrev pub honest : Roster → ℕ → Bool
honest r i = nat_lt i r.nodes && not (slice_index_or r.faulty i false)

-- a node that may do anything
abbrev pub faulty_node : Roster → ℕ → Bool
faulty_node r i = nat_lt i r.nodes && slice_index_or r.faulty i false

-- a roster's parts: the number of nodes, the bound, and for each of the sixteen places whether a faulty node has it
pub record Parts : Type 0 where
  pub nodes : ℕ
  pub bound : ℕ
  pub faulty : List Bool

abbrev pub fault_number : RosterFault → ℕ
fault_number OutOfBounds = 6

-- it is among 1 to 15
pub roster_number : (fault : RosterFault) → InRange (fault_number fault)
roster_number OutOfBounds = (lit≤ tt, lit≤ tt)

-- an answer as it is told: the roster's parts, or the refusal's number
abbrev pub roster_answer : Result Roster RosterFault → Result Parts ℕ
roster_answer = result_map_both (λ r. record { nodes = r.nodes; bound = r.bound; faulty = r.faulty }) fault_number

-- the numbers that make a roster: 1 to 16 nodes, a bound below that, and faulty nodes that are among them
abbrev pub in_bounds : ℕ → ℕ → List ℕ → Bool
in_bounds nodes bound faulty = nat_le 1 nodes && nat_le nodes 16 && nat_lt bound nodes && list_all (λ i. nat_lt i nodes) faulty

-- the roster of which the listed nodes are faulty; out of bounds, the refusal
abbrev pub roster_from : ℕ → ℕ → List ℕ → Result Parts ℕ
roster_from nodes bound faulty =
    if in_bounds nodes bound faulty then Ok (record { nodes = nodes; bound = bound; faulty = table (has faulty) }) else Err 6
