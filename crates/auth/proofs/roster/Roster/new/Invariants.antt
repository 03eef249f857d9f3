use Rattle.std.proofs.Common.{◌≡◌, true, nat_lt, take}
use Rattle.std.specs.List.{list_all}
use Rattle.auth.specs.Lists.{has}
use Rattle.auth.specs.Tables.{table}
use Rattle.auth.proofs.roster.Roster.new.Given as goal

abbrev pub invariant-loop-node : goal.invariant-loop-node
invariant-loop-node l = (list_all (λ node. nat_lt node l.nodes) (take l.node-index l.faulty) ≡ true) × (l.flags ≡ table (has (take l.node-index l.faulty)))
