-- What the direct broadcast's outcomes are, node by node.
use Rattle.std.specs.Prelude.{◌≡◌, ℕ, ◌≤◌, true, false, List, [], ◌∷◌, length, slice_index, refl}
use Rattle.std.proofs.Common.{sym, ◌∙◌, arith}
use Rattle.std.proofs.lemmas.Bool.Decides.{nat_tests}
use Rattle.auth.specs.Rosters.{honest}
use Rattle.auth.specs.Tables.{length-table, at_table, default_table}
use Rattle.wire.specs.declared.message.Message.{Message}
use Rattle.broadcast.specs.declared.turn.Turn.{Turn}
use Rattle.broadcast.specs.Instances.{Instance, given}
use Rattle.broadcast.specs.Direct.{first_value, direct_outcomes}

-- no message is delivered from a leader that is no node
value_leaderless : (turn : Turn) (node : ℕ) (ms : List Message) → turn.roster.nodes ≤ turn.leader → first_value (given turn ms) node ≡ 0
value_leaderless turn node [] past = refl
value_leaderless turn node (m ∷ ms) past = let ih = value_leaderless turn node ms past in grind (arith, nat_tests)

module _ (i : Instance) where
  pub places : length (direct_outcomes i) ≡ 16
  unfolding direct_outcomes
  places = length-table _

  pub blank : (node : ℕ) → honest i.turn.roster node ≡ false → slice_index (direct_outcomes i) node ≡ 0
  unfolding direct_outcomes
  blank node h = default_table _ node 0 (grind (arith, nat_tests))

  pub leaderless : i.turn.roster.nodes ≤ i.turn.leader → (node : ℕ) → slice_index (direct_outcomes i) node ≡ 0
  unfolding direct_outcomes
  leaderless past node = default_table _ node 0 (let none = value_leaderless i.turn node i.injected past in grind (arith, nat_tests))

  pub valid : honest i.turn.roster i.turn.leader ≡ true → (node : ℕ) → honest i.turn.roster node ≡ true → slice_index (direct_outcomes i) node ≡ i.turn.proposal
  unfolding direct_outcomes
  valid led node h = at_table _ node 0 (grind (arith, nat_tests)) ∙ grind (arith, nat_tests)

  pub agreed : honest i.turn.roster i.turn.leader ≡ true → (first second : ℕ) → honest i.turn.roster first ≡ true → honest i.turn.roster second ≡ true → slice_index (direct_outcomes i) first ≡ slice_index (direct_outcomes i) second
  agreed led first second h k = valid led first h ∙ sym (valid led second k)
