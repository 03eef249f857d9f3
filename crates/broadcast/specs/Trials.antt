-- Small broadcasts with their outcomes.
use Rattle.std.specs.Prelude.{◌≡◌, ℕ, List, [], ◌∷◌, length, take, slice_index, refl}
use Rattle.auth.specs.Made.{roster}
use Rattle.auth.specs.Tables.{table}
use Rattle.wire.specs.declared.message.Message.{Message}
use Rattle.broadcast.specs.Instances.{Instance, instance}
use Rattle.broadcast.specs.Direct.{direct_outcomes}

-- a message that the given nodes have signed, each with tag 0
abbrev pub sent : ℕ → ℕ → ℕ → ℕ → List ℕ → Message
sent round sender receiver value signers = record {
  round = round;
  sender = sender;
  receiver = receiver;
  count = length signers;
  value = value;
  signatures = table (λ k. record { signer = slice_index signers k; tag = 0 });
}

-- the outcomes of the nodes, in their order
abbrev pub of_nodes : (Instance → List ℕ) → Instance → List ℕ
of_nodes outcomes i = take i.turn.roster.nodes (outcomes i)

pub record Trials : Type 0 where
  -- direct: the faulty leader of three nodes sends node 1 the value 5 and node 2 the value 6, and each takes its own
  pub direct_split : of_nodes direct_outcomes (instance (roster 3 1 (0 ∷ []) refl) 0 0 5 (sent 0 0 1 5 (0 ∷ []) ∷ sent 0 0 2 6 (0 ∷ []) ∷ [])) ≡ 0 ∷ 5 ∷ 6 ∷ []
