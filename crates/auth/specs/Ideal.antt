-- The ideal authenticator: it keeps record of what was signed, and believes that record.
use Rattle.std.specs.Prelude.{ℕ, Bool, false, ◌&&◌, ◌||◌, List, ◌==◌, nat_lt, slice_index_or}
use Rattle.auth.specs.Lists.{has}
use Rattle.auth.specs.Signing.{Rule, signed_by}

-- a roster's flags say which of the nodes 0 to 15 are faulty
abbrev pub flagged : List Bool → ℕ → Bool
flagged faulty node = nat_lt node 16 && slice_index_or faulty node false

-- the only valid tag is 0: of a faulty node on any value, of another node on what it has signed
abbrev pub ideal_rule : List Bool → Rule
ideal_rule faulty turn lists node value tag = tag == 0 && (flagged faulty node || has (signed_by lists node) value)
