-- The authenticator with a secret key for each of sixteen nodes.
use Rattle.std.specs.Prelude.{ℕ, ◌&&◌, List, [], ◌∷◌, ◌==◌, nat_lt, slice_index_or}
use Rattle.little_endian.specs.Bytes.{little}
use Rattle.siphash.specs.SipHash.{siphash_2_4}
use Rattle.auth.specs.Signing.{Rule}

-- the nine bytes that a tag covers: the turn, and the value with its lowest byte first
abbrev pub signed_bytes : ℕ → ℕ → List ℕ
signed_bytes turn value = turn ∷ little 8 value

-- a node's tag for a turn and a value, under its own key
abbrev pub mac : List (List ℕ) → ℕ → ℕ → ℕ → ℕ
mac keys turn node value = siphash_2_4 (slice_index_or keys node []) (signed_bytes turn value)

-- that is the only valid tag, whatever was signed; a node above 15 has none
abbrev pub mac_rule : List (List ℕ) → Rule
mac_rule keys turn lists node value tag = nat_lt node 16 && tag == mac keys turn node value
