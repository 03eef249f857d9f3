-- The message file as it is written, byte by byte.
use Rattle.std.specs.Prelude.{ℕ, ◌+◌, min, List, ◌∷◌, ◌++◌, length, take}
use Rattle.std.specs.List.{flat_map}
use Rattle.wire.specs.declared.message.Signature.{Signature}
use Rattle.wire.specs.declared.message.Message.{Message}
use Rattle.little_endian.specs.Bytes.{little}

-- the signatures of a message that mean something: the first `count`, and 16 at the most
abbrev pub chain : Message → List Signature
chain m = take (min m.count 16) m.signatures

-- all that a message says
pub record Meaning : Type 0 where
  pub round : ℕ
  pub sender : ℕ
  pub receiver : ℕ
  pub value : ℕ
  pub chain : List Signature

abbrev pub meaning : Message → Meaning
meaning m = record { round = m.round; sender = m.sender; receiver = m.receiver; value = m.value; chain = chain m }

-- what a record holds: a message, in one form or another, or a comment
pub data Item (M : Type 0) : Type 0 where
  message : M → Item M
  comment : List ℕ → Item M

-- 9 bytes
abbrev pub signature_bytes : Signature → List ℕ
signature_bytes s = s.signer ∷ little 8 s.tag

-- 12 bytes and 9 for each signature
abbrev pub body_bytes : Message → List ℕ
body_bytes m = m.round ∷ m.sender ∷ m.receiver ∷ length (chain m) ∷ (little 8 m.value ++ flat_map signature_bytes (chain m))

-- a record: the length of all of it, its kind, its body
abbrev pub record_bytes : ℕ → List ℕ → List ℕ
record_bytes kind body = little 2 (4 + length body) ++ (little 2 kind ++ body)

abbrev pub message_bytes : Message → List ℕ
message_bytes m = record_bytes 1 (body_bytes m)

abbrev pub comment_bytes : List ℕ → List ℕ
comment_bytes text = record_bytes 2 text

abbrev pub item_bytes : Item Message → List ℕ
item_bytes (message m) = message_bytes m
item_bytes (comment text) = comment_bytes text

-- the records one after the other
abbrev pub file_bytes : List (Item Message) → List ℕ
file_bytes items = flat_map item_bytes items
