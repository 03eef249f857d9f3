-- SipHash-2-4, as Jean-Philippe Aumasson and Daniel J. Bernstein published it in 2012: a 64-bit tag of a message under a 16-byte key.
-- A word has 64 bits, and its bytes stand in the message with the lowest first.
use Rattle.std.specs.Prelude.{ℕ, ◌+◌, ◌-◌, ◌*◌, ◌/◌, ◌%◌, ◌^◌, List, [], ◌∷◌, ◌++◌, length, take, drop, map, replicate, bit_or, bit_xor}
use Rattle.std.specs.Fn.{iterate}
use Rattle.std.specs.List.{fold}
use Rattle.std.specs.Simd.{first_chunks}
use Rattle.little_endian.specs.Bytes.{number}
use Rattle.siphash.specs.declared.state.State.{State}

-- the three operations on words: sum, exclusive or, rotation to the left by 1 to 63 bits
infixl 20 ◌⊞◌
infixl 20 ◌⊕◌
infixl 30 ◌⋘◌
abbrev pub ◌⊞◌ : ℕ → ℕ → ℕ
a ⊞ b = (a + b) % 2 ^ 64

abbrev pub ◌⊕◌ : ℕ → ℕ → ℕ
a ⊕ b = bit_xor a b

abbrev pub ◌⋘◌ : ℕ → ℕ → ℕ
a ⋘ by = bit_or (a * 2 ^ by % 2 ^ 64) (a / 2 ^ (64 - by))

-- two words mixed: the first becomes their sum, the second is turned and combined with the sum
abbrev pub mixed : ℕ → ℕ → ℕ → ℕ × ℕ
mixed a b by = (a ⊞ b, b ⋘ by ⊕ (a ⊞ b))

-- one round: the words are mixed pair by pair, then across the pairs, and two of them are turned by half
unfoldable pub round : State → State
round s =
    let p = mixed s.v0 s.v1 13 in
    let q = mixed s.v2 s.v3 16 in
    let r = mixed q.0 p.1 17 in
    let t = mixed (p.0 ⋘ 32) q.1 21 in
    record { v0 = t.0; v1 = r.1; v2 = r.0 ⋘ 32; v3 = t.1 }

-- the words of "somepseudorandomlygeneratedbytes", each combined with a half of the key
unfoldable pub initial : List ℕ → State
initial key =
    let k0 = number (take 8 key) in
    let k1 = number (take 8 (drop 8 key)) in
    record {
      v0 = k0 ⊕ 0x736f6d6570736575;
      v1 = k1 ⊕ 0x646f72616e646f6d;
      v2 = k0 ⊕ 0x6c7967656e657261;
      v3 = k1 ⊕ 0x7465646279746573;
    }

-- a word of the message is taken in by two rounds
unfoldable pub absorbed : State → ℕ → State
absorbed s word =
    let t = iterate round 2 (record s { v3 = s.v3 ⊕ word }) in
    record t { v0 = t.v0 ⊕ word }

-- the tag, after four more rounds
unfoldable pub finished : State → ℕ
finished s =
    let t = iterate round 4 (record s { v2 = s.v2 ⊕ 0xff }) in
    t.v0 ⊕ t.v1 ⊕ t.v2 ⊕ t.v3

-- a message is filled up with zeros to one byte less than whole words; the last byte is the lowest one of its length
abbrev pub padded : List ℕ → List ℕ
padded message = message ++ (replicate (7 - length message % 8) 0 ++ length message % 256 ∷ [])

-- the words of a message: one more than its bytes fill
unfoldable pub message_words : List ℕ → List ℕ
message_words message = map number (first_chunks 8 (length message / 8 + 1) (padded message))

-- the words are taken in one after the other
unfoldable pub siphash_2_4 : List ℕ → List ℕ → ℕ
siphash_2_4 key message = finished (fold absorbed (initial key) (message_words message))
