-- How a message is written into a buffer.
use Rattle.std.specs.Prelude.{ℕ, if◌then◌else◌, List, ◌++◌, length, drop, Ok, Err, Result, nat_le}
use Rattle.refusals.specs.Numbers.{InRange}
use Rattle.std.specs.Result.{result_map_both}
use Rattle.std.proofs.Common.{arith}
use Rattle.wire.specs.declared.message.Message.{Message}
use Rattle.wire.specs.declared.fault.ShortBuffer.{ShortBuffer}
use Rattle.wire.specs.Format.{message_bytes}

-- a refusal to write: its number and the length that is needed
pub record Shortage : Type 0 where
  pub number : ℕ
  pub needed : ℕ

abbrev pub shortage : ShortBuffer → Shortage
shortage s = record { number = 5; needed = s.needed }

pub shortage_number : (s : ShortBuffer) → InRange (shortage s).number
shortage_number s = (omega arith, omega arith)

abbrev pub write_answer : Result ℕ ShortBuffer → Result ℕ Shortage
write_answer r = result_map_both (λ n. n) shortage r

-- the message's length, or a refusal where the buffer is shorter
abbrev pub writing : Message → List ℕ → Result ℕ Shortage
writing m buffer = if nat_le (length (message_bytes m)) (length buffer) then Ok (length (message_bytes m)) else Err (record { number = 5; needed = length (message_bytes m) })

-- the buffer afterwards: the message first and the rest as it was, or all of it as it was
abbrev pub written : Message → List ℕ → List ℕ
written m buffer = if nat_le (length (message_bytes m)) (length buffer) then message_bytes m ++ drop (length (message_bytes m)) buffer else buffer
