-- What the reader of a message file tells of the table, for the broadcast that comes after it.
use Rattle.std.proofs.Common.{◌≡◌, ℕ, ◌≤◌, List, length, take, drop, Ok, Err, Result, sym, ap, ◌∙◌, arith}
use Rattle.std.proofs.lemmas.List.{length-append, take_at}
use Rattle.wire.specs.declared.fault.Refusal.{Refusal}
use Rattle.wire.specs.declared.message.Message.{Message}
use Rattle.wire.specs.Reading.{counted, filled}

-- the messages that were read are the first of the table
pub record Read (count : ℕ) (r : Result (List Message) Refusal) (table : List Message) : Type 0 where
  pub within : count ≤ length table
  pub is : r ≡ Ok (take count table)

pub read_first : (count : ℕ) (r : Result (List Message) Refusal) (before table : List Message) → Ok count ≡ counted 0 r → table ≡ filled before r → Read count r table
read_first count (Ok ms) before table told left =
    let size : count ≡ length ms = grind arith in
    record {
      within = omega (arith, ap length left, length-append ms (drop (length ms) before));
      is = ap Ok (sym (ap (take count) left ∙ take_at ms _ count (sym size)));
    }
read_first count (Err refusal) before table told left = cc
