use Rattle.std.proofs.Common.{◌≡◌, ℕ, length}
use Rattle.wire.specs.Reading.{records_left, messages_left}
use Rattle.wire.proofs.entries.Entries.next_message.Given as goal

abbrev pub invariant-loop-message : goal.invariant-loop-message
invariant-loop-message l = (places : ℕ) → messages_left places l.fn.self.records ≡ messages_left places l.self.records

abbrev pub decreases-loop-message : goal.decreases-loop-message
decreases-loop-message l = length (records_left l.self.records)
