use Rattle.std.proofs.Common.{◌≡◌, ◌-◌}
use Rattle.wire.specs.Reading.{counted, messages_at, messages_left}
use Rattle.wire.proofs.file_layer.count_messages.Given as goal

abbrev pub invariant-loop-count : goal.invariant-loop-count
invariant-loop-count l = counted 0 (messages_at l.most 0 l.file) ≡ counted l.count (messages_left (l.most - l.count) l.entries.records)
