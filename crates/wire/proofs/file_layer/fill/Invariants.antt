use Rattle.std.specs.Prelude.{IsOk}
use Rattle.std.proofs.Common.{◌≡◌, ◌-◌, length}
use Rattle.wire.specs.Reading.{messages_at, messages_left, room, filled}
use Rattle.wire.proofs.TableLaws.{laid}
use Rattle.wire.proofs.file_layer.fill.Given as goal

abbrev pub invariant-loop-place : goal.invariant-loop-place
invariant-loop-place l =
    IsOk (messages_left (room (length l.initial.table) - l.place-index) l.entries.records)
    × (filled l.initial.table (messages_at (room (length l.initial.table)) 0 l.file) ≡ laid l.table l.place-index (messages_left (room (length l.initial.table) - l.place-index) l.entries.records))
