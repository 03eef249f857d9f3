use Rattle.std.proofs.Common.{◌≡◌, ◌+◌, ◌*◌, length, take}
use lib.Seq.{paste}
use Rattle.std.specs.List.{flat_map}
use Rattle.wire.specs.Format.{signature_bytes}
use Rattle.wire.proofs.writing.write_message.Given as goal

abbrev pub invariant-loop-signature : goal.invariant-loop-signature
invariant-loop-signature l = record {
  written : l.writer.written ≡ 16 + 9 * l.signature-index;
  buffer : l.writer.buffer.now ≡ paste l.initial.writer.buffer.now 16 (flat_map signature_bytes (take l.signature-index l.chain)) (9 * l.signature-index);
  size : length l.writer.buffer.now ≡ length l.fn.buffer;
  same_buffer : l.writer.buffer.ghost_name ≡ l.initial.writer.buffer.ghost_name;
}
