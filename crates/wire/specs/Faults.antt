-- What each fault says: its number, the offset of the record at fault, and the layer that found it.
-- A fault that was found below says what it said there.
use Rattle.std.specs.Prelude.{ℕ}
use Rattle.refusals.specs.Numbers.{InRange}
use Rattle.std.proofs.Common.{arith}
use Rattle.wire.specs.declared.fault.Layer.{Layer}
use Rattle.wire.specs.declared.fault.Layer.TheVariants as ALayer
use Rattle.wire.specs.declared.fault.Refusal.{Refusal}
use Rattle.wire.specs.declared.fault.RecordFault.{RecordFault}
use Rattle.wire.specs.declared.fault.RecordFault.TheVariants as AtRecord
use Rattle.wire.specs.declared.fault.MessageFault.{MessageFault}
use Rattle.wire.specs.declared.fault.MessageFault.TheVariants as AtMessage
use Rattle.wire.specs.declared.fault.FileFault.{FileFault}
use Rattle.wire.specs.declared.fault.FileFault.TheVariants as AtFile

abbrev pub refused : ℕ → ℕ → Layer → Refusal
refused number offset layer = record { number = number; offset = offset; layer = layer }

abbrev pub record_refusal : RecordFault → Refusal
record_refusal (AtRecord.Length offset) = refused 1 offset ALayer.Record
record_refusal (AtRecord.Kind offset) = refused 2 offset ALayer.Record

abbrev pub message_refusal : MessageFault → Refusal
message_refusal (AtMessage.Record fault) = record_refusal fault
message_refusal (AtMessage.Length offset) = refused 3 offset ALayer.Message

abbrev pub file_refusal : FileFault → Refusal
file_refusal (AtFile.Message fault) = message_refusal fault
file_refusal (AtFile.Capacity offset) = refused 4 offset ALayer.File

-- the numbers are 1 to 15
pub record_number : (fault : RecordFault) → InRange (record_refusal fault).number
record_number (AtRecord.Length offset) = (omega arith, omega arith)
record_number (AtRecord.Kind offset) = (omega arith, omega arith)

pub message_number : (fault : MessageFault) → InRange (message_refusal fault).number
message_number (AtMessage.Record fault) = record_number fault
message_number (AtMessage.Length offset) = (omega arith, omega arith)

pub file_number : (fault : FileFault) → InRange (file_refusal fault).number
file_number (AtFile.Message fault) = message_number fault
file_number (AtFile.Capacity offset) = (omega arith, omega arith)
