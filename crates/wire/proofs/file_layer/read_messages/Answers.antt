use Rattle.std.proofs.Common.{◌≡◌, length, sym, ap, ◌∙◌, arith}
use Rattle.std.proofs.lemmas.Result.{err_from_is_err_and}
use Rattle.little_endian.proofs.ByteLaws.{octets}
use Rattle.wire.specs.Reading.{reading, counted, filled, file_answer}
use Rattle.wire.proofs.FileLaws.{reading_large, reading_small, counted_small, filled_refused}
use Rattle.wire.proofs.WholeFileLaws.{lawful}
use Rattle.wire.proofs.file_layer.read_messages.Goals as goal

pub returns-then-file-gt-MAX_FILE : goal.returns-then-file-gt-MAX_FILE
returns-then-file-gt-MAX_FILE c =
    let file = c.args.file.now in
    let table = c.args.table.now in
    let large = reading_large file (length table) c.if-file-gt-MAX_FILE.true in
    let told = sym (ap (counted 0) large) in
    let left = sym (ap (filled table) large) in
    lawful file table _ _ told left (octets file c.type_inv.file)

pub returns-in_err-count : goal.returns-in_err-count
returns-in_err-count c =
    let p = err_from_is_err_and c.from_residual.result c.from_residual.ensures.1 in
    let file = c.args.file.now in
    let table = c.args.table.now in
    let same = c.in_err-count.ensures ∙ counted_small file (length table) c.min.result c.if-file-gt-MAX_FILE.false (omega (arith, c.min.ensures)) in
    let told : file_answer c.from_residual.result ≡ counted 0 (reading file (length table)) = rw (p.1, p.2) same in
    let left = sym (filled_refused table (reading file (length table)) _ same) in
    lawful file table _ _ told left (octets file c.type_inv.file)

pub returns : goal.returns
returns c =
    let file = c.args.file.now in
    let table = c.args.table.now in
    let told = c.in_ok-count.ensures ∙ counted_small file (length table) c.min.result c.if-file-gt-MAX_FILE.false (omega (arith, c.min.ensures)) in
    let left = c.fill.ensures.table ∙ sym (ap (filled table) (reading_small file (length table) c.if-file-gt-MAX_FILE.false)) in
    lawful file table _ _ told left (octets file c.type_inv.file)
