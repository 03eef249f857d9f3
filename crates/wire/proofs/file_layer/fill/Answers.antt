use Rattle.std.specs.Prelude.{IsOk}
use Rattle.std.proofs.Common.{◌≡◌, ◌-◌, length, drop, sym, ap, ◌∙◌, subst, arith}
use native.Mathlib.Nat.{sub-zero}
use Rattle.wire.specs.Reading.{messages_at, messages_left, room}
use Rattle.wire.proofs.TableLaws.{laid, laid_all, laid_full, few, at_most_more}
use Rattle.wire.proofs.file_layer.fill.Goals as goal

pub loop-place-init : goal.loop-place-init
loop-place-init c =
    let told = c.new-entries.ensures in
    let table = c.args.table.now in
    let s = c.new-entries.result.records in
    let first = messages_at (room (length table)) 0 c.args.file.now in
    let whole : first ≡ messages_left (room (length table) - 0) s = λ i. messages_at (sym (sub-zero (room (length table))) i) (sym told.from_the_start i) (drop (sym told.from_the_start i) (sym told.whole_file i)) in
    (subst IsOk whole c.requires, sym (laid_all table first (at_most_more (room (length table)) (length table) first (omega arith) (few _ _ _ _))) ∙ ap (laid table 0) whole)

pub returns-after-loop-place-clause-table : goal.returns-after-loop-place-clause-table
returns-after-loop-place-clause-table c = sym (c.loop-place.invariant.1 ∙ laid_full _ _ _ (at_most_more _ 0 _ (omega arith) (few _ _ _ _)))
