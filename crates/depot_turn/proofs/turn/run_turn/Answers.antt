use Rattle.std.proofs.Common.{◌≡◌, take, Ok, sym, ap, ◌∙◌, subst}
use Rattle.std.proofs.lemmas.List.{length-take-le}
use Rattle.wire.specs.Reading.{reading, file_answer, counted}
use Rattle.broadcast.specs.Instances.{given}
use Rattle.depot_turn.specs.Turns.{turn_from, TurnLeaves}
use Rattle.depot_turn.proofs.TurnLaws.{Read, read_first}
use Rattle.depot_turn.proofs.turn.run_turn.Given as given_of
use Rattle.depot_turn.proofs.turn.run_turn.Goals as goal
use Rattle.depot_turn.proofs.turn.run_turn.Goals.{In_ok-count}

read : (g : given_of.Over) (c : In_ok-count g) → Read c.in_ok-count.count (reading c.args.file.now 128) c.read_messages.new.table
read g c =
    let told : file_answer c.read_messages.result ≡ counted 0 (reading c.args.file.now 128) = c.read_messages.ensures.answer in
    read_first _ _ _ _ (sym (ap file_answer c.in_ok-count.was) ∙ told) c.read_messages.ensures.table

pub slice_bounds-table-end : goal.slice_bounds-table-end
slice_bounds-table-end g c = (read g (goal.at.slice_bounds-table-end g c).In_ok-count).within

pub slice_bounds-broadcast-end : goal.slice_bounds-broadcast-end
slice_bounds-broadcast-end g c = sym (length-take-le c.in_ok-count.count c.read_messages.new.table (read g (goal.at.slice_bounds-broadcast-end g c).In_ok-count).within)

pub returns : goal.returns
returns g c =
    let is = (read g (goal.at.returns g c).In_ok-count).is in
    let told = c.broadcast.ensures in
    let messages = take c.in_ok-count.count c.read_messages.new.table in
    let outcomes : c.broadcast.result ≡ g.B.Broadcast.outcomes c.args.broadcast.now (given c.args.turn.now messages) = told.answer in
    record { answer = ap Ok outcomes ∙ sym (ap (turn_from _) is); after = subst (TurnLeaves _ _) (sym is) told.after }
