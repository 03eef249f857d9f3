use Rattle.std.proofs.Common.{◌≡◌, Some, Ok, sym, ap, ◌∙◌}
use Rattle.std.proofs.lemmas.Result.{err_from_is_err_and}
use Rattle.wire.specs.Format.{message}
use Rattle.wire.specs.Reading.{entry_answer, records_left, messages_left, onward}
use Rattle.wire.proofs.FileLaws.{at_end, at_fault, falls, past}
use Rattle.wire.proofs.entries.Entries.next_message.Goals as goal

pub returns-in_err-next : goal.returns-in_err-next
returns-in_err-next c places =
    let s = c.loop-message.self.records in
    let p = err_from_is_err_and c.from_residual.result c.from_residual.ensures.1 in
    rw (p.1, p.2) (c.loop-message.invariant places ∙ at_fault places s.offset (records_left s) _ (sym c.in_err-next.ensures.answer))

pub returns-in-None : goal.returns-in-None
returns-in-None c places =
    let s = c.loop-message.self.records in
    c.loop-message.invariant places ∙ at_end places s.offset (records_left s) (sym c.next.ensures.answer ∙ ap entry_answer (c.in_ok-next.was ∙ ap Ok c.in-None.is))

pub returns-in-Some-Message : goal.returns-in-Some-Message
returns-in-Some-Message c places =
    let s = c.loop-message.self.records in
    let s' = c.next.new.self.records in
    let was : c.next.result ≡ Ok (Some _) = c.in_ok-next.was ∙ ap Ok c.in-Some-Message.is ∙ ap (λ e. Ok (Some e)) c.in-Some-Message.field-0-is in
    c.loop-message.invariant places ∙ past s s' c.next.result _ was c.next.ensures.answer c.next.ensures.moves_on c.next.ensures.same_file places
    ∙ ap (λ at. onward places at (Ok (Some (message c.in-Some-Message.message))) (λ left. messages_left left s')) (sym c.offset-offset.ensures)

pub loop-message-smaller : goal.loop-message-smaller
loop-message-smaller c =
    falls c.loop-message.self.records c.next.new.self.records c.next.result _ (c.in_ok-next.was ∙ ap Ok c.in-Some-Comment.is) c.next.ensures.answer c.next.ensures.moves_on c.next.ensures.same_file

pub loop-message-preserved : goal.loop-message-preserved
loop-message-preserved c places =
    c.loop-message.invariant places ∙ past c.loop-message.self.records c.next.new.self.records c.next.result _ (c.in_ok-next.was ∙ ap Ok c.in-Some-Comment.is ∙ ap (λ e. Ok (Some e)) c.in-Some-Comment.field-0-is) c.next.ensures.answer c.next.ensures.moves_on c.next.ensures.same_file places
