use Rattle.std.proofs.Common.{◌≡◌, ℕ, ◌-◌, List, length, take, drop, Some, Ok, sym, ap, ◌∙◌, inl, inr, ⊎_elim, arith}
use Rattle.std.proofs.lemmas.List.{take_rest, length-drop, length-take}
use Rattle.wire.specs.Kinds.{kind_number}
use Rattle.wire.specs.Format.{message, comment}
use Rattle.wire.specs.Reading.{content, record_at, record_length, record_kind, record_body}
use Rattle.wire.proofs.RecordLaws.{header_in_pairs, record_none, record_bad_length, record_message, record_comment, record_bad_kind}
use Rattle.wire.proofs.records.Records.next.Goals as goal
use Rattle.wire.proofs.records.Records.next.Goals.{After-from-length, After-from_le_bytes-2, in-Message, in-Comment}

-- what is left of the file, as the code cuts it and as the definitions do
abbrev left : (c : After-from-length) → List ℕ
left c = let s = c.args.self.now in take (length s.file.now - s.offset) (drop s.offset s.file.now)

cut : (c : After-from-length) → left c ≡ drop c.args.self.now.offset c.args.self.now.file.now
cut c = take_rest c.args.self.now.file.now c.args.self.now.offset

told_length : (c : After-from-length) → c.from-length.result ≡ record_length (left c)
told_length c = c.from-length.ensures ∙ c.from_le_bytes.ensures ∙ (header_in_pairs _ (left c) c.as_chunks.ensures.front (omega arith)).length

told_kind : (c : After-from_le_bytes-2) → c.from_le_bytes-2.result ≡ record_kind (left (goal.at.After-from_le_bytes-2 c).After-from-length)
told_kind c = c.from_le_bytes-2.ensures ∙ (header_in_pairs _ (left (goal.at.After-from_le_bytes-2 c).After-from-length) c.as_chunks.ensures.front (omega arith)).kind

pub returns-then-offset-file-clause-answer : goal.returns-then-offset-file-clause-answer
returns-then-offset-file-clause-answer c = record_none _ _ (simp length-drop (omega arith))

pub returns-in_default-clause-answer : goal.returns-in_default-clause-answer
returns-in_default-clause-answer c =
    let file = c.args.self.now.file.now in
    let offset = c.args.self.now.offset in
    let size : length (take (length file - offset) (drop offset file)) ≡ length file - offset = simp (length-take, length-drop) (omega arith) in
    record_bad_length _ _ (simp length-drop (omega arith)) (inl (simp length-drop (omega (arith, c.as_chunks.ensures.front_len))))

pub returns-then-length-lt-HEADER-clause-answer : goal.returns-then-length-lt-HEADER-clause-answer
returns-then-length-lt-HEADER-clause-answer c =
    let a = (goal.at.returns-then-length-lt-HEADER-clause-answer c).After-from-length in
    let offset = c.args.self.now.offset in
    let long = told_length a in
    record_bad_length offset (left a) (omega arith) (inr (⊎_elim (λ h. inl (omega arith)) (λ h. inr (omega arith)) c.then-length-lt-HEADER.either)) ∙ ap (record_at offset) (cut a)

pub returns-in_default-try_from-clause-answer : goal.returns-in_default-try_from-clause-answer
returns-in_default-try_from-clause-answer c =
    let a = (goal.at.returns-in_default-try_from-clause-answer c).After-from-length in
    let offset = c.args.self.now.offset in
    let long = told_length a in
    let kind = told_kind (goal.at.returns-in_default-try_from-clause-answer c).After-from_le_bytes-2 in
    record_bad_kind offset (left a) (omega arith) (omega arith) (omega arith) (λ one. c.in_default-try_from.ensures.0 (kind ∙ one)) (λ two. c.in_default-try_from.ensures.1 (kind ∙ two)) ∙ ap (record_at offset) (cut a)

pub returns-clause-answer : goal.returns-clause-answer
returns-clause-answer c =
    let a = (goal.at.returns-clause-answer c).After-from-length in
    let offset = c.args.self.now.offset in
    let long = told_length a in
    let kind = sym (told_kind (goal.at.returns-clause-answer c).After-from_le_bytes-2) ∙ sym c.in-Ok.ensures in
    let body : take (c.from-length.result - 4) (drop 4 (left a)) ≡ record_body (left a) = ap (λ n. take (n - 4) (drop 4 (left a))) long in
    elim c.match-kind.branch [
      | in-Message w ↦ ap (λ item. Ok (Some (content (λ b. b.now) item))) w.record-is ∙ ap (λ b. Ok (Some (message b))) body ∙ record_message offset (left a) (omega arith) (omega arith) (omega arith) (kind ∙ ap kind_number w.in-Message.is)
      | in-Comment w ↦ ap (λ item. Ok (Some (content (λ b. b.now) item))) w.record-is ∙ ap (λ b. Ok (Some (comment b))) body ∙ record_comment offset (left a) (omega arith) (omega arith) (omega arith) (kind ∙ ap kind_number w.in-Comment.is)
    ] ∙ ap (record_at offset) (cut a)
