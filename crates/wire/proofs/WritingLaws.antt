-- What a buffer holds after one write and another.
use Rattle.std.proofs.Common.{◌≡◌, ℕ, ◌+◌, ◌*◌, ◌<◌, ◌≤◌, List, [], ◌∷◌, ◌++◌, length, get_or, take, drop, sym, refl, ap, ◌∙◌, zero-add, arith}
use lib.Seq.{paste}
use Rattle.std.specs.List.{flat_map}
use Rattle.std.proofs.lemmas.List.Edits.{paste-paste, paste_all}
use Rattle.std.proofs.lemmas.List.{length-append, flat_map_more, take_more, length-take-le}
use Rattle.wire.specs.declared.message.Signature.{Signature}
use Rattle.wire.specs.declared.message.Message.{Message}
use Rattle.little_endian.specs.Bytes.{little}
use Rattle.wire.specs.Format.{chain, signature_bytes, body_bytes, message_bytes}

pub wrote_more : (d d₁ d₂ : List ℕ) (at n place m : ℕ) (s t : List ℕ) → d₁ ≡ paste d at s n → d₂ ≡ paste d₁ place t m → place ≡ at + n → n ≡ length s → m ≡ length t → at ≤ length d → d₂ ≡ paste d at (s ++ t) (n + m)
wrote_more d d₁ d₂ at n place m s t e₁ e₂ next ls lt h = e₂ ∙ (λ i. paste (e₁ i) (next i) t m) ∙ paste-paste d at s t n m ls lt h

pub length-signature_bytes : (ss : List Signature) → 9 * length ss ≡ length (flat_map signature_bytes ss)
length-signature_bytes [] = refl
length-signature_bytes (s ∷ ss) = simp length-append (omega (arith, length-signature_bytes ss))

-- one signature more
pub signatures_written : (d d₁ d₂ : List ℕ) (ss : List Signature) (i place : ℕ) (z : Signature) → i < length ss → 16 ≤ length d → d₁ ≡ paste d 16 (flat_map signature_bytes (take i ss)) (9 * i) → d₂ ≡ paste d₁ place (signature_bytes (get_or ss i z)) 9 → place ≡ 16 + 9 * i → d₂ ≡ paste d 16 (flat_map signature_bytes (take (i + 1) ss)) (9 * (i + 1))
signatures_written d d₁ d₂ ss i place z h room e₁ e₂ next =
    let count : 9 * i ≡ length (flat_map signature_bytes (take i ss)) = ap (λ n. 9 * n) (sym (length-take-le i ss (omega arith))) ∙ length-signature_bytes (take i ss) in
    let more : 9 * i + 9 ≡ 9 * (i + 1) = omega arith in
    wrote_more d d₁ d₂ 16 (9 * i) place 9 _ _ e₁ e₂ next count refl room
    ∙ (λ j. paste d 16 ((flat_map_more signature_bytes [] (take i ss) (get_or ss i z) ∙ ap (flat_map signature_bytes) (sym (take_more ss i z h))) j) (more j))

pub length-message_bytes : (m : Message) (cs : List Signature) → cs ≡ chain m → 16 + 9 * length cs ≡ length (message_bytes m)
length-message_bytes m cs is = omega (arith, length-signature_bytes (chain m), ap length is)

-- the bytes of a message with these signatures, as they are put one after the other
abbrev laid_out : Message → List Signature → List ℕ
laid_out m cs = little 2 (16 + 9 * length cs) ++ (1 ∷ 0 ∷ m.round ∷ m.sender ∷ m.receiver ∷ length cs ∷ []) ++ little 8 m.value ++ flat_map signature_bytes cs

laid_out_is : (m : Message) (cs : List Signature) → cs ≡ chain m → laid_out m cs ≡ message_bytes m
laid_out_is m cs is = ap (laid_out m) is ∙ ap (λ n. little 2 n ++ (little 2 1 ++ body_bytes m)) (omega (arith, length-signature_bytes (chain m)))

-- the five writes of a message
pub message_put : (m : Message) (cs : List Signature) (d d₁ d₂ d₃ d₄ d₅ : List ℕ) → cs ≡ chain m → 16 ≤ length d → d₁ ≡ paste d 0 (little 2 (16 + 9 * length cs)) 2 → d₂ ≡ paste d₁ 2 (little 2 1) 2 → d₃ ≡ paste d₂ 4 (m.round ∷ m.sender ∷ m.receiver ∷ length cs ∷ []) 4 → d₄ ≡ paste d₃ 8 (little 8 m.value) 8 → d₅ ≡ paste d₄ 16 (flat_map signature_bytes cs) (9 * length cs) → d₅ ≡ message_bytes m ++ drop (length (message_bytes m)) d
message_put m cs d d₁ d₂ d₃ d₄ d₅ is room e₁ e₂ e₃ e₄ e₅ =
    let first = little 2 (16 + 9 * length cs) in
    let second = little 2 1 in
    let third = m.round ∷ m.sender ∷ m.receiver ∷ length cs ∷ [] in
    let fourth = little 8 m.value in
    let two = wrote_more d d₁ d₂ 0 2 2 2 first second e₁ e₂ refl refl refl (omega arith) in
    let three = wrote_more d d₂ d₃ 0 4 4 4 (first ++ second) third two e₃ refl refl refl (omega arith) in
    let four = wrote_more d d₃ d₄ 0 8 8 8 (first ++ second ++ third) fourth three e₄ refl refl refl (omega arith) in
    let size : 16 + 9 * length cs ≡ length (laid_out m cs) = omega (arith, length-signature_bytes cs) in
    wrote_more d d₄ d₅ 0 16 16 (9 * length cs) (first ++ second ++ third ++ fourth) (flat_map signature_bytes cs) four e₅ refl refl (length-signature_bytes cs) (omega arith)
    ∙ paste_all d 0 (laid_out m cs) (16 + 9 * length cs) size ∙ ap (λ n. laid_out m cs ++ drop n d) (zero-add (16 + 9 * length cs) ∙ size) ∙ ap (λ bs. bs ++ drop (length bs) d) (laid_out_is m cs is)
