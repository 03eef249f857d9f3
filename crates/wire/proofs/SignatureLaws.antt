-- The signatures of a body, one by one.
use Rattle.std.proofs.Common.{◌≡◌, ℕ, zero, suc, ◌+◌, ◌-◌, ◌<◌, ◌≤◌, min, List, [], ◌∷◌, ◌++◌, length, get_or, take, drop, set, map, replicate, sym, refl, ap, ◌∙◌, add-one, zero-add, arith}
use Rattle.std.specs.Simd.{first_chunks}
use Rattle.std.proofs.lemmas.List.{drop_more, drop-replicate, take-take, take_at}
use Rattle.std.proofs.lemmas.List.Edits.{sets, sets-eq}
use Rattle.little_endian.specs.Bytes.{number}
use Rattle.wire.specs.declared.message.Signature.{Signature}
use Rattle.wire.specs.Format.{chain}
use Rattle.wire.specs.Reading.{blank, signature_from, signatures_from, message_from}

pub length-signatures : (k : ℕ) (bytes : List ℕ) → length (signatures_from k bytes) ≡ k
length-signatures zero bytes = refl
length-signatures (suc k) bytes = ap suc (length-signatures k (drop 9 bytes))

-- the chain of a message that was read
pub chain_from : (body : List ℕ) → get_or body 3 0 ≤ 16 → chain (message_from body) ≡ signatures_from (get_or body 3 0) (drop 12 body)
unfolding message_from
chain_from body few =
    let n = get_or body 3 0 in
    let all : min n 16 ≡ n = omega arith in
    ap (λ k. take k (signatures_from n (drop 12 body) ++ replicate (16 - n) blank)) all ∙ take_at _ _ n (length-signatures n _)

-- a signature takes nine bytes
signature_of_nine : (bytes : List ℕ) → signature_from bytes ≡ signature_from (take 9 bytes)
signature_of_nine [] = refl
signature_of_nine (b ∷ bytes) = λ i. record { signer = b; tag = number (sym (take-take 8 8 bytes (omega arith)) i) }

pub signatures_of_chunks : (k : ℕ) (bytes : List ℕ) → signatures_from k bytes ≡ map signature_from (first_chunks 9 k bytes)
signatures_of_chunks zero bytes = refl
signatures_of_chunks (suc k) bytes = λ i. signature_of_nine bytes i ∷ signatures_of_chunks k (drop 9 bytes) i

-- a signature put at a place, and then those of the later chunks
pub signatures_on : (ss : List Signature) (chunks : List (List ℕ)) (i : ℕ) (s : Signature) → i < length chunks → s ≡ signature_from (get_or chunks i []) → sets (set ss i s) (i + 1) (map signature_from (drop (i + 1) chunks)) ≡ sets ss i (map signature_from (drop i chunks))
signatures_on ss chunks i s lt is =
    ap (λ s. sets (set ss i s) (i + 1) (map signature_from (drop (i + 1) chunks))) is
    ∙ sym (ap (λ cs. sets ss i (map signature_from cs)) (drop_more chunks i [] lt) ∙ ap (λ k. sets (set ss i (signature_from (get_or chunks i []))) k (map signature_from (drop (i + 1) chunks))) (sym (add-one i)))

-- the signatures of all chunks over blanks
pub signatures_over : (k : ℕ) (bytes : List ℕ) → k ≤ 16 → sets (replicate 16 blank) 0 (map signature_from (first_chunks 9 k bytes)) ≡ signatures_from k bytes ++ replicate (16 - k) blank
signatures_over k bytes few =
    let ss = signatures_from k bytes in
    ap (sets (replicate 16 blank) 0) (sym (signatures_of_chunks k bytes)) ∙ sets-eq ss (replicate 16 blank) 0 (omega (arith, length-signatures k bytes))
    ∙ ap (λ n. ss ++ drop n (replicate 16 blank)) (zero-add (length ss) ∙ length-signatures k bytes) ∙ ap (λ bs. ss ++ bs) (drop-replicate k 16 blank)
