-- The words of a message.
use Rattle.std.proofs.Common.{◌≡◌, ℕ, zero, suc, ◌+◌, ◌-◌, ◌*◌, ◌/◌, ◌%◌, ◌^◌, ◌<◌, ◌≤◌, List, [], ◌∷◌, ◌++◌, length, get_or, take, drop, replicate, map, refl, ap, ◌∙◌, add-one, pow-suc, bit_or, Fits, w8, w64, arith}
use Rattle.std.specs.Int.{from_le_bytes}
use Rattle.std.specs.Int.Bits.{or_shifted_r}
use Rattle.std.specs.List.{fold}
use Rattle.std.specs.Simd.{first_chunks}
use Rattle.std.proofs.lemmas.List.{take-append-le, drop-append-le, drop-drop, take_all, map-append, length-append, length-drop, length-replicate}
use Rattle.std.proofs.lemmas.List.Sums.{fold-append}
use Rattle.little_endian.specs.Bytes.{number}
use Rattle.little_endian.proofs.ByteLaws.{number_below, octets}
use Rattle.siphash.specs.SipHash.{initial, absorbed, finished, message_words, siphash_2_4}

-- less than a word, and a byte on top of it
pub on_top : (left : List ℕ) (size : ℕ) → length left < 8 → ((i : ℕ) → Fits w8 (get_or left i 0)) → bit_or (number (take 8 left)) (size * 2 ^ 56 % 2 ^ 64) ≡ number left + size % 256 * 2 ^ 56
on_top left size few fits =
    let low : number left < 2 ^ 56 = number_below 7 left (omega arith) (octets left fits) in
    let top : size * 2 ^ 56 % 2 ^ 64 ≡ size % 256 * 2 ^ 56 = omega arith in
    rw (top, take_all 8 left (omega arith)) (omega (arith, or_shifted_r (size % 256) 56 (number left) low))

-- one chunk more than bytes fill takes in what follows them
chunks_past : (k : ℕ) (bytes end : List ℕ) → k * 8 ≤ length bytes → first_chunks 8 (suc k) (bytes ++ end) ≡ first_chunks 8 k bytes ++ take 8 (drop (k * 8) bytes ++ end) ∷ []
chunks_past zero bytes end h = refl
chunks_past (suc k) bytes end h =
    let enough : 8 ≤ length bytes = omega arith in
    let more : k * 8 ≤ length (drop 8 bytes) = simp length-drop (omega arith) in
    let after : 8 + k * 8 ≡ suc k * 8 = omega arith in
    rw (take-append-le 8 bytes end enough, drop-append-le 8 bytes end enough, chunks_past k (drop 8 bytes) end more, drop-drop (k * 8) 8 bytes, after)

-- bytes and zeros, k together, and one byte on top of them
number_filled : (bytes : List ℕ) (zeros k top : ℕ) → length bytes + zeros ≡ k → number (bytes ++ (replicate zeros 0 ++ top ∷ [])) ≡ number bytes + top * 256 ^ k
number_filled [] zero k top h = let none : k ≡ 0 = omega arith in rw none (omega arith)
number_filled [] (suc zeros) (suc k) top h = rw pow-suc (omega (arith, number_filled [] zeros k top (omega arith)))
number_filled (byte ∷ bytes) zeros (suc k) top h = rw pow-suc (omega (arith, number_filled bytes zeros k top (omega arith)))
number_filled _ _ zero top h = absurd (omega arith)

-- less than a word makes the last one
filled : (size : ℕ) (rest : List ℕ) → length rest ≡ size % 8 → number (take 8 (rest ++ (replicate (7 - size % 8) 0 ++ size % 256 ∷ []))) ≡ number rest + size % 256 * 2 ^ 56
filled size rest h =
    let end = rest ++ (replicate (7 - size % 8) 0 ++ size % 256 ∷ []) in
    let eight : length end ≤ 8 = simp (length-append, length-replicate) (omega arith) in
    ap number (take_all 8 end eight) ∙ number_filled rest (7 - size % 8) 7 (size % 256) (omega arith)

-- what is read of a word's bytes
word : (bytes : List ℕ) → 8 ≤ length bytes → number (take 8 bytes) ≡ from_le_bytes w64 (take 8 bytes)
word (b0 ∷ b1 ∷ b2 ∷ b3 ∷ b4 ∷ b5 ∷ b6 ∷ b7 ∷ bytes) h = omega arith
word _ h = absurd (omega arith)

words_read : (k : ℕ) (bytes : List ℕ) → k * 8 ≤ length bytes → map number (first_chunks 8 k bytes) ≡ map (from_le_bytes w64) (first_chunks 8 k bytes)
words_read zero bytes h = refl
words_read (suc k) bytes h = (λ i. word bytes (omega arith) i ∷ words_read k (drop 8 bytes) (simp length-drop (omega arith)) i)

-- the words that a message's bytes fill are read whole, and one more is made of what is left over
words_split : (message : List ℕ) → message_words message
    ≡ map (from_le_bytes w64) (first_chunks 8 (length message / 8) message) ++ (number (drop (length message / 8 * 8) message) + length message % 256 * 2 ^ 56) ∷ []
unfolding message_words
words_split message =
    let count = length message / 8 in
    let end = replicate (7 - length message % 8) 0 ++ length message % 256 ∷ [] in
    let last = filled (length message) (drop (count * 8) message) (simp length-drop (omega arith)) in
    ap (map number) (ap (λ n. first_chunks 8 n (message ++ end)) (add-one count) ∙ chunks_past count message end (omega arith))
    ∙ rw (map-append number (first_chunks 8 count message), last, words_read count message (omega arith))

-- the tag, as the code computes it
pub tag_split : (key message : List ℕ) → siphash_2_4 key message
    ≡ finished (absorbed (fold absorbed (initial key) (map (from_le_bytes w64) (first_chunks 8 (length message / 8) message))) (number (drop (length message / 8 * 8) message) + length message % 256 * 2 ^ 56))
unfolding siphash_2_4
tag_split key message = rw (words_split message, fold-append)
