-- Numbers and their bytes.
use Rattle.std.proofs.Common.{◌≡◌, ℕ, zero, suc, ◌+◌, ◌*◌, ◌/◌, ◌%◌, ◌^◌, ◌<◌, ◌≤◌, List, [], ◌∷◌, length, get_or, take, drop, reverse, bit_or, sym, refl, ap, ◌∙◌, pow-suc, arith, w8, Fits}
use native.Mathlib.Nat.{div-div-eq-div-mul, one-le-pow}
use Rattle.std.specs.List.{fold}
use Rattle.std.proofs.lemmas.Nat.{div_below, or_shifted}
use Rattle.std.proofs.lemmas.List.{length-take, length-take-le, reverse-append}
use Rattle.std.proofs.lemmas.List.Elements.{All-from_recursion, recursion_from_All, All-from_get_or, All-take, All-drop}
use Rattle.std.proofs.lemmas.List.Sums.{fold-append}
use Rattle.little_endian.specs.Bytes.{Octets, little, number}

-- the bytes that the code takes a number apart into
pub little_eight : (n : ℕ) → n % 256 ∷ n / 256 % 256 ∷ n / 65536 % 256 ∷ n / 16777216 % 256 ∷ n / 4294967296 % 256 ∷ n / 1099511627776 % 256 ∷ n / 281474976710656 % 256 ∷ n / 72057594037927936 % 256 ∷ [] ≡ little 8 n
little_eight n = simp div-div-eq-div-mul

-- a number that fits k bytes is what they write
pub number-little : (k n : ℕ) → n < 256 ^ k → number (little k n) ≡ n
number-little zero n h = omega arith
number-little (suc k) n h =
    let below : n / 256 < 256 ^ k = div_below n 256 (256 ^ k) (omega arith) (rw pow-suc at h) in
    omega (arith, number-little k (n / 256) below)

-- bytes are those of the number that they write
pub little-number : (bs : List ℕ) → Octets bs → little (length bs) (number bs) ≡ bs
little-number [] o = refl
little-number (b ∷ bs) (h, o) =
    let low : (b + 256 * number bs) % 256 ≡ b = omega arith in
    let high : (b + 256 * number bs) / 256 ≡ number bs = omega arith in
    (λ i. low i ∷ little (length bs) (high i)) ∙ ap (λ cs. b ∷ cs) (little-number bs o)

-- one number is a byte
abbrev IsByte : ℕ → Type 0
IsByte b = b < 256

-- what a slice of bytes holds
pub octets : (bs : List ℕ) → ((i : ℕ) → Fits w8 (get_or bs i 0)) → Octets bs
octets bs fits = recursion_from_All IsByte bs (All-from_get_or IsByte bs 0 (λ i _. (fits i).fits))

pub Octets-take : (k : ℕ) (bs : List ℕ) → Octets bs → Octets (take k bs)
Octets-take k bs o = recursion_from_All IsByte (take k bs) (All-take IsByte k bs (All-from_recursion IsByte bs o))

pub Octets-drop : (k : ℕ) (bs : List ℕ) → Octets bs → Octets (drop k bs)
Octets-drop k bs o = recursion_from_All IsByte (drop k bs) (All-drop IsByte k bs (All-from_recursion IsByte bs o))

-- the first k bytes are those of the number that they write
pub little_first : (k : ℕ) (bs : List ℕ) → k ≤ length bs → Octets bs → little k (number (take k bs)) ≡ take k bs
little_first k bs h o = ap (λ n. little n (number (take k bs))) (sym (length-take-le k bs h)) ∙ little-number (take k bs) (Octets-take k bs o)

-- at most k bytes write a number below 256 ^ k
pub number_below : (k : ℕ) (bs : List ℕ) → length bs ≤ k → Octets bs → number bs < 256 ^ k
number_below k [] h o = one-le-pow k 256 (omega arith)
number_below zero (b ∷ bs) h o = absurd (omega arith)
number_below (suc k) (b ∷ bs) h (low, o) = let more = pow-suc 256 k in let below = number_below k bs (omega arith) o in omega arith

-- the first k of them
pub first_below : (k : ℕ) (bs : List ℕ) → Octets bs → number (take k bs) < 256 ^ k
first_below k bs o = number_below k (take k bs) (simp length-take (omega arith)) (Octets-take k bs o)

pub octet_at : (bs : List ℕ) (i : ℕ) → i < length bs → Octets bs → get_or bs i 0 < 256
octet_at bs i h o = All-from_recursion IsByte bs o i 0 h

-- a byte below those that were read
abbrev turn : ℕ → ℕ → ℕ
turn high byte = bit_or (high * 2 ^ 8 % 2 ^ 64) byte

turns : (bytes : List ℕ) → length bytes ≤ 8 → Octets bytes → fold turn 0 (reverse bytes) ≡ number bytes
turns [] few o = refl
turns (byte ∷ bytes) few (low, o) =
    let room : number bytes < 256 ^ 7 = number_below 7 bytes (omega arith) o in
    let high : fold turn 0 (reverse bytes) * 2 ^ 8 % 2 ^ 64 ≡ number bytes * 2 ^ 8 = omega (arith, turns bytes (omega arith) o) in
    rw (reverse-append (byte ∷ []) bytes, fold-append, high) (omega (arith, or_shifted (number bytes) 8 byte low))

-- fewer than eight bytes, the last one first
pub number_turns : (bytes : List ℕ) → length bytes < 8 → ((i : ℕ) → Fits w8 (get_or bytes i 0)) → number bytes ≡ fold turn 0 (reverse bytes)
number_turns bytes few fits = sym (turns bytes (omega arith) (octets bytes fits))
