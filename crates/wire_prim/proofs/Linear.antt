-- A step of the checksum is linear over `bit_xor`, so the parts of eight bytes may be looked up apart.
use Rattle.std.proofs.Common.{◌≡◌, ◌⊎◌, ℕ, zero, suc, ◌+◌, ◌*◌, ◌/◌, ◌%◌, ◌^◌, ◌<◌, refl, sym, ap, ◌∙◌, inl, inr, arith, pow-suc, mul_comm, subst, List, [], ◌∷◌, length, fold}
use Rattle.std.proofs.Math.Nat.{mul_assoc}
use Rattle.std.specs.Int.{w32, from_le_bytes}
use Rattle.std.specs.Int.Bits.{bit_xor, xor_assoc, xor_self, xor_zero_l, xor_zero_r}
use Rattle.std.proofs.lemmas.Nat.{xor_comm, xor_shr, xor_mod, xor_block, shr-shr}
use Rattle.std.proofs.lemmas.Bool.{cases_lt}
use Rattle.wire_prim.specs.Crc.{bit_step, steps, byte_step, zero_bytes, polynomial}

bit_step-even : (a : ℕ) → a % 2 ≡ 0 → bit_step a ≡ a / 2
unfolding bit_step
bit_step-even a even = rw even refl

bit_step-odd : (a : ℕ) → a % 2 ≡ 1 → bit_step a ≡ bit_xor (a / 2) polynomial
unfolding bit_step
bit_step-odd a odd = rw odd refl

parity : (a : ℕ) → (a % 2 ≡ 0) ⊎ (a % 2 ≡ 1)
parity a = elim (cases_lt (a % 2) 1) [
  | inl low ↦ inl (omega arith)
  | inr high ↦ inr (omega arith)
]

-- the two middle terms of a sum of four change places
middle : (a b c d : ℕ) → bit_xor (bit_xor a b) (bit_xor c d) ≡ bit_xor (bit_xor a c) (bit_xor b d)
middle a b c d =
    xor_assoc a b (bit_xor c d) ∙ ap (bit_xor a) (sym (xor_assoc b c d) ∙ ap (λ z. bit_xor z d) (xor_comm b c) ∙ xor_assoc c b d) ∙ sym (xor_assoc a c (bit_xor b d))

half : (a b : ℕ) → bit_xor a b / 2 ≡ bit_xor (a / 2) (b / 2)
half a b = xor_shr a b 1

pub bit_step-xor : (a b : ℕ) → bit_step (bit_xor a b) ≡ bit_xor (bit_step a) (bit_step b)
bit_step-xor a b =
    elim (parity a) [
      | inl even ↦
          elim (parity b) [
            | inl even' ↦ bit_step-even _ (xor_mod a b 1 ∙ rw (even, even') refl) ∙ half a b ∙ rw (bit_step-even a even, bit_step-even b even') refl
            | inr odd' ↦
                bit_step-odd _ (xor_mod a b 1 ∙ rw (even, odd') refl) ∙ ap (λ z. bit_xor z polynomial) (half a b) ∙ xor_assoc (a / 2) (b / 2) polynomial
                ∙ rw (bit_step-even a even, bit_step-odd b odd') refl
          ]
      | inr odd ↦
          elim (parity b) [
            | inl even' ↦
                bit_step-odd _ (xor_mod a b 1 ∙ rw (odd, even') refl) ∙ ap (λ z. bit_xor z polynomial) (half a b ∙ xor_comm (a / 2) (b / 2)) ∙ xor_assoc (b / 2) (a / 2) polynomial
                ∙ xor_comm (b / 2) (bit_xor (a / 2) polynomial) ∙ rw (bit_step-odd a odd, bit_step-even b even') refl
            | inr odd' ↦
                bit_step-even _ (xor_mod a b 1 ∙ rw (odd, odd') refl) ∙ half a b ∙ sym (xor_zero_r (bit_xor (a / 2) (b / 2)))
                ∙ ap (bit_xor (bit_xor (a / 2) (b / 2))) (sym (xor_self polynomial)) ∙ middle (a / 2) (b / 2) polynomial polynomial
                ∙ rw (bit_step-odd a odd, bit_step-odd b odd') refl
          ]
    ]

pub steps-xor : (k a b : ℕ) → steps k (bit_xor a b) ≡ bit_xor (steps k a) (steps k b)
unfolding steps
steps-xor zero a b = refl
steps-xor (suc k) a b = ap (steps k) (bit_step-xor a b) ∙ steps-xor k (bit_step a) (bit_step b)

steps-shifted : (k a : ℕ) → steps k (a * 2 ^ k) ≡ a
unfolding steps
steps-shifted zero a = omega arith
steps-shifted (suc k) a =
    let twice : a * 2 ^ suc k ≡ 2 * (a * 2 ^ k) = ap (λ z. a * z) (pow-suc 2 k) ∙ sym (mul_assoc a (2 ^ k) 2) ∙ mul_comm (a * 2 ^ k) 2 in
    let even : (a * 2 ^ suc k) % 2 ≡ 0 = omega (arith, twice) in
    let halved : a * 2 ^ suc k / 2 ≡ a * 2 ^ k = omega (arith, twice) in
    ap (steps k) (bit_step-even _ even ∙ halved) ∙ steps-shifted k a

-- only the low bits choose what is added to the high ones
pub steps-split : (a low : ℕ) → low < 2 ^ 8 → steps 8 (a * 2 ^ 8 + low) ≡ bit_xor a (steps 8 low)
steps-split a low small =
    let no_low : a * 2 ^ 8 + 0 ≡ a * 2 ^ 8 = omega arith in
    let no_high : 0 * 2 ^ 8 + low ≡ low = omega arith in
    let blocks = xor_block 8 a 0 0 low (omega arith) small in
    let apart : a * 2 ^ 8 + low ≡ bit_xor (a * 2 ^ 8) low =
    sym (ap (λ z. bit_xor z low) (sym no_low) ∙ ap (bit_xor (a * 2 ^ 8 + 0)) (sym no_high) ∙ blocks
    ∙ ap (λ z. z * 2 ^ 8 + bit_xor 0 low) (xor_zero_r a) ∙ ap (λ z. a * 2 ^ 8 + z) (xor_zero_l low)) in
    ap (steps 8) apart ∙ steps-xor 8 (a * 2 ^ 8) low ∙ ap (λ z. bit_xor z (steps 8 low)) (steps-shifted 8 a)

-- a byte stands above the bits that it changes
div_small : (byte : ℕ) → byte < 2 ^ 8 → byte / 2 ^ 8 ≡ 0
div_small byte small = omega arith

-- the look-up of a byte's part
pub byte_step-looked_up : (crc byte part : ℕ) → byte < 2 ^ 8 → part ≡ steps 8 (bit_xor (crc % 2 ^ 8) byte) → bit_xor (crc / 2 ^ 8) part ≡ byte_step crc byte
byte_step-looked_up crc byte part small is =
    let x = bit_xor crc byte in
    let high : x / 2 ^ 8 ≡ crc / 2 ^ 8 = xor_shr crc byte 8 ∙ ap (bit_xor (crc / 2 ^ 8)) (div_small byte small) ∙ xor_zero_r (crc / 2 ^ 8) in
    let kept : byte % 2 ^ 8 ≡ byte = omega arith in
    let low : x % 2 ^ 8 ≡ bit_xor (crc % 2 ^ 8) byte = xor_mod crc byte 8 ∙ ap (bit_xor (crc % 2 ^ 8)) kept in
    let whole : x ≡ x / 2 ^ 8 * 2 ^ 8 + x % 2 ^ 8 = omega arith in
    sym (ap (steps 8) whole ∙ steps-split (x / 2 ^ 8) (x % 2 ^ 8) (omega arith) ∙ rw (high, low) (ap (bit_xor (crc / 2 ^ 8)) (sym is)))

pub zero_bytes-xor : (n a b : ℕ) → zero_bytes n (bit_xor a b) ≡ bit_xor (zero_bytes n a) (zero_bytes n b)
unfolding zero_bytes
zero_bytes-xor zero a b = refl
zero_bytes-xor (suc n) a b = ap (zero_bytes n) (steps-xor 8 a b) ∙ zero_bytes-xor n (steps 8 a) (steps 8 b)

-- the lowest byte goes out, and the others move down
zero_bytes-split : (n a low : ℕ) → low < 2 ^ 8 → zero_bytes (suc n) (a * 2 ^ 8 + low) ≡ bit_xor (zero_bytes (suc n) low) (zero_bytes n a)
unfolding zero_bytes
zero_bytes-split n a low small =
    ap (zero_bytes n) (steps-split a low small) ∙ zero_bytes-xor n a (steps 8 low) ∙ xor_comm (zero_bytes n a) (zero_bytes n (steps 8 low))

zero_bytes-first : (n crc : ℕ) → zero_bytes (suc n) crc ≡ bit_xor (zero_bytes (suc n) (crc % 2 ^ 8)) (zero_bytes n (crc / 2 ^ 8))
zero_bytes-first n crc =
    let whole : crc ≡ crc / 2 ^ 8 * 2 ^ 8 + crc % 2 ^ 8 = omega arith in
    ap (zero_bytes (suc n)) whole ∙ zero_bytes-split n (crc / 2 ^ 8) (crc % 2 ^ 8) (omega arith)

-- where the bytes begin only adds to what they do alone
fold-from : (bytes : List ℕ) (crc : ℕ) → fold byte_step crc bytes ≡ bit_xor (zero_bytes (length bytes) crc) (fold byte_step 0 bytes)
unfolding zero_bytes
fold-from [] crc = sym (xor_zero_r crc)
fold-from (byte ∷ bytes) crc =
    let n = length bytes in
    fold-from bytes (byte_step crc byte) ∙ ap (λ z. bit_xor (zero_bytes n z) (fold byte_step 0 bytes)) (steps-xor 8 crc byte)
    ∙ ap (λ z. bit_xor z (fold byte_step 0 bytes)) (zero_bytes-xor n (steps 8 crc) (steps 8 byte))
    ∙ xor_assoc (zero_bytes n (steps 8 crc)) (zero_bytes n (steps 8 byte)) (fold byte_step 0 bytes)
    ∙ ap (bit_xor (zero_bytes n (steps 8 crc))) (sym (fold-from bytes (byte_step 0 byte) ∙ ap (λ z. bit_xor (zero_bytes n (steps 8 z)) (fold byte_step 0 bytes)) (xor_zero_l byte)))

-- a byte alone, before others
fold-first : (byte : ℕ) (bytes : List ℕ) → fold byte_step 0 (byte ∷ bytes) ≡ bit_xor (zero_bytes (suc (length bytes)) byte) (fold byte_step 0 bytes)
unfolding zero_bytes
fold-first byte bytes = fold-from bytes (byte_step 0 byte) ∙ ap (λ z. bit_xor (zero_bytes (length bytes) (steps 8 z)) (fold byte_step 0 bytes)) (xor_zero_l byte)

-- a byte of the sum so far meets a byte of the bytes
meets : (n crc byte rest : ℕ) (bytes : List ℕ) → length bytes ≡ n → rest ≡ bit_xor (zero_bytes n (crc / 2 ^ 8)) (fold byte_step 0 bytes)
    → bit_xor (zero_bytes (suc n) crc) (fold byte_step 0 (byte ∷ bytes)) ≡ bit_xor (zero_bytes (suc n) (bit_xor (crc % 2 ^ 8) byte)) rest
meets n crc byte rest bytes size is =
    let first : fold byte_step 0 (byte ∷ bytes) ≡ bit_xor (zero_bytes (suc n) byte) (fold byte_step 0 bytes) = subst (λ k. fold byte_step 0 (byte ∷ bytes) ≡ bit_xor (zero_bytes (suc k) byte) (fold byte_step 0 bytes)) size (fold-first byte bytes) in
    ap (λ z. bit_xor z (fold byte_step 0 (byte ∷ bytes))) (zero_bytes-first n crc)
    ∙ ap (bit_xor (bit_xor (zero_bytes (suc n) (crc % 2 ^ 8)) (zero_bytes n (crc / 2 ^ 8)))) first
    ∙ middle (zero_bytes (suc n) (crc % 2 ^ 8)) (zero_bytes n (crc / 2 ^ 8)) (zero_bytes (suc n) byte) (fold byte_step 0 bytes)
    ∙ ap (λ z. bit_xor z (bit_xor (zero_bytes n (crc / 2 ^ 8)) (fold byte_step 0 bytes))) (sym (zero_bytes-xor (suc n) (crc % 2 ^ 8) byte))
    ∙ ap (bit_xor (zero_bytes (suc n) (bit_xor (crc % 2 ^ 8) byte))) (sym is)

zero_bytes-zero : (n : ℕ) → zero_bytes n 0 ≡ 0
unfolding zero_bytes steps bit_step
zero_bytes-zero zero = refl
zero_bytes-zero (suc n) = zero_bytes-zero n

-- eight bytes at once
pub fold-eight : (crc a b c d e f g h : ℕ) → crc < 2 ^ 32
    → bit_xor (zero_bytes 8 (bit_xor (crc % 2 ^ 8) a)) (bit_xor (zero_bytes 7 (bit_xor (crc / 2 ^ 8 % 2 ^ 8) b)) (bit_xor (zero_bytes 6 (bit_xor (crc / 2 ^ 16 % 2 ^ 8) c))
    (bit_xor (zero_bytes 5 (bit_xor (crc / 2 ^ 24 % 2 ^ 8) d)) (bit_xor (zero_bytes 4 e) (bit_xor (zero_bytes 3 f) (bit_xor (zero_bytes 2 g) (zero_bytes 1 h)))))))
    ≡ fold byte_step crc (a ∷ b ∷ c ∷ d ∷ e ∷ f ∷ g ∷ h ∷ [])
fold-eight crc a b c d e f g h small =
    let last : zero_bytes 1 h ≡ fold byte_step 0 (h ∷ []) = sym (fold-first h [] ∙ xor_zero_r (zero_bytes 1 h)) in
    let tail = sym (fold-first e (f ∷ g ∷ h ∷ []) ∙ ap (bit_xor (zero_bytes 4 e)) (fold-first f (g ∷ h ∷ []) ∙ ap (bit_xor (zero_bytes 3 f)) (fold-first g (h ∷ []) ∙ ap (bit_xor (zero_bytes 2 g)) (sym last)))) in
    let none : crc / 2 ^ 24 / 2 ^ 8 ≡ 0 = omega arith in
    let empty : zero_bytes 4 (crc / 2 ^ 24 / 2 ^ 8) ≡ 0 = ap (zero_bytes 4) none ∙ zero_bytes-zero 4 in
    let fourth = meets 4 (crc / 2 ^ 24) d _ (e ∷ f ∷ g ∷ h ∷ []) refl (tail ∙ sym (ap (λ z. bit_xor z (fold byte_step 0 (e ∷ f ∷ g ∷ h ∷ []))) empty ∙ xor_zero_l (fold byte_step 0 (e ∷ f ∷ g ∷ h ∷ [])))) in
    let third = meets 5 (crc / 2 ^ 16) c _ (d ∷ e ∷ f ∷ g ∷ h ∷ []) refl (sym fourth ∙ ap (λ z. bit_xor (zero_bytes 5 z) (fold byte_step 0 (d ∷ e ∷ f ∷ g ∷ h ∷ []))) (sym (shr-shr crc 16 8))) in
    let second = meets 6 (crc / 2 ^ 8) b _ (c ∷ d ∷ e ∷ f ∷ g ∷ h ∷ []) refl (sym third ∙ ap (λ z. bit_xor (zero_bytes 6 z) (fold byte_step 0 (c ∷ d ∷ e ∷ f ∷ g ∷ h ∷ []))) (sym (shr-shr crc 8 8))) in
    let first = meets 7 crc a _ (b ∷ c ∷ d ∷ e ∷ f ∷ g ∷ h ∷ []) refl (sym second) in
    sym first ∙ sym (fold-from (a ∷ b ∷ c ∷ d ∷ e ∷ f ∷ g ∷ h ∷ []) crc)

-- a byte of the sum so far and of a word
byte_of : (crc word k byte : ℕ) → word / 2 ^ k % 2 ^ 8 ≡ byte → bit_xor crc word / 2 ^ k % 2 ^ 8 ≡ bit_xor (crc / 2 ^ k % 2 ^ 8) byte
byte_of crc word k byte is =
    ap (λ z. z % 2 ^ 8) (xor_shr crc word k) ∙ xor_mod (crc / 2 ^ k) (word / 2 ^ k) 8 ∙ ap (bit_xor (crc / 2 ^ k % 2 ^ 8)) is

-- eight bytes at once, the first four as one word
pub fold-word : (crc low a b c d e f g h : ℕ) → crc < 2 ^ 32 → a < 2 ^ 8 → b < 2 ^ 8 → c < 2 ^ 8 → d < 2 ^ 8
    → low ≡ bit_xor crc (from_le_bytes w32 (a ∷ b ∷ c ∷ d ∷ []))
    → bit_xor (zero_bytes 8 (low % 2 ^ 8)) (bit_xor (zero_bytes 7 (low / 2 ^ 8 % 2 ^ 8)) (bit_xor (zero_bytes 6 (low / 2 ^ 16 % 2 ^ 8))
    (bit_xor (zero_bytes 5 (low / 2 ^ 24 % 2 ^ 8)) (bit_xor (zero_bytes 4 e) (bit_xor (zero_bytes 3 f) (bit_xor (zero_bytes 2 g) (zero_bytes 1 h)))))))
    ≡ fold byte_step crc (a ∷ b ∷ c ∷ d ∷ e ∷ f ∷ g ∷ h ∷ [])
fold-word crc low a b c d e f g h small a_fits b_fits c_fits d_fits is =
    let word = from_le_bytes w32 (a ∷ b ∷ c ∷ d ∷ []) in
    let first : low % 2 ^ 8 ≡ bit_xor (crc % 2 ^ 8) a = ap (λ z. z % 2 ^ 8) is ∙ xor_mod crc word 8 ∙ ap (bit_xor (crc % 2 ^ 8)) (omega arith) in
    let second = ap (λ z. z / 2 ^ 8 % 2 ^ 8) is ∙ byte_of crc word 8 b (omega arith) in
    let third = ap (λ z. z / 2 ^ 16 % 2 ^ 8) is ∙ byte_of crc word 16 c (omega arith) in
    let fourth = ap (λ z. z / 2 ^ 24 % 2 ^ 8) is ∙ byte_of crc word 24 d (omega arith) in
    rw (first, second, third, fourth) (fold-eight crc a b c d e f g h small)
