-- CRC-32C: RFC 3720, appendix B.4, bits in reflected order.
use Rattle.std.specs.Prelude.{ℕ, zero, suc, ◌/◌, ◌%◌, ◌^◌, ◌-◌, List, fold, ◌==◌, if◌then◌else◌, bit_xor}

-- the polynomial x^32 + x^28 + .. + 1, lowest power in the highest bit
abbrev pub polynomial : ℕ
polynomial = 0x82f6_3b78

-- one bit goes out
unfoldable pub bit_step : ℕ → ℕ
bit_step crc = if crc % 2 == 1 then bit_xor (crc / 2) polynomial else crc / 2

-- so many bits go out
unfoldable pub steps : ℕ → ℕ → ℕ
steps zero crc = crc
steps (suc k) crc = steps k (bit_step crc)

-- one byte goes in
abbrev pub byte_step : ℕ → ℕ → ℕ
byte_step crc byte = steps 8 (bit_xor crc byte)

-- so many zero bytes go in
unfoldable pub zero_bytes : ℕ → ℕ → ℕ
zero_bytes zero crc = crc
zero_bytes (suc n) crc = zero_bytes n (steps 8 crc)

-- the checksum of the bytes
unfoldable pub checksum : List ℕ → ℕ
checksum bytes = bit_xor (fold byte_step (2 ^ 32 - 1) bytes) (2 ^ 32 - 1)
