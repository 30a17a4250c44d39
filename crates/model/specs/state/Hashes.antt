-- Hashes: murmur2 as Apache Kafka's default partitioner takes it, and FNV-1a of 64 bits (the FNV page of Fowler, Noll and Vo).
use Rattle.std.specs.Prelude.{ℕ, ◌+◌, ◌*◌, ◌/◌, ◌%◌, ◌^◌, bit_xor, List, [], ◌∷◌, length, Option, Some, None}

-- a product modulo 2^32
abbrev pub times : ℕ → ℕ → ℕ
times x y = (x * y) % 4294967296

-- exclusive-or with itself shifted right by 24, and then times 5bd1e995 (hex)
abbrev pub stirred : ℕ → ℕ
stirred k = times (bit_xor k (k / 16777216)) 1540483477

-- what four bytes bring to the hash
abbrev pub mixed : ℕ → ℕ
mixed k = stirred (times k 1540483477)

-- the hash over the bytes: each four of them as a little-endian number, and then the one to three that are left
abbrev pub murmur_on : ℕ → List ℕ → ℕ
murmur_on h [] = h
murmur_on h (a ∷ []) = times (bit_xor h a) 1540483477
murmur_on h (a ∷ b ∷ []) = times (bit_xor (bit_xor h (256 * b)) a) 1540483477
murmur_on h (a ∷ b ∷ c ∷ []) = times (bit_xor (bit_xor (bit_xor h (65536 * c)) (256 * b)) a) 1540483477
murmur_on h (a ∷ b ∷ c ∷ d ∷ rest) = murmur_on (bit_xor (times h 1540483477) (mixed (a + 256 * b + 65536 * c + 16777216 * d))) rest

-- exclusive-or with itself shifted right by 15
abbrev pub ended : ℕ → ℕ
ended h = bit_xor h (h / 32768)

-- the last stirring
abbrev pub murmur_end : ℕ → ℕ
murmur_end h = ended (times (bit_xor h (h / 8192)) 1540483477)

-- murmur2 of the bytes, from the seed 9747b28c (hex) exclusive-or their number
abbrev pub murmur2 : List ℕ → ℕ
murmur2 key = murmur_end (murmur_on (bit_xor 2538058380 (length key % 4294967296)) key)

-- the partition of a record that names none, among n: by its key's hash without the sign bit, else by its index in the request
abbrev pub partition_of : Option (List ℕ) → (index n : ℕ) → ℕ
partition_of None index n = index % n
partition_of (Some key) index n = (murmur2 key % 2147483648) % n

-- FNV-1a over the bytes: each is put in by exclusive-or, and then times 100000001b3 (hex) modulo 2^64
abbrev pub fnv_on : ℕ → List ℕ → ℕ
fnv_on hash [] = hash
fnv_on hash (byte ∷ bytes) = fnv_on ((bit_xor hash byte * 1099511628211) % 2 ^ 64) bytes

-- from the start cbf29ce484222325 (hex)
abbrev pub fnv1a : List ℕ → ℕ
fnv1a bytes = fnv_on 14695981039346656037 bytes

-- the one of the 16 shards that has the key with these bytes
abbrev pub shard_of : List ℕ → ℕ
shard_of bytes = fnv1a bytes % 16
