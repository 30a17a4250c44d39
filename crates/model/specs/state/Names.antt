-- Names of instances, and the id of an unnamed one: Confluent REST Proxy API v2, `name` and `instance_id`.
use Rattle.std.specs.Prelude.{ℕ, ◌≡◌, ◌+◌, ◌-◌, ◌^◌, ◌==◌, ◌&&◌, not, min, Bool, nat_le, codes, decimal, List, ◌++◌, length, IsTrue}
use Rattle.std.specs.List.{list_all}
use Rattle.model.specs.state.World.{Key, key_bytes}

-- 1 to 249 bytes, none below 32 and none 127
abbrev pub is_word : List ℕ → Bool
is_word bytes = nat_le 1 (length bytes) && (nat_le (length bytes) 249 && list_all (λ x. nat_le 32 x && not (x == 127)) bytes)

-- the id of an unnamed instance: the worker's pass, and the count of its unnamed Creates with this one
abbrev pub auto_id : (worker count : ℕ) → List ℕ
auto_id worker count = codes "auto-" ++ decimal worker ++ codes "-" ++ decimal count

-- the count with one more
abbrev pub next_count : ℕ → ℕ
next_count n = min (n + 1) (2 ^ 64 - 1)

-- A key that a request can have: no zero byte, so its bytes tell the group from the instance.
pub record IsKey (key : Key) : Type 0 where
  pub group : IsTrue (is_word key.group)
  pub instance : IsTrue (is_word key.instance)

-- two such keys with the same bytes are one
abbrev pub KeysAreApart : Type 0
KeysAreApart = (j k : Key) → IsKey j → IsKey k → key_bytes j ≡ key_bytes k → j ≡ k
