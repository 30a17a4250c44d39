-- The live instances of a shard, each under its group and its name.
use Rattle.std.specs.Prelude.{ℕ, ◌≡◌, bytes_eq, cond, List, String, option_map, Option, Some, None}
use Rattle.std.specs.declared.alloc.Global.{Global}
use Rattle.std.specs.BTreeMap.{BTreeMap, get_by_text}
use Rattle.model.specs.state.World.{Key, is_key, Consumer, IsConsumer}
use Rattle.instance.specs.Views.{Live}

-- the instances of one group, by their names
abbrev pub Names : Type 0
Names = BTreeMap (String Global) Live

-- the groups that have an instance
abbrev pub Groups : Type 0
Groups = BTreeMap (String Global) Names

-- the instance of a name, in a group or in none
abbrev pub named_in : Option Names → List ℕ → Option Live
named_in None name = None
named_in (Some names) name = get_by_text names name

-- the instance under a key
abbrev pub live_under : Groups → Key → Option Live
live_under groups key = named_in (get_by_text groups key.group) key.instance

-- the consumer under a key
abbrev pub consumer_under : Groups → Key → Option Consumer
consumer_under groups key = option_map (λ live. live.consumer) (live_under groups key)

-- each instance stands under its own key
abbrev pub AreKeyed : Groups → Type 0
AreKeyed groups = (key : Key) (live : Live) → live_under groups key ≡ Some live → live.key ≡ key

-- each is a consumer
abbrev pub AreSound : Groups → Type 0
AreSound groups = (key : Key) (c : Consumer) → consumer_under groups key ≡ Some c → IsConsumer c

-- the name now has that instance or none, and each other name what it had
abbrev pub PutsName : Option Names → List ℕ → Option Live → Option Names → Type 0
PutsName old name live new = (other : List ℕ) → named_in new other ≡ cond (bytes_eq name other) live (named_in old other)

-- the key now has that instance or none, and each other key what it had
abbrev pub Puts : Groups → Key → Option Live → Groups → Type 0
Puts old key live new = (other : Key) → live_under new other ≡ cond (is_key key other) live (live_under old other)

-- every key has what it had
abbrev pub AreSame : Groups → Groups → Type 0
AreSame old new = (key : Key) → live_under new key ≡ live_under old key
