-- The key of a consumer's call: its group and the name of its instance.
use Rattle.std.specs.Prelude.{ℕ, List, []}
use Rattle.model.specs.state.World.{Key}
use Rattle.model.specs.state.Entry.{Call}
use Rattle.model.specs.state.Entry.Call.{Of}
use Rattle.rest_calls.specs.Views.{key_in}

-- the group of a consumer's call
abbrev pub group_in : Call → List ℕ
group_in (Of key act) = key.group
group_in _ = []

-- the instance of a consumer's call
abbrev pub name_in_call : Call → List ℕ
name_in_call (Of key act) = key.instance
name_in_call _ = []

-- the key of a consumer's call
abbrev pub consumer_key : Call → Key
consumer_key call = key_in (group_in call) (name_in_call call)
