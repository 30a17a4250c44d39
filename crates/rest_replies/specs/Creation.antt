-- The reply to a Create, and its text as it is put together (Confluent REST Proxy API v2, consumers).
use Rattle.std.specs.Prelude.{ℕ, ◌≡◌, ◌⊎◌, ◌++◌, codes, List}
use Rattle.model.specs.state.World.{Key, Settings}
use Rattle.model.specs.state.Forms.{Forms}
use Rattle.model.specs.state.Entry.Act.{Create}
use Rattle.model.specs.state.Entry.Call.{Of}
use Rattle.model.specs.state.Entry.Reply.{Made}
use Rattle.model.specs.texts.Texts.{response_of}
use Rattle.rest_calls.specs.Responses.{response_in}
use Rattle.rest_codes.specs.declared.response.Reply.{Reply}
use Rattle.rest_codes.specs.declared.response.Reply.TheVariants.{Want}

-- where an instance is found, by the names as they stand in a path
unfoldable pub uri_text : (advertise group name : List ℕ) → List ℕ
uri_text advertise group name = codes "http://" ++ (advertise ++ (codes "/consumers/" ++ (group ++ (codes "/instances/" ++ name))))

-- the id of an instance and where it is found, as JSON strings
unfoldable pub created_text : (id place : List ℕ) → List ℕ
created_text id place = codes "{\"instance_id\":" ++ (id ++ (codes ",\"base_uri\":" ++ (place ++ codes "}")))

-- the reply says where the new instance is found, or that memory was wanting
abbrev pub SaysMade : List ℕ → Key → Reply → Type 0
SaysMade advertise key said =
    ((forms : Forms) (settings : Settings) → response_in said ≡ response_of advertise forms (Of key (Create settings)) Made) ⊎ (said ≡ Want)
