-- The reply to a question for the topics of a consumer (Confluent REST Proxy API v2, GET /consumers/{group}/instances/{instance}/subscription).
use Rattle.std.specs.Prelude.{ℕ, ◌≡◌, ◌⊎◌, List}
use Rattle.model.specs.state.World.{Key}
use Rattle.model.specs.state.Forms.{Forms}
use Rattle.model.specs.state.Entry.Act.{Subscription}
use Rattle.model.specs.state.Entry.Call.{Of}
use Rattle.model.specs.state.Entry.Reply.{Names}
use Rattle.model.specs.texts.Texts.{response_of}
use Rattle.rest_calls.specs.Responses.{response_in}
use Rattle.rest_codes.specs.declared.response.Reply.{Reply}
use Rattle.rest_codes.specs.declared.response.Reply.TheVariants.{Want}

-- the reply says that a consumer is subscribed to these topics, or that memory was wanting
abbrev pub SaysSubscribed : List (List ℕ) → Reply → Type 0
SaysSubscribed topics said =
    ((advertise : List ℕ) (forms : Forms) (key : Key) → response_in said ≡ response_of advertise forms (Of key Subscription) (Names topics)) ⊎ (said ≡ Want)
