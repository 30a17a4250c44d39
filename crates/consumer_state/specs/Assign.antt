-- What a call on a live consumer owes, over a link (Confluent REST Proxy API v2, consumers).
use Rattle.std.specs.Prelude.{ℕ, ◌≡◌, ◌⊎◌, List, All, Option, Some, None}
use Rattle.model.specs.state.Log.{Log, IsLog}
use Rattle.model.specs.state.World.{Key, Consumer}
use Rattle.model.specs.step.Fixed.{HasPart}
use Rattle.model.specs.state.Entry.{Act, Event, Reply}
use Rattle.model.specs.state.Entry.Call.{Of}
use Rattle.model.specs.texts.Texts.{Response}
use Rattle.model.specs.history.Legal as legal
use Rattle.model.specs.history.Noted.{Acted, said_of}
use Rattle.broker_link.specs.Causes.{Counts}
use Rattle.rest_replies.specs.Forms.{forms, shown}
use Rattle.broker_link.specs.Replies.{IsCountedIf, IsGoodIf}

-- the counts that a history owes to
abbrev pub totals : Counts → legal.Counts
totals c = record { faults = c.faults; refusals = c.refusals; polls = c.polls; beats = c.beats }

-- the topics have each partition of the consumer
abbrev pub AreThere : Log → Consumer → Type 0
AreThere log c = All (λ place. HasPart log place.at) c.assignment

-- The call's reply has its cause in the link's counts. Where the log is told, the call does what the model says;
-- over a plain link that has the consumer's partitions no reply is a failure of the link.
pub record ActsSo (advertise : List ℕ) (key : Key) (now round : ℕ) (act : Act) (tells plain : Type 0) (before after : Counts) (c : Consumer) (a : Log) (events : List (Key ⊎ Event)) (said : Option Response) (b : Log) (c2 : Consumer) : Type 0 where
  pub reply : Option Reply
  pub says : said ≡ said_of advertise forms (Some (Of key act)) reply
  pub counted : IsCountedIf before after reply
  pub acted : tells → IsLog a → (table : List (List ℕ)) → (x : Acted advertise shown table key now round act (totals before) (totals after) None None c a events said b c2) × (x.reply ≡ reply)
  pub there : tells → IsLog a → AreThere a c → AreThere b c2
  pub good : plain → tells → IsLog a → AreThere a c → IsGoodIf reply
