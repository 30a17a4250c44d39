-- An embedded format as the model has it (Confluent REST Proxy API v2).
use Rattle.model.specs.state.World.{Format as Shown}
use Rattle.model.specs.state.World.Format.{Binary as AsBinary, Json as AsJson}
use Rattle.forms.specs.declared.format.Format.{Format}
use Rattle.forms.specs.declared.format.Format.TheVariants.{Binary, Json}

abbrev pub format_of : Format → Shown
format_of Binary = AsBinary
format_of Json = AsJson
