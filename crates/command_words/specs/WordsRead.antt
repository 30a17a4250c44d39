-- What the reader of words returned: the command that they ask for, or that they ask for none.
use Rattle.std.specs.Prelude.{◌≡◌, ⊤, Option, Some, None, Result, Ok, Err}
use Rattle.command_words.specs.declared.words.Command.{Command}
use Rattle.command_words.specs.declared.words.WordNo.{WordNo}
use Rattle.command_words.specs.declared.words.WordNo.TheVariants.{Bad, Want}

-- want of memory says nothing of the words
abbrev pub WordsRead : Result Command WordNo → Option Command → Type 0
WordsRead (Ok command) asked = asked ≡ Some command
WordsRead (Err (Bad text)) asked = asked ≡ None
WordsRead (Err Want) asked = ⊤
