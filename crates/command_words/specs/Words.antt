-- The words of a command line, `session [--advertise TEXT] TOPIC:PARTS ..`: this project's own commands. What is an option, its value
-- or neither is judged by the rules of `clap`.
use Rattle.std.specs.Prelude.{ℕ, Bool, List, [], ◌∷◌, length, Option, Some, None, option_map, option_and_then, unwrap_or, if◌then◌else◌, nat_lt, codes}
use Rattle.std.specs.List.{list_any}
use Rattle.std.specs.Str.{bytes_eq}
use Rattle.clap.specs.Words.{Row, all_of, first_of}
use Rattle.command_words.specs.Apps.{rows_in, session_app}
use Rattle.command_words.specs.Topics.{topics_in}
use Rattle.command_words.specs.declared.words.Command.{Command}
use Rattle.command_words.specs.declared.words.Command.TheVariants.{Session}

-- a dash and nothing else, which is neither an option nor a value
abbrev pub is_dash : List ℕ → Bool
is_dash word = bytes_eq word (codes "-")

-- the advertised name: that of the option, or the usual one
abbrev pub advertised_in : List Row → List ℕ
advertised_in rows = unwrap_or (first_of (codes "advertise") rows) (codes "localhost:8082")

-- a session with this advertised name and these topics, its schemas in memory
abbrev pub session_with : List ℕ → List (List ℕ × ℕ) → Command
session_with advertise topics = Session (record { schemas = None; advertise = advertise; topics = topics })

-- the session that the values of the words give: an advertised name that isn't empty, and topics
unfoldable pub session_in : List Row → Option Command
session_in rows =
    if nat_lt 0 (length (advertised_in rows))
    then option_map (session_with (advertised_in rows)) (option_and_then topics_in (all_of (codes "topics") rows)) else None

-- the session that words ask for
unfoldable pub session_of : List (List ℕ) → Option Command
session_of words =
    if list_any is_dash words then None else option_and_then session_in (rows_in session_app words)

-- the command that the words ask for
unfoldable pub words_of : List (List ℕ) → Option Command
words_of [] = None
words_of (command ∷ words) = if bytes_eq command (codes "session") then session_of words else None

-- the topics of a command
abbrev pub plans_of : Command → List (List ℕ × ℕ)
plans_of (Session words) = words.topics

-- the advertised name of a command
abbrev pub advertise_of : Command → List ℕ
advertise_of (Session words) = words.advertise
