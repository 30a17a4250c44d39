-- What may stand behind a command's word, in the terms of `clap`.
use Rattle.std.specs.Prelude.{ℕ, Bool, true, false, List, [], ◌∷◌, Option, Some, None, codes, if◌then◌else◌}
use Rattle.clap.specs.Lexer.{usize_max}
use Rattle.clap.specs.Words.{App, Kinds, Row, Rule, fault_of, matches_of, new_app, new_rule, with_rule}
use Rattle.clap.specs.declared.builder.action.ArgAction.TheVariants.{Set, Append}

-- an option `--advertise TEXT`, at most once
abbrev pub advertise : Rule
advertise = record (new_rule (codes "advertise")) { long = Some (codes "advertise"); action = Some Set }

-- words that are no options, at least one
abbrev pub topics : Rule
topics = record (new_rule (codes "topics")) {
  action = Some Append;
  range = Some (record { start_inclusive = 1; end_inclusive = usize_max });
  required = true;
}

-- a command without a program's name before it, without help and without a version
abbrev pub bare : App → App
bare app = record app { top = record app.top { no_binary_name = true; disable_help_flag = true; disable_version_flag = true } }

-- what may stand behind `session`
abbrev pub session_app : App
session_app = with_rule (with_rule (bare (new_app (codes "session"))) advertise) topics

-- nothing is wrong
abbrev pub is_faultless : Kinds → Bool
is_faultless [] = true
is_faultless (k ∷ ks) = false

-- the values that the words give each option, none where something is wrong with them
abbrev pub rows_in : App → List (List ℕ) → Option (List Row)
rows_in app words = if is_faultless (fault_of app words) then Some (matches_of app words) else None
