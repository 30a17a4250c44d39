-- The auto commit of a look: Apache Kafka's `enable.auto.commit`, and error codes 22, 25 and 27 of its protocol guide.
use Rattle.std.specs.Prelude.{cond, ℤ, ℕ, pos, ◌||◌, ◌&&◌, ◌==◌, filter, ◌≡◌, ◌≢◌, ◌⊎◌, Bool, true, false, List, [], ◌∷◌, Option, Some, None}
use Rattle.model.specs.state.Log.{Log}
use Rattle.model.specs.step.Walk.{Place}
use Rattle.model.specs.state.World.{Key, Consumer, touched}
use Rattle.model.specs.state.Entry.{Event, Reply, is_zero, IsLinks}
use Rattle.model.specs.state.Entry.Reply.{Broker, Want}
use Rattle.model.specs.step.Fixed.{Commits, CommitsSome, SameCommits}

-- A commit is due at look 0 where an auto commit has something to save.
abbrev pub is_due : Consumer → ℕ → Bool
is_due c round = (round == 0) && (c.settings.auto_commit && c.unsaved)

-- The rows that were committed first, if any were. Where one is due and there is no event, the look was ended by it.
-- A refusal of the whole call by 22, 25 or 27 is passed over: no row is told then, and each was taken or not.
abbrev pub Saves : Key → Consumer → Bool → (Place → ℤ) → Option (List Place) → Log → Log → Type 0
Saves key c due code None a b = ((due ≡ false) × SameCommits a b) ⊎ ((due ≡ true) × CommitsSome key.group c.assignment a b)
Saves key c due code (Some rows) a b =
    (due ≡ true) × ((Commits key.group rows a b × (rows ≡ filter (λ row. is_zero (code row)) c.assignment)) ⊎ ((rows ≡ []) × CommitsSome key.group c.assignment a b))

-- codes that an auto commit passes over
abbrev pub is_passed : ℤ → Bool
is_passed (pos n) = (n == 22) || ((n == 25) || (n == 27))
is_passed _ = false

-- a broker's code that an auto commit passes over
abbrev pub is_passed_reply : Reply → Bool
is_passed_reply (Broker code) = is_passed code
is_passed_reply _ = false

-- the first code of a row that is answered
abbrev pub first_other : (Place → ℤ) → List Place → Option ℤ
first_other code [] = None
first_other code (row ∷ rows) = cond (is_zero (code row) || is_passed (code row)) (first_other code rows) (Some (code row))

-- no event of the look told a commit that was due: nothing but that commit came of the look
pub record IsUnsaved (moment : ℕ) (c : Consumer) (events : List Event) (reply : Option Reply) (c2 : Option Consumer) : Type 0 where
  pub none : events ≡ []
  pub why : Reply
  pub links : IsLinks why
  pub cause : (why ≡ Want) ⊎ (c.assignment ≢ [])
  pub other : is_passed_reply why ≡ false
  pub says : reply ≡ Some why
  pub left : c2 ≡ Some (touched moment c)
