-- From what `clap` answers on the words behind `session` to what the words give.
use Rattle.std.proofs.Common.{◌≡◌, ℕ, ◌⊎◌, Bool, true, false, cond, List, [], ◌∷◌, Option, Some, None, codes, refl, sym, ap, subst, inl, inr, ◌∙◌}
use Rattle.clap.specs.Words.{App, Kinds, HasKind, IsAmong, HasMatchesOf, fault_of, found_of, is_simple, is_simple_and_free, kind_of, matches_of, rows_of}
use Rattle.clap.specs.declared.builder.action.ArgAction.{ArgAction}
use Rattle.clap.specs.declared.error.Error.{Error}
use Rattle.clap.specs.declared.error.kind.ErrorKind.TheVariants.{OutOfMemory}
use Rattle.clap.specs.declared.parser.matches.ArgMatches.{ArgMatches}
use Rattle.clap.proofs.OnLiterals.{clap_on_literals}
use Rattle.command_words.specs.Apps.{is_faultless, rows_in, session_app}

is_free : is_simple_and_free session_app ≡ true
unfolding clap_on_literals
is_free = refl

is_plain : is_simple session_app ≡ true
unfolding clap_on_literals
is_plain = refl

faulty : (kinds : Kinds) (e : Error) → HasKind kinds e → (kind_of e ≡ OutOfMemory → ⊥) → is_faultless kinds ≡ false
faulty [] e (inl full) has_room = absurd (has_room full)
faulty [] e (inr among) has_room = absurd among
faulty (k ∷ ks) e has has_room = refl

pub refused_rows : (app : App) (words : List (List ℕ)) (e : Error) → app ≡ session_app
    → (is_simple_and_free app ≡ true → HasKind (fault_of app words) e) → (kind_of e ≡ OutOfMemory → ⊥) → None ≡ rows_in session_app words
refused_rows app words e is fails has_room =
    let has : HasKind (fault_of session_app words) e = subst (λ (a : App). HasKind (fault_of a words) e) is (fails (ap is_simple_and_free is ∙ is_free)) in
    sym (ap (λ (b : Bool). cond b (Some (matches_of session_app words)) None) (faulty (fault_of session_app words) e has has_room))

pub taken_rows : (app : App) (words : List (List ℕ)) (m : ArgMatches) → app ≡ session_app
    → (is_simple_and_free app ≡ true → fault_of app words ≡ []) → HasMatchesOf app words m → Some (rows_of (found_of m)) ≡ rows_in session_app words
taken_rows app words m is passes matches =
    let none : fault_of session_app words ≡ [] = subst (λ (a : App). fault_of a words ≡ []) is (passes (ap is_simple_and_free is ∙ is_free)) in
    let rows : rows_of (found_of m) ≡ matches_of session_app words = (matches (ap is_simple is ∙ is_plain)).0 ∙ ap (λ (a : App). matches_of a words) is in
    ap (λ rs. Some rs) rows ∙ sym (ap (λ (kinds : Kinds). cond (is_faultless kinds) (Some (matches_of session_app words)) None) none)
