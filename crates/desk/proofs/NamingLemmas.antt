-- A Create without a name enters with the one that the gateway gives.
use Rattle.std.proofs.Common.{◌≡◌, ℕ, Bool, true, false, cond, List, refl, ap, sym, subst, ◌∙◌}
use Rattle.model.specs.state.World.{Key}
use Rattle.model.specs.state.Entry.{Act, Call}
use Rattle.model.specs.state.Entry.Act.{Create}
use Rattle.model.specs.state.Entry.Call.{Of}
use Rattle.rest_calls.specs.Views.{counted, entered, given_name, is_unnamed, key_in}
use Rattle.rest_calls.specs.Views.{asked_of, PartitionsFit}
use Rattle.rest_calls.specs.declared.call.Batch.{Batch}
use Rattle.rest_calls.specs.declared.call.Call.{Call as Call2}
use Rattle.rest_calls.specs.declared.question.Question.{Question}
use Rattle.rest_calls.specs.declared.call.Call.TheVariants as sent
use Rattle.desk.specs.Runs.{name_text, named_so}

pub named_enters : (caller : ℕ) (call : Call) (names_given count : ℕ) (name : List ℕ) → is_unnamed call ≡ true → count ≡ counted names_given → name ≡ name_text caller count → named_so name call ≡ entered caller names_given call
unfolding name_text
named_enters caller (Of key (Create settings)) names_given count name is once given =
    let given_is : name ≡ given_name caller (counted names_given) = given ∙ ap (λ (n : ℕ). given_name caller n) once in
    ap (λ (n : List ℕ). Of (key_in key.group n) (Create settings)) (given_is ∙ ap (λ (b : Bool). cond b (given_name caller (counted names_given)) key.instance) (sym is))
named_enters caller call names_given count name is once given = absurd (cc is)

-- a produce enters as it is
pub named_still : (call named : Call2) (names_given : ℕ) → asked_of named ≡ entered 0 names_given (asked_of call) → (is_unnamed (asked_of call) ≡ false → named ≡ call) → PartitionsFit call → PartitionsFit named
named_still (sent.Produce topic batch) named names_given is same holds = subst PartitionsFit (sym (same refl)) holds
named_still call (sent.Produce topic batch) names_given is same holds = absurd (cc is)
named_still call named names_given is same holds = tt

-- any other call is of a consumer
pub whose_is : (call : Call2) → ((topic : List ℕ) (batch : Batch) → call ≡ sent.Produce topic batch → ⊥) → ((question : Question) → call ≡ sent.Ask question → ⊥) → (key : Key) × (act : Act) × (asked_of call ≡ Of key act)
whose_is (sent.Produce topic batch) other asks = absurd (other topic batch refl)
whose_is (sent.Ask question) other asks = absurd (asks question refl)
whose_is (sent.Create group name settings) other asks = (_, _, refl)
whose_is (sent.Delete group name) other asks = (_, _, refl)
whose_is (sent.Assign group name parts) other asks = (_, _, refl)
whose_is (sent.Assignments group name) other asks = (_, _, refl)
whose_is (sent.Subscription group name) other asks = (_, _, refl)
whose_is (sent.Seek group name places) other asks = (_, _, refl)
whose_is (sent.SeekEdge group name edge parts) other asks = (_, _, refl)
whose_is (sent.Records group name accepts timeout bound) other asks = (_, _, refl)
