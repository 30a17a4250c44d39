-- From the code and the message of an error to the answer that it says.
use Rattle.std.proofs.Common.{◌≡◌, ℕ, ℤ, Bool, true, false, List, [], ◌∷◌, refl, ap, sym, subst, ◌∙◌, inl, inr}
use Rattle.std.specs.Prelude.{◌==◌, ◌⊎◌}
use Rattle.std.specs.List.{list_any}
use Rattle.std.proofs.lemmas.Bool.{eqb-true}
use Rattle.model.specs.texts.Bodies.{is_retriable}
use Rattle.model.specs.state.Log.{Row}
use Rattle.model.specs.state.Entry.Reply.{Refused, Broker, Unread}
use Rattle.model.specs.texts.Texts as texts
use Rattle.rest_codes.specs.Errors as errors
use Rattle.rest_codes.specs.Response.{error_text}
use Rattle.rest_codes.specs.declared.response.Reply.{Reply}
use Rattle.rest_codes.specs.declared.response.Reply.TheVariants as reply
use Rattle.rest_calls.specs.Responses.{response_in}
use Rattle.rest_replies.specs.Failure.{Says, broker_message, broker_number, is_refusal_code, unread_message}

-- an error reply is written as the model writes it
pub error_is : (code : ℕ) (text : List ℕ) → response_in (reply.Error code text) ≡ texts.error_text code text
unfolding error_text
error_is code text = refl

one_of : (code k : ℕ) (ks : List ℕ) → list_any (λ c. code == c) (k ∷ ks) ≡ true → (code ≡ k) ⊎ (list_any (λ c. code == c) ks ≡ true)
one_of code k ks e = go (code == k) refl e
  where
    go : (b : Bool) → (code == k) ≡ b → list_any (λ c. code == c) (k ∷ ks) ≡ true → (code ≡ k) ⊎ (list_any (λ c. code == c) ks ≡ true)
    go true f e = inl (eqb-true code k f)
    go false f e = inr (rw f at e)

-- of these codes the messages are those of the model
pub same_message : (code : ℕ) → is_refusal_code code ≡ true → errors.message_of code ≡ texts.message_of code
unfolding errors.message_of
same_message code e =
    elim (one_of code 40401 (40402 ∷ 40403 ∷ 40601 ∷ 40902 ∷ 40903 ∷ 40990 ∷ []) e) [
      | inl is ↦ at 40401 is refl
      | inr e ↦
          elim (one_of code 40402 (40403 ∷ 40601 ∷ 40902 ∷ 40903 ∷ 40990 ∷ []) e) [
            | inl is ↦ at 40402 is refl
            | inr e ↦
                elim (one_of code 40403 (40601 ∷ 40902 ∷ 40903 ∷ 40990 ∷ []) e) [
                  | inl is ↦ at 40403 is refl
                  | inr e ↦
                      elim (one_of code 40601 (40902 ∷ 40903 ∷ 40990 ∷ []) e) [
                        | inl is ↦ at 40601 is refl
                        | inr e ↦
                            elim (one_of code 40902 (40903 ∷ 40990 ∷ []) e) [
                              | inl is ↦ at 40902 is refl
                              | inr e ↦
                                  elim (one_of code 40903 (40990 ∷ []) e) [
                                    | inl is ↦ at 40903 is refl
                                    | inr e ↦
                                        elim (one_of code 40990 ([]) e) [ inl is ↦ at 40990 is refl | inr e ↦ absurd (cc e) ]
                                  ]
                            ]
                      ]
                ]
          ]
    ]
  where
    at : (k : ℕ) → code ≡ k → errors.message_of k ≡ texts.message_of k → errors.message_of code ≡ texts.message_of code
    at k is same = subst (λ (n : ℕ). errors.message_of n ≡ texts.message_of n) (sym is) same

-- the refusal by such a code
pub says_refused : (code : ℕ) (r : Reply) → is_refusal_code code ≡ true → r ≡ errors.refusal_of code → Says (Refused code) r
says_refused code r e is = λ advertise forms call. ap response_in is ∙ (error_is code (errors.message_of code) ∙ ap (λ l. texts.error_text code l) (same_message code e))

-- the refusal of a broker
pub says_broker : (code : ℤ) (number : ℕ) (text : List ℕ) → number ≡ broker_number code → text ≡ broker_message code → Says (Broker code) (reply.Error number text)
unfolding broker_message
says_broker code number text number_is text_is = λ advertise forms call. error_is number text ∙ go (is_retriable code) refl
  where
    go : (b : Bool) → is_retriable code ≡ b → texts.error_text number text ≡ texts.broker_text code
    go true e = rw (number_is, text_is, e) refl
    go false e = rw (number_is, text_is, e) refl

-- the refusal by a record that doesn't read
pub says_unread : (topic : List ℕ) (partition offset reason : ℕ) (row : Row) (text : List ℕ) → row.offset ≡ offset → text ≡ unread_message topic partition offset reason
    → Says (Unread (record { at = record { topic = topic; partition = partition }; row = row }) reason) (reply.Error 50002 text)
unfolding unread_message
says_unread topic partition offset reason row text offset_is text_is = λ advertise forms call. error_is 50002 text ∙ rw (text_is, sym offset_is) refl
