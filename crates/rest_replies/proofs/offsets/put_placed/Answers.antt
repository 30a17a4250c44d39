use Rattle.std.proofs.Common.{◌≡◌, ◌∙◌, ◌++◌, ap, sym, List, ℕ, subst}
use Rattle.std.specs.Prelude.{OnOk, string_bytes}
use Rattle.rest_replies.proofs.OffsetsLemmas.{stored_is, failed_is}
use Rattle.rest_replies.proofs.offsets.put_placed.Goals as goal

pub returns-then-is_stored : goal.returns-then-is_stored
returns-then-is_stored c =
    subst (λ (l : List ℕ). OnOk c.put_stored_at.result (string_bytes c.put_stored_at.new.text ≡ string_bytes c.args.text.now ++ l)) (stored_is c.args.told.now (sym c.is_stored.ensures ∙ c.if-is_stored.true)) c.put_stored_at.ensures

pub returns : goal.returns
returns c =
    c.in_ok-push_str.ensures.bytes
    ∙ ap (λ (l : List ℕ). string_bytes c.args.text.now ++ l)
    (c.as_str-2.ensures.value ∙ (c.in_ok-one.ensures ∙ failed_is c.args.told.now c.kind_of.result.now c.as_str.result.now (sym c.is_stored.ensures ∙ c.if-is_stored.false) c.kind_of.ensures (c.as_str.ensures.value ∙ c.in_ok-reason.ensures)))
