use Rattle.std.proofs.Common.{◌≡◌, ◌++◌, List, ℕ, Ok, sym, ap, ◌∙◌, subst}
use Rattle.std.specs.Prelude.{string_bytes}
use Rattle.std.specs.Str.{IsUtf8}
use Rattle.std.proofs.lemmas.Str.{IsUtf8-append, IsUtf8-string_bytes}
use Rattle.json.specs.Token.{Token}
use Rattle.json.specs.Print.{print}
use Rattle.avro_schema.specs.Nodes.{tree_of}
use Rattle.avro_value.specs.Steps.{◌>>=◌}
use Rattle.avro_datum.specs.Shown.{Shown, tokens_of}
use Rattle.avro_datum.proofs.writer.write_all.Goals as goal

-- what is written behind the front
print_behind : (before front items : List ℕ) (ts : List Token) → before ≡ front → items ≡ before ++ print ts → items ≡ front ++ print ts
print_behind before front items ts is printed = printed ∙ ap (λ (b : List ℕ). b ++ print ts) is

pub from_utf8_unchecked-requires : goal.from_utf8_unchecked-requires
from_utf8_unchecked-requires c =
    let front = string_bytes c.args.front in
    let printed = print_behind c.put_node.new.out.before front c.into_inner-bytes.result.items c.put_node.new.out.tokens (c.put_node.ensures.before ∙ (c.new-out.ensures.before ∙ ap (λ v. v.items) c.into_bytes.ensures.value)) c.into_inner-bytes.ensures.items in
    subst IsUtf8 (sym printed) (IsUtf8-append front (print c.put_node.new.out.tokens) (IsUtf8-string_bytes c.args.front) c.into_inner-bytes.ensures.utf8)

pub returns-in-Ok-clause-value : goal.returns-in-Ok-clause-value
unfolding tokens_of
returns-in-Ok-clause-value c =
    let front = string_bytes c.args.front in
    let printed = print_behind c.put_node.new.out.before front c.into_inner-bytes.result.items c.put_node.new.out.tokens (c.put_node.ensures.before ∙ (c.new-out.ensures.before ∙ ap (λ v. v.items) c.into_bytes.ensures.value)) c.into_inner-bytes.ensures.items in
    let shows = c.in-Ok.ensures.shown (tree_of c.args.schema.now) c.root.ensures in
    let tokens = shows.2 ∙ ap (λ (ts : List Token). ts ++ shows.0) c.new-out.ensures.tokens in
    (shows.0, ap (λ (s : Shown). s >>= λ x. Ok x.0) shows.1, ap (λ v. v.items) c.from_utf8_unchecked.ensures.value ∙ (printed ∙ ap (λ (ts : List Token). front ++ print ts) tokens))
