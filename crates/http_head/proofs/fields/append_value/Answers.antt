use Rattle.std.proofs.Common.{◌≡◌, ◌++◌, codes, rules}
use Rattle.http_head.proofs.FieldLemmas.{value_joined}
use Rattle.http_head.proofs.fields.append_value.Goals as goal

pub returns-then-is_found : goal.returns-then-is_found
returns-then-is_found c = λ values is.
    let grown : c.extend_from_slice-then-is_found.new.self.items ≡ (c.args.text.now.items ++ codes ",") ++ c.args.value.now = search rules in
    value_joined c.args.is_found values c.args.text.now.items c.args.value.now c.extend_from_slice-then-is_found.new.self.items is
    (λ no. absurd (cc)) (λ yes. grown)

pub returns : goal.returns
returns c = λ values is.
    let grown : c.extend_from_slice-2.new.self.items ≡ c.args.text.now.items ++ c.args.value.now = search rules in
    value_joined c.args.is_found values c.args.text.now.items c.args.value.now c.extend_from_slice-2.new.self.items is
    (λ no. grown) (λ yes. absurd (cc))
