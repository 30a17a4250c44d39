use Rattle.std.proofs.Common.{rules, ◌≡◌, ◌++◌, [], ◌∷◌, ℕ, List, Some, length, sym, ap, ◌∙◌, subst}
use Rattle.std.specs.String.{string_bytes, string_cmp}
use Rattle.std.specs.BTreeMap.{UpdatesBy}
use Rattle.std.specs.Cmp.Lexicographic.{slice_cmp}
use Rattle.std.specs.Ordering.{nat_cmp}
use Rattle.avro_names.specs.NameList.{is_among}
use Rattle.avro_names.proofs.NameLists.{IsMapOf, map_push, no_place}
use Rattle.avro_names.proofs.name_list.NameList.push_new.Goals as goal

pub invariant_of-self-in-Ok : goal.invariant_of-self-in-Ok
invariant_of-self-in-Ok c =
    let ns = c.self.inside.names.items in
    let name = c.args.name.now in
    let new = no_place name ns (ap (is_among name) c.self.view_is ∙ c.requires) in
    let at : ℕ → List ℕ → Type 0 = λ k n. UpdatesBy string_cmp (λ x. slice_cmp nat_cmp n (string_bytes x)) c.self.inside.places c.insert.new.self (Some k) in
    let place : c.len-place.result ≡ length ns = search rules in
    let updates = subst (λ n. at (length ns) n) c.in_ok-key.ensures.ok (subst (λ k. at k (string_bytes c.in_ok-key.key)) place c.in-Ok.ensures.updates) in
    subst (λ (xs : List (List ℕ)). IsMapOf c.insert.new.self xs) (ap (λ n. ns ++ n ∷ []) (sym c.in_ok-from_str.ensures) ∙ sym c.in_ok-push.ensures.items)
    (map_push c.self.inside.places c.insert.new.self ns name c.self.invariant new updates)
