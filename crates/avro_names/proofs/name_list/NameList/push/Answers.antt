use Rattle.std.proofs.Common.{◌≡◌, ◌++◌, [], ◌∷◌, List, ℕ, Some, None, true, false, not, sym, ap, ◌∙◌, subst}
use Rattle.std.specs.Prelude.{is_some}
use Rattle.avro_names.specs.NameList.{place_of}
use Rattle.avro_names.specs.NameList.{is_among}
use Rattle.avro_names.proofs.NameLists.{IsMapOf, map_again, among_is}
use Rattle.avro_names.proofs.name_list.NameList.push.Goals as goal

pub invariant_of-self-in-Some : goal.invariant_of-self-in-Some
invariant_of-self-in-Some c =
    let ns = c.self.inside.names.items in
    let name = c.args.name.now in
    let there : place_of name ns ≡ Some c.in-Some.field-0.now = sym (c.self.invariant name) ∙ sym c.in-Some.ensures.value in
    subst (λ (xs : List (List ℕ)). IsMapOf c.self.inside.places xs) (ap (λ n. ns ++ n ∷ []) (sym c.in_ok-from_str-in-Some.ensures) ∙ sym c.in_ok-push-in-Some.ensures.items)
    (map_again c.self.inside.places ns name c.in-Some.field-0.now c.self.invariant there)

pub push_new-requires : goal.push_new-requires
push_new-requires c =
    let ns = c.self.inside.names.items in
    let name = c.args.name.now in
    let none : place_of name ns ≡ None = sym (c.self.invariant name) ∙ sym c.in-None.ensures.value in
    ap (is_among name) (sym c.self.view_is) ∙ among_is name ns ∙ ap is_some none

pub returns-in_ok-push-in-Some-clause-added : goal.returns-in_ok-push-in-Some-clause-added
returns-in_ok-push-in-Some-clause-added c =
    let ns = c.self.inside.names.items in
    let name = c.args.name.now in
    let there : place_of name ns ≡ Some c.in-Some.field-0.now = sym (c.self.invariant name) ∙ sym c.in-Some.ensures.value in
    ap not (sym (ap (is_among name) (sym c.self.view_is) ∙ among_is name ns ∙ ap is_some there))

pub returns-in_ok-push_new-in-None-clause-added : goal.returns-in_ok-push_new-in-None-clause-added
returns-in_ok-push_new-in-None-clause-added c =
    let ns = c.self.inside.names.items in
    let name = c.args.name.now in
    let none : place_of name ns ≡ None = sym (c.self.invariant name) ∙ sym c.in-None.ensures.value in
    ap not (sym (ap (is_among name) (sym c.self.view_is) ∙ among_is name ns ∙ ap is_some none))
