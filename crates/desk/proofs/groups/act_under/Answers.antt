use Rattle.std.proofs.Common.{rules, ◌≡◌, ◌∙◌, List, ℕ, subst, sym, ap, Some, Option}
use Rattle.std.specs.BTreeMap.{get_by_text}
use Rattle.std.proofs.lemmas.Map.Text.{btree_map_updates_text}
use Rattle.rest_calls.specs.Views.{asked_of}
use Rattle.instance.specs.Views.{events_in, said_in}
use Rattle.desk.specs.Consumers.{AreSame, Names, named_in}
use Rattle.desk.specs.Keys.{group_in, name_in_call}
use Rattle.desk.proofs.ConsumersLemmas.{PutsGroup, does_under, same_under, if_some_from, if_none_from}
use Rattle.desk.proofs.groups.act_under.Goals as goal

pub act_in-requires : goal.act_in-requires
act_in-requires g c = record {
  whose = λ live is. c.requires.whose live
      (ap (λ (o : Option Names). named_in o (name_in_call (asked_of c.args.call.now))) (ap (λ (group : List ℕ). get_by_text c.args.groups.now group) (sym c.group_of.ensures) ∙ sym c.in-Some.ensures.value) ∙ is);
}

pub returns-in-Some-clause-does : goal.returns-in-Some-clause-does
returns-in-Some-clause-does g c =
    let old = c.args.groups.now in
    let left = c.act_in.new.names in
    let new = c.get_mut.follows.lender left in
    let updates = (c.get_mut.follows.holds left).3 (search rules) in
    let a = g.L.Link.stand c.args.link.now in
    let b = g.L.Link.stand c.act_in.new.link in
    let outer = subst (λ (group : List ℕ). PutsGroup old group (Some left) new) c.group_of.ensures (λ other. btree_map_updates_text c.group_of.result.now old new (Some left) updates other) in
    let was = ap (λ (group : List ℕ). get_by_text old group) (sym c.group_of.ensures) ∙ sym c.in-Some.ensures.value in
    if_some_from c.act_in.result _ _
    (λ o one. does_under old new c.in-Some.names.now left (asked_of c.args.call.now) c.args.moment c.args.round a.tells a.plain a.counts b.counts a.log (events_in o) (said_in o) b.log was outer one) c.act_in.ensures.does

pub returns-in-Some-clause-stays : goal.returns-in-Some-clause-stays
returns-in-Some-clause-stays g c =
    let old = c.args.groups.now in
    let left = c.act_in.new.names in
    let new = c.get_mut.follows.lender left in
    let updates = (c.get_mut.follows.holds left).3 (search rules) in
    let outer = subst (λ (group : List ℕ). PutsGroup old group (Some left) new) c.group_of.ensures (λ other. btree_map_updates_text c.group_of.result.now old new (Some left) updates other) in
    let was = ap (λ (group : List ℕ). get_by_text old group) (sym c.group_of.ensures) ∙ sym c.in-Some.ensures.value in
    if_none_from c.act_in.result (left ≡ c.in-Some.names.now) (AreSame old new)
    (λ same. same_under old new c.in-Some.names.now left (group_in (asked_of c.args.call.now)) was outer (λ name. ap (λ (names : Names). get_by_text names name) same)) c.act_in.ensures.stays
