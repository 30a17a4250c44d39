use Rattle.std.proofs.Common.{rules, ◌≡◌, ◌∙◌, List, ℕ, cond, subst, sym, ap, Some}
use Rattle.std.specs.BTreeMap.{get_by_text}
use Rattle.std.specs.Str.{bytes_eq}
use Rattle.std.proofs.lemmas.Map.Text.{btree_map_updates_text}
use Rattle.desk.proofs.groups.act_in.Goals as goal

pub act-requires : goal.act-requires
act-requires g c = record {
  whose = c.requires.whose c.in-Some.instance.now (ap (λ (name : List ℕ). get_by_text c.args.names.now name) (sym c.name_of.ensures) ∙ sym c.in-Some.ensures.value);
}

pub returns-in-Some-clause-does : goal.returns-in-Some-clause-does
returns-in-Some-clause-does g c =
    let names = c.args.names.now in
    let live = c.act.new.self in
    let left = c.get_mut.follows.lender live in
    let updates = (c.get_mut.follows.holds live).3 (search rules) in
    record {
      stood = c.in-Some.instance.now;
      live = live;
      was = ap (λ (name : List ℕ). get_by_text names name) (sym c.name_of.ensures) ∙ sym c.in-Some.ensures.value;
      puts = λ other. subst (λ (name : List ℕ). get_by_text left other ≡ cond (bytes_eq name other) (Some live) (get_by_text names other)) c.name_of.ensures
          (btree_map_updates_text c.name_of.result.now names left (Some live) updates other);
      key = c.act.ensures.key;
      sound = c.act.ensures.sound;
      unsubscribed = c.act.ensures.unsubscribed;
      acts = c.act.ensures.acts;
    }
