use Rattle.std.proofs.Common.{◌≡◌, ◌∙◌, ℕ, List, subst, sym, ap, refl, None, Some, Option, true}
use Rattle.std.specs.Prelude.{option_map}
use Rattle.model.specs.state.World.{Key, Settings, Consumer, IsConsumer, fresh}
use Rattle.model.specs.state.Entry.{Act, Call}
use Rattle.model.specs.state.Entry.Call.{Of}
use Rattle.rest_calls.specs.Views.{asked_of, key_in}
use Rattle.instance.specs.Views.{Live}
use Rattle.rest_replies.specs.Creation.{SaysMade}
use Rattle.desk.specs.Consumers.{Puts}
use Rattle.desk.specs.Keys.{consumer_key}
use Rattle.desk.specs.Shelf.{consumer_in, is_create_call}
use Rattle.desk.proofs.Calls.{key_here, others_of}
use Rattle.desk.proofs.ConsumersLemmas.{consumers_same, found_put}
use Rattle.desk.proofs.Creating.{wants_calls, made_calls, is_fresh}
use Rattle.desk.proofs.shard.Shard.create.Goals as goal

pub returns-in-Want-clause-calls : goal.returns-in-Want-clause-calls
returns-in-Want-clause-calls g c = λ key act round is.
    let old = c.args.self.now in
    let a = g.L.Link.stand old.link in
    wants_calls old.advertise key c.args.moment round act a.tells a.plain a.counts a.log (consumer_in old.instances key) (ap (λ (k : Key). consumer_in old.instances k) (sym (ap consumer_key is)) ∙ c.requires.none)

pub returns-in-Err-clause-calls : goal.returns-in-Err-clause-calls
returns-in-Err-clause-calls g c = λ key act round is.
    let old = c.args.self.now in
    let a = g.L.Link.stand old.link in
    wants_calls old.advertise key c.args.moment round act a.tells a.plain a.counts a.log (consumer_in old.instances key) (ap (λ (k : Key). consumer_in old.instances k) (sym (ap consumer_key is)) ∙ c.requires.none)

pub add-requires : goal.add-requires
add-requires g c = record {
  key = c.in-Ok.ensures.key;
  sound = subst IsConsumer (sym c.in-Ok.ensures.consumer) (is_fresh _ _);
}

pub returns-in-Ok-add : goal.returns-in-Ok-add
returns-in-Ok-add g c =
    let old = c.args.self.now in
    let new = c.add.new.self in
    let a = g.L.Link.stand old.link in
    let live = c.in-Ok.instance in
    let call : Call = asked_of c.args.call.now in
    let here = key_here call c.group_of-group.result.now c.name_of-name.result.now c.group_of-group.ensures c.name_of-name.ensures in
    let puts : Puts old.instances.groups (consumer_key call) (Some live) new.groups = subst (λ (k : Key). Puts old.instances.groups k (Some live) new.groups) here c.in-Ok-add.ensures.added in
    let made_is : SaysMade old.advertise (consumer_key call) c.made-reply.result = subst (λ (k : Key). SaysMade old.advertise k c.made-reply.result) here (subst (λ (t : List ℕ). SaysMade t (key_in c.group_of-group.result.now c.name_of-name.result.now) c.made-reply.result) c.as_str.ensures c.made-reply.ensures.says) in
    record {
      calls = λ key act round is.
          let same : consumer_key call ≡ key = ap consumer_key is in
          made_calls old.advertise key c.args.moment round act a.tells a.plain a.counts a.log live (consumer_in new key) c.made-reply.result
          (ap (λ (k : Key). consumer_in new k) (sym same) ∙ ap (λ (o : Option Live). option_map (λ (l : Live). l.consumer) o) (found_put old.instances.groups new.groups (consumer_key call) (Some live) puts))
          (subst (λ (k : Call). is_create_call k ≡ true) is c.requires.create)
          (subst (λ (k : Key). SaysMade old.advertise k c.made-reply.result) same made_is) c.in_default.not-Want
          (λ settings made. c.in-Ok.ensures.consumer ∙ ap (λ (s : Settings). fresh s c.args.moment) (c.settings_in-settings.ensures key settings (is ∙ ap (λ (x : Act). Of key x) made)));
      others = λ key act is. others_of old.instances.groups new.groups call key act (Some live) is puts;
      link = refl;
      setup = record { advertise = refl; first = refl; last = refl };
    }

pub returns-in-Err-add : goal.returns-in-Err-add
returns-in-Err-add g c =
    let old = c.args.self.now in
    let new = c.add.new.self in
    let a = g.L.Link.stand old.link in
    record {
      calls = λ key act round is.
          wants_calls old.advertise key c.args.moment round act a.tells a.plain a.counts a.log (consumer_in new key)
          (consumers_same old.instances.groups new.groups c.in-Err-add.ensures.stays key ∙ (ap (λ (k : Key). consumer_in old.instances k) (sym (ap consumer_key is)) ∙ c.requires.none));
      others = λ key act is other apart. consumers_same old.instances.groups new.groups c.in-Err-add.ensures.stays other;
      link = refl;
      setup = record { advertise = refl; first = refl; last = refl };
    }
