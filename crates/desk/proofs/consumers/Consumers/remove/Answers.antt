use Rattle.rest_calls.specs.Views.{key_in}
use Rattle.desk.proofs.ConsumersLemmas.{keyed_less, sound_less}
use Rattle.desk.proofs.consumers.Consumers.remove.Goals as goal

pub invariant_of-self : goal.invariant_of-self
invariant_of-self c = record {
  keyed = keyed_less c.args.self.now.groups c.take_under.new.groups (key_in c.args.group.now c.args.name.now) c.args.self.now.keyed c.take_under.ensures.puts;
  sound = sound_less c.args.self.now.groups c.take_under.new.groups (key_in c.args.group.now c.args.name.now) c.args.self.now.sound c.take_under.ensures.puts;
}
