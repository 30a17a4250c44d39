use Rattle.rest_calls.specs.Views.{key_in}
use Rattle.std.specs.Prelude.{Some}
use Rattle.desk.specs.Consumers.{AreKeyed, AreSame, AreSound, Puts}
use Rattle.desk.proofs.ConsumersLemmas.{keyed_one, sound_one, keyed_same, sound_same, on_either}
use Rattle.desk.proofs.consumers.Consumers.add.Goals as goal

pub invariant_of-self : goal.invariant_of-self
invariant_of-self c =
    let old = c.args.self.now.groups in
    let new = c.put_under.new.groups in
    let key = key_in c.args.group.now c.args.name.now in
    record {
      keyed = on_either c.put_under.result (Puts old key (Some c.args.instance) new) (AreSame old new) (AreKeyed new) c.put_under.ensures.puts c.put_under.ensures.stays
          (keyed_one old new key c.args.instance c.args.self.now.keyed c.requires.key) (keyed_same old new c.args.self.now.keyed);
      sound = on_either c.put_under.result (Puts old key (Some c.args.instance) new) (AreSame old new) (AreSound new) c.put_under.ensures.puts c.put_under.ensures.stays
          (sound_one old new key c.args.instance c.args.self.now.sound c.requires.sound) (sound_same old new c.args.self.now.sound);
    }
