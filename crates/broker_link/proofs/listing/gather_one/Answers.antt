use Rattle.std.proofs.Common.{◌≡◌, sym, subst, Result, Ok, Err}
use Rattle.std.specs.Prelude.{All, OnOk}
use Rattle.broker_link.specs.Infos.{AreOnNodeOne, insert_info}
use Rattle.broker_link.proofs.Infos.{all_insert}
use Rattle.broker_link.proofs.listing.gather_one.Goals as goal

on_ok : {T E : Type 0} (r : Result T E) (P Q : Type 0) → (P → Q) → OnOk r P → OnOk r Q
on_ok (Ok x) P Q f h = f h
on_ok (Err e) P Q f h = tt

pub returns-clause-nodes : goal.returns-clause-nodes
returns-clause-nodes c = λ all.
    on_ok c.put_info.result (c.put_info.new.infos.items ≡ insert_info c.in_ok-info.info c.args.infos.now.items) (All AreOnNodeOne c.put_info.new.infos.items)
    (λ is. subst (All AreOnNodeOne) (sym is) (all_insert AreOnNodeOne c.in_ok-info.info c.args.infos.now.items c.in_ok-info.ensures.nodes all)) c.put_info.ensures
