use Rattle.std.proofs.Common.{◌≡◌, [], refl, subst, arith}
use Rattle.lms_tree.specs.States.{RunState}
use Rattle.member_core.specs.Stands.{Stands, configuration_of}
use Rattle.group_spec.specs.Faulty.{FaultyMember, faulty_replies}
use Rattle.group_threads.specs.Playing.{replies_of}
use Rattle.group_threads.proofs.player.Player.start.Goals as goal

pub returns-in-Ok : goal.returns-in-Ok
returns-in-Ok c = record {
  stands = subst (λ (f : FaultyMember). Stands replies_of (faulty_replies f) (configuration_of c.args.config c.args.leaves) [] c.in-Ok.member)
      c.new.ensures c.in-Ok.ensures.stands;
  handed = c.in-Ok.ensures.handed;
  number = refl;
  shape = c.shape-shape.ensures;
  fault = refl;
  spare = record { most = omega (arith, c.requires.spare); key = λ _. refl; number = λ _. refl };
  delivered = c.new-in-Ok.ensures.items;
}
