use Rattle.std.proofs.Common.{◌≡◌, ℕ, List, [], ◌∷◌, ◌++◌, ap, sym, ◌∙◌, refl, subst}
use Rattle.member_core.specs.Membership.{Membership}
use Rattle.member_core.specs.Stands.{Stands}
use Rattle.faulty_member.specs.declared.faulty.Faulty.{Faulty}
use Rattle.group_spec.specs.Faulty.{faulty_member, faulty_replies}
use Rattle.group_threads.specs.Playing.{replies_of}
use Rattle.group_threads.proofs.player.Player.receive_once.Goals as goal

pub returns : goal.returns
returns c = λ seat count p.
    let given : c.deref.result.now ≡ c.args.bytes.now = c.deref.ensures.value ∙ c.items.ensures in
    let copied : c.of.result ≡ c.args.bytes.now = c.of.ensures ∙ c.in_ok-copy.ensures.items ∙ c.deref-2.ensures.value ∙ c.items-2.ensures in
    record {
      stands = subst (λ (bytes : List ℕ). Stands replies_of (faulty_replies (faulty_member seat.fault seat.config.number)) seat.config
          (seat.delivered ++ bytes ∷ []) c.deliver.new.self) given
          (c.in_ok-_taken.ensures.stands (faulty_replies (faulty_member seat.fault seat.config.number)) seat.config seat.delivered p.stands);
      handed = c.in_ok-_taken.ensures.handed ∙ p.handed;
      number = p.number;
      shape = p.shape;
      fault = p.fault;
      spare = p.spare;
      delivered = c.in_ok-push.ensures.items ∙ ap (λ (d : List (List ℕ)). d ++ c.of.result ∷ []) p.delivered
          ∙ ap (λ (b : List ℕ). seat.delivered ++ b ∷ []) copied;
    }
