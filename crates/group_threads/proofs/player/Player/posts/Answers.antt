use Rattle.std.proofs.Common.{◌≡◌, ℕ, ◌+◌, List, ◌++◌, Option, Some, ap, sym, subst, ◌∙◌}
use Rattle.std.specs.Prelude.{option_map}
use Rattle.member_core.specs.Membership.{Membership, handed_next}
use Rattle.member_core.specs.Stands.{Stands}
use Rattle.faulty_member.specs.declared.faulty.Faulty.{Faulty}
use Rattle.group_threads.specs.declared.player.Player.{Player}
use Rattle.group_threads.specs.Playing.{held_entries, replies_of}
use Rattle.group_threads.proofs.Members.{fewer-left, sending-first, sent, sent-all, start-of}
use Rattle.group_threads.proofs.player.Player.posts.Goals as goal

pub posts-init : goal.posts-init
posts-init c = λ seat count p. sending-first c.args.self.now c.args.entries.now.items seat count p

pub posts-preserved : goal.posts-preserved
posts-preserved c = λ seat count p.
    let next = c.in_ok-bytes.ensures.handed ∙ ap (λ o. handed_next c.posts.self.member o) c.in-Some.is in
    let same = c.in_ok-second.ensures.same in
    sent c.posts.self c.second_of.new.self c.next_post.new.self c.posts.entries.items c.put_entries.new.entries.items _ seat c.in-Some.bytes.items
    (option_map (λ b. b.items) c.in_ok-second.second) (c.posts.invariant seat count p)
    (sym (ap (λ o. option_map (λ b. b.items) o) c.in-Some.is) ∙ c.in_ok-bytes.ensures.post)
    (λ s. c.in_ok-bytes.ensures.stands (start-of seat) seat.config seat.delivered s)
    (ap (λ (m : Membership Faulty). m.holds.handed) next)
    (λ post plays is. c.in_ok-second.ensures.post seat (c.posts.self.member.holds.handed + 1) post plays is)
    same (λ s. c.in_ok-second.ensures.spare seat.spare s)
    (c.in_ok-put_entries.ensures ∙ ap (λ (p : Player). c.posts.entries.items
    ++ held_entries p.number p.shape.members c.in-Some.bytes.items (option_map (λ b. b.items) c.in_ok-second.second)) same)

pub posts-smaller : goal.posts-smaller
posts-smaller c =
    fewer-left c.posts.self.member c.second_of.new.self.member c.in-Some.bytes.items c.in-Some.bytes
    (ap (λ (p : Player). p.member) c.in_ok-second.ensures.same ∙ c.in_ok-bytes.ensures.handed ∙ ap (λ o. handed_next c.posts.self.member o) c.in-Some.is)
    (sym (ap (λ o. option_map (λ b. b.items) o) c.in-Some.is) ∙ c.in_ok-bytes.ensures.post)

pub returns-clause-entries : goal.returns-clause-entries
returns-clause-entries c = λ seat count p.
    (sent-all c.posts.self c.posts.entries.items _ seat (c.posts.invariant seat count p)
    (sym (ap (λ o. option_map (λ b. b.items) o) c.in_default.is) ∙ c.in_ok-bytes.ensures.post) c.in_ok-bytes.ensures.room).entries

pub returns-clause-plays : goal.returns-clause-plays
returns-clause-plays c = λ seat count p.
    let all = sent-all c.posts.self c.posts.entries.items _ seat (c.posts.invariant seat count p)
    (sym (ap (λ o. option_map (λ b. b.items) o) c.in_default.is) ∙ c.in_ok-bytes.ensures.post) c.in_ok-bytes.ensures.room in
    let same = c.in_ok-bytes.ensures.handed ∙ ap (λ o. handed_next c.posts.self.member o) c.in_default.is in
    record {
      stands = subst (λ (m : Membership Faulty). Stands replies_of (start-of seat) seat.config seat.delivered m) (sym same) all.plays.stands;
      handed = ap (λ (m : Membership Faulty). m.holds.handed) same ∙ all.plays.handed;
      number = all.plays.number;
      shape = all.plays.shape;
      fault = all.plays.fault;
      spare = all.plays.spare;
      delivered = all.plays.delivered;
    }
