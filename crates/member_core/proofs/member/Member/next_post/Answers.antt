use Rattle.std.proofs.Common.{◌≡◌, ℕ, ◌+◌, ◌≤◌, List, length, Some, None, ap, sym, ◌∙◌, refl, subst, arith}
use Rattle.std.specs.Prelude.{option_map}
use Rattle.std.specs.Option.{option_copied}
use Rattle.phase_message.specs.Post.{post_spelling}
use Rattle.member_parts.specs.Endings.{IsRunning}
use Rattle.member_core.specs.Membership.{Membership, handed_next, posts_made}
use Rattle.member_core.specs.Needs.{HoldsNeeded}
use Rattle.member_core.specs.Promises.{IsPlainMember}
use Rattle.member_core.specs.Sound.{IsSound}
use Rattle.member_core.specs.Stands.{Stands}
use Rattle.member_core.proofs.Answering.{runs-still}
use Rattle.member_core.proofs.Handing.{handed-small, handed-sound, needed-handed, next-plain, next-said, next_made, runs-unless, stands-handed, stopped-sound}
use Rattle.member_core.proofs.member.Member.next_post.Goals as goal

pub returns-in_default-post_made : goal.returns-in_default-post_made
returns-in_default-post_made g c =
    let D : Type 0 = g.row.C.Denot in
    let m = c.args.self.now in
    let none : next_made m ≡ None = subst (λ (m : Membership D). next_made m ≡ None) c.self.view_is
    (sym c.post_made.ensures.post ∙ ap option_copied c.in_default-post_made.is) in
    let nothing : None ≡ option_map post_spelling (next_made m) = sym (ap (option_map post_spelling) none) in
    let runs : IsRunning m.holds.ending = subst (λ (m : Membership D). IsRunning m.holds.ending) c.self.view_is
    (runs-unless c.self.inside.machine.ending c.in_default.not-Stopped) in
    record {
      post = nothing;
      plain = λ start c' delivered stands plain. next-plain g.C.Conduct.replies start c' delivered m None nothing stands plain;
      stands = λ start c' delivered stands. stands;
      plain_member = λ c' delivered is. is;
      said = λ c' delivered is. next-said g.C.Conduct.replies c' delivered m None nothing is;
      handed = refl;
      room = subst (λ (m : Membership D). m.holds.handed ≤ length (posts_made m.holds)) c.self.view_is c.self.invariant.formed.handed;
      none = λ e err. absurd cc;
      secrets = subst (λ (m : Membership D). HoldsNeeded m.holds) c.self.view_is c.self.invariant.needed;
      runs = runs;
      stopped = λ err. absurd cc;
      stays = λ stopped. absurd (runs-still m.holds.ending runs stopped);
    }

pub overflow_add-self : goal.overflow_add-self
overflow_add-self g c =
    omega (
      arith,
      handed-small c.self.inside.machine _ c.self.invariant.formed
          (sym c.post_made.ensures.post ∙ ap option_copied c.in-Some.is),
    )

pub invariant_of-self : goal.invariant_of-self
invariant_of-self g c =
    handed-sound c.self.inside.machine _ c.self.invariant (sym c.post_made.ensures.post ∙ ap option_copied c.in-Some.is)

pub invariant_of-self-in-Err : goal.invariant_of-self-in-Err
invariant_of-self-in-Err g c = subst IsSound (sym c.stop.ensures) (stopped-sound c.self.inside.machine c.self.invariant.formed)

pub returns-in-Ok : goal.returns-in-Ok
returns-in-Ok g c =
    let D : Type 0 = g.row.C.Denot in
    let m = c.args.self.now in
    let there : next_made m ≡ Some c.in-Some.post.now = subst (λ (m : Membership D). next_made m ≡ Some c.in-Some.post.now) c.self.view_is
    (sym c.post_made.ensures.post ∙ ap option_copied c.in-Some.is) in
    let bytes : Some c.in-Ok.bytes.items ≡ option_map post_spelling (next_made m) =
    ap (λ (x : List ℕ). Some x) c.in-Ok.ensures.text ∙ sym (ap (option_map post_spelling) there) in
    let runs : IsRunning m.holds.ending = subst (λ (m : Membership D). IsRunning m.holds.ending) c.self.view_is
    (runs-unless c.self.inside.machine.ending c.in_default.not-Stopped) in
    let next = ap (λ (m : Membership D). handed_next m (Some c.in-Ok.bytes)) c.self.view_is in
    record {
      post = bytes;
      plain = λ start c' delivered stands plain. next-plain g.C.Conduct.replies start c' delivered m _ bytes stands plain;
      stands = λ start c' delivered stands. subst (Stands g.C.Conduct.replies start c' delivered) (sym next)
          (stands-handed g.C.Conduct.replies start c' delivered m c.in-Ok.bytes stands);
      plain_member = λ c' delivered is. subst (IsPlainMember g.C.Conduct.replies c' delivered) (sym next)
          (record {
            start = is.start;
            plain = is.plain;
            stands = stands-handed g.C.Conduct.replies is.start c' delivered m c.in-Ok.bytes
                is.stands;
          });
      said = λ c' delivered is. next-said g.C.Conduct.replies c' delivered m _ bytes is;
      handed = next;
      room = subst (λ (m : Membership D). m.holds.handed ≤ length (posts_made m.holds)) c.self.view_is c.self.invariant.formed.handed;
      none = λ e err. absurd cc;
      secrets = subst (λ (m : Membership D). HoldsNeeded m.holds) (sym next)
          (needed-handed m.holds (m.holds.handed + 1) (subst (λ (m : Membership D). HoldsNeeded m.holds) c.self.view_is
          c.self.invariant.needed));
      runs = subst (λ (m : Membership D). IsRunning m.holds.ending) (sym next) runs;
      stopped = λ err. absurd cc;
      stays = λ stopped. absurd (runs-still m.holds.ending runs stopped);
    }
