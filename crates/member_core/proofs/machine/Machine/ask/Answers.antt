-- The conduct is asked, and what it answers is done.
use Rattle.std.proofs.Common.{◌≡◌, sym, ◌∙◌, refl, subst}
use Rattle.std.proofs.lemmas.Result.{IfOk-from_err, IfOk-weaker}
use Rattle.phase_message.specs.Stages.{kind_of_stage}
use Rattle.member_spec.specs.declared.conduct.Speech.TheVariants.{Say as Says, Wait as Waits, Silent as IsSilent}
use Rattle.member_spec.specs.declared.mood.Mood.TheVariants.{Mute}
use Rattle.member_spec.specs.Actor.{actor_behind_question}
use Rattle.member_spec.specs.Replies.{HasAtMost, IsForSlot, Replies}
use Rattle.member_parts.specs.Endings.{IsOpen}
use Rattle.member_core.specs.declared.machine.Machine.{Machine}
use Rattle.member_core.specs.Membership.{holdings_of}
use Rattle.member_core.specs.Shorts.{own_limit}
use Rattle.member_core.specs.Sound.{IsFormed, IsSound, slot_here}
use Rattle.member_core.specs.Stands.{StandsFor}
use Rattle.member_core.proofs.Changes.{formed-bare}
use Rattle.member_core.proofs.Answered.{muted-sound, muted-stands, put_off, put_off-sound, put_off-stands, question-so}
use Rattle.member_core.proofs.Posting.{muted}
use Rattle.member_core.proofs.Storing.{own-least}
use Rattle.member_core.proofs.machine.Machine.ask.Given.{Over}
use Rattle.member_core.proofs.machine.Machine.ask.Goals as goal
use Rattle.member_core.proofs.machine.Machine.ask.Goals.{After-fall_mute, Joined-self}

-- ---- no answer

pub returns-in_err-bytes : goal.returns-in_err-bytes
returns-in_err-bytes g c =
    let r = c.from_residual in
    record {
      formed = c.requires.formed;
      sound = IfOk-from_err r.result _ r.ensures.0;
      going = IfOk-from_err r.result _ r.ensures.0;
      handed = IfOk-from_err r.result _ r.ensures.0;
      stands = IfOk-from_err r.result _ r.ensures.0;
    }

-- ---- bytes are said

pub say-requires : goal.say-requires
say-requires g c = record {
  formed = c.requires.formed;
  ready = c.requires.ready;
  speakable = c.requires.speakable;
  slot = (let m = c.args.self.now in
      subst (IsForSlot m.log.shape (slot_here m)) c.in-Say.is (c.in_ok-bytes.ensures.slot (slot_here m) c.requires.question.slot)
      );
  short = (let m = c.args.self.now in
      let most = own_limit (kind_of_stage m.log.shape m.stage) in
      subst (HasAtMost most) c.in-Say.is (c.in_ok-bytes.ensures.short most (own-least (kind_of_stage m.log.shape m.stage))
      c.requires.question.short)
      );
}

pub returns-in-Say : goal.returns-in-Say
returns-in-Say g c = record {
  formed = c.say.ensures.formed;
  sound = c.say.ensures.sound;
  going = c.say.ensures.going;
  handed = c.say.ensures.handed;
  stands = IfOk-weaker c.say.result _ _ (λ _ so start conf a s.
      let now = g.C.Conduct.replies c.args.conduct.now in
      subst (λ (x : Replies). StandsFor x start conf (actor_behind_question start conf a c.args.bytes.items) (holdings_of c.say.new.self))
      (sym c.in_ok-bytes.ensures.same)
      (question-so now start conf a c.args.self.now c.say.new.self c.args.bytes.items (Says c.in-Say.bytes) c.requires.formed c.requires.ready
      (sym c.in-Say.is ∙ c.in_ok-bytes.ensures.told) s (so now start conf a s))) c.say.ensures.stands;
}

-- ---- bytes are put off

sound-off : (g : Over) (c : Joined-self g) → IsSound (put_off c.args.self.now c.in-Wait.bytes)
sound-off g c =
    let m = c.args.self.now in
    let most = own_limit (kind_of_stage m.log.shape m.stage) in
    put_off-sound m c.in-Wait.bytes c.requires.formed c.requires.ready c.requires.speakable
    (subst (IsForSlot m.log.shape (slot_here m)) c.in-Wait.is (c.in_ok-bytes.ensures.slot (slot_here m) c.requires.question.slot))
    (subst (HasAtMost most) c.in-Wait.is (c.in_ok-bytes.ensures.short most (own-least (kind_of_stage m.log.shape m.stage))
    c.requires.question.short))

pub returns-in-Wait : goal.returns-in-Wait
returns-in-Wait g c = record {
  formed = (sound-off g c).formed;
  sound = sound-off g c;
  going = c.requires.speakable.to_be_asked.going;
  handed = refl;
  stands = λ start conf a s.
      let m = c.args.self.now in
      let now = g.C.Conduct.replies c.args.conduct.now in
      subst (λ (x : Replies). StandsFor x start conf (actor_behind_question start conf a c.args.bytes.items)
      (holdings_of (put_off m c.in-Wait.bytes))) (sym c.in_ok-bytes.ensures.same)
      (question-so now start conf a m (put_off m c.in-Wait.bytes) c.args.bytes.items (Waits c.in-Wait.bytes) c.requires.formed
      c.requires.ready
      (sym c.in-Wait.is ∙ c.in_ok-bytes.ensures.told) s (put_off-stands now start conf a m c.in-Wait.bytes c.requires.speakable.to_be_asked
      s));
}

-- ---- nothing is said

so-muted : (P : Machine → Type 0) (g : Over) (c : After-fall_mute g) → P (muted c.args.self.now) → P c.fall_mute.new.self
so-muted P g c so = subst P (sym c.fall_mute.ensures) so

pub returns-in-Silent : goal.returns-in-Silent
returns-in-Silent g c = record {
  formed = so-muted IsFormed g c (formed-bare c.args.self.now Mute c.args.self.now.ending c.requires.formed);
  sound =
      so-muted IsSound g c (muted-sound c.args.self.now c.requires.formed c.requires.ready c.requires.speakable.to_be_asked);
  going = so-muted (λ (n : Machine). IsOpen n.ending) g c c.requires.speakable.to_be_asked.going;
  handed = so-muted (λ (n : Machine). n.handed ≡ c.args.self.now.handed) g c refl;
  stands = λ start conf a s.
      let m = c.args.self.now in
      let now = g.C.Conduct.replies c.args.conduct.now in
      so-muted (λ (n : Machine). StandsFor (g.C.Conduct.replies c.content.new.self) start conf
      (actor_behind_question start conf a c.args.bytes.items) (holdings_of n)) g c
      (subst (λ (x : Replies). StandsFor x start conf (actor_behind_question start conf a c.args.bytes.items) (holdings_of (muted m)))
      (sym c.in_ok-bytes.ensures.same)
      (question-so now start conf a m (muted m) c.args.bytes.items IsSilent c.requires.formed c.requires.ready
      (sym c.in-Silent.is ∙ c.in_ok-bytes.ensures.told) s (muted-stands now start conf a m c.requires.speakable.to_be_asked s)));
}
