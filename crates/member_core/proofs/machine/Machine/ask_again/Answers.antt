use Rattle.std.proofs.Common.{◌≡◌, ℕ, List, ap, sym, ◌∙◌, refl, subst}
use Rattle.std.proofs.lemmas.Result.{IfOk-from_err, IfOk-weaker}
use Rattle.member_spec.specs.declared.mood.Mood.TheVariants.{Unasked}
use Rattle.member_spec.specs.Actor.{Actor, actor_behind_question, actor_behind_repeat}
use Rattle.member_core.specs.Membership.{holdings_of}
use Rattle.member_core.specs.Sound.{IsPutOff}
use Rattle.member_core.specs.Stands.{StandsFor}
use Rattle.member_core.proofs.Changes.{formed-mood}
use Rattle.member_core.proofs.Repeating.{question-again, ready-unasked, repeat-none, speakable-again, stands-again, with_mood}
use Rattle.member_core.proofs.machine.Machine.ask_again.Goals as goal

pub returns-in_default : goal.returns-in_default
returns-in_default g c = record {
  formed = c.requires.sound.formed;
  sound = c.requires.sound;
  going = c.requires.going;
  handed = refl;
  stands = λ start c' a s. subst (λ (b : Actor). StandsFor (g.C.Conduct.replies c.args.conduct.now) start c' b
      (holdings_of c.args.self.now))
      (sym (repeat-none start c' a a.mood (λ bytes e. c.in_default.not-PutOff bytes (s.at.mood ∙ e)))) s;
}

pub returns-in_err-bytes : goal.returns-in_err-bytes
returns-in_err-bytes g c =
    let r = c.from_residual in
    record {
      formed = c.requires.sound.formed;
      sound = IfOk-from_err r.result _ r.ensures.0;
      going = IfOk-from_err r.result _ r.ensures.0;
      handed = IfOk-from_err r.result _ r.ensures.0;
      stands = IfOk-from_err r.result _ r.ensures.0;
    }

pub ask-requires : goal.ask-requires
ask-requires g c = record {
  formed = formed-mood c.args.self.now Unasked c.requires.sound.formed;
  ready = ready-unasked c.args.self.now _ c.in-PutOff.is (c.requires.sound.ready c.requires.going);
  speakable = speakable-again c.args.self.now _ c.in-PutOff.is c.requires.going
      (c.requires.sound.ready c.requires.going) c.requires.sound.needed;
  question = (let copied : c.in_ok-bytes.bytes.items ≡ c.in-PutOff.bytes = c.in_ok-bytes.ensures.items ∙ c.deref.ensures.value ∙ c.items.ensures in
      subst (λ (bytes : List ℕ). IsPutOff (with_mood c.args.self.now Unasked) bytes) (sym copied)
      (question-again c.args.self.now c.in-PutOff.bytes c.in-PutOff.is (c.requires.sound.ready c.requires.going))
      );
}

pub returns : goal.returns
returns g c = record {
  formed = c.ask.ensures.formed;
  sound = c.ask.ensures.sound;
  going = c.ask.ensures.going;
  handed = c.ask.ensures.handed;
  stands = (let bytes : List ℕ = c.in-PutOff.bytes in
      let copied : c.in_ok-bytes.bytes.items ≡ bytes = c.in_ok-bytes.ensures.items ∙ c.deref.ensures.value ∙ c.items.ensures in
      IfOk-weaker c.ask.result _ _ (λ x stands start c' a s.
      subst (λ (b : Actor). StandsFor (g.C.Conduct.replies c.ask.new.conduct) start c' b (holdings_of c.ask.new.self))
      (ap (actor_behind_question start c' a) copied ∙ sym (ap (actor_behind_repeat start c' a) (sym s.at.mood ∙ c.in-PutOff.is)))
      (stands start c' a (stands-again (g.C.Conduct.replies c.args.conduct.now) start c' a (holdings_of c.args.self.now) bytes c.in-PutOff.is
      s))) c.ask.ensures.stands
      );
}
