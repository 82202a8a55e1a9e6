use Rattle.std.proofs.Common.{◌≡◌, ap, sym, ◌∙◌, subst}
use Rattle.std.proofs.lemmas.Result.{IfOk-from_err}
use Rattle.phase_message.specs.declared.post.Post.{Post}
use Rattle.stage_log.specs.Table.{filled}
use Rattle.round_spec.specs.Embedded.{slot_named}
use Rattle.round_spec.specs.Say.{Configuration}
use Rattle.member_spec.specs.Actor.{Actor, actor_behind_repeat, actor_behind_steps}
use Rattle.member_spec.specs.Replies.{Replies}
use Rattle.member_parts.specs.Endings.{IsOpen}
use Rattle.member_core.specs.declared.machine.Machine.{Machine}
use Rattle.member_core.specs.Found.{answer_behind}
use Rattle.member_core.specs.Membership.{holdings_of}
use Rattle.member_core.specs.Sound.{IsFormed, IsSound}
use Rattle.member_core.specs.Stands.{StandsFor}
use Rattle.member_core.proofs.Answering.{answer-stored, open-runs}
use Rattle.member_core.proofs.Storing.{sound-stays, stands-stays}
use Rattle.member_core.proofs.machine.Machine.store.Goals as goal
use Rattle.member_core.proofs.machine.Machine.store.Goals.{In_ok-advance}

pub keep-requires : goal.keep-requires
keep-requires g c = record {
  speaks = c.requires.post.others.speaks;
  empty = c.requires.post.others.empty;
  content = c.requires.post.kept;
}

pub returns-in_err-keep : goal.returns-in_err-keep
returns-in_err-keep g c =
    let r = c.from_residual in
    record {
      formed = subst IsFormed (sym c.in_err-keep.ensures.same) c.requires.sound.formed;
      sound = IfOk-from_err r.result _ r.ensures.0;
      runs = IfOk-from_err r.result _ r.ensures.0;
      handed = IfOk-from_err r.result _ r.ensures.0;
      answer = IfOk-from_err r.result _ r.ensures.0;
      stands = IfOk-from_err r.result _ r.ensures.0;
    }

pub ask_again-requires : goal.ask_again-requires
ask_again-requires g c = record {
  sound = (let post : Post = record { content = c.args.parts.content.now; signature = c.args.parts.signature.now } in
      subst IsSound (sym c.in_ok-keep.ensures.kept) (sound-stays c.args.self.now (slot_named c.args.header) post c.requires.post
      c.requires.sound)
      );
  going = subst (λ (m : Machine). IsOpen m.ending) (sym c.in_ok-keep.ensures.kept) c.requires.going;
}

pub returns-in_err-ask_again : goal.returns-in_err-ask_again
returns-in_err-ask_again g c =
    let r = c.from_residual-in_err-ask_again in
    record {
      formed = c.ask_again.ensures.formed;
      sound = IfOk-from_err r.result _ r.ensures.0;
      runs = IfOk-from_err r.result _ r.ensures.0;
      handed = IfOk-from_err r.result _ r.ensures.0;
      answer = IfOk-from_err r.result _ r.ensures.0;
      stands = IfOk-from_err r.result _ r.ensures.0;
    }

pub advance-requires : goal.advance-requires
advance-requires g c = record {
  sound = c.in_ok-ask_again.ensures.sound;
  running = open-runs _ c.in_ok-ask_again.ensures.going;
}

pub returns-in_err-advance : goal.returns-in_err-advance
returns-in_err-advance g c =
    let r = c.from_residual-in_err-advance in
    record {
      formed = c.advance.ensures.formed;
      sound = IfOk-from_err r.result _ r.ensures.0;
      runs = IfOk-from_err r.result _ r.ensures.0;
      handed = IfOk-from_err r.result _ r.ensures.0;
      answer = IfOk-from_err r.result _ r.ensures.0;
      stands = IfOk-from_err r.result _ r.ensures.0;
    }

-- what its steps leave of what was handed out
handed-on : (g : Rattle.member_core.proofs.machine.Machine.store.Given.Over) (c : In_ok-advance g)
    → c.advance.new.self.handed ≡ c.args.self.now.handed
handed-on g c = c.in_ok-advance.ensures.handed ∙ c.in_ok-ask_again.ensures.handed
    ∙ ap (λ (m : Machine). m.handed) c.in_ok-keep.ensures.kept

-- and what it stands for behind them
stands-on : (g : Rattle.member_core.proofs.machine.Machine.store.Given.Over) (c : In_ok-advance g) (start : Replies) (c' : Configuration)
    (a : Actor) → StandsFor (g.C.Conduct.replies c.args.conduct.now) start c' a (holdings_of c.args.self.now)
    → StandsFor (g.C.Conduct.replies c.advance.new.conduct) start c' (actor_behind_steps start c' (actor_behind_repeat start c'
    (record a {
      log = filled a.log (slot_named c.args.header) (record {
        content = c.args.parts.content.now;
        signature = c.args.parts.signature.now;
      });
    })
    a.mood)) (holdings_of c.advance.new.self)
stands-on g c start c' a s =
    let slot = slot_named c.args.header in
    let post : Post = record { content = c.args.parts.content.now; signature = c.args.parts.signature.now } in
    let b : Actor = record a { log = filled a.log slot post } in
    let kept = stands-stays (g.C.Conduct.replies c.args.conduct.now) start c' a (holdings_of c.args.self.now) slot post
    c.requires.post.others c.requires.going s in
    c.in_ok-advance.ensures.stands start c' _ (c.in_ok-ask_again.ensures.stands start c' b
    (subst (λ (m : Machine). StandsFor (g.C.Conduct.replies c.args.conduct.now) start c' b (holdings_of m)) (sym c.in_ok-keep.ensures.kept)
    kept))

pub returns-in-Blamed : goal.returns-in-Blamed
returns-in-Blamed g c = record {
  formed = c.advance.ensures.formed;
  sound = c.in_ok-advance.ensures.sound;
  runs = c.in_ok-advance.ensures.runs;
  handed = handed-on g (goal.at.returns-in-Blamed g c).In_ok-advance;
  answer = sym (ap answer_behind c.in-Blamed.is);
  stands = stands-on g (goal.at.returns-in-Blamed g c).In_ok-advance;
}

pub returns-in_default : goal.returns-in_default
returns-in_default g c = record {
  formed = c.advance.ensures.formed;
  sound = c.in_ok-advance.ensures.sound;
  runs = c.in_ok-advance.ensures.runs;
  handed = handed-on g (goal.at.returns-in_default g c).In_ok-advance;
  answer = answer-stored c.advance.new.self.ending (λ conviction e. c.in_default.not-Blamed conviction e);
  stands = stands-on g (goal.at.returns-in_default g c).In_ok-advance;
}
