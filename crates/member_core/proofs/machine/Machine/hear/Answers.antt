use Rattle.std.proofs.Common.{arith, ap, sym, ◌∙◌, refl, subst}
use Rattle.std.proofs.lemmas.Result.{IfOk-from_err, IfOk-weaker}
use Rattle.phase_message.specs.Stages.{shape_of}
use Rattle.stage_log.specs.Table.{kept_in}
use Rattle.stage_log.proofs.Fronts.{some_is}
use Rattle.group_roster.specs.Given.{roster_of}
use Rattle.round_spec.specs.Embedded.{slot_named}
use Rattle.member_spec.specs.declared.taken.Taken.{Taken}
use Rattle.member_spec.specs.declared.taken.Taken.TheVariants.{Evidence, Same}
use Rattle.member_spec.specs.Taking.{LeavesAll}
use Rattle.member_parts.specs.declared.ending.Ending.TheVariants.{Blamed}
use Rattle.member_parts.specs.Endings.{IsRunning}
use Rattle.member_core.specs.declared.machine.Machine.{Machine}
use Rattle.member_core.specs.Found.{TellsEnding}
use Rattle.member_core.specs.Membership.{holdings_of}
use Rattle.member_core.specs.Sound.{IsFormed, IsSound}
use Rattle.member_core.proofs.Answering.{answer-busy, answer-tells, idle-tells, open-runs}
use Rattle.member_core.proofs.Comings.{found-other}
use Rattle.member_core.proofs.Hearing.{blame-busy, content-small, formed-ended, new-busy, sender-of, sound-blamed, storable, string-short, takes-blame, takes-new, takes-same}
use Rattle.member_core.proofs.Results.{if-three}
use Rattle.member_core.proofs.machine.Machine.hear.Goals as goal

pub find-found-requires : goal.find-found-requires
find-found-requires g c = content-small (roster_of c.args.self.now.roster) c.args.self.now.seat.round c.args.self.now.seat.number
    c.args.bytes.now c.args.header _ c.requires.post

pub store-requires : goal.store-requires
store-requires g c = record {
  sound = c.requires.sound;
  going = c.requires.going;
  post = storable c.args.self.now c.args.bytes.now c.args.header
      (record { content = c.args.parts.content.now; signature = c.args.parts.signature.now }) c.requires.sound.formed
      (λ i. omega (arith, c.type_inv.bytes i)) c.requires.post (sym c.find-found.ensures ∙ c.in-New.is);
}

pub blame-requires : goal.blame-requires
blame-requires g c = record {
  least = (sender-of c.args.self.now c.args.bytes.now c.args.header _ c.requires.sound.formed
      (λ i. omega (arith, c.type_inv.bytes i)) c.requires.post).least;
  most = (sender-of c.args.self.now c.args.bytes.now c.args.header _ c.requires.sound.formed
      (λ i. omega (arith, c.type_inv.bytes i)) c.requires.post).most;
  string = string-short (roster_of c.args.self.now.roster) c.args.self.now.seat.round c.args.self.now.seat.number
      c.args.bytes.now c.args.header _ (λ i. omega (arith, c.type_inv.bytes i)) c.requires.post;
  short = c.requires.sound.formed.short;
  other = λ other.
      let first = found-other (shape_of c.args.self.now.seat.shape) (kept_in c.args.self.now.log (slot_named c.args.header))
      c.args.parts.content.now
      (sym c.find-found.ensures ∙ other) in
      some_is (kept_in c.args.self.now.log (slot_named c.args.header)) first.0 first.1;
}

pub returns-in_err-blame-in-Malformed : goal.returns-in_err-blame-in-Malformed
returns-in_err-blame-in-Malformed g c =
    let r = c.from_residual in
    record {
      formed = subst IsFormed (sym c.in_err-blame-in-Malformed.ensures.same) c.requires.sound.formed;
      sound = IfOk-from_err r.result _ r.ensures.0;
      runs = IfOk-from_err r.result _ r.ensures.0;
      handed = IfOk-from_err r.result _ r.ensures.0;
      leaves = IfOk-from_err r.result _ r.ensures.0;
      conduct = IfOk-from_err r.result _ r.ensures.0;
      ending = IfOk-from_err r.result _ r.ensures.0;
      takes = IfOk-from_err r.result _ r.ensures.0;
      idle = λ start c' delivered s leaves. absurd
          (blame-busy (g.C.Conduct.replies c.args.conduct.now) start c' delivered c.args.self.now c.args.bytes.now c.args.header
          (record { content = c.args.parts.content.now; signature = c.args.parts.signature.now })
          c.find-found.result c.in-Malformed.is c.requires.sound.formed c.requires.going c.requires.post (sym c.find-found.ensures) s leaves);
    }

pub returns-in-Same : goal.returns-in-Same
returns-in-Same g c = record {
  formed = c.requires.sound.formed;
  sound = c.requires.sound;
  runs = open-runs c.args.self.now.ending c.requires.going;
  handed = refl;
  leaves = λ leaves. refl;
  conduct = λ leaves. refl;
  ending = idle-tells Same c.args.self.now.ending c.requires.going (λ e. cc) (λ e. cc);
  takes = λ start c' delivered s. takes-same (g.C.Conduct.replies c.args.conduct.now) start c' delivered
      c.args.self.now c.args.bytes.now c.args.header (record { content = c.args.parts.content.now; signature = c.args.parts.signature.now })
      c.requires.sound.formed c.requires.going c.requires.post (sym c.find-found.ensures ∙ c.in-Same.is) s;
  idle = λ start c' delivered s leaves. refl;
}

pub returns-in-New : goal.returns-in-New
returns-in-New g c = record {
  formed = c.store.ensures.formed;
  sound = c.store.ensures.sound;
  runs = c.store.ensures.runs;
  handed = c.store.ensures.handed;
  leaves = IfOk-weaker c.store.result _ _ (λ taken told leaves. absurd
      (answer-busy c.store.new.self.ending (subst LeavesAll told leaves))) c.store.ensures.answer;
  conduct = IfOk-weaker c.store.result _ _ (λ taken told leaves. absurd
      (answer-busy c.store.new.self.ending (subst LeavesAll told leaves))) c.store.ensures.answer;
  ending = IfOk-weaker c.store.result _ _ (λ taken told.
      subst (λ (t : Taken). TellsEnding t c.store.new.self.ending) (sym told) (answer-tells c.store.new.self.ending)) c.store.ensures.answer;
  takes = if-three _ _ _ _ c.store.result (λ taken runs told goes start c' delivered s.
      takes-new (g.C.Conduct.replies c.args.conduct.now) (g.C.Conduct.replies c.store.new.conduct) start c' delivered c.args.self.now
      c.args.bytes.now c.args.header (record { content = c.args.parts.content.now; signature = c.args.parts.signature.now })
      (holdings_of c.store.new.self) taken c.requires.sound.formed c.requires.going c.requires.post (sym c.find-found.ensures ∙ c.in-New.is) s
      runs told
      (λ a stands. goes start c' a stands)) c.store.ensures.runs c.store.ensures.answer c.store.ensures.stands;
  idle = λ start c' delivered s leaves. absurd
      (new-busy (g.C.Conduct.replies c.args.conduct.now) start c' delivered c.args.self.now c.args.bytes.now c.args.header
      (record { content = c.args.parts.content.now; signature = c.args.parts.signature.now })
      c.requires.sound.formed c.requires.going c.requires.post (sym c.find-found.ensures ∙ c.in-New.is) s leaves);
}

pub returns-in_ok-blame-in-Malformed : goal.returns-in_ok-blame-in-Malformed
returns-in_ok-blame-in-Malformed g c = record {
  formed = subst IsFormed (sym c.in_ok-blame-in-Malformed.ensures.blames.ended)
      (formed-ended c.args.self.now (Blamed c.in_ok-blame-in-Malformed.ensures.blames.shown) c.requires.sound.formed);
  sound = subst IsSound (sym c.in_ok-blame-in-Malformed.ensures.blames.ended)
      (sound-blamed c.args.self.now c.in_ok-blame-in-Malformed.ensures.blames.shown c.requires.sound.formed);
  runs = subst (λ (m : Machine). IsRunning m.ending)
      (sym c.in_ok-blame-in-Malformed.ensures.blames.ended) tt;
  handed = ap (λ (m : Machine). m.handed) c.in_ok-blame-in-Malformed.ensures.blames.ended;
  leaves = λ leaves. absurd leaves;
  conduct = λ leaves. refl;
  ending = subst (λ (m : Machine). TellsEnding Evidence m.ending)
      (sym c.in_ok-blame-in-Malformed.ensures.blames.ended) (answer-tells (Blamed c.in_ok-blame-in-Malformed.ensures.blames.shown));
  takes = λ start c' delivered s. takes-blame (g.C.Conduct.replies c.args.conduct.now) start c'
      delivered c.args.self.now c.blame.new.self c.args.bytes.now c.args.header
      (record { content = c.args.parts.content.now; signature = c.args.parts.signature.now })
      c.find-found.result c.in-Malformed.is c.requires.sound.formed c.requires.going c.requires.post (sym c.find-found.ensures) s
      c.in_ok-blame-in-Malformed.ensures.blames;
  idle = λ start c' delivered s leaves. refl;
}
