use Rattle.std.proofs.Common.{◌+◌, sym, subst}
use Rattle.std.specs.Prelude.{IsSome}
use Rattle.stage_log.specs.Log.{before}
use Rattle.member_core.specs.declared.machine.Machine.{Machine}
use Rattle.member_core.specs.Concluding.{HasSlotsFor}
use Rattle.member_core.specs.Sound.{IsFormed}
use Rattle.member_core.proofs.Verdicts.{formed-keys, full-there, has-slots, passes-all, steps-sound}
use Rattle.member_core.proofs.machine.Machine.pass.Goals as goal

pub judge-requires-clause-there : goal.judge-requires-clause-there
judge-requires-clause-there c =
    (full-there c.args.self.now c.requires.sound.formed (c.requires.sound.ready c.requires.open) c.requires.filled).there

pub carry_keys-requires-clause-there : goal.carry_keys-requires-clause-there
carry_keys-requires-clause-there c =
    (full-there c.args.self.now c.requires.sound.formed (c.requires.sound.ready c.requires.open) c.requires.filled).there

pub returns-in_err-carry_keys-clause-formed : goal.returns-in_err-carry_keys-clause-formed
returns-in_err-carry_keys-clause-formed c =
    subst IsFormed (sym c.carry_keys.ensures.same) (formed-keys c.args.self.now c.carry_keys.new.self.keys c.requires.sound.formed)

pub go_on-requires-clause-there : goal.go_on-requires-clause-there
go_on-requires-clause-there c =
    subst (λ (x : Machine). IsSome (before x.log (x.stage + 1))) (sym c.carry_keys.ensures.same)
    (full-there c.args.self.now c.requires.sound.formed (c.requires.sound.ready c.requires.open) c.requires.filled).there

pub conclude-requires : goal.conclude-requires
conclude-requires c =
    subst (λ (x : Machine). HasSlotsFor c.in_ok-judged.judged x.slots) (sym c.go_on.ensures.same)
    (subst (λ (x : Machine). HasSlotsFor c.in_ok-judged.judged x.slots) (sym c.carry_keys.ensures.same)
    (has-slots c.args.self.now c.in_ok-judged.judged (c.requires.sound.ready c.requires.open) c.in_ok-judged.ensures))

pub returns-clause-formed : goal.returns-clause-formed
returns-clause-formed c =
    (passes-all c.args.self.now c.carry_keys.new.self c.go_on.new.self c.conclude.new.self c.in_ok-judged.judged c.requires.sound
    c.requires.open
    c.requires.filled c.carry_keys.ensures.same c.in_ok-carry_keys.ensures.keys c.go_on.ensures.same c.go_on.ensures.seen c.conclude.ensures
    c.in_ok-judged.ensures).formed

pub returns-clause-sound : goal.returns-clause-sound
returns-clause-sound c =
    steps-sound c.args.self.now c.conclude.new.self
    (passes-all c.args.self.now c.carry_keys.new.self c.go_on.new.self c.conclude.new.self c.in_ok-judged.judged c.requires.sound
    c.requires.open
    c.requires.filled c.carry_keys.ensures.same c.in_ok-carry_keys.ensures.keys c.go_on.ensures.same c.go_on.ensures.seen c.conclude.ensures
    c.in_ok-judged.ensures)

pub returns-clause-stands : goal.returns-clause-stands
returns-clause-stands c =
    (passes-all c.args.self.now c.carry_keys.new.self c.go_on.new.self c.conclude.new.self c.in_ok-judged.judged c.requires.sound
    c.requires.open
    c.requires.filled c.carry_keys.ensures.same c.in_ok-carry_keys.ensures.keys c.go_on.ensures.same c.go_on.ensures.seen c.conclude.ensures
    c.in_ok-judged.ensures).stands
