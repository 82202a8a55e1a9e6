use Rattle.std.proofs.Common.{ap}
use Rattle.std.proofs.lemmas.Result.{err_from_is_err_and}
use Rattle.outside.specs.Changes.{change_of}
use Rattle.member_spec.proofs.PlainLaws.{honest_is_plain}
use Rattle.member_spec.specs.contracts.conduct.HonestConduct.TheImpl.{replies-value}
use Rattle.offline_commands.specs.Delivery.{answer_bytes}
use Rattle.offline_commands.specs.Outside.{telling}
use Rattle.member_entry.specs.Entering.{MemberWords}
use Rattle.round_link.specs.Traffic.{shown_by}
use Rattle.online_commands.proofs.Stepping.{begun-named, no-memory, not-begun, not-entered, not-linked}
use Rattle.online_commands.proofs.Taken.{config-named, others-named, takes-part, tells-named}
use Rattle.online_commands.proofs.taking_part.take_part.Goals as goal

pub returns-in_err-entrant : goal.returns-in_err-entrant
returns-in_err-entrant g c =
    let p = err_from_is_err_and c.from_residual.result c.from_residual.ensures.1 in
    rw (p.1, p.2) (not-entered (change_of g.F.Files.faults g.F.Files.told c.args.files.now c.enter.new.files)
    (change_of g.D.Disk.faults (telling g.D.Disk.file g.D.Disk.names) c.args.disk.now c.enter.new.disk)
    c.args.command.now c.args.fresh.now (shown_by g.L.Link.faults g.L.Link.frames g.L.Link.ends g.L.Link.told c.args.link.now)
    c.in_err-entrant.field-0.0 c.in_err-entrant.ensures.entered)

pub returns-in_err-begin_link : goal.returns-in_err-begin_link
returns-in_err-begin_link g c =
    let p = err_from_is_err_and c.from_residual-in_err-begin_link.result c.from_residual-in_err-begin_link.ensures.1 in
    rw (p.1, p.2) (not-linked (change_of g.F.Files.faults g.F.Files.told c.args.files.now c.enter.new.files)
    (change_of g.D.Disk.faults (telling g.D.Disk.file g.D.Disk.names) c.args.disk.now c.enter.new.disk)
    c.args.command.now c.args.fresh.now (shown_by g.L.Link.faults g.L.Link.frames g.L.Link.ends g.L.Link.told c.args.link.now)
    (shown_by g.L.Link.faults g.L.Link.frames g.L.Link.ends g.L.Link.told c.begin_link.new.link)
    c.in_ok-entrant.entrant c.in_err-begin_link.field-0.0 c.in_ok-entrant.ensures.entered c.in_err-begin_link.ensures.idle
    c.in_err-begin_link.ensures.no_fall c.in_err-begin_link.ensures.failed)

pub returns-in_err-leaves : goal.returns-in_err-leaves
returns-in_err-leaves g c =
    let p = err_from_is_err_and c.from_residual-in_err-leaves.result c.from_residual-in_err-leaves.ensures.1 in
    rw (p.1, p.2) (not-begun (change_of g.F.Files.faults g.F.Files.told c.args.files.now c.enter.new.files)
    (change_of g.D.Disk.faults (telling g.D.Disk.file g.D.Disk.names) c.args.disk.now c.begin_round.new.disk)
    (telling g.D.Disk.file g.D.Disk.names c.enter.new.disk) (g.D.Disk.faults c.enter.new.disk)
    c.args.command.now c.args.fresh.now (shown_by g.L.Link.faults g.L.Link.frames g.L.Link.ends g.L.Link.told c.args.link.now)
    (shown_by g.L.Link.faults g.L.Link.frames g.L.Link.ends g.L.Link.told c.begin_link.new.link)
    c.in_ok-entrant.entrant c.begin_round.new.key c.in_err-leaves.field-0.0
    (record {
      enters = c.in_ok-entrant.ensures.entered;
      begins = begun-named _ _ _ _ _ _ (ap (λ (w : MemberWords). w.round) c.command.view_is) c.in_err-leaves.ensures.begun;
      beside = c.in_err-leaves.ensures.beside;
      idle = c.in_ok-begin_link.ensures.idle;
      link_count = c.in_ok-begin_link.ensures.no_fall;
    })
    (g.met.D.Disk.names_show_file c.enter.new.disk) (g.met.D.Disk.names_show_file c.begin_round.new.disk))

pub returns-in_err-member : goal.returns-in_err-member
returns-in_err-member g c =
    let p = err_from_is_err_and c.from_residual-in_err-member.result c.from_residual-in_err-member.ensures.1 in
    rw (p.1, p.2) (no-memory (change_of g.F.Files.faults g.F.Files.told c.args.files.now c.enter.new.files)
    (change_of g.D.Disk.faults (telling g.D.Disk.file g.D.Disk.names) c.args.disk.now c.begin_round.new.disk)
    (telling g.D.Disk.file g.D.Disk.names c.enter.new.disk) (g.D.Disk.faults c.enter.new.disk)
    c.args.command.now c.args.fresh.now (shown_by g.L.Link.faults g.L.Link.frames g.L.Link.ends g.L.Link.told c.args.link.now)
    (shown_by g.L.Link.faults g.L.Link.frames g.L.Link.ends g.L.Link.told c.begin_link.new.link)
    c.in_ok-entrant.entrant c.begin_round.new.key c.in_ok-leaves.leaves
    (record {
      enters = c.in_ok-entrant.ensures.entered;
      begins = begun-named _ _ _ _ _ _ (ap (λ (w : MemberWords). w.round) c.command.view_is) c.in_ok-leaves.ensures.begun;
      beside = c.in_ok-leaves.ensures.beside;
      idle = c.in_ok-begin_link.ensures.idle;
      link_count = c.in_ok-begin_link.ensures.no_fall;
    })
    (g.met.D.Disk.names_show_file c.enter.new.disk) (g.met.D.Disk.names_show_file c.begin_round.new.disk))

pub returns : goal.returns
returns g c =
    takes-part replies-value.it (change_of g.F.Files.faults g.F.Files.told c.args.files.now c.answer_of-answer.new.files)
    (g.F.Files.told c.enter.new.files) (g.F.Files.faults c.enter.new.files)
    (change_of g.D.Disk.faults (telling g.D.Disk.file g.D.Disk.names) c.args.disk.now c.begin_round.new.disk)
    (telling g.D.Disk.file g.D.Disk.names c.enter.new.disk) (g.D.Disk.faults c.enter.new.disk)
    c.args.command.now c.args.fresh.now (shown_by g.L.Link.faults g.L.Link.frames g.L.Link.ends g.L.Link.told c.args.link.now)
    (shown_by g.L.Link.faults g.L.Link.frames g.L.Link.ends g.L.Link.told c.begin_link.new.link)
    (shown_by g.L.Link.faults g.L.Link.frames g.L.Link.ends g.L.Link.told c.run_member-end.new.link)
    c.in_ok-entrant.entrant c.begin_round.new.key c.in_ok-leaves.leaves c.config_of-config.result c.in_ok-member.member
    c.run_member-end.new.member c.run_member-end.result (answer_bytes c.answer_of-answer.result)
    (record {
      enters = c.in_ok-entrant.ensures.entered;
      begins = begun-named _ _ _ _ _ _ (ap (λ (w : MemberWords). w.round) c.command.view_is) c.in_ok-leaves.ensures.begun;
      beside = c.in_ok-leaves.ensures.beside;
      idle = c.in_ok-begin_link.ensures.idle;
      link_count = c.in_ok-begin_link.ensures.no_fall;
    })
    (g.met.D.Disk.names_show_file c.enter.new.disk) (g.met.D.Disk.names_show_file c.begin_round.new.disk)
    (record {
      config_is = config-named c.in_ok-entrant.entrant c.args.fresh.now c.config_of-config.result _ _ (ap (λ (w : MemberWords). w.round) c.command.view_is) c.config_of-config.ensures;
      starts = c.in_ok-member.ensures.plain_member honest_is_plain;
      handed = c.in_ok-member.ensures.handed;
      ran = c.run_member-end.ensures;
      tells = tells-named replies-value.it (change_of g.F.Files.faults g.F.Files.told c.enter.new.files c.answer_of-answer.new.files)
          c.run_member-end.result c.run_member-end.new.member (answer_bytes c.answer_of-answer.result) _ _ (ap (λ (w : MemberWords). w.transcript) c.command.view_is) c.answer_of-answer.ensures.answer;
      others = others-named (g.F.Files.told c.enter.new.files) (g.F.Files.told c.answer_of-answer.new.files) _ _ (ap (λ (w : MemberWords). w.transcript) c.command.view_is) c.answer_of-answer.ensures.others;
      files_count = c.answer_of-answer.ensures.no_fall;
    })
