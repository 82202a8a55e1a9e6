use Rattle.dissent_words.specs.Forms.{requested}
use Rattle.dissent_words.specs.Request.{texts}
use Rattle.outside.specs.Changes.{change_of}
use Rattle.offline_commands.specs.Delivery.{answer_bytes}
use Rattle.offline_commands.specs.Outside.{telling}
use Rattle.online_commands.specs.Promise.{member_words}
use Rattle.round_link.specs.Traffic.{shown_by}
use Rattle.online_commands.proofs.Complete.{complete-words}
use Rattle.online_commands.proofs.Stepping.{outside_of}
use Rattle.online_commands.proofs.Telling.{member-run}
use Rattle.online_commands.proofs.top_call.run_online.Goals as goal

pub returns-clause-member : goal.returns-clause-member
returns-clause-member g c =
    member-run (outside_of (change_of g.F.Files.faults g.F.Files.told c.args.files.now c.answer_member-answer.new.files)
    (change_of g.D.Disk.faults (telling g.D.Disk.file g.D.Disk.names) c.args.disk.now c.answer_member-answer.new.disk)
    (shown_by g.L.Link.faults g.L.Link.frames g.L.Link.ends g.L.Link.told c.args.link.now)
    (shown_by g.L.Link.faults g.L.Link.frames g.L.Link.ends g.L.Link.told c.answer_member-answer.new.link))
    (change_of g.O.Sink.faults g.O.Sink.told c.args.out.now c.print.new.out) c.args.fresh.now
    (member_words (requested (texts c.args.words.now.items))) (answer_bytes c.answer_member-answer.result)
    c.print.result c.answer_member-answer.ensures c.print.ensures.delivers c.print.ensures.count

pub returns-clause-complete : goal.returns-clause-complete
returns-clause-complete g c =
    complete-words (outside_of (change_of g.F.Files.faults g.F.Files.told c.args.files.now c.answer_member-answer.new.files)
    (change_of g.D.Disk.faults (telling g.D.Disk.file g.D.Disk.names) c.args.disk.now c.answer_member-answer.new.disk)
    (shown_by g.L.Link.faults g.L.Link.frames g.L.Link.ends g.L.Link.told c.args.link.now)
    (shown_by g.L.Link.faults g.L.Link.frames g.L.Link.ends g.L.Link.told c.answer_member-answer.new.link))
    (change_of g.O.Sink.faults g.O.Sink.told c.args.out.now c.print.new.out) c.args.fresh.now
    (member_words (requested (texts c.args.words.now.items))) c.print.result
    (returns-clause-member g c)
