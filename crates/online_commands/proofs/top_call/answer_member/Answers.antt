use Rattle.dissent_words.specs.Forms.{requested}
use Rattle.dissent_words.specs.Request.{texts}
use Rattle.offline_commands.specs.Outside.{telling}
use Rattle.online_commands.specs.Promise.{member_words}
use Rattle.round_link.specs.Traffic.{shown_by}
use Rattle.online_commands.proofs.Answering.{wanting}
use Rattle.online_commands.proofs.top_call.answer_member.Goals as goal

pub returns : goal.returns
returns g c =
    wanting (g.F.Files.told c.args.files.now) (g.F.Files.faults c.args.files.now)
    (telling g.D.Disk.file g.D.Disk.names c.args.disk.now) (g.D.Disk.faults c.args.disk.now)
    (shown_by g.L.Link.faults g.L.Link.frames g.L.Link.ends g.L.Link.told c.args.link.now) c.args.fresh.now
    (member_words (requested (texts c.args.words.now.items)))
