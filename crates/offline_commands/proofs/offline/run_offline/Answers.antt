use Rattle.offline_commands.proofs.Promised.{follows, complete, borne_out, usage, read_fault, disk_fault, write_fault, untouched}
use Rattle.offline_commands.proofs.offline.run_offline.Goals as goal

pub returns : goal.returns
returns g c =
    let answered = c.answer_words-answer.ensures in
    let printed = c.print.ensures in record {
      ends = (_, answered, printed.delivers);
      follows = follows _ _ _ _ _ _ answered printed;
      complete = complete _ _ _ _ _ _ answered printed;
      borne_out = borne_out _ _ _ _ _ _ answered printed;
      usage = usage _ _ _ _ _ _ answered printed;
      read_fault = read_fault _ _ _ _ _ _ answered printed;
      disk_fault = disk_fault _ _ _ _ _ _ answered printed;
      write_fault = write_fault _ _ _ _ _ _ answered printed;
      files_kept = answered.files_kept;
      untouched = untouched _ _ _ _ _ _ answered printed;
      disk_kept = answered.disk_kept;
      disk_stood = answered.disk_stood;
      files_count = answered.files_count;
      disk_count = answered.disk_count;
      sink_count = printed.count;
    }
