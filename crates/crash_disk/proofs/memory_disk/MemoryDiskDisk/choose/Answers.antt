use Rattle.std.specs.Prelude.{string_bytes}
use Rattle.crash_disk.specs.Memory.{fails_choice}
use Rattle.crash_disk.proofs.Named.{choice, choice_allowed}
use Rattle.crash_disk.proofs.memory_disk.MemoryDiskDisk.choose.Goals as goal

pub returns-clause-names : goal.returns-clause-names
returns-clause-names c =
    (choice (fails_choice c.args.self.now (string_bytes c.args.name.now) c.args.fresh) c.args.fresh c.choose_file.result c.args.self.now
    c.choose_file.new.self (string_bytes c.args.name.now)
    c.choose_file.ensures.answer c.choose_file.ensures.after (choice_allowed c.args.self.now (string_bytes c.args.name.now)
    c.args.fresh)).names

pub returns-clause-emptied : goal.returns-clause-emptied
returns-clause-emptied c =
    (choice (fails_choice c.args.self.now (string_bytes c.args.name.now) c.args.fresh) c.args.fresh c.choose_file.result c.args.self.now
    c.choose_file.new.self (string_bytes c.args.name.now)
    c.choose_file.ensures.answer c.choose_file.ensures.after (choice_allowed c.args.self.now (string_bytes c.args.name.now)
    c.args.fresh)).emptied

pub returns-clause-kept : goal.returns-clause-kept
returns-clause-kept c =
    (choice (fails_choice c.args.self.now (string_bytes c.args.name.now) c.args.fresh) c.args.fresh c.choose_file.result c.args.self.now
    c.choose_file.new.self (string_bytes c.args.name.now)
    c.choose_file.ensures.answer c.choose_file.ensures.after (choice_allowed c.args.self.now (string_bytes c.args.name.now)
    c.args.fresh)).kept

pub returns-clause-images : goal.returns-clause-images
returns-clause-images c =
    (choice (fails_choice c.args.self.now (string_bytes c.args.name.now) c.args.fresh) c.args.fresh c.choose_file.result c.args.self.now
    c.choose_file.new.self (string_bytes c.args.name.now)
    c.choose_file.ensures.answer c.choose_file.ensures.after (choice_allowed c.args.self.now (string_bytes c.args.name.now)
    c.args.fresh)).images

pub returns-clause-time : goal.returns-clause-time
returns-clause-time c =
    (choice (fails_choice c.args.self.now (string_bytes c.args.name.now) c.args.fresh) c.args.fresh c.choose_file.result c.args.self.now
    c.choose_file.new.self (string_bytes c.args.name.now)
    c.choose_file.ensures.answer c.choose_file.ensures.after (choice_allowed c.args.self.now (string_bytes c.args.name.now)
    c.args.fresh)).time
