use Rattle.std.proofs.Common.{inl, inr, refl, arith}
use Rattle.member_entry.proofs.Opening.{bad_key_file, found, not_chosen, opened_key, read_of, refused_at, refused_by_fault, refused_keeps, refused_stands, rose_over, unopened}
use Rattle.member_entry.proofs.entering.open_key.Goals as goal

pub returns-in-Failed-clause-opened : goal.returns-in-Failed-clause-opened
returns-in-Failed-clause-opened g c = not_chosen _ _ (c.in-Failed.ensures.failed refl)
    (refused_stands _ _ _ _ _ c.in-Failed.ensures.names (c.in-Failed.ensures.kept refl))
    (refused_keeps _ _ _ c.in-Failed.ensures.names) c.in-Failed.ensures.no_fall

pub returns-in-Ok-clause-opened : goal.returns-in-Ok-clause-opened
returns-in-Ok-clause-opened g c = opened_key _ _ _ _
    (found _ _ _ _ _ _ _ c.in-Done.ensures.names (c.in-Done.ensures.kept refl) c.in-Ok.ensures.beside c.in-Ok.ensures.kept
    (g.met.D.Disk.names_show_file c.choose.new.self) (g.met.D.Disk.names_show_file c.load.new.disk))
    (c.in-Done.ensures.kept refl) (read_of _ _ c.in-Ok.ensures.says c.in-Ok.ensures.works c.in-Ok.ensures.loaded)
    (omega (arith, c.in-Done.ensures.no_fall, c.in-Ok.ensures.no_fall))

pub returns-in-Err-NotKeyFile-clause-opened : goal.returns-in-Err-NotKeyFile-clause-opened
returns-in-Err-NotKeyFile-clause-opened g c = bad_key_file _ _ _ _
    (found _ _ _ _ _ _ _ c.in-Done.ensures.names (c.in-Done.ensures.kept refl) c.in-Err-NotKeyFile.ensures.beside c.in-Err-NotKeyFile.ensures.kept
    (g.met.D.Disk.names_show_file c.choose.new.self) (g.met.D.Disk.names_show_file c.load.new.disk))
    (c.in-Done.ensures.kept refl) (refused_at c.in-Err-NotKeyFile.field-0 _ (g.D.Disk.file c.choose.new.self) (g.D.Disk.faults c.choose.new.self)
    (g.D.Disk.faults c.load.new.disk) c.in-Err-NotKeyFile.field-0-is c.in-Err-NotKeyFile.ensures.refused)
    (omega (arith, c.in-Done.ensures.no_fall, c.in-Err-NotKeyFile.ensures.no_fall))

pub returns-in-Err-Memory-clause-opened : goal.returns-in-Err-Memory-clause-opened
returns-in-Err-Memory-clause-opened g c = unopened _ _ _
    (found _ _ _ _ _ _ _ c.in-Done.ensures.names (c.in-Done.ensures.kept refl) c.in-Err-Memory.ensures.beside c.in-Err-Memory.ensures.kept
    (g.met.D.Disk.names_show_file c.choose.new.self) (g.met.D.Disk.names_show_file c.load.new.disk))
    (inl refl) (omega (arith, c.in-Done.ensures.no_fall, c.in-Err-Memory.ensures.no_fall))

pub returns-in-Err-DiskFault-clause-opened : goal.returns-in-Err-DiskFault-clause-opened
returns-in-Err-DiskFault-clause-opened g c = unopened _ _ _
    (found _ _ _ _ _ _ _ c.in-Done.ensures.names (c.in-Done.ensures.kept refl) c.in-Err-DiskFault.ensures.beside c.in-Err-DiskFault.ensures.kept
    (g.met.D.Disk.names_show_file c.choose.new.self) (g.met.D.Disk.names_show_file c.load.new.disk))
    (inr (
      refl,
      rose_over (g.D.Disk.faults c.args.disk.now)
          (g.D.Disk.faults c.choose.new.self) (g.D.Disk.faults c.load.new.disk) c.in-Done.ensures.no_fall
          (refused_by_fault c.in-Err-DiskFault.field-0 (g.D.Disk.file c.choose.new.self) (g.D.Disk.faults c.choose.new.self)
          (g.D.Disk.faults c.load.new.disk) c.in-Err-DiskFault.field-0-is c.in-Err-DiskFault.ensures.refused),
    ))
    (omega (arith, c.in-Done.ensures.no_fall, c.in-Err-DiskFault.ensures.no_fall))
