use Rattle.std.proofs.Common.{arith, ◌∙◌}
use Rattle.host_disk.proofs.Calls.{goes_on, part-of, starts}
use Rattle.host_disk.proofs.transfer.write_all.Goals as goal
use Rattle.host_disk.proofs.transfer.write_all.Goals.{in-Ok, in-Err}

pub loop-init : goal.loop-init
loop-init g c = (omega arith, starts (g.F.PlacedFile.told c.args.file.now) c.args.bytes.now)

pub returns-in-Ok-eq0-clause-part : goal.returns-in-Ok-eq0-clause-part
returns-in-Ok-eq0-clause-part g c =
    part-of (g.F.PlacedFile.told c.args.file.now) (g.F.PlacedFile.told c.loop.file) (g.F.PlacedFile.told c.write_some.new.self)
    c.args.bytes.now c.split_at.result.1.now c.loop.put c.write_some.result c.loop.invariant.1 c.split_at.ensures.back c.write_some.ensures.written

pub loop-preserved : goal.loop-preserved
loop-preserved g c =
    let old = g.F.PlacedFile.told c.args.file.now in
    let mid = g.F.PlacedFile.told c.loop.file in
    let new = g.F.PlacedFile.told c.write_some.new.self in
    elim c.match-write_some.branch [
      | in-Ok w ↦ rw w.put-is (
        omega (arith, w.in-Ok.ensures.bounded, c.split_at.ensures.back_len, c.loop.invariant.0),
        goes_on old mid new c.args.bytes.now c.split_at.result.1.now c.loop.put w.in-Ok.count c.loop.invariant.1 c.split_at.ensures.back w.in-Ok.ensures.written,
      )
      | in-Err w ↦ rw w.put-is (c.loop.invariant.0, w.in-Err.ensures.written ∙ c.loop.invariant.1)
    ]
