use Rattle.std.proofs.Common.{arith, take}
use Rattle.offline_commands.proofs.Adapters.{gains-kept, gains-more, gains-part, gains-written}
use Rattle.offline_commands.proofs.host.put_all.Goals as goal
use Rattle.offline_commands.proofs.host.put_all.Goals.{in-Ok, in-Err}

pub returns-in-Ok-eq0-clause-part : goal.returns-in-Ok-eq0-clause-part
returns-in-Ok-eq0-clause-part g c =
    gains-written (g.W.Write.contents c.args.writer.now) (g.W.Write.contents c.loop.writer) (g.W.Write.contents c.write.new.self)
    c.args.piece.now c.split_at.result.1.now c.loop.put c.write.result c.loop.invariant.1 c.split_at.ensures.back c.write.ensures.bytes

pub returns-in-Err-2-clause-part : goal.returns-in-Err-2-clause-part
returns-in-Err-2-clause-part g c =
    gains-written (g.W.Write.contents c.args.writer.now) (g.W.Write.contents c.loop.writer) (g.W.Write.contents c.write.new.self)
    c.args.piece.now c.split_at.result.1.now c.loop.put c.write.result c.loop.invariant.1 c.split_at.ensures.back c.write.ensures.bytes

pub loop-preserved : goal.loop-preserved
loop-preserved g c =
    let old = g.W.Write.contents c.args.writer.now in
    let mid = g.W.Write.contents c.loop.writer in
    let new = g.W.Write.contents c.write.new.self in
    elim c.match-write.branch [
      | in-Ok w ↦ rw w.put-is (
        omega (arith, w.in-Ok.ensures.bound, c.split_at.ensures.back_len, c.loop.invariant.0),
        gains-more old mid new c.args.piece.now c.split_at.result.1.now c.loop.put w.in-Ok.count c.loop.invariant.1 c.split_at.ensures.back
            w.in-Ok.ensures.bytes,
      )
      | in-Err w ↦ rw w.put-is (
        c.loop.invariant.0,
        gains-kept old mid new (take c.loop.put c.args.piece.now) c.loop.invariant.1
            w.in-Err.ensures.bytes,
      )
    ]

pub returns-clause-part : goal.returns-clause-part
returns-clause-part g c =
    gains-part (g.W.Write.contents c.args.writer.now) (g.W.Write.contents c.loop.writer) c.args.piece.now c.loop.put c.loop.invariant.1
