use Rattle.std.proofs.Common.{arith, ◌≡◌, length, take, List, ℕ, ap, ◌∙◌}
use Rattle.std.proofs.lemmas.List.{length-take}
use Rattle.crash_disk.specs.Disk.{overwritten}
use Rattle.crash_disk.proofs.Overwrites.{written_within}
use Rattle.crash_disk.proofs.room.Room.write.Goals as goal

pub returns : goal.returns
returns c =
    let was : take c.self.inside.size c.self.inside.buffer.items ≡ c.args.self.now = c.self.view_is in
    let size : length (take c.self.inside.size c.self.inside.buffer.items) ≡ length c.args.self.now = ap length was in
    let value : c.deref_mut.result.now ≡ c.self.inside.buffer.items = c.deref_mut.ensures.value in
    let whole : length c.overwrite.new.all ≡ c.self.inside.buffer.len = omega (arith, ap length value) in
    written_within c.self.inside.buffer.items c.overwrite.new.all _ c.args.bytes.now c.args.at c.self.inside.size c.max-self-inside.result
    c.self.inside.buffer.len (c.overwrite.ensures ∙ ap (λ (l : List ℕ). overwritten l c.args.at c.args.bytes.now) value) whole
    (omega (arith, size, c.requires.place, length-take c.self.inside.size c.self.inside.buffer.items))
    (omega (arith, c.requires.room, c.self.invariant)) c.max-self-inside.ensures
    ∙ ap (λ (l : List ℕ). overwritten l c.args.at c.args.bytes.now) was
