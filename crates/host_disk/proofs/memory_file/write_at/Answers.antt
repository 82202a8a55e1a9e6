use Rattle.std.proofs.Common.{rules, arith, ap, sym, ◌≡◌, ◌+◌, ◌-◌, ◌<◌, ◌++◌, ◌∙◌, ℕ, length}
use Rattle.std.specs.Prelude.{replicate}
use Rattle.host_disk.proofs.Written.{written-none, written-whole}
use Rattle.host_disk.proofs.memory_file.write_at.Goals as goal

pub returns-then-is_empty-clause-written : goal.returns-then-is_empty-clause-written
returns-then-is_empty-clause-written c =
    let none : length c.args.bytes.now ≡ 0 = search rules in
    sym (written-none c.args.file.now.items c.args.at c.args.bytes.now none)

pub returns-clause-written : goal.returns-clause-written
returns-clause-written c =
    let old = c.args.file.now.items in
    let some : 0 < length c.args.bytes.now = search rules in
    let ends : c.in-Some.end ≡ c.args.at + length c.args.bytes.now = search rules in
    let filled : c.deref_mut.result.now ≡ old ++ replicate (c.args.at + length c.args.bytes.now - length old) 0 =
    c.deref_mut.ensures.value ∙ c.in_ok-fill_to.ensures.filled ∙ ap (λ (n : ℕ). old ++ replicate (n - length old) 0) ends in
    written-whole old c.deref_mut.result.now c.overwrite.new.all _ c.args.at c.fill_to.new.bytes.len c.args.bytes.now some filled
    c.overwrite.ensures (omega (arith, c.deref_mut.ensures.len))
