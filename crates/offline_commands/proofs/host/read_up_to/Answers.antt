use Rattle.std.proofs.Common.{◌≡◌, ◌++◌, ℕ, List, IfSome, arith, subst, vec_items}
use Rattle.std.specs.Io.Take.{take_remaining}
use Rattle.offline_commands.proofs.Adapters.{read-taken}
use Rattle.offline_commands.proofs.host.read_up_to.Goals as goal

pub returns-clause-all : goal.returns-clause-all
returns-clause-all g c =
    let known = take_remaining g.R.Read.remaining c.take.result in
    let read = vec_items c.read_to_end.new.buf in
    read-taken g.R.Read.remaining c.take.result c.args.reader c.args.limit read
    (rw (← c.from.ensures) c.take.ensures.limit) c.take.ensures.inner
    (subst (λ (before : List ℕ). IfSome known (λ xs. read ≡ before ++ xs)) c.new-bytes.ensures.items c.in_ok-read_to_end.ensures.bytes)
    (omega (arith, c.len.ensures, c.if-len-limit.false))
