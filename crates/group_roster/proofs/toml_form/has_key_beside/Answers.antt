use Rattle.std.proofs.Common.{sym, ◌∙◌}
use Rattle.group_roster.proofs.TomlLemmas.{beside-found, beside-next, beside-none}
use Rattle.group_roster.proofs.toml_form.has_key_beside.Goals as goal

pub returns-then-not-is_among : goal.returns-then-not-is_among
returns-then-not-is_among c =
    beside-found c.args.names.now c.args.table.now c.loop-key.key-iterator c.next.new.self c.in-Some.key.now c.deref.result.now
    c.loop-key.invariant.2 c.in-Some.ensures.steps c.deref.ensures (sym c.is_among.ensures ∙ c.if-not-is_among.true)

pub loop-key-preserved : goal.loop-key-preserved
loop-key-preserved c = (
  c.loop-key.invariant.0,
  c.loop-key.invariant.1,
  beside-next c.args.names.now c.loop-key.key-iterator c.next.new.self c.in-Some.key.now c.deref.result.now _
      c.loop-key.invariant.2 c.in-Some.ensures.steps c.deref.ensures (sym c.is_among.ensures ∙ c.if-not-is_among.false),
)

pub returns : goal.returns
returns c = beside-none c.args.names.now c.args.table.now c.loop-key.key-iterator c.loop-key.invariant.2 c.in-None.ensures.steps.0
