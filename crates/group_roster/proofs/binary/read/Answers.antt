use Rattle.std.proofs.Common.{◌∙◌}
use Rattle.group_roster.proofs.Rosters.{whole-holds, read-keys, form-keys}
use Rattle.group_roster.proofs.binary.read.Goals as goal

pub keys-requires-clause-few : goal.keys-requires-clause-few
keys-requires-clause-few c = (whole-holds c.args.bytes.now c.in_ok-size.size c.in_ok-size.ensures).0

pub keys-requires-clause-whole : goal.keys-requires-clause-whole
keys-requires-clause-whole c = (whole-holds c.args.bytes.now c.in_ok-size.size c.in_ok-size.ensures).1

pub invariant_of-result : goal.invariant_of-result
invariant_of-result c = record {
  form = form-keys c.args.bytes.now c.in_ok-size.size c.of.result (c.of.ensures ∙ c.in_ok-keys.ensures)
      c.in_ok-size.ensures;
}

pub returns-clause-exact : goal.returns-clause-exact
returns-clause-exact c = read-keys c.args.bytes.now c.in_ok-size.size c.of.result (c.of.ensures ∙ c.in_ok-keys.ensures) c.in_ok-size.ensures
