use Rattle.std.proofs.Common.{arith}
use Rattle.phase_message.specs.declared.stage.StageKind.TheVariants.{Keys}
use Rattle.honest_say.specs.Own.{AreBulkSecrets, AreShuffleSecrets}
use Rattle.member_core.proofs.Belonging.{held-is, holds-bulk, holds-first, holds-second, not-missing}
use Rattle.member_core.proofs.Due.{keys-due}
use Rattle.member_core.proofs.StageKinds.{kind-place}
use Rattle.member_core.proofs.machine.Machine.keys_due.Goals as goal

pub unreachable-requires : goal.unreachable-requires
unreachable-requires c =
    let m = c.args.self.now in
    let placed = kind-place m.log.shape m.stage Keys c.requires.kind in
    not-missing m.secrets.first (holds-first m c.requires.needed c.requires.asked (omega (arith, placed.at))) c.in_default.is

pub unreachable-unreachable : goal.unreachable-unreachable
unreachable-unreachable c = c.unreachable.type_inv

pub unreachable-requires-in_default-bulk : goal.unreachable-requires-in_default-bulk
unreachable-requires-in_default-bulk c =
    let m = c.args.self.now in
    let placed = kind-place m.log.shape m.stage Keys c.requires.kind in
    not-missing m.secrets.bulk (holds-bulk m c.requires.needed c.requires.asked (omega (arith, placed.at))) c.in_default-bulk.is

pub unreachable-unreachable-in_default-bulk : goal.unreachable-unreachable-in_default-bulk
unreachable-unreachable-in_default-bulk c = c.unreachable-in_default-bulk.type_inv

pub unreachable-requires-in_default-second : goal.unreachable-requires-in_default-second
unreachable-requires-in_default-second c =
    let m = c.args.self.now in
    let placed = kind-place m.log.shape m.stage Keys c.requires.kind in
    not-missing m.secrets.second (holds-second m c.requires.needed c.requires.asked (omega (arith, placed.at))) c.in_default-second.is

pub unreachable-unreachable-in_default-second : goal.unreachable-unreachable-in_default-second
unreachable-unreachable-in_default-second c = c.unreachable-in_default-second.type_inv

pub returns : goal.returns
returns c = λ now.
    let m = c.args.self.now in
    keys-due now m c.keys_body.result c.requires.formed c.requires.asked c.requires.kind (λ config secrets. c.keys_body.ensures config
    (held-is m.secrets.first c.in-Some.first (AreShuffleSecrets config 1) c.in-Some.is secrets.first)
    (held-is m.secrets.bulk c.in-Some-bulk.bulk (AreBulkSecrets config) c.in-Some-bulk.is secrets.bulk)
    (held-is m.secrets.second c.in-Some-second.second (AreShuffleSecrets config 2) c.in-Some-second.is secrets.second))
