use Rattle.go_nogo.proofs.OneKind.{one-kind}
use Rattle.go_nogo.proofs.laws.one_kind.Goals as goal

pub returns : goal.returns
returns c = one-kind
