use Rattle.group_laws.proofs.Kept.{members_keep_their_promise}
use Rattle.group_laws.proofs.Worlds.{deliveries_are_bytes}
use Rattle.group_laws.proofs.laws.members_keep_their_promise.Goals as goal

pub returns-clause-promise : goal.returns-clause-promise
returns-clause-promise c = members_keep_their_promise

pub returns-clause-bytes : goal.returns-clause-bytes
returns-clause-bytes c = deliveries_are_bytes
