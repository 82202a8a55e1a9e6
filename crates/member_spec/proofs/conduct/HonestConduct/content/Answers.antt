use Rattle.std.specs.Prelude.{List, ℕ}
use Rattle.member_spec.specs.Replies.{KeepsSlot}
use Rattle.std.proofs.Common.{subst, sym}
use Rattle.member_spec.proofs.Named.{names_slot}
use Rattle.member_spec.proofs.conduct.HonestConduct.content.Goals as goal

pub returns-clause-slot : goal.returns-clause-slot
returns-clause-slot c = λ slot has. subst (λ (bytes : List ℕ). KeepsSlot c.args.log.now.shape slot bytes) (sym c.of.ensures)
    (names_slot c.args.log.now.shape slot c.args.bytes.items has)
