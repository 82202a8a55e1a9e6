use Rattle.std.proofs.Common.{sym, ◌∙◌}
use Rattle.ring_encrypt.proofs.ReducedLemmas.{not_reduced, reduced_as_told}
use Rattle.ring_encrypt.proofs.capsules.Capsule.is_reduced.Goals as goal

pub returns-then-is_ok : goal.returns-then-is_ok
returns-then-is_ok c =
    c.is_ok-then-is_ok.ensures.value
    ∙ reduced_as_told c.self.inside.bytes c.args.self.now c.unpack.result c.unpack_short.result c.self.view_is c.self.told
    c.unpack.ensures.value c.unpack_short.ensures.value (sym c.is_ok.ensures.value ∙ c.if-is_ok.true)

pub returns-else-is_ok : goal.returns-else-is_ok
returns-else-is_ok c =
    c.if-is_ok.false
    ∙ not_reduced c.self.inside.bytes c.args.self.now c.unpack.result c.self.view_is c.unpack.ensures.value
    (sym c.is_ok.ensures.value ∙ c.if-is_ok.false)
