use Rattle.std.proofs.Common.{◌≡◌, ℕ, List, ap, sym, ◌∙◌, arith}
use Rattle.std.proofs.lemmas.Result.{IfOk-weaker}
use Rattle.phase_message.specs.Shape.{Shape}
use Rattle.shuffle_blame.specs.Asked.{past_of}
use Rattle.closing_verdict.specs.Carried.{AreKeysOf}
use Rattle.member_core.proofs.Belonging.{carried-keys, carries-first, keys-here, secrets-for, shuffle-keys}
use Rattle.member_core.proofs.machine.Machine.submission_of.Goals as goal

pub unreachable-requires : goal.unreachable-requires
unreachable-requires c =
    let m = c.args.self.now in
    let none = carries-first m.log m.stage m.keys c.in_default.is c.requires.ready.keys in
    omega (arith, none, c.requires.behind)

pub unreachable-unreachable : goal.unreachable-unreachable
unreachable-unreachable c = c.unreachable.type_inv

pub of_shuffle-secrets-requires : goal.of_shuffle-secrets-requires
of_shuffle-secrets-requires c = c.requires.held

pub submit-requires-clause-inner : goal.submit-requires-clause-inner
submit-requires-clause-inner c =
    let m = c.args.self.now in
    let keys : AreKeysOf m.log c.in-Some.keys = carried-keys m.log m.stage m.keys c.in-Some.keys c.in-Some.is c.requires.ready.keys in
    keys.counts.inner_a ∙ ap (λ (s : Shape). s.members) c.requires.formed.shape

pub submit-requires-clause-outer : goal.submit-requires-clause-outer
submit-requires-clause-outer c =
    let m = c.args.self.now in
    let keys : AreKeysOf m.log c.in-Some.keys = carried-keys m.log m.stage m.keys c.in-Some.keys c.in-Some.is c.requires.ready.keys in
    keys.counts.outer_a ∙ ap (λ (s : Shape). s.members) c.requires.formed.shape

pub submit-requires-clause-short : goal.submit-requires-clause-short
submit-requires-clause-short c = c.requires.short

pub submit-requires-else-shuffle-eq1-clause-inner : goal.submit-requires-else-shuffle-eq1-clause-inner
submit-requires-else-shuffle-eq1-clause-inner c =
    let m = c.args.self.now in
    let keys : AreKeysOf m.log c.in-Some.keys = carried-keys m.log m.stage m.keys c.in-Some.keys c.in-Some.is c.requires.ready.keys in
    keys.counts.inner_b ∙ ap (λ (s : Shape). s.members) c.requires.formed.shape

pub submit-requires-else-shuffle-eq1-clause-outer : goal.submit-requires-else-shuffle-eq1-clause-outer
submit-requires-else-shuffle-eq1-clause-outer c =
    let m = c.args.self.now in
    let keys : AreKeysOf m.log c.in-Some.keys = carried-keys m.log m.stage m.keys c.in-Some.keys c.in-Some.is c.requires.ready.keys in
    keys.counts.outer_b ∙ ap (λ (s : Shape). s.members) c.requires.formed.shape

pub submit-requires-else-shuffle-eq1-clause-short : goal.submit-requires-else-shuffle-eq1-clause-short
submit-requires-else-shuffle-eq1-clause-short c = c.requires.short

pub returns-then-shuffle-eq1 : goal.returns-then-shuffle-eq1
returns-then-shuffle-eq1 c = IfOk-weaker c.submit.result _ _ (λ submission said config own seat secrets item.
    let m = c.args.self.now in
    let past : List (List ℕ) = past_of m.log m.stage in
    let keys = keys-here m.log m.stage c.in-Some.keys (carried-keys m.log m.stage m.keys c.in-Some.keys c.in-Some.is c.requires.ready.keys)
    c.requires.behind c.requires.ready.past in
    said config own past seat
    (secrets-for config m.secrets c.args.shuffle c.of_shuffle-secrets.result.now secrets c.requires.first c.requires.last
    c.of_shuffle-secrets.ensures)
    (shuffle-keys config m past c.args.shuffle 1 c.in-Some.keys.first c.requires.formed seat (sym c.if-shuffle-eq1.true) keys.first) item)
    c.submit.ensures

pub returns-else-shuffle-eq1 : goal.returns-else-shuffle-eq1
returns-else-shuffle-eq1 c = IfOk-weaker c.submit-else-shuffle-eq1.result _ _ (λ submission said config own seat secrets item.
    let m = c.args.self.now in
    let past : List (List ℕ) = past_of m.log m.stage in
    let keys = keys-here m.log m.stage c.in-Some.keys (carried-keys m.log m.stage m.keys c.in-Some.keys c.in-Some.is c.requires.ready.keys)
    c.requires.behind c.requires.ready.past in
    let second : 2 ≡ c.args.shuffle = omega arith in
    said config own past seat
    (secrets-for config m.secrets c.args.shuffle c.of_shuffle-secrets.result.now secrets c.requires.first c.requires.last
    c.of_shuffle-secrets.ensures)
    (shuffle-keys config m past c.args.shuffle 2 c.in-Some.keys.second c.requires.formed seat second keys.second) item)
    c.submit-else-shuffle-eq1.ensures
