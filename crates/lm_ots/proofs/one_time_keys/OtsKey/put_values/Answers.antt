use Rattle.std.proofs.Common.{◌≡◌, ◌∙◌, ◌++◌, List, ℕ, ap, arith, sym}
use Rattle.lm_ots.specs.OneTime.{chain, chain_count}
use Rattle.lm_ots.specs.Signing.{chain_start, parts_of}
use Rattle.lm_ots.specs.Walks.{values, walk_at}
use Rattle.lm_ots.proofs.Walking.{values-more, values-none, values-own_values}
use Rattle.lm_ots.proofs.one_time_keys.OtsKey.put_values.Goals as goal

pub loop-i-init : goal.loop-i-init
loop-i-init c = sym (values-none c.walk.new.walks c.args.to.now.items)

pub loop-i-preserved : goal.loop-i-preserved
loop-i-preserved c =
    let walks = c.walk.new.walks in
    rw (c.in_ok-extend_from_slice.ensures.items, c.loop-i.invariant)
    (values-more walks c.loop-i.i c.args.to.now.items (walk_at walks c.from.result).value
    (ap (λ (j : ℕ). (walk_at walks j).value) c.from.ensures))

pub returns : goal.returns
returns c =
    let key = parts_of c.args.self.now in
    let walks = c.walk.new.walks in
    let items : List ℕ = c.args.to.now.items in
    let all : c.loop-i.i ≡ chain_count key.width = omega (arith, c.p-i-end.ensures) in
    c.loop-i.invariant
    ∙ ap (λ (n : ℕ). items ++ values walks n) all
    ∙ ap (λ (v : List ℕ). items ++ v)
    (values-own_values key c.args.signed.now walks (chain_count key.width)
    (λ i below. c.walk.ensures i below
    ∙ ap (λ (end : ℕ). chain key.identifier key.q i 0 end (chain_start key i)) (c.walks_to_digits-walks.ensures i below)))
