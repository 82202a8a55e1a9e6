use Rattle.std.proofs.Common.{◌≡◌, ℕ, List, [], ◌∷◌, ◌++◌, ap, sym, ◌∙◌, refl, subst, append_assoc, append-nil, arith}
use Rattle.std.specs.Prelude.{replicate}
use Rattle.std.proofs.lemmas.List.{replicate_more}
use Rattle.group_spec.specs.World.{Seat}
use Rattle.group_threads.specs.Playing.{Plays}
use Rattle.group_threads.proofs.player.Player.receive.Goals as goal

pub loop-init : goal.loop-init
loop-init c = λ seat count p.
    let same : seat.delivered ≡ seat.delivered ++ [] = sym (append-nil seat.delivered) in
    subst (λ (d : List (List ℕ)). Plays c.args.self.now (record seat { delivered = d }) count) same p

pub loop-preserved : goal.loop-preserved
loop-preserved c = λ seat count p.
    let more = append_assoc seat.delivered (replicate c.loop.counter c.args.bytes.now) (c.args.bytes.now ∷ []) in
    let same = more ∙ ap (λ (d : List (List ℕ)). seat.delivered ++ d) (replicate_more c.loop.counter c.args.bytes.now) in
    subst (λ (d : List (List ℕ)). Plays c.receive_once.new.self (record seat { delivered = d }) count) same
    (c.in_ok-receive_once.ensures (record seat { delivered = seat.delivered ++ replicate c.loop.counter c.args.bytes.now }) count
    (c.loop.invariant seat count p))

pub returns : goal.returns
returns c = λ seat count p.
    let all : c.loop.counter ≡ c.args.times = omega arith in
    subst (λ (n : ℕ). Plays c.loop.self (record seat { delivered = seat.delivered ++ replicate n c.args.bytes.now }) count) all
    (c.loop.invariant seat count p)
