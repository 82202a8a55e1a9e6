use Rattle.std.proofs.Common.{◌≡◌, ◌<◌, ◌≤◌, ◌+◌, refl, ℕ, List, [], ◌∷◌, ◌++◌, length, arith}
use Rattle.member_run.specs.declared.run_end.RunEnd.TheVariants.{Ended, Flooded}
use Rattle.member_run.proofs.Going.{begins, one-more}
use Rattle.member_run.proofs.Ending.{stops}
use Rattle.member_run.proofs.run.run_member.Goals as goal

pub loop-taken-init : goal.loop-taken-init
loop-taken-init g c = ([], refl, begins _ c.args.member.now _)

fewer : (n taken limit : ℕ) → n ≡ taken → taken < limit → n < limit
fewer n taken limit is less = omega (arith, is, less)

just : (n taken limit : ℕ) → n ≡ taken → taken ≤ limit → limit ≤ taken → n ≡ limit
just n taken limit is most least = omega (arith, is, most, least)

at-most : (n limit : ℕ) → n ≡ limit → n ≤ limit
at-most n limit is = omega (arith, is)

pub returns-in-Err : goal.returns-in-Err
returns-in-Err g c =
    let going = c.loop-taken.invariant in
    c.in-Err.ensures.err _ going.0 (fewer _ _ _ going.1 c.loop-taken-test.true) going.2

more : (frames : List (List ℕ)) (frame : List ℕ) (taken : ℕ) → length frames ≡ taken → length (frames ++ frame ∷ []) ≡ taken + 1
more frames frame taken is = omega (arith, is, one-more frames frame)

pub loop-taken-preserved : goal.loop-taken-preserved
loop-taken-preserved g c =
    let going = c.loop-taken.invariant in
    let next = c.in_default.ensures.ok _ going.0 going.2 in
    (going.0 ++ next.0 ∷ [], more going.0 next.0 c.loop-taken._taken going.1, next.1)

pub returns-in-Err-hand_out : goal.returns-in-Err-hand_out
returns-in-Err-hand_out g c =
    let going = c.loop-taken.invariant in
    let all = just _ _ _ going.1 c.loop-taken.auto._taken-end c.loop-taken-test.false in
    c.in-Err-hand_out.ensures.err _ going.0 (at-most _ _ all) going.2

pub returns-then-has_ended : goal.returns-then-has_ended
returns-then-has_ended g c =
    let going = c.loop-taken.invariant in
    let all = just _ _ _ going.1 c.loop-taken.auto._taken-end c.loop-taken-test.false in
    let on = c.in_default-hand_out.ensures.goes_on _ going.0 going.2 in
    stops _ _ going.0 c.hand_out.new.member _ Ended on (at-most _ _ all) c.in_default-hand_out.ensures.all (c.if-has_ended.ensures.value.0 refl)

pub returns : goal.returns
returns g c =
    let going = c.loop-taken.invariant in
    let all = just _ _ _ going.1 c.loop-taken.auto._taken-end c.loop-taken-test.false in
    let on = c.in_default-hand_out.ensures.goes_on _ going.0 going.2 in
    stops _ _ going.0 c.hand_out.new.member _ Flooded on (at-most _ _ all) c.in_default-hand_out.ensures.all
    (c.if-has_ended.ensures.open c.in_default-hand_out.ensures.runs refl, all)
