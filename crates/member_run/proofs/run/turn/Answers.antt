use Rattle.std.proofs.Common.{◌<◌, ◌≤◌, refl, inl, sym, subst, ◌∙◌, ℕ, List, [], ◌∷◌, ◌++◌, arith}
use Rattle.wire_core.specs.Bytes.{IsBytes}
use Rattle.member_spec.specs.contracts.conduct.HonestConduct.TheImpl.{replies-value}
use Rattle.member_core.specs.Promises.{IsPlainMember}
use Rattle.round_link.specs.Traffic.{shown_by}
use Rattle.member_run.specs.declared.run_end.RunEnd.{RunEnd}
use Rattle.member_run.specs.declared.run_end.RunEnd.TheVariants.{Ended, LinkFault, OutOfMemory, Waiting}
use Rattle.member_run.specs.Ran.{Ran}
use Rattle.member_run.proofs.Answers.{err-by, ok-by}
use Rattle.member_run.proofs.Ending.{end-rose, hindered, no-rise, none-left-now, not-delivered, one-end, received-none, rose-since, stops}
use Rattle.member_run.proofs.Going.{taken}
use Rattle.member_run.proofs.run.turn.Goals as goal

fewer : (n m : ℕ) → n < m → n ≤ m
fewer n m less = omega (arith, less)

pub returns-then-has_ended-clause-err : goal.returns-then-has_ended-clause-err
returns-then-has_ended-clause-err g c = λ b frames less going.
    stops _ b frames c.hand_out.new.member _ Ended (c.in_ok-hand_out.ensures.goes_on b frames going) (fewer _ _ less)
    c.in_ok-hand_out.ensures.all (c.if-has_ended.ensures.value.0 refl)

pub returns-in-Frame-clause-ok : goal.returns-in-Frame-clause-ok
returns-in-Frame-clause-ok g c =
    let frame_is = c.deref.ensures.value ∙ c.items.ensures in
    ok-by _ _ _ c.take.result (λ stands handed b frames going. (
      c.in-Frame.frame,
      taken replies-value.it b frames c.in-Frame.frame c.hand_out.new.member c.take.new.member _ _
          (c.in_ok-hand_out.ensures.goes_on b frames going) c.in_ok-hand_out.ensures.all c.in-Frame.ensures.received
          c.in-Frame.ensures.frames c.in-Frame.ensures.ends c.in-Frame.ensures.no_fall (subst IsBytes frame_is c.take.ensures.bytes) handed
          (λ d e is. subst (λ (f : List ℕ). IsPlainMember replies-value.it d (e ++ f ∷ []) c.take.new.member) frame_is (stands d e is)),
    )) c.take.ensures.stands c.take.ensures.handed

pub returns-in-Frame-clause-err : goal.returns-in-Frame-clause-err
returns-in-Frame-clause-err g c =
    let frame_is = c.deref.ensures.value ∙ c.items.ensures in
    err-by _ _ c.take.result (λ end stopped b frames less going.
    subst (λ (e : RunEnd). Ran replies-value.it b.member c.take.new.member b.link
    (shown_by g.L.Link.faults g.L.Link.frames g.L.Link.ends g.L.Link.told c.recv.new.self) e) (sym stopped.0)
    (not-delivered _ b frames c.in-Frame.frame c.hand_out.new.member c.take.new.member _ _
    (c.in_ok-hand_out.ensures.goes_on b frames going) less c.in_ok-hand_out.ensures.all c.in-Frame.ensures.received
    c.in-Frame.ensures.frames c.in-Frame.ensures.ends c.in-Frame.ensures.no_fall (subst IsBytes frame_is c.take.ensures.bytes) stopped.1)) c.take.ensures.err

pub returns-in-End-clause-err : goal.returns-in-End-clause-err
returns-in-End-clause-err g c = λ b frames less going.
    let on = c.in_ok-hand_out.ensures.goes_on b frames going in
    received-none _ b frames c.hand_out.new.member _ _ Waiting on (fewer _ _ less) c.in_ok-hand_out.ensures.all c.in-End.ensures.frames
    c.in-End.ensures.no_fall c.in-End.ensures.received.1 (
      c.if-has_ended.ensures.open c.in_ok-hand_out.ensures.runs refl,
      less,
      end-rose b.link.ends _ _ on.ends c.in-End.ensures.ends,
      none-left-now _ _ c.in-End.ensures.received.0 c.in-End.ensures.received.1,
    ) (λ lt. refl) (one-end b.link.ends _ _ on.ends c.in-End.ensures.ends)

pub returns-in-Failed-clause-err : goal.returns-in-Failed-clause-err
returns-in-Failed-clause-err g c = λ b frames less going.
    let on = c.in_ok-hand_out.ensures.goes_on b frames going in
    received-none _ b frames c.hand_out.new.member _ _ LinkFault on (fewer _ _ less) c.in_ok-hand_out.ensures.all
    c.in-Failed.ensures.frames c.in-Failed.ensures.no_fall (inl c.in-Failed.ensures.received) (rose-since b.link.faults _ _ on.faults (c.in-Failed.ensures.failed refl))
    (no-rise b.link.ends _ LinkFault (c.in-Failed.ensures.ends ∙ on.ends)) (inl (c.in-Failed.ensures.ends ∙ on.ends))

pub returns-in-OutOfMemory-clause-err : goal.returns-in-OutOfMemory-clause-err
returns-in-OutOfMemory-clause-err g c = λ b frames less going.
    hindered _ b frames c.hand_out.new.member c.hand_out.new.member _ _ OutOfMemory (c.in_ok-hand_out.ensures.goes_on b frames going)
    (fewer _ _ less) c.in-OutOfMemory.ensures.frames c.in-OutOfMemory.ensures.ends c.in-OutOfMemory.ensures.no_fall c.in-OutOfMemory.ensures.received tt tt (λ d e is. inl is)
