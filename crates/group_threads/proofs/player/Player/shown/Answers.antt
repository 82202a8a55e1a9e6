use Rattle.std.proofs.Common.{◌≡◌, ℕ, Bool, List, Option, ap, sym, ◌∙◌, refl}
use Rattle.bulk_descriptor.specs.declared.slot_state.SlotState.{SlotState}
use Rattle.member_spec.specs.declared.state.State.{State}
use Rattle.group_spec.specs.Driver.{is_faulty, shown_of}
use Rattle.group_spec.specs.declared.ending.MemberEnd.{MemberEnd}
use Rattle.group_threads.proofs.Members.{start-of}
use Rattle.group_threads.proofs.player.Player.shown.Goals as goal

same-end : (a b : MemberEnd) → a.number ≡ b.number → a.faulty ≡ b.faulty → a.state ≡ b.state → a.slots ≡ b.slots → a.evidence ≡ b.evidence → a ≡ b
same-end a b number faulty state slots evidence =
    ap (λ (x : ℕ). record { number = x; faulty = a.faulty; state = a.state; slots = a.slots; evidence = a.evidence }) number
    ∙ ap (λ (x : Bool). record { number = b.number; faulty = x; state = a.state; slots = a.slots; evidence = a.evidence }) faulty
    ∙ ap (λ (x : State). record { number = b.number; faulty = b.faulty; state = x; slots = a.slots; evidence = a.evidence }) state
    ∙ ap (λ (x : Option (List SlotState)). record { number = b.number; faulty = b.faulty; state = b.state; slots = x; evidence = a.evidence }) slots
    ∙ ap (λ (x : Option (List ℕ)). record { number = b.number; faulty = b.faulty; state = b.state; slots = b.slots; evidence = x }) evidence

pub returns : goal.returns
unfolding shown_of
returns c = λ seat count p. same-end _ _ p.number (c.is_faulty.ensures ∙ ap is_faulty p.fault)
    (c.state.ensures.stands (start-of seat) seat.config seat.delivered p.stands)
    (c.in_ok-slots.ensures seat count p) (c.in_ok-evidence.ensures seat count p)
