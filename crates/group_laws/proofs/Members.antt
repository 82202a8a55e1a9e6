-- That the members of a script are shown, and of each whether it has a fault.
use Rattle.std.proofs.Common.{◌≡◌, ℕ, List, ap, sym, ◌∙◌, refl, subst}
use Rattle.round_script.specs.declared.script.Script.{Script}
use Rattle.group_spec.specs.Driver.{MemberShown, group_end, shown_of}
use Rattle.group_spec.specs.Scripts.{script_end}
use Rattle.group_spec.specs.World.{Seat}
use Rattle.group_laws.specs.Members.{FaultsAreShown, IsFaultyAsSaid, MembersAreShown}
use Rattle.group_laws.proofs.Kept.{seat_with}
use Rattle.group_laws.proofs.Served.{numbers-are}
use Rattle.group_laws.proofs.Worlds.{last_seats, mapped-mapped, shown-at}

shown-number : (seat : Seat) → (shown_of seat).number ≡ seat.config.number
unfolding shown_of
shown-number seat = refl

pub members_are_shown : MembersAreShown
unfolding script_end group_end
members_are_shown script is =
    mapped-mapped (λ (shown : MemberShown). shown.number) shown_of (λ (seat : Seat). seat.config.number) (last_seats script) shown-number
    ∙ numbers-are script is

seat-faulty : (script : Script) (member : ℕ) (delivered : List (List ℕ)) →
    IsFaultyAsSaid script (shown_of (seat_with script member delivered))
unfolding shown_of
seat-faulty script member delivered = refl

pub faults_are_shown : FaultsAreShown
faults_are_shown script shown is there =
    let at = shown-at script shown is there in
    subst (IsFaultyAsSaid script) (ap shown_of (sym at.of.same) ∙ at.is) (seat-faulty script at.of.member at.seat.delivered)
