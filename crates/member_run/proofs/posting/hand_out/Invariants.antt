use Rattle.std.specs.Prelude.{ℕ, List}
use Rattle.member_spec.specs.declared.conduct.Honest.{Honest}
use Rattle.member_spec.specs.contracts.conduct.HonestConduct.TheImpl.{replies-value}
use Rattle.round_link.specs.Traffic.{shown_by}
use Rattle.member_run.specs.Begun.{Begun, Going, posts_left}
use Rattle.member_run.proofs.posting.hand_out.Given as goal

abbrev pub invariant-loop : goal.invariant-loop
invariant-loop g l =
    (b : Begun Honest) (frames : List (List ℕ))
    → Going replies-value.it b frames l.fn.member (shown_by g.L.Link.faults g.L.Link.frames g.L.Link.ends g.L.Link.told l.fn.link)
    → Going replies-value.it b frames l.member (shown_by g.L.Link.faults g.L.Link.frames g.L.Link.ends g.L.Link.told l.link)

abbrev pub decreases-loop : goal.decreases-loop
decreases-loop g l = posts_left l.member
