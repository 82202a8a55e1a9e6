use Rattle.std.specs.Prelude.{◌≡◌, ℕ, List, length}
use Rattle.member_spec.specs.contracts.conduct.HonestConduct.TheImpl.{replies-value}
use Rattle.round_link.specs.Traffic.{shown_by}
use Rattle.member_run.specs.Begun.{Going}
use Rattle.member_run.proofs.run.run_member.Given as goal

abbrev pub invariant-loop-taken : goal.invariant-loop-taken
invariant-loop-taken g l =
    (frames : List (List ℕ)) × (length frames ≡ l._taken)
    × Going replies-value.it
    (record { member = l.fn.member; link = shown_by g.L.Link.faults g.L.Link.frames g.L.Link.ends g.L.Link.told l.fn.link }) frames l.member
    (shown_by g.L.Link.faults g.L.Link.frames g.L.Link.ends g.L.Link.told l.link)
