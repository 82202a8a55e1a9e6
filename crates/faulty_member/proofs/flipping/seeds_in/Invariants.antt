use Rattle.std.proofs.Common.{◌≡◌, take, true}
use Rattle.std.specs.Prelude.{map}
use Rattle.std.specs.List.{list_all}
use Rattle.round_spec.specs.Slots.{seed_in}
use Rattle.group_spec.specs.Alterations.{is_reveal}
use Rattle.faulty_member.proofs.flipping.seeds_in.Given as goal

-- all earlier ones reveal a seed
abbrev pub invariant-loop-end : goal.invariant-loop-end
invariant-loop-end l = (l.seeds.items ≡ map seed_in (take l.end-index l.ends.items))
    × (list_all is_reveal (take l.end-index l.ends.items) ≡ true)
