-- The descriptor that a member makes, and how long its bytes are.
use Rattle.std.proofs.Common.{◌≡◌, ℕ, ◌+◌, ◌*◌, List, length, ap, sym, ◌∙◌, arith}
use Rattle.std.proofs.lemmas.List.FromFn.{length-map-range_with_len}
use Rattle.wire_core.specs.Hash.{derived}
use Rattle.phase_message.specs.Shape.{Shape}
use Rattle.bulk_descriptor.specs.Descriptor.{Description, OfGrammar, descriptor_text}
use Rattle.bulk_descriptor.proofs.FittingLemmas.{made_is_of_grammar}
use Rattle.bulk_descriptor.proofs.SpellingLemmas.{passes, read_passes, spelled_are_read}
use Rattle.shuffle_blame.specs.Asked.{past_of}
use Rattle.round_spec.specs.Slots.{bulk_place, keys_said}
use Rattle.round_spec.specs.Say.{Configuration, own_description, own_pad_seeds, shape_in}
use Rattle.honest_say.proofs.Members.{keys-count}
use Rattle.member_core.specs.declared.machine.Machine.{Machine}
use Rattle.member_core.specs.Sound.{IsFormed, IsMachineOf}
use Rattle.member_core.proofs.Belonging.{IsOfGroup, of-group, shape-is}

-- how long the bytes of a descriptor of so many members are
pub text-long : (n : ℕ) (d : Description) → OfGrammar n d → length (descriptor_text d) ≡ 36 + 2272 * n
text-long n d form = (passes n (descriptor_text d) (read_passes n (descriptor_text d) d (spelled_are_read n d form)).0).long

-- the own descriptor is of as many members as the group has
pub own-hashes : (m : Machine) (d : Description) → IsFormed m
    → ((c : Configuration) → IsMachineOf c m → d ≡ own_description c (past_of m.log m.stage)) → length d.pad_hashes ≡ m.log.shape.members
own-hashes m d formed made =
    let c : Configuration = formed.entered.0 in
    let own : IsMachineOf c m = formed.entered.1 in
    let past : List (List ℕ) = past_of m.log m.stage in
    let n : ℕ = (shape_in c).members in
    let group : IsOfGroup m = of-group m formed in
    let least = group.least in
    let most = group.most in
    let first = group.first in
    let last = group.last in
    let short = formed.message in
    let members = ap (λ (s : Shape). s.members) (shape-is c m formed own.seat) in
    let form = made_is_of_grammar n (keys_said (shape_in c) past bulk_place) (own_pad_seeds c) c.number c.message (record {
      least = omega (arith, least, members);
      most = omega (arith, most, members);
      as_many_keys = keys-count (shape_in c) past bulk_place;
      as_many_seeds = length-map-range_with_len (derived c.fresh c.round 12) 1 (shape_in c).members;
      first = omega (arith, first, own.seat.number);
      last = omega (arith, last, own.seat.number, members);
      short = omega (arith, short, ap (λ (t : List ℕ). length t) own.message);
    }) in
    ap (λ (x : Description). length x.pad_hashes) (made c own) ∙ form.members ∙ sym members
