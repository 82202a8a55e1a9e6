use Rattle.std.proofs.Common.{◌≡◌, ℕ, List, length, map, Option, ap, ◌∙◌, arith}
use Rattle.std.specs.Option.{option_map}
use Rattle.phase_message.specs.Shape.{Shape}
use Rattle.bulk_descriptor.specs.Descriptor.{Description}
use Rattle.bulk_descriptor.specs.Fields.{description_of}
use Rattle.shuffle_blame.specs.Asked.{past_of}
use Rattle.honest_say.proofs.OpeningLemmas.{are-slots, descriptors-are, pads-count, states-are, states-count, states-name}
use Rattle.honest_say.proofs.opening.slots_said.Goals as goal

pub recover-requires : goal.recover-requires
recover-requires c =
    let log = c.args.log.now in
    let members = ap (λ (s : Shape). s.members) c.shape.ensures.shape in
    let opened = c.args.opened.now in
    let table_count = ap (λ (t : List (List (List ℕ))). length t) c.in_ok-pads.ensures.value
    ∙ pads-count log.shape (past_of log c.args.stage) in
    let opened_count : length opened.items ≡ log.shape.members = omega (arith, opened.ok.0, c.requires.count) in
    are-slots c.shape.result.members log.shape.members (map (option_map description_of) c.in_ok-descriptors.descriptors.items) opened.items
    c.in_ok-pads.pads.members members
    c.in_ok-descriptors.ensures.value opened_count table_count c.in_ok-pads.ensures.counts c.in_ok-descriptors.ensures.hashes

pub returns : goal.returns
returns c =
    let log = c.args.log.now in
    let past : List (List ℕ) = past_of log c.args.stage in
    let members = ap (λ (s : Shape). s.members) c.shape.ensures.shape in
    let opened = c.args.opened.now in
    let found : List (Option Description) = map (option_map description_of) c.in_ok-descriptors.descriptors.items in
    let are_found = descriptors-are log.shape past c.shape.result.members found opened.items members c.in_ok-descriptors.ensures.value
    c.requires.opened in
    let table_count = ap (λ (t : List (List (List ℕ))). length t) c.in_ok-pads.ensures.value ∙ pads-count log.shape past in
    let opened_count : length opened.items ≡ log.shape.members = omega (arith, opened.ok.0, c.requires.count) in
    let fit = are-slots c.shape.result.members log.shape.members found opened.items c.in_ok-pads.pads.members members
    c.in_ok-descriptors.ensures.value opened_count table_count c.in_ok-pads.ensures.counts c.in_ok-descriptors.ensures.hashes in
    record {
      descriptors = rw c.of.ensures are_found;
      pads = c.in_ok-pads.ensures.value;
      states = c.of-2.ensures ∙ states-are log.shape past found c.in_ok-pads.pads.members c.in_ok-states.states.items are_found
          c.in_ok-pads.ensures.value c.in_ok-states.ensures;
      fit = rw c.of.ensures fit;
      count = states-count log.shape.members found opened.items c.in_ok-pads.pads.members c.of-2.result c.shape.result.members
          c.in_ok-descriptors.ensures.value opened_count (c.of-2.ensures ∙ c.in_ok-states.ensures);
      names = states-name log.shape.members found c.in_ok-pads.pads.members c.of-2.result table_count
          (c.of-2.ensures ∙ c.in_ok-states.ensures);
    }
