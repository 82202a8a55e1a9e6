use Rattle.std.proofs.Common.{ℕ, ◌+◌, List, Option, length, map, ap, ◌∙◌, arith}
use Rattle.std.specs.Option.{option_copied, option_map}
use Rattle.std.proofs.lemmas.List.{length-map}
use Rattle.phase_message.specs.Shape.{Shape}
use Rattle.bulk_descriptor.specs.declared.descriptor.Descriptor.{Descriptor}
use Rattle.bulk_descriptor.specs.Fields.{description_of}
use Rattle.shuffle_blame.specs.Asked.{past_of}
use Rattle.honest_say.specs.declared.opening.Slots.{Slots}
use Rattle.honest_say.proofs.OpeningLemmas.{pads-count}
use Rattle.round_spec.specs.Slots.{bulk_place}
use Rattle.round_spec.specs.Verdict.{is_held}
use Rattle.closing_verdict.specs.Carried.{stage_found}
use Rattle.closing_verdict.specs.Judgement.{Completed, completed_of}
use Rattle.closing_verdict.proofs.Accusings.{held-is}
use Rattle.closing_verdict.proofs.Carrying.{keys-now, slots-now, slots-there}
use Rattle.closing_verdict.proofs.judging.Closing.is_held.Goals as goal

pub holds-requires-clause-keys : goal.holds-requires-clause-keys
holds-requires-clause-keys c =
    let log = c.args.self.log.now in
    let slots : Slots = c.in-Some.slots.now in
    let are = slots-there log c.args.self.stage _ slots c.requires.closing.slots (ap option_copied c.in-Some.is) in
    let descriptors = ap (λ (t : List (Option Descriptor)). length t) c.items.ensures in
    let keys = ap (λ (t : List (List ℕ)). length t) c.items-keys.ensures in
    let pads = ap (λ (t : List (List (List ℕ))). length t) are.pads in
    omega (
      arith,
      keys,
      descriptors,
      pads,
      are.fit.members,
      length-map slots.descriptors (option_map description_of),
      pads-count log.shape (past_of log (stage_found log)),
      c.requires.closing.keys.counts.bulk_keys,
      c.items.result.now.ok.0,
      c.items-keys.result.now.ok.0,
    )

pub returns : goal.returns
returns c =
    let x : Completed = completed_of c.args.self in
    let log = c.args.self.log.now in
    let is = c.requires.closing.complete in
    let slots : Slots = c.in-Some.slots.now in
    let are = slots-there log c.args.self.stage _ slots c.requires.closing.slots (ap option_copied c.in-Some.is) in
    let said = slots-now x slots is c.requires.late are in
    let late = c.requires.late in
    let past : List (List ℕ) = past_of log (c.args.self.stage + 1) in
    held-is log.shape (past_of log (c.args.self.stage + 1)) c.args.accusation.now (map (option_map description_of) c.items.result.now.items)
    slots.pads.members c.items-keys.result.now.items c.holds.result c.is_ok.result
    c.is_ok.ensures.value c.holds.ensures (ap (λ (t : List (Option Descriptor)). map (option_map description_of) t) c.items.ensures
    ∙ said.descriptors) said.pads
    (c.items-keys.ensures ∙ c.requires.closing.keys.said.bulk ∙ keys-now x bulk_place is (omega (arith, late)))
    ∙ ap (λ (shape : Shape). is_held shape (past_of log (c.args.self.stage + 1)) c.args.accusation.now) is.shape
