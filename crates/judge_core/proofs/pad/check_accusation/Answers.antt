use Rattle.std.proofs.Common.{ℕ, List, length, map, ap, sym, ◌∙◌, arith}
use Rattle.std.specs.Option.{option_map}
use Rattle.std.proofs.lemmas.Bool.{eqb-true}
use Rattle.std.proofs.lemmas.List.{length-map}
use Rattle.std.proofs.lemmas.List.FromFn.{length-map-range_with_len}
use Rattle.bulk_descriptor.specs.Fields.{description_of}
use Rattle.phase_message.specs.Shape.{Shape}
use Rattle.phase_message.specs.Stages.{shape_of}
use Rattle.round_spec.specs.Slots.{bulk_place, key_said}
use Rattle.judge_core.specs.Case.{Case, case_of, said_of}
use Rattle.judge_core.specs.Pad.{pads_row}
use Rattle.judge_core.specs.PadLog.{contents_said}
use Rattle.judge_core.proofs.PadChecks.{accusation-fails, accusation-holds, are-slots, holds-by-log}
use Rattle.judge_core.proofs.pad.check_accusation.Goals as goal

pub holds-requires-clause-slots : goal.holds-requires-clause-slots
holds-requires-clause-slots c =
    let case : Case = case_of c.args.case in
    (are-slots case (shape_of c.shape-shape.result) (pads_row case (said_of c.args.pads)) c.args.revealed.now.seeds c.args.revealed.now.list
    (map (option_map description_of) c.in_ok-descriptors.descriptors.items) c.in_ok-table.table.members
    c.shape-shape.ensures c.in_ok-table.ensures.value c.in_ok-table.ensures.rows c.requires.revealed.entries.1
    c.in_ok-descriptors.ensures.value
    c.in_ok-descriptors.ensures.hashes).0

pub holds-requires-clause-keys : goal.holds-requires-clause-keys
holds-requires-clause-keys c =
    let case : Case = case_of c.args.case in
    let shape : Shape = shape_of c.shape-shape.result in
    let slots = (are-slots case shape (pads_row case (said_of c.args.pads)) c.args.revealed.now.seeds c.args.revealed.now.list
    (map (option_map description_of) c.in_ok-descriptors.descriptors.items) c.in_ok-table.table.members
    c.shape-shape.ensures c.in_ok-table.ensures.value c.in_ok-table.ensures.rows c.requires.revealed.entries.1
    c.in_ok-descriptors.ensures.value
    c.in_ok-descriptors.ensures.hashes).1 in
    let keys =
    ap (λ (l : List (List ℕ)). length l) c.in_ok-keys.ensures ∙ length-map-range_with_len
    (key_said shape (contents_said c.args.log.now) bulk_place) 1 shape.members in
    omega (
      arith,
      c.in_ok-keys.keys.ok,
      c.in_ok-descriptors.descriptors.ok,
      keys,
      ap (λ (s : Shape). s.members) c.shape-shape.ensures,
      slots,
      length-map c.in_ok-descriptors.descriptors.items (option_map description_of),
    )

pub returns-in-Ok : goal.returns-in-Ok
returns-in-Ok c =
    let case : Case = case_of c.args.case in
    let pads = pads_row case (said_of c.args.pads) in
    let answers = holds-by-log case (shape_of c.shape-shape.result) (contents_said c.args.log.now) c.args.revealed.now.seeds
    c.args.revealed.now.list
    pads c.in_ok-keys.keys.items c.in_ok-table.table.members (map (option_map description_of) c.in_ok-descriptors.descriptors.items)
    c.in-Some.accusation c.holds.result
    c.shape-shape.ensures c.requires.revealed.seeds c.requires.revealed.list c.in_ok-descriptors.ensures.value c.in_ok-table.ensures.value
    c.in_ok-keys.ensures c.holds.ensures in
    accusation-holds case (contents_said c.args.log.now) pads c.args.case.detail c.in-Some.accusation c.holds.result c.in-Some.is
    (eqb-true c.in-Some.accusation.member c.args.case.accused (sym c.is_of.ensures ∙ c.if-not-is_of.false)) c.in-Ok.is answers

pub returns : goal.returns
returns c =
    let case : Case = case_of c.args.case in
    let pads = pads_row case (said_of c.args.pads) in
    let answers = holds-by-log case (shape_of c.shape-shape.result) (contents_said c.args.log.now) c.args.revealed.now.seeds
    c.args.revealed.now.list
    pads c.in_ok-keys.keys.items c.in_ok-table.table.members (map (option_map description_of) c.in_ok-descriptors.descriptors.items)
    c.in-Some.accusation c.holds.result
    c.shape-shape.ensures c.requires.revealed.seeds c.requires.revealed.list c.in_ok-descriptors.ensures.value c.in_ok-table.ensures.value
    c.in_ok-keys.ensures c.holds.ensures in
    accusation-fails case (contents_said c.args.log.now) pads c.args.case.detail c.in-Some.accusation c.in-Err.refusal c.holds.result
    c.in-Some.is
    (eqb-true c.in-Some.accusation.member c.args.case.accused (sym c.is_of.ensures ∙ c.if-not-is_of.false)) c.in-Err.is answers
