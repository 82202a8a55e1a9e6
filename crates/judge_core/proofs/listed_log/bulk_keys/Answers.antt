use Rattle.std.proofs.Common.{[], ap, ◌∙◌, arith}
use Rattle.std.specs.Prelude.{slice_index_or}
use Rattle.phase_message.specs.declared.content.Body.{Body}
use Rattle.phase_message.specs.Shape.{Shape}
use Rattle.phase_message.specs.Stages.{shape_of}
use Rattle.round_spec.specs.Slots.{bulk_place, key_said, keys_in}
use Rattle.judge_core.specs.PadLog.{contents_said}
use Rattle.judge_core.proofs.PadReadings.{member-next}
use Rattle.judge_core.proofs.PadSlots.{keys-said, keys-slot, slot-within}
use Rattle.judge_core.proofs.listed_log.bulk_keys.Goals as goal

pub read_slot-requires-clause-there : goal.read_slot-requires-clause-there
read_slot-requires-clause-there c = keys-slot (shape_of c.args.shape) c.loop-sender.sender (omega arith) (omega arith)

pub read_slot-requires-clause-earlier : goal.read_slot-requires-clause-earlier
read_slot-requires-clause-earlier c =
    let shape : Shape = shape_of c.args.shape in
    omega (
      arith,
      c.requires.whole,
      slot-within shape 0 c.loop-sender.sender
          (keys-slot shape c.loop-sender.sender (omega arith) (omega arith)) (omega arith),
    )

pub bulk_key-requires : goal.bulk_key-requires
bulk_key-requires c = keys-said (shape_of c.args.shape) c.in_ok-body.body c.in_ok-body.ensures.grammar

pub loop-sender-preserved : goal.loop-sender-preserved
loop-sender-preserved c =
    let shape : Shape = shape_of c.args.shape in
    let said = c.bulk_key.ensures ∙ ap (λ (body : Body). slice_index_or (keys_in body) bulk_place []) c.in_ok-body.ensures.value in
    c.in_ok-push.ensures.items ∙ member-next (key_said shape (contents_said c.args.log.now) bulk_place) c.loop-sender.sender
    c.loop-sender.keys.items
    c.bulk_key.result (omega arith) c.loop-sender.invariant said
