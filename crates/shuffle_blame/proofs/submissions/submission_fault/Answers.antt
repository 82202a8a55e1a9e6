use Rattle.std.proofs.Common.{◌≡◌, ℕ, ◌<◌, ◌^◌, List, length, get_or, ap, sym, ◌∙◌, arith}
use Rattle.std.specs.Option.{option_map}
use Rattle.std.proofs.lemmas.List.Elements.{All-get_or}
use Rattle.std.proofs.lemmas.List.FromFn.{length-map-range_with_len}
use Rattle.phase_message.specs.Shape.{Shape}
use Rattle.shuffle_blame.specs.declared.fault.Cause.TheVariants.{Submission}
use Rattle.shuffle_blame.specs.Rules.{inquiry_at}
use Rattle.shuffle_blame.specs.Laws.{IsMember}
use Rattle.shuffle_blame.specs.Replay.{Inquiry, fault, layer_fault, submission, submissions}
use Rattle.shuffle_blame.proofs.Loops.{first_member-none, first_member-some, submission-at}
use Rattle.shuffle_blame.proofs.submissions.submission_fault.Goals as goal

pub bounds-said-from : goal.bounds-said-from
bounds-said-from c =
    let q : Inquiry = inquiry_at c.args.log.now c.args.ended c.args.parts.now in
    let members = ap (λ (shape : Shape). shape.members) c.shape-shape.ensures.shape in
    omega (
      arith,
      c.from.ensures,
      members,
      ap (λ (list : List (List ℕ)). length list) c.requires.list,
      length-map-range_with_len
          (submission q) 1 c.args.log.now.shape.members,
    )

pub wrong_layer-requires-clause-said : goal.wrong_layer-requires-clause-said
wrong_layer-requires-clause-said c =
    let q : Inquiry = inquiry_at c.args.log.now c.args.ended c.args.parts.now in
    let members = ap (λ (shape : Shape). shape.members) c.shape-shape.ensures.shape in
    c.deref.ensures.value
    ∙ c.items-bytes.ensures
    ∙ c.index-said-from.is
    ∙ ap (λ (list : List (List ℕ)). get_or list c.from.result c.index-said-from.result) c.requires.list
    ∙ ap (λ (k : ℕ). get_or (submissions q) k c.index-said-from.result) c.from.ensures
    ∙ submission-at q c.loop-member.member c.index-said-from.result (omega arith) (omega (arith, members))

pub wrong_layer-requires-clause-short : goal.wrong_layer-requires-clause-short
wrong_layer-requires-clause-short c =
    let q : Inquiry = inquiry_at c.args.log.now c.args.ended c.args.parts.now in
    let members = ap (λ (shape : Shape). shape.members) c.shape-shape.ensures.shape in
    let within : c.from.result < length c.args.said.now
    = omega (
      arith,
      c.from.ensures,
      members,
      ap (λ (list : List (List ℕ)). length list) c.requires.list,
      length-map-range_with_len
          (submission q) 1 c.args.log.now.shape.members,
    ) in
    let short = All-get_or (λ entry. length entry < 2 ^ 32) c.args.said.now c.from.result c.index-said-from.result within c.requires.short
    in
    let same : c.deref.result.now ≡ get_or c.args.said.now c.from.result c.index-said-from.result = c.deref.ensures.value
    ∙ c.items-bytes.ensures ∙ c.index-said-from.is in
    omega (arith, short, ap (λ (bytes : List ℕ). length bytes) same)

pub returns-in-Some : goal.returns-in-Some
returns-in-Some c =
    let q : Inquiry = inquiry_at c.args.log.now c.args.ended c.args.parts.now in
    let members = ap (λ (shape : Shape). shape.members) c.shape-shape.ensures.shape in
    let is : IsMember q c.loop-member.member = record { least = omega arith; most = omega (arith, members) } in
    sym (first_member-some q (layer_fault q c.args.ended.shuffle) c.loop-member.member
    (fault (Submission c.in-Some.layer) c.loop-member.member) is c.loop-member.invariant
    (sym c.in_ok-layer.ensures ∙ ap (option_map (λ (layer : ℕ). fault (Submission layer) c.loop-member.member)) c.in-Some.is))

pub returns : goal.returns
returns c =
    let q : Inquiry = inquiry_at c.args.log.now c.args.ended c.args.parts.now in
    let members = ap (λ (shape : Shape). shape.members) c.shape-shape.ensures.shape in
    sym (first_member-none q (layer_fault q c.args.ended.shuffle)
    (λ member least most. c.loop-member.invariant member least (omega (arith, members))))
