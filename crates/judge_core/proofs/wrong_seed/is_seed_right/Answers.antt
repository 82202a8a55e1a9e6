use Rattle.std.proofs.Common.{◌≡◌, ℕ, List, [], Option, Some, refl, sym, ap, ◌∙◌}
use Rattle.std.specs.Prelude.{bytes_eq, slice_index_or}
use Rattle.ring_encrypt.specs.Capsule.{key_of_seed}
use Rattle.phase_message.specs.declared.content.Body.TheVariants.{Keys, Reveal}
use Rattle.phase_message.specs.declared.stage.StageKind.{StageKind}
use Rattle.phase_message.specs.Offence.{content_read}
use Rattle.phase_message.specs.Shape.{Shape}
use Rattle.phase_message.specs.Stages.{kind_of_stage, shape_of}
use Rattle.judge_core.specs.WrongSeed.{RevealsSeed, SaysKey, is_seed_of_key, shuffle_ended}
use Rattle.judge_core.proofs.SeedPlaces.{ended-is, seed-right}
use Rattle.round_spec.specs.Slots.{inner_place}
use Rattle.judge_core.proofs.wrong_seed.is_seed_right.Goals as goal

-- what the comparison says, by what is compared
compared : (shape : Shape) (kind : Option StageKind) (first last key seed made : List ℕ) (shuffle place : ℕ)
    (k : SaysKey shape first place key) (r : RevealsSeed shape last)
    → shuffle_ended kind ≡ Some shuffle → place ≡ inner_place shuffle → seed ≡ r.seed → made ≡ key_of_seed seed
    → bytes_eq made key ≡ is_seed_of_key kind (content_read shape first) (content_read shape last)
compared shape kind first last key seed made shuffle place k r ended at seed_is made_is =
    ap (λ (m : List ℕ). bytes_eq m key) (made_is ∙ ap key_of_seed seed_is)
    ∙ ap (λ (b : List ℕ). bytes_eq (key_of_seed r.seed) b) (k.is ∙ ap (λ (p : ℕ). slice_index_or k.keys p []) at)
    ∙ sym (seed-right kind (content_read shape first) (content_read shape last) (record { header = k.header; body = Keys k.keys })
    (record { header = r.header; body = Reveal r.votes r.seed })
    shuffle k.keys r.votes r.seed (ended-is kind shuffle ended) k.reads r.reads refl refl)

pub returns : goal.returns
returns c =
    let shape : Shape = shape_of c.args.shape in
    let ended : shuffle_ended (kind_of_stage shape c.args.last.header.stage) ≡ Some c.in-Some.shuffle =
    ap shuffle_ended (sym c.stage_kind.ensures.kind) ∙ sym c.shuffle_ended.ensures ∙ c.in-Some.is in
    c.eq.ensures ∙ compared shape (kind_of_stage shape c.args.last.header.stage) c.args.keys.content.now c.args.last.content.now
    c.key_in-key.result.now c.seed_in.result c.as_slice.result.now
    c.in-Some.shuffle c.inner_place.result (c.key_in-key.ensures shape c.requires.keys) c.requires.last ended c.inner_place.ensures.value
    (c.seed_in.ensures shape c.requires.last)
    (c.as_slice.ensures ∙ c.bytes.ensures.value ∙ c.public_of.ensures)
