-- What stands at a slot's place of a log.
use Rattle.std.proofs.Common.{◌≡◌, ℕ, ◌+◌, ◌<◌, ◌≤◌, true, length, get_or, Option, Some, None, refl, ap, sym, ◌∙◌, subst, arith, min, inl, inr, Bor}
use Rattle.std.specs.Prelude.{IfSome}
use Rattle.std.specs.List.{slice_get}
use Rattle.std.specs.Option.{option_flatten, option_copied}
use Rattle.std.proofs.lemmas.Bool.{cases_lt, cond-true}
use Rattle.std.proofs.lemmas.Option.{slice_get_read}
use Rattle.std.proofs.lemmas.List.{length-set}
use Rattle.std.proofs.lemmas.List.Elements.{All-set}
use Rattle.phase_message.specs.declared.post.Post.{Post}
use Rattle.phase_message.specs.declared.stage.Slot.{Slot}
use Rattle.phase_message.specs.Stages.{is_slot}
use Rattle.phase_message.specs.Slots.{slot_number, slots_before}
use Rattle.phase_message.proofs.SlotLists.{slot_number-most, slots_before-most, slots_before-past}
use Rattle.stage_log.specs.Table.{Log, IsKept, IsLog, kept_in, filled}

-- a slot has a place
pub number-within : (log : Log) (slot : Slot) → IsLog log → is_slot log.shape slot.stage slot.sender ≡ true
    → slot_number log.shape slot.stage slot.sender < length log.posts
number-within log slot is speaks = omega (arith, is.places, slot_number-most log.shape slot.stage slot.sender speaks)

-- what stands there is what the log keeps
pub kept_in-at : (log : Log) (slot : Slot) (number : ℕ) (entry : Option Post) → IsLog log → is_slot log.shape slot.stage slot.sender ≡ true
    → number ≡ slot_number log.shape slot.stage slot.sender → entry ≡ get_or log.posts number entry → kept_in log slot ≡ entry
kept_in-at log slot number entry is speaks number_is entry_is =
    let within = number-within log slot is speaks in
    cond-true (is_slot log.shape slot.stage slot.sender) (option_flatten
    (slice_get log.posts (slot_number log.shape slot.stage slot.sender))) None speaks
    ∙ ap (λ (k : ℕ). option_flatten (slice_get log.posts k)) (sym number_is)
    ∙ ap (λ (o : Option (Option Post)). option_flatten o) (slice_get_read log.posts (length log.posts) number entry refl (omega arith)
    entry_is)

-- and can be kept
pub entry-kept : (log : Log) (number : ℕ) (entry : Option Post) → IsLog log → number < length log.posts
    → entry ≡ get_or log.posts number entry
    → IfSome entry (λ (post : Post). IsKept post.content)
entry-kept log number entry is within entry_is =
    subst (λ (o : Option Post). IfSome o (λ (post : Post). IsKept post.content)) (sym entry_is) (is.contents number entry within)

pub copied-kept : (o : Option (Bor Post)) (entry : Option Post) → option_copied o ≡ entry
    → IfSome entry (λ (post : Post). IsKept post.content) → IfSome o (λ post. IsKept post.now.content)
copied-kept None entry e kept = tt
copied-kept (Some post) entry e kept = subst (λ (o : Option Post). IfSome o (λ (post : Post). IsKept post.content)) (sym e) kept

-- a log with one more post is a log
pub filled-is_log : (log : Log) (slot : Slot) (post : Post) → IsLog log → IsKept post.content → IsLog (filled log slot post)
filled-is_log log slot post is kept = record {
  shape = is.shape;
  places = length-set log.posts (slot_number log.shape slot.stage slot.sender) (Some post) ∙ is.places;
  contents = All-set (λ (kept : Option Post). IfSome kept (λ (post : Post). IsKept post.content)) log.posts
      (slot_number log.shape slot.stage slot.sender) (Some post) kept is.contents;
}

-- the slots before a stage have places
pub before-within : (log : Log) (stage : ℕ) → IsLog log → slots_before log.shape stage ≤ length log.posts
before-within log stage is = omega (arith, is.places, slots_before-most log.shape stage)

-- behind the last number of 8 bits there are no more slots
pub before-next : (log : Log) (stage next : ℕ) → IsLog log → stage < 256 → next ≡ min (stage + 1) 255
    → slots_before log.shape next ≡ slots_before log.shape (stage + 1)
before-next log stage next is small e =
    elim (cases_lt stage 255) [
      | inl lt ↦ (let same : next ≡ stage + 1 = omega (arith, e) in ap (λ (t : ℕ). slots_before log.shape t) same)
      | inr le ↦
          let most = is.shape.most in
          slots_before-past log.shape next (omega (arith, e)) ∙ sym (slots_before-past log.shape (stage + 1) (omega arith))
    ]
