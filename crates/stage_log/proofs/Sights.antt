-- What is seen of a stage more.
use Rattle.std.proofs.Common.{◌≡◌, ℕ, ◌+◌, ◌<◌, Bool, true, false, List, length, Option, Some, None, refl, sym, ap, ◌∙◌, arith}
use Rattle.std.specs.Prelude.{is_none, ◌&&◌}
use Rattle.wire_core.specs.Answers.{first_below}
use Rattle.wire_core.proofs.AnswerLemmas.{first_below-each, first_below-none}
use Rattle.phase_message.specs.declared.post.Post.{Post}
use Rattle.phase_message.specs.declared.stage.Slot.{Slot}
use Rattle.phase_message.specs.Slots.{slot_at, slots_before}
use Rattle.stage_log.specs.Table.{Log, IsLog, posts_in}
use Rattle.stage_log.specs.Log.{before, contents_of, first_wrong, sender_of, unlike_at, view_of, wrong_at}
use Rattle.phase_message.specs.Stages.{kind_of_stage}
use Rattle.phase_message.proofs.SlotLists.{slots_before-rises}
use Rattle.stage_log.proofs.SlotPlaces.{slot_at-sender}
use Rattle.stage_log.proofs.Views.{place-within, stage-right, stage-wrong}

-- the places of a stage, and whether all slots before the next are right
pub right-next : (log : Log) (stage : ℕ) (posts : List Post) (right here : Bool) → IsLog log → before log (stage + 1) ≡ Some posts
    → right ≡ is_none (first_wrong log.shape (contents_of posts) stage)
    → here ≡ is_none (first_below (length (posts_in log stage))
    (unlike_at (view_of log.shape (contents_of posts) stage) (posts_in log stage)))
    → (right && here) ≡ is_none (first_wrong log.shape (contents_of posts) (stage + 1))
right-next log stage posts right here is e so so_here = by (first_wrong log.shape (contents_of posts) stage)
    (first_below (length row) unlike) refl refl
  where
    row : List (Option Post)
    row = posts_in log stage

    unlike : ℕ → Option ℕ
    unlike = unlike_at (view_of log.shape (contents_of posts) stage) row

    wrong : ℕ → Option Slot
    wrong = wrong_at log.shape (contents_of posts)

    earlier : first_wrong log.shape (contents_of posts) stage ≡ None → (number : ℕ) → number < slots_before log.shape stage
        → wrong number ≡ None
    earlier none = first_below-each wrong (slots_before log.shape stage) none

    later-none : (o : Option Slot) → first_wrong log.shape (contents_of posts) (stage + 1) ≡ o → o ≡ None
        → first_wrong log.shape (contents_of posts) stage ≡ None
    later-none o at none =
        first_below-none wrong (slots_before log.shape stage)
        (λ number lt. first_below-each wrong (slots_before log.shape (stage + 1)) (at ∙ none) number
        (omega (arith, lt, slots_before-rises log.shape stage (stage + 1) (omega arith))))

    never : (slot : Slot) (o : Option Slot) → first_wrong log.shape (contents_of posts) (stage + 1) ≡ o
        → first_wrong log.shape (contents_of posts) stage ≡ Some slot → false ≡ is_none o
    never slot None at some = absurd (let both = sym some ∙ later-none None at refl in cc)
    never slot (Some other) at some = refl

    by : (o : Option Slot) (p : Option ℕ) → first_wrong log.shape (contents_of posts) stage ≡ o → first_below (length row) unlike ≡ p
        → (right && here) ≡ is_none (first_wrong log.shape (contents_of posts) (stage + 1))
    by (Some slot) p at place =
        let wrong_before : right ≡ false = so ∙ ap (λ (o : Option Slot). is_none o) at in
        ap (λ (b : Bool). b && here) wrong_before ∙ never slot (first_wrong log.shape (contents_of posts) (stage + 1)) refl at
    by None None at none =
        ap (λ (b : Bool). b && here) (so ∙ ap (λ (o : Option Slot). is_none o) at) ∙ so_here ∙ ap (λ (o : Option ℕ). is_none o) none
        ∙ sym (ap (λ (o : Option Slot). is_none o)
        (first_below-none wrong (slots_before log.shape (stage + 1))
        (stage-right log stage (stage + 1) posts is (omega arith) e (earlier at) none)))
    by None (Some place) at some =
        let within = place-within log stage place (view_of log.shape (contents_of posts) stage) is some in
        let slot : Slot = record { stage = stage; sender = sender_of (kind_of_stage log.shape stage) place } in
        ap (λ (b : Bool). b && here) (so ∙ ap (λ (o : Option Slot). is_none o) at) ∙ so_here ∙ ap (λ (o : Option ℕ). is_none o) some
        ∙ sym (ap (λ (o : Option Slot). is_none o)
        (stage-wrong log stage (stage + 1) posts place slot is (omega arith) e (earlier at) some
        (slot_at-sender log.shape stage place within)))
