-- What a log keeps in a slot is what was said there.
use Rattle.std.proofs.Common.{◌≡◌, ℕ, zero, suc, ◌+◌, ◌<◌, List, [], ◌∷◌, take, true, Option, Some, None, get_or, refl, sym, ap, ◌∙◌, arith}
use Rattle.std.specs.Prelude.{unwrap_or}
use Rattle.std.specs.List.{slice_get}
use Rattle.std.specs.Option.{option_flatten, option_map}
use Rattle.std.proofs.lemmas.Bool.{cond-true}
use Rattle.std.proofs.lemmas.Option.{slice_get-map}
use Rattle.phase_message.specs.declared.content.Body.TheVariants.{Abort}
use Rattle.phase_message.specs.declared.post.Post.{Post}
use Rattle.phase_message.specs.declared.stage.Slot.{Slot}
use Rattle.phase_message.specs.Offence.{content_read}
use Rattle.phase_message.specs.Shape.{Shape}
use Rattle.phase_message.specs.Slots.{slot_number, slots_before}
use Rattle.phase_message.specs.Stages.{is_slot}
use Rattle.phase_message.proofs.SlotLists.{slot_number-within, slots_before-rises}
use Rattle.stage_log.specs.Log.{before, contents_of}
use Rattle.stage_log.specs.Table.{Log}
use Rattle.stage_log.proofs.Pasts.{all_some-is}
use Rattle.stage_log.proofs.Views.{slice_get-take}
use Rattle.shuffle_blame.specs.declared.fault.Shown.{Shown}
use Rattle.shuffle_blame.specs.Asked.{inquiry_of}
use Rattle.shuffle_blame.specs.Rules.{body_kept, body_of_post}
use Rattle.shuffle_blame.specs.Replay.{body_in, body_of}

nothing_said : (shape : Shape) → Abort ≡ body_of (content_read shape [])
unfolding content_read
nothing_said shape = refl

at_number : (shape : Shape) (posts : List Post) (number : ℕ)
    → body_of_post shape (option_flatten (option_map Some (slice_get posts number))) ≡ body_of
    (content_read shape (get_or (contents_of posts) number []))
at_number shape [] number = nothing_said shape
at_number shape (post ∷ posts) zero = refl
at_number shape (post ∷ posts) (suc number) = at_number shape posts number

pub body_kept-past : (log : Log) (stage round : ℕ) (shown : List Shown) (posts : List Post) (slot : Slot) → before log stage ≡ Some posts
    → is_slot log.shape slot.stage slot.sender ≡ true → slot.stage < stage
    → body_kept log slot ≡ body_in (inquiry_of log stage round shown) slot.stage slot.sender
body_kept-past log stage round shown posts slot e speaks lt =
    let number : ℕ = slot_number log.shape slot.stage slot.sender in
    let n : ℕ = slots_before log.shape stage in
    let within = slot_number-within log.shape slot.stage slot.sender speaks in
    let rises = slots_before-rises log.shape (slot.stage + 1) stage (omega arith) in
    let kept = cond-true (is_slot log.shape slot.stage slot.sender) (option_flatten (slice_get log.posts number)) None speaks in
    let there : slice_get log.posts number ≡ option_map Some (slice_get posts number)
    = sym (slice_get-take log.posts n number (omega (arith, within.1)))
    ∙ ap (λ (t : List (Option Post)). slice_get t number) (all_some-is (take n log.posts) posts e) ∙ slice_get-map Some posts number in
    let past : posts ≡ unwrap_or (before log stage) [] = sym (ap (λ (o : Option (List Post)). unwrap_or o []) e) in
    ap (body_of_post log.shape) (kept ∙ ap (λ (o : Option (Option Post)). option_flatten o) there)
    ∙ at_number log.shape posts number
    ∙ ap (λ (t : List Post). body_of (content_read log.shape (get_or (contents_of t) number []))) past
