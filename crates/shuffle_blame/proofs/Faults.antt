-- The first faults of members, and those of views, outer seeds and votes.
use Rattle.std.proofs.Common.{◌≡◌, ◌⊎◌, ℕ, zero, suc, ◌+◌, ◌-◌, ◌<◌, ◌≤◌, List, [], ◌∷◌, Bool, true, false, Option, Some, None, Result, Ok, Err, inl, inr, get_or, refl, sym, ap, ◌∙◌, subst, arith}
use Rattle.std.specs.Prelude.{IsSome, IsTrue, slice_index_or, if◌then◌else◌}
use Rattle.std.specs.List.{slice_get}
use Rattle.std.specs.Option.{option_and_then}
use Rattle.std.proofs.lemmas.Slice.Eq.{bytes_eq-Decides}
use Rattle.wire_core.specs.declared.cursor.Short.{Short}
use Rattle.wire_core.specs.Answers.{fault_unless, first_some}
use Rattle.wire_core.proofs.AnswerLemmas.{fault_unless-holds, first_below-each, nothing_mapped}
use Rattle.ring_encrypt.specs.Capsule.{key_of_seed}
use Rattle.phase_message.specs.declared.content.Body.{Body}
use Rattle.phase_message.specs.declared.content.Body.TheVariants.{Keys, Submit, Shuffled, Abort, Go, Reveal, Dispute, Pads, Check, Confirm, Differ}
use Rattle.phase_message.specs.declared.content.Content.{Content}
use Rattle.phase_message.specs.declared.header.Header.{Header}
use Rattle.phase_message.specs.declared.stage.Slot.{Slot}
use Rattle.phase_message.specs.declared.stage.StageKind.{StageKind}
use Rattle.phase_message.specs.declared.stage.StageKind.TheVariants.{Keys as AtKeys, Submit as AtSubmit, Shuffle as AtShuffle, Go as AtGo, Final as AtFinal, Pad as AtPad, Check as AtCheck, Confirm as AtConfirm}
use Rattle.phase_message.specs.Header.{header_of}
use Rattle.phase_message.specs.Offence.{content_read}
use Rattle.phase_message.specs.Slots.{slot_number, slots_before}
use Rattle.phase_message.specs.Stages.{is_slot, kind_of_stage}
use Rattle.phase_message.proofs.SlotLists.{slot_at-number, slot_number-within, slots_before-rises}
use Rattle.phase_message.proofs.Whole.{content-header}
use Rattle.stage_log.specs.Log.{first_wrong, has_view, is_carried, is_right, view_of, wrong_at, wrong_slot}
use Rattle.shuffle_blame.specs.declared.fault.Cause.TheVariants.{View, OuterSeed, FalseNoGo}
use Rattle.shuffle_blame.specs.declared.fault.Fault.{Fault}
use Rattle.shuffle_blame.specs.Replay.{Inquiry, body_in, bytes_in, culprit_at, fault, first_member, has_outer_key, outer_place, outer_seed, seed_fault, shows_its_seed, submission_fault, turn_fault, view_fault, vote_fault, votes_yes}
use Rattle.shuffle_blame.specs.Laws.{HasNo, HasTwoViews, IsMember, NoSeedFault, NoViewFault, UnlikeVotesBlame}

-- where no member has a fault, each has none
pub first_member-each : (q : Inquiry) (fault_at : ℕ → Option Fault) (member : ℕ) → first_member q fault_at ≡ None → IsMember q member
    → fault_at member ≡ None
first_member-each q fault_at member none is =
    let least = is.least in
    let most = is.most in
    let same : (member - 1) + 1 ≡ member = omega arith in
    subst (λ (k : ℕ). fault_at k ≡ None) same (first_below-each (λ place. fault_at (place + 1)) q.shape.members none (member - 1)
    (omega arith))

-- ---- views

right_of : (b : Bool) (slot : Slot) → (if b then None else Some slot) ≡ None → b ≡ true
right_of true slot e = refl
right_of false slot e = absurd cc

pub no_view_fault : NoViewFault
no_view_fault q stage sender none speaks before =
    let slot : Slot = record { stage = stage; sender = sender } in
    let number : ℕ = slot_number q.shape stage sender in
    let wrong : first_wrong q.shape q.past q.stage ≡ None = nothing_mapped (λ (slot : Slot). fault View slot.sender)
    (first_wrong q.shape q.past q.stage) none in
    let within = slot_number-within q.shape stage sender speaks in
    let rises = slots_before-rises q.shape (stage + 1) q.stage (omega arith) in
    let here = first_below-each (wrong_at q.shape q.past) (slots_before q.shape q.stage) wrong number (omega (arith, within.1)) in
    let at = slot_at-number q.shape stage sender speaks in
    right_of (is_right q.shape q.past slot) slot (sym (ap (option_and_then (wrong_slot q.shape q.past)) at) ∙ here)

-- what stands in a slot that is right carries the view
carried_there : (view : List ℕ) (past : List (List ℕ)) (number : ℕ) → is_carried view (slice_get past number) ≡ true
    → has_view view (header_of (get_or past number [])) ≡ true
carried_there view [] number e = absurd cc
carried_there view (content ∷ past) zero e = e
carried_there view (content ∷ past) (suc number) e = carried_there view past number e

view_there : (view : List ℕ) (r : Result Header Short) (header : Header) → r ≡ Ok header → has_view view r ≡ true → header.view ≡ view
view_there view (Ok found) header is e =
    let same : found ≡ header = cc in
    sym (ap (λ (h : Header). h.view) same) ∙ (bytes_eq-Decides found.view view).0 e
view_there view (Err short) header is e = absurd cc

pub right_view : (q : Inquiry) (stage sender : ℕ) (content : Content) → view_fault q ≡ None → IsTrue (is_slot q.shape stage sender)
    → stage < q.stage
    → content_read q.shape (bytes_in q stage sender) ≡ Ok content → content.header.view ≡ view_of q.shape q.past stage
right_view q stage sender content none speaks before read =
    let right = no_view_fault q stage sender none speaks before in
    let bytes : List ℕ = bytes_in q stage sender in
    view_there (view_of q.shape q.past stage) (header_of bytes) content.header (content-header q.shape bytes content read)
    (carried_there (view_of q.shape q.past stage) q.past (slot_number q.shape stage sender) right)

-- ---- outer seeds

key_said : (shuffle : ℕ) (seed : List ℕ) (body : Body) → has_outer_key shuffle seed body ≡ true
    → (keys : List (List ℕ)) × (body ≡ Keys keys) × (key_of_seed seed ≡ slice_index_or keys (outer_place shuffle) [])
key_said shuffle seed (Keys keys) e = (keys, refl, (bytes_eq-Decides (key_of_seed seed) (get_or keys (outer_place shuffle) [])).0 e)
key_said shuffle seed (Submit ciphertext) e = absurd cc
key_said shuffle seed (Shuffled list) e = absurd cc
key_said shuffle seed Abort e = absurd cc
key_said shuffle seed (Go vote) e = absurd cc
key_said shuffle seed (Reveal votes inner) e = absurd cc
key_said shuffle seed (Dispute posts outer opening) e = absurd cc
key_said shuffle seed (Pads pads) e = absurd cc
key_said shuffle seed (Check vote) e = absurd cc
key_said shuffle seed (Confirm votes) e = absurd cc
key_said shuffle seed (Differ posts) e = absurd cc

pub no_seed_fault : NoSeedFault
no_seed_fault q shuffle member none is =
    let here = first_member-each q (λ member. fault_unless (shows_its_seed q shuffle member) (fault OuterSeed member)) member none is in
    key_said shuffle (outer_seed q member) (body_in q 0 member)
    (fault_unless-holds (shows_its_seed q shuffle member) (fault OuterSeed member) here)

-- ---- votes

pub some_unless : {A : Type 0} (o : Option A) → (o ≡ None → ⊥) → IsSome o
some_unless None h = absurd (h refl)
some_unless (Some x) h = refl

first_there : (o : Option Fault) (others : List (Option Fault)) → IsSome o → IsSome (first_some (o ∷ others))
first_there (Some x) others is = refl
first_there None others is = absurd cc

later_there : (o : Option Fault) (others : List (Option Fault)) → IsSome (first_some others) → IsSome (first_some (o ∷ others))
later_there (Some x) others is = refl
later_there None others is = is

-- a fault of a view or a vote is enough, at every closing stage
named_in_five : (views seeds layers turns votes : Option Fault) → IsSome views ⊎ IsSome votes
    → IsSome (first_some (views ∷ seeds ∷ layers ∷ turns ∷ votes ∷ []))
named_in_five views seeds layers turns votes (inl is) = first_there views (seeds ∷ layers ∷ turns ∷ votes ∷ []) is
named_in_five views seeds layers turns votes (inr is) =
    later_there views (seeds ∷ layers ∷ turns ∷ votes ∷ []) (later_there seeds (layers ∷ turns ∷ votes ∷ [])
    (later_there layers (turns ∷ votes ∷ []) (later_there turns (votes ∷ []) (first_there votes [] is))))

named_in_two : (views votes : Option Fault) → IsSome views ⊎ IsSome votes → IsSome (first_some (views ∷ votes ∷ []))
named_in_two views votes (inl is) = first_there views (votes ∷ []) is
named_in_two views votes (inr is) = later_there views (votes ∷ []) (first_there votes [] is)

named_at : (o : Option StageKind) (q : Inquiry) → IsSome (view_fault q) ⊎ IsSome (vote_fault q) → IsSome (culprit_at o q)
named_at (Some (AtFinal shuffle)) q is = named_in_five (view_fault q) (seed_fault q shuffle) (submission_fault q shuffle) (turn_fault q)
    (vote_fault q) is
named_at None q is = named_in_two (view_fault q) (vote_fault q) is
named_at (Some AtKeys) q is = named_in_two (view_fault q) (vote_fault q) is
named_at (Some (AtSubmit shuffle)) q is = named_in_two (view_fault q) (vote_fault q) is
named_at (Some (AtShuffle shuffle k)) q is = named_in_two (view_fault q) (vote_fault q) is
named_at (Some (AtGo shuffle)) q is = named_in_two (view_fault q) (vote_fault q) is
named_at (Some AtPad) q is = named_in_two (view_fault q) (vote_fault q) is
named_at (Some AtCheck) q is = named_in_two (view_fault q) (vote_fault q) is
named_at (Some AtConfirm) q is = named_in_two (view_fault q) (vote_fault q) is

no_is_named : (q : Inquiry) → HasNo q → IsSome (vote_fault q)
no_is_named q voted =
    some_unless (vote_fault q) (λ none.
    let here = first_member-each q (λ member. fault_unless (votes_yes q member) (fault FalseNoGo member)) voted.0 none voted.1 in
    let yes_said : votes_yes q voted.0 ≡ true = fault_unless-holds (votes_yes q voted.0) (fault FalseNoGo voted.0) here in
    let no_said : votes_yes q voted.0 ≡ false = voted.2 in
    cc)

views_are_named : (q : Inquiry) → 1 ≤ q.stage → HasTwoViews q → IsSome (view_fault q)
views_are_named q le two =
    some_unless (view_fault q) (λ none.
    let first = right_view q (q.stage - 1) two.member two.vote none two.said.speaks (omega arith) two.said.read in
    let second = right_view q (q.stage - 1) two.other two.other_vote none two.other_said.speaks (omega arith) two.other_said.read in
    two.unlike (first ∙ sym second))

pub unlike_votes_blame : UnlikeVotesBlame
unlike_votes_blame q le (inl voted) = named_at (kind_of_stage q.shape q.stage) q (inr (no_is_named q voted))
unlike_votes_blame q le (inr two) = named_at (kind_of_stage q.shape q.stage) q (inl (views_are_named q le two))
