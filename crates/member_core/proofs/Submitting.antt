-- What a member made of its own, at the stages behind the one where it made it.
use Rattle.std.proofs.Common.{◌≡◌, ℕ, ◌<◌, ◌≤◌, true, false, List, Option, ap, sym, ◌∙◌, refl, subst, arith, rules}
use Rattle.std.specs.Prelude.{IsSome, nat_lt}
use Rattle.phase_message.specs.declared.post.Post.{Post}
use Rattle.phase_message.specs.Shape.{Shape}
use Rattle.stage_log.specs.Log.{before, contents_of}
use Rattle.stage_log.specs.Table.{Log}
use Rattle.shuffle_core.specs.declared.entry.Submission.{Submission}
use Rattle.shuffle_core.specs.Shuffle.{submission_of}
use Rattle.bulk_descriptor.specs.declared.slot_state.SlotState.{SlotState}
use Rattle.bulk_descriptor.specs.Descriptor.{descriptor_text, made_descriptor, own_pad}
use Rattle.accusation.specs.Item.{item_row}
use Rattle.shuffle_blame.specs.Asked.{past_of}
use Rattle.shuffle_blame.specs.Replay.{outer_place}
use Rattle.round_spec.specs.Slots.{bulk_place, inner_place, items_opened, keys_said, slots_of_past, submit_stage}
use Rattle.round_spec.specs.Say.{Configuration, own_description, own_item, own_layer_seeds, own_pad_seeds, own_submission, shape_in}
use Rattle.honest_say.specs.Pasts.{posts_before}
use Rattle.honest_say.specs.Stays.{AreReached}
use Rattle.honest_say.proofs.Staying.{items_stay, keys_stay, slots_stay}
use Rattle.member_spec.specs.declared.mood.Mood.{Mood}
use Rattle.member_spec.specs.Actor.{Actor, descriptor_made}
use Rattle.member_spec.specs.Replies.{Replies}
use Rattle.member_core.specs.declared.machine.Machine.{Machine}
use Rattle.member_core.specs.Asking.{IsToBeAsked}
use Rattle.member_core.specs.Membership.{holdings_of}
use Rattle.member_core.specs.Needs.{was_asked}
use Rattle.member_core.specs.Sound.{IsFormed}
use Rattle.member_core.specs.Stands.{IsOwnOf, KeepsOwn, StandsFor}
use Rattle.member_core.proofs.Belonging.{past-is, reaches, seat-of, shape-is}

-- ---- what stays the same

keys-same : (c : Configuration) (log : Log) (stage later place : ℕ) → log.shape ≡ shape_in c → 1 ≤ stage → AreReached log stage later
    → keys_said (shape_in c) (past_of log stage) place ≡ keys_said (shape_in c) (past_of log later) place
keys-same c log stage later place shape least reached =
    subst (λ (s : Shape). keys_said s (past_of log stage) place ≡ keys_said s (past_of log later) place) shape
    (keys_stay log stage later place reached least)

descriptor-same : (start : Replies) (c : Configuration) (log : Log) (later : ℕ) → log.shape ≡ shape_in c → AreReached log 1 later
    → descriptor_made start c (posts_before log 1) ≡ descriptor_text (start.descriptor (own_description c (past_of log later)))
descriptor-same start c log later shape reached =
    ap (λ (keys : List (List ℕ)). descriptor_text (start.descriptor (made_descriptor keys (own_pad_seeds c) c.number c.message)))
    (keys-same c log 1 later bulk_place shape (omega arith) reached)

submission-same : (c : Configuration) (own : List ℕ) (past other : List (List ℕ)) (shuffle : ℕ)
    → ((place : ℕ) → keys_said (shape_in c) past place ≡ keys_said (shape_in c) other place)
    → own_item c own past shuffle ≡ own_item c own other shuffle → own_submission c own past shuffle ≡ own_submission c own other shuffle
unfolding own_submission
submission-same c own past other shuffle keys item =
    let inner_seeds : List (List ℕ) = own_layer_seeds c shuffle 1 in
    let outer_seeds : List (List ℕ) = own_layer_seeds c shuffle 2 in
    ap (λ (k : List (List ℕ)). submission_of k (keys_said (shape_in c) past (outer_place shuffle)) inner_seeds outer_seeds
    (own_item c own past shuffle)) (keys (inner_place shuffle))
    ∙ ap (λ (k : List (List ℕ)). submission_of (keys_said (shape_in c) other (inner_place shuffle)) k inner_seeds outer_seeds
    (own_item c own past shuffle)) (keys (outer_place shuffle))
    ∙ ap (submission_of (keys_said (shape_in c) other (inner_place shuffle)) (keys_said (shape_in c) other (outer_place shuffle))
    inner_seeds outer_seeds) item

item-first : (c : Configuration) (own : List ℕ) (past other : List (List ℕ)) → own_item c own past 1 ≡ own_item c own other 1
unfolding own_item
item-first c own past other = refl

-- the item of shuffle A is the own descriptor
pub first-item : (c : Configuration) (own : List ℕ) (past : List (List ℕ)) → own ≡ own_item c own past 1
unfolding own_item
first-item c own past = refl

item-second : (c : Configuration) (own : List ℕ) (past other : List (List ℕ))
    → items_opened (shape_in c) past 1 ≡ items_opened (shape_in c) other 1
    → slots_of_past (shape_in c) past ≡ slots_of_past (shape_in c) other → own_item c own past 2 ≡ own_item c own other 2
unfolding own_item
item-second c own past other items slots =
    ap (λ (o : List (Option (List ℕ))). item_row own o (slots_of_past (shape_in c) past) (own_pad_seeds c)) items
    ∙ ap (λ (s : List SlotState). item_row own (items_opened (shape_in c) other 1) s (own_pad_seeds c)) slots

-- the submission to shuffle A at a later stage
pub first-same : (c : Configuration) (own : List ℕ) (log : Log) (later : ℕ) → log.shape ≡ shape_in c → AreReached log 1 later
    → own_submission c own (past_of log 1) 1 ≡ own_submission c own (past_of log later) 1
first-same c own log later shape reached =
    submission-same c own (past_of log 1) (past_of log later) 1 (λ place. keys-same c log 1 later place shape (omega arith) reached)
    (item-first c own (past_of log 1) (past_of log later))

-- and that to shuffle B
pub second-same : (c : Configuration) (own : List ℕ) (log : Log) (later : ℕ) → log.shape ≡ shape_in c
    → AreReached log (submit_stage log.shape 2) later
    → own_submission c own (past_of log (submit_stage log.shape 2)) 2 ≡ own_submission c own (past_of log later) 2
second-same c own log later shape reached =
    let at : ℕ = submit_stage log.shape 2 in
    let items = subst (λ (s : Shape). items_opened s (past_of log at) 1 ≡ items_opened s (past_of log later) 1) shape
    (items_stay log at later 1 reached (omega arith) (omega arith) (omega arith)) in
    let slots = subst (λ (s : Shape). slots_of_past s (past_of log at) ≡ slots_of_past s (past_of log later)) shape
    (slots_stay log at later reached (omega arith)) in
    submission-same c own (past_of log at) (past_of log later) 2 (λ place. keys-same c log at later place shape (omega arith) reached)
    (item-second c own (past_of log at) (past_of log later) items slots)

-- ---- what it keeps of its own where it was not asked yet

pub asked-before : (m : Machine) (stage : ℕ) → IsToBeAsked m → stage < m.stage → was_asked m.stage m.mood stage ≡ true
asked-before m stage asked lt = ap (λ (mood : Mood). was_asked m.stage mood stage) asked.unasked ∙ less stage m.stage lt
  where
    less : (a b : ℕ) → a < b → nat_lt a b ≡ true
    less a b lt = search rules

pub not-asked : (m : Machine) (stage : ℕ) → IsToBeAsked m → m.stage ≤ stage → was_asked m.stage m.mood stage ≡ false
not-asked m stage asked le = ap (λ (mood : Mood). was_asked m.stage mood stage) asked.unasked ∙ not_less stage m.stage le
  where
    not_less : (a b : ℕ) → b ≤ a → nat_lt a b ≡ false
    not_less a b le = search rules

pub own-kept : (now start : Replies) (c : Configuration) (a : Actor) (m : Machine) → IsToBeAsked m → StandsFor now start c a (holdings_of m)
    → IsOwnOf start c (holdings_of m)
own-kept now start c a m asked stands = subst (KeepsOwn start c (holdings_of m)) asked.unasked stands.own

reached-here : (now start : Replies) (c : Configuration) (a : Actor) (m : Machine) (stage : ℕ) → StandsFor now start c a (holdings_of m)
    → stage ≤ m.stage → AreReached m.log stage m.stage
reached-here now start c a m stage stands le =
    let there : IsSome (before m.log m.stage) = subst (λ (o : Option (List Post)). IsSome o) (sym stands.at.past) refl in
    record { order = le; at = reaches m.log stage m.stage le there; at_later = there }

-- behind the submission to shuffle A, the bytes of its descriptor are those that its conduct makes of the own one
pub descriptor-kept : (now start : Replies) (c : Configuration) (a : Actor) (m : Machine) → IsFormed m → IsToBeAsked m
    → StandsFor now start c a (holdings_of m) → 1 < m.stage
    → m.own.descriptor ≡ descriptor_made start c a.stand.past
descriptor-kept now start c a m formed asked stands lt =
    let own : IsOwnOf start c (holdings_of m) = own-kept now start c a m asked stands in
    own.descriptor (asked-before m 1 asked lt)
    ∙ descriptor-same start c m.log m.stage (shape-is c m formed (seat-of c m formed stands.entered))
    (reached-here now start c a m 1 stands (omega arith))
    ∙ ap (λ (past : List (List ℕ)). descriptor_text (start.descriptor (own_description c past)))
    (past-is m.log m.stage a.stand.past stands.at.past)

-- and its pad is that of its message
pub pad-kept : (now start : Replies) (c : Configuration) (a : Actor) (m : Machine) → IsToBeAsked m → StandsFor now start c a (holdings_of m)
    → 1 < m.stage
    → m.own.pad ≡ own_pad (own_pad_seeds c) c.number c.message
pad-kept now start c a m asked stands lt =
    let own : IsOwnOf start c (holdings_of m) = own-kept now start c a m asked stands in
    own.pad (asked-before m 1 asked lt)

-- the inner ciphertext of what it submitted to shuffle A, where it votes on it
pub first-kept : (now start : Replies) (c : Configuration) (a : Actor) (m : Machine) → IsFormed m → IsToBeAsked m
    → StandsFor now start c a (holdings_of m) → 1 < m.stage
    → m.stage ≤ submit_stage m.log.shape 2
    → m.own.inner_ciphertext ≡ (own_submission c (descriptor_made start c a.stand.past) (contents_of a.stand.past) 1).inner_ciphertext
first-kept now start c a m formed asked stands lt le =
    let own : IsOwnOf start c (holdings_of m) = own-kept now start c a m asked stands in
    let shape = shape-is c m formed (seat-of c m formed stands.entered) in
    let reached = reached-here now start c a m 1 stands (omega arith) in
    own.first (asked-before m 1 asked lt) (not-asked m (submit_stage m.log.shape 2) asked le)
    ∙ ap (λ (d : List ℕ). (own_submission c d (past_of m.log 1) 1).inner_ciphertext)
    (descriptor-kept now start c a m formed asked stands lt)
    ∙ ap (λ (s : Submission). s.inner_ciphertext) (first-same c (descriptor_made start c a.stand.past) m.log m.stage shape reached)
    ∙ ap (λ (past : List (List ℕ)). (own_submission c (descriptor_made start c a.stand.past) past 1).inner_ciphertext)
    (past-is m.log m.stage a.stand.past stands.at.past)

-- and to shuffle B
pub second-kept : (now start : Replies) (c : Configuration) (a : Actor) (m : Machine) → IsFormed m → IsToBeAsked m
    → StandsFor now start c a (holdings_of m)
    → submit_stage m.log.shape 2 < m.stage
    → m.own.inner_ciphertext ≡ (own_submission c (descriptor_made start c a.stand.past) (contents_of a.stand.past) 2).inner_ciphertext
second-kept now start c a m formed asked stands lt =
    let own : IsOwnOf start c (holdings_of m) = own-kept now start c a m asked stands in
    let shape = shape-is c m formed (seat-of c m formed stands.entered) in
    let at : ℕ = submit_stage m.log.shape 2 in
    let reached = reached-here now start c a m at stands (omega arith) in
    own.second (asked-before m at asked lt)
    ∙ ap (λ (d : List ℕ). (own_submission c d (past_of m.log at) 2).inner_ciphertext)
    (descriptor-kept now start c a m formed asked stands (omega arith))
    ∙ ap (λ (s : Submission). s.inner_ciphertext) (second-same c (descriptor_made start c a.stand.past) m.log m.stage shape reached)
    ∙ ap (λ (past : List (List ℕ)). (own_submission c (descriptor_made start c a.stand.past) past 2).inner_ciphertext)
    (past-is m.log m.stage a.stand.past stands.at.past)
