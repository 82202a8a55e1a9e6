-- Whom the replay blames where the votes are not unanimous.
use Rattle.std.proofs.Common.{◌≡◌, ℕ, ◌+◌, ◌<◌, ◌≤◌, ◌^◌, All, false, List, length, take, Option, Some, None, ap, sym, ◌∙◌, subst, arith}
use Rattle.std.specs.Prelude.{option_map, unwrap_or}
use Rattle.std.specs.List.{list_all}
use Rattle.std.proofs.lemmas.List.{length-map, length-take-le}
use Rattle.std.proofs.lemmas.List.FromFn.{length-map-range_with_len}
use Rattle.phase_message.specs.declared.post.Post.{Post}
use Rattle.phase_message.specs.Shape.{Shape}
use Rattle.phase_message.specs.Slots.{slots_before}
use Rattle.phase_message.specs.Stages.{kind_of_stage}
use Rattle.phase_message.proofs.SlotLists.{slots_before-rises}
use Rattle.transcript_form.specs.declared.claim.Claim.TheVariants.{Replay}
use Rattle.shuffle_blame.specs.declared.fault.Fault.{Fault}
use Rattle.shuffle_blame.specs.declared.fault.Shown.{Shown}
use Rattle.shuffle_blame.specs.Asked.{inquiry_of}
use Rattle.shuffle_blame.specs.Replay.{culprit_of}
use Rattle.round_spec.specs.Slots.{by_member}
use Rattle.round_spec.specs.Verdict.{ClosedStage, Verdict, Goes, conviction, dissented_at, inquiry_into, past_at, replay_conviction, sent_in, shape_at, shown_at}
use Rattle.round_spec.specs.Cases.{agree_before}
use Rattle.round_spec.proofs.SealedBytes.{all-items}
use Rattle.round_spec.proofs.Votes.{not-none, not_unanimous_blames, votes-front}
use Rattle.round_spec.proofs.Waiting.{inquiry_is_of_log}
use Rattle.closing_verdict.specs.declared.convicting.Charge.{Charge}
use Rattle.closing_verdict.specs.declared.convicting.Conviction.{Conviction}
use Rattle.closing_verdict.specs.declared.reading.Told.{Told}
use Rattle.closing_verdict.specs.Closed.{AreTold}
use Rattle.closing_verdict.specs.Convicting.{IsCharge, IsConvictionBy, TellsConviction, transcript_of}
use Rattle.closing_verdict.specs.Judgement.{Completed, IsComplete, stage_closed, verdict_in}
use Rattle.closing_verdict.specs.Telling.{tells_assent}
use Rattle.closing_verdict.proofs.Agreements.{dissented-verdict, told-agree}
use Rattle.closing_verdict.proofs.Charges.{charge_of, is-charge}
use Rattle.closing_verdict.proofs.ClosedStages.{whole-stage}
use Rattle.shuffle_blame.proofs.Blamed.{culprit-one}
use Rattle.closing_verdict.proofs.PadPosts.{front-there}

-- a call replays what the verdict does
pub culprit-is : (c : Completed) (shown : List Shown) (found : Option Fault) → IsComplete c
    → shown ≡ shown_at (stage_closed c) (kind_of_stage c.log.shape c.stage)
    → found ≡ culprit_of (inquiry_of c.log c.stage c.round shown) → found ≡ culprit_of (inquiry_into (stage_closed c))
culprit-is c shown found is shown_is found_is =
    let v : ClosedStage = stage_closed c in
    let there = front-there c is c.stage (omega arith) ∙ ap (λ (shape : Shape). Some (take (slots_before shape c.stage) v.posts)) is.shape
    in
    found_is ∙ ap culprit_of
    (ap (inquiry_of c.log c.stage c.round) (shown_is ∙ ap (λ (shape : Shape). shown_at v (kind_of_stage shape c.stage)) is.shape)
    ∙ sym (inquiry_is_of_log v c.log is.shape there))

-- it blames somebody
pub never-spared : (c : Completed) (told : List Told) (found : Option Fault) → IsComplete c → AreTold c told
    → list_all tells_assent told ≡ false
    → found ≡ culprit_of (inquiry_into (stage_closed c)) → found ≡ None → ⊥
never-spared c told found is are differ found_is none =
    let v : ClosedStage = stage_closed c in
    let n : ℕ = slots_before (shape_at v) v.stage in
    let whole = whole-stage c is in
    let rises = slots_before-rises (shape_at v) v.stage (v.stage + 1) (omega arith) in
    let long : n ≤ length (past_at v) = omega (arith, whole.posts, rises, length-map v.posts (λ (post : Post). post.content)) in
    let front : n ≤ length (take n (past_at v)) = omega (arith, length-take-le n (past_at v) long) in
    let disagree : agree_before v ≡ false = sym (told-agree c told is are) ∙ differ in
    not-none (culprit_of (inquiry_into v)) (not_unanimous_blames (inquiry_into v) whole.closing front
    (votes-front (shape_at v) (past_at v) v.stage whole.closing ∙ disagree)) (sym found_is ∙ none)

-- whom it blames is a member
pub blamed-one : (c : Completed) (found : Option Fault) (fault : Fault) → IsComplete c → found ≡ culprit_of (inquiry_into (stage_closed c))
    → found ≡ Some fault
    → (1 ≤ fault.member) × (fault.member ≤ c.log.shape.members)
blamed-one c found fault is found_is some =
    subst (λ (shape : Shape). (1 ≤ fault.member) × (fault.member ≤ shape.members)) (sym is.shape)
    (culprit-one (inquiry_into (stage_closed c)) fault (sym found_is ∙ some))

-- the verdict
replay-verdict : (c : Completed) (told : List Told) (found : Option Fault) (fault : Fault) → IsComplete c → AreTold c told
    → list_all tells_assent told ≡ false
    → found ≡ culprit_of (inquiry_into (stage_closed c)) → found ≡ Some fault → verdict_in c ≡ replay_conviction (stage_closed c) fault
unfolding dissented_at
replay-verdict c told found fault is are differ found_is some =
    let v : ClosedStage = stage_closed c in
    dissented-verdict c told is are differ ∙ ap (λ (o : Option Fault). unwrap_or (option_map (replay_conviction v) o) Goes)
    (sym found_is ∙ some)

-- ---- what is written down

pub replay-charge : (c : Completed) (charge : Charge) (posts : List (List ℕ)) (member : ℕ) → IsComplete c
    → charge ≡ charge_of Replay member c.round → posts ≡ by_member c.log.shape (sent_in (stage_closed c) c.stage)
    → (1 ≤ member) × (member ≤ c.log.shape.members) → c.round < 2 ^ 64 → All (λ post. length post < 2 ^ 32) posts → IsCharge charge posts
replay-charge c charge posts member is e are one early short =
    let count : length posts ≡ c.log.shape.members = ap (λ (t : List (List ℕ)). length t) are
    ∙ length-map-range_with_len (sent_in (stage_closed c) c.stage) 1 c.log.shape.members in
    subst (λ (x : Charge). IsCharge x posts) (sym e)
    (is-charge c.log.shape (charge_of Replay member c.round) posts is.form.shape one.0 one.1 early tt count
    (all-items (λ post. length post < 2 ^ 32) posts short))

pub replay-told : (c : Completed) (told : List Told) (found : Option Fault) (fault : Fault) (charge : Charge) (posts : List (List ℕ))
    (conviction : Conviction) → IsComplete c → AreTold c told
    → list_all tells_assent told ≡ false → found ≡ culprit_of (inquiry_into (stage_closed c)) → found ≡ Some fault
    → charge ≡ charge_of Replay fault.member c.round
    → posts ≡ by_member c.log.shape (sent_in (stage_closed c) c.stage) → IsConvictionBy (transcript_of charge posts) conviction
    → TellsConviction (verdict_in c) conviction
replay-told c told found fault charge posts conviction is are differ found_is some e posts_are by =
    let same = posts_are ∙ ap (λ (shape : Shape). by_member shape (sent_in (stage_closed c) c.stage)) is.shape in
    subst (λ (x : Verdict). TellsConviction x conviction) (sym (replay-verdict c told found fault is are differ found_is some))
    (subst (λ (p : List (List ℕ)). IsConvictionBy (transcript_of (charge_of Replay fault.member c.round) p) conviction) same
    (subst (λ (x : Charge). IsConvictionBy (transcript_of x posts) conviction) e by))
