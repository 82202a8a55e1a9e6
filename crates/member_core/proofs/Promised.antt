-- A plain member keeps what is promised of its round.
use Rattle.std.proofs.Common.{[], ◌≡◌, ℕ, List, Option, Some, None, Result, Ok, Err, ap, sym, ◌∙◌, refl, subst}
use Rattle.std.specs.Prelude.{All, IfOk, IfSome, option_map}
use Rattle.wire_core.specs.Bytes.{IsBytes}
use Rattle.phase_message.specs.declared.post.Post.{Post}
use Rattle.stage_log.specs.Table.{Log}
use Rattle.transcript_form.specs.declared.transcript.Transcript.{Transcript}
use Rattle.transcript_form.specs.Transcript.{transcript_spelling}
use Rattle.bulk_descriptor.specs.declared.slot_state.SlotState.{SlotState}
use Rattle.round_spec.specs.Result.{Outcome, Waiting as WaitingFor, Blamed as BlamedBy, DoneWith, posts_of, result_of}
use Rattle.round_spec.specs.Runs.{CanEnter, IsConfiguration, Run, posts_said, run_after}
use Rattle.round_spec.specs.Say.{Configuration}
use Rattle.round_spec.proofs.Honesty.{run_after_is_honest}
use Rattle.accountability.proofs.AllDone.{all_honest}
use Rattle.accountability.proofs.Evidence.{evidence_accepted}
use Rattle.accountability.proofs.Faulty.{accused_faulty, evidence_is_bytes}
use Rattle.accountability.proofs.Lengths.{evidence_short, replay_short}
use Rattle.accountability.proofs.Messages.{done_has_messages}
use Rattle.accountability.proofs.Naming.{open_names}
use Rattle.accountability.proofs.SameList.{same_list}
use Rattle.member_spec.specs.declared.state.State.{State}
use Rattle.member_spec.specs.declared.state.State.TheVariants.{Done}
use Rattle.member_spec.specs.Actor.{Actor, actor_after}
use Rattle.member_spec.specs.Outcomes.{evidence_shown, slots_shown, state_of}
use Rattle.member_spec.specs.Plain.{ComesTo, EndsOnce, KeepsAtMost}
use Rattle.member_spec.specs.Replies.{IsPlain, Replies}
use Rattle.member_spec.proofs.PlainLaws.{plain_comes_to_result, plain_ends_once, plain_posts_are_said}
use Rattle.member_spec.proofs.Room.{plain_keeps_at_most}
use Rattle.member_core.specs.Membership.{Membership, state_by}
use Rattle.member_core.specs.Promises.{ConvictsFaulty, HasRosterKey, HoldsMessages, IsAllHonest, IsEvidence, IsOneList, IsPlainMember, KeepsPromise, KeepsRun, WaitsIfOpen}
use Rattle.member_core.specs.Stands.{Stands}
use Rattle.member_core.proofs.Shown.{state-shown}

-- ---- by the result

-- a configuration with the roster's key
pub configured : (c : Configuration) → CanEnter c → HasRosterKey c → IsConfiguration c
configured c enters key = record { enter = enters; key = key }

waits-for : (c : Configuration) (delivered : List (List ℕ)) (stage : ℕ) (named : List ℕ) → CanEnter c → All IsBytes delivered
    → result_of c delivered ≡ WaitingFor stage named → WaitsIfOpen c delivered (state_of (WaitingFor stage named))
waits-for c delivered stage named enters are e = record {
  named = named;
  bits_are = refl;
  names = open_names c delivered stage named enters
      are e;
}

convicts : (c : Configuration) (delivered : List (List ℕ)) (t : Transcript) → IsConfiguration c → All IsBytes delivered
    → result_of c delivered ≡ BlamedBy t → ConvictsFaulty c delivered (transcript_spelling t) t.accused t.claim
convicts c delivered t is are e = record {
  accepts = (evidence_accepted c delivered t is are e).accepts;
  faulty = λ runs among distinct. accused_faulty c delivered runs t among e distinct;
  are_bytes = evidence_is_bytes c delivered t is are e;
  short = evidence_short c delivered t is are e;
  replay = λ replays. replay_short c delivered t is are e replays;
}

-- what is shown of the result keeps the promise
pub promised : (c : Configuration) (delivered : List (List ℕ)) → IsConfiguration c → All IsBytes delivered
    → KeepsPromise c delivered (state_of (result_of c delivered))
promised c delivered is are = by_result (result_of c delivered) refl
  where
    by_result : (o : Outcome) → result_of c delivered ≡ o → KeepsPromise c delivered (state_of o)
    by_result (WaitingFor stage named) e = waits-for c delivered stage named is.enter are e
    by_result (DoneWith slots) e = (slots, e, λ runs among distinct. done_has_messages c delivered runs slots among distinct e)
    by_result (BlamedBy t) e = (t, e, convicts c delivered t is are e)

pub waits : (c : Configuration) (delivered : List (List ℕ)) → CanEnter c → All IsBytes delivered
    → WaitsIfOpen c delivered (state_of (result_of c delivered))
waits c delivered enters are = by_result (result_of c delivered) refl
  where
    by_result : (o : Outcome) → result_of c delivered ≡ o → WaitsIfOpen c delivered (state_of o)
    by_result (WaitingFor stage named) e = waits-for c delivered stage named enters are e
    by_result (DoneWith slots) e = tt
    by_result (BlamedBy t) e = tt

pub all-done : (c : Configuration) (delivered : List (List ℕ)) (runs : List Run) → IsAllHonest c delivered runs
    → state_of (result_of c delivered) ≡ Done
all-done c delivered runs is =
    let done = all_honest c delivered runs is.among is.distinct is.all is.heard in
    ap state_of done.1

list-same : (a b : List SlotState) → (let told : List SlotState → Option (List SlotState) = λ x. Some x in told a ≡ told b) → a ≡ b
list-same a b e = cc

bytes-same : (a b : List ℕ) → (let told : List ℕ → Option (List ℕ) = λ x. Some x in told a ≡ told b) → a ≡ b
bytes-same a b e = cc

-- the slots that are shown are those of the result
shown-slots : (c : Configuration) (delivered : List (List ℕ)) (slots : List SlotState) → Some slots ≡ slots_shown (result_of c delivered)
    → result_of c delivered ≡ DoneWith slots
shown-slots c delivered slots e = by_result (result_of c delivered) refl e
  where
    by_result : (o : Outcome) → result_of c delivered ≡ o → Some slots ≡ slots_shown o → result_of c delivered ≡ DoneWith slots
    by_result (DoneWith others) is shown = is ∙ ap (λ (x : List SlotState). DoneWith x) (sym (list-same slots others shown))
    by_result (WaitingFor stage named) is shown = absurd cc
    by_result (BlamedBy t) is shown = absurd cc

pub holds-messages : (c : Configuration) (delivered : List (List ℕ)) (slots : List SlotState)
    → Some slots ≡ slots_shown (result_of c delivered)
    → HoldsMessages c delivered slots
holds-messages c delivered slots shown runs among distinct = done_has_messages c delivered runs slots among distinct
    (shown-slots c delivered slots shown)

pub one-list : (c : Configuration) (delivered : List (List ℕ)) (slots : List SlotState) → Some slots ≡ slots_shown (result_of c delivered)
    → IsOneList c delivered slots
one-list c delivered slots shown other others_delivered runs others_slots among others distinct done =
    same_list c other delivered others_delivered runs slots others_slots among others distinct (shown-slots c delivered slots shown) done

-- the bytes that are shown are those of the transcript of the result
pub shown-evidence : (c : Configuration) (delivered : List (List ℕ)) (state : State) (bytes : List ℕ) → IsConfiguration c
    → All IsBytes delivered
    → state ≡ state_of (result_of c delivered) → Some bytes ≡ evidence_shown (result_of c delivered) → IsEvidence c delivered state bytes
shown-evidence c delivered state bytes is are state_is shown = by_result (result_of c delivered) refl state_is shown
  where
    by_result : (o : Outcome) → result_of c delivered ≡ o → state ≡ state_of o → Some bytes ≡ evidence_shown o
        → IsEvidence c delivered state bytes
    by_result (BlamedBy t) e s b = record {
      accused = t.accused;
      claim = t.claim;
      blames = s;
      convicts = subst (λ (x : List ℕ). ConvictsFaulty c delivered x t.accused t.claim) (sym (bytes-same bytes (transcript_spelling t) b))
          (convicts c delivered t is are e);
    }
    by_result (WaitingFor stage named) e s b = absurd cc
    by_result (DoneWith slots) e s b = absurd cc

-- ---- the run

-- its own posts are those that the run of its deliveries said
said-after : (replies : Replies) (c : Configuration) (delivered : List (List ℕ)) (a : Actor) → a ≡ actor_after replies c delivered
    → ComesTo c delivered a
    → a.made ≡ posts_said (record { config = c; log = a.log }) → a.made ≡ posts_said (run_after c delivered)
said-after replies c delivered a is comes said = said ∙ ap (λ (log : Log). posts_said (record { config = c; log = log })) comes.log

pub plain-run : {A : Type 0} (replies_of : A → Replies) (c : Configuration) (delivered : List (List ℕ)) (m : Membership A)
    → IsPlainMember replies_of c delivered m → KeepsRun c delivered m.holds
plain-run replies_of c delivered m is =
    let start : Replies = is.start in
    let enters = is.stands.stands.can_enter in
    let at = is.stands.stands.at in
    let are = is.stands.strings in
    let a : Actor = actor_after start c delivered in
    let comes = plain_comes_to_result start c delivered is.plain enters are in
    record {
      log = at.log ∙ comes.log;
      said = at.made ∙ said-after start c delivered a refl comes (plain_posts_are_said start c delivered is.plain enters are);
      ends = λ shuffle. subst (λ (made : List Post). EndsOnce c made shuffle) (sym at.made)
          (plain_ends_once start c delivered shuffle is.plain enters are);
      room = subst (KeepsAtMost c) (sym at.log) (plain_keeps_at_most start c delivered is.plain enters are);
      honest = λ key. run_after_is_honest c delivered (configured c enters key) are;
    }

-- so the posts that the definition of a round tells are those that the run of the deliveries said
pub posts-said : {A : Type 0} (replies_of : A → Replies) (c : Configuration) (delivered : List (List ℕ)) (m : Membership A)
    → IsPlainMember replies_of c delivered m → posts_of c delivered ≡ posts_said (run_after c delivered)
posts-said replies_of c delivered m is =
    let enters = is.stands.stands.can_enter in
    let are = is.stands.strings in
    let comes = plain_comes_to_result is.start c delivered is.plain enters are in
    sym comes.posts ∙ said-after is.start c delivered (actor_after is.start c delivered) refl comes
    (plain_posts_are_said is.start c delivered is.plain enters are)

-- ---- clauses

-- what holds of all that is shown holds of what a call shows
pub if-shown : {T X : Type 0} (f : T → X) (r : Option T) (shown : Option X) (P : X → Type 0) → option_map f r ≡ shown
    → ((x : X) → Some x ≡ shown → P x) → IfSome r (λ t. P (f t))
if-shown f None shown P e each = tt
if-shown f (Some t) shown P e each = each (f t) e

-- what follows of a value follows of what a call gives
pub if-given : {T E : Type 0} (r : Result T E) (P Q : T → Type 0) → ((t : T) → P t → Q t) → IfOk r P → IfOk r Q
if-given (Ok t) P Q each is = each t is
if-given (Err e) P Q each is = tt

pub state-is : {A : Type 0} (replies_of : A → Replies) (c : Configuration) (delivered : List (List ℕ)) (m : Membership A)
    → IsPlainMember replies_of c delivered m → state_by m.holds m.holds.ending ≡ state_of (result_of c delivered)
state-is replies_of c delivered m is =
    state-shown is.start c delivered m.holds is.stands.stands.at
    ∙ ap state_of (plain_comes_to_result is.start c delivered is.plain is.stands.stands.can_enter is.stands.strings).outcome

-- a plain conduct at the start makes a plain member
pub plain-start : {A : Type 0} (replies_of : A → Replies) (start : Replies) (c : Configuration) (m : Membership A) → IsPlain start
    → Stands replies_of start c [] m → IsPlainMember replies_of c [] m
plain-start replies_of start c m plain stands = record { start = start; plain = plain; stands = stands }

-- where one stands for more deliveries than the other did by the same answers, it is plain if the other was
pub plain-goes-on : {A : Type 0} (replies_of : A → Replies) (old new : Membership A) (more : List (List ℕ) → List (List ℕ))
    → ((start : Replies) (c : Configuration) (delivered : List (List ℕ)) → Stands replies_of start c delivered old
    → Stands replies_of start c (more delivered) new)
    → (c : Configuration) (delivered : List (List ℕ)) → IsPlainMember replies_of c delivered old
    → IsPlainMember replies_of c (more delivered) new
plain-goes-on replies_of old new more stands c delivered is =
    record { start = is.start; plain = is.plain; stands = stands is.start c delivered is.stands }
