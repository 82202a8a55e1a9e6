-- Hearing a checked post of another member.
use Rattle.std.proofs.Common.{◌≡◌, ◌⊎◌, ℕ, ◌<◌, ◌≤◌, ◌^◌, true, false, List, [], ◌∷◌, ◌++◌, length, Option, Some, None, Result, Ok, Err, ap, sym, ◌∙◌, refl, subst, arith, inl, inr, length-append, eq-eqb}
use Rattle.std.specs.Prelude.{◌==◌, is_ok}
use Rattle.std.proofs.lemmas.Bool.{eqb-true, false_from_ne_true}
use Rattle.std.specs.Int.{w32, to_be_bytes}
use Rattle.wire_core.specs.declared.cursor.Short.{Short}
use Rattle.wire_core.specs.Bytes.{IsBytes}
use Rattle.wire_core.proofs.ByteLists.{IsBytes-back, IsBytes-front}
use Rattle.phase_message.specs.declared.content.Content.{Content}
use Rattle.phase_message.specs.declared.header.Header.{Header}
use Rattle.phase_message.specs.declared.post.Post.{Post}
use Rattle.phase_message.specs.declared.post.TheConstants.{POST_LIMIT}
use Rattle.phase_message.specs.Offence.{content_read}
use Rattle.phase_message.specs.Post.{post_spelling}
use Rattle.phase_message.specs.Shape.{Shape}
use Rattle.phase_message.specs.Stages.{is_slot, shape_of}
use Rattle.phase_message.proofs.SlotBounds.{slot-bounds}
use Rattle.phase_message.proofs.Whole.{content-header}
use Rattle.group_roster.specs.Given.{roster_of}
use Rattle.group_roster.specs.Roster.{Roster, shape_of_roster}
use Rattle.signed_post.specs.declared.post.PostRefusal.{PostRefusal}
use Rattle.signed_post.specs.declared.post.PostRefusal.TheVariants.{Frame}
use Rattle.signed_post.specs.Admission.{Admitted, framed_admission_of}
use Rattle.signed_post.specs.Frame.{FitsFrame, frame_of}
use Rattle.signed_post.proofs.Admits.{admit-found}
use Rattle.signed_post.proofs.Frames.{framed-bytes, framed-fits, framed-found}
use Rattle.stage_log.specs.Table.{Log, filled, kept_in}
use Rattle.go_nogo.specs.Stands.{StandsIn}
use Rattle.go_nogo.proofs.Standing.{stand-read}
use Rattle.transcript_form.specs.declared.claim.Claim.TheVariants.{Malformed as Outside}
use Rattle.round_spec.specs.Embedded.{slot_named}
use Rattle.round_spec.specs.Say.{Configuration, shape_in}
use Rattle.round_spec.specs.Verdict.{Convicts, Done as DoneVerdict, Goes, Verdict, conviction}
use Rattle.round_spec.specs.Course.{is_open}
use Rattle.closing_verdict.specs.declared.convicting.Conviction.{Conviction}
use Rattle.closing_verdict.specs.Convicting.{TellsConviction}
use Rattle.member_spec.specs.declared.mood.Mood.{Mood}
use Rattle.member_spec.specs.declared.mood.Mood.TheVariants.{Unasked, PutOff, Spoken, Mute}
use Rattle.member_spec.specs.declared.taken.Taken.{Taken}
use Rattle.member_spec.specs.declared.taken.Taken.TheVariants.{Evidence, Ignored, Own, Same}
use Rattle.member_spec.specs.Actor.{Actor, actor_after, actor_behind_repeat, actor_behind_steps}
use Rattle.member_spec.specs.Outcomes.{outcome_of}
use Rattle.member_spec.specs.Replies.{Replies}
use Rattle.member_spec.specs.Taking.{LeavesAll, answer_by_end, answer_to}
use Rattle.member_spec.proofs.Idle.{idle_leaves_all}
use Rattle.member_parts.specs.declared.ending.Ending.{Ending}
use Rattle.member_parts.specs.declared.ending.Ending.TheVariants.{Blamed}
use Rattle.member_parts.specs.declared.finding.Found.{Found}
use Rattle.member_parts.specs.declared.finding.Found.TheVariants.{Malformed, New, Other, Same as Kept}
use Rattle.member_parts.specs.Endings.{IsOpen, IsRunning}
use Rattle.member_parts.specs.Secrets.{no_secrets}
use Rattle.member_parts.specs.Finding.{found_of, verdict_shown}
use Rattle.member_core.specs.declared.machine.Machine.{Machine}
use Rattle.member_core.specs.Concluding.{machine_ended}
use Rattle.member_core.specs.Found.{BlamesBy, IsOfAnother, IsStorable, TakesAs, answer_behind, found_in}
use Rattle.member_core.specs.Membership.{Holdings, holdings_of}
use Rattle.member_core.specs.Sound.{IsFormed, IsMachineOf, IsSound}
use Rattle.member_core.specs.Stands.{GoesOn, IsOwnOf, KeepsOwn, ShowsOutcome, StandsFor}
use Rattle.member_core.proofs.Answering.{answer-same}
use Rattle.member_core.proofs.Belonging.{seat-of}
use Rattle.member_core.proofs.Comings.{ComesTo, IsNew, found-new, found-other, malformed-comes, new-comes, other-comes, own-comes, refused-comes, same-comes, unframed-comes}
use Rattle.member_core.proofs.Changes.{entry-with, formed-bare, no-secrets-of}
use Rattle.member_core.proofs.Passing.{needed-ended}
use Rattle.member_core.proofs.Saying.{ok-read}
use Rattle.member_core.proofs.Shown.{goes-on}

-- ---- the post

pub content-small : (roster : Roster) (round number : ℕ) (bytes : List ℕ) (header : Header) (post : Post)
    → IsOfAnother roster round number bytes header post
    → length post.content < 2 ^ 32
content-small roster round number bytes header post is = (let frame = framed-fits bytes post is.framed in let most = frame.most in omega
    (arith, most))

admitted-of : (roster : Roster) (round number : ℕ) (bytes : List ℕ) (header : Header) (post : Post) → IsBytes bytes
    → IsOfAnother roster round number bytes header post → Admitted roster round post header
admitted-of roster round number bytes header post are is =
    admit-found roster round post header (framed-fits bytes post is.framed) (framed-bytes bytes post are is.framed) is.admitted

-- its bytes
spelled-short : (post : Post) → FitsFrame post → length (post_spelling post) ≤ POST_LIMIT
spelled-short post frame = (let most = frame.most in let both = length-append post.content post.signature in omega (arith, most, both))

pub string-short : (roster : Roster) (round number : ℕ) (bytes : List ℕ) (header : Header) (post : Post) → IsBytes bytes
    → IsOfAnother roster round number bytes header post → length bytes ≤ POST_LIMIT
string-short roster round number bytes header post are is =
    let found = framed-found bytes post are is.framed in
    subst (λ (b : List ℕ). length b ≤ POST_LIMIT) (sym found.1) (spelled-short post found.0)

content-bytes : (roster : Roster) (round number : ℕ) (bytes : List ℕ) (header : Header) (post : Post) → IsBytes bytes
    → IsOfAnother roster round number bytes header post → IsBytes post.content
content-bytes roster round number bytes header post are is =
    let spelled = subst (λ (x : List ℕ). IsBytes x) (framed-found bytes post are is.framed).1 are in
    IsBytes-back (to_be_bytes w32 (length post.content)) post.content
    (IsBytes-front (to_be_bytes w32 (length post.content) ++ post.content) post.signature spelled)

-- ---- the member

-- the shape of its log is that of its group
group-shape : (m : Machine) → IsFormed m → m.log.shape ≡ shape_of_roster (roster_of m.roster)
group-shape m f =
    let e : IsMachineOf f.entered.0 m = f.entered.1 in
    f.shape ∙ e.seat.shape ∙ sym (ap shape_of_roster e.roster)

pub slot-speaks : (m : Machine) (bytes : List ℕ) (header : Header) (post : Post) → IsFormed m → IsBytes bytes
    → IsOfAnother (roster_of m.roster) m.seat.round m.seat.number bytes header post → is_slot m.log.shape header.stage header.sender ≡ true
slot-speaks m bytes header post f are is =
    subst (λ (shape : Shape). is_slot shape header.stage header.sender ≡ true) (sym (group-shape m f))
    (admitted-of (roster_of m.roster) m.seat.round m.seat.number bytes header post are is).slot

-- its sender is one of at most eight
pub record IsSender (header : Header) : Type 0 where
  pub least : 1 ≤ header.sender
  pub most : header.sender ≤ 8

pub sender-of : (m : Machine) (bytes : List ℕ) (header : Header) (post : Post) → IsFormed m → IsBytes bytes
    → IsOfAnother (roster_of m.roster) m.seat.round m.seat.number bytes header post → IsSender header
sender-of m bytes header post f are is =
    let at = slot-bounds m.log.shape header.stage header.sender (slot-speaks m bytes header post f are is) in
    let first = at.1 in
    let last = at.2 in
    let most = f.log.shape.most in
    record { least = first; most = omega (arith, last, most) }

-- what it found, of the pure machine
found-so : (now start : Replies) (c : Configuration) (a : Actor) (m : Machine) (header : Header) (content : List ℕ) (found : Found)
    → IsFormed m
    → StandsFor now start c a (holdings_of m) → found_in m header content ≡ found
    → found_of (shape_in c) (kept_in a.log (slot_named header)) content ≡ found
found-so now start c a m header content found f s e =
    let shape : shape_of m.seat.shape ≡ shape_in c = (seat-of c m f s.entered).shape in
    sym (ap (λ (x : Shape). found_of x (kept_in m.log (slot_named header)) content) shape
    ∙ ap (λ (log : Log). found_of (shape_in c) (kept_in log (slot_named header)) content) s.at.log) ∙ e

another-so : (now start : Replies) (c : Configuration) (a : Actor) (m : Machine) (bytes : List ℕ) (header : Header) (post : Post)
    → StandsFor now start c a (holdings_of m) → IsOfAnother (roster_of m.roster) m.seat.round m.seat.number bytes header post
    → IsOfAnother c.roster c.round c.number bytes header post
another-so now start c a m bytes header post s is = record {
  framed = is.framed;
  admitted = subst (λ (roster : Roster). framed_admission_of roster c.round post ≡ Ok header) s.entered.roster
      (subst (λ (round : ℕ). framed_admission_of (roster_of m.roster) round post ≡ Ok header) s.entered.round is.admitted);
  other = subst (λ (number : ℕ). (header.sender == number) ≡ false) s.entered.number is.other;
}

-- ---- a new content

-- it can be kept
pub storable : (m : Machine) (bytes : List ℕ) (header : Header) (post : Post) → IsFormed m → IsBytes bytes
    → IsOfAnother (roster_of m.roster) m.seat.round m.seat.number bytes header post → found_in m header post.content ≡ New
    → IsStorable m (slot_named header) post
storable m bytes header post f are is found =
    let frame = framed-fits bytes post is.framed in
    let least = frame.least in
    let most = frame.most in
    record {
      others = record {
        speaks = slot-speaks m bytes header post f are is;
        other = λ same. apart same;
        empty = new.empty;
      };
      kept = record { least = least; most = omega (arith, most) };
      stands = stands;
      short = spelled-short post frame;
    }
  where
    apart : header.sender ≡ m.seat.number → ⊥
    apart same = differ (sym (eq-eqb header.sender m.seat.number same) ∙ is.other)
      where
        differ : true ≡ false → ⊥
        differ e = cc

    ok_same : (x y : Header) → (let told : Header → Result Header Short = λ h. Ok h in told x ≡ told y) → x ≡ y
    ok_same x y e = cc

    new : IsNew (shape_of m.seat.shape) (kept_in m.log (slot_named header)) post.content
    new = found-new (shape_of m.seat.shape) (kept_in m.log (slot_named header)) post.content found

    content_is : (content : Content) × (content_read m.log.shape post.content ≡ Ok content)
    content_is = ok-read (content_read m.log.shape post.content)
        (ap (λ (shape : Shape). is_ok (content_read shape post.content)) f.shape ∙ new.reads)

    stands : StandsIn m.log.shape (slot_named header) post.content
    stands =
        let content = content_is.0 in
        let read = content_is.1 in
        let same : content.header ≡ header = ok_same content.header header (sym (content-header m.log.shape post.content content read)
        ∙ (admitted-of (roster_of m.roster) m.seat.round m.seat.number bytes header post are is).reads) in
        subst (λ (h : Header). StandsIn m.log.shape (slot_named h) post.content) same
        (stand-read m.log.shape post.content content (content-bytes (roster_of m.roster) m.seat.round m.seat.number bytes header post are
        is) read)

-- behind it the member stands for the pure machine
pub takes-new : (now later start : Replies) (c : Configuration) (delivered : List (List ℕ)) (m : Machine) (bytes : List ℕ) (header : Header)
    (post : Post)
    (behind : Holdings) (taken : Taken) → IsFormed m → IsOpen m.ending
    → IsOfAnother (roster_of m.roster) m.seat.round m.seat.number bytes header post
    → found_in m header post.content ≡ New → StandsFor now start c (actor_after start c delivered) (holdings_of m)
    → IsRunning behind.ending → taken ≡ answer_behind behind.ending
    → ((a : Actor) → StandsFor now start c a (holdings_of m)
    → StandsFor later start c (actor_behind_steps start c (actor_behind_repeat start c
    (record a { log = filled a.log (slot_named header) post }) a.mood)) behind)
    → TakesAs later start c delivered bytes behind taken
takes-new now later start c delivered m bytes header post behind taken f going is found s runs told goes =
    let a : Actor = actor_after start c delivered in
    let comes = new-comes start c a bytes header post (goes-on c a (holdings_of m) s.at going)
    (another-so now start c a m bytes header post s is)
    (found-so now start c a m header post.content New f s found) in
    let stands = goes a s in
    let b : Actor = actor_behind_steps start c (actor_behind_repeat start c (record a { log = filled a.log (slot_named header) post })
    a.mood) in
    record {
      stands = subst (λ (x : Actor). StandsFor later start c x behind) (sym comes.behind) stands;
      answer = told ∙ answer-same c b behind.ending runs stands.at.ending ∙ sym comes.answer;
    }

-- it is not idle
pub new-busy : (now start : Replies) (c : Configuration) (delivered : List (List ℕ)) (m : Machine) (bytes : List ℕ) (header : Header)
    (post : Post)
    → IsFormed m → IsOpen m.ending → IsOfAnother (roster_of m.roster) m.seat.round m.seat.number bytes header post
    → found_in m header post.content ≡ New → StandsFor now start c (actor_after start c delivered) (holdings_of m)
    → LeavesAll (answer_to start c (actor_after start c delivered) bytes) → ⊥
new-busy now start c delivered m bytes header post f going is found s leaves =
    let a : Actor = actor_after start c delivered in
    let comes = new-comes start c a bytes header post (goes-on c a (holdings_of m) s.at going)
    (another-so now start c a m bytes header post s is)
    (found-so now start c a m header post.content New f s found) in
    by_verdict _ (subst LeavesAll comes.answer leaves)
  where
    by_verdict : (v : Verdict) → LeavesAll (answer_by_end v) → ⊥
    by_verdict Goes is = is
    by_verdict DoneVerdict is = is
    by_verdict (Convicts t) is = is

-- ---- a content that is kept

pub takes-same : (now start : Replies) (c : Configuration) (delivered : List (List ℕ)) (m : Machine) (bytes : List ℕ) (header : Header)
    (post : Post)
    → IsFormed m → IsOpen m.ending → IsOfAnother (roster_of m.roster) m.seat.round m.seat.number bytes header post
    → found_in m header post.content ≡ Kept → StandsFor now start c (actor_after start c delivered) (holdings_of m)
    → TakesAs now start c delivered bytes (holdings_of m) Same
takes-same now start c delivered m bytes header post f going is found s =
    let a : Actor = actor_after start c delivered in
    let comes = same-comes start c a bytes header post (goes-on c a (holdings_of m) s.at going) (idle_leaves_all start c delivered bytes)
    (another-so now start c a m bytes header post s is) (found-so now start c a m header post.content Kept f s found) in
    record { stands = subst (λ (b : Actor). StandsFor now start c b (holdings_of m)) (sym comes.behind) s; answer = sym comes.answer }

-- ---- a string that convicts

shown-alone : (round : ℕ) (header : Header) (bytes : List ℕ) (o : Option Post)
    → verdict_shown round header bytes o Malformed ≡ conviction round header.sender Outside (bytes ∷ [])
shown-alone round header bytes None = refl
shown-alone round header bytes (Some first) = refl

-- what ends the round for the pure machine
blame-comes : (now start : Replies) (c : Configuration) (delivered : List (List ℕ)) (m : Machine) (bytes : List ℕ) (header : Header)
    (post : Post)
    (found : Found) → (found ≡ Malformed) ⊎ (found ≡ Other) → IsFormed m → IsOpen m.ending
    → IsOfAnother (roster_of m.roster) m.seat.round m.seat.number bytes header post
    → found_in m header post.content ≡ found → StandsFor now start c (actor_after start c delivered) (holdings_of m)
    → let a = actor_after start c delivered in
    ComesTo start c a bytes (record a { ending = verdict_shown m.seat.round header bytes (kept_in m.log (slot_named header)) found })
    Evidence
blame-comes now start c delivered m bytes header post found kind f going is told s = elim kind [
  | inl alone ↦
      let e : found_in m header post.content ≡ Malformed = told ∙ alone in
      let comes = malformed-comes start c a bytes header post still heard (found-so now start c a m header post.content Malformed f s e) in
      subst (λ (v : Verdict). ComesTo start c a bytes (record a { ending = v }) Evidence)
      (sym (shown-alone c.round header bytes (kept_in m.log (slot_named header)))
      ∙ ap (λ (round : ℕ). verdict_shown round header bytes (kept_in m.log (slot_named header)) Malformed) (sym s.entered.round)
      ∙ sym (ap (verdict_shown m.seat.round header bytes (kept_in m.log (slot_named header))) alone)) comes
  | inr beside ↦
      let e : found_in m header post.content ≡ Other = told ∙ beside in
      let first = found-other (shape_of m.seat.shape) (kept_in m.log (slot_named header)) post.content e in
      let there : kept_in a.log (slot_named header) ≡ Some first.0 = ap (λ (log : Log). kept_in log (slot_named header)) (sym s.at.log)
      ∙ first.1 in
      let comes = other-comes start c a bytes header post first.0 still heard there
      (found-so now start c a m header post.content Other f s e) in
      subst (λ (v : Verdict). ComesTo start c a bytes (record a { ending = v }) Evidence)
      (ap (λ (round : ℕ). verdict_shown round header bytes (Some first.0) Other) (sym s.entered.round)
      ∙ sym (ap (λ (o : Option Post). verdict_shown m.seat.round header bytes o Other) first.1)
      ∙ sym (ap (verdict_shown m.seat.round header bytes (kept_in m.log (slot_named header))) beside)) comes
]
  where
    a : Actor
    a = actor_after start c delivered

    still : is_open a.ending ≡ true
    still = goes-on c a (holdings_of m) s.at going

    heard : IsOfAnother c.roster c.round c.number bytes header post
    heard = another-so now start c a m bytes header post s is

-- the code that has ended so
pub formed-ended : (m : Machine) (ending : Ending) → IsFormed m → IsFormed (machine_ended m ending)
formed-ended m ending f = formed-bare m m.mood ending f

pub sound-blamed : (m : Machine) (shown : Conviction) → IsFormed m → IsSound (machine_ended m (Blamed shown))
sound-blamed m shown f = record {
  formed = formed-ended m (Blamed shown) f;
  ready = λ going. absurd going;
  needed = needed-ended (machine_ended m (Blamed shown)) refl refl;
}

shows-blamed : (c : Configuration) (a : Actor) (verdict : Verdict) (shown : Conviction) → TellsConviction verdict shown
    → ShowsOutcome (Blamed shown) (outcome_of c (record a { ending = verdict }))
shows-blamed c a (Convicts t) shown told = (told.accused_is, told.claim_is, told.bytes_are)
shows-blamed c a Goes shown told = absurd told
shows-blamed c a DoneVerdict shown told = absurd told

stands-blamed : (now start : Replies) (c : Configuration) (a : Actor) (m : Machine) (verdict : Verdict) (shown : Conviction)
    → TellsConviction verdict shown → StandsFor now start c a (holdings_of m)
    → StandsFor now start c (record a { ending = verdict }) (holdings_of (machine_ended m (Blamed shown)))
stands-blamed now start c a m verdict shown told s = record {
  can_enter = s.can_enter;
  entered = entry-with c (holdings_of m) no_secrets s.entered (no-secrets-of c);
  at = record {
    log = s.at.log;
    stage = s.at.stage;
    past = s.at.past;
    mood = s.at.mood;
    made = s.at.made;
    ending = shows-blamed c a verdict shown told;
  };
  conduct = goes_on m.mood s.conduct;
  own = keeps m.mood s.own;
}
  where
    goes_on : (mood : Mood) → GoesOn now start c (holdings_of m) mood
        → GoesOn now start c (holdings_of (machine_ended m (Blamed shown))) mood
    goes_on Unasked e = e
    goes_on (PutOff bytes) e = e
    goes_on Spoken e = e
    goes_on Mute e = e

    own_is : IsOwnOf start c (holdings_of m) → IsOwnOf start c (holdings_of (machine_ended m (Blamed shown)))
    own_is o = record { descriptor = o.descriptor; pad = o.pad; first = o.first; second = o.second }

    keeps : (mood : Mood) → KeepsOwn start c (holdings_of m) mood → KeepsOwn start c (holdings_of (machine_ended m (Blamed shown))) mood
    keeps Unasked o = own_is o
    keeps (PutOff bytes) o = own_is o
    keeps Spoken o = own_is o
    keeps Mute o = o

pub takes-blame : (now start : Replies) (c : Configuration) (delivered : List (List ℕ)) (m behind : Machine) (bytes : List ℕ)
    (header : Header) (post : Post)
    (found : Found) → (found ≡ Malformed) ⊎ (found ≡ Other) → IsFormed m → IsOpen m.ending
    → IsOfAnother (roster_of m.roster) m.seat.round m.seat.number bytes header post
    → found_in m header post.content ≡ found → StandsFor now start c (actor_after start c delivered) (holdings_of m)
    → BlamesBy (verdict_shown m.seat.round header bytes (kept_in m.log (slot_named header)) found) m behind
    → TakesAs now start c delivered bytes (holdings_of behind) Evidence
takes-blame now start c delivered m behind bytes header post found kind f going is told s blames =
    let a : Actor = actor_after start c delivered in
    let verdict : Verdict = verdict_shown m.seat.round header bytes (kept_in m.log (slot_named header)) found in
    let comes = blame-comes now start c delivered m bytes header post found kind f going is told s in
    let stands = stands-blamed now start c a m verdict blames.shown blames.told s in
    record {
      stands = subst (λ (b : Actor). StandsFor now start c b (holdings_of behind)) (sym comes.behind)
          (subst (λ (n : Machine). StandsFor now start c (record a { ending = verdict }) (holdings_of n)) (sym blames.ended) stands);
      answer = sym comes.answer;
    }

pub blame-busy : (now start : Replies) (c : Configuration) (delivered : List (List ℕ)) (m : Machine) (bytes : List ℕ) (header : Header)
    (post : Post)
    (found : Found) → (found ≡ Malformed) ⊎ (found ≡ Other) → IsFormed m → IsOpen m.ending
    → IsOfAnother (roster_of m.roster) m.seat.round m.seat.number bytes header post
    → found_in m header post.content ≡ found → StandsFor now start c (actor_after start c delivered) (holdings_of m)
    → LeavesAll (answer_to start c (actor_after start c delivered) bytes) → ⊥
blame-busy now start c delivered m bytes header post found kind f going is told s leaves =
    subst LeavesAll (blame-comes now start c delivered m bytes header post found kind f going is told s).answer leaves

-- ---- what is no checked post of another

pub takes-unframed : (now start : Replies) (c : Configuration) (delivered : List (List ℕ)) (m : Machine) (bytes : List ℕ) (at : ℕ)
    → IsOpen m.ending
    → frame_of bytes ≡ Err at → StandsFor now start c (actor_after start c delivered) (holdings_of m)
    → TakesAs now start c delivered bytes (holdings_of m) (Ignored (Frame at))
takes-unframed now start c delivered m bytes at going e s =
    let a : Actor = actor_after start c delivered in
    let comes = unframed-comes start c a bytes at (goes-on c a (holdings_of m) s.at going) e in
    record { stands = subst (λ (b : Actor). StandsFor now start c b (holdings_of m)) (sym comes.behind) s; answer = sym comes.answer }

admission-so : (now start : Replies) (c : Configuration) (a : Actor) (m : Machine) (post : Post) (answer : Result Header PostRefusal)
    → StandsFor now start c a (holdings_of m) → answer ≡ framed_admission_of (roster_of m.roster) m.seat.round post
    → framed_admission_of c.roster c.round post ≡ answer
admission-so now start c a m post answer s e =
    sym (ap (λ (roster : Roster). framed_admission_of roster m.seat.round post) s.entered.roster
    ∙ ap (λ (round : ℕ). framed_admission_of c.roster round post) s.entered.round) ∙ sym e

pub takes-refused : (now start : Replies) (c : Configuration) (delivered : List (List ℕ)) (m : Machine) (bytes : List ℕ) (post : Post)
    (refusal : PostRefusal) → IsOpen m.ending → frame_of bytes ≡ Ok post
    → Err refusal ≡ framed_admission_of (roster_of m.roster) m.seat.round post
    → StandsFor now start c (actor_after start c delivered) (holdings_of m)
    → TakesAs now start c delivered bytes (holdings_of m) (Ignored refusal)
takes-refused now start c delivered m bytes post refusal going framed e s =
    let a : Actor = actor_after start c delivered in
    let comes = refused-comes start c a bytes post refusal (goes-on c a (holdings_of m) s.at going) framed
    (admission-so now start c a m post (Err refusal) s e) in
    record { stands = subst (λ (b : Actor). StandsFor now start c b (holdings_of m)) (sym comes.behind) s; answer = sym comes.answer }

pub takes-own : (now start : Replies) (c : Configuration) (delivered : List (List ℕ)) (m : Machine) (bytes : List ℕ) (header : Header)
    (post : Post)
    → IsOpen m.ending → frame_of bytes ≡ Ok post → Ok header ≡ framed_admission_of (roster_of m.roster) m.seat.round post
    → header.sender ≡ m.seat.number → StandsFor now start c (actor_after start c delivered) (holdings_of m)
    → TakesAs now start c delivered bytes (holdings_of m) Own
takes-own now start c delivered m bytes header post going framed e own s =
    let a : Actor = actor_after start c delivered in
    let comes = own-comes start c a bytes post header (goes-on c a (holdings_of m) s.at going) framed
    (admission-so now start c a m post (Ok header) s e) (eq-eqb header.sender c.number (own ∙ s.entered.number)) in
    record { stands = subst (λ (b : Actor). StandsFor now start c b (holdings_of m)) (sym comes.behind) s; answer = sym comes.answer }

-- a post of another that the checks pass
pub another : (m : Machine) (bytes : List ℕ) (header : Header) (post : Post) → frame_of bytes ≡ Ok post
    → Ok header ≡ framed_admission_of (roster_of m.roster) m.seat.round post → (header.sender ≡ m.seat.number → ⊥)
    → IsOfAnother (roster_of m.roster) m.seat.round m.seat.number bytes header post
another m bytes header post framed e apart = record {
  framed = framed;
  admitted = sym e;
  other = false_from_ne_true (header.sender == m.seat.number) (λ same. apart (eqb-true header.sender m.seat.number same));
}
