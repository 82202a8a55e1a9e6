-- Closing contents of stages behind which a round goes on: they embed votes, which are short.
use Rattle.std.proofs.Common.{◌≡◌, ℕ, ◌+◌, ◌-◌, ◌<◌, ◌≤◌, true, List, [], ◌∷◌, ◌++◌, length, drop, take, Option, Some, Result, Ok, ap, sym, ◌∙◌, refl, subst, arith, rules}
use Rattle.std.specs.Prelude.{Contains, is_some, option_and_then, zip}
use Rattle.std.specs.Int.{to_be_bytes, w32}
use Rattle.std.specs.List.{AllByRecursion, slice_get, slice_range}
use Rattle.std.proofs.lemmas.Bool.{cond-true}
use Rattle.std.proofs.lemmas.List.{get_or-take, length-drop, length-take-le}
use Rattle.std.proofs.lemmas.Option.{get_or_from_slice_get, slice_get_within}
use Rattle.wire_core.specs.Bytes.{IsBytes}
use Rattle.wire_core.proofs.ByteLists.{IsBytes-back, IsBytes-front}
use Rattle.phase_message.specs.declared.content.Content.{Content}
use Rattle.phase_message.specs.declared.offence.Offence.{Offence}
use Rattle.phase_message.specs.declared.post.Post.{Post}
use Rattle.phase_message.specs.declared.stage.Slot.{Slot}
use Rattle.phase_message.specs.declared.stage.StageKind.{StageKind}
use Rattle.phase_message.specs.declared.stage.StageKind.TheVariants.{Go, Final, Check, Confirm}
use Rattle.phase_message.specs.Offence.{content_read}
use Rattle.phase_message.specs.Shape.{Shape}
use Rattle.phase_message.specs.Slots.{senders_of, slot_number, slots_before, slots_of}
use Rattle.phase_message.specs.Stages.{is_member, is_slot, kind_of_stage, speaks, vote_of}
use Rattle.phase_message.proofs.Closings.{closing-follows}
use Rattle.phase_message.proofs.Counts.{slots_next}
use Rattle.phase_message.proofs.SlotLists.{length-slots_of, slot_at-number, slot_number-within, slots_before-most, slots_before-rises}
use Rattle.group_roster.specs.Roster.{Roster, shape_of_roster}
use Rattle.signed_post.specs.Lengths.{IsVoteStage}
use Rattle.signed_post.proofs.Lengths.{votes_are_short}
use Rattle.go_nogo.specs.Closing.{IsClosing, is_assent, posts_embedded, slots_embedded}
use Rattle.go_nogo.proofs.EmbeddedSlots.{assent-slots}
use Rattle.transcript_form.specs.declared.transcript.Transcript.{Transcript}
use Rattle.round_spec.specs.Cases.{IsWhole}
use Rattle.round_spec.specs.Course.{closing_of}
use Rattle.round_spec.specs.Embedded.{embedded_pairs, posts_in_content}
use Rattle.round_spec.specs.Justified.{ArePostsOf, IsPostOf}
use Rattle.round_spec.specs.OwnRows.{IsPastAt}
use Rattle.round_spec.specs.Runs.{AllGo, ReadsIn}
use Rattle.round_spec.specs.Say.{Configuration, shape_in}
use Rattle.round_spec.specs.Verdict.{ClosedStage, Convicts, Goes, Verdict, is_closing, no_post, post_in, verdict_of}
use Rattle.round_spec.proofs.GoLists.{there}
use Rattle.round_spec.proofs.Justified.{posts_are_found, zip-bytes}
use Rattle.round_spec.proofs.PastForms.{said-there}
use Rattle.round_spec.proofs.SealedBytes.{all-from, all-places}
use Rattle.round_spec.proofs.Verdicts.{sparing_means_agreed}

-- ---- closing stages

-- the kind of a closing stage, and that of its votes
pub record ClosingKind (shape : Shape) (stage : ℕ) : Type 0 where
  pub kind : StageKind
  pub vote : StageKind
  pub is : kind_of_stage shape stage ≡ Some kind
  pub closes : vote_of kind ≡ Some vote
  pub votes : IsVoteStage vote
  pub all_vote : senders_of shape vote ≡ shape.members
  pub all_close : (member : ℕ) → 1 ≤ member → member ≤ shape.members → is_slot shape stage member ≡ true

is-there : (n member : ℕ) → 1 ≤ member → member ≤ n → is_member n member ≡ true
is-there n member first last = search rules

pub final-closes : (shape : Shape) (stage shuffle : ℕ) → kind_of_stage shape stage ≡ Some (Final shuffle) → ClosingKind shape stage
final-closes shape stage shuffle e = record {
  kind = Final shuffle;
  vote = Go shuffle;
  is = e;
  closes = refl;
  votes = tt;
  all_vote = refl;
  all_close = λ member first last. ap (λ (o : Option StageKind). speaks shape o member) e ∙ is-there shape.members member first last;
}

pub confirm-closes : (shape : Shape) (stage : ℕ) → kind_of_stage shape stage ≡ Some Confirm → ClosingKind shape stage
confirm-closes shape stage e = record {
  kind = Confirm;
  vote = Check;
  is = e;
  closes = refl;
  votes = tt;
  all_vote = refl;
  all_close = λ member first last. ap (λ (o : Option StageKind). speaks shape o member) e ∙ is-there shape.members member first last;
}

closing-is : (shape : Shape) (stage : ℕ) → ClosingKind shape stage → is_closing shape stage ≡ true
closing-is shape stage k = ap (λ (o : Option StageKind). is_some (option_and_then vote_of o)) k.is
    ∙ ap (λ (o : Option StageKind). is_some o) k.closes

-- ---- embedded votes

-- a vote's post file is short
vote-short : (roster : Roster) (round : ℕ) (slot : Slot) (bytes : List ℕ) (post : Post) (vote : StageKind) → IsBytes bytes
    → kind_of_stage (shape_of_roster roster) slot.stage ≡ Some vote → IsVoteStage vote
    → IsPostOf roster round slot bytes post → length bytes ≤ 9405
vote-short roster round slot bytes post vote are at votes is =
    let stage : is.content.header.stage ≡ slot.stage = ap (λ (s : Slot). s.stage) is.named in
    let whole : IsBytes ((to_be_bytes w32 (length post.content) ++ post.content) ++ post.signature) = subst IsBytes is.spelled are in
    let content : IsBytes post.content = IsBytes-back (to_be_bytes w32 (length post.content)) post.content
    (IsBytes-front (to_be_bytes w32 (length post.content) ++ post.content) post.signature whole) in
    let short = votes_are_short roster round post is.content.header vote is.content is.admitted content
    (ap (kind_of_stage (shape_of_roster roster)) stage ∙ at) votes is.reads in
    omega (arith, short, ap length is.spelled)

zip-short : (roster : Roster) (round : ℕ) (slots : List Slot) (votes : List (List ℕ)) (posts : List Post) (vote : StageKind)
    → length votes ≤ length slots
    → AllByRecursion (λ slot. kind_of_stage (shape_of_roster roster) slot.stage ≡ Some vote) slots → IsVoteStage vote
    → AllByRecursion IsBytes votes → ArePostsOf roster round (zip slots votes) posts
    → AllByRecursion (λ v. length v ≤ 9405) votes
zip-short roster round slots [] posts vote few at votes bytes are = tt
zip-short roster round [] (v ∷ vs) posts vote few at votes bytes are = absurd (omega (arith, few))
zip-short roster round (slot ∷ slots) (v ∷ vs) [] vote few at votes bytes are = absurd are
zip-short roster round (slot ∷ slots) (v ∷ vs) (post ∷ posts) vote few at votes bytes are = (
  vote-short roster round slot v post vote bytes.0 at.0 votes are.0,
  zip-short roster round slots vs posts vote (omega (arith, few)) at.1
      votes bytes.1 are.1,
)

contains-at : {A : Type 0} (xs : List A) (k : ℕ) (x : A) → slice_get xs k ≡ Some x → Contains xs x
contains-at xs k x e = (k, slice_get_within xs k x e, get_or_from_slice_get xs k x x e)

-- as many slots as members are embedded by a content that assents
assent-count : (shape : Shape) (content : Content) → (k : ClosingKind shape content.header.stage) → is_assent content.body ≡ true
    → length (slots_embedded shape content) ≡ shape.members
assent-count shape content k assents =
    let stage : ℕ = content.header.stage in
    let follows = closing-follows shape stage k.kind k.vote k.is k.closes in
    let a : ℕ = slots_before shape (stage - 1) in
    let b : ℕ = slots_before shape (stage - 1 + 1) in
    let next : b ≡ a + senders_of shape k.vote = slots_next shape (stage - 1) k.vote follows.1 in
    ap length (cond-true (is_assent content.body) (slice_range (slots_of shape) a b) (take (slots_before shape stage) (slots_of shape))
    assents)
    ∙ length-take-le (b - a) (drop a (slots_of shape)) (omega (
      arith,
      next,
      slots_before-most shape (stage - 1 + 1),
      length-slots_of shape,
      length-drop a (slots_of shape),
    ))
    ∙ omega (arith, next, k.all_vote)

pub votes-short : (roster : Roster) (round : ℕ) (content : Content) (posts : List Post)
    → ClosingKind (shape_of_roster roster) content.header.stage
    → is_assent content.body ≡ true
    → length (posts_embedded content.body) ≤ (shape_of_roster roster).members → AllByRecursion IsBytes (posts_embedded content.body)
    → posts_in_content roster round content ≡ Ok posts
    → AllByRecursion (λ v. length v ≤ 9405) (posts_embedded content.body)
votes-short roster round content posts k assents few bytes e =
    let shape : Shape = shape_of_roster roster in
    let slots : List Slot = slots_embedded (shape_of_roster roster) content in
    let votes : List (List ℕ) = posts_embedded content.body in
    let follows = closing-follows (shape_of_roster roster) content.header.stage k.kind k.vote k.is k.closes in
    let closing : IsClosing (shape_of_roster roster) content = closing-is (shape_of_roster roster) content.header.stage k in
    let at : AllByRecursion (λ (slot : Slot). kind_of_stage (shape_of_roster roster) slot.stage ≡ Some k.vote) slots =
    all-from (λ (slot : Slot). kind_of_stage (shape_of_roster roster) slot.stage ≡ Some k.vote) slots (λ i slot there. (
    let is = ((assent-slots (shape_of_roster roster) content slot closing assents).0 (contains-at slots i slot there)).1 in
    let stage : slot.stage ≡ content.header.stage - 1 = omega (arith, is) in
    ap (kind_of_stage (shape_of_roster roster)) stage ∙ follows.1)) in
    let are = (posts_are_found roster round 0 (embedded_pairs roster content) posts
    (zip-bytes slots votes (all-places IsBytes votes bytes))).0 e in
    zip-short roster round slots votes posts k.vote (omega (arith, few, assent-count (shape_of_roster roster) content k assents)) at k.votes
    bytes are

-- ---- the posts of a passed stage

contents-same : (a b : Content) (r : Result Content Offence) → r ≡ Ok a → r ≡ Ok b → a ≡ b
contents-same a b r e e' = let both = sym e ∙ e' in cc

-- the closed stage of a past
abbrev stage_passed : Configuration → List Post → ℕ → ClosedStage
stage_passed c past stage = closing_of c (take (slots_before (shape_in c) (stage + 1)) past) stage

-- a post that stands in a slot of it
record StandsAt (c : Configuration) (past : List Post) (stage member : ℕ) : Type 0 where
  pub post : Post
  pub stands : slice_get past (slot_number (shape_in c) stage member) ≡ Some post
  pub reads : ReadsIn c (record { stage = stage; sender = member }) post
  pub closed : post_in (stage_passed c past stage) stage member ≡ post

stands-at : (c : Configuration) (later stage member : ℕ) (past : List Post) → IsPastAt c later past → stage < later
    → is_slot (shape_in c) stage member ≡ true → StandsAt c past stage member
stands-at c later stage member past is lt speaks_there =
    let shape = shape_in c in
    let number : ℕ = slot_number shape stage member in
    let within = (slot_number-within shape stage member speaks_there).1 in
    let found = there past number (omega (arith, is.whole, within, slots_before-rises shape (stage + 1) later (omega arith))) in
    record {
      post = found.0;
      stands = found.1;
      reads = is.reads number (record { stage = stage; sender = member }) found.0 (slot_at-number shape stage member speaks_there) found.1;
      closed = get_or-take (slots_before shape (stage + 1)) past number no_post within
          ∙ get_or_from_slice_get past number found.0 no_post found.1;
    }

whole-stage : (c : Configuration) (later stage : ℕ) (past : List Post) → IsPastAt c later past → 1 ≤ (shape_in c).members → stage < later
    → ClosingKind (shape_in c) stage → IsWhole (stage_passed c past stage)
whole-stage c later stage past is some lt k = record {
  members = some;
  closing = closing-is (shape_in c) stage k;
  posts = length-take-le (slots_before (shape_in c) (stage + 1)) past
      (let whole = is.whole in omega (arith, whole, slots_before-rises (shape_in c) (stage + 1) later (omega arith)));
  named = λ member content one reads. (
      let at = stands-at c later stage member past is lt (k.all_close member one.least one.most) in
      let said = said-there c (record { stage = stage; sender = member }) at.post at.reads in
      let same = contents-same content said.content (content_read (shape_in c) at.post.content)
      (sym (ap (λ (p : Post). content_read (shape_in c) p.content) at.closed) ∙ reads) said.reads in
      ap (λ (x : Content). x.header.stage) same ∙ said.stage);
}

-- behind a stage that was passed, what a member said there assents, and what it embeds are posts of their slots
pub record IsAgreed (c : Configuration) (content : Content) : Type 0 where
  pub assents : is_assent content.body ≡ true
  pub posts : List Post
  pub embeds : posts_in_content c.roster c.round content ≡ Ok posts

goes-spares : (verdict : Verdict) (t : Transcript) → verdict ≡ Goes → verdict ≡ Convicts t → ⊥
goes-spares verdict t goes is = (let both = sym goes ∙ is in cc)

pub agreed-there : (c : Configuration) (later stage member : ℕ) (past : List Post) (post : Post) (content : Content) → IsPastAt c later past
    → 1 ≤ (shape_in c).members → AllGo c past later → stage < later
    → ClosingKind (shape_in c) stage → 1 ≤ member → member ≤ (shape_in c).members
    → slice_get past (slot_number (shape_in c) stage member) ≡ Some post → content_read (shape_in c) post.content ≡ Ok content
    → IsAgreed c content
agreed-there c later stage member past post content is some goes lt k first last stands reads =
    let v : ClosedStage = stage_passed c past stage in
    let whole = whole-stage c later stage past is some lt k in
    let agree = sparing_means_agreed (stage_passed c past stage) whole
    (λ t convicts. goes-spares (verdict_of (stage_passed c past stage)) t (goes stage lt) convicts) in
    let faithful = agree.faithful member (record { least = first; most = last }) in
    let at = stands-at c later stage member past is lt (k.all_close member first last) in
    let one : at.post ≡ post = some-post at.post post (sym at.stands ∙ stands) in
    let same : faithful.content ≡ content =
    contents-same faithful.content content (content_read (shape_in c) post.content)
    (sym (ap (λ (p : Post). content_read (shape_in c) p.content) (at.closed ∙ one)) ∙ faithful.reads) reads in
    subst (IsAgreed c) same (record { assents = faithful.assents ∙ agree.votes; posts = faithful.posts; embeds = faithful.embeds })
  where
    some-post : (a b : Post) → (let told : Post → Option Post = λ x. Some x in told a ≡ told b) → a ≡ b
    some-post a b e = cc
