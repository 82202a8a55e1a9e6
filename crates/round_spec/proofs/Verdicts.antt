-- The cases of a verdict.
use Rattle.std.proofs.Common.{◌≡◌, ◌≢◌, ◌⊎◌, ℕ, zero, suc, ◌+◌, ◌-◌, ◌<◌, ◌≤◌, Bool, true, false, List, [], ◌∷◌, length, map, take, drop, Option, Some, None, Result, Ok, Err, ap, sym, ◌∙◌, refl, subst, arith, inl, inr}
use Rattle.std.specs.Prelude.{◌==◌, IsSome, is_some, bytes_eq, option_map, option_and_then, unwrap_or, Contains, if◌then◌else◌}
use Rattle.std.specs.List.{list_all, list_any, range_with_len, slice_range}
use Rattle.std.proofs.lemmas.List.{length-drop, length-map, length-take-le}
use Rattle.std.proofs.Math.ListN.{get_or-map}
use Rattle.std.proofs.lemmas.Bool.{cases_Bool, cond-true, cond-false, and_from, and_left, eqb-false, eqb-true}
use Rattle.std.proofs.lemmas.List.Folds.{list_all-map}
use Rattle.std.proofs.lemmas.Option.{none-some}
use Rattle.std.proofs.lemmas.Slice.Eq.{bytes_eq-Decides}
use Rattle.wire_core.specs.Answers.{first_some}
use Rattle.wire_core.proofs.AnswerLemmas.{first_below-each, first_below-found, first_some-some_parts}
use Rattle.phase_message.specs.declared.content.Body.{Body}
use Rattle.phase_message.specs.declared.content.Body.TheVariants.{Reveal, Dispute, Confirm, Differ}
use Rattle.phase_message.specs.declared.content.Content.{Content}
use Rattle.phase_message.specs.declared.offence.Offence.{Offence}
use Rattle.phase_message.specs.declared.post.Post.{Post}
use Rattle.phase_message.specs.declared.stage.Slot.{Slot}
use Rattle.phase_message.specs.declared.stage.StageKind.{StageKind}
use Rattle.phase_message.specs.declared.stage.StageKind.TheVariants.{Keys as AtKeys, Submit as AtSubmit, Shuffle as AtShuffle, Go as AtGo, Final as AtFinal, Pad as AtPad, Check as AtCheck, Confirm as AtConfirm}
use Rattle.phase_message.specs.Closing.{IsClosingBody}
use Rattle.phase_message.specs.Offence.{content_read}
use Rattle.phase_message.specs.Shape.{Shape}
use Rattle.phase_message.specs.Slots.{senders_of, slot_number, slots_before, slots_of}
use Rattle.phase_message.specs.Stages.{kind_of_stage, vote_of}
use Rattle.phase_message.proofs.Closings.{closing-follows}
use Rattle.phase_message.proofs.Counts.{slots_next}
use Rattle.phase_message.proofs.Read.{closings_are_read}
use Rattle.phase_message.proofs.SlotLists.{length-slots_of, slots_before-most, slots_before-rises}
use Rattle.signed_post.specs.Frame.{frame_of}
use Rattle.stage_log.specs.Log.{contents_of}
use Rattle.transcript_form.specs.declared.accusation.Accusation.{Accusation}
use Rattle.transcript_form.specs.declared.transcript.Transcript.{Transcript}
use Rattle.transcript_form.specs.Accusation.{accusation_of}
use Rattle.go_nogo.specs.Closing.{embedded_of, is_assent, is_justified, posts_embedded, slots_embedded}
use Rattle.go_nogo.specs.Votes.{votes_agree}
use Rattle.go_nogo.proofs.OneKind.{one-kind}
use Rattle.shuffle_blame.specs.declared.fault.Fault.{Fault}
use Rattle.shuffle_blame.specs.Replay.{body_of, culprit_of}
use Rattle.round_spec.specs.Slots.{items_opened, said_in, slots_of_past}
use Rattle.round_spec.specs.Embedded.{BadPost, embedded_pairs, is_content_justified, is_justified_by, posts_in_content}
use Rattle.round_spec.specs.Verdict.{ClosedStage, Verdict, Goes, Done, Convicts, agreed_at, all_say, bad_log, bad_log_of, bad_pad, bad_pad_by, bad_pad_if, closing_body, closing_content, concluded_at, content_of_post, dissented_at, equivocation, equivocation_in, first_bad_pad, first_on, inquiry_into, is_bad, is_closing, is_dissent, is_held, is_inner_seed, is_read_justified, no_post, pairs_read, past_at, post_in, replay_conviction, second_content, shape_at, verdict_of, wrong_seed, wrong_seed_of}
use Rattle.round_spec.specs.Cases.{AllAgree, AllJustified, AreFaithful, ByBadLog, ByBadPad, ByEquivocation, ByReplay, ByWrongSeed, Case, Ends, GoesOn, IsBadLog, IsBadPad, IsEquivocation, IsFaithful, IsMemberOf, IsWhole, IsWrongSeed, LeavesWork, FinalBEnds, SparingMeansAgreed, VerdictCases, agree_before}
use Rattle.round_spec.proofs.Embedding.{embedded-contents, kept-embedded, kept-pairs}
use Rattle.round_spec.proofs.Votes.{not-none, not_unanimous_blames, votes-front}

-- ---- the first of the members

-- none on any member
on-none : (v : ClosedStage) (verdict_on : ℕ → Option Verdict) (member : ℕ) → first_on v verdict_on ≡ None → IsMemberOf v member
    → verdict_on member ≡ None
on-none v verdict_on member none is =
    let least = is.least in
    let most = is.most in
    let same : (member - 1) + 1 ≡ member = omega arith in
    subst (λ (k : ℕ). verdict_on k ≡ None) same (first_below-each (λ place. verdict_on (place + 1)) (shape_at v).members none (member - 1)
    (omega arith))

-- the least member on which there is one
record IsFirstOn (v : ClosedStage) (verdict_on : ℕ → Option Verdict) (verdict : Verdict) : Type 0 where
  pub member : ℕ
  pub is_member : IsMemberOf v member
  pub here : verdict_on member ≡ Some verdict
  pub earlier : (other : ℕ) → IsMemberOf v other → other < member → verdict_on other ≡ None

on-some : (v : ClosedStage) (verdict_on : ℕ → Option Verdict) (verdict : Verdict) → first_on v verdict_on ≡ Some verdict
    → IsFirstOn v verdict_on verdict
on-some v verdict_on verdict some =
    let found = first_below-found (λ place. verdict_on (place + 1)) (shape_at v).members verdict some in
    let within = found.1 in record {
      member = found.0 + 1;
      is_member = record { least = omega arith; most = omega arith };
      here = found.2;
      earlier = λ other is lt. (
          let least = is.least in
          let same : (other - 1) + 1 ≡ other = omega arith in
          subst (λ (k : ℕ). verdict_on k ≡ None) same (found.3 (other - 1) (omega arith)));
    }

-- ---- tests

some-is : {A : Type 0} (x y : A) → (let told : A → Option A = λ z. Some z in told x ≡ told y) → x ≡ y
some-is x y e = cc

-- a verdict unless a test passes: nothing, so it passes; something, so it does not
unless-none : (b : Bool) (x : Verdict) → (if b then None else Some x) ≡ None → b ≡ true
unless-none true x e = refl
unless-none false x e = absurd cc

unless-some : (b : Bool) (x y : Verdict) → (if b then None else Some x) ≡ Some y → (b ≡ false) × (y ≡ x)
unless-some true x y e = absurd cc
unless-some false x y e = (refl, sym (some-is x y e))

-- ---- justified contents

read-justified : (v : ClosedStage) (r : Result Content Offence) → is_read_justified v r ≡ true → (content : Content) × (r ≡ Ok content)
    × (is_content_justified v.roster v.round content ≡ true)
read-justified v (Ok content) e = (content, refl, e)
read-justified v (Err offence) e = absurd cc

justify-parts : (shape : Shape) (content : Content) (r : Result (List Post) BadPost) → is_justified_by shape content r ≡ true
    → (posts : List Post) × (r ≡ Ok posts) × (is_justified shape content (contents_of posts) ≡ true)
justify-parts shape content (Ok posts) e = (posts, refl, e)
justify-parts shape content (Err bad) e = absurd cc

justified-parts : (v : ClosedStage) (content : Content) → is_content_justified v.roster v.round content ≡ true
    → (posts : List Post) × (posts_in_content v.roster v.round content ≡ Ok posts)
    × (is_justified (shape_at v) content (contents_of posts) ≡ true)
unfolding is_content_justified
justified-parts v content e = justify-parts (shape_at v) content (posts_in_content v.roster v.round content) e

-- ---- the kinds of closing contents

-- a closing stage, its kind and that of its votes
record IsClosingKind (shape : Shape) (stage : ℕ) : Type 0 where
  pub kind : StageKind
  pub vote : StageKind
  pub is : kind_of_stage shape stage ≡ Some kind
  pub closes : vote_of kind ≡ Some vote
  pub all_vote : senders_of shape vote ≡ shape.members

closing-kind : (shape : Shape) (stage : ℕ) → is_closing shape stage ≡ true → IsClosingKind shape stage
closing-kind shape stage closing = by_kind (kind_of_stage shape stage) refl
  where
    by_kind : (o : Option StageKind) → kind_of_stage shape stage ≡ o → IsClosingKind shape stage
    by_kind (Some (AtFinal shuffle)) e = record { kind = AtFinal shuffle; vote = AtGo shuffle; is = e; closes = refl; all_vote = refl }
    by_kind (Some AtConfirm) e = record { kind = AtConfirm; vote = AtCheck; is = e; closes = refl; all_vote = refl }
    by_kind None e = absurd (let none = sym (ap (λ (o : Option StageKind). is_some (option_and_then vote_of o)) e) ∙ closing in cc)
    by_kind (Some AtKeys) e = absurd (let none = sym (ap (λ (o : Option StageKind). is_some (option_and_then vote_of o)) e) ∙ closing in cc)
    by_kind (Some (AtSubmit shuffle)) e = absurd (let none = sym (ap (λ (o : Option StageKind). is_some (option_and_then vote_of o)) e)
        ∙ closing in cc)
    by_kind (Some (AtShuffle shuffle k)) e = absurd (let none = sym (ap (λ (o : Option StageKind). is_some (option_and_then vote_of o)) e)
        ∙ closing in cc)
    by_kind (Some (AtGo shuffle)) e = absurd (let none = sym (ap (λ (o : Option StageKind). is_some (option_and_then vote_of o)) e)
        ∙ closing in cc)
    by_kind (Some AtPad) e = absurd (let none = sym (ap (λ (o : Option StageKind). is_some (option_and_then vote_of o)) e) ∙ closing in cc)
    by_kind (Some AtCheck) e = absurd (let none = sym (ap (λ (o : Option StageKind). is_some (option_and_then vote_of o)) e)
        ∙ closing in cc)

-- one that assents embeds a post of each member, and else it dissents and embeds one of each slot before
abbrev IsOfKind : Shape → ℕ → Body → Type 0
IsOfKind shape stage body =
    ((is_assent body ≡ true) × (length (posts_embedded body) ≡ shape.members))
    ⊎ ((is_assent body ≡ false) × (is_dissent body ≡ true) × (length (posts_embedded body) ≡ slots_before shape stage))

body-kind : (shape : Shape) (stage : ℕ) (kind : StageKind) (body : Body) → IsClosingBody shape stage kind body → IsOfKind shape stage body
body-kind shape stage (AtFinal shuffle) (Reveal votes seed) is = inl (refl, is)
body-kind shape stage (AtFinal shuffle) (Dispute posts seed opening) is = inr (refl, refl, is)
body-kind shape stage AtConfirm (Confirm votes) is = inl (refl, is)
body-kind shape stage AtConfirm (Differ posts) is = inr (refl, refl, is)
body-kind shape stage _ _ is = absurd is

-- as many posts as slots
slots-count : (shape : Shape) (content : Content) → IsClosingKind shape content.header.stage
    → IsOfKind shape content.header.stage content.body
    → length (posts_embedded content.body) ≡ length (slots_embedded shape content)
slots-count shape content is (inl assents) =
    let stage : ℕ = content.header.stage in
    let a : ℕ = slots_before shape (stage - 1) in
    let b : ℕ = slots_before shape (stage - 1 + 1) in
    let follows = closing-follows shape stage is.kind is.vote is.is is.closes in
    let next : b ≡ a + shape.members = slots_next shape (stage - 1) is.vote follows.1 ∙ ap (λ (k : ℕ). a + k) is.all_vote in
    let most = slots_before-most shape (stage - 1 + 1) in
    let within : b - a ≤ length (drop a (slots_of shape)) = omega (arith, length-drop a (slots_of shape), length-slots_of shape) in
    let long : length (slice_range (slots_of shape) a b) ≡ b - a = length-take-le (b - a) (drop a (slots_of shape)) within in
    let few : b - a ≡ shape.members = omega (arith, next) in
    assents.1 ∙ sym few ∙ sym long ∙ sym (ap length (cond-true (is_assent content.body) (slice_range (slots_of shape) a b)
    (take (slots_before shape stage) (slots_of shape)) assents.0))
slots-count shape content is (inr dissents) =
    let stage : ℕ = content.header.stage in
    let n : ℕ = slots_before shape stage in
    let most = slots_before-most shape stage in
    let long : length (take n (slots_of shape)) ≡ n = length-take-le n (slots_of shape) (omega (arith, length-slots_of shape)) in
    dissents.2 ∙ sym long ∙ sym (ap length (cond-false (is_assent content.body)
    (slice_range (slots_of shape) (slots_before shape (stage - 1)) (slots_before shape (stage - 1 + 1))) (take n (slots_of shape))
    dissents.0))

-- ---- no bad log and no equivocation

bad-none : (v : ClosedStage) → bad_log v ≡ None → AllJustified v
unfolding bad_log
bad-none v none member is = unless-none (is_read_justified v (closing_content v member)) _ (on-none v (bad_log_of v) member none is)

second-none : (v : ClosedStage) (member : ℕ) (content : Content) → equivocation v ≡ None → IsMemberOf v member
    → closing_content v member ≡ Ok content
    → first_some (map (second_content v) (embedded_pairs v.roster content)) ≡ None
unfolding equivocation
second-none v member content none is reads =
    sym (ap (λ (r : Result Content Offence). first_some (map (second_content v) (pairs_read v r))) reads)
    ∙ on-none v (equivocation_in v) member none is

-- so each member said what it ought to
pub faithful : (v : ClosedStage) → IsWhole v → bad_log v ≡ None → equivocation v ≡ None → AreFaithful v
faithful v whole no_bad no_second member is =
    let found = read-justified v (closing_content v member) (bad-none v no_bad member is) in
    let content : Content = found.0 in
    faithful_by content found.1 found.2
  where
    faithful_by : (content : Content) → closing_content v member ≡ Ok content → is_content_justified v.roster v.round content ≡ true
        → IsFaithful v member
    faithful_by content reads justified =
        let stage_is : content.header.stage ≡ v.stage = whole.named member content is reads in
        let kind : IsClosingKind (shape_at v) v.stage = closing-kind (shape_at v) v.stage whole.closing in
        let kind' : IsClosingKind (shape_at v) content.header.stage = subst (IsClosingKind (shape_at v)) (sym stage_is) kind in
        let body : IsOfKind (shape_at v) content.header.stage content.body =
        body-kind (shape_at v) content.header.stage kind'.kind content.body
        (closings_are_read (shape_at v) (post_in v v.stage member).content content kind'.kind kind'.vote reads kind'.is kind'.closes) in
        let least = (closing-follows (shape_at v) content.header.stage kind'.kind kind'.vote kind'.is kind'.closes).0 in
        let rises = slots_before-rises (shape_at v) v.stage (v.stage + 1) (omega arith) in
        let long : slots_before (shape_at v) content.header.stage ≤ length v.posts = subst
        (λ (s : ℕ). slots_before (shape_at v) s ≤ length v.posts) (sym stage_is) (omega (arith, whole.posts)) in
        let parts = justified-parts v content justified in
        let contents : contents_of parts.0 ≡ embedded_of (shape_at v) content (past_at v) =
        embedded-contents v 0 (embedded_pairs v.roster content) parts.0 parts.1 (second-none v member content no_second is reads)
        ∙ kept-pairs v content (slots-count (shape_at v) content kind' body)
        ∙ kept-embedded v content least long in
        let closing : IsSome (option_and_then vote_of (kind_of_stage (shape_at v) content.header.stage)) = subst
        (λ (s : ℕ). IsSome (option_and_then vote_of (kind_of_stage (shape_at v) s))) (sym stage_is) whole.closing in
        let assents : is_assent content.body ≡ agree_before v =
        one-kind (shape_at v) (past_at v) content closing (sym (ap (is_justified (shape_at v) content) contents) ∙ parts.2)
        ∙ ap (votes_agree (shape_at v) (past_at v)) stage_is in
        record {
          content = content;
          reads = reads;
          justified = justified;
          posts = parts.0;
          embeds = parts.1;
          contents = contents;
          assents = assents;
          dissents = λ differ. dissent content.header.stage content.body body (assents ∙ differ);
        }
      where
        dissent : (stage : ℕ) (body : Body) → IsOfKind (shape_at v) stage body → is_assent body ≡ false → is_dissent body ≡ true
        dissent stage body (inl assents) objects = absurd (let both = sym objects ∙ assents.0 in cc)
        dissent stage body (inr dissents) objects = dissents.1

-- ---- what all say

closing-body : (v : ClosedStage) (member : ℕ) → closing_body v member ≡ body_of (closing_content v member)
unfolding said_in
closing-body v member =
    ap (λ (bytes : List ℕ). body_of (content_read (shape_at v) bytes))
    (get_or-map (λ (post : Post). post.content) v.posts (slot_number (shape_at v) v.stage member) no_post)

pub faithful-body : (v : ClosedStage) (member : ℕ) (is : IsFaithful v member) → closing_body v member ≡ is.content.body
faithful-body v member is = closing-body v member ∙ ap body_of is.reads

range-all : (p : ℕ → Bool) (a n : ℕ) → ((k : ℕ) → a ≤ k → k < a + n → p k ≡ true) → list_all p (range_with_len a n) ≡ true
range-all p a zero each = refl
range-all p a (suc n) each = and_from (p a) (list_all p (range_with_len (a + 1) n)) (each a (omega arith) (omega arith))
    (range-all p (a + 1) n (λ k le lt. each k (omega arith) (omega arith)))

range-not : (p : ℕ → Bool) (a n : ℕ) → 1 ≤ n → p a ≡ false → list_all p (range_with_len a n) ≡ false
range-not p a zero le e = absurd (omega arith)
range-not p a (suc n) le e = and_left (p a) (list_all p (range_with_len (a + 1) n)) e

pub all-say : (v : ClosedStage) (is_one : Body → Bool) → ((member : ℕ) → IsMemberOf v member → is_one (closing_body v member) ≡ true)
    → all_say v is_one ≡ true
all-say v is_one each =
    list_all-map (λ body. is_one body) (closing_body v) (range_with_len 1 (shape_at v).members)
    ∙ range-all (λ member. is_one (closing_body v member)) 1 (shape_at v).members
    (λ k le lt. each k (record { least = le; most = omega arith }))

pub not-all-say : (v : ClosedStage) (is_one : Body → Bool) → 1 ≤ (shape_at v).members → is_one (closing_body v 1) ≡ false
    → all_say v is_one ≡ false
not-all-say v is_one le e =
    list_all-map (λ body. is_one body) (closing_body v) (range_with_len 1 (shape_at v).members)
    ∙ range-not (λ member. is_one (closing_body v member)) 1 (shape_at v).members le e

-- where the votes are unanimous, all agree, and else all dissent
concluded-agreed : (v : ClosedStage) → AreFaithful v → agree_before v ≡ true
    → concluded_at v ≡ agreed_at v (kind_of_stage (shape_at v) v.stage)
unfolding concluded_at
concluded-agreed v all agree =
    cond-true (all_say v is_assent) (agreed_at v (kind_of_stage (shape_at v) v.stage)) _
    (all-say v is_assent (λ member is. ap is_assent (faithful-body v member (all member is)) ∙ (all member is).assents ∙ agree))

concluded-dissented : (v : ClosedStage) → 1 ≤ (shape_at v).members → AreFaithful v → agree_before v ≡ false
    → concluded_at v ≡ dissented_at v
unfolding concluded_at
concluded-dissented v least all differ =
    let first : IsMemberOf v 1 = record { least = omega arith; most = least } in
    cond-false (all_say v is_assent) (agreed_at v (kind_of_stage (shape_at v) v.stage))
    (if all_say v is_dissent then dissented_at v else Goes)
    (not-all-say v is_assent least (ap is_assent (faithful-body v 1 (all 1 first)) ∙ (all 1 first).assents ∙ differ))
    ∙ cond-true (all_say v is_dissent) (dissented_at v) Goes
    (all-say v is_dissent (λ member is. ap is_dissent (faithful-body v member (all member is)) ∙ (all member is).dissents differ))

-- ---- the cases

-- what gives the first answer of a list is in it
first-in : {A : Type 0} (f : A → Option Verdict) (xs : List A) (x : Verdict) → first_some (map f xs) ≡ Some x → (y : A) × Contains xs y
    × (f y ≡ Some x)
first-in f [] x e = absurd (none-some x e)
first-in f (y ∷ ys) x e = elim (first_some-some_parts (f y) (map f ys) x e) [
  | inl here ↦ (y, (0, omega arith, refl), here)
  | inr later ↦
      let found = first-in f ys x later.1 in
      let at = found.1 in
      (found.0, (suc at.0, omega (arith, at.1), at.2), found.2)
]

-- the verdict of a closing stage: a bad log, else an equivocation, else what its contents come to
verdict-is : (v : ClosedStage) → is_closing (shape_at v) v.stage ≡ true
    → verdict_of v ≡ unwrap_or (first_some (bad_log v ∷ equivocation v ∷ [])) (concluded_at v)
unfolding verdict_of
verdict-is v closing = cond-true (is_closing (shape_at v) v.stage)
    (unwrap_or (first_some (bad_log v ∷ equivocation v ∷ [])) (concluded_at v)) Goes closing

case-bad_log : (v : ClosedStage) (x verdict : Verdict) → bad_log v ≡ Some x → verdict ≡ x → IsBadLog v verdict
unfolding bad_log
case-bad_log v x verdict some is =
    let found = on-some v (bad_log_of v) x some in
    let here = unless-some (is_read_justified v (closing_content v found.member)) _ x found.here in
    record {
      member = found.member;
      is_member = found.is_member;
      bad = here.0;
      earlier = λ other other_is lt. unless-none (is_read_justified v (closing_content v other)) _ (found.earlier other other_is lt);
      verdict_is = is ∙ here.1;
    }

case-equivocation : (v : ClosedStage) (x verdict : Verdict) → bad_log v ≡ None → equivocation v ≡ Some x → verdict ≡ x
    → IsEquivocation v verdict
unfolding equivocation
case-equivocation v x verdict none some is =
    let found = on-some v (equivocation_in v) x some in
    let read = read-justified v (closing_content v found.member) (bad-none v none found.member found.is_member) in
    let pairs_are : pairs_read v (closing_content v found.member) ≡ embedded_pairs v.roster read.0 = ap (pairs_read v) read.1 in
    let first = first-in (second_content v) (embedded_pairs v.roster read.0) x
    (sym (ap (λ (pairs : List (Slot × List ℕ)). first_some (map (second_content v) pairs)) pairs_are) ∙ found.here) in
    let pair : Slot × List ℕ = first.0 in
    let kept : List ℕ = (post_in v pair.0.stage pair.0.sender).content in
    let here = unless-some (bytes_eq (content_of_post (frame_of pair.1)) kept) _ x first.2 in
    record {
      justified = bad-none v none;
      member = found.member;
      is_member = found.is_member;
      content = read.0;
      reads = read.1;
      earlier = found.earlier;
      pair = pair;
      embedded = first.1;
      other_content = λ same. (let equal = (bytes_eq-Decides (content_of_post (frame_of pair.1)) kept).1 same in let not_equal = here.0 in
          cc);
      verdict_is = is ∙ here.1;
    }

case-wrong_seed : (v : ClosedStage) (shuffle : ℕ) (x verdict : Verdict) → AreFaithful v → agree_before v ≡ true
    → kind_of_stage (shape_at v) v.stage ≡ Some (AtFinal shuffle)
    → wrong_seed v shuffle ≡ Some x → verdict ≡ x → IsWrongSeed v verdict
unfolding wrong_seed
case-wrong_seed v shuffle x verdict all agree kind some is =
    let found = on-some v (wrong_seed_of v shuffle) x some in
    let here = unless-some (is_inner_seed v shuffle found.member) _ x found.here in
    record {
      faithful = all;
      votes = agree;
      shuffle = shuffle;
      kind = kind;
      member = found.member;
      is_member = found.is_member;
      wrong = here.0;
      earlier = λ other other_is lt. unless-none (is_inner_seed v shuffle other) _ (found.earlier other other_is lt);
      verdict_is = is ∙ here.1;
    }

seed-none : (v : ClosedStage) (shuffle member : ℕ) → wrong_seed v shuffle ≡ None → IsMemberOf v member
    → is_inner_seed v shuffle member ≡ true
unfolding wrong_seed
seed-none v shuffle member none is = unless-none (is_inner_seed v shuffle member) _ (on-none v (wrong_seed_of v shuffle) member none is)

one-kind_of : (a b : StageKind) → (let told : StageKind → Option StageKind = λ z. Some z in told a ≡ told b) → a ≡ b
one-kind_of a b e = cc

final-number : (a b : ℕ) → AtFinal a ≡ AtFinal b → a ≡ b
final-number a b e = cc

-- all agree at the end of a shuffle where no seed is wrong
agree-final : (v : ClosedStage) (shuffle : ℕ) → AreFaithful v → agree_before v ≡ true
    → kind_of_stage (shape_at v) v.stage ≡ Some (AtFinal shuffle) → wrong_seed v shuffle ≡ None → AllAgree v
agree-final v shuffle all agree kind none = record {
  faithful = all;
  votes = agree;
  seeds = λ other member other_kind is. (
      let same : shuffle ≡ other = final-number shuffle other (one-kind_of (AtFinal shuffle) (AtFinal other) (sym kind ∙ other_kind)) in
      subst (λ (s : ℕ). is_inner_seed v s member ≡ true) same (seed-none v shuffle member none is));
}

agree-confirm : (v : ClosedStage) → AreFaithful v → agree_before v ≡ true → kind_of_stage (shape_at v) v.stage ≡ Some AtConfirm → AllAgree v
agree-confirm v all agree kind = record {
  faithful = all;
  votes = agree;
  seeds = λ other member other_kind is. absurd (let same = one-kind_of AtConfirm (AtFinal other) (sym kind ∙ other_kind) in cc);
}

-- an item that gives a verdict is an accusation that holds
pad-parts : (v : ClosedStage) (item : Option (List ℕ)) (x : Verdict) → bad_pad_by v item ≡ Some x
    → (bytes : List ℕ) × (a : Accusation) × (item ≡ Some bytes) × (accusation_of bytes ≡ Some a)
    × (is_held (shape_at v) (past_at v) a ≡ true) × (x ≡ bad_pad v a)
pad-parts v None x e = absurd (none-some x e)
pad-parts v (Some bytes) x e = by_accusation (accusation_of bytes) refl e
  where
    by_accusation : (o : Option Accusation) → accusation_of bytes ≡ o → option_and_then (bad_pad_if v) o ≡ Some x
        → (bytes' : List ℕ) × (a : Accusation) × (Some bytes ≡ Some bytes') × (accusation_of bytes' ≡ Some a)
        × (is_held (shape_at v) (past_at v) a ≡ true) × (x ≡ bad_pad v a)
    by_accusation None is e = absurd (none-some x e)
    by_accusation (Some a) is e =
        let held = held_parts (is_held (shape_at v) (past_at v) a) (bad_pad v a) e in
        (bytes, a, refl, is, held.0, held.1)
      where
        held_parts : (b : Bool) (y : Verdict) → (if b then Some y else None) ≡ Some x → (b ≡ true) × (x ≡ y)
        held_parts true y e = (refl, sym (some-is y x e))
        held_parts false y e = absurd (none-some x e)

case-bad_pad : (v : ClosedStage) (shuffle : ℕ) (x verdict : Verdict) → AllAgree v
    → kind_of_stage (shape_at v) v.stage ≡ Some (AtFinal shuffle) → shuffle ≢ 1
    → first_bad_pad v ≡ Some x → verdict ≡ x → IsBadPad v verdict
unfolding first_bad_pad
case-bad_pad v shuffle x verdict agree kind second some is =
    let found = first-in (bad_pad_by v) (items_opened (shape_at v) (past_at v) 2) x some in
    let parts = pad-parts v found.0 x found.2 in
    record {
      agree = agree;
      shuffle = shuffle;
      kind = kind;
      second = second;
      item = parts.0;
      accusation = parts.1;
      opened = subst (λ (item : Option (List ℕ)). Contains (items_opened (shape_at v) (past_at v) 2) item) parts.2 found.1;
      spelled = parts.3;
      holds = parts.4;
      verdict_is = is ∙ parts.5;
    }

case-final : (v : ClosedStage) (shuffle : ℕ) (verdict : Verdict) → AreFaithful v → agree_before v ≡ true
    → kind_of_stage (shape_at v) v.stage ≡ Some (AtFinal shuffle)
    → verdict ≡ agreed_at v (Some (AtFinal shuffle)) → Case v verdict
case-final v shuffle verdict all agree kind is = by_seed (wrong_seed v shuffle) refl
  where
    none_wrong : Verdict
    none_wrong = if shuffle == 1 then Goes else unwrap_or (first_bad_pad v) Done

    by_seed : (o : Option Verdict) → wrong_seed v shuffle ≡ o → Case v verdict
    by_seed (Some x) e = ByWrongSeed (case-wrong_seed v shuffle x verdict all agree kind e
        (is ∙ ap (λ (o : Option Verdict). unwrap_or o (if shuffle == 1 then Goes else unwrap_or (first_bad_pad v) Done)) e))
    by_seed None e =
        let agrees = agree-final v shuffle all agree kind e in
        let is_so : verdict ≡ (if shuffle == 1 then Goes else unwrap_or (first_bad_pad v) Done) = is
        ∙ ap (λ (o : Option Verdict). unwrap_or o (if shuffle == 1 then Goes else unwrap_or (first_bad_pad v) Done)) e in
        elim (cases_Bool (shuffle == 1)) [
          | inl first ↦ GoesOn agrees (inl (kind ∙ ap (λ (s : ℕ). Some (AtFinal s)) (eqb-true shuffle 1 first)))
              (is_so ∙ cond-true (shuffle == 1) Goes (unwrap_or (first_bad_pad v) Done) first)
          | inr second ↦ by_pad agrees (eqb-false shuffle 1 second)
              (is_so ∙ cond-false (shuffle == 1) Goes (unwrap_or (first_bad_pad v) Done) second) (first_bad_pad v) refl
        ]
      where
        by_pad : AllAgree v → shuffle ≢ 1 → verdict ≡ unwrap_or (first_bad_pad v) Done → (o : Option Verdict) → first_bad_pad v ≡ o
            → Case v verdict
        by_pad agrees second is (Some x) e = ByBadPad (case-bad_pad v shuffle x verdict agrees kind second e
            (is ∙ ap (λ (o : Option Verdict). unwrap_or o Done) e))
        by_pad agrees second is None e = Ends agrees (inl (shuffle, kind, second, e)) (is ∙ ap (λ (o : Option Verdict). unwrap_or o Done) e)

case-confirm : (v : ClosedStage) (verdict : Verdict) → AreFaithful v → agree_before v ≡ true
    → kind_of_stage (shape_at v) v.stage ≡ Some AtConfirm
    → verdict ≡ agreed_at v (Some AtConfirm) → Case v verdict
case-confirm v verdict all agree kind is =
    let some_bad : Bool = list_any is_bad (slots_of_past (shape_at v) (past_at v)) in
    elim (cases_Bool (list_any is_bad (slots_of_past (shape_at v) (past_at v)))) [
      | inl bad ↦ GoesOn (agree-confirm v all agree kind) (inr (kind, bad)) (is ∙ cond-true some_bad Goes Done bad)
      | inr good ↦ Ends (agree-confirm v all agree kind) (inr (kind, good)) (is ∙ cond-false some_bad Goes Done good)
    ]

case-agreed : (v : ClosedStage) (verdict : Verdict) → IsWhole v → AreFaithful v → agree_before v ≡ true
    → verdict ≡ agreed_at v (kind_of_stage (shape_at v) v.stage) → Case v verdict
case-agreed v verdict whole all agree is = by_kind (closing-kind (shape_at v) v.stage whole.closing)
  where
    by_kind : IsClosingKind (shape_at v) v.stage → Case v verdict
    by_kind k = by_case k.kind k.vote k.is k.closes
      where
        by_case : (kind vote : StageKind) → kind_of_stage (shape_at v) v.stage ≡ Some kind → vote_of kind ≡ Some vote → Case v verdict
        by_case (AtFinal shuffle) vote kind closes = case-final v shuffle verdict all agree kind (is ∙ ap (agreed_at v) kind)
        by_case AtConfirm vote kind closes = case-confirm v verdict all agree kind (is ∙ ap (agreed_at v) kind)
        by_case AtKeys vote kind closes = absurd cc
        by_case (AtSubmit shuffle) vote kind closes = absurd cc
        by_case (AtShuffle shuffle k) vote kind closes = absurd cc
        by_case (AtGo shuffle) vote kind closes = absurd cc
        by_case AtPad vote kind closes = absurd cc
        by_case AtCheck vote kind closes = absurd cc

-- votes that are not unanimous are so in the past that is replayed
case-dissented : (v : ClosedStage) (verdict : Verdict) → IsWhole v → AreFaithful v → agree_before v ≡ false → verdict ≡ dissented_at v
    → Case v verdict
unfolding dissented_at
case-dissented v verdict whole all differ is = by_culprit (culprit_of (inquiry_into v)) refl
  where
    n : ℕ
    n = slots_before (shape_at v) v.stage

    long : n ≤ length (past_at v)
    long = let rises = slots_before-rises (shape_at v) v.stage (v.stage + 1) (omega arith) in omega
        (arith, whole.posts, length-map v.posts (λ (post : Post). post.content))

    front : n ≤ length (take n (past_at v))
    front = omega (arith, length-take-le n (past_at v) long)

    by_culprit : (o : Option Fault) → culprit_of (inquiry_into v) ≡ o → Case v verdict
    by_culprit (Some fault) e = ByReplay (record {
      faithful = all;
      votes = differ;
      fault = fault;
      culprit = e;
      verdict_is = is ∙ ap (λ (o : Option Fault). unwrap_or (option_map (replay_conviction v) o) Goes) e;
    })
    by_culprit None e = absurd (not-none (culprit_of (inquiry_into v))
        (not_unanimous_blames (inquiry_into v) whole.closing front (votes-front (shape_at v) (past_at v) v.stage whole.closing ∙ differ)) e)

pub verdict_cases : VerdictCases
verdict_cases v whole = by_bad (bad_log v) refl
  where
    from : (o p : Option Verdict) → bad_log v ≡ o → equivocation v ≡ p → verdict_of v ≡ unwrap_or (first_some (o ∷ p ∷ [])) (concluded_at v)
    from o p e e' = verdict-is v whole.closing ∙ ap (λ (o : Option Verdict). unwrap_or (first_some (o ∷ equivocation v ∷ []))
        (concluded_at v)) e ∙ ap (λ (p : Option Verdict). unwrap_or (first_some (o ∷ p ∷ [])) (concluded_at v)) e'

    by_second : bad_log v ≡ None → (p : Option Verdict) → equivocation v ≡ p → Case v (verdict_of v)
    by_second none (Some x) e = ByEquivocation (case-equivocation v x (verdict_of v) none e (from None (Some x) none e))
    by_second none None e =
        let all = faithful v whole none e in
        let is = from None None none e in
        elim (cases_Bool (agree_before v)) [
          | inl agree ↦ case-agreed v (verdict_of v) whole all agree (is ∙ concluded-agreed v all agree)
          | inr differ ↦ case-dissented v (verdict_of v) whole all differ (is ∙ concluded-dissented v whole.members all differ)
        ]

    by_bad : (o : Option Verdict) → bad_log v ≡ o → Case v (verdict_of v)
    by_bad (Some x) e = ByBadLog (case-bad_log v x (verdict_of v) e (from (Some x) (equivocation v) e refl))
    by_bad None e = by_second e (equivocation v) refl

-- ---- what follows

pub sparing_means_agreed : SparingMeansAgreed
sparing_means_agreed v whole spares = by_case (verdict_cases v whole)
  where
    by_case : Case v (verdict_of v) → AllAgree v
    by_case (ByBadLog is) = absurd (spares _ is.verdict_is)
    by_case (ByEquivocation is) = absurd (spares _ is.verdict_is)
    by_case (ByWrongSeed is) = absurd (spares _ is.verdict_is)
    by_case (ByReplay is) = absurd (spares _ is.verdict_is)
    by_case (ByBadPad is) = absurd (spares _ is.verdict_is)
    by_case (GoesOn agree work is) = agree
    by_case (Ends agree done is) = agree

-- a verdict that convicts is not that the round goes on
convicts-ends : (verdict : Verdict) (t : Transcript) → verdict ≡ Convicts t → verdict ≡ Goes → ⊥
convicts-ends verdict t is goes = (let same = sym is ∙ goes in cc)

final-one : (v : ClosedStage) → kind_of_stage (shape_at v) v.stage ≡ Some (AtFinal 2) → LeavesWork v → ⊥
final-one v kind (inl first) = (let same = final-number 1 2 (one-kind_of (AtFinal 1) (AtFinal 2) (sym first ∙ kind)) in omega (arith, same))
final-one v kind (inr confirm) = (let same = one-kind_of AtConfirm (AtFinal 2) (sym confirm.0 ∙ kind) in cc)

pub final_b_ends : FinalBEnds
final_b_ends v whole kind goes = by_case (verdict_cases v whole)
  where
    by_case : Case v (verdict_of v) → ⊥
    by_case (ByBadLog is) = convicts-ends (verdict_of v) _ is.verdict_is goes
    by_case (ByEquivocation is) = convicts-ends (verdict_of v) _ is.verdict_is goes
    by_case (ByWrongSeed is) = convicts-ends (verdict_of v) _ is.verdict_is goes
    by_case (ByReplay is) = convicts-ends (verdict_of v) _ is.verdict_is goes
    by_case (ByBadPad is) = convicts-ends (verdict_of v) _ is.verdict_is goes
    by_case (GoesOn agree work is) = final-one v kind work
    by_case (Ends agree done is) = (let same = sym is ∙ goes in cc)
