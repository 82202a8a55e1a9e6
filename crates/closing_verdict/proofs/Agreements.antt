-- What all members tell at a closing stage, and what that comes to.
use Rattle.std.proofs.Common.{◌≡◌, ℕ, zero, suc, ◌+◌, ◌<◌, ◌≤◌, All, Bool, true, false, ◌&&◌, List, [], ◌∷◌, length, map, Option, Some, None, refl, ap, sym, ◌∙◌, subst, arith, inl, inr}
use Rattle.std.specs.Prelude.{unwrap_or, if◌then◌else◌}
use Rattle.std.specs.List.{AllByRecursion, list_all, range_with_len}
use Rattle.std.proofs.Math.ListN.{get_or-map}
use Rattle.std.proofs.lemmas.Bool.{and_from, and_left, cases_Bool, cond-false, cond-true}
use Rattle.std.proofs.lemmas.List.Folds.{list_all-map}
use Rattle.std.proofs.lemmas.List.FromFn.{length-map-range_with_len}
use Rattle.std.proofs.lemmas.Simd.{map-map}
use Rattle.wire_core.specs.Answers.{first_some}
use Rattle.phase_message.specs.declared.content.Body.{Body}
use Rattle.phase_message.specs.declared.content.Body.TheVariants.{Reveal, Dispute, Confirm}
use Rattle.phase_message.specs.declared.post.Post.{Post}
use Rattle.phase_message.specs.declared.stage.StageKind.TheVariants.{Final as AtFinal, Go as AtGo}
use Rattle.phase_message.specs.Closing.{IsClosingBody}
use Rattle.phase_message.specs.Offence.{content_read}
use Rattle.phase_message.specs.Shape.{Shape}
use Rattle.phase_message.specs.Slots.{slot_number}
use Rattle.phase_message.specs.Stages.{kind_of_stage}
use Rattle.phase_message.proofs.Read.{closings_are_read}
use Rattle.go_nogo.specs.Closing.{is_assent}
use Rattle.shuffle_blame.specs.Replay.{body_of}
use Rattle.honest_say.proofs.OpeningLemmas.{all-of}
use Rattle.round_spec.specs.Slots.{by_member, said_in, seed_in}
use Rattle.round_spec.specs.Verdict.{ClosedStage, Verdict, Goes, agreed_at, all_say, bad_log, closing_body, closing_content, concluded_at, dissented_at, equivocation, is_closing, is_dissent, no_post, post_in, shape_at, shown_in, verdict_of}
use Rattle.round_spec.specs.Cases.{AreFaithful, IsFaithful, IsMemberOf, agree_before}
use Rattle.round_spec.proofs.Verdicts.{faithful}
use Rattle.closing_verdict.specs.declared.reading.Told.{Told}
use Rattle.closing_verdict.specs.Closed.{AreTold, told_of}
use Rattle.closing_verdict.specs.Judgement.{Completed, IsComplete, stage_closed, verdict_in}
use Rattle.closing_verdict.specs.Telling.{TellsPart, TellsSeed, part_told, seed_told, tells_assent}
use Rattle.closing_verdict.proofs.ClosedStages.{whole-stage}

-- ---- what a body tells

told-assent : (body : Body) → tells_assent (told_of body) ≡ is_assent body
told-assent (Reveal votes seed) = refl
told-assent (Dispute posts seed opening) = refl
told-assent (Confirm votes) = refl
told-assent _ = refl

told-seed : (body : Body) → seed_told (told_of body) ≡ seed_in body
told-seed (Reveal votes seed) = refl
told-seed (Dispute posts seed opening) = refl
told-seed (Confirm votes) = refl
told-seed _ = refl

told-part : (body : Body) → part_told (told_of body) ≡ shown_in body
told-part (Reveal votes seed) = refl
told-part (Dispute posts seed opening) = refl
told-part (Confirm votes) = refl
told-part _ = refl

-- at the end of a shuffle a body that assents tells a seed, and another one a part
reveals : (shape : Shape) (stage shuffle : ℕ) (body : Body) → IsClosingBody shape stage (AtFinal shuffle) body → is_assent body ≡ true
    → TellsSeed (told_of body)
reveals shape stage shuffle (Reveal votes seed) is assents = tt
reveals shape stage shuffle (Dispute posts seed opening) is assents = absurd cc
reveals shape stage shuffle _ is assents = absurd is

disputes : (shape : Shape) (stage shuffle : ℕ) (body : Body) → IsClosingBody shape stage (AtFinal shuffle) body → is_assent body ≡ false
    → TellsPart (told_of body)
disputes shape stage shuffle (Reveal votes seed) is differs = absurd cc
disputes shape stage shuffle (Dispute posts seed opening) is differs = tt
disputes shape stage shuffle _ is differs = absurd is

-- ---- lists by member

map-same : {A B : Type 0} (f g : A → B) (xs : List A) → ((x : A) → f x ≡ g x) → map f xs ≡ map g xs
map-same f g [] same = refl
map-same {A} {B} f g (x ∷ xs) same = ap (λ (y : B). y ∷ map f xs) (same x) ∙ ap (λ (ys : List B). g x ∷ ys) (map-same f g xs same)

list_all-same : {A : Type 0} (p q : A → Bool) (xs : List A) → ((x : A) → p x ≡ q x) → list_all p xs ≡ list_all q xs
list_all-same p q [] same = refl
list_all-same p q (x ∷ xs) same = ap (λ (b : Bool). b && list_all p xs) (same x) ∙ ap (λ (b : Bool). q x && b) (list_all-same p q xs same)

all-range : {A : Type 0} (P : A → Type 0) (f : ℕ → A) (a n : ℕ) → ((k : ℕ) → a ≤ k → k < a + n → P (f k))
    → AllByRecursion P (map f (range_with_len a n))
all-range P f a zero each = tt
all-range P f a (suc n) each = (each a (omega arith) (omega arith), all-range P f (a + 1) n (λ k le lt. each k (omega arith) (omega arith)))

range-all : (p : ℕ → Bool) (a n : ℕ) → ((k : ℕ) → a ≤ k → k < a + n → p k ≡ true) → list_all p (range_with_len a n) ≡ true
range-all p a zero each = refl
range-all p a (suc n) each = and_from (p a) (list_all p (range_with_len (a + 1) n)) (each a (omega arith) (omega arith))
    (range-all p (a + 1) n (λ k le lt. each k (omega arith) (omega arith)))

range-not : (p : ℕ → Bool) (a n : ℕ) → 1 ≤ n → p a ≡ false → list_all p (range_with_len a n) ≡ false
range-not p a zero le e = absurd (omega arith)
range-not p a (suc n) le e = and_left (p a) (list_all p (range_with_len (a + 1) n)) e

-- ---- what all say

closing-body : (v : ClosedStage) (member : ℕ) → closing_body v member ≡ body_of (closing_content v member)
unfolding said_in
closing-body v member =
    ap (λ (bytes : List ℕ). body_of (content_read (shape_at v) bytes))
    (get_or-map (λ (post : Post). post.content) v.posts (slot_number (shape_at v) v.stage member) no_post)

faithful-body : (v : ClosedStage) (member : ℕ) (is : IsFaithful v member) → closing_body v member ≡ is.content.body
faithful-body v member is = closing-body v member ∙ ap body_of is.reads

all-say : (v : ClosedStage) (is_one : Body → Bool) → ((member : ℕ) → IsMemberOf v member → is_one (closing_body v member) ≡ true)
    → all_say v is_one ≡ true
all-say v is_one each =
    list_all-map (λ body. is_one body) (closing_body v) (range_with_len 1 (shape_at v).members)
    ∙ range-all (λ member. is_one (closing_body v member)) 1 (shape_at v).members
    (λ k le lt. each k (record { least = le; most = omega arith }))

not-all-say : (v : ClosedStage) (is_one : Body → Bool) → 1 ≤ (shape_at v).members → is_one (closing_body v 1) ≡ false
    → all_say v is_one ≡ false
not-all-say v is_one le e =
    list_all-map (λ body. is_one body) (closing_body v) (range_with_len 1 (shape_at v).members)
    ∙ range-not (λ member. is_one (closing_body v member)) 1 (shape_at v).members le e

-- all assent exactly where the votes are unanimous
say-agree : (v : ClosedStage) → 1 ≤ (shape_at v).members → AreFaithful v → all_say v is_assent ≡ agree_before v
say-agree v least all =
    let first : IsMemberOf v 1 = record { least = omega arith; most = least } in
    elim (cases_Bool (agree_before v)) [
      | inl agree ↦ all-say v is_assent (λ member is. ap is_assent (faithful-body v member (all member is)) ∙ (all member is).assents
          ∙ agree) ∙ sym agree
      | inr differ ↦ not-all-say v is_assent least (ap is_assent (faithful-body v 1 (all 1 first)) ∙ (all 1 first).assents ∙ differ)
          ∙ sym differ
    ]

-- ---- of what is told

abbrev tale : Completed → ℕ → Told
tale c member = told_of (closing_body (stage_closed c) member)

told-say : (c : Completed) (told : List Told) → IsComplete c → AreTold c told
    → list_all tells_assent told ≡ all_say (stage_closed c) is_assent
told-say c told is are =
    let v : ClosedStage = stage_closed c in
    let range : List ℕ = range_with_len 1 (shape_at v).members in
    ap (list_all tells_assent) (are.are ∙ ap (λ (shape : Shape). by_member shape (tale c)) is.shape)
    ∙ list_all-map tells_assent (tale c) range
    ∙ list_all-same (λ member. tells_assent (tale c member)) (λ member. is_assent (closing_body v member)) range
    (λ member. told-assent (closing_body v member))
    ∙ sym (list_all-map (λ body. is_assent body) (closing_body v) range)

pub all-faithful : (c : Completed) (told : List Told) → IsComplete c → AreTold c told → AreFaithful (stage_closed c)
all-faithful c told is are = faithful (stage_closed c) (whole-stage c is) are.justified are.same

pub told-agree : (c : Completed) (told : List Told) → IsComplete c → AreTold c told
    → list_all tells_assent told ≡ agree_before (stage_closed c)
told-agree c told is are = told-say c told is are ∙ say-agree (stage_closed c) (whole-stage c is).members (all-faithful c told is are)

-- ---- what it comes to

sound-verdict : (c : Completed) (told : List Told) → IsComplete c → AreTold c told → verdict_in c ≡ concluded_at (stage_closed c)
unfolding verdict_of
sound-verdict c told is are =
    let v : ClosedStage = stage_closed c in
    cond-true (is_closing (shape_at v) v.stage) (unwrap_or (first_some (bad_log v ∷ equivocation v ∷ [])) (concluded_at v)) Goes
    (whole-stage c is).closing
    ∙ ap (λ (o : Option Verdict). unwrap_or (first_some (o ∷ equivocation v ∷ [])) (concluded_at v)) are.justified
    ∙ ap (λ (o : Option Verdict). unwrap_or (first_some (None ∷ o ∷ [])) (concluded_at v)) are.same

pub agreed-verdict : (c : Completed) (told : List Told) → IsComplete c → AreTold c told → list_all tells_assent told ≡ true
    → verdict_in c ≡ agreed_at (stage_closed c) (kind_of_stage c.log.shape c.stage)
unfolding concluded_at
agreed-verdict c told is are agree =
    let v : ClosedStage = stage_closed c in
    sound-verdict c told is are
    ∙ cond-true (all_say v is_assent) (agreed_at v (kind_of_stage (shape_at v) v.stage))
    (if all_say v is_dissent then dissented_at v else Goes) (sym (told-say c told is are) ∙ agree)
    ∙ ap (λ (shape : Shape). agreed_at v (kind_of_stage shape c.stage)) (sym is.shape)

pub dissented-verdict : (c : Completed) (told : List Told) → IsComplete c → AreTold c told → list_all tells_assent told ≡ false
    → verdict_in c ≡ dissented_at (stage_closed c)
unfolding concluded_at
dissented-verdict c told is are differ =
    let v : ClosedStage = stage_closed c in
    let all : AreFaithful v = all-faithful c told is are in
    let disagree : agree_before v ≡ false = sym (told-agree c told is are) ∙ differ in
    sound-verdict c told is are
    ∙ cond-false (all_say v is_assent) (agreed_at v (kind_of_stage (shape_at v) v.stage))
    (if all_say v is_dissent then dissented_at v else Goes) (sym (told-say c told is are) ∙ differ)
    ∙ cond-true (all_say v is_dissent) (dissented_at v) Goes
    (all-say v is_dissent (λ member who. ap is_dissent (faithful-body v member (all member who)) ∙ (all member who).dissents disagree))

-- ---- at the end of a shuffle

final-body : (c : Completed) (shuffle member : ℕ) → IsComplete c → kind_of_stage c.log.shape c.stage ≡ Some (AtFinal shuffle)
    → IsMemberOf (stage_closed c) member
    → (said : IsFaithful (stage_closed c) member) → IsClosingBody (shape_at (stage_closed c)) said.content.header.stage (AtFinal shuffle)
    said.content.body
final-body c shuffle member is at who said =
    let v : ClosedStage = stage_closed c in
    let stage_is : said.content.header.stage ≡ c.stage = (whole-stage c is).named member said.content who said.reads in
    let kind : kind_of_stage (shape_at v) said.content.header.stage ≡ Some (AtFinal shuffle)
    = ap (kind_of_stage (shape_at v)) stage_is ∙ ap (λ (shape : Shape). kind_of_stage shape c.stage) (sym is.shape) ∙ at in
    closings_are_read (shape_at v) (post_in v c.stage member).content said.content (AtFinal shuffle) (AtGo shuffle) said.reads kind refl

members-are : (c : Completed) → IsComplete c → c.log.shape.members ≡ (shape_at (stage_closed c)).members
members-are c is = ap (λ (shape : Shape). shape.members) is.shape

pub all-seeds : (c : Completed) (told : List Told) (shuffle : ℕ) → IsComplete c → AreTold c told
    → kind_of_stage c.log.shape c.stage ≡ Some (AtFinal shuffle)
    → list_all tells_assent told ≡ true → All TellsSeed told
all-seeds c told shuffle is are at agree =
    let v : ClosedStage = stage_closed c in
    let all : AreFaithful v = all-faithful c told is are in
    let agreed : agree_before v ≡ true = sym (told-agree c told is are) ∙ agree in
    let count = members-are c is in
    subst (All TellsSeed) (sym are.are) (all-of TellsSeed (by_member c.log.shape (tale c))
    (all-range TellsSeed (tale c) 1 c.log.shape.members (λ member least lt.
    let who : IsMemberOf v member = record { least = least; most = omega arith } in
    let said : IsFaithful v member = all member who in
    subst (λ (body : Body). TellsSeed (told_of body)) (sym (faithful-body v member said))
    (reveals (shape_at v) said.content.header.stage shuffle said.content.body (final-body c shuffle member is at who said)
    (said.assents ∙ agreed)))))

pub all-parts : (c : Completed) (told : List Told) (shuffle : ℕ) → IsComplete c → AreTold c told
    → kind_of_stage c.log.shape c.stage ≡ Some (AtFinal shuffle)
    → list_all tells_assent told ≡ false → All TellsPart told
all-parts c told shuffle is are at differ =
    let v : ClosedStage = stage_closed c in
    let all : AreFaithful v = all-faithful c told is are in
    let disagree : agree_before v ≡ false = sym (told-agree c told is are) ∙ differ in
    let count = members-are c is in
    subst (All TellsPart) (sym are.are) (all-of TellsPart (by_member c.log.shape (tale c))
    (all-range TellsPart (tale c) 1 c.log.shape.members (λ member least lt.
    let who : IsMemberOf v member = record { least = least; most = omega arith } in
    let said : IsFaithful v member = all member who in
    subst (λ (body : Body). TellsPart (told_of body)) (sym (faithful-body v member said))
    (disputes (shape_at v) said.content.header.stage shuffle said.content.body (final-body c shuffle member is at who said)
    (said.assents ∙ disagree)))))

-- the seeds that are told, and the parts
pub seeds-told : (c : Completed) (told : List Told) → AreTold c told
    → map seed_told told ≡ by_member c.log.shape (λ member. seed_in (closing_body (stage_closed c) member))
seeds-told c told are =
    let range : List ℕ = range_with_len 1 c.log.shape.members in
    ap (map seed_told) are.are ∙ map-map seed_told (tale c) range
    ∙ map-same (λ member. seed_told (tale c member)) (λ member. seed_in (closing_body (stage_closed c) member)) range
    (λ member. told-seed (closing_body (stage_closed c) member))

pub parts-told : (c : Completed) (told : List Told) → AreTold c told
    → map part_told told ≡ by_member c.log.shape (λ member. shown_in (closing_body (stage_closed c) member))
parts-told c told are =
    let range : List ℕ = range_with_len 1 c.log.shape.members in
    ap (map part_told) are.are ∙ map-map part_told (tale c) range
    ∙ map-same (λ member. part_told (tale c member)) (λ member. shown_in (closing_body (stage_closed c) member)) range
    (λ member. told-part (closing_body (stage_closed c) member))

pub told-count : (c : Completed) (told : List Told) → AreTold c told → length told ≡ c.log.shape.members
told-count c told are = ap (λ (t : List Told). length t) are.are ∙ length-map-range_with_len (tale c) 1 c.log.shape.members
