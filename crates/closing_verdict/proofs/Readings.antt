-- What the closing contents of members come to, one after the other.
use Rattle.std.proofs.Common.{◌≡◌, ℕ, ◌+◌, ◌-◌, ◌<◌, ◌≤◌, true, false, List, [], ◌∷◌, ◌++◌, map, Option, Some, None, Ok, refl, sym, ap, subst, ◌∙◌, arith, inl, inr}
use Rattle.std.specs.Prelude.{unwrap_or}
use Rattle.std.specs.List.{range_with_len}
use Rattle.std.specs.Option.{option_or}
use Rattle.std.proofs.Math.ListN.{get_or-map}
use Rattle.std.proofs.lemmas.Bool.{cases_lt, cond-false, cond-true}
use Rattle.wire_core.specs.Answers.{first_below, first_some}
use Rattle.wire_core.proofs.AnswerLemmas.{first_below-each, first_below-found, first_below-none, first_below-some, first_some-none, first_some-some}
use Rattle.phase_message.specs.declared.content.Content.{Content}
use Rattle.phase_message.specs.declared.post.Post.{Post}
use Rattle.phase_message.specs.Offence.{content_read}
use Rattle.phase_message.specs.Shape.{Shape}
use Rattle.phase_message.specs.Slots.{slot_number}
use Rattle.shuffle_blame.specs.Replay.{body_of}
use Rattle.transcript_form.specs.declared.claim.Claim.TheVariants.{BadLog}
use Rattle.honest_say.proofs.Members.{member-next}
use Rattle.round_spec.specs.Slots.{said_in}
use Rattle.round_spec.specs.Embedded.{is_content_justified}
use Rattle.round_spec.specs.Verdict.{ClosedStage, Goes, Verdict, bad_log, bad_log_of, closing_body, closing_content, concluded_at, conviction, equivocation, equivocation_in, is_closing, is_read_justified, no_post, sent_in, shape_at, verdict_of}
use Rattle.closing_verdict.specs.declared.convicting.Conviction.{Conviction}
use Rattle.closing_verdict.specs.declared.reading.Told.{Told}
use Rattle.closing_verdict.specs.Closed.{AreTold, IsJustifiedOf, TellsSecond, told_of}
use Rattle.closing_verdict.specs.Convicting.{TellsConviction}
use Rattle.closing_verdict.specs.Judgement.{Completed, IsComplete, stage_closed, verdict_in}

-- ---- one member

-- what a member said is the body of its closing content
body-said : (v : ClosedStage) (member : ℕ) → closing_body v member ≡ body_of (closing_content v member)
unfolding said_in
body-said v member =
    ap (λ (bytes : List ℕ). body_of (content_read (shape_at v) bytes))
    (get_or-map (λ (post : Post). post.content) v.posts (slot_number (shape_at v) v.stage member) no_post)

pub justified-of : (c : Completed) (member : ℕ) (content : Content) (told : Told) (second : Option Conviction)
    → closing_content (stage_closed c) member ≡ Ok content
    → is_content_justified c.roster c.round content ≡ true → told ≡ told_of content.body
    → TellsSecond (equivocation_in (stage_closed c) member) second
    → IsJustifiedOf c member told second
justified-of c member content told second reads justified is tells = record {
  justified = ap (is_read_justified (stage_closed c)) reads ∙ justified;
  told_is = is ∙ ap told_of (sym (body-said (stage_closed c) member ∙ ap body_of reads));
  second_is = tells;
}

-- ---- members so far

abbrev pub second_of : Completed → ℕ → Option Verdict
second_of c place = equivocation_in (stage_closed c) (place + 1)

abbrev pub told_by : Completed → ℕ → Told
told_by c member = told_of (closing_body (stage_closed c) member)

-- so many first members said what is justified: what they tell, and the first that shows a second content
pub record AreRead (c : Completed) (count : ℕ) (told : List Told) (second : Option Conviction) : Type 0 where
  pub justified : (other : ℕ) → 1 ≤ other → other ≤ count → is_read_justified (stage_closed c) (closing_content (stage_closed c) other) ≡
      true
  pub told_are : told ≡ map (told_by c) (range_with_len 1 count)
  pub second_is : TellsSecond (first_below count (second_of c)) second

pub none-read : (c : Completed) (told : List Told) → told ≡ [] → AreRead c 0 told None
none-read c told is = record {
  justified = λ other least most. absurd (omega (arith, least, most));
  told_are = is;
  second_is = tt;
}

-- the first below one more
below-next : {A : Type 0} (f : ℕ → Option A) (n : ℕ) → first_below (n + 1) f ≡ option_or (first_below n f) (f n)
below-next {A} f n = by_first (first_below n f) refl
  where
    at-last : (o : Option A) → f n ≡ o → ((k : ℕ) → k < n → f k ≡ None) → first_below (n + 1) f ≡ f n
    at-last None e none = first_below-none f (n + 1) (λ k lt. elim (cases_lt k n)
        [ inl below ↦ none k below | inr last ↦ (let same : n ≡ k = omega (arith, lt, last) in subst (λ (m : ℕ). f m ≡ None) same e) ])
        ∙ sym e
    at-last (Some x) e none = first_below-some f (n + 1) n x (omega arith) none e ∙ sym e

    by_first : (o : Option A) → first_below n f ≡ o → first_below (n + 1) f ≡ option_or (first_below n f) (f n)
    by_first None e = at-last (f n) refl (first_below-each f n e) ∙ ap (λ (o : Option A). option_or o (f n)) (sym e)
    by_first (Some x) e =
        let found = first_below-found f n x e in
        first_below-some f (n + 1) found.0 x (omega (arith, found.1)) found.3 found.2 ∙ ap (λ (o : Option A). option_or o (f n)) (sym e)

tells-or : (a b : Option Verdict) (first second : Option Conviction) → TellsSecond a first → TellsSecond b second
    → TellsSecond (option_or a b) (option_or first second)
tells-or None b None second one two = two
tells-or (Some a) b (Some first) second one two = one
tells-or None b (Some first) second one two = absurd one
tells-or (Some a) b None second one two = absurd one

pub next-read : (c : Completed) (member : ℕ) (told now : List Told) (second next : Option Conviction) (one : Told)
    (other : Option Conviction) → 1 ≤ member
    → AreRead c (member - 1) told second → IsJustifiedOf c member one other → now ≡ told ++ one ∷ [] → next ≡ option_or second other
    → AreRead c (member + 1 - 1) now next
next-read c member told now second next one other least so is e e' =
    let place : ℕ = member - 1 in
    let here : place + 1 ≡ member = omega (arith, least) in
    let count : member + 1 - 1 ≡ place + 1 = omega (arith, least) in
    record {
      justified = λ x low high. elim (cases_lt place x) [
        | inl last ↦ (let same : member ≡ x = omega (arith, last, high, least) in subst
            (λ (m : ℕ). is_read_justified (stage_closed c) (closing_content (stage_closed c) m) ≡ true) same is.justified)
        | inr before ↦ so.justified x low before
      ];
      told_are = e ∙ member-next (told_by c) member told one least so.told_are is.told_is;
      second_is = subst (λ (o : Option Conviction). TellsSecond (first_below (member + 1 - 1) (second_of c)) o) (sym e')
          (subst (λ (n : ℕ). TellsSecond (first_below n (second_of c)) (option_or second other)) (sym count)
          (subst (λ (o : Option Verdict). TellsSecond o (option_or second other)) (sym (below-next (second_of c) place))
          (tells-or (first_below place (second_of c)) (second_of c place) second other so.second_is
          (subst (λ (m : ℕ). TellsSecond (equivocation_in (stage_closed c) m) other) (sym here) is.second_is))));
    }

-- ---- what they come to

-- the verdict is the first of a bad log and a second content, if there is one
verdict-first : (c : Completed) → IsComplete c → (verdict : Verdict)
    → first_some (bad_log (stage_closed c) ∷ equivocation (stage_closed c) ∷ []) ≡ Some verdict → verdict_in c ≡ verdict
unfolding verdict_of
verdict-first c is verdict e =
    let v : ClosedStage = stage_closed c in
    let closing : is_closing (shape_at v) v.stage ≡ true = subst (λ (s : Shape). is_closing s c.stage ≡ true) is.shape is.closing in
    cond-true (is_closing (shape_at v) v.stage) (unwrap_or (first_some (bad_log v ∷ equivocation v ∷ [])) (concluded_at v)) Goes closing
    ∙ ap (λ (o : Option Verdict). unwrap_or o (concluded_at v)) e

pub bad-told : (c : Completed) → IsComplete c → (member : ℕ) (told : List Told) (second : Option Conviction) (made : Conviction)
    → 1 ≤ member → member ≤ c.log.shape.members → AreRead c (member - 1) told second
    → is_read_justified (stage_closed c) (closing_content (stage_closed c) member) ≡ false
    → ((verdict : Verdict) → bad_log_of (stage_closed c) member ≡ Some verdict → TellsConviction verdict made)
    → TellsConviction (verdict_in c) made
unfolding bad_log
bad-told c is member told second made least most so bad tells =
    let v : ClosedStage = stage_closed c in
    let verdict : Verdict = conviction v.round member BadLog (sent_in v v.stage member ∷ []) in
    let place : ℕ = member - 1 in
    let here : place + 1 ≡ member = omega (arith, least) in
    let own : bad_log_of v member ≡ Some verdict = cond-false (is_read_justified v (closing_content v member)) None (Some verdict) bad in
    let members : (shape_at v).members ≡ c.log.shape.members = ap (λ (s : Shape). s.members) (sym is.shape) in
    let first : bad_log v ≡ Some verdict = first_below-some (λ k. bad_log_of v (k + 1)) (shape_at v).members place verdict
    (omega (arith, members, least, most))
    (λ k lt. cond-true (is_read_justified v (closing_content v (k + 1))) None
    (Some (conviction v.round (k + 1) BadLog (sent_in v v.stage (k + 1) ∷ [])))
    (so.justified (k + 1) (omega arith) (omega (arith, lt))))
    (ap (bad_log_of v) here ∙ own) in
    let all = verdict-first c is verdict (first_some-some verdict (bad_log v) (equivocation v ∷ []) first) in
    subst (λ (x : Verdict). TellsConviction x made) (sym all) (tells verdict own)

-- no log is bad
none-bad : (c : Completed) → IsComplete c → (told : List Told) (second : Option Conviction) → AreRead c c.log.shape.members told second
    → bad_log (stage_closed c) ≡ None
unfolding bad_log
none-bad c is told second so =
    let v : ClosedStage = stage_closed c in
    let members : (shape_at v).members ≡ c.log.shape.members = ap (λ (s : Shape). s.members) (sym is.shape) in
    first_below-none (λ k. bad_log_of v (k + 1)) (shape_at v).members
    (λ k lt. cond-true (is_read_justified v (closing_content v (k + 1))) None
    (Some (conviction v.round (k + 1) BadLog (sent_in v v.stage (k + 1) ∷ [])))
    (so.justified (k + 1) (omega arith) (omega (arith, lt, members))))

all-seconds : (c : Completed) → IsComplete c → equivocation (stage_closed c) ≡ first_below c.log.shape.members (second_of c)
unfolding equivocation
all-seconds c is = ap (λ (s : Shape). first_below s.members (second_of c)) (sym is.shape)

pub second-read : (c : Completed) → IsComplete c → (told : List Told) (made : Conviction) → AreRead c c.log.shape.members told (Some made)
    → TellsConviction (verdict_in c) made
second-read c is told made so = by_first (first_below c.log.shape.members (second_of c)) refl so.second_is
  where
    by_first : (o : Option Verdict) → first_below c.log.shape.members (second_of c) ≡ o → TellsSecond o (Some made)
        → TellsConviction (verdict_in c) made
    by_first None e tells = absurd tells
    by_first (Some verdict) e tells =
        let v : ClosedStage = stage_closed c in
        let found : equivocation v ≡ Some verdict = all-seconds c is ∙ e in
        let all = verdict-first c is verdict (first_some-none (bad_log v) (equivocation v ∷ []) (none-bad c is told (Some made) so)
        ∙ first_some-some verdict (equivocation v) [] found) in
        subst (λ (x : Verdict). TellsConviction x made) (sym all) tells

pub sound-read : (c : Completed) → IsComplete c → (told : List Told) → AreRead c c.log.shape.members told None → AreTold c told
sound-read c is told so = record {
  justified = none-bad c is told None so;
  same = all-seconds c is ∙ nothing (first_below c.log.shape.members (second_of c)) so.second_is;
  are = so.told_are;
}
  where
    nothing : (o : Option Verdict) → TellsSecond o None → o ≡ None
    nothing None tells = refl
    nothing (Some verdict) tells = absurd tells
