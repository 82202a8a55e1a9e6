-- The posts of a pad that are taken are the log before the pads, and a post of pads.
use Rattle.std.proofs.Common.{◌≡◌, ℕ, zero, suc, ◌+◌, ◌-◌, ◌<◌, ◌^◌, true, List, [], ◌∷◌, length, All, get_or, map, take, Option, Some, None, Ok, refl, sym, ap, subst, ◌∙◌, arith}
use Rattle.std.specs.Prelude.{◌==◌, ◌&&◌, unwrap_or}
use Rattle.std.proofs.lemmas.Bool.{and_parts, cond-true, cond-false, eq-eqb, eqb-true, false_from_ne_true}
use Rattle.std.proofs.lemmas.List.{get_or-map, get_or-take, length-map, length-take-le, take_all, take_more}
use Rattle.wire_core.specs.Answers.{value_unless}
use Rattle.wire_core.specs.Reading.{IsFault}
use Rattle.wire_core.proofs.Readings.{bind_ok}
use Rattle.phase_message.specs.declared.header.Header.{Header}
use Rattle.phase_message.specs.declared.stage.StageKind.{StageKind}
use Rattle.phase_message.specs.declared.stage.StageKind.TheVariants.{Keys as AtKeys, Submit as AtSubmit, Shuffle as AtShuffle, Go as AtGo, Final as AtFinal, Pad as AtPad, Check as AtCheck, Confirm as AtConfirm}
use Rattle.phase_message.specs.Slots.{slot_number}
use Rattle.phase_message.specs.Stages.{kind_of_stage}
use Rattle.transcript_form.specs.declared.claim.Claim.{Claim}
use Rattle.transcript_form.specs.declared.claim.Claim.TheVariants.{Pad}
use Rattle.transcript_form.specs.Claim.{claim_posts}
use Rattle.judge_core.specs.declared.failed_check.FailedCheck.{FailedCheck}
use Rattle.judge_core.specs.declared.hearing.Said.{Said as GivenSaid}
use Rattle.judge_core.specs.Case.{Case, Said, said_of, shape_in}
use Rattle.judge_core.specs.Checks.{conviction_of, hearing_of, is_of_bodies, is_pad_stage, is_slot_asked, own_failure, taken_of}
use Rattle.judge_core.specs.Pad.{count_before_pads, pad_answer}
use Rattle.judge_core.specs.PadLog.{ArePadPosts, IsPadsPost, IsReadable, StandsAt}
use Rattle.judge_core.proofs.Hearings.{asked-as, heard-parts, list_is, taken-grammar, taken-heard}

-- ---- what is taken, place by place

-- what is taken of a post, whatever the first one was
pub record IsTaken (case : Case) (number : ℕ) (bytes : List ℕ) (said : Said) : Type 0 where
  pub first : Option Header
  pub taken : taken_of case first number bytes ≡ Ok said

-- each is taken, by its number
abbrev pub AreTaken : Case → ℕ → List (List ℕ) → List Said → Type 0
AreTaken case number posts said = (k : ℕ) (d : Said) → k < length said → IsTaken case (number + k) (get_or posts k []) (get_or said k d)

taken-more : (case : Case) (number : ℕ) (post : List ℕ) (posts : List (List ℕ)) (one : Said) (others : List Said)
    → IsTaken case number post one
    → AreTaken case (number + 1) posts others → AreTaken case number (post ∷ posts) (one ∷ others)
taken-more case number post posts one others here rest zero d lt =
    let same : number ≡ number + 0 = omega arith in
    subst (λ (n : ℕ). IsTaken case n post one) same here
taken-more case number post posts one others here rest (suc k) d lt =
    let same : number + 1 + k ≡ number + suc k = omega arith in
    subst (λ (n : ℕ). IsTaken case n (get_or posts k []) (get_or others k d)) same (rest k d (omega arith))

pub each-taken : (case : Case) (first : Option Header) (number : ℕ) (posts : List (List ℕ)) (said : List Said)
    → hearing_of case first number posts ≡ Ok said → (length said ≡ length posts) × AreTaken case number posts said
unfolding hearing_of
each-taken case first number [] said e =
    subst (λ (s : List Said). (length s ≡ 0) × AreTaken case number [] s) (list_is [] said e) (refl, λ k d lt. absurd (omega arith))
each-taken case first number (post ∷ posts) said e =
    let a = bind_ok (taken_of case first number post) _ said e in
    let others = bind_ok (hearing_of case (Some (unwrap_or first a.0.header)) (number + 1) posts) _ said a.2 in
    let rest = each-taken case (Some (unwrap_or first a.0.header)) (number + 1) posts others.0 others.1 in
    subst (λ (s : List Said). (length s ≡ length (post ∷ posts)) × AreTaken case number (post ∷ posts) s)
    (list_is (a.0 ∷ others.0) said others.2)
    (omega (arith, rest.0), taken-more case number post posts a.0 others.0 (record { first = first; taken = a.1 }) rest.1)

-- ---- where it stands

is-pad : (kind : Option StageKind) → is_pad_stage kind ≡ true → kind ≡ Some AtPad
is-pad (Some AtPad) e = refl
is-pad None e = absurd cc
is-pad (Some AtKeys) e = absurd cc
is-pad (Some (AtSubmit shuffle)) e = absurd cc
is-pad (Some (AtShuffle shuffle k)) e = absurd cc
is-pad (Some (AtGo shuffle)) e = absurd cc
is-pad (Some (AtFinal shuffle)) e = absurd cc
is-pad (Some AtCheck) e = absurd cc
is-pad (Some AtConfirm) e = absurd cc

-- before the last in the slot of its number
pub asked-slot : (case : Case) (kind : Option StageKind) (first : Option Header) (number : ℕ) (header : Header)
    → number < claim_posts (shape_in case) Pad
    → is_slot_asked Pad case kind first number header ≡ (slot_number (shape_in case) header.stage header.sender == number - 1)
asked-slot case kind first number header lt =
    cond-false (number == claim_posts (shape_in case) Pad) (header.sender == case.accused && is_pad_stage kind)
    (slot_number (shape_in case) header.stage header.sender == number - 1)
    (false_from_ne_true (number == claim_posts (shape_in case) Pad)
    (λ e. let same = eqb-true number (claim_posts (shape_in case) Pad) e in absurd (omega arith)))

-- and the last is of the accused, at the stage of pads
pub asked-last : (case : Case) (kind : Option StageKind) (first : Option Header) (number : ℕ) (header : Header)
    → number ≡ claim_posts (shape_in case) Pad
    → is_slot_asked Pad case kind first number header ≡ (header.sender == case.accused && is_pad_stage kind)
asked-last case kind first number header is =
    cond-true (number == claim_posts (shape_in case) Pad) (header.sender == case.accused && is_pad_stage kind)
    (slot_number (shape_in case) header.stage header.sender == number - 1)
    (eq-eqb number (claim_posts (shape_in case) Pad) is)

pub pad-at : (case : Case) (header : Header) → (header.sender == case.accused && is_pad_stage (kind_of_stage (shape_in case) header.stage))
    ≡ true
    → (header.sender ≡ case.accused) × (kind_of_stage (shape_in case) header.stage ≡ Some AtPad)
pad-at case header e =
    let parts = and_parts (header.sender == case.accused) (is_pad_stage (kind_of_stage (shape_in case) header.stage)) e in
    (eqb-true header.sender case.accused parts.0, is-pad (kind_of_stage (shape_in case) header.stage) parts.1)

readable : (case : Case) (number : ℕ) (bytes : List ℕ) (one : GivenSaid) → case.claim ≡ Pad → IsTaken case number bytes (said_of one)
    → length one.content.now < 2 ^ 32 → IsReadable (shape_in case) one
readable case number bytes one is t short = record {
  grammar = taken-grammar case t.first number bytes (said_of one) (ap is_of_bodies is) t.taken;
  short = short;
  header = (heard-parts case t.first number bytes (said_of one) (taken-heard case t.first number bytes (said_of one) t.taken)).0;
}

stands : (case : Case) (place : ℕ) (bytes : List ℕ) (one : GivenSaid) → case.claim ≡ Pad → place < count_before_pads (shape_in case)
    → IsTaken case (1 + place) bytes (said_of one) → length one.content.now < 2 ^ 32 → StandsAt (shape_in case) place one
stands case place bytes one is lt t short =
    let kind : Option StageKind = kind_of_stage (shape_in case) one.header.stage in
    let asked = sym (asked-slot case kind t.first (1 + place) one.header (omega (arith, lt)))
    ∙ asked-as case Pad t.first (1 + place) bytes (said_of one) is t.taken in
    let there = eqb-true (slot_number (shape_in case) one.header.stage one.header.sender) (1 + place - 1) asked in
    record { readable = readable case (1 + place) bytes one is t short; there = omega (arith, there) }

is-pads : (case : Case) (bytes : List ℕ) (one : GivenSaid) → case.claim ≡ Pad
    → IsTaken case (1 + count_before_pads (shape_in case)) bytes (said_of one) → length one.content.now < 2 ^ 32 → IsPadsPost case one
is-pads case bytes one is t short =
    let number : ℕ = 1 + count_before_pads (shape_in case) in
    let kind : Option StageKind = kind_of_stage (shape_in case) one.header.stage in
    let asked = sym (asked-last case kind t.first number one.header (omega arith))
    ∙ asked-as case Pad t.first number bytes (said_of one) is t.taken in
    record { readable = readable case number bytes one is t short; at = (pad-at case one.header asked).1 }

-- ---- all of them

some-given : (given : List GivenSaid) → 0 < length given → GivenSaid
some-given [] lt = absurd (omega arith)
some-given (one ∷ others) lt = one

pub pad-posts : (case : Case) (posts : List (List ℕ)) (given : List GivenSaid) → case.claim ≡ Pad
    → length posts ≡ claim_posts (shape_in case) Pad
    → hearing_of case None 1 posts ≡ Ok (map said_of given)
    → All (λ (one : GivenSaid). length one.content.now < 2 ^ 32) given → ArePadPosts case given
pad-posts case posts given is count e short =
    let n : ℕ = count_before_pads (shape_in case) in
    let each = each-taken case None 1 posts (map said_of given) e in
    let long : length given ≡ n + 1 = omega (arith, each.0, length-map given said_of, count) in
    let d : GivenSaid = some-given given (omega (arith, long)) in
    let front : length (take n given) ≡ n = length-take-le n given (omega (arith, long)) in
    let at = λ (k : ℕ) (x : GivenSaid) (lt : k < length given).
    subst (λ (s : Said). IsTaken case (1 + k) (get_or posts k []) s) (get_or-map said_of given k x (said_of x) lt)
    (each.1 k (said_of x) (omega (arith, length-map given said_of, lt))) in
    record {
      log = take n given;
      pads = get_or given n d;
      all = sym (take_all (n + 1) given (omega (arith, long))) ∙ take_more given n d (omega (arith, long));
      is_log = record {
        whole = front;
        stand = λ place x lt.
            let within : place < length given = omega (arith, lt, front, long) in
            subst (StandsAt (shape_in case) place) (sym (get_or-take n given place x (omega (arith, lt, front))))
            (stands case place (get_or posts place []) (get_or given place x) is (omega (arith, lt, front)) (at place x within)
            (short place x within));
      };
      is_pads = is-pads case (get_or posts n []) (get_or given n d) is (at n d (omega (arith, long))) (short n d (omega (arith, long)));
    }

-- ---- what the transcript comes to

pub unheard-pad : (case : Case) (posts : List (List ℕ)) (failed : Option FailedCheck) → IsFault failed (hearing_of case None 1 posts)
    → IsFault failed (conviction_of case posts)
unfolding conviction_of
unheard-pad case posts None fault = tt
unheard-pad case posts (Some failed) fault = rw fault refl

pub heard-pad : (case : Case) (posts : List (List ℕ)) (said : List Said) → case.claim ≡ Pad → hearing_of case None 1 posts ≡ Ok said
    → conviction_of case posts ≡ pad_answer case said
unfolding conviction_of
heard-pad case posts said is e = rw e (ap (λ (claim : Claim). value_unless (own_failure claim case said) (tt {0})) is)
