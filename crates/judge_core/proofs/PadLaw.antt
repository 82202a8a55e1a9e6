-- A transcript of a pad convicts exactly whose pad its posts show to be bad.
use Rattle.std.proofs.Common.{◌≡◌, ℕ, zero, suc, ◌+◌, ◌-◌, ◌<◌, ◌≤◌, Bool, true, List, [], ◌∷◌, length, get_or, map, take, replicate, Option, Some, None, Result, Ok, refl, sym, ap, subst, ◌∙◌, arith, inl, inr}
use Rattle.std.specs.Prelude.{All, IsSome, bytes_eq, is_some, option_map, unwrap_or, zip, ◌==◌, ◌&&◌, if◌then◌else◌}
use Rattle.std.specs.List.{AllByRecursion, list_all, range_with_len, slice_get}
use Rattle.std.proofs.lemmas.Bool.{and_parts, cond-true, eq-eqb, eqb-true, cases_eq, cases_lt}
use Rattle.std.proofs.lemmas.List.{length-take-le}
use Rattle.std.proofs.lemmas.Option.{slice_get_within}
use Rattle.std.proofs.lemmas.Slice.Eq.{bytes_eq-Decides}
use Rattle.wire_core.specs.Answers.{fault_unless, first_some, value_unless}
use Rattle.wire_core.specs.Bytes.{IsBytes}
use Rattle.wire_core.proofs.AnswerLemmas.{fault_unless-holds, fault_unless-true, first_some-none_parts, nothing_mapped, value_unless-ok}
use Rattle.wire_core.proofs.Readings.{bind_ok}
use Rattle.phase_message.specs.declared.content.Body.{Body}
use Rattle.phase_message.specs.declared.content.Body.TheVariants.{Keys, Submit, Shuffled, Abort, Go, Reveal, Dispute, Pads, Check, Confirm, Differ}
use Rattle.phase_message.specs.declared.content.Content.{Content}
use Rattle.phase_message.specs.declared.header.Header.{Header}
use Rattle.phase_message.specs.declared.post.Post.{Post}
use Rattle.phase_message.specs.declared.stage.Slot.{Slot}
use Rattle.phase_message.specs.declared.stage.StageKind.{StageKind}
use Rattle.phase_message.specs.declared.stage.StageKind.TheVariants.{Submit as AtSubmit, Shuffle as AtShuffle, Go as AtGo, Final as AtFinal, Pad as AtPad, Check as AtCheck, Confirm as AtConfirm}
use Rattle.phase_message.specs.declared.offence.Offence.{Offence}
use Rattle.phase_message.specs.Shape.{Shape}
use Rattle.phase_message.specs.Slots.{slot_at, slot_number, slots_before, slots_of}
use Rattle.phase_message.specs.Stages.{kind_of_stage}
use Rattle.phase_message.proofs.SlotLists.{length-slots_of, slot_at-is, slot_at-number, slots_before-most}
use Rattle.phase_message.proofs.SlotBounds.{slot-bounds}
use Rattle.phase_message.proofs.Table.{check_is, confirm_is, final_a_is, final_b_is, go_a_is, go_b_is, nothing_is, pad_is, submit_b_is, turn_b}
use Rattle.phase_message.proofs.Whole.{content-is_spelled}
use Rattle.group_roster.specs.Roster.{Roster, shape_of_roster}
use Rattle.signed_post.specs.Admission.{Admitted, IsPostFile}
use Rattle.stage_log.specs.Log.{contents_of, view_of}
use Rattle.stage_log.proofs.Views.{slice_get-take}
use Rattle.transcript_form.specs.declared.accusation.Accusation.{Accusation}
use Rattle.transcript_form.specs.declared.claim.Claim.{Claim}
use Rattle.transcript_form.specs.declared.claim.Claim.TheVariants.{Pad}
use Rattle.transcript_form.specs.declared.transcript.Transcript.{Transcript}
use Rattle.transcript_form.specs.Claim.{claim_posts}
use Rattle.accusation.specs.Accusation.{Holds, refusal_of}
use Rattle.accusation.proofs.AccusationLemmas.{holds_exactly, holds_looks_at_one}
use Rattle.shuffle_blame.specs.Replay.{body_of}
use Rattle.round_spec.specs.Embedded.{slot_named}
use Rattle.round_spec.specs.Justified.{ArePostsOf, IsPostOf}
use Rattle.round_spec.specs.Premises.{pairs_listed}
use Rattle.round_spec.specs.Slots.{bulk_place, descriptors_opened, final_stage, keys_said, list_said, pad_stage, pads_in, said_in}
use Rattle.round_spec.proofs.Justified.{posts_are_found}
use Rattle.round_spec.proofs.Turns.{pad-late}
use Rattle.conviction.specs.Accepts.{OpensList, ShowsBadPad, table_of as table_accused}
use Rattle.judge_core.specs.declared.failed_check.FailedCheck.{FailedCheck}
use Rattle.judge_core.specs.declared.failed_check.FailedCheck.TheVariants.{View, NotOpened, OtherMember, Accusation as Refuted}
use Rattle.judge_core.specs.Case.{Case, Said, case_of_transcript, shape_in}
use Rattle.judge_core.specs.Checks.{conviction_of, hearing_of, is_kind_asked, is_of_bodies, is_pad_stage, own_failure, taken_of}
use Rattle.judge_core.specs.Pad.{accusation_failure, are_revealed, count_before_pads, is_reveal, opening_failure, pad_failure, pad_failure_of, pads_row, row_of, table_of, view_failure}
use Rattle.judge_core.proofs.Hearings.{list_is, taken-heard}
use Rattle.judge_core.proofs.Listed.{asked-again, asked-found, both-true, file-taken, heard-found, says-bytes, taken-found}
use Rattle.judge_core.proofs.PadPosts.{asked-last, asked-slot, each-taken, heard-pad, pad-at}
use Rattle.judge_core.proofs.PadReadings.{all-revealed}
use Rattle.phase_message.proofs.StageCounts.{before-pads}
use Rattle.judge_core.proofs.PadSlots.{pads-said}

-- ---- the slots before the pads

abbrev SlotsFrom : Shape → ℕ → List Slot → Type 0
SlotsFrom shape a slots = (k : ℕ) (slot : Slot) → slice_get slots k ≡ Some slot → slot_at shape (a + k) ≡ Some slot

slots-first : (shape : Shape) (a : ℕ) (slot : Slot) (slots : List Slot) → SlotsFrom shape a (slot ∷ slots) → slot_at shape a ≡ Some slot
slots-first shape a slot slots from = let none : a ≡ a + 0 = omega arith in ap (slot_at shape) none ∙ from 0 slot refl

slots-rest : (shape : Shape) (a : ℕ) (slot : Slot) (slots : List Slot) → SlotsFrom shape a (slot ∷ slots) → SlotsFrom shape (a + 1) slots
slots-rest shape a slot slots from = λ k s e. let same : a + 1 + k ≡ a + suc k = omega arith in ap (slot_at shape) same ∙ from (suc k) s e

-- those that a claim of a pad lists
abbrev slots_listed : Shape → List Slot
slots_listed shape = take (slots_before shape (pad_stage shape)) (slots_of shape)

listed-long : (shape : Shape) → length (slots_listed shape) ≡ count_before_pads shape
listed-long shape =
    length-take-le (slots_before shape (pad_stage shape)) (slots_of shape)
    (omega (arith, length-slots_of shape, slots_before-most shape (pad_stage shape))) ∙ before-pads shape

listed-from : (shape : Shape) → SlotsFrom shape 0 (slots_listed shape)
listed-from shape k slot e =
    let within = slice_get_within (slots_listed shape) k slot e in
    let none : 0 + k ≡ k = omega arith in
    ap (slot_at shape) none ∙ sym (slice_get-take (slots_of shape) (slots_before shape (pad_stage shape)) k
    (omega (arith, within, listed-long shape, before-pads shape))) ∙ e

some_is : (a b : Slot) → (let told : Slot → Option Slot = λ s. Some s in told a ≡ told b) → a ≡ b
some_is a b e = cc

-- ---- what is taken is the log

abbrev content_said : Said → List ℕ
content_said one = one.content

-- the posts of a log that are found, whose contents are what was said
abbrev IsLogOf : Roster → ℕ → List Slot → List (List ℕ) → List Said → Type 0
IsLogOf roster round slots posts said =
    (log : List Post) × ArePostsOf roster round (zip slots posts) log × (contents_of log ≡ map content_said (take (length slots) said))

-- one that is taken is the post of its slot
post-taken : (case : Case) (first : Option Header) (a : ℕ) (slot : Slot) (bytes : List ℕ) (one : Said) → case.claim ≡ Pad
    → a < count_before_pads (shape_in case) → slot_at (shape_in case) a ≡ Some slot → IsBytes bytes
    → taken_of case first (1 + a) bytes ≡ Ok one → (post : Post) × IsPostOf case.roster case.round slot bytes post
    × (post.content ≡ one.content)
post-taken case first a slot bytes one is lt at fits taken =
    let shape : Shape = shape_in case in
    let t = taken-found case first (1 + a) bytes one (ap is_of_bodies is) fits taken in
    let says = (heard-found case first (1 + a) bytes one fits (taken-heard case first (1 + a) bytes one taken)).0 in
    let post : Post = record { content = one.content; signature = says.signature } in
    let kind : Option StageKind = kind_of_stage shape one.header.stage in
    let asked = sym (asked-slot case kind first (1 + a) one.header (omega (arith, lt)))
    ∙ asked-found case Pad first (1 + a) one.header is t.asked in
    let number = eqb-true (slot_number shape one.header.stage one.header.sender) (1 + a - 1) asked in
    let same_number : slot_number shape one.header.stage one.header.sender ≡ a = omega (arith, number) in
    let named : slot_named one.header ≡ slot = some_is (slot_named one.header) slot
    (sym (slot_at-number shape one.header.stage one.header.sender says.admitted.slot) ∙ ap (slot_at shape) same_number ∙ at) in (
      post,
      record {
        spelled = says.spelled;
        content = t.content;
        admitted = subst (Admitted case.roster case.round post) (sym t.header_is) says.admitted;
        reads = t.reads;
        named = ap slot_named t.header_is ∙ named;
      },
      refl,
    )

first-bytes : (bytes : List ℕ) (posts : List (List ℕ)) → AllByRecursion IsBytes (bytes ∷ posts) → IsBytes bytes
    × AllByRecursion IsBytes posts
first-bytes bytes posts fits = (fits.0, fits.1)

log-more : (roster : Roster) (round : ℕ) (slot : Slot) (slots : List Slot) (bytes : List ℕ) (posts : List (List ℕ)) (one : Said)
    (others : List Said)
    → (post : Post) × IsPostOf roster round slot bytes post × (post.content ≡ one.content) → IsLogOf roster round slots posts others
    → IsLogOf roster
    round (slot ∷ slots) (bytes ∷ posts) (one ∷ others)
log-more roster round slot slots bytes posts one others here rest = (
  here.0 ∷ rest.0,
  (here.1, rest.1),
  ap (λ (c : List ℕ). c ∷ contents_of rest.0) here.2
      ∙ ap (λ (l : List (List ℕ)). one.content ∷ l) rest.2,
)

log-taken : (case : Case) (first : Option Header) (a : ℕ) (slots : List Slot) (posts : List (List ℕ)) (said : List Said) → case.claim ≡ Pad
    → SlotsFrom (shape_in case) a slots → a + length slots ≤ count_before_pads (shape_in case)
    → length slots ≤ length posts → AllByRecursion IsBytes posts → hearing_of case first (1 + a) posts ≡ Ok said
    → IsLogOf case.roster case.round slots posts said
unfolding hearing_of
log-taken case first a [] posts said is from most long fits e = ([], tt, refl)
log-taken case first a (slot ∷ slots) [] said is from most long fits e = absurd (omega arith)
log-taken case first a (slot ∷ slots) (bytes ∷ posts) said is from most long fits e =
    let one = bind_ok (taken_of case first (1 + a) bytes) _ said e in
    let others = bind_ok (hearing_of case (Some (unwrap_or first one.0.header)) (1 + a + 1) posts) _ said one.2 in
    let each = first-bytes bytes posts fits in
    let next : 1 + a + 1 ≡ 1 + (a + 1) = omega arith in
    let heard = ap (λ (n : ℕ). hearing_of case (Some (unwrap_or first one.0.header)) n posts) (sym next) ∙ others.1 in
    let here = post-taken case first a slot bytes one.0 is (omega (arith, most)) (slots-first (shape_in case) a slot slots from) each.0
    one.1 in
    let rest =
    log-taken case (Some (unwrap_or first one.0.header)) (a + 1) slots posts others.0 is (slots-rest (shape_in case) a slot slots from)
    (omega (arith, most)) (omega (arith, long)) each.1 heard in
    subst (IsLogOf case.roster case.round (slot ∷ slots) (bytes ∷ posts)) (list_is (one.0 ∷ others.0) said others.2)
    (log-more case.roster case.round slot slots bytes posts one.0 others.0 here rest)

-- ---- what the checks show

equal-view : (a b : List ℕ) (failed : FailedCheck) → fault_unless (bytes_eq a b) failed ≡ None → a ≡ b
equal-view a b failed e = (bytes_eq-Decides a b).0 (fault_unless-holds (bytes_eq a b) failed e)

reveal-body : (body : Body) → is_reveal body ≡ true → (votes : List (List ℕ)) × (seed : List ℕ) × (body ≡ Reveal votes seed)
reveal-body (Reveal votes seed) e = (votes, seed, refl)
reveal-body (Keys keys) e = absurd cc
reveal-body (Submit ciphertext) e = absurd cc
reveal-body (Shuffled list) e = absurd cc
reveal-body Abort e = absurd cc
reveal-body (Go vote) e = absurd cc
reveal-body (Dispute posts seed opening) e = absurd cc
reveal-body (Pads pads) e = absurd cc
reveal-body (Check vote) e = absurd cc
reveal-body (Confirm votes) e = absurd cc
reveal-body (Differ posts) e = absurd cc

some-list : (o : Option (List (List ℕ))) → is_some o ≡ true → IsSome o
some-list (Some list) e = refl
some-list None e = absurd cc

list-some : (o : Option (List (List ℕ))) → IsSome o → is_some o ≡ true
list-some (Some list) e = refl
list-some None e = absurd cc

each-passes : {A : Type 0} (p : A → Bool) (f : ℕ → A) (a n k : ℕ) → list_all p (map f (range_with_len a n)) ≡ true → a ≤ k → k < a + n
    → p (f k) ≡ true
each-passes {A} p f a zero k e least lt = absurd (omega arith)
each-passes {A} p f a (suc n) k e least lt =
    let parts = and_parts (p (f a)) (list_all p (map f (range_with_len (a + 1) n))) e in
    elim (cases_lt a k) [
      | inl later ↦ each-passes p f (a + 1) n k parts.1 (omega arith) (omega arith)
      | inr here ↦ (let same : k ≡ a = omega arith in ap (λ (m : ℕ). p (f m)) same ∙ parts.0)
    ]

opens-found : (shape : Shape) (past : List (List ℕ)) → opening_failure shape past ≡ None → OpensList shape past
opens-found shape past e =
    let parts = first_some-none_parts (fault_unless (are_revealed shape past) (NotOpened (final_stage shape 1))) _ e in
    let list = first_some-none_parts (fault_unless (is_some (list_said shape past 1 shape.members)) (NotOpened _)) [] parts.1 in
    let revealed = fault_unless-holds (are_revealed shape past) (NotOpened (final_stage shape 1)) parts.0 in
    record {
      reveals = λ member least most. reveal-body (said_in shape past (final_stage shape 1) member)
          (each-passes is_reveal (said_in shape past (final_stage shape 1)) 1 shape.members member revealed least (omega arith));
      list = some-list (list_said shape past 1 shape.members) (fault_unless-holds (is_some (list_said shape past 1 shape.members))
          (NotOpened _) list.0);
    }

opens-again : (shape : Shape) (past : List (List ℕ)) → OpensList shape past → opening_failure shape past ≡ None
opens-again shape past opens =
    let revealed = all-revealed shape past (λ k least lt. let r = opens.reveals k least (omega arith) in ap is_reveal r.2) in
    rw (revealed, list-some (list_said shape past 1 shape.members) opens.list) refl

-- ---- the table

rows-same : (f g : ℕ → List (List ℕ)) (a n k : ℕ) → f (a + k) ≡ g (a + k)
    → get_or (map f (range_with_len a n)) k [] ≡ get_or (map g (range_with_len a n)) k []
rows-same f g a zero k e = refl
rows-same f g a (suc n) zero e = let none : a ≡ a + 0 = omega arith in ap f none ∙ e ∙ sym (ap g none)
rows-same f g a (suc n) (suc k) e =
    let same : a + 1 + k ≡ a + suc k = omega arith in
    rows-same f g (a + 1) n k (ap f same ∙ e ∙ sym (ap g same))

-- of the accused both have the same row
refusal-same : (case : Case) (pads : List (List ℕ)) (a : Accusation) (past : List (List ℕ)) → 1 ≤ case.accused → a.member ≡ case.accused
    → refusal_of a (descriptors_opened (shape_in case) past) (table_of case pads) (keys_said (shape_in case) past bulk_place)
    ≡ refusal_of a (descriptors_opened (shape_in case) past) (table_accused (shape_in case) case.accused pads)
    (keys_said (shape_in case) past bulk_place)
refusal-same case pads a past least is =
    let other : ℕ → List (List ℕ) = λ member. if member == case.accused then pads else [] in
    let own : (1 + (a.member - 1) == case.accused) ≡ true = eq-eqb (1 + (a.member - 1)) case.accused (omega (arith, least, is)) in
    holds_looks_at_one a (descriptors_opened (shape_in case) past) (table_of case pads) (table_accused (shape_in case) case.accused pads)
    (keys_said (shape_in case) past bulk_place)
    (rows-same (row_of case pads) other 1 (shape_in case).members (a.member - 1)
    (cond-true (1 + (a.member - 1) == case.accused) pads (replicate (shape_in case).members []) own
    ∙ sym (cond-true (1 + (a.member - 1) == case.accused) pads [] own)))

-- what the accusation shows
pub record IsBorne (case : Case) (past pads : List (List ℕ)) (detail : Option Accusation) : Type 0 where
  pub accusation : Accusation
  pub detail_is : detail ≡ Some accusation
  pub accused : accusation.member ≡ case.accused
  pub holds : Holds accusation (descriptors_opened (shape_in case) past) (table_accused (shape_in case) case.accused pads)
      (keys_said (shape_in case) past bulk_place)

borne-found : (case : Case) (past pads : List (List ℕ)) (detail : Option Accusation) → 1 ≤ case.accused
    → accusation_failure case past pads detail ≡ None → IsBorne case past pads detail
borne-found case past pads None least e = absurd cc
borne-found case past pads (Some a) least e =
    let refusal = refusal_of a (descriptors_opened (shape_in case) past) (table_of case pads) (keys_said (shape_in case) past bulk_place) in
    let parts = first_some-none_parts (fault_unless (a.member == case.accused) OtherMember) _ e in
    let last = first_some-none_parts (option_map (λ r. Refuted r) refusal) [] parts.1 in
    let own = eqb-true a.member case.accused (fault_unless-holds (a.member == case.accused) OtherMember parts.0) in
    record {
      accusation = a;
      detail_is = refl;
      accused = own;
      holds = (holds_exactly a (descriptors_opened (shape_in case) past) (table_accused (shape_in case) case.accused pads)
          (keys_said (shape_in case) past bulk_place)).0
          (sym (refusal-same case pads a past least own) ∙ nothing_mapped (λ r. Refuted r) refusal last.0);
    }

borne-again : (case : Case) (past pads : List (List ℕ)) (detail : Option Accusation) → 1 ≤ case.accused → IsBorne case past pads detail
    → accusation_failure case past pads detail ≡ None
borne-again case past pads detail least b =
    let none = refusal-same case pads b.accusation past least b.accused
    ∙ (holds_exactly b.accusation (descriptors_opened (shape_in case) past) (table_accused (shape_in case) case.accused pads)
    (keys_said (shape_in case) past bulk_place)).1 b.holds in
    ap (accusation_failure case past pads) b.detail_is
    ∙ rw (eq-eqb b.accusation.member case.accused b.accused, none) refl

-- ---- the post of pads

-- a stage has one kind
never-pad : {A : Type 0} (shape : Shape) (stage : ℕ) (kind : StageKind) → kind_of_stage shape stage ≡ Some AtPad
    → kind_of_stage shape stage ≡ Some kind → (AtPad ≡ kind → ⊥) → A
never-pad {A} shape stage kind e is other = absurd (other (let both : Some AtPad ≡ Some kind = sym e ∙ is in cc))

never-none : {A : Type 0} (shape : Shape) (stage : ℕ) → kind_of_stage shape stage ≡ Some AtPad → kind_of_stage shape stage ≡ None → A
never-none {A} shape stage e is = absurd (let both : Some AtPad ≡ None = sym e ∙ is in cc)

behind-pads : {A : Type 0} (shape : Shape) (stage : ℕ) → kind_of_stage shape stage ≡ Some AtPad → shape.members + 5 ≤ stage → A
behind-pads {A} shape stage e least =
    elim (cases_eq stage (shape.members + 5)) [
      | inl at ↦ never-pad shape stage AtCheck e (check_is shape stage at) (λ s. cc)
      | inr not5 ↦ elim (cases_eq stage (shape.members + 6)) [
        | inl at ↦ never-pad shape stage AtConfirm e (confirm_is shape stage at) (λ s. cc)
        | inr not6 ↦ elim (cases_eq stage (shape.members + 7)) [
          | inl at ↦ never-pad shape stage (AtSubmit 2) e (submit_b_is shape stage at) (λ s. cc)
          | inr not7 ↦ elim (cases_lt stage (shape.members + shape.members + 8)) [
            | inl turn ↦
                let k : ℕ = stage - (shape.members + 7) in
                never-pad shape stage (AtShuffle 2 k) e (turn_b shape stage k (omega arith) (omega arith) (omega arith)) (λ s. cc)
            | inr behind ↦ elim (cases_eq stage (shape.members + shape.members + 8)) [
              | inl at ↦ never-pad shape stage (AtGo 2) e (go_b_is shape stage at) (λ s. cc)
              | inr not8 ↦ elim (cases_eq stage (shape.members + shape.members + 9)) [
                | inl at ↦ never-pad shape stage (AtFinal 2) e (final_b_is shape stage at) (λ s. cc)
                | inr not9 ↦ never-none shape stage e (nothing_is shape stage (omega arith))
              ]
            ]
          ]
        ]
      ]
    ]

-- the pads stand in one stage alone
pad-stage : (shape : Shape) (stage : ℕ) → kind_of_stage shape stage ≡ Some AtPad → stage ≡ pad_stage shape
pad-stage shape stage e =
    let late = pad-late shape stage e in
    elim (cases_eq stage (shape.members + 2)) [
      | inl at ↦ never-pad shape stage (AtGo 1) e (go_a_is shape stage at) (λ s. cc)
      | inr not2 ↦ elim (cases_eq stage (shape.members + 3)) [
        | inl at ↦ never-pad shape stage (AtFinal 1) e (final_a_is shape stage at) (λ s. cc)
        | inr not3 ↦ elim (cases_lt stage (shape.members + 5)) [
          | inl early ↦ omega arith
          | inr behind ↦ behind-pads shape stage e behind
        ]
      ]
    ]

-- what a post of pads that is taken shows
pub record IsPadsFile (case : Case) (bytes : List ℕ) (one : Said) : Type 0 where
  pub header : Header
  pub pads : List (List ℕ)
  pub same : header ≡ one.header
  pub row : pads_row case one ≡ pads
  pub file : IsPostFile case.roster case.round bytes (record { header = header; body = Pads pads })
  pub sender : header.sender ≡ case.accused
  pub at : header.stage ≡ pad_stage (shape_in case)
  pub least : 1 ≤ header.sender

pads-file : (case : Case) (first : Option Header) (number : ℕ) (bytes : List ℕ) (one : Said) → case.claim ≡ Pad
    → number ≡ claim_posts (shape_in case) Pad → IsBytes bytes → taken_of case first number bytes ≡ Ok one → IsPadsFile case bytes one
pads-file case first number bytes one is last fits taken =
    let shape : Shape = shape_in case in
    let t = taken-found case first number bytes one (ap is_of_bodies is) fits taken in
    let content : Content = t.content in
    let kind : Option StageKind = kind_of_stage shape one.header.stage in
    let asked = sym (asked-last case kind first number one.header last) ∙ asked-found case Pad first number one.header is t.asked in
    let there = pad-at case one.header asked in
    let kind_is : kind_of_stage shape content.header.stage ≡ Some AtPad = ap (λ (h : Header). kind_of_stage shape h.stage) t.header_is
    ∙ there.1 in
    let grammar = (content-is_spelled shape t.file.text content
    (says-bytes case.roster case.round bytes t.file.text content.header fits t.file.says) t.file.reads).1 in
    let said = pads-said shape content.header.stage content.body kind_is grammar.1 in
    let header : Header = content.header in
    record {
      header = header;
      pads = said.0;
      same = t.header_is;
      row = ap (λ (r : Result Content Offence). pads_in (body_of r)) t.reads ∙ ap pads_in said.1;
      file = subst (λ (body : Body). IsPostFile case.roster case.round bytes (record { header = header; body = body })) said.1 t.file;
      sender = ap (λ (h : Header). h.sender) t.header_is ∙ there.0;
      at = pad-stage shape header.stage kind_is;
      least = (slot-bounds shape header.stage header.sender grammar.0.slot_is).1;
    }

-- ---- the law

some-at : {A : Type 0} (xs : List A) (k : ℕ) → k < length xs → (x : A) × (slice_get xs k ≡ Some x) × ((d : A) → get_or xs k d ≡ x)
some-at {A} [] k lt = absurd (omega arith)
some-at {A} (x ∷ xs) zero lt = (x, refl, λ d. refl)
some-at {A} (x ∷ xs) (suc k) lt = some-at xs k (omega arith)

bytes-at : (posts : List (List ℕ)) (k : ℕ) → AllByRecursion IsBytes posts → k < length posts → IsBytes (get_or posts k [])
bytes-at [] k fits lt = absurd (omega arith)
bytes-at (post ∷ posts) zero fits lt = fits.0
bytes-at (post ∷ posts) (suc k) fits lt = bytes-at posts k fits.1 (omega arith)

all-bytes : (slots : List Slot) (posts : List (List ℕ)) → AllByRecursion IsBytes posts
    → All (λ (pair : Slot × List ℕ). IsBytes pair.1) (zip slots posts)
all-bytes [] posts fits k d lt = absurd (omega arith)
all-bytes (slot ∷ slots) [] fits k d lt = absurd (omega arith)
all-bytes (slot ∷ slots) (post ∷ posts) fits zero d lt = fits.0
all-bytes (slot ∷ slots) (post ∷ posts) fits (suc k) d lt = all-bytes slots posts fits.1 k d (omega arith)

posts-are : (roster : Roster) (round : ℕ) (slots : List Slot) (posts : List (List ℕ)) (log : List Post)
    → ArePostsOf roster round (zip slots posts) log → length slots ≤ length posts → length log ≡ length slots
posts-are roster round [] posts [] are le = refl
posts-are roster round [] posts (post ∷ log) are le = absurd are
posts-are roster round (slot ∷ slots) [] log are le = absurd (omega arith)
posts-are roster round (slot ∷ slots) (bytes ∷ posts) [] are le = absurd are
posts-are roster round (slot ∷ slots) (bytes ∷ posts) (post ∷ log) are le = omega
    (arith, posts-are roster round slots posts log are.1 (omega arith))

-- the checks by the log and the post of pads
failure-by : (case : Case) (said : List Said) (past : List (List ℕ)) (pad : Said)
    → map content_said (take (count_before_pads (shape_in case)) said) ≡ past
    → slice_get said (count_before_pads (shape_in case)) ≡ Some pad
    → pad_failure case said ≡ pad_failure_of case past (Some pad)
failure-by case said past pad is last =
    ap (λ (p : List (List ℕ)). pad_failure_of case p (slice_get said (count_before_pads (shape_in case)))) is
    ∙ ap (pad_failure_of case past) last

pub pad-found : (roster : Roster) (t : Transcript) → t.claim ≡ Pad → length t.posts ≡ claim_posts (shape_of_roster roster) Pad
    → AllByRecursion IsBytes t.posts → conviction_of (case_of_transcript roster t) t.posts ≡ Ok tt → ShowsBadPad roster t
unfolding conviction_of
pad-found roster t is count fits e =
    let case : Case = case_of_transcript roster t in
    let shape : Shape = shape_of_roster roster in
    let n : ℕ = count_before_pads shape in
    let before = before-pads shape in
    let slots : List Slot = slots_listed shape in
    let said = bind_ok (hearing_of case None 1 t.posts) _ tt e in
    let passes = value_unless-ok (own_failure case.claim case said.0) (tt {0}) (tt {0}) said.2 in
    let failure : pad_failure case said.0 ≡ None = subst (λ (c : Claim). own_failure c case said.0 ≡ None) is passes.0 in
    let each = each-taken case None 1 t.posts said.0 said.1 in
    let listed = listed-long shape in
    let log = log-taken case None 0 slots t.posts said.0 is (listed-from shape) (omega (arith, listed)) (omega (arith, listed, count)) fits
    said.1 in
    let past : List (List ℕ) = contents_of log.0 in
    let contents : map content_said (take n said.0) ≡ past = sym (log.2 ∙ ap (λ (k : ℕ). map content_said (take k said.0)) listed) in
    let pad = some-at said.0 n (omega (arith, each.0, count)) in
    let last = some-at t.posts n (omega (arith, count)) in
    let taken = each.1 n pad.0 (omega (arith, each.0, count)) in
    let one =
    pads-file case taken.first (1 + n) (get_or t.posts n []) (get_or said.0 n pad.0) is (omega arith)
    (bytes-at t.posts n fits (omega (arith, count))) taken.taken in
    let file = subst (λ (b : List ℕ). IsPadsFile case b pad.0) (last.2 [])
    (subst (λ (s : Said). IsPadsFile case (get_or t.posts n []) s) (pad.2 pad.0) one) in
    let checks = sym (failure-by case said.0 past pad.0 contents pad.1) ∙ failure in
    let view = first_some-none_parts (view_failure shape past pad.0) _ checks in
    let opening = first_some-none_parts (opening_failure shape past) _ view.1 in
    let accusation = first_some-none_parts (accusation_failure case past (pads_row case pad.0) case.detail) [] opening.1 in
    let borne =
    borne-found case past file.pads case.detail (omega (arith, file.least, file.sender))
    (ap (λ (p : List (List ℕ)). accusation_failure case past p case.detail) (sym file.row) ∙ accusation.0) in
    record {
      log = log.0;
      whole = posts-are roster t.round slots t.posts log.0 log.1 (omega (arith, listed, count)) ∙ listed ∙ sym before;
      stands = (posts_are_found roster t.round 0 (pairs_listed roster t) log.0 (all-bytes slots t.posts fits)).1 log.1;
      pads_post = last.0;
      last = ap (slice_get t.posts) before ∙ last.1;
      header = file.header;
      pads = file.pads;
      pads_are = file.file;
      sender = file.sender;
      at = file.at;
      view = ap (λ (h : Header). h.view) file.same ∙ equal-view pad.0.header.view (view_of shape past (pad_stage shape)) (View (n + 1))
          view.0;
      opens = opens-found shape past opening.0;
      accusation = borne.accusation;
      detail = borne.detail_is;
      accused = borne.accused;
      holds = borne.holds;
    }

-- ---- and back

-- what is said of the posts of slots, and behind them
record IsSaid (case : Case) (first : Option Header) (number : ℕ) (posts : List (List ℕ)) (count : ℕ) (past : List (List ℕ)) (last : Said) :
    Type 0 where
  pub said : List Said
  pub heard : hearing_of case first number posts ≡ Ok said
  pub contents : map content_said (take count said) ≡ past
  pub end : slice_get said count ≡ Some last

post-again : (case : Case) (first : Option Header) (a : ℕ) (slot : Slot) (bytes : List ℕ) (post : Post) → case.claim ≡ Pad
    → a < count_before_pads (shape_in case) → slot_at (shape_in case) a ≡ Some slot
    → (o : IsPostOf case.roster case.round slot bytes post) → taken_of case first (1 + a) bytes ≡ Ok
    (record { header = o.content.header; content = post.content })
post-again case first a slot bytes post is lt at o =
    let shape : Shape = shape_in case in
    let header : Header = o.content.header in
    let file : IsPostFile case.roster case.round bytes o.content =
    record {
      text = post.content;
      says = record { signature = post.signature; spelled = o.spelled; admitted = o.admitted };
      reads = o.reads;
    } in
    let slot_is = (slot_at-is shape a slot at).1 in
    let number : slot_number shape header.stage header.sender ≡ 1 + a - 1 = ap (λ (s : Slot). slot_number shape s.stage s.sender) o.named
    ∙ slot_is ∙ omega arith in
    let asked =
    asked-again case Pad first (1 + a) header is (asked-slot case (kind_of_stage shape header.stage) first (1 + a) header
    (omega (arith, lt)) ∙ eq-eqb _ _ number) in
    let kind : is_kind_asked case.claim first o.content.body ≡ true = subst (λ (c : Claim). is_kind_asked c first o.content.body ≡ true)
    (sym is) refl in
    file-taken case first (1 + a) bytes o.content file asked kind

said-more : (case : Case) (first : Option Header) (number : ℕ) (bytes : List ℕ) (posts : List (List ℕ)) (count : ℕ) (past : List (List ℕ))
    (last one : Said)
    → taken_of case first number bytes ≡ Ok one
    → IsSaid case (Some (unwrap_or first one.header)) (number + 1) posts count past last
    → IsSaid case first number (bytes ∷ posts) (suc count) (one.content ∷ past) last
unfolding hearing_of
said-more case first number bytes posts count past last one taken rest = record {
  said = one ∷ rest.said;
  heard = rw (taken, rest.heard) refl;
  contents = ap (λ (l : List (List ℕ)). one.content ∷ l) rest.contents;
  end = rest.end;
}

said-last : (case : Case) (first : Option Header) (number : ℕ) (posts : List (List ℕ)) (bytes : List ℕ) (last : Said) → posts ≡ bytes ∷ []
    → taken_of case first number bytes ≡ Ok last → IsSaid case first number posts 0 [] last
unfolding hearing_of
said-last case first number posts bytes last is taken = record {
  said = last ∷ [];
  heard = ap (hearing_of case first number) is ∙ rw taken refl;
  contents = refl;
  end = refl;
}

only-one : (posts : List (List ℕ)) (bytes : List ℕ) → length posts ≡ 1 → slice_get posts 0 ≡ Some bytes → posts ≡ bytes ∷ []
only-one [] bytes long e = absurd (omega arith)
only-one (post ∷ []) bytes long e = let same : post ≡ bytes = cc in ap (λ (p : List ℕ). p ∷ []) same
only-one (post ∷ other ∷ posts) bytes long e = absurd (omega arith)

log-again : (case : Case) (first : Option Header) (a : ℕ) (slots : List Slot) (posts : List (List ℕ)) (log : List Post) (bytes : List ℕ)
    (last : Said)
    → case.claim ≡ Pad → SlotsFrom (shape_in case) a slots
    → a + length slots ≡ count_before_pads (shape_in case) → length posts ≡ length slots + 1
    → ArePostsOf case.roster case.round (zip slots posts) log
    → slice_get posts (length slots) ≡ Some bytes
    → ((first : Option Header) → taken_of case first (1 + count_before_pads (shape_in case)) bytes ≡ Ok last)
    → IsSaid case first (1 + a) posts
    (length slots) (contents_of log) last
log-again case first a [] posts [] bytes last is from most long are end taken =
    let here : 1 + count_before_pads (shape_in case) ≡ 1 + a = omega (arith, most) in
    said-last case first (1 + a) posts bytes last (only-one posts bytes (omega (arith, long)) end)
    (ap (λ (n : ℕ). taken_of case first n bytes) (sym here) ∙ taken first)
log-again case first a [] posts (post ∷ log) bytes last is from most long are end taken = absurd are
log-again case first a (slot ∷ slots) [] log bytes last is from most long are end taken = absurd (omega (arith, long))
log-again case first a (slot ∷ slots) (post ∷ posts) [] bytes last is from most long are end taken = absurd are
log-again case first a (slot ∷ slots) (one ∷ posts) (post ∷ log) bytes last is from most long are end taken =
    let o = are.0 in
    let said : Said = record { header = o.content.header; content = post.content } in
    let here = post-again case first a slot one post is (omega (arith, most)) (slots-first (shape_in case) a slot slots from) o in
    let next : 1 + (a + 1) ≡ 1 + a + 1 = omega arith in
    let rest =
    log-again case (Some (unwrap_or first said.header)) (a + 1) slots posts log bytes last is (slots-rest (shape_in case) a slot slots from)
    (omega (arith, most)) (omega (arith, long)) are.1 end taken in
    said-more case first (1 + a) one posts (length slots) (contents_of log) last said here
    (subst (λ (n : ℕ). IsSaid case (Some (unwrap_or first said.header)) n posts (length slots) (contents_of log) last) next rest)

pub pad-again : (roster : Roster) (t : Transcript) → t.claim ≡ Pad → length t.posts ≡ claim_posts (shape_of_roster roster) Pad
    → AllByRecursion IsBytes t.posts → ShowsBadPad roster t → conviction_of (case_of_transcript roster t) t.posts ≡ Ok tt
pad-again roster t is count fits m =
    let case : Case = case_of_transcript roster t in
    let shape : Shape = shape_of_roster roster in
    let n : ℕ = count_before_pads shape in
    let before = before-pads shape in
    let slots : List Slot = slots_listed shape in
    let listed = listed-long shape in
    let pads : Said = record { header = m.header; content = m.pads_are.text } in
    let past : List (List ℕ) = contents_of m.log in
    let are = (posts_are_found roster t.round 0 (pairs_listed roster t) m.log (all-bytes slots t.posts fits)).0 m.stands in
    let kind : kind_of_stage shape m.header.stage ≡ Some AtPad = ap (kind_of_stage shape) m.at ∙ pad_is shape (pad_stage shape) refl in
    let asks : (m.header.sender == t.accused && is_pad_stage (kind_of_stage shape m.header.stage)) ≡ true = both-true _ _
    (eq-eqb _ _ m.sender) (ap is_pad_stage kind) in
    let taken = λ (first : Option Header).
    file-taken case first (1 + n) m.pads_post (record { header = m.header; body = Pads m.pads }) m.pads_are
    (asked-again case Pad first (1 + n) m.header is (asked-last case (kind_of_stage shape m.header.stage) first (1 + n) m.header
    (omega arith) ∙ asks))
    (subst (λ (c : Claim). is_kind_asked c first (Pads m.pads) ≡ true) (sym is) refl) in
    let end : slice_get t.posts (length slots) ≡ Some m.pads_post = ap (slice_get t.posts) (listed ∙ sym before) ∙ m.last in
    let said = log-again case None 0 slots t.posts m.log m.pads_post pads is (listed-from shape) (omega (arith, listed))
    (omega (arith, listed, count)) are end taken in
    let contents : map content_said (take n said.said) ≡ past = ap (λ (k : ℕ). map content_said (take k said.said)) (sym listed)
    ∙ said.contents in
    let last : slice_get said.said n ≡ Some pads = ap (slice_get said.said) (sym listed) ∙ said.end in
    let row : pads_row case pads ≡ m.pads = ap (λ (r : Result Content Offence). pads_in (body_of r)) m.pads_are.reads in
    let least = (slot-bounds shape m.header.stage m.header.sender m.pads_are.says.admitted.slot).1 in
    let view =
    fault_unless-true (bytes_eq m.header.view (view_of shape past (pad_stage shape))) (View (n + 1))
    ((bytes_eq-Decides m.header.view (view_of shape past (pad_stage shape))).1 m.view) in
    let borne =
    borne-again case past m.pads t.detail (omega (arith, least, m.sender))
    (record { accusation = m.accusation; detail_is = m.detail; accused = m.accused; holds = m.holds }) in
    let failure : pad_failure case said.said ≡ None = failure-by case said.said past pads contents last
    ∙ no-failure (view_failure shape past pads)
    (opening_failure shape past) (accusation_failure case past (pads_row case pads) t.detail) view
    (opens-again shape past m.opens) (ap (λ (p : List (List ℕ)). accusation_failure case past p t.detail) row ∙ borne) in
    heard-pad case t.posts said.said is said.heard ∙ ap (λ (o : Option FailedCheck). value_unless o (tt {0})) failure
  where
    no-failure : (v o a : Option FailedCheck) → v ≡ None → o ≡ None → a ≡ None → first_some (v ∷ o ∷ a ∷ []) ≡ None
    no-failure v o a e f g = rw (e, f, g) refl
