-- A transcript of a replay convicts exactly whom its posts blame.
use Rattle.std.proofs.Common.{◌≡◌, ℕ, zero, suc, ◌+◌, ◌-◌, ◌<◌, ◌≤◌, Bool, true, List, [], ◌∷◌, length, get_or, map, Option, Some, None, Result, Ok, Err, refl, sym, ap, subst, ◌∙◌, arith, inl, inr}
use Rattle.std.specs.Prelude.{All, IsSome, bytes_eq, option_and_then, option_map, slice_index_or, ◌==◌, ◌&&◌}
use Rattle.std.specs.List.{AllByRecursion, range_with_len}
use Rattle.std.proofs.lemmas.Bool.{and_parts, cases_Bool, cond-true, cond-false, eq-eqb, eqb-true}
use Rattle.std.proofs.lemmas.List.{ext_get_or, length-map}
use Rattle.std.proofs.lemmas.List.Elements.{All-cons, All-head, All-nil, All-tail}
use Rattle.std.proofs.lemmas.Option.{none-some}
use Rattle.std.proofs.lemmas.Slice.Eq.{bytes_eq-Decides}
use Rattle.std.proofs.lemmas.Slice.Zip.{length-zip}
use Rattle.wire_core.specs.Answers.{fault_as, fault_unless, first_some}
use Rattle.wire_core.specs.Bytes.{IsBytes}
use Rattle.wire_core.proofs.AnswerLemmas.{fault_unless-holds, fault_unless-true, first_below-each, first_below-none, first_some-none_parts, nothing_mapped, value_unless-ok}
use Rattle.wire_core.proofs.Readings.{bind_ok}
use Rattle.phase_message.specs.declared.content.Body.TheVariants.{Abort}
use Rattle.phase_message.specs.declared.content.Content.{Content}
use Rattle.phase_message.specs.declared.header.Header.{Header}
use Rattle.phase_message.specs.declared.offence.Offence.{Offence}
use Rattle.phase_message.specs.declared.post.Post.{Post}
use Rattle.phase_message.specs.declared.stage.Slot.{Slot}
use Rattle.phase_message.specs.declared.stage.StageKind.{StageKind}
use Rattle.phase_message.specs.declared.stage.StageKind.TheVariants.{Keys as AtKeys, Submit as AtSubmit, Shuffle as AtShuffle, Go as AtGo, Final as AtFinal, Pad as AtPad, Check as AtCheck, Confirm as AtConfirm}
use Rattle.phase_message.specs.Grammar.{OfGrammar}
use Rattle.phase_message.specs.Shape.{Shape}
use Rattle.phase_message.specs.Slots.{slots_before}
use Rattle.phase_message.specs.Stages.{kind_of_stage, vote_of}
use Rattle.phase_message.proofs.Whole.{content-is_spelled}
use Rattle.group_roster.specs.Roster.{Roster, shape_of_roster}
use Rattle.stage_log.specs.Log.{contents_of}
use Rattle.transcript_form.specs.declared.claim.Claim.{Claim}
use Rattle.transcript_form.specs.declared.claim.Claim.TheVariants.{Replay}
use Rattle.transcript_form.specs.declared.transcript.Transcript.{Transcript}
use Rattle.go_nogo.specs.Closing.{posts_embedded, slots_embedded}
use Rattle.shuffle_blame.specs.declared.fault.Fault.{Fault}
use Rattle.shuffle_blame.specs.declared.fault.Shown.{Shown}
use Rattle.shuffle_blame.specs.Replay.{Inquiry, body_of, culprit_of}
use Rattle.round_spec.specs.Embedded.{BadPost, embedded_pairs, is_content_justified, is_justified_by, post_for_slot, posts_for, posts_in_content}
use Rattle.round_spec.specs.Verdict.{shown_in}
use Rattle.conviction.specs.Accepts.{Objects, ReplaysFault, inquiry_by, parts_shown as parts_said, post_listed}
use Rattle.judge_core.specs.declared.failed_check.FailedCheck.{FailedCheck}
use Rattle.judge_core.specs.declared.failed_check.FailedCheck.TheVariants.{NotJustified, LogsDiffer, Culprit}
use Rattle.judge_core.specs.Case.{Case, Said, case_of_transcript, read_of, shape_in}
use Rattle.judge_core.specs.Checks.{conviction_of, hearing_of, is_closing_stage, is_kind_asked, is_of_bodies, is_of_one_stage, own_failure, taken_of}
use Rattle.judge_core.specs.Closing.{contents_embedded, contents_found, is_justified_in, is_read_justified, past_in}
use Rattle.judge_core.specs.Replay.{culprit_failure, inquiry_in, parts_shown, replay_failure, shown_of, unjustified_from, unlike_from, unlike_log, unlike_place}
use Rattle.judge_core.specs.Showing.{IsObjection}
use Rattle.judge_core.proofs.Blaming.{replay-decides}
use Rattle.embedded_log.proofs.EmbeddedLogs.{spans}
use Rattle.judge_core.proofs.Hearings.{list_is}
use Rattle.judge_core.proofs.Listed.{TakenPost, asked-again, asked-found, both-true, closing-is, file-taken, says-bytes, taken-found}
use Rattle.judge_core.proofs.Objections.{heard, objection}
use Rattle.judge_core.proofs.Showings.{closing-content, dissent-objects, read-dissents, read-header}

-- ---- the posts that are taken, by their places

-- the header of the first post, for those behind it
abbrev pub first_header : Header → ℕ → Option Header
first_header header zero = None
first_header header (suc place) = Some header

abbrev said_ok : Said → Result Said FailedCheck
said_ok s = Ok s

-- one more is taken
one-more : (case : Case) (first : Header) (number : ℕ) (post : List ℕ) (posts : List (List ℕ)) (a : Said) (others : List Said) (d : Said)
    → taken_of case (Some first) number post ≡ Ok a
    → ((k : ℕ) → k < length posts → taken_of case (Some first) (number + 1 + k) (slice_index_or posts k []) ≡ Ok (get_or others k d))
    → (k : ℕ) → k < length (post ∷ posts) → taken_of case (Some first) (number + k) (slice_index_or (post ∷ posts) k []) ≡ Ok
    (get_or (a ∷ others) k d)
one-more case first number post posts a others d e rest zero lt =
    let same : number + 0 ≡ number = omega arith in
    ap (λ (n : ℕ). taken_of case (Some first) n post) same ∙ e
one-more case first number post posts a others d e rest (suc k) lt =
    let same : number + suc k ≡ number + 1 + k = omega arith in
    ap (λ (n : ℕ). taken_of case (Some first) n (slice_index_or posts k [])) same ∙ rest k (omega arith)

-- those behind the first
behind-taken : (case : Case) (first : Header) (number : ℕ) (posts : List (List ℕ)) (said : List Said) (d : Said)
    → hearing_of case (Some first) number posts ≡ Ok said
    → (k : ℕ) → k < length posts → taken_of case (Some first) (number + k) (slice_index_or posts k []) ≡ Ok (get_or said k d)
unfolding hearing_of
behind-taken case first number [] said d e k lt = absurd (omega arith)
behind-taken case first number (post ∷ posts) said d e k lt =
    let a = bind_ok (taken_of case (Some first) number post) _ said e in
    let others = bind_ok (hearing_of case (Some first) (number + 1) posts) _ said a.2 in
    let here = one-more case first number post posts a.0 others.0 d a.1 (behind-taken case first (number + 1) posts others.0 d others.1) k
    lt in
    here ∙ ap (λ (s : List Said). said_ok (get_or s k d)) (list_is (a.0 ∷ others.0) said others.2)

behind-long : (case : Case) (first : Header) (number : ℕ) (posts : List (List ℕ)) (said : List Said)
    → hearing_of case (Some first) number posts ≡ Ok said → length said ≡ length posts
unfolding hearing_of
behind-long case first number [] said e = ap (λ (s : List Said). length s) (sym (list_is [] said e))
behind-long case first number (post ∷ posts) said e =
    let a = bind_ok (taken_of case (Some first) number post) _ said e in
    let others = bind_ok (hearing_of case (Some first) (number + 1) posts) _ said a.2 in
    let is = list_is (a.0 ∷ others.0) said others.2 in
    omega (arith, ap (λ (s : List Said). length s) is, behind-long case first (number + 1) posts others.0 others.1)

-- and back
behind-heard : (case : Case) (first : Header) (number : ℕ) (posts : List (List ℕ)) (said : List Said) (d : Said)
    → length said ≡ length posts
    → ((k : ℕ) → k < length posts → taken_of case (Some first) (number + k) (slice_index_or posts k []) ≡ Ok (get_or said k d))
    → hearing_of case (Some first) number posts ≡ Ok said
unfolding hearing_of
behind-heard case first number [] [] d long each = refl
behind-heard case first number [] (s ∷ said) d long each = absurd (omega arith)
behind-heard case first number (post ∷ posts) [] d long each = absurd (omega arith)
behind-heard case first number (post ∷ posts) (s ∷ said) d long each =
    let zero_more : number ≡ number + 0 = omega arith in
    let here : taken_of case (Some first) number post ≡ Ok s = ap (λ (n : ℕ). taken_of case (Some first) n post) zero_more
    ∙ each 0 (omega arith) in
    let rest = behind-heard case first (number + 1) posts said d (omega arith)
    (λ k lt. let next : number + 1 + k ≡ number + suc k = omega arith in
    ap (λ (n : ℕ). taken_of case (Some first) n (slice_index_or posts k [])) next ∙ each (suc k) (omega arith)) in
    rw (here, rest) refl

-- each post is taken, behind the header of the first
abbrev EachTaken : Case → List (List ℕ) → Said → List Said → Type 0
EachTaken case posts first others = (k : ℕ) → k < length posts
    → taken_of case (first_header first.header k) (k + 1) (slice_index_or posts k []) ≡ Ok (get_or (first ∷ others) k first)

-- all posts that are taken: the first, and the others behind it
record AllTaken (case : Case) (posts : List (List ℕ)) (said : List Said) : Type 0 where
  pub first : Said
  pub others : List Said
  pub all : said ≡ first ∷ others
  pub long : length (first ∷ others) ≡ length posts
  pub taken : EachTaken case posts first others

all-taken : (case : Case) (posts : List (List ℕ)) (said : List Said) → 0 < length posts → hearing_of case None 1 posts ≡ Ok said
    → AllTaken case posts said
unfolding hearing_of
all-taken case [] said some e = absurd (omega arith)
all-taken case (post ∷ posts) said some e =
    let a = bind_ok (taken_of case None 1 post) _ said e in
    let others = bind_ok (hearing_of case (Some a.0.header) 2 posts) _ said a.2 in
    record {
      first = a.0;
      others = others.0;
      all = sym (list_is (a.0 ∷ others.0) said others.2);
      long = omega (arith, behind-long case a.0.header 2 posts others.0 others.1);
      taken = by_place a.0 others.0 a.1 (behind-taken case a.0.header 2 posts others.0 a.0 others.1);
    }
  where
    by_place : (a : Said) (others : List Said) → taken_of case None 1 post ≡ Ok a
        → ((k : ℕ) → k < length posts → taken_of case (Some a.header) (2 + k) (slice_index_or posts k []) ≡ Ok (get_or others k a))
        → EachTaken case (post ∷ posts) a others
    by_place a others here rest zero lt = here
    by_place a others here rest (suc k) lt =
        let number : suc k + 1 ≡ 2 + k = omega arith in
        ap (λ (n : ℕ). taken_of case (Some a.header) n (slice_index_or posts k [])) number ∙ rest k (omega arith)

-- and back
all-heard : (case : Case) (posts : List (List ℕ)) (first : Said) (others : List Said) → length (first ∷ others) ≡ length posts
    → EachTaken case posts first others → hearing_of case None 1 posts ≡ Ok (first ∷ others)
unfolding hearing_of
all-heard case [] first others long each = absurd (omega arith)
all-heard case (post ∷ posts) first others long each =
    let here : taken_of case None 1 post ≡ Ok first = each 0 (omega arith) in
    let rest = behind-heard case first.header 2 posts others first (omega arith)
    (λ k lt. let number : 2 + k ≡ suc k + 1 = omega arith in
    ap (λ (n : ℕ). taken_of case (Some first.header) n (slice_index_or posts k [])) number ∙ each (suc k) (omega arith)) in
    rw (here, rest) refl

-- ---- justified posts

justified-each : (case : Case) (number : ℕ) (said : List Said) → unjustified_from case number said ≡ None
    → All (λ (one : Said). is_justified_in case one ≡ true) said
justified-each case number [] e = All-nil (λ (one : Said). is_justified_in case one ≡ true)
justified-each case number (one ∷ others) e = elim (cases_Bool (is_justified_in case one)) [
  | inl good ↦
      All-cons (λ (one : Said). is_justified_in case one ≡ true) one others good
      (justified-each case (number + 1) others (sym (cond-true (is_justified_in case one) (unjustified_from case (number + 1) others)
      (Some (NotJustified number)) good) ∙ e))
  | inr bad ↦ absurd (none-some (NotJustified number) (sym e ∙ cond-false (is_justified_in case one)
      (unjustified_from case (number + 1) others) (Some (NotJustified number)) bad))
]

none-unjustified : (case : Case) (number : ℕ) (said : List Said) → All (λ (one : Said). is_justified_in case one ≡ true) said
    → unjustified_from case number said ≡ None
none-unjustified case number [] all = refl
none-unjustified case number (one ∷ others) all =
    cond-true (is_justified_in case one) (unjustified_from case (number + 1) others) (Some (NotJustified number))
    (All-head (λ (one : Said). is_justified_in case one ≡ true) one others all)
    ∙ none-unjustified case (number + 1) others (All-tail (λ (one : Said). is_justified_in case one ≡ true) one others all)

-- what a justified content embeds is found
justified-posts : (roster : Roster) (round : ℕ) (content : Content) → is_content_justified roster round content ≡ true
    → (posts : List Post) × (posts_in_content roster round content ≡ Ok posts)
unfolding is_content_justified
justified-posts roster round content e = by_posts (posts_in_content roster round content) e
  where
    by_posts : (r : Result (List Post) BadPost) → is_justified_by (shape_of_roster roster) content r ≡ true → (posts : List Post)
        × (r ≡ Ok posts)
    by_posts (Ok posts) e = (posts, refl)
    by_posts (Err bad) e = absurd cc

abbrev posts_ok : List Post → Result (List Post) BadPost
posts_ok posts = Ok posts

posts_are : (a b : List Post) → posts_ok a ≡ posts_ok b → a ≡ b
posts_are a b e = cc

-- and is as long as what is embedded
posts-long : (roster : Roster) (round place : ℕ) (pairs : List (Slot × List ℕ)) (posts : List Post)
    → posts_for roster round place pairs ≡ Ok posts → length posts ≡ length pairs
unfolding posts_for
posts-long roster round place [] posts e = ap (λ (p : List Post). length p) (sym (posts_are [] posts e))
posts-long roster round place (pair ∷ pairs) posts e =
    let post = bind_ok (fault_as (λ why. record { place = place; why = why }) (post_for_slot roster round pair.0 pair.1)) _ posts e in
    let others = bind_ok (posts_for roster round (place + 1) pairs) _ posts post.2 in
    let is = posts_are (post.0 ∷ others.0) posts others.2 in
    omega (arith, ap (λ (p : List Post). length p) is, posts-long roster round (place + 1) pairs others.0 others.1)

-- ---- one past

abbrev is_alike : List (List ℕ) → List (List ℕ) → ℕ → Bool
is_alike past other place = bytes_eq (slice_index_or past place []) (slice_index_or other place [])

-- where no place differs, and both are as long, they are the same
same-past : (past other : List (List ℕ)) → length other ≡ length past → unlike_place past other ≡ None → other ≡ past
unfolding unlike_place
same-past past other long e =
    ext_get_or [] other past long
    (λ place lt. sym ((bytes_eq-Decides (slice_index_or past place []) (slice_index_or other place [])).0
    (fault_unless-holds (is_alike past other place) place
    (first_below-each (λ place. fault_unless (is_alike past other place) place) (length past) e place (omega (arith, lt, long))))))

past-same : (past : List (List ℕ)) → unlike_place past past ≡ None
unfolding unlike_place
past-same past =
    first_below-none (λ place. fault_unless (is_alike past past place) place) (length past)
    (λ place lt. fault_unless-true (is_alike past past place) place
    ((bytes_eq-Decides (slice_index_or past place []) (slice_index_or past place [])).1 refl))

alike-each : (case : Case) (past : List (List ℕ)) (number : ℕ) (said : List Said) → unlike_from case past number said ≡ None
    → All (λ (one : Said). unlike_place past (past_in case one) ≡ None) said
alike-each case past number [] e = All-nil (λ (one : Said). unlike_place past (past_in case one) ≡ None)
alike-each case past number (one ∷ others) e =
    let parts = first_some-none_parts (unlike_log case past number one) (unlike_from case past (number + 1) others ∷ []) e in
    let rest = first_some-none_parts (unlike_from case past (number + 1) others) [] parts.1 in
    All-cons (λ (one : Said). unlike_place past (past_in case one) ≡ None) one others
    (nothing_mapped (λ slot. LogsDiffer number slot) (unlike_place past (past_in case one)) parts.0)
    (alike-each case past (number + 1) others rest.0)

first-none : (o : Option FailedCheck) → o ≡ None → first_some (None ∷ o ∷ []) ≡ None
first-none None e = refl
first-none (Some failed) e = absurd cc

none-unlike : (case : Case) (past : List (List ℕ)) (number : ℕ) (said : List Said) → All (λ (one : Said). past_in case one ≡ past) said
    → unlike_from case past number said ≡ None
none-unlike case past number [] all = refl
none-unlike case past number (one ∷ others) all =
    let same = All-head (λ (one : Said). past_in case one ≡ past) one others all in
    let rest = none-unlike case past (number + 1) others (All-tail (λ (one : Said). past_in case one ≡ past) one others all) in
    let none : unlike_place past (past_in case one) ≡ None = ap (unlike_place past) same ∙ past-same past in
    ap (λ (o : Option ℕ). first_some (option_map (λ slot. LogsDiffer number slot) o ∷ unlike_from case past (number + 1) others ∷ [])) none
    ∙ first-none (unlike_from case past (number + 1) others) rest

-- the past of one that objects has a content for each slot before its stage
past-long : (case : Case) (stage : ℕ) (one : Said) (content : Content) → OfGrammar (shape_in case) content → IsObjection case stage one
    → read_of case one ≡ Ok content
    → is_justified_in case one ≡ true → length (past_in case one) ≡ slots_before (shape_in case) stage
past-long case stage one content grammar o read good =
    let shape : Shape = shape_in case in
    let span = spans shape content grammar (closing-content case one content o.post read) in
    let objects = span.objects (dissent-objects content.body (read-dissents (read_of case one) content read o.dissents)) in
    let justified : is_content_justified case.roster case.round content ≡ true = sym (ap (is_read_justified case.roster case.round) read)
    ∙ good in
    let found = justified-posts case.roster case.round content justified in
    let past : past_in case one ≡ contents_of found.0 = ap (contents_embedded case.roster case.round) read ∙ ap contents_found found.1 in
    let pairs = posts-long case.roster case.round 0 (embedded_pairs case.roster content) found.0 found.1 in
    let at : slots_before shape content.header.stage ≡ slots_before shape stage =
    ap (λ (h : Header). slots_before shape h.stage) (sym (read-header case one content o.post.header read))
    ∙ ap (slots_before shape) o.at in
    omega (
      arith,
      ap (λ (p : List (List ℕ)). length p) past,
      length-map found.0 (λ (post : Post). post.content),
      pairs,
      length-zip (slots_embedded shape content) (posts_embedded content.body),
      span.slots_long,
      span.posts_long,
      objects.0,
      at,
    )

-- ---- what is replayed

-- a list by its places
by_range : (f : Said → Shown) (g : ℕ → Shown) (a : ℕ) (said : List Said) (d : Said)
    → ((k : ℕ) → k < length said → f (get_or said k d) ≡ g (a + k))
    → map f said ≡ map g (range_with_len a (length said))
by_range f g a [] d each = refl
by_range f g a (one ∷ others) d each =
    let first : a + 0 ≡ a = omega arith in
    ap (λ (s : Shown). s ∷ map f others) (each 0 (omega arith) ∙ ap g first)
    ∙ ap (λ (t : List Shown). g a ∷ t) (by_range f g (a + 1) others d
    (λ k lt. let next : a + suc k ≡ a + 1 + k = omega arith in each (suc k) (omega arith) ∙ ap g next))

parts-same : (case : Case) (kind : Option StageKind) (all : List Said) (d : Said) (said : ℕ → Content)
    → length all ≡ (shape_in case).members
    → ((k : ℕ) → k < length all → shown_of case (get_or all k d) ≡ shown_in (said (1 + k)).body)
    → parts_shown case kind all ≡ parts_said (shape_in case) kind said
parts-same case (Some (AtFinal shuffle)) all d said long each =
    by_range (shown_of case) (λ member. shown_in (said member).body) 1 all d each
    ∙ ap (λ (n : ℕ). map (λ member. shown_in (said member).body) (range_with_len 1 n)) long
parts-same case None all d said long each = refl
parts-same case (Some AtConfirm) all d said long each = refl
parts-same case (Some AtKeys) all d said long each = refl
parts-same case (Some (AtSubmit shuffle)) all d said long each = refl
parts-same case (Some (AtShuffle shuffle k)) all d said long each = refl
parts-same case (Some (AtGo shuffle)) all d said long each = refl
parts-same case (Some AtPad) all d said long each = refl
parts-same case (Some AtCheck) all d said long each = refl

abbrev asked : Shape → List (List ℕ) → ℕ → ℕ → List Shown → Inquiry
asked shape past stage round shown = record { shape = shape; past = past; stage = stage; round = round; shown = shown }

inquiry-by : (case : Case) (first : Said) (all : List Said) (d : Said) (stage : ℕ) (past : List (List ℕ)) (said : ℕ → Content)
    → past_in case first ≡ past
    → first.header.stage ≡ stage → length all ≡ (shape_in case).members
    → ((k : ℕ) → k < length all → shown_of case (get_or all k d) ≡ shown_in (said (1 + k)).body)
    → inquiry_in case first all ≡ inquiry_by (shape_in case) case.round stage past said
inquiry-by case first all d stage past said own at long each =
    let shape : Shape = shape_in case in
    ap (λ (p : List (List ℕ)). asked shape p first.header.stage case.round (parts_shown case (kind_of_stage shape first.header.stage) all))
    own
    ∙ ap (λ (s : ℕ). asked shape past s case.round (parts_shown case (kind_of_stage shape s) all)) at
    ∙ ap (λ (p : List Shown). asked shape past stage case.round p) (parts-same case (kind_of_stage shape stage) all d said long each)

-- ---- what the posts of a conviction show

-- of what blames the accused its fault
blamed : (accused : ℕ) (o : Option Fault) → culprit_failure accused o ≡ None → (fault : Fault) × (o ≡ Some fault) × (fault.member ≡ accused)
blamed accused None e = absurd cc
blamed accused (Some fault) e = (
  fault,
  refl,
  eqb-true fault.member accused
      (fault_unless-holds (fault.member == accused) (Culprit fault.member) e),
)

-- what was read, or else another content
abbrev content_or : Content → Result Content Offence → Content
content_or other (Ok content) = content
content_or other (Err offence) = other

-- the content that a member said, by the places of those that are taken
abbrev said_by : Case → Said → List Said → ℕ → Content
said_by case first all member = content_or (record { header = first.header; body = Abort }) (read_of case (get_or all (member - 1) first))

-- what is known of the post at a place
record StandsAt (case : Case) (posts : List (List ℕ)) (first : Said) (place : ℕ) (one : Said) : Type 0 where
  pub taken : TakenPost case (first_header first.header place) (place + 1) (slice_index_or posts place []) one
  pub object : IsObjection case first.header.stage one
  pub justified : is_justified_in case one ≡ true
  pub long : length (past_in case one) ≡ slots_before (shape_in case) first.header.stage

-- the stage of one that is taken is that of the first
at-first : (first : Said) (others : List Said) (place : ℕ) → is_of_one_stage (first_header first.header place)
    (get_or (first ∷ others) place first).header ≡ true
    → (get_or (first ∷ others) place first).header.stage ≡ first.header.stage
at-first first others zero e = refl
at-first first others (suc place) e = eqb-true (get_or others place first).header.stage first.header.stage e

stands-at : (case : Case) (posts : List (List ℕ)) (first : Said) (others : List Said) → case.claim ≡ Replay
    → EachTaken case posts first others
    → ((k : ℕ) → k < length posts → IsBytes (slice_index_or posts k []))
    → ((k : ℕ) → k < length posts → is_justified_in case (get_or (first ∷ others) k first) ≡ true)
    → (k : ℕ) → k < length posts → StandsAt case posts first k (get_or (first ∷ others) k first)
stands-at case posts first others is each fits good k lt =
    let one : Said = get_or (first ∷ others) k first in
    let bytes : List ℕ = slice_index_or posts k [] in
    let header : Option Header = first_header first.header k in
    let taken = taken-found case header (k + 1) bytes one (ap is_of_bodies is) (fits k lt) (each k lt) in
    let o = objection case header (k + 1) bytes one is (each k lt) in
    let at : one.header.stage ≡ first.header.stage = at-first first others k o.1 in
    let object : IsObjection case first.header.stage one = record { post = o.0.post; dissents = o.0.dissents; at = at } in
    let spelled = content-is_spelled (shape_in case) taken.file.text taken.content
    (says-bytes case.roster case.round bytes taken.file.text taken.content.header (fits k lt) taken.file.says) taken.file.reads in
    record {
      taken = taken;
      object = object;
      justified = good k lt;
      long = past-long case first.header.stage one taken.content spelled.1 object taken.reads (good k lt);
    }

-- one that stands at a place and embeds the past objects, in the words of what convicts
objects : (case : Case) (posts : List (List ℕ)) (first : Said) (place : ℕ) (one : Said) (past : List (List ℕ))
    (s : StandsAt case posts first place one) → case.claim ≡ Replay
    → past_in case one ≡ past → Objects case.roster case.round first.header.stage past (place + 1) (slice_index_or posts place [])
    s.taken.content
objects case posts first place one past s is same =
    let header : Option Header = first_header first.header place in
    let kind : Option StageKind = kind_of_stage (shape_in case) one.header.stage in
    let slot = and_parts ((one.header.sender == place + 1) && is_closing_stage kind) (is_of_one_stage header one.header)
    (asked-found case Replay header (place + 1) one.header is s.taken.asked) in
    let sender = and_parts (one.header.sender == place + 1) (is_closing_stage kind) slot.0 in
    let justified : is_content_justified case.roster case.round s.taken.content ≡ true = sym
    (ap (is_read_justified case.roster case.round) s.taken.reads) ∙ s.justified in
    let found = justified-posts case.roster case.round s.taken.content justified in
    record {
      file = s.taken.file;
      sender = ap (λ (h : Header). h.sender) s.taken.header_is ∙ eqb-true _ _ sender.0;
      at = ap (λ (h : Header). h.stage) s.taken.header_is ∙ s.object.at;
      dissents = subst (λ (c : Claim). is_kind_asked c header s.taken.content.body ≡ true) is s.taken.kind;
      justified = justified;
      posts = found.0;
      embeds = found.1;
      contents = sym (ap contents_found found.1) ∙ sym (ap (contents_embedded case.roster case.round) s.taken.reads) ∙ same;
    }

-- the post of a member is that at its place
by-place : (case : Case) (t : Transcript) (stage : ℕ) (past : List (List ℕ)) (place member : ℕ) (content said : Content)
    → place ≡ member - 1 → 1 ≤ member → content ≡ said
    → Objects case.roster case.round stage past (place + 1) (slice_index_or t.posts place []) content
    → Objects case.roster case.round stage past member (post_listed t member) said
by-place case t stage past place member content said at least same o =
    let back : place + 1 ≡ member = omega arith in
    subst (λ (c : Content). Objects case.roster case.round stage past member (post_listed t member) c) same
    (subst (λ (k : ℕ). Objects case.roster case.round stage past member (slice_index_or t.posts k []) content) at
    (subst (λ (m : ℕ). Objects case.roster case.round stage past m (slice_index_or t.posts place []) content) back o))

-- the bytes of each post
bytes-at : (posts : List (List ℕ)) → AllByRecursion IsBytes posts → (k : ℕ) → k < length posts → IsBytes (slice_index_or posts k [])
bytes-at [] fits k lt = absurd (omega arith)
bytes-at (post ∷ posts) fits zero lt = fits.0
bytes-at (post ∷ posts) fits (suc k) lt = bytes-at posts fits.1 k (omega arith)

-- each embeds the past of the first
past-at : (case : Case) (posts : List (List ℕ)) (first : Said) (others : List Said)
    → ((k : ℕ) → k < length posts → StandsAt case posts first k (get_or (first ∷ others) k first)) → length (first ∷ others) ≡ length posts
    → All (λ (one : Said). unlike_place (past_in case first) (past_in case one) ≡ None) others
    → (k : ℕ) → k < length posts → past_in case (get_or (first ∷ others) k first) ≡ past_in case first
past-at case posts first others stands long alike zero lt = refl
past-at case posts first others stands long alike (suc k) lt =
    same-past (past_in case first) (past_in case (get_or others k first))
    ((stands (suc k) lt).long ∙ sym (stands 0 (omega arith)).long) (alike k first (omega (arith, lt, long)))

found-of : (roster : Roster) (t : Transcript) (first : Said) (others : List Said) → t.claim ≡ Replay
    → length t.posts ≡ (shape_of_roster roster).members
    → AllByRecursion IsBytes t.posts → length (first ∷ others) ≡ length t.posts
    → EachTaken (case_of_transcript roster t) t.posts first others
    → replay_failure (case_of_transcript roster t) (first ∷ others) ≡ None → 0 < length t.posts → ReplaysFault roster t
found-of roster t first others is count fits long taken passes some =
    let case : Case = case_of_transcript roster t in
    let shape : Shape = shape_of_roster roster in
    let past : List (List ℕ) = past_in case first in
    let all : List Said = first ∷ others in
    let culprit : Option FailedCheck = culprit_failure t.accused (culprit_of (inquiry_in case first all)) in
    let a = first_some-none_parts (unjustified_from case 1 all) (unlike_from case past 2 others ∷ culprit ∷ []) passes in
    let b = first_some-none_parts (unlike_from case past 2 others) (culprit ∷ []) a.1 in
    let c = first_some-none_parts culprit [] b.1 in
    let good = justified-each case 1 all a.0 in
    let stands = stands-at case t.posts first others is taken (bytes-at t.posts fits) (λ k lt. good k first (omega (arith, lt, long))) in
    let same = past-at case t.posts first others stands long (alike-each case past 2 others b.0) in
    let fault = blamed t.accused (culprit_of (inquiry_in case first all)) c.0 in
    let read : (k : ℕ) (lt : k < length t.posts) → read_of case (get_or all k first) ≡ Ok (stands k lt).taken.content = λ k lt.
    (stands k lt).taken.reads in
    record {
      count = count;
      stage = first.header.stage;
      closing = (stands 0 some).object.post.closing;
      past = past;
      said = said_by case first all;
      object = λ member least most.
          let lt : member - 1 < length t.posts = omega (arith, count) in
          by-place case t first.header.stage past (member - 1) member (stands (member - 1) lt).taken.content (said_by case first all member)
          refl least
          (sym (ap (content_or (record { header = first.header; body = Abort })) (read (member - 1) lt)))
          (objects case t.posts first (member - 1) (get_or all (member - 1) first) past (stands (member - 1) lt) is (same (member - 1) lt));
      fault = fault.0;
      blames = ap culprit_of (sym (inquiry-by case first all first first.header.stage past (said_by case first all) refl refl (long ∙ count)
          (λ k lt. shown-by case first all k (stands k (omega (arith, lt, long))).taken.content (read k (omega (arith, lt, long))))))
          ∙ fault.1;
      accused = fault.2;
    }
  where
    shown-by : (case : Case) (first : Said) (all : List Said) (k : ℕ) (content : Content) → read_of case (get_or all k first) ≡ Ok content
        → shown_of case (get_or all k first) ≡ shown_in (said_by case first all (1 + k)).body
    shown-by case first all k content read =
        let other : Content = record { header = first.header; body = Abort } in
        let back : 1 + k - 1 ≡ k = omega arith in
        let there : said_by case first all (1 + k) ≡ content =
        ap (λ (n : ℕ). content_or other (read_of case (get_or all n first))) back ∙ ap (content_or other) read in
        ap (λ (r : Result Content Offence). shown_in (body_of r)) read ∙ ap (λ (c : Content). shown_in c.body) (sym there)

pub replay-found : (roster : Roster) (t : Transcript) → t.claim ≡ Replay → length t.posts ≡ (shape_of_roster roster).members
    → 0 < length t.posts
    → AllByRecursion IsBytes t.posts → conviction_of (case_of_transcript roster t) t.posts ≡ Ok tt → ReplaysFault roster t
unfolding conviction_of
replay-found roster t is count some fits e =
    let case : Case = case_of_transcript roster t in
    let said = bind_ok (hearing_of case None 1 t.posts) _ tt e in
    let passes = value_unless-ok (own_failure case.claim case said.0) (tt {0}) (tt {0}) said.2 in
    let all = all-taken case t.posts said.0 some said.1 in
    let replays : replay_failure case (all.first ∷ all.others) ≡ None =
    ap (replay_failure case) (sym all.all) ∙ subst (λ (c : Claim). own_failure c case said.0 ≡ None) is passes.0 in
    found-of roster t all.first all.others is count fits all.long all.taken replays some

-- ---- and what they show convicts

-- a list of what there is for each place
listed : (n a : ℕ) (P : ℕ → Said → Type 0) → ((k : ℕ) → k < n → (s : Said) × P (a + k) s)
    → (all : List Said) × (length all ≡ n) × ((k : ℕ) (d : Said) → k < n → P (a + k) (get_or all k d))
listed zero a P each = ([], refl, λ k d lt. absurd (omega arith))
listed (suc n) a P each =
    let first = each 0 (omega arith) in
    let rest = listed n (a + 1) P (λ k lt.
    let s = each (suc k) (omega arith) in
    let next : a + suc k ≡ a + 1 + k = omega arith in
    (s.0, subst (λ (j : ℕ). P j s.0) next s.1)) in
    (first.0 ∷ rest.0, omega (arith, rest.1), by_place first.0 first.1 rest.0 rest.2)
  where
    by_place : (s : Said) → P (a + 0) s → (all : List Said) → ((k : ℕ) (d : Said) → k < n → P (a + 1 + k) (get_or all k d))
        → (k : ℕ) (d : Said) → k < suc n → P (a + k) (get_or (s ∷ all) k d)
    by_place s here all rest zero d lt = here
    by_place s here all rest (suc k) d lt =
        let next : a + 1 + k ≡ a + suc k = omega arith in
        subst (λ (j : ℕ). P j (get_or all k d)) next (rest k d (omega arith))

-- what is taken of the post of a member that objects
record Speaks (roster : Roster) (t : Transcript) (r : ReplaysFault roster t) (place : ℕ) (one : Said) : Type 0 where
  pub objects : Objects roster t.round r.stage r.past (place + 1) (slice_index_or t.posts place []) (r.said (place + 1))
  pub is : one ≡ record { header = (r.said (place + 1)).header; content = objects.file.text }

speaks : (roster : Roster) (t : Transcript) (r : ReplaysFault roster t) (place : ℕ) → place < (shape_of_roster roster).members
    → (one : Said) × Speaks roster t r place one
speaks roster t r place lt =
    let back : place + 1 - 1 ≡ place = omega arith in
    let o = subst (λ (k : ℕ). Objects roster t.round r.stage r.past (place + 1) (slice_index_or t.posts k []) (r.said (place + 1))) back
    (r.object (place + 1) (omega arith) (omega arith)) in
    (record { header = (r.said (place + 1)).header; content = o.file.text }, record { objects = o; is = refl })

-- what is read of it
speaks-read : (roster : Roster) (t : Transcript) (r : ReplaysFault roster t) (place : ℕ) (one : Said) (s : Speaks roster t r place one)
    → read_of (case_of_transcript roster t) one ≡ Ok (r.said (place + 1))
speaks-read roster t r place one s = ap (λ (x : Said). read_of (case_of_transcript roster t) x) s.is ∙ s.objects.file.reads

speaks-justified : (roster : Roster) (t : Transcript) (r : ReplaysFault roster t) (place : ℕ) (one : Said) → Speaks roster t r place one
    → is_justified_in (case_of_transcript roster t) one ≡ true
speaks-justified roster t r place one s = ap (is_read_justified roster t.round) (speaks-read roster t r place one s) ∙ s.objects.justified

speaks-past : (roster : Roster) (t : Transcript) (r : ReplaysFault roster t) (place : ℕ) (one : Said) → Speaks roster t r place one
    → past_in (case_of_transcript roster t) one ≡ r.past
speaks-past roster t r place one s =
    ap (contents_embedded roster t.round) (speaks-read roster t r place one s) ∙ ap contents_found s.objects.embeds ∙ s.objects.contents

speaks-stage : (roster : Roster) (t : Transcript) (r : ReplaysFault roster t) (place : ℕ) (one : Said) → Speaks roster t r place one
    → one.header.stage ≡ r.stage
speaks-stage roster t r place one s = ap (λ (x : Said). x.header.stage) s.is ∙ s.objects.at

one-stage : (first : Header) (place : ℕ) (header : Header) → header.stage ≡ first.stage
    → is_of_one_stage (first_header first place) header ≡ true
one-stage first zero header e = refl
one-stage first (suc place) header e = eq-eqb _ _ e

speaks-taken : (roster : Roster) (t : Transcript) (r : ReplaysFault roster t) → t.claim ≡ Replay → (first : Header) → first.stage ≡ r.stage
    → (place : ℕ) (one : Said)
    → Speaks roster t r place one → taken_of (case_of_transcript roster t) (first_header first place) (place + 1)
    (slice_index_or t.posts place []) ≡ Ok one
speaks-taken roster t r is first at place one s =
    let case : Case = case_of_transcript roster t in
    let content : Content = r.said (place + 1) in
    let kind : Option StageKind = kind_of_stage (shape_in case) content.header.stage in
    let closing : is_closing_stage kind ≡ true =
    closing-is kind (subst (λ (stage : ℕ). IsSome (option_and_then vote_of (kind_of_stage (shape_in case) stage))) (sym s.objects.at)
    r.closing) in
    let sender : (content.header.sender == place + 1) ≡ true = eq-eqb _ _ s.objects.sender in
    let stage = one-stage first place content.header (s.objects.at ∙ sym at) in
    let slot = asked-again case Replay (first_header first place) (place + 1) content.header is
    (both-true _ _ (both-true _ _ sender closing) stage) in
    let dissents = subst (λ (c : Claim). is_kind_asked c (first_header first place) content.body ≡ true) (sym is) s.objects.dissents in
    file-taken case (first_header first place) (place + 1) (slice_index_or t.posts place []) content s.objects.file slot dissents
    ∙ ap said_ok (sym s.is)

again-of : (roster : Roster) (t : Transcript) (r : ReplaysFault roster t) → t.claim ≡ Replay → (first : Said) (others : List Said)
    → length (first ∷ others) ≡ (shape_of_roster roster).members
    → ((k : ℕ) → k < (shape_of_roster roster).members → Speaks roster t r k (get_or (first ∷ others) k first))
    → conviction_of (case_of_transcript roster t) t.posts ≡ Ok tt
again-of roster t r is first others long each =
    let case : Case = case_of_transcript roster t in
    let all : List Said = first ∷ others in
    let here : Speaks roster t r 0 first = each 0 (omega (arith, long)) in
    let stage : first.header.stage ≡ r.stage = speaks-stage roster t r 0 first here in
    let past : past_in case first ≡ r.past = speaks-past roster t r 0 first here in
    let heard_all = all-heard case t.posts first others (long ∙ sym r.count)
    (λ k lt. speaks-taken roster t r is first.header stage k (get_or all k first) (each k (omega (arith, lt, r.count)))) in
    let good : All (λ (one : Said). is_justified_in case one ≡ true) others =
    λ k d lt. behind k d lt (λ one. is_justified_in case one ≡ true) (speaks-justified roster t r) in
    let same : All (λ (one : Said). past_in case one ≡ past_in case first) others =
    λ k d lt. behind k d lt (λ one. past_in case one ≡ past_in case first) (λ place one s. speaks-past roster t r place one s ∙ sym past) in
    let inquiry = inquiry-by case first all first r.stage r.past r.said past stage long
    (λ k lt. shown-said k (get_or all k first) (each k (omega (arith, lt, long)))) in
    heard case t.posts all is heard_all
    ∙ replay-decides case first others (Some r.fault) None (speaks-justified roster t r 0 first here) (none-unjustified case 2 others good)
    (sym (none-unlike case (past_in case first) 2 others same)) (sym (ap culprit_of inquiry ∙ r.blames))
    (sym (fault_unless-true (r.fault.member == t.accused) (Culprit r.fault.member) (eq-eqb _ _ r.accused)))
  where
    behind : (k : ℕ) (d : Said) → k < length others → (P : Said → Type 0) → ((place : ℕ) (one : Said) → Speaks roster t r place one → P one)
        → P (get_or others k d)
    behind k d lt P so = so (suc k) (get_or others k d) (at_place others k d lt (each (suc k) (let l = long in omega (arith, lt, l))))
      where
        at_place : (others : List Said) (k : ℕ) (d : Said) → k < length others → Speaks roster t r (suc k) (get_or others k first)
            → Speaks roster t r (suc k) (get_or others k d)
        at_place others k d lt s = subst (Speaks roster t r (suc k)) (default others k lt) s
          where
            default : (others : List Said) (k : ℕ) → k < length others → get_or others k first ≡ get_or others k d
            default [] k lt = absurd (omega arith)
            default (one ∷ others) zero lt = refl
            default (one ∷ others) (suc k) lt = default others k (omega arith)

    shown-said : (k : ℕ) (one : Said) → Speaks roster t r k one
        → shown_of (case_of_transcript roster t) one ≡ shown_in (r.said (1 + k)).body
    shown-said k one s =
        let next : k + 1 ≡ 1 + k = omega arith in
        ap (λ (x : Result Content Offence). shown_in (body_of x)) (speaks-read roster t r k one s)
        ∙ ap (λ (n : ℕ). shown_in (r.said n).body) next

pub replay-again : (roster : Roster) (t : Transcript) → 0 < (shape_of_roster roster).members → t.claim ≡ Replay → ReplaysFault roster t
    → conviction_of (case_of_transcript roster t) t.posts ≡ Ok tt
replay-again roster t some is r =
    let n : ℕ = (shape_of_roster roster).members in
    let all = listed n 0 (Speaks roster t r) (λ k lt. let zero_more : k ≡ 0 + k = omega arith in
    let s = speaks roster t r k lt in (s.0, subst (λ (j : ℕ). Speaks roster t r j s.0) zero_more s.1)) in
    by_list all.0 all.1 (λ k d lt. let zero_more : 0 + k ≡ k = omega arith in subst (λ (j : ℕ). Speaks roster t r j (get_or all.0 k d))
    zero_more (all.2 k d lt))
  where
    by_list : (all : List Said) → length all ≡ (shape_of_roster roster).members
        → ((k : ℕ) (d : Said) → k < (shape_of_roster roster).members → Speaks roster t r k (get_or all k d))
        → conviction_of (case_of_transcript roster t) t.posts ≡ Ok tt
    by_list [] long each = absurd (let most = some in omega (arith, long, most))
    by_list (first ∷ others) long each = again-of roster t r is first others long (λ k lt. each k first lt)
