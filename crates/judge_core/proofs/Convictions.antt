-- What the judge accepts convicts, and what convicts is accepted.
use Rattle.std.proofs.Common.{◌≡◌, ◌≢◌, ◌<◌, ℕ, true, false, not, List, [], ◌∷◌, length, Option, Some, None, Result, Ok, Err, refl, sym, ap, subst, ◌∙◌, arith}
use Rattle.std.specs.Prelude.{◌==◌, bytes_eq, is_ok, nat_le}
use Rattle.std.specs.List.{AllByRecursion}
use Rattle.std.proofs.lemmas.Bool.{eqb-true, leb-true, eq-eqb, and_parts, both_ways, not-true, false_from_ne_true}
use Rattle.std.proofs.lemmas.Slice.Eq.{bytes_eq-Decides}
use Rattle.wire_core.specs.Bytes.{IsBytes}
use Rattle.wire_core.specs.Answers.{fault_as, Gives}
use Rattle.wire_core.proofs.Readings.{bind_ok, fault_as_ok}
use Rattle.ring_encrypt.specs.Capsule.{key_of_seed}
use Rattle.phase_message.specs.declared.content.Body.{Body}
use Rattle.phase_message.specs.declared.content.Body.TheVariants.{Keys, Reveal}
use Rattle.phase_message.specs.declared.content.Content.{Content}
use Rattle.phase_message.specs.declared.stage.StageKind.{StageKind}
use Rattle.phase_message.specs.declared.stage.StageKind.TheVariants.{Keys as AtKeys, Submit as AtSubmit, Shuffle as AtShuffle, Go as AtGo, Final as AtFinal, Pad as AtPad, Check as AtCheck, Confirm as AtConfirm}
use Rattle.phase_message.specs.Stages.{kind_of_stage, vote_of}
use Rattle.phase_message.specs.declared.header.Header.{Header}
use Rattle.phase_message.specs.Grammar.{OfGrammar, content_text}
use Rattle.phase_message.specs.declared.offence.Offence.{Offence}
use Rattle.phase_message.specs.Offence.{content_read}
use Rattle.phase_message.proofs.Whole.{content-is_spelled, content-is_read}
use Rattle.phase_message.specs.Shape.{Shape, IsShape}
use Rattle.group_roster.specs.Roster.{Roster, shape_of_roster, IsRosterForm}
use Rattle.wire_core.specs.Answers.{fault_unless}
use Rattle.wire_core.proofs.AnswerLemmas.{fault_unless-holds}
use Rattle.signed_post.specs.Admission.{IsPostFile}
use Rattle.transcript_form.specs.declared.claim.Claim.{Claim}
use Rattle.transcript_form.specs.declared.claim.Claim.TheVariants.{Equivocation, Malformed, WrongSeed, BadLog, Replay, Pad}
use Rattle.transcript_form.specs.declared.refusal.Refused.{Refused}
use Rattle.transcript_form.specs.Refusals.{failure_of_refusal}
use Rattle.transcript_form.specs.declared.transcript.Transcript.{Transcript}
use Rattle.transcript_form.specs.Claim.{claim_posts}
use Rattle.transcript_form.specs.Transcript.{IsTranscript}
use Rattle.transcript_form.specs.Form.{transcript_read}
use Rattle.transcript_form.proofs.Transcripts.{transcript_read-found, transcript_read-again, transcript-bytes}
use Rattle.judge_core.specs.declared.failed_check.FailedCheck.{FailedCheck}
use Rattle.judge_core.specs.declared.failed_check.FailedCheck.TheVariants.{Form, Same, WellFormed, SeedFits, Justified}
use Rattle.judge_core.specs.declared.judging.Accepted.{Accepted}
use Rattle.conviction.specs.Accepts.{Equivocates, SaysMalformed, RevealsWrongSeed, ShowsBadLog, Convicts, Accepts, inner_key}
use Rattle.judge_core.specs.Checks.{is_asked, is_closing_stage, is_final_stage, is_keys_stage, is_kind_asked, is_of_bodies, is_seed_right, own_failure, conviction_of, judgement_of, printed_judgement_of, AcceptsExactly}
use Rattle.judge_core.specs.Case.{Said, case_of_transcript}
use Rattle.std.specs.Prelude.{IsSome, option_and_then}
use Rattle.judge_core.specs.Closing.{is_justified_in, is_read_justified}
use Rattle.judge_core.specs.Failures.{failure_of_check}
use Rattle.judge_core.proofs.PadLaw.{pad-again, pad-found}
use Rattle.judge_core.proofs.Replays.{replay-again, replay-found}
use Rattle.judge_core.proofs.SeedPlaces.{is-keys, keys_body, reveal_body, seed-right}
use Rattle.judge_core.proofs.Listed.{asked-again, asked-found, both-true, closing-is, file-taken, heard-again, heard-found, plain-claim, says-bytes, taken-found}
use Rattle.judge_core.proofs.Hearings.{BothHeard, both_heard, two-both, other_contents, other_seed, unborne, is-closing, OneHeard, one_heard, one-heard, unformed, taken-plain, taken-heard}

-- ---- Equivocation

-- the posts of a transcript that lists two
two_listed : (posts : List (List ℕ)) → length posts ≡ 2 → (first : List ℕ) × (second : List ℕ) × (posts ≡ first ∷ second ∷ [])
two_listed (first ∷ second ∷ []) long = (first, second, refl)
two_listed [] long = absurd (omega arith)
two_listed (first ∷ []) long = absurd (omega arith)
two_listed (first ∷ second ∷ third ∷ more) long = absurd (omega arith)

differs : (a b : List ℕ) → fault_unless (not (bytes_eq a b)) Same ≡ None → a ≢ b
differs a b e same =
    let other = not-true (bytes_eq a b) (fault_unless-holds (not (bytes_eq a b)) Same e) in
    absurd (let equal : bytes_eq a b ≡ true = (bytes_eq-Decides a b).1 same in cc)

two-found : (roster : Roster) (t : Transcript) (first second : List ℕ) → t.claim ≡ Equivocation → t.posts ≡ first ∷ second ∷ []
    → IsBytes first → IsBytes second
    → BothHeard (case_of_transcript roster t) first second → Equivocates roster t
two-found roster t first second is posts fits_first fits_second heard =
    let case = case_of_transcript roster t in
    let one = heard-found case None 1 first heard.a fits_first (taken-heard case None 1 first heard.a heard.first_heard) in
    let two = heard-found case (Some heard.a.header) 2 second heard.b fits_second
    (taken-heard case (Some heard.a.header) 2 second heard.b heard.second_heard) in
    let first_parts = and_parts (heard.a.header.sender == t.accused) true (asked-found case Equivocation None 1 heard.a.header is one.1) in
    let parts = and_parts (heard.b.header.sender == t.accused) (heard.b.header.stage == heard.a.header.stage)
    (asked-found case Equivocation (Some heard.a.header) 2 heard.b.header is two.1) in
    record {
      first = first;
      second = second;
      listed = posts;
      first_content = heard.a.content;
      second_content = heard.b.content;
      first_header = heard.a.header;
      second_header = heard.b.header;
      first_says = one.0;
      second_says = two.0;
      first_sender = eqb-true _ _ first_parts.0;
      second_sender = eqb-true _ _ parts.0;
      one_stage = eqb-true _ _ parts.1;
      differ = differs heard.a.content heard.b.content (subst (λ (c : Claim). own_failure c case (heard.a ∷ heard.b ∷ []) ≡ None) is
          heard.passes);
    }

two-again : (roster : Roster) (t : Transcript) → t.claim ≡ Equivocation → Equivocates roster t
    → conviction_of (case_of_transcript roster t) t.posts ≡ Ok tt
two-again roster t is e =
    let case = case_of_transcript roster t in
    let a : Said = record { header = e.first_header; content = e.first_content } in
    let b : Said = record { header = e.second_header; content = e.second_content } in
    let sender : (e.first_header.sender == t.accused) ≡ true = eq-eqb _ _ e.first_sender in
    let other : (e.second_header.sender == t.accused) ≡ true = eq-eqb _ _ e.second_sender in
    let stage : (e.second_header.stage == e.first_header.stage) ≡ true = eq-eqb _ _ e.one_stage in
    let plain = plain-claim t.claim Equivocation is refl in
    let asked : is_asked case None 1 e.first_header ≡ true = asked-again case Equivocation None 1 e.first_header is (rw sender refl) in
    let asked_again : is_asked case (Some e.first_header) 2 e.second_header ≡ true = asked-again case Equivocation (Some e.first_header) 2
    e.second_header is (rw (other, stage) refl) in
    let differ : bytes_eq e.first_content e.second_content ≡ false = false_from_ne_true (bytes_eq e.first_content e.second_content)
    (λ same. e.differ ((bytes_eq-Decides e.first_content e.second_content).0 same)) in
    ap (conviction_of case) e.listed
    ∙ two-both case e.first e.second a b
    (taken-plain case None 1 e.first plain ∙ heard-again case None 1 e.first e.first_content e.first_header e.first_says asked)
    (taken-plain case (Some e.first_header) 2 e.second plain ∙ heard-again case (Some e.first_header) 2 e.second e.second_content
    e.second_header e.second_says asked_again)
    ∙ other_contents case a b is differ

-- ---- WrongSeed

is-final : (kind : Option StageKind) → is_final_stage kind ≡ true → (shuffle : ℕ) × (kind ≡ Some (AtFinal shuffle))
is-final (Some (AtFinal shuffle)) e = (shuffle, refl)
is-final None e = absurd cc
is-final (Some AtKeys) e = absurd cc
is-final (Some (AtSubmit shuffle)) e = absurd cc
is-final (Some (AtShuffle shuffle k)) e = absurd cc
is-final (Some (AtGo shuffle)) e = absurd cc
is-final (Some AtPad) e = absurd cc
is-final (Some AtCheck) e = absurd cc
is-final (Some AtConfirm) e = absurd cc

-- a content by its header and its body
same_content : (c : Content) (header : Header) (body : Body) → c.header ≡ header → c.body ≡ body
    → c ≡ record { header = header; body = body }
same_content c header body e1 e2 = rw (← e1, ← e2) refl

seed-found : (roster : Roster) (t : Transcript) (first second : List ℕ) → t.claim ≡ WrongSeed → t.posts ≡ first ∷ second ∷ []
    → IsBytes first → IsBytes second
    → BothHeard (case_of_transcript roster t) first second → RevealsWrongSeed roster t
seed-found roster t first second is posts fits_first fits_second heard =
    let case = case_of_transcript roster t in
    let shape = shape_of_roster roster in
    let bodies : is_of_bodies case.claim ≡ true = ap is_of_bodies is in
    let one = taken-found case None 1 first heard.a bodies fits_first heard.first_heard in
    let two = taken-found case (Some heard.a.header) 2 second heard.b bodies fits_second heard.second_heard in
    let a : Content = one.content in
    let b : Content = two.content in
    let parts = and_parts (heard.a.header.sender == t.accused) (is_keys_stage (kind_of_stage shape heard.a.header.stage))
    (asked-found case WrongSeed None 1 heard.a.header is one.asked) in
    let others = and_parts (heard.b.header.sender == t.accused) (is_final_stage (kind_of_stage shape heard.b.header.stage))
    (asked-found case WrongSeed (Some heard.a.header) 2 heard.b.header is two.asked) in
    let stage = is-keys (kind_of_stage shape heard.a.header.stage) parts.1 in
    let last = is-final (kind_of_stage shape heard.b.header.stage) others.1 in
    let grammar = content-is_spelled shape one.file.text a (says-bytes roster t.round first one.file.text a.header fits_first one.file.says)
    one.file.reads in
    let keys = keys_body shape a.header.stage a.body (ap (λ (h : Header). kind_of_stage shape h.stage) one.header_is ∙ stage) grammar.1.1 in
    let reveal = reveal_body b.body (subst (λ (c : Claim). is_kind_asked c (Some heard.a.header) b.body ≡ true) is two.kind) in
    let right = seed-right (kind_of_stage shape heard.b.header.stage) (content_read shape heard.a.content)
    (content_read shape heard.b.content) a b last.0 keys.0 reveal.0 reveal.1 last.1 one.reads two.reads keys.1 reveal.2 in
    let wrong = not-true (is_seed_right shape (heard.a ∷ heard.b ∷ []))
    (fault_unless-holds (not (is_seed_right shape (heard.a ∷ heard.b ∷ []))) SeedFits
    (subst (λ (c : Claim). own_failure c case (heard.a ∷ heard.b ∷ []) ≡ None) is heard.passes)) in
    record {
      keys_post = first;
      final_post = second;
      listed = posts;
      keys_header = heard.a.header;
      final_header = heard.b.header;
      keys = keys.0;
      votes = reveal.0;
      seed = reveal.1;
      keys_are = subst (λ (c : Content). IsPostFile roster t.round first c)
          (same_content a heard.a.header (Keys keys.0) one.header_is keys.1) one.file;
      final_is = subst (λ (c : Content). IsPostFile roster t.round second c)
          (same_content b heard.b.header (Reveal reveal.0 reveal.1) two.header_is reveal.2) two.file;
      keys_sender = eqb-true _ _ parts.0;
      final_sender = eqb-true _ _ others.0;
      keys_stage = stage;
      shuffle = last.0;
      final_stage = last.1;
      other = unequal (key_of_seed reveal.1) (inner_key last.0 keys.0) (sym right ∙ wrong);
    }
  where
    unequal : (x y : List ℕ) → bytes_eq x y ≡ false → x ≢ y
    unequal x y e same = absurd (let equal : bytes_eq x y ≡ true = (bytes_eq-Decides x y).1 same in cc)

seed-again : (roster : Roster) (t : Transcript) → t.claim ≡ WrongSeed → RevealsWrongSeed roster t
    → conviction_of (case_of_transcript roster t) t.posts ≡ Ok tt
seed-again roster t is e =
    let case = case_of_transcript roster t in
    let shape = shape_of_roster roster in
    let first : Content = record { header = e.keys_header; body = Keys e.keys } in
    let last : Content = record { header = e.final_header; body = Reveal e.votes e.seed } in
    let a : Said = record { header = e.keys_header; content = e.keys_are.text } in
    let b : Said = record { header = e.final_header; content = e.final_is.text } in
    let sender : (e.keys_header.sender == t.accused) ≡ true = eq-eqb _ _ e.keys_sender in
    let other : (e.final_header.sender == t.accused) ≡ true = eq-eqb _ _ e.final_sender in
    let keys : is_keys_stage (kind_of_stage shape e.keys_header.stage) ≡ true = ap is_keys_stage e.keys_stage in
    let final : is_final_stage (kind_of_stage shape e.final_header.stage) ≡ true = ap is_final_stage e.final_stage in
    let asked : is_asked case None 1 e.keys_header ≡ true = asked-again case WrongSeed None 1 e.keys_header is (both-true _ _ sender keys)
    in
    let asked_again : is_asked case (Some e.keys_header) 2 e.final_header ≡ true = asked-again case WrongSeed (Some e.keys_header) 2
    e.final_header is (both-true _ _ other final) in
    let kind : is_kind_asked case.claim None (Keys e.keys) ≡ true = subst (λ (c : Claim). is_kind_asked c None (Keys e.keys) ≡ true)
    (sym is) refl in
    let kind_again : is_kind_asked case.claim (Some e.keys_header) (Reveal e.votes e.seed) ≡ true = subst
    (λ (c : Claim). is_kind_asked c (Some e.keys_header) (Reveal e.votes e.seed) ≡ true) (sym is) refl in
    let right = seed-right (kind_of_stage shape e.final_header.stage) (content_read shape e.keys_are.text)
    (content_read shape e.final_is.text) first last e.shuffle e.keys e.votes e.seed e.final_stage e.keys_are.reads e.final_is.reads refl
    refl in
    let differ : bytes_eq (key_of_seed e.seed) (inner_key e.shuffle e.keys) ≡ false = false_from_ne_true _
    (λ same. e.other ((bytes_eq-Decides (key_of_seed e.seed) (inner_key e.shuffle e.keys)).0 same)) in
    ap (conviction_of case) e.listed
    ∙ two-both case e.keys_post e.final_post a b
    (file-taken case None 1 e.keys_post first e.keys_are asked kind)
    (file-taken case (Some e.keys_header) 2 e.final_post last e.final_is asked_again kind_again)
    ∙ other_seed case a b is (right ∙ differ)

-- ---- Malformed

one_listed : (posts : List (List ℕ)) → length posts ≡ 1 → (only : List ℕ) × (posts ≡ only ∷ [])
one_listed (only ∷ []) long = (only, refl)
one_listed [] long = absurd (omega arith)
one_listed (only ∷ second ∷ more) long = absurd (omega arith)

-- what is not read is no content of the grammar, and what is none is not read
is_outside : (shape : Shape) (content : List ℕ) → is_ok (content_read shape content) ≡ false → (c : Content) → OfGrammar shape c
    → content ≢ content_text c
is_outside shape content e c is same =
    let read : content_read shape content ≡ Ok c = ap (content_read shape) same ∙ content-is_read shape c is in
    both_ways (is_ok (content_read shape content)) e (ap (λ (r : Result Content Offence). is_ok r) read)

is_unread : (shape : Shape) (content : List ℕ) → IsBytes content → ((c : Content) → OfGrammar shape c → content ≢ content_text c)
    → is_ok (content_read shape content) ≡ false
is_unread shape content fits outside = unread (content_read shape content) refl
  where
    unread : (read : Result Content Offence) → content_read shape content ≡ read → is_ok read ≡ false
    unread (Ok c) e = let found = content-is_spelled shape content c fits e in absurd (outside c found.1 found.0)
    unread (Err offence) e = refl

one-found : (roster : Roster) (t : Transcript) (only : List ℕ) → t.claim ≡ Malformed → t.posts ≡ only ∷ [] → IsBytes only
    → OneHeard (case_of_transcript roster t) only → SaysMalformed roster t
one-found roster t only is posts fits one =
    let case = case_of_transcript roster t in
    let shape = shape_of_roster roster in
    let heard = heard-found case None 1 only one.a fits (taken-heard case None 1 only one.a one.heard) in
    let passes : fault_unless (not (is_ok (content_read shape one.a.content))) WellFormed ≡ None = subst
    (λ (c : Claim). own_failure c case (one.a ∷ []) ≡ None) is one.passes in
    record {
      post = only;
      listed = posts;
      content = one.a.content;
      header = one.a.header;
      says = heard.0;
      sender = eqb-true _ _ (asked-found case Malformed None 1 one.a.header is heard.1);
      outside = is_outside shape one.a.content
          (not-true (is_ok (content_read shape one.a.content)) (fault_unless-holds (not (is_ok (content_read shape one.a.content)))
          WellFormed passes));
    }

one-again : (roster : Roster) (t : Transcript) → t.claim ≡ Malformed → AllByRecursion IsBytes t.posts → SaysMalformed roster t
    → conviction_of (case_of_transcript roster t) t.posts ≡ Ok tt
one-again roster t is fits m =
    let case = case_of_transcript roster t in
    let shape = shape_of_roster roster in
    let a : Said = record { header = m.header; content = m.content } in
    let asked : is_asked case None 1 m.header ≡ true = asked-again case Malformed None 1 m.header is (eq-eqb _ _ m.sender) in
    let post : IsBytes m.post = front_bytes m.post (subst (λ (x : List (List ℕ)). AllByRecursion IsBytes x) m.listed fits) in
    let content : IsBytes m.content = says-bytes roster t.round m.post m.content m.header post m.says in
    ap (conviction_of case) m.listed
    ∙ one-heard case m.post a (taken-plain case None 1 m.post (plain-claim t.claim Malformed is refl)
    ∙ heard-again case None 1 m.post m.content m.header m.says asked)
    ∙ unformed case a is (is_unread shape m.content content m.outside)
  where
    front_bytes : (post : List ℕ) → AllByRecursion IsBytes (post ∷ []) → IsBytes post
    front_bytes post fits = fits.0

-- ---- BadLog

log-found : (roster : Roster) (t : Transcript) (only : List ℕ) → t.claim ≡ BadLog → t.posts ≡ only ∷ [] → IsBytes only
    → OneHeard (case_of_transcript roster t) only → ShowsBadLog roster t
log-found roster t only is posts fits one =
    let case = case_of_transcript roster t in
    let shape = shape_of_roster roster in
    let taken = taken-found case None 1 only one.a (ap is_of_bodies is) fits one.heard in
    let parts = and_parts (one.a.header.sender == t.accused) (is_closing_stage (kind_of_stage shape one.a.header.stage))
    (asked-found case BadLog None 1 one.a.header is taken.asked) in
    let wrong = not-true (is_justified_in case one.a) (fault_unless-holds (not (is_justified_in case one.a)) Justified
    (subst (λ (c : Claim). own_failure c case (one.a ∷ []) ≡ None) is one.passes)) in
    record {
      post = only;
      listed = posts;
      content = taken.content;
      file = taken.file;
      sender = ap (λ (h : Header). h.sender) taken.header_is ∙ eqb-true _ _ parts.0;
      closing = subst (λ (h : Header). IsSome (option_and_then vote_of (kind_of_stage shape h.stage))) (sym taken.header_is)
          (is-closing (kind_of_stage shape one.a.header.stage) parts.1);
      unjustified = sym (ap (is_read_justified roster t.round) taken.reads) ∙ wrong;
    }

log-again : (roster : Roster) (t : Transcript) → t.claim ≡ BadLog → ShowsBadLog roster t
    → conviction_of (case_of_transcript roster t) t.posts ≡ Ok tt
log-again roster t is m =
    let case = case_of_transcript roster t in
    let shape = shape_of_roster roster in
    let a : Said = record { header = m.content.header; content = m.file.text } in
    let sender : (m.content.header.sender == t.accused) ≡ true = eq-eqb _ _ m.sender in
    let closing : is_closing_stage (kind_of_stage shape m.content.header.stage) ≡ true = closing-is
    (kind_of_stage shape m.content.header.stage) m.closing in
    let asked : is_asked case None 1 m.content.header ≡ true = asked-again case BadLog None 1 m.content.header is
    (both-true _ _ sender closing) in
    let kind : is_kind_asked case.claim None m.content.body ≡ true = subst (λ (c : Claim). is_kind_asked c None m.content.body ≡ true)
    (sym is) refl in
    ap (conviction_of case) m.listed
    ∙ one-heard case m.post a (file-taken case None 1 m.post m.content m.file asked kind)
    ∙ unborne case a is (ap (is_read_justified roster t.round) m.file.reads ∙ m.unjustified)

-- ---- by claim

-- a transcript accuses a member, so that there is one
members-some : (roster : Roster) (t : Transcript) → IsTranscript (shape_of_roster roster) t → 0 < (shape_of_roster roster).members
members-some roster t form =
    let n : ℕ = (shape_of_roster roster).members in
    let parts = and_parts (nat_le 1 t.accused) (nat_le t.accused n) form.accused in
    omega (arith, leb-true 1 t.accused parts.0, leb-true t.accused n parts.1)

convicts-found : (roster : Roster) (t : Transcript) (claim : Claim) → IsTranscript (shape_of_roster roster) t → t.claim ≡ claim
    → length t.posts ≡ claim_posts (shape_of_roster roster) claim → AllByRecursion IsBytes t.posts
    → conviction_of (case_of_transcript roster t) t.posts ≡ Ok tt → Convicts roster t claim
convicts-found roster t Equivocation form is count fits e =
    let two = two_listed t.posts count in
    let bytes : IsBytes two.0 × IsBytes two.1 = two_bytes two.0 two.1 (subst (λ (x : List (List ℕ)). AllByRecursion IsBytes x) two.2 fits)
    in
    two-found roster t two.0 two.1 is two.2 bytes.0 bytes.1
    (both_heard (case_of_transcript roster t) two.0 two.1 (sym (ap (conviction_of (case_of_transcript roster t)) two.2) ∙ e))
  where
    two_bytes : (a b : List ℕ) → AllByRecursion IsBytes (a ∷ b ∷ []) → IsBytes a × IsBytes b
    two_bytes a b fits = (fits.0, fits.1.0)
convicts-found roster t Malformed form is count fits e =
    let one = one_listed t.posts count in
    let bytes : IsBytes one.0 = only_bytes one.0 (subst (λ (x : List (List ℕ)). AllByRecursion IsBytes x) one.1 fits) in
    one-found roster t one.0 is one.1 bytes (one_heard (case_of_transcript roster t) one.0
    (sym (ap (conviction_of (case_of_transcript roster t)) one.1) ∙ e))
  where
    only_bytes : (a : List ℕ) → AllByRecursion IsBytes (a ∷ []) → IsBytes a
    only_bytes a fits = fits.0
convicts-found roster t WrongSeed form is count fits e =
    let two = two_listed t.posts count in
    let bytes : IsBytes two.0 × IsBytes two.1 = two_bytes two.0 two.1 (subst (λ (x : List (List ℕ)). AllByRecursion IsBytes x) two.2 fits)
    in
    seed-found roster t two.0 two.1 is two.2 bytes.0 bytes.1
    (both_heard (case_of_transcript roster t) two.0 two.1 (sym (ap (conviction_of (case_of_transcript roster t)) two.2) ∙ e))
  where
    two_bytes : (a b : List ℕ) → AllByRecursion IsBytes (a ∷ b ∷ []) → IsBytes a × IsBytes b
    two_bytes a b fits = (fits.0, fits.1.0)
convicts-found roster t BadLog form is count fits e =
    let one = one_listed t.posts count in
    let bytes : IsBytes one.0 = only_bytes one.0 (subst (λ (x : List (List ℕ)). AllByRecursion IsBytes x) one.1 fits) in
    log-found roster t one.0 is one.1 bytes (one_heard (case_of_transcript roster t) one.0
    (sym (ap (conviction_of (case_of_transcript roster t)) one.1) ∙ e))
  where
    only_bytes : (a : List ℕ) → AllByRecursion IsBytes (a ∷ []) → IsBytes a
    only_bytes a fits = fits.0
convicts-found roster t Replay form is count fits e = (let some = members-some roster t form in replay-found roster t is count
    (omega (arith, some, count)) fits e)
convicts-found roster t Pad form is count fits e = pad-found roster t is count fits e

convicts-again : (roster : Roster) (t : Transcript) (claim : Claim) → IsTranscript (shape_of_roster roster) t → t.claim ≡ claim
    → AllByRecursion IsBytes t.posts
    → Convicts roster t claim → conviction_of (case_of_transcript roster t) t.posts ≡ Ok tt
convicts-again roster t Equivocation form is fits convicts = two-again roster t is convicts
convicts-again roster t Malformed form is fits convicts = one-again roster t is fits convicts
convicts-again roster t WrongSeed form is fits convicts = seed-again roster t is convicts
convicts-again roster t BadLog form is fits convicts = log-again roster t is convicts
convicts-again roster t Replay form is fits convicts = replay-again roster t (members-some roster t form) is convicts
convicts-again roster t Pad form is fits convicts = pad-again roster t is (form.count ∙ ap (claim_posts (shape_of_roster roster)) is) fits
    convicts

-- ---- the whole

abbrev accepted_ok : Accepted → Result Accepted FailedCheck
accepted_ok a = Ok a

pub judgement-found : (roster : Roster) (bytes : List ℕ) (a : Accepted) → IsBytes bytes → judgement_of roster bytes ≡ Ok a
    → Accepts roster bytes a.accused a.claim
unfolding judgement_of
judgement-found roster bytes a fits e =
    let read = bind_ok (fault_as (λ failed. Form failed) (transcript_read (shape_of_roster roster) bytes)) _ a e in
    let t : Transcript = read.0 in
    let convicted = bind_ok (conviction_of (case_of_transcript roster t) t.posts) _ a read.2 in
    let found = fault_as_ok (λ failed. Form failed) (transcript_read (shape_of_roster roster) bytes) t read.1 in
    let spelled = transcript_read-found (shape_of_roster roster) bytes t fits found in
    let posts = transcript-bytes t (subst (λ (x : List ℕ). IsBytes x) spelled.1 fits) in
    let convicts = convicts-found roster t t.claim spelled.0 refl spelled.0.count posts convicted.1 in
    let made : Accepted = record { accused = t.accused; claim = t.claim } in
    let same : made ≡ a = (let e : accepted_ok made ≡ accepted_ok a = convicted.2 in cc) in
    subst (λ (a : Accepted). Accepts roster bytes a.accused a.claim) same
    (record { transcript = t; form = spelled.0; spelled = spelled.1; accused_is = refl; claim_is = refl; convicts = convicts })

judges : (roster : Roster) (bytes : List ℕ) (t : Transcript) → transcript_read (shape_of_roster roster) bytes ≡ Ok t
    → conviction_of (case_of_transcript roster t) t.posts ≡ Ok tt
    → judgement_of roster bytes ≡ Ok (record { accused = t.accused; claim = t.claim })
unfolding judgement_of
judges roster bytes t e1 e2 = rw (e1, e2) refl

pub judgement-again : (roster : Roster) (bytes : List ℕ) (accused : ℕ) (claim : Claim) → IsRosterForm roster → IsBytes bytes
    → Accepts roster bytes accused claim → judgement_of roster bytes ≡ Ok (record { accused = accused; claim = claim })
judgement-again roster bytes accused claim form fits accepts =
    let t = accepts.transcript in
    let shape = shape_of_roster roster in
    let is_shape : IsShape shape.version shape.members = record { first = form.version; least = form.least; most = form.most } in
    let read : transcript_read shape bytes ≡ Ok t = ap (transcript_read shape) accepts.spelled
    ∙ transcript_read-again shape t is_shape accepts.form in
    let convicts = convicts-again roster t claim accepts.form accepts.claim_is
    (transcript-bytes t (subst (λ (x : List ℕ). IsBytes x) accepts.spelled fits)) accepts.convicts in
    judges roster bytes t read convicts
    ∙ ap (λ (m : ℕ). ok m t.claim) accepts.accused_is
    ∙ ap (λ (c : Claim). ok accused c) accepts.claim_is
  where
    ok : ℕ → Claim → Result Accepted FailedCheck
    ok accused claim = Ok (record { accused = accused; claim = claim })

pub accepts_exactly : AcceptsExactly
accepts_exactly roster bytes accused claim form fits = (
  λ e. judgement-found roster bytes (record { accused = accused; claim = claim }) fits e,
  judgement-again roster bytes accused claim form
      fits,
)

-- what convicts is answered, but for memory
pub answered-only : (roster : Roster) (bytes : List ℕ) (result : Result Accepted Refused) (accused : ℕ) (claim : Claim)
    → IsRosterForm roster → IsBytes bytes
    → Gives failure_of_refusal (λ a. a) result (printed_judgement_of roster bytes) → Accepts roster bytes accused claim
    → Gives failure_of_refusal (λ a. a) result (Ok (record { accused = accused; claim = claim }))
answered-only roster bytes result accused claim form fits gives accepts =
    subst (λ (r : Result Accepted FailedCheck). Gives failure_of_refusal (λ a. a) result (fault_as failure_of_check r))
    (judgement-again roster bytes accused claim form fits accepts) gives
