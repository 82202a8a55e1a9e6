-- One post, or two, convict: a bad log, a wrong seed, what was delivered.
use Rattle.std.proofs.Common.{arith, refl, List, None, ap, false, subst, sym, true, ◌≡◌, ◌∙◌, ◌∷◌, [], ℕ, Err, Ok, Option, Result, Some, eq-eqb, inl, inr, is_ok, length, slice_index_or, ◌≢◌, ◌<◌, ◌+◌, ◌^◌, ◌==◌}
use Rattle.phase_message.specs.declared.stage.StageKind.TheVariants.{Keys as AtKeys, Final as AtFinal}
use Rattle.phase_message.specs.declared.content.Body.TheVariants.{Dispute, Keys, Reveal}
use Rattle.transcript_form.specs.declared.claim.Claim.TheVariants.{BadLog, Equivocation, Malformed, WrongSeed}
use Rattle.round_spec.specs.Verdict.{Convicts, is_closing, is_read_justified, ClosedStage, closing_body, is_inner_seed, sent_in}
use Rattle.accountability.specs.Evidence.{AcceptedFor, IsAccepted, IsKeptEnd, FaultAccepted}
use Rattle.round_spec.specs.Cases.{IsBadLog, IsMemberOf, IsWrongSeed}
use Rattle.accountability.proofs.Kept.{KeptIn, accept, closing-reads, content-sender, content-stage, file-of, kept-end, member-is, sent-in, spelled-few, transcript-same, body-of_kind, content-is, end-past, file-says, kept-in, said-in}
use Rattle.phase_message.specs.declared.post.Post.{Post}
use Rattle.round_spec.specs.Runs.{Run, IsConfiguration}
use Rattle.transcript_form.specs.declared.transcript.Transcript.{Transcript}
use Rattle.round_spec.specs.Course.{closing_of, Others}
use Rattle.round_spec.specs.Embedded.{is_content_justified, slot_named}
use Rattle.phase_message.specs.Post.{post_spelling}
use Rattle.round_spec.specs.Say.{shape_in, Configuration}
use Rattle.signed_post.specs.Admission.{Admitted, IsPostFile, Says, framed_admission_of}
use Rattle.phase_message.specs.declared.content.Body.{Body}
use Rattle.phase_message.specs.declared.content.Content.{Content}
use Rattle.phase_message.specs.declared.header.Header.{Header}
use Rattle.round_spec.specs.Result.{Heard, heard_of, heard_of_post, heard_with}
use Rattle.phase_message.specs.Kinds.{IsBodyAt}
use Rattle.wire_core.specs.Bytes.{IsBytes}
use Rattle.accountability.proofs.Endings.{IsContradiction, IsMalformed, fault-cases, and-then-parts}
use Rattle.phase_message.specs.declared.offence.Offence.{Offence}
use Rattle.round_spec.specs.Honesty.{OthersCheck}
use Rattle.group_roster.specs.Roster.{Roster}
use Rattle.phase_message.specs.Shape.{Shape}
use Rattle.phase_message.specs.declared.stage.Slot.{Slot}
use Rattle.signed_post.proofs.Admits.{admit-found}
use Rattle.std.proofs.lemmas.Slice.Eq.{bytes_eq-Decides}
use Rattle.std.proofs.lemmas.Bool.{cases_Bool, cond-false, cond-true}
use Rattle.phase_message.proofs.Whole.{content-is_read}
use Rattle.phase_message.specs.Offence.{content_read}
use Rattle.stage_log.specs.Log.{contents_of}
use Rattle.round_spec.specs.Slots.{inner_place, key_said, keys_in, said_in, seed_in}
use Rattle.signed_post.specs.Frame.{frame_of}
use Rattle.signed_post.proofs.Frames.{framed-bytes, framed-found}
use Rattle.conviction.specs.Accepts.{inner_key}
use Rattle.go_nogo.specs.Closing.{is_assent}
use Rattle.phase_message.specs.Stages.{is_member, kind_of_stage}
use Rattle.ring_encrypt.specs.Capsule.{key_of_seed}
use Rattle.std.proofs.lemmas.Option.{none-some}
use Rattle.conviction.proofs.Replays.{not_both}
use Rattle.signed_post.proofs.Lengths.{posts_are_short}
use Rattle.std.specs.Result.{result_ok}
use Rattle.round_spec.proofs.PastForms.{checks-read, spelled-short}
use Rattle.phase_message.specs.Slots.{slots_before}

-- ---- a bad log

log-evidence : ℕ → ℕ → List ℕ → Transcript
log-evidence round member bytes = record { claim = BadLog; accused = member; round = round; detail = None; posts = bytes ∷ [] }

log-shown : (run : Run) (stage member : ℕ) (posts : List Post) → (end : IsKeptEnd run stage posts)
    → (is : IsMemberOf (closing_of run.config posts stage) member)
    → (k : KeptIn run posts stage member) → is_content_justified run.config.roster run.config.round k.checks.content ≡ false
    → IsAccepted run.config.roster (log-evidence run.config.round member (post_spelling k.post))
unfolding log-evidence
log-shown run stage member posts end is k unjustified =
    accept run.config.roster (log-evidence run.config.round member (post_spelling k.post))
    (record {
      accused = member-is run stage member posts is;
      round = end.honest.config.enter.round;
      detail = tt;
      count = refl;
      posts = (spelled-few run posts stage member k, tt);
    })
    (record {
      post = post_spelling k.post;
      listed = refl;
      content = k.checks.content;
      file = file-of run.config (record { stage = stage; sender = member }) k.post k.checks;
      sender = content-sender run posts stage member k;
      closing = subst (λ (s : ℕ). is_closing (shape_in run.config) s ≡ true) (sym (content-stage run posts stage member k)) end.closing;
      unjustified = unjustified;
    })

pub bad_log_accepted : AcceptedFor IsBadLog
unfolding log-evidence
bad_log_accepted run stage posts t end is =
    let k = kept-end run stage is.member posts end is.is_member in
    let unjustified : is_content_justified run.config.roster run.config.round k.checks.content ≡ false =
    sym (ap (is_read_justified (closing_of run.config posts stage)) (closing-reads run posts stage is.member k)) ∙ is.bad in
    let same : t ≡ log-evidence run.config.round is.member (post_spelling k.post) =
    transcript-same t _ is.verdict_is ∙ ap (log-evidence run.config.round is.member) (sent-in run posts stage stage is.member k) in
    subst (IsAccepted run.config.roster) (sym same) (log-shown run stage is.member posts end is.is_member k unjustified)

-- ---- a wrong seed

seed-evidence : ℕ → ℕ → List ℕ → List ℕ → Transcript
seed-evidence round member keys_bytes final_bytes =
    record { claim = WrongSeed; accused = member; round = round; detail = None; posts = keys_bytes ∷ final_bytes ∷ [] }

keys-there : (shape : Shape) (before : ℕ) (body : Body) → IsBodyAt shape before AtKeys body → (keys : List (List ℕ)) × (body ≡ Keys keys)
keys-there shape before (Keys keys) is = (keys, refl)
keys-there shape before _ is = absurd is

-- what assents at the end of a shuffle reveals a seed
pub record IsReveal (shape : Shape) (body : Body) : Type 0 where
  pub votes : List (List ℕ)
  pub seed : List ℕ
  pub is : body ≡ Reveal votes seed

pub reveal-there : (shape : Shape) (before shuffle : ℕ) (body : Body) → IsBodyAt shape before (AtFinal shuffle) body → is_assent body ≡ true
    → IsReveal shape body
reveal-there shape before shuffle (Reveal votes seed) is assents = record { votes = votes; seed = seed; is = refl }
reveal-there shape before shuffle (Dispute posts seed opening) is assents = absurd cc
reveal-there shape before shuffle _ is assents = absurd is

seed-shown : (run : Run) (stage member shuffle : ℕ) (posts : List Post) (end : IsKeptEnd run stage posts)
    → (is : IsMemberOf (closing_of run.config posts stage) member) (a : KeptIn run posts 0 member) (b : KeptIn run posts stage member)
    → kind_of_stage (shape_in run.config) stage ≡ Some (AtFinal shuffle)
    → (keys : List (List ℕ)) (votes : List (List ℕ)) (seed : List ℕ)
    → a.checks.content.body ≡ Keys keys → b.checks.content.body ≡ Reveal votes seed → key_of_seed seed ≢ inner_key shuffle keys
    → IsAccepted run.config.roster (seed-evidence run.config.round member (post_spelling a.post) (post_spelling b.post))
unfolding seed-evidence
seed-shown run stage member shuffle posts end is a b kind keys votes seed a_is b_is other =
    let c = run.config in
    accept c.roster (seed-evidence c.round member (post_spelling a.post) (post_spelling b.post))
    (record {
      accused = member-is run stage member posts is;
      round = end.honest.config.enter.round;
      detail = tt;
      count = refl;
      posts = (spelled-few run posts 0 member a, (spelled-few run posts stage member b, tt));
    })
    (record {
      keys_post = post_spelling a.post;
      final_post = post_spelling b.post;
      listed = refl;
      keys_header = a.checks.content.header;
      final_header = b.checks.content.header;
      keys = keys;
      votes = votes;
      seed = seed;
      keys_are = subst (λ (body : Body). IsPostFile c.roster c.round (post_spelling a.post)
          (record { header = a.checks.content.header; body = body })) a_is
          (file-of c (record { stage = 0; sender = member }) a.post a.checks);
      final_is = subst (λ (body : Body). IsPostFile c.roster c.round (post_spelling b.post)
          (record { header = b.checks.content.header; body = body })) b_is
          (file-of c (record { stage = stage; sender = member }) b.post b.checks);
      keys_sender = content-sender run posts 0 member a;
      final_sender = content-sender run posts stage member b;
      keys_stage = ap (kind_of_stage (shape_in c)) (content-stage run posts 0 member a);
      shuffle = shuffle;
      final_stage = ap (kind_of_stage (shape_in c)) (content-stage run posts stage member b) ∙ kind;
      other = other;
    })

pub wrong_seed_accepted : AcceptedFor IsWrongSeed
unfolding seed-evidence
wrong_seed_accepted run stage posts t end is =
    let c = run.config in
    let v : ClosedStage = closing_of run.config posts stage in
    let a = kept-in run (stage + 1) 0 is.member posts (end-past run stage posts end) (member-is run stage is.member posts is.is_member)
    (omega arith) in
    let b = kept-end run stage is.member posts end is.is_member in
    let keys = keys-there (shape_in c) (slots_before (shape_in c) 0) a.checks.content.body
    (body-of_kind run posts 0 is.member AtKeys a refl) in
    let faithful = is.faithful is.member is.is_member in
    let assents : is_assent b.checks.content.body ≡ true =
    ap (λ (x : Content). is_assent x.body) (content-is run stage is.member posts faithful.content b faithful.reads) ∙ faithful.assents
    ∙ is.votes in
    let reveal = reveal-there (shape_in c) (slots_before (shape_in c) stage) is.shuffle b.checks.content.body
    (body-of_kind run posts stage is.member (AtFinal is.shuffle) b is.kind) assents in
    let said : closing_body (closing_of run.config posts stage) is.member ≡ Reveal reveal.votes reveal.seed = said-in run posts stage
    is.member b ∙ reveal.is in
    let keys_said_is : said_in (shape_in c) (contents_of posts) 0 is.member ≡ Keys keys.0 = said-in run posts 0 is.member a ∙ keys.1 in
    let same : t ≡ seed-evidence c.round is.member (post_spelling a.post) (post_spelling b.post) =
    transcript-same t _ is.verdict_is ∙ ap (λ (bytes : List ℕ). seed-evidence c.round is.member bytes (sent_in v stage is.member))
    (sent-in run posts stage 0 is.member a)
    ∙ ap (seed-evidence c.round is.member (post_spelling a.post)) (sent-in run posts stage stage is.member b) in
    subst (IsAccepted c.roster) (sym same)
    (seed-shown run stage is.member is.shuffle posts end is.is_member a b is.kind keys.0 reveal.votes reveal.seed keys.1 reveal.is
    (λ equal. not_both (is_inner_seed v is.shuffle is.member)
    ((bytes_eq-Decides (key_of_seed (seed_in (closing_body v is.member)))
    (key_said (shape_in c) (contents_of posts) (inner_place is.shuffle) is.member)).1
    (ap (λ (body : Body). key_of_seed (seed_in body)) said ∙ equal
    ∙ sym (ap (λ (body : Body). slice_index_or (keys_in body) (inner_place is.shuffle) []) keys_said_is)))
    is.wrong))

-- ---- what a delivered string shows

some-is : {A : Type 0} (a b : A) → (let some : A → Option A = λ z. Some z in some a ≡ some b) → a ≡ b
some-is a b e = cc

ok-of : {A E : Type 0} (r : Result A E) (x : A) → result_ok r ≡ Some x → r ≡ Ok x
ok-of {A} {E} (Ok y) x e = (let told : A → Result A E = λ z. Ok z in ap told (some-is y x e))
ok-of (Err f) x e = absurd (none-some x e)

-- what is heard of bytes: a post of another member, that is admitted
pub record IsHeard (c : Configuration) (bytes : List ℕ) (heard : Heard) : Type 0 where
  pub spelled : bytes ≡ post_spelling heard.post
  pub admitted : Admitted c.roster c.round heard.post heard.header
  pub other : heard.header.sender ≢ c.number
  pub content : heard.content ≡ content_read (shape_in c) heard.post.content

with-parts : (c : Configuration) (post : Post) (header : Header) (heard : Heard) → heard_with c post header ≡ Some heard
    → (header.sender ≢ c.number) × (record { header = header; post = post; content = content_read (shape_in c) post.content } ≡ heard)
with-parts c post header heard e = elim (cases_Bool (header.sender == c.number)) [
  | inl own ↦ absurd (none-some heard (sym (cond-true (header.sender == c.number) None _ own) ∙ e))
  | inr other ↦ (
    λ same. (let equal = eq-eqb header.sender c.number same in let both = sym equal ∙ other in cc),
    some-is _ heard (sym (cond-false (header.sender == c.number) None _ other) ∙ e),
  )
]

pub heard-parts : (c : Configuration) (bytes : List ℕ) (heard : Heard) → IsBytes bytes → heard_of c bytes ≡ Some heard
    → IsHeard c bytes heard
unfolding heard_of
heard-parts c bytes heard are e =
    let framed = and-then-parts (heard_of_post c) (result_ok (frame_of bytes)) heard e in
    let admitted = and-then-parts (heard_with c framed.0) (result_ok (framed_admission_of c.roster c.round framed.0)) heard framed.2 in
    let with = with-parts c framed.0 admitted.0 heard admitted.2 in
    let frame : frame_of bytes ≡ Ok framed.0 = ok-of (frame_of bytes) framed.0 framed.1 in
    let fits = framed-found bytes framed.0 are frame in
    subst (IsHeard c bytes) with.1 (record {
      spelled = fits.1;
      admitted = admit-found c.roster c.round framed.0 admitted.0 fits.0 (framed-bytes bytes framed.0 are frame)
          (ok-of (framed_admission_of c.roster c.round framed.0) admitted.0 admitted.1);
      other = with.0;
      content = refl;
    })

-- it says what it is
pub heard-says : (c : Configuration) (bytes : List ℕ) (heard : Heard) → IsHeard c bytes heard
    → Says c.roster c.round bytes heard.post.content heard.header
heard-says c bytes heard is = record { signature = heard.post.signature; spelled = is.spelled; admitted = is.admitted }

spelled-most : (c : Configuration) (bytes : List ℕ) (heard : Heard) → IsHeard c bytes heard → length bytes < 2 ^ 32
spelled-most c bytes heard is =
    let most = is.admitted.frame.most in
    let few = posts_are_short c.roster c.round heard.post heard.header is.admitted in
    omega (arith, ap length is.spelled)

malformed-evidence : ℕ → ℕ → List ℕ → Transcript
malformed-evidence round member bytes = record { claim = Malformed; accused = member; round = round; detail = None; posts = bytes ∷ [] }

read-none : (r s : Result Content Offence) (content : Content) → is_ok r ≡ false → r ≡ s → s ≡ Ok content → ⊥
read-none r s content none same reads = (let found = ap is_ok (same ∙ reads) in let both = sym none ∙ found in cc)

malformed-accepted : (c : Configuration) (bytes : List ℕ) (t : Transcript) → IsConfiguration c → IsBytes bytes
    → IsMalformed c bytes (Convicts t)
    → IsAccepted c.roster t
unfolding malformed-evidence
malformed-accepted c bytes t is are malformed =
    let parts = heard-parts c bytes malformed.heard are malformed.is in
    let same : t ≡ malformed-evidence c.round malformed.heard.header.sender bytes = transcript-same t _ malformed.verdict_is in
    subst (IsAccepted c.roster) (sym same)
    (accept c.roster (malformed-evidence c.round malformed.heard.header.sender bytes)
    (record {
      accused = parts.admitted.member;
      round = is.enter.round;
      detail = tt;
      count = refl;
      posts =
          (spelled-most c bytes malformed.heard parts, tt);
    })
    (record {
      post = bytes;
      listed = refl;
      content = malformed.heard.post.content;
      header = malformed.heard.header;
      says = heard-says c bytes malformed.heard parts;
      sender = refl;
      outside = λ x grammar text. read-none malformed.heard.content (content_read (shape_in c) malformed.heard.post.content) x
          malformed.offends parts.content
          (ap (content_read (shape_in c)) text ∙ content-is_read (shape_in c) x grammar);
    }))

-- ---- two contents

unfoldable pub two-evidence : ℕ → ℕ → List ℕ → List ℕ → Transcript
two-evidence round member first second = record {
  claim = Equivocation;
  accused = member;
  round = round;
  detail = None;
  posts = first ∷
      second ∷ [];
}

-- two posts of one slot that say different contents are accepted
pub two-shown : (roster : Roster) (round : ℕ) (slot : Slot) (first second first_content second_content : List ℕ)
    (first_header second_header : Header) → round < 2 ^ 64
    → length first < 2 ^ 32 → length second < 2 ^ 32
    → Says roster round first first_content first_header → Says roster round second second_content second_header
    → slot_named first_header ≡ slot → slot_named second_header ≡ slot → first_content ≢ second_content
    → IsAccepted roster (two-evidence round slot.sender first second)
unfolding two-evidence
two-shown roster round slot first second first_content second_content first_header second_header small few more says other_says slot_is
    other_slot differ =
    accept roster (two-evidence round slot.sender first second)
    (record {
      accused = subst (λ (s : Slot). is_member (length roster.keys) s.sender ≡ true) slot_is says.admitted.member;
      round = small;
      detail = tt;
      count = refl;
      posts = (few, (more, tt));
    })
    (record {
      first = first;
      second = second;
      listed = refl;
      first_content = first_content;
      second_content = second_content;
      first_header = first_header;
      second_header = second_header;
      first_says = says;
      second_says = other_says;
      first_sender = ap (λ (s : Slot). s.sender) slot_is;
      second_sender = ap (λ (s : Slot). s.sender) other_slot;
      one_stage = ap (λ (s : Slot). s.stage) (other_slot ∙ sym slot_is);
      differ = differ;
    })

contradiction-accepted : (c : Configuration) (firsts : Others) (bytes : List ℕ) (t : Transcript) → IsConfiguration c → OthersCheck c firsts
    → IsBytes bytes
    → IsContradiction c firsts bytes (Convicts t) → IsAccepted c.roster t
unfolding two-evidence
contradiction-accepted c firsts bytes t is check are other =
    let parts = heard-parts c bytes other.heard are other.is in
    let checks = check (slot_named other.heard.header) other.first other.kept in
    let same : t ≡ two-evidence c.round (slot_named other.heard.header).sender (post_spelling other.first) bytes = transcript-same t _
    other.verdict_is in
    subst (IsAccepted c.roster) (sym same)
    (two-shown c.roster c.round (slot_named other.heard.header) (post_spelling other.first) bytes other.first.content
    other.heard.post.content
    checks.content.header other.heard.header is.enter.round
    (spelled-short c (slot_named other.heard.header) other.first (checks-read c (slot_named other.heard.header) other.first checks))
    (spelled-most c bytes other.heard parts)
    (file-says c (slot_named other.heard.header) other.first checks) (heard-says c bytes other.heard parts)
    checks.named refl other.differ)

pub fault_accepted : FaultAccepted
fault_accepted c firsts bytes t is check are e = elim (fault-cases c firsts bytes (Convicts t) e) [
  | inl malformed ↦ malformed-accepted c bytes t is are malformed
  | inr other ↦ contradiction-accepted c firsts bytes t is check are other
]
