-- The closing posts of all members convict whom the replay of what they embed blames.
use Rattle.std.proofs.Math.ListN.{get_or-map}
use Rattle.std.proofs.Common.{arith, refl, Err, List, None, Ok, Option, Result, Some, ap, false, length, slice_get, slice_index_or, subst, sym, take, ◌≡◌, ◌∙◌, ◌<◌, ◌≤◌, ◌+◌, ◌-◌, ◌^◌, [], ℕ}
use Rattle.phase_message.specs.declared.stage.StageKind.TheVariants.{Keys as AtKeys, Submit as AtSubmit, Shuffle as AtShuffle, Go as AtGo, Final as AtFinal, Pad as AtPad, Check as AtCheck, Confirm as AtConfirm}
use Rattle.phase_message.specs.declared.content.Body.TheVariants.{Abort}
use Rattle.transcript_form.specs.declared.claim.Claim.TheVariants.{Replay}
use Rattle.round_spec.specs.Verdict.{ClosedStage, closing_body, closing_content, inquiry_into, no_post, past_at, sent_in, shape_at, shown_at, shown_in}
use Rattle.accountability.specs.Evidence.{AcceptedFor, IsAccepted, IsKeptEnd}
use Rattle.round_spec.specs.Cases.{AreFaithful, IsMemberOf, IsReplay, agree_before}
use Rattle.phase_message.specs.declared.content.Content.{Content}
use Rattle.signed_post.specs.Admission.{IsPostFile}
use Rattle.conviction.specs.Accepts.{Objects, inquiry_by, parts_shown, post_listed}
use Rattle.phase_message.specs.declared.offence.Offence.{Offence}
use Rattle.phase_message.specs.declared.post.Post.{Post}
use Rattle.round_spec.specs.Runs.{Run}
use Rattle.phase_message.specs.Shape.{Shape}
use Rattle.shuffle_blame.specs.declared.fault.Shown.{Shown}
use Rattle.phase_message.specs.declared.stage.StageKind.{StageKind}
use Rattle.transcript_form.specs.declared.transcript.Transcript.{Transcript}
use Rattle.accountability.proofs.Kept.{accept, content-is, content-sender, content-stage, file-of, kept-end, member-is, sent-in, spelled-few, transcript-same}
use Rattle.round_spec.proofs.SealedBytes.{all-from}
use Rattle.shuffle_blame.specs.Replay.{body_of, culprit_of}
use Rattle.conviction.proofs.Replays.{by-member}
use Rattle.round_spec.specs.Slots.{by_member, said_in}
use Rattle.round_spec.specs.Course.{closing_of}
use Rattle.std.proofs.lemmas.Bool.{cond-false}
use Rattle.phase_message.specs.Offence.{content_read, offence}
use Rattle.stage_log.specs.Log.{contents_of}
use Rattle.shuffle_blame.proofs.Blamed.{culprit-one}
use Rattle.round_spec.proofs.Verdicts.{faithful}
use Rattle.std.proofs.lemmas.List.{length-map}
use Rattle.std.proofs.lemmas.Option.{get_or_from_slice_get, slice_get_within}
use Rattle.go_nogo.specs.Closing.{is_assent}
use Rattle.phase_message.specs.Stages.{kind_of_stage}
use Rattle.std.proofs.lemmas.List.FromFn.{length-range_with_len}
use Rattle.phase_message.specs.Post.{post_spelling}
use Rattle.std.specs.List.{range_with_len}
use Rattle.round_spec.specs.Say.{shape_in}
use Rattle.phase_message.specs.Slots.{slot_number, slots_before}

-- ---- what was said

-- what was read, or a content that says nothing
content-read : Result Content Offence → Content
content-read (Ok content) = content
content-read (Err offence) = record {
  header = record { version = 0; group = []; round = 0; stage = 0; sender = 0; view = [] };
  body = Abort;
}

read-body : (r : Result Content Offence) → (content-read r).body ≡ body_of r
unfolding content-read
read-body (Ok content) = refl
read-body (Err offence) = refl

-- by member, at a closing stage
said-by : ClosedStage → ℕ → Content
said-by v member = content-read (closing_content v member)

said-body : (v : ClosedStage) (member : ℕ) → (said-by v member).body ≡ closing_body v member
unfolding said-by said_in
said-body v member =
    read-body (closing_content v member)
    ∙ ap (λ (bytes : List ℕ). body_of (content_read (shape_at v) bytes))
    (sym (get_or-map (λ (post : Post). post.content) v.posts (slot_number (shape_at v) v.stage member) no_post))

said-reads : (v : ClosedStage) (member : ℕ) (content : Content) → closing_content v member ≡ Ok content → said-by v member ≡ content
unfolding said-by content-read
said-reads v member content e = ap content-read e

-- ---- what is replayed

same-shown : (f g : ℕ → Shown) → ((member : ℕ) → f member ≡ g member) → f ≡ g
same-shown f g each = λ i member. each member i

parts-same : (v : ClosedStage) (o : Option StageKind) → parts_shown (shape_at v) o (said-by v) ≡ shown_at v o
parts-same v (Some (AtFinal shuffle)) =
    ap (λ (f : ℕ → Shown). by_member (shape_at v) f)
    (same-shown (λ member. shown_in (said-by v member).body) (λ member. shown_in (closing_body v member))
    (λ member. ap shown_in (said-body v member)))
parts-same v None = refl
parts-same v (Some AtKeys) = refl
parts-same v (Some (AtSubmit shuffle)) = refl
parts-same v (Some (AtShuffle shuffle k)) = refl
parts-same v (Some (AtGo shuffle)) = refl
parts-same v (Some AtPad) = refl
parts-same v (Some AtCheck) = refl
parts-same v (Some AtConfirm) = refl

-- the contents before the stage
abbrev past-replayed : ClosedStage → List (List ℕ)
past-replayed v = take (slots_before (shape_at v) v.stage) (past_at v)

inquiry-same : (v : ClosedStage) → inquiry_by (shape_at v) v.round v.stage (past-replayed v) (said-by v) ≡ inquiry_into v
inquiry-same v =
    ap (λ (shown : List Shown). record { shape = shape_at v; past = past-replayed v; stage = v.stage; round = v.round; shown = shown })
    (parts-same v (kind_of_stage (shape_at v) v.stage))

-- ---- the evidence

replay-evidence : (run : Run) → ℕ → List Post → ℕ → Transcript
replay-evidence run stage posts accused = record {
  claim = Replay;
  accused = accused;
  round = run.config.round;
  detail = None;
  posts = by_member (shape_in run.config) (sent_in (closing_of run.config posts stage) stage);
}

post-of_member : (shape : Shape) (f : ℕ → List ℕ) (member : ℕ) → 1 ≤ member → member ≤ shape.members
    → slice_index_or (by_member shape f) (member - 1) [] ≡ f member
post-of_member shape f member least most =
    get_or_from_slice_get (by_member shape f) (member - 1) (f member) [] (by-member f shape.members member least most)

objects : (run : Run) (stage accused member : ℕ) (posts : List Post) → IsKeptEnd run stage posts
    → AreFaithful (closing_of run.config posts stage)
    → agree_before (closing_of run.config posts stage) ≡ false → IsMemberOf (closing_of run.config posts stage) member
    → Objects run.config.roster run.config.round stage (past-replayed (closing_of run.config posts stage)) member
    (post_listed (replay-evidence run stage posts accused) member) (said-by (closing_of run.config posts stage) member)
unfolding replay-evidence
objects run stage accused member posts end faithful disagree is =
    let c = run.config in
    let v : ClosedStage = closing_of run.config posts stage in
    let f = faithful member is in
    let k = kept-end run stage member posts end is in
    let content_is : k.checks.content ≡ f.content = content-is run stage member posts f.content k f.reads in
    let said_is : k.checks.content ≡ said-by (closing_of run.config posts stage) member = content_is
    ∙ sym (said-reads v member f.content f.reads) in
    let bytes_are : post_spelling k.post ≡ post_listed (replay-evidence run stage posts accused) member =
    sym (post-of_member (shape_in c) (sent_in v stage) member is.least is.most ∙ sent-in run posts stage stage member k) in
    let objects_there : is_assent f.content.body ≡ false = f.assents ∙ disagree in
    let stage_is : f.content.header.stage ≡ stage = ap (λ (x : Content). x.header.stage) (sym content_is)
    ∙ content-stage run posts stage member k in
    let past : List (List ℕ) = past_at v in
    let contents : contents_of f.posts ≡ past-replayed (closing_of run.config posts stage) =
    f.contents ∙ cond-false (is_assent f.content.body) _ (take (slots_before (shape_in c) f.content.header.stage) (past_at v)) objects_there
    ∙ ap (λ (s : ℕ). take (slots_before (shape_in c) s) (past_at v)) stage_is in
    subst (λ (x : Content). Objects c.roster c.round stage (past-replayed v) member
    (post_listed (replay-evidence run stage posts accused) member) x) said_is
    (subst (λ (bytes : List ℕ). Objects c.roster c.round stage (past-replayed v) member bytes k.checks.content) bytes_are
    (subst (λ (x : Content). IsPostFile c.roster c.round (post_spelling k.post) x → x.header.sender ≡ member
    → Objects c.roster c.round stage (past-replayed v) member (post_spelling k.post) x) (sym content_is)
    (λ file sender. record {
      file = file;
      sender = sender;
      at = stage_is;
      dissents = f.dissents disagree;
      justified = f.justified;
      posts = f.posts;
      embeds = f.embeds;
      contents = contents;
    })
    (file-of c (record { stage = stage; sender = member }) k.post k.checks) (content-sender run posts stage member k)))

some-bytes : (a b : List ℕ) → (let told : List ℕ → Option (List ℕ) = λ z. Some z in told a ≡ told b) → a ≡ b
some-bytes a b e = cc

-- each of the posts is short
sent-few : (run : Run) (stage place : ℕ) (posts : List Post) (bytes : List ℕ) → IsKeptEnd run stage posts
    → place < (shape_in run.config).members
    → slice_get (by_member (shape_in run.config) (sent_in (closing_of run.config posts stage) stage)) place ≡ Some bytes
    → length bytes < 2 ^ 32
sent-few run stage place posts bytes end lt e =
    let v : ClosedStage = closing_of run.config posts stage in
    let is : IsMemberOf (closing_of run.config posts stage) (place + 1) = record { least = omega arith; most = omega (arith, lt) } in
    let k = kept-end run stage (place + 1) posts end is in
    let at = by-member (sent_in v stage) (shape_in run.config).members (place + 1) is.least is.most in
    let place_is : place + 1 - 1 ≡ place = omega arith in
    let same : bytes ≡ post_spelling k.post =
    some-bytes bytes _ (sym e ∙ sym (ap (slice_get (by_member (shape_in run.config) (sent_in v stage))) place_is) ∙ at)
    ∙ sent-in run posts stage stage (place + 1) k in
    subst (λ (x : List ℕ). length x < 2 ^ 32) (sym same) (spelled-few run posts stage (place + 1) k)

pub members-listed : (run : Run) (stage : ℕ) (posts : List Post)
    → length (by_member (shape_in run.config) (sent_in (closing_of run.config posts stage) stage)) ≡ (shape_in run.config).members
members-listed run stage posts =
    length-map (range_with_len 1 (shape_in run.config).members) (sent_in (closing_of run.config posts stage) stage)
    ∙ length-range_with_len 1 (shape_in run.config).members

pub replay_accepted : AcceptedFor IsReplay
unfolding replay-evidence
replay_accepted run stage posts t end is =
    let c = run.config in
    let v : ClosedStage = closing_of run.config posts stage in
    let one = culprit-one (inquiry_into v) is.fault is.culprit in
    let same : t ≡ replay-evidence run stage posts is.fault.member = transcript-same t _ is.verdict_is in
    subst (IsAccepted c.roster) (sym same)
    (accept c.roster (replay-evidence run stage posts is.fault.member)
    (record {
      accused = member-is run stage is.fault.member posts (record { least = one.0; most = one.1 });
      round = end.honest.config.enter.round;
      detail = tt;
      count = members-listed run stage posts;
      posts = all-from (λ (bytes : List ℕ). length bytes < 2 ^ 32) (by_member (shape_in c) (sent_in v stage))
          (λ place bytes at. sent-few run stage place posts bytes end
          (let within = slice_get_within (by_member (shape_in c) (sent_in v stage)) place bytes at in omega
          (arith, within, members-listed run stage posts)) at);
    })
    (record {
      count = members-listed run stage posts;
      stage = stage;
      closing = end.closing;
      past = past-replayed v;
      said = said-by v;
      object = λ member least most. objects run stage is.fault.member member posts end is.faithful is.votes
          (record { least = least; most = most });
      fault = is.fault;
      blames = ap culprit_of (inquiry-same v) ∙ is.culprit;
      accused = refl;
    }))
