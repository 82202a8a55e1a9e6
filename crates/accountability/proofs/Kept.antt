-- What an honest run kept to the end of a closing stage: in each slot a post that checks, which is a post file.
use Rattle.std.proofs.Common.{arith, refl, ap, sym, rules, List, None, Ok, Option, Result, Some, false, length, slice_get, slice_index_or, subst, true, ◌≡◌, ◌∙◌, ◌<◌, ◌≤◌, ◌+◌, ◌^◌, [], ℕ}
use Rattle.phase_message.specs.declared.stage.StageKind.TheVariants.{Keys as AtKeys, Submit as AtSubmit, Shuffle as AtShuffle, Go as AtGo, Final as AtFinal, Pad as AtPad, Check as AtCheck, Confirm as AtConfirm}
use Rattle.round_spec.specs.Verdict.{Convicts, closing_content, is_closing, no_post, post_in, sent_in}
use Rattle.conviction.proofs.Closings.{IsPast, is-past}
use Rattle.signed_post.specs.Admission.{Admitted, IsPostFile, Says}
use Rattle.round_spec.specs.Runs.{ChecksIn, Run}
use Rattle.round_spec.proofs.AgreedClosings.{ClosingKind, confirm-closes, final-closes}
use Rattle.round_spec.specs.Say.{Configuration, shape_in}
use Rattle.phase_message.specs.declared.content.Content.{Content}
use Rattle.phase_message.specs.declared.header.Header.{Header}
use Rattle.accountability.specs.Evidence.{IsAccepted, IsKeptEnd}
use Rattle.round_spec.specs.Cases.{IsMemberOf, IsWhole}
use Rattle.transcript_form.specs.Transcript.{IsTranscript}
use Rattle.phase_message.specs.declared.offence.Offence.{Offence}
use Rattle.phase_message.specs.declared.post.Post.{Post}
use Rattle.group_roster.specs.Roster.{Roster, shape_of_roster}
use Rattle.phase_message.specs.Shape.{Shape}
use Rattle.wire_core.specs.declared.cursor.Short.{Short}
use Rattle.phase_message.specs.declared.stage.Slot.{Slot}
use Rattle.phase_message.specs.declared.stage.StageKind.{StageKind}
use Rattle.transcript_form.specs.declared.transcript.Transcript.{Transcript}
use Rattle.shuffle_blame.specs.Replay.{body_of}
use Rattle.conviction.proofs.Pasts.{checks-admitted, there}
use Rattle.round_spec.proofs.Rows.{checks-parts}
use Rattle.round_spec.specs.Course.{closing_of}
use Rattle.phase_message.proofs.Whole.{content-header}
use Rattle.phase_message.specs.Offence.{content_read}
use Rattle.stage_log.specs.Log.{contents_of}
use Rattle.std.proofs.lemmas.Option.{get_or_from_slice_get, slice_get-map}
use Rattle.phase_message.specs.Header.{header_of}
use Rattle.phase_message.specs.Stages.{is_member, is_slot, kind_of_stage, speaks, vote_of}
use Rattle.std.specs.Prelude.{is_some, option_and_then, option_map}
use Rattle.phase_message.specs.Post.{post_spelling}
use Rattle.round_spec.specs.Slots.{said_in}
use Rattle.phase_message.proofs.SlotLists.{slot_at-number, slot_number-within, slots_before-rises}
use Rattle.phase_message.specs.Slots.{slot_number, slots_before}
use Rattle.round_spec.proofs.PastForms.{checks-read, spelled-short, said-there}
use Rattle.conviction.specs.Accepts.{Convicts as Shows}
use Rattle.phase_message.specs.Grammar.{IsBody, OfGrammar, body_text}
use Rattle.phase_message.specs.Kinds.{IsBodyAt}
use Rattle.wire_core.specs.Bytes.{IsBytes}
use Rattle.phase_message.proofs.BodyKinds.{bodies_are_of_kinds}

header-same : (a b : Header) (r : Result Header Short) → r ≡ Ok a → r ≡ Ok b → a ≡ b
header-same a b r e e' = let both = sym e ∙ e' in cc

-- ---- post files

-- what checks is admitted with the header of its content
pub checks-header : (c : Configuration) (slot : Slot) (post : Post) (is : ChecksIn c slot post)
    → Admitted c.roster c.round post is.content.header
checks-header c slot post is =
    let admitted = checks-admitted c slot post is in
    let parts = checks-parts c.roster c.round post is.content is.checks in
    let same = header-same admitted.0 is.content.header (header_of post.content) admitted.1.reads
    (content-header (shape_of_roster c.roster) post.content is.content parts.2) in
    subst (Admitted c.roster c.round post) same admitted.1

-- so it says its content
pub file-says : (c : Configuration) (slot : Slot) (post : Post) (is : ChecksIn c slot post)
    → Says c.roster c.round (post_spelling post) post.content is.content.header
file-says c slot post is = record { signature = post.signature; spelled = refl; admitted = checks-header c slot post is }

-- and is a post file
pub file-of : (c : Configuration) (slot : Slot) (post : Post) (is : ChecksIn c slot post)
    → IsPostFile c.roster c.round (post_spelling post) is.content
file-of c slot post is = record {
  text = post.content;
  says = file-says c slot post is;
  reads = (checks-parts c.roster c.round post is.content is.checks).2;
}

-- ---- slots of the past

-- the post of a slot
pub record KeptIn (run : Run) (posts : List Post) (stage member : ℕ) : Type 0 where
  pub post : Post
  pub at : slice_get posts (slot_number (shape_in run.config) stage member) ≡ Some post
  pub checks : ChecksIn run.config (record { stage = stage; sender = member }) post

pub kept-in : (run : Run) (later stage member : ℕ) (posts : List Post) → IsPast run later posts
    → is_slot (shape_in run.config) stage member ≡ true
    → stage < later → KeptIn run posts stage member
kept-in run later stage member posts is speaks lt =
    let shape = shape_in run.config in
    let number : ℕ = slot_number shape stage member in
    let long = is.long in
    let within = (slot_number-within shape stage member speaks).1 in
    let found = there posts number (omega (arith, long, within, slots_before-rises shape (stage + 1) later (omega arith))) in
    record {
      post = found.0;
      at = found.1;
      checks = is.checks number (record { stage = stage; sender = member }) found.0 (slot_at-number shape stage member speaks) found.1;
    }

-- what it says
abbrev pub content-in : (run : Run) (posts : List Post) (stage member : ℕ) → KeptIn run posts stage member → Content
content-in run posts stage member k = k.checks.content

pub content-reads : (run : Run) (posts : List Post) (stage member : ℕ) (k : KeptIn run posts stage member)
    → content_read (shape_in run.config) k.post.content ≡ Ok k.checks.content
content-reads run posts stage member k = (checks-parts run.config.roster run.config.round k.post k.checks.content k.checks.checks).2

pub content-sender : (run : Run) (posts : List Post) (stage member : ℕ) (k : KeptIn run posts stage member)
    → k.checks.content.header.sender ≡ member
content-sender run posts stage member k = ap (λ (s : Slot). s.sender) k.checks.named

pub content-stage : (run : Run) (posts : List Post) (stage member : ℕ) (k : KeptIn run posts stage member)
    → k.checks.content.header.stage ≡ stage
content-stage run posts stage member k = ap (λ (s : Slot). s.stage) k.checks.named

-- in the words of a closed stage
pub post-in : (run : Run) (posts : List Post) (end stage member : ℕ) (k : KeptIn run posts stage member)
    → post_in (closing_of run.config posts end) stage member ≡ k.post
post-in run posts end stage member k = get_or_from_slice_get posts (slot_number (shape_in run.config) stage member) k.post no_post k.at

pub said-in : (run : Run) (posts : List Post) (stage member : ℕ) (k : KeptIn run posts stage member)
    → said_in (shape_in run.config) (contents_of posts) stage member ≡ k.checks.content.body
unfolding said_in
said-in run posts stage member k =
    let number : ℕ = slot_number (shape_in run.config) stage member in
    let text : slice_index_or (contents_of posts) number [] ≡ k.post.content =
    get_or_from_slice_get (contents_of posts) number k.post.content []
    (slice_get-map (λ (p : Post). p.content) posts number ∙ ap (option_map (λ (p : Post). p.content)) k.at) in
    ap (λ (bytes : List ℕ). body_of (content_read (shape_in run.config) bytes)) text ∙ ap body_of (content-reads run posts stage member k)

pub closing-reads : (run : Run) (posts : List Post) (stage member : ℕ) (k : KeptIn run posts stage member)
    → closing_content (closing_of run.config posts stage) member ≡ Ok k.checks.content
closing-reads run posts stage member k =
    ap (λ (p : Post). content_read (shape_in run.config) p.content) (post-in run posts stage stage member k)
    ∙ content-reads run posts stage member k

pub sent-in : (run : Run) (posts : List Post) (end stage member : ℕ) (k : KeptIn run posts stage member)
    → sent_in (closing_of run.config posts end) stage member ≡ post_spelling k.post
sent-in run posts end stage member k = ap post_spelling (post-in run posts end stage member k)

pub spelled-few : (run : Run) (posts : List Post) (stage member : ℕ) (k : KeptIn run posts stage member)
    → length (post_spelling k.post) < 2 ^ 32
spelled-few run posts stage member k = spelled-short run.config (record { stage = stage; sender = member }) k.post
    (checks-read run.config (record { stage = stage; sender = member }) k.post k.checks)

-- ---- the end of a closing stage

pub closing-kind : (shape : Shape) (stage : ℕ) → is_closing shape stage ≡ true → ClosingKind shape stage
closing-kind shape stage closing = by_kind (kind_of_stage shape stage) refl
  where
    never : (o : Option StageKind) → kind_of_stage shape stage ≡ o → is_some (option_and_then vote_of o) ≡ false → ClosingKind shape stage
    never o e none = absurd (let both = sym none ∙ sym (ap (λ (x : Option StageKind). is_some (option_and_then vote_of x)) e)
        ∙ closing in cc)

    by_kind : (o : Option StageKind) → kind_of_stage shape stage ≡ o → ClosingKind shape stage
    by_kind (Some (AtFinal shuffle)) e = final-closes shape stage shuffle e
    by_kind (Some AtConfirm) e = confirm-closes shape stage e
    by_kind None e = never None e refl
    by_kind (Some AtKeys) e = never (Some AtKeys) e refl
    by_kind (Some (AtSubmit shuffle)) e = never (Some (AtSubmit shuffle)) e refl
    by_kind (Some (AtShuffle shuffle k)) e = never (Some (AtShuffle shuffle k)) e refl
    by_kind (Some (AtGo shuffle)) e = never (Some (AtGo shuffle)) e refl
    by_kind (Some AtPad) e = never (Some AtPad) e refl
    by_kind (Some AtCheck) e = never (Some AtCheck) e refl

pub end-past : (run : Run) (stage : ℕ) (posts : List Post) → IsKeptEnd run stage posts → IsPast run (stage + 1) posts
end-past run stage posts end = is-past run (stage + 1) posts end.honest end.kept

-- the post of a member at the end
pub kept-end : (run : Run) (stage member : ℕ) (posts : List Post) → IsKeptEnd run stage posts
    → IsMemberOf (closing_of run.config posts stage) member
    → KeptIn run posts stage member
kept-end run stage member posts end is =
    let kind = closing-kind (shape_in run.config) stage end.closing in
    kept-in run (stage + 1) stage member posts (end-past run stage posts end) (kind.all_close member is.least is.most) (omega arith)

pub member-there : (n member : ℕ) → 1 ≤ member → member ≤ n → is_member n member ≡ true
member-there n member least most = search rules

pub member-is : (run : Run) (stage member : ℕ) (posts : List Post) → IsMemberOf (closing_of run.config posts stage) member
    → is_member (shape_in run.config).members member ≡ true
member-is run stage member posts is = member-there (shape_in run.config).members member is.least is.most

pub contents-same : (a b : Content) (r : Result Content Offence) → r ≡ Ok a → r ≡ Ok b → a ≡ b
contents-same a b r e e' = let both = sym e ∙ e' in cc

pub whole-end : (run : Run) (stage : ℕ) (posts : List Post) → IsKeptEnd run stage posts → IsWhole (closing_of run.config posts stage)
whole-end run stage posts end =
    let is = end-past run stage posts end in
    let least = end.honest.config.enter.roster.least in
    record {
      members = omega arith;
      closing = end.closing;
      posts = is.long;
      named = λ member content one reads. (
          let k = kept-end run stage member posts end one in
          let same = contents-same content k.checks.content (closing_content (closing_of run.config posts stage) member) reads
          (closing-reads run posts stage member k) in
          ap (λ (x : Content). x.header.stage) same ∙ content-stage run posts stage member k);
    }

-- ---- transcripts

pub transcript-same : (x y : Transcript) → Convicts x ≡ Convicts y → x ≡ y
transcript-same x y e = cc

-- a transcript with its own claim is accepted where it is what the claim asks
pub accept : (roster : Roster) (t : Transcript) → IsTranscript (shape_of_roster roster) t → Shows roster t t.claim → IsAccepted roster t
accept roster t form shows = record {
  form = form;
  accepts = record { transcript = t; form = form; spelled = refl; accused_is = refl; claim_is = refl; convicts = shows };
}

-- ---- what a kept content is

-- it is of the grammar
pub content-grammar : (run : Run) (posts : List Post) (stage member : ℕ) (k : KeptIn run posts stage member)
    → OfGrammar (shape_in run.config) k.checks.content
content-grammar run posts stage member k =
    let said = said-there run.config (record { stage = stage; sender = member }) k.post
    (checks-read run.config (record { stage = stage; sender = member }) k.post k.checks) in
    subst (OfGrammar (shape_in run.config))
    (contents-same said.content k.checks.content (content_read (shape_in run.config) k.post.content) said.reads
    (content-reads run posts stage member k)) said.grammar

pub body-at : (run : Run) (posts : List Post) (stage member : ℕ) (k : KeptIn run posts stage member)
    → IsBody (shape_in run.config) stage k.checks.content.body
body-at run posts stage member k =
    subst (λ (s : ℕ). IsBody (shape_in run.config) s k.checks.content.body) (content-stage run posts stage member k)
    (content-grammar run posts stage member k).1

-- by the kind of its stage
pub body-of_kind : (run : Run) (posts : List Post) (stage member : ℕ) (kind : StageKind) (k : KeptIn run posts stage member)
    → kind_of_stage (shape_in run.config) stage ≡ Some kind
    → IsBodyAt (shape_in run.config) (slots_before (shape_in run.config) stage) kind k.checks.content.body
body-of_kind run posts stage member kind k at =
    (bodies_are_of_kinds (shape_in run.config) stage kind k.checks.content.body at).0 (body-at run posts stage member k)

-- and its body is bytes
pub body-bytes : (run : Run) (posts : List Post) (stage member : ℕ) (k : KeptIn run posts stage member)
    → IsBytes (body_text k.checks.content.body)
body-bytes run posts stage member k =
    let said = said-there run.config (record { stage = stage; sender = member }) k.post
    (checks-read run.config (record { stage = stage; sender = member }) k.post k.checks) in
    subst (λ (c : Content). IsBytes (body_text c.body))
    (contents-same said.content k.checks.content (content_read (shape_in run.config) k.post.content) said.reads
    (content-reads run posts stage member k)) said.body_bytes

-- what was read at the closing stage is the content that is kept there
pub content-is : (run : Run) (stage member : ℕ) (posts : List Post) (content : Content) (k : KeptIn run posts stage member)
    → closing_content (closing_of run.config posts stage) member ≡ Ok content → k.checks.content ≡ content
content-is run stage member posts content k reads =
    contents-same k.checks.content content (closing_content (closing_of run.config posts stage) member)
    (closing-reads run posts stage member k) reads
