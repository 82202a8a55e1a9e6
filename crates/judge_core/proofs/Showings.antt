-- What a closing post that dissents shows.
use Rattle.std.proofs.Common.{◌≡◌, ℕ, true, false, List, [], ◌∷◌, ◌++◌, length, map, take, replicate, Option, Some, None, Result, Ok, refl, sym, ap, subst, ◌∙◌, arith}
use Rattle.std.specs.Prelude.{◌-◌, ◌+◌, IsSome, option_to_list, option_and_then}
use Rattle.std.proofs.Math.Seq.{take-append_seam}
use Rattle.std.proofs.lemmas.List.{length-map}
use Rattle.phase_message.specs.declared.content.Body.{Body}
use Rattle.phase_message.specs.declared.content.Body.TheVariants.{Keys, Submit, Shuffled, Abort, Go, Reveal, Dispute, Pads, Check, Confirm, Differ}
use Rattle.phase_message.specs.declared.content.Content.{Content}
use Rattle.phase_message.specs.declared.header.Header.{Header}
use Rattle.phase_message.specs.declared.offence.Offence.{Offence}
use Rattle.phase_message.specs.declared.post.Post.{Post}
use Rattle.phase_message.specs.declared.stage.StageKind.{StageKind}
use Rattle.phase_message.specs.declared.stage.StageKind.TheVariants.{Keys as AtKeys, Submit as AtSubmit, Shuffle as AtShuffle, Go as AtGo, Final as AtFinal, Pad as AtPad, Check as AtCheck, Confirm as AtConfirm}
use Rattle.phase_message.specs.Closing.{IsClosingBody}
use Rattle.phase_message.specs.Grammar.{OfGrammar}
use Rattle.phase_message.specs.Header.{header_of}
use Rattle.phase_message.specs.Shape.{Shape}
use Rattle.phase_message.specs.Slots.{slot_count, slots_before}
use Rattle.phase_message.specs.Stages.{kind_of_stage, vote_of}
use Rattle.phase_message.proofs.Read.{closings_are_read}
use Rattle.phase_message.proofs.Whole.{content-header}
use Rattle.group_roster.specs.Roster.{Roster, shape_of_roster}
use Rattle.wire_core.specs.declared.cursor.Short.{Short}
use Rattle.stage_log.specs.Log.{all_some, before}
use Rattle.stage_log.specs.Table.{Log}
use Rattle.stage_log.proofs.Pasts.{all_some-map}
use Rattle.go_nogo.specs.Closing.{IsClosing, is_assent}
use Rattle.shuffle_blame.specs.declared.fault.Shown.{Shown}
use Rattle.shuffle_blame.specs.Replay.{body_of}
use Rattle.round_spec.specs.Embedded.{is_content_justified, posts_in_content}
use Rattle.round_spec.specs.Verdict.{is_dissent, shown_in}
use Rattle.judge_core.specs.Case.{Case, Said, read_of, shape_in}
use Rattle.judge_core.specs.Closing.{IsClosingPost, contents_embedded, contents_found, is_read_justified, shown_by}
use Rattle.embedded_log.specs.Embedding.{KeepsEmbedded, places_of}
use Rattle.judge_core.specs.Replay.{parts_shown, shown_of}
use Rattle.judge_core.specs.Showing.{Dissents, IsObjection, IsShown, KeepsPast}
use Rattle.embedded_log.proofs.EmbeddedLogs.{Spans, closing_kind, spans}

-- a body that dissents does not assent
pub dissent-objects : (body : Body) → is_dissent body ≡ true → is_assent body ≡ false
dissent-objects (Dispute posts seed opening) e = refl
dissent-objects (Differ posts) e = refl
dissent-objects (Keys keys) e = refl
dissent-objects (Submit ciphertext) e = refl
dissent-objects (Shuffled list) e = refl
dissent-objects Abort e = refl
dissent-objects (Go vote) e = refl
dissent-objects (Pads pads) e = refl
dissent-objects (Check vote) e = refl
dissent-objects (Reveal votes seed) e = absurd cc
dissent-objects (Confirm votes) e = absurd cc

-- what was read dissents
pub read-dissents : (read : Result Content Offence) (content : Content) → read ≡ Ok content → Dissents read → is_dissent content.body ≡ true
read-dissents read content e dissents = subst Dissents e dissents

-- the log that it embeds keeps its past
pub keeps-past : (roster : Roster) (round : ℕ) (content : Content) (log : Log) → KeepsEmbedded roster round content log
    → Spans (shape_of_roster roster) content
    → is_assent content.body ≡ false
    → KeepsPast (shape_of_roster roster) content.header.stage (contents_found (posts_in_content roster round content)) log
keeps-past roster round content log k span objects =
    let shape : Shape = shape_of_roster roster in
    let whole = span.objects objects in
    record {
      posts = k.posts;
      contents = sym (ap contents_found k.found);
      long = k.long ∙ span.posts_long ∙ whole.0;
      keeps = k.keeps ∙ ap (λ (first : ℕ). log_with shape (places_of first (slot_count shape) k.posts)) whole.1;
    }
  where
    log_with : Shape → List (Option Post) → Log
    log_with shape places = record { shape = shape; posts = places }

-- ---- its part of the outer layers

-- what a body shows in a stage of a kind
abbrev part_in : StageKind → Shown → List Shown
part_in (AtFinal shuffle) shown = shown ∷ []
part_in kind shown = []

part-of_body : (shape : Shape) (stage : ℕ) (kind : StageKind) (body : Body) → IsClosingBody shape stage kind body → is_dissent body ≡ true
    → option_to_list (shown_by body) ≡ part_in kind (shown_in body)
part-of_body shape stage (AtFinal shuffle) (Dispute posts seed opening) is e = refl
part-of_body shape stage (AtFinal shuffle) (Differ posts) is e = absurd is
part-of_body shape stage (AtFinal shuffle) (Keys keys) is e = absurd cc
part-of_body shape stage (AtFinal shuffle) (Submit ciphertext) is e = absurd cc
part-of_body shape stage (AtFinal shuffle) (Shuffled list) is e = absurd cc
part-of_body shape stage (AtFinal shuffle) Abort is e = absurd cc
part-of_body shape stage (AtFinal shuffle) (Go vote) is e = absurd cc
part-of_body shape stage (AtFinal shuffle) (Pads pads) is e = absurd cc
part-of_body shape stage (AtFinal shuffle) (Check vote) is e = absurd cc
part-of_body shape stage (AtFinal shuffle) (Reveal votes seed) is e = absurd cc
part-of_body shape stage (AtFinal shuffle) (Confirm votes) is e = absurd cc
part-of_body shape stage AtConfirm (Differ posts) is e = refl
part-of_body shape stage AtConfirm (Dispute posts seed opening) is e = absurd is
part-of_body shape stage AtConfirm (Keys keys) is e = absurd cc
part-of_body shape stage AtConfirm (Submit ciphertext) is e = absurd cc
part-of_body shape stage AtConfirm (Shuffled list) is e = absurd cc
part-of_body shape stage AtConfirm Abort is e = absurd cc
part-of_body shape stage AtConfirm (Go vote) is e = absurd cc
part-of_body shape stage AtConfirm (Pads pads) is e = absurd cc
part-of_body shape stage AtConfirm (Check vote) is e = absurd cc
part-of_body shape stage AtConfirm (Reveal votes seed) is e = absurd cc
part-of_body shape stage AtConfirm (Confirm votes) is e = absurd cc
part-of_body shape stage AtKeys body is e = absurd is
part-of_body shape stage (AtSubmit shuffle) body is e = absurd is
part-of_body shape stage (AtShuffle shuffle k) body is e = absurd is
part-of_body shape stage (AtGo shuffle) body is e = absurd is
part-of_body shape stage AtPad body is e = absurd is
part-of_body shape stage AtCheck body is e = absurd is

part-shown : (case : Case) (kind : StageKind) (said : Said) → parts_shown case (Some kind) (said ∷ []) ≡ part_in kind (shown_of case said)
part-shown case (AtFinal shuffle) said = refl
part-shown case AtConfirm said = refl
part-shown case AtKeys said = refl
part-shown case (AtSubmit shuffle) said = refl
part-shown case (AtShuffle shuffle k) said = refl
part-shown case (AtGo shuffle) said = refl
part-shown case AtPad said = refl
part-shown case AtCheck said = refl

-- a post that dissents shows what its body shows, if it shows anything
pub part-told : (case : Case) (said : Said) (content : Content) → read_of case said ≡ Ok content → content.header.stage ≡ said.header.stage
    → IsSome (option_and_then vote_of (kind_of_stage (shape_in case) said.header.stage)) → is_dissent content.body ≡ true
    → option_to_list (shown_by content.body) ≡ parts_shown case (kind_of_stage (shape_in case) said.header.stage) (said ∷ [])
part-told case said content read at closing dissents =
    let shape : Shape = shape_in case in
    let kind = closing_kind (kind_of_stage shape said.header.stage) closing in
    let body = closings_are_read shape said.content content kind.0 kind.1 read (ap (λ (stage : ℕ). kind_of_stage shape stage) at ∙ kind.2)
    kind.3 in
    part-of_body shape content.header.stage kind.0 content.body body dissents
    ∙ ap (λ (r : Result Content Offence). part_in kind.0 (shown_in (body_of r))) (sym read)
    ∙ sym (part-shown case kind.0 said)
    ∙ ap (λ (o : Option StageKind). parts_shown case o (said ∷ [])) (sym kind.2)

-- ---- what a post shows

abbrev header_ok : Header → Result Header Short
header_ok header = Ok header

same_header : (a b : Header) → header_ok a ≡ header_ok b → a ≡ b
same_header a b e = cc

-- what is read has the header that was heard
pub read-header : (case : Case) (said : Said) (content : Content) → header_of said.content ≡ Ok said.header → read_of case said ≡ Ok content
    → said.header ≡ content.header
read-header case said content header read = same_header said.header content.header
    (sym header ∙ content-header (shape_in case) said.content content read)

-- and is a closing content
pub closing-content : (case : Case) (said : Said) (content : Content) → IsClosingPost case said → read_of case said ≡ Ok content
    → IsClosing (shape_in case) content
closing-content case said content post read =
    subst (λ (h : Header). IsSome (option_and_then vote_of (kind_of_stage (shape_in case) h.stage)))
    (read-header case said content post.header read) post.closing

-- where a log justifies what a post that dissents says, it shows this log
pub shown-is : (case : Case) (stage : ℕ) (said : Said) (content : Content) (log : Log) (shown : Option Shown) → IsObjection case stage said
    → read_of case said ≡ Ok content → OfGrammar (shape_in case) content
    → KeepsEmbedded case.roster case.round content log → true ≡ is_content_justified case.roster case.round content
    → shown ≡ shown_by content.body
    → IsShown case said (record { stage = said.header.stage; log = log; shown = shown })
shown-is case stage said content log shown o read grammar keeps justified told =
    let shape : Shape = shape_in case in
    let header : said.header ≡ content.header = read-header case said content o.post.header read in
    let dissents : is_dissent content.body ≡ true = read-dissents (read_of case said) content read o.dissents in
    let span = spans shape content grammar (closing-content case said content o.post read) in
    let past : KeepsPast shape content.header.stage (contents_found (posts_in_content case.roster case.round content)) log = keeps-past
    case.roster case.round content log keeps span (dissent-objects content.body dissents) in
    record {
      justified = ap (is_read_justified case.roster case.round) read ∙ sym justified;
      stage = refl;
      keeps = subst (λ (r : Result Content Offence). KeepsPast shape said.header.stage (contents_embedded case.roster case.round r) log)
          (sym read)
          (subst (λ (h : Header). KeepsPast shape h.stage (contents_found (posts_in_content case.roster case.round content)) log)
          (sym header) past);
      told = ap (λ (o : Option Shown). option_to_list o) told
          ∙ part-told case said content read (ap (λ (h : Header). h.stage) (sym header)) o.post.closing dissents;
    }

-- ---- what is before its stage

abbrev some_post : Post → Option Post
some_post post = Some post

abbrev none_post : Option Post
none_post = None

pub before-past : (shape : Shape) (stage : ℕ) (past : List (List ℕ)) (log : Log) (k : KeepsPast shape stage past log)
    → before log stage ≡ Some k.posts
before-past shape stage past log k =
    let rest : List (Option Post) = replicate (slot_count shape - (0 + length k.posts)) none_post in
    let long : slots_before shape stage ≡ length (map some_post k.posts) = omega (arith, length-map k.posts some_post, k.long) in
    ap (λ (l : Log). before l stage) k.keeps
    ∙ ap (λ (n : ℕ). all_some (take n (map some_post k.posts ++ rest))) long
    ∙ ap all_some (take-append_seam (map some_post k.posts) rest)
    ∙ all_some-map k.posts
