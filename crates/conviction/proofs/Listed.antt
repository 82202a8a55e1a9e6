-- What a transcript lists is bytes, of the grammar where it reads, and among the contents whose strings count.
use Rattle.std.proofs.Common.{◌≡◌, ℕ, zero, suc, ◌<◌, List, [], ◌∷◌, ◌++◌, length, Option, Some, ap, refl, subst, arith, inl, inr}
use Rattle.std.specs.Prelude.{Contains, slice_index_or}
use Rattle.std.specs.Int.{w32, w64, to_be_bytes}
use Rattle.std.specs.List.{AllByRecursion, flat_map, slice_get}
use Rattle.std.specs.Result.{result_ok}
use Rattle.wire_core.specs.Bytes.{IsBytes}
use Rattle.wire_core.proofs.ByteLists.{IsBytes-back, IsBytes-front}
use Rattle.phase_message.specs.declared.content.Content.{Content}
use Rattle.phase_message.specs.declared.header.Header.{Header}
use Rattle.phase_message.specs.declared.post.Post.{Post}
use Rattle.phase_message.specs.Grammar.{OfGrammar, prefixed}
use Rattle.phase_message.specs.Offence.{content_read}
use Rattle.phase_message.specs.Shape.{IsShape}
use Rattle.phase_message.proofs.Whole.{content-is_spelled}
use Rattle.group_roster.specs.Roster.{Roster, shape_of_roster}
use Rattle.signed_post.specs.Admission.{IsPostFile, Says}
use Rattle.signed_post.specs.Frame.{frame_of}
use Rattle.transcript_form.specs.declared.accusation.Accusation.{Accusation}
use Rattle.transcript_form.specs.declared.claim.Claim.{Claim}
use Rattle.transcript_form.specs.declared.claim.Claim.TheVariants.{Equivocation, Malformed, WrongSeed, BadLog, Replay, Pad}
use Rattle.transcript_form.specs.declared.transcript.Transcript.{Transcript}
use Rattle.transcript_form.specs.Accusation.{accusation_spelling}
use Rattle.transcript_form.specs.Claim.{claim_number}
use Rattle.transcript_form.specs.Transcript.{HasDetail, IsTranscript, detail_spelling, head_spelling, transcript_magic, transcript_spelling}
use Rattle.transcript_form.proofs.Transcripts.{transcript-bytes, transcript_read-again}
use Rattle.ring_encrypt.specs.Opening.{IsMessage}
use Rattle.round_spec.specs.Premises.{contents_listed, contents_read, posts_listed, strings_of_evidence, strings_of_transcript, strings_read}
use Rattle.round_spec.proofs.Contained.{contains-cases, contains-filter_map-from, contains-here, contains-later, contains-nothing}
use Rattle.conviction.proofs.Posts.{says-frame}

-- ---- lists

-- what stands at a place is contained
pub place-listed : (posts : List (List ℕ)) (k : ℕ) → k < length posts → Contains posts (slice_index_or posts k [])
place-listed [] k lt = absurd (omega (arith, lt))
place-listed (x ∷ xs) zero lt = contains-here x xs
place-listed (x ∷ xs) (suc k) lt = contains-later x xs (slice_index_or xs k []) (place-listed xs k (omega (arith, lt)))

pub got-listed : (posts : List (List ℕ)) (k : ℕ) (x : List ℕ) → slice_get posts k ≡ Some x → Contains posts x
got-listed [] k x at = absurd cc
got-listed (y ∷ ys) zero x at = (let same : y ≡ x = cc in subst (Contains (y ∷ ys)) same (contains-here y ys))
got-listed (y ∷ ys) (suc k) x at = contains-later y ys x (got-listed ys k x at)

pub all-contained : {A : Type 0} (P : A → Type 0) (xs : List A) (y : A) → AllByRecursion P xs → Contains xs y → P y
all-contained P [] y all there = absurd (contains-nothing y there)
all-contained P (x ∷ xs) y all there = elim (contains-cases x xs y there) [
  | inl here ↦ subst P here all.0
  | inr later ↦ all-contained P xs y all.1 later
]

-- ---- bytes

pub listed-bytes : (t : Transcript) (bytes : List ℕ) → IsBytes (transcript_spelling t) → Contains t.posts bytes → IsBytes bytes
listed-bytes t bytes is listed = all-contained IsBytes t.posts bytes (transcript-bytes t is) listed

said-bytes : (roster : Roster) (round : ℕ) (bytes content : List ℕ) (header : Header) → IsBytes bytes
    → Says roster round bytes content header → IsBytes content
said-bytes roster round bytes content header is says =
    let spelled : IsBytes (to_be_bytes w32 (length content) ++ content ++ says.signature) = subst IsBytes says.spelled is in
    IsBytes-back (to_be_bytes w32 (length content)) content (IsBytes-front (to_be_bytes w32 (length content) ++ content) says.signature
    spelled)

-- a content that a file says is of the grammar
pub file-grammar : (roster : Roster) (round : ℕ) (bytes : List ℕ) (content : Content) → IsBytes bytes
    → IsPostFile roster round bytes content
    → OfGrammar (shape_of_roster roster) content
file-grammar roster round bytes content is file =
    (content-is_spelled (shape_of_roster roster) file.text content (said-bytes roster round bytes file.text content.header is file.says)
    file.reads).1

-- ---- the accusation

-- only the claim of a bad pad has an accusation, and its seed has 32 bytes
pub detail-is : (claim : Claim) (a : Accusation) → HasDetail claim (Some a) → (claim ≡ Pad) × (length a.seed ≡ 32)
detail-is Pad a has = (refl, has)
detail-is Equivocation a has = absurd has
detail-is Malformed a has = absurd has
detail-is WrongSeed a has = absurd has
detail-is BadLog a has = absurd has
detail-is Replay a has = absurd has

-- that seed is bytes
pub seed-message : (t : Transcript) (a : Accusation) → IsBytes (transcript_spelling t) → t.detail ≡ Some a → length a.seed ≡ 32
    → IsMessage a.seed
seed-message t a is detail long = record { length = long; bytes = seed }
  where
    head : IsBytes (head_spelling t)
    head = IsBytes-front (head_spelling t) (flat_map prefixed t.posts)
        (IsBytes-back transcript_magic (head_spelling t ++ flat_map prefixed t.posts) is)

    behind_round : List ℕ
    behind_round = detail_spelling t.detail ++ to_be_bytes w32 (length t.posts)

    behind_claim : IsBytes ((t.accused ∷ []) ++ (to_be_bytes w64 t.round ++ behind_round))
    behind_claim = IsBytes-back (claim_number t.claim ∷ []) ((t.accused ∷ []) ++ (to_be_bytes w64 t.round ++ behind_round)) head

    behind_accused : IsBytes (to_be_bytes w64 t.round ++ behind_round)
    behind_accused = IsBytes-back (t.accused ∷ []) (to_be_bytes w64 t.round ++ behind_round) behind_claim

    accusation : IsBytes (accusation_spelling a)
    accusation = subst (λ (o : Option Accusation). IsBytes (detail_spelling o)) detail
        (IsBytes-front (detail_spelling t.detail) (to_be_bytes w32 (length t.posts))
        (IsBytes-back (to_be_bytes w64 t.round) behind_round behind_accused))

    seed : IsBytes a.seed
    seed = IsBytes-back (a.slot ∷ a.member ∷ []) a.seed accusation

-- ---- contents and strings

-- a listed post that reads is among the contents that are listed
pub content-listed : (roster : Roster) (t : Transcript) (bytes : List ℕ) (content : Content) → Contains t.posts bytes
    → IsPostFile roster t.round bytes content
    → Contains (contents_listed roster t) content
unfolding contents_read
content-listed roster t bytes content listed file =
    contains-filter_map-from (λ (post : Post). result_ok (content_read (shape_of_roster roster) post.content)) (posts_listed t)
    (record { content = file.text; signature = file.says.signature }) content
    (contains-filter_map-from (λ bytes. result_ok (frame_of bytes)) t.posts bytes
    (record { content = file.text; signature = file.says.signature }) listed
    (ap result_ok (says-frame roster t.round bytes file.text content.header file.says)))
    (ap result_ok file.reads)

-- the strings of bytes that spell a transcript are those of the transcript
pub evidence-is : (roster : Roster) (t : Transcript) → IsShape (shape_of_roster roster).version (shape_of_roster roster).members
    → IsTranscript (shape_of_roster roster) t
    → strings_of_evidence roster (transcript_spelling t) ≡ strings_of_transcript roster t
unfolding strings_of_evidence
evidence-is roster t shape form = ap (strings_read roster) (transcript_read-again (shape_of_roster roster) t shape form)
