-- What a member of any fault says where it stands: bytes of its slot, not too long, and embedding nothing but its past.
use Rattle.std.proofs.Common.{◌≡◌, ◌≢◌, ◌⊎◌, ℕ, ◌≤◌, true, List, [], ◌∷◌, ◌++◌, Option, Some, None, length, ap, sym, ◌∙◌, refl, subst, arith, inl, inr}
use Rattle.std.specs.Prelude.{◌==◌, Contains, IsSome, Result, Ok, Err, option_and_then}
use Rattle.std.proofs.lemmas.Bool.{false≢true}
use Rattle.wire_core.specs.Bytes.{IsBytes}
use Rattle.wire_core.specs.declared.cursor.Short.{Short}
use Rattle.wire_core.proofs.ByteLists.{IsBytes-nil}
use Rattle.phase_message.specs.declared.content.Body.{Body}
use Rattle.phase_message.specs.declared.content.Body.TheVariants.{Reveal, Submit}
use Rattle.phase_message.specs.declared.content.Content.{Content}
use Rattle.phase_message.specs.declared.header.Header.{Header}
use Rattle.phase_message.specs.declared.offence.Offence.{Offence}
use Rattle.phase_message.specs.declared.post.Post.{Post}
use Rattle.phase_message.specs.declared.stage.Slot.{Slot}
use Rattle.phase_message.specs.declared.stage.StageKind.{StageKind}
use Rattle.phase_message.specs.declared.stage.StageKind.TheVariants.{Go as AtGo, Keys as AtKeys, Pad as AtPad, Shuffle as AtShuffle, Submit as AtSubmit}
use Rattle.phase_message.specs.Grammar.{HasWidths, IsHeader, OfGrammar, body_text, content_text, header_text, kind_number}
use Rattle.phase_message.specs.Header.{header_of}
use Rattle.phase_message.specs.Offence.{content_read}
use Rattle.phase_message.specs.Post.{post_spelling}
use Rattle.phase_message.specs.Shape.{Shape}
use Rattle.phase_message.specs.Stages.{kind_of_stage, vote_of}
use Rattle.phase_message.proofs.Whole.{begins-header_of, content-header, content-is_read, content-is_spelled}
use Rattle.stage_log.specs.Table.{Log, kept_in}
use Rattle.go_nogo.specs.Closing.{IsClosing, posts_embedded}
use Rattle.shuffle_blame.specs.Replay.{body_of, ciphertext_of}
use Rattle.round_spec.specs.Embedded.{slot_named}
use Rattle.round_spec.specs.OwnRows.{CanSay}
use Rattle.round_spec.specs.Runs.{AllGo, ReadsIn}
use Rattle.round_spec.specs.Say.{Configuration, content_with, shape_in}
use Rattle.round_spec.proofs.Contained.{contains-cases, contains-here, contains-later}
use Rattle.round_spec.proofs.OwnGrammar.{row_of_grammar}
use Rattle.round_spec.proofs.OwnItems.{is-member}
use Rattle.round_spec.proofs.PastForms.{said-there}
use Rattle.member_spec.specs.declared.conduct.Speech.{Speech}
use Rattle.member_spec.specs.declared.conduct.Speech.TheVariants.{Say, Wait, Silent as SaysNothing}
use Rattle.member_spec.specs.Replies.{HasSlot}
use Rattle.round_script.specs.declared.fault.Fault.{Fault}
use Rattle.round_script.specs.declared.fault.Fault.TheVariants.{BadVotes, CopySubmit, DropEntry, FalseAbort, FalseNogo, FalseView, FlipPad, Malformed, Silent, WrongSeed}
use Rattle.group_spec.specs.Alterations.{body_altered, ciphertext_in, is_altered_at, least_other, pads_altered, submission_kept, with_changed, with_last_bit_changed}
use Rattle.group_spec.specs.Faulty.{FaultyMember, faulty_speech, own_bytes, says_copy, speech_by, speech_if_read, speech_in_place}
use Rattle.group_spec.proofs.Made.{choose}
use Rattle.faulty_member.proofs.Changes.{length-bit}
use Rattle.faulty_member.proofs.Forms.{altered-is_body}
use Rattle.faulty_member.proofs.Lengths.{altered-long, text-long}
use Rattle.group_laws.proofs.Changes.{altered-bytes, pads-bytes, text-bytes, view-bytes}
use Rattle.group_laws.proofs.Rows.{IsOwn, not-closed, open-short, row-body, row-embeds, row-head, row-header, row-short}

-- ---- what is said

-- bytes are a known post as it is sent, but for the last bit
abbrev pub IsNearly : (Post → Type 0) → List ℕ → Type 0
IsNearly Known item = (post : Post) × Known post
    × ((item ≡ post_spelling post) ⊎ (item ≡ with_last_bit_changed (post_spelling post)))

-- a content that a member says at a stage
pub record IsGoodText (c : Configuration) (Known : Post → Type 0) (stage : ℕ) (text : List ℕ) : Type 0 where
  pub bytes : IsBytes text
  pub slot : HasSlot (record { stage = stage; sender = c.number }) text
  pub short : (x : Content) → content_read (shape_in c) text ≡ Ok x → length text ≤ 11539924
  pub embedded : (x : Content) (item : List ℕ) → content_read (shape_in c) text ≡ Ok x → IsClosing (shape_in c) x
      → Contains (posts_embedded x.body) item → IsNearly Known item

-- what it says about a content: it puts that off as it is
abbrev pub IsGoodSpeech : Configuration → (Post → Type 0) → ℕ → List ℕ → Speech → Type 0
IsGoodSpeech c Known stage asked (Say text) = IsGoodText c Known stage text
IsGoodSpeech c Known stage asked (Wait bytes) = bytes ≡ asked
IsGoodSpeech c Known stage asked SaysNothing = Unit {0}

-- ---- headers and contents

pub header-same : (a b : Header) (r : Result Header Short) → r ≡ Ok a → r ≡ Ok b → a ≡ b
header-same a b (Ok h) first second = cc
header-same a b (Err short) first second = absurd cc

pub content-same : (a b : Content) (r : Result Content Offence) → r ≡ Ok a → r ≡ Ok b → a ≡ b
content-same a b (Ok x) first second = cc
content-same a b (Err offence) first second = absurd cc

pub widths-of : (shape : Shape) (h : Header) → IsHeader shape h → HasWidths h
widths-of shape h is = record { group_long = is.group_long; round_small = is.round_small; view_long = is.view_long }

pub text-header : (h : Header) (body : Body) → HasWidths h → header_of (content_text (record { header = h; body = body })) ≡ Ok h
text-header h body widths = begins-header_of (content_text (record { header = h; body = body })) h
    (record { widths = widths; rest = (kind_number body ∷ []) ++ body_text body; spelled = refl })

text-slot : (slot : Slot) (h : Header) (body : Body) → HasWidths h → slot_named h ≡ slot
    → HasSlot slot (content_text (record { header = h; body = body }))
text-slot slot h body widths named = (h, text-header h body widths, named)

-- ---- at a stage that closes nothing

pub open-good : (c : Configuration) (Known : Post → Type 0) (stage : ℕ) (h : Header) (body : Body) (kind : StageKind)
    → 1 ≤ (shape_in c).members → (shape_in c).members ≤ 8 → HasWidths h
    → slot_named h ≡ record { stage = stage; sender = c.number } → IsBytes (header_text h) → IsBytes (body_text body)
    → kind_of_stage (shape_in c) stage ≡ Some kind → vote_of kind ≡ None
    → IsGoodText c Known stage (content_text (record { header = h; body = body }))
open-good c Known stage h body kind some few widths named head bytes at none = record {
  bytes = whole;
  slot = text-slot (record { stage = stage; sender = c.number }) h body widths named;
  short = λ x read.
      let spelled = content-is_spelled (shape_in c) text x whole read in
      subst (λ (t : List ℕ). length t ≤ 11539924) (sym spelled.0)
      (open-short (shape_in c) x kind some few spelled.1 (there x read) none);
  embedded = λ x item read closes within. absurd (not-closed (shape_in c) x.header.stage kind (there x read) none closes);
}
  where
    text : List ℕ
    text = content_text (record { header = h; body = body })

    whole : IsBytes (content_text (record { header = h; body = body }))
    whole = text-bytes h body head bytes

    there : (x : Content) → content_read (shape_in c) (content_text (record { header = h; body = body })) ≡ Ok x
        → kind_of_stage (shape_in c) x.header.stage ≡ Some kind
    there x read =
        let same = header-same x.header h (header_of (content_text (record { header = h; body = body })))
        (content-header (shape_in c) (content_text (record { header = h; body = body })) x read) (text-header h body widths) in
        ap (λ (y : Header). kind_of_stage (shape_in c) y.stage) same ∙ ap (λ (s : Slot). kind_of_stage (shape_in c) s.stage) named ∙ at

-- ---- kinds

keys-open : (o : Option StageKind) → is_altered_at Malformed o ≡ true → (kind : StageKind) × (o ≡ Some kind) × (vote_of kind ≡ None)
keys-open (Some AtKeys) is = (AtKeys, refl, refl)
keys-open _ is = absurd (false≢true is)

copy-open : (o : Option StageKind) → is_altered_at CopySubmit o ≡ true → (kind : StageKind) × (o ≡ Some kind) × (vote_of kind ≡ None)
copy-open (Some (AtSubmit shuffle)) is = (AtSubmit shuffle, refl, refl)
copy-open _ is = absurd (false≢true is)

view-open : (o : Option StageKind) → is_altered_at FalseView o ≡ true → (kind : StageKind) × (o ≡ Some kind) × (vote_of kind ≡ None)
view-open (Some (AtSubmit shuffle)) is = (AtSubmit shuffle, refl, refl)
view-open _ is = absurd (false≢true is)

drop-open : (o : Option StageKind) → is_altered_at DropEntry o ≡ true → (kind : StageKind) × (o ≡ Some kind) × (vote_of kind ≡ None)
drop-open (Some (AtShuffle shuffle k)) is = (AtShuffle shuffle k, refl, refl)
drop-open _ is = absurd (false≢true is)

abort-open : (o : Option StageKind) → is_altered_at FalseAbort o ≡ true → (kind : StageKind) × (o ≡ Some kind) × (vote_of kind ≡ None)
abort-open (Some (AtShuffle shuffle k)) is = (AtShuffle shuffle k, refl, refl)
abort-open _ is = absurd (false≢true is)

nogo-open : (o : Option StageKind) → is_altered_at FalseNogo o ≡ true → (kind : StageKind) × (o ≡ Some kind) × (vote_of kind ≡ None)
nogo-open (Some (AtGo shuffle)) is = (AtGo shuffle, refl, refl)
nogo-open _ is = absurd (false≢true is)

pad-open : (o : Option StageKind) → is_altered_at FlipPad o ≡ true → (kind : StageKind) × (o ≡ Some kind) × (vote_of kind ≡ None)
pad-open (Some AtPad) is = (AtPad, refl, refl)
pad-open _ is = absurd (false≢true is)

-- ---- embedded posts of which the first is changed

first-changed : (items : List (List ℕ)) (item : List ℕ) → Contains (with_changed with_last_bit_changed 0 items) item
    → Contains items item ⊎ ((old : List ℕ) × Contains items old × (item ≡ with_last_bit_changed old))
unfolding with_changed
first-changed [] item there = inl there
first-changed (x ∷ items) item there = elim (contains-cases (with_last_bit_changed x) items item there) [
  | inl here ↦ inr (x, contains-here x items, sym here)
  | inr later ↦ inl (contains-later x items item later)
]

-- what an altered body embeds
abbrev EmbedsNearly : Body → Body → Type 0
EmbedsNearly body other = (item : List ℕ) → Contains (posts_embedded other) item
    → Contains (posts_embedded body) item ⊎ ((old : List ℕ) × Contains (posts_embedded body) old × (item ≡ with_last_bit_changed old))

seed-embeds : (body : Body) → EmbedsNearly body (body_altered WrongSeed body)
seed-embeds (Reveal votes seed) = λ item there. inl there
seed-embeds _ = λ item there. inl there

votes-embed : (body : Body) → EmbedsNearly body (body_altered BadVotes body)
votes-embed (Reveal votes seed) = first-changed votes
votes-embed _ = λ item there. inl there

-- ---- a submission of another

ciphertext-bytes : (body : Body) → IsBytes (body_text body) → IsBytes (ciphertext_of body)
ciphertext-bytes (Submit ciphertext) is = is
ciphertext-bytes _ is = IsBytes-nil

-- ---- where a member stands

module _ (c : Configuration) (Known : Post → Type 0) (own : List ℕ) (stage : ℕ) (past : List Post) (log : Log) (can : CanSay c stage past)
    (goes : AllGo c past stage) (item : IsOwn c own) (known : (post : Post) → Contains past post → Known post)
    (shape : log.shape ≡ shape_in c) (reads : (slot : Slot) (post : Post) → kept_in log slot ≡ Some post → ReadsIn c slot post) where
  content : Content
  content = content_with c own past stage

  some : 1 ≤ (shape_in c).members
  some = (let two = (is-member c stage past can).least in omega (arith, two))

  grammar : OfGrammar (shape_in c) (content_with c own past stage)
  grammar = row_of_grammar c own stage past can item.long item.bytes

  named : slot_named (content_with c own past stage).header ≡ record { stage = stage; sender = c.number }
  named = ap slot_named (row-header c own stage past)

  stage-is : (content_with c own past stage).header.stage ≡ stage
  stage-is = ap (λ (h : Header). h.stage) (row-header c own stage past)

  head : IsBytes (header_text (content_with c own past stage).header)
  head = subst (λ (h : Header). IsBytes (header_text h)) (sym (row-header c own stage past)) (row-head c stage past can)

  body : IsBytes (body_text (content_with c own past stage).body)
  body = row-body c own stage past can item

  widths : HasWidths (content_with c own past stage).header
  widths = widths-of (shape_in c) (content_with c own past stage).header grammar.0

  read-asked : content_read (shape_in c) (content_text (content_with c own past stage)) ≡ Ok (content_with c own past stage)
  read-asked = content-is_read (shape_in c) (content_with c own past stage) grammar

  embeds : (x : List ℕ) → IsSome (option_and_then vote_of (kind_of_stage (shape_in c) stage))
      → Contains (posts_embedded (content_with c own past stage).body) x → (post : Post) × Known post × (x ≡ post_spelling post)
  embeds x closes within =
      let found = row-embeds c own stage past x can closes within in
      (found.0, known found.0 found.1, found.2)

  -- a closing content is of this stage
  closes-here : (x : Content) → x ≡ content_with c own past stage → IsClosing (shape_in c) x
      → IsSome (option_and_then vote_of (kind_of_stage (shape_in c) stage))
  closes-here x same is = subst (λ (s : ℕ). IsSome (option_and_then vote_of (kind_of_stage (shape_in c) s)))
      (ap (λ (y : Content). y.header.stage) same ∙ stage-is) is

  asked-good : IsGoodText c Known stage (content_text (content_with c own past stage))
  asked-good = record {
    bytes = text-bytes (content_with c own past stage).header (content_with c own past stage).body head body;
    slot = text-slot (record { stage = stage; sender = c.number }) (content_with c own past stage).header
        (content_with c own past stage).body widths named;
    short = λ x read. row-short c own stage past can goes item;
    embedded = λ x part read closes within.
        let same = content-same x (content_with c own past stage)
        (content_read (shape_in c) (content_text (content_with c own past stage))) read read-asked in
        let found = embeds part (closes-here x same closes) (subst (λ (y : Content). Contains (posts_embedded y.body) part) same within) in
        (found.0, found.1, inl found.2);
  }

  -- at a stage that closes nothing, with any body of bytes
  other-body : (other : Body) → IsBytes (body_text other)
      → ((kind : StageKind) × (kind_of_stage (shape_in c) (content_with c own past stage).header.stage ≡ Some kind) × (vote_of kind ≡ None))
      → IsGoodText c Known stage (content_text (record { header = (content_with c own past stage).header; body = other }))
  other-body other bytes kind = open-good c Known stage (content_with c own past stage).header other kind.0 some
      (is-member c stage past can).most widths named head bytes (sym (ap (kind_of_stage (shape_in c)) stage-is) ∙ kind.1) kind.2

  -- at the end of a shuffle
  final-good : (fault : Fault) → fault ≢ Malformed
      → is_altered_at fault (kind_of_stage (shape_in c) (content_with c own past stage).header.stage) ≡ true
      → EmbedsNearly (content_with c own past stage).body (body_altered fault (content_with c own past stage).body)
      → IsGoodText c Known stage (content_text (record {
        header = (content_with c own past stage).header;
        body = body_altered fault (content_with c own past stage).body;
      }))
  final-good fault not at near =
      let h : Header = (content_with c own past stage).header in
      let old : Body = (content_with c own past stage).body in
      let other : Body = body_altered fault old in
      let form = altered-is_body fault (shape_in c) h.stage old not at grammar.1 in
      let longer = altered-long fault (shape_in c) h.stage old not at grammar.1 in
      let most = row-short c own stage past can goes item in
      let text = text-long h old other longer in
      let read : content_read (shape_in c) (content_text (record { header = h; body = other })) ≡ Ok (record { header = h; body = other })
      = content-is_read (shape_in c) (record { header = h; body = other }) (grammar.0, form) in
      record {
        bytes = text-bytes h other head (altered-bytes fault old body);
        slot = text-slot (record { stage = stage; sender = c.number }) h other widths named;
        short = λ x is. omega (arith, text, most);
        embedded = λ x part is closes within.
            let same = content-same x (record { header = h; body = other })
            (content_read (shape_in c) (content_text (record { header = h; body = other }))) is read in
            let here : IsSome (option_and_then vote_of (kind_of_stage (shape_in c) stage))
            = subst (λ (s : ℕ). IsSome (option_and_then vote_of (kind_of_stage (shape_in c) s)))
            (ap (λ (y : Content). y.header.stage) same ∙ stage-is) closes in
            nearly part here (near part (subst (λ (y : Content). Contains (posts_embedded y.body) part) same within));
      }
    where
      nearly : (part : List ℕ) → IsSome (option_and_then vote_of (kind_of_stage (shape_in c) stage))
          → Contains (posts_embedded (content_with c own past stage).body) part
          ⊎ ((old : List ℕ) × Contains (posts_embedded (content_with c own past stage).body) old × (part ≡ with_last_bit_changed old))
          → IsNearly Known part
      nearly part here (inl same) = (let found = embeds part here same in (found.0, found.1, inl found.2))
      nearly part here (inr changed) =
          let found = embeds changed.0 here changed.1 in
          (found.0, found.1, inr (changed.2 ∙ ap with_last_bit_changed found.2))

  copy-good : (o : Option Post) (slot : Slot) → kept_in log slot ≡ o
      → is_altered_at CopySubmit (kind_of_stage (shape_in c) (content_with c own past stage).header.stage) ≡ true
      → IsGoodSpeech c Known stage (content_text (content_with c own past stage))
      (says_copy log.shape (content_text (content_with c own past stage)) (content_with c own past stage) o)
  copy-good None slot kept at = refl
  copy-good (Some post) slot kept at =
      let said = said-there c slot post (reads slot post kept) in
      let bytes : IsBytes (ciphertext_in log.shape post)
      = subst (λ (s : Shape). IsBytes (ciphertext_in s post)) (sym shape)
      (subst (λ (r : Result Content Offence). IsBytes (ciphertext_of (body_of r))) (sym said.reads)
      (ciphertext-bytes said.content.body said.body_bytes)) in
      other-body (Submit (ciphertext_in log.shape post)) bytes
      (copy-open (kind_of_stage (shape_in c) (content_with c own past stage).header.stage) at)

  view-good : is_altered_at FalseView (kind_of_stage (shape_in c) (content_with c own past stage).header.stage) ≡ true
      → IsGoodText c Known stage (content_text (record {
        header = record (content_with c own past stage).header { view = with_last_bit_changed (content_with c own past stage).header.view };
        body = (content_with c own past stage).body;
      }))
  view-good at =
      let h : Header = (content_with c own past stage).header in
      let kind = view-open (kind_of_stage (shape_in c) h.stage) at in
      open-good c Known stage (record h { view = with_last_bit_changed h.view }) (content_with c own past stage).body kind.0 some
      (is-member c stage past can).most
      (record {
        group_long = widths.group_long;
        round_small = widths.round_small;
        view_long = length-bit _ h.view ∙ widths.view_long;
      })
      named (view-bytes h head) body (sym (ap (kind_of_stage (shape_in c)) stage-is) ∙ kind.1) kind.2

  -- what it says in place of its content
  place-good : (faulty : FaultyMember) (fault : Fault)
      → is_altered_at fault (kind_of_stage (shape_in c) (content_with c own past stage).header.stage) ≡ true
      → IsGoodSpeech c Known stage (content_text (content_with c own past stage))
      (speech_in_place faulty fault (content_text (content_with c own past stage)) log (content_with c own past stage))
  place-good faulty CopySubmit at = copy-good (submission_kept log (least_other faulty.member))
      (record { stage = 1; sender = least_other faulty.member }) refl at
  place-good faulty FalseView at = view-good at
  place-good faulty FlipPad at = other-body (pads_altered log (own_bytes faulty) (content_with c own past stage).body)
      (pads-bytes log (own_bytes faulty) (content_with c own past stage).body body)
      (pad-open (kind_of_stage (shape_in c) (content_with c own past stage).header.stage) at)
  place-good faulty Malformed at = other-body (body_altered Malformed (content_with c own past stage).body)
      (altered-bytes Malformed (content_with c own past stage).body body)
      (keys-open (kind_of_stage (shape_in c) (content_with c own past stage).header.stage) at)
  place-good faulty DropEntry at = other-body (body_altered DropEntry (content_with c own past stage).body)
      (altered-bytes DropEntry (content_with c own past stage).body body)
      (drop-open (kind_of_stage (shape_in c) (content_with c own past stage).header.stage) at)
  place-good faulty FalseAbort at = other-body (body_altered FalseAbort (content_with c own past stage).body)
      (altered-bytes FalseAbort (content_with c own past stage).body body)
      (abort-open (kind_of_stage (shape_in c) (content_with c own past stage).header.stage) at)
  place-good faulty FalseNogo at = other-body (body_altered FalseNogo (content_with c own past stage).body)
      (altered-bytes FalseNogo (content_with c own past stage).body body)
      (nogo-open (kind_of_stage (shape_in c) (content_with c own past stage).header.stage) at)
  place-good faulty WrongSeed at = final-good WrongSeed (λ e. cc) at (seed-embeds (content_with c own past stage).body)
  place-good faulty BadVotes at = final-good BadVotes (λ e. cc) at (votes-embed (content_with c own past stage).body)
  place-good faulty _ at = absurd (false≢true at)

  read-good : (faulty : FaultyMember) → IsGoodSpeech c Known stage (content_text (content_with c own past stage))
      (speech_if_read faulty (content_text (content_with c own past stage)) log (Ok (content_with c own past stage)))
  read-good faulty =
      choose (λ (s : Speech). IsGoodSpeech c Known stage (content_text (content_with c own past stage)) s)
      (is_altered_at faulty.fault (kind_of_stage log.shape (content_with c own past stage).header.stage))
      (speech_in_place faulty faulty.fault (content_text (content_with c own past stage)) log (content_with c own past stage))
      (Say (content_text (content_with c own past stage)))
      (λ at. place-good faulty faulty.fault (sym (ap (λ (s : Shape). is_altered_at faulty.fault
      (kind_of_stage s (content_with c own past stage).header.stage)) shape) ∙ at))
      (λ _. asked-good)

  by-good : (faulty : FaultyMember) (fault : Fault) → IsGoodSpeech c Known stage (content_text (content_with c own past stage))
      (speech_by faulty fault stage (content_text (content_with c own past stage)) log)
  by-good faulty Silent =
      choose (λ (s : Speech). IsGoodSpeech c Known stage (content_text (content_with c own past stage)) s) (stage == 0)
      (Say (content_text (content_with c own past stage))) SaysNothing (λ _. asked-good) (λ _. tt)
  by-good faulty _ =
      subst (λ (r : Result Content Offence). IsGoodSpeech c Known stage (content_text (content_with c own past stage))
      (speech_if_read faulty (content_text (content_with c own past stage)) log r))
      (sym (ap (λ (s : Shape). content_read s (content_text (content_with c own past stage))) shape ∙ read-asked)) (read-good faulty)

  -- whatever its fault is
  pub speech-good : (faulty : FaultyMember) → IsGoodSpeech c Known stage (content_text (content_with c own past stage))
      (faulty_speech faulty stage (content_text (content_with c own past stage)) log)
  unfolding faulty_speech
  speech-good faulty = by-good faulty faulty.fault
