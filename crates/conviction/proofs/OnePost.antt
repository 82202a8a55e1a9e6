-- A wrong seed and a bad log are not shown of the members of honest runs.
use Rattle.std.proofs.Common.{◌≡◌, ℕ, ◌-◌, Bool, true, false, List, [], ◌∷◌, map, Option, Some, ap, sym, ◌∙◌, refl, subst, arith, inl, inr}
use Rattle.std.specs.Prelude.{◌==◌, Contains, IsSome, option_and_then, slice_index_or}
use Rattle.std.specs.List.{AllByRecursion, range_with_len}
use Rattle.std.proofs.lemmas.Bool.{cases_Bool, cond-true, cond-false}
use Rattle.ring_encrypt.specs.Capsule.{key_of_seed}
use Rattle.ring_encrypt.specs.PublicKey.{IsPublicKey}
use Rattle.phase_message.specs.declared.content.Body.TheVariants.{Keys, Reveal, Dispute}
use Rattle.phase_message.specs.declared.content.Content.{Content}
use Rattle.phase_message.specs.declared.header.Header.{Header}
use Rattle.phase_message.specs.declared.post.Post.{Post}
use Rattle.phase_message.specs.declared.stage.StageKind.{StageKind}
use Rattle.phase_message.specs.declared.stage.StageKind.TheVariants.{Keys as AtKeys, Final}
use Rattle.phase_message.specs.Body.{body_form, form_of}
use Rattle.phase_message.specs.Grammar.{IsBody}
use Rattle.phase_message.specs.Offence.{content_read}
use Rattle.phase_message.specs.Shape.{Shape}
use Rattle.phase_message.specs.Slots.{slots_before}
use Rattle.phase_message.specs.Stages.{kind_of_stage, vote_of}
use Rattle.group_roster.specs.Roster.{Roster}
use Rattle.signed_post.specs.Admission.{IsPostFile, Says}
use Rattle.stage_log.specs.Log.{contents_of}
use Rattle.transcript_form.specs.declared.transcript.Transcript.{Transcript}
use Rattle.go_nogo.specs.Rows.{final_row, posts_at, written}
use Rattle.go_nogo.specs.Votes.{votes_agree}
use Rattle.round_spec.specs.Slots.{inner_place}
use Rattle.round_spec.specs.Embedded.{is_content_justified}
use Rattle.round_spec.specs.Say.{Configuration, keys_row, own_body_if, own_descriptor, own_key_seed, shape_in}
use Rattle.round_spec.specs.Rows.{IsOwnRow}
use Rattle.round_spec.specs.Runs.{AreHonest, Run, SaidBy}
use Rattle.ring_encrypt.proofs.KeyLemmas.{key_is_public_key}
use Rattle.round_spec.proofs.Rows.{own_row}
use Rattle.conviction.specs.Accepts.{RevealsWrongSeed, ShowsBadLog, inner_key}
use Rattle.conviction.specs.Framing.{AllSent, NotShown, OneRun}
use Rattle.conviction.proofs.Posts.{listed-in, run-honest, run-roster, the_run}
use Rattle.conviction.proofs.Bodies.{body_due, contents-same, row-header, row-is, row-reads}
use Rattle.conviction.proofs.Closings.{final-is, own-closing}

-- ---- the run of the accused

-- a post of the accused is listed
pub record HasOwnPost (roster : Roster) (t : Transcript) : Type 0 where
  pub bytes : List ℕ
  pub content : List ℕ
  pub header : Header
  pub listed : Contains t.posts bytes
  pub says : Says roster t.round bytes content header
  pub sender : header.sender ≡ t.accused

-- what lists a post of the accused is of one run
pub one-run : (roster : Roster) (runs : List Run) (t : Transcript) → AreHonest roster runs → SaidBy roster runs t.accused t.round t.posts
    → HasOwnPost roster t
    → (run : Run) × Contains runs run × (run.config.roster ≡ roster) × OneRun t run
one-run roster runs t honest said p =
    let found = the_run roster runs t.accused t.round t.posts p.bytes p.content p.header honest said p.listed p.says p.sender in
    let is = run-roster roster runs found.0 honest found.1.listed in (
      found.0,
      found.1.listed,
      is,
      record {
        honest = run-honest roster runs found.0 honest found.1.listed;
        number = found.1.number;
        round = found.1.round;
        sent_all = subst (λ (r : Roster). AllSent r t.round t.posts t.accused found.0) (sym is) found.2;
      },
    )

by-run : (shows : Roster → Transcript → Type 0) → ((roster : Roster) (t : Transcript) → shows roster t → HasOwnPost roster t)
    → ((run : Run) (t : Transcript) → OneRun t run → shows run.config.roster t → ⊥) → NotShown shows
by-run shows post refute roster runs t honest said e =
    let one = one-run roster runs t honest said (post roster t e) in
    refute one.0 t one.3 (subst (λ (r : Roster). shows r t) (sym one.2) e)

-- a listed content of the accused is a row of the run
pub record IsRowOf (run : Run) (content : Content) : Type 0 where
  pub text : List ℕ
  pub row : IsOwnRow run text
  pub reads : row.read ≡ content
  pub at : content.header.stage ≡ row.stage

pub file-row : (run : Run) (t : Transcript) (bytes : List ℕ) (content : Content) → OneRun t run
    → IsPostFile run.config.roster t.round bytes content
    → Contains t.posts bytes → content.header.sender ≡ t.accused
    → IsRowOf run content
file-row run t bytes content one file listed sender =
    let row = own_row run file.text one.honest (one.sent_all bytes file.text content.header listed file.says sender) in
    let reads = contents-same row.read content (content_read (shape_in run.config) file.text) (row-reads run file.text row) file.reads in
    record {
      text = file.text;
      row = row;
      reads = reads;
      at = ap (λ (c : Content). c.header.stage) (sym reads) ∙ ap (λ (h : Header). h.stage) (row-header run file.text row);
    }

-- ---- the own keys

abbrev pub own_keys : Configuration → List (List ℕ)
own_keys c = map (λ place. key_of_seed (own_key_seed c place)) (range_with_len 0 5)

all-map : (P : List ℕ → Type 0) (f : ℕ → List ℕ) (ns : List ℕ) → ((n : ℕ) → P (f n)) → AllByRecursion P (map f ns)
all-map P f [] each = tt
all-map P f (n ∷ ns) each = (each n, all-map P f ns each)

keys-body : (shape : Shape) (stage : ℕ) (c : Configuration) → kind_of_stage shape stage ≡ Some AtKeys → IsBody shape stage (keys_row c)
unfolding keys_row body_form
keys-body shape stage c kind = (
  _,
  ap (λ (o : Option StageKind). form_of shape (slots_before shape stage) o 1) kind,
  (
    all-map IsPublicKey (λ place. key_of_seed (own_key_seed c place)) (range_with_len 0 5)
        (λ place. key_is_public_key (own_key_seed c place)),
    refl,
  ),
)

pub keys-are : (run : Run) (content : List ℕ) (row : IsOwnRow run content) → kind_of_stage (shape_in run.config) row.stage ≡ Some AtKeys
    → row.read.body ≡ Keys (own_keys run.config)
unfolding keys_row
keys-are run content row kind =
    let due : body_due run content row ≡ keys_row run.config =
    ap (own_body_if run.config (own_descriptor run.config (contents_of row.past)) row.past row.stage) kind in
    ap (λ (c : Content). c.body) (row-is run content row (subst (IsBody (shape_in run.config) row.stage) (sym due)
    (keys-body (shape_in run.config) row.stage run.config kind)))
    ∙ due

-- the keys by their places
pub inner-key : (c : Configuration) (shuffle : ℕ) → inner_key shuffle (own_keys c) ≡ key_of_seed (own_key_seed c (inner_place shuffle))
inner-key c shuffle = elim (cases_Bool (shuffle == 1)) [
  | inl first ↦
      let place : inner_place shuffle ≡ 0 = cond-true (shuffle == 1) 0 3 first in
      ap (λ (p : ℕ). slice_index_or (own_keys c) p []) place ∙ sym (ap (λ (p : ℕ). key_of_seed (own_key_seed c p)) place)
  | inr second ↦
      let place : inner_place shuffle ≡ 3 = cond-false (shuffle == 1) 0 3 second in
      ap (λ (p : ℕ). slice_index_or (own_keys c) p []) place ∙ sym (ap (λ (p : ℕ). key_of_seed (own_key_seed c p)) place)
]

-- ---- WrongSeed

keys-same : (xs ys : List (List ℕ)) → Keys xs ≡ Keys ys → xs ≡ ys
keys-same xs ys e = cc

-- what is revealed at the end of a shuffle is the seed of the row
seed-told : (shape : Shape) (posts : List Post) (stage : ℕ) (votes : List (List ℕ)) (seed inner outer opening : List ℕ)
    → Reveal votes seed ≡ final_row shape posts stage inner outer opening → seed ≡ inner
unfolding final_row
seed-told shape posts stage votes seed inner outer opening e =
    let agree : Bool = votes_agree shape (contents_of posts) stage in
    let shown : List (List ℕ) = written (posts_at shape posts (stage - 1)) in
    elim (cases_Bool (votes_agree shape (contents_of posts) stage)) [
      | inl agrees ↦ revealed votes shown seed inner (e ∙ cond-true agree (Reveal shown inner) (Dispute (written posts) outer opening)
          agrees)
      | inr differs ↦
          absurd (disputed votes (written posts) seed outer opening
          (e ∙ cond-false agree (Reveal shown inner) (Dispute (written posts) outer opening) differs))
    ]
  where
    revealed : (v w : List (List ℕ)) (s i : List ℕ) → Reveal v s ≡ Reveal w i → s ≡ i
    revealed v w s i e = cc

    disputed : (v w : List (List ℕ)) (s o p : List ℕ) → Reveal v s ≡ Dispute w o p → ⊥
    disputed v w s o p e = absurd cc

frame-seed : (run : Run) (t : Transcript) → OneRun t run → RevealsWrongSeed run.config.roster t → ⊥
frame-seed run t one e =
    let c = run.config in
    let keys =
    file-row run t e.keys_post (record { header = e.keys_header; body = Keys e.keys }) one e.keys_are
    (listed-in t.posts (e.keys_post ∷ e.final_post ∷ []) e.keys_post e.listed (0, omega arith, refl)) e.keys_sender in
    let final =
    file-row run t e.final_post (record { header = e.final_header; body = Reveal e.votes e.seed }) one e.final_is
    (listed-in t.posts (e.keys_post ∷ e.final_post ∷ []) e.final_post e.listed (1, omega arith, refl)) e.final_sender in
    let keys_kind : kind_of_stage (shape_in c) keys.row.stage ≡ Some AtKeys = ap (kind_of_stage (shape_in c)) (sym keys.at)
    ∙ e.keys_stage in
    let final_kind : kind_of_stage (shape_in c) final.row.stage ≡ Some (Final e.shuffle) = ap (kind_of_stage (shape_in c)) (sym final.at)
    ∙ e.final_stage in
    let own : e.keys ≡ own_keys c = keys-same e.keys (own_keys c)
    (ap (λ (x : Content). x.body) (sym keys.reads) ∙ keys-are run keys.text keys.row keys_kind) in
    let seed : e.seed ≡ own_key_seed c (inner_place e.shuffle) =
    seed-told (shape_in c) final.row.past final.row.stage e.votes e.seed _ _ _
    (ap (λ (x : Content). x.body) (sym final.reads) ∙ ap (λ (x : Content). x.body)
    (final-is run final.text final.row e.shuffle one.honest final_kind)) in
    e.other (ap key_of_seed seed ∙ sym (inner-key c e.shuffle) ∙ ap (inner_key e.shuffle) (sym own))

pub frame_wrong_seed : NotShown RevealsWrongSeed
frame_wrong_seed = by-run RevealsWrongSeed
    (λ roster t e. record {
      bytes = e.keys_post;
      content = e.keys_are.text;
      header = e.keys_header;
      listed = listed-in t.posts (e.keys_post ∷ e.final_post ∷ []) e.keys_post e.listed (0, omega arith, refl);
      says = e.keys_are.says;
      sender = e.keys_sender;
    })
    frame-seed

-- ---- BadLog

frame-log : (run : Run) (t : Transcript) → OneRun t run → ShowsBadLog run.config.roster t → ⊥
frame-log run t one e =
    let own = file-row run t e.post e.content one e.file (listed-in t.posts (e.post ∷ []) e.post e.listed (0, omega arith, refl)) e.sender
    in
    let closing = subst (λ (stage : ℕ). IsSome (option_and_then vote_of (kind_of_stage (shape_in run.config) stage))) own.at e.closing in
    let is = own-closing run own.text own.row one.honest closing in
    let justified : is_content_justified run.config.roster t.round e.content ≡ true =
    ap (λ (c : Content). is_content_justified run.config.roster t.round c) (sym own.reads)
    ∙ ap (λ (r : ℕ). is_content_justified run.config.roster r own.row.read) (sym one.round) ∙ is.justified in
    not_both (is_content_justified run.config.roster t.round e.content) justified e.unjustified
  where
    not_both : (b : Bool) → b ≡ true → b ≡ false → ⊥
    not_both b e f = absurd (let both = sym e ∙ f in cc)

pub frame_bad_log : NotShown ShowsBadLog
frame_bad_log = by-run ShowsBadLog
    (λ roster t e. record {
      bytes = e.post;
      content = e.file.text;
      header = e.content.header;
      listed = listed-in t.posts (e.post ∷ []) e.post e.listed (0, omega arith, refl);
      says = e.file.says;
      sender = e.sender;
    })
    frame-log
