-- A replay is not shown of the member of an honest run: the strings of the layer seeds that its Disputes show are among
-- those of the transcript.
use Rattle.std.proofs.Common.{◌≡◌, ℕ, ◌-◌, ◌≤◌, true, List, [], ◌++◌, length, map, Option, Some, ap, sym, ◌∙◌, refl, subst, arith}
use Rattle.std.specs.Prelude.{Contains, option_map}
use Rattle.std.specs.List.{slice_get}
use Rattle.std.proofs.lemmas.Bool.{and_parts, leb-true}
use Rattle.std.proofs.lemmas.List.Elements.{Contains-append_right}
use Rattle.std.proofs.lemmas.Option.{get_or_from_slice_get, slice_get-map}
use Rattle.wire_core.specs.Bytes.{IsBytes}
use Rattle.wire_core.specs.Hash.{NoCollision, layer_seed_string}
use Rattle.phase_message.specs.declared.content.Body.{Body}
use Rattle.phase_message.specs.declared.content.Body.TheVariants.{Keys, Submit, Shuffled, Abort, Go, Reveal, Dispute, Pads, Check, Confirm, Differ}
use Rattle.phase_message.specs.declared.stage.StageKind.{StageKind}
use Rattle.phase_message.specs.declared.stage.StageKind.TheVariants.{Final}
use Rattle.phase_message.specs.Grammar.{IsBody}
use Rattle.phase_message.specs.Kinds.{IsBodyAt}
use Rattle.phase_message.specs.Shape.{Shape}
use Rattle.phase_message.specs.Slots.{slots_before}
use Rattle.phase_message.specs.Stages.{kind_of_stage}
use Rattle.phase_message.proofs.BodyKinds.{bodies_are_of_kinds}
use Rattle.group_roster.specs.Roster.{Roster, shape_of_roster}
use Rattle.transcript_form.specs.declared.transcript.Transcript.{Transcript}
use Rattle.transcript_form.specs.Transcript.{IsTranscript, transcript_spelling}
use Rattle.shuffle_blame.specs.declared.fault.Shown.{Shown}
use Rattle.shuffle_blame.specs.Laws.{HasShownStrings, IsMember}
use Rattle.shuffle_blame.specs.Replay.{Inquiry, outer_opening}
use Rattle.round_spec.specs.Premises.{NoneCollide, strings_of_evidence, strings_of_runs, strings_of_transcript}
use Rattle.round_spec.specs.Runs.{Run}
use Rattle.round_spec.specs.Say.{shape_in}
use Rattle.round_spec.specs.Verdict.{is_dissent, shown_in}
use Rattle.round_spec.proofs.Beginnings.{shape-is}
use Rattle.round_spec.proofs.Strings.{transcript_has_strings}
use Rattle.conviction.specs.Accepts.{Objects, ReplaysFault, inquiry_by, parts_shown, post_listed}
use Rattle.conviction.specs.Framing.{NotShownUnlessCollide, OneRun}
use Rattle.conviction.proofs.Listed.{content-listed, evidence-is, file-grammar, listed-bytes, place-listed}
use Rattle.conviction.proofs.OnePost.{HasOwnPost, one-run}
use Rattle.conviction.proofs.OwnReplays.{replay_not_own}
use Rattle.conviction.proofs.Replays.{by-member, common_log_is_own}

-- ---- Disputes

-- a body is a Dispute, with an opening of 32 bytes
record IsDispute (body : Body) : Type 0 where
  pub posts : List (List ℕ)
  pub seed : List ℕ
  pub opening : List ℕ
  pub is : body ≡ Dispute posts seed opening
  pub long : length opening ≡ 32

-- so is a body of the grammar that objects at the end of a shuffle
dispute-at : (shape : Shape) (stage shuffle : ℕ) (body : Body) → kind_of_stage shape stage ≡ Some (Final shuffle) → IsBody shape stage body
    → is_dissent body ≡ true → IsDispute body
dispute-at shape stage shuffle (Dispute posts seed opening) kind is e =
    let fits : IsBodyAt shape (slots_before shape stage) (Final shuffle) (Dispute posts seed opening) =
    (bodies_are_of_kinds shape stage (Final shuffle) (Dispute posts seed opening) kind).0 is in
    record { posts = posts; seed = seed; opening = opening; is = refl; long = fits.2 }
dispute-at shape stage shuffle (Differ posts) kind is e = absurd
    ((bodies_are_of_kinds shape stage (Final shuffle) (Differ posts) kind).0 is)
dispute-at shape stage shuffle (Keys keys) kind is e = absurd cc
dispute-at shape stage shuffle (Submit ciphertext) kind is e = absurd cc
dispute-at shape stage shuffle (Shuffled list) kind is e = absurd cc
dispute-at shape stage shuffle Abort kind is e = absurd cc
dispute-at shape stage shuffle (Go vote) kind is e = absurd cc
dispute-at shape stage shuffle (Reveal votes seed) kind is e = absurd cc
dispute-at shape stage shuffle (Pads pads) kind is e = absurd cc
dispute-at shape stage shuffle (Check vote) kind is e = absurd cc
dispute-at shape stage shuffle (Confirm votes) kind is e = absurd cc

-- ---- what they show

-- the post of a member is listed
pub object-listed : (roster : Roster) (t : Transcript) (member : ℕ) → (e : ReplaysFault roster t) → 1 ≤ member
    → member ≤ (shape_of_roster roster).members
    → Contains t.posts (post_listed t member)
object-listed roster t member e least most = place-listed t.posts (member - 1) (let count = e.count in omega arith)

-- what a member shows at the end of a shuffle
record ShowsOpening (roster : Roster) (t : Transcript) (e : ReplaysFault roster t) (member : ℕ) : Type 0 where
  pub dispute : IsDispute (e.said member).body
  pub opening : outer_opening (inquiry_by (shape_of_roster roster) t.round e.stage e.past e.said) member ≡ dispute.opening

shows-opening : (roster : Roster) (t : Transcript) (e : ReplaysFault roster t) (shuffle member : ℕ) → IsBytes (transcript_spelling t)
    → kind_of_stage (shape_of_roster roster) e.stage ≡ Some (Final shuffle)
    → 1 ≤ member → member ≤ (shape_of_roster roster).members → ShowsOpening roster t e member
shows-opening roster t e shuffle member bytes kind least most =
    record { dispute = dispute; opening = opening ∙ ap (λ (b : Body). (shown_in b).outer_opening) dispute.is }
  where
    shape : Shape
    shape = shape_of_roster roster

    own : Objects roster t.round e.stage e.past member (post_listed t member) (e.said member)
    own = e.object member least most

    dispute : IsDispute (e.said member).body
    dispute =
        let grammar =
        file-grammar roster t.round (post_listed t member) (e.said member)
        (listed-bytes t (post_listed t member) bytes (object-listed roster t member e least most)) own.file in
        dispute-at shape (e.said member).header.stage shuffle (e.said member).body (ap (kind_of_stage shape) own.at ∙ kind) grammar.1
        own.dissents

    parts : List Shown
    parts = parts_shown shape (kind_of_stage shape e.stage) e.said

    place : slice_get parts (member - 1) ≡ Some (shown_in (e.said member).body)
    place =
        ap (λ (o : Option StageKind). slice_get (parts_shown shape o e.said) (member - 1)) kind
        ∙ by-member (λ m. shown_in (e.said m).body) shape.members member least most

    opening : outer_opening (inquiry_by shape t.round e.stage e.past e.said) member ≡ (shown_in (e.said member).body).outer_opening
    opening = get_or_from_slice_get (map (λ (s : Shown). s.outer_opening) parts) (member - 1) _ []
        (slice_get-map (λ (s : Shown). s.outer_opening) parts (member - 1) ∙ ap (option_map (λ (s : Shown). s.outer_opening)) place)

-- the strings of the layer seeds that are shown are among those of the transcript
shown-strings : (roster : Roster) (t : Transcript) (strings : List (List ℕ)) (e : ReplaysFault roster t) (shuffle : ℕ)
    → IsTranscript (shape_of_roster roster) t
    → IsBytes (transcript_spelling t) → NoCollision strings
    → ((s : List ℕ) → Contains (strings_of_transcript roster t) s → Contains strings s)
    → kind_of_stage (shape_of_roster roster) e.stage ≡ Some (Final shuffle)
    → HasShownStrings (inquiry_by (shape_of_roster roster) t.round e.stage e.past e.said) shuffle strings
shown-strings roster t strings e shuffle form bytes none among kind = record {
  distinct = none;
  openings = λ member is. (let shows = opens member is in ap length shows.opening ∙ shows.dispute.long);
  round_small = form.round;
  shown = λ member layer is lies. subst (Contains strings) (strings-same member layer is) (among _ (listed member layer is lies));
}
  where
    shape : Shape
    shape = shape_of_roster roster

    q : Inquiry
    q = inquiry_by shape t.round e.stage e.past e.said

    opens : (member : ℕ) → IsMember q member → ShowsOpening roster t e member
    opens member is = shows-opening roster t e shuffle member bytes kind is.least is.most

    listed : (member layer : ℕ) (is : IsMember q member) → IsMember q layer
        → Contains (strings_of_transcript roster t) (layer_seed_string (opens member is).dispute.opening t.round shuffle 2
        (e.said member).header.sender layer)
    listed member layer is lies =
        let own = e.object member is.least is.most in
        let dispute = (opens member is).dispute in
        (transcript_has_strings roster t).shown (e.said member) dispute.posts dispute.seed dispute.opening shuffle layer
        (content-listed roster t (post_listed t member) (e.said member) (object-listed roster t member e is.least is.most) own.file)
        dispute.is (ap (kind_of_stage shape) own.at ∙ kind) lies.least lies.most

    strings-same : (member layer : ℕ) (is : IsMember q member)
        → layer_seed_string (opens member is).dispute.opening t.round shuffle 2 (e.said member).header.sender layer
        ≡ layer_seed_string (outer_opening q member) q.round shuffle 2 member layer
    strings-same member layer is =
        ap (λ (opening : List ℕ). layer_seed_string opening t.round shuffle 2 (e.said member).header.sender layer)
        (sym (opens member is).opening)
        ∙ ap (λ (m : ℕ). layer_seed_string (outer_opening q member) t.round shuffle 2 m layer) (e.object member is.least is.most).sender

-- ---- the law

-- the member of a transcript that is accused is one of the group
pub accused-within : (shape : Shape) (t : Transcript) → IsTranscript shape t → (1 ≤ t.accused) × (t.accused ≤ shape.members)
accused-within shape t form = (let parts = and_parts _ _ form.accused in (leb-true _ _ parts.0, leb-true _ _ parts.1))

-- what is shown of the member of an honest run by a transcript whose strings do not collide with those of the runs
pub by-run-unless : (shows : Roster → Transcript → Type 0)
    → ((roster : Roster) (t : Transcript) → IsTranscript (shape_of_roster roster) t → shows roster t → HasOwnPost roster t)
    → ((run : Run) (runs : List Run) (t : Transcript) → Contains runs run → OneRun t run → IsTranscript (shape_in run.config) t
    → IsBytes (transcript_spelling t) → NoneCollide run.config.roster runs (transcript_spelling t) → shows run.config.roster t → ⊥)
    → NotShownUnlessCollide shows
by-run-unless shows post refute roster runs t honest form bytes none said e =
    let one = one-run roster runs t honest said (post roster t form e) in
    subst (λ (r : Roster). IsTranscript (shape_of_roster r) t → NoneCollide r runs (transcript_spelling t) → shows r t → ⊥) one.2
    (λ form none e. refute one.0 runs t one.1 one.3 form bytes none e) form none e

-- the strings of a transcript are among all those that do not collide
pub transcript-among : (run : Run) (runs : List Run) (t : Transcript) → OneRun t run → IsTranscript (shape_in run.config) t → (s : List ℕ)
    → Contains (strings_of_transcript run.config.roster t) s
    → Contains (strings_of_runs runs ++ strings_of_evidence run.config.roster (transcript_spelling t)) s
transcript-among run runs t one form s listed =
    Contains-append_right (strings_of_runs runs) (strings_of_evidence run.config.roster (transcript_spelling t)) s
    (subst (λ (strings : List (List ℕ)). Contains strings s) (sym
    (evidence-is run.config.roster t (shape-is run.config one.honest.config.enter) form)) listed)

pub frame_replay : NotShownUnlessCollide ReplaysFault
frame_replay = by-run-unless ReplaysFault
    (λ roster t form e. (
    let member = accused-within (shape_of_roster roster) t form in
    let own = e.object t.accused member.0 member.1 in
    record {
      bytes = post_listed t t.accused;
      content = own.file.text;
      header = (e.said t.accused).header;
      listed = object-listed roster t t.accused e member.0 member.1;
      says = own.file.says;
      sender = own.sender;
    }))
    (λ run runs t listed one form bytes none e. (
    let strings : List (List ℕ) = strings_of_runs runs ++ strings_of_evidence run.config.roster (transcript_spelling t) in
    let q : Inquiry = inquiry_by (shape_in run.config) t.round e.stage e.past e.said in
    replay_not_own run q strings e.fault one.honest (common_log_is_own run t one form e) e.closing
    (λ shuffle kind. shown-strings run.config.roster t strings e shuffle form bytes none (transcript-among run runs t one form) kind)
    e.blames (e.accused ∙ sym one.number)))
