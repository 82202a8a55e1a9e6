-- Which strings are among those of a run and of a transcript.
use Rattle.std.specs.Prelude.{◌≡◌, ℕ, ◌<◌, ◌≤◌, List, [], ◌∷◌, Contains, Some, Ok}
use Rattle.wire_core.specs.Hash.{layer_seed_string}
use Rattle.pad_stream.specs.Stream.{pad_of}
use Rattle.phase_message.specs.declared.content.Body.TheVariants.{Dispute, Pads}
use Rattle.phase_message.specs.declared.content.Content.{Content}
use Rattle.phase_message.specs.declared.post.Post.{Post}
use Rattle.phase_message.specs.declared.stage.StageKind.TheVariants.{Final}
use Rattle.phase_message.specs.Offence.{content_read}
use Rattle.phase_message.specs.Shape.{Shape}
use Rattle.phase_message.specs.Slots.{stage_count}
use Rattle.phase_message.specs.Stages.{kind_of_stage}
use Rattle.group_roster.specs.Roster.{Roster, shape_of_roster}
use Rattle.stage_log.specs.Log.{before, contents_of, posts_kept}
use Rattle.stage_log.specs.Table.{Log}
use Rattle.stage_log.specs.Views.{view_strings}
use Rattle.transcript_form.specs.declared.accusation.Accusation.{Accusation}
use Rattle.transcript_form.specs.declared.transcript.Transcript.{Transcript}
use Rattle.bulk_descriptor.specs.Descriptor.{Description, made_pads}
use Rattle.bulk_descriptor.specs.Laws.{pad_string}
use Rattle.round_spec.specs.Say.{own_opening, own_pad_seeds, shape_in}
use Rattle.round_spec.specs.Premises.{contents_kept, contents_listed, descriptor_accused, log_listed, logs_embedded, strings_of_run, strings_of_transcript}
use Rattle.round_spec.specs.Runs.{Run}

-- all strings of the views of a log up to a stage are in a list, where all stages before the stage are complete
abbrev pub HasViews : Log → List (List ℕ) → Type 0
HasViews log strings = (stage : ℕ) (past : List Post) (string : List ℕ) → stage < stage_count log.shape → before log stage ≡ Some past →
    Contains (view_strings log.shape (contents_of past) stage) string → Contains strings string

-- the strings of the outer layers of whoever disputes in these contents are in a list
abbrev pub HasShown : Shape → ℕ → List Content → List (List ℕ) → Type 0
HasShown shape round contents strings = (content : Content) (posts : List (List ℕ)) (seed opening : List ℕ) (shuffle layer : ℕ) →
    Contains contents content → content.body ≡ Dispute posts seed opening →
    kind_of_stage shape content.header.stage ≡ Some (Final shuffle) → 1 ≤ layer → layer ≤ shape.members →
    Contains strings (layer_seed_string opening round shuffle 2 content.header.sender layer)

-- the strings of the pads that these contents say are in a list
abbrev pub HasPads : List Content → List (List ℕ) → Type 0
HasPads contents strings = (content : Content) (pads : List (List ℕ)) (pad : List ℕ) → Contains contents content →
    content.body ≡ Pads pads → Contains pads pad → Contains strings (pad_string pad)

-- what is among the strings of a run
pub record RunHasStrings (run : Run) : Type 0 where
  pub views : HasViews run.log (strings_of_run run)
  pub own_layers : (shuffle side layer : ℕ) → Contains (1 ∷ 2 ∷ []) shuffle → Contains (1 ∷ 2 ∷ []) side → 1 ≤ layer
      → layer ≤ (shape_in run.config).members →
      Contains (strings_of_run run) (layer_seed_string (own_opening run.config shuffle side) run.config.round shuffle side run.config.number
      layer)
  pub shown : HasShown run.log.shape run.config.round (contents_kept run) (strings_of_run run)
  pub own_pads : (pad : List ℕ) → Contains (made_pads (own_pad_seeds run.config) run.config.number run.config.message) pad →
      Contains (strings_of_run run) (pad_string pad)
  pub sent_pads : HasPads (contents_kept run) (strings_of_run run)

-- what is among the strings of a transcript
pub record TranscriptHasStrings (roster : Roster) (t : Transcript) : Type 0 where
  pub listed_views : (log : Log) → log_listed roster t t.claim ≡ Some log → HasViews log (strings_of_transcript roster t)
  pub embedded_views : (log : Log) → Contains (logs_embedded roster t) log → HasViews log (strings_of_transcript roster t)
  pub shown : HasShown (shape_of_roster roster) t.round (contents_listed roster t) (strings_of_transcript roster t)
  pub pads : HasPads (contents_listed roster t) (strings_of_transcript roster t)
  pub accused_pad : (a : Accusation) (log : Log) (d : Description) → t.detail ≡ Some a → log_listed roster t t.claim ≡ Some log →
      descriptor_accused a log ≡ Some d → Contains (strings_of_transcript roster t) (pad_string (pad_of a.seed d.length))

-- a post that a run kept, or that a transcript lists, is among the contents if it reads
abbrev pub KeptIsRead : Type 0
KeptIsRead = (run : Run) (post : Post) (content : Content) → Contains (posts_kept run.log.posts) post →
    content_read run.log.shape post.content ≡ Ok content → Contains (contents_kept run) content
