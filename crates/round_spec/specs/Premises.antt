-- The strings on which the promises rest: where no two of them have one SHA-256, nothing else is asked of hashes.
use Rattle.std.specs.Prelude.{ℕ, List, [], ◌∷◌, ◌++◌, map, take, filter_map, Option, Some, None, Result, Ok, Err, zip, option_and_then, if◌then◌else◌}
use Rattle.std.specs.List.{flat_map, range_with_len}
use Rattle.std.specs.Option.{option_map_or}
use Rattle.std.specs.Result.{result_ok}
use Rattle.wire_core.specs.Hash.{NoCollision, layer_seed_string}
use Rattle.pad_stream.specs.Stream.{pad_of}
use Rattle.phase_message.specs.declared.content.Body.{Body}
use Rattle.phase_message.specs.declared.content.Body.TheVariants.{Dispute}
use Rattle.phase_message.specs.declared.content.Content.{Content}
use Rattle.phase_message.specs.declared.header.Header.{Header}
use Rattle.phase_message.specs.declared.post.Post.{Post}
use Rattle.phase_message.specs.declared.stage.Slot.{Slot}
use Rattle.phase_message.specs.declared.stage.StageKind.{StageKind}
use Rattle.phase_message.specs.declared.stage.StageKind.TheVariants.{Final}
use Rattle.phase_message.specs.Offence.{content_read}
use Rattle.phase_message.specs.Shape.{Shape}
use Rattle.phase_message.specs.Slots.{slots_before, slots_of, stage_count}
use Rattle.phase_message.specs.Stages.{kind_of_stage}
use Rattle.group_roster.specs.Roster.{Roster, shape_of_roster}
use Rattle.signed_post.specs.Frame.{frame_of}
use Rattle.stage_log.specs.Log.{before, contents_of, posts_kept}
use Rattle.stage_log.specs.Table.{Log}
use Rattle.stage_log.specs.Views.{view_string}
use Rattle.transcript_form.specs.declared.accusation.Accusation.{Accusation}
use Rattle.transcript_form.specs.declared.claim.Claim.{Claim}
use Rattle.transcript_form.specs.declared.claim.Claim.TheVariants.{Pad}
use Rattle.transcript_form.specs.declared.refusal.FailedForm.{FailedForm}
use Rattle.transcript_form.specs.declared.transcript.Transcript.{Transcript}
use Rattle.transcript_form.specs.Form.{transcript_read}
use Rattle.bulk_descriptor.specs.Descriptor.{Description, made_pads}
use Rattle.bulk_descriptor.specs.Laws.{pad_string}
use Rattle.accusation.specs.Accusation.{descriptor_at}
use Rattle.round_spec.specs.Slots.{pad_stage, pads_in, descriptors_opened}
use Rattle.round_spec.specs.Say.{Configuration, own_opening, own_pad_seeds, shape_in}
use Rattle.round_spec.specs.Embedded.{embedded_log, log_for}
use Rattle.round_spec.specs.Runs.{Run}
use Rattle.round_spec.specs.Verdict.{is_closing}

-- ---- of a log

-- the string of the view at a stage, if all stages before it are complete
abbrev pub view_string_at : Log → ℕ → List (List ℕ)
view_string_at log stage = option_map_or (λ posts. view_string log.shape (contents_of posts) stage ∷ []) (before log stage) []

-- those of all stages
unfoldable pub view_strings_of : Log → List (List ℕ)
view_strings_of log = flat_map (view_string_at log) (range_with_len 0 (stage_count log.shape))

-- ---- of contents

-- the strings of the seeds of a member's layers on a side of a shuffle
abbrev pub layer_strings : Shape → List ℕ → ℕ → ℕ → ℕ → ℕ → List (List ℕ)
layer_strings shape opening round shuffle side member =
    map (layer_seed_string opening round shuffle side member) (range_with_len 1 shape.members)

-- what a Dispute at the end of a shuffle shows: the strings of its sender's outer layers
abbrev pub strings_shown_at : Shape → ℕ → Header → Body → Option StageKind → List (List ℕ)
strings_shown_at shape round header (Dispute posts seed opening) (Some (Final shuffle)) =
    layer_strings shape opening round shuffle 2 header.sender
strings_shown_at shape round header body kind = []

abbrev pub strings_shown : Shape → ℕ → Content → List (List ℕ)
strings_shown shape round content =
    strings_shown_at shape round content.header content.body (kind_of_stage shape content.header.stage)

-- the strings of the pads that a content says
abbrev pub strings_of_pads : Content → List (List ℕ)
strings_of_pads content = map pad_string (pads_in content.body)

-- what posts are read as, as far as they are contents of the grammar
unfoldable pub contents_read : Shape → List Post → List Content
contents_read shape posts = filter_map (λ post. result_ok (content_read shape post.content)) posts

-- ---- of a run

-- the strings of the seeds of all layers of a member's own submissions
unfoldable pub own_layer_strings : Configuration → List (List ℕ)
own_layer_strings c = flat_map (λ shuffle. flat_map (λ side.
    layer_strings (shape_in c) (own_opening c shuffle side) c.round shuffle side c.number) (1 ∷ 2 ∷ [])) (1 ∷ 2 ∷ [])

-- the strings of the pads that its own descriptor asks for
unfoldable pub own_pad_strings : Configuration → List (List ℕ)
own_pad_strings c = map pad_string (made_pads (own_pad_seeds c) c.number c.message)

-- the contents that a run kept
abbrev pub contents_kept : Run → List Content
contents_kept run = contents_read run.log.shape (posts_kept run.log.posts)

-- the strings of a run: of its views, of the seeds of its own layers and of those that Disputes showed, and of the pads
-- of its own descriptor and of all that were sent
unfoldable pub strings_of_run : Run → List (List ℕ)
strings_of_run run =
    view_strings_of run.log ++ (own_layer_strings run.config
    ++ (flat_map (strings_shown run.log.shape run.config.round) (contents_kept run)
    ++ (own_pad_strings run.config ++ flat_map strings_of_pads (contents_kept run))))

-- ---- of a transcript

-- the posts that a transcript lists, as far as they are posts
abbrev pub posts_listed : Transcript → List Post
posts_listed t = filter_map (λ bytes. result_ok (frame_of bytes)) t.posts

-- the contents that it lists
abbrev pub contents_listed : Roster → Transcript → List Content
contents_listed roster t = contents_read (shape_of_roster roster) (posts_listed t)

-- the slots before the pads, with the posts that a claim of a bad pad lists for them
abbrev pub pairs_listed : Roster → Transcript → List (Slot × List ℕ)
pairs_listed roster t = zip (take (slots_before (shape_of_roster roster) (pad_stage (shape_of_roster roster)))
    (slots_of (shape_of_roster roster))) t.posts

-- the log that a transcript lists: that before the pads, which a claim of a bad pad lists
abbrev pub log_listed : Roster → Transcript → Claim → Option Log
log_listed roster t Pad = result_ok (log_for roster t.round (pairs_listed roster t))
log_listed roster t claim = None

-- the log that a content embeds, if it is of a closing stage and its embedded posts are a log
abbrev pub log_embedded : Roster → ℕ → Content → Option Log
log_embedded roster round content =
    if is_closing (shape_of_roster roster) content.header.stage then result_ok (embedded_log roster round content) else None

-- the logs that the closing contents of a transcript embed
abbrev pub logs_embedded : Roster → Transcript → List Log
logs_embedded roster t = filter_map (log_embedded roster t.round) (contents_listed roster t)

-- the descriptor at the slot of an accusation, by the log that is listed
abbrev pub descriptor_accused : Accusation → Log → Option Description
descriptor_accused a log =
    descriptor_at (descriptors_opened log.shape (contents_of (posts_kept log.posts))) a.slot

-- the string of the pad of an accusation's seed, as long as the descriptor at its slot says, if there is one
abbrev pub accused_pad_strings : Roster → Transcript → Accusation → List (List ℕ)
accused_pad_strings roster t a = option_map_or (λ d. pad_string (pad_of a.seed d.length) ∷ [])
    (option_and_then (descriptor_accused a) (log_listed roster t t.claim)) []

-- the strings of a transcript: of the views of every log that it lists or embeds, of the seeds that its Disputes show,
-- and of the pads that it lists and that of its accusation's seed
unfoldable pub strings_of_transcript : Roster → Transcript → List (List ℕ)
strings_of_transcript roster t =
    option_map_or view_strings_of (log_listed roster t t.claim) []
    ++ (flat_map view_strings_of (logs_embedded roster t)
    ++ (flat_map (strings_shown (shape_of_roster roster) t.round) (contents_listed roster t)
    ++ (flat_map strings_of_pads (contents_listed roster t)
    ++ option_map_or (accused_pad_strings roster t) t.detail [])))

-- the strings of what was read as a transcript, or none
abbrev pub strings_read : Roster → Result Transcript FailedForm → List (List ℕ)
strings_read roster (Ok t) = strings_of_transcript roster t
strings_read roster (Err failed) = []

-- the strings of bytes: those of the transcript that they spell, if they spell one
unfoldable pub strings_of_evidence : Roster → List ℕ → List (List ℕ)
strings_of_evidence roster bytes = strings_read roster (transcript_read (shape_of_roster roster) bytes)

-- ---- no collision

-- the strings of all runs of a list
abbrev pub strings_of_runs : List Run → List (List ℕ)
strings_of_runs runs = flat_map strings_of_run runs

-- no two strings of the runs have one SHA-256
abbrev pub NoRunsCollide : List Run → Type 0
NoRunsCollide runs = NoCollision (strings_of_runs runs)

-- the same of the runs and of the bytes of a transcript together
abbrev pub NoneCollide : Roster → List Run → List ℕ → Type 0
NoneCollide roster runs bytes = NoCollision (strings_of_runs runs ++ strings_of_evidence roster bytes)
