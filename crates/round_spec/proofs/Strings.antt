-- Which strings are among those of a run and of a transcript.
use Rattle.std.proofs.Common.{◌≡◌, ℕ, zero, suc, ◌+◌, ◌<◌, ◌≤◌, List, [], ◌∷◌, ◌++◌, take, Option, Some, ap, sym, ◌∙◌, refl, subst, arith, inl, inr}
use Rattle.std.specs.Prelude.{Contains, option_and_then}
use Rattle.std.specs.List.{flat_map, range_with_len}
use Rattle.std.specs.Option.{option_map_or}
use Rattle.std.specs.Result.{result_ok}
use Rattle.std.proofs.lemmas.Bool.{cases_lt}
use Rattle.std.proofs.lemmas.List.{take-map}
use Rattle.std.proofs.lemmas.List.Elements.{Contains-append_left, Contains-append_right}
use Rattle.wire_core.specs.declared.tag.Tag.TheVariants.{View}
use Rattle.wire_core.specs.Hash.{hashed, layer_seed_string}
use Rattle.pad_stream.specs.Stream.{pad_of}
use Rattle.phase_message.specs.declared.content.Body.{Body}
use Rattle.phase_message.specs.declared.content.Body.TheVariants.{Dispute}
use Rattle.phase_message.specs.declared.content.Content.{Content}
use Rattle.phase_message.specs.declared.post.Post.{Post}
use Rattle.phase_message.specs.Offence.{content_read}
use Rattle.phase_message.specs.Shape.{Shape}
use Rattle.phase_message.specs.Slots.{slots_before, stage_count}
use Rattle.phase_message.specs.Stages.{kind_of_stage}
use Rattle.phase_message.proofs.SlotLists.{slots_before-rises}
use Rattle.group_roster.specs.Roster.{Roster, shape_of_roster}
use Rattle.stage_log.specs.Log.{before, contents_at, contents_of, posts_kept, view_of}
use Rattle.stage_log.proofs.Pasts.{slice_range-take}
use Rattle.stage_log.specs.Table.{Log}
use Rattle.stage_log.specs.Views.{view_string, view_strings}
use Rattle.stage_log.proofs.Fronts.{before-front, view_of-take}
use Rattle.transcript_form.specs.declared.accusation.Accusation.{Accusation}
use Rattle.transcript_form.specs.declared.transcript.Transcript.{Transcript}
use Rattle.bulk_descriptor.specs.Descriptor.{Description, made_pads}
use Rattle.bulk_descriptor.specs.Laws.{pad_string}
use Rattle.round_spec.specs.Slots.{pads_in}
use Rattle.round_spec.specs.Say.{Configuration, own_opening, own_pad_seeds, shape_in}
use Rattle.round_spec.specs.Premises.{accused_pad_strings, contents_kept, contents_listed, contents_read, descriptor_accused, layer_strings, log_listed, logs_embedded, own_layer_strings, own_pad_strings, strings_of_pads, strings_of_run, strings_of_transcript, strings_shown, strings_shown_at, view_string_at, view_strings_of}
use Rattle.round_spec.specs.Runs.{Run}
use Rattle.round_spec.specs.Strings.{HasPads, HasShown, HasViews, KeptIsRead, RunHasStrings, TranscriptHasStrings}
use Rattle.round_spec.proofs.Contained.{contains-cases, contains-filter_map-from, contains-flat-from, contains-here, contains-later, contains-map-from, contains-nothing}

-- ---- parts

range-has : (a n k : ℕ) → a ≤ k → k < a + n → Contains (range_with_len a n) k
range-has a zero k le lt = absurd (omega arith)
range-has a (suc n) k le lt = elim (cases_lt a k) [
  | inl later ↦ contains-later a (range_with_len (a + 1) n) k (range-has (a + 1) n k (omega arith) (omega arith))
  | inr here ↦ (let same : a ≡ k = omega arith in (0, omega arith, same))
]

view-listed : (log : Log) (stage : ℕ) (past : List Post) → stage < stage_count log.shape → before log stage ≡ Some past
    → Contains (view_strings_of log) (view_string log.shape (contents_of past) stage)
unfolding view_strings_of
view-listed log stage past lt e =
    contains-flat-from (view_string_at log) (range_with_len 0 (stage_count log.shape)) stage
    (view_string log.shape (contents_of past) stage)
    (range-has 0 (stage_count log.shape) stage (omega arith) (omega arith))
    (subst (λ (o : Option (List Post)). Contains (option_map_or (λ posts. view_string log.shape (contents_of posts) stage ∷ []) o [])
    (view_string log.shape (contents_of past) stage)) (sym e) (contains-here _ []))

-- the strings of earlier views look at the front alone
view_string-take : (shape : Shape) (past : List (List ℕ)) (stage later : ℕ) → stage ≤ later
    → view_string shape (take (slots_before shape later) past) stage ≡ view_string shape past stage
view_string-take shape past zero later le = refl
view_string-take shape past (suc stage) later le =
    let n : ℕ = slots_before shape later in
    let next = slots_before-rises shape (stage + 1) later (omega arith) in
    let rises = slots_before-rises shape stage (stage + 1) (omega arith) in
    ap (λ (view : List ℕ). hashed View (view ∷ contents_at shape (take n past) stage)) (view_of-take shape past stage later (omega arith))
    ∙ ap (λ (contents : List (List ℕ)). hashed View (view_of shape past stage ∷ contents))
    (slice_range-take past (slots_before shape stage) (slots_before shape (stage + 1)) n rises next)

view_strings-take : (shape : Shape) (past : List (List ℕ)) (stage later : ℕ) → stage ≤ later
    → view_strings shape (take (slots_before shape later) past) stage ≡ view_strings shape past stage
view_strings-take shape past zero later le = refl
view_strings-take shape past (suc stage) later le =
    let n : ℕ = slots_before shape later in
    ap (λ (string : List ℕ). string ∷ view_strings shape (take n past) stage) (view_string-take shape past (suc stage) later le)
    ∙ ap (λ (strings : List (List ℕ)). view_string shape past (suc stage) ∷ strings)
    (view_strings-take shape past stage later (omega arith))

front-strings : (shape : Shape) (past : List Post) (stage : ℕ) → view_strings shape (contents_of (take (slots_before shape stage) past))
    stage ≡ view_strings shape (contents_of past) stage
front-strings shape past stage =
    ap (λ (contents : List (List ℕ)). view_strings shape contents stage)
    (sym (take-map (λ (post : Post). post.content) (slots_before shape stage) past))
    ∙ view_strings-take shape (contents_of past) stage stage (omega arith)

pub views-listed : (log : Log) → HasViews log (view_strings_of log)
views-listed log zero past string lt e listed = elim (contains-cases _ [] string listed) [
  | inl here ↦ subst (λ (s : List ℕ). Contains (view_strings_of log) s) here (view-listed log zero past lt e)
  | inr later ↦ absurd (contains-nothing string later)
]
views-listed log (suc stage) past string lt e listed = elim (contains-cases _ (view_strings log.shape (contents_of past) stage) string
    listed) [
      | inl here ↦ subst (λ (s : List ℕ). Contains (view_strings_of log) s) here (view-listed log (suc stage) past lt e)
      | inr later ↦ views-listed log stage (take (slots_before log.shape stage) past) string (omega (arith, lt))
          (before-front log stage (suc stage) past (omega arith) e)
          (subst (λ (strings : List (List ℕ)). Contains strings string) (sym (front-strings log.shape past stage)) later)
    ]

-- ---- what contents show

layer-listed : (shape : Shape) (opening : List ℕ) (round shuffle side member layer : ℕ) → 1 ≤ layer → layer ≤ shape.members
    → Contains (layer_strings shape opening round shuffle side member) (layer_seed_string opening round shuffle side member layer)
layer-listed shape opening round shuffle side member layer least most =
    contains-map-from (layer_seed_string opening round shuffle side member) (range_with_len 1 shape.members) layer
    (range-has 1 shape.members layer least (omega arith))

shown-listed : (shape : Shape) (round : ℕ) (contents : List Content)
    → HasShown shape round contents (flat_map (strings_shown shape round) contents)
shown-listed shape round contents content posts seed opening shuffle layer listed disputes final least most =
    let here : strings_shown shape round content ≡ layer_strings shape opening round shuffle 2 content.header.sender =
    ap (λ (body : Body). strings_shown_at shape round content.header body (kind_of_stage shape content.header.stage)) disputes
    ∙ ap (strings_shown_at shape round content.header (Dispute posts seed opening)) final in
    contains-flat-from (strings_shown shape round) contents content (layer_seed_string opening round shuffle 2 content.header.sender layer)
    listed
    (subst (λ (strings : List (List ℕ)). Contains strings (layer_seed_string opening round shuffle 2 content.header.sender layer))
    (sym here)
    (layer-listed shape opening round shuffle 2 content.header.sender layer least most))

pads-listed : (contents : List Content) → HasPads contents (flat_map strings_of_pads contents)
pads-listed contents content pads pad listed says has =
    contains-flat-from strings_of_pads contents content (pad_string pad) listed
    (contains-map-from pad_string (pads_in content.body) pad (subst (λ (body : Body). Contains (pads_in body) pad) (sym says) has))

own-listed : (c : Configuration) (shuffle side layer : ℕ) → Contains (1 ∷ 2 ∷ []) shuffle → Contains (1 ∷ 2 ∷ []) side → 1 ≤ layer
    → layer ≤ (shape_in c).members
    → Contains (own_layer_strings c) (layer_seed_string (own_opening c shuffle side) c.round shuffle side c.number layer)
unfolding own_layer_strings
own-listed c shuffle side layer of_two on_two least most =
    contains-flat-from (λ s. flat_map (λ side. layer_strings (shape_in c) (own_opening c s side) c.round s side c.number) (1 ∷ 2 ∷ []))
    (1 ∷ 2 ∷ []) shuffle _ of_two
    (contains-flat-from (λ side. layer_strings (shape_in c) (own_opening c shuffle side) c.round shuffle side c.number) (1 ∷ 2 ∷ []) side _
    on_two
    (layer-listed (shape_in c) (own_opening c shuffle side) c.round shuffle side c.number layer least most))

own-pad-listed : (c : Configuration) (pad : List ℕ) → Contains (made_pads (own_pad_seeds c) c.number c.message) pad
    → Contains (own_pad_strings c) (pad_string pad)
unfolding own_pad_strings
own-pad-listed c pad has = contains-map-from pad_string (made_pads (own_pad_seeds c) c.number c.message) pad has

-- ---- the laws

pub run_has_strings : (run : Run) → RunHasStrings run
unfolding strings_of_run
run_has_strings run = record {
  views = λ stage past string lt e listed. Contains-append_left views rest_1 string (views-listed run.log stage past string lt e listed);
  own_layers = λ shuffle side layer of_two on_two least most. Contains-append_right views rest_1 _
      (Contains-append_left layers rest_2 _ (own-listed run.config shuffle side layer of_two on_two least most));
  shown = λ content posts seed opening shuffle layer listed disputes final least most.
      Contains-append_right views rest_1 _ (Contains-append_right layers rest_2 _
      (Contains-append_left shown rest_3 _ (shown-listed run.log.shape run.config.round (contents_kept run) content posts seed opening
      shuffle layer listed disputes final least most)));
  own_pads = λ pad has. Contains-append_right views rest_1 _ (Contains-append_right layers rest_2 _
      (Contains-append_right shown rest_3 _ (Contains-append_left own sent_pads _ (own-pad-listed run.config pad has))));
  sent_pads = λ content pads pad listed says has.
      Contains-append_right views rest_1 _ (Contains-append_right layers rest_2 _
      (Contains-append_right shown rest_3 _ (Contains-append_right own sent_pads _
      (pads-listed (contents_kept run) content pads pad listed says has))));
}
  where
    views : List (List ℕ)
    views = view_strings_of run.log

    layers : List (List ℕ)
    layers = own_layer_strings run.config

    shown : List (List ℕ)
    shown = flat_map (strings_shown run.log.shape run.config.round) (contents_kept run)

    own : List (List ℕ)
    own = own_pad_strings run.config

    sent_pads : List (List ℕ)
    sent_pads = flat_map strings_of_pads (contents_kept run)

    rest_3 : List (List ℕ)
    rest_3 = own ++ sent_pads

    rest_2 : List (List ℕ)
    rest_2 = shown ++ rest_3

    rest_1 : List (List ℕ)
    rest_1 = layers ++ rest_2

pub transcript_has_strings : (roster : Roster) (t : Transcript) → TranscriptHasStrings roster t
unfolding strings_of_transcript
transcript_has_strings roster t = record {
  listed_views = λ log is stage past string lt e has. Contains-append_left listed rest_1 string
      (subst (λ (o : Option Log). Contains (option_map_or view_strings_of o []) string) (sym is)
      (views-listed log stage past string lt e has));
  embedded_views = λ log has stage past string lt e listed_there. Contains-append_right listed rest_1 string
      (Contains-append_left embedded rest_2 string
      (contains-flat-from view_strings_of (logs_embedded roster t) log string has (views-listed log stage past string lt e listed_there)));
  shown = λ content posts seed opening shuffle layer has disputes final least most.
      Contains-append_right listed rest_1 _ (Contains-append_right embedded rest_2 _ (Contains-append_left shown rest_3 _
      (shown-listed (shape_of_roster roster) t.round (contents_listed roster t) content posts seed opening shuffle layer has disputes final
      least most)));
  pads = λ content pads pad has says is_said.
      Contains-append_right listed rest_1 _ (Contains-append_right embedded rest_2 _
      (Contains-append_right shown rest_3 _ (Contains-append_left sent_pads accused _
      (pads-listed (contents_listed roster t) content pads pad has says is_said))));
  accused_pad = λ a log d detail is there.
      Contains-append_right listed rest_1 _ (Contains-append_right embedded rest_2 _
      (Contains-append_right shown rest_3 _ (Contains-append_right sent_pads accused _
      (subst (λ (o : Option Accusation). Contains (option_map_or (accused_pad_strings roster t) o []) (pad_string (pad_of a.seed d.length)))
      (sym detail)
      (subst (λ (o : Option Description). Contains (option_map_or (λ (d : Description). pad_string (pad_of a.seed d.length) ∷ []) o [])
      (pad_string (pad_of a.seed d.length)))
      (sym (ap (option_and_then (descriptor_accused a)) is ∙ there)) (contains-here _ []))))));
}
  where
    listed : List (List ℕ)
    listed = option_map_or view_strings_of (log_listed roster t t.claim) []

    embedded : List (List ℕ)
    embedded = flat_map view_strings_of (logs_embedded roster t)

    shown : List (List ℕ)
    shown = flat_map (strings_shown (shape_of_roster roster) t.round) (contents_listed roster t)

    sent_pads : List (List ℕ)
    sent_pads = flat_map strings_of_pads (contents_listed roster t)

    accused : List (List ℕ)
    accused = option_map_or (accused_pad_strings roster t) t.detail []

    rest_3 : List (List ℕ)
    rest_3 = sent_pads ++ accused

    rest_2 : List (List ℕ)
    rest_2 = shown ++ rest_3

    rest_1 : List (List ℕ)
    rest_1 = embedded ++ rest_2

pub kept_is_read : KeptIsRead
unfolding contents_read
kept_is_read run post content kept reads =
    contains-filter_map-from (λ (post : Post). result_ok (content_read run.log.shape post.content)) (posts_kept run.log.posts) post content
    kept
    (ap result_ok reads)
