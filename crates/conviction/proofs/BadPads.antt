-- A bad pad is not shown of the member of an honest run: what it sent for the slot is the pad of the seed that was sealed
-- for it, or its own pad, which has the hash that the accusation tells.
use Rattle.std.proofs.Common.{◌≡◌, ℕ, zero, suc, ◌+◌, ◌-◌, ◌<◌, ◌≤◌, Bool, true, false, List, [], ◌∷◌, ◌++◌, length, map, Option, Some, None, ap, sym, ◌∙◌, refl, subst, arith, inl, inr}
use Rattle.std.specs.Prelude.{◌==◌, Contains, bytes_eq, nat_le, option_and_then, option_map, slice_index_or, unwrap_or, if◌then◌else◌}
use Rattle.std.specs.List.{AllByRecursion, flat_map, slice_get}
use Rattle.std.proofs.lemmas.Bool.{cases_Bool, cond-true, cond-false, eq-eqb}
use Rattle.std.proofs.lemmas.List.FromFn.{length-map-range_with_len}
use Rattle.std.proofs.lemmas.List.Elements.{Contains-append_left}
use Rattle.std.proofs.lemmas.Option.{get_or_from_slice_get, slice_get-map}
use Rattle.std.proofs.lemmas.Slice.Eq.{bytes_eq-Decides}
use Rattle.wire_core.specs.declared.tag.Tag.TheVariants.{PadHash}
use Rattle.wire_core.specs.Bytes.{IsBytes}
use Rattle.wire_core.specs.Hash.{ArePieces, derived, hashed, magic, tag_number}
use Rattle.wire_core.proofs.Hashed.{hashed_determines}
use Rattle.pad_stream.specs.Stream.{pad_of}
use Rattle.ring_encrypt.specs.Capsule.{capsule_of, key_of_seed}
use Rattle.ring_encrypt.specs.Opening.{opened}
use Rattle.ring_encrypt.proofs.Exactness.{opens_exactly}
use Rattle.phase_message.specs.declared.content.Body.{Body}
use Rattle.phase_message.specs.declared.content.Body.TheVariants.{Pads}
use Rattle.phase_message.specs.declared.content.Content.{Content}
use Rattle.phase_message.specs.declared.header.Header.{Header}
use Rattle.phase_message.specs.declared.post.Post.{Post}
use Rattle.phase_message.specs.declared.stage.StageKind.TheVariants.{Pad as AtPad}
use Rattle.phase_message.specs.Grammar.{IsBody, body_text, prefixed}
use Rattle.phase_message.specs.Kinds.{IsBodyAt}
use Rattle.phase_message.specs.Shape.{Shape}
use Rattle.phase_message.specs.Slots.{slots_before, stage_count}
use Rattle.phase_message.specs.Stages.{kind_of_stage}
use Rattle.phase_message.proofs.BodyKinds.{bodies_are_of_kinds}
use Rattle.phase_message.proofs.SlotBounds.{slot-bounds}
use Rattle.phase_message.proofs.Table.{pad_is}
use Rattle.stage_log.specs.Log.{contents_of}
use Rattle.transcript_form.specs.declared.accusation.Accusation.{Accusation}
use Rattle.transcript_form.specs.declared.transcript.Transcript.{Transcript}
use Rattle.transcript_form.specs.Transcript.{HasDetail, IsTranscript, transcript_spelling}
use Rattle.bulk_descriptor.specs.Descriptor.{Description, capsule_for, descriptor_read, fits, hash_of_pad, made_pads, own_pad, pad_found, pad_hash_for, pad_if_hashed, pad_row}
use Rattle.bulk_descriptor.specs.Laws.{CanMake, pad_string}
use Rattle.bulk_descriptor.proofs.FittingLemmas.{fits_determines, fits_from, length_of-made, made_is_of_grammar, own_pad_fits, pad_row-other, pad_row-own}
use Rattle.bulk_descriptor.proofs.MakingLemmas.{length-made_pads, length-own_pad, length-pad_of, made_pads-own}
use Rattle.bulk_descriptor.proofs.SpellingLemmas.{in_grammar, passes, read_passes, spelled_are_read}
use Rattle.accusation.specs.Accusation.{Holds, descriptor_at, key_for, pad_sent}
use Rattle.round_spec.specs.Premises.{NoneCollide, strings_of_evidence, strings_of_run, strings_of_runs}
use Rattle.round_spec.specs.Runs.{HonestRun, Run}
use Rattle.round_spec.specs.Say.{Configuration, own_body_if, own_description, own_descriptor, own_key_seed, own_pad_seeds, pad_for, pads_row, shape_in}
use Rattle.round_spec.specs.Slots.{bulk_place, descriptors_opened, items_opened, key_said, keys_in, keys_said, pad_stage, said_in}
use Rattle.round_spec.proofs.Beginnings.{shape-is}
use Rattle.round_spec.proofs.Contained.{contains-flat-from}
use Rattle.round_spec.proofs.Strings.{run_has_strings, transcript_has_strings}
use Rattle.conviction.specs.Accepts.{ShowsBadPad, table_of}
use Rattle.conviction.specs.Framing.{NotShownUnlessCollide, OneRun}
use Rattle.conviction.proofs.Bodies.{body_due, row-text}
use Rattle.conviction.proofs.Listed.{detail-is, got-listed, place-listed, seed-message}
use Rattle.conviction.proofs.ListedLogs.{kept-posts, log_kept}
use Rattle.conviction.proofs.OnePost.{IsRowOf, keys-are}
use Rattle.conviction.proofs.OwnRows.{OwnSaid, own-body, own-said, own-speaks}
use Rattle.conviction.proofs.Replays.{by-member}
use Rattle.conviction.proofs.ReplayStrings.{accused-within, by-run-unless, transcript-among}
use Rattle.conviction.proofs.SamePasts.{listed-log, own-pads, same-past}

-- ---- own pads

abbrev pub row_pads : Configuration → List (List ℕ) → List (List ℕ)
row_pads c past = map (pad_for c (own_descriptor c past)) (items_opened (shape_in c) past 1)

-- a pad by a capsule is as long as the descriptor says
found-short : (n : ℕ) (member : ℕ) (seed entry : List ℕ) (o : Option Description) → descriptor_read n entry ≡ o
    → length (unwrap_or (option_and_then (λ d. pad_found d member seed) o) []) ≤ 65536
unfolding pad_found
found-short n member seed entry None e = omega arith
found-short n member seed entry (Some d) e = by_seed (opened seed (capsule_for d member))
  where
    short : d.length ≤ 65536
    short =
        let parts = read_passes n entry d e in
        let is = (in_grammar n entry (passes n entry parts.0)).form.short in
        omega (arith, is, ap (λ (x : Description). x.length) parts.1)

    by_hash : (s : List ℕ) (b : Bool) → length (unwrap_or (if b then Some (pad_of s d.length) else None) []) ≤ 65536
    by_hash s true = (let some = short in omega (arith, length-pad_of s d.length))
    by_hash s false = omega arith

    by_seed : (o : Option (List ℕ)) → length (unwrap_or (option_and_then (pad_if_hashed d member) o) []) ≤ 65536
    by_seed None = omega arith
    by_seed (Some s) = by_hash s (bytes_eq (hash_of_pad (pad_of s d.length)) (pad_hash_for d member))

pub row-apart : (n : ℕ) (own kept : List ℕ) (member : ℕ) (seed entry : List ℕ) → bytes_eq entry own ≡ false
    → pad_row n own kept member seed entry ≡ unwrap_or (option_and_then (λ d. pad_found d member seed) (descriptor_read n entry)) []
unfolding pad_row
row-apart n own kept member seed entry apart =
    cond-false (bytes_eq entry own) kept (unwrap_or (option_and_then (λ d. pad_found d member seed) (descriptor_read n entry)) []) apart

pad-short : (c : Configuration) (own : List ℕ) (item : Option (List ℕ)) → length c.message ≤ 65536 → length (pad_for c own item) ≤ 65536
pad-short c own None message = omega arith
pad-short c own (Some entry) message = elim (cases_Bool (bytes_eq entry own)) [
  | inl same ↦
      let kept : pad_for c own (Some entry) ≡ own_pad (own_pad_seeds c) c.number c.message =
      pad_row-own (shape_in c).members own _ c.number (own_key_seed c bulk_place) entry same in
      omega (arith, message, ap length kept, length-own_pad (own_pad_seeds c) c.number c.message)
  | inr apart ↦
      let found : pad_for c own (Some entry) ≡ unwrap_or (option_and_then (λ d. pad_found d c.number (own_key_seed c bulk_place))
      (descriptor_read (shape_in c).members entry)) [] =
      row-apart (shape_in c).members own _ c.number (own_key_seed c bulk_place) entry apart in
      omega (
        arith,
        ap length found,
        found-short (shape_in c).members c.number (own_key_seed c bulk_place) entry
            (descriptor_read (shape_in c).members entry) refl,
      )
]

all-short : (c : Configuration) (own : List ℕ) (items : List (Option (List ℕ))) → length c.message ≤ 65536
    → ArePieces (map (pad_for c own) items)
all-short c own [] message = tt
all-short c own (item ∷ items) message = (omega (arith, pad-short c own item message), all-short c own items message)

pieces-short : (pads : List (List ℕ)) → AllByRecursion (λ pad. length pad ≤ 65536) pads → ArePieces pads
pieces-short [] short = tt
pieces-short (pad ∷ pads) short = (let first = short.0 in omega arith, pieces-short pads short.1)

-- lists of pads of one text are one list
texts-same : (xs ys : List (List ℕ)) → ArePieces xs → ArePieces ys → flat_map prefixed xs ≡ flat_map prefixed ys → xs ≡ ys
unfolding hashed
texts-same xs ys short short' e = (hashed_determines PadHash PadHash xs ys short short'
    (ap (λ (text : List ℕ). magic ++ tag_number PadHash ∷ text) e)).1

-- what the own pads post lists is the row
pub pads-own : (run : Run) (header : Header) (pads : List (List ℕ)) (own : IsRowOf run (record { header = header; body = Pads pads }))
    → length run.config.message ≤ 65536 → own.row.stage ≡ pad_stage (shape_in run.config)
    → pads ≡ row_pads run.config (contents_of own.row.past)
unfolding pads_row
pads-own run header pads own message at =
    texts-same pads (row_pads c (contents_of own.row.past)) (pieces-short pads fits.0)
    (all-short c (own_descriptor c (contents_of own.row.past)) (items_opened (shape_in c) (contents_of own.row.past) 1) message)
    (ap body_text (sym body) ∙ (row-text run own.text own.row).text ∙ ap body_text due)
  where
    c : Configuration
    c = run.config

    kind : kind_of_stage (shape_in c) own.row.stage ≡ Some AtPad
    kind = pad_is (shape_in c) own.row.stage at

    body : own.row.read.body ≡ Pads pads
    body = ap (λ (x : Content). x.body) own.reads

    grammar : IsBody (shape_in c) own.row.stage (Pads pads)
    grammar =
        subst (λ (stage : ℕ). IsBody (shape_in c) stage (Pads pads)) own.at
        (subst (λ (x : Content). IsBody (shape_in c) x.header.stage x.body) own.reads own.row.grammar.1)

    fits : IsBodyAt (shape_in c) (slots_before (shape_in c) own.row.stage) AtPad (Pads pads)
    fits = (bodies_are_of_kinds (shape_in c) own.row.stage AtPad (Pads pads) kind).0 grammar

    due : body_due run own.text own.row ≡ Pads (row_pads c (contents_of own.row.past))
    due = ap (own_body_if c (own_descriptor c (contents_of own.row.past)) own.row.past own.row.stage) kind

-- ---- the slot

-- what opened to the descriptor of a slot
pub entry-at : (n : ℕ) (items : List (Option (List ℕ))) (k : ℕ) (d : Description)
    → slice_index_or (map (option_and_then (descriptor_read n)) items) k None ≡ Some d
    → (entry : List ℕ) × (slice_get items k ≡ Some (Some entry)) × (descriptor_read n entry ≡ Some d)
entry-at n [] k d e = absurd cc
entry-at n (None ∷ items) zero d e = absurd cc
entry-at n (Some entry ∷ items) zero d e = (entry, refl, e)
entry-at n (item ∷ items) (suc k) d e = entry-at n items k d e

pub slot-descriptor : (descriptors : List (Option Description)) (slot : ℕ) (d : Description) → descriptor_at descriptors slot ≡ Some d
    → slice_index_or descriptors (slot - 1) None ≡ Some d
slot-descriptor descriptors slot d e = elim (cases_Bool (nat_le 1 slot)) [
  | inl some ↦ sym (cond-true (nat_le 1 slot) (slice_index_or descriptors (slot - 1) None) None some) ∙ e
  | inr none ↦ absurd (let nothing = sym (cond-false (nat_le 1 slot) (slice_index_or descriptors (slot - 1) None) None none) ∙ e in cc)
]

pub opened-at : (shape : Shape) (past : List (List ℕ)) (slot : ℕ) (d : Description)
    → descriptor_at (descriptors_opened shape past) slot ≡ Some d
    → (entry : List ℕ) × (slice_get (items_opened shape past 1) (slot - 1) ≡ Some (Some entry))
    × (descriptor_read shape.members entry ≡ Some d)
unfolding descriptors_opened
opened-at shape past slot d e = entry-at shape.members (items_opened shape past 1) (slot - 1) d
    (slot-descriptor (descriptors_opened shape past) slot d e)

-- the pad of the accused for a slot
pub sent-is : (shape : Shape) (accused slot : ℕ) (pads : List (List ℕ)) → 1 ≤ accused → accused ≤ shape.members
    → pad_sent (table_of shape accused pads) accused slot ≡ slice_index_or pads (slot - 1) []
sent-is shape accused slot pads least most =
    ap (λ (row : List (List ℕ)). slice_index_or row (slot - 1) [])
    (get_or_from_slice_get (table_of shape accused pads) (accused - 1) _ []
    (by-member (λ m. if m == accused then pads else []) shape.members accused least most)
    ∙ cond-true (accused == accused) pads [] (eq-eqb accused accused refl))

-- ---- the own bulk key

pub bulk-key : (run : Run) (content : Content) (own : IsRowOf run content) → HonestRun run → 1 ≤ own.row.stage
    → key_for (keys_said (shape_in run.config) (contents_of own.row.past) bulk_place) run.config.number ≡ key_of_seed
    (own_key_seed run.config bulk_place)
unfolding said_in
bulk-key run content own honest least =
    get_or_from_slice_get (keys_said shape past bulk_place) (c.number - 1) _ []
    (by-member (key_said shape past bulk_place) shape.members c.number within.1 within.2)
    ∙ ap (λ (b : Body). slice_index_or (keys_in b) bulk_place [])
    (own-body run own.row.past 0 said ∙ keys-are run said.text said.row (ap (kind_of_stage shape) said.at))
  where
    c : Configuration
    c = run.config

    shape : Shape
    shape = shape_in c

    past : List (List ℕ)
    past = contents_of own.row.past

    within : (0 < stage_count shape) × (1 ≤ c.number) × (c.number ≤ shape.members)
    within = slot-bounds shape 0 c.number (own-speaks c honest.config)

    said : OwnSaid run own.row.past 0
    said = own-said run own.row.stage 0 own.row.past honest own.row.before (own-speaks c honest.config) (omega (arith, least))

-- ---- the two cases

-- the pad of the seed that a capsule opens to
pub found-opened : (d : Description) (member : ℕ) (seed s : List ℕ) → opened seed (capsule_for d member) ≡ Some s
    → hash_of_pad (pad_of s d.length) ≡ pad_hash_for d member → pad_found d member seed ≡ Some (pad_of s d.length)
unfolding pad_found
found-opened d member seed s opens hash =
    let pad : List ℕ = pad_of s d.length in
    ap (option_and_then (pad_if_hashed d member)) opens
    ∙ cond-true (bytes_eq (hash_of_pad pad) (pad_hash_for d member)) (Some pad) None
    ((bytes_eq-Decides (hash_of_pad pad) (pad_hash_for d member)).1 hash)

-- an honest member can make its descriptor
pub can-make : (run : Run) (past : List (List ℕ)) → HonestRun run
    → CanMake (shape_in run.config).members (keys_said (shape_in run.config) past bulk_place) (own_pad_seeds run.config) run.config.number
    run.config.message
can-make run past honest =
    let c = run.config in
    let shape = shape_in c in
    let is = shape-is c honest.config.enter in
    let most = is.most in
    let within = slot-bounds shape 0 c.number (own-speaks c honest.config) in
    record {
      least = is.least;
      most = omega (arith, most);
      as_many_keys = length-map-range_with_len (key_said shape past bulk_place) 1 shape.members;
      as_many_seeds = length-map-range_with_len (derived c.fresh c.round 12) 1 shape.members;
      first = within.1;
      last = within.2;
      short = honest.config.enter.message;
    }

-- what is read of the own descriptor
pub own-read : (run : Run) (past : List (List ℕ)) → HonestRun run
    → descriptor_read (shape_in run.config).members (own_descriptor run.config past) ≡ Some (own_description run.config past)
unfolding own_descriptor
own-read run past honest =
    let c = run.config in
    let keys : List (List ℕ) = keys_said (shape_in c) past bulk_place in
    spelled_are_read (shape_in c).members (own_description c past)
    (made_is_of_grammar (shape_in c).members keys (own_pad_seeds c) c.number c.message (can-make run past honest))

description-same : (a b : Description) → (let told : Description → Option Description = λ z. Some z in told a ≡ told b) → a ≡ b
description-same a b e = cc

-- the own pad is among those that the own descriptor asks for
pub own-made : (run : Run) → HonestRun run
    → Contains (made_pads (own_pad_seeds run.config) run.config.number run.config.message)
    (own_pad (own_pad_seeds run.config) run.config.number run.config.message)
own-made run honest =
    let c = run.config in
    let seeds : List (List ℕ) = own_pad_seeds c in
    let within = slot-bounds (shape_in c) 0 c.number (own-speaks c honest.config) in
    let count : length seeds ≡ (shape_in c).members = length-map-range_with_len (derived c.fresh c.round 12) 1 (shape_in c).members in
    let first = within.1 in
    let last : c.number ≤ length seeds = (let most = within.2 in omega (arith, count)) in
    subst (Contains (made_pads seeds c.number c.message)) (made_pads-own seeds c.number c.message first last)
    (place-listed (made_pads seeds c.number c.message) (c.number - 1)
    (omega (arith, first, last, length-made_pads seeds c.number c.message first last)))

-- ---- the law

frame-pad : (run : Run) (runs : List Run) (t : Transcript) → Contains runs run → OneRun t run → IsTranscript (shape_in run.config) t
    → IsBytes (transcript_spelling t) → NoneCollide run.config.roster runs (transcript_spelling t)
    → ShowsBadPad run.config.roster t → ⊥
frame-pad run runs t listed one form bytes none e = held.2.other (sent ∙ either)
  where
    c : Configuration
    c = run.config

    shape : Shape
    shape = shape_in c

    a : Accusation
    a = e.accusation

    own : IsRowOf run (record { header = e.header; body = Pads e.pads })
    own = own-pads run t one e

    past : List (List ℕ)
    past = contents_of own.row.past

    at : own.row.stage ≡ pad_stage shape
    at = sym own.at ∙ e.at

    number : a.member ≡ c.number
    number = e.accused ∙ sym one.number

    same : contents_of e.log ≡ past
    same = same-past run runs t listed one form bytes none e own

    keys : List (List ℕ)
    keys = keys_said shape past bulk_place

    table : List (List (List ℕ))
    table = table_of shape t.accused e.pads

    held : Holds a (descriptors_opened shape past) table keys
    held = subst (λ (p : List (List ℕ)). Holds a (descriptors_opened shape p) table (keys_said shape p bulk_place)) same e.holds

    d : Description
    d = held.0

    item : (entry : List ℕ) × (slice_get (items_opened shape past 1) (a.slot - 1) ≡ Some (Some entry))
        × (descriptor_read shape.members entry ≡ Some d)
    item = opened-at shape past a.slot d held.1

    own_bytes : List ℕ
    own_bytes = own_descriptor c past

    kept : List ℕ
    kept = own_pad (own_pad_seeds c) c.number c.message

    seed : List ℕ
    seed = own_key_seed c bulk_place

    pad : List ℕ
    pad = pad_of a.seed d.length

    hash : hash_of_pad pad ≡ pad_hash_for d c.number
    hash = subst (λ (m : ℕ). hash_of_pad pad ≡ pad_hash_for d m) number held.2.hash

    sent : pad_sent table a.member a.slot ≡ pad_row shape.members own_bytes kept c.number seed item.0
    sent =
        let member = accused-within shape t form in
        ap (λ (m : ℕ). pad_sent table m a.slot) e.accused
        ∙ sent-is shape t.accused a.slot e.pads member.0 member.1
        ∙ ap (λ (pads : List (List ℕ)). slice_index_or pads (a.slot - 1) [])
        (pads-own run e.header e.pads own one.honest.config.enter.message at)
        ∙ get_or_from_slice_get (row_pads c past) (a.slot - 1) _ []
        (slice_get-map (pad_for c own_bytes) (items_opened shape past 1) (a.slot - 1) ∙ ap (option_map (pad_for c own_bytes)) item.1)

    -- of another descriptor the member opens its own capsule
    of_others : bytes_eq item.0 own_bytes ≡ false → pad_row shape.members own_bytes kept c.number seed item.0 ≡ pad
    of_others apart =
        let long = (detail-is t.claim a (subst (HasDetail t.claim) e.detail form.detail)).1 in
        let sealed : capsule_for d c.number ≡ capsule_of (key_of_seed seed) a.seed =
        subst (λ (m : ℕ). capsule_for d m ≡ capsule_of (key_for keys m) a.seed) number held.2.sealed
        ∙ ap (λ (key : List ℕ). capsule_of key a.seed) (bulk-key run _ own one.honest
        (let some : pad_stage shape ≡ shape.members + 4 = refl in omega (arith, at, some))) in
        let opens : opened seed (capsule_for d c.number) ≡ Some a.seed =
        (opens_exactly seed (capsule_for d c.number) a.seed).1 (seed-message t a bytes e.detail long, sealed) in
        pad_row-other shape.members own_bytes kept c.number seed item.0 pad d apart item.2 (found-opened d c.number seed a.seed opens hash)

    -- for its own it sends its own pad, and no other has the hash
    of_own : item.0 ≡ own_bytes → pad_row shape.members own_bytes kept c.number seed item.0 ≡ pad
    of_own is =
        let can = can-make run past one.honest in
        let made : d ≡ own_description c past =
        description-same d (own_description c past) (sym item.2 ∙ ap (descriptor_read shape.members) is ∙ own-read run past one.honest) in
        let size : d.length ≡ length c.message = ap (λ (x : Description). x.length) made
        ∙ length_of-made keys (own_pad_seeds c) c.number c.message in
        let message = one.honest.config.enter.message in
        pad_row-own shape.members own_bytes kept c.number seed item.0 ((bytes_eq-Decides item.0 own_bytes).1 is)
        ∙ fits_determines (strings_of_runs runs ++ strings_of_evidence c.roster (transcript_spelling t)) d c.number kept pad
        (omega (arith, size, message)) none of_run of_accusation
        (subst (λ (x : Description). fits x c.number kept ≡ true) (sym made)
        (own_pad_fits shape.members keys (own_pad_seeds c) c.number c.message can))
        (fits_from d c.number pad (length-pad_of a.seed d.length) hash)
      where
        of_run : Contains (strings_of_runs runs ++ strings_of_evidence c.roster (transcript_spelling t)) (pad_string kept)
        of_run = Contains-append_left (strings_of_runs runs) (strings_of_evidence c.roster (transcript_spelling t)) (pad_string kept)
            (contains-flat-from strings_of_run runs run (pad_string kept) listed
            ((run_has_strings run).own_pads kept (own-made run one.honest)))

        of_accusation : Contains (strings_of_runs runs ++ strings_of_evidence c.roster (transcript_spelling t)) (pad_string pad)
        of_accusation = transcript-among run runs t one form (pad_string pad)
            ((transcript_has_strings c.roster t).accused_pad a (log_kept shape e.log) d e.detail (listed-log run t form e)
            (ap (λ (posts : List Post). descriptor_at (descriptors_opened shape (contents_of posts)) a.slot) (kept-posts shape e.log)
            ∙ ap (λ (p : List (List ℕ)). descriptor_at (descriptors_opened shape p) a.slot) same ∙ held.1))

    either : pad_row shape.members own_bytes kept c.number seed item.0 ≡ pad
    either = elim (cases_Bool (bytes_eq item.0 own_bytes)) [
      | inl equal ↦ of_own ((bytes_eq-Decides item.0 own_bytes).0 equal)
      | inr apart ↦ of_others apart
    ]

pub frame_pad : NotShownUnlessCollide ShowsBadPad
frame_pad = by-run-unless ShowsBadPad
    (λ roster t form e. record {
      bytes = e.pads_post;
      content = e.pads_are.text;
      header = e.header;
      listed = got-listed t.posts _ e.pads_post e.last;
      says = e.pads_are.says;
      sender = e.sender;
    })
    frame-pad
