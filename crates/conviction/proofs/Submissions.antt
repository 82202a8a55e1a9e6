-- The submission of an honest member opens through its outer layers, and each carries its seed.
use Rattle.std.proofs.Common.{◌≡◌, ℕ, zero, suc, ◌+◌, ◌-◌, ◌<◌, ◌≤◌, true, List, [], ◌∷◌, length, get_or, map, take, Option, Some, None, ap, sym, ◌∙◌, refl, subst, arith, rules}
use Rattle.std.specs.Prelude.{bytes_eq, option_and_then, option_map, slice_index_or}
use Rattle.std.specs.List.{slice_get}
use Rattle.std.proofs.lemmas.List.{ext_get_or, get_or-take, length-map, take-map}
use Rattle.std.proofs.lemmas.List.FromFn.{length-map-range_with_len}
use Rattle.std.proofs.lemmas.Option.{get_or_from_slice_get, slice_get-get_or, slice_get-map}
use Rattle.std.proofs.lemmas.Slice.Eq.{bytes_eq-Decides}
use Rattle.wire_core.specs.Answers.{fault_unless}
use Rattle.wire_core.specs.Hash.{layer_seed}
use Rattle.wire_core.proofs.AnswerLemmas.{first_below-found}
use Rattle.ring_encrypt.specs.Capsule.{key_of_seed}
use Rattle.layer_cipher.specs.Layer.{opened_through, peeled, wrapping_of}
use Rattle.layer_cipher.proofs.WrapLemmas.{wrapped_opens}
use Rattle.phase_message.specs.declared.content.Body.{Body}
use Rattle.phase_message.specs.declared.content.Body.TheVariants.{Keys, Submit, Shuffled, Abort, Go, Reveal, Dispute, Pads, Check, Confirm, Differ}
use Rattle.phase_message.specs.declared.post.Post.{Post}
use Rattle.phase_message.specs.declared.stage.StageKind.{StageKind}
use Rattle.phase_message.specs.declared.stage.StageKind.TheVariants.{Submit as AtSubmit, Final}
use Rattle.phase_message.specs.Offence.{content_read}
use Rattle.phase_message.specs.Shape.{Shape}
use Rattle.phase_message.specs.Slots.{slot_number, slots_before}
use Rattle.phase_message.specs.Stages.{is_member, is_slot, kind_of_stage, speaks}
use Rattle.phase_message.proofs.SlotLists.{slot_number-within, slots_before-rises}
use Rattle.stage_log.specs.Log.{contents_of}
use Rattle.shuffle_core.proofs.LayerSeeds.{seeds_are_by_layer, seeds_are_messages}
use Rattle.shuffle_blame.specs.declared.fault.Cause.TheVariants.{Submission}
use Rattle.shuffle_blame.specs.declared.fault.Fault.{Fault}
use Rattle.shuffle_blame.specs.Laws.{IsMember}
use Rattle.shuffle_blame.specs.Replay.{Inquiry, body_of, ciphertext_of, fault, has_layer, inside, is_passed, layer_fault, outer_opening, outer_place, outer_seed, outer_seeds, own_layer_seed, seed_fault, submission, submit_stage}
use Rattle.shuffle_blame.proofs.Endings.{submit_there}
use Rattle.shuffle_blame.proofs.Faults.{no_seed_fault}
use Rattle.shuffle_blame.proofs.Slots.{end-least}
use Rattle.round_spec.specs.Say.{Configuration, own_body_if, own_descriptor, own_layer_seeds, own_opening, own_submission, shape_in}
use Rattle.round_spec.specs.Slots.{key_said, keys_in, keys_said, said_in}
use Rattle.round_spec.specs.Rows.{IsOwnRow}
use Rattle.round_spec.specs.Runs.{HonestRun, Run}
use Rattle.conviction.specs.Blame.{IsOwnInquiry, SubmissionNotOwn}
use Rattle.conviction.proofs.Bodies.{OneBody, body_due, row-text}
use Rattle.conviction.proofs.OwnRows.{OwnSaid, own-body, own-said, own-speaks}
use Rattle.conviction.proofs.Replays.{by-member, not_both, unless-found}

-- ---- what a submission is

-- a body of the kind and the text of a submission is it
submit-told : (b : Body) (ciphertext : List ℕ) → OneBody b (Submit ciphertext) → b ≡ Submit ciphertext
submit-told (Submit c) ciphertext one = ap (λ (x : List ℕ). Submit x) one.text
submit-told (Keys keys) ciphertext one = absurd (let k = one.kind in omega arith)
submit-told (Shuffled list) ciphertext one = absurd (let k = one.kind in omega arith)
submit-told Abort ciphertext one = absurd (let k = one.kind in omega arith)
submit-told (Go vote) ciphertext one = absurd (let k = one.kind in omega arith)
submit-told (Reveal votes seed) ciphertext one = absurd (let k = one.kind in omega arith)
submit-told (Dispute posts seed opening) ciphertext one = absurd (let k = one.kind in omega arith)
submit-told (Pads pads) ciphertext one = absurd (let k = one.kind in omega arith)
submit-told (Check vote) ciphertext one = absurd (let k = one.kind in omega arith)
submit-told (Confirm votes) ciphertext one = absurd (let k = one.kind in omega arith)
submit-told (Differ posts) ciphertext one = absurd (let k = one.kind in omega arith)

-- what the member of a row submits
abbrev pub submitted : (run : Run) → List (List ℕ) → ℕ → List ℕ
submitted run past shuffle = (own_submission run.config (own_descriptor run.config past) past shuffle).ciphertext

pub submits : (run : Run) (content : List ℕ) (row : IsOwnRow run content) (shuffle : ℕ)
    → kind_of_stage (shape_in run.config) row.stage ≡ Some (AtSubmit shuffle)
    → row.read.body ≡ Submit (submitted run (contents_of row.past) shuffle)
submits run content row shuffle kind =
    let due : body_due run content row ≡ Submit (submitted run (contents_of row.past) shuffle) =
    ap (own_body_if run.config (own_descriptor run.config (contents_of row.past)) row.past row.stage) kind in
    submit-told row.read.body (submitted run (contents_of row.past) shuffle) (subst (OneBody row.read.body) due (row-text run content row))

-- ---- layers

-- what is found in the layer of a place
pub record IsLayer (seeds : List (List ℕ)) (entry : List ℕ) (ms : List (List ℕ)) (place : ℕ) : Type 0 where
  pub before : List (List ℕ)
  pub body : List ℕ
  pub next : List ℕ
  pub opens : opened_through (take place seeds) entry ≡ Some (before, body)
  pub layer : peeled (get_or seeds place []) body ≡ Some (get_or ms place [], next)

abbrev Found : Type 0
Found = List (List ℕ) × List ℕ

-- a layer behind the first is one of what is left
abbrev Again : List (List ℕ) → Type 0
Again seeds = (entry : List ℕ) (all : Found) (place : ℕ) → opened_through seeds entry ≡ Some all → place < length seeds
    → IsLayer seeds entry all.0 place

layer-here : (seed : List ℕ) (seeds : List (List ℕ)) (entry m next : List ℕ) (rest : Found) (place : ℕ) → Again seeds
    → place < length (seed ∷ seeds)
    → peeled seed entry ≡ Some (m, next)
    → opened_through seeds next ≡ Some rest → IsLayer (seed ∷ seeds) entry (m ∷ rest.0) place
unfolding opened_through
layer-here seed seeds entry m next rest zero again lt first others = record
    { before = []; body = entry; next = next; opens = refl; layer = first }
layer-here seed seeds entry m next rest (suc place) again lt first others =
    let more = again next rest place others (omega (arith, lt)) in
    record {
      before = m ∷ more.before;
      body = more.body;
      next = more.next;
      opens = rw first (ap (option_map (λ (q : Found). (m ∷ q.0, q.1))) more.opens);
      layer = more.layer;
    }

layer-rest : (seed : List ℕ) (seeds : List (List ℕ)) (entry m next : List ℕ) (o : Option Found) (all : Found) (place : ℕ) → Again seeds
    → place < length (seed ∷ seeds) → peeled seed entry ≡ Some (m, next)
    → opened_through seeds next ≡ o → option_map (λ (q : Found). (m ∷ q.0, q.1)) o ≡ Some all → IsLayer (seed ∷ seeds) entry all.0 place
layer-rest seed seeds entry m next None all place again lt first others e = absurd cc
layer-rest seed seeds entry m next (Some rest) all place again lt first others e =
    let same : (m ∷ rest.0, rest.1) ≡ all = cc in
    subst (λ (x : Found). IsLayer (seed ∷ seeds) entry x.0 place) same (layer-here seed seeds entry m next rest place again lt first others)

layer-first : (seed : List ℕ) (seeds : List (List ℕ)) (entry : List ℕ) (o : Option (List ℕ × List ℕ)) (all : Found) (place : ℕ)
    → Again seeds
    → place < length (seed ∷ seeds) → peeled seed entry ≡ o
    → option_and_then (λ (p : List ℕ × List ℕ). option_map (λ (q : Found). (p.0 ∷ q.0, q.1)) (opened_through seeds p.1)) o ≡ Some all
    → IsLayer (seed ∷ seeds) entry all.0 place
layer-first seed seeds entry None all place again lt first e = absurd cc
layer-first seed seeds entry (Some p) all place again lt first e =
    layer-rest seed seeds entry p.0 p.1 (opened_through seeds p.1) all place again lt first refl e

pub layer-at : (seeds : List (List ℕ)) (entry : List ℕ) (all : Found) (place : ℕ) → opened_through seeds entry ≡ Some all
    → place < length seeds
    → IsLayer seeds entry all.0 place
unfolding opened_through
layer-at [] entry all place e lt = absurd (omega (arith, lt))
layer-at (seed ∷ seeds) entry all place e lt =
    layer-first seed seeds entry (peeled seed entry) all place (λ next rest k others few. layer-at seeds next rest k others few) lt refl e

-- ---- the keys that were said

-- where every shown seed is that of an outer key, the outer keys that were said are those of the shown seeds
key-shown : (q : Inquiry) (shuffle n member : ℕ) → seed_fault q shuffle ≡ None → IsMember q member → slots_before q.shape 1 ≤ n
    → is_slot q.shape 0 member ≡ true
    → key_said q.shape (take n q.past) (outer_place shuffle) member ≡ key_of_seed (outer_seed q member)
unfolding said_in
key-shown q shuffle n member none is far speaks =
    let keys = no_seed_fault q shuffle member none is in
    let within = (slot_number-within q.shape 0 member speaks).1 in
    let number : ℕ = slot_number q.shape 0 member in
    let same : slice_index_or (take n q.past) number [] ≡ slice_index_or q.past number [] = get_or-take n q.past number []
    (omega (arith, within, far)) in
    ap (λ (bytes : List ℕ). slice_index_or (keys_in (body_of (content_read q.shape bytes))) (outer_place shuffle) []) same
    ∙ ap (λ (b : Body). slice_index_or (keys_in b) (outer_place shuffle) []) keys.1
    ∙ sym keys.2

is-there : (n member : ℕ) → 1 ≤ member → member ≤ n → is_member n member ≡ true
is-there n member first last = search rules

pub keys-shown : (q : Inquiry) (shuffle n : ℕ) → seed_fault q shuffle ≡ None → length q.shown ≡ q.shape.members → slots_before q.shape 1 ≤ n
    → keys_said q.shape (take n q.past) (outer_place shuffle) ≡ map key_of_seed (outer_seeds q)
keys-shown q shuffle n none many far =
    let seeds : List (List ℕ) = outer_seeds q in
    let long : length seeds ≡ q.shape.members = length-map q.shown _ ∙ many in
    let said : List (List ℕ) = keys_said q.shape (take n q.past) (outer_place shuffle) in
    let count : length said ≡ q.shape.members = length-map-range_with_len (key_said q.shape (take n q.past) (outer_place shuffle)) 1
    q.shape.members in
    ext_get_or [] said (map key_of_seed seeds) (count ∙ sym long ∙ sym (length-map seeds key_of_seed))
    (λ i lt.
    let few : i < q.shape.members = omega (arith, lt, count) in
    let back : i + 1 - 1 ≡ i = omega arith in
    let member : IsMember q (i + 1) = record { least = omega arith; most = omega (arith, few) } in
    let here = by-member (key_said q.shape (take n q.past) (outer_place shuffle)) q.shape.members (i + 1) (omega arith) (omega (arith, few))
    in
    get_or_from_slice_get said i _ [] (ap (slice_get said) (sym back) ∙ here)
    ∙ key-shown q shuffle n (i + 1) none member far (is-there q.shape.members (i + 1) (omega arith) (omega (arith, few)))
    ∙ ap (λ (k : ℕ). key_of_seed (get_or seeds k [])) back
    ∙ sym (get_or_from_slice_get (map key_of_seed seeds) i (key_of_seed (get_or seeds i [])) []
    (slice_get-map key_of_seed seeds i ∙ ap (option_map key_of_seed) (slice_get-get_or seeds i [] (omega (arith, few, long))))))

-- ---- the own submission

-- the own submission of a shuffle that has ended
pub record IsSubmitted (run : Run) (q : Inquiry) (posts : List Post) (shuffle : ℕ) : Type 0 where
  pub said : List (List ℕ)
  pub is : submission q run.config.number ≡ submitted run said shuffle
  pub keys : keys_said (shape_in run.config) said (outer_place shuffle) ≡ map key_of_seed (outer_seeds q)
  pub front : said ≡ take (slots_before (shape_in run.config) (submit_stage q)) (contents_of posts)

pub own-submitted : (run : Run) (q : Inquiry) (shuffle : ℕ) → HonestRun run → (is : IsOwnInquiry run q)
    → kind_of_stage q.shape q.stage ≡ Some (Final shuffle)
    → seed_fault q shuffle ≡ None → IsSubmitted run q is.posts shuffle
own-submitted run q shuffle honest is kind none = record {
  said = contents_of own.row.past;
  is = body;
  keys = keys;
  front = ap contents_of own.front ∙ sym (take-map (λ (p : Post). p.content) (slots_before (shape_in run.config) (submit_stage q))
      is.posts);
}
  where
    c : Configuration
    c = run.config

    stage : ℕ
    stage = submit_stage q

    late : q.shape.members + 3 ≤ q.stage
    late = end-least q.shape q.stage shuffle kind

    at : kind_of_stage (shape_in c) stage ≡ Some (AtSubmit shuffle)
    at = ap (λ (s : Shape). kind_of_stage s stage) (sym is.shape) ∙ submit_there q.shape q.stage shuffle kind

    own : OwnSaid run is.posts stage
    own =
        own-said run q.stage stage is.posts honest is.kept
        (ap (λ (o : Option StageKind). speaks (shape_in c) o c.number) at ∙ own-speaks c honest.config) (let some = late in omega arith)

    here : kind_of_stage (shape_in c) own.row.stage ≡ Some (AtSubmit shuffle)
    here = ap (kind_of_stage (shape_in c)) own.at ∙ at

    body : submission q c.number ≡ submitted run (contents_of own.row.past) shuffle
    body =
        ap (λ (s : Shape). ciphertext_of (body_of (content_read s (slice_index_or q.past (slot_number s stage c.number) [])))) is.shape
        ∙ ap (λ (past : List (List ℕ)). ciphertext_of (body_of (content_read (shape_in c)
        (slice_index_or past (slot_number (shape_in c) stage c.number) [])))) is.past
        ∙ ap ciphertext_of (own-body run is.posts stage own ∙ submits run own.text own.row shuffle here)

    keys : keys_said (shape_in c) (contents_of own.row.past) (outer_place shuffle) ≡ map key_of_seed (outer_seeds q)
    keys =
        let n : ℕ = slots_before (shape_in c) stage in
        let some = late in
        let far : slots_before q.shape 1 ≤ n =
        omega (arith, slots_before-rises q.shape 1 stage (omega arith), ap (λ (s : Shape). slots_before s stage) is.shape) in
        let front : contents_of own.row.past ≡ take n q.past =
        ap contents_of own.front ∙ sym (take-map (λ (p : Post). p.content) n is.posts) ∙ ap (take n) (sym is.past) in
        ap (λ (past : List (List ℕ)). keys_said (shape_in c) past (outer_place shuffle)) front
        ∙ ap (λ (s : Shape). keys_said s (take n q.past) (outer_place shuffle)) (sym is.shape)
        ∙ keys-shown q shuffle n none (is.shows shuffle kind).many far

-- the shown seeds open the own submission, and each layer carries its seed
pub own-opens : (run : Run) (q : Inquiry) (shuffle : ℕ) → (is : IsOwnInquiry run q) → kind_of_stage q.shape q.stage ≡ Some (Final shuffle)
    → (own : IsSubmitted run q is.posts shuffle)
    → opened_through (outer_seeds q) (submission q run.config.number)
    ≡ Some (
      own_layer_seeds run.config shuffle 2,
      (own_submission run.config (own_descriptor run.config own.said) own.said
          shuffle).inner_ciphertext,
    )
unfolding own_submission
own-opens run q shuffle is kind own =
    let c = run.config in
    let seeds : List (List ℕ) = outer_seeds q in
    let ms : List (List ℕ) = own_layer_seeds c shuffle 2 in
    let blob : List ℕ = (own_submission c (own_descriptor c own.said) own.said shuffle).inner_ciphertext in
    let good = seeds_are_messages (own_opening c shuffle 2) c.round shuffle 2 c.number (shape_in c).members in
    let count : length seeds ≡ length ms = length-map q.shown _ ∙ (is.shows shuffle kind).many ∙ ap (λ (s : Shape). s.members) is.shape
    ∙ sym good.0 in
    ap (opened_through seeds) (own.is ∙ ap (λ (keys : List (List ℕ)). wrapping_of keys ms blob) own.keys)
    ∙ wrapped_opens seeds ms blob count good.1

carries : (o : Option (List ℕ × List ℕ)) (m next seed : List ℕ) → o ≡ Some (m, next) → m ≡ seed
    → is_passed (λ x. bytes_eq x seed) (option_map (λ (found : List ℕ × List ℕ). found.0) o) ≡ true
carries o m next seed e same =
    ap (λ (o : Option (List ℕ × List ℕ)). is_passed (λ x. bytes_eq x seed) (option_map (λ (found : List ℕ × List ℕ). found.0) o)) e
    ∙ (bytes_eq-Decides m seed).1 same

pub submission_not_own : SubmissionNotOwn
submission_not_own run q shuffle found honest is kind none e own =
    let at = first_below-found (λ place. layer_fault q shuffle (place + 1)) q.shape.members found e in
    let layer =
    first_below-found (λ place. fault_unless (has_layer q shuffle (at.0 + 1) (place + 1)) (fault (Submission (place + 1)) (at.0 + 1)))
    q.shape.members found at.2 in
    let parts = unless-found (has_layer q shuffle (at.0 + 1) (layer.0 + 1)) (fault (Submission (layer.0 + 1)) (at.0 + 1)) found layer.2 in
    let member : at.0 + 1 ≡ run.config.number = ap (λ (f : Fault). f.member) parts.1 ∙ own in
    not_both (has_layer q shuffle run.config.number (layer.0 + 1)) (has layer.0 layer.1)
    (ap (λ (m : ℕ). has_layer q shuffle m (layer.0 + 1)) (sym member) ∙ parts.0)
  where
    c : Configuration
    c = run.config

    has : (place : ℕ) → place < q.shape.members → has_layer q shuffle c.number (place + 1) ≡ true
    has place lt =
        let shows = is.shows shuffle kind in
        let submitted_is = own-submitted run q shuffle honest is kind none in
        let many = length-map q.shown (λ shown. shown.outer_seed) ∙ shows.many in
        let found = layer-at (outer_seeds q) (submission q c.number) _ place (own-opens run q shuffle is kind submitted_is)
        (omega (arith, lt, many)) in
        let back : place + 1 - 1 ≡ place = omega arith in
        let opened : inside q (submission q c.number) (place + 1 - 1) ≡ Some found.body =
        ap (inside q (submission q c.number)) back ∙ ap (option_map (λ (f : List (List ℕ) × List ℕ). f.1)) found.opens in
        let peels : option_and_then (peeled (outer_seed q (place + 1))) (inside q (submission q c.number) (place + 1 - 1)) ≡ Some
        (get_or (own_layer_seeds c shuffle 2) place [], found.next) =
        ap (option_and_then (peeled (outer_seed q (place + 1)))) opened
        ∙ ap (λ (k : ℕ). peeled (get_or (outer_seeds q) k []) found.body) back ∙ found.layer in
        let few : place < (shape_in c).members = omega (arith, lt, ap (λ (s : Shape). s.members) is.shape) in
        let seed : get_or (own_layer_seeds c shuffle 2) place [] ≡ own_layer_seed q shuffle c.number (place + 1) =
        seeds_are_by_layer (own_opening c shuffle 2) c.round shuffle 2 c.number (shape_in c).members place few
        ∙ ap (λ (opening : List ℕ). layer_seed opening c.round shuffle 2 c.number (place + 1)) (sym shows.opening)
        ∙ ap (λ (round : ℕ). layer_seed (outer_opening q c.number) round shuffle 2 c.number (place + 1)) (sym is.round) in
        carries (option_and_then (peeled (outer_seed q (place + 1))) (inside q (submission q c.number) (place + 1 - 1))) _ found.next
        (own_layer_seed q shuffle c.number (place + 1)) peels seed
