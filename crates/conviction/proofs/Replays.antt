-- What the posts of a replay embed is what the accused kept, and the replay of it finds no fault of its views and seeds.
use Rattle.std.proofs.Common.{◌≡◌, ℕ, ◌+◌, ◌-◌, ◌<◌, ◌≤◌, Bool, true, false, List, [], length, map, take, Option, Some, None, Result, Ok, ap, sym, ◌∙◌, refl, subst, arith, inl, inr}
use Rattle.std.specs.Prelude.{◌==◌, Contains, IsSome, option_and_then, option_map, slice_index_or}
use Rattle.std.specs.List.{slice_get, range_with_len}
use Rattle.std.proofs.lemmas.Bool.{and_parts, cases_Bool, cases_lt, cond-true, cond-false, leb-true}
use Rattle.std.proofs.lemmas.List.{take_all}
use Rattle.std.proofs.lemmas.List.FromFn.{length-map-range_with_len}
use Rattle.std.proofs.lemmas.Option.{get_or_from_slice_get, option_and_then_some, slice_get-map}
use Rattle.std.proofs.lemmas.Slice.Eq.{bytes_eq-Decides}
use Rattle.wire_core.specs.Answers.{fault_unless}
use Rattle.wire_core.proofs.AnswerLemmas.{first_below-found}
use Rattle.ring_encrypt.specs.Capsule.{key_of_seed}
use Rattle.phase_message.specs.declared.content.Body.{Body}
use Rattle.phase_message.specs.declared.content.Body.TheVariants.{Keys, Submit, Shuffled, Abort, Go, Reveal, Dispute, Pads, Check, Confirm, Differ}
use Rattle.phase_message.specs.declared.content.Content.{Content}
use Rattle.phase_message.specs.declared.post.Post.{Post}
use Rattle.phase_message.specs.declared.stage.Slot.{Slot}
use Rattle.phase_message.specs.declared.stage.StageKind.{StageKind}
use Rattle.phase_message.specs.declared.stage.StageKind.TheVariants.{Go as AtGo, Final}
use Rattle.phase_message.specs.Offence.{content_read}
use Rattle.phase_message.specs.Shape.{Shape}
use Rattle.phase_message.specs.Slots.{slot_at, slot_number, slots_before}
use Rattle.phase_message.specs.Stages.{is_slot, kind_of_stage, vote_of}
use Rattle.phase_message.proofs.Closings.{closing-follows}
use Rattle.phase_message.proofs.SlotLists.{member-in, slot_at-is, slot_number-within, slots_before-rises}
use Rattle.stage_log.specs.Log.{before, contents_of, first_wrong, is_right, wrong_at, wrong_slot}
use Rattle.go_nogo.specs.Closing.{embedded_of, is_assent}
use Rattle.go_nogo.specs.Rows.{final_row, posts_at, written}
use Rattle.go_nogo.specs.Votes.{votes_agree}
use Rattle.shuffle_blame.specs.declared.fault.Cause.TheVariants.{View, OuterSeed}
use Rattle.shuffle_blame.specs.declared.fault.Fault.{Fault}
use Rattle.shuffle_blame.specs.declared.fault.Shown.{Shown}
use Rattle.shuffle_blame.specs.Replay.{body_in, body_of, fault, has_outer_key, outer_place, outer_seed, shows_its_seed}
use Rattle.stage_log.proofs.Pasts.{option_map-some}
use Rattle.round_spec.specs.Embedded.{BadPost, posts_in_content}
use Rattle.round_spec.specs.Say.{Configuration, own_key_seed, own_opening, shape_in}
use Rattle.round_spec.specs.Slots.{by_member}
use Rattle.round_spec.specs.Runs.{own_slot}
use Rattle.round_spec.specs.Verdict.{is_dissent, shown_in}
use Rattle.conviction.specs.Accepts.{Objects, inquiry_by, parts_shown, post_listed}
use Rattle.conviction.specs.Blame.{CommonLogIsOwn, IsOwnInquiry, SeedNotOwn, ShowsOwn, ViewNotOwn}
use Rattle.conviction.proofs.Closings.{IsPast, OwnClosing, final-is, is-past, own-closing}
use Rattle.conviction.proofs.Listed.{place-listed}
use Rattle.conviction.proofs.OnePost.{IsRowOf, file-row, keys-are, own_keys}
use Rattle.conviction.proofs.OwnRows.{OwnSaid, own-body, own-right, own-said, own-speaks}

-- ---- by member

-- the value of a member
pub by-member : {A : Type 0} (f : ℕ → A) (n member : ℕ) → 1 ≤ member → member ≤ n
    → slice_get (map f (range_with_len 1 n)) (member - 1) ≡ Some (f member)
by-member {A} f n member least most =
    let back : member - 1 + 1 ≡ member = omega arith in
    slice_get-map f (range_with_len 1 n) (member - 1) ∙ ap (option_map f) (member-in n (member - 1) (omega arith))
    ∙ ap (λ (k : ℕ). Some (f k)) back

-- ---- the log that is common

dissent-objects : (body : Body) → is_dissent body ≡ true → is_assent body ≡ false
dissent-objects (Dispute posts seed opening) e = refl
dissent-objects (Differ posts) e = refl
dissent-objects (Keys keys) e = absurd cc
dissent-objects (Submit ciphertext) e = absurd cc
dissent-objects (Shuffled list) e = absurd cc
dissent-objects Abort e = absurd cc
dissent-objects (Go vote) e = absurd cc
dissent-objects (Reveal votes seed) e = absurd cc
dissent-objects (Pads pads) e = absurd cc
dissent-objects (Check vote) e = absurd cc
dissent-objects (Confirm votes) e = absurd cc

-- where the member of a row objects at the end of a shuffle, it shows its own part
dispute-shows : (shape : Shape) (posts : List Post) (stage : ℕ) (inner outer opening : List ℕ)
    → is_dissent (final_row shape posts stage inner outer opening) ≡ true
    → shown_in (final_row shape posts stage inner outer opening) ≡ record { outer_seed = outer; outer_opening = opening }
unfolding final_row
dispute-shows shape posts stage inner outer opening dissents =
    let agree : Bool = votes_agree shape (contents_of posts) stage in
    let reveal : Body = Reveal (written (posts_at shape posts (stage - 1))) inner in
    let dispute : Body = Dispute (written posts) outer opening in
    elim (cases_Bool (votes_agree shape (contents_of posts) stage)) [
      | inl agrees ↦ absurd (let none = sym (ap is_dissent (cond-true agree reveal dispute agrees)) ∙ dissents in cc)
      | inr differs ↦ ap shown_in (cond-false agree reveal dispute differs)
    ]

posts-same : (a b : List Post) (r : Result (List Post) BadPost) → r ≡ Ok a → r ≡ Ok b → a ≡ b
posts-same a b r e e' = let both = sym e ∙ e' in cc

-- where the log and what is shown of a member are its own, so is what is replayed
pub common_log_is_own : CommonLogIsOwn
common_log_is_own run t one form e = from (file-row run t (post_listed t t.accused) (e.said t.accused) one own.file listed own.sender)
  where
    shape : Shape
    shape = shape_in run.config

    member : (1 ≤ t.accused) × (t.accused ≤ shape.members)
    member = (let parts = and_parts _ _ form.accused in (leb-true _ _ parts.0, leb-true _ _ parts.1))

    own : Objects run.config.roster t.round e.stage e.past t.accused (post_listed t t.accused) (e.said t.accused)
    own = e.object t.accused member.0 member.1

    listed : Contains t.posts (post_listed t t.accused)
    listed = place-listed t.posts (t.accused - 1) (let least = member.0 in let most = member.1 in let count = e.count in omega arith)

    from : IsRowOf run (e.said t.accused) → IsOwnInquiry run (inquiry_by shape t.round e.stage e.past e.said)
    from said = record {
      shape = refl;
      round = sym one.round;
      posts = said.row.past;
      kept = subst (λ (s : ℕ). before run.log s ≡ Some said.row.past) (sym stage) said.row.before;
      past = sym own.contents ∙ ap contents_of log;
      shows = shows;
    }
      where
        stage : e.stage ≡ said.row.stage
        stage = sym own.at ∙ said.at

        closing : IsSome (option_and_then vote_of (kind_of_stage shape said.row.stage))
        closing = subst (λ (s : ℕ). IsSome (option_and_then vote_of (kind_of_stage shape s))) stage e.closing

        is : OwnClosing run said.row.past said.row.read
        is = own-closing run said.text said.row one.honest closing

        dissents : is_dissent said.row.read.body ≡ true
        dissents = ap (λ (c : Content). is_dissent c.body) said.reads ∙ own.dissents

        past : IsPast run said.row.stage said.row.past
        past = is-past run said.row.stage said.row.past one.honest said.row.before

        whole : embedded_of shape said.row.read said.row.past ≡ said.row.past
        whole =
            let at : said.row.read.header.stage ≡ said.row.stage = ap (λ (c : Content). c.header.stage) said.reads ∙ said.at in
            let long = past.long in
            cond-false (is_assent said.row.read.body) _ (take (slots_before shape said.row.read.header.stage) said.row.past)
            (dissent-objects said.row.read.body dissents)
            ∙ take_all (slots_before shape said.row.read.header.stage) said.row.past (omega (arith, long, ap (slots_before shape) at))

        log : own.posts ≡ said.row.past
        log =
            let embeds : posts_in_content run.config.roster t.round (e.said t.accused) ≡ Ok (embedded_of shape said.row.read said.row.past)
            =
            ap (λ (c : Content). posts_in_content run.config.roster t.round c) (sym said.reads)
            ∙ ap (λ (r : ℕ). posts_in_content run.config.roster r said.row.read) (sym one.round) ∙ is.embeds in
            posts-same own.posts (embedded_of shape said.row.read said.row.past) _ own.embeds embeds ∙ whole

        shows : (shuffle : ℕ) → kind_of_stage shape e.stage ≡ Some (Final shuffle)
            → ShowsOwn run (inquiry_by shape t.round e.stage e.past e.said) shuffle
        shows shuffle kind =
            let all : parts_shown shape (kind_of_stage shape e.stage) e.said ≡ by_member shape (λ m. shown_in (e.said m).body) =
            ap (λ (o : Option StageKind). parts_shown shape o e.said) kind in
            let here : kind_of_stage shape said.row.stage ≡ Some (Final shuffle) = ap (kind_of_stage shape) (sym stage) ∙ kind in
            let read = final-is run said.text said.row shuffle one.honest here in
            let shown : shown_in (e.said t.accused).body ≡ record
            { outer_seed = own_key_seed run.config (outer_place shuffle); outer_opening = own_opening run.config shuffle 2 } =
            ap (λ (c : Content). shown_in c.body) (sym said.reads ∙ read)
            ∙ dispute-shows shape said.row.past said.row.stage _ _ _ (ap (λ (c : Content). is_dissent c.body) (sym read) ∙ dissents) in
            let place : slice_get (parts_shown shape (kind_of_stage shape e.stage) e.said) (run.config.number - 1) ≡ Some
            (shown_in (e.said t.accused).body) =
            ap (λ (xs : List Shown). slice_get xs (run.config.number - 1)) all
            ∙ ap (λ (m : ℕ). slice_get (by_member shape (λ m. shown_in (e.said m).body)) (m - 1)) one.number
            ∙ by-member (λ m. shown_in (e.said m).body) shape.members t.accused member.0 member.1 in
            record {
              many = ap length all ∙ length-map-range_with_len (λ m. shown_in (e.said m).body) 1 shape.members;
              seed =
                  get_or_from_slice_get (map (λ (s : Shown). s.outer_seed) (parts_shown shape (kind_of_stage shape e.stage) e.said))
                  (run.config.number - 1) _ []
                  (slice_get-map (λ (s : Shown). s.outer_seed) (parts_shown shape (kind_of_stage shape e.stage) e.said)
                  (run.config.number - 1) ∙ ap
                  (option_map (λ (s : Shown). s.outer_seed)) place)
                  ∙ ap (λ (s : Shown). s.outer_seed) shown;
              opening =
                  get_or_from_slice_get (map (λ (s : Shown). s.outer_opening) (parts_shown shape (kind_of_stage shape e.stage) e.said))
                  (run.config.number - 1) _ []
                  (slice_get-map (λ (s : Shown). s.outer_opening) (parts_shown shape (kind_of_stage shape e.stage) e.said)
                  (run.config.number - 1)
                  ∙ ap (option_map (λ (s : Shown). s.outer_opening)) place)
                  ∙ ap (λ (s : Shown). s.outer_opening) shown;
            }

-- ---- views

-- a slot with a number before a stage is of an earlier stage
earlier : (shape : Shape) (slot : Slot) (stage : ℕ) → is_slot shape slot.stage slot.sender ≡ true
    → slot_number shape slot.stage slot.sender < slots_before shape stage → slot.stage < stage
earlier shape slot stage speaks few = elim (cases_lt slot.stage stage) [
  | inl lt ↦ lt
  | inr late ↦
      absurd (let within = (slot_number-within shape slot.stage slot.sender speaks).0 in omega
      (arith, within, few, slots_before-rises shape stage slot.stage (omega arith)))
]

wrong-parts : (shape : Shape) (past : List (List ℕ)) (slot found : Slot) → wrong_slot shape past slot ≡ Some found
    → (is_right shape past slot ≡ false) × (slot ≡ found)
wrong-parts shape past slot found e = elim (cases_Bool (is_right shape past slot)) [
  | inl right ↦ absurd (let none = sym (cond-true (is_right shape past slot) None (Some slot) right) ∙ e in cc)
  | inr wrong ↦ (wrong, (let some : Some slot ≡ Some found = sym (cond-false (is_right shape past slot) None (Some slot) wrong) ∙ e in cc))
]

-- the first slot that is not right: it is one, and of an earlier stage
first-wrong : (shape : Shape) (past : List (List ℕ)) (stage : ℕ) (slot : Slot) → first_wrong shape past stage ≡ Some slot
    → (is_right shape past slot ≡ false) × (is_slot shape slot.stage slot.sender ≡ true) × (slot.stage < stage)
first-wrong shape past stage slot e =
    let found = first_below-found (wrong_at shape past) (slots_before shape stage) slot e in
    option_and_then_some (wrong_slot shape past) (slot_at shape found.0) slot found.2 (λ at there wrong. (
    let parts = wrong-parts shape past at slot wrong in
    let number = slot_at-is shape found.0 slot (there ∙ ap (λ (s : Slot). Some s) parts.1) in
    let few = found.1 in
    (ap (is_right shape past) (sym parts.1) ∙ parts.0, number.0, earlier shape slot stage number.0 (omega (arith, few, number.1)))))

pub not_both : (b : Bool) → b ≡ true → b ≡ false → ⊥
not_both b e f = absurd (let both = sym e ∙ f in cc)

pub view_not_own : ViewNotOwn
view_not_own run q found honest is e own =
    let some = option_map-some (λ (slot : Slot). fault View slot.sender) (first_wrong q.shape q.past q.stage) found e in
    refute some.0 (ap (λ (f : Fault). f.member) some.2 ∙ own) (first-wrong q.shape q.past q.stage some.0 some.1)
  where
    refute : (slot : Slot) → slot.sender ≡ run.config.number
        → (is_right q.shape q.past slot ≡ false) × (is_slot q.shape slot.stage slot.sender ≡ true) × (slot.stage < q.stage) → ⊥
    refute slot sender (wrong, speaks, lt) =
        let here : is_slot (shape_in run.config) slot.stage run.config.number ≡ true =
        ap (λ (s : Shape). is_slot s slot.stage run.config.number) (sym is.shape) ∙ ap (is_slot q.shape slot.stage) (sym sender) ∙ speaks in
        let said = own-said run q.stage slot.stage is.posts honest is.kept here lt in
        let slot_is : own_slot run slot.stage ≡ slot = ap (λ (k : ℕ). record { stage = slot.stage; sender = k }) (sym sender) in
        let right : is_right q.shape q.past slot ≡ true =
        ap (λ (s : Shape). is_right s q.past slot) is.shape ∙ ap (λ (past : List (List ℕ)). is_right (shape_in run.config) past slot)
        is.past
        ∙ ap (is_right (shape_in run.config) (contents_of is.posts)) (sym slot_is) ∙ own-right run is.posts slot.stage said in
        not_both (is_right q.shape q.past slot) right wrong

-- ---- outer seeds

pub outer-key : (c : Configuration) (shuffle : ℕ) → slice_index_or (own_keys c) (outer_place shuffle) [] ≡ key_of_seed
    (own_key_seed c (outer_place shuffle))
outer-key c shuffle = elim (cases_Bool (shuffle == 1)) [
  | inl first ↦
      let place : outer_place shuffle ≡ 1 = cond-true (shuffle == 1) 1 4 first in
      ap (λ (p : ℕ). slice_index_or (own_keys c) p []) place ∙ sym (ap (λ (p : ℕ). key_of_seed (own_key_seed c p)) place)
  | inr second ↦
      let place : outer_place shuffle ≡ 4 = cond-false (shuffle == 1) 1 4 second in
      ap (λ (p : ℕ). slice_index_or (own_keys c) p []) place ∙ sym (ap (λ (p : ℕ). key_of_seed (own_key_seed c p)) place)
]

-- whom the first fault of members names fails
pub unless-found : (b : Bool) (x found : Fault) → fault_unless b x ≡ Some found → (b ≡ false) × (x ≡ found)
unless-found true x found e = absurd cc
unless-found false x found e = (refl, cc)

pub seed_not_own : SeedNotOwn
seed_not_own run q shuffle found honest is kind e own =
    let at = first_below-found (λ place. fault_unless (shows_its_seed q shuffle (place + 1)) (fault OuterSeed (place + 1))) q.shape.members
    found e in
    let parts = unless-found (shows_its_seed q shuffle (at.0 + 1)) (fault OuterSeed (at.0 + 1)) found at.2 in
    let member : at.0 + 1 ≡ run.config.number = ap (λ (f : Fault). f.member) parts.1 ∙ own in
    not_both (shows_its_seed q shuffle run.config.number) shows_it (ap (shows_its_seed q shuffle) (sym member) ∙ parts.0)
  where
    c : Configuration
    c = run.config

    least : 1 ≤ q.stage
    least = (closing-follows q.shape q.stage (Final shuffle) (AtGo shuffle) kind refl).0

    said : OwnSaid run is.posts 0
    said = own-said run q.stage 0 is.posts honest is.kept (own-speaks c honest.config) (let some = least in omega arith)

    body : body_in q 0 c.number ≡ Keys (own_keys c)
    body =
        ap (λ (s : Shape). body_of (content_read s (slice_index_or q.past (slot_number s 0 c.number) []))) is.shape
        ∙ ap (λ (past : List (List ℕ)). body_of (content_read (shape_in c) (slice_index_or past (slot_number (shape_in c) 0 c.number) [])))
        is.past
        ∙ own-body run is.posts 0 said
        ∙ keys-are run said.text said.row (ap (kind_of_stage (shape_in c)) said.at)

    shows_it : shows_its_seed q shuffle c.number ≡ true
    shows_it =
        ap (has_outer_key shuffle (outer_seed q c.number)) body
        ∙ (bytes_eq-Decides (key_of_seed (outer_seed q c.number)) (slice_index_or (own_keys c) (outer_place shuffle) [])).1
        (ap key_of_seed (is.shows shuffle kind).seed ∙ sym (outer-key c shuffle))
