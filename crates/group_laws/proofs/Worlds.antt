-- In the group of a script members keep what they began with, and all that is delivered is bytes.
use Rattle.std.proofs.Common.{◌≡◌, ◌⊎◌, ℕ, zero, suc, ◌+◌, ◌<◌, Bool, true, false, List, [], ◌∷◌, ◌++◌, Option, Some, None, length, drop, map, ap, sym, ◌∙◌, refl, subst, arith, inl, inr}
use Rattle.std.specs.Prelude.{◌-◌, All, Contains, Result, Ok, Err, not, replicate}
use Rattle.std.specs.Fn.{iterate}
use Rattle.std.specs.Int.{to_be_bytes, w32}
use Rattle.std.specs.List.{AllByRecursion, flat_map}
use Rattle.std.proofs.lemmas.Bool.{cases_Bool, cond-false, cond-true}
use Rattle.std.proofs.lemmas.List.Elements.{Contains-append_cases}
use Rattle.std.proofs.lemmas.List.FromFn.{length-range_with_len}
use Rattle.std.proofs.lemmas.Option.{none-some, slice_get_within}
use Rattle.wire_core.specs.Bytes.{IsBytes}
use Rattle.wire_core.proofs.ByteLists.{IsBytes-append, IsBytes-cons, IsBytes-nil, IsBytes-to_be_bytes}
use Rattle.phase_message.specs.declared.content.Body.{Body}
use Rattle.phase_message.specs.declared.content.Body.TheVariants.{Go}
use Rattle.phase_message.specs.declared.content.Content.{Content}
use Rattle.phase_message.specs.declared.offence.Offence.{Offence}
use Rattle.phase_message.specs.declared.post.Post.{Post}
use Rattle.phase_message.specs.Grammar.{content_text, flag_text}
use Rattle.phase_message.specs.Offence.{content_read}
use Rattle.phase_message.specs.Post.{post_spelling}
use Rattle.phase_message.specs.Shape.{Shape}
use Rattle.phase_message.specs.Stages.{kind_of_stage}
use Rattle.phase_message.proofs.SlotLists.{member-in}
use Rattle.phase_message.proofs.Whole.{content-is_spelled}
use Rattle.round_spec.specs.Runs.{CanEnter}
use Rattle.round_spec.specs.Say.{Configuration, number_said_before, shape_in, signed_at}
use Rattle.round_spec.proofs.Contained.{contains-cases, contains-flat, contains-here, contains-later, contains-map, contains-map-from, contains-nothing}
use Rattle.round_spec.proofs.OwnBytes.{signature-bytes}
use Rattle.round_spec.proofs.SealedBytes.{all-places}
use Rattle.round_script.specs.declared.fault.Fault.{Fault}
use Rattle.round_script.specs.declared.fault.Fault.TheVariants.{TwoVotes}
use Rattle.round_script.specs.declared.script.Script.{Script}
use Rattle.round_script.specs.Script.{IsScript}
use Rattle.group_spec.specs.Driver.{MemberShown, group_end, shown_of}
use Rattle.group_spec.specs.Scripts.{script_carriage, script_end, script_members, script_seat}
use Rattle.group_spec.specs.World.{Carriage, Entry, Seat, World, actor_of, entries_behind, entries_beyond, entries_of, entries_with, first_world, greatest_steps, is_dropped, is_first_vote, is_for, last_world, other_vote, seat_behind, second_content, signed_with, with_other_vote, world_behind_entry, world_behind_queue, world_behind_step}
use Rattle.group_spec.proofs.Made.{choose}
use Rattle.group_laws.specs.Entering.{IsMemberOf}
use Rattle.group_laws.specs.Promises.{DeliveriesAreBytes}
use Rattle.group_laws.proofs.Actors.{contains-place, member-is-sober}
use Rattle.group_laws.proofs.Changes.{head-bytes, text-bytes}
use Rattle.group_laws.proofs.Entering.{can-enter}

-- ---- lists

contains-drop : {A : Type 0} (n : ℕ) (xs : List A) (x : A) → Contains (drop n xs) x → Contains xs x
contains-drop zero xs x c = c
contains-drop (suc n) [] x c = c
contains-drop (suc n) (y ∷ ys) x c = contains-later y ys x (contains-drop n ys x c)

all-append : {A : Type 0} (P : A → Type 0) (xs ys : List A) → AllByRecursion P xs → AllByRecursion P ys → AllByRecursion P (xs ++ ys)
all-append P [] ys first second = second
all-append P (x ∷ xs) ys first second = (first.0, all-append P xs ys first.1 second)

all-replicate : {A : Type 0} (P : A → Type 0) (n : ℕ) (x : A) → P x → AllByRecursion P (replicate n x)
all-replicate P zero x is = tt
all-replicate P (suc n) x is = (is, all-replicate P n x is)

pub all-told : {A : Type 0} (P : A → Type 0) (xs : List A) → ((x : A) → P x) → AllByRecursion P xs
all-told P [] each = tt
all-told P (x ∷ xs) each = (each x, all-told P xs each)

pub mapped-mapped : {A B C : Type 0} (f : B → C) (g : A → B) (h : A → C) (xs : List A) → ((x : A) → f (g x) ≡ h x)
    → map f (map g xs) ≡ map h xs
mapped-mapped f g h [] same = refl
mapped-mapped f g h (x ∷ xs) same = ap (λ ys. f (g x) ∷ ys) (mapped-mapped f g h xs same) ∙ ap (λ y. y ∷ map h xs) (same x)

number-same : (a b : ℕ) → (let told : ℕ → Option ℕ = λ z. Some z in told a ≡ told b) → a ≡ b
number-same a b e = cc

-- the numbers of members
pub member-there : (script : Script) (member : ℕ) → Contains (script_members script) member → IsMemberOf script member
member-there script member there =
    let n : ℕ = length script.messages in
    let at = contains-place (script_members script) member there in
    let within = slice_get_within (script_members script) at.0 member at.1 in
    let count = length-range_with_len 1 (length script.messages) in
    let lt : at.0 < length script.messages = omega (arith, within, count) in
    let is = number-same member (at.0 + 1) (sym at.1 ∙ member-in (length script.messages) at.0 lt) in
    record { first = omega (arith, is); last = omega (arith, is, lt) }

-- ---- entries

-- the second vote that a fault makes of a post
pub record IsOtherVote (shape : Shape) (post : Post) (content : List ℕ) : Type 0 where
  pub said : Content
  pub vote : Bool
  pub reads : content_read shape post.content ≡ Ok said
  pub body : said.body ≡ Go vote
  pub first : is_first_vote (kind_of_stage shape said.header.stage) ≡ true
  pub is : content ≡ content_text (record { header = said.header; body = Go (not vote) })

told-text : (a b : List ℕ) → (let told : List ℕ → Option (List ℕ) = λ z. Some z in told a ≡ told b) → b ≡ a
told-text a b e = cc

vote-body : (shape : Shape) (post : Post) (said : Content) (body : Body) (content : List ℕ) → content_read shape post.content ≡ Ok said
    → said.body ≡ body → is_first_vote (kind_of_stage shape said.header.stage) ≡ true → with_other_vote said.header body ≡ Some content
    → IsOtherVote shape post content
vote-body shape post said (Go vote) content reads is first e = record {
  said = said;
  vote = vote;
  reads = reads;
  body = is;
  first = first;
  is = told-text _ content e;
}
vote-body shape post said _ content reads is first e = absurd (none-some content e)

vote-read : (shape : Shape) (post : Post) (r : Result Content Offence) (content : List ℕ) → content_read shape post.content ≡ r
    → other_vote shape r ≡ Some content → IsOtherVote shape post content
vote-read shape post (Err offence) content reads e = absurd (none-some content e)
vote-read shape post (Ok said) content reads e = elim (cases_Bool (is_first_vote (kind_of_stage shape said.header.stage))) [
  | inl first ↦ vote-body shape post said said.body content reads refl first
      (sym (cond-true (is_first_vote (kind_of_stage shape said.header.stage)) (with_other_vote said.header said.body) None first) ∙ e)
  | inr other ↦ absurd (none-some content
      (sym (cond-false (is_first_vote (kind_of_stage shape said.header.stage)) (with_other_vote said.header said.body) None other) ∙ e))
]

pub vote-second : (fault : Fault) (shape : Shape) (post : Post) (content : List ℕ) → second_content fault shape post ≡ Some content
    → IsOtherVote shape post content
vote-second TwoVotes shape post content e = vote-read shape post (content_read shape post.content) content refl e
vote-second _ shape post content e = absurd (none-some content e)

-- an entry's post is one that the member made, or the other vote of one
pub record IsEntryOf (seat : Seat) (entry : Entry) : Type 0 where
  pub post : Post
  pub made : Contains (actor_of seat).made post
  pub is : (entry.post ≡ post) ⊎ ((content : List ℕ) × IsOtherVote (shape_in seat.config) post content
      × (second_content seat.fault (shape_in seat.config) post ≡ Some content) × (entry.post ≡ signed_with seat.spare content))

abbrev pub whole-entry : Seat → Post → Entry
whole-entry seat post = record { sender = seat.config.number; post = post; first = 1; last = (shape_in seat.config).members }

abbrev lower-entry : Seat → Post → Entry
lower-entry seat post = record { sender = seat.config.number; post = post; first = 1; last = seat.config.number - 1 }

abbrev upper-entry : Seat → List ℕ → Entry
upper-entry seat content = record {
  sender = seat.config.number;
  post = signed_with seat.spare content;
  first = seat.config.number + 1;
  last = (shape_in seat.config).members;
}

entry-with : (seat : Seat) (post : Post) (o : Option (List ℕ)) (entry : Entry) → Contains (actor_of seat).made post
    → second_content seat.fault (shape_in seat.config) post ≡ o → Contains (entries_with seat post o) entry → IsEntryOf seat entry
entry-with seat post None entry made e there = elim (contains-cases (whole-entry seat post) [] entry there) [
  | inl here ↦ record { post = post; made = made; is = inl (ap (λ (x : Entry). x.post) (sym here)) }
  | inr never ↦ absurd (contains-nothing entry never)
]
entry-with seat post (Some content) entry made e there =
    elim (contains-cases (lower-entry seat post) (upper-entry seat content ∷ []) entry there) [
      | inl here ↦ record { post = post; made = made; is = inl (ap (λ (x : Entry). x.post) (sym here)) }
      | inr later ↦ elim (contains-cases (upper-entry seat content) [] entry later) [
        | inl here ↦ record {
          post = post;
          made = made;
          is = inr (content, vote-second seat.fault (shape_in seat.config) post content e, e, ap (λ (x : Entry). x.post) (sym here));
        }
        | inr never ↦ absurd (contains-nothing entry never)
      ]
    ]

pub entry-of : (before : ℕ) (seat : Seat) (entry : Entry) → Contains (entries_beyond before seat) entry → IsEntryOf seat entry
unfolding entries_beyond
entry-of before seat entry there =
    let found = contains-flat (entries_of seat) (drop before (actor_of seat).made) entry there in
    entry-with seat found.0 (second_content seat.fault (shape_in seat.config) found.0) entry
    (contains-drop before (actor_of seat).made found.0 found.1) refl found.2

-- ---- bytes

spelled-bytes : (post : Post) → IsBytes post.content → IsBytes post.signature → IsBytes (post_spelling post)
spelled-bytes post content signature =
    let head : List ℕ = to_be_bytes w32 (length post.content) in
    IsBytes-append (head ++ post.content) post.signature (IsBytes-append head post.content (IsBytes-to_be_bytes w32 (length post.content)) content)
    signature

signed-bytes : (c : Configuration) (stage : ℕ) (text : List ℕ) → IsBytes text → IsBytes (post_spelling (signed_at c stage text))
signed-bytes c stage text is = spelled-bytes (signed_at c stage text) is (signature-bytes c.key (c.first + number_said_before c stage) text)

flag-small : (vote : Bool) → IsBytes (flag_text vote)
flag-small true = IsBytes-cons 1 [] (omega arith) IsBytes-nil
flag-small false = IsBytes-cons 0 [] (omega arith) IsBytes-nil

vote-bytes : (shape : Shape) (post : Post) (content : List ℕ) → IsBytes post.content → IsOtherVote shape post content → IsBytes content
vote-bytes shape post content bytes is =
    let spelled = content-is_spelled shape post.content is.said bytes is.reads in
    let text : IsBytes (content_text is.said) = subst IsBytes spelled.0 bytes in
    subst IsBytes (sym is.is) (text-bytes is.said.header (Go (not is.vote)) (head-bytes is.said.header is.said.body text) (flag-small (not is.vote)))

-- all entries of a member to which bytes were delivered are bytes
entry-bytes : (seat : Seat) (entry : Entry) → CanEnter seat.config → AllByRecursion IsBytes seat.delivered → IsEntryOf seat entry
    → IsBytes (post_spelling entry.post)
entry-bytes seat entry enters bytes is =
    let sober = member-is-sober seat.fault seat.config enters (λ post. Unit {0}) (λ text. Unit {0}) (λ b p g e. tt) (λ s t g. tt)
    seat.delivered bytes (all-told (λ text. Unit {0}) seat.delivered (λ text. tt)) in
    let made = sober.made is.post is.made in
    let content : IsBytes is.post.content = subst (λ (p : Post). IsBytes p.content) (sym made.signed) made.good.bytes in
    elim is.is [
      | inl own ↦ subst (λ (p : Post). IsBytes (post_spelling p)) (sym (own ∙ made.signed))
          (signed-bytes seat.config made.stage made.text made.good.bytes)
      | inr other ↦ subst (λ (p : Post). IsBytes (post_spelling p)) (sym other.3)
          (spelled-bytes (signed_with seat.spare other.0) (vote-bytes (shape_in seat.config) is.post other.0 content other.1)
          (signature-bytes seat.spare.key seat.spare.number other.0))
    ]

-- ---- the world of a script

-- a member to which nothing was delivered yet
abbrev pub emptied : Seat → Seat
emptied seat = record seat { delivered = [] }

-- members are those of the script, bytes were delivered to them, and bytes are on their way
pub record IsSteady (script : Script) (seats : List Seat) (queue : List Entry) : Type 0 where
  pub same : map emptied seats ≡ map (script_seat script) (script_members script)
  pub bytes : (seat : Seat) → Contains seats seat → AllByRecursion IsBytes seat.delivered
  pub entries : (entry : Entry) → Contains queue entry → IsBytes (post_spelling entry.post)

-- a member is one of the script
pub record IsSeatOf (script : Script) (seat : Seat) : Type 0 where
  pub member : ℕ
  pub is : IsMemberOf script member
  pub same : seat ≡ record (script_seat script member) { delivered = seat.delivered }

pub seat-of : (script : Script) (seats : List Seat) (seat : Seat) → map emptied seats ≡ map (script_seat script) (script_members script)
    → Contains seats seat → IsSeatOf script seat
seat-of script seats seat same there =
    let mapped = subst (λ (xs : List Seat). Contains xs (emptied seat)) same (contains-map-from emptied seats seat there) in
    let found = contains-map (script_seat script) (script_members script) (emptied seat) mapped in
    record {
      member = found.0;
      is = member-there script found.0 found.1;
      same = ap (λ (s : Seat). record s { delivered = seat.delivered }) (sym found.2);
    }

pub seat-enters : (script : Script) (seat : Seat) → IsScript script → IsSeatOf script seat → CanEnter seat.config
seat-enters script seat is of = subst CanEnter (sym (ap (λ (s : Seat). s.config) of.same)) (can-enter script of.member is of.is)

seat-entries : (script : Script) (seat : Seat) (before : ℕ) (entry : Entry) → IsScript script → IsSeatOf script seat
    → AllByRecursion IsBytes seat.delivered → Contains (entries_beyond before seat) entry → IsBytes (post_spelling entry.post)
seat-entries script seat before entry is of bytes there =
    entry-bytes seat entry (seat-enters script seat is of) bytes (entry-of before seat entry there)

behind-same : (carriage : Carriage) (carried : Entry) (seat : Seat) → emptied (seat_behind carriage carried seat) ≡ emptied seat
unfolding seat_behind
behind-same carriage carried seat = choose (λ (s : Seat). emptied s ≡ emptied seat) (is_for seat.config.number carried)
    (record seat { delivered = seat.delivered ++ replicate carriage.repeat (post_spelling carried.post) }) seat (λ _. refl) (λ _. refl)

behind-bytes : (carriage : Carriage) (carried : Entry) (seat : Seat) → IsBytes (post_spelling carried.post)
    → AllByRecursion IsBytes seat.delivered → AllByRecursion IsBytes (seat_behind carriage carried seat).delivered
unfolding seat_behind
behind-bytes carriage carried seat bytes are = choose (λ (s : Seat). AllByRecursion IsBytes s.delivered) (is_for seat.config.number carried)
    (record seat { delivered = seat.delivered ++ replicate carriage.repeat (post_spelling carried.post) }) seat
    (λ _. all-append IsBytes seat.delivered (replicate carriage.repeat (post_spelling carried.post)) are
    (all-replicate IsBytes carriage.repeat (post_spelling carried.post) bytes)) (λ _. are)

module _ (script : Script) (is : IsScript script) (carriage : Carriage) where
  carried-steady : (seats : List Seat) (carried : Entry) (others : List Entry) → IsSteady script seats (carried ∷ others)
      → IsSteady script (map (seat_behind carriage carried) seats) (others ++ flat_map (entries_behind carriage carried) seats)
  carried-steady seats carried others steady =
      let carried_bytes = steady.entries carried (contains-here carried others) in
      let same : map emptied (map (seat_behind carriage carried) seats) ≡ map (script_seat script) (script_members script)
      = mapped-mapped emptied (seat_behind carriage carried) emptied seats (behind-same carriage carried) ∙ steady.same in
      let bytes : (seat : Seat) → Contains (map (seat_behind carriage carried) seats) seat → AllByRecursion IsBytes seat.delivered
      = λ seat there. (
      let found = contains-map (seat_behind carriage carried) seats seat there in
      subst (λ (s : Seat). AllByRecursion IsBytes s.delivered) found.2
      (behind-bytes carriage carried found.0 carried_bytes (steady.bytes found.0 found.1))) in
      record {
        same = same;
        bytes = bytes;
        entries = λ entry there. elim (Contains-append_cases others (flat_map (entries_behind carriage carried) seats) entry there) [
          | inl old ↦ steady.entries entry (contains-later carried others entry old)
          | inr new ↦
              let found = contains-flat (entries_behind carriage carried) seats entry new in
              let after : Seat = seat_behind carriage carried found.0 in
              let among = contains-map-from (seat_behind carriage carried) seats found.0 found.1 in
              seat-entries script after (length (actor_of found.0).made) entry is
              (seat-of script (map (seat_behind carriage carried) seats) after same among) (bytes after among) found.2
        ];
      }

  entry-steady : (seats : List Seat) (carried : Entry) (others : List Entry) → IsSteady script seats (carried ∷ others)
      → IsSteady script (world_behind_entry carriage seats carried others).seats (world_behind_entry carriage seats carried others).queue
  entry-steady seats carried others steady =
      choose (λ (w : World). IsSteady script w.seats w.queue) (is_dropped carriage carried) (record { seats = seats; queue = others })
      (record { seats = map (seat_behind carriage carried) seats; queue = others ++ flat_map (entries_behind carriage carried) seats })
      (λ _. record {
        same = steady.same;
        bytes = steady.bytes;
        entries = λ entry there. steady.entries entry (contains-later carried others entry there);
      })
      (λ _. carried-steady seats carried others steady)

  queue-steady : (world : World) (queue : List Entry) → world.queue ≡ queue → IsSteady script world.seats queue
      → IsSteady script (world_behind_queue carriage world queue).seats (world_behind_queue carriage world queue).queue
  queue-steady world [] e steady = subst (IsSteady script world.seats) (sym e) steady
  queue-steady world (entry ∷ others) e steady = entry-steady world.seats entry others steady

  step-steady : (world : World) → IsSteady script world.seats world.queue
      → IsSteady script (world_behind_step carriage world).seats (world_behind_step carriage world).queue
  unfolding world_behind_step
  step-steady world steady = queue-steady world world.queue refl steady

  steps-steady : (n : ℕ) (world : World) → IsSteady script world.seats world.queue
      → IsSteady script (iterate (world_behind_step carriage) n world).seats (iterate (world_behind_step carriage) n world).queue
  steps-steady zero world steady = steady
  steps-steady (suc n) world steady = steps-steady n (world_behind_step carriage world) (step-steady world steady)

  first-steady : IsSteady script (first_world (map (script_seat script) (script_members script))).seats
      (first_world (map (script_seat script) (script_members script))).queue
  unfolding first_world
  first-steady =
      let seats : List Seat = map (script_seat script) (script_members script) in
      let same : map emptied (map (script_seat script) (script_members script)) ≡ map (script_seat script) (script_members script)
      = mapped-mapped emptied (script_seat script) (script_seat script) (script_members script) (λ m. refl) in
      let bytes : (seat : Seat) → Contains (map (script_seat script) (script_members script)) seat → AllByRecursion IsBytes seat.delivered
      = λ seat there. (
      let found = contains-map (script_seat script) (script_members script) seat there in
      subst (λ (s : Seat). AllByRecursion IsBytes s.delivered) found.2 tt) in
      record {
        same = same;
        bytes = bytes;
        entries = λ entry there. (
            let found = contains-flat (entries_beyond 0) seats entry there in
            seat-entries script found.0 0 entry is (seat-of script seats found.0 same found.1) (bytes found.0 found.1) found.2);
      }

-- the members of a script when all is carried
abbrev pub last_seats : Script → List Seat
last_seats script = (last_world (script_carriage script) (map (script_seat script) (script_members script))).seats

pub last-steady : (script : Script) → IsScript script → IsSteady script
    (last_world (script_carriage script) (map (script_seat script) (script_members script))).seats
    (last_world (script_carriage script) (map (script_seat script) (script_members script))).queue
unfolding last_world
last-steady script is =
    let seats : List Seat = map (script_seat script) (script_members script) in
    steps-steady script is (script_carriage script) (greatest_steps seats) (first_world seats) (first-steady script is (script_carriage script))

-- ---- what is shown

-- a member that is shown, at its place
pub record IsShownAt (script : Script) (shown : MemberShown) : Type 0 where
  pub seat : Seat
  pub there : Contains (last_seats script) seat
  pub of : IsSeatOf script seat
  pub is : shown_of seat ≡ shown
  pub bytes : AllByRecursion IsBytes seat.delivered

pub shown-at : (script : Script) (shown : MemberShown) → IsScript script → Contains (script_end script) shown → IsShownAt script shown
unfolding script_end group_end
shown-at script shown is there =
    let found = contains-map shown_of (last_seats script) shown there in
    let steady = last-steady script is in
    record {
      seat = found.0;
      there = found.1;
      of = seat-of script (last_seats script) found.0 steady.same found.1;
      is = found.2;
      bytes = steady.bytes found.0 found.1;
    }

pub shown-delivered : (seat : Seat) → (shown_of seat).delivered ≡ seat.delivered
unfolding shown_of
shown-delivered seat = refl

pub deliveries_are_bytes : DeliveriesAreBytes
deliveries_are_bytes script shown is there =
    let at = shown-at script shown is there in
    let same : at.seat.delivered ≡ shown.delivered = sym (shown-delivered at.seat) ∙ ap (λ (s : MemberShown). s.delivered) at.is in
    subst (λ (d : List (List ℕ)). All IsBytes d) same (all-places IsBytes at.seat.delivered at.bytes)
