-- In the group of a script nothing is forged: what is delivered in the name of an honest member was sent by it.
use Rattle.std.proofs.Common.{◌≡◌, ◌⊎◌, ℕ, Bool, true, false, List, [], ◌∷◌, ◌++◌, Option, Some, None, length, map, ap, sym, ◌∙◌, refl, subst, inl, inr}
use Rattle.std.specs.Prelude.{All, ◌==◌, Contains, Ok, filter, not, option_and_then}
use Rattle.std.specs.List.{AllByRecursion, flat_map}
use Rattle.std.proofs.lemmas.Bool.{cases_Bool, eq-eqb, false≢true}
use Rattle.std.proofs.lemmas.Option.{none-some}
use Rattle.std.specs.Int.{to_be_bytes, w32}
use Rattle.wire_core.specs.Bytes.{IsBytes, prefixed}
use Rattle.wire_core.proofs.ByteLists.{IsBytes-back, IsBytes-front}
use Rattle.phase_message.specs.declared.content.Content.{Content}
use Rattle.phase_message.specs.declared.content.Body.{Body}
use Rattle.phase_message.specs.declared.content.Body.TheVariants.{Confirm, Differ, Dispute, Go, Reveal}
use Rattle.phase_message.specs.declared.header.Header.{Header}
use Rattle.phase_message.specs.declared.post.Post.{Post}
use Rattle.phase_message.specs.declared.stage.Slot.{Slot}
use Rattle.phase_message.specs.declared.stage.StageKind.{StageKind}
use Rattle.phase_message.specs.declared.stage.StageKind.TheVariants.{Go as AtGo}
use Rattle.phase_message.specs.Grammar.{body_text, content_text}
use Rattle.phase_message.specs.Header.{header_of}
use Rattle.phase_message.specs.Offence.{content_read}
use Rattle.phase_message.specs.Post.{post_spelling}
use Rattle.phase_message.specs.Shape.{Shape}
use Rattle.phase_message.specs.Stages.{kind_of_stage, vote_of}
use Rattle.phase_message.proofs.Whole.{content-header, content-is_spelled}
use Rattle.go_nogo.specs.Closing.{IsClosing, posts_embedded}
use Rattle.group_roster.specs.Roster.{shape_of_roster}
use Rattle.signed_post.specs.Admission.{Admitted}
use Rattle.signed_post.specs.Frame.{frame_of}
use Rattle.signed_post.proofs.Frames.{framed-found}
use Rattle.stage_log.specs.Table.{Log}
use Rattle.stage_log.proofs.Pasts.{some_of}
use Rattle.round_spec.specs.Runs.{HasNumber, IsConfiguration, IsEmbedded, NoForgery, Run, Sent, posts_said, run_after, runs_of, sent, contents_sent}
use Rattle.round_spec.specs.Say.{Configuration, shape_in, signed_at}
use Rattle.round_spec.proofs.Contained.{contains-filter, contains-filter-from, contains-flat-from, contains-here, contains-later, contains-map, contains-map-from, contains-nothing}
use Rattle.round_spec.proofs.SealedBytes.{all-places}
use Rattle.conviction.proofs.Listed.{all-contained}
use Rattle.member_spec.specs.Replies.{IsPlain, Replies}
use Rattle.member_spec.proofs.PlainLaws.{plain_comes_to_result, plain_posts_are_said}
use Rattle.round_script.specs.declared.fault.Fault.{Fault}
use Rattle.round_script.specs.declared.fault.Fault.TheVariants.{None as Honest}
use Rattle.round_script.specs.declared.script.Script.{Script}
use Rattle.round_script.specs.Script.{IsScript}
use Rattle.group_spec.specs.Alterations.{with_last_bit_changed}
use Rattle.group_spec.specs.Driver.{MemberShown, group_end, is_faulty, shown_of}
use Rattle.group_spec.specs.Faulty.{faulty_member, faulty_replies}
use Rattle.group_spec.specs.Scripts.{fault_in, script_carriage, script_configuration, script_end, script_members, script_roster, script_seat}
use Rattle.group_spec.specs.World.{Entry, Seat, actor_of, is_first_vote, second_content}
use Rattle.group_spec.proofs.Deliveries.{deliveries_were_posted}
use Rattle.group_spec.proofs.Plainness.{honest-plain}
use Rattle.group_laws.specs.Forging.{NothingIsForged, honest_runs, run_shown}
use Rattle.group_laws.specs.Promises.{config_shown}
use Rattle.group_laws.proofs.Actors.{IsMade, member-is-sober}
use Rattle.group_laws.proofs.Changes.{rest-bytes, unprefixed}
use Rattle.group_laws.proofs.Entering.{configured}
use Rattle.group_laws.proofs.Honest.{said-embeds}
use Rattle.group_laws.proofs.Kept.{honest-at, honest-fault, seat_with, shown-faulty}
use Rattle.group_laws.proofs.Speeches.{IsGoodText, header-same, text-header, widths-of}
use Rattle.group_laws.proofs.Spellings.{content-nearly, content-spelled, valid-some}
use Rattle.group_laws.proofs.Worlds.{IsEntryOf, IsOtherVote, IsSeatOf, all-told, entry-of, last-steady, last_seats, seat-enters, seat-of, shown-at, shown-delivered}

-- ---- members by their numbers

pub config-is : (script : Script) (seat : Seat) → IsSeatOf script seat → seat.config ≡ script_configuration script seat.config.number
config-is script seat of =
    let config : seat.config ≡ script_configuration script of.member = ap (λ (s : Seat). s.config) of.same in
    config ∙ ap (script_configuration script) (sym (ap (λ (c : Configuration). c.number) config))

pub fault-is : (script : Script) (seat : Seat) → IsSeatOf script seat → seat.fault ≡ fault_in script.faults seat.config.number
fault-is script seat of =
    ap (λ (s : Seat). s.fault) of.same
    ∙ ap (fault_in script.faults) (sym (ap (λ (s : Seat). s.config.number) of.same))

pub shown-number : (seat : Seat) → (shown_of seat).number ≡ seat.config.number
unfolding shown_of
shown-number seat = refl

pub seat-there : (script : Script) (seat : Seat) → IsScript script → Contains (last_seats script) seat → IsSeatOf script seat
seat-there script seat is there = seat-of script (last_seats script) seat (last-steady script is).same there

seat-bytes : (script : Script) (seat : Seat) → IsScript script → Contains (last_seats script) seat → All IsBytes seat.delivered
seat-bytes script seat is there = all-places IsBytes seat.delivered ((last-steady script is).bytes seat there)

-- who has an honest run has no fault
number-honest : (script : Script) (number : ℕ) → IsScript script → HasNumber (honest_runs script) number
    → fault_in script.faults number ≡ Honest
unfolding honest_runs
number-honest script number is (run, there, same) =
    let found = contains-map (run_shown script) (filter (λ shown. not shown.faulty) (script_end script)) run there in
    let shown : MemberShown = found.0 in
    let kept = contains-filter (λ (s : MemberShown). not s.faulty) (script_end script) found.0 found.1 in
    let at = honest-at script found.0 is (record { listed = kept.0; honest = not-true found.0.faulty kept.1 }) in
    let number_is : at.member ≡ number = sym (shown-number (seat_with script at.member at.delivered)) ∙ ap (λ (s : MemberShown). s.number) at.is
    ∙ ap (λ (r : Run). r.config.number) found.2 ∙ same in
    sym (ap (fault_in script.faults) number_is) ∙ at.honest
  where
    not-true : (b : Bool) → not b ≡ true → b ≡ false
    not-true false e = refl
    not-true true e = absurd (false≢true e)

-- ---- what an honest member sent

-- its run is one of the runs
pub run-there : (script : Script) (seat : Seat) → IsScript script → Contains (last_seats script) seat → seat.fault ≡ Honest
    → Contains (honest_runs script) (run_after seat.config seat.delivered)
unfolding honest_runs script_end group_end
run-there script seat is there honest =
    let shown : MemberShown = shown_of seat in
    let listed = contains-map-from shown_of (last_seats script) seat there in
    let plain : not (shown_of seat).faulty ≡ true = ap not (shown-faulty seat ∙ ap is_faulty honest) in
    let kept = contains-filter-from (λ (s : MemberShown). not s.faulty) (map shown_of (last_seats script)) (shown_of seat) listed plain in
    let run = contains-map-from (run_shown script) (filter (λ (s : MemberShown). not s.faulty) (map shown_of (last_seats script))) (shown_of seat)
    kept in
    let config : config_shown script (shown_of seat) ≡ seat.config
    = ap (script_configuration script) (shown-number seat) ∙ sym (config-is script seat (seat-there script seat is there)) in
    subst (λ (r : Run). Contains (map (run_shown script) (filter (λ (s : MemberShown). not s.faulty) (map shown_of (last_seats script)))) r)
    (ap (λ (c : Configuration). run_after c (shown_of seat).delivered) config ∙ ap (run_after seat.config) (shown-delivered seat)) run

-- it sent the posts that its run said
sent-by : (script : Script) (seat : Seat) (post : Post) → IsScript script → Contains (last_seats script) seat → seat.fault ≡ Honest
    → Contains (posts_said (run_after seat.config seat.delivered)) post → Sent (honest_runs script) seat.config.number post.content
unfolding contents_sent sent
sent-by script seat post is there honest said =
    let run : Run = run_after seat.config seat.delivered in
    let own = contains-filter-from (λ (r : Run). r.config.number == seat.config.number) (honest_runs script) run
    (run-there script seat is there honest) (eq-eqb seat.config.number seat.config.number refl) in
    contains-flat-from (λ (r : Run). map (λ (p : Post). p.content) (posts_said r)) (runs_of (honest_runs script) seat.config.number) run
    post.content own (contains-map-from (λ (p : Post). p.content) (posts_said run) post said)

-- what it made is what its run said
pub made-same : (script : Script) (seat : Seat) → IsScript script → Contains (last_seats script) seat → seat.fault ≡ Honest
    → (actor_of seat).made ≡ posts_said (run_after seat.config seat.delivered)
made-same script seat is there honest =
    let of = seat-there script seat is there in
    let enters = seat-enters script seat is of in
    let are = seat-bytes script seat is there in
    let plain = subst (λ (f : Fault). IsPlain (faulty_replies (faulty_member f seat.config.number))) (sym honest)
    (honest-plain seat.config.number None) in
    let replies : Replies = faulty_replies (faulty_member seat.fault seat.config.number) in
    let comes = plain_comes_to_result replies seat.config seat.delivered plain enters are in
    plain_posts_are_said replies seat.config seat.delivered plain enters are
    ∙ ap (λ (log : Log). posts_said (record { config = seat.config; log = log })) comes.log

made-said : (script : Script) (seat : Seat) (post : Post) → IsScript script → Contains (last_seats script) seat → seat.fault ≡ Honest
    → Contains (actor_of seat).made post → Contains (posts_said (run_after seat.config seat.delivered)) post
made-said script seat post is there honest made =
    subst (λ (posts : List Post). Contains posts post) (made-same script seat is there honest) made

-- ---- entries

-- a member of any fault, with nothing asked of what was delivered to it but that it is bytes
made-good : (script : Script) (seat : Seat) (post : Post) → IsScript script → Contains (last_seats script) seat
    → Contains (actor_of seat).made post → IsMade seat.config (λ p. Unit {0}) post
made-good script seat post is there made =
    let of = seat-there script seat is there in
    (member-is-sober seat.fault seat.config (seat-enters script seat is of) (λ p. Unit {0}) (λ text. Unit {0}) (λ b p g e. tt) (λ s t g. tt)
    seat.delivered ((last-steady script is).bytes seat there) (all-told (λ text. Unit {0}) seat.delivered (λ text. tt))).made post made

-- the header of a made post is the member's
made-sender : (c : Configuration) (Known : Post → Type 0) (post : Post) (header : Header) → IsMade c Known post
    → header_of post.content ≡ Ok header → header.sender ≡ c.number
made-sender c Known post header is e =
    let slot = is.good.slot in
    let text : header_of post.content ≡ Ok slot.0 = ap (λ (p : Post). header_of p.content) is.signed ∙ slot.1 in
    ap (λ (h : Header). h.sender) (header-same header slot.0 (header_of post.content) e text) ∙ ap (λ (s : Slot). s.sender) slot.2

-- the other vote has the header of the vote
vote-header : (shape : Shape) (post : Post) (content : List ℕ) → IsBytes post.content → (is : IsOtherVote shape post content)
    → (header_of content ≡ Ok is.said.header) × (header_of post.content ≡ Ok is.said.header)
vote-header shape post content bytes is =
    let spelled = content-is_spelled shape post.content is.said bytes is.reads in (
      ap header_of is.is ∙ text-header is.said.header (Go (not is.vote)) (widths-of shape is.said.header spelled.1.0),
      content-header shape post.content is.said is.reads,
    )

made-bytes : (c : Configuration) (Known : Post → Type 0) (post : Post) → IsMade c Known post → IsBytes post.content
made-bytes c Known post is = subst (λ (p : Post). IsBytes p.content) (sym is.signed) is.good.bytes

-- each post of an entry has its sender's number in its header
entry-sender : (script : Script) (seat : Seat) (entry : Entry) (header : Header) → IsScript script → Contains (last_seats script) seat
    → IsEntryOf seat entry → header_of entry.post.content ≡ Ok header → header.sender ≡ seat.config.number
entry-sender script seat entry header is there of e =
    let Known : Post → Type 0 = λ p. Unit {0} in
    let made = made-good script seat of.post is there of.made in
    elim of.is [
      | inl own ↦ made-sender seat.config Known of.post header made (ap (λ (p : Post). header_of p.content) (sym own) ∙ e)
      | inr other ↦
          let headers = vote-header (shape_in seat.config) of.post other.0 (made-bytes seat.config Known of.post made) other.1 in
          let same = header-same header other.1.said.header (header_of other.0) (ap (λ (p : Post). header_of p.content) (sym other.3) ∙ e) headers.0
          in
          ap (λ (h : Header). h.sender) same ∙ made-sender seat.config Known of.post other.1.said.header made headers.1
    ]

-- who has an honest run is honest, and sent what comes from it
entry-sent : (script : Script) (seat : Seat) (entry : Entry) (header : Header) → IsScript script → Contains (last_seats script) seat
    → IsEntryOf seat entry → header_of entry.post.content ≡ Ok header → HasNumber (honest_runs script) header.sender
    → Sent (honest_runs script) header.sender entry.post.content
entry-sent script seat entry header is there of e numbered =
    let sender = entry-sender script seat entry header is there of e in
    let honest : seat.fault ≡ Honest = fault-is script seat (seat-there script seat is there)
    ∙ sym (ap (fault_in script.faults) sender) ∙ number-honest script header.sender is numbered in
    elim of.is [
      | inl own ↦ subst (λ (n : ℕ). Sent (honest_runs script) n entry.post.content) (sym sender)
          (subst (λ (p : Post). Sent (honest_runs script) seat.config.number p.content) (sym own)
          (sent-by script seat of.post is there honest (made-said script seat of.post is there honest of.made)))
      | inr other ↦ absurd (none-some other.0 (sym (ap (λ (f : Fault). second_content f (shape_in seat.config) of.post) honest) ∙ other.2))
    ]

-- ---- what is delivered

-- a delivered post comes from a member
pub record ComesFromSeat (script : Script) (post : Post) : Type 0 where
  pub sender : Seat
  pub there : Contains (last_seats script) sender
  pub entry : Entry
  pub of : IsEntryOf sender entry
  pub same : post.content ≡ entry.post.content

first-empty : (script : Script) (seat : Seat) → Contains (map (script_seat script) (script_members script)) seat → seat.delivered ≡ []
first-empty script seat there =
    let found = contains-map (script_seat script) (script_members script) seat there in
    ap (λ (s : Seat). s.delivered) (sym found.2)

delivered-from : (script : Script) (receiver : Seat) (bytes : List ℕ) (post : Post) → IsScript script → Contains (last_seats script) receiver
    → Contains receiver.delivered bytes → frame_of bytes ≡ Ok post → ComesFromSeat script post
delivered-from script receiver bytes post is there listed framed =
    let from = deliveries_were_posted (script_carriage script) (map (script_seat script) (script_members script)) (first-empty script) receiver
    bytes there listed in
    let are = all-contained IsBytes receiver.delivered bytes ((last-steady script is).bytes receiver there) listed in
    let spelled = framed-found bytes post are framed in
    record {
      sender = from.0;
      there = from.1;
      entry = from.2.entry;
      of = entry-of 0 from.0 from.2.entry from.2.posted;
      same = content-spelled post from.2.entry.post spelled.0 (sym spelled.1 ∙ from.2.spelled);
    }

from-sent : (script : Script) (post : Post) (header : Header) → IsScript script → ComesFromSeat script post
    → header_of post.content ≡ Ok header → HasNumber (honest_runs script) header.sender → Sent (honest_runs script) header.sender post.content
from-sent script post header is from e numbered =
    subst (λ (text : List ℕ). Sent (honest_runs script) header.sender text) (sym from.same)
    (entry-sent script from.sender from.entry header is from.there from.of (ap header_of (sym from.same) ∙ e) numbered)

-- ---- what is embedded there

-- a post that stands behind an embedded one
pub record StandsBehind (script : Script) (seat : Seat) (item : List ℕ) : Type 0 where
  pub inner : Post
  pub spelled : (item ≡ post_spelling inner) ⊎ (item ≡ with_last_bit_changed (post_spelling inner))
  pub is : (header : Header) → header_of inner.content ≡ Ok header → HasNumber (honest_runs script) header.sender
      → Sent (honest_runs script) header.sender inner.content

-- of an honest member
honest-embeds : (script : Script) (seat : Seat) (post : Post) (content : Content) (item : List ℕ) → IsScript script
    → Contains (last_seats script) seat → seat.fault ≡ Honest → Contains (actor_of seat).made post
    → content_read (shape_in seat.config) post.content ≡ Ok content → IsClosing (shape_in seat.config) content
    → Contains (posts_embedded content.body) item → StandsBehind script seat item
honest-embeds script seat post content item is there honest made reads closing within =
    let of = seat-there script seat is there in
    let enters = subst IsConfiguration (sym (ap (λ (s : Seat). s.config) of.same)) (configured script of.member is of.is) in
    let are = seat-bytes script seat is there in
    let found = said-embeds seat.config seat.delivered post content item enters are (made-said script seat post is there honest made) reads closing
    within in
    record {
      inner = found.0;
      spelled = inl found.1;
      is = λ header e numbered. elim found.2 [
        | inl said ↦
            let its = said-made script seat found.0 is there honest said in
            let sender = made-sender seat.config (λ p. Unit {0}) found.0 header its e in
            subst (λ (n : ℕ). Sent (honest_runs script) n found.0.content) (sym sender) (sent-by script seat found.0 is there honest said)
        | inr given ↦ from-sent script found.0 header is (delivered-from script seat given.0 found.0 is there given.1 given.2) e numbered
      ];
    }
  where
    said-made : (script : Script) (seat : Seat) (post : Post) → IsScript script → Contains (last_seats script) seat → seat.fault ≡ Honest
        → Contains (posts_said (run_after seat.config seat.delivered)) post → IsMade seat.config (λ p. Unit {0}) post
    said-made script seat post is there honest said =
        made-good script seat post is there (subst (λ (posts : List Post). Contains posts post) (sym (made-same script seat is there honest)) said)

-- a known post of a faulty member: one that was delivered to it, or one in its own name
abbrev IsKnownTo : Seat → Post → Type 0
IsKnownTo seat post = ((bytes : List ℕ) × Contains seat.delivered bytes × (frame_of bytes ≡ Ok post))
    ⊎ ((header : Header) → header_of post.content ≡ Ok header → header.sender ≡ seat.config.number)

own-known : (seat : Seat) (stage : ℕ) (text : List ℕ) → IsGoodText seat.config (IsKnownTo seat) stage text
    → IsKnownTo seat (signed_at seat.config stage text)
own-known seat stage text good = inr (λ header e.
    ap (λ (h : Header). h.sender) (header-same header good.slot.0 (header_of text) e good.slot.1) ∙ ap (λ (s : Slot). s.sender) good.slot.2)

listed-all : (xs : List (List ℕ)) → AllByRecursion (λ (x : List ℕ). Contains xs x) xs
listed-all xs = from-each xs xs (λ x there. there)
  where
    from-each : (all xs : List (List ℕ)) → ((x : List ℕ) → Contains xs x → Contains all x) → AllByRecursion (λ (x : List ℕ). Contains all x) xs
    from-each all [] each = tt
    from-each all (x ∷ xs) each = (each x (contains-here x xs), from-each all xs (λ y there. each y (contains-later x xs y there)))

-- of a faulty member
faulty-embeds : (script : Script) (seat : Seat) (post : Post) (content : Content) (item : List ℕ) → IsScript script
    → Contains (last_seats script) seat → is_faulty seat.fault ≡ true → Contains (actor_of seat).made post
    → content_read (shape_in seat.config) post.content ≡ Ok content → IsClosing (shape_in seat.config) content
    → Contains (posts_embedded content.body) item → StandsBehind script seat item
faulty-embeds script seat post content item is there faulty made reads closing within =
    let of = seat-there script seat is there in
    let its = (member-is-sober seat.fault seat.config (seat-enters script seat is of) (IsKnownTo seat) (λ (x : List ℕ). Contains seat.delivered x)
    (λ bytes p given e. inl (bytes, given, e)) (own-known seat) seat.delivered ((last-steady script is).bytes seat there)
    (listed-all seat.delivered)).made post made in
    let found = its.good.embedded content item (ap (λ (p : Post). content_read (shape_in seat.config) p.content) (sym its.signed) ∙ reads) closing
    within in
    record {
      inner = found.0;
      spelled = found.2;
      is = λ header e numbered. elim found.1 [
        | inl given ↦ from-sent script found.0 header is (delivered-from script seat given.0 found.0 is there given.1 given.2) e numbered
        | inr own ↦ absurd (
            let honest = fault-is script seat of ∙ sym (ap (fault_in script.faults) (own header e)) ∙ number-honest script header.sender is numbered in
            false≢true (sym (ap is_faulty honest) ∙ faulty))
      ];
    }

either-embeds : (script : Script) (seat : Seat) (post : Post) (content : Content) (item : List ℕ) → IsScript script
    → Contains (last_seats script) seat → Contains (actor_of seat).made post
    → content_read (shape_in seat.config) post.content ≡ Ok content → IsClosing (shape_in seat.config) content
    → Contains (posts_embedded content.body) item → StandsBehind script seat item
either-embeds script seat post content item is there made reads closing within = elim (cases_Bool (is_faulty seat.fault)) [
  | inl faulty ↦ faulty-embeds script seat post content item is there faulty made reads closing within
  | inr plain ↦ honest-embeds script seat post content item is there (honest-fault seat.fault plain) made reads closing within
]

go-open : (o : Option StageKind) → is_first_vote o ≡ true → option_and_then vote_of o ≡ None
go-open (Some (AtGo shuffle)) e = refl
go-open _ e = absurd (false≢true e)

-- of an entry, of which the other vote embeds nothing
entry-embeds : (script : Script) (seat : Seat) (entry : Entry) (content : Content) (item : List ℕ) → IsScript script
    → Contains (last_seats script) seat → IsEntryOf seat entry
    → content_read (shape_in seat.config) entry.post.content ≡ Ok content → IsClosing (shape_in seat.config) content
    → Contains (posts_embedded content.body) item → StandsBehind script seat item
entry-embeds script seat entry content item is there of reads closing within = elim of.is [
  | inl own ↦ either-embeds script seat of.post content item is there of.made
      (ap (λ (p : Post). content_read (shape_in seat.config) p.content) (sym own) ∙ reads) closing within
  | inr other ↦ absurd (
      let made = made-good script seat of.post is there of.made in
      let headers = vote-header (shape_in seat.config) of.post other.0 (made-bytes seat.config (λ p. Unit {0}) of.post made) other.1 in
      let text : content_read (shape_in seat.config) other.0 ≡ Ok content
      = ap (λ (p : Post). content_read (shape_in seat.config) p.content) (sym other.3) ∙ reads in
      let same = header-same content.header other.1.said.header (header_of other.0)
      (content-header (shape_in seat.config) other.0 content text) headers.0 in
      let none = ap (λ (h : Header). option_and_then vote_of (kind_of_stage (shape_in seat.config) h.stage)) same
      ∙ go-open (kind_of_stage (shape_in seat.config) other.1.said.header.stage) other.1.first in
      let vote = some_of (option_and_then vote_of (kind_of_stage (shape_in seat.config) content.header.stage)) closing in
      none-some vote.0 (sym none ∙ vote.1))
]

-- an embedded post that is admitted
behind-sent : (script : Script) (seat : Seat) (item : List ℕ) (post : Post) (header : Header) → IsBytes item → StandsBehind script seat item
    → frame_of item ≡ Ok post → Admitted (script_roster script) header.round post header → HasNumber (honest_runs script) header.sender
    → Sent (honest_runs script) header.sender post.content
behind-sent script seat item post header are behind framed admitted numbered =
    let spelled = framed-found item post are framed in
    let some = valid-some admitted.signed.0 post.content post.signature admitted.signed.2 in
    let same : post.content ≡ behind.inner.content = elim behind.spelled [
      | inl whole ↦ content-spelled post behind.inner spelled.0 (sym spelled.1 ∙ whole)
      | inr changed ↦ content-nearly post behind.inner spelled.0 some (sym spelled.1 ∙ changed)
    ] in
    subst (λ (text : List ℕ). Sent (honest_runs script) header.sender text) (sym same)
    (behind.is header (ap header_of (sym same) ∙ admitted.reads) numbered)

-- what a content of bytes embeds is bytes
embedded-are : (shape : Shape) (bytes : List ℕ) (content : Content) (item : List ℕ) → IsBytes bytes → content_read shape bytes ≡ Ok content
    → Contains (posts_embedded content.body) item → IsBytes item
embedded-are shape bytes content item are reads within =
    let spelled = content-is_spelled shape bytes content are reads in
    let text : IsBytes (content_text content) = subst IsBytes spelled.0 are in
    by_body content.body (rest-bytes content.header content.body text) within
  where
    by_body : (body : Body) → IsBytes (body_text body) → Contains (posts_embedded body) item → IsBytes item
    by_body (Reveal votes seed) is there = all-contained IsBytes votes item (unprefixed votes (IsBytes-front (flat_map prefixed votes) seed is)) there
    by_body (Dispute posts seed opening) is there =
        all-contained IsBytes posts item (unprefixed posts (IsBytes-front (flat_map prefixed posts) (seed ++ opening) is)) there
    by_body (Confirm votes) is there = all-contained IsBytes votes item (unprefixed votes is) there
    by_body (Differ posts) is there = all-contained IsBytes posts item (unprefixed posts is) there
    by_body _ is there = absurd (contains-nothing item there)

embedded-sent : (script : Script) (receiver : Seat) (outer bytes : List ℕ) (post : Post) (header : Header) → IsScript script
    → Contains (last_seats script) receiver → Contains receiver.delivered outer → IsEmbedded (script_roster script) outer bytes
    → frame_of bytes ≡ Ok post → Admitted (script_roster script) header.round post header → HasNumber (honest_runs script) header.sender
    → Sent (honest_runs script) header.sender post.content
embedded-sent script receiver outer bytes post header is there listed embedded framed admitted numbered =
    let from = delivered-from script receiver outer embedded.post is there listed embedded.spelled in
    let are = all-contained IsBytes receiver.delivered outer ((last-steady script is).bytes receiver there) listed in
    let shape : shape_of_roster (script_roster script) ≡ shape_in from.sender.config
    = sym (ap (λ (s : Seat). shape_in s.config) (seat-there script from.sender is from.there).same) in
    let reads : content_read (shape_in from.sender.config) from.entry.post.content ≡ Ok embedded.content
    = ap (λ (s : Shape). content_read s from.entry.post.content) (sym shape)
    ∙ ap (content_read (shape_of_roster (script_roster script))) (sym from.same) ∙ embedded.reads in
    let closing : IsClosing (shape_in from.sender.config) embedded.content
    = subst (λ (s : Shape). IsClosing s embedded.content) shape embedded.closing in
    let behind = entry-embeds script from.sender from.entry embedded.content bytes is from.there from.of reads closing embedded.embedded in
    let item = embedded-are (shape_of_roster (script_roster script)) embedded.post.content embedded.content bytes
    (spelled-part outer embedded.post are embedded.spelled) embedded.reads embedded.embedded in
    behind-sent script from.sender bytes post header item behind framed admitted numbered
  where
    spelled-part : (outer : List ℕ) (post : Post) → IsBytes outer → frame_of outer ≡ Ok post → IsBytes post.content
    spelled-part outer post are framed =
        let spelled = (framed-found outer post are framed).1 in
        let head : List ℕ = to_be_bytes w32 (length post.content) in
        IsBytes-back head post.content (IsBytes-front (head ++ post.content) post.signature (subst IsBytes spelled are))

nothing-at : (script : Script) (receiver : Seat) → IsScript script → Contains (last_seats script) receiver
    → NoForgery (script_roster script) receiver.delivered (honest_runs script)
nothing-at script receiver is there bytes post header (inl given) framed admitted numbered =
    from-sent script post header is (delivered-from script receiver bytes post is there given framed) admitted.reads numbered
nothing-at script receiver is there bytes post header (inr (outer, given, embedded)) framed admitted numbered =
    embedded-sent script receiver outer bytes post header is there given embedded framed admitted numbered

pub nothing_is_forged : NothingIsForged
nothing_is_forged script shown is listed =
    let at = shown-at script shown is listed in
    let same : at.seat.delivered ≡ shown.delivered = sym (shown-delivered at.seat) ∙ ap (λ (s : MemberShown). s.delivered) at.is in
    subst (λ (d : List (List ℕ)). NoForgery (script_roster script) d (honest_runs script)) same (nothing-at script at.seat is at.there)
