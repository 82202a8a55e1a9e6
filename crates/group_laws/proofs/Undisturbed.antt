-- In the group of a script in which nobody is faulty and nothing is lost, each member is done.
use Rattle.std.proofs.Common.{◌≡◌, ◌≢◌, ℕ, zero, suc, ◌+◌, ◌<◌, ◌≤◌, true, false, List, [], ◌∷◌, Option, Some, None, length, take, map, ap, sym, ◌∙◌, refl, subst, arith, rules, inl, inr}
use Rattle.std.specs.Prelude.{◌&&◌, ◌==◌, All, Contains, nat_le, not, unwrap_or}
use Rattle.std.specs.List.{AllByRecursion}
use Rattle.std.proofs.lemmas.Bool.{cases_Bool, cases_lt, cond-false, cond-true}
use Rattle.std.proofs.lemmas.List.Elements.{All-contains, All-take}
use Rattle.std.proofs.lemmas.Option.{none-some}
use Rattle.wire_core.specs.Bytes.{IsBytes}
use Rattle.wire_core.proofs.AnswerLemmas.{first_below-found}
use Rattle.phase_message.specs.declared.post.Post.{Post}
use Rattle.phase_message.specs.declared.stage.Slot.{Slot}
use Rattle.phase_message.specs.Post.{post_spelling}
use Rattle.phase_message.specs.Shape.{Shape}
use Rattle.phase_message.specs.Slots.{slot_number, stage_count}
use Rattle.phase_message.specs.Stages.{is_slot}
use Rattle.phase_message.proofs.SlotBounds.{slot-bounds}
use Rattle.phase_message.proofs.SlotLists.{slot_at-number, slot_number-within, slots_before-rises}
use Rattle.stage_log.specs.Log.{before}
use Rattle.stage_log.specs.Table.{IsLog, Log, first_incomplete_of, incomplete_stage, is_complete, kept_in}
use Rattle.stage_log.proofs.Fronts.{before-complete}
use Rattle.stage_log.proofs.Pasts.{some_of}
use Rattle.bulk_descriptor.specs.declared.slot_state.SlotState.{SlotState}
use Rattle.transcript_form.specs.declared.claim.Claim.TheVariants.{Pad}
use Rattle.transcript_form.specs.declared.transcript.Transcript.{Transcript}
use Rattle.group_roster.specs.Roster.{Roster, shape_of_roster}
use Rattle.signed_post.proofs.Frames.{framed-found}
use Rattle.conviction.proofs.OwnRows.{in-range}
use Rattle.round_spec.specs.Cases.{ByBadLog, ByBadPad, ByEquivocation, ByReplay, ByWrongSeed, Case, Ends, GoesOn}
use Rattle.round_spec.specs.Course.{closing_of, course_of}
use Rattle.round_spec.specs.Justified.{IsPostOf}
use Rattle.round_spec.specs.Premises.{NoRunsCollide}
use Rattle.round_spec.specs.Result.{Outcome, Waiting, Blamed, DoneWith, first_posts, log_after, result_of}
use Rattle.round_spec.specs.Runs.{ChecksIn, HonestRun, Run, posts_said, run_after}
use Rattle.round_spec.specs.Say.{Configuration, shape_in}
use Rattle.round_spec.specs.Slots.{final_stage}
use Rattle.round_spec.specs.Verdict.{Convicts, Goes, Verdict, verdict_of}
use Rattle.round_spec.proofs.Contained.{contains-flat-from, contains-here, contains-map, contains-map-from}
use Rattle.round_spec.proofs.GoLists.{there as slot-there}
use Rattle.round_spec.proofs.Honesty.{run_after_is_honest}
use Rattle.round_spec.proofs.Rows.{checks-parts}
use Rattle.round_spec.proofs.Verdicts.{verdict_cases}
use Rattle.accountability.specs.AllHonest.{AllDelivered, AllHaveRuns}
use Rattle.accountability.specs.Faulty.{IsAmong}
use Rattle.accountability.specs.Naming.{IsMissed, IsUnheard, NamesMissed}
use Rattle.accountability.specs.Evidence.{IsKeptEnd}
use Rattle.accountability.proofs.AllDone.{all_honest}
use Rattle.accountability.proofs.AllHonest.{nothing_but_pads}
use Rattle.accountability.proofs.Endings.{ending-cases}
use Rattle.accountability.proofs.Evidence.{convicts-not, firsts-check, stand-closed}
use Rattle.accountability.proofs.Faulty.{IsBlame, blame-of}
use Rattle.accountability.proofs.Kept.{checks-header, transcript-same, whole-end}
use Rattle.accountability.proofs.Messages.{done-end, second-end, work-late}
use Rattle.accountability.proofs.Naming.{open_names}
use Rattle.accountability.proofs.Unheard.{file-heard}
use Rattle.member_spec.specs.Outcomes.{slots_shown, state_of}
use Rattle.round_script.specs.declared.fault.Fault.{Fault}
use Rattle.round_script.specs.declared.fault.Fault.TheVariants.{None as Honest}
use Rattle.round_script.specs.declared.script.FaultLine.{FaultLine}
use Rattle.round_script.specs.declared.script.Script.{Script}
use Rattle.round_script.specs.Script.{IsRepeat, IsScript}
use Rattle.group_spec.proofs.Made.{choose}
use Rattle.group_spec.specs.Driver.{MemberShown, group_end, is_faulty, shown_of}
use Rattle.group_spec.specs.Scripts.{fault_in, script_carriage, script_configuration, script_end, script_members, script_roster, script_seat}
use Rattle.group_spec.specs.World.{Entry, Seat, actor_of, entries_beyond, entries_of, entries_with, second_content}
use Rattle.group_laws.specs.AllHonest.{IsUndisturbed, UndisturbedGroupsAreDone}
use Rattle.group_laws.specs.Entering.{IsMemberOf}
use Rattle.group_laws.specs.Forging.{honest_runs}
use Rattle.group_laws.specs.Promises.{IsHonestIn, config_shown}
use Rattle.group_laws.proofs.Carried.{all-carried}
use Rattle.group_laws.proofs.Entering.{members-many}
use Rattle.group_laws.proofs.Forging.{config-is, fault-is, made-same, run-there, seat-there, shown-number}
use Rattle.group_laws.proofs.Honest.{kept-delivered, past-kept, past-long, said-own}
use Rattle.group_laws.proofs.Kept.{members_keep_their_promise, shown-faulty}
use Rattle.group_laws.proofs.Served.{honest_stand_among, honest_members_are_served}
use Rattle.group_laws.proofs.Worlds.{emptied, last-steady, last_seats, shown-at, shown-delivered, whole-entry}

-- ---- a log

-- where all stages before are complete, each slot before has a post
kept-before : (log : Log) (stage : ℕ) (past : List Post) (slot : Slot) → IsLog log → before log stage ≡ Some past
    → is_slot log.shape slot.stage slot.sender ≡ true → slot.stage < stage → (post : Post) × (kept_in log slot ≡ Some post)
kept-before log stage past slot form e speaks lt =
    let number : ℕ = slot_number log.shape slot.stage slot.sender in
    let within = (slot_number-within log.shape slot.stage slot.sender speaks).1 in
    let long = past-long log stage past form e in
    let found = slot-there past number (omega (arith, long, within, slots_before-rises log.shape (slot.stage + 1) stage (omega (arith, lt)))) in
    (found.0, past-kept log stage number past slot found.0 e (slot_at-number log.shape slot.stage slot.sender speaks) found.1)

complete-there : (log : Log) (stage : ℕ) → incomplete_stage log stage ≡ None → is_complete log stage ≡ true
complete-there log stage e = elim (cases_Bool (is_complete log stage)) [
  | inl is ↦ is
  | inr not_it ↦ absurd (none-some stage (sym e ∙ cond-false (is_complete log stage) None (Some stage) not_it))
]

number-same : (a b : ℕ) → (let told : ℕ → Option ℕ = λ z. Some z in told a ≡ told b) → a ≡ b
number-same a b e = cc

stage-same : (log : Log) (k stage : ℕ) → incomplete_stage log k ≡ Some stage → k ≡ stage
stage-same log k stage e = elim (cases_Bool (is_complete log k)) [
  | inl is ↦ absurd (none-some stage (sym (cond-true (is_complete log k) None (Some k) is) ∙ e))
  | inr not_it ↦ number-same k stage (sym (cond-false (is_complete log k) None (Some k) not_it) ∙ e)
]

-- all stages before the first that is not complete are
before-first : (log : Log) (stage : ℕ) → first_incomplete_of log ≡ Some stage → (past : List Post) × (before log stage ≡ Some past)
before-first log stage e =
    let found = first_below-found (incomplete_stage log) (stage_count log.shape) stage e in
    let at = stage-same log found.0 stage found.2 in
    before-complete log stage (λ earlier lt. complete-there log earlier (found.3 earlier (omega (arith, at, lt))))

-- ---- post files

-- a post that checks is the post file of its slot
file-of : (c : Configuration) (slot : Slot) (post : Post) → ChecksIn c slot post → IsPostOf c.roster c.round slot (post_spelling post) post
file-of c slot post is = record {
  spelled = refl;
  content = is.content;
  admitted = checks-header c slot post is;
  reads = (checks-parts c.roster c.round post is.content is.checks).2;
  named = is.named;
}

-- a transcript of one claim is none of another
claim-not : (t other : Transcript) (v : Verdict) → v ≡ Convicts other → Convicts t ≡ v → t.claim ≡ Pad → (other.claim ≡ Pad → ⊥) → ⊥
claim-not t other v is same its apart = apart (sym (ap (λ (x : Transcript). x.claim) (transcript-same t other (same ∙ is))) ∙ its)

is-for : (member sender last : ℕ) → member ≢ sender → 1 ≤ member → member ≤ last
    → (not (member == sender) && (nat_le 1 member && nat_le member last)) ≡ true
is-for member sender last apart least most = search rules

repeat-some : (repeat : Option ℕ) → IsRepeat repeat → 1 ≤ unwrap_or repeat 1
repeat-some None is = omega arith
repeat-some (Some times) is = is.0

fault-none : (lines : List FaultLine) (member : ℕ) → AllByRecursion (λ line. line.fault ≡ Honest) lines → fault_in lines member ≡ Honest
fault-none [] member none = refl
fault-none (line ∷ lines) member none = choose (λ (f : Fault). f ≡ Honest) (line.member == member) line.fault (fault_in lines member)
    (λ _. none.0) (λ _. fault-none lines member none.1)

-- ---- a group without faults

module _ (script : Script) (is : IsScript script) (calm : IsUndisturbed script) where
  seat-honest : (seat : Seat) → Contains (last_seats script) seat → seat.fault ≡ Honest
  seat-honest seat there = fault-is script seat (seat-there script seat is there) ∙ fault-none script.faults seat.config.number calm.faults

  -- each member has its place
  seat-at : (member : ℕ) → IsMemberOf script member → (seat : Seat) × Contains (last_seats script) seat × (seat.config.number ≡ member)
  seat-at member of =
      let first = of.first in
      let last = of.last in
      let listed = in-range 1 (length script.messages) member (omega (arith, first)) (omega (arith, last)) in
      let mapped = subst (λ (xs : List Seat). Contains xs (script_seat script member)) (sym (last-steady script is).same)
      (contains-map-from (script_seat script) (script_members script) member listed) in
      let found = contains-map emptied (last_seats script) (script_seat script member) mapped in
      (found.0, found.1, ap (λ (s : Seat). s.config.number) found.2)

  seat-shown : (seat : Seat) → Contains (last_seats script) seat → IsHonestIn script (shown_of seat)
  unfolding script_end group_end
  seat-shown seat there = record {
    listed = contains-map-from shown_of (last_seats script) seat there;
    honest = shown-faulty seat ∙ ap is_faulty (seat-honest seat there);
  }

  seat-config : (seat : Seat) → Contains (last_seats script) seat → config_shown script (shown_of seat) ≡ seat.config
  seat-config seat there = ap (script_configuration script) (shown-number seat)
      ∙ sym (config-is script seat (seat-there script seat is there))

  seat-among : (seat : Seat) → Contains (last_seats script) seat → IsAmong seat.config seat.delivered (honest_runs script)
  seat-among seat there =
      subst (λ (d : List (List ℕ)). IsAmong seat.config d (honest_runs script)) (shown-delivered seat)
      (subst (λ (c : Configuration). IsAmong c (shown_of seat).delivered (honest_runs script)) (seat-config seat there)
      (honest_stand_among script (shown_of seat) is (seat-shown seat there)))

  member-of : (seat : Seat) (member : ℕ) → Contains (last_seats script) seat → 1 ≤ member → member ≤ (shape_in seat.config).members
      → IsMemberOf script member
  member-of seat member there first last =
      let many = members-many script in
      let same : (shape_in seat.config).members ≡ length (script_roster script).keys
      = ap (λ (c : Configuration). (shape_in c).members) (config-is script seat (seat-there script seat is there)) in
      record { first = first; last = omega (arith, last, many, same) }

  -- each member has a run of the round
  seat-all : (seat : Seat) → Contains (last_seats script) seat → AllHaveRuns seat.config (honest_runs script)
  seat-all seat there member first last =
      let found = seat-at member (member-of seat member there first last) in
      let other : Seat = found.0 in
      let round : (c : Configuration) → (number : ℕ) → c ≡ script_configuration script number → c.round ≡ script.round
      = λ c number e. ap (λ (x : Configuration). x.round) e in (
        run_after other.config other.delivered,
        record {
          listed = run-there script other is found.1 (seat-honest other found.1);
          number = found.2;
          round = round other.config other.config.number (config-is script other (seat-there script other is found.1))
              ∙ sym (round seat.config seat.config.number (config-is script seat (seat-there script seat is there)));
        },
      )

  -- what a member said was delivered to each other
  said-delivered : (sender receiver : Seat) (post : Post) → Contains (last_seats script) sender → Contains (last_seats script) receiver
      → receiver.config.number ≢ sender.config.number → Contains (posts_said (run_after sender.config sender.delivered)) post
      → Contains receiver.delivered (post_spelling post)
  unfolding entries_beyond
  said-delivered sender receiver post there others apart said =
      let honest = seat-honest sender there in
      let made : Contains (actor_of sender).made post
      = subst (λ (posts : List Post). Contains posts post) (sym (made-same script sender is there honest)) said in
      let entry : Entry = whole-entry sender post in
      let single : Contains (entries_of sender post) (whole-entry sender post)
      = subst (λ (o : Option (List ℕ)). Contains (entries_with sender post o) (whole-entry sender post))
      (sym (ap (λ (f : Fault). second_content f (shape_in sender.config) post) honest)) (contains-here (whole-entry sender post) []) in
      let posted = contains-flat-from (entries_of sender) (actor_of sender).made post entry made single in
      let of = seat-there script receiver is others in
      let number : receiver.config.number ≡ of.member = ap (λ (s : Seat). s.config.number) of.same in
      let first = of.is.first in
      let last = of.is.last in
      let many = members-many script in
      let same : (shape_in sender.config).members ≡ length (script_roster script).keys
      = ap (λ (c : Configuration). (shape_in c).members) (config-is script sender (seat-there script sender is there)) in
      all-carried (script_carriage script) (repeat-some script.repeat is.repeat) calm.drops (map (script_seat script) (script_members script))
      sender receiver entry there others posted
      (is-for receiver.config.number sender.config.number (shape_in sender.config).members apart (omega (arith, number, first))
      (omega (arith, number, last, many, same)))

  -- and heard there
  said-heard : (sender receiver : Seat) (stage : ℕ) (post : Post) → Contains (last_seats script) sender → Contains (last_seats script) receiver
      → receiver.config.number ≢ sender.config.number
      → kept_in (log_after sender.config sender.delivered) (record { stage = stage; sender = sender.config.number }) ≡ Some post
      → IsUnheard receiver.config receiver.delivered (record { stage = stage; sender = sender.config.number }) → ⊥
  said-heard sender receiver stage post there others apart kept unheard =
      let run : Run = run_after sender.config sender.delivered in
      let slot : Slot = record { stage = stage; sender = sender.config.number } in
      let among = seat-among sender there in
      let honest = run_after_is_honest sender.config sender.delivered among.config among.bytes in
      let file = file-of sender.config slot post (honest.posts slot post kept) in
      let first = config-is script sender (seat-there script sender is there) in
      let second = config-is script receiver (seat-there script receiver is others) in
      let roster : sender.config.roster ≡ receiver.config.roster
      = ap (λ (c : Configuration). c.roster) first ∙ sym (ap (λ (c : Configuration). c.roster) second) in
      let round : sender.config.round ≡ receiver.config.round
      = ap (λ (c : Configuration). c.round) first ∙ sym (ap (λ (c : Configuration). c.round) second) in
      file-heard receiver.config receiver.delivered slot (post_spelling post) post (λ same. apart (sym same))
      (said-delivered sender receiver post there others apart (said-own run stage post kept))
      (subst (λ (n : ℕ). IsPostOf receiver.config.roster n slot (post_spelling post) post) round
      (subst (λ (r : Roster). IsPostOf r sender.config.round slot (post_spelling post) post) roster file)) unheard

  -- who kept all posts up to the closing of the checks heard those of the others
  past-heard : (seat : Seat) (later : ℕ) (past : List Post) → Contains (last_seats script) seat
      → before (log_after seat.config seat.delivered) later ≡ Some past → (shape_in seat.config).members + 6 < later
      → AllDelivered seat.config seat.delivered
  past-heard seat later past there kept_all late at member speaks early other =
      let c : Configuration = seat.config in
      let log : Log = log_after seat.config seat.delivered in
      let slot : Slot = record { stage = at; sender = member } in
      let among = seat-among seat there in
      let honest = run_after_is_honest seat.config seat.delivered among.config among.bytes in
      let kept = kept-before log later past slot honest.log kept_all
      (ap (λ (s : Shape). is_slot s at member) honest.shape ∙ speaks) (omega (arith, late, early)) in
      let given = kept-delivered seat.config seat.delivered slot kept.0 among.bytes other kept.1 in
      let spelled = (framed-found given.0 kept.0 (All-contains IsBytes seat.delivered given.0 among.bytes given.1) given.2).1 in
      let file = file-of c slot kept.0 (honest.posts slot kept.0 kept.1) in (
        given.0,
        kept.0,
        given.1,
        subst (λ (b : List ℕ). IsPostOf seat.config.roster seat.config.round slot b kept.0) (sym spelled) file,
      )

  -- so it is done
  past-done : (seat : Seat) (later : ℕ) (past : List Post) → NoRunsCollide (honest_runs script) → Contains (last_seats script) seat
      → before (log_after seat.config seat.delivered) later ≡ Some past → (shape_in seat.config).members + 6 < later
      → (slots : List SlotState) × (result_of seat.config seat.delivered ≡ DoneWith slots)
  past-done seat later past distinct there kept late =
      let done = all_honest seat.config seat.delivered (honest_runs script) (seat-among seat there) distinct (seat-all seat there)
      (past-heard seat later past there kept late) in
      (done.0, done.1)

  -- nobody is blamed: a bad pad shows behind the closing of the checks
  pad-not : (seat : Seat) (stage : ℕ) (posts : List Post) (t : Transcript) → NoRunsCollide (honest_runs script)
      → Contains (last_seats script) seat → IsKeptEnd (run_after seat.config seat.delivered) stage posts
      → verdict_of (closing_of seat.config posts stage) ≡ Convicts t → t.claim ≡ Pad → result_of seat.config seat.delivered ≡ Blamed t → ⊥
  pad-not seat stage posts t distinct there end e claim blamed =
      by_case (verdict_cases (closing_of seat.config posts stage) (whole-end (run_after seat.config seat.delivered) stage posts end))
    where
      done-not : (o : Outcome) (slots : List SlotState) → o ≡ DoneWith slots → o ≡ Blamed t → ⊥
      done-not o slots first second = (let both = sym first ∙ second in cc)

      by_case : Case (closing_of seat.config posts stage) (verdict_of (closing_of seat.config posts stage)) → ⊥
      by_case (ByBadPad is_it) =
          let at = (second-end (shape_in seat.config) stage is_it.shuffle is_it.kind is_it.second).1 in
          let final : final_stage (shape_in seat.config) 2 ≡ (shape_in seat.config).members + 7 + ((shape_in seat.config).members + 2) = refl in
          let done = past-done seat (stage + 1) posts distinct there end.kept (omega (arith, at, final)) in
          done-not (result_of seat.config seat.delivered) done.0 done.1 blamed
      by_case (ByBadLog is_it) = claim-not t _ _ is_it.verdict_is (sym e) claim (λ same. absurd cc)
      by_case (ByEquivocation is_it) = claim-not t _ _ is_it.verdict_is (sym e) claim (λ same. absurd cc)
      by_case (ByWrongSeed is_it) = claim-not t _ _ is_it.verdict_is (sym e) claim (λ same. absurd cc)
      by_case (ByReplay is_it) = claim-not t _ _ is_it.verdict_is (sym e) claim (λ same. absurd cc)
      by_case (GoesOn agree work goes) = convicts-not t (verdict_of (closing_of seat.config posts stage)) (inl goes) (sym e)
      by_case (Ends agree done ends) = convicts-not t (verdict_of (closing_of seat.config posts stage)) (inr ends) (sym e)

  blamed-not : (seat : Seat) (t : Transcript) → NoRunsCollide (honest_runs script) → Contains (last_seats script) seat
      → result_of seat.config seat.delivered ≡ Blamed t → ⊥
  blamed-not seat t distinct there e = elim (ending-cases seat.config part (Convicts t) blame.ends) [
    | inl last ↦ elim last.shows [
      | inl malformed ↦ claim-not t _ _ malformed.verdict_is refl claim (λ same. absurd cc)
      | inr other ↦ claim-not t _ _ other.verdict_is refl claim (λ same. absurd cc)
    ]
    | inr course ↦
        let closed = stand-closed seat.config (first_posts seat.config part) (Convicts t) among.config (firsts-check seat.config part part_bytes)
        course.1 (λ goes. convicts-not t Goes (inl refl) goes) in
        pad-not seat closed.0 (course_of seat.config (first_posts seat.config part)).past t distinct there
        (subst (λ (run : Run). IsKeptEnd run closed.0 (course_of seat.config (first_posts seat.config part)).past) (sym blame.run_is)
        closed.1.kept)
        closed.1.verdict_is claim e
  ]
    where
      among : IsAmong seat.config seat.delivered (honest_runs script)
      among = seat-among seat there

      blame : IsBlame seat.config seat.delivered t
      blame = blame-of seat.config seat.delivered t e

      part : List (List ℕ)
      part = take blame.count seat.delivered

      part_bytes : All IsBytes part
      part_bytes = All-take IsBytes blame.count seat.delivered among.bytes

      claim : t.claim ≡ Pad
      claim = nothing_but_pads seat.config seat.delivered (honest_runs script) t among distinct (seat-all seat there) e

  -- nobody waits: the one that is missed at a stage has said its post there
  waits-not : (bound : ℕ) (seat : Seat) (stage : ℕ) (named : List ℕ) → NoRunsCollide (honest_runs script) → Contains (last_seats script) seat
      → stage < bound → result_of seat.config seat.delivered ≡ Waiting stage named → ⊥
  waits-not zero seat stage named distinct there lt e = absurd (omega (arith, lt))
  waits-not (suc bound) seat stage named distinct there lt e = elim (cases_lt ((shape_in seat.config).members + 6) stage) [
    | inl late ↦
        let past = before-first (log_after seat.config seat.delivered) stage names.first in
        let done = past-done seat stage past.0 distinct there past.1 late in
        done-waits done.0 stage named (sym done.1 ∙ e)
    | inr early ↦ by_other (λ at others sooner is_it. waits-not bound other at others distinct place.1 (omega (arith, sooner, lt)) is_it)
        (result_of other.config other.delivered) refl early
  ]
    where
      names : NamesMissed seat.config seat.delivered stage named
      names = open_names seat.config seat.delivered stage named (seat-among seat there).config.enter (seat-among seat there).bytes e

      missed : IsMissed seat.config seat.delivered stage names.somebody.0
      missed = (names.missed names.somebody.0).0 names.somebody.1

      place : (s : Seat) × Contains (last_seats script) s × (s.config.number ≡ names.somebody.0)
      place = (
          let bounds = slot-bounds (shape_in seat.config) stage names.somebody.0 missed.speaks in
          seat-at names.somebody.0 (member-of seat names.somebody.0 there bounds.1 bounds.2))

      other : Seat
      other = place.0

      done-waits : (slots : List SlotState) (stage : ℕ) (named : List ℕ) → DoneWith slots ≡ Waiting stage named → ⊥
      done-waits slots stage named e = cc

      -- it speaks at the stage
      speaks : is_slot (shape_in other.config) stage other.config.number ≡ true
      speaks =
          ap (λ (c : Configuration). is_slot (shape_in c) stage other.config.number)
          (config-is script other (seat-there script other is place.1))
          ∙ ap (is_slot (shape_of_roster (script_roster script)) stage) place.2
          ∙ sym (ap (λ (c : Configuration). is_slot (shape_in c) stage names.somebody.0) (config-is script seat (seat-there script seat is there)))
          ∙ missed.speaks

      heard : (post : Post) → kept_in (log_after other.config other.delivered) (record { stage = stage; sender = other.config.number }) ≡ Some post
          → ⊥
      heard post kept = said-heard other seat stage post place.1 there (λ same. missed.other (sym place.2 ∙ sym same)) kept
          (subst (λ (n : ℕ). IsUnheard seat.config seat.delivered (record { stage = stage; sender = n })) (sym place.2) missed.unheard)

      others-honest : HonestRun (run_after other.config other.delivered)
      others-honest = run_after_is_honest other.config other.delivered (seat-among other place.1).config (seat-among other place.1).bytes

      behind : (later : ℕ) (past : List Post) → before (log_after other.config other.delivered) later ≡ Some past → stage < later → ⊥
      behind later past kept lt =
          let found = kept-before (log_after other.config other.delivered) later past
          (record { stage = stage; sender = other.config.number }) others-honest.log kept
          (ap (λ (s : Shape). is_slot s stage other.config.number) others-honest.shape ∙ speaks) lt in
          heard found.0 found.1

      by_other : ((at : ℕ) (others : List ℕ) → at < stage → result_of other.config other.delivered ≡ Waiting at others → ⊥)
          → (o : Outcome) → result_of other.config other.delivered ≡ o → stage ≤ (shape_in seat.config).members + 6 → ⊥
      by_other again (Blamed t) is_it early = blamed-not other t distinct place.1 is_it
      by_other again (DoneWith slots) is_it early =
          let done = done-end other.config other.delivered slots (seat-among other place.1).config (seat-among other place.1).bytes is_it in
          let late = work-late _ done.work in
          let same : (shape_in other.config).members ≡ (shape_in seat.config).members
          = ap (λ (c : Configuration). (shape_in c).members) (config-is script other (seat-there script other is place.1))
          ∙ sym (ap (λ (c : Configuration). (shape_in c).members) (config-is script seat (seat-there script seat is there))) in
          behind (done.stage + 1) done.posts done.kept.kept (omega (arith, late, early, same))
      by_other again (Waiting at others) is_it early =
          let theirs = open_names other.config other.delivered at others (seat-among other place.1).config.enter
          (seat-among other place.1).bytes is_it in
          elim (cases_lt at stage) [
            | inl sooner ↦ again at others sooner is_it
            | inr not_sooner ↦ elim (cases_lt stage at) [
              | inl later ↦
                  let past = before-first (log_after other.config other.delivered) at theirs.first in
                  behind at past.0 past.1 later
              | inr not_later ↦
                  let here : at ≡ stage = omega (arith, not_sooner, not_later) in
                  let own = some_of (kept_in (log_after other.config other.delivered) (record { stage = at; sender = other.config.number }))
                  (theirs.own (ap (λ (s : ℕ). is_slot (shape_in other.config) s other.config.number) here ∙ speaks)) in
                  heard own.0 (ap (λ (s : ℕ). kept_in (log_after other.config other.delivered)
                  (record { stage = s; sender = other.config.number })) (sym here) ∙ own.1)
            ]
          ]

  -- so each is done
  seat-done : (seat : Seat) → NoRunsCollide (honest_runs script) → Contains (last_seats script) seat
      → (slots : List SlotState) × (result_of seat.config seat.delivered ≡ DoneWith slots)
  seat-done seat distinct there = by_result (result_of seat.config seat.delivered) refl
    where
      by_result : (o : Outcome) → result_of seat.config seat.delivered ≡ o
          → (slots : List SlotState) × (result_of seat.config seat.delivered ≡ DoneWith slots)
      by_result (DoneWith slots) e = (slots, e)
      by_result (Waiting stage named) e = absurd (waits-not (suc stage) seat stage named distinct there (omega arith) e)
      by_result (Blamed t) e = absurd (blamed-not seat t distinct there e)

pub undisturbed_groups_are_done : UndisturbedGroupsAreDone
undisturbed_groups_are_done script shown is calm distinct listed =
    let at = shown-at script shown is listed in
    let honest : shown.faulty ≡ false = sym (ap (λ (s : MemberShown). s.faulty) at.is) ∙ shown-faulty at.seat
    ∙ ap is_faulty (seat-honest script is calm at.seat at.there) in
    let in_it : IsHonestIn script shown = record { listed = listed; honest = honest } in
    let keeps = members_keep_their_promise script shown is in_it in
    let done = seat-done script is calm at.seat distinct at.there in
    let same : result_of (config_shown script shown) shown.delivered ≡ DoneWith done.0
    = sym (ap (λ (s : MemberShown). result_of (config_shown script s) s.delivered) at.is)
    ∙ ap (λ (c : Configuration). result_of c (shown_of at.seat).delivered) (seat-config script is calm at.seat at.there)
    ∙ ap (result_of at.seat.config) (shown-delivered at.seat) ∙ done.1 in
    let shows : shown.slots ≡ Some done.0 = keeps.slots_are ∙ ap slots_shown same in
    record {
      honest = honest;
      done = keeps.result ∙ ap state_of same;
      slots = done.0;
      shows = shows;
      messages = honest_members_are_served script shown done.0 is distinct in_it shows;
      all = λ member of. (
          let found = seat-at script is calm member of in (
            run_after found.0.config found.0.delivered,
            run-there script found.0 is found.1 (seat-honest script is calm found.0 found.1),
            found.2,
          ));
    }
