-- What the status of a member's command tells.
use Rattle.std.proofs.Common.{◌≡◌, ◌≢◌, ◌⊎◌, inl, inr, refl, sym, ◌∙◌, subst, ℕ, ◌≤◌, List, Bool, true, false, Option, Some, None, Result, Ok, Err}
use Rattle.std.specs.Prelude.{IfErr, nat_le, nat_lt, length, ◌+◌, ◌==◌, if◌then◌else◌}
use Rattle.wire_core.specs.Answers.{◌>>=◌}
use Rattle.wire_core.proofs.AnswerLemmas.{bind_ok}
use Rattle.outside.specs.Changes.{Change, Failed}
use Rattle.outside.specs.Faults.{Rose}
use Rattle.lms_tree.specs.Secret.{own_public}
use Rattle.lms_tree.specs.States.{made_leaves}
use Rattle.lms_tree.specs.Tree.{key_bytes}
use Rattle.bulk_descriptor.specs.declared.making.TheConstants.{MESSAGE_LIMIT}
use Rattle.group_roster.specs.Binary.{roster_read}
use Rattle.group_roster.specs.Roster.{Roster}
use Rattle.key_store.specs.declared.layout.KeyContent.{KeyContent}
use Rattle.key_store.specs.KeyFiles.{parts_in}
use Rattle.transcript_form.specs.Transcript.{transcript_spelling}
use Rattle.round_spec.specs.Result.{Blamed as BlamedBy, DoneWith, Outcome, Waiting, result_of}
use Rattle.round_spec.specs.Say.{Configuration}
use Rattle.conviction.specs.Accepts.{Accepts}
use Rattle.member_spec.specs.Outcomes.{state_of}
use Rattle.member_core.specs.Promises.{KeepsPromise}
use Rattle.offline_commands.specs.declared.commands.TheConstants.{ROSTER_LIMIT}
use Rattle.offline_commands.specs.declared.status.Status.{Status}
use Rattle.offline_commands.specs.declared.status.Status.TheVariants.{BadKeyFile, Blamed, DiskFault, Exhausted, Flooded, LinkFault, NotMember, OldRound, OutOfMemory, ReadFault, Usage, WriteFault}
use Rattle.offline_commands.specs.Delivery.{Delivers, status_of}
use Rattle.offline_commands.specs.Outcome.{or_bad_roster, within}
use Rattle.offline_commands.specs.Outside.{Held, IsMissing, Shows}
use Rattle.member_entry.specs.Entering.{Entrant, Found, MemberWords, ROUND_LEAVES, before_key, configuration_by, entrance_by, entrant_by, number_in, or_bad_key_file, or_not_begun, or_not_member, or_usage}
use Rattle.online_commands.specs.TakingPart.{Ends, HoldsTranscript, IsIdle, Outside, told_of}
use Rattle.online_commands.specs.Promise.{BreaksOff, ComesOf, EndsBeforePosts, HoldsEvidence, IsMemberAnswered, IsMemberRun, LacksInput, WasFound}

-- what each status tells
abbrev pub Tells : Outside → Change (Option (List ℕ)) → Option MemberWords → Status → Type 0
Tells outside sink words ReadFault = Failed outside.files ⊎ LacksInput outside.files.before words
Tells outside sink words WriteFault = Failed outside.files ⊎ Failed sink
Tells outside sink words LinkFault = Rose outside.link_before.faults outside.link_now.faults
Tells outside sink words DiskFault = Failed outside.disk × IsIdle outside.link_before outside.link_now
Tells outside sink words (Exhausted next height) = IsIdle outside.link_before outside.link_now
Tells outside sink words (OldRound kept) = IsIdle outside.link_before outside.link_now
Tells outside sink words (BadKeyFile at) = IsIdle outside.link_before outside.link_now
Tells outside sink words NotMember = IsIdle outside.link_before outside.link_now
Tells outside sink words (Blamed accused claim) = HoldsEvidence outside words accused claim
Tells outside sink words status = Unit {0}

-- ---- what words and files come to

bind-err : {A B : Type 0} (P : Status → Type 0) (r : Result A Status) (f : A → Result B Status) → IfErr r P → ((x : A) → IfErr (f x) P)
    → IfErr (r >>= f) P
bind-err P (Err status) f refused step = refused
bind-err P (Ok x) f refused step = step x

if-err : {A : Type 0} (P : Status → Type 0) (test : Bool) (r s : Result A Status) → IfErr r P → IfErr s P
    → IfErr (if test then r else s) P
if-err P true r s first second = first
if-err P false r s first second = second

missing : (told : Option Held) (name : List ℕ) → Shows told name None → IsMissing told name
missing None name shows = absurd cc
missing (Some held) name shows = shows

within-err : (outside : Outside) (sink : Change (Option (List ℕ))) (words : Option MemberWords) (limit : ℕ) (name : List ℕ)
    (file : Option (List ℕ)) → Shows outside.files.before name file
    → (IsMissing outside.files.before name → LacksInput outside.files.before words)
    → IfErr (within limit file) (Tells outside sink words)
within-err outside sink words limit name None shows lacks = inr (lacks (missing outside.files.before name shows))
within-err outside sink words limit name (Some bytes) shows lacks =
    if-err (Tells outside sink words) (nat_lt limit (length bytes)) _ _ tt tt

roster-err : (outside : Outside) (sink : Change (Option (List ℕ))) (words : Option MemberWords) (r : Result Roster (ℕ × ℕ))
    → IfErr (or_bad_roster r) (Tells outside sink words)
roster-err outside sink words (Ok roster) = tt
roster-err outside sink words (Err offence) = tt

key-err : (outside : Outside) (sink : Change (Option (List ℕ))) (words : Option MemberWords) (r : Result KeyContent ℕ)
    → IsIdle outside.link_before outside.link_now → IfErr (or_bad_key_file r) (Tells outside sink words)
key-err outside sink words (Ok key) idle = tt
key-err outside sink words (Err at) idle = idle

number-err : (outside : Outside) (sink : Change (Option (List ℕ))) (words : Option MemberWords) (o : Option ℕ)
    → IsIdle outside.link_before outside.link_now → IfErr (or_not_member o) (Tells outside sink words)
number-err outside sink words (Some number) idle = tt
number-err outside sink words None idle = idle

first-err : (outside : Outside) (sink : Change (Option (List ℕ))) (words : MemberWords) (found : Found) → WasFound outside words found
    → IfErr (before_key words found) (Tells outside sink (Some words))
first-err outside sink words found was =
    let P : Status → Type 0 = Tells outside sink (Some words) in
    bind-err P (within ROSTER_LIMIT found.roster_file) _
    (within-err outside sink (Some words) ROSTER_LIMIT words.roster found.roster_file was.roster (λ is. inl is))
    (λ bytes. bind-err P (or_bad_roster (roster_read bytes)) _ (roster-err outside sink (Some words) (roster_read bytes))
    (λ roster. bind-err P (or_usage roster words.addresses) _
    (if-err P (length words.addresses == length roster.keys) _ _ tt tt)
    (λ _. bind-err P (within MESSAGE_LIMIT found.message_file) _
    (within-err outside sink (Some words) MESSAGE_LIMIT words.message found.message_file was.message (λ is. inr is))
    (λ message. tt))))

entrant-err : (outside : Outside) (sink : Change (Option (List ℕ))) (words : MemberWords) (found : Found) → WasFound outside words found
    → IsIdle outside.link_before outside.link_now → IfErr (entrant_by words found) (Tells outside sink (Some words))
entrant-err outside sink words found was idle =
    let P : Status → Type 0 = Tells outside sink (Some words) in
    bind-err P (before_key words found) _ (first-err outside sink words found was)
    (λ first. bind-err P (or_bad_key_file found.key_file) _ (key-err outside sink (Some words) found.key_file idle)
    (λ key. bind-err P (or_not_member (number_in first.0 (key_bytes (own_public (parts_in key))))) _
    (number-err outside sink (Some words) (number_in first.0 (key_bytes (own_public (parts_in key)))) idle)
    (λ number. tt)))

begun-err : (outside : Outside) (sink : Change (Option (List ℕ))) (words : Option MemberWords) (round : ℕ) (key : KeyContent)
    → IsIdle outside.link_before outside.link_now → IfErr (or_not_begun round key) (Tells outside sink words)
begun-err outside sink words round key idle =
    if-err (Tells outside sink words) (nat_le round key.kept.round) _ _ idle
    (if-err (Tells outside sink words) (nat_lt (made_leaves key.height) (key.kept.next + ROUND_LEAVES)) _ _ idle tt)

entrance-err : (outside : Outside) (sink : Change (Option (List ℕ))) (words : MemberWords) (fresh : List ℕ) (found : Found)
    → WasFound outside words found → IsIdle outside.link_before outside.link_now
    → IfErr (entrance_by words fresh found) (Tells outside sink (Some words))
entrance-err outside sink words fresh found was idle =
    let P : Status → Type 0 = Tells outside sink (Some words) in
    bind-err P (entrant_by words found) _ (entrant-err outside sink words found was idle)
    (λ entrant. bind-err P (or_not_begun words.round entrant.key) _
    (begun-err outside sink (Some words) words.round entrant.key idle) (λ _. tt))

-- ---- who takes part

entrance-same : (a b : Entrant × Configuration)
    → (let told : Entrant × Configuration → Result (Entrant × Configuration) Status = λ x. Ok x in told a ≡ told b) → a ≡ b
entrance-same a b e = cc

-- what a member enters with is what was read, under its roster
entrance-parts : (words : MemberWords) (fresh : List ℕ) (found : Found) (entrance : Entrant × Configuration)
    → entrance_by words fresh found ≡ Ok entrance
    → (entrant : Entrant) × (entrant_by words found ≡ Ok entrant) × (entrance.1.roster ≡ entrant.roster)
entrance-parts words fresh found entrance is =
    let e = bind_ok (entrant_by words found) _ entrance is in
    let b = bind_ok (or_not_begun words.round e.0.key) _ entrance e.2 in
    let same = entrance-same (e.0, configuration_by words.round fresh e.0) entrance b.2 in
    (e.0, e.1, subst (λ (x : Entrant × Configuration). x.1.roster ≡ e.0.roster) same refl)

told-so : (outside : Outside) (sink : Change (Option (List ℕ))) (words : Option MemberWords) (answer : Result (List ℕ) Status)
    (status : Status) → answer ≡ Err status → Tells outside sink words status → IfErr answer (Tells outside sink words)
told-so outside sink words answer status is tells =
    subst (λ (a : Result (List ℕ) Status). IfErr a (Tells outside sink words)) (sym is) tells

settled-err : (outside : Outside) (sink : Change (Option (List ℕ))) (words : MemberWords) (found : Found) (entrant : Entrant)
    (c : Configuration) (frames : List (List ℕ)) (answer : Result (List ℕ) Status) → WasFound outside words found
    → entrant_by words found ≡ Ok entrant → c.roster ≡ entrant.roster
    → (o : Outcome) → result_of c frames ≡ o → answer ≡ told_of o
    → (answer ≢ Err OutOfMemory → KeepsPromise c frames (state_of o)) → HoldsTranscript outside.files words.transcript o
    → IfErr (told_of o) (Tells outside sink (Some words))
settled-err outside sink words found entrant c frames answer was entered roster (Waiting stage members) e is promise holds = tt
settled-err outside sink words found entrant c frames answer was entered roster (DoneWith slots) e is promise holds = tt
settled-err outside sink words found entrant c frames answer was entered roster (BlamedBy t) e is promise holds =
    let kept = promise (λ memory. not-memory (sym is ∙ memory)) in
    record {
      found = found;
      stood = was;
      entrant = entrant;
      entered = entered;
      bytes = transcript_spelling kept.0;
      written = subst (HoldsTranscript outside.files words.transcript) (sym e ∙ kept.1) holds;
      accepts = subst (λ (r : Roster). Accepts r (transcript_spelling kept.0) t.accused t.claim) roster kept.2.accepts;
    }
  where
    not-memory : (let told : Status → Result (List ℕ) Status = λ s. Err s in told (Blamed t.accused t.claim) ≡ told OutOfMemory) → ⊥
    not-memory bad = cc

took-err : (outside : Outside) (sink : Change (Option (List ℕ))) (words : MemberWords) (found : Found) (entrant : Entrant)
    (c : Configuration) (frames : List (List ℕ)) (answer : Result (List ℕ) Status) → WasFound outside words found
    → entrant_by words found ≡ Ok entrant → c.roster ≡ entrant.roster
    → (answer ≢ Err OutOfMemory → KeepsPromise c frames (state_of (result_of c frames)))
    → Ends outside.files words.transcript outside.link_before outside.link_now frames (result_of c frames) answer
    → IfErr answer (Tells outside sink (Some words))
took-err outside sink words found entrant c frames answer was entered roster promise (inl (waits, inl (is, holds))) =
    subst (λ (a : Result (List ℕ) Status). IfErr a (Tells outside sink (Some words))) (sym is)
    (settled-err outside sink words found entrant c frames answer was entered roster (result_of c frames) refl is promise holds)
took-err outside sink words found entrant c frames answer was entered roster promise (inl (waits, inr (inl (is, blamed, failed)))) =
    told-so outside sink (Some words) answer WriteFault is (inl failed)
took-err outside sink words found entrant c frames answer was entered roster promise (inl (waits, inr (inr (is, kept)))) =
    told-so outside sink (Some words) answer OutOfMemory is tt
took-err outside sink words found entrant c frames answer was entered roster promise (inr (inl (is, waits, all, same))) =
    told-so outside sink (Some words) answer Flooded is tt
took-err outside sink words found entrant c frames answer was entered roster promise (inr (inr (inl (is, rose, same)))) =
    told-so outside sink (Some words) answer LinkFault is rose
took-err outside sink words found entrant c frames answer was entered roster promise (inr (inr (inr (is, same)))) =
    told-so outside sink (Some words) answer OutOfMemory is tt

-- ---- the answer

broken-err : (outside : Outside) (sink : Change (Option (List ℕ))) (words : MemberWords) (found : Found)
    (answer : Result (List ℕ) Status) → IsIdle outside.link_before outside.link_now → BreaksOff outside words found answer
    → IfErr answer (Tells outside sink (Some words))
broken-err outside sink words found answer idle (inl (is, keeps)) = told-so outside sink (Some words) answer OutOfMemory is tt
broken-err outside sink words found answer idle (inr (inl (is, failed, alone))) =
    told-so outside sink (Some words) answer ReadFault is (inl failed)
broken-err outside sink words found answer idle (inr (inr (inl (is, failed, first, stands)))) =
    told-so outside sink (Some words) answer DiskFault is (failed, idle)
broken-err outside sink words found answer idle (inr (inr (inr (is, rose, entered, keeps)))) =
    told-so outside sink (Some words) answer LinkFault is rose

comes-err : (outside : Outside) (sink : Change (Option (List ℕ))) (words : MemberWords) (fresh : List ℕ) (found : Found)
    (answer : Result (List ℕ) Status) → WasFound outside words found
    → (r : Result (Entrant × Configuration) Status) → entrance_by words fresh found ≡ r → ComesOf outside words found r answer
    → IfErr answer (Tells outside sink (Some words))
comes-err outside sink words fresh found answer was (Err status) e (silent, inl (is, keeps)) =
    told-so outside sink (Some words) answer status is
    (subst (λ (r : Result (Entrant × Configuration) Status). IfErr r (Tells outside sink (Some words))) e
    (entrance-err outside sink words fresh found was silent.link))
comes-err outside sink words fresh found answer was (Err status) e (silent, inr breaks) =
    broken-err outside sink words found answer silent.link breaks
comes-err outside sink words fresh found answer was (Ok entrance) e (inl (silent, breaks)) =
    broken-err outside sink words found answer silent.link breaks
comes-err outside sink words fresh found answer was (Ok entrance) e (inr (inl (silent, is, raised))) =
    told-so outside sink (Some words) answer OutOfMemory is tt
comes-err outside sink words fresh found answer was (Ok entrance) e (inr (inr took)) =
    let parts = entrance-parts words fresh found entrance e in
    took-err outside sink words found parts.0 entrance.1 took.frames answer was parts.1 parts.2 took.promise took.ends

answer-err : (outside : Outside) (sink : Change (Option (List ℕ))) (fresh : List ℕ) (words : Option MemberWords)
    (answer : Result (List ℕ) Status) → IsMemberAnswered outside fresh words answer → IfErr answer (Tells outside sink words)
answer-err outside sink fresh None answer is = by_answer is.answers.1
  where
    by_answer : (answer ≡ Err Usage) ⊎ (answer ≡ Err OutOfMemory) → IfErr answer (Tells outside sink None)
    by_answer (inl usage) = told-so outside sink None answer Usage usage tt
    by_answer (inr memory) = told-so outside sink None answer OutOfMemory memory tt
answer-err outside sink fresh (Some words) answer is =
    comes-err outside sink words fresh is.answers.0 answer is.answers.1 (entrance_by words fresh is.answers.0) refl is.answers.2

status-tells : (outside : Outside) (sink : Change (Option (List ℕ))) (words : Option MemberWords) (answer : Result (List ℕ) Status)
    → IfErr answer (Tells outside sink words) → Tells outside sink words (status_of answer)
status-tells outside sink words (Ok output) tells = tt
status-tells outside sink words (Err status) tells = tells

delivered-tells : (outside : Outside) (sink : Change (Option (List ℕ))) (words : Option MemberWords) (answer : Result (List ℕ) Status)
    (status : Status) → Delivers sink answer status → Tells outside sink words (status_of answer) → Tells outside sink words status
delivered-tells outside sink words answer status (gained, gains, inl (is, whole)) tells = subst (Tells outside sink words) (sym is) tells
delivered-tells outside sink words answer status (gained, gains, inr (inl (is, failed, apart, first))) tells =
    subst (Tells outside sink words) (sym is) (inr failed)
delivered-tells outside sink words answer status (gained, gains, inr (inr (is, broken))) tells =
    subst (Tells outside sink words) (sym is) tt

no-post : (outside : Outside) (sink : Change (Option (List ℕ))) (words : Option MemberWords) (status : Status) → EndsBeforePosts status
    → Tells outside sink words status → IsIdle outside.link_before outside.link_now
no-post outside sink words DiskFault before tells = tells.1
no-post outside sink words (Exhausted next height) before tells = tells
no-post outside sink words (OldRound kept) before tells = tells
no-post outside sink words (BadKeyFile at) before tells = tells
no-post outside sink words NotMember before tells = tells
no-post outside sink words status before tells = absurd before

-- a call came to an answer and printed it, so its status tells that
pub member-run : (outside : Outside) (sink : Change (Option (List ℕ))) (fresh : List ℕ) (words : Option MemberWords)
    (answer : Result (List ℕ) Status) (status : Status) → IsMemberAnswered outside fresh words answer → Delivers sink answer status
    → sink.faults_before ≤ sink.faults_now → IsMemberRun outside sink fresh words status
member-run outside sink fresh words answer status is delivers count =
    let tells = delivered-tells outside sink words answer status delivers
    (status-tells outside sink words answer (answer-err outside sink fresh words answer is)) in
    record {
      ends = (answer, is, delivers);
      sink_count = count;
      read_fault = λ e. subst (Tells outside sink words) e tells;
      write_fault = λ e. subst (Tells outside sink words) e tells;
      link_fault = λ e. subst (Tells outside sink words) e tells;
      disk_fault = λ e. (subst (Tells outside sink words) e tells).0;
      no_post = λ before. no-post outside sink words status before tells;
      blamed = λ accused claim e. subst (Tells outside sink words) e tells;
    }
