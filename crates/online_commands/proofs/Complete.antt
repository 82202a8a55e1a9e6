-- A round of honest members who are all heard comes to their messages.
use Rattle.std.proofs.Common.{◌≡◌, ◌⊎◌, inl, inr, refl, sym, ap, ◌∙◌, subst, ℕ, ◌<◌, List, [], ◌++◌, length, length-append, take, append-nil, Option, Some, None, Result, Ok, Err, arith}
use Rattle.std.specs.Prelude.{IfSome, IsSome, IsSomeAnd}
use Rattle.outside.specs.Changes.{Change, Failed}
use Rattle.outside.specs.Faults.{Rose}
use Rattle.bulk_descriptor.specs.declared.slot_state.SlotState.{SlotState}
use Rattle.key_store.specs.KeyFiles.{key_read}
use Rattle.key_store.specs.declared.layout.KeyContent.{KeyContent}
use Rattle.round_link.specs.Traffic.{Shown, Traffic}
use Rattle.round_spec.specs.Result.{Blamed as BlamedBy, DoneWith, Outcome, Waiting, result_of}
use Rattle.round_spec.specs.Runs.{Run}
use Rattle.round_spec.specs.Say.{Configuration}
use Rattle.accountability.specs.Messages.{HasEachMessage}
use Rattle.accountability.proofs.AllDone.{all_honest}
use Rattle.member_core.specs.Promises.{IsAllHonest}
use Rattle.member_run.specs.declared.run_end.TheConstants.{FRAME_LIMIT}
use Rattle.member_run.specs.Ran.{IsAllTaken}
use Rattle.group_report.specs.Report.{slot_lines}
use Rattle.offline_commands.specs.declared.status.Status.{Status}
use Rattle.offline_commands.specs.declared.status.Status.TheVariants.{OutOfMemory}
use Rattle.offline_commands.specs.Delivery.{Delivers}
use Rattle.offline_commands.specs.Outside.{Gains, Held, Shows}
use Rattle.member_entry.specs.Entering.{Entrant, Found, MemberWords, entrance_by, key_file_told}
use Rattle.online_commands.specs.TakingPart.{Converses, Ends, IsHeardOut, Outside, Settles, WaitsOnlyIf, told_of}
use Rattle.online_commands.specs.Promise.{AllArrives, ComesOf, HasNoFault, IsComplete, IsMemberRun, PrintsAllMessages, WasFound, WasTold}
use Rattle.online_commands.proofs.Lasting.{result-lasts}

-- ---- what was found

same-file : (told : Option Held) (name : List ℕ) (a b : Option (List ℕ)) → IsSome told → Shows told name a → Shows told name b → a ≡ b
same-file None name a b some first second = absurd cc
same-file (Some held) name a b some first second = sym first ∙ second

same-key : (told : Option (List ℕ)) (a b : Result KeyContent ℕ) → IsSome told → IfSome told (λ bytes. key_read (take 128 bytes) ≡ a)
    → IfSome told (λ bytes. key_read (take 128 bytes) ≡ b) → a ≡ b
same-key None a b some first second = absurd cc
same-key (Some bytes) a b some first second = sym first ∙ second

same-parts : (a b c d : Option (List ℕ)) (k l : Result KeyContent ℕ) → a ≡ b → c ≡ d → k ≡ l
    → ◌≡◌ {A = Found} (record { roster_file = a; message_file = c; key_file = k }) (record { roster_file = b; message_file = d; key_file = l })
same-parts a b c d k l x y z = cc

-- where all is told, there is one thing that was found
same-found : (outside : Outside) (words : MemberWords) (a b : Found) → WasTold outside words a → WasFound outside words b → a ≡ b
same-found outside words a b told other = same-parts a.roster_file b.roster_file a.message_file b.message_file a.key_file b.key_file
    (same-file outside.files.before words.roster a.roster_file b.roster_file told.files told.stood.roster other.roster)
    (same-file outside.files.before words.message a.message_file b.message_file told.files told.stood.message other.message)
    (same-key (key_file_told outside.disk.before words.key) a.key_file b.key_file told.disk told.stood.key other.key)

-- ---- what was taken

-- the frames are a first part of the arrivals, and all of them where nothing was left
taken-first : (c : Configuration) (frames arrivals : List (List ℕ)) (P : Type 0) (before now : Option Traffic) → IsSome before
    → IfSome before (λ (t : Traffic). t.left ≡ arrivals) → IfSome before (λ t. IsSomeAnd now (Converses c frames P t))
    → (rest : List (List ℕ)) × (arrivals ≡ frames ++ rest) × (IfSome now (λ (t : Traffic). t.left ≡ []) → rest ≡ [])
taken-first c frames arrivals P None now some left told = absurd cc
taken-first c frames arrivals P (Some t) None some left told = absurd told
taken-first c frames arrivals P (Some t) (Some u) some left told = (u.left, sym left ∙ told.0.left, λ none. none)

fewer : (frames rest arrivals : List (List ℕ)) (limit : ℕ) → arrivals ≡ frames ++ rest → length arrivals < limit → length frames ≡ limit → ⊥
fewer frames rest arrivals limit is less all = omega (arith, less, all, ap (λ (l : List (List ℕ)). length l) is, length-append frames rest)

-- an outcome is done, with the messages of all
abbrev IsDoneOf : Configuration → List Run → Outcome → Type 0
IsDoneOf c runs o = (slots : List SlotState) × (o ≡ DoneWith slots) × HasEachMessage runs c.round slots

-- where the round ended, or nothing was left, it is done
done-of-all : (c : Configuration) (frames arrivals rest : List (List ℕ)) (runs : List Run) (Q : Type 0) → arrivals ≡ frames ++ rest
    → (Q → rest ≡ []) → WaitsOnlyIf Q (result_of c frames) → IsAllHonest c arrivals runs
    → IsDoneOf c runs (result_of c frames)
done-of-all c frames arrivals rest runs Q is none waits honest =
    let all = all_honest c arrivals runs honest.among honest.distinct honest.all honest.heard in
    (all.0, sym (same (result_of c frames) refl waits) ∙ sym (ap (result_of c) is) ∙ all.1, all.2)
  where
    same : (o : Outcome) → result_of c frames ≡ o → WaitsOnlyIf Q o → result_of c (frames ++ rest) ≡ result_of c frames
    same (Waiting stage members) e q = ap (λ (r : List (List ℕ)). result_of c (frames ++ r)) (none q) ∙ ap (result_of c) (append-nil frames)
    same (BlamedBy t) e q = result-lasts c frames rest (subst (λ (o : Outcome). WaitsOnlyIf ⊥ o) (sym e) tt)
    same (DoneWith slots) e q = result-lasts c frames rest (subst (λ (o : Outcome). WaitsOnlyIf ⊥ o) (sym e) tt)

-- ---- what is answered and printed

-- an answer with the messages of all, or for want of memory
abbrev TellsAll : Configuration → List Run → Result (List ℕ) Status → Type 0
TellsAll c runs answer =
    ((slots : List SlotState) × (answer ≡ Ok (slot_lines 1 slots)) × HasEachMessage runs c.round slots) ⊎ (answer ≡ Err OutOfMemory)

settles-all : (c : Configuration) (runs : List Run) (files : Change (Option Held)) (name : List ℕ) (o : Outcome)
    (answer : Result (List ℕ) Status) → ¬ Failed files
    → IsDoneOf c runs o → Settles files name o answer → TellsAll c runs answer
settles-all c runs files name o answer no_fault done (inl (is, holds)) = inl (done.0, is ∙ ap told_of done.1, done.2)
settles-all c runs files name o answer no_fault done (inr (inl (is, blamed, failed))) = absurd (no_fault failed)
settles-all c runs files name o answer no_fault done (inr (inr (memory, kept))) = inr memory

ends-all : (c : Configuration) (runs : List Run) (files : Change (Option Held)) (name : List ℕ) (before now : Shown)
    (frames arrivals rest : List (List ℕ)) (answer : Result (List ℕ) Status) → ¬ Failed files → ¬ Rose before.faults now.faults
    → arrivals ≡ frames ++ rest → (IsAllTaken now → rest ≡ []) → IsAllHonest c arrivals runs → length arrivals < FRAME_LIMIT
    → Ends files name before now frames (result_of c frames) answer → TellsAll c runs answer
ends-all c runs files name before now frames arrivals rest answer no_fault no_rise is none honest few (inl (waits, settles)) =
    settles-all c runs files name (result_of c frames) answer no_fault
    (done-of-all c frames arrivals rest runs (Rose before.ends now.ends × IsAllTaken now × (length frames < FRAME_LIMIT)) is (λ q. none q.1) waits honest) settles
ends-all c runs files name before now frames arrivals rest answer no_fault no_rise is none honest few (inr (inl (told, waits, flooded, same))) =
    absurd (fewer frames rest arrivals FRAME_LIMIT is few flooded)
ends-all c runs files name before now frames arrivals rest answer no_fault no_rise is none honest few (inr (inr (inl (told, rose, same)))) =
    absurd (no_rise rose)
ends-all c runs files name before now frames arrivals rest answer no_fault no_rise is none honest few (inr (inr (inr (told, same)))) = inr told

delivers-all : (sink : Change (Option (List ℕ))) (c : Configuration) (runs : List Run) (answer : Result (List ℕ) Status) (status : Status)
    → ¬ Failed sink → Delivers sink answer status → TellsAll c runs answer → PrintsAllMessages sink c runs status
delivers-all sink c runs answer status no_fault delivers (inl (slots, is, has)) =
    by_printing (subst (λ (a : Result (List ℕ) Status). Delivers sink a status) is delivers)
  where
    by_printing : Delivers sink (Ok (slot_lines 1 slots)) status → PrintsAllMessages sink c runs status
    by_printing (gained, gains, inl (done, whole)) =
        inl (done, (slots, has, subst (λ (text : List ℕ). Gains sink.before sink.now text) whole gains))
    by_printing (gained, gains, inr (inl (is_fault, failed, apart, first))) = absurd (no_fault failed)
    by_printing (gained, gains, inr (inr (memory, broken))) = inr memory
delivers-all sink c runs answer status no_fault delivers (inr memory) =
    by_printing (subst (λ (a : Result (List ℕ) Status). Delivers sink a status) memory delivers)
  where
    by_printing : Delivers sink (Err OutOfMemory) status → PrintsAllMessages sink c runs status
    by_printing (gained, gains, inl (ended, whole)) = inr ended
    by_printing (gained, gains, inr (inl (is_fault, failed, apart, first))) = absurd (no_fault failed)
    by_printing (gained, gains, inr (inr (ended, broken))) = inr ended

-- ---- all of it

comes-all : (outside : Outside) (sink : Change (Option (List ℕ))) (words : MemberWords) (found : Found)
    (entrant : Entrant) (c : Configuration) (runs : List Run) (answer : Result (List ℕ) Status) → HasNoFault outside sink
    → IsSome outside.link_before.traffic → AllArrives outside c runs → ComesOf outside words found (Ok (entrant, c)) answer
    → TellsAll c runs answer
comes-all outside sink words found entrant c runs answer none told all (inl (silent, inl (memory, keeps))) = inr memory
comes-all outside sink words found entrant c runs answer none told all (inl (silent, inr (inl (fault, failed, untouched)))) =
    absurd (none.files failed)
comes-all outside sink words found entrant c runs answer none told all (inl (silent, inr (inr (inl (fault, failed, ok, stands))))) =
    absurd (none.disk failed)
comes-all outside sink words found entrant c runs answer none told all (inl (silent, inr (inr (inr (fault, rose, entered, keeps))))) =
    absurd (none.link rose)
comes-all outside sink words found entrant c runs answer none told all (inr (inl (silent, memory, raised))) = inr memory
comes-all outside sink words found entrant c runs answer none told all (inr (inr took)) =
    let taken = taken-first c took.frames all.arrivals (IsHeardOut answer) outside.link_before.traffic
    outside.link_now.traffic told all.left took.converses in
    ends-all c runs outside.files words.transcript outside.link_before outside.link_now took.frames all.arrivals taken.0 answer none.files none.link
    taken.1 taken.2 all.honest all.few took.ends

pub complete : (outside : Outside) (sink : Change (Option (List ℕ))) (fresh : List ℕ) (words : MemberWords) (status : Status)
    → IsMemberRun outside sink fresh (Some words) status → IsComplete outside sink fresh words status
complete outside sink fresh words status run found entrant c runs told is all none =
    let answered = run.ends.1.answers in
    let same = same-found outside words found answered.0 told answered.1 in
    let entrance : entrance_by words fresh answered.0 ≡ Ok (entrant, c) = ap (entrance_by words fresh) (sym same) ∙ is in
    delivers-all sink c runs run.ends.0 status none.out run.ends.2
    (comes-all outside sink words answered.0 entrant c runs run.ends.0 none told.link all
    (subst (λ (r : Result (Entrant × Configuration) Status). ComesOf outside words answered.0 r run.ends.0)
    entrance answered.2))

pub complete-words : (outside : Outside) (sink : Change (Option (List ℕ))) (fresh : List ℕ) (words : Option MemberWords) (status : Status)
    → IsMemberRun outside sink fresh words status → IfSome words (λ given. IsComplete outside sink fresh given status)
complete-words outside sink fresh None status run = tt
complete-words outside sink fresh (Some words) status run = complete outside sink fresh words status run
