-- What is answered where the member takes part.
use Rattle.std.proofs.Common.{◌≡◌, ◌≢◌, ◌⊎◌, inl, inr, refl, sym, ap, ◌∙◌, subst, ℕ, ◌<◌, ◌≤◌, List, [], length, append-nil, Option, Some, None, Result, Ok, Err}
use Rattle.std.specs.Prelude.{IfSome, IsSomeAnd}
use Rattle.outside.specs.Changes.{Change}
use Rattle.outside.specs.Faults.{Rose}
use Rattle.crash_disk.specs.Names.{IsOfChosen}
use Rattle.group_roster.specs.Given.{roster_of}
use Rattle.group_roster.specs.Roster.{Roster}
use Rattle.key_store.specs.KeyFiles.{parts_in}
use Rattle.key_store.specs.Store.{KeyState}
use Rattle.lms_tree.specs.Secret.{SecretParts}
use Rattle.lms_tree.specs.States.{RunState}
use Rattle.transcript_form.specs.Transcript.{transcript_spelling}
use Rattle.round_link.specs.Traffic.{Shown, Traffic, posts_in}
use Rattle.round_spec.specs.Result.{Blamed as BlamedBy, DoneWith, Outcome, Waiting, result_of}
use Rattle.round_spec.specs.Say.{Configuration}
use Rattle.round_spec.proofs.Honesty.{run_after_is_honest}
use Rattle.member_spec.specs.Outcomes.{slots_shown, state_of}
use Rattle.member_spec.specs.Replies.{Replies}
use Rattle.member_parts.specs.declared.config.Config.{Config}
use Rattle.member_core.specs.Membership.{Holdings, Membership, state_by}
use Rattle.member_core.specs.Promises.{IsPlainMember}
use Rattle.member_core.specs.Stands.{configuration_of}
use Rattle.member_core.proofs.Promised.{configured, one-list, promised, state-is}
use Rattle.member_run.specs.declared.run_end.RunEnd.{RunEnd}
use Rattle.member_run.specs.declared.run_end.RunEnd.TheVariants.{Ended, Waiting as RunWaiting, LinkFault as RunLinkFault, Flooded as RunFlooded, OutOfMemory as RunOutOfMemory}
use Rattle.member_run.specs.declared.run_end.TheConstants.{FRAME_LIMIT}
use Rattle.member_run.specs.Ran.{BeginsWith, EndsSo, Exchange, IfTold, IsAllTaken, MakesDue, Ran, count_after, posts_due}
use Rattle.offline_commands.specs.declared.status.Status.{Status}
use Rattle.offline_commands.specs.declared.status.Status.TheVariants.{OutOfMemory}
use Rattle.offline_commands.specs.Outside.{DiskTold, Held, OthersStay}
use Rattle.member_entry.specs.declared.entering.Entrant.{Entrant as EntrantRead}
use Rattle.member_entry.specs.Entering.{Entrant, MemberWords, ROUND_LEAVES, configuration_by}
use Rattle.member_entry.specs.Steps.{IsEntrant}
use Rattle.online_commands.specs.TakingPart.{Converses, Ends, HoldsTranscript, IsHeardOut, IsListOfAll, Settles, TellsEnd, TookPart}
use Rattle.online_commands.specs.Promise.{ComesOf, IsMemberAnswered}
use Rattle.online_commands.proofs.Listed.{has-key, is-listed}
use Rattle.online_commands.proofs.Raised.{is-raised, key-stood, names-beside}
use Rattle.online_commands.proofs.Settling.{ended-settled, open-waits, waits-if}
use Rattle.online_commands.proofs.Stepping.{HasAsked, entrance-ok, no-less, outside_of, rose-from}

-- ---- what it entered with

same-parts : (a b : Roster) (m n : ℕ) (x y : List ℕ) (round : ℕ) (fresh : List ℕ) (key : SecretParts) (first : ℕ) → a ≡ b → m ≡ n → x ≡ y
    → ◌≡◌ {A = Configuration} (record { roster = a; number = m; round = round; fresh = fresh; message = x; key = key; first = first })
    (record { roster = b; number = n; round = round; fresh = fresh; message = y; key = key; first = first })
same-parts a b m n x y round fresh key first r i t = cc

-- the code's configuration is the one that the words and the files give
pub same-configuration : (config : Config) (run : RunState) (e : EntrantRead) (entrant : Entrant) (round : ℕ) (fresh : List ℕ)
    → config ≡ record { roster = e.roster; number = e.number; round = round; fresh = fresh; message = e.message.items }
    → run ≡ record { parts = parts_in entrant.key; first = entrant.key.kept.next; left = ROUND_LEAVES } → IsEntrant e entrant
    → configuration_of config run ≡ configuration_by round fresh entrant
same-configuration config run e entrant round fresh is run_is of =
    let made : Config = record { roster = e.roster; number = e.number; round = round; fresh = fresh; message = e.message.items } in
    ap (λ (c : Config). configuration_of c run) is ∙ ap (λ (r : RunState). configuration_of made r) run_is
    ∙ same-parts (roster_of e.roster) entrant.roster e.number entrant.number e.message.items entrant.message round fresh
    (parts_in entrant.key) entrant.key.kept.next of.roster of.number of.message

-- ---- the posts

-- where the link did not fail, and memory sufficed, all posts that are due were made
makes-all : (files : Change (Option Held)) (name : List ℕ) (end : RunEnd) (o : Outcome) (answer : Result (List ℕ) Status)
    (made due : List (List ℕ)) → TellsEnd files name end o answer → MakesDue end made due → IsHeardOut answer → made ≡ due
makes-all files name Ended o answer made due tells makes heard = makes
makes-all files name RunWaiting o answer made due tells makes heard = makes
makes-all files name RunFlooded o answer made due tells makes heard = makes
makes-all files name RunLinkFault o answer made due tells makes heard = absurd (heard.0 tells.0)
makes-all files name RunOutOfMemory o answer made due tells makes heard = absurd (heard.1 tells.0)

-- and in any case the first of them
makes-first : (end : RunEnd) (made due : List (List ℕ)) → MakesDue end made due → BeginsWith due made
makes-first Ended made due makes = ([], sym makes ∙ sym (append-nil made))
makes-first RunWaiting made due makes = ([], sym makes ∙ sym (append-nil made))
makes-first RunFlooded made due makes = ([], sym makes ∙ sym (append-nil made))
makes-first RunLinkFault made due makes = makes
makes-first RunOutOfMemory made due makes = makes

abbrev Exchanges : Configuration → (frames : List (List ℕ)) → RunEnd → (handed : ℕ) → Traffic → Traffic → Type 0
Exchanges c frames end handed earlier later =
    (exchange : Exchange c [] handed frames earlier later) × MakesDue end (posts_in exchange.calls) (posts_due c frames handed)

told-all : (P Q : Traffic → Traffic → Type 0) (before mid now : Option Traffic) → mid ≡ before → ((t u : Traffic) → P t u → Q t u)
    → IfSome mid (λ t. IsSomeAnd now (P t)) → IfSome before (λ t. IsSomeAnd now (Q t))
told-all P Q before mid now same step is =
    by_parts before now (subst (λ (o : Option Traffic). IfSome o (λ t. IsSomeAnd now (P t))) same is)
  where
    by_parts : (before now : Option Traffic) → IfSome before (λ t. IsSomeAnd now (P t)) → IfSome before (λ t. IsSomeAnd now (Q t))
    by_parts None now told = tt
    by_parts (Some t) None told = absurd told
    by_parts (Some t) (Some u) told = step t u told

converses : (files : Change (Option Held)) (name : List ℕ) (end : RunEnd) (c : Configuration) (frames : List (List ℕ)) (handed : ℕ)
    (answer : Result (List ℕ) Status) (before mid now : Shown) → mid.traffic ≡ before.traffic → handed ≡ 0
    → TellsEnd files name end (result_of c frames) answer → IfTold mid now (Exchanges c frames end handed)
    → IfTold before now (Converses c frames (IsHeardOut answer))
converses files name end c frames handed answer before mid now same none tells told =
    told-all (Exchanges c frames end handed) (Converses c frames (IsHeardOut answer))
    before.traffic mid.traffic now.traffic same (λ t u is. of_exchange t u (subst (λ (n : ℕ). Exchanges c frames end n t u) none is)) told
  where
    of_exchange : (t u : Traffic) → Exchanges c frames end 0 t u → Converses c frames (IsHeardOut answer) t u
    of_exchange t u is = (
      is.0,
      makes-all files name end (result_of c frames) answer (posts_in is.0.calls) (posts_due c frames 0) tells is.1,
      makes-first end (posts_in is.0.calls) (posts_due c frames 0) is.1,
    )

-- ---- the end

holds-since : (files : Change (Option Held)) (mid : Option Held) (faults : ℕ) (name : List ℕ) (o : Outcome) → mid ≡ files.before
    → HoldsTranscript (record files { before = mid; faults_before = faults }) name o → HoldsTranscript files name o
holds-since files mid faults name (BlamedBy t) same holds =
    subst (λ (b : Option Held). IfSome b (λ _. IsSomeAnd files.now (λ held. held name ≡ Some (transcript_spelling t)))) same holds
holds-since files mid faults name (Waiting stage members) same holds = holds ∙ same
holds-since files mid faults name (DoneWith slots) same holds = holds ∙ same

settles-since : (files : Change (Option Held)) (mid : Option Held) (faults : ℕ) (name : List ℕ) (o : Outcome)
    (answer : Result (List ℕ) Status) → mid ≡ files.before → files.faults_before ≤ faults
    → Settles (record files { before = mid; faults_before = faults }) name o answer → Settles files name o answer
settles-since files mid faults name o answer same less (inl (is, holds)) = inl (is, holds-since files mid faults name o same holds)
settles-since files mid faults name o answer same less (inr (inl (is, blamed, failed))) =
    inr (inl (is, blamed, rose-from files.faults_before faults files.faults_now less failed))
settles-since files mid faults name o answer same less (inr (inr (memory, inl blamed))) = inr (inr (memory, inl blamed))
settles-since files mid faults name o answer same less (inr (inr (memory, inr kept))) = inr (inr (memory, inr (kept ∙ same)))

-- what the run ended with is told so
ends-so : (files : Change (Option Held)) (mid : Option Held) (faults : ℕ) (name : List ℕ) (before link now : Shown)
    (frames : List (List ℕ)) (h : Holdings) (end : RunEnd) (o : Outcome) (answer : Result (List ℕ) Status) → mid ≡ files.before
    → files.faults_before ≤ faults → link.ends ≡ before.ends → before.faults ≤ link.faults
    → EndsSo h (length frames) link now end → (end ≢ RunOutOfMemory → state_by h h.ending ≡ state_of o)
    → TellsEnd (record files { before = mid; faults_before = faults }) name end o answer → Ends files name before now frames o answer
ends-so files mid faults name before link now frames h Ended o answer same less ends count so state tells = inl (
  ended-settled (Rose before.ends now.ends × IsAllTaken now × (length frames < FRAME_LIMIT)) h h.ending o so (state (λ is. cc)),
  settles-since files mid faults name o answer same less tells,
)
ends-so files mid faults name before link now frames h RunWaiting o answer same less ends count so state tells = inl (
  waits-if (Rose before.ends now.ends × IsAllTaken now × (length frames < FRAME_LIMIT)) o
      (subst (λ (n : ℕ). Rose n now.ends) ends so.2, so.3, so.1),
  settles-since files mid faults name o answer same less tells,
)
ends-so files mid faults name before link now frames h RunFlooded o answer same less ends count so state tells =
    inr (inl (tells.0, open-waits h h.ending o so.0 (state (λ is. cc)), so.1, tells.1 ∙ same))
ends-so files mid faults name before link now frames h RunLinkFault o answer same less ends count so state tells =
    inr (inr (inl (tells.0, rose-from before.faults link.faults now.faults count so, tells.1 ∙ same)))
ends-so files mid faults name before link now frames h RunOutOfMemory o answer same less ends count so state tells =
    inr (inr (inr (tells.0, tells.1 ∙ same)))

-- ---- the promise

lists-all : (c : Configuration) (frames : List (List ℕ)) → IsListOfAll c frames (result_of c frames)
lists-all c frames = by_result (result_of c frames) refl
  where
    by_result : (o : Outcome) → result_of c frames ≡ o → IsListOfAll c frames o
    by_result (DoneWith slots) is = one-list c frames slots (sym (ap slots_shown is))
    by_result (Waiting stage members) is = tt
    by_result (BlamedBy t) is = tt

-- memory was wanting in the run only where the answer says so
not-memory : (files : Change (Option Held)) (name : List ℕ) (end : RunEnd) (o : Outcome) (answer : Result (List ℕ) Status)
    → TellsEnd files name end o answer → answer ≢ Err OutOfMemory → end ≢ RunOutOfMemory
not-memory files name end o answer tells apart is = apart (subst (λ (e : RunEnd). TellsEnd files name e o answer) is tells).0

unless-memory : {P : Type 0} (end : RunEnd) (Q : Type 0) → P ⊎ ((end ≡ RunOutOfMemory) × Q) → end ≢ RunOutOfMemory → P
unless-memory end Q (inl p) apart = p
unless-memory end Q (inr (is, q)) apart = absurd (apart is)

-- ---- all of it

-- what is known where the run of a member that has entered is over and told
pub record HasRun {A : Type 0} (replies_of : A → Replies) (files : Change (Option Held)) (mid_files : Option Held) (files_faults : ℕ)
    (words : MemberWords) (fresh : List ℕ) (link now : Shown) (e : EntrantRead) (run : RunState) (config : Config) (old new : Membership A)
    (end : RunEnd) (answer : Result (List ℕ) Status) : Type 0 where
  pub config_is : config ≡ record { roster = e.roster; number = e.number; round = words.round; fresh = fresh; message = e.message.items }
  pub starts : IsPlainMember replies_of (configuration_of config run) [] old
  pub handed : old.holds.handed ≡ 0
  pub ran : Ran replies_of old new link now end
  pub tells : (c : Configuration) (delivered : List (List ℕ)) → (end ≢ RunOutOfMemory → IsPlainMember replies_of c delivered new)
      → TellsEnd (record files { before = mid_files; faults_before = files_faults }) words.transcript end (result_of c delivered) answer
  pub others : OthersStay mid_files files.now words.transcript
  pub files_count : files_faults ≤ files.faults_now

-- ---- by another name of the round's number, and of the transcript's file

pub config-named : (e : EntrantRead) (fresh : List ℕ) (config : Config) (a b : ℕ) → a ≡ b
    → config ≡ record { roster = e.roster; number = e.number; round = a; fresh = fresh; message = e.message.items }
    → config ≡ record { roster = e.roster; number = e.number; round = b; fresh = fresh; message = e.message.items }
config-named e fresh config a b same is =
    subst (λ (round : ℕ). config ≡ record { roster = e.roster; number = e.number; round = round; fresh = fresh; message = e.message.items })
    same is

pub tells-named : {A : Type 0} (replies_of : A → Replies) (files : Change (Option Held)) (end : RunEnd) (new : Membership A)
    (answer : Result (List ℕ) Status) (a b : List ℕ) → a ≡ b
    → ((c : Configuration) (delivered : List (List ℕ)) → (end ≢ RunOutOfMemory → IsPlainMember replies_of c delivered new)
    → TellsEnd files a end (result_of c delivered) answer)
    → (c : Configuration) (delivered : List (List ℕ)) → (end ≢ RunOutOfMemory → IsPlainMember replies_of c delivered new)
    → TellsEnd files b end (result_of c delivered) answer
tells-named replies_of files end new answer a b same tells c delivered plain =
    subst (λ (name : List ℕ). TellsEnd files name end (result_of c delivered) answer) same (tells c delivered plain)

pub others-named : (told now : Option Held) (a b : List ℕ) → a ≡ b → OthersStay told now a → OthersStay told now b
others-named told now a b same others = subst (OthersStay told now) same others

-- ---- the answer

pub takes-part : {A : Type 0} (replies_of : A → Replies) (files : Change (Option Held)) (mid_files : Option Held) (files_faults : ℕ)
    (disk : Change DiskTold) (mid : DiskTold) (faults : ℕ) (words : MemberWords) (fresh : List ℕ) (before link now : Shown) (e : EntrantRead)
    (key : KeyState) (run : RunState) (config : Config) (old new : Membership A) (end : RunEnd) (answer : Result (List ℕ) Status)
    → HasAsked (record files { now = mid_files; faults_now = files_faults }) disk mid faults words before link e key (Ok run)
    → IsOfChosen mid.names mid.file → IsOfChosen disk.now.names disk.now.file
    → HasRun replies_of files mid_files files_faults words fresh link now e run config old new end answer
    → IsMemberAnswered (outside_of files disk before now) fresh (Some words) answer
takes-part {A} replies_of files mid_files files_faults disk mid faults words fresh before link now e key run config old new end answer h of now_of r =
    let entered = h.enters.answers in
    let entrant : Entrant = entered.0 in
    let begun = h.begins entrant.key entered.2.key in
    let c : Configuration = configuration_by words.round fresh entrant in
    let same = same-configuration config run e entrant words.round fresh r.config_is begun.answers.1 entered.2 in
    let starts : IsPlainMember replies_of c [] old = subst (λ (d : Configuration). IsPlainMember replies_of d [] old) same r.starts in
    let from = r.ran.plain c [] starts in
    let plain : end ≢ RunOutOfMemory → IsPlainMember replies_of c r.ran.frames new = unless-memory end _ from.member in
    let tells = r.tells c r.ran.frames plain in
    let key_is = has-key words.round fresh e.key.image entrant (is-listed words h.enters.found entrant entered.1) entered.2.key.says in
    let config_is = configured c starts.stands.stands.can_enter key_is in
    let heard = λ (apart : answer ≢ Err OutOfMemory). (let is = plain (not-memory (record files { before = mid_files; faults_before = files_faults })
    words.transcript end (result_of c r.ran.frames) answer tells apart) in is.stands.strings) in
    let took : TookPart words entrant c (outside_of files disk before now) answer = record {
      frames = r.ran.frames;
      config = config_is;
      bytes = heard;
      honest = λ apart. run_after_is_honest c r.ran.frames config_is (heard apart);
      stood = key-stood disk mid words.key h.enters.names entered.4 entered.3 of;
      raised = is-raised disk mid words.key entered.4 entered.3 h.beside of now_of words.round entrant begun.answers.2;
      counted = r.ran.counted ∙ ap (count_after (length r.ran.frames)) h.idle.1;
      at_most = r.ran.at_most;
      converses = converses (record files { before = mid_files; faults_before = files_faults }) words.transcript end c r.ran.frames
          old.holds.handed answer before link now h.idle.0 r.handed tells from.traffic;
      promise = λ apart. promised c r.ran.frames config_is (heard apart);
      one_list = λ apart. lists-all c r.ran.frames;
      ends = ends-so files mid_files files_faults words.transcript before link now r.ran.frames new.holds end (result_of c r.ran.frames) answer
          h.enters.files_kept h.enters.files_count h.idle.2 h.link_count r.ran.ends
          (λ apart. state-is replies_of c r.ran.frames new (plain apart)) tells;
    } in
    record {
      answers = (
        h.enters.found,
        record { roster = h.enters.roster; message = h.enters.message; key = h.enters.key },
        subst (λ (x : Result (Entrant × Configuration) Status).
            ComesOf (outside_of files disk before now) words h.enters.found x answer)
            (sym (entrance-ok words fresh h.enters.found entrant entered.1 begun.answers.0)) (inr (inr took)),
      );
      files_kept = subst (λ (o : Option Held). OthersStay o files.now words.transcript) h.enters.files_kept r.others;
      names_kept = names-beside disk.before.names mid.names disk.now.names words.key h.enters.names entered.3 h.beside;
      files_count = no-less files.faults_before files_faults files.faults_now h.enters.files_count r.files_count;
      disk_count = no-less disk.faults_before faults disk.faults_now h.enters.disk_count begun.count;
      link_count = no-less before.faults link.faults now.faults h.link_count r.ran.faults;
    }
